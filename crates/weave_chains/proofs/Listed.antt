-- Accesses that are listed core by core, in one list.
use Rattle.std.proofs.Common.{◌≡◌, ◌+◌, ◌<◌, ◌≤◌, ℕ, zero, suc, List, [], ◌∷◌, ◌++◌, length, take, Some, ◌⊎◌, inl, inr, sym, ◌∙◌, ap, subst, refl, arith}
use Rattle.std.specs.List.{slice_get}
use Rattle.std.proofs.lemmas.Bool.{cases_lt}
use Rattle.std.proofs.lemmas.List.{length-append}
use Rattle.std.proofs.lemmas.Option.{slice_get_within}
use Rattle.zs_num.specs.declared.entry.Entry.{Entry}
use Rattle.event_graph.specs.declared.piece.Piece.{Piece}
use Rattle.weave_chains.specs.Beginning.{IsFresh}
use Rattle.weave_chains.specs.Chains.{AreGrouped}
use Rattle.weave_chains.specs.Listed.{AreOwn, list_of, number_before, one_after_other}
use Rattle.weave_chains.specs.Rounds.{AreChained, AreInChains}
use Rattle.weave_chains.specs.States.{IsFreshChain, state_of}
use Rattle.weave_chains.specs.declared.chain.Chain.{Chain}

joined_left : {X : Type 0} (xs ys : List X) (i : ℕ) (x : X) → slice_get xs i ≡ Some x → slice_get (xs ++ ys) i ≡ Some x
joined_left [] ys i x at = absurd (cc)
joined_left (y ∷ xs) ys zero x at = at
joined_left (y ∷ xs) ys (suc i) x at = joined_left xs ys i x at

joined_right : {X : Type 0} (xs ys : List X) (i : ℕ) → slice_get (xs ++ ys) (length xs + i) ≡ slice_get ys i
joined_right [] ys i = ap (slice_get ys) (let e : 0 + i ≡ i = omega arith in e)
joined_right (x ∷ xs) ys i = ap (slice_get (x ∷ xs ++ ys)) (let e : suc (length xs) + i ≡ suc (length xs + i) = omega arith in e) ∙ joined_right xs ys i

pub joined : {X : Type 0} (xs ys : List X) (i : ℕ) (x : X) → slice_get (xs ++ ys) i ≡ Some x → (slice_get xs i ≡ Some x) ⊎ ((j : ℕ) × (i ≡ length xs + j) × (slice_get ys j ≡ Some x))
joined [] ys i x at = inr (i, omega arith, at)
joined (y ∷ xs) ys zero x at = inl at
joined (y ∷ xs) ys (suc i) x at = elim (joined xs ys i x at) [ inl old ↦ inl old | inr new ↦ inr (new.0, omega (arith, new.1), new.2) ]

before_next : (list : List Entry) (lists : List (List Entry)) (core : ℕ) → number_before (list ∷ lists) (suc core) ≡ length list + number_before lists core
before_next list lists core = length-append list (one_after_other (take core lists))

-- where an access of a core stands among all
pub in_all : (lists : List (List Entry)) (core i : ℕ) (e : Entry) → slice_get (list_of lists core) i ≡ Some e → slice_get (one_after_other lists) (number_before lists core + i) ≡ Some e
in_all [] core i e at = absurd (cc)
in_all (list ∷ lists) zero i e at = joined_left list (one_after_other lists) (0 + i) e (ap (slice_get list) (let z : 0 + i ≡ i = omega arith in z) ∙ at)
in_all (list ∷ lists) (suc core) i e at =
    let place : number_before (list ∷ lists) (suc core) + i ≡ length list + (number_before lists core + i) = omega (arith, before_next list lists core) in
    ap (slice_get (list ++ one_after_other lists)) place
    ∙ (joined_right list (one_after_other lists) (number_before lists core + i) ∙ in_all lists core i e at)

-- whose it is
pub record IsOfList (lists : List (List Entry)) (i : ℕ) (e : Entry) : Type 0 where
  pub core : ℕ
  pub place : ℕ
  pub at : i ≡ number_before lists core + place
  pub there : slice_get (list_of lists core) place ≡ Some e

pub from_all : (lists : List (List Entry)) (i : ℕ) (e : Entry) → slice_get (one_after_other lists) i ≡ Some e → IsOfList lists i e
from_all [] i e at = absurd (cc)
from_all (list ∷ lists) i e at =
    elim (joined list (one_after_other lists) i e at) [
      | inl here ↦ record { core = 0; place = i; at = omega arith; there = here }
      | inr later ↦
          let of : IsOfList lists later.0 e = from_all lists later.0 e later.2 in
          record { core = suc of.core; place = of.place; at = omega (arith, later.1, of.at, before_next list lists of.core); there = of.there }
    ]

-- those of a core end before those of the next ones begin
pub ends_before : (lists : List (List Entry)) (core other : ℕ) → core < other → number_before lists core + length (list_of lists core) ≤ number_before lists other
ends_before [] core other less = omega (arith, let e : number_before [] core ≡ 0 = none core in e)
  where
    none : (n : ℕ) → length (one_after_other (take n [])) ≡ 0
    none zero = refl
    none (suc n) = refl
ends_before (list ∷ lists) zero (suc other) less = omega (arith, before_next list lists other)
ends_before (list ∷ lists) (suc core) (suc other) less = omega (arith, before_next list lists core, before_next list lists other, ends_before lists core other (omega (arith, less)))
ends_before lists core zero less = absurd (omega (arith, less))

-- and where all end
pub ends_within : (lists : List (List Entry)) (core : ℕ) → core < length lists → number_before lists core + length (list_of lists core) ≤ length (one_after_other lists)
ends_within [] core less = absurd (omega (arith, less))
ends_within (list ∷ lists) zero less = omega (arith, length-append list (one_after_other lists))
ends_within (list ∷ lists) (suc core) less = omega (arith, before_next list lists core, length-append list (one_after_other lists), ends_within lists core (omega (arith, less)))

core_within : (lists : List (List Entry)) (core i : ℕ) (e : Entry) → slice_get (list_of lists core) i ≡ Some e → core < length lists
core_within [] core i e at = absurd (cc)
core_within (list ∷ lists) zero i e at = omega arith
core_within (list ∷ lists) (suc core) i e at = omega (arith, core_within lists core i e at)

module _ (lists : List (List Entry)) (own : AreOwn lists) where
  of_core : (i : ℕ) (e : Entry) → slice_get (one_after_other lists) i ≡ Some e → (of : IsOfList lists i e) × (e.core ≡ of.core)
  of_core i e at = let of : IsOfList lists i e = from_all lists i e at in (of, own of.core of.place e of.there)

  pub grouped : AreGrouped (one_after_other lists)
  grouped i j d e less di ej =
      let a = of_core i d di in
      let b = of_core j e ej in
      elim (cases_lt e.core d.core) [
        | inl back ↦
            absurd (omega (
              arith,
              less,
              a.0.at,
              b.0.at,
              slice_get_within (list_of lists b.0.core) b.0.place e b.0.there,
              ends_before lists b.0.core a.0.core (omega (arith, back, a.1, b.1)),
            ))
        | inr not ↦ not
      ]

  pub known : (i : ℕ) (e : Entry) → slice_get (one_after_other lists) i ≡ Some e → e.core < length lists
  known i e at = let a = of_core i e at in omega (arith, a.1, core_within lists a.0.core a.0.place e a.0.there)

  -- the accesses of a core are those between
  own_between : (core i : ℕ) (e : Entry) → slice_get (one_after_other lists) i ≡ Some e → number_before lists core ≤ i → i < number_before lists core + length (list_of lists core) → e.core ≡ core
  own_between core i e at low high =
      let a = of_core i e at in
      let within = slice_get_within (list_of lists a.0.core) a.0.place e a.0.there in
      elim (cases_lt a.0.core core) [
        | inl early ↦ absurd (omega (arith, a.0.at, within, low, ends_before lists a.0.core core early))
        | inr not ↦ elim (cases_lt core a.0.core) [
          | inl late ↦ absurd (omega (arith, a.0.at, high, ends_before lists core a.0.core late))
          | inr below ↦ omega (arith, a.1, not, below)
        ]
      ]

  all_between : (core i : ℕ) (e : Entry) → slice_get (one_after_other lists) i ≡ Some e → e.core ≡ core → (number_before lists core ≤ i) × (i < number_before lists core + length (list_of lists core))
  all_between core i e at of =
      let a = of_core i e at in
      let same : a.0.core ≡ core = sym a.1 ∙ of in
      let place : i ≡ number_before lists core + a.0.place = subst (λ n. i ≡ number_before lists n + a.0.place) same a.0.at in
      let there : slice_get (list_of lists core) a.0.place ≡ Some e = subst (λ n. slice_get (list_of lists n) a.0.place ≡ Some e) same a.0.there in
      (omega (arith, place), omega (arith, place, slice_get_within (list_of lists core) a.0.place e there))

  pub fresh : (core : ℕ) → core < length lists → (c : Chain) → IsFreshChain (length (list_of lists core)) c → IsFresh (one_after_other lists) core (state_of (number_before lists core) c)
  fresh core less c is = record {
    from = omega (arith, is.access);
    within = omega (arith, is.end, ends_within lists core less);
    own = λ i e at low high. own_between core i e at (omega (arith, low)) (omega (arith, high, is.end));
    all = λ i e at of. let b = all_between core i e at of in (omega (arith, b.0, is.access), omega (arith, b.1, is.end));
    place = is.place;
    sized = is.sized;
    last = is.last;
  }

-- all that is known of the lists holds of the one
pub in_chains : (pieces : Entry → List Piece) (lists : List (List Entry)) → AreChained pieces lists → AreInChains pieces (one_after_other lists) (length lists)
in_chains pieces lists chained = record {
  grouped = grouped lists chained.own;
  known = known lists chained.own;
  some = chained.some;
  few = chained.few;
  early = chained.early;
  row = chained.row;
}
