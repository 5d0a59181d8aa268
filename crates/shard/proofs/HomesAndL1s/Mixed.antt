-- A bank that has the home of another and its L1s of some cores is that one with other L1s in place of the rest.
use Rattle.std.proofs.Common.{◌≡◌, ℕ, zero, suc, ◌<◌, Bool, true, false, cond, List, [], ◌∷◌, length, get_or, set, refl, sym, ap, ◌∙◌, subst, arith, inl, inr}
use Rattle.std.specs.Prelude.{nat_eq}
use Rattle.std.specs.Set.{is_member}
use Rattle.std.proofs.lemmas.Bool.{cases_Bool, cases_eq, cases_lt, eq-eqb, ne_eqb}
use Rattle.std.proofs.lemmas.List.{ext_get_or, get_or-set_other, get_or-set_same, length-set}
use Rattle.home.specs.HomeState.{HomeState}
use Rattle.l1_cache.specs.L1State.{L1State, no_l1}
use Rattle.shard.specs.SharedStep.{Bank, l1_of, with_l1}
use Rattle.shard.specs.Touched.{AreLike}
use Rattle.shard.proofs.HomesAndL1s.Decisions.{contrary, member_first}
use Rattle.shard.proofs.HomesAndL1s.Frame.{not_first}

-- ---- cores that are not among some

-- none of these is among the cores
abbrev pub AreApart : (cores us : List ℕ) → Type 0
AreApart cores [] = Unit {0}
AreApart cores (u ∷ us) = (is_member nat_eq cores u ≡ false) × AreApart cores us

pub apart_in : (cores us : List ℕ) → AreApart cores us → (c : ℕ) → is_member nat_eq cores c ≡ true → is_member nat_eq us c ≡ false
apart_in cores [] apart c h = refl
apart_in cores (u ∷ us) apart c h =
    rw (ne_eqb c u (λ k. contrary (is_member nat_eq cores c) h (ap (λ (x : ℕ). is_member nat_eq cores x) k ∙ apart.0))) (apart_in cores us apart.1 c h)

-- those below a number that are not
abbrev pub others_than : (cores : List ℕ) → (n : ℕ) → List ℕ
others_than cores zero = []
others_than cores (suc n) = cond (is_member nat_eq cores n) (others_than cores n) (n ∷ others_than cores n)

pub are_apart : (cores : List ℕ) (n : ℕ) → AreApart cores (others_than cores n)
are_apart cores zero = tt
are_apart cores (suc n) = by_first (are_apart cores n) (is_member nat_eq cores n) refl where
  by_first : AreApart cores (others_than cores n) → (b : Bool) → is_member nat_eq cores n ≡ b → AreApart cores (cond b (others_than cores n) (n ∷ others_than cores n))
  by_first before true e = before
  by_first before false e = (e, before)

pub among : (cores : List ℕ) (n c : ℕ) → c < n → is_member nat_eq cores c ≡ false → is_member nat_eq (others_than cores n) c ≡ true
among cores zero c l h = absurd (omega arith)
among cores (suc n) c l h = by_first (λ less. among cores n c less h) (is_member nat_eq cores n) refl where
  by_first : (c < n → is_member nat_eq (others_than cores n) c ≡ true) → (b : Bool) → is_member nat_eq cores n ≡ b → is_member nat_eq (cond b (others_than cores n) (n ∷ others_than cores n)) c ≡ true
  by_first before true e =
      elim (cases_lt c n) as (λ _. is_member nat_eq (others_than cores n) c ≡ true) [
        | inl less ↦ before less
        | inr past ↦
            let is : c ≡ n = omega arith in
            absurd (contrary (is_member nat_eq cores c) (ap (λ (x : ℕ). is_member nat_eq cores x) is ∙ e) h)
      ]
  by_first before false e =
      elim (cases_lt c n) as (λ _. is_member nat_eq (n ∷ others_than cores n) c ≡ true) [
        | inl less ↦ rw (ne_eqb c n (λ k. omega arith)) (before less)
        | inr past ↦ let is : c ≡ n = omega arith in rw (eq-eqb c n is) refl
      ]

-- ---- L1s of a list in place of some
module _ (from : List L1State) where
  abbrev pub mixed_l1s : (us : List ℕ) → List L1State → List L1State
  mixed_l1s [] l1s = l1s
  mixed_l1s (u ∷ us) l1s = set (mixed_l1s us l1s) u (get_or from u no_l1)

  abbrev pub mixed : (us : List ℕ) → Bank → Bank
  mixed us p = record p { l1s = mixed_l1s us p.l1s }

  abbrev pub taken : (u : ℕ) → L1State → L1State
  taken u l1 = get_or from u no_l1

  pub length_mixed : (us : List ℕ) (l1s : List L1State) → length (mixed_l1s us l1s) ≡ length l1s
  length_mixed [] l1s = refl
  length_mixed (u ∷ us) l1s = length-set (mixed_l1s us l1s) u (get_or from u no_l1) ∙ length_mixed us l1s

  pub get_kept : (us : List ℕ) (l1s : List L1State) (c : ℕ) → is_member nat_eq us c ≡ false → get_or (mixed_l1s us l1s) c no_l1 ≡ get_or l1s c no_l1
  get_kept [] l1s c h = refl
  get_kept (u ∷ us) l1s c h =
      let first = not_first u c us h in get_or-set_other (mixed_l1s us l1s) u c (get_or from u no_l1) no_l1 first.0 ∙ get_kept us l1s c first.1

  pub get_taken : (us : List ℕ) (l1s : List L1State) (c : ℕ) → is_member nat_eq us c ≡ true → c < length l1s → get_or (mixed_l1s us l1s) c no_l1 ≡ get_or from c no_l1
  get_taken [] l1s c h l = absurd cc
  get_taken (u ∷ us) l1s c h l =
      let within : c < length (mixed_l1s us l1s) = subst (λ (n : ℕ). c < n) (sym (length_mixed us l1s)) l in
      elim (cases_eq c u) as (λ _. get_or (set (mixed_l1s us l1s) u (get_or from u no_l1)) c no_l1 ≡ get_or from c no_l1) [
        | inl e ↦
            ap (λ (k : ℕ). get_or (set (mixed_l1s us l1s) u (get_or from u no_l1)) k no_l1) e
            ∙ (get_or-set_same (mixed_l1s us l1s) u (get_or from u no_l1) no_l1 (subst (λ (k : ℕ). k < length (mixed_l1s us l1s)) e within)
            ∙ ap (λ (k : ℕ). get_or from k no_l1) (sym e))
        | inr e ↦
            let rest : is_member nat_eq us c ≡ true = rw (ne_eqb c u e) at h in
            get_or-set_other (mixed_l1s us l1s) u c (get_or from u no_l1) no_l1 e ∙ get_taken us l1s c rest l
      ]

  -- what commutes with the change of one L1 commutes with that of all
  pub through_all : (cores : List ℕ) (f : Bank → Bank) (home : HomeState)
      → ((u : ℕ) (r : Bank) → r.home ≡ home → is_member nat_eq cores u ≡ false → f (with_l1 u (taken u) r) ≡ with_l1 u (taken u) (f r))
      → (us : List ℕ) → AreApart cores us → (p : Bank) → p.home ≡ home → f (mixed us p) ≡ mixed us (f p)
  through_all cores f home step [] apart p e = refl
  through_all cores f home step (u ∷ us) apart p e =
      step u (mixed us p) e apart.0 ∙ ap (with_l1 u (taken u)) (through_all cores f home step us apart.1 p e)

  pub own_kept : (core : ℕ) (cores us : List ℕ) → AreApart (core ∷ cores) us → (p : Bank) → l1_of (mixed us p) core ≡ l1_of p core
  own_kept core cores us apart p = get_kept us p.l1s core (apart_in (core ∷ cores) us apart core (member_first core cores))

-- ---- a bank like another
module _ (cores : List ℕ) (p q : Bank) (like : AreLike cores p q) where
  abbrev pub rest : List ℕ
  rest = others_than cores (length p.l1s)

  each_l1 : (c : ℕ) → c < length p.l1s → get_or q.l1s c no_l1 ≡ get_or (mixed_l1s q.l1s rest p.l1s) c no_l1
  each_l1 c l =
      elim (cases_Bool (is_member nat_eq cores c)) as (λ _. get_or q.l1s c no_l1 ≡ get_or (mixed_l1s q.l1s rest p.l1s) c no_l1) [
        | inl t ↦ like.same c t ∙ sym (get_kept q.l1s rest p.l1s c (apart_in cores rest (are_apart cores (length p.l1s)) c t))
        | inr t ↦ sym (get_taken q.l1s rest p.l1s c (among cores (length p.l1s) c l t) l)
      ]

  pub like_is : q ≡ mixed q.l1s rest p
  like_is =
      let lists : q.l1s ≡ mixed_l1s q.l1s rest p.l1s
      = ext_get_or no_l1 q.l1s (mixed_l1s q.l1s rest p.l1s) (like.count ∙ sym (length_mixed q.l1s rest p.l1s)) (λ c l. each_l1 c (subst (λ (n : ℕ). c < n) like.count l)) in
      let homes : q ≡ record p { l1s = q.l1s } = ap (λ (h : HomeState). record q { home = h }) like.home in
      homes ∙ ap (λ (l : List L1State). record p { l1s = l }) lists
