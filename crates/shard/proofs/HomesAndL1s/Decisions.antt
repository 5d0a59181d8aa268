-- What the home says of who has a line, and what the letters say.
use Rattle.std.proofs.Common.{◌≡◌, ◌≢◌, ℕ, ◌<◌, ◌&&◌, ◌||◌, Bool, true, false, List, [], ◌∷◌, length, refl, sym, ap, ◌∙◌, subst, arith, inl, inr}
use Rattle.std.specs.List.{list_any}
use Rattle.std.specs.Prelude.{nat_eq}
use Rattle.std.specs.Set.{is_member}
use Rattle.std.proofs.lemmas.Bool.{cases_Bool, cases_eq, cases_lt, eq-eqb, ne_eqb}
use Rattle.std.proofs.lemmas.List.{get_or_past, length-map}
use Rattle.cache_set.specs.declared.letter.Letter.{Letter}
use Rattle.cache_set.specs.declared.letter.Letter.TheVariants.{M, E, S, I}
use Rattle.shard.specs.Coherence.{Caches, is_alone, is_modified, is_valid, letter_at, some_core, some_other}
use Rattle.home.specs.HomeState.{row_of}
use Rattle.l1_cache.specs.L1State.{L1State, copy_at, letter_of, no_l1}
use Rattle.shard.specs.PartsLaws.{AreParts, IsOwn}
use Rattle.shard.specs.Seen.{caches_seen, sets_seen}
use Rattle.shard.specs.SharedStep.{Bank, is_modified_by, is_some_core, others_of, own_letter}
use Rattle.shard.proofs.HomesAndL1s.FitOf.{fit_of}
use Rattle.shard.proofs.HomesAndL1s.FoldAt.{not_own}
use Rattle.shard.proofs.HomesAndL1s.LettersSeen.{letter_seen}
use Rattle.shard.proofs.SomeCores.{some_core_false, some_core_true, some_other_all, some_other_false, some_other_none, some_other_true}
use Rattle.shard.proofs.HomesAndL1s.Untouched.{member_without}

-- ---- some cores
pub any_of : (t : ℕ → Bool) (cores : List ℕ) (k : ℕ) → is_member nat_eq cores k ≡ true → t k ≡ true → list_any t cores ≡ true
any_of t [] k h here = absurd cc
any_of t (c ∷ cores) k h here =
    elim (cases_eq k c) as (λ _. (t c || list_any t cores) ≡ true) [
      | inl e ↦ rw (sym (ap t e) ∙ here) refl
      | inr e ↦
          let rest : list_any t cores ≡ true = any_of t cores k (rw (ne_eqb k c e) at h) here in
          elim (t c) as (λ b. (b || list_any t cores) ≡ true) [ true ↦ refl | false ↦ rest ]
    ]

pub member_first : (k : ℕ) (cores : List ℕ) → is_member nat_eq (k ∷ cores) k ≡ true
member_first k cores = rw (eq-eqb k k refl) refl

pub member_rest : (c k : ℕ) (cores : List ℕ) → is_member nat_eq cores k ≡ true → is_member nat_eq (c ∷ cores) k ≡ true
member_rest c k cores h = elim (nat_eq k c) as (λ b. (b || is_member nat_eq cores k) ≡ true) [ true ↦ refl | false ↦ h ]

pub any_has : (t : ℕ → Bool) (cores : List ℕ) → list_any t cores ≡ true → (k : ℕ) × (is_member nat_eq cores k ≡ true) × (t k ≡ true)
any_has t [] h = absurd cc
any_has t (c ∷ cores) h =
    elim (cases_Bool (t c)) as (λ _. (k : ℕ) × (is_member nat_eq (c ∷ cores) k ≡ true) × (t k ≡ true)) [
      | inl so ↦ (c, member_first c cores, so)
      | inr not_so ↦
          let rest = any_has t cores (sym (ap (λ (b : Bool). b || list_any t cores) not_so) ∙ h) in
          (rest.0, member_rest c rest.0 cores rest.1, rest.2)
    ]

pub both_ways : (a b : Bool) → (a ≡ true → b ≡ true) → (a ≡ false → b ≡ false) → a ≡ b
both_ways true b f g = sym (f refl)
both_ways false b f g = sym (g refl)

pub contrary : (b : Bool) → b ≡ true → b ≡ false → ⊥
contrary b t f = cc

pub alone_valid : (x : Letter) → is_alone x ≡ true → is_valid x ≡ true
alone_valid M h = refl
alone_valid E h = refl
alone_valid S h = absurd cc
alone_valid I h = absurd cc

pub cores_seen : (p : Bank) → length (caches_seen p).l1 ≡ length p.l1s
unfolding caches_seen
cores_seen p = length-map p.l1s (sets_seen p.home)

-- ---- letters that a line has somewhere
module _ (p : Bank) (are : AreParts p) (line : ℕ) (own : IsOwn p line) where
  seen : (k : ℕ) → letter_at (caches_seen p) k line ≡ own_letter p k line
  seen k = letter_seen p (fit_of p are) k line own

  pub known : (k : ℕ) → is_valid (own_letter p k line) ≡ true → k < length p.l1s
  unfolding copy_at
  known k valid =
      elim (cases_lt k (length p.l1s)) as (λ _. k < length p.l1s) [
        | inl l ↦ l
        | inr past ↦
            let bad : is_valid (own_letter p k line) ≡ false = ap (λ (l1 : L1State). is_valid (letter_of (copy_at l1 line))) (get_or_past p.l1s k no_l1 past) in
            absurd (contrary (is_valid (own_letter p k line)) valid bad)
      ]

  module _ (test : Letter → Bool) (valid : (x : Letter) → test x ≡ true → is_valid x ≡ true) where
    -- cores of which each core is one that has the line
    pub named_all : (cores : List ℕ) → ((k : ℕ) → is_valid (own_letter p k line) ≡ true → is_member nat_eq cores k ≡ true)
        → list_any (λ k. test (own_letter p k line)) cores ≡ some_core test (caches_seen p) line
    named_all cores named =
        let t : ℕ → Bool = λ k. test (own_letter p k line) in
        both_ways (list_any t cores) (some_core test (caches_seen p) line)
        (λ so. let has = any_has t cores so in
        some_core_true test (caches_seen p) line has.0 (omega (arith, known has.0 (valid (own_letter p has.0 line) has.2), cores_seen p)) (ap test (seen has.0) ∙ has.2))
        (λ not_so. some_core_false test (caches_seen p) line (λ k.
        elim (cases_Bool (t k)) as (λ _. test (letter_at (caches_seen p) k line) ≡ false) [
          | inl so ↦ absurd (contrary (list_any t cores) (any_of t cores k (named k (valid (own_letter p k line) so)) so) not_so)
          | inr none ↦ ap test (seen k) ∙ none
        ]))

    -- the same but for one core
    pub named_others : (core : ℕ) (cores : List ℕ) → ((k : ℕ) → k ≢ core → is_valid (own_letter p k line) ≡ true → is_member nat_eq cores k ≡ true) → is_member nat_eq cores core ≡ false
        → list_any (λ k. test (own_letter p k line)) cores ≡ some_other test (caches_seen p) core line
    named_others core cores named apart =
        let t : ℕ → Bool = λ k. test (own_letter p k line) in
        both_ways (list_any t cores) (some_other test (caches_seen p) core line)
        (λ so. let has = any_has t cores so in
        some_other_true test (caches_seen p) line core has.0 (omega (arith, known has.0 (valid (own_letter p has.0 line) has.2), cores_seen p))
        (λ e. contrary (is_member nat_eq cores core) (subst (λ (j : ℕ). is_member nat_eq cores j ≡ true) e has.1) apart) (ap test (seen has.0) ∙ has.2))
        (λ not_so. some_other_false test (caches_seen p) line core (λ k k_apart.
        elim (cases_Bool (t k)) as (λ _. test (letter_at (caches_seen p) k line) ≡ false) [
          | inl so ↦ absurd (contrary (list_any t cores) (any_of t cores k (named k k_apart (valid (own_letter p k line) so)) so) not_so)
          | inr none ↦ ap test (seen k) ∙ none
        ]))

  -- ---- by the home
  pub sharer : (k : ℕ) → is_valid (own_letter p k line) ≡ true → is_member nat_eq (row_of p.home line).sharers k ≡ true
  sharer k valid = are.holds k line own ∙ valid

  pub other_sharer : (core k : ℕ) → k ≢ core → is_valid (own_letter p k line) ≡ true → is_member nat_eq (others_of core (row_of p.home line)) k ≡ true
  other_sharer core k apart valid = member_without core k (row_of p.home line).sharers (λ e. apart (sym e)) ∙ sharer k valid

  modified_valid : (x : Letter) → is_modified x ≡ true → is_valid x ≡ true
  modified_valid M h = refl
  modified_valid E h = absurd cc
  modified_valid S h = absurd cc
  modified_valid I h = absurd cc

  pub modified_seen : is_modified_by p line (row_of p.home line).sharers ≡ some_core is_modified (caches_seen p) line
  modified_seen = named_all is_modified modified_valid (row_of p.home line).sharers sharer

  pub others_modified : (core : ℕ) → is_modified_by p line (others_of core (row_of p.home line)) ≡ some_other is_modified (caches_seen p) core line
  others_modified core = named_others is_modified modified_valid core (others_of core (row_of p.home line)) (other_sharer core) (not_own core (row_of p.home line).sharers)

  some_is : (cores : List ℕ) → ((k : ℕ) → is_member nat_eq cores k ≡ true → is_valid (own_letter p k line) ≡ true) → is_some_core cores ≡ list_any (λ k. is_valid (own_letter p k line)) cores
  some_is [] h = refl
  some_is (c ∷ cores) h = sym (ap (λ (b : Bool). b || list_any (λ k. is_valid (own_letter p k line)) cores) (h c (member_first c cores)))

  other_valid : (core k : ℕ) → is_member nat_eq (others_of core (row_of p.home line)) k ≡ true → is_valid (own_letter p k line) ≡ true
  other_valid core k h =
      elim (cases_eq k core) as (λ _. is_valid (own_letter p k line) ≡ true) [
        | inl e ↦ absurd (contrary (is_member nat_eq (others_of core (row_of p.home line)) core) (subst (λ (j : ℕ). is_member nat_eq (others_of core (row_of p.home line)) j ≡ true) e h) (not_own core (row_of p.home line).sharers))
        | inr e ↦ sym (are.holds k line own) ∙ (sym (member_without core k (row_of p.home line).sharers (λ z. e (sym z))) ∙ h)
      ]

  pub has_seen : (core : ℕ) → is_some_core (others_of core (row_of p.home line)) ≡ some_other is_valid (caches_seen p) core line
  has_seen core =
      some_is (others_of core (row_of p.home line)) (other_valid core)
      ∙ named_others is_valid (λ x h. h) core (others_of core (row_of p.home line)) (other_sharer core) (not_own core (row_of p.home line).sharers)

  pub has_all : is_some_core (row_of p.home line).sharers ≡ some_core is_valid (caches_seen p) line
  has_all =
      some_is (row_of p.home line).sharers (λ k h. sym (are.holds k line own) ∙ h) ∙ named_all is_valid (λ x h. h) (row_of p.home line).sharers sharer

  -- ---- alone
  pub alone_seen : (core : ℕ) → ((row_of p.home line).alone && is_some_core (others_of core (row_of p.home line))) ≡ some_other is_alone (caches_seen p) core line
  alone_seen core =
      let c : Caches = caches_seen p in
      let has : Bool = some_other is_valid c core line in
      ap (λ (b : Bool). (row_of p.home line).alone && b) (has_seen core)
      ∙ elim (cases_Bool has) as (λ _. ((row_of p.home line).alone && has) ≡ some_other is_alone c core line) [
        | inl so ↦
            ap (λ (b : Bool). (row_of p.home line).alone && b) so
            ∙ (and_true (row_of p.home line).alone
            ∙ (are.alone line own ∙ sym (some_other_all is_alone c core line (own_shared so))))
        | inr not_so ↦
            ap (λ (b : Bool). (row_of p.home line).alone && b) not_so
            ∙ (and_false (row_of p.home line).alone
            ∙ sym (some_other_false is_alone c line core (λ k apart. ap is_alone (some_other_none c line core not_so k apart))))
      ] where
        and_true : (b : Bool) → (b && true) ≡ b
        and_true true = refl
        and_true false = refl

        and_false : (b : Bool) → (b && false) ≡ false
        and_false true = refl
        and_false false = refl

        none_other : (core : ℕ) → is_alone (letter_at (caches_seen p) core line) ≡ true → some_other is_valid (caches_seen p) core line ≡ false
        none_other core alone = some_other_false is_valid (caches_seen p) line core (λ k apart. ap is_valid (are.coherent.single core k line apart alone))

        own_shared : some_other is_valid (caches_seen p) core line ≡ true → is_alone (letter_at (caches_seen p) core line) ≡ false
        own_shared so =
            elim (cases_Bool (is_alone (letter_at (caches_seen p) core line))) as (λ _. is_alone (letter_at (caches_seen p) core line) ≡ false) [
              | inl alone ↦ absurd (contrary (some_other is_valid (caches_seen p) core line) so (none_other core alone))
              | inr none ↦ none
            ]
