-- Caches are coherent after an access that settles the letters of its line.
use Rattle.std.proofs.Common.{◌≡◌, ◌≢◌, ℕ, ◌<◌, ◌≤◌, Bool, true, false, ◌&&◌, eqb, not, [], length, get_or, is_some, refl, sym, ◌∙◌, subst, arith, inl, inr, ◌⊎◌}
use Rattle.std.specs.List.{range_with_len}
use Rattle.std.proofs.lemmas.Bool.{cases_eq, cases_lt, ne_eqb}
use Rattle.std.proofs.lemmas.List.{get_or_past}
use Rattle.std.proofs.lemmas.List.Folds.{list_any_at}
use Rattle.std.proofs.lemmas.List.FromFn.{get_or-range_with_len, length-range_with_len}
use Rattle.cache_set.specs.declared.letter.Letter.{Letter}
use Rattle.cache_set.specs.declared.letter.Letter.TheVariants.{M, E, S, I}
use Rattle.shard.specs.Coherence.{Caches, dirty_at, fetch_holds, is_alone, is_valid, letter_at, some_other}
use Rattle.shard.specs.StandsFor.{AreCoherent, HaveSets}

-- What an access to a line leaves of coherent caches: the letters for the line agree, for other lines letters are as they
-- were, or lost, and the L2 has what the cores have.
pub record Settles (c d : Caches) (line : ℕ) : Type 0 where
  pub others : (a l : ℕ) → l ≢ line → (letter_at d a l ≡ letter_at c a l) ⊎ (letter_at d a l ≡ I)
  pub single : (a b : ℕ) → b ≢ a → is_alone (letter_at d a line) ≡ true → letter_at d b line ≡ I
  pub lines : (a l : ℕ) → l ≢ line → is_valid (letter_at d a l) ≡ true → is_some (dirty_at d l) ≡ true
  pub fetched : (a l : ℕ) → l ≢ line → fetch_holds d a l ≡ true → is_some (dirty_at d l) ≡ true
  pub there : is_some (dirty_at d line) ≡ true

-- letters for a line agree where one core's agrees with the others' and none of these is alone
pub single_by : (d : Caches) (core line : ℕ) → (is_alone (letter_at d core line) ≡ true → (a : ℕ) → a ≢ core → letter_at d a line ≡ I)
    → ((a : ℕ) → a ≢ core → is_alone (letter_at d a line) ≡ false) → (a b : ℕ) → b ≢ a → is_alone (letter_at d a line) ≡ true → letter_at d b line ≡ I
single_by d core line lone shared a b apart alone =
    elim (cases_eq a core) as (λ _. letter_at d b line ≡ I) [
      | inl e ↦ lone (subst (λ (x : ℕ). is_alone (letter_at d x line) ≡ true) e alone) b (λ k. apart (k ∙ sym e))
      | inr e ↦ let bad : true ≡ false = sym alone ∙ shared a e in absurd cc
    ]

lone_is_held : (x : Letter) → is_alone x ≡ true → is_valid x ≡ true
lone_is_held M h = refl
lone_is_held E h = refl
lone_is_held S h = absurd cc
lone_is_held I h = absurd cc

pub lost : (x : Letter) → x ≡ I → is_valid x ≡ true → ⊥
lost x e h = let bad : is_valid I ≡ true = rw e at h in absurd cc

pub lost_alone : (x : Letter) → x ≡ I → is_alone x ≡ false
lost_alone x e = rw e refl

module _ (c d : Caches) (line : ℕ) (h : AreCoherent c) (s : Settles c d line) where
  single_other : (a b l : ℕ) → b ≢ a → l ≢ line → is_alone (letter_at d a l) ≡ true → letter_at d b l ≡ I
  single_other a b l apart other alone =
      let before : letter_at c b l ≡ I
      = elim (s.others a l other) as (λ _. letter_at c b l ≡ I) [
        | inl same ↦ h.single a b l apart (subst (λ (x : Letter). is_alone x ≡ true) same alone)
        | inr gone ↦ absurd (lost (letter_at d a l) gone (lone_is_held (letter_at d a l) alone))
      ] in
      elim (s.others b l other) as (λ _. letter_at d b l ≡ I) [ inl same ↦ same ∙ before | inr gone ↦ gone ]

  pub settled : HaveSets d → AreCoherent d
  settled sets = record {
    sets = sets;
    single = λ a b l apart alone. elim (cases_eq l line) as (λ _. letter_at d b l ≡ I) [
      | inl e ↦ subst (λ (x : ℕ). letter_at d b x ≡ I) (sym e) (s.single a b apart (subst (λ (x : ℕ). is_alone (letter_at d a x) ≡ true) e alone))
      | inr e ↦ single_other a b l apart e alone
    ];
    inclusive = λ a l held. elim (cases_eq l line) as (λ _. is_some (dirty_at d l) ≡ true) [
      | inl e ↦ subst (λ (x : ℕ). is_some (dirty_at d x) ≡ true) (sym e) s.there
      | inr e ↦ s.lines a l e held
    ];
    l1i_inclusive = λ a l held. elim (cases_eq l line) as (λ _. is_some (dirty_at d l) ≡ true) [
      | inl e ↦ subst (λ (x : ℕ). is_some (dirty_at d x) ≡ true) (sym e) s.there
      | inr e ↦ s.fetched a l e held
    ];
  }

-- ---- whether another core has the line
pub held_or_lost : (x : Letter) → (is_valid x ≡ true) ⊎ (x ≡ I)
held_or_lost M = inl refl
held_or_lost E = inl refl
held_or_lost S = inl refl
held_or_lost I = inr refl

pub letter_past : (c : Caches) (core line : ℕ) → length c.l1 ≤ core → letter_at c core line ≡ I
unfolding letter_at
letter_past c core line past = rw (get_or_past c.l1 core [] past) refl

pub some_other_at : (test : Letter → Bool) (c : Caches) (core line a : ℕ) → a ≢ core → a < length c.l1 → test (letter_at c a line) ≡ true → some_other test c core line ≡ true
some_other_at test c core line a apart known h =
    let p : ℕ → Bool = λ other. not (eqb other core) && test (letter_at c other line) in
    let at : get_or (range_with_len 0 (length c.l1)) a 0 ≡ a = get_or-range_with_len 0 (length c.l1) a 0 known ∙ omega arith in
    let long : a < length (range_with_len 0 (length c.l1)) = omega (arith, length-range_with_len 0 (length c.l1)) in
    let passes : p a ≡ true = rw (ne_eqb a core apart, h) refl in
    list_any_at p (range_with_len 0 (length c.l1)) a 0 long (subst (λ (x : ℕ). p x ≡ true) (sym at) passes)

pub no_other : (c : Caches) (core line a : ℕ) → a ≢ core → some_other is_valid c core line ≡ false → letter_at c a line ≡ I
no_other c core line a apart none =
    elim (cases_lt a (length c.l1)) as (λ _. letter_at c a line ≡ I) [
      | inl known ↦ elim (held_or_lost (letter_at c a line)) as (λ _. letter_at c a line ≡ I) [
        | inl held ↦ let bad : true ≡ false = sym (some_other_at is_valid c core line a apart known held) ∙ none in absurd cc
        | inr e ↦ e
      ]
      | inr past ↦ letter_past c a line past
    ]
