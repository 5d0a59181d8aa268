-- A line is made ready for a read or a write: what is seen of it is what the table says.
use Rattle.std.proofs.Common.{◌≡◌, ℕ, ◌<◌, Bool, true, false, not, cond, length, Option, Some, None, is_some, refl, sym, ap, ◌∙◌, arith, inl, inr}
use Rattle.std.specs.Option.{unwrap_or}
use Rattle.std.specs.Prelude.{nat_eq}
use Rattle.std.specs.Set.{is_member}
use Rattle.std.proofs.lemmas.Bool.{cases_Bool}
use Rattle.cache_set.specs.declared.letter.Letter.{Letter}
use Rattle.cache_set.specs.declared.letter.Letter.TheVariants.{M, E, S, I}
use Rattle.shard.specs.Coherence.{Caches, filled_into_l1, is_alone, is_modified, is_valid, kept_first, letter_at, looked_up, marked_dirty, on_l2, on_others, on_own, other_after, others_changed, outcome_by, own_after, some_core, some_other}
use Rattle.home.specs.HomeState.{HomeLine, looked_up_in, marked_dirty_in, nobody, owned_in, row_at, row_of}
use Rattle.l1_cache.specs.L1State.{Copy, L1State, copy_at, letter_of}
use Rattle.shard.specs.PartsLaws.{AreParts, IsOwn}
use Rattle.shard.specs.Seen.{caches_seen, sets_seen}
use Rattle.shard.specs.SharedStep.{Bank, brought_home, brought_to_own, copy_of, dirty_by, given_up_by, is_modified_by, is_some_core, kept_with, left_by_others, others_of, own_letter, ready_by, ready_from_home, ready_from_l2, ready_where_shared, shared_by, shared_by_others, with_home}
use Rattle.std.proofs.lemmas.List.{length-map}
use Rattle.shard.proofs.HomesAndL1s.Banks.{IsBankOf, brought_home_bank, core_in, left_bank, own_in, shared_others_bank}
use Rattle.shard.proofs.HomesAndL1s.BroughtSeen.{brought_seen, kept_seen}
use Rattle.shard.proofs.HomesAndL1s.CanGive.{modified_alone}
use Rattle.shard.proofs.HomesAndL1s.Decisions.{alone_valid, contrary, has_all, has_seen, known, modified_seen, others_modified}
use Rattle.shard.proofs.HomesAndL1s.EvictedSeen.{home_seen}
use Rattle.shard.proofs.HomesAndL1s.Fit.{AreFit}
use Rattle.shard.proofs.HomesAndL1s.FitOf.{fit_of}
use Rattle.shard.proofs.HomesAndL1s.LeftSeen.{left_core, left_seen}
use Rattle.shard.proofs.HomesAndL1s.LettersSeen.{letter_seen}
use Rattle.shard.proofs.HomesAndL1s.ListsSeen.{granted_seen, looked_up_seen, marked_dirty_seen, owned_seen}
use Rattle.shard.proofs.HomesAndL1s.SharedSeen.{nobody_shares, sharing_seen}
use Rattle.shard.proofs.SomeCores.{some_core_true, some_other_all, some_other_false}

-- a letter of a line that is there
pub copy_from : (o : Option Copy) → is_valid (letter_of o) ≡ true → (copy : Copy) × (o ≡ Some copy)
copy_from None h = absurd cc
copy_from (Some copy) h = (copy, refl)

module _ (p : Bank) (are : AreParts p) (core line : ℕ) (within : core < length p.l1s) (own : IsOwn p line) where
  abbrev pub c : Caches
  c = caches_seen p

  abbrev pub row : HomeLine
  row = row_of p.home line

  abbrev pub q : Bank
  q = with_home (looked_up_in line) p

  abbrev pub d : Caches
  d = looked_up line c

  fit : AreFit p
  fit = fit_of p are

  pub seen : (k : ℕ) → letter_at c k line ≡ own_letter p k line
  seen k = letter_seen p fit k line own

  looked_other : some_other is_modified d core line ≡ some_other is_modified c core line
  unfolding looked_up letter_at
  looked_other = refl

  -- ---- the other cores give it up
  left_all : (b : Bool) → caches_seen (given_up_by line (others_of core row) (cond b (with_home (marked_dirty_in line) q) q)) ≡ others_changed (other_after true) core line (cond b (marked_dirty line d) d)
  unfolding looked_up_in marked_dirty_in
  left_all true =
      left_seen p are core line own (marked_dirty_in line (looked_up_in line p.home)) refl refl
      ∙ ap (others_changed (other_after true) core line) (marked_dirty_seen line q ∙ ap (marked_dirty line) (looked_up_seen line p))
  left_all false = left_seen p are core line own (looked_up_in line p.home) refl refl ∙ ap (others_changed (other_after true) core line) (looked_up_seen line p)

  pub left_by : caches_seen (left_by_others core line row q) ≡ others_changed (other_after true) core line (cond (some_other is_modified c core line) (marked_dirty line d) d)
  unfolding left_by_others
  left_by =
      left_all (is_modified_by q line (others_of core row))
      ∙ ap (λ (b : Bool). others_changed (other_after true) core line (cond b (marked_dirty line d) d)) (others_modified p are line own core)

  -- ---- the core that has it alone shares it
  module _ (absent : own_letter p core line ≡ I) where
    not_member : is_member nat_eq row.sharers core ≡ false
    not_member = are.holds core line own ∙ ap is_valid absent

    shared_all : (b : Bool) → caches_seen (shared_by line row.sharers (cond b (with_home (marked_dirty_in line) q) q)) ≡ others_changed (other_after false) core line (cond b (marked_dirty line d) d)
    unfolding looked_up_in marked_dirty_in
    shared_all true =
        sharing_seen p are core line own (marked_dirty_in line (looked_up_in line p.home)) refl refl not_member
        ∙ ap (others_changed (other_after false) core line) (marked_dirty_seen line q ∙ ap (marked_dirty line) (looked_up_seen line p))
    shared_all false =
        sharing_seen p are core line own (looked_up_in line p.home) refl refl not_member ∙ ap (others_changed (other_after false) core line) (looked_up_seen line p)

    all_others : (test : Letter → Bool) → test I ≡ false → some_other test c core line ≡ some_core test c line
    all_others test none = some_other_all test c core line (ap test (seen core ∙ absent) ∙ none)

    no_one_alone : row.alone ≡ false → (k : ℕ) (copy : Copy) → copy_of p k line ≡ Some copy → is_alone copy.letter ≡ false
    unfolding caches_seen
    no_one_alone none k copy e =
        elim (cases_Bool (is_alone copy.letter)) as (λ _. is_alone copy.letter ≡ false) [
          | inl alone ↦
              let letter : own_letter p k line ≡ copy.letter = ap letter_of e in
              let valid : is_valid (own_letter p k line) ≡ true = ap is_valid letter ∙ alone_valid copy.letter alone in
              absurd (contrary (some_core is_alone (caches_seen p) line)
              (some_core_true is_alone (caches_seen p) line k (longer k (known p are line own k valid)) (ap is_alone (seen k ∙ letter) ∙ alone)) (sym (are.alone line own) ∙ none))
          | inr shared ↦ shared
        ] where
          longer : (k : ℕ) → k < length p.l1s → k < length (caches_seen p).l1
          longer k l = omega (arith, length-map p.l1s (sets_seen p.home))

    no_other_modified : row.alone ≡ false → some_other is_modified c core line ≡ false
    no_other_modified none =
        some_other_false is_modified c line core (λ k apart. elim (cases_Bool (is_modified (letter_at c k line))) as (λ _. is_modified (letter_at c k line) ≡ false) [
          | inl so ↦
              let own_is : is_modified (own_letter p k line) ≡ true = ap is_modified (sym (seen k)) ∙ so in
              let copy = copy_from (copy_of p k line) (modified_valid (own_letter p k line) own_is) in
              absurd (contrary (is_alone copy.0.letter) (modified_alone copy.0.letter (sym (ap (λ (o : Option Copy). is_modified (letter_of o)) copy.1) ∙ own_is)) (no_one_alone none k copy.0 copy.1))
          | inr not_so ↦ not_so
        ]) where
          modified_valid : (x : Letter) → is_modified x ≡ true → is_valid x ≡ true
          modified_valid M h = refl
          modified_valid E h = absurd cc
          modified_valid S h = absurd cc
          modified_valid I h = absurd cc

    shared_where : (b : Bool) → row.alone ≡ b
        → caches_seen (cond b (shared_by line row.sharers (dirty_by line row.sharers q)) q) ≡ others_changed (other_after false) core line (cond (some_other is_modified c core line) (marked_dirty line d) d)
    unfolding looked_up_in
    shared_where true e =
        shared_all (is_modified_by q line row.sharers)
        ∙ ap (λ (b : Bool). others_changed (other_after false) core line (cond b (marked_dirty line d) d)) (modified_seen p are line own ∙ sym (all_others is_modified refl))
    shared_where false e =
        sym (nobody_shares p are core line own (looked_up_in line p.home) refl refl (no_one_alone e))
        ∙ (ap (others_changed (other_after false) core line) (looked_up_seen line p)
        ∙ sym (ap (λ (b : Bool). others_changed (other_after false) core line (cond b (marked_dirty line d) d)) (no_other_modified e)))

    pub shared_by_seen : caches_seen (shared_by_others line row q) ≡ others_changed (other_after false) core line (cond (some_other is_modified c core line) (marked_dirty line d) d)
    unfolding shared_by_others
    shared_by_seen = shared_where row.alone refl

    pub has_is : is_some_core row.sharers ≡ some_other is_valid c core line
    has_is = has_all p are line own ∙ sym (all_others is_valid refl)

  -- ---- by the table
  abbrev pub then : (letter : Letter) (write in_l2 alone dirty : Bool) → Caches
  then letter write in_l2 alone dirty =
      let has = some_other is_valid c core line in
      let outcome = outcome_by write letter in_l2 alone has dirty in
      on_own letter core line (own_after write letter has) (on_others outcome write core line (on_l2 outcome line c))

  kept : (letter : Letter) → is_valid (own_letter p core line) ≡ true → caches_seen (kept_with letter core line p) ≡ kept_first core line letter c
  kept letter valid =
      let copy = copy_from (copy_of p core line) valid in
      kept_seen letter core line p fit within own copy.0 copy.1

  -- where the core shares the line, no other has it modified
  not_modified : own_letter p core line ≡ S → some_other is_modified c core line ≡ false
  not_modified is =
      some_other_false is_modified c line core (λ k apart. elim (cases_Bool (is_modified (letter_at c k line))) as (λ _. is_modified (letter_at c k line) ≡ false) [
        | inl so ↦
            let gone : letter_at c core line ≡ I = are.coherent.single k core line (λ e. apart (sym e)) (modified_alone (letter_at c k line) so) in
            let bad : S ≡ I = sym is ∙ (sym (seen core) ∙ gone) in
            absurd cc
        | inr not_so ↦ not_so
      ])

  upgraded : own_letter p core line ≡ S → caches_seen (ready_where_shared true core line p) ≡ kept_first core line M (others_changed (other_after true) core line d)
  unfolding left_by_others
  upgraded is =
      let l : Bank = left_by_others core line row q in
      let bank : IsBankOf p l = left_bank p fit core line row in
      let copy = copy_from (copy_of l core line) (still_valid is) in
      owned_seen line core (kept_with M core line l)
      ∙ (kept_seen M core line l bank.fit (core_in p l bank core within) (own_in p l bank line own) copy.0 copy.1
      ∙ ap (kept_first core line M) (left_by ∙ ap (λ (b : Bool). others_changed (other_after true) core line (cond b (marked_dirty line d) d)) (not_modified is))) where
        dirty_l1s : (b : Bool) → (cond b (with_home (marked_dirty_in line) q) q).l1s ≡ p.l1s
        dirty_l1s true = refl
        dirty_l1s false = refl

        still_valid : own_letter p core line ≡ S → is_valid (own_letter (left_by_others core line row q) core line) ≡ true
        still_valid is = ap (λ (l1 : L1State). is_valid (letter_of (copy_at l1 line))) (left_core p are core line own (dirty_by line (others_of core row) q) (dirty_l1s (is_modified_by q line (others_of core row)))) ∙ ap is_valid is

  from_l2 : (write alone dirty : Bool) → own_letter p core line ≡ I → caches_seen (ready_from_l2 write core line row p) ≡ then I write true alone dirty
  from_l2 true alone dirty is =
      let l : Bank = left_by_others core line row q in
      let bank : IsBankOf p l = left_bank p fit core line row in
      owned_seen line core (brought_to_own M core line l)
      ∙ (brought_seen M core line l bank.fit (core_in p l bank core within) (own_in p l bank line own)
      ∙ ap (filled_into_l1 core line M) (left_by ∙ ap (λ (b : Bool). others_changed (other_after true) core line (cond b (marked_dirty line d) d)) (sym looked_other)))
  from_l2 false alone dirty is =
      let l : Bank = shared_by_others line row q in
      let bank : IsBankOf p l = shared_others_bank p fit line row in
      let letter : Letter = own_after false I (is_some_core row.sharers) in
      granted_seen line core (not (is_some_core row.sharers)) (brought_to_own letter core line l)
      ∙ (brought_seen letter core line l bank.fit (core_in p l bank core within) (own_in p l bank line own)
      ∙ (ap (filled_into_l1 core line letter) (shared_by_seen is ∙ ap (λ (b : Bool). others_changed (other_after false) core line (cond b (marked_dirty line d) d)) (sym looked_other))
      ∙ ap (λ (has : Bool). filled_into_l1 core line (own_after false I has) (others_changed (other_after false) core line (cond (some_other is_modified d core line) (marked_dirty line d) d))) (has_is is)))

  nobody_has : row_at p.home line ≡ None → some_other is_valid c core line ≡ false
  nobody_has none = sym (has_seen p are line own core) ∙ ap (λ (o : Option HomeLine). is_some_core (others_of core (unwrap_or o nobody))) none

  brought : (letter : Letter) → caches_seen (with_home (owned_in line core) (brought_to_own letter core line (brought_home line p))) ≡ filled_into_l1 core line letter (caches_seen (brought_home line p))
  brought letter =
      let h : Bank = brought_home line p in
      let bank : IsBankOf p h = brought_home_bank p fit line in
      owned_seen line core (brought_to_own letter core line h) ∙ brought_seen letter core line h bank.fit (core_in p h bank core within) (own_in p h bank line own)

  from_home : (write alone dirty : Bool) (o : Option HomeLine) → row_at p.home line ≡ o → own_letter p core line ≡ I → caches_seen (ready_from_home write core line o p) ≡ then I write (is_some o) alone dirty
  from_home true alone dirty None e is = brought M ∙ ap (filled_into_l1 core line M) (home_seen p are line)
  from_home false alone dirty None e is =
      brought E
      ∙ (ap (filled_into_l1 core line E) (home_seen p are line)
      ∙ sym (ap (λ (has : Bool). filled_into_l1 core line (own_after false I has) (on_l2 (outcome_by false I false alone false dirty) line c)) (nobody_has e)))
  from_home write alone dirty (Some r) e is =
      ap (λ (x : HomeLine). caches_seen (ready_from_l2 write core line x p)) (sym (ap (λ (o : Option HomeLine). unwrap_or o nobody) e)) ∙ from_l2 write alone dirty is

  pub ready_seen : (letter : Letter) → own_letter p core line ≡ letter → (write alone dirty : Bool) → caches_seen (ready_by letter write core line p) ≡ then letter write (is_some (row_at p.home line)) alone dirty
  ready_seen M is true alone dirty = kept M (ap is_valid is)
  ready_seen M is false alone dirty = kept M (ap is_valid is)
  ready_seen E is true alone dirty = kept M (ap is_valid is)
  ready_seen E is false alone dirty = kept E (ap is_valid is)
  ready_seen S is true alone dirty = upgraded is
  ready_seen S is false alone dirty = kept S (ap is_valid is)
  ready_seen I is write alone dirty = from_home write alone dirty (row_at p.home line) refl is
