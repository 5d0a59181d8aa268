-- A line is made ready, whatever the core and the L2 have of it.
use Rattle.std.proofs.Common.{◌≡◌, ℕ, ◌<◌, ◌≤◌, Bool, true, false, not, length, Option, Some, None, refl, sym, ap, ◌∙◌, subst, arith}
use Rattle.std.specs.Prelude.{nat_eq}
use Rattle.std.specs.Set.{is_member}
use Rattle.cache_set.specs.declared.letter.Letter.{Letter}
use Rattle.cache_set.specs.declared.letter.Letter.TheVariants.{M, E, S, I}
use Rattle.shard.specs.Coherence.{is_alone, is_modified, is_valid, own_after}
use Rattle.home.specs.HomeState.{HomeLine, looked_up_in, nobody, owned_in, row_at, row_of}
use Rattle.l1_cache.specs.L1State.{letter_of}
use Rattle.shard.specs.PartsLaws.{AreParts, IsInMemory, IsOwn}
use Rattle.shard.specs.SharedStep.{Bank, brought_home, copy_of, is_some_core, kept_with, left_by_others, own_letter, ready_by, ready_from_home, ready_from_l2, ready_where_shared, shared_by_others, with_home}
use Rattle.shard.proofs.HomesAndL1s.Banks.{core_in, own_in}
use Rattle.shard.proofs.HomesAndL1s.Begun.{Begun, looked_begins}
use Rattle.shard.proofs.HomesAndL1s.BroughtHome.{brought_begins}
use Rattle.shard.proofs.HomesAndL1s.Decisions.{known}
use Rattle.shard.proofs.L2Laws.{L2Laws}
use Rattle.shard.proofs.HomesAndL1s.LeftDone.{left_done}
use Rattle.shard.proofs.HomesAndL1s.LineFits.{memory_in}
use Rattle.shard.proofs.HomesAndL1s.OthersDone.{OthersDone, nobody_done}
use Rattle.shard.proofs.HomesAndL1s.ReadyParts.{IsSound, Prepared, came_granted, came_owned, kept_prepared, prepared_then, some_of, upgraded_prepared}
use Rattle.shard.proofs.HomesAndL1s.ReadySeen.{copy_from}
use Rattle.shard.proofs.HomesAndL1s.RecalledSeen.{absent}
use Rattle.shard.proofs.HomesAndL1s.Rows.{as_row}
use Rattle.shard.proofs.HomesAndL1s.SharedDone.{shared_done}

alone_owned : (write : Bool) → is_alone (own_after write I false) ≡ true
alone_owned true = refl
alone_owned false = refl

valid_owned : (write : Bool) → is_valid (own_after write I false) ≡ true
valid_owned true = refl
valid_owned false = refl

written_owned : (write : Bool) → write ≡ true → is_modified (own_after write I false) ≡ true
written_owned true e = refl
written_owned false e = absurd cc

valid_granted : (has : Bool) → is_valid (own_after false I has) ≡ true
valid_granted true = refl
valid_granted false = refl

alone_granted : (has : Bool) → not has ≡ is_alone (own_after false I has)
alone_granted true = refl
alone_granted false = refl

module _ (laws : L2Laws) (p : Bank) (are : AreParts p) (core line : ℕ) (within : core < length p.l1s) (own : IsOwn p line) (inside : IsInMemory p.home line) where
  -- ---- the core has it
  kept : (letter letter_now : Letter) → own_letter p core line ≡ letter → is_valid letter ≡ true → is_valid letter_now ≡ true → is_alone letter ≡ is_alone letter_now → (is_modified letter ≡ true → is_modified letter_now ≡ true)
      → (write : Bool) → (write ≡ true → is_modified letter_now ≡ true) → IsSound (kept_with letter_now core line p) → Prepared p (kept_with letter_now core line p) core line write
  kept letter letter_now e valid valid_now alone still write written sound =
      let was = copy_from (copy_of p core line) (ap is_valid e ∙ valid) in
      let is : was.0.letter ≡ letter = sym (ap letter_of was.1) ∙ e in
      kept_prepared p are core line within own inside was.0 was.1 letter_now valid_now (ap is_alone is ∙ alone) (λ m. still (sym (ap is_modified is) ∙ m)) write written sound

  -- ---- after the L2 was looked up
  module _ (row : HomeLine) (there : row_at p.home line ≡ Some row) where
    abbrev b : Bank
    b = with_home (looked_up_in line) p

    begun : Begun p b line row
    begun = looked_begins laws p are line row there

    b_within : core < length b.l1s
    b_within = core_in p b begun.keeps.bank core within

    b_own : IsOwn b line
    b_own = own_in p b begun.keeps.bank line own

    b_inside : IsInMemory b.home line
    b_inside = memory_in p b begun.keeps line inside

    same : row ≡ row_of b.home line
    same = sym (as_row b.home line row begun.stands)

    b_there : row_at b.home line ≡ Some (row_of b.home line)
    b_there = begun.stands ∙ ap (λ (r : HomeLine). Some r) same

    b_letter : own_letter b core line ≡ own_letter p core line
    b_letter = ap letter_of (begun.copies core)

    b_left : OthersDone b (left_by_others core line row b) core line row true
    b_left = subst (λ (z : HomeLine). OthersDone b (left_by_others core line z b) core line z true) (sym same) (left_done b begun.parts core line b_own b_inside b_there)

    upgraded : own_letter p core line ≡ S → IsSound (with_home (owned_in line core) (kept_with M core line (left_by_others core line row b))) → Prepared p (with_home (owned_in line core) (kept_with M core line (left_by_others core line row b))) core line true
    upgraded e sound =
        let was = copy_from (copy_of b core line) (ap is_valid (b_letter ∙ e)) in
        prepared_then p b (with_home (owned_in line core) (kept_with M core line (left_by_others core line row b))) core line row true begun
        (subst (λ (z : HomeLine). Prepared b (with_home (owned_in line core) (kept_with M core line (left_by_others core line z b))) core line true) (sym same)
        (upgraded_prepared b begun.parts core line b_within b_own b_inside b_there was.0 was.1 true
        (subst (λ (z : HomeLine). IsSound (with_home (owned_in line core) (kept_with M core line (left_by_others core line z b)))) same sound)))

    module _ (absent_p : own_letter p core line ≡ I) where
      b_absent : own_letter b core line ≡ I
      b_absent = b_letter ∙ absent_p

      written : IsSound (ready_from_l2 true core line row p) → Prepared p (ready_from_l2 true core line row p) core line true
      written sound =
          prepared_then p b (ready_from_l2 true core line row p) core line row true begun
          (came_owned b begun.parts core line b_within b_own b_inside b_absent row same true (left_by_others core line row b) b_left M refl true (λ _. refl) refl (λ k apart. b_left.valid k apart) sound)

      b_shared : OthersDone b (shared_by_others line row b) core line row false
      b_shared = subst (λ (z : HomeLine). OthersDone b (shared_by_others line z b) core line z false) (sym same) (shared_done b begun.parts core line b_own b_inside b_there b_absent)

      few : (k : ℕ) → is_member nat_eq row.sharers k ≡ true → k < 256
      few k t =
          let valid : is_valid (own_letter b k line) ≡ true = sym (begun.parts.holds k line b_own) ∙ (sym (ap (λ (z : HomeLine). is_member nat_eq z.sharers k) same) ∙ t) in
          let l : k < length b.l1s = known b begun.parts line b_own k valid in
          let most : length b.l1s ≤ 256 = begun.parts.cores.1 in
          omega arith

      read : IsSound (ready_from_l2 false core line row p) → Prepared p (ready_from_l2 false core line row p) core line false
      read sound =
          let has : Bool = is_some_core row.sharers in
          let letter : Letter = own_after false I has in
          let most : length b.l1s ≤ 256 = begun.parts.cores.1 in
          prepared_then p b (ready_from_l2 false core line row p) core line row false begun
          (came_granted b begun.parts core line b_within b_own b_inside b_absent row same false (shared_by_others line row b) b_shared letter (valid_granted has) (not has) (alone_granted has)
          (λ k apart. ap (λ (z : HomeLine). is_member nat_eq z.sharers k) same ∙ (begun.parts.holds k line b_own ∙ sym (b_shared.valid k apart))) few (omega (arith, b_within)) sound)

      from_l2 : (write : Bool) → IsSound (ready_from_l2 write core line row p) → Prepared p (ready_from_l2 write core line row p) core line write
      from_l2 true sound = written sound
      from_l2 false sound = read sound

  -- ---- after the line came in from memory
  from_memory : (write : Bool) → row_at p.home line ≡ None → own_letter p core line ≡ I → IsSound (ready_from_home write core line None p) → Prepared p (ready_from_home write core line None p) core line write
  from_memory write none absent_p sound =
      let h : Bank = brought_home line p in
      let begun : Begun p h line nobody = brought_begins laws p are line own inside none in
      let h_own : IsOwn h line = own_in p h begun.keeps.bank line own in
      let row : row_of h.home line ≡ nobody = as_row h.home line nobody begun.stands in
      let nobody_has : (k : ℕ) → copy_of h k line ≡ None = λ k. absent h begun.parts line h_own k (ap (λ (z : HomeLine). is_member nat_eq z.sharers k) row) in
      let done : OthersDone h h core line nobody true = nobody_done h core line true begun.parts begun.stands nobody_has in
      prepared_then p h (ready_from_home write core line None p) core line nobody write begun
      (came_owned h begun.parts core line (core_in p h begun.keeps.bank core within) h_own (memory_in p h begun.keeps line inside) (ap letter_of (begun.copies core) ∙ absent_p) nobody (sym row) true h done
      (own_after write I false) (valid_owned write) write (written_owned write) (alone_owned write) (λ k apart. done.valid k apart) sound)

  from_home : (write : Bool) (o : Option HomeLine) → row_at p.home line ≡ o → own_letter p core line ≡ I → IsSound (ready_from_home write core line o p) → Prepared p (ready_from_home write core line o p) core line write
  from_home write None e absent_p sound = from_memory write e absent_p sound
  from_home write (Some row) e absent_p sound = from_l2 row e absent_p write sound

  where_shared : (write : Bool) → own_letter p core line ≡ S → IsSound (ready_where_shared write core line p) → Prepared p (ready_where_shared write core line p) core line write
  where_shared true e sound = upgraded (row_of p.home line) (some_of p are core line own (ap is_valid e)) e sound
  where_shared false e sound = kept S S e refl refl refl (λ m. m) false (λ t. absurd cc) sound

  pub ready_prepared : (letter : Letter) → own_letter p core line ≡ letter → (write : Bool) → IsSound (ready_by letter write core line p) → Prepared p (ready_by letter write core line p) core line write
  ready_prepared M e write sound = kept M M e refl refl refl (λ m. m) write (λ _. refl) sound
  ready_prepared E e true sound = kept E M e refl refl refl (λ m. refl) true (λ _. refl) sound
  ready_prepared E e false sound = kept E E e refl refl refl (λ m. m) false (λ t. absurd cc) sound
  ready_prepared S e write sound = where_shared write e sound
  ready_prepared I e write sound = from_home write (row_at p.home line) refl e sound
