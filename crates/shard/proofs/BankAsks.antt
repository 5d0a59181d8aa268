-- What the steps of an access ask of a bank is there.
use Rattle.std.proofs.Common.{◌≡◌, ℕ, ◌<◌, ◌≤◌, true, false, List, [], ◌∷◌, length, Option, Some, None, refl, sym, ap, ◌∙◌, subst, arith, inl, inr}
use Rattle.std.specs.Prelude.{IsSome, nat_eq}
use Rattle.std.specs.Set.{is_member}
use Rattle.std.proofs.lemmas.Bool.{cases_eq, cases_lt}
use Rattle.std.proofs.lemmas.List.{get_or_past}
use Rattle.std.proofs.lemmas.List.Elements.{All-cons}
use Rattle.cache_set.specs.declared.letter.Letter.TheVariants.{I}
use Rattle.home.specs.HomeState.{HomeLine, evicted_by, looked_up_in, nobody, row_at, row_of}
use Rattle.l1_cache.specs.L1State.{Copy, L1State, copy_at, has_instructions, letter_of, no_l1, victim_in}
use Rattle.shard.specs.BankSteps.{AreKnown, AsksFor, CanBring, CanEvict, CanLeave, KeepsVictim, StandsThere}
use Rattle.shard.specs.Coherence.{is_valid}
use Rattle.shard.specs.PartsLaws.{AreParts, IsInMemory, IsOwn}
use Rattle.shard.specs.SharedStep.{Bank, brought_home, copy_of, l1_of, left_by_others, others_of, own_letter, shared_by_others, with_home}
use Rattle.shard.proofs.Coherent.{l2_laws}
use Rattle.shard.proofs.HomesAndL1s.Banks.{core_in, own_in, same_bank}
use Rattle.shard.proofs.HomesAndL1s.Begun.{Begun, looked_begins}
use Rattle.shard.proofs.HomesAndL1s.BroughtHome.{brought_begins}
use Rattle.shard.proofs.HomesAndL1s.Decisions.{contrary, known, member_first, member_rest}
use Rattle.shard.proofs.HomesAndL1s.EvictedSeen.{row_is}
use Rattle.shard.proofs.HomesAndL1s.FitOf.{fit_of}
use Rattle.shard.proofs.HomesAndL1s.FoldAt.{not_own}
use Rattle.shard.proofs.HomesAndL1s.LeftDone.{left_done}
use Rattle.shard.proofs.HomesAndL1s.LettersSeen.{copy_valid}
use Rattle.shard.proofs.HomesAndL1s.LineFits.{KeepsBank, copy_memory, line_of_parts, memory_in}
use Rattle.shard.proofs.HomesAndL1s.OthersDone.{OthersDone, lost_letter}
use Rattle.shard.proofs.HomesAndL1s.OwnCopies.{victim_copy, victim_owned}
use Rattle.shard.proofs.HomesAndL1s.Rows.{as_row}
use Rattle.shard.proofs.HomesAndL1s.SharedDone.{shared_done}
use Rattle.shard.proofs.HomesAndL1s.Untouched.{member_without}
use Rattle.shard.proofs.HomesAndL1s.Victims.{victim_own, victim_row}

each_member : (cores : List ℕ) (l1s : List L1State) → ((k : ℕ) → is_member nat_eq cores k ≡ true → k < length l1s) → AreKnown cores l1s
each_member [] l1s each = λ i d l. absurd (omega arith)
each_member (core ∷ cores) l1s each =
    All-cons (λ k. k < length l1s) core cores (each core (member_first core cores)) (each_member cores l1s (λ k h. each k (member_rest core k cores h)))

module _ (p : Bank) (are : AreParts p) (line : ℕ) (own : IsOwn p line) where
  -- ---- who has the line
  pub known_sharer : (k : ℕ) → is_member nat_eq (row_of p.home line).sharers k ≡ true → k < length p.l1s
  known_sharer k h = known p are line own k (sym (are.holds k line own) ∙ h)

  pub sharers_known : AreKnown (row_of p.home line).sharers p.l1s
  sharers_known = each_member (row_of p.home line).sharers p.l1s known_sharer

  pub others_known : (core : ℕ) → AreKnown (others_of core (row_of p.home line)) p.l1s
  others_known core =
      each_member (others_of core (row_of p.home line)) p.l1s (λ k h. elim (cases_eq core k) as (λ _. k < length p.l1s) [
        | inl e ↦ absurd (contrary (is_member nat_eq (others_of core (row_of p.home line)) core) (subst (λ (j : ℕ). is_member nat_eq (others_of core (row_of p.home line)) j ≡ true) (sym e) h) (not_own core (row_of p.home line).sharers))
        | inr apart ↦ known_sharer k (sym (member_without core k (row_of p.home line).sharers apart) ∙ h)
      ])

  pub known_fetcher : (k : ℕ) → is_member nat_eq (row_of p.home line).fetchers k ≡ true → k < length p.l1s
  unfolding has_instructions
  known_fetcher k h =
      elim (cases_lt k (length p.l1s)) as (λ _. k < length p.l1s) [
        | inl l ↦ l
        | inr past ↦
            let has : has_instructions (l1_of p k) line ≡ true = sym (are.fetches k line own) ∙ h in
            let none : has_instructions (l1_of p k) line ≡ false = ap (λ (l1 : L1State). has_instructions l1 line) (get_or_past p.l1s k no_l1 past) in
            absurd (contrary (has_instructions (l1_of p k) line) has none)
      ]

  pub fetchers_known : AreKnown (row_of p.home line).fetchers p.l1s
  fetchers_known = each_member (row_of p.home line).fetchers p.l1s known_fetcher

  -- ---- a core that has none
  pub absent_copy : (core : ℕ) → own_letter p core line ≡ I → copy_of p core line ≡ None
  absent_copy core e = by_copy (copy_of p core line) refl where
    by_copy : (o : Option Copy) → copy_of p core line ≡ o → copy_of p core line ≡ None
    by_copy None is = is
    by_copy (Some copy) is = absurd (lost_letter copy.letter (copy_valid p are core line copy own is) (sym (ap letter_of is) ∙ e))

-- ---- a line that leaves the L2
module _ (p : Bank) (are : AreParts p) (line : ℕ) where
  evicts : (o : Option (ℕ × HomeLine)) → evicted_by p.home line ≡ o → CanEvict p.home p.l1s o
  evicts None e = tt
  evicts (Some w) e =
      let own : IsOwn p w.0 = victim_own p are line w e in
      let row : row_of p.home w.0 ≡ w.1 = row_is p are line w e in (
        (are.lines w.0 (victim_row p are line w e)).1.1,
        subst (λ (r : HomeLine). AreKnown r.sharers p.l1s) row (sharers_known p are w.0 own),
        subst (λ (r : HomeLine). AreKnown r.fetchers p.l1s) row (fetchers_known p are w.0 own),
      )

  pub can_evict : CanEvict p.home p.l1s (evicted_by p.home line)
  can_evict = evicts (evicted_by p.home line) refl

-- ---- a line that leaves a core's L1, after the other cores have done what they are asked
module _ (p l : Bank) (are : AreParts p) (core line : ℕ) (within : core < length p.l1s) (own : IsOwn p line) (same : l1_of l core ≡ l1_of p core) (keeps : KeepsBank p l) where
  leaves : (o : Option (ℕ × Copy)) → victim_in (l1_of p core) line ≡ o → KeepsVictim l.home o
  leaves None e = tt
  leaves (Some w) e =
      let owned : IsOwn p w.0 = victim_owned p are core line within own w e in
      let before : copy_of p core w.0 ≡ Some w.1 = victim_copy p are core line within own w e in
      let valid : is_valid (own_letter p core w.0) ≡ true = ap (λ (o : Option Copy). is_valid (letter_of o)) before ∙ copy_valid p are core w.0 w.1 owned before in
      (memory_in p l keeps w.0 (copy_memory p w.0 (line_of_parts p are w.0 owned) core valid)).1

  pub keeps_victim : KeepsVictim l.home (victim_in (l1_of l core) line)
  keeps_victim =
      subst (λ (l1 : L1State). KeepsVictim l.home (victim_in l1 line)) (sym same) (leaves (victim_in (l1_of p core) line) refl)

  stands : (o : Option (ℕ × Copy)) → victim_in (l1_of p core) line ≡ o → StandsThere (l1_of p core) o
  stands None e = tt
  stands (Some w) e = victim_copy p are core line within own w e

  pub victim_stands : StandsThere (l1_of l core) (victim_in (l1_of l core) line)
  victim_stands = subst (λ (l1 : L1State). StandsThere l1 (victim_in l1 line)) (sym same) (stands (victim_in (l1_of p core) line) refl)

-- ---- a core's line comes in
module _ (p l : Bank) (are : AreParts p) (core line : ℕ) (within : core < length p.l1s) (own : IsOwn p line) (inside : IsInMemory p.home line) (same : l1_of l core ≡ l1_of p core) (keeps : KeepsBank p l) (absent : own_letter p core line ≡ I) where
  few : core < 256
  few = let most : length p.l1s ≤ 256 = are.cores.1 in omega arith

  pub can_bring : CanBring l core line
  can_bring = record {
    known = core_in p l keeps.bank core within;
    few = few;
    kept = (memory_in p l keeps line inside).1;
    absent = ap (λ (l1 : L1State). copy_at l1 line) same ∙ absent_copy p are line own core absent;
    victim = keeps_victim p l are core line within own same keeps;
    stands = victim_stands p l are core line within own same keeps;
  }

module _ (p : Bank) (are : AreParts p) (core line : ℕ) (asks : AsksFor p core line) where
  pub is_few : core < 256
  is_few = let most : length p.l1s ≤ 256 = are.cores.1 in let known : core < length p.l1s = asks.known in omega arith

  -- ---- after it came into the L2
  module _ (none : row_at p.home line ≡ None) where
    abbrev h : Bank
    h = brought_home line p

    pub home_begun : Begun p h line nobody
    home_begun = brought_begins l2_laws p are line asks.own asks.inside none

    pub can_bring_home : own_letter p core line ≡ I → CanBring h core line
    can_bring_home letter =
        let own_h : IsOwn h line = own_in p h home_begun.keeps.bank line asks.own in
        let keeps : KeepsBank h h = record { bank = same_bank h (fit_of h home_begun.parts); base = refl; size = refl; marks = refl; long = refl } in
        can_bring h h home_begun.parts core line (core_in p h home_begun.keeps.bank core asks.known) own_h (memory_in p h home_begun.keeps line asks.inside) refl keeps (ap letter_of (home_begun.copies core) ∙ letter)

  -- ---- after the L2 was looked up
  module _ (row : HomeLine) (there : row_at p.home line ≡ Some row) where
    abbrev b : Bank
    b = with_home (looked_up_in line) p

    begun : Begun p b line row
    begun = looked_begins l2_laws p are line row there

    b_within : core < length b.l1s
    b_within = core_in p b begun.keeps.bank core asks.known

    b_own : IsOwn b line
    b_own = own_in p b begun.keeps.bank line asks.own

    b_inside : IsInMemory b.home line
    b_inside = memory_in p b begun.keeps line asks.inside

    row_now : row_of b.home line ≡ row
    row_now = as_row b.home line row begun.stands

    b_there : row_at b.home line ≡ Some (row_of b.home line)
    b_there = begun.stands ∙ ap (λ (r : HomeLine). Some r) (sym row_now)

    b_letter : own_letter b core line ≡ own_letter p core line
    b_letter = ap letter_of (begun.copies core)

    pub can_leave : CanLeave b core line row
    can_leave = record {
      few = is_few;
      kept = b_inside.1;
      others = subst (λ (r : HomeLine). AreKnown (others_of core r) b.l1s) row_now (others_known b begun.parts line b_own core);
    }

    pub sharers_there : AreKnown row.sharers b.l1s
    sharers_there = subst (λ (r : HomeLine). AreKnown r.sharers b.l1s) row_now (sharers_known b begun.parts line b_own)

    left : OthersDone b (left_by_others core line row b) core line row true
    left = subst (λ (r : HomeLine). OthersDone b (left_by_others core line r b) core line r true) row_now (left_done b begun.parts core line b_own b_inside b_there)

    pub can_bring_left : own_letter p core line ≡ I → CanBring (left_by_others core line row b) core line
    can_bring_left letter = can_bring b (left_by_others core line row b) begun.parts core line b_within b_own b_inside left.own left.keeps (b_letter ∙ letter)

    pub left_within : core < length (left_by_others core line row b).l1s
    left_within = core_in b (left_by_others core line row b) left.keeps.bank core b_within

    pub left_there : IsSome (copy_of p core line) → IsSome (copy_of (left_by_others core line row b) core line)
    left_there some =
        subst (λ (o : Option Copy). IsSome o) (sym (ap (λ (l1 : L1State). copy_at l1 line) left.own ∙ begun.copies core)) some

    pub can_bring_shared : own_letter p core line ≡ I → CanBring (shared_by_others line row b) core line
    can_bring_shared letter = can_bring b (shared_by_others line row b) begun.parts core line b_within b_own b_inside shared.own shared.keeps (b_letter ∙ letter) where
      shared : OthersDone b (shared_by_others line row b) core line row false
      shared = subst (λ (r : HomeLine). OthersDone b (shared_by_others line r b) core line r false) row_now (shared_done b begun.parts core line b_own b_inside b_there (b_letter ∙ letter))
