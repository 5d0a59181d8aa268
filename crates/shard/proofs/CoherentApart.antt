-- Where the L2 has the line of an access, a fetch leaves the L1s as they are, and any other access the instruction
-- caches. Right after a core's fetch the line is in its instruction cache.
use Rattle.std.proofs.Common.{◌≡◌, ◌≢◌, ℕ, ◌<◌, Bool, true, false, cond, length, Option, Some, None, is_some, refl, ◌∙◌, arith}
use Rattle.std.specs.Prelude.{IfSome, nat_lt}
use Rattle.std.proofs.lemmas.Bool.{lt-ltb}
use Rattle.zs_num.specs.Request.{line_of}
use Rattle.zs_num.specs.declared.entry.Outcome.{Outcome}
use Rattle.zs_num.specs.declared.entry.Outcome.TheVariants.{Hit, Upgrade, L2, Miss}
use Rattle.zs_num.specs.declared.request.Request.TheVariants.{Fetch}
use Rattle.cache_set.specs.declared.letter.Letter.{Letter}
use Rattle.cache_set.specs.declared.letter.Letter.TheVariants.{M, E, S, I}
use Rattle.shard.specs.Coherence.{Caches, after_at, caches_after, copies_evicted, filled_into_l2, met_at, recalled, dirty_at, fetch_holds, fetch_outcome_by, filled_into_l1, filled_into_l1i, is_alone, is_dirty_victim, is_modified, is_valid, is_write, kept_first, l2_victim, letter_at, looked_up, marked_dirty, on_l1i, on_l2, on_others, on_own, other_after, others_changed, outcome_by, own_after, own_victim, some_other, used_in_l1i, written_back}
use Rattle.shard.specs.Laws.{FetchedLinesAreThere, FetchesChangeNoLetter, FetchesTakeLettersOfOneLine, OthersLeaveInstructionCaches, OthersTakeOneLine}
use Rattle.shard.specs.StandsFor.{HaveRoomForLines}
use Rattle.shard.proofs.CoherentInstructions.{holds_fetched, holds_filled_same, holds_first, holds_instructions_other, holds_looked_up, holds_marked, holds_others, holds_recalled, holds_taken, holds_used}
use Rattle.shard.proofs.CoherentLetters.{letter_fetched, letter_instructions, letter_looked_up, letter_on_l1i, letter_recalled_other}
use Rattle.shard.proofs.CoherentPlaced.{Keeps, l2_step}
use Rattle.shard.proofs.CoherentRows.{room_after}
use Rattle.shard.proofs.Kept.{l2_same}

-- ---- a fetch leaves the L1s
l1_on_l1i : (held : Bool) (core line : ℕ) (c : Caches) → (on_l1i held core line c).l1 ≡ c.l1
unfolding used_in_l1i filled_into_l1i
l1_on_l1i true core line c = refl
l1_on_l1i false core line c = refl

l1_looked_up : (line : ℕ) (c : Caches) → (looked_up line c).l1 ≡ c.l1
unfolding looked_up
l1_looked_up line c = refl

l1_of_fetch : (core line : ℕ) (c : Caches) (held in_l2 dirty : Bool) → in_l2 ≡ true → (on_l1i held core line (on_l2 (fetch_outcome_by held in_l2 dirty) line c)).l1 ≡ c.l1
l1_of_fetch core line c true in_l2 dirty there = l1_on_l1i true core line c
l1_of_fetch core line c false true dirty there = l1_on_l1i false core line (looked_up line c) ∙ l1_looked_up line c
l1_of_fetch core line c false false dirty there = absurd cc

pub fetches_change_no_letter : FetchesChangeNoLetter
unfolding caches_after
fetches_change_no_letter c core addr there =
    let line : ℕ = line_of (Fetch addr) in
    l1_of_fetch core line c (fetch_holds c core line) (is_some (dirty_at c line)) (is_dirty_victim c (l2_victim c line)) there

-- ---- any other access leaves the L1Is
l1i_marked : (b : Bool) (line : ℕ) (c : Caches) → (cond b (marked_dirty line c) c).l1i ≡ c.l1i
unfolding marked_dirty
l1i_marked true line c = refl
l1i_marked false line c = refl

l1i_looked_up : (line : ℕ) (c : Caches) → (looked_up line c).l1i ≡ c.l1i
unfolding looked_up
l1i_looked_up line c = refl

l1i_others : (change : Letter → Letter) (core line : ℕ) (c : Caches) → (others_changed change core line c).l1i ≡ c.l1i
unfolding others_changed
l1i_others change core line c = refl

l1i_back : (victim : Option (ℕ × Letter)) (c : Caches) → (written_back victim c).l1i ≡ c.l1i
l1i_back None c = refl
l1i_back (Some victim) c = l1i_marked (is_modified victim.1) victim.0 c

l1i_own : (own : Letter) (core line : ℕ) (letter : Letter) (c : Caches) → (on_own own core line letter c).l1i ≡ c.l1i
unfolding kept_first filled_into_l1
l1i_own M core line letter c = refl
l1i_own E core line letter c = refl
l1i_own S core line letter c = refl
l1i_own I core line letter c = l1i_back (own_victim c core line) c

l1i_found : (write others : Bool) (core line : ℕ) (c : Caches) → (on_others (L2 others) write core line (on_l2 (L2 others) line c)).l1i ≡ c.l1i
l1i_found write others core line c =
    let d : Caches = looked_up line c in
    let b : Bool = some_other is_modified d core line in
    l1i_others (other_after write) core line (cond b (marked_dirty line d) d) ∙ l1i_marked b line d ∙ l1i_looked_up line c

l1i_of_row : (core line : ℕ) (c : Caches) (own : Letter) (write in_l2 alone has dirty : Bool) → in_l2 ≡ true
    → (on_others (outcome_by write own in_l2 alone has dirty) write core line (on_l2 (outcome_by write own in_l2 alone has dirty) line c)).l1i ≡ c.l1i
l1i_of_row core line c M true in_l2 alone has dirty there = refl
l1i_of_row core line c M false in_l2 alone has dirty there = refl
l1i_of_row core line c E true in_l2 alone has dirty there = refl
l1i_of_row core line c E false in_l2 alone has dirty there = refl
l1i_of_row core line c S true in_l2 alone has dirty there = l1i_others (other_after true) core line (looked_up line c) ∙ l1i_looked_up line c
l1i_of_row core line c S false in_l2 alone has dirty there = refl
l1i_of_row core line c I true true alone has dirty there = l1i_found true has core line c
l1i_of_row core line c I false true alone has dirty there = l1i_found false alone core line c
l1i_of_row core line c I true false alone has dirty there = absurd cc
l1i_of_row core line c I false false alone has dirty there = absurd cc

l1i_of_access : (c : Caches) (core line : ℕ) (write : Bool) → is_some (dirty_at c line) ≡ true → (after_at c core line write).l1i ≡ c.l1i
l1i_of_access c core line write there =
    let own : Letter = letter_at c core line in
    let in_l2 : Bool = is_some (dirty_at c line) in
    let alone : Bool = some_other is_alone c core line in
    let has : Bool = some_other is_valid c core line in
    let dirty : Bool = is_dirty_victim c (l2_victim c line) in
    let outcome : Outcome = outcome_by write own in_l2 alone has dirty in
    l1i_own own core line (own_after write own has) (on_others outcome write core line (on_l2 outcome line c))
    ∙ l1i_of_row core line c own write in_l2 alone has dirty there

pub others_leave_instruction_caches : OthersLeaveInstructionCaches
unfolding caches_after
others_leave_instruction_caches c core request reads there =
    let line : ℕ = line_of request in
    let write : Bool = is_write request in
    rw reads (l1i_of_access c core line write there)

-- ---- where the L2 does not have the line, they change for the line alone that it evicts
letter_evicted : (victim : Option (ℕ × Bool)) (c : Caches) (a l : ℕ) → IfSome victim (λ v. l ≢ v.0) → letter_at (copies_evicted victim c) a l ≡ letter_at c a l
letter_evicted None c a l apart = refl
letter_evicted (Some victim) c a l apart = letter_instructions victim.0 (recalled victim.0 c) a l ∙ letter_recalled_other victim.0 c a l apart

letter_of_fetch : (core line : ℕ) (c : Caches) (held in_l2 dirty : Bool) (a l : ℕ) → IfSome (l2_victim c line) (λ v. l ≢ v.0)
    → letter_at (on_l1i held core line (on_l2 (fetch_outcome_by held in_l2 dirty) line c)) a l ≡ letter_at c a l
letter_of_fetch core line c true in_l2 dirty a l apart = letter_on_l1i true core line c a l
letter_of_fetch core line c false true dirty a l apart = letter_on_l1i false core line (looked_up line c) a l ∙ letter_looked_up line c a l
letter_of_fetch core line c false false dirty a l apart =
    let made : Caches = copies_evicted (l2_victim c line) c in
    letter_on_l1i false core line (filled_into_l2 line made) a l ∙ letter_fetched line made a l ∙ letter_evicted (l2_victim c line) c a l apart

pub fetches_take_letters_of_one_line : FetchesTakeLettersOfOneLine
unfolding caches_after
fetches_take_letters_of_one_line c core addr other l apart =
    let line : ℕ = line_of (Fetch addr) in
    letter_of_fetch core line c (fetch_holds c core line) (is_some (dirty_at c line)) (is_dirty_victim c (l2_victim c line)) other l apart

holds_evicted : (victim : Option (ℕ × Bool)) (c : Caches) (a l : ℕ) → IfSome victim (λ v. l ≢ v.0) → fetch_holds (copies_evicted victim c) a l ≡ fetch_holds c a l
holds_evicted None c a l apart = refl
holds_evicted (Some victim) c a l apart = holds_instructions_other victim.0 (recalled victim.0 c) a l apart ∙ holds_recalled victim.0 c a l

holds_on_l2 : (outcome : Outcome) (line : ℕ) (c : Caches) (a l : ℕ) → IfSome (l2_victim c line) (λ v. l ≢ v.0) → fetch_holds (on_l2 outcome line c) a l ≡ fetch_holds c a l
holds_on_l2 Hit line c a l apart = refl
holds_on_l2 (Upgrade others) line c a l apart = holds_looked_up line c a l
holds_on_l2 (L2 others) line c a l apart = holds_looked_up line c a l
holds_on_l2 (Miss dirty) line c a l apart =
    holds_fetched line (copies_evicted (l2_victim c line) c) a l ∙ holds_evicted (l2_victim c line) c a l apart

holds_dirtied : (b : Bool) (line : ℕ) (c : Caches) (a l : ℕ) → fetch_holds (cond b (marked_dirty line c) c) a l ≡ fetch_holds c a l
holds_dirtied true line c a l = holds_marked line c a l
holds_dirtied false line c a l = refl

pub holds_on_others : (outcome : Outcome) (write : Bool) (core line : ℕ) (c : Caches) (a l : ℕ) → fetch_holds (on_others outcome write core line c) a l ≡ fetch_holds c a l
holds_on_others Hit write core line c a l = refl
holds_on_others (Upgrade others) write core line c a l = holds_others (other_after write) core line c a l
holds_on_others (L2 others) write core line c a l =
    let b : Bool = some_other is_modified c core line in
    holds_others (other_after write) core line (cond b (marked_dirty line c) c) a l ∙ holds_dirtied b line c a l
holds_on_others (Miss dirty) write core line c a l = refl

pub holds_on_own : (own : Letter) (core line : ℕ) (letter : Letter) (c : Caches) (a l : ℕ) → fetch_holds (on_own own core line letter c) a l ≡ fetch_holds c a l
holds_on_own M core line letter c a l = holds_first core line letter c a l
holds_on_own E core line letter c a l = holds_first core line letter c a l
holds_on_own S core line letter c a l = holds_first core line letter c a l
holds_on_own I core line letter c a l = holds_taken core line letter c a l

holds_of_access : (c : Caches) (core line : ℕ) (write : Bool) (a l : ℕ) → IfSome (l2_victim c line) (λ v. l ≢ v.0) → fetch_holds (after_at c core line write) a l ≡ fetch_holds c a l
holds_of_access c core line write a l apart =
    let own : Letter = letter_at c core line in
    let outcome : Outcome = met_at c core line write in
    let first : Caches = on_l2 outcome line c in
    holds_on_own own core line (own_after write own (some_other is_valid c core line)) (on_others outcome write core line first) a l
    ∙ holds_on_others outcome write core line first a l
    ∙ holds_on_l2 outcome line c a l apart

pub others_take_one_line : OthersTakeOneLine
unfolding caches_after
others_take_one_line c core request other l reads apart =
    rw reads (holds_of_access c core (line_of request) (is_write request) other l apart)

-- ---- right after a fetch the line is there
fetched_stays : (c : Caches) → HaveRoomForLines c → (core line : ℕ) → core < length c.l1i → (held in_l2 dirty : Bool) → fetch_holds c core line ≡ held
    → fetch_holds (on_l1i held core line (on_l2 (fetch_outcome_by held in_l2 dirty) line c)) core line ≡ true
fetched_stays c room core line known true in_l2 dirty e = holds_used core line c core line ∙ e
fetched_stays c room core line known false in_l2 dirty e =
    let outcome : Outcome = fetch_outcome_by false in_l2 dirty in
    let d : Caches = on_l2 outcome line c in
    let keeps : Keeps c d = l2_step outcome line c in
    let some : HaveRoomForLines d = room_after c d (l2_same outcome line c) keeps room in
    let there : core < length d.l1i = omega (arith, keeps.fetchers, known) in
    holds_filled_same core line d there (some.l1i_sets core there) (some.l1i_ways (have (length d.l1i) core there))
  where
    have : (n k : ℕ) → k < n → nat_lt 0 n ≡ true
    have n k l = lt-ltb 0 n (omega (arith, l))

pub fetched_lines_are_there : FetchedLinesAreThere
unfolding caches_after
fetched_lines_are_there c core addr room known =
    let line : ℕ = line_of (Fetch addr) in
    fetched_stays c room core line known (fetch_holds c core line) (is_some (dirty_at c line)) (is_dirty_victim c (l2_victim c line)) refl
