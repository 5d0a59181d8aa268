-- A line that leaves the L2 and every L1: what the others are, and what there is of it.
use Rattle.std.proofs.Common.{◌≡◌, ◌≢◌, ℕ, ◌%◌, false, List, length, get_or, Option, Some, None, is_some, refl, sym, ap, ◌∙◌}
use Rattle.std.specs.Option.{unwrap_or}
use Rattle.cache_set.specs.Ways.{without}
use Rattle.home.specs.HomeState.{HomeLine, HomeState, bytes_at, nobody, row_at, row_of}
use Rattle.l1_cache.specs.L1State.{L1State, copy_at, given_up_in, has_instructions, instruction_given_up_in, instructions_at, no_l1}
use Rattle.shard.specs.PartsLaws.{AreParts, IsInMemory, IsOwn}
use Rattle.shard.specs.Seen.{newest_in}
use Rattle.shard.specs.SharedStep.{Bank, copy_of, evicted_everywhere, given_up_by, l1_of}
use Rattle.shard.proofs.HomesAndL1s.Banks.{IsBankOf, given_up_bank, instructions_bank, same_bank}
use Rattle.shard.proofs.HomesAndL1s.CanGive.{can_give, gone_at}
use Rattle.shard.proofs.CoherentLines.{kept_elsewhere, kept_without_other}
use Rattle.shard.proofs.HomesAndL1s.EvictedSeen.{gone_absent, gone_distinct, recalled_at}
use Rattle.shard.proofs.HomesAndL1s.FitOf.{fit_of}
use Rattle.shard.proofs.HomesAndL1s.FoldIsMap.{instructions_given_up_l1s}
use Rattle.shard.proofs.HomesAndL1s.InstructionsSeen.{dropped_at, instructions_gone, instructions_home}
use Rattle.shard.proofs.HomesAndL1s.LineFits.{KeepsBank, SameAt}
use Rattle.shard.proofs.HomesAndL1s.Newest.{newest_same}
use Rattle.shard.proofs.HomesAndL1s.NewestStays.{CanGiveUp, bytes_stay, copy_elsewhere, length_stays, newest_stays}
use Rattle.shard.proofs.HomesAndL1s.RecalledSeen.{given_up_home}

module _ (p : Bank) (are : AreParts p) (v : ℕ) (own : IsOwn p v) (inside : IsInMemory p.home v) where
  abbrev pub row : HomeLine
  row = row_of p.home v

  abbrev pub given : Bank
  given = given_up_by v row.sharers p

  abbrev pub left : Bank
  left = evicted_everywhere (Some (v, row)) p

  can : CanGiveUp v p
  can = can_give p are v own inside

  bank : IsBankOf p given
  bank = given_up_bank p p (same_bank p (fit_of p are)) v row.sharers

  given_at : (k : ℕ) → l1_of left k ≡ instruction_given_up_in v (l1_of given k)
  given_at k =
      ap (λ (l1s : List L1State). get_or l1s k no_l1) (instructions_given_up_l1s v row.fetchers given)
      ∙ dropped_at given bank.fit v (ap (λ (z : ℕ). v % z) bank.count ∙ (own ∙ sym bank.number)) row.fetchers (gone_distinct p are v own) (gone_absent p are v own) k

  left_at : (k : ℕ) → l1_of left k ≡ instruction_given_up_in v (given_up_in v (l1_of p k))
  left_at k = given_at k ∙ ap (instruction_given_up_in v) (recalled_at p are v own k)

  pub left_home : left.home ≡ record p.home { bytes = given.home.bytes }
  left_home = instructions_home v row.fetchers given ∙ given_up_home v row.sharers p

  pub left_keeps : KeepsBank p left
  left_keeps = record {
    bank = instructions_bank p given bank v row.fetchers;
    base = ap (λ (h : HomeState). h.base) left_home;
    size = ap (λ (h : HomeState). h.size) left_home;
    marks = ap (λ (h : HomeState). length h.marks) left_home;
    long = ap (λ (h : HomeState). length h.bytes) left_home ∙ length_stays v row.sharers p can;
  }

  copies_are : (l1 : L1State) (x : ℕ) → copy_at (instruction_given_up_in v l1) x ≡ copy_at l1 x
  unfolding instruction_given_up_in copy_at
  copies_are l1 x = refl

  instructions_are : (l1 : L1State) (x : ℕ) → has_instructions (given_up_in v l1) x ≡ has_instructions l1 x
  unfolding given_up_in has_instructions
  instructions_are l1 x = refl

  instructions_other : (l1 : L1State) (x : ℕ) → x ≢ v → has_instructions (instruction_given_up_in v l1) x ≡ has_instructions l1 x
  unfolding instruction_given_up_in has_instructions
  instructions_other l1 x apart = ap (λ (o : Option (Unit {0})). is_some o) (kept_elsewhere l1.shards x v (without v) l1.l1i (kept_without_other x v (instructions_at l1 v) apart))

  rows_are : (x : ℕ) (bytes : List ℕ) → row_at (record p.home { bytes = bytes }) x ≡ row_at p.home x
  unfolding row_at
  rows_are x bytes = refl

  pub left_row : (x : ℕ) → row_at left.home x ≡ row_at p.home x
  left_row x = ap (λ (h : HomeState). row_at h x) left_home ∙ rows_are x given.home.bytes

  pub left_same : (x : ℕ) → IsOwn p x → x ≢ v → SameAt p left x
  left_same x own_x apart = record {
    row = ap (λ (o : Option HomeLine). unwrap_or o nobody) (left_row x);
    copies = λ k. ap (λ (l1 : L1State). copy_at l1 x) (left_at k) ∙ (copies_are (given_up_in v (l1_of p k)) x ∙ copy_elsewhere v x (l1_of p k) apart);
    instructions = λ k. ap (λ (l1 : L1State). has_instructions l1 x) (left_at k) ∙ (instructions_other (given_up_in v (l1_of p k)) x apart ∙ instructions_are (l1_of p k) x);
    bytes = λ inside_x. ap (λ (h : HomeState). bytes_at h x) (instructions_home v row.fetchers given) ∙ bytes_stay v x row.sharers p can inside_x (own ∙ sym own_x) apart;
  }

  pub left_copies : (k : ℕ) → copy_of left k v ≡ None
  left_copies k = ap (λ (l1 : L1State). copy_at l1 v) (left_at k) ∙ (copies_are (given_up_in v (l1_of p k)) v ∙ gone_at p are v own k)

  pub left_instructions : (k : ℕ) → has_instructions (l1_of left k) v ≡ false
  left_instructions k = ap (λ (l1 : L1State). has_instructions l1 v) (given_at k) ∙ instructions_gone v (l1_of given k) (gone_distinct p are v own k)

  pub left_newest : (x : ℕ) → IsOwn p x → IsInMemory p.home x → newest_in x (bytes_at left.home x) left.l1s ≡ newest_in x (bytes_at p.home x) p.l1s
  left_newest x own_x inside_x =
      ap (λ (h : HomeState). newest_in x (bytes_at h x) left.l1s) (instructions_home v row.fetchers given)
      ∙ (newest_same x (bytes_at given.home x) left.l1s given.l1s (left_keeps.bank.cores ∙ sym bank.cores) (λ k. ap (λ (l1 : L1State). copy_at l1 x) (given_at k) ∙ copies_are (l1_of given k) x)
      ∙ newest_stays v x row.sharers p can inside_x (own ∙ sym own_x))
