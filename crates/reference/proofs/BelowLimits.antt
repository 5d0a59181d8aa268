-- What a run has left that goes on.
use Rattle.std.proofs.Common.{◌≡◌, ◌≢◌, ℕ, zero, suc, ◌+◌, ◌^◌, ◌==◌, ◌≤◌, nat_lt, false, ◌||◌, List, [], ◌∷◌, length, All, arith}
use Rattle.std.specs.List.{list_any}
use Rattle.std.proofs.lemmas.Bool.{or_parts}
use Rattle.std.proofs.lemmas.Bool.Decides.{nat_tests}
use Rattle.machine_desc.specs.declared.machine.Machine.{Machine}
use Rattle.component.specs.declared.comp.Comp.{Comp}
use Rattle.component.specs.ComponentStep.{free_of}
use Rattle.stats.specs.Counts.{total_accesses}
use Rattle.reference.specs.TimedCore.{TimedCore}
use Rattle.reference.specs.Limits.{access_limit, cycle_limit}
use Rattle.reference.specs.ReferenceRun.{RunState, access_room, at_limit, has_ended, have_halted}

not_more : (most n : ℕ) → nat_lt most n ≡ false → n ≤ most
not_more most n test = grind (arith, nat_tests)

not_same : (a b : ℕ) → (a == b) ≡ false → a ≢ b
not_same a b test same = grind (arith, nat_tests)

none_late : {X : Type 0} (time : X → ℕ) (xs : List X) → list_any (λ x. nat_lt cycle_limit (time x)) xs ≡ false → All (λ x. time x ≤ 2 ^ 56) xs
none_late time [] none k d below = absurd (omega (arith, below))
none_late time (x ∷ xs) none zero d below =
    not_more cycle_limit (time x) (or_parts (nat_lt cycle_limit (time x)) (list_any (λ y. nat_lt cycle_limit (time y)) xs) none).0
none_late time (x ∷ xs) none (suc k) d below =
    none_late time xs (or_parts (nat_lt cycle_limit (time x)) (list_any (λ y. nat_lt cycle_limit (time y)) xs) none).1 k d (omega (arith, below))

-- what holds where no limit is reached
pub record IsBelowLimits (machine : Machine) (intervals accesses : ℕ) (cores : List TimedCore) (comps : List Comp) : Type 0 where
  pub intervals_left : intervals ≢ machine.intervals
  pub accesses_left : accesses + access_room machine ≤ 2 ^ 26
  pub clocks_left : All (λ c. c.clock ≤ 2 ^ 56) cores
  pub free_left : All (λ c. free_of c ≤ 2 ^ 56) comps

below_limits : (machine : Machine) (intervals accesses : ℕ) (cores : List TimedCore) (comps : List Comp) → at_limit machine intervals accesses cores comps ≡ false → IsBelowLimits machine intervals accesses cores comps
unfolding at_limit
below_limits machine intervals accesses cores comps below =
    let most = accesses + access_room machine in
    let late = list_any (λ c. nat_lt cycle_limit (free_of c)) comps in
    let clock_late = list_any (λ (c : TimedCore). nat_lt cycle_limit c.clock) cores in
    let three = or_parts (intervals == machine.intervals || nat_lt access_limit most || clock_late) late below in
    let two = or_parts (intervals == machine.intervals || nat_lt access_limit most) clock_late three.0 in
    let one = or_parts (intervals == machine.intervals) (nat_lt access_limit most) two.0 in
    let intervals_test : (intervals == machine.intervals) ≡ false = one.0 in
    let accesses_test : nat_lt access_limit most ≡ false = one.1 in
    record {
      intervals_left = not_same intervals machine.intervals intervals_test;
      accesses_left = not_more access_limit most accesses_test;
      clocks_left = none_late (λ (c : TimedCore). c.clock) cores two.1;
      free_left = none_late free_of comps three.1;
    }

-- where the run goes on
pub goes_on : (machine : Machine) (s : RunState) → has_ended machine s ≡ false → IsBelowLimits machine (length s.intervals) (total_accesses s.intervals) s.cores s.comps
goes_on machine s on =
    let limit = at_limit machine (length s.intervals) (total_accesses s.intervals) s.cores s.comps in
    below_limits machine (length s.intervals) (total_accesses s.intervals) s.cores s.comps (or_parts (have_halted s.cores) limit on).1
