-- An interval's turns begin: each core has few accesses left.
use Rattle.std.proofs.Common.{◌≡◌, ℕ, ◌+◌, ◌-◌, ◌*◌, ◌^◌, ◌<◌, ◌≤◌, min, nat_lt, Bool, true, List, [], length, Option, Some, None, All, refl, sym, ◌∙◌, ap, subst, inl, inr, arith, rules}
use Rattle.std.specs.Prelude.{◌⊎◌, is_some, replicate, slice_get}
use Rattle.std.proofs.lemmas.Bool.{cases_lt}
use Rattle.std.proofs.lemmas.List.{get_or-replicate, length-replicate}
use Rattle.std.proofs.lemmas.List.Folds.{sum_by-replicate}
use Rattle.std.proofs.lemmas.Option.{get_or_from_slice_get, slice_get_within}
use Rattle.zs_num.specs.declared.entry.Entry.{Entry}
use Rattle.rv_core.specs.declared.why.Why.{Why}
use Rattle.elf_load.specs.MemoryImage.{MemoryImage}
use Rattle.machine_desc.specs.declared.machine.Machine.{Machine}
use Rattle.machine_desc.specs.Machine.{IsMachine}
use Rattle.bound_core.specs.ShardPort.{base_of, l1i_of, room_of, size_of}
use Rattle.bound_core.specs.ShardWorld.{shards_serve}
use Rattle.bound_core.specs.TimedCore.{TimedCore, beside_cycles}
use Rattle.bound_core.specs.NumberedCores.{NumberedCore}
use Rattle.bound_core.specs.IntervalBounds.{latest_clock, most_accesses}
use Rattle.bound_core.specs.Turn.{IsOver}
use Rattle.reference.proofs.Reaching.{at_itself}
use Rattle.trace.specs.Port.{LoggedPortState, phase_of}
use Rattle.reference.specs.ReferenceRun.{access_room}
use Rattle.bound_records.specs.CoreRuns.{AreNumbered, CanRunInterval}
use Rattle.trace.specs.Turns.{HaveTaken, IsOnItsWay}
use Rattle.bound_records.proofs.Turns.{latest_idle}

most_early : (end : ℕ) (c : TimedCore) → c.clock < end → most_accesses end c ≡ end - c.clock + 256
unfolding most_accesses
most_early end c early = let before : nat_lt c.clock end ≡ true = search rules in rw before refl

-- the most accesses of a core in an interval
abbrev pub core_most : Machine → ℕ
core_most machine = machine.interval + 256

-- and of all
abbrev pub all_most : Machine → ℕ
all_most machine = machine.cores * core_most machine

few_by : (machine : Machine) (end base size : ℕ) (l1i : Bool) (c : TimedCore) → CanRunInterval machine end base size l1i c → (halted : Option Why) → c.core.halted ≡ halted
    → IsOver end c ⊎ ((most_accesses end c ≤ core_most machine) × (latest_clock end c ≤ end + 2 ^ 30))
few_by machine end base size l1i c ready (Some why) is = inl (record { idle = ready.idle; over = inl (ap is_some is) })
few_by machine end base size l1i c ready None is =
    elim (cases_lt c.clock end) [
      | inl early ↦ inr (omega (arith, most_early end c early, ready.left is), omega (arith, latest_idle end c ready.idle ready.unfetched, early))
      | inr late ↦ inl (record { idle = ready.idle; over = inr (ready.unfetched, late) })
    ]

ready_goes : (machine : Machine) (end base size : ℕ) (l1i : Bool) (c : NumberedCore) → end ≤ 10 * 2 ^ 30 → CanRunInterval machine end base size l1i c.timed → machine.interval + beside_cycles ≤ c.spare
    → IsOnItsWay end base size l1i (core_most machine) c
ready_goes machine end base size l1i c small ready spare = record {
  few = few_by machine end base size l1i c.timed ready c.timed.core.halted refl;
  clock = omega (arith, latest_idle end c.timed ready.idle ready.unfetched, ready.clock, small);
  spare = omega (arith, spare);
  base_is = ready.base_is;
  size_is = ready.size_is;
  fetches = ready.fetches;
}

pub turns_begin : (time : Entry → ℕ) (machine : Machine) (image : MemoryImage) (end : ℕ) (cores : List NumberedCore) (port : LoggedPortState) → IsMachine machine → end ≤ 10 * 2 ^ 30
    → ((i : ℕ) (c : NumberedCore) → slice_get cores i ≡ Some c → CanRunInterval machine end (base_of port.world) (size_of port.world) (l1i_of port.world) c.timed)
    → ((i : ℕ) (c : NumberedCore) → slice_get cores i ≡ Some c → machine.interval + beside_cycles ≤ c.spare)
    → length cores ≡ machine.cores → AreNumbered cores → length port.world.stamps ≡ machine.cores → port.entries ≡ [] → access_room machine ≤ min (room_of port.world) port.room
    → HaveTaken time image end (all_most machine) (phase_of cores port) [] cores port
turns_begin time machine image end cores port is small ready spare count numbered stamps none room =
    let left = replicate (length cores) (core_most machine) in
    let many : length cores * core_most machine ≡ all_most machine = ap (λ (n : ℕ). n * core_most machine) count in
    let sum = sum_by-replicate (λ (n : ℕ). n) (length cores) (core_most machine) in
    record {
      reaches = at_itself shards_serve time image end (phase_of cores port);
      left = left;
      count = length-replicate (length cores) (core_most machine);
      each = λ i n c there here.
          let within : i < length cores = slice_get_within cores i c here in
          let same : n ≡ core_most machine = sym (get_or_from_slice_get left i n 0 there) ∙ get_or-replicate (length cores) i (core_most machine) 0 within in
          subst (λ (k : ℕ). IsOnItsWay end (base_of port.world) (size_of port.world) (l1i_of port.world) k c) (sym same)
          (ready_goes machine end (base_of port.world) (size_of port.world) (l1i_of port.world) c small (ready i c here) (spare i c here));
      few = omega (arith, sum, ap length none, many);
      room = omega (arith, room, is.cores.0, ap length none);
      numbered = numbered;
      stamps = stamps ∙ sym count;
      starts = subst (All (λ (e : Entry). e.start ≤ 2 ^ 34)) (sym none) (λ k d below. absurd (omega (arith, below)));
    }
