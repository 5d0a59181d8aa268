-- An interval's turns begin: each core has few accesses left.
use Rattle.std.proofs.Common.{◌≡◌, ℕ, ◌+◌, ◌-◌, ◌*◌, ◌^◌, ◌<◌, ◌≤◌, nat_lt, Bool, true, List, [], length, Option, Some, None, refl, sym, ◌∙◌, ap, subst, inl, inr, arith, rules}
use Rattle.std.specs.Prelude.{◌⊎◌, is_some, replicate, slice_get}
use Rattle.std.proofs.lemmas.Bool.{cases_lt}
use Rattle.std.proofs.lemmas.List.{get_or-replicate, length-replicate}
use Rattle.std.proofs.lemmas.List.Folds.{sum_by-replicate}
use Rattle.std.proofs.lemmas.Option.{get_or_from_slice_get, slice_get_within}
use Rattle.zs_num.specs.declared.entry.Entry.{Entry}
use Rattle.rv_core.specs.declared.why.Why.{Why}
use Rattle.elf_load.specs.MemoryImage.{MemoryImage}
use Rattle.machine_desc.specs.declared.machine.Machine.{Machine}
use Rattle.machine_desc.specs.Machine.{IsMachine}
use Rattle.access_log.specs.History.{of_core}
use Rattle.bound_core.specs.Reaching.{Reaches}
use Rattle.bound_core.specs.ReferenceMachine.{BoundState}
use Rattle.bound_core.specs.ShardPort.{base_of, l1i_of, room_of, size_of}
use Rattle.bound_core.specs.ShardWorld.{ShardWorld, shards_serve}
use Rattle.bound_core.specs.TimedCore.{TimedCore, beside_cycles}
use Rattle.bound_core.specs.NumberedCores.{NumberedCore, timed_of}
use Rattle.bound_core.specs.IntervalBounds.{latest_clock, most_accesses}
use Rattle.bound_core.specs.Turn.{IsOver}
use Rattle.reference.proofs.Reaching.{at_itself}
use Rattle.bound_records.specs.CoreRuns.{AreNumbered, CanRunInterval, phase_in}
use Rattle.bound_records.specs.Recorders.{IsRecorderFor, RecorderState, core_room}
use Rattle.bound_records.specs.Turns.{HaveTaken, IsOnItsWay, phase_by}
use Rattle.bound_records.proofs.Lists.{all_empty}
use Rattle.bound_records.proofs.Turns.{latest_idle}

most_early : (end : ℕ) (c : TimedCore) → c.clock < end → most_accesses end c ≡ end - c.clock + 256
unfolding most_accesses
most_early end c early = let before : nat_lt c.clock end ≡ true = search rules in rw before refl

-- the most accesses of a core in an interval
abbrev pub core_most : Machine → ℕ
core_most machine = machine.interval + 256

-- and of all
abbrev pub all_most : Machine → ℕ
all_most machine = machine.cores * core_most machine

few_by : (machine : Machine) (begin end base size : ℕ) (l1i : Bool) (c : TimedCore) → begin ≡ end - machine.interval → CanRunInterval machine end base size l1i c → (halted : Option Why) → c.core.halted ≡ halted
    → IsOver end c ⊎ ((most_accesses end c ≤ core_most machine) × ((latest_clock end c ≤ end + 2 ^ 30) × (begin ≤ c.clock)))
few_by machine begin end base size l1i c begins ready (Some why) is = inl (record { idle = ready.idle; over = inl (ap is_some is) })
few_by machine begin end base size l1i c begins ready None is =
    elim (cases_lt c.clock end) [
      | inl early ↦ inr (omega (arith, most_early end c early, ready.left is), (omega (arith, latest_idle end c ready.idle ready.unfetched, early), omega (arith, begins, ready.left is)))
      | inr late ↦ inl (record { idle = ready.idle; over = inr (ready.unfetched, late) })
    ]

ready_goes : (machine : Machine) (begin end base size : ℕ) (l1i : Bool) (c : NumberedCore) → begin ≡ end - machine.interval → end ≤ 10 * 2 ^ 30 → CanRunInterval machine end base size l1i c.timed → machine.interval + beside_cycles ≤ c.spare
    → IsOnItsWay begin end base size l1i (core_most machine) c
ready_goes machine begin end base size l1i c begins small ready spare = record {
  few = few_by machine begin end base size l1i c.timed begins ready c.timed.core.halted refl;
  clock = omega (arith, latest_idle end c.timed ready.idle ready.unfetched, ready.clock, small);
  spare = omega (arith, spare);
  base_is = ready.base_is;
  size_is = ready.size_is;
  fetches = ready.fetches;
}

none_of : (core : ℕ) (entries : List Entry) → entries ≡ [] → of_core core [] ≡ entries
none_of core entries none = sym none

pub turns_begin : (time : Entry → ℕ) (machine : Machine) (image : MemoryImage) (end : ℕ) (cores : List NumberedCore) (r : RecorderState) → IsMachine machine → end ≤ 10 * 2 ^ 30 → r.begin ≡ end - machine.interval
    → IsRecorderFor machine r → base_of r.world ≡ machine.memory.base → size_of r.world ≡ machine.memory.size → machine.cores * core_room machine ≤ room_of r.world
    → ((i : ℕ) (es : List Entry) → slice_get r.lists i ≡ Some es → es ≡ [])
    → ((i : ℕ) (c : NumberedCore) → slice_get cores i ≡ Some c → CanRunInterval machine end (base_of r.world) (size_of r.world) (l1i_of r.world) c.timed)
    → ((i : ℕ) (c : NumberedCore) → slice_get cores i ≡ Some c → machine.interval + beside_cycles ≤ c.spare)
    → length cores ≡ machine.cores → AreNumbered cores
    → HaveTaken time image end (all_most machine) r (phase_in cores r) [] cores r
turns_begin time machine image end cores r is small begins recorder base size room none ready spare count numbered =
    let left = replicate (length cores) (core_most machine) in
    let many : length cores * core_most machine ≡ all_most machine = ap (λ (n : ℕ). n * core_most machine) count in
    let sum = sum_by-replicate (λ (n : ℕ). n) (length cores) (core_most machine) in
    let at : (i n : ℕ) → slice_get left i ≡ Some n → n ≡ core_most machine = (λ i n here.
    let within : i < length left = slice_get_within left i n here in
    let long = length-replicate (length cores) (core_most machine) in
    sym (get_or_from_slice_get left i n 0 here) ∙ get_or-replicate (length cores) i (core_most machine) 0 (omega (arith, within, long))) in
    let start : phase_in cores r ≡ phase_by cores r [] = ap (λ (es : List Entry). let s : BoundState ShardWorld = record { cores = timed_of cores; world = r.world; entries = es } in s) (all_empty r.lists none) in
    record {
      taken = [];
      reaches = subst (λ (s : BoundState ShardWorld). Reaches shards_serve time image end (phase_in cores r) [] s) start (at_itself shards_serve time image end (phase_in cores r));
      left = left;
      count = length-replicate (length cores) (core_most machine);
      each = λ i n c there here.
          subst (λ (k : ℕ). IsOnItsWay r.begin end (base_of r.world) (size_of r.world) (l1i_of r.world) k c) (sym (at i n there))
          (ready_goes machine r.begin end (base_of r.world) (size_of r.world) (l1i_of r.world) c begins small (ready i c here) (spare i c here));
      room = record {
        few = omega (arith, sum, many);
        room = (let some = is.cores.0 in let bigger = more_in_all machine.cores machine.interval some in omega (arith, room, bigger));
        each = λ i n es there here.
            let n_is = at i n there in
            let long : length es ≡ 0 = ap length (none i es here) in
            let fits = recorder.room in
            omega (arith, n_is, long, fits);
        stamps = recorder.stamps ∙ sym count;
        lists = recorder.lists ∙ sym count;
        banks = refl;
        base = base ∙ sym recorder.base;
        size = (let most = is.memory.size.1 in omega (arith, size, most));
        short = (let short = is.interval.1 in omega (arith, begins, short));
        as_was = refl;
      };
      numbered = numbered;
      own = λ core es here. none_of core es (none core es here);
      starts = λ k d below. absurd (omega (arith, below));
      reach = λ k d below. absurd (omega (arith, below));
    }
  where
    more_in_all : (cores interval : ℕ) → 1 ≤ cores → cores * (interval + 256) < cores * (interval + 258)
    more_in_all cores interval some = omega (arith, some)
