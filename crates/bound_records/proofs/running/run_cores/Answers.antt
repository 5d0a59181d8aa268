use Rattle.std.proofs.Common.{◌≡◌, ◌<◌, ℕ, get_or, length, Some, sym, ◌∙◌, subst, arith}
use Rattle.std.specs.Prelude.{slice_get}
use Rattle.std.proofs.lemmas.Option.{slice_get-get_or}
use Rattle.bound_records.specs.CoreRuns.{HaveRecorded}
use Rattle.bound_records.proofs.OneMore.{at_start, list_there, none_ran, one_more, room_left, still_for}
use Rattle.bound_records.proofs.running.run_cores.Goals as goal

pub loop-number-init : goal.loop-number-init
loop-number-init g c = none_ran c.args.machine.now c.args.program.now c.args.end c.args.cores.now c.args.recorder c.requires.numbered c.requires.none

pub run_core-requires-clause-recorder : goal.run_core-requires-clause-recorder
run_core-requires-clause-recorder g c κs within = still_for c.args.machine.now c.args.program.now c.args.end c.loop-number.number c.args.cores.now c.loop-number.cores c.args.recorder c.loop-number.recorder c.loop-number.invariant c.requires.recorder

pub run_core-requires-clause-begin : goal.run_core-requires-clause-begin
run_core-requires-clause-begin g c κs within = let h = c.loop-number.invariant in h.begin_is ∙ c.requires.begin

pub run_core-requires-clause-base : goal.run_core-requires-clause-base
run_core-requires-clause-base g c κs within = let h = c.loop-number.invariant in h.base_stays ∙ c.requires.base

pub run_core-requires-clause-size : goal.run_core-requires-clause-size
run_core-requires-clause-size g c κs within = let h = c.loop-number.invariant in h.size_stays ∙ c.requires.size

pub run_core-requires-clause-ready : goal.run_core-requires-clause-ready
run_core-requires-clause-ready g c κs within =
    let machine = c.args.machine.now in
    let h = c.loop-number.invariant in
    let n = c.loop-number.number in
    let core = get_or c.loop-number.cores n c.index-cores-number.result in
    let below : n < length c.loop-number.cores = omega (arith, c.loop-number-test.true, c.loop-number.auto.number-end, c.loop-number.auto.cores) in
    let here : slice_get c.loop-number.cores n ≡ Some core = slice_get-get_or c.loop-number.cores n c.index-cores-number.result below in
    let was : slice_get c.args.cores.now n ≡ Some core = sym (h.rest n (omega arith)) ∙ here in
    at_start machine c.args.end core c.args.recorder.world c.loop-number.recorder.world h.base_stays h.size_stays h.l1i_stays (c.requires.ready n core was)

pub run_core-requires-clause-number : goal.run_core-requires-clause-number
run_core-requires-clause-number g c κs within =
    let h = c.loop-number.invariant in
    let n = c.loop-number.number in
    let below : n < length c.loop-number.cores = omega (arith, c.loop-number-test.true, c.loop-number.auto.number-end, c.loop-number.auto.cores) in
    h.numbered n (get_or c.loop-number.cores n c.index-cores-number.result) (slice_get-get_or c.loop-number.cores n c.index-cores-number.result below)

pub run_core-requires-clause-none : goal.run_core-requires-clause-none
run_core-requires-clause-none g c κs within =
    let h = c.loop-number.invariant in
    let n = c.loop-number.number in
    let lists = c.requires.recorder.lists in
    let below : n < length c.args.recorder.lists = omega (arith, c.loop-number-test.true, c.loop-number.auto.number-end, c.loop-number.auto.cores, c.requires.count, lists) in
    list_there c.args.machine.now c.args.program.now c.args.end n c.args.cores.now c.loop-number.cores c.args.recorder c.loop-number.recorder h below

pub run_core-requires-clause-room : goal.run_core-requires-clause-room
run_core-requires-clause-room g c κs within =
    let h = c.loop-number.invariant in
    let n = c.loop-number.number in
    let machine = c.args.machine.now in
    let below : n < machine.cores = omega (arith, c.loop-number-test.true, c.loop-number.auto.number-end, c.loop-number.auto.cores, c.requires.count) in
    room_left machine c.args.program.now c.args.end n c.args.cores.now c.loop-number.cores c.args.recorder c.loop-number.recorder h below c.requires.room

pub loop-number-preserved : goal.loop-number-preserved
loop-number-preserved g c =
    let machine = c.args.machine.now in
    let n = c.loop-number.number in
    let core = get_or c.loop-number.cores n c.index-cores-number.result in
    let below : n < length c.loop-number.cores = omega (arith, c.loop-number-test.true, c.loop-number.auto.number-end, c.loop-number.auto.cores) in
    let lists = c.requires.recorder.lists in
    let there : n < length c.args.recorder.lists = omega (arith, below, c.loop-number.auto.cores, c.requires.count, lists) in
    one_more machine c.args.program.now c.args.end n c.args.cores.now c.loop-number.cores c.args.recorder c.loop-number.recorder c.in_ok-recorder.recorder c.loop-number.invariant
    core c.run_core.new.core (slice_get-get_or c.loop-number.cores n c.index-cores-number.result below)
    (list_there machine c.args.program.now c.args.end n c.args.cores.now c.loop-number.cores c.args.recorder c.loop-number.recorder c.loop-number.invariant there)
    c.in_ok-recorder.ensures

pub returns : goal.returns
returns g c =
    let machine = c.args.machine.now in
    let all : c.loop-number.number ≡ machine.cores = omega (arith, c.loop-number-test.false, c.loop-number.auto.number-end, c.loop-number.auto.cores, c.requires.count) in
    subst (λ (n : ℕ). HaveRecorded machine c.args.program.now c.args.end n c.args.cores.now c.loop-number.cores c.args.recorder c.loop-number.recorder) all c.loop-number.invariant
