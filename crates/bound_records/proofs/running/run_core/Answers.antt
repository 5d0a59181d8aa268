use Rattle.std.proofs.Common.{◌≡◌, ◌≤◌, ◌^◌, [], None, Some, sym, ap, ◌∙◌, arith, rules}
use Rattle.std.specs.Prelude.{IsSome, slice_get}
use Rattle.bound_core.specs.ShardPort.{base_of, size_of}
use Rattle.bound_records.proofs.Turns.{halted_stays, ran_to_end, reserved_runs}
use Rattle.bound_records.proofs.running.run_core.Goals as goal

pub returns-then-is_some : goal.returns-then-is_some
returns-then-is_some g c =
    let r = c.args.recorder in
    let halted : IsSome c.args.core.now.timed.core.halted = search rules in
    let none : slice_get r.lists c.args.core.now.number ≡ Some [] = ap (slice_get r.lists) c.requires.number ∙ c.requires.none in
    halted_stays c.args.machine.now c.args.program.now c.args.end c.args.core.now r c.requires.ready none halted

pub returns : goal.returns
returns g c =
    let machine = c.args.machine.now in
    let r = c.args.recorder in
    let core = c.args.core.now in
    let none : slice_get r.lists core.number ≡ Some [] = ap (slice_get r.lists) c.requires.number ∙ c.requires.none in
    let running : core.timed.core.halted ≡ None = search rules in
    let place : base_of r.world ≡ r.base = c.requires.base ∙ sym c.requires.recorder.base in
    let size = c.requires.size in
    let most = c.requires.machine.memory.size.1 in
    let small : size_of r.world ≤ 2 ^ 28 = omega (arith, size, most) in
    ran_to_end machine c.args.program.now c.args.end core r c.requires.ready none c.requires.end c.requires.machine.interval.1 c.requires.begin place small running
    c.run_on.new.core c.run_on.result
    (reserved_runs machine c.args.net.now c.args.program.now c.args.end core c.reserve.new.self c.run_on.new.core r c.run_on.result c.requires.net c.in_ok-reserve.ensures.timed c.in_ok-reserve.ensures.number c.run_on.ensures)
