use Rattle.std.proofs.Common.{◌≡◌, length, ap, arith}
use Rattle.std.specs.Vec.{with_items}
use Rattle.std.proofs.lemmas.List.{with_items_is}
use Rattle.reference.specs.ReferenceRun.{time_of}
use Rattle.trace.specs.declared.traced_run.TracedRun.{TracedRun}
use Rattle.trace.proofs.BegunInterval.{accesses_fit, bounded_by, each_ready, keys_differ, told_from}
use Rattle.trace.proofs.interval.bound_under.Goals as goal

pub run_turns-requires-clause-ready : goal.run_turns-requires-clause-ready
run_turns-requires-clause-ready g c =
    each_ready c.args.machine.now c.args.program.now c.args.end c.args.run.now c.requires.room c.begin.new.self c.in_ok-begin.ensures.world c.in_ok-begin.ensures.none
    c.deref_mut.result.now c.deref_mut.ensures.value

pub run_turns-requires-clause-room : goal.run_turns-requires-clause-room
run_turns-requires-clause-room g c =
    accesses_fit c.args.machine.now c.args.program.now c.args.end c.args.run.now c.requires.room c.begin.new.self c.in_ok-begin.ensures.world c.in_ok-begin.ensures.none
    c.deref_mut.result.now c.deref_mut.ensures.value
    (omega (arith, c.access_room.ensures.value, c.in_ok-begin.ensures.room)) (omega (arith, c.access_room.ensures.value, c.access_room.ensures.small))

pub take_sorted-requires : goal.take_sorted-requires
take_sorted-requires g c =
    let machine = c.args.machine.now in
    let image = c.args.program.now in
    keys_differ machine image c.args.end c.args.run.now c.requires.room c.begin.new.self c.in_ok-begin.ensures.world c.in_ok-begin.ensures.none
    c.deref_mut.result.now c.deref_mut.ensures.value c.args.turns.now c.run_turns.new.cores c.run_turns.new.port c.in_ok-run_turns.ensures.turned
    (c.phases_are_histories.ensures (time_of machine) image c.args.end) c.rising_stamps_are_distinct.ensures c.stamps_rise.ensures

pub returns-clause-bounded : goal.returns-clause-bounded
returns-clause-bounded g c =
    let p = c.args.run.now in
    let machine = c.args.machine.now in
    let image = c.args.program.now in
    let after = c.run_turns.new.cores in
    let taken = c.in_ok-entries.ensures in
    let long : length after ≡ p.cores.len = omega (arith, c.run_turns.auto.cores, ap length c.deref_mut.ensures.value, p.cores.ok.0) in
    let q : TracedRun = record { cores = with_items p.cores after; port = c.take_sorted.new.self; comps = p.comps; counters = p.counters; way = c.run_turns.new.way } in
    bounded_by machine image c.args.end p c.requires.room c.begin.new.self c.in_ok-begin.ensures.world c.in_ok-begin.ensures.none
    c.deref_mut.result.now c.deref_mut.ensures.value c.args.turns.now after c.run_turns.new.port c.in_ok-run_turns.ensures.turned
    (c.phases_are_histories.ensures (time_of machine) image c.args.end)
    q (with_items_is p.cores after long) taken.world c.in_ok-entries.entries taken.entries

pub returns-clause-told : goal.returns-clause-told
returns-clause-told g c =
    told_from c.args.machine.now c.args.program.now c.args.end c.args.run.now c.requires.room c.begin.new.self c.in_ok-begin.ensures.world c.in_ok-begin.ensures.none
    c.deref_mut.result.now c.deref_mut.ensures.value c.args.turns.now (g.T.Tracer.steps c.args.tracer.now) (g.T.Tracer.steps c.run_turns.new.tracer) c.in_ok-run_turns.ensures.told
