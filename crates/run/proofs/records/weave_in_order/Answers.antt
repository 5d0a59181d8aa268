use Rattle.std.proofs.Common.{List, arith}
use Rattle.component.specs.declared.comp.Comp.{Comp}
use Rattle.bound_records.proofs.Lists.{length_recorded}
use Rattle.bound_records.specs.Recorders.{entries_of}
use Rattle.run.specs.IntervalWeave.{HaveFired}
use Rattle.run.specs.Records.{accesses_in}
use Rattle.run.proofs.GoneOn.{small_room}
use Rattle.run.proofs.records.weave_in_order.Goals as goal

pub fire_all-requires-clause-few : goal.fire_all-requires-clause-few
fire_all-requires-clause-few g c κs within =
    let r = c.args.recorder.now in
    omega (arith, c.in_ok-graph.ensures.few, length_recorded (entries_of r), c.requires.recorded.few, small_room c.args.context.now.machine.now c.requires.machine)

pub take_in-requires-clause-fired : goal.take_in-requires-clause-fired
take_in-requires-clause-fired g c =
    let machine = c.args.context.now.machine.now in
    let r = c.args.recorder.now in
    let comps : List Comp = c.args.comps.now in
    let has : HaveFired machine comps (accesses_in r) c.in_ok-graph.graph c.in_ok-fired.fired c.fire_all.new.comps = record { components = c.requires.components; events = c.in_ok-graph.ensures; fired_are = c.in_ok-fired.ensures.fired; after_are = c.in_ok-fired.ensures.comps } in
    (comps, has, c.requires.fits)

pub returns-clause-taken : goal.returns-clause-taken
returns-clause-taken g c =
    let machine = c.args.context.now.machine.now in
    let r = c.args.recorder.now in
    let comps : List Comp = c.args.comps.now in
    let has : HaveFired machine comps (accesses_in r) c.in_ok-graph.graph c.in_ok-fired.fired c.fire_all.new.comps = record { components = c.requires.components; events = c.in_ok-graph.ensures; fired_are = c.in_ok-fired.ensures.fired; after_are = c.in_ok-fired.ensures.comps } in
    c.in_ok-delays.ensures.taken comps has

pub returns-clause-recorded : goal.returns-clause-recorded
returns-clause-recorded g c =
    let machine = c.args.context.now.machine.now in
    let r = c.args.recorder.now in
    let comps : List Comp = c.args.comps.now in
    let has : HaveFired machine comps (accesses_in r) c.in_ok-graph.graph c.in_ok-fired.fired c.fire_all.new.comps = record { components = c.requires.components; events = c.in_ok-graph.ensures; fired_are = c.in_ok-fired.ensures.fired; after_are = c.in_ok-fired.ensures.comps } in
    c.in_ok-delays.ensures.recorded comps has
