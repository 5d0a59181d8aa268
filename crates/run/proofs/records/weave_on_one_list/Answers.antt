use Rattle.std.proofs.Common.{List, [], arith}
use Rattle.component.specs.declared.comp.Comp.{Comp}
use Rattle.run.specs.IntervalWeave.{HaveFired}
use Rattle.run.specs.Records.{accesses_in}
use Rattle.run.proofs.records.weave_on_one_list.Goals as goal

pub take_in-requires-clause-fired : goal.take_in-requires-clause-fired
take_in-requires-clause-fired c =
    let machine = c.args.machine.now in
    let r = c.args.recorder.now in
    let comps : List Comp = c.args.comps.now in
    let has : HaveFired machine comps (accesses_in r) c.in_ok-graph.graph c.in_ok-fired.fired c.weave_seq.new.comps = record { components = c.requires.components; events = c.in_ok-graph.ensures; fired_are = c.in_ok-fired.ensures.fired; after_are = c.in_ok-fired.ensures.comps } in
    (comps, has, c.requires.fits)

-- no events are kept
pub take_in-requires-clause-recording : goal.take_in-requires-clause-recording
take_in-requires-clause-recording c = record { intervals = []; few = omega arith; is = tt }

pub returns : goal.returns
returns c =
    let machine = c.args.machine.now in
    let r = c.args.recorder.now in
    let comps : List Comp = c.args.comps.now in
    let has : HaveFired machine comps (accesses_in r) c.in_ok-graph.graph c.in_ok-fired.fired c.weave_seq.new.comps = record { components = c.requires.components; events = c.in_ok-graph.ensures; fired_are = c.in_ok-fired.ensures.fired; after_are = c.in_ok-fired.ensures.comps } in
    c.in_ok-delays.ensures.taken comps has
