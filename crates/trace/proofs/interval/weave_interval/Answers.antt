use Rattle.trace.specs.TracedRun.{as_run}
use Rattle.trace.proofs.FiredInterval.{fired_behind}
use Rattle.trace.proofs.interval.weave_interval.Goals as goal

pub take_in-requires-clause-fired : goal.take_in-requires-clause-fired
take_in-requires-clause-fired g c =
    let machine = c.args.machine.now in
    let b = c.requires.bounded in (
      b.0,
      b.1,
      b.2,
      fired_behind machine b.0 b.1 b.2 (as_run machine c.args.run.now) c.args.entries c.in_ok-graph.graph c.in_ok-fired.fired c.weave_by_core.new.comps
          b.3 c.in_ok-graph.ensures c.in_ok-fired.ensures.fired c.in_ok-fired.ensures.comps,
    )

pub returns-clause-leads : goal.returns-clause-leads
returns-clause-leads g c = λ image s turns h.
    let machine = c.args.machine.now in
    let leads = c.in_ok-take_in.ensures.leads image s turns
    (fired_behind machine image s turns (as_run machine c.args.run.now) c.args.entries c.in_ok-graph.graph c.in_ok-fired.fired c.weave_by_core.new.comps
    h c.in_ok-graph.ensures c.in_ok-fired.ensures.fired c.in_ok-fired.ensures.comps)
    in
    leads.0

pub returns-clause-told : goal.returns-clause-told
returns-clause-told g c = λ image s turns h.
    let machine = c.args.machine.now in
    c.in_ok-take_in.ensures.told image s turns
    (fired_behind machine image s turns (as_run machine c.args.run.now) c.args.entries c.in_ok-graph.graph c.in_ok-fired.fired c.weave_by_core.new.comps
    h c.in_ok-graph.ensures c.in_ok-fired.ensures.fired c.in_ok-fired.ensures.comps)
