use Rattle.std.proofs.Common.{◌≡◌, ◌+◌, None, refl, ap, ◌∙◌, arith}
use Rattle.bound_core.specs.NumberedCores.{NumberedCore}
use Rattle.reference.specs.TimedCore.{TimedCore}
use Rattle.reference.proofs.Accesses.{most_before}
use Rattle.bound_core.proofs.HitTurns.{came_on, none_soon}
use Rattle.bound_core.proofs.MetBehindHits.{before_end, comes_next, some_early}
use Rattle.bound_core.proofs.bounded.BoundCore.go_by_hits.Goals as goal

pub run_hits-came-requires-clause-room : goal.run_hits-came-requires-clause-room
run_hits-came-requires-clause-room g c =
    let early = c.if-may_go_on.ensures.early refl in
    omega (arith, most_before c.args.end c.args.self.now.timed early, c.stint-stint.ensures.accesses, c.requires.room)

pub overflow_add-self : goal.overflow_add-self
overflow_add-self g c =
    let ran = c.run_hits-came in
    let came = (came_on (g.X.Expand.time c.args.expansion.now) c.args.port.now ran.new.port ran.new.self ran.result.clock ran.result.count c.self.view_is c.stint-stint.ensures.is c.requires.core ran.ensures.same ran.ensures.gone).1 in
    let clock : c.self.inside.clock ≡ c.args.self.now.timed.clock = ap (λ (n : NumberedCore). n.timed.clock) c.self.view_is in
    omega (arith, clock, came.later, came.in_time, c.self.invariant.0, c.requires.end)

pub invariant_of-self : goal.invariant_of-self
invariant_of-self g c =
    let ran = c.run_hits-came in
    let came = (came_on (g.X.Expand.time c.args.expansion.now) c.args.port.now ran.new.port ran.new.self ran.result.clock ran.result.count c.self.view_is c.stint-stint.ensures.is c.requires.core ran.ensures.same ran.ensures.gone).1 in
    let clock : c.self.inside.clock ≡ c.args.self.now.timed.clock = ap (λ (n : NumberedCore). n.timed.clock) c.self.view_is in
    let none : c.self.inside.pace ≡ None = ap (λ (n : NumberedCore). n.timed.pace) c.self.view_is ∙ c.if-may_go_on.ensures.pace refl in
    (omega (arith, clock, came.later, c.self.invariant.0), none_soon c.self.inside.pace ran.result.clock none)

pub returns-then-may_go_on-clause-these : goal.returns-then-may_go_on-clause-these
returns-then-may_go_on-clause-these g c =
    let ran = c.run_hits-came in
    let came = (came_on (g.X.Expand.time c.args.expansion.now) c.args.port.now ran.new.port ran.new.self ran.result.clock ran.result.count c.self.view_is c.stint-stint.ensures.is c.requires.core ran.ensures.same ran.ensures.gone).1 in
    (came.entries, (came.many, came.these))

pub returns-then-may_go_on-clause-begun : goal.returns-then-may_go_on-clause-begun
returns-then-may_go_on-clause-begun g c =
    let ran = c.run_hits-came in
    let came = (came_on (g.X.Expand.time c.args.expansion.now) c.args.port.now ran.new.port ran.new.self ran.result.clock ran.result.count c.self.view_is c.stint-stint.ensures.is c.requires.core ran.ensures.same ran.ensures.gone).1 in
    omega (arith, came.later)

pub returns-then-may_go_on-clause-latest : goal.returns-then-may_go_on-clause-latest
returns-then-may_go_on-clause-latest g c =
    let ran = c.run_hits-came in
    let came = (came_on (g.X.Expand.time c.args.expansion.now) c.args.port.now ran.new.port ran.new.self ran.result.clock ran.result.count c.self.view_is c.stint-stint.ensures.is c.requires.core ran.ensures.same ran.ensures.gone).1 in
    came.latest

pub returns-then-may_go_on-clause-met : goal.returns-then-may_go_on-clause-met
returns-then-may_go_on-clause-met g c =
    let inside = c.self.inside in
    let ran = c.run_hits-came in
    let next : TimedCore = record { core = ran.new.self; clock = ran.result.clock; instructions = inside.instructions + ran.result.count; console = inside.console.items; pace = inside.pace } in
    let none : c.self.inside.pace ≡ None = ap (λ (n : NumberedCore). n.timed.pace) c.self.view_is ∙ c.if-may_go_on.ensures.pace refl in
    let early = before_end ran.result.met ran.result.clock c.stint-stint.ensures.is ran.ensures.early in
    comes_next (g.P.Program.image c.args.program.now) c.args.end next ran.result.met none ran.ensures.idle ran.ensures.line early ran.ensures.lies ran.ensures.met

pub returns-then-may_go_on-clause-early : goal.returns-then-may_go_on-clause-early
returns-then-may_go_on-clause-early g c =
    let ran = c.run_hits-came in
    some_early ran.result.met ran.result.clock c.args.end (before_end ran.result.met ran.result.clock c.stint-stint.ensures.is ran.ensures.early)

pub returns-then-may_go_on-clause-pace : goal.returns-then-may_go_on-clause-pace
returns-then-may_go_on-clause-pace g c =
    λ met. ap (λ (n : NumberedCore). n.timed.pace) c.self.view_is ∙ c.if-may_go_on.ensures.pace refl
