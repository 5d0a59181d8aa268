use Rattle.std.proofs.Common.{◌≡◌, [], sym, None, refl, ap, ◌∙◌, arith}
use Rattle.std.proofs.lemmas.List.{append-nil}
use Rattle.zs_num.specs.declared.entry.Outcome.TheVariants.{Hit}
use Rattle.rv_core.specs.Told.{told_of}
use Rattle.reference.proofs.Lists.{all_none}
use Rattle.bound_core.proofs.TheseTurns.{settles_itself}
use Rattle.bound_core.specs.NumberedCores.{NumberedCore}
use Rattle.reference.proofs.Accesses.{most_before}
use Rattle.bound_core.proofs.HitTurns.{none_soon, told_on}
use Rattle.bound_core.proofs.bounded.BoundCore.take_told_hits.Goals as goal

pub run_told_hits-came-requires-clause-room : goal.run_told_hits-came-requires-clause-room
run_told_hits-came-requires-clause-room g c =
    let early = c.if-may_go_on.ensures.early refl in
    omega (arith, most_before c.args.end c.args.self.now.timed early, c.stint-stint.ensures.accesses, c.requires.room)

pub overflow_add-self : goal.overflow_add-self
overflow_add-self g c =
    let ran = c.run_told_hits-came in
    let (told, going, way) = ran.ensures.gone in
    let came = told_on (g.X.Expand.time c.args.expansion.now) c.args.port.now ran.new.port ran.new.self ran.result.clock ran.result.count c.self.view_is c.stint-stint.ensures.is c.requires.core ran.ensures.same going in
    let clock : c.self.inside.clock ≡ c.args.self.now.timed.clock = ap (λ (n : NumberedCore). n.timed.clock) c.self.view_is in
    omega (arith, clock, came.later, came.in_time, c.self.invariant.0, c.requires.end)

pub invariant_of-self : goal.invariant_of-self
invariant_of-self g c =
    let ran = c.run_told_hits-came in
    let (told, going, way) = ran.ensures.gone in
    let came = told_on (g.X.Expand.time c.args.expansion.now) c.args.port.now ran.new.port ran.new.self ran.result.clock ran.result.count c.self.view_is c.stint-stint.ensures.is c.requires.core ran.ensures.same going in
    let clock : c.self.inside.clock ≡ c.args.self.now.timed.clock = ap (λ (n : NumberedCore). n.timed.clock) c.self.view_is in
    let none : c.self.inside.pace ≡ None = ap (λ (n : NumberedCore). n.timed.pace) c.self.view_is ∙ c.if-may_go_on.ensures.pace refl in
    (omega (arith, clock, came.later, c.self.invariant.0), none_soon c.self.inside.pace ran.result.clock none)

pub returns-then-may_go_on-clause-few : goal.returns-then-may_go_on-clause-few
returns-then-may_go_on-clause-few g c =
    let (told, going, way) = c.run_told_hits-came.ensures.gone in
    omega (arith, going.gone.few, c.stint-stint.ensures.accesses)

pub returns-then-may_go_on-clause-told : goal.returns-then-may_go_on-clause-told
returns-then-may_go_on-clause-told g c =
    let ran = c.run_told_hits-came in
    let (told, going, way) = ran.ensures.gone in
    let came = told_on (g.X.Expand.time c.args.expansion.now) c.args.port.now ran.new.port ran.new.self ran.result.clock ran.result.count c.self.view_is c.stint-stint.ensures.is c.requires.core ran.ensures.same going in
    record {
      entries = came.entries;
      told = told;
      many = came.many;
      these = came.these;
      tells = came.tells;
      hits = came.hits;
      way_is = way;
      stops = λ plain some all. came.stops (omega (arith, some, all)) plain (omega (arith, all, going.gone.few, c.stint-stint.ensures.accesses));
    }

pub returns-then-may_go_on-clause-begun : goal.returns-then-may_go_on-clause-begun
returns-then-may_go_on-clause-begun g c =
    let ran = c.run_told_hits-came in
    let (told, going, way) = ran.ensures.gone in
    let came = told_on (g.X.Expand.time c.args.expansion.now) c.args.port.now ran.new.port ran.new.self ran.result.clock ran.result.count c.self.view_is c.stint-stint.ensures.is c.requires.core ran.ensures.same going in
    omega (arith, came.later)

pub returns-then-may_go_on-clause-within : goal.returns-then-may_go_on-clause-within
returns-then-may_go_on-clause-within g c =
    let ran = c.run_told_hits-came in
    let (told, going, way) = ran.ensures.gone in
    let came = told_on (g.X.Expand.time c.args.expansion.now) c.args.port.now ran.new.port ran.new.self ran.result.clock ran.result.count c.self.view_is c.stint-stint.ensures.is c.requires.core ran.ensures.same going in
    omega (arith, came.in_time)

pub returns-then-may_go_on-clause-latest : goal.returns-then-may_go_on-clause-latest
returns-then-may_go_on-clause-latest g c =
    let ran = c.run_told_hits-came in
    let (told, going, way) = ran.ensures.gone in
    let came = told_on (g.X.Expand.time c.args.expansion.now) c.args.port.now ran.new.port ran.new.self ran.result.clock ran.result.count c.self.view_is c.stint-stint.ensures.is c.requires.core ran.ensures.same going in
    came.latest

pub returns-then-may_go_on-clause-port_room : goal.returns-then-may_go_on-clause-port_room
returns-then-may_go_on-clause-port_room g c =
    let (told, going, way) = c.run_told_hits-came.ensures.gone in
    going.gone.room

-- a core that does not go on
pub returns-else-may_go_on-clause-told : goal.returns-else-may_go_on-clause-told
returns-else-may_go_on-clause-told g c = record {
  entries = [];
  told = [];
  many = refl;
  these = (refl, settles_itself (g.X.Expand.time c.args.expansion.now) (g.P.Program.image c.args.program.now) c.args.end g.Q.Port.gives c.args.self.now.timed);
  tells = refl;
  hits = all_none (λ e. e.outcome ≡ Hit);
  way_is = sym (append-nil (told_of c.args.way.now.items));
  stops = λ plain some none. absurd (omega (arith, some, none));
}
