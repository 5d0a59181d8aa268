-- The domains keep their seats.
use Rattle.std.proofs.Common.{◌≡◌, List, Option, length, sym, ◌∙◌, ap, subst, arith}
use Rattle.std.specs.Prelude.{IfSome}
use Rattle.weave_core.specs.DomainCalls.{DomainValue}
use Rattle.component.specs.ComponentStep.{comp_step}
use Rattle.component.specs.declared.comp.Comp.{Comp}
use Rattle.weave_run.specs.Rounds.{HasRunRound}
use Rattle.weave_run.specs.Teams.{IsTeam}
use Rattle.weave_run.specs.declared.team.Team.{Team}
use Rattle.weave_run.proofs.Seatings.{team_after}
use Rattle.weave_run.proofs.Wovens.{lent}
use Rattle.weave_run.proofs.by_hands.run_round_by.Goals.{in-Some+else-beside, in_default}
use Rattle.weave_run.proofs.by_hands.run_round_by.Goals as goal

pub returns-clause-team : goal.returns-clause-team
returns-clause-team g c =
    let team : c.match-team.team ≡ c.args.team.now = elim c.match-team.branch [
      | in-Some+else-beside w ↦ w.team-is ∙ sym w.in-Some.is
      | in_default w ↦ w.team-is
    ] in
    let first : List (DomainValue Comp) = c.args.domains.now.items in
    let ran : HasRunRound comp_step c.args.plan.now first c.run_here.new.domains =
    subst (λ (vs : List (DomainValue Comp)). HasRunRound comp_step c.args.plan.now vs c.run_here.new.domains) c.as_mut_slice.ensures.value c.run_here.ensures
    in
    let size : c.args.domains.now.len ≡ length c.run_here.new.domains =
    (let a = c.args.domains.now.ok in let b = c.run_here.auto.domains in let d = ap length c.as_mut_slice.ensures.value in omega (arith, a, b, d))
    in
    subst (λ (vs : List (DomainValue Comp)). IfSome c.match-team.team (IsTeam comp_step c.args.plan.now vs)) (sym (lent c.args.domains.now.len c.run_here.new.domains _ size))
    (subst (λ (t : Option (Team Comp g.row.W.Denot)). IfSome t (IsTeam comp_step c.args.plan.now c.run_here.new.domains)) (sym team)
    (team_after comp_step c.args.plan.now first c.run_here.new.domains c.args.team.now c.requires.met.kept ran.has_met.met.kept ran.has_met.grow c.requires.team))
