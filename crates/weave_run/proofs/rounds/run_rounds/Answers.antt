-- The new floor lets the next event fire, and the round fires it.
use Rattle.std.proofs.Common.{◌≡◌, ◌+◌, ℕ, List, max, Option, Some, sym, ◌∙◌, ap, subst, arith}
use Rattle.std.specs.Prelude.{IfSome}
use Rattle.weave_core.specs.AtBarrier.{least_start_of}
use Rattle.weave_core.specs.DomainCalls.{DomainValue}
use Rattle.weave_core.specs.Keeping.{owns_of}
use Rattle.weave_run.specs.Rounds.{AreMet, HasRunRound, with_floors}
use Rattle.weave_run.specs.Teams.{IsTeam}
use Rattle.weave_run.proofs.Seatings.{team_higher}
use Rattle.weave_run.proofs.Rounding.{HasRounds, all_fired, lifted_met, next_round}
use Rattle.weave_run.proofs.rounds.run_rounds.Goals as goal

pub run_round-requires-clause-met : goal.run_round-requires-clause-met
run_round-requires-clause-met g c κs within =
    let least : ◌≡◌ {A = Option ℕ} (least_start_of c.args.plan.now.graph.value c.args.plan.now.parts.value (owns_of c.loop-round.domains.items)) (Some c.in-Some.front) =
    ap (λ (vs : List (DomainValue g.row.C.Denot)). least_start_of c.args.plan.now.graph.value c.args.plan.now.parts.value (owns_of vs)) (sym c.deref.ensures.value) ∙ (sym c.front_of.ensures.front ∙ c.in-Some.is)
    in
    subst (AreMet g.C.Component.stepped c.args.plan.now) (sym (c.raise_floors.ensures ∙ ap (λ (n : ℕ). with_floors n c.loop-round.domains.items) c.max-floor.ensures))
    (lifted_met g.C.Component.serves g.C.Component.floor g.C.Component.stepped g.C.Component.greatest c.domains_keep_to_the_weave.ensures c.args.plan.now c.requires.can c.loop-round.domains.items c.loop-round.floor c.loop-round.round c.loop-round.invariant.so_far
    c.in-Some.front least)

pub loop-round-preserved : goal.loop-round-preserved
loop-round-preserved g c =
    let least : ◌≡◌ {A = Option ℕ} (least_start_of c.args.plan.now.graph.value c.args.plan.now.parts.value (owns_of c.loop-round.domains.items)) (Some c.in-Some.front) =
    ap (λ (vs : List (DomainValue g.row.C.Denot)). least_start_of c.args.plan.now.graph.value c.args.plan.now.parts.value (owns_of vs)) (sym c.deref.ensures.value) ∙ (sym c.front_of.ensures.front ∙ c.in-Some.is)
    in
    let ran : HasRunRound g.C.Component.stepped c.args.plan.now (with_floors (max c.in-Some.front c.loop-round.floor) c.loop-round.domains.items) c.run_round.new.domains.items =
    subst (λ (vs : List (DomainValue g.row.C.Denot)). HasRunRound g.C.Component.stepped c.args.plan.now vs c.run_round.new.domains.items)
    (c.raise_floors.ensures ∙ ap (λ (n : ℕ). with_floors n c.loop-round.domains.items) c.max-floor.ensures) c.run_round.ensures.ran
    in
    record {
      so_far = subst (λ (n : ℕ). HasRounds g.C.Component.stepped c.args.plan.now c.run_round.new.domains.items n (c.loop-round.round + 1)) (sym c.max-floor.ensures)
          (next_round g.C.Component.serves g.C.Component.floor g.C.Component.stepped g.C.Component.greatest c.domains_keep_to_the_weave.ensures c.args.plan.now c.requires.can c.loop-round.domains.items c.loop-round.floor c.loop-round.round c.loop-round.invariant.so_far
          c.in-Some.front least c.run_round.new.domains.items c.in-Some.ensures.small ran);
      team = c.run_round.ensures.team;
    }

pub returns-clause-all : goal.returns-clause-all
returns-clause-all g c =
    let end = c.loop-round-test.false in
    let count = c.requires.events in
    all_fired g.C.Component.serves g.C.Component.floor g.C.Component.stepped g.C.Component.greatest c.domains_keep_to_the_weave.ensures c.args.plan.now c.requires.can c.loop-round.domains.items c.loop-round.floor c.loop-round.round c.loop-round.invariant.so_far
    (omega (arith, end, count))

pub run_round-requires-clause-team : goal.run_round-requires-clause-team
run_round-requires-clause-team g c κs within =
    subst (λ (vs : List (DomainValue g.row.C.Denot)). IfSome c.loop-round.team (IsTeam g.C.Component.stepped c.args.plan.now vs)) (sym c.raise_floors.ensures)
    (team_higher g.C.Component.stepped c.args.plan.now c.max-floor.result c.loop-round.domains.items c.loop-round.team c.loop-round.invariant.team)
