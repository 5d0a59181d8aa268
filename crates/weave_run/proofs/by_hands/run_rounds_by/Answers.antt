-- The new floor lets the next event fire, and the round fires it.
use Rattle.std.proofs.Common.{◌≡◌, ◌+◌, ℕ, List, max, Option, Some, sym, ◌∙◌, ap, subst, arith}
use Rattle.std.specs.Prelude.{IfSome}
use Rattle.weave_core.specs.AtBarrier.{least_start_of}
use Rattle.weave_core.specs.DomainCalls.{DomainValue}
use Rattle.weave_core.specs.Keeping.{owns_of}
use Rattle.component.specs.ComponentStep.{comp_step}
use Rattle.component.specs.Greatest.{comp_greatest}
use Rattle.component.specs.Serving.{comp_latency, comp_serves}
use Rattle.component.specs.declared.comp.Comp.{Comp}
use Rattle.weave_run.specs.Rounds.{AreMet, HasRunRound, with_floors}
use Rattle.weave_run.specs.Teams.{IsTeam}
use Rattle.weave_run.proofs.Seatings.{team_higher}
use Rattle.weave_run.proofs.Rounding.{HasRounds, all_fired, lifted_met, next_round}
use Rattle.weave_run.proofs.by_hands.run_rounds_by.Goals as goal

pub run_round_by-requires-clause-met : goal.run_round_by-requires-clause-met
run_round_by-requires-clause-met g c =
    let least : ◌≡◌ {A = Option ℕ} (least_start_of c.args.plan.now.graph.value c.args.plan.now.parts.value (owns_of c.loop-round.domains.items)) (Some c.in-Some.front) =
    ap (λ (vs : List (DomainValue Comp)). least_start_of c.args.plan.now.graph.value c.args.plan.now.parts.value (owns_of vs)) (sym c.deref.ensures.value) ∙ (sym c.front_of.ensures.front ∙ c.in-Some.is)
    in
    subst (AreMet comp_step c.args.plan.now) (sym (c.raise_floors.ensures ∙ ap (λ (n : ℕ). with_floors n c.loop-round.domains.items) c.max-floor.ensures))
    (lifted_met comp_serves comp_latency comp_step comp_greatest c.domains_keep_to_the_weave.ensures c.args.plan.now c.requires.can c.loop-round.domains.items c.loop-round.floor c.loop-round.round c.loop-round.invariant.so_far
    c.in-Some.front least)

pub loop-round-preserved : goal.loop-round-preserved
loop-round-preserved g c =
    let least : ◌≡◌ {A = Option ℕ} (least_start_of c.args.plan.now.graph.value c.args.plan.now.parts.value (owns_of c.loop-round.domains.items)) (Some c.in-Some.front) =
    ap (λ (vs : List (DomainValue Comp)). least_start_of c.args.plan.now.graph.value c.args.plan.now.parts.value (owns_of vs)) (sym c.deref.ensures.value) ∙ (sym c.front_of.ensures.front ∙ c.in-Some.is)
    in
    let ran : HasRunRound comp_step c.args.plan.now (with_floors (max c.in-Some.front c.loop-round.floor) c.loop-round.domains.items) c.run_round_by.new.domains.items =
    subst (λ (vs : List (DomainValue Comp)). HasRunRound comp_step c.args.plan.now vs c.run_round_by.new.domains.items)
    (c.raise_floors.ensures ∙ ap (λ (n : ℕ). with_floors n c.loop-round.domains.items) c.max-floor.ensures) c.run_round_by.ensures.ran
    in
    record {
      so_far = subst (λ (n : ℕ). HasRounds comp_step c.args.plan.now c.run_round_by.new.domains.items n (c.loop-round.round + 1)) (sym c.max-floor.ensures)
          (next_round comp_serves comp_latency comp_step comp_greatest c.domains_keep_to_the_weave.ensures c.args.plan.now c.requires.can c.loop-round.domains.items c.loop-round.floor c.loop-round.round c.loop-round.invariant.so_far
          c.in-Some.front least c.run_round_by.new.domains.items c.in-Some.ensures.small ran);
      team = c.run_round_by.ensures.team;
      hands = c.run_round_by.ensures.hands ∙ c.loop-round.invariant.hands;
    }

pub returns-clause-all : goal.returns-clause-all
returns-clause-all g c =
    let end = c.loop-round-test.false in
    let count = c.requires.events in
    all_fired comp_serves comp_latency comp_step comp_greatest c.domains_keep_to_the_weave.ensures c.args.plan.now c.requires.can c.loop-round.domains.items c.loop-round.floor c.loop-round.round c.loop-round.invariant.so_far
    (omega (arith, end, count))

pub run_round_by-requires-clause-team : goal.run_round_by-requires-clause-team
run_round_by-requires-clause-team g c =
    subst (λ (vs : List (DomainValue Comp)). IfSome c.loop-round.team (IsTeam comp_step c.args.plan.now vs)) (sym c.raise_floors.ensures)
    (team_higher comp_step c.args.plan.now c.max-floor.result c.loop-round.domains.items c.loop-round.team c.loop-round.invariant.team)
