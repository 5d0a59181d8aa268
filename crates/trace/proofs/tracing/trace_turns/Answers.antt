use Rattle.std.proofs.Common.{◌≡◌, ◌<◌, ◌+◌, ◌-◌, ℕ, Vec, Global, List, [], ◌∷◌, ◌++◌, All, true, false, Ok, length, refl, sym, ◌∙◌, ap, subst, arith, rules}
use Rattle.std.proofs.lemmas.List.{append-nil, length-append, with_items_is}
use Rattle.rv_core.specs.declared.leg.Leg.{Leg}
use Rattle.access_log.specs.Schedule.{ScheduleState}
use Rattle.reference.specs.ReferenceRun.{after_intervals, first_state, has_ended}
use Rattle.run.specs.Simulation.{LeadsTo}
use Rattle.run.proofs.NextInterval.{has_room}
use Rattle.run.proofs.RunEnds.{counted_results, numbered_results}
use Rattle.run.proofs.RunSoFar.{accesses_are, below_limit, ends_with, goes, same_ending}
use Rattle.trace.specs.EachCore.{IsCoreAfterCore}
use Rattle.trace.specs.InTurn.{IsInTurn}
use Rattle.trace.specs.Trace.{run_steps}
use Rattle.trace.specs.TracedRun.{as_run}
use Rattle.trace.proofs.KeptInTurn.{in_turn_more, kept_in_turn, nothing_in_turn}
use Rattle.trace.proofs.MachineSteps.{HasTold, told_further}
use Rattle.trace.proofs.tracing.trace_turns.Goals as goal

pub returns-in_err-untold-clause-in_turn : goal.returns-in_err-untold-clause-in_turn
returns-in_err-untold-clause-in_turn g c =
    let first = c.requires.starts in
    nothing_in_turn c.args.machine.now c.args.program.now c.args.schedule.now.lists c.requires.empty first.0 first.1

pub loop-alloc-init : goal.loop-alloc-init
loop-alloc-init g c =
    let machine = c.args.machine.now in
    let image = c.args.program.now in
    let first = c.requires.starts in
    let start = first_state machine image first.0 in
    let lists = c.args.schedule.now.lists in
    let before = g.T.Tracer.steps c.args.tracer.now in
    let none = nothing_in_turn machine image lists c.requires.empty first.0 first.1 in
    let accesses = accesses_are machine start (as_run machine c.args.run) first.2 in
    record {
      so_far = record {
        ran = record {
          comps = first.0;
          fresh = first.1;
          state = start;
          reached = ap (after_intervals machine image start) c.requires.empty;
          as_long = sym (ap length c.requires.empty);
          come = first.2;
        };
        steps = sym (append-nil before) ∙ ap (λ (ls : List (List ℕ)). before ++ run_steps machine image start ls) (sym c.requires.empty);
      };
      in_turn = none.in_turn;
      net = c.of-net.ensures;
      lists = c.in_ok-untold.ensures;
      cores = refl;
      count = ap length c.requires.empty;
      end = omega arith;
      small = omega arith;
      within = omega arith;
      accesses = omega (arith, accesses);
      fixed = refl;
    }

pub interval_in_turn-requires-clause-room : goal.interval_in_turn-requires-clause-room
interval_in_turn-requires-clause-room g c =
    let was = c.loop-alloc.invariant in
    let machine = c.args.machine.now in
    let p = as_run machine c.loop-alloc.run in
    let running : c.has_ended.result ≡ false = search rules in
    let on = goes machine c.args.program.now c.loop-alloc.schedule.lists p was.so_far.ran c.loop-alloc.k c.loop-alloc.end was.count was.end (sym c.has_ended.ensures ∙ running) in
    has_room machine (c.loop-alloc.end + machine.interval) was.so_far.ran.state p on

pub interval_in_turn-requires-clause-goes_on : goal.interval_in_turn-requires-clause-goes_on
interval_in_turn-requires-clause-goes_on g c =
    let was = c.loop-alloc.invariant in
    let machine = c.args.machine.now in
    let running : c.has_ended.result ≡ false = search rules in
    (was.so_far.ran.state, goes machine c.args.program.now c.loop-alloc.schedule.lists (as_run machine c.loop-alloc.run) was.so_far.ran c.loop-alloc.k c.loop-alloc.end was.count was.end (sym c.has_ended.ensures ∙ running))

pub interval_in_turn-requires-clause-end : goal.interval_in_turn-requires-clause-end
interval_in_turn-requires-clause-end g c =
    omega (arith, c.loop-alloc.invariant.small, c.loop-alloc.invariant.within, c.requires.machine.interval.1, c.requires.machine.intervals.1)

pub returns-in_err-same-clause-in_turn : goal.returns-in_err-same-clause-in_turn
returns-in_err-same-clause-in_turn g c =
    let was = c.loop-alloc.invariant in
    let machine = c.args.machine.now in
    kept_in_turn machine c.args.program.now c.loop-alloc.schedule.lists (as_run machine c.loop-alloc.run) was.so_far.ran was.in_turn

pub push-requires-clause-cores : goal.push-requires-clause-cores
push-requires-clause-cores g c =
    let same : c.args.machine.now.cores ≡ c.loop-alloc.schedule.cores = sym c.requires.cores ∙ sym c.loop-alloc.invariant.cores in
    subst (λ (n : ℕ). All (λ (number : ℕ). number < n) c.in_ok-same.field-0.turns.items) same c.in_ok-same.ensures.known

pub push-requires-clause-count : goal.push-requires-clause-count
push-requires-clause-count g c = omega (arith, c.in_ok-same.ensures.few, c.in_ok-same.field-0.turns.ok.0)

pub push-requires-clause-room : goal.push-requires-clause-room
push-requires-clause-room g c =
    let was = c.loop-alloc.invariant in
    omega (arith, was.count, was.within, c.requires.machine.intervals.1)

pub returns-in_err-push-clause-in_turn : goal.returns-in_err-push-clause-in_turn
returns-in_err-push-clause-in_turn g c =
    let was = c.loop-alloc.invariant in
    let machine = c.args.machine.now in
    let kept : IsInTurn machine c.args.program.now c.loop-alloc.schedule.lists = kept_in_turn machine c.args.program.now c.loop-alloc.schedule.lists (as_run machine c.loop-alloc.run) was.so_far.ran was.in_turn in
    subst (λ (s : ScheduleState). IsInTurn machine c.args.program.now s.lists) (sym c.in_err-push.ensures.err) kept

pub loop-alloc-smaller : goal.loop-alloc-smaller
loop-alloc-smaller g c =
    let was = c.loop-alloc.invariant in
    let machine = c.args.machine.now in
    let k = c.loop-alloc.k in
    let running : c.has_ended.result ≡ false = search rules in
    let below = below_limit machine c.args.program.now c.loop-alloc.schedule.lists (as_run machine c.loop-alloc.run) was.so_far.ran k c.loop-alloc.end was.count was.end (sym c.has_ended.ensures ∙ running) was.within in
    let less : machine.intervals - (k + 1) < machine.intervals - k = omega (arith, below) in
    less

pub loop-alloc-preserved : goal.loop-alloc-preserved
loop-alloc-preserved g c =
    let was = c.loop-alloc.invariant in
    let machine = c.args.machine.now in
    let image = c.args.program.now in
    let lists : List (List ℕ) = c.loop-alloc.schedule.lists in
    let k = c.loop-alloc.k in
    let p = as_run machine c.loop-alloc.run in
    let q = as_run machine c.interval_in_turn.new.run in
    let turns : List ℕ = c.in_ok-same.field-0.turns.items in
    let running : c.has_ended.result ≡ false = search rules in
    let on = sym c.has_ended.ensures ∙ running in
    let below = below_limit machine image lists p was.so_far.ran k c.loop-alloc.end was.count was.end on was.within in
    let goes_on = goes machine image lists p was.so_far.ran k c.loop-alloc.end was.count was.end on in
    let leads : LeadsTo machine image was.so_far.ran.state turns q = c.in_ok-same.ensures.leads was.so_far.ran.state goes_on in
    let more : lists ++ turns ∷ [] ≡ c.push.new.self.lists = sym c.in_ok-push.ensures.ok in
    let before = g.T.Tracer.steps c.args.tracer.now in
    let told = g.T.Tracer.steps c.loop-alloc.tracer in
    let later = g.T.Tracer.steps c.interval_in_turn.new.tracer in
    let so_far : HasTold machine image (lists ++ turns ∷ []) q before later =
    told_further machine image lists p q before told later was.so_far turns goes_on.on leads (c.in_ok-same.ensures.told was.so_far.ran.state goes_on)
    in
    let accesses = accesses_are machine leads.state q leads.come in
    let others : List (Vec Leg Global) = c.interval_in_turn.new.untold in
    let same_lists : length others ≡ machine.cores = c.interval_in_turn.ensures.lists ∙ (ap length c.deref_mut.ensures.value ∙ was.lists) in
    let long : length others ≡ c.loop-alloc.untold.len = omega (arith, same_lists, was.lists, c.loop-alloc.untold.ok.0) in
    record {
      so_far = subst (λ (all : List (List ℕ)). HasTold machine image all q before later) more so_far;
      in_turn = subst (All IsCoreAfterCore) more (in_turn_more lists turns was.in_turn c.in_ok-same.ensures.in_turn);
      net = was.net;
      lists = ap length (with_items_is c.loop-alloc.untold others long) ∙ same_lists;
      cores = c.push.ensures.cores ∙ was.cores;
      count = omega (arith, ap length more, length-append lists (turns ∷ []), was.count);
      end = omega (arith, was.end);
      small = omega (arith, was.small, c.requires.machine.interval.1);
      within = omega (arith, below);
      accesses = omega (arith, accesses, leads.come.counted.accesses);
      fixed = c.interval_in_turn.ensures.fixed ∙ was.fixed;
    }

pub returns-clause-ran : goal.returns-clause-ran
returns-clause-ran g c =
    let was = c.loop-alloc.invariant in
    let machine = c.args.machine.now in
    let image = c.args.program.now in
    let lists = c.loop-alloc.schedule.lists in
    let p = as_run machine c.loop-alloc.run in
    let halts : c.has_ended.result ≡ true = search rules in
    let as_long : length was.so_far.ran.state.intervals ≡ c.loop-alloc.k = was.so_far.ran.as_long ∙ was.count in
    let ends : has_ended machine was.so_far.ran.state ≡ true = sym (same_ending machine was.so_far.ran.state p was.so_far.ran.come c.loop-alloc.k as_long) ∙ sym c.has_ended.ensures ∙ halts in
    record {
      comps = was.so_far.ran.comps;
      fresh = was.so_far.ran.fresh;
      gives = ends_with machine image lists p was.so_far.ran ends ∙ ap Ok (sym (c.results.ensures.results machine was.so_far.ran.state was.so_far.ran.come as_long));
    }

pub returns-clause-in_turn : goal.returns-clause-in_turn
returns-clause-in_turn g c =
    let was = c.loop-alloc.invariant in
    let machine = c.args.machine.now in
    kept_in_turn machine c.args.program.now c.loop-alloc.schedule.lists (as_run machine c.loop-alloc.run) was.so_far.ran was.in_turn

pub returns-clause-counted : goal.returns-clause-counted
returns-clause-counted g c =
    let h = c.loop-alloc.invariant.so_far.ran in
    counted_results c.args.machine.now h.state (as_run c.args.machine.now c.loop-alloc.run) h.come c.results.result c.results.ensures.cores c.results.ensures.counts

pub returns-clause-numbered : goal.returns-clause-numbered
returns-clause-numbered g c =
    let h = c.loop-alloc.invariant.so_far.ran in
    numbered_results c.args.machine.now h.state (as_run c.args.machine.now c.loop-alloc.run) h.come c.results.result c.results.ensures.numbers

pub returns-clause-told : goal.returns-clause-told
returns-clause-told g c =
    let was = c.loop-alloc.invariant in
    let machine = c.args.machine.now in
    let image = c.args.program.now in (
      run_steps machine image (first_state machine image was.so_far.ran.comps) c.loop-alloc.schedule.lists,
      record { comps = was.so_far.ran.comps; fresh = was.so_far.ran.fresh; is = refl },
      was.so_far.steps,
    )
