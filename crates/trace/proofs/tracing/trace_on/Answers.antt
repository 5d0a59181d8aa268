use Rattle.std.proofs.Common.{◌≡◌, ◌<◌, ◌+◌, ◌-◌, ℕ, List, [], ◌∷◌, ◌++◌, get_or, length, drop, take, true, false, ◌^◌, Ok, Err, All, Some, refl, sym, ◌∙◌, ap, subst, arith, rules}
use Rattle.std.specs.Prelude.{slice_get}
use Rattle.std.proofs.lemmas.List.{append-nil, drop_more, length-take-le, take-append-drop, take_all, take_more}
use Rattle.std.proofs.lemmas.Option.{get_or_from_slice_get, slice_get_within}
use Rattle.reference.specs.ReferenceRun.{Illegal, IsIllegalAt, RunState, after_interval, first_state, has_ended, next_place, reference_run}
use Rattle.run.specs.Simulation.{HasNextInterval, LeadsTo}
use Rattle.run.proofs.NextInterval.{has_room}
use Rattle.run.proofs.RunEnds.{counted_results, numbered_results}
use Rattle.run.proofs.RunSoFar.{accesses_are, below_limit, ends_too_soon, ends_with, goes, goes_too_far, same_ending, stops_at}
use Rattle.replay.proofs.HandedOn.{of_place, replay_failed}
use Rattle.trace.specs.Trace.{run_steps}
use Rattle.trace.proofs.MachineSteps.{HasTold, told_further}
use Rattle.trace.specs.TracedRun.{as_run}
use Rattle.trace.proofs.tracing.trace_on.Goals as goal

pub loop-alloc-init : goal.loop-alloc-init
loop-alloc-init g c =
    let machine = c.args.machine.now in
    let image = c.args.program.now in
    let first = c.requires.starts in
    let accesses = accesses_are machine (first_state machine image first.0) (as_run c.args.machine.now c.args.run) first.2 in
    record {
      so_far = record {
        ran = record {
          comps = first.0;
          fresh = first.1;
          state = first_state machine image first.0;
          reached = refl;
          as_long = refl;
          come = first.2;
        };
        steps = sym (append-nil (g.T.Tracer.steps c.args.tracer.now));
      };
      net = c.of-net.ensures;
      count = omega arith;
      end = omega arith;
      small = omega arith;
      within = omega arith;
      accesses = omega (arith, accesses);
      fixed = refl;
    }

pub interval_under-requires-clause-room : goal.interval_under-requires-clause-room
interval_under-requires-clause-room g c =
    let was = c.loop-alloc.invariant in
    let machine = c.args.machine.now in
    let k = c.loop-alloc.k in
    let lists = c.args.schedule.now.lists in
    let running : c.has_ended.result ≡ false = search rules in
    let g = goes machine c.args.program.now (take k lists) (as_run c.args.machine.now c.loop-alloc.run) was.so_far.ran k c.loop-alloc.end (length-take-le k lists was.count) was.end (sym c.has_ended.ensures ∙ running) in
    has_room machine (c.loop-alloc.end + machine.interval) was.so_far.ran.state (as_run c.args.machine.now c.loop-alloc.run) g

pub interval_under-requires-clause-goes_on : goal.interval_under-requires-clause-goes_on
interval_under-requires-clause-goes_on g c =
    let was = c.loop-alloc.invariant in
    let k = c.loop-alloc.k in
    let lists = c.args.schedule.now.lists in
    let running : c.has_ended.result ≡ false = search rules in
    (was.so_far.ran.state, goes c.args.machine.now c.args.program.now (take k lists) (as_run c.args.machine.now c.loop-alloc.run) was.so_far.ran k c.loop-alloc.end (length-take-le k lists was.count) was.end (sym c.has_ended.ensures ∙ running))

pub returns-clause-counted : goal.returns-clause-counted
returns-clause-counted g c =
    let h = c.loop-alloc.invariant.so_far.ran in
    counted_results c.args.machine.now h.state (as_run c.args.machine.now c.loop-alloc.run) h.come c.results.result c.results.ensures.cores c.results.ensures.counts

pub returns-clause-numbered : goal.returns-clause-numbered
returns-clause-numbered g c =
    let h = c.loop-alloc.invariant.so_far.ran in
    numbered_results c.args.machine.now h.state (as_run c.args.machine.now c.loop-alloc.run) h.come c.results.result c.results.ensures.numbers

pub interval_under-requires-clause-known : goal.interval_under-requires-clause-known
interval_under-requires-clause-known g c =
    let k = c.loop-alloc.k in
    let lists = c.args.schedule.now.lists in
    let turns : List ℕ = c.list-turns.result.now in
    let there : slice_get lists k ≡ Some turns = c.list-turns.ensures in
    let is : get_or lists k turns ≡ turns = get_or_from_slice_get lists k turns turns there in
    let known = c.intervals-lists.ensures.turns.known k turns (slice_get_within lists k turns there) in
    subst (λ (n : ℕ). All (λ (number : ℕ). number < n) turns) c.requires.cores (subst (All (λ (number : ℕ). number < c.args.schedule.now.cores)) is known)

pub interval_under-requires-clause-few : goal.interval_under-requires-clause-few
interval_under-requires-clause-few g c =
    let k = c.loop-alloc.k in
    let lists = c.args.schedule.now.lists in
    let turns : List ℕ = c.list-turns.result.now in
    let there : slice_get lists k ≡ Some turns = c.list-turns.ensures in
    let is : get_or lists k turns ≡ turns = get_or_from_slice_get lists k turns turns there in
    subst (λ (ns : List ℕ). length ns < 2 ^ 32) is (c.intervals-lists.ensures.turns.short k turns (slice_get_within lists k turns there))

pub loop-alloc-smaller : goal.loop-alloc-smaller
loop-alloc-smaller g c =
    let lists = c.args.schedule.now.lists in
    let k = c.loop-alloc.k in
    let within : k < length lists = slice_get_within lists k c.list-turns.result.now c.list-turns.ensures in
    let less : length lists - (k + 1) < length lists - k = omega (arith, within) in
    less

pub loop-alloc-preserved : goal.loop-alloc-preserved
loop-alloc-preserved g c =
    let was = c.loop-alloc.invariant in
    let machine = c.args.machine.now in
    let image = c.args.program.now in
    let lists = c.args.schedule.now.lists in
    let k = c.loop-alloc.k in
    let p = as_run machine c.loop-alloc.run in
    let q = as_run machine c.interval_under.new.run in
    let turns : List ℕ = c.list-turns.result.now in
    let there : slice_get lists k ≡ Some turns = c.list-turns.ensures in
    let within : k < length lists = slice_get_within lists k turns there in
    let is : get_or lists k turns ≡ turns = get_or_from_slice_get lists k turns turns there in
    let running : c.has_ended.result ≡ false = search rules in
    let on = sym c.has_ended.ensures ∙ running in
    let long : length (take k lists) ≡ k = length-take-le k lists was.count in
    let below = below_limit machine image (take k lists) p was.so_far.ran k c.loop-alloc.end long was.end on was.within in
    let goes_on = goes machine image (take k lists) p was.so_far.ran k c.loop-alloc.end long was.end on in
    let leads : LeadsTo machine image was.so_far.ran.state turns q = c.in_ok-list.ensures.leads was.so_far.ran.state goes_on in
    let more : take k lists ++ turns ∷ [] ≡ take (k + 1) lists =
    ap (λ (ns : List ℕ). take k lists ++ ns ∷ []) (sym is) ∙ sym (take_more lists k turns within)
    in
    let before = g.T.Tracer.steps c.args.tracer.now in
    let told = g.T.Tracer.steps c.loop-alloc.tracer in
    let later = g.T.Tracer.steps c.interval_under.new.tracer in
    let so_far : HasTold machine image (take k lists ++ turns ∷ []) q before later =
    told_further machine image (take k lists) p q before told later was.so_far turns goes_on.on leads (c.in_ok-list.ensures.told was.so_far.ran.state goes_on)
    in
    let accesses = accesses_are machine leads.state q leads.come in
    record {
      so_far = subst (λ (all : List (List ℕ)). HasTold machine image all q before later) more so_far;
      net = was.net;
      count = omega (arith, within);
      end = omega (arith, was.end);
      small = omega (arith, was.small, c.requires.machine.interval);
      within = omega (arith, below);
      accesses = omega (arith, accesses, leads.come.counted.accesses);
      fixed = c.interval_under.ensures.fixed ∙ was.fixed;
    }

-- the schedule ends, and the run goes on
pub returns-then-k-lists-clause-gives : goal.returns-then-k-lists-clause-gives
returns-then-k-lists-clause-gives g c =
    let was = c.loop-alloc.invariant in
    let machine = c.args.machine.now in
    let image = c.args.program.now in
    let lists = c.args.schedule.now.lists in
    let k = c.loop-alloc.k in
    let p = as_run machine c.loop-alloc.run in
    let running : c.has_ended.result ≡ false = search rules in
    let long : length (take k lists) ≡ k = length-take-le k lists was.count in
    let g = goes machine image (take k lists) p was.so_far.ran k c.loop-alloc.end long was.end (sym c.has_ended.ensures ∙ running) in
    let all : take k lists ≡ lists = take_all k lists (omega (arith, c.if-k-lists.true, c.intervals-lists.ensures.value)) in
    let place : next_place was.so_far.ran.state ≡ record { interval = k; place = 0 } = ap (λ (n : ℕ). let at : Illegal = record { interval = n; place = 0 } in at) (was.so_far.ran.as_long ∙ long) in
    record {
      comps = was.so_far.ran.comps;
      fresh = was.so_far.ran.fresh;
      gives = ap (reference_run machine image was.so_far.ran.comps) (sym all) ∙ ends_too_soon machine image (take k lists) p was.so_far.ran g.on ∙ ap Err place;
    }

-- a place of a list is not legal
pub returns-in_err-list-clause-gives : goal.returns-in_err-list-clause-gives
returns-in_err-list-clause-gives g c =
    let was = c.loop-alloc.invariant in
    let machine = c.args.machine.now in
    let image = c.args.program.now in
    let lists = c.args.schedule.now.lists in
    let k = c.loop-alloc.k in
    let p = as_run machine c.loop-alloc.run in
    let turns : List ℕ = c.list-turns.result.now in
    let there : slice_get lists k ≡ Some turns = c.list-turns.ensures in
    let within : k < length lists = slice_get_within lists k turns there in
    let is : get_or lists k turns ≡ turns = get_or_from_slice_get lists k turns turns there in
    let running : c.has_ended.result ≡ false = search rules in
    let long : length (take k lists) ≡ k = length-take-le k lists was.count in
    let g = goes machine image (take k lists) p was.so_far.ran k c.loop-alloc.end long was.end (sym c.has_ended.ensures ∙ running) in
    let rest : List (List ℕ) = drop (k + 1) lists in
    let all : take k lists ++ turns ∷ rest ≡ lists =
    ap (λ (ns : List ℕ). take k lists ++ ns ∷ rest) (sym is) ∙ ap (λ (ls : List (List ℕ)). take k lists ++ ls) (sym (drop_more lists k turns within)) ∙ take-append-drop k lists
    in
    let Place : Illegal → Type 0 = λ at.
    (at.interval ≡ k)
    × ((s : RunState) → HasNextInterval machine (c.loop-alloc.end + machine.interval) s p → after_interval machine image s turns ≡ Err (record { interval = length s.intervals; place = at.place }))
    in
    let found : (at : Illegal) → Place at → IsIllegalAt machine image lists at = λ at why.
    let number : length was.so_far.ran.state.intervals ≡ at.interval = was.so_far.ran.as_long ∙ long ∙ sym why.0 in
    let same = ap (λ (n : ℕ). let other : Illegal = record { interval = n; place = at.place } in other) number in
    let stops : after_interval machine image was.so_far.ran.state turns ≡ Err at = why.1 was.so_far.ran.state g ∙ ap Err same in
    record {
      comps = was.so_far.ran.comps;
      fresh = was.so_far.ran.fresh;
      gives = ap (reference_run machine image was.so_far.ran.comps) (sym all) ∙ stops_at machine image (take k lists) turns rest p was.so_far.ran g.on at stops;
    }
    in
    replay_failed machine image lists _ c.from_residual.result c.from_residual.ensures.1 (of_place _ Place (IsIllegalAt machine image lists) found c.in_err-list.ensures.illegal)

-- the run has ended, and the schedule goes on
pub returns-then-k-lists-2-clause-gives : goal.returns-then-k-lists-2-clause-gives
returns-then-k-lists-2-clause-gives g c =
    let was = c.loop-alloc.invariant in
    let machine = c.args.machine.now in
    let image = c.args.program.now in
    let lists = c.args.schedule.now.lists in
    let k = c.loop-alloc.k in
    let p = as_run machine c.loop-alloc.run in
    let halts : c.has_ended.result ≡ true = search rules in
    let long : length (take k lists) ≡ k = length-take-le k lists was.count in
    let within : k < length lists = omega (arith, c.if-k-lists-2.true, c.intervals-lists.ensures.value) in
    let ends : has_ended machine was.so_far.ran.state ≡ true = sym (same_ending machine was.so_far.ran.state p was.so_far.ran.come k (was.so_far.ran.as_long ∙ long)) ∙ sym c.has_ended.ensures ∙ halts in
    let next : List ℕ = get_or lists k [] in
    let rest : List (List ℕ) = drop (k + 1) lists in
    let all : take k lists ++ next ∷ rest ≡ lists = ap (λ (ls : List (List ℕ)). take k lists ++ ls) (sym (drop_more lists k [] within)) ∙ take-append-drop k lists in
    let place : next_place was.so_far.ran.state ≡ record { interval = k; place = 0 } = ap (λ (n : ℕ). let at : Illegal = record { interval = n; place = 0 } in at) (was.so_far.ran.as_long ∙ long) in
    record {
      comps = was.so_far.ran.comps;
      fresh = was.so_far.ran.fresh;
      gives = ap (reference_run machine image was.so_far.ran.comps) (sym all) ∙ goes_too_far machine image (take k lists) next rest p was.so_far.ran ends ∙ ap Err place;
    }

pub returns-clause-gives : goal.returns-clause-gives
returns-clause-gives g c =
    let was = c.loop-alloc.invariant in
    let machine = c.args.machine.now in
    let image = c.args.program.now in
    let lists = c.args.schedule.now.lists in
    let k = c.loop-alloc.k in
    let p = as_run machine c.loop-alloc.run in
    let halts : c.has_ended.result ≡ true = search rules in
    let long : length (take k lists) ≡ k = length-take-le k lists was.count in
    let as_long : length was.so_far.ran.state.intervals ≡ k = was.so_far.ran.as_long ∙ long in
    let ends : has_ended machine was.so_far.ran.state ≡ true = sym (same_ending machine was.so_far.ran.state p was.so_far.ran.come k as_long) ∙ sym c.has_ended.ensures ∙ halts in
    let all : take k lists ≡ lists = take_all k lists (omega (arith, c.if-k-lists-2.false, c.intervals-lists.ensures.value)) in
    record {
      comps = was.so_far.ran.comps;
      fresh = was.so_far.ran.fresh;
      gives = ap (reference_run machine image was.so_far.ran.comps) (sym all) ∙ ends_with machine image (take k lists) p was.so_far.ran ends ∙ ap Ok (sym (c.results.ensures.results machine was.so_far.ran.state was.so_far.ran.come as_long));
    }

pub returns-clause-told : goal.returns-clause-told
returns-clause-told g c =
    let was = c.loop-alloc.invariant in
    let machine = c.args.machine.now in
    let image = c.args.program.now in
    let lists = c.args.schedule.now.lists in
    let k = c.loop-alloc.k in
    let before = g.T.Tracer.steps c.args.tracer.now in
    let start = first_state machine image was.so_far.ran.comps in
    let all : take k lists ≡ lists = take_all k lists (omega (arith, c.if-k-lists-2.false, c.intervals-lists.ensures.value)) in (
      run_steps machine image start lists,
      record { comps = was.so_far.ran.comps; fresh = was.so_far.ran.fresh; is = refl },
      was.so_far.steps ∙ ap (λ (ls : List (List ℕ)). before ++ run_steps machine image start ls) all,
    )
