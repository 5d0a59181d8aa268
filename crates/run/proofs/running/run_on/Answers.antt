use Rattle.std.proofs.Common.{◌≡◌, ℕ, ◌+◌, ◌-◌, ◌^◌, ◌<◌, Vec, Global, List, ◌++◌, ◌∷◌, [], append_assoc, length, map, Ok, sym, ◌∙◌, ap, refl, subst, arith, rules, All, true, false}
use Rattle.std.specs.Prelude.{vec_len}
use Rattle.std.proofs.lemmas.List.{length-append}
use Rattle.access_record.specs.Unordered.{order_of}
use Rattle.bound_workers.specs.declared.ordering.Ordering.{Ordering}
use Rattle.reference.specs.ReferenceRun.{IsKeptInOrder, IsRunOf, after_intervals, first_state, has_ended}
use Rattle.reference.proofs.FirstIntervals.{nothing_run}
use Rattle.run.specs.Recording.{IsRecordedRun}
use Rattle.run.specs.Simulation.{LeadsTo}
use Rattle.run.specs.Waiting.{IsFirstPart, IsTurnList, lists_in, turns_in}
use Rattle.run.proofs.FirstParts.{AreFirstsKept, first_of_none, firsts_more}
use Rattle.run.proofs.NextInterval.{has_room}
use Rattle.run.proofs.RunEnds.{counted_results, numbered_results}
use Rattle.run.proofs.RunSoFar.{HasRunInOrder, accesses_are, below_limit, ends_with, further_in_order, goes, kept_in_order, ran_so, same_ending}
use Rattle.run.proofs.running.run_on.Goals as goal

-- the lists of those that wait
abbrev lists_by : Vec Ordering Global → List (List ℕ)
lists_by orders = map (λ o. order_of o.unordered) orders.items

pub loop-pace-init : goal.loop-pace-init
loop-pace-init g c =
    let machine = c.args.context.now.machine.now in
    let image = c.args.context.now.program.now in
    let first = c.requires.starts in
    let waiting : lists_in c.none-waiting.result ≡ [] = ap (λ (os : List Ordering). map (λ o. order_of o.unordered) os) c.none-waiting.ensures in
    let whole : List (List ℕ) = c.args.schedule.now.lists ++ lists_in c.none-waiting.result in
    let empty : whole ≡ [] = ap (λ (ls : List (List ℕ)). c.args.schedule.now.lists ++ ls) waiting ∙ ap (λ (ls : List (List ℕ)). ls ++ []) c.requires.empty in
    let none : length whole ≡ 0 = ap length empty in
    let no_orders = ap length c.none-waiting.ensures in
    let accesses = accesses_are machine (first_state machine image first.0) c.args.simulation first.2 in
    record {
      ran = record {
        run = record {
          comps = first.0;
          fresh = first.1;
          state = first_state machine image first.0;
          reached = ap (after_intervals machine image (first_state machine image first.0)) empty;
          as_long = sym none;
          come = first.2;
        };
        in_order = empty;
      };
      firsts = λ lists part. nothing_run machine image lists (first_of_none lists whole empty part) first.0 first.1;
      waiting = omega (arith, no_orders, c.none-waiting.result.orders.ok.0);
      turns = subst (All (IsTurnList c.args.schedule.now.cores)) (sym waiting) (λ k d below. absurd (omega (arith, below)));
      pace = omega (arith, c.here-pace.ensures, c.min.ensures, c.requires.workers.1);
      enough = omega (arith, c.here-pace.ensures, c.min.ensures, c.requires.posts);
      askers = refl;
      count = none;
      end = omega arith;
      small = omega arith;
      within = omega arith;
      accesses = omega (arith, accesses);
      cores = refl;
      recorded = c.requires.recording;
      on = refl;
    }

pub returns-clause-ok : goal.returns-clause-ok
returns-clause-ok g c =
    let machine = c.args.context.now.machine.now in
    let image = c.args.context.now.program.now in
    let lists : List (List ℕ) = c.loop-pace.schedule.lists ++ lists_in c.loop-pace.waiting in
    let p = c.loop-pace.simulation in
    let h = c.loop-pace.invariant.ran.run in
    let long : length h.state.intervals ≡ c.loop-pace.k = h.as_long ∙ c.loop-pace.invariant.count in
    let halts : c.has_ended.result ≡ true = search rules in
    let ends : has_ended machine h.state ≡ true = sym (same_ending machine h.state p h.come c.loop-pace.k long) ∙ sym c.has_ended.ensures ∙ halts in
    let run : IsRunOf machine image lists c.results.result = record {
      comps = h.comps;
      fresh = h.fresh;
      gives = ends_with machine image lists p h ends ∙ ap Ok (sym (c.results.ensures.results machine h.state h.come long));
    }
    in
    subst (λ (ls : List (List ℕ)). IsRunOf machine image ls c.results.result) (sym c.in_ok-tell.ensures.told) run

pub returns-clause-recorded : goal.returns-clause-recorded
returns-clause-recorded g c =
    let machine = c.args.context.now.machine.now in
    let image = c.args.context.now.program.now in
    let lists : List (List ℕ) = c.loop-pace.schedule.lists ++ lists_in c.loop-pace.waiting in
    let h = c.loop-pace.invariant.ran.run in
    let run : IsRecordedRun machine image lists c.loop-pace.recording = record { comps = h.comps; fresh = h.fresh; state = h.state; reached = h.reached; recorded = c.loop-pace.invariant.recorded } in
    subst (λ (ls : List (List ℕ)). IsRecordedRun machine image ls c.loop-pace.recording) (sym c.in_ok-tell.ensures.told) run

pub returns-clause-in_order : goal.returns-clause-in_order
returns-clause-in_order g c = c.loop-pace.invariant.firsts c.tell.new.schedule.lists c.tell.ensures.part

pub returns-in_err-tell-clause-in_order : goal.returns-in_err-tell-clause-in_order
returns-in_err-tell-clause-in_order g c = c.loop-pace.invariant.firsts c.tell.new.schedule.lists c.tell.ensures.part

pub tell-requires-clause-room : goal.tell-requires-clause-room
tell-requires-clause-room g c κs within =
    let was = c.loop-pace.invariant in
    omega (arith, was.count, was.within, c.requires.machine.intervals.1, length-append c.loop-pace.schedule.lists (lists_in c.loop-pace.waiting))

pub returns-clause-counted : goal.returns-clause-counted
returns-clause-counted g c =
    let h = c.loop-pace.invariant.ran.run in
    counted_results c.args.context.now.machine.now h.state c.loop-pace.simulation h.come c.results.result c.results.ensures.cores c.results.ensures.counts

pub returns-clause-numbered : goal.returns-clause-numbered
returns-clause-numbered g c =
    let h = c.loop-pace.invariant.ran.run in
    numbered_results c.args.context.now.machine.now h.state c.loop-pace.simulation h.come c.results.result c.results.ensures.numbers

pub run_interval-requires-clause-room : goal.run_interval-requires-clause-room
run_interval-requires-clause-room g c κs within =
    let was = c.loop-pace.invariant in
    let machine = c.args.context.now.machine.now in
    let image = c.args.context.now.program.now in
    let p = c.loop-pace.simulation in
    let running : c.has_ended.result ≡ false = search rules in
    let on = goes machine image (c.loop-pace.schedule.lists ++ lists_in c.loop-pace.waiting) p was.ran.run c.loop-pace.k c.loop-pace.end was.count was.end (sym c.has_ended.ensures ∙ running) in
    has_room machine (c.loop-pace.end + machine.interval) was.ran.run.state p on

pub run_interval-requires-clause-goes_on : goal.run_interval-requires-clause-goes_on
run_interval-requires-clause-goes_on g c κs within =
    let was = c.loop-pace.invariant in
    let running : c.has_ended.result ≡ false = search rules in
    (was.ran.run.state, goes c.args.context.now.machine.now c.args.context.now.program.now (c.loop-pace.schedule.lists ++ lists_in c.loop-pace.waiting) c.loop-pace.simulation was.ran.run c.loop-pace.k c.loop-pace.end was.count was.end (sym c.has_ended.ensures ∙ running))

pub run_interval-requires-clause-recording : goal.run_interval-requires-clause-recording
run_interval-requires-clause-recording g c κs within =
    let was = c.loop-pace.invariant in
    let h = was.ran.run in
    let few : length h.state.intervals < 2 ^ 32 - 1 = omega (arith, h.as_long, was.count, was.within, c.requires.machine.intervals.1) in
    record { intervals = h.state.intervals; few = few; is = was.recorded }

pub add-requires-clause-few : goal.add-requires-clause-few
add-requires-clause-few g c κs within =
    let same = ap (λ (v : Vec Ordering Global). vec_len v) c.run_interval.ensures.waiting in
    omega (arith, same, c.loop-pace.invariant.waiting)

pub add-requires-clause-lists : goal.add-requires-clause-lists
add-requires-clause-lists g c κs within =
    subst (All (IsTurnList c.loop-pace.schedule.cores)) (sym (ap lists_by c.run_interval.ensures.waiting)) c.loop-pace.invariant.turns

pub add-requires-clause-next : goal.add-requires-clause-next
add-requires-clause-next g c κs within =
    let known : c.loop-pace.schedule.cores ≡ c.args.context.now.machine.now.cores = c.loop-pace.invariant.cores ∙ c.requires.cores_known in
    subst (λ (n : ℕ). IsTurnList n (turns_in c.in_ok-next.order)) (sym known) c.in_ok-next.ensures.turns

pub add-requires-clause-room : goal.add-requires-clause-room
add-requires-clause-room g c κs within =
    let was = c.loop-pace.invariant in
    let same = ap (λ (v : Vec Ordering Global). length (lists_by v)) c.run_interval.ensures.waiting in
    omega (arith, same, was.count, was.within, c.requires.machine.intervals.1, length-append c.loop-pace.schedule.lists (lists_in c.loop-pace.waiting))

pub returns-in_err-add-clause-in_order : goal.returns-in_err-add-clause-in_order
returns-in_err-add-clause-in_order g c =
    let was = c.loop-pace.invariant in
    let machine = c.args.context.now.machine.now in
    let image = c.args.context.now.program.now in
    let whole : List (List ℕ) = c.loop-pace.schedule.lists ++ lists_in c.loop-pace.waiting in
    let p = c.loop-pace.simulation in
    let running : c.has_ended.result ≡ false = search rules in
    let come = goes machine image whole p was.ran.run c.loop-pace.k c.loop-pace.end was.count was.end (sym c.has_ended.ensures ∙ running) in
    let turns : List ℕ = turns_in c.in_ok-next.order in
    let q = c.in_ok-next.next in
    let gone = c.in_ok-next.ensures.goes_on was.ran.run.state come in
    let leads : LeadsTo machine image was.ran.run.state turns q = gone.leads in
    let ran : HasRunInOrder machine image (whole ++ turns ∷ []) q = further_in_order machine image whole p q was.ran turns come.on leads gone.in_order in
    let added : c.loop-pace.schedule.lists ++ (lists_in c.run_interval.new.waiting ++ turns ∷ []) ≡ whole ++ turns ∷ [] =
    ap (λ (v : Vec Ordering Global). c.loop-pace.schedule.lists ++ (lists_by v ++ turns ∷ [])) c.run_interval.ensures.waiting
    ∙ sym (append_assoc c.loop-pace.schedule.lists (lists_in c.loop-pace.waiting) (turns ∷ []))
    in
    firsts_more machine image whole turns was.firsts (kept_in_order machine image (whole ++ turns ∷ []) q ran) c.add.new.schedule.lists
    (subst (IsFirstPart c.add.new.schedule.lists) added c.add.ensures.part)

pub loop-pace-smaller : goal.loop-pace-smaller
loop-pace-smaller g c =
    let was = c.loop-pace.invariant in
    let running : c.has_ended.result ≡ false = search rules in
    let below = below_limit c.args.context.now.machine.now c.args.context.now.program.now (c.loop-pace.schedule.lists ++ lists_in c.loop-pace.waiting) c.loop-pace.simulation was.ran.run c.loop-pace.k c.loop-pace.end was.count was.end (sym c.has_ended.ensures ∙ running) was.within in
    let less : c.args.context.now.machine.now.intervals - (c.loop-pace.k + 1) < c.args.context.now.machine.now.intervals - c.loop-pace.k = omega (arith, below) in
    less

pub returns-in_err-next-clause-in_order : goal.returns-in_err-next-clause-in_order
returns-in_err-next-clause-in_order g c =
    c.loop-pace.invariant.firsts c.loop-pace.schedule.lists (record { rest = lists_in c.loop-pace.waiting; are = refl })

pub loop-pace-preserved : goal.loop-pace-preserved
loop-pace-preserved g c =
    let was = c.loop-pace.invariant in
    let machine = c.args.context.now.machine.now in
    let image = c.args.context.now.program.now in
    let whole : List (List ℕ) = c.loop-pace.schedule.lists ++ lists_in c.loop-pace.waiting in
    let p = c.loop-pace.simulation in
    let running : c.has_ended.result ≡ false = search rules in
    let test = sym c.has_ended.ensures ∙ running in
    let below = below_limit machine image whole p was.ran.run c.loop-pace.k c.loop-pace.end was.count was.end test was.within in
    let come = goes machine image whole p was.ran.run c.loop-pace.k c.loop-pace.end was.count was.end test in
    let turns : List ℕ = turns_in c.in_ok-next.order in
    let q = c.in_ok-next.next in
    let gone = c.in_ok-next.ensures.goes_on was.ran.run.state come in
    let leads : LeadsTo machine image was.ran.run.state turns q = gone.leads in
    let later : List (List ℕ) = c.add.new.schedule.lists ++ lists_in c.add.new.self in
    let added : later ≡ whole ++ turns ∷ [] =
    c.in_ok-add.ensures.kept
    ∙ (ap (λ (v : Vec Ordering Global). c.loop-pace.schedule.lists ++ (lists_by v ++ turns ∷ [])) c.run_interval.ensures.waiting
    ∙ sym (append_assoc c.loop-pace.schedule.lists (lists_in c.loop-pace.waiting) (turns ∷ [])))
    in
    let ran : HasRunInOrder machine image (whole ++ turns ∷ []) q = further_in_order machine image whole p q was.ran turns come.on leads gone.in_order in
    let firsts : AreFirstsKept machine image (whole ++ turns ∷ []) = firsts_more machine image whole turns was.firsts (kept_in_order machine image (whole ++ turns ∷ []) q ran) in
    let accesses = accesses_are machine leads.state q leads.come in
    record {
      ran = ran_so machine image (whole ++ turns ∷ []) later q (sym added) ran;
      firsts = λ lists part. firsts lists (subst (IsFirstPart lists) added part);
      waiting = c.in_ok-add.ensures.few;
      turns = subst (λ (n : ℕ). All (IsTurnList n) (lists_in c.add.new.self)) (sym c.add.ensures.cores) c.in_ok-add.ensures.lists;
      pace = omega (arith, was.pace, c.in_ok-next.ensures.pace);
      enough = omega (arith, was.enough, c.in_ok-next.ensures.pace);
      askers = c.add.ensures.askers ∙ (c.in_ok-next.ensures.askers ∙ was.askers);
      count = omega (arith, ap length added, length-append whole (turns ∷ []), was.count);
      end = omega (arith, was.end);
      small = omega (arith, was.small, c.requires.machine.interval);
      within = omega (arith, below);
      accesses = omega (arith, accesses, leads.come.counted.accesses);
      cores = c.add.ensures.cores ∙ was.cores;
      recorded = gone.recorded was.recorded;
      on = c.in_ok-next.ensures.on ∙ was.on;
    }
