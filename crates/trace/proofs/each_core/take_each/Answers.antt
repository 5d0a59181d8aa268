-- Each core takes its turns, and what is untold is told behind them all.
use Rattle.std.proofs.Common.{◌≡◌, ℕ, ◌+◌, ◌<◌, ◌≤◌, ◌++◌, All, get_or, length, List, map, Some, sym, ◌∙◌, ap, subst, arith}
use Rattle.std.specs.Prelude.{replicate, slice_get, slice_set}
use Rattle.std.proofs.lemmas.List.{length-append, length-map, length-replicate, length-set, map-set}
use Rattle.std.proofs.lemmas.Option.{slice_get-get_or, slice_get_within}
use Rattle.rv_core.specs.declared.leg.Leg.{Leg}
use Rattle.bound_core.specs.NumberedCores.{NumberedCore, timed_of}
use Rattle.bound_core.specs.ShardWorld.{shards_serve}
use Rattle.bound_core.specs.TimedCore.{TimedCore}
use Rattle.bound_core.specs.Turn.{IsOver}
use Rattle.bound_records.specs.Turns.{time_by_net}
use Rattle.bound_records.proofs.Lists.{get_mapped, set_cases}
use Rattle.reference.proofs.Reaching.{whole_phase}
use Rattle.run.proofs.Cores.{all_timed}
use Rattle.trace.specs.EachCore.{IsCoreAfterCore}
use Rattle.trace.specs.Port.{phase_of}
use Rattle.trace.specs.Turns.{HaveTaken}
use Rattle.trace.specs.Ways.{FitsLeg}
use Rattle.trace.proofs.CoresInTurn.{AreHeld, all_told, below_more, held_more, in_order_more}
use Rattle.trace.proofs.each_core.take_each.Goals as goal

pub take_own-requires-clause-number : goal.take_own-requires-clause-number
take_own-requires-clause-number g c =
    let n = c.loop-number.number in
    let cores = c.loop-number.cores in
    let begins = c.requires.begins in
    let h = c.loop-number.invariant.way begins.0 begins.1 in
    let below : n < length cores = omega (arith, c.loop-number-test.true, c.loop-number.auto.number-end, c.loop-number.auto.cores) in
    h.numbered n (get_or cores n c.index-cores-number.result) (slice_get-get_or cores n c.index-cores-number.result below)

pub take_own-requires-clause-taken : goal.take_own-requires-clause-taken
take_own-requires-clause-taken g c =
    let n = c.loop-number.number in
    let cores = c.loop-number.cores in
    let begins = c.requires.begins in
    let below : n < length cores = omega (arith, c.loop-number-test.true, c.loop-number.auto.number-end, c.loop-number.auto.cores) in
    record {
      most = begins.0;
      first = phase_of c.args.cores.now c.args.port.now;
      turns = c.loop-number.turns.items;
      cores = cores;
      here = slice_get-get_or cores n c.index-cores-number.result below;
      taken = c.loop-number.invariant.way begins.0 begins.1;
    }

pub loop-number-preserved : goal.loop-number-preserved
loop-number-preserved g c =
    let time = time_by_net c.args.net.now in
    let image = c.args.program.now in
    let end = c.args.end in
    let first = phase_of c.args.cores.now c.args.port.now in
    let n = c.loop-number.number in
    let cores = c.loop-number.cores in
    let port = c.loop-number.port in
    let untold = c.loop-number.untold in
    let turns : List ℕ = c.loop-number.turns.items in
    let was = c.loop-number.invariant in
    let core = get_or cores n c.index-cores-number.result in
    let below : n < length cores = omega (arith, c.loop-number-test.true, c.loop-number.auto.number-end, c.loop-number.auto.cores) in
    let here : slice_get cores n ≡ Some core = slice_get-get_or cores n c.index-cores-number.result below in
    let old = get_or untold n c.index-untold-number.result in
    let kept : n < length untold = omega (arith, below, was.lists, c.requires.lists, c.loop-number.auto.cores) in
    let place : slice_get untold n ≡ Some old = slice_get-get_or untold n c.index-untold-number.result kept in
    let all : List (List Leg) = map (λ legs. legs.items) untold in
    let there : slice_get all n ≡ Some old.items = get_mapped (λ legs. legs.items) untold n old place in
    let after = c.take_own.new.core in
    let last = c.take_own.new.port in
    let legs = c.take_own.new.untold in
    let did = c.in_ok-taken.ensures in
    let count = c.in_ok-taken.taken in
    let added : c.add_turns.new.turns.items ≡ turns ++ replicate count n = c.in_ok-add_turns.ensures in
    let steps = g.T.Tracer.steps c.args.tracer.now in
    let now = g.T.Tracer.steps c.loop-number.tracer in
    let later = g.T.Tracer.steps c.take_own.new.tracer in
    let timed : slice_set (timed_of cores) n after.timed ≡ timed_of (slice_set cores n after) = sym (map-set (λ (c : NumberedCore). c.timed) cores n after) in
    let lists : slice_set all n legs.items ≡ map (λ legs. legs.items) (slice_set untold n legs) = sym (map-set (λ legs. legs.items) untold n legs) in
    let held : AreHeld time image end first steps (n + 1) (slice_set (timed_of cores) n after.timed) last (slice_set all n legs.items) (turns ++ replicate count n) later =
    held_more time image end first steps n count (timed_of cores) port last all turns now later core.timed after.timed old.items legs.items was.held (get_mapped (λ (c : NumberedCore). c.timed) cores n core here) there did.told did.over
    in
    record {
      way = λ most begins.
          subst (λ (ns : List ℕ). HaveTaken time image end most first ns (slice_set cores n after) last) (sym added) (did.taken most first turns cores here (was.way most begins));
      over = λ i x before found. set_cases cores n i core after x here found (λ y. IsOver end y.timed) (λ same. did.over) (λ apart other. was.over i x (omega (arith, before, apart)) other);
      held = subst (λ (ns : List ℕ). AreHeld time image end first steps (n + 1) (timed_of (slice_set cores n after)) last (map (λ legs. legs.items) (slice_set untold n legs)) ns later) (sym added)
          (subst (λ (ls : List (List Leg)). AreHeld time image end first steps (n + 1) (timed_of (slice_set cores n after)) last ls (turns ++ replicate count n) later) lists
          (subst (λ (cs : List TimedCore). AreHeld time image end first steps (n + 1) cs last (slice_set all n legs.items) (turns ++ replicate count n) later) timed held));
      fits = λ i ls before found.
          set_cases all n i old.items legs.items ls there (ap (λ (l : List (List Leg)). slice_get l i) lists ∙ found) (All FitsLeg) (λ same. did.fits) (λ apart other. was.fits i ls (omega (arith, before, apart)) other);
      lists = length-set untold n legs ∙ was.lists;
      in_order = subst IsCoreAfterCore (sym added) (in_order_more turns count n was.in_order was.below);
      below = subst (All (λ core. core < n + 1)) (sym added) (below_more turns count n was.below);
      many = omega (arith, was.many, did.many, ap length added, length-append turns (replicate count n), length-replicate count n);
      fixed = did.fixed ∙ was.fixed;
    }

pub tell_untold-requires-clause-fits : goal.tell_untold-requires-clause-fits
tell_untold-requires-clause-fits g c = λ k d within.
    let untold = c.loop-number.untold in
    let before : k < c.loop-number.number =
    omega (arith, within, c.loop-number.invariant.lists, c.requires.lists, c.loop-number-test.false, c.loop-number.auto.number-end)
    in
    let legs = get_or untold k d in
    c.loop-number.invariant.fits k legs.items before (get_mapped (λ legs. legs.items) untold k legs (slice_get-get_or untold k d within))

pub returns-clause-legal : goal.returns-clause-legal
returns-clause-legal g c =
    let begins = c.requires.begins in
    let h = c.loop-number.invariant.way begins.0 begins.1 in
    whole_phase shards_serve (time_by_net c.args.net.now) c.args.program.now c.args.end (phase_of c.args.cores.now c.args.port.now) (phase_of c.loop-number.cores c.loop-number.port) c.loop-number.turns.items h.reaches
    (all_timed (IsOver c.args.end) c.loop-number.cores (λ i core here.
    c.loop-number.invariant.over i core (omega (arith, slice_get_within c.loop-number.cores i core here, c.loop-number-test.false, c.loop-number.auto.number-end, c.loop-number.auto.cores)) here))

pub returns-clause-told : goal.returns-clause-told
returns-clause-told g c =
    let cores = c.loop-number.cores in
    let untold = c.loop-number.untold in
    let past : length (timed_of cores) ≤ c.loop-number.number = omega (arith, length-map cores (λ (c : NumberedCore). c.timed), c.loop-number-test.false, c.loop-number.auto.number-end, c.loop-number.auto.cores) in
    let many : length (map (λ legs. legs.items) untold) ≡ length (timed_of cores) =
    omega (arith, length-map cores (λ (c : NumberedCore). c.timed), length-map untold (λ legs. legs.items), c.loop-number.invariant.lists, c.requires.lists, c.loop-number.auto.cores)
    in
    c.in_ok-tell_untold.ensures.told
    ∙ all_told (time_by_net c.args.net.now) c.args.program.now c.args.end (phase_of c.args.cores.now c.args.port.now) (g.T.Tracer.steps c.args.tracer.now) c.loop-number.number (timed_of cores) c.loop-number.port
    (map (λ legs. legs.items) untold) c.loop-number.turns.items (g.T.Tracer.steps c.loop-number.tracer) c.loop-number.invariant.held past many

pub returns-clause-over : goal.returns-clause-over
returns-clause-over g c =
    all_timed (IsOver c.args.end) c.loop-number.cores (λ i core here.
    c.loop-number.invariant.over i core (omega (arith, slice_get_within c.loop-number.cores i core here, c.loop-number-test.false, c.loop-number.auto.number-end, c.loop-number.auto.cores)) here)

pub returns-clause-known : goal.returns-clause-known
returns-clause-known g c = λ k d within.
    let less = c.loop-number.invariant.below k d within in
    omega (arith, less, c.loop-number.auto.number-end)
