-- Each core goes ahead, and then ends its interval.
use Rattle.std.proofs.Common.{◌≡◌, ◌<◌, ◌≤◌, ◌++◌, ℕ, List, ◌∙◌, get_or, length, true, false, Some, refl, sym, ap, subst, arith, rules}
use Rattle.std.specs.Prelude.{is_some, slice_get, slice_set}
use Rattle.std.proofs.lemmas.List.{length-set}
use Rattle.std.proofs.lemmas.Option.{slice_get-get_or, slice_get_within}
use Rattle.bound_core.specs.NumberedCores.{NumberedCore}
use Rattle.bound_core.specs.TimedCore.{asks}
use Rattle.bound_core.specs.Turn.{IsOver}
use Rattle.trace.specs.Trace.{steps_alone}
use Rattle.trace.specs.Turns.{HaveTaken, chosen}
use Rattle.bound_records.specs.Turns.{time_by_net}
use Rattle.run.proofs.Cores.{all_timed}
use Rattle.bound_records.proofs.Lists.{set_cases}
use Rattle.reference.proofs.Lists.{get_set, set_again}
use Rattle.trace.proofs.GoingAhead.{ahead_keeps}
use Rattle.trace.proofs.TakingTurns.{one_ended, still_asks}
use Rattle.trace.proofs.PhaseTold.{ahead_told, ended_told, none_left}
use Rattle.trace.proofs.TakingHits.{hits_room}
use Rattle.trace.proofs.turns.end_all.Goals as goal

pub go_ahead-requires-clause-number : goal.go_ahead-requires-clause-number
go_ahead-requires-clause-number g c =
    let time = time_by_net c.args.net.now in
    let image = c.args.program.now in
    let end = c.args.end in
    let n = c.loop-number.number in
    let cores = c.loop-number.cores in
    let port = c.loop-number.port in
    let core = get_or cores n c.index-cores-number.result in
    let below : n < length cores = omega (arith, c.loop-number-test.true, c.loop-number.auto.number-end, c.loop-number.auto.cores) in
    let here : slice_get cores n ≡ Some core = slice_get-get_or cores n c.index-cores-number.result below in
    let was = c.requires.taken in
    let h = c.loop-number.invariant.way was.0 was.1 was.2 was.3 in
    h.numbered n core here

pub go_ahead-requires-clause-known : goal.go_ahead-requires-clause-known
go_ahead-requires-clause-known g c =
    let was = c.requires.taken in
    let h = c.loop-number.invariant.way was.0 was.1 was.2 was.3 in
    omega (arith, h.stamps, c.loop-number-test.true, c.loop-number.auto.number-end, c.loop-number.auto.cores)

pub go_ahead-requires-clause-way : goal.go_ahead-requires-clause-way
go_ahead-requires-clause-way g c =
    let time = time_by_net c.args.net.now in
    let image = c.args.program.now in
    let end = c.args.end in
    let n = c.loop-number.number in
    let cores = c.loop-number.cores in
    let port = c.loop-number.port in
    let core = get_or cores n c.index-cores-number.result in
    let below : n < length cores = omega (arith, c.loop-number-test.true, c.loop-number.auto.number-end, c.loop-number.auto.cores) in
    let here : slice_get cores n ≡ Some core = slice_get-get_or cores n c.index-cores-number.result below in
    let was = c.requires.taken in
    let h = c.loop-number.invariant.way was.0 was.1 was.2 was.3 in
    let left = get_or h.left n 0 in (
      left,
      hits_room time image end was.0 was.1 was.2 cores port n left h below (omega arith),
      h.each n left core (slice_get-get_or h.left n 0 (omega (arith, below, h.count))) here,
    )

pub take_turn-requires-clause-number : goal.take_turn-requires-clause-number
take_turn-requires-clause-number g c =
    let time = time_by_net c.args.net.now in
    let image = c.args.program.now in
    let end = c.args.end in
    let n = c.loop-number.number in
    let cores = c.loop-number.cores in
    let port = c.loop-number.port in
    let core = get_or cores n c.index-cores-number.result in
    let below : n < length cores = omega (arith, c.loop-number-test.true, c.loop-number.auto.number-end, c.loop-number.auto.cores) in
    let here : slice_get cores n ≡ Some core = slice_get-get_or cores n c.index-cores-number.result below in
    let was = c.requires.taken in
    let h = c.loop-number.invariant.way was.0 was.1 was.2 was.3 in
    c.in_ok-go_ahead.ensures.goes.number ∙ h.numbered n core here

pub take_turn-requires-clause-known : goal.take_turn-requires-clause-known
take_turn-requires-clause-known g c =
    let time = time_by_net c.args.net.now in
    let image = c.args.program.now in
    let end = c.args.end in
    let n = c.loop-number.number in
    let cores = c.loop-number.cores in
    let port = c.loop-number.port in
    let core = get_or cores n c.index-cores-number.result in
    let below : n < length cores = omega (arith, c.loop-number-test.true, c.loop-number.auto.number-end, c.loop-number.auto.cores) in
    let here : slice_get cores n ≡ Some core = slice_get-get_or cores n c.index-cores-number.result below in
    let ahead = c.go_ahead.new.core in
    let port_ahead = c.go_ahead.new.port in
    let goes = c.in_ok-go_ahead.ensures.goes in
    let steps = g.T.Tracer.steps c.loop-number.tracer in
    let steps_ahead = g.T.Tracer.steps c.go_ahead.new.tracer in
    let was = c.requires.taken in
    let h = c.loop-number.invariant.way was.0 was.1 was.2 was.3 in
    let gone = ahead_keeps time image end was.0 was.1 n was.2 cores port port_ahead h core ahead steps steps_ahead here goes in
    omega (arith, below, gone.stamps, length-set cores n ahead)

pub take_turn-requires-clause-room : goal.take_turn-requires-clause-room
take_turn-requires-clause-room g c =
    let time = time_by_net c.args.net.now in
    let image = c.args.program.now in
    let end = c.args.end in
    let n = c.loop-number.number in
    let cores = c.loop-number.cores in
    let port = c.loop-number.port in
    let core = get_or cores n c.index-cores-number.result in
    let below : n < length cores = omega (arith, c.loop-number-test.true, c.loop-number.auto.number-end, c.loop-number.auto.cores) in
    let here : slice_get cores n ≡ Some core = slice_get-get_or cores n c.index-cores-number.result below in
    let ahead = c.go_ahead.new.core in
    let port_ahead = c.go_ahead.new.port in
    let goes = c.in_ok-go_ahead.ensures.goes in
    let steps = g.T.Tracer.steps c.loop-number.tracer in
    let steps_ahead = g.T.Tracer.steps c.go_ahead.new.tracer in
    let was = c.requires.taken in
    let h = c.loop-number.invariant.way was.0 was.1 was.2 was.3 in
    let gone = ahead_keeps time image end was.0 was.1 n was.2 cores port port_ahead h core ahead steps steps_ahead here goes in
    omega (arith, gone.room, gone.few)

pub take_turn-requires-clause-way : goal.take_turn-requires-clause-way
take_turn-requires-clause-way g c =
    let time = time_by_net c.args.net.now in
    let image = c.args.program.now in
    let end = c.args.end in
    let n = c.loop-number.number in
    let cores = c.loop-number.cores in
    let port = c.loop-number.port in
    let core = get_or cores n c.index-cores-number.result in
    let below : n < length cores = omega (arith, c.loop-number-test.true, c.loop-number.auto.number-end, c.loop-number.auto.cores) in
    let here : slice_get cores n ≡ Some core = slice_get-get_or cores n c.index-cores-number.result below in
    let ahead = c.go_ahead.new.core in
    let port_ahead = c.go_ahead.new.port in
    let goes = c.in_ok-go_ahead.ensures.goes in
    let steps = g.T.Tracer.steps c.loop-number.tracer in
    let steps_ahead = g.T.Tracer.steps c.go_ahead.new.tracer in
    let was = c.requires.taken in
    let h = c.loop-number.invariant.way was.0 was.1 was.2 was.3 in
    let gone = ahead_keeps time image end was.0 was.1 n was.2 cores port port_ahead h core ahead steps steps_ahead here goes in
    let left = get_or gone.left n 0 in
    (left, gone.each n left ahead (slice_get-get_or gone.left n 0 (omega (arith, below, gone.count, length-set cores n ahead))) (get_set cores n core ahead here))

pub loop-number-preserved : goal.loop-number-preserved
loop-number-preserved g c =
    let time = time_by_net c.args.net.now in
    let image = c.args.program.now in
    let end = c.args.end in
    let n = c.loop-number.number in
    let cores = c.loop-number.cores in
    let port = c.loop-number.port in
    let core = get_or cores n c.index-cores-number.result in
    let below : n < length cores = omega (arith, c.loop-number-test.true, c.loop-number.auto.number-end, c.loop-number.auto.cores) in
    let here : slice_get cores n ≡ Some core = slice_get-get_or cores n c.index-cores-number.result below in
    let ahead = c.go_ahead.new.core in
    let port_ahead = c.go_ahead.new.port in
    let goes = c.in_ok-go_ahead.ensures.goes in
    let steps = g.T.Tracer.steps c.loop-number.tracer in
    let steps_ahead = g.T.Tracer.steps c.go_ahead.new.tracer in
    let after = c.take_turn.new.core in
    let port_after = c.take_turn.new.port in
    let none : c.in_ok-took.took ≡ false = search rules in
    let took = c.in_ok-took.ensures.none none in
    record {
      way = λ most first turns h.
          let gone = ahead_keeps time image end most first n turns cores port port_ahead (c.loop-number.invariant.way most first turns h) core ahead steps steps_ahead here goes in
          subst (λ (cs : List NumberedCore). HaveTaken time image end most first turns cs port_after) (set_again cores n ahead after)
          (one_ended time image end most first turns (slice_set cores n ahead) port_ahead gone n ahead after (get_set cores n core ahead here) (chosen port_ahead n) port_after refl refl refl took);
      over = λ i x before found.
          set_cases cores n i core after x here found (λ y. IsOver end y.timed) (λ same. took.over) (λ apart was. c.loop-number.invariant.over i x (omega (arith, before, apart)) was);
      told =
          let was = c.requires.taken in
          let own = (c.loop-number.invariant.way was.0 was.1 was.2 was.3).numbered n core here in
          let same = ap (λ (k : ℕ). steps_ahead ++ steps_alone image end k ahead.timed) (sym own) ∙ (goes.tells ∙ ap (λ (k : ℕ). steps ++ steps_alone image end k core.timed) own) in
          let none_asked = took.ends.asked in
          let turn = ahead_told image end port_ahead.world n core.timed ahead.timed steps steps_ahead (g.T.Tracer.steps c.take_turn.new.tracer) goes.ran same none_asked c.in_ok-took.ensures.told in
          ended_told image end cores n core after below here port_ahead.world steps (g.T.Tracer.steps c.take_turn.new.tracer) (sym (ap asks goes.ran) ∙ none_asked) turn ∙ c.loop-number.invariant.told;
      fixed = c.take_turn.ensures.fixed ∙ (c.go_ahead.ensures.fixed ∙ c.loop-number.invariant.fixed);
    }

pub returns-then-took-clause-illegal : goal.returns-then-took-clause-illegal
returns-then-took-clause-illegal g c = λ is most first turns h.
    let time = time_by_net c.args.net.now in
    let image = c.args.program.now in
    let end = c.args.end in
    let n = c.loop-number.number in
    let cores = c.loop-number.cores in
    let port = c.loop-number.port in
    let core = get_or cores n c.index-cores-number.result in
    let below : n < length cores = omega (arith, c.loop-number-test.true, c.loop-number.auto.number-end, c.loop-number.auto.cores) in
    let here : slice_get cores n ≡ Some core = slice_get-get_or cores n c.index-cores-number.result below in
    let ahead = c.go_ahead.new.core in
    let port_ahead = c.go_ahead.new.port in
    let goes = c.in_ok-go_ahead.ensures.goes in
    let steps = g.T.Tracer.steps c.loop-number.tracer in
    let steps_ahead = g.T.Tracer.steps c.go_ahead.new.tracer in
    let some : c.in_ok-took.took ≡ true = search rules in
    let took = (c.in_ok-took.ensures.took some).1 in
    let gone = ahead_keeps time image end most first n turns cores port port_ahead (c.loop-number.invariant.way most first turns h) core ahead steps steps_ahead here goes in
    still_asks time image end most first (slice_set cores n ahead) port_ahead n ahead (get_set cores n core ahead here) turns gone (ap is_some took.turn.asked)

pub returns-clause-taken : goal.returns-clause-taken
returns-clause-taken g c = λ is. c.loop-number.invariant.way

pub returns-clause-over : goal.returns-clause-over
returns-clause-over g c = λ is.
    all_timed (IsOver c.args.end) c.loop-number.cores (λ i core here.
    c.loop-number.invariant.over i core (omega (arith, slice_get_within c.loop-number.cores i core here, c.loop-number-test.false, c.loop-number.auto.number-end, c.loop-number.auto.cores)) here)

pub returns-clause-told : goal.returns-clause-told
returns-clause-told g c = λ is.
    let past : length c.loop-number.cores ≤ c.loop-number.number = omega (arith, c.loop-number-test.false, c.loop-number.auto.number-end, c.loop-number.auto.cores) in
    none_left c.args.program.now c.args.end c.loop-number.cores c.loop-number.number past (g.T.Tracer.steps c.loop-number.tracer) ∙ c.loop-number.invariant.told
