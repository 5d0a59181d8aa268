-- Each time it takes no turn, and stays within its own.
use Rattle.std.proofs.Common.{◌≡◌, ◌<◌, ℕ, false, min, refl, sym, ◌∙◌, ap, subst, arith}
use Rattle.std.specs.Prelude.{is_some}
use Rattle.bound_core.specs.ShardPort.{base_of, l1i_of, room_of, size_of}
use Rattle.bound_records.specs.Turns.{time_by_net}
use Rattle.reference.proofs.Accesses.{clock_within}
use Rattle.trace.specs.Port.{LoggedPortState}
use Rattle.trace.proofs.GoingAhead.{HasSettled, further, gone, no_turn, stays}
use Rattle.trace.proofs.TakingHits.{not_over}
use Rattle.trace.proofs.turns.go_ahead.Goals as goal

pub loop-init : goal.loop-init
loop-init g c =
    record {
      so_far = stays (time_by_net c.args.net.now) c.args.program.now c.args.end c.args.number c.args.port.now c.args.core.now (g.T.Tracer.steps c.args.tracer.now);
      fixed = refl;
    }

pub take_told_hits-requires-clause-number : goal.take_told_hits-requires-clause-number
take_told_hits-requires-clause-number g c = c.loop.invariant.so_far.number_is ∙ c.requires.number

pub take_told_hits-requires-clause-base : goal.take_told_hits-requires-clause-base
take_told_hits-requires-clause-base g c =
    let so_far = c.loop.invariant.so_far in
    let way = c.requires.way in
    ap (λ (p : LoggedPortState). base_of p.world) so_far.same ∙ (sym way.2.base_is ∙ ap (λ memory. memory.base) (sym so_far.settles.memory))

pub take_told_hits-requires-clause-size : goal.take_told_hits-requires-clause-size
take_told_hits-requires-clause-size g c =
    let so_far = c.loop.invariant.so_far in
    let way = c.requires.way in
    ap (λ (p : LoggedPortState). size_of p.world) so_far.same ∙ (sym way.2.size_is ∙ ap (λ memory. memory.size) (sym so_far.settles.memory))

pub take_told_hits-requires-clause-l1i : goal.take_told_hits-requires-clause-l1i
take_told_hits-requires-clause-l1i g c = λ fetching.
    let so_far = c.loop.invariant.so_far in
    let way = c.requires.way in
    ap (λ (p : LoggedPortState). l1i_of p.world) so_far.same ∙ way.2.fetches (sym so_far.settles.fetching ∙ fetching)

pub take_told_hits-requires-clause-room : goal.take_told_hits-requires-clause-room
take_told_hits-requires-clause-room g c =
    let so_far = c.loop.invariant.so_far in
    let way = c.requires.way in
    let core = c.args.core.now in
    let going : is_some core.timed.core.halted ≡ false = ap is_some (sym c.halted.ensures) ∙ (sym c.is_some.ensures ∙ c.if-is_some.false) in
    let early : core.timed.clock < c.args.end = omega (arith, c.if-clock-end.false, c.clock.ensures) in
    let near = not_over c.args.end way.0 core.timed going early way.2.few in
    omega (arith, so_far.settles.fewer, near.0, way.1, ap (λ (p : LoggedPortState). min (room_of p.world) p.room) so_far.same)

pub take_told_hits-requires-clause-clock : goal.take_told_hits-requires-clause-clock
take_told_hits-requires-clause-clock g c =
    let so_far = c.loop.invariant.so_far in
    let way = c.requires.way in
    omega (arith, so_far.settles.not_later, way.2.clock, clock_within c.args.end c.loop.core.timed)

pub loop-preserved : goal.loop-preserved
loop-preserved g c =
    let time = time_by_net c.args.net.now in
    let image = c.args.program.now in
    let end = c.args.end in
    let number = c.args.number in
    let port = c.args.port.now in
    let core = c.args.core.now in
    let steps = g.T.Tracer.steps c.args.tracer.now in
    let all = further time image end number port core steps c.loop.port c.loop.core (g.T.Tracer.steps c.loop.tracer) c.take_told_hits.new.port c.take_told_hits.new.core (g.T.Tracer.steps c.take_told_hits.new.tracer) c.loop.invariant.so_far
    (no_turn time image end number 0 _ c.loop.port c.take_told_hits.new.port c.loop.core c.take_told_hits.new.core (g.T.Tracer.steps c.loop.tracer) (g.T.Tracer.steps c.take_told_hits.new.tracer)
    c.in_ok-take_told_hits.ensures.few (c.loop.invariant.so_far.number_is ∙ c.requires.number) c.in_ok-take_told_hits.ensures.hits)
    in
    record { so_far = all; fixed = c.take_told_hits.ensures.fixed ∙ c.loop.invariant.fixed }

pub returns-then-len-capacity-clause-goes : goal.returns-then-len-capacity-clause-goes
returns-then-len-capacity-clause-goes g c =
    let time = time_by_net c.args.net.now in
    let image = c.args.program.now in
    let end = c.args.end in
    let number = c.args.number in
    let port = c.args.port.now in
    let core = c.args.core.now in
    let steps = g.T.Tracer.steps c.args.tracer.now in
    let going : is_some core.timed.core.halted ≡ false = ap is_some (sym c.halted.ensures) ∙ (sym c.is_some.ensures ∙ c.if-is_some.false) in
    let early : core.timed.clock < c.args.end = omega (arith, c.if-clock-end.false, c.clock.ensures) in
    let all = further time image end number port core steps c.loop.port c.loop.core (g.T.Tracer.steps c.loop.tracer) c.take_told_hits.new.port c.take_told_hits.new.core (g.T.Tracer.steps c.take_told_hits.new.tracer) c.loop.invariant.so_far
    (no_turn time image end number 0 _ c.loop.port c.take_told_hits.new.port c.loop.core c.take_told_hits.new.core (g.T.Tracer.steps c.loop.tracer) (g.T.Tracer.steps c.take_told_hits.new.tracer)
    c.in_ok-take_told_hits.ensures.few (c.loop.invariant.so_far.number_is ∙ c.requires.number) c.in_ok-take_told_hits.ensures.hits)
    in
    gone time image end port c.take_told_hits.new.port core c.take_told_hits.new.core steps (g.T.Tracer.steps c.take_told_hits.new.tracer) going early
    (subst (λ (n : ℕ). HasSettled time image end n port c.take_told_hits.new.port core c.take_told_hits.new.core steps (g.T.Tracer.steps c.take_told_hits.new.tracer)) (sym c.requires.number) all)

pub returns-clause-goes : goal.returns-clause-goes
returns-clause-goes g c =
    let time = time_by_net c.args.net.now in
    let image = c.args.program.now in
    let end = c.args.end in
    let number = c.args.number in
    let port = c.args.port.now in
    let core = c.args.core.now in
    let steps = g.T.Tracer.steps c.args.tracer.now in
    let going : is_some core.timed.core.halted ≡ false = ap is_some (sym c.halted.ensures) ∙ (sym c.is_some.ensures ∙ c.if-is_some.false) in
    let early : core.timed.clock < c.args.end = omega (arith, c.if-clock-end.false, c.clock.ensures) in
    gone time image end port c.loop.port core c.loop.core steps (g.T.Tracer.steps c.loop.tracer) going early
    (subst (λ (n : ℕ). HasSettled time image end n port c.loop.port core c.loop.core steps (g.T.Tracer.steps c.loop.tracer)) (sym c.requires.number) c.loop.invariant.so_far)
