-- Hits, and then a turn.
use Rattle.std.proofs.Common.{◌≡◌, ℕ, ◌+◌, ◌-◌, ◌<◌, ◌≤◌, Bool, false, true, length, List, refl, sym, ◌∙◌, subst, arith, rules, All, []}
use Rattle.std.proofs.lemmas.List.Elements.{All-nil}
use Rattle.std.proofs.lemmas.Option.{slice_get_within}
use Rattle.rv_core.specs.declared.leg.Leg.{Leg}
use Rattle.bound_core.specs.Ahead.{going}
use Rattle.bound_core.specs.IntervalBounds.{most_accesses}
use Rattle.bound_records.specs.Turns.{time_by_net}
use Rattle.trace.specs.EachCore.{TakesOwn, TellsOwn}
use Rattle.trace.specs.Ways.{FitsLeg}
use Rattle.trace.proofs.OwnTurns.{both_take, both_tell, none_takes, none_tells, own_way, still_under, turn_grows, turn_number, turn_takes, turn_tells}
use Rattle.trace.proofs.TakingHits.{left_of}
use Rattle.trace.proofs.each_core.take_own.Goals as goal

-- the measure falls where a turn took an access, and where none is left
nearer : (before between after : ℕ) (took : Bool) → between ≤ before → (took ≡ true → after < between) → (took ≡ false → after ≤ between) → after + going took < before + going true
nearer before between after true hits fewer less = let one = fewer refl in omega (arith, hits, one)
nearer before between after false hits fewer less = let none = less refl in omega (arith, hits, none)

pub loop-goes_on-init : goal.loop-goes_on-init
loop-goes_on-init g c =
    let time = time_by_net c.args.net.now in
    let image = c.args.program.now in
    let end = c.args.end in
    let number = c.args.number in
    let port = c.args.port.now in
    let core = c.args.core.now in
    let steps = g.T.Tracer.steps c.args.tracer.now in
    let legs : List Leg = c.clear.new.self.items in
    let none : legs ≡ [] = c.clear.ensures.items in
    let zero_more : 0 ≡ length port.entries - length port.entries = omega arith in
    record {
      taken = subst (λ (n : ℕ). TakesOwn time image end number n port port core core) zero_more (none_takes time image end number port core);
      told = subst (λ (n : ℕ). TellsOwn time image end number n port port core.timed core.timed [] legs steps steps) zero_more
          (subst (λ (ls : List Leg). TellsOwn time image end number 0 port port core.timed core.timed [] ls steps steps) (sym none)
          (none_tells time image end number port port core.timed core.timed [] [] steps steps (λ cores. refl) refl (λ there ahead. ahead)));
      grows = omega arith;
      over = λ is. absurd (let other : true ≡ false = is in cc);
      fits = subst (All FitsLeg) (sym none) (All-nil FitsLeg);
      number_is = refl;
      fixed = refl;
    }

pub take_own_hits-requires-clause-taken : goal.take_own_hits-requires-clause-taken
take_own_hits-requires-clause-taken g c =
    let time = time_by_net c.args.net.now in
    let image = c.args.program.now in
    let end = c.args.end in
    let number = c.args.number in
    let u = still_under time image end number (length c.loop-goes_on.port.entries - length c.args.port.now.entries) c.args.port.now c.loop-goes_on.port c.args.core.now c.loop-goes_on.core c.requires.taken c.loop-goes_on.invariant.taken in
    u

pub take_own_turn-requires-clause-known : goal.take_own_turn-requires-clause-known
take_own_turn-requires-clause-known g c =
    let time = time_by_net c.args.net.now in
    let image = c.args.program.now in
    let end = c.args.end in
    let number = c.args.number in
    let u = still_under time image end number (length c.loop-goes_on.port.entries - length c.args.port.now.entries) c.args.port.now c.loop-goes_on.port c.args.core.now c.loop-goes_on.core c.requires.taken c.loop-goes_on.invariant.taken in
    let v = still_under time image end number c.in_ok-take_own_hits.field-0 c.loop-goes_on.port c.take_own_hits.new.port c.loop-goes_on.core c.take_own_hits.new.core u c.in_ok-take_own_hits.ensures.taken in
    omega (arith, v.taken.stamps, slice_get_within v.cores number c.take_own_hits.new.core v.here)

pub take_own_turn-requires-clause-room : goal.take_own_turn-requires-clause-room
take_own_turn-requires-clause-room g c =
    let time = time_by_net c.args.net.now in
    let image = c.args.program.now in
    let end = c.args.end in
    let number = c.args.number in
    let u = still_under time image end number (length c.loop-goes_on.port.entries - length c.args.port.now.entries) c.args.port.now c.loop-goes_on.port c.args.core.now c.loop-goes_on.core c.requires.taken c.loop-goes_on.invariant.taken in
    let v = still_under time image end number c.in_ok-take_own_hits.field-0 c.loop-goes_on.port c.take_own_hits.new.port c.loop-goes_on.core c.take_own_hits.new.core u c.in_ok-take_own_hits.ensures.taken in
    omega (arith, v.taken.room, v.taken.few)

pub take_own_turn-requires-clause-way : goal.take_own_turn-requires-clause-way
take_own_turn-requires-clause-way g c =
    let time = time_by_net c.args.net.now in
    let image = c.args.program.now in
    let end = c.args.end in
    let number = c.args.number in
    let u = still_under time image end number (length c.loop-goes_on.port.entries - length c.args.port.now.entries) c.args.port.now c.loop-goes_on.port c.args.core.now c.loop-goes_on.core c.requires.taken c.loop-goes_on.invariant.taken in
    let v = still_under time image end number c.in_ok-take_own_hits.field-0 c.loop-goes_on.port c.take_own_hits.new.port c.loop-goes_on.core c.take_own_hits.new.core u c.in_ok-take_own_hits.ensures.taken in
    (left_of v.taken number, own_way time image end number v.most v.first v.turns v.cores c.take_own_hits.new.port c.take_own_hits.new.core v.taken v.here)

pub loop-goes_on-preserved : goal.loop-goes_on-preserved
loop-goes_on-preserved g c =
    let time = time_by_net c.args.net.now in
    let image = c.args.program.now in
    let end = c.args.end in
    let number = c.args.number in
    let was = c.loop-goes_on.invariant in
    let start = c.args.port.now in
    let first = c.args.core.now in
    let port = c.loop-goes_on.port in
    let core = c.loop-goes_on.core in
    let between = c.take_own_hits.new.port in
    let mid = c.take_own_hits.new.core in
    let last = c.take_own_turn.new.port in
    let after = c.take_own_turn.new.core in
    let hits = c.in_ok-take_own_hits.ensures in
    let more = c.in_ok-take_own_hits.field-0 in
    let turn = c.in_ok-took.ensures in
    let took = c.in_ok-took.took in
    let some : ℕ = length port.entries - length start.entries in
    let one : ℕ = length last.entries - length between.entries in
    let own : mid.number ≡ number = hits.number ∙ (was.number_is ∙ c.requires.number) in
    let steps = g.T.Tracer.steps c.args.tracer.now in
    let now = g.T.Tracer.steps c.loop-goes_on.tracer in
    let then = g.T.Tracer.steps c.take_own_hits.new.tracer in
    let later = g.T.Tracer.steps c.take_own_turn.new.tracer in
    let legs : List Leg = c.take_own_hits.new.untold.items in
    let legs_after : List Leg = c.take_own_turn.new.untold.items in
    let grows = turn_grows time image end number between last mid after took turn.took turn.none in
    let all : some + more + one ≡ length last.entries - length start.entries = omega (arith, was.grows, hits.many, grows) in
    record {
      taken = subst (λ (n : ℕ). TakesOwn time image end number n start last first after) all
          (both_take time image end number (some + more) one start between last first mid after
          (both_take time image end number some more start port between first core mid was.taken hits.taken)
          (turn_takes time image end number c.requires.end between last mid after took turn.took turn.none));
      told = subst (λ (n : ℕ). TellsOwn time image end number n start last first.timed after.timed [] legs_after steps later) all
          (both_tell time image end number (some + more) one start between last first.timed mid.timed after.timed [] legs legs_after steps then later
          (both_tell time image end number some more start port between first.timed core.timed mid.timed [] c.loop-goes_on.untold.items legs steps now then was.told hits.told)
          (turn_tells time image end number between last mid after took legs legs_after then later own turn.took turn.none turn.told turn.emptied turn.silent turn.held turn.fits));
      grows = omega (arith, was.grows, hits.many, grows);
      over = λ is. (turn.none is).over;
      fits = turn.fits;
      number_is = turn_number time image end number between last mid after took turn.took turn.none ∙ (hits.number ∙ was.number_is);
      fixed = turn.fixed ∙ (hits.fixed ∙ was.fixed);
    }

pub loop-goes_on-smaller : goal.loop-goes_on-smaller
loop-goes_on-smaller g c =
    let hits = c.in_ok-take_own_hits.ensures in
    let turn = c.in_ok-took.ensures in
    let before = most_accesses c.args.end c.loop-goes_on.core.timed in
    let after = most_accesses c.args.end c.take_own_turn.new.core.timed in
    let on : c.loop-goes_on.goes_on ≡ true = search rules in
    subst (λ (b : Bool). after + going c.in_ok-took.took < before + going b) (sym on)
    (nearer before (most_accesses c.args.end c.take_own_hits.new.core.timed) after c.in_ok-took.took (let less = hits.less in omega (arith, less)) (λ is. (turn.took is).1.fewer) turn.less)
