-- The core is not over, and so has room for its hits.
use Rattle.std.proofs.Common.{◌≡◌, ℕ, ◌<◌, ◌^◌, ◌++◌, List, drop, false, length, min, refl, sym, ◌∙◌, ap, subst, arith, rules}
use Rattle.std.specs.List.{All}
use Rattle.std.specs.Prelude.{is_some, replicate, slice_set}
use Rattle.std.proofs.lemmas.List.{length-append}
use Rattle.std.proofs.lemmas.Option.{slice_get_within}
use Rattle.zs_num.specs.declared.entry.Entry.{Entry}
use Rattle.rv_core.specs.CoreState.{CoreState}
use Rattle.rv_core.specs.declared.leg.Leg.{Leg}
use Rattle.rv_core.specs.Told.{Told, told_of}
use Rattle.bound_core.specs.IntervalBounds.{most_accesses}
use Rattle.bound_core.specs.NumberedCores.{NumberedCore}
use Rattle.bound_core.specs.ShardPort.{base_of, l1i_of, room_of, size_of}
use Rattle.bound_core.specs.Taken.{TakesThese}
use Rattle.bound_core.specs.ToldTurns.{TellsTurns}
use Rattle.bound_records.specs.Turns.{time_by_net}
use Rattle.reference.proofs.Accesses.{clock_within}
use Rattle.trace.specs.EachCore.{TellsUpTo}
use Rattle.trace.specs.Port.{Gives, LoggedPortState}
use Rattle.trace.specs.Turns.{HaveTaken, chosen}
use Rattle.trace.specs.Ways.{FitsLeg}
use Rattle.trace.proofs.OwnTurns.{fewer_left, hits_tell, none_takes, none_tells, own_way, untold_fits}
use Rattle.trace.proofs.TakingHits.{all_logged, as_chosen, as_many, at_time, entries_behind, hits_room, is_after, left_of, logged_of, not_over, these_taken, way_fits}
use Rattle.trace.proofs.each_core.take_own_hits.Goals as goal

pub returns-then-is_some-clause-taken : goal.returns-then-is_some-clause-taken
returns-then-is_some-clause-taken g c = none_takes (time_by_net c.args.net.now) c.args.program.now c.args.end c.args.number c.args.port.now c.args.core.now

pub returns-then-is_some-clause-told : goal.returns-then-is_some-clause-told
returns-then-is_some-clause-told g c =
    none_tells (time_by_net c.args.net.now) c.args.program.now c.args.end c.args.number c.args.port.now c.args.port.now c.args.core.now.timed c.args.core.now.timed c.args.untold.now.items c.args.untold.now.items
    (g.T.Tracer.steps c.args.tracer.now) (g.T.Tracer.steps c.args.tracer.now) (λ cores. refl) refl (λ there ahead. ahead)

pub choose-requires : goal.choose-requires
choose-requires g c =
    let was = c.requires.taken in
    omega (arith, was.taken.stamps, slice_get_within was.cores c.args.number c.args.core.now was.here)

pub take_told_hits-count-requires-clause-base : goal.take_told_hits-count-requires-clause-base
take_told_hits-count-requires-clause-base g c =
    let was = c.requires.taken in
    let way = own_way (time_by_net c.args.net.now) c.args.program.now c.args.end c.args.number was.most was.first was.turns was.cores c.args.port.now c.args.core.now was.taken was.here in
    ap (λ (p : LoggedPortState). base_of p.world) c.choose.ensures ∙ sym way.base_is

pub take_told_hits-count-requires-clause-size : goal.take_told_hits-count-requires-clause-size
take_told_hits-count-requires-clause-size g c =
    let was = c.requires.taken in
    let way = own_way (time_by_net c.args.net.now) c.args.program.now c.args.end c.args.number was.most was.first was.turns was.cores c.args.port.now c.args.core.now was.taken was.here in
    ap (λ (p : LoggedPortState). size_of p.world) c.choose.ensures ∙ sym way.size_is

pub take_told_hits-count-requires-clause-l1i : goal.take_told_hits-count-requires-clause-l1i
take_told_hits-count-requires-clause-l1i g c = λ fetching.
    let was = c.requires.taken in
    let way = own_way (time_by_net c.args.net.now) c.args.program.now c.args.end c.args.number was.most was.first was.turns was.cores c.args.port.now c.args.core.now was.taken was.here in
    ap (λ (p : LoggedPortState). l1i_of p.world) c.choose.ensures ∙ way.fetches fetching

pub take_told_hits-count-requires-clause-clock : goal.take_told_hits-count-requires-clause-clock
take_told_hits-count-requires-clause-clock g c =
    let was = c.requires.taken in
    let way = own_way (time_by_net c.args.net.now) c.args.program.now c.args.end c.args.number was.most was.first was.turns was.cores c.args.port.now c.args.core.now was.taken was.here in
    omega (arith, way.clock, clock_within c.args.end c.args.core.now.timed)

pub take_told_hits-count-requires-clause-room : goal.take_told_hits-count-requires-clause-room
take_told_hits-count-requires-clause-room g c =
    let was = c.requires.taken in
    let h = was.taken in
    let core = c.args.core.now in
    let way = own_way (time_by_net c.args.net.now) c.args.program.now c.args.end c.args.number was.most was.first was.turns was.cores c.args.port.now core h was.here in
    let going : is_some core.timed.core.halted ≡ false = ap is_some (sym c.halted.ensures) ∙ (sym c.is_some.ensures ∙ c.if-is_some.false) in
    let early : core.timed.clock < c.args.end = omega (arith, c.if-clock-end.false, c.clock.ensures) in
    let near = not_over c.args.end (left_of h c.args.number) core.timed going early way.few in
    let room = hits_room (time_by_net c.args.net.now) c.args.program.now c.args.end was.most was.first was.turns was.cores c.args.port.now c.args.number (most_accesses c.args.end core.timed) h (slice_get_within was.cores c.args.number core was.here) near.0 in
    omega (arith, room, ap (λ (p : LoggedPortState). min (room_of p.world) p.room) c.choose.ensures)

pub behind-requires : goal.behind-requires
behind-requires g c =
    let did = c.take_told_hits-count.ensures.told in
    let logged = all_logged (time_by_net c.args.net.now) c.args.program.now c.args.end c.args.core.now.number did.entries c.choose.new.self c.take_told_hits-count.new.port c.args.core.now.timed c.take_told_hits-count.new.self.timed did.these in
    omega (arith, c.count-so_far.ensures, ap length logged, length-append c.choose.new.self.entries did.entries)

pub tell_made-requires-clause-way : goal.tell_made-requires-clause-way
tell_made-requires-clause-way g c =
    let did = c.take_told_hits-count.ensures.told in
    let at_pc : c.pc-pc.result ≡ c.args.core.now.timed.core.pc = c.pc-pc.ensures ∙ ap (λ (core : CoreState). core.pc) c.core.ensures.value in
    let some : c.pc-pc.result < 2 ^ 64 = search rules in
    let way : List Leg = c.take_told_hits-count.new.way.items in
    let told : told_of way ≡ did.told = did.way_is ∙ ap (λ (legs : List Leg). told_of legs ++ did.told) c.clear.ensures.items in
    let fits : All FitsLeg way =
    way_fits (time_by_net c.args.net.now) c.args.program.now c.args.end did.entries did.told c.args.core.now.timed c.take_told_hits-count.new.self.timed way (omega (arith, at_pc, some)) did.tells told
    in
    subst (All FitsLeg) (sym c.deref.ensures.value) fits

pub returns-clause-taken : goal.returns-clause-taken
returns-clause-taken g c = λ most first turns cores here h.
    let time = time_by_net c.args.net.now in
    let image = c.args.program.now in
    let end = c.args.end in
    let number = c.args.number in
    let port = c.args.port.now in
    let core = c.args.core.now in
    let way = own_way time image end number most first turns cores port core h here in
    let going : is_some core.timed.core.halted ≡ false = ap is_some (sym c.halted.ensures) ∙ (sym c.is_some.ensures ∙ c.if-is_some.false) in
    let early : core.timed.clock < end = omega (arith, c.if-clock-end.false, c.clock.ensures) in
    let near = not_over end (left_of h number) core.timed going early way.few in
    let did = c.take_told_hits-count.ensures.told in
    let after = c.take_told_hits-count.new.self in
    let port_after = c.take_told_hits-count.new.port in
    let these : TakesThese time image end Gives logged_of number did.entries (chosen port number) port_after core.timed after.timed =
    subst (λ (p : LoggedPortState). TakesThese time image end Gives logged_of number did.entries p port_after core.timed after.timed) c.choose.ensures
    (subst (λ (k : ℕ). TakesThese time image end Gives logged_of k did.entries c.choose.new.self port_after core.timed after.timed) c.requires.number did.these)
    in
    subst (λ (x : NumberedCore). HaveTaken time image end most first (turns ++ replicate c.take_told_hits-count.result number) (slice_set cores number x) port_after)
    (is_after core after c.take_told_hits-count.ensures.number c.take_told_hits-count.ensures.spare)
    (subst (λ (ns : List ℕ). HaveTaken time image end most first ns (slice_set cores number (at_time core after.timed)) port_after) (as_many turns did.entries number c.take_told_hits-count.result number did.many refl)
    (these_taken time image end most first number did.entries turns cores (chosen port number) port_after (as_chosen time image end most first turns cores port number h) core after.timed c.requires.end here near these))

pub returns-clause-told : goal.returns-clause-told
returns-clause-told g c =
    let time = time_by_net c.args.net.now in
    let image = c.args.program.now in
    let end = c.args.end in
    let number = c.args.number in
    let port = c.args.port.now in
    let core = c.args.core.now in
    let did = c.take_told_hits-count.ensures.told in
    let after = c.take_told_hits-count.new.self in
    let port_after = c.take_told_hits-count.new.port in
    let way : List Leg = c.deref.result.now in
    let legs : List Leg = c.args.untold.now.items in
    let legs_after : List Leg = c.tell_made.new.untold.items in
    let before = g.T.Tracer.steps c.args.tracer.now in
    let later = g.T.Tracer.steps c.tell_made.new.tracer in
    let these : TakesThese time image end Gives logged_of number did.entries (chosen port number) port_after core.timed after.timed =
    subst (λ (p : LoggedPortState). TakesThese time image end Gives logged_of number did.entries p port_after core.timed after.timed) c.choose.ensures
    (subst (λ (k : ℕ). TakesThese time image end Gives logged_of k did.entries c.choose.new.self port_after core.timed after.timed) c.requires.number did.these)
    in
    let logged = all_logged time image end core.number did.entries c.choose.new.self port_after core.timed after.timed did.these in
    let entries : c.behind.result.now ≡ did.entries =
    c.behind.ensures ∙ (ap (λ (n : ℕ). drop n port_after.entries) c.count-so_far.ensures ∙ entries_behind c.choose.new.self.entries did.entries port_after.entries logged)
    in
    let told : did.told ≡ told_of way = sym (ap told_of c.deref.ensures.value ∙ (did.way_is ∙ ap (λ (legs : List Leg). told_of legs ++ did.told) c.clear.ensures.items)) in
    let at_pc : c.pc-pc.result ≡ core.timed.core.pc = c.pc-pc.ensures ∙ ap (λ (core : CoreState). core.pc) c.core.ensures.value in
    let some : c.pc-pc.result < 2 ^ 64 = search rules in
    let fits : All FitsLeg way = way_fits time image end did.entries did.told core.timed after.timed way (omega (arith, at_pc, some)) did.tells (sym told) in
    let made = c.in_ok-tell_made.ensures.made in
    hits_tell time image end number c.take_told_hits-count.result made.0 did.entries (chosen port number) port_after core.timed after.timed way legs legs_after before later did.many these did.hits
    (subst (λ (t : List Told). TellsTurns time image end t did.entries core.timed after.timed) told did.tells) fits
    (subst (λ (es : List Entry). TellsUpTo number way made.0 es legs legs_after before later) entries made.1)

pub returns-clause-fits : goal.returns-clause-fits
returns-clause-fits g c =
    let did = c.take_told_hits-count.ensures.told in
    let way : List Leg = c.deref.result.now in
    let told : told_of way ≡ did.told = ap told_of c.deref.ensures.value ∙ (did.way_is ∙ ap (λ (legs : List Leg). told_of legs ++ did.told) c.clear.ensures.items) in
    let at_pc : c.pc-pc.result ≡ c.args.core.now.timed.core.pc = c.pc-pc.ensures ∙ ap (λ (core : CoreState). core.pc) c.core.ensures.value in
    let some : c.pc-pc.result < 2 ^ 64 = search rules in
    let fits : All FitsLeg way =
    way_fits (time_by_net c.args.net.now) c.args.program.now c.args.end did.entries did.told c.args.core.now.timed c.take_told_hits-count.new.self.timed way (omega (arith, at_pc, some)) did.tells told
    in
    let made = c.in_ok-tell_made.ensures.made in
    untold_fits (time_by_net c.args.net.now) c.args.program.now c.args.end c.args.number made.0 c.behind.result.now c.deref.result.now c.args.untold.now.items c.tell_made.new.untold.items
    (g.T.Tracer.steps c.args.tracer.now) (g.T.Tracer.steps c.tell_made.new.tracer) fits c.requires.fits made.1

pub returns-clause-many : goal.returns-clause-many
returns-clause-many g c =
    let did = c.take_told_hits-count.ensures.told in
    let logged = all_logged (time_by_net c.args.net.now) c.args.program.now c.args.end c.args.core.now.number did.entries c.choose.new.self c.take_told_hits-count.new.port c.args.core.now.timed c.take_told_hits-count.new.self.timed did.these in
    omega (arith, ap length logged, length-append c.choose.new.self.entries did.entries, did.many, ap (λ (p : LoggedPortState). length p.entries) c.choose.ensures)

pub returns-clause-less : goal.returns-clause-less
returns-clause-less g c =
    let did = c.take_told_hits-count.ensures.told in
    omega (arith, did.many, fewer_left (time_by_net c.args.net.now) c.args.program.now c.args.end c.args.core.now.number did.entries c.choose.new.self c.take_told_hits-count.new.port c.args.core.now.timed c.take_told_hits-count.new.self.timed did.these)
