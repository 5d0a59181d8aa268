-- The way tells the turns, and the port has logged their accesses.
use Rattle.std.proofs.Common.{◌≡◌, ◌<◌, ◌^◌, ◌++◌, ℕ, List, drop, length, sym, ◌∙◌, ap, subst, arith, rules}
use Rattle.std.specs.List.{All}
use Rattle.std.proofs.lemmas.List.{length-append}
use Rattle.zs_num.specs.declared.entry.Entry.{Entry}
use Rattle.rv_core.specs.CoreState.{CoreState}
use Rattle.rv_core.specs.declared.leg.Leg.{Leg}
use Rattle.rv_core.specs.Told.{Told, told_of}
use Rattle.bound_core.specs.Taken.{TakesThese}
use Rattle.bound_records.specs.Turns.{time_by_net}
use Rattle.trace.specs.Port.{Gives, LoggedPortState}
use Rattle.trace.specs.Ways.{FitsLeg, told_steps}
use Rattle.trace.proofs.TakingHits.{all_logged, entries_behind, logged_of, way_fits}
use Rattle.trace.proofs.turns.take_told_hits.Goals as goal

pub behind-requires : goal.behind-requires
behind-requires g c =
    let did = c.take_told_hits-taken.ensures.told in
    let logged = all_logged (time_by_net c.args.net.now) c.args.program.now c.args.end c.args.core.now.number did.entries c.choose.new.self c.take_told_hits-taken.new.port c.args.core.now.timed c.take_told_hits-taken.new.self.timed did.these in
    omega (arith, c.count-so_far.ensures, ap length logged, length-append c.choose.new.self.entries did.entries)

pub tell_way-requires : goal.tell_way-requires
tell_way-requires g c =
    let did = c.take_told_hits-taken.ensures.told in
    let at_pc : c.pc-pc.result ≡ c.args.core.now.timed.core.pc = c.pc-pc.ensures ∙ ap (λ (core : CoreState). core.pc) c.core.ensures.value in
    let some : c.pc-pc.result < 2 ^ 64 = search rules in
    let way : List Leg = c.take_told_hits-taken.new.way.items in
    let told : told_of way ≡ did.told = did.way_is ∙ ap (λ (legs : List Leg). told_of legs ++ did.told) c.clear.ensures.items in
    let fits : All FitsLeg way =
    way_fits (time_by_net c.args.net.now) c.args.program.now c.args.end did.entries did.told c.args.core.now.timed c.take_told_hits-taken.new.self.timed way (omega (arith, at_pc, some)) did.tells told
    in
    record { fits = subst (All FitsLeg) (sym c.deref.ensures.value) fits }

pub returns-clause-hits : goal.returns-clause-hits
returns-clause-hits g c =
    let did = c.take_told_hits-taken.ensures.told in
    let time = time_by_net c.args.net.now in
    let image = c.args.program.now in
    let end = c.args.end in
    let core = c.args.core.now in
    let after = c.take_told_hits-taken.new.self in
    let port = c.take_told_hits-taken.new.port in
    let way : List Leg = c.take_told_hits-taken.new.way.items in
    let told : told_of way ≡ did.told = did.way_is ∙ ap (λ (legs : List Leg). told_of legs ++ did.told) c.clear.ensures.items in
    let logged = all_logged time image end core.number did.entries c.choose.new.self port core.timed after.timed did.these in
    let entries : c.behind.result.now ≡ did.entries =
    c.behind.ensures ∙ (ap (λ (n : ℕ). drop n port.entries) c.count-so_far.ensures ∙ entries_behind c.choose.new.self.entries did.entries port.entries logged)
    in
    let before = g.T.Tracer.steps c.args.tracer.now in
    record {
      entries = did.entries;
      told = did.told;
      many = did.many;
      these = subst (λ (p : LoggedPortState). TakesThese time image end Gives logged_of core.number did.entries p port core.timed after.timed) c.choose.ensures did.these;
      hits = did.hits;
      tells = did.tells;
      are = c.in_ok-tell_way.ensures.told
          ∙ (ap (λ (legs : List Leg). before ++ told_steps c.args.number (told_of legs) c.behind.result.now) c.deref.ensures.value
          ∙ (ap (λ (t : List Told). before ++ told_steps c.args.number t c.behind.result.now) told
          ∙ (ap (λ (es : List Entry). before ++ told_steps c.args.number did.told es) entries
          ∙ ap (λ (n : ℕ). before ++ told_steps n did.told did.entries) (sym c.requires.number))));
      stops = did.stops;
      number = c.take_told_hits-taken.ensures.number;
      spare = c.take_told_hits-taken.ensures.spare;
    }
