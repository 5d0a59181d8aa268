-- Round by round.
use Rattle.std.proofs.Common.{◌≡◌, ◌+◌, ◌<◌, ◌^◌, ◌∙◌, List, sym, ap, subst, refl, arith, length, get_or, None, Some, false, true}
use Rattle.std.specs.Prelude.{slice_get, slice_set}
use Rattle.std.proofs.lemmas.List.{length-set}
use Rattle.std.proofs.lemmas.Option.{slice_get-get_or}
use Rattle.event_graph.specs.EventGraph.{all_events}
use Rattle.weave_chains.specs.declared.tally.Tally.{Tally}
use Rattle.weave_chains.specs.Listed.{one_after_other}
use Rattle.weave_chains.specs.Rounds.{IsWeaving}
use Rattle.weave_chains.specs.States.{states}
use Rattle.weave_chains.specs.Tallies.{AreSmall, HasFiredNext, HaveFired, taken, ties}
use Rattle.weave_chains.proofs.AllFired as all
use Rattle.weave_chains.proofs.firing.fire_all.Goals as goal

pub loop-served-init : goal.loop-served-init
loop-served-init g c =
    record {
      within = omega arith;
      count = refl;
      comps = refl;
      tallies = refl;
      ahead = c.requires.ahead;
      small = c.requires.empty;
      fired = λ first w. all.begins g.C.Component.stepped (g.X.Expand.pieces c.args.expand.now) (one_after_other (g.A.Accesses.lists c.args.accesses.now)) first (states (g.A.Accesses.lists c.args.accesses.now) c.args.chains.now) c.args.ready.now.keys c.args.comps.now c.args.tallies.now w.come c.requires.nothing;
    }

pub fire_next-requires-clause-come : goal.fire_next-requires-clause-come
fire_next-requires-clause-come g c = λ lives outlives.
    let lists = g.A.Accesses.lists c.args.accesses.now in
    let pieces = g.X.Expand.pieces c.args.expand.now in
    let events = all_events pieces (one_after_other lists) in
    let laws = c.rounds_rest_on_these.ensures c.args.expand.now in
    let numbered = (laws.placed (one_after_other lists)).numbered in
    let weaving : (first : List g.row.C.Denot) → IsWeaving g.C.Component.serves g.C.Component.floor g.C.Component.stepped g.C.Component.greatest pieces lists first 0 c.args.chains.now c.args.ready.now.keys c.args.comps.now
    → IsWeaving g.C.Component.serves g.C.Component.floor g.C.Component.stepped g.C.Component.greatest pieces lists first c.loop-served.events c.loop-served.chains c.loop-served.ready.keys c.loop-served.comps =
    λ first w. record { fits = w.fits; small = w.small; within = c.loop-served.invariant.within; come = (c.loop-served.invariant.fired first w).come }
    in
    let begins = c.requires.begins in
    (begins.0, c.loop-served.events, weaving begins.0 begins.1)

pub take-requires-clause-events : goal.take-requires-clause-events
take-requires-clause-events g c =
    let lists = g.A.Accesses.lists c.args.accesses.now in
    let pieces = g.X.Expand.pieces c.args.expand.now in
    let events = all_events pieces (one_after_other lists) in
    let laws = c.rounds_rest_on_these.ensures c.args.expand.now in
    let numbered = (laws.placed (one_after_other lists)).numbered in
    let weaving : (first : List g.row.C.Denot) → IsWeaving g.C.Component.serves g.C.Component.floor g.C.Component.stepped g.C.Component.greatest pieces lists first 0 c.args.chains.now c.args.ready.now.keys c.args.comps.now
    → IsWeaving g.C.Component.serves g.C.Component.floor g.C.Component.stepped g.C.Component.greatest pieces lists first c.loop-served.events c.loop-served.chains c.loop-served.ready.keys c.loop-served.comps =
    λ first w. record { fits = w.fits; small = w.small; within = c.loop-served.invariant.within; come = (c.loop-served.invariant.fired first w).come }
    in
    let fires : (first : List g.row.C.Denot) → IsWeaving g.C.Component.serves g.C.Component.floor g.C.Component.stepped g.C.Component.greatest pieces lists first 0 c.args.chains.now c.args.ready.now.keys c.args.comps.now
    → HasFiredNext g.C.Component.stepped pieces (one_after_other lists) first c.loop-served.events (states lists c.fire_next.new.chains) c.fire_next.new.ready.keys c.fire_next.new.comps c.in-Some.served =
    λ first w. c.in-Some.ensures.fired first c.loop-served.events (weaving first w)
    in
    let begins = c.requires.begins in
    let more : c.loop-served.events < length events = (fires begins.0 begins.1).more in
    let none : Tally = record { count = record { events = 0; waited = 0; free = 0 }; last = None } in
    let s = c.in-Some.served in
    let t : Tally = get_or c.loop-served.tallies c.from.result none in
    let within : c.from.result < length c.loop-served.tallies = omega (arith, c.from.ensures, c.in-Some.ensures.component, c.loop-served.invariant.comps, c.loop-served.invariant.tallies, c.requires.tallies) in
    let at : slice_get c.loop-served.tallies s.component ≡ Some t = subst (λ k. slice_get c.loop-served.tallies k ≡ Some t) c.from.ensures (slice_get-get_or c.loop-served.tallies c.from.result none within) in
    let small = c.loop-served.invariant.small s.component t at in
    omega (arith, small.0, more, c.requires.few)

pub take-requires-clause-waited : goal.take-requires-clause-waited
take-requires-clause-waited g c =
    let lists = g.A.Accesses.lists c.args.accesses.now in
    let pieces = g.X.Expand.pieces c.args.expand.now in
    let events = all_events pieces (one_after_other lists) in
    let laws = c.rounds_rest_on_these.ensures c.args.expand.now in
    let numbered = (laws.placed (one_after_other lists)).numbered in
    let weaving : (first : List g.row.C.Denot) → IsWeaving g.C.Component.serves g.C.Component.floor g.C.Component.stepped g.C.Component.greatest pieces lists first 0 c.args.chains.now c.args.ready.now.keys c.args.comps.now
    → IsWeaving g.C.Component.serves g.C.Component.floor g.C.Component.stepped g.C.Component.greatest pieces lists first c.loop-served.events c.loop-served.chains c.loop-served.ready.keys c.loop-served.comps =
    λ first w. record { fits = w.fits; small = w.small; within = c.loop-served.invariant.within; come = (c.loop-served.invariant.fired first w).come }
    in
    let fires : (first : List g.row.C.Denot) → IsWeaving g.C.Component.serves g.C.Component.floor g.C.Component.stepped g.C.Component.greatest pieces lists first 0 c.args.chains.now c.args.ready.now.keys c.args.comps.now
    → HasFiredNext g.C.Component.stepped pieces (one_after_other lists) first c.loop-served.events (states lists c.fire_next.new.chains) c.fire_next.new.ready.keys c.fire_next.new.comps c.in-Some.served =
    λ first w. c.in-Some.ensures.fired first c.loop-served.events (weaving first w)
    in
    let begins = c.requires.begins in
    let more : c.loop-served.events < length events = (fires begins.0 begins.1).more in
    let none : Tally = record { count = record { events = 0; waited = 0; free = 0 }; last = None } in
    let s = c.in-Some.served in
    let t : Tally = get_or c.loop-served.tallies c.from.result none in
    let within : c.from.result < length c.loop-served.tallies = omega (arith, c.from.ensures, c.in-Some.ensures.component, c.loop-served.invariant.comps, c.loop-served.invariant.tallies, c.requires.tallies) in
    let at : slice_get c.loop-served.tallies s.component ≡ Some t = subst (λ k. slice_get c.loop-served.tallies k ≡ Some t) c.from.ensures (slice_get-get_or c.loop-served.tallies c.from.result none within) in
    let small = c.loop-served.invariant.small s.component t at in
    omega (arith, small.1, more, c.requires.few)

pub overflow_add-events : goal.overflow_add-events
overflow_add-events g c =
    let lists = g.A.Accesses.lists c.args.accesses.now in
    let pieces = g.X.Expand.pieces c.args.expand.now in
    let events = all_events pieces (one_after_other lists) in
    let laws = c.rounds_rest_on_these.ensures c.args.expand.now in
    let numbered = (laws.placed (one_after_other lists)).numbered in
    let weaving : (first : List g.row.C.Denot) → IsWeaving g.C.Component.serves g.C.Component.floor g.C.Component.stepped g.C.Component.greatest pieces lists first 0 c.args.chains.now c.args.ready.now.keys c.args.comps.now
    → IsWeaving g.C.Component.serves g.C.Component.floor g.C.Component.stepped g.C.Component.greatest pieces lists first c.loop-served.events c.loop-served.chains c.loop-served.ready.keys c.loop-served.comps =
    λ first w. record { fits = w.fits; small = w.small; within = c.loop-served.invariant.within; come = (c.loop-served.invariant.fired first w).come }
    in
    let fires : (first : List g.row.C.Denot) → IsWeaving g.C.Component.serves g.C.Component.floor g.C.Component.stepped g.C.Component.greatest pieces lists first 0 c.args.chains.now c.args.ready.now.keys c.args.comps.now
    → HasFiredNext g.C.Component.stepped pieces (one_after_other lists) first c.loop-served.events (states lists c.fire_next.new.chains) c.fire_next.new.ready.keys c.fire_next.new.comps c.in-Some.served =
    λ first w. c.in-Some.ensures.fired first c.loop-served.events (weaving first w)
    in
    let begins = c.requires.begins in
    let more : c.loop-served.events < length events = (fires begins.0 begins.1).more in
    omega (arith, more, c.requires.few)

pub loop-served-preserved : goal.loop-served-preserved
loop-served-preserved g c =
    let lists = g.A.Accesses.lists c.args.accesses.now in
    let pieces = g.X.Expand.pieces c.args.expand.now in
    let events = all_events pieces (one_after_other lists) in
    let laws = c.rounds_rest_on_these.ensures c.args.expand.now in
    let numbered = (laws.placed (one_after_other lists)).numbered in
    let weaving : (first : List g.row.C.Denot) → IsWeaving g.C.Component.serves g.C.Component.floor g.C.Component.stepped g.C.Component.greatest pieces lists first 0 c.args.chains.now c.args.ready.now.keys c.args.comps.now
    → IsWeaving g.C.Component.serves g.C.Component.floor g.C.Component.stepped g.C.Component.greatest pieces lists first c.loop-served.events c.loop-served.chains c.loop-served.ready.keys c.loop-served.comps =
    λ first w. record { fits = w.fits; small = w.small; within = c.loop-served.invariant.within; come = (c.loop-served.invariant.fired first w).come }
    in
    let fires : (first : List g.row.C.Denot) → IsWeaving g.C.Component.serves g.C.Component.floor g.C.Component.stepped g.C.Component.greatest pieces lists first 0 c.args.chains.now c.args.ready.now.keys c.args.comps.now
    → HasFiredNext g.C.Component.stepped pieces (one_after_other lists) first c.loop-served.events (states lists c.fire_next.new.chains) c.fire_next.new.ready.keys c.fire_next.new.comps c.in-Some.served =
    λ first w. c.in-Some.ensures.fired first c.loop-served.events (weaving first w)
    in
    let begins = c.requires.begins in
    let more : c.loop-served.events < length events = (fires begins.0 begins.1).more in
    let none : Tally = record { count = record { events = 0; waited = 0; free = 0 }; last = None } in
    let s = c.in-Some.served in
    let t : Tally = get_or c.loop-served.tallies c.from.result none in
    let within : c.from.result < length c.loop-served.tallies = omega (arith, c.from.ensures, c.in-Some.ensures.component, c.loop-served.invariant.comps, c.loop-served.invariant.tallies, c.requires.tallies) in
    let at : slice_get c.loop-served.tallies s.component ≡ Some t = subst (λ k. slice_get c.loop-served.tallies k ≡ Some t) c.from.ensures (slice_get-get_or c.loop-served.tallies c.from.result none within) in
    let untied : ties t.last s ≡ false = sym c.take.ensures.tie ∙ c.if-take.false in
    let now : slice_set c.loop-served.tallies s.component (taken t s) ≡ slice_set c.loop-served.tallies c.from.result c.take.new.self =
    ap (λ k. slice_set c.loop-served.tallies k (taken t s)) (sym c.from.ensures) ∙ ap (slice_set c.loop-served.tallies c.from.result) (sym c.take.ensures.taken)
    in
    let few : s.waited < 2 ^ 64 = omega arith in
    record {
      within = omega (arith, more);
      count = c.fire_next.ensures.count ∙ c.loop-served.invariant.count;
      comps = c.fire_next.ensures.comps ∙ c.loop-served.invariant.comps;
      tallies = length-set c.loop-served.tallies c.from.result c.take.new.self ∙ c.loop-served.invariant.tallies;
      ahead = c.fire_next.ensures.ahead;
      small = subst (λ ts. AreSmall (c.loop-served.events + 1) ts) now (all.still_small c.loop-served.events c.loop-served.tallies t s few c.loop-served.invariant.small at);
      fired = λ first w.
          let x = fires first w in
          subst (λ ts. HaveFired g.C.Component.stepped pieces (one_after_other lists) first (c.loop-served.events + 1) (states lists c.fire_next.new.chains) c.fire_next.new.ready.keys c.fire_next.new.comps ts) now
          (all.goes_on g.C.Component.stepped pieces (one_after_other lists) first c.loop-served.events (laws.sorted events first numbered w.fits) (laws.prefix events first (c.loop-served.events + 1) numbered w.fits)
          x.event x.fired s x.served_is (states lists c.loop-served.chains) c.loop-served.ready.keys c.loop-served.comps c.loop-served.tallies (c.loop-served.invariant.fired first w) t at
          (states lists c.fire_next.new.chains) c.fire_next.new.ready.keys c.fire_next.new.comps x.come untied);
    }

pub returns-then-take-clause-tie : goal.returns-then-take-clause-tie
returns-then-take-clause-tie g c = λ first w.
    let lists = g.A.Accesses.lists c.args.accesses.now in
    let pieces = g.X.Expand.pieces c.args.expand.now in
    let events = all_events pieces (one_after_other lists) in
    let laws = c.rounds_rest_on_these.ensures c.args.expand.now in
    let numbered = (laws.placed (one_after_other lists)).numbered in
    let weaving : (first : List g.row.C.Denot) → IsWeaving g.C.Component.serves g.C.Component.floor g.C.Component.stepped g.C.Component.greatest pieces lists first 0 c.args.chains.now c.args.ready.now.keys c.args.comps.now
    → IsWeaving g.C.Component.serves g.C.Component.floor g.C.Component.stepped g.C.Component.greatest pieces lists first c.loop-served.events c.loop-served.chains c.loop-served.ready.keys c.loop-served.comps =
    λ first w. record { fits = w.fits; small = w.small; within = c.loop-served.invariant.within; come = (c.loop-served.invariant.fired first w).come }
    in
    let fires : (first : List g.row.C.Denot) → IsWeaving g.C.Component.serves g.C.Component.floor g.C.Component.stepped g.C.Component.greatest pieces lists first 0 c.args.chains.now c.args.ready.now.keys c.args.comps.now
    → HasFiredNext g.C.Component.stepped pieces (one_after_other lists) first c.loop-served.events (states lists c.fire_next.new.chains) c.fire_next.new.ready.keys c.fire_next.new.comps c.in-Some.served =
    λ first w. c.in-Some.ensures.fired first c.loop-served.events (weaving first w)
    in
    let begins = c.requires.begins in
    let more : c.loop-served.events < length events = (fires begins.0 begins.1).more in
    let none : Tally = record { count = record { events = 0; waited = 0; free = 0 }; last = None } in
    let s = c.in-Some.served in
    let t : Tally = get_or c.loop-served.tallies c.from.result none in
    let within : c.from.result < length c.loop-served.tallies = omega (arith, c.from.ensures, c.in-Some.ensures.component, c.loop-served.invariant.comps, c.loop-served.invariant.tallies, c.requires.tallies) in
    let at : slice_get c.loop-served.tallies s.component ≡ Some t = subst (λ k. slice_get c.loop-served.tallies k ≡ Some t) c.from.ensures (slice_get-get_or c.loop-served.tallies c.from.result none within) in
    let tied : ties t.last s ≡ true = sym c.take.ensures.tie ∙ c.if-take.true in
    let x = fires first w in
    all.meets g.C.Component.stepped pieces (one_after_other lists) first c.loop-served.events (laws.sorted events first numbered w.fits) (laws.prefix events first (c.loop-served.events + 1) numbered w.fits)
    x.event x.fired s x.served_is (states lists c.loop-served.chains) c.loop-served.ready.keys c.loop-served.comps c.loop-served.tallies (c.loop-served.invariant.fired first w) t at tied

pub returns-clause-all : goal.returns-clause-all
returns-clause-all g c =
    let lists = g.A.Accesses.lists c.args.accesses.now in
    let pieces = g.X.Expand.pieces c.args.expand.now in
    let events = all_events pieces (one_after_other lists) in
    let laws = c.rounds_rest_on_these.ensures c.args.expand.now in
    let numbered = (laws.placed (one_after_other lists)).numbered in
    let weaving : (first : List g.row.C.Denot) → IsWeaving g.C.Component.serves g.C.Component.floor g.C.Component.stepped g.C.Component.greatest pieces lists first 0 c.args.chains.now c.args.ready.now.keys c.args.comps.now
    → IsWeaving g.C.Component.serves g.C.Component.floor g.C.Component.stepped g.C.Component.greatest pieces lists first c.loop-served.events c.loop-served.chains c.loop-served.ready.keys c.loop-served.comps =
    λ first w. record { fits = w.fits; small = w.small; within = c.loop-served.invariant.within; come = (c.loop-served.invariant.fired first w).come }
    in
    let begins = c.requires.begins in (
      (c.in_default.ensures.over begins.0 c.loop-served.events (weaving begins.0 begins.1)).0,
      λ first w.
          let have = c.loop-served.invariant.fired first w in
          record { come = (c.in_default.ensures.over first c.loop-served.events (weaving first w)).1; tallied = have.tallied; no_tie = have.no_tie },
    )
