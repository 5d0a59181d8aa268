-- One core alone.
use Rattle.std.proofs.Common.{◌≡◌, ◌≤◌, ◌∙◌, List, [], ◌∷◌, None, Some, arith, get_or, length, subst, sym}
use Rattle.std.specs.Prelude.{slice_get, slice_set}
use Rattle.std.proofs.lemmas.List.{length-set}
use Rattle.std.proofs.lemmas.Option.{slice_get-get_or}
use Rattle.weave_chains.specs.declared.chain.Chain.{Chain}
use Rattle.weave_chains.specs.Alone.{IsAlone, standing}
use Rattle.weave_chains.specs.Listed.{list_of, number_before, one_after_other}
use Rattle.weave_chains.specs.Rounds.{HasCome, IsWeaving}
use Rattle.weave_chains.specs.States.{state_of, states}
use Rattle.weave_chains.specs.Tallies.{HaveFired}
use Rattle.weave_chains.proofs.Moved.{set_same}
use Rattle.weave_chains.proofs.OneCore as A
use Rattle.weave_chains.proofs.States.{state_at}
use Rattle.weave_chains.proofs.weave.fire_chains.Goals as goal

pub fire_alone-events-requires-clause-come : goal.fire_alone-events-requires-clause-come
fire_alone-events-requires-clause-come g c κs within =
    let lists = g.A.Accesses.lists c.args.accesses.now in
    let pieces = g.X.Expand.pieces c.args.expand.now in
    let laws = c.rounds_rest_on_these.ensures c.args.expand.now in
    let chains = c.args.chains.now in
    let none : Chain = record { access = 0; end = 0; place = 0; ended = []; last = None; next = None } in
    let chain : Chain = get_or chains 0 none in
    let one : length chains ≡ 1 = omega (arith, c.if-chains-ne1.false) in
    let lists_one : length lists ≡ 1 = omega (arith, one, c.requires.count) in
    let there : slice_get chains 0 ≡ Some chain = slice_get-get_or chains 0 none (omega (arith, one)) in
    let end : chain.end ≡ length (list_of lists 0) = (c.requires.ahead 0 chain there).end in
    let place : chain.place ≡ 0 = (c.requires.fresh 0 (state_of (number_before lists 0) chain) (state_at lists chains 0 chain there)).place in
    let so : states lists chains ≡ states lists (standing lists chain.access 0 chain.ended chain.last ∷ []) = A.stands_so lists chains chain one there end place in
    let Weaves : List g.row.C.Denot → List Chain → Type 0 = λ first cs. IsWeaving g.C.Component.serves g.C.Component.floor g.C.Component.stepped g.C.Component.greatest pieces lists first 0 cs c.args.ready.now.keys c.args.comps.now in
    let begun : (first : List g.row.C.Denot) → Weaves first chains → IsAlone g.C.Component.serves g.C.Component.floor g.C.Component.stepped g.C.Component.greatest pieces lists first 0 (standing lists chain.access 0 chain.ended chain.last) c.args.comps.now c.args.tallies.now =
    λ first w.
    let z : Weaves first (standing lists chain.access 0 chain.ended chain.last ∷ []) = record {
      fits = w.fits;
      small = w.small;
      within = w.within;
      come = subst (λ cs. HasCome g.C.Component.stepped pieces (one_after_other lists) first 0 cs c.args.ready.now.keys c.args.comps.now) so w.come;
    }
    in
    A.begun laws lists c.requires.chained lists_one first 0 chain.access chain.ended chain.last c.args.comps.now c.args.tallies.now c.args.ready.now.keys z c.requires.nothing c.requires.empty c.requires.tallies
    in
    let z = c.requires.begins in
    (z.0, begun z.0 z.1)

pub returns-clause-all : goal.returns-clause-all
returns-clause-all g c =
    let lists = g.A.Accesses.lists c.args.accesses.now in
    let pieces = g.X.Expand.pieces c.args.expand.now in
    let laws = c.rounds_rest_on_these.ensures c.args.expand.now in
    let chains = c.args.chains.now in
    let none : Chain = record { access = 0; end = 0; place = 0; ended = []; last = None; next = None } in
    let chain : Chain = get_or chains 0 none in
    let one : length chains ≡ 1 = omega (arith, c.if-chains-ne1.false) in
    let lists_one : length lists ≡ 1 = omega (arith, one, c.requires.count) in
    let there : slice_get chains 0 ≡ Some chain = slice_get-get_or chains 0 none (omega (arith, one)) in
    let end : chain.end ≡ length (list_of lists 0) = (c.requires.ahead 0 chain there).end in
    let place : chain.place ≡ 0 = (c.requires.fresh 0 (state_of (number_before lists 0) chain) (state_at lists chains 0 chain there)).place in
    let so : states lists chains ≡ states lists (standing lists chain.access 0 chain.ended chain.last ∷ []) = A.stands_so lists chains chain one there end place in
    let Weaves : List g.row.C.Denot → List Chain → Type 0 = λ first cs. IsWeaving g.C.Component.serves g.C.Component.floor g.C.Component.stepped g.C.Component.greatest pieces lists first 0 cs c.args.ready.now.keys c.args.comps.now in
    let begun : (first : List g.row.C.Denot) → Weaves first chains → IsAlone g.C.Component.serves g.C.Component.floor g.C.Component.stepped g.C.Component.greatest pieces lists first 0 (standing lists chain.access 0 chain.ended chain.last) c.args.comps.now c.args.tallies.now =
    λ first w.
    let z : Weaves first (standing lists chain.access 0 chain.ended chain.last ∷ []) = record {
      fits = w.fits;
      small = w.small;
      within = w.within;
      come = subst (λ cs. HasCome g.C.Component.stepped pieces (one_after_other lists) first 0 cs c.args.ready.now.keys c.args.comps.now) so w.come;
    }
    in
    A.begun laws lists c.requires.chained lists_one first 0 chain.access chain.ended chain.last c.args.comps.now c.args.tallies.now c.args.ready.now.keys z c.requires.nothing c.requires.empty c.requires.tallies
    in
    let after = c.fire_alone-events.new.chain in
    let z = c.requires.begins in
    let alone = c.fire_alone-events.ensures.fired z.0 (begun z.0 z.1) in
    let end_now : after.end ≡ length (list_of lists 0) = c.fire_alone-events.ensures.end ∙ end in
    let over : length (list_of lists 0) ≤ after.access = omega (arith, end_now, c.fire_alone-events.ensures.over) in
    let so_now : states lists (slice_set chains 0 after) ≡ states lists (standing lists after.access 0 after.ended after.last ∷ []) =
    A.stands_so lists (slice_set chains 0 after) after (length-set chains 0 after ∙ one) (set_same chains 0 after (omega (arith, one))) end_now (c.fire_alone-events.ensures.place ∙ place)
    in (
      A.all_alone laws lists c.requires.chained lists_one z.0 c.fire_alone-events.result after.access after.ended after.last c.fire_alone-events.new.comps c.fire_alone-events.new.tallies alone over,
      λ first w.
          let al = c.fire_alone-events.ensures.fired first (begun first w) in
          (al.keys, subst (λ cs. HaveFired g.C.Component.stepped pieces (one_after_other lists) first c.fire_alone-events.result cs al.keys c.fire_alone-events.new.comps c.fire_alone-events.new.tallies) (sym so_now) al.fired),
    )
