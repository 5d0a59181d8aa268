-- By the weave of the events in the order in which the accesses are listed.
use Rattle.std.proofs.Common.{◌≡◌, ◌<◌, ◌∙◌, length, Option, Some, sym, ap, subst, refl}
use Rattle.std.specs.Prelude.{IfSome, slice_get}
use Rattle.zs_num.specs.declared.entry.Entry.{Entry}
use Rattle.event_graph.specs.EventGraph.{all_events}
use Rattle.event_graph.specs.Fits.{GraphFits}
use Rattle.event_graph.specs.MadeOfPieces.{with_events}
use Rattle.event_graph.specs.Numbered.{IsNumbered}
use Rattle.event_graph.specs.OneListWeave.{woven}
use Rattle.event_graph.specs.OrderByCore.{AreRenumberedByCore}
use Rattle.event_graph.specs.Renumbering.{AreAlikeAtTies}
use Rattle.event_graph.specs.TimingSolution.{IsSolution}
use Rattle.event_graph.proofs.Lists.{In, in_at}
use Rattle.weave_chains.specs.Listed.{one_after_other}
use Rattle.weave_chains.specs.Ties.{HaveNoTie}
use Rattle.weave_chains.specs.Woven.{IsWoven}
use Rattle.weave_chains.proofs.AsMany.{as_much}
use Rattle.weave_chains.proofs.Counts.{one, waited}
use Rattle.weave_chains.proofs.Listed.{known as known_of}
use Rattle.weave_chains.proofs.Ordered.{alike_at_ties, others_fit, woven_alike}
use Rattle.weave_chains.proofs.weave.weave_chains.Goals as goal

if_some : {X : Type 0} (P : X → Type 0) (o : Option X) (x : X) → o ≡ Some x → IfSome o P → P x
if_some P o x is h = subst (λ z. IfSome z P) is h

pub returns-in-Some-clause-no_tie : goal.returns-in-Some-clause-no_tie
returns-in-Some-clause-no_tie g c =
    let events = all_events (g.X.Expand.pieces c.args.expand.now) (one_after_other (g.A.Accesses.lists c.args.accesses.now)) in
    subst (λ cs. HaveNoTie (woven g.C.Component.stepped events cs)) c.in_ok-after.ensures
    (if_some (λ w. HaveNoTie (woven g.C.Component.stepped events c.in_ok-after.after)) c.in_ok-found.found c.in-Some.woven c.in-Some.is c.in_ok-found.ensures.no_tie)

pub returns-in-Some-clause-woven : goal.returns-in-Some-clause-woven
returns-in-Some-clause-woven g c = λ recorded same.
    let lists = g.A.Accesses.lists c.args.accesses.now in
    let entries = one_after_other lists in
    let comps = c.args.comps.now in
    let made : all_events (g.X.Expand.pieces c.args.expand.now) (with_events (g.X.Expand.pieces c.args.expand.now) recorded) ≡ all_events (g.X.Expand.pieces c.args.expand.now) recorded =
    c.events_are_made_of_pieces.ensures.left_out c.args.expand.now recorded
    in
    let events = all_events (g.X.Expand.pieces c.args.expand.now) entries in
    let others = all_events (g.X.Expand.pieces c.args.expand.now) recorded in
    let by_core = c.events_are_of_their_cores.ensures c.args.expand.now entries (with_events (g.X.Expand.pieces c.args.expand.now) recorded) same in
    let re : AreRenumberedByCore by_core.0 events others = subst (λ es. AreRenumberedByCore by_core.0 events es) made by_core.1 in
    let numbered : IsNumbered events = c.events_are_placed.ensures.numbered c.args.expand.now entries in
    let others_numbered : IsNumbered others = c.events_are_placed.ensures.numbered c.args.expand.now recorded in
    let fit : GraphFits g.C.Component.serves g.C.Component.floor others comps = others_fit g.C.Component.serves g.C.Component.floor by_core.0 events others comps re.renumbered c.requires.fits in
    let sol : IsSolution g.C.Component.stepped events comps (woven g.C.Component.stepped events comps) = (c.weave_is_the_one_solution.ensures events comps (woven g.C.Component.stepped events comps) numbered c.requires.fits).1 refl in
    let others_sol : IsSolution g.C.Component.stepped others comps (woven g.C.Component.stepped others comps) = (c.weave_is_the_one_solution.ensures others comps (woven g.C.Component.stepped others comps) others_numbered fit).1 refl in
    let none : HaveNoTie (woven g.C.Component.stepped events comps) =
    subst (λ cs. HaveNoTie (woven g.C.Component.stepped events cs)) c.in_ok-after.ensures
    (if_some (λ w. HaveNoTie (woven g.C.Component.stepped events c.in_ok-after.after)) c.in_ok-found.found c.in-Some.woven c.in-Some.is c.in_ok-found.ensures.no_tie)
    in
    let ties : AreAlikeAtTies by_core.0 (woven g.C.Component.stepped events comps) = alike_at_ties by_core.0 events others (woven g.C.Component.stepped events comps) re sol.events_are none in
    let times = c.numbers_decide_ties_alone.ensures.times by_core.0 events others comps numbered others_numbered c.requires.fits re.renumbered ties in
    let sums = c.numbers_decide_ties_alone.ensures.sums by_core.0 events others comps numbered others_numbered c.requires.fits re.renumbered ties in
    let known : (e : Entry) → In e entries → e.core < length lists = λ e m. let at : (i : _) × (slice_get entries i ≡ Some e) = in_at e entries m in known_of lists c.requires.chained.own at.0 e at.1 in
    let count : length others ≡ length events =
    ap length (sym made)
    ∙ (c.events_are_counted.ensures c.args.expand.now (with_events (g.X.Expand.pieces c.args.expand.now) recorded)
    ∙ (as_much (λ e. length (g.X.Expand.pieces c.args.expand.now e)) (length lists) entries (with_events (g.X.Expand.pieces c.args.expand.now) recorded) known same
    ∙ sym (c.events_are_counted.ensures c.args.expand.now entries)))
    in
    woven_alike g.C.Component.stepped (g.X.Expand.pieces c.args.expand.now) entries recorded comps (length lists) sol.events_are others_sol.events_are
    (c.delays_are_of_the_cores.ensures by_core.0 events others (woven g.C.Component.stepped events comps) (woven g.C.Component.stepped others comps) (length lists) numbered others_numbered re sol.events_are others_sol.events_are times)
    (sums one (λ x. refl)) (sums waited (λ x. refl))
    (c.numbers_decide_ties_alone.ensures.comps by_core.0 events others comps numbered others_numbered c.requires.fits re.renumbered ties)
    count c.in-Some.woven c.weave_on.new.comps
    (subst (λ cs. IsWoven g.C.Component.stepped (g.X.Expand.pieces c.args.expand.now) entries cs (length lists) c.in-Some.woven c.weave_on.new.comps) c.in_ok-after.ensures
    (if_some (λ w. IsWoven g.C.Component.stepped (g.X.Expand.pieces c.args.expand.now) entries c.in_ok-after.after (length lists) w c.weave_on.new.comps) c.in_ok-found.found c.in-Some.woven c.in-Some.is c.in_ok-found.ensures.woven))
