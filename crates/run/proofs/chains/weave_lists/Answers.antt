-- The expansion is the plain one where there are no mesh and no open rows.
use Rattle.std.proofs.Common.{rules, ◌≡◌, List, None, length, subst, sym}
use Rattle.std.specs.Prelude.{IfNone, IfOk, IfSome}
use Rattle.zs_num.specs.declared.entry.Entry.{Entry}
use Rattle.component.specs.ComponentStep.{comp_step}
use Rattle.component.specs.Serving.{comp_latency, comp_serves}
use Rattle.event_graph.specs.declared.piece.Piece.{Piece}
use Rattle.event_graph.specs.EventGraph.{all_events}
use Rattle.event_graph.specs.Fits.{GraphFits}
use Rattle.event_graph.specs.OneListWeave.{woven}
use Rattle.event_graph.specs.PlainTiming.{pieces_of}
use Rattle.noc_mesh.specs.NetTiming.{net_pieces}
use Rattle.weave_chains.specs.Listed.{one_after_other}
use Rattle.weave_chains.specs.Ties.{HaveNoTie, HaveTie}
use Rattle.weave_chains.specs.Woven.{AreOrdered, IsWoven}
use Rattle.bound_records.specs.Recorders.{kept_lists}
use Rattle.run.proofs.chains.weave_lists.Goals as goal

pub weave_chains-requires-clause-fits : goal.weave_chains-requires-clause-fits
weave_chains-requires-clause-fits g c κs within =
    let path = c.args.net.now.path in
    let none : path.mesh ≡ None = search rules in
    let closed : path.dram ≡ None = search rules in
    let same : net_pieces path ≡ pieces_of path = λ i e. (c.nets_without_a_mesh_are_plain.ensures path e none closed).0 i in
    subst (λ (ps : Entry → List Piece). GraphFits comp_serves comp_latency (all_events ps (one_after_other (kept_lists c.args.recorder.now))) c.args.comps.now) same c.requires.fits

pub returns-then-is_none-2-clause-woven : goal.returns-then-is_none-2-clause-woven
returns-then-is_none-2-clause-woven g c =
    let path = c.args.net.now.path in
    let lists = kept_lists c.args.recorder.now in
    let none : path.mesh ≡ None = search rules in
    let closed : path.dram ≡ None = search rules in
    let same : net_pieces path ≡ pieces_of path = λ i e. (c.nets_without_a_mesh_are_plain.ensures path e none closed).0 i in
    subst
    (λ (ps : Entry → List Piece).
    IfOk c.weave_chains.result (λ o. IfSome o (λ w. (recorded : List Entry) → AreOrdered ps (one_after_other lists) recorded → IsWoven comp_step ps recorded c.args.comps.now (length lists) w c.weave_chains.new.comps)))
    (sym same) c.weave_chains.ensures.woven

pub returns-then-is_none-2-clause-no_tie : goal.returns-then-is_none-2-clause-no_tie
returns-then-is_none-2-clause-no_tie g c =
    let path = c.args.net.now.path in
    let lists = kept_lists c.args.recorder.now in
    let none : path.mesh ≡ None = search rules in
    let closed : path.dram ≡ None = search rules in
    let same : net_pieces path ≡ pieces_of path = λ i e. (c.nets_without_a_mesh_are_plain.ensures path e none closed).0 i in
    subst (λ (ps : Entry → List Piece). IfOk c.weave_chains.result (λ o. IfSome o (λ w. HaveNoTie (woven comp_step (all_events ps (one_after_other lists)) c.args.comps.now)))) (sym same) c.weave_chains.ensures.no_tie

pub returns-then-is_none-2-clause-tie : goal.returns-then-is_none-2-clause-tie
returns-then-is_none-2-clause-tie g c =
    let path = c.args.net.now.path in
    let lists = kept_lists c.args.recorder.now in
    let none : path.mesh ≡ None = search rules in
    let closed : path.dram ≡ None = search rules in
    let same : net_pieces path ≡ pieces_of path = λ i e. (c.nets_without_a_mesh_are_plain.ensures path e none closed).0 i in
    subst (λ (ps : Entry → List Piece). IfOk c.weave_chains.result (λ o. IfNone o (HaveTie (woven comp_step (all_events ps (one_after_other lists)) c.args.comps.now)))) (sym same) c.weave_chains.ensures.tie
