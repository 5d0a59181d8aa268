use Rattle.std.proofs.Common.{◌≡◌, ◌+◌, ◌<◌, ◌≤◌, ◌++◌, [], ℕ, List, length, get_or, sum_by, take, sym, ◌∙◌, ap, arith}
use Rattle.std.proofs.lemmas.List.{take_all}
use Rattle.std.proofs.lemmas.List.Sums.{fold_more}
use Rattle.zs_num.specs.declared.entry.Entry.{Entry}
use Rattle.event_graph.specs.declared.event.Event.{Event}
use Rattle.event_graph.specs.declared.piece.Piece.{Piece}
use Rattle.event_graph.specs.EventGraph.{access_events, all_events}
use Rattle.event_graph.proofs.AllEvents.{all_numbered, few_at, room_at, room_counted}
use Rattle.event_graph.proofs.builder.build.Goals as goal

pub add_access-requires-clause-few : goal.add_access-requires-clause-few
add_access-requires-clause-few g c =
    let pieces = g.X.Expand.pieces c.args.expansion.now in
    few_at pieces c.args.entries.now c.as_slice-entry-items.result.now c.loop-entry.entry-index _ c.loop-entry.events.items _ _
    c.as_slice-entry-items.ensures c.loop-entry-test.true c.loop-entry.invariant.2 c.loop-entry.events.ok.0 c.requires.few

pub add_access-requires-clause-room : goal.add_access-requires-clause-room
add_access-requires-clause-room g c =
    let pieces = g.X.Expand.pieces c.args.expansion.now in
    room_at pieces c.args.entries.now c.as_slice-entry-items.result.now c.loop-entry.entry-index _ c.loop-entry.events.items _ _
    c.as_slice-entry-items.ensures c.loop-entry-test.true c.loop-entry.invariant.2 c.loop-entry.events.ok.0 c.loop-entry.invariant.3

pub of-requires : goal.of-requires
of-requires g c =
    let pieces = g.X.Expand.pieces c.args.expansion.now in
    rw c.loop-entry.invariant.2
    (all_numbered pieces (λ e. g.met.X.Expand.parents_come_before c.args.expansion.now e) (take c.loop-entry.entry-index c.args.entries.now))

pub loop-entry-init : goal.loop-entry-init
loop-entry-init g c = (
  omega (arith, c.loop-core.invariant.0, c.loop-core-test.false),
  rw c.in_ok-events.ensures.items (record { at = λ core below. c.loop-core.invariant.1 core below }),
  c.in_ok-events.ensures.items,
  room_counted (g.X.Expand.pieces c.args.expansion.now) c.args.entries.now _ _ _ c.as_slice.ensures c.count_events.ensures c.in_ok-events.ensures.capacity,
)

one_access_more : (pieces : Entry → List Piece) (entries items : List Entry) (i : ℕ) (d : Entry) (seen : List Event)
    → items ≡ entries → i < length items → seen ≡ all_events pieces (take i entries)
    → seen ++ access_events seen (get_or items i d) (pieces (get_or items i d)) ≡ all_events pieces (take (i + 1) entries)
one_access_more pieces entries items i d seen same below is = rw (is, same) (sym (fold_more (λ (before : List Event) (e : Entry). before ++ access_events before e (pieces e)) [] entries i d (rw same at below)))

room_kept : (n before after : ℕ) → n ≤ before → after ≡ before → n ≤ after
room_kept n before after there is = omega (arith, there, is)

pub loop-entry-preserved : goal.loop-entry-preserved
loop-entry-preserved g c =
    let pieces = g.X.Expand.pieces c.args.expansion.now in (
      c.add_access.ensures.cores ∙ c.loop-entry.invariant.0,
      c.add_access.ensures.last,
      c.add_access.ensures.added
          ∙ one_access_more pieces c.args.entries.now _ c.loop-entry.entry-index _ _ c.as_slice-entry-items.ensures c.loop-entry-test.true c.loop-entry.invariant.2,
      room_kept (sum_by (λ e. length (pieces e)) c.args.entries.now) _ _ c.loop-entry.invariant.3 c.add_access.ensures.capacity,
    )

pub returns : goal.returns
returns g c =
    let pieces = g.X.Expand.pieces c.args.expansion.now in
    let whole : length c.args.entries.now ≤ c.loop-entry.entry-index = omega (arith, ap length c.as_slice-entry-items.ensures, c.loop-entry-test.false) in
    c.of.ensures ∙ c.loop-entry.invariant.2 ∙ ap (all_events pieces) (take_all c.loop-entry.entry-index c.args.entries.now whole)
