use Rattle.std.proofs.Common.{◌≡◌, ◌+◌, ◌<◌, ◌≤◌, ℕ, List, ◌++◌, map, vec_len, length, arith, sym, ap, ◌∙◌, length-append, None, refl, ◌∷◌, []}
use Rattle.std.specs.List.{enumerate_from}
use Rattle.std.specs.Option.{option_map}
use Rattle.std.proofs.lemmas.List.{append-nil, take_all}
use Rattle.std.proofs.lemmas.Option.{slice_get_read, get_or_from_slice_get}
use Rattle.event_graph.specs.declared.piece.Piece.{Piece}
use Rattle.event_graph.specs.Critical.{last_critical}
use Rattle.event_graph.specs.EventGraph.{event_at}
use Rattle.event_graph.specs.NextEvent.{critical_of}
use Rattle.event_graph.proofs.AccessSteps.{place_done}
use Rattle.event_graph.proofs.builder.add_access.Goals as goal

pub loop-place-preserved : goal.loop-place-preserved
loop-place-preserved g c =
    let before = c.args.events.now in
    let last = c.args.last.now in
    let entry = c.args.entry.now in
    let law = g.met.X.Expand.parents_come_before c.args.expansion.now entry in
    let there : entry.core < length last.items = omega (arith, last.ok.0) in
    let read = rw c.from.ensures at c.index-earlier.ensures in
    let kept : c.index-earlier.result.now ≡ option_map critical_of (last_critical entry.core before.items) =
    sym (get_or_from_slice_get last.items entry.core c.index-earlier.result.now None (slice_get_read last.items (length last.items) entry.core c.index-earlier.result.now refl there read))
    ∙ c.requires.last.at entry.core there in
    let base : c.len-base.result ≡ length before.items = omega (arith, before.ok.0) in
    let pushed = c.push_event.ensures.pushed in
    let grown : length c.push_event.new.events.items ≡ length c.loop-place.events.items + 1 = ap length pushed ∙ length-append c.loop-place.events.items (c.event_of-event.result ∷ []) in
    let long : vec_len c.push_event.new.events ≡ vec_len before + (c.loop-place.place + 1) = omega (arith, grown, c.push_event.new.events.ok.0, c.loop-place.events.ok.0) in (
      place_done before.items entry (g.X.Expand.pieces c.args.expansion.now entry) c.loop-place.place c.piece-piece.result law c.piece-piece.ensures
          c.loop-place.events.items c.deref.result.now c.push_event.new.events.items c.index-earlier.result.now c.len-base.result c.count-count.result c.event_of-event.result
          c.loop-place.invariant.0 c.deref.ensures.value kept base c.count-count.ensures c.event_of-event.ensures pushed,
      long,
      c.push_event.ensures.last,
      omega (arith, c.push_event.ensures.cores),
      c.push_event.ensures.capacity ∙ c.loop-place.invariant.4,
    )

pub event_of-event-requires-clause-number : goal.event_of-event-requires-clause-number
event_of-event-requires-clause-number g c = omega (arith, c.requires.few, c.count-count.ensures, c.loop-place-test.true, c.len-base.ensures)

pub event_of-event-requires-clause-cycles : goal.event_of-event-requires-clause-cycles
event_of-event-requires-clause-cycles g c =
    let x = c.args.expansion.now in
    let entry = c.args.entry.now in
    let ends = (g.met.X.Expand.ends_with_access x entry).each c.loop-place.place c.piece-piece.result c.piece-piece.ensures in
    let small = g.met.X.Expand.time_small x entry in
    omega (arith, ends, small, c.requires.start)

pub event_of-event-requires-clause-first : goal.event_of-event-requires-clause-first
event_of-event-requires-clause-first g c i is =
    let earlier = (g.met.X.Expand.parents_come_before c.args.expansion.now c.args.entry.now).first c.loop-place.place c.piece-piece.result i c.piece-piece.ensures is in
    omega (arith, earlier, c.deref.ensures.len, c.loop-place.invariant.1, c.len-base.ensures)

pub event_of-event-requires-clause-second : goal.event_of-event-requires-clause-second
event_of-event-requires-clause-second g c i is =
    let earlier = (g.met.X.Expand.parents_come_before c.args.expansion.now c.args.entry.now).second c.loop-place.place c.piece-piece.result i c.piece-piece.ensures is in
    omega (arith, earlier, c.deref.ensures.len, c.loop-place.invariant.1, c.len-base.ensures)

pub loop-place-init : goal.loop-place-init
loop-place-init g c = (sym (append-nil c.args.events.now.items), omega arith, c.requires.last, refl, refl)

pub returns-clause-added : goal.returns-clause-added
returns-clause-added g c =
    let before = c.args.events.now.items in
    let entry = c.args.entry.now in
    let pieces : List Piece = g.X.Expand.pieces c.args.expansion.now entry in
    let whole : length pieces ≤ c.loop-place.place = omega (arith, c.count-count.ensures, c.loop-place-test.false) in
    c.loop-place.invariant.0
    ∙ ap (λ (ps : List Piece). before ++ map (λ (at : ℕ × Piece). event_at before entry pieces at.0 at.1) (enumerate_from 0 ps)) (take_all c.loop-place.place pieces whole)
