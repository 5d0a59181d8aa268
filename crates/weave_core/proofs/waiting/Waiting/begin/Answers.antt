-- The queue is filled in order of the places.
use Rattle.std.proofs.Common.{◌+◌, ◌≡◌, ◌<◌, ◌≤◌, length, List, Some, slice_get, ap, sym, ◌∙◌, subst, refl, arith}
use Rattle.zs_num.specs.declared.time.Key.{Key}
use Rattle.domain_queue.specs.SortedKeys.{ReadyKeys}
use Rattle.weave_core.proofs.Readied.{IsFilled, filled_all, filled_none, filled_push, filled_skip, is_later}
use Rattle.weave_core.proofs.Indexing.{read_there}
use Rattle.weave_core.proofs.waiting.Waiting.begin.Goals.{then-index-eq0, else-index-eq0}
use Rattle.weave_core.proofs.waiting.Waiting.begin.Goals as goal

pub loop-place-init : goal.loop-place-init
loop-place-init c = record {
  room = omega (arith, ap (λ (q : ReadyKeys). q.room) c.in_ok-ready.ensures, c.len.ensures);
  filled = subst (λ (keys : List Key). IsFilled c.args.starts.items c.args.waits.items keys 0) (sym (ap (λ (q : ReadyKeys). q.keys) c.in_ok-ready.ensures)) (filled_none c.args.starts.items c.args.waits.items);
}

pub push-requires-clause-room : goal.push-requires-clause-room
push-requires-clause-room c =
    let few : length c.loop-place.ready.keys ≤ c.loop-place.place = c.loop-place.invariant.filled.few in
    let room : c.loop-place.ready.room ≡ length c.args.waits.items = c.loop-place.invariant.room in
    omega arith

pub push-requires-clause-new : goal.push-requires-clause-new
push-requires-clause-new c = is_later c.args.starts.items c.args.waits.items c.loop-place.ready.keys c.loop-place.place c.loop-place.invariant.filled c.index-then-index-eq0.result.now

pub loop-place-preserved : goal.loop-place-preserved
loop-place-preserved c =
    let below : c.loop-place.place < length c.args.waits.items = omega arith in
    elim c.if-index-eq0.branch [
      | then-index-eq0 w ↦
          let start : slice_get c.args.starts.items c.loop-place.place ≡ Some w.index-then-index-eq0.result.now =
          read_there c.args.starts.items c.loop-place.place w.index-then-index-eq0.result.now (omega (arith, below, c.requires.sizes)) w.index-then-index-eq0.ensures
          in
          let wait : slice_get c.args.waits.items c.loop-place.place ≡ Some 0 = read_there c.args.waits.items c.loop-place.place c.index.result.now below c.index.ensures ∙ ap (λ n. Some n) w.if-index-eq0.true in
          let keys = ap (λ (q : ReadyKeys). q.keys) (w.ready-is ∙ w.push.ensures) in
          record {
            room = ap (λ (q : ReadyKeys). q.room) (w.ready-is ∙ w.push.ensures) ∙ c.loop-place.invariant.room;
            filled = subst (λ (ks : List Key). IsFilled c.args.starts.items c.args.waits.items ks (c.loop-place.place + 1)) (sym keys)
                (filled_push c.args.starts.items c.args.waits.items c.loop-place.ready.keys c.loop-place.place c.loop-place.invariant.filled w.index-then-index-eq0.result.now wait start);
          }
      | else-index-eq0 w ↦
          let wait : slice_get c.args.waits.items c.loop-place.place ≡ Some c.index.result.now = read_there c.args.waits.items c.loop-place.place c.index.result.now below c.index.ensures in
          record {
            room = ap (λ (q : ReadyKeys). q.room) w.ready-is ∙ c.loop-place.invariant.room;
            filled = subst (λ (q : ReadyKeys). IsFilled c.args.starts.items c.args.waits.items q.keys (c.loop-place.place + 1)) (sym w.ready-is)
                (filled_skip c.args.starts.items c.args.waits.items c.loop-place.ready.keys c.loop-place.place c.loop-place.invariant.filled c.index.result.now wait w.if-index-eq0.false);
          }
    ]

pub invariant_of-result : goal.invariant_of-result
invariant_of-result c =
    filled_all c.args.starts.items c.args.waits.items c.loop-place.ready.keys c.loop-place.place c.loop-place.invariant.filled c.loop-place.ready refl c.loop-place.invariant.room c.requires.sizes (omega arith)
