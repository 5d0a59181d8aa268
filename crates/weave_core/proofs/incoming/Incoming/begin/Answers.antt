-- The queue is filled in order of the stubs.
use Rattle.std.proofs.Common.{◌<◌, ◌+◌, ◌≡◌, ℕ, length, List, [], Some, slice_get, ap, sym, ◌∙◌, subst, refl, arith}
use Rattle.zs_num.specs.declared.time.Key.{Key}
use Rattle.domain_queue.specs.SortedKeys.{ReadyKeys, put}
use Rattle.weave_core.specs.Stubs.{reach_of}
use Rattle.weave_core.specs.Waits.{key_of}
use Rattle.weave_core.proofs.Filled.{IsFilling, filling_all, filling_push, is_next}
use Rattle.weave_core.proofs.Indexing.{read_there}
use Rattle.weave_core.proofs.incoming.Incoming.begin.Goals as goal

pub reach-requires : goal.reach-requires
reach-requires c =
    let below : c.loop-place.place < length c.args.stubs.items = omega arith in
    c.requires.small c.loop-place.place c.index.result.now (read_there c.args.stubs.items c.loop-place.place c.index.result.now below c.index.ensures)

pub push-requires-clause-new : goal.push-requires-clause-new
push-requires-clause-new c = is_next c.args.stubs.items c.loop-place.by_floor.keys c.loop-place.place c.loop-place.invariant.filling c.reach.result

pub loop-place-preserved : goal.loop-place-preserved
loop-place-preserved c =
    let below : c.loop-place.place < length c.args.stubs.items = omega arith in
    let there : slice_get c.args.stubs.items c.loop-place.place ≡ Some c.index.result.now = read_there c.args.stubs.items c.loop-place.place c.index.result.now below c.index.ensures in
    let pushed : c.push.new.self.keys ≡ put (key_of (reach_of c.index.result.now) c.loop-place.place) c.loop-place.by_floor.keys =
    ap (λ (q : ReadyKeys). q.keys) c.push.ensures ∙ ap (λ n. put (key_of n c.loop-place.place) c.loop-place.by_floor.keys) c.reach.ensures
    in
    record {
      room = ap (λ (q : ReadyKeys). q.room) c.push.ensures ∙ c.loop-place.invariant.room;
      filling = subst (λ (ks : List Key). IsFilling c.args.stubs.items ks (c.loop-place.place + 1)) (sym pushed)
          (filling_push c.args.stubs.items c.loop-place.by_floor.keys c.loop-place.place c.loop-place.invariant.filling c.index.result.now there);
    }

pub invariant_of-result : goal.invariant_of-result
invariant_of-result c =
    let count : c.len-count.result ≡ length c.args.stubs.items = omega (arith, c.len-count.ensures, c.args.stubs.ok.0) in
    let empty : ℕ → ReadyKeys = λ n. record { keys = []; room = n } in
    let by_word : c.in_ok-by_word.by_word ≡ empty (length c.args.stubs.items) = c.in_ok-by_word.ensures ∙ ap empty count in
    filling_all c.args.stubs.items c.loop-place.by_floor.keys c.loop-place.place c.loop-place.invariant.filling c.loop-place.by_floor c.in_ok-by_word.by_word refl c.loop-place.invariant.room
    by_word (omega arith) c.requires.small c.requires.untold
