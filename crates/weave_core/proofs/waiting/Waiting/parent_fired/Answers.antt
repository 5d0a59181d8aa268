-- One that waits is told, and is ready where it waited for no other.
use Rattle.std.proofs.Common.{ℕ, ◌<◌, ◌-◌, length, Some, slice_get, subst, sym, ◌≡◌, ◌∙◌, ap, arith}
use Rattle.std.specs.Prelude.{slice_index, slice_set}
use Rattle.std.proofs.lemmas.Option.{slice_get-get_or}
use Rattle.std.proofs.lemmas.List.{get_or_read, get_or-set_same}
use Rattle.weave_core.specs.Waits.{HasReadyPlaces, Waits}
use Rattle.weave_core.proofs.Readied.{has_room, is_new, is_ready_now, still_waits}
use Rattle.weave_core.proofs.waiting.Waiting.parent_fired.Goals as goal

pub push-requires-clause-room : goal.push-requires-clause-room
push-requires-clause-room c =
    let w : c.self.inside.waits.items ≡ c.args.self.now.waits = ap (λ (v : Waits). v.waits) c.self.view_is in
    let below : c.args.place < length c.self.inside.waits.items = omega (arith, ap length w, c.requires.within) in
    let there : slice_get c.self.inside.waits.items c.args.place ≡ Some (slice_index c.self.inside.waits.items c.args.place) = slice_get-get_or c.self.inside.waits.items c.args.place 0 below in
    let same : slice_index c.self.inside.waits.items c.args.place ≡ slice_index c.args.self.now.waits c.args.place = ap (λ xs. slice_index xs c.args.place) w in
    has_room c.self.inside.starts.items c.self.inside.waits.items c.self.inside.ready c.self.invariant c.args.place (slice_index c.self.inside.waits.items c.args.place) c.max-start.result there
    (omega (arith, same, c.requires.waits)) (omega (arith, same, c.requires.unfired))

pub push-requires-clause-new : goal.push-requires-clause-new
push-requires-clause-new c =
    let w : c.self.inside.waits.items ≡ c.args.self.now.waits = ap (λ (v : Waits). v.waits) c.self.view_is in
    let below : c.args.place < length c.self.inside.waits.items = omega (arith, ap length w, c.requires.within) in
    let there : slice_get c.self.inside.waits.items c.args.place ≡ Some (slice_index c.self.inside.waits.items c.args.place) = slice_get-get_or c.self.inside.waits.items c.args.place 0 below in
    let same : slice_index c.self.inside.waits.items c.args.place ≡ slice_index c.args.self.now.waits c.args.place = ap (λ xs. slice_index xs c.args.place) w in
    is_new c.self.inside.starts.items c.self.inside.waits.items c.self.inside.ready c.self.invariant c.args.place (slice_index c.self.inside.waits.items c.args.place) c.max-start.result there
    (omega (arith, same, c.requires.waits)) (omega (arith, same, c.requires.unfired))

pub invariant_of-self : goal.invariant_of-self
invariant_of-self c =
    let w : c.self.inside.waits.items ≡ c.args.self.now.waits = ap (λ (v : Waits). v.waits) c.self.view_is in
    let below : c.args.place < length c.self.inside.waits.items = omega (arith, ap length w, c.requires.within) in
    let there : slice_get c.self.inside.waits.items c.args.place ≡ Some (slice_index c.self.inside.waits.items c.args.place) = slice_get-get_or c.self.inside.waits.items c.args.place 0 below in
    let same : slice_index c.self.inside.waits.items c.args.place ≡ slice_index c.args.self.now.waits c.args.place = ap (λ xs. slice_index xs c.args.place) w in
    let read : c.index_mut-2.result.now ≡ slice_index c.self.inside.waits.items c.args.place = get_or_read c.self.inside.waits.items c.args.place c.index_mut-2.result.now below c.index_mut-2.ensures.value 0 in
    let none : c.index_mut-2.result.now - 1 ≡ 0 =
    sym (c.index-2.ensures ∙ get_or-set_same c.self.inside.waits.items c.args.place (c.index_mut-2.result.now - 1) c.index-2.result.now below) ∙ c.if-index-eq0.true
    in
    subst (λ (n : ℕ). HasReadyPlaces (slice_set c.self.inside.starts.items c.args.place c.max-start.result) (slice_set c.self.inside.waits.items c.args.place (n - 1)) c.push.new.self) (sym read)
    (is_ready_now c.self.inside.starts.items c.self.inside.waits.items c.self.inside.ready c.self.invariant c.args.place (slice_index c.self.inside.waits.items c.args.place) c.max-start.result there
    (omega (arith, same, c.requires.waits)) (omega (arith, same, c.requires.unfired)) c.push.new.self c.push.ensures (omega (arith, read, none)))

pub invariant_of-self-else-index-eq0 : goal.invariant_of-self-else-index-eq0
invariant_of-self-else-index-eq0 c =
    let w : c.self.inside.waits.items ≡ c.args.self.now.waits = ap (λ (v : Waits). v.waits) c.self.view_is in
    let below : c.args.place < length c.self.inside.waits.items = omega (arith, ap length w, c.requires.within) in
    let there : slice_get c.self.inside.waits.items c.args.place ≡ Some (slice_index c.self.inside.waits.items c.args.place) = slice_get-get_or c.self.inside.waits.items c.args.place 0 below in
    let same : slice_index c.self.inside.waits.items c.args.place ≡ slice_index c.args.self.now.waits c.args.place = ap (λ xs. slice_index xs c.args.place) w in
    let read : c.index_mut-2.result.now ≡ slice_index c.self.inside.waits.items c.args.place = get_or_read c.self.inside.waits.items c.args.place c.index_mut-2.result.now below c.index_mut-2.ensures.value 0 in
    let here : c.index-2.result.now ≡ c.index_mut-2.result.now - 1 = c.index-2.ensures ∙ get_or-set_same c.self.inside.waits.items c.args.place (c.index_mut-2.result.now - 1) c.index-2.result.now below in
    subst (λ (n : ℕ). HasReadyPlaces (slice_set c.self.inside.starts.items c.args.place c.max-start.result) (slice_set c.self.inside.waits.items c.args.place (n - 1)) c.self.inside.ready) (sym read)
    (still_waits c.self.inside.starts.items c.self.inside.waits.items c.self.inside.ready c.self.invariant c.args.place (slice_index c.self.inside.waits.items c.args.place) c.max-start.result there
    (omega (arith, same, c.requires.waits)) (omega (arith, same, c.requires.unfired)) (omega (arith, here, read, c.if-index-eq0.false)))
