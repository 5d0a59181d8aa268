-- The event is ready where it waited for this parent alone.
use Rattle.std.proofs.Common.{◌≡◌, ◌<◌, ◌-◌, length, set, Some, ap, sym, ◌∙◌, arith, length-set}
use Rattle.std.specs.Prelude.{slice_get, slice_index}
use Rattle.std.proofs.lemmas.List.{get_or-set_same, get_or_read}
use Rattle.event_graph.proofs.Lists.{get_read}
use Rattle.weave_seq.proofs.StateSteps.{has_room, is_ready_now, still_waits}
use Rattle.weave_seq.proofs.state.State.parent_fired.Goals as goal

pub push-requires : goal.push-requires
push-requires c =
    let within : c.args.number < length c.self.inside.times.items = omega (arith, ap (λ v. length v.times) c.self.view_is, c.requires.within) in
    let within' : c.args.number < length c.self.inside.waits.items = omega (arith, within, c.self.invariant.sizes) in
    let there : slice_get c.self.inside.times.items c.args.number ≡ Some c.index_mut.result.now = get_read c.self.inside.times.items c.args.number c.index_mut.result.now within ∙ ap (λ t. Some t) (sym c.index_mut.ensures.value) in
    let waited : slice_get c.self.inside.waits.items c.args.number ≡ Some c.index_mut-2.result.now = get_read c.self.inside.waits.items c.args.number c.index_mut-2.result.now within' ∙ ap (λ t. Some t) (sym c.index_mut-2.ensures.value) in
    let same : c.index_mut-2.result.now ≡ slice_index c.self.inside.waits.items c.args.number = get_or_read c.self.inside.waits.items c.args.number c.index_mut-2.result.now within' c.index_mut-2.ensures.value 0 in
    let some : c.index_mut-2.result.now ≡ 0 → ⊥ = λ q. omega (arith, q, same, ap (λ v. slice_index v.waits c.args.number) c.self.view_is, c.requires.waits) in
    has_room c.self.inside.times.items c.self.inside.waits.items c.self.inside.ready c.self.invariant c.args.number c.index_mut.result.now c.index_mut.result.now c.index_mut-2.result.now 0 there waited some

pub invariant_of-self : goal.invariant_of-self
invariant_of-self c =
    let within : c.args.number < length c.self.inside.times.items = omega (arith, ap (λ v. length v.times) c.self.view_is, c.requires.within) in
    let within' : c.args.number < length c.self.inside.waits.items = omega (arith, within, c.self.invariant.sizes) in
    let there : slice_get c.self.inside.times.items c.args.number ≡ Some c.index_mut.result.now = get_read c.self.inside.times.items c.args.number c.index_mut.result.now within ∙ ap (λ t. Some t) (sym c.index_mut.ensures.value) in
    let waited : slice_get c.self.inside.waits.items c.args.number ≡ Some c.index_mut-2.result.now = get_read c.self.inside.waits.items c.args.number c.index_mut-2.result.now within' ∙ ap (λ t. Some t) (sym c.index_mut-2.ensures.value) in
    let same : c.index_mut-2.result.now ≡ slice_index c.self.inside.waits.items c.args.number = get_or_read c.self.inside.waits.items c.args.number c.index_mut-2.result.now within' c.index_mut-2.ensures.value 0 in
    let some : c.index_mut-2.result.now ≡ 0 → ⊥ = λ q. omega (arith, q, same, ap (λ v. slice_index v.waits c.args.number) c.self.view_is, c.requires.waits) in
    let within'' : c.args.number < length (set c.self.inside.waits.items c.args.number (c.index_mut-2.result.now - 1)) = omega (arith, within', length-set c.self.inside.waits.items c.args.number (c.index_mut-2.result.now - 1)) in
    let left : c.index-2.result.now ≡ c.index_mut-2.result.now - 1 =
    get_or_read (set c.self.inside.waits.items c.args.number (c.index_mut-2.result.now - 1)) c.args.number c.index-2.result.now within'' c.index-2.ensures 0
    ∙ get_or-set_same c.self.inside.waits.items c.args.number (c.index_mut-2.result.now - 1) 0 within'
    in
    let now : c.index_mut-2.result.now - 1 ≡ 0 = sym left ∙ c.if-index-eq0.true in
    is_ready_now c.self.inside.times.items c.self.inside.waits.items c.self.inside.ready c.self.invariant c.args.number c.index_mut.result.now _ c.index_mut-2.result.now (c.index_mut-2.result.now - 1) there waited some now
    c.push.new.self c.push.ensures.list c.push.ensures.room

pub invariant_of-self-else-index-eq0 : goal.invariant_of-self-else-index-eq0
invariant_of-self-else-index-eq0 c =
    let within : c.args.number < length c.self.inside.times.items = omega (arith, ap (λ v. length v.times) c.self.view_is, c.requires.within) in
    let within' : c.args.number < length c.self.inside.waits.items = omega (arith, within, c.self.invariant.sizes) in
    let there : slice_get c.self.inside.times.items c.args.number ≡ Some c.index_mut.result.now = get_read c.self.inside.times.items c.args.number c.index_mut.result.now within ∙ ap (λ t. Some t) (sym c.index_mut.ensures.value) in
    let waited : slice_get c.self.inside.waits.items c.args.number ≡ Some c.index_mut-2.result.now = get_read c.self.inside.waits.items c.args.number c.index_mut-2.result.now within' ∙ ap (λ t. Some t) (sym c.index_mut-2.ensures.value) in
    let same : c.index_mut-2.result.now ≡ slice_index c.self.inside.waits.items c.args.number = get_or_read c.self.inside.waits.items c.args.number c.index_mut-2.result.now within' c.index_mut-2.ensures.value 0 in
    let some : c.index_mut-2.result.now ≡ 0 → ⊥ = λ q. omega (arith, q, same, ap (λ v. slice_index v.waits c.args.number) c.self.view_is, c.requires.waits) in
    let within'' : c.args.number < length (set c.self.inside.waits.items c.args.number (c.index_mut-2.result.now - 1)) = omega (arith, within', length-set c.self.inside.waits.items c.args.number (c.index_mut-2.result.now - 1)) in
    let left : c.index-2.result.now ≡ c.index_mut-2.result.now - 1 =
    get_or_read (set c.self.inside.waits.items c.args.number (c.index_mut-2.result.now - 1)) c.args.number c.index-2.result.now within'' c.index-2.ensures 0
    ∙ get_or-set_same c.self.inside.waits.items c.args.number (c.index_mut-2.result.now - 1) 0 within'
    in
    let more : c.index_mut-2.result.now - 1 ≡ 0 → ⊥ = λ q. c.if-index-eq0.false (left ∙ q) in
    still_waits c.self.inside.times.items c.self.inside.waits.items c.self.inside.ready c.self.invariant c.args.number c.index_mut.result.now _ c.index_mut-2.result.now (c.index_mut-2.result.now - 1) there waited some more
