-- The first key goes, or tells an arrival, or is put into the other queue.
use Rattle.std.proofs.Common.{◌≡◌, true, false, not, Some, slice_get, ap, sym, ◌∙◌}
use Rattle.std.proofs.lemmas.Option.{get_or_from_slice_get}
use Rattle.domain_queue.specs.SortedKeys.{put}
use Rattle.weave_core.specs.declared.incoming.Stub.{Stub}
use Rattle.weave_core.specs.DomainMachine.{is_exact}
use Rattle.weave_core.specs.Stubs.{arrival_at, is_ahead}
use Rattle.weave_core.specs.Waits.{key_of}
use Rattle.weave_core.proofs.Lists.{get_there, not_false, not_true}
use Rattle.weave_core.proofs.ByFloor.{floor_dropped, floor_to_word, floor_within, is_floor_current, is_new_told}
use Rattle.weave_core.proofs.incoming.settle_by_floor.Goals as goal

pub bounds-stubs-key : goal.bounds-stubs-key
bounds-stubs-key c =
    let at : slice_get c.loop-key.by_floor.keys 0 ≡ Some c.in-Some.key = sym c.first.ensures.first ∙ c.in-Some.is in
    floor_within c.args.stubs.now c.args.floor c.loop-key.by_floor c.loop-key.by_word c.loop-key.invariant c.in-Some.key c.first.ensures.ascending at

pub loop-key-preserved-then-not-is_open : goal.loop-key-preserved-then-not-is_open
loop-key-preserved-then-not-is_open c =
    let at : slice_get c.loop-key.by_floor.keys 0 ≡ Some c.in-Some.key = sym c.first.ensures.first ∙ c.in-Some.is in
    let s : (s : Stub) × (slice_get c.args.stubs.now c.in-Some.key.number ≡ Some s) = get_there c.args.stubs.now c.in-Some.key.number (floor_within c.args.stubs.now c.args.floor c.loop-key.by_floor c.loop-key.by_word c.loop-key.invariant c.in-Some.key c.first.ensures.ascending at) in
    let read = get_or_from_slice_get c.args.stubs.now c.in-Some.key.number s.0 _ s.1 in
    let known : is_exact s.0.word ≡ true = not_false (is_exact s.0.word) (ap (λ (z : Stub). not (is_exact z.word)) (sym read) ∙ (sym c.is_open.ensures.open ∙ c.if-not-is_open.true)) in
    floor_dropped c.args.stubs.now c.args.floor c.loop-key.by_floor c.loop-key.by_word c.loop-key.invariant c.in-Some.key c.first.ensures.ascending at s.0 s.1 c.pop.new.self c.pop.ensures.rest known

pub is_ahead-requires-clause-small : goal.is_ahead-requires-clause-small
is_ahead-requires-clause-small c =
    let at : slice_get c.loop-key.by_floor.keys 0 ≡ Some c.in-Some.key = sym c.first.ensures.first ∙ c.in-Some.is in
    let s : (s : Stub) × (slice_get c.args.stubs.now c.in-Some.key.number ≡ Some s) = get_there c.args.stubs.now c.in-Some.key.number (floor_within c.args.stubs.now c.args.floor c.loop-key.by_floor c.loop-key.by_word c.loop-key.invariant c.in-Some.key c.first.ensures.ascending at) in
    rw (get_or_from_slice_get c.args.stubs.now c.in-Some.key.number s.0 _ s.1) (c.requires.small c.in-Some.key.number s.0 s.1)

pub arrival-requires-clause-small : goal.arrival-requires-clause-small
arrival-requires-clause-small c =
    let at : slice_get c.loop-key.by_floor.keys 0 ≡ Some c.in-Some.key = sym c.first.ensures.first ∙ c.in-Some.is in
    let s : (s : Stub) × (slice_get c.args.stubs.now c.in-Some.key.number ≡ Some s) = get_there c.args.stubs.now c.in-Some.key.number (floor_within c.args.stubs.now c.args.floor c.loop-key.by_floor c.loop-key.by_word c.loop-key.invariant c.in-Some.key c.first.ensures.ascending at) in
    rw (get_or_from_slice_get c.args.stubs.now c.in-Some.key.number s.0 _ s.1) (c.requires.small c.in-Some.key.number s.0 s.1)

pub push-requires-clause-new : goal.push-requires-clause-new
push-requires-clause-new c =
    let at : slice_get c.loop-key.by_floor.keys 0 ≡ Some c.in-Some.key = sym c.first.ensures.first ∙ c.in-Some.is in
    is_new_told c.args.stubs.now c.args.floor c.loop-key.by_floor c.loop-key.by_word c.loop-key.invariant c.in-Some.key c.first.ensures.ascending at c.arrival.result

pub loop-key-preserved : goal.loop-key-preserved
loop-key-preserved c =
    let at : slice_get c.loop-key.by_floor.keys 0 ≡ Some c.in-Some.key = sym c.first.ensures.first ∙ c.in-Some.is in
    let s : (s : Stub) × (slice_get c.args.stubs.now c.in-Some.key.number ≡ Some s) = get_there c.args.stubs.now c.in-Some.key.number (floor_within c.args.stubs.now c.args.floor c.loop-key.by_floor c.loop-key.by_word c.loop-key.invariant c.in-Some.key c.first.ensures.ascending at) in
    let read = get_or_from_slice_get c.args.stubs.now c.in-Some.key.number s.0 _ s.1 in
    let arrival : c.arrival.result ≡ arrival_at c.args.floor s.0 = c.arrival.ensures.arrival ∙ ap (arrival_at c.args.floor) read in
    let pushed : c.push.new.self ≡ record c.loop-key.by_word { keys = put (key_of (arrival_at c.args.floor s.0) c.in-Some.key.number) c.loop-key.by_word.keys } =
    c.push.ensures ∙ ap (λ n. record c.loop-key.by_word { keys = put (key_of n c.in-Some.key.number) c.loop-key.by_word.keys }) arrival
    in
    floor_to_word c.args.stubs.now c.args.floor c.loop-key.by_floor c.loop-key.by_word c.loop-key.invariant c.in-Some.key c.first.ensures.ascending at s.0 s.1 c.pop-then-is_ahead.new.self c.push.new.self c.pop-then-is_ahead.ensures.rest pushed

pub returns-else-is_ahead-clause-current : goal.returns-else-is_ahead-clause-current
returns-else-is_ahead-clause-current c =
    let at : slice_get c.loop-key.by_floor.keys 0 ≡ Some c.in-Some.key = sym c.first.ensures.first ∙ c.in-Some.is in
    let s : (s : Stub) × (slice_get c.args.stubs.now c.in-Some.key.number ≡ Some s) = get_there c.args.stubs.now c.in-Some.key.number (floor_within c.args.stubs.now c.args.floor c.loop-key.by_floor c.loop-key.by_word c.loop-key.invariant c.in-Some.key c.first.ensures.ascending at) in
    let read = get_or_from_slice_get c.args.stubs.now c.in-Some.key.number s.0 _ s.1 in
    let unknown : is_exact s.0.word ≡ false = not_true (is_exact s.0.word) (ap (λ (z : Stub). not (is_exact z.word)) (sym read) ∙ (sym c.is_open.ensures.open ∙ c.if-not-is_open.false)) in
    let behind : is_ahead c.args.floor s.0 ≡ false = ap (is_ahead c.args.floor) (sym read) ∙ (sym c.is_ahead.ensures ∙ c.if-is_ahead.false) in
    is_floor_current c.args.stubs.now c.args.floor c.loop-key.by_floor c.loop-key.by_word c.loop-key.invariant c.in-Some.key c.first.ensures.ascending at s.0 s.1 unknown behind
