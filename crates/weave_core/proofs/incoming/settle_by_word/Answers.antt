-- The first key goes, or tells an arrival, or is put into the other queue.
use Rattle.std.proofs.Common.{◌≡◌, true, false, not, Some, slice_get, ap, sym, ◌∙◌}
use Rattle.std.proofs.lemmas.Option.{get_or_from_slice_get}
use Rattle.domain_queue.specs.SortedKeys.{put}
use Rattle.weave_core.specs.declared.incoming.Stub.{Stub}
use Rattle.weave_core.specs.DomainMachine.{is_exact}
use Rattle.weave_core.specs.Stubs.{arrival_at, is_ahead, reach_of}
use Rattle.weave_core.specs.Waits.{key_of}
use Rattle.weave_core.proofs.Lists.{get_there, not_false, not_true}
use Rattle.weave_core.proofs.ByWord.{floor_current_put, is_new_reach, is_new_word, is_word_current, slack_again, word_again, word_dropped, word_to_floor, word_within}
use Rattle.weave_core.proofs.incoming.settle_by_word.Goals as goal

pub bounds-stubs-key : goal.bounds-stubs-key
bounds-stubs-key c =
    let at : slice_get c.loop-key.by_word.keys 0 ≡ Some c.in-Some.key = sym c.first.ensures.first ∙ c.in-Some.is in
    word_within c.args.stubs.now c.args.floor c.loop-key.by_floor c.loop-key.by_word c.loop-key.invariant.keyed c.in-Some.key c.first.ensures.ascending at

pub loop-key-preserved-then-not-is_open : goal.loop-key-preserved-then-not-is_open
loop-key-preserved-then-not-is_open c =
    let at : slice_get c.loop-key.by_word.keys 0 ≡ Some c.in-Some.key = sym c.first.ensures.first ∙ c.in-Some.is in
    let s : (s : Stub) × (slice_get c.args.stubs.now c.in-Some.key.number ≡ Some s) = get_there c.args.stubs.now c.in-Some.key.number (word_within c.args.stubs.now c.args.floor c.loop-key.by_floor c.loop-key.by_word c.loop-key.invariant.keyed c.in-Some.key c.first.ensures.ascending at) in
    let read = get_or_from_slice_get c.args.stubs.now c.in-Some.key.number s.0 _ s.1 in
    let known : is_exact s.0.word ≡ true = not_false (is_exact s.0.word) (ap (λ (z : Stub). not (is_exact z.word)) (sym read) ∙ (sym c.is_open.ensures.open ∙ c.if-not-is_open.true)) in
    record { keyed = word_dropped c.args.stubs.now c.args.floor c.loop-key.by_floor c.loop-key.by_word c.loop-key.invariant.keyed c.in-Some.key c.first.ensures.ascending at s.0 s.1 c.pop.new.self c.pop.ensures.rest known; current = c.loop-key.invariant.current }

pub is_ahead-requires-clause-small : goal.is_ahead-requires-clause-small
is_ahead-requires-clause-small c =
    let at : slice_get c.loop-key.by_word.keys 0 ≡ Some c.in-Some.key = sym c.first.ensures.first ∙ c.in-Some.is in
    let s : (s : Stub) × (slice_get c.args.stubs.now c.in-Some.key.number ≡ Some s) = get_there c.args.stubs.now c.in-Some.key.number (word_within c.args.stubs.now c.args.floor c.loop-key.by_floor c.loop-key.by_word c.loop-key.invariant.keyed c.in-Some.key c.first.ensures.ascending at) in
    rw (get_or_from_slice_get c.args.stubs.now c.in-Some.key.number s.0 _ s.1) (c.requires.small c.in-Some.key.number s.0 s.1)

pub reach-requires : goal.reach-requires
reach-requires c =
    let at : slice_get c.loop-key.by_word.keys 0 ≡ Some c.in-Some.key = sym c.first.ensures.first ∙ c.in-Some.is in
    let s : (s : Stub) × (slice_get c.args.stubs.now c.in-Some.key.number ≡ Some s) = get_there c.args.stubs.now c.in-Some.key.number (word_within c.args.stubs.now c.args.floor c.loop-key.by_floor c.loop-key.by_word c.loop-key.invariant.keyed c.in-Some.key c.first.ensures.ascending at) in
    rw (get_or_from_slice_get c.args.stubs.now c.in-Some.key.number s.0 _ s.1) (c.requires.small c.in-Some.key.number s.0 s.1)

pub arrival-arrival-requires-clause-small : goal.arrival-arrival-requires-clause-small
arrival-arrival-requires-clause-small c =
    let at : slice_get c.loop-key.by_word.keys 0 ≡ Some c.in-Some.key = sym c.first.ensures.first ∙ c.in-Some.is in
    let s : (s : Stub) × (slice_get c.args.stubs.now c.in-Some.key.number ≡ Some s) = get_there c.args.stubs.now c.in-Some.key.number (word_within c.args.stubs.now c.args.floor c.loop-key.by_floor c.loop-key.by_word c.loop-key.invariant.keyed c.in-Some.key c.first.ensures.ascending at) in
    rw (get_or_from_slice_get c.args.stubs.now c.in-Some.key.number s.0 _ s.1) (c.requires.small c.in-Some.key.number s.0 s.1)

pub push-requires-clause-new : goal.push-requires-clause-new
push-requires-clause-new c =
    let at : slice_get c.loop-key.by_word.keys 0 ≡ Some c.in-Some.key = sym c.first.ensures.first ∙ c.in-Some.is in
    is_new_reach c.args.stubs.now c.args.floor c.loop-key.by_floor c.loop-key.by_word c.loop-key.invariant.keyed c.in-Some.key c.first.ensures.ascending at c.reach.result

pub loop-key-preserved-then-not-is_ahead : goal.loop-key-preserved-then-not-is_ahead
loop-key-preserved-then-not-is_ahead c =
    let at : slice_get c.loop-key.by_word.keys 0 ≡ Some c.in-Some.key = sym c.first.ensures.first ∙ c.in-Some.is in
    let s : (s : Stub) × (slice_get c.args.stubs.now c.in-Some.key.number ≡ Some s) = get_there c.args.stubs.now c.in-Some.key.number (word_within c.args.stubs.now c.args.floor c.loop-key.by_floor c.loop-key.by_word c.loop-key.invariant.keyed c.in-Some.key c.first.ensures.ascending at) in
    let read = get_or_from_slice_get c.args.stubs.now c.in-Some.key.number s.0 _ s.1 in
    let unknown : is_exact s.0.word ≡ false = not_true (is_exact s.0.word) (ap (λ (z : Stub). not (is_exact z.word)) (sym read) ∙ (sym c.is_open.ensures.open ∙ c.if-not-is_open.false)) in
    let behind : is_ahead c.args.floor s.0 ≡ false = ap (is_ahead c.args.floor) (sym read) ∙ (sym c.is_ahead.ensures ∙ c.if-not-is_ahead.true) in
    let pushed : c.push.new.self ≡ record c.loop-key.by_floor { keys = put (key_of (reach_of s.0) c.in-Some.key.number) c.loop-key.by_floor.keys } =
    c.push.ensures ∙ ap (λ n. record c.loop-key.by_floor { keys = put (key_of n c.in-Some.key.number) c.loop-key.by_floor.keys }) (c.reach.ensures ∙ ap reach_of read)
    in
    record {
      keyed = word_to_floor c.args.stubs.now c.args.floor c.loop-key.by_floor c.loop-key.by_word c.loop-key.invariant.keyed c.in-Some.key c.first.ensures.ascending at s.0 s.1 c.pop-then-not-is_ahead.new.self c.push.new.self c.pop-then-not-is_ahead.ensures.rest pushed;
      current = floor_current_put c.args.stubs.now c.args.floor c.loop-key.by_floor c.push.new.self (key_of (reach_of s.0) c.in-Some.key.number) s.0 c.loop-key.invariant.current pushed s.1 unknown behind;
    }

pub returns-then-key-arrival : goal.returns-then-key-arrival
returns-then-key-arrival c =
    let at : slice_get c.loop-key.by_word.keys 0 ≡ Some c.in-Some.key = sym c.first.ensures.first ∙ c.in-Some.is in
    let s : (s : Stub) × (slice_get c.args.stubs.now c.in-Some.key.number ≡ Some s) = get_there c.args.stubs.now c.in-Some.key.number (word_within c.args.stubs.now c.args.floor c.loop-key.by_floor c.loop-key.by_word c.loop-key.invariant.keyed c.in-Some.key c.first.ensures.ascending at) in
    let read = get_or_from_slice_get c.args.stubs.now c.in-Some.key.number s.0 _ s.1 in
    let unknown : is_exact s.0.word ≡ false = not_true (is_exact s.0.word) (ap (λ (z : Stub). not (is_exact z.word)) (sym read) ∙ (sym c.is_open.ensures.open ∙ c.if-not-is_open.false)) in
    let arrival : c.arrival-arrival.result ≡ arrival_at c.args.floor s.0 = c.arrival-arrival.ensures.arrival ∙ ap (arrival_at c.args.floor) read in
    record {
      small = c.requires.small;
      floor_small = c.requires.floor;
      keyed = c.loop-key.invariant.keyed;
      floor_current = c.loop-key.invariant.current;
      word_current = is_word_current c.args.stubs.now c.args.floor c.loop-key.by_floor c.loop-key.by_word c.loop-key.invariant.keyed c.in-Some.key c.first.ensures.ascending at s.0 s.1 unknown (c.if-key-arrival.true ∙ arrival);
    }

pub push-requires-else-not-is_ahead-clause-new : goal.push-requires-else-not-is_ahead-clause-new
push-requires-else-not-is_ahead-clause-new c =
    let at : slice_get c.loop-key.by_word.keys 0 ≡ Some c.in-Some.key = sym c.first.ensures.first ∙ c.in-Some.is in
    is_new_word c.args.stubs.now c.args.floor c.loop-key.by_floor c.loop-key.by_word c.loop-key.invariant.keyed c.in-Some.key c.first.ensures.ascending at c.arrival-arrival.result c.pop-else-not-is_ahead.new.self c.pop-else-not-is_ahead.ensures.rest

pub loop-key-smaller : goal.loop-key-smaller
loop-key-smaller c =
    let at : slice_get c.loop-key.by_word.keys 0 ≡ Some c.in-Some.key = sym c.first.ensures.first ∙ c.in-Some.is in
    let s : (s : Stub) × (slice_get c.args.stubs.now c.in-Some.key.number ≡ Some s) = get_there c.args.stubs.now c.in-Some.key.number (word_within c.args.stubs.now c.args.floor c.loop-key.by_floor c.loop-key.by_word c.loop-key.invariant.keyed c.in-Some.key c.first.ensures.ascending at) in
    let read = get_or_from_slice_get c.args.stubs.now c.in-Some.key.number s.0 _ s.1 in
    let unknown : is_exact s.0.word ≡ false = not_true (is_exact s.0.word) (ap (λ (z : Stub). not (is_exact z.word)) (sym read) ∙ (sym c.is_open.ensures.open ∙ c.if-not-is_open.false)) in
    let arrival : c.arrival-arrival.result ≡ arrival_at c.args.floor s.0 = c.arrival-arrival.ensures.arrival ∙ ap (arrival_at c.args.floor) read in
    let pushed : c.push-else-not-is_ahead.new.self ≡ record c.pop-else-not-is_ahead.new.self { keys = put (key_of (arrival_at c.args.floor s.0) c.in-Some.key.number) c.pop-else-not-is_ahead.new.self.keys } =
    c.push-else-not-is_ahead.ensures ∙ ap (λ n. record c.pop-else-not-is_ahead.new.self { keys = put (key_of n c.in-Some.key.number) c.pop-else-not-is_ahead.new.self.keys }) arrival
    in
    slack_again c.args.stubs.now c.args.floor c.loop-key.by_floor c.loop-key.by_word c.loop-key.invariant.keyed c.in-Some.key c.first.ensures.ascending at s.0 s.1 c.pop-else-not-is_ahead.new.self c.push-else-not-is_ahead.new.self c.pop-else-not-is_ahead.ensures.rest pushed unknown (λ e. c.if-key-arrival.false (e ∙ sym arrival))

pub loop-key-preserved : goal.loop-key-preserved
loop-key-preserved c =
    let at : slice_get c.loop-key.by_word.keys 0 ≡ Some c.in-Some.key = sym c.first.ensures.first ∙ c.in-Some.is in
    let s : (s : Stub) × (slice_get c.args.stubs.now c.in-Some.key.number ≡ Some s) = get_there c.args.stubs.now c.in-Some.key.number (word_within c.args.stubs.now c.args.floor c.loop-key.by_floor c.loop-key.by_word c.loop-key.invariant.keyed c.in-Some.key c.first.ensures.ascending at) in
    let read = get_or_from_slice_get c.args.stubs.now c.in-Some.key.number s.0 _ s.1 in
    let arrival : c.arrival-arrival.result ≡ arrival_at c.args.floor s.0 = c.arrival-arrival.ensures.arrival ∙ ap (arrival_at c.args.floor) read in
    let pushed : c.push-else-not-is_ahead.new.self ≡ record c.pop-else-not-is_ahead.new.self { keys = put (key_of (arrival_at c.args.floor s.0) c.in-Some.key.number) c.pop-else-not-is_ahead.new.self.keys } =
    c.push-else-not-is_ahead.ensures ∙ ap (λ n. record c.pop-else-not-is_ahead.new.self { keys = put (key_of n c.in-Some.key.number) c.pop-else-not-is_ahead.new.self.keys }) arrival
    in
    record { keyed = word_again c.args.stubs.now c.args.floor c.loop-key.by_floor c.loop-key.by_word c.loop-key.invariant.keyed c.in-Some.key c.first.ensures.ascending at s.0 s.1 c.pop-else-not-is_ahead.new.self c.push-else-not-is_ahead.new.self c.pop-else-not-is_ahead.ensures.rest pushed; current = c.loop-key.invariant.current }
