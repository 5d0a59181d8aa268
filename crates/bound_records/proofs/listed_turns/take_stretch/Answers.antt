-- Hits, and then a turn.
use Rattle.std.proofs.Common.{◌≡◌, ◌<◌, ◌+◌, ◌++◌, ◌∷◌, [], ℕ, List, get_or, length, true, false, Some, sym, ◌∙◌, ap, subst, arith, rules}
use Rattle.std.specs.Prelude.{replicate, slice_get, slice_set}
use Rattle.std.proofs.lemmas.List.{length-set}
use Rattle.std.proofs.lemmas.Option.{same_Some, slice_get-get_or}
use Rattle.bound_core.specs.NumberedCores.{NumberedCore}
use Rattle.bound_core.specs.Turn.{IsOver}
use Rattle.reference.proofs.Lists.{get_set}
use Rattle.bound_records.specs.Turns.{HaveTaken, TakesAccess, TakesNone, chosen, time_by_net}
use Rattle.bound_records.proofs.TakingHits.{longer, one_longer}
use Rattle.bound_records.proofs.TakingTurns.{one_ended, one_taken, turn_room}
use Rattle.bound_records.proofs.listed_turns.take_stretch.Goals as goal

pub take_hits-taken-requires-clause-taken : goal.take_hits-taken-requires-clause-taken
take_hits-taken-requires-clause-taken c =
    let was = c.requires.taken in
    (was.0, was.1, was.2, was.3 ++ replicate c.loop-taken.taken c.args.number, c.loop-taken.invariant.way was.0 was.1 was.2 was.3 was.4)

pub take_turn-requires-clause-number : goal.take_turn-requires-clause-number
take_turn-requires-clause-number c =
    let was = c.requires.taken in
    let number = c.args.number in
    let some = c.loop-taken.taken in
    let h = c.take_hits-taken.ensures.taken was.0 was.1 was.2 (was.3 ++ replicate some number) (c.loop-taken.invariant.way was.0 was.1 was.2 was.3 was.4) in
    let cores = c.take_hits-taken.new.cores in
    let n = c.from.result in
    let below : n < length cores = omega (arith, c.from.ensures, c.requires.known, c.take_hits-taken.ensures.count, c.loop-taken.invariant.count) in
    h.numbered n (get_or cores n c.index-cores-from.result) (slice_get-get_or cores n c.index-cores-from.result below) ∙ c.from.ensures

pub take_turn-requires-clause-known : goal.take_turn-requires-clause-known
take_turn-requires-clause-known c =
    let was = c.requires.taken in
    let number = c.args.number in
    let some = c.loop-taken.taken in
    let h = c.take_hits-taken.ensures.taken was.0 was.1 was.2 (was.3 ++ replicate some number) (c.loop-taken.invariant.way was.0 was.1 was.2 was.3 was.4) in
    let cores = c.take_hits-taken.new.cores in
    let n = c.from.result in
    let below : n < length cores = omega (arith, c.from.ensures, c.requires.known, c.take_hits-taken.ensures.count, c.loop-taken.invariant.count) in
    omega (arith, below, c.from.ensures, h.room.stamps)

pub take_turn-requires-clause-room : goal.take_turn-requires-clause-room
take_turn-requires-clause-room c =
    let was = c.requires.taken in
    let number = c.args.number in
    let some = c.loop-taken.taken in
    let h = c.take_hits-taken.ensures.taken was.0 was.1 was.2 (was.3 ++ replicate some number) (c.loop-taken.invariant.way was.0 was.1 was.2 was.3 was.4) in
    let cores = c.take_hits-taken.new.cores in
    let n = c.from.result in
    let below : n < length cores = omega (arith, c.from.ensures, c.requires.known, c.take_hits-taken.ensures.count, c.loop-taken.invariant.count) in
    turn_room (time_by_net c.args.net.now) c.args.program.now c.args.end was.0 was.1 was.2 _ cores c.take_hits-taken.new.port.recorder number (omega (arith, below, c.from.ensures)) h

pub take_turn-requires-clause-way : goal.take_turn-requires-clause-way
take_turn-requires-clause-way c =
    let was = c.requires.taken in
    let number = c.args.number in
    let some = c.loop-taken.taken in
    let h = c.take_hits-taken.ensures.taken was.0 was.1 was.2 (was.3 ++ replicate some number) (c.loop-taken.invariant.way was.0 was.1 was.2 was.3 was.4) in
    let cores = c.take_hits-taken.new.cores in
    let n = c.from.result in
    let below : n < length cores = omega (arith, c.from.ensures, c.requires.known, c.take_hits-taken.ensures.count, c.loop-taken.invariant.count) in
    let left = get_or h.left n 0 in
    (was.1.begin, left, h.each n left (get_or cores n c.index-cores-from.result) (slice_get-get_or h.left n 0 (omega (arith, below, h.count))) (slice_get-get_or cores n c.index-cores-from.result below))

pub returns-then-not-take_turn-clause-taken : goal.returns-then-not-take_turn-clause-taken
returns-then-not-take_turn-clause-taken c = λ most r first turns h.
    let time = time_by_net c.args.net.now in
    let image = c.args.program.now in
    let end = c.args.end in
    let number = c.args.number in
    let some = c.loop-taken.taken in
    let more = c.take_hits-taken.result in
    let cores = c.take_hits-taken.new.cores in
    let port = c.take_hits-taken.new.port in
    let n = c.from.result in
    let below : n < length cores = omega (arith, c.from.ensures, c.requires.known, c.take_hits-taken.ensures.count, c.loop-taken.invariant.count) in
    let core : NumberedCore = get_or cores n c.index-cores-from.result in
    let here : slice_get cores n ≡ Some core = slice_get-get_or cores n c.index-cores-from.result below in
    let after = c.take_turn.new.core in
    let none : c.take_turn.result ≡ false = search rules in
    let hits = c.take_hits-taken.ensures.taken most r first (turns ++ replicate some number) (c.loop-taken.invariant.way most r first turns h) in
    subst (λ (ns : List ℕ). HaveTaken time image end most r first ns (slice_set cores n after) c.take_turn.new.port.recorder) (longer turns some more number)
    (one_ended time image end most r first _ cores port c.take_turn.new.port hits n core after here (subst (λ (k : ℕ). TakesNone image end (chosen port k) c.take_turn.new.port core after) (sym c.from.ensures) (c.take_turn.ensures.none none)))

pub returns-then-not-take_turn-clause-over : goal.returns-then-not-take_turn-clause-over
returns-then-not-take_turn-clause-over c = λ fewer last found.
    let time = time_by_net c.args.net.now in
    let image = c.args.program.now in
    let end = c.args.end in
    let number = c.args.number in
    let some = c.loop-taken.taken in
    let more = c.take_hits-taken.result in
    let cores = c.take_hits-taken.new.cores in
    let port = c.take_hits-taken.new.port in
    let n = c.from.result in
    let below : n < length cores = omega (arith, c.from.ensures, c.requires.known, c.take_hits-taken.ensures.count, c.loop-taken.invariant.count) in
    let core : NumberedCore = get_or cores n c.index-cores-from.result in
    let here : slice_get cores n ≡ Some core = slice_get-get_or cores n c.index-cores-from.result below in
    let after = c.take_turn.new.core in
    let none : c.take_turn.result ≡ false = search rules in
    let is : after ≡ last = same_Some after last (sym (get_set cores n core after here) ∙ (ap (slice_get (slice_set cores n after)) c.from.ensures ∙ found)) in
    subst (λ (x : NumberedCore). IsOver end x.timed) is (c.take_turn.ensures.none none).over

pub loop-taken-preserved-then-taken-count : goal.loop-taken-preserved-then-taken-count
loop-taken-preserved-then-taken-count c =
    let time = time_by_net c.args.net.now in
    let image = c.args.program.now in
    let end = c.args.end in
    let number = c.args.number in
    let some = c.loop-taken.taken in
    let more = c.take_hits-taken.result in
    let cores = c.take_hits-taken.new.cores in
    let port = c.take_hits-taken.new.port in
    let n = c.from.result in
    let below : n < length cores = omega (arith, c.from.ensures, c.requires.known, c.take_hits-taken.ensures.count, c.loop-taken.invariant.count) in
    let core : NumberedCore = get_or cores n c.index-cores-from.result in
    let here : slice_get cores n ≡ Some core = slice_get-get_or cores n c.index-cores-from.result below in
    let after = c.take_turn.new.core in
    let took : c.take_turn.result ≡ true = search rules in
    let turn = c.take_turn.ensures.took took in
    record {
      way = λ most r first turns h.
          let hits = c.take_hits-taken.ensures.taken most r first (turns ++ replicate some number) (c.loop-taken.invariant.way most r first turns h) in
          let all : HaveTaken time image end most r first (turns ++ replicate (some + more) number) cores port.recorder =
          subst (λ (ns : List ℕ). HaveTaken time image end most r first ns cores port.recorder) (longer turns some more number) hits
          in
          let one = one_taken time image end most r first _ cores port c.take_turn.new.port all n core after here turn.0 (subst (λ (k : ℕ). TakesAccess time image end (chosen port k) c.take_turn.new.port core after turn.0) (sym c.from.ensures) turn.1) c.requires.end in
          subst (λ (ns : List ℕ). HaveTaken time image end most r first ns (slice_set cores n after) c.take_turn.new.port.recorder)
          (ap (λ (k : ℕ). (turns ++ replicate (some + more) number) ++ k ∷ []) c.from.ensures ∙ one_longer turns (some + more) number) one;
      few = omega (arith, c.if-taken-count.true);
      count = length-set cores n after ∙ (c.take_hits-taken.ensures.count ∙ c.loop-taken.invariant.count);
    }

pub loop-taken-preserved : goal.loop-taken-preserved
loop-taken-preserved c =
    let number = c.args.number in
    let some = c.loop-taken.taken in
    let more = c.take_hits-taken.result in
    record {
      way = λ most r first turns h.
          subst (λ (ns : List ℕ). HaveTaken (time_by_net c.args.net.now) c.args.program.now c.args.end most r first ns c.take_hits-taken.new.cores c.take_hits-taken.new.port.recorder) (longer turns some more number)
          (c.take_hits-taken.ensures.taken most r first (turns ++ replicate some number) (c.loop-taken.invariant.way most r first turns h));
      few = omega (arith, c.take_hits-taken.ensures.few, c.loop-taken.invariant.few);
      count = c.take_hits-taken.ensures.count ∙ c.loop-taken.invariant.count;
    }
