-- Hits, and then a turn.
use Rattle.std.proofs.Common.{◌≡◌, ◌<◌, ◌+◌, ◌++◌, ◌∷◌, [], ℕ, List, get_or, length, true, false, Some, refl, sym, ◌∙◌, ap, subst, arith, rules}
use Rattle.std.specs.Prelude.{replicate, slice_get, slice_set}
use Rattle.std.proofs.lemmas.List.{length-set}
use Rattle.std.proofs.lemmas.Option.{same_Some, slice_get-get_or}
use Rattle.bound_core.specs.NumberedCores.{NumberedCore, timed_of}
use Rattle.bound_core.specs.ShardWorld.{shards_serve}
use Rattle.bound_core.specs.Turn.{IsOver}
use Rattle.bound_records.specs.Turns.{time_by_net}
use Rattle.bound_records.proofs.Lists.{get_mapped}
use Rattle.reference.proofs.Lists.{get_set}
use Rattle.trace.specs.Port.{leaves_shards, phase_of}
use Rattle.trace.specs.Trace.{Step, phase_steps, turn_steps}
use Rattle.trace.specs.Turns.{HaveTaken, chosen}
use Rattle.trace.proofs.PhaseTold.{turn_told}
use Rattle.trace.proofs.Stretches.{both, joined, longer, one_longer}
use Rattle.trace.proofs.TakingTurns.{one_ended, one_taken, one_turn}
use Rattle.trace.proofs.turns.take_stretch.Goals as goal

pub take_hits-requires-clause-taken : goal.take_hits-requires-clause-taken
take_hits-requires-clause-taken g c =
    let was = c.requires.taken in
    (was.0, was.1, was.2 ++ replicate c.loop-taken.taken c.args.number, c.loop-taken.invariant.way was.0 was.1 was.2 was.3)

pub take_turn-requires-clause-number : goal.take_turn-requires-clause-number
take_turn-requires-clause-number g c =
    let was = c.requires.taken in
    let number = c.args.number in
    let some = c.loop-taken.taken in
    let h = c.in_ok-hits.ensures.taken was.0 was.1 (was.2 ++ replicate some number) (c.loop-taken.invariant.way was.0 was.1 was.2 was.3) in
    let cores = c.take_hits.new.cores in
    let n = c.from.result in
    let below : n < length cores = omega (arith, c.from.ensures, c.requires.known, c.take_hits.ensures.count, c.loop-taken.invariant.count) in
    h.numbered n (get_or cores n c.index-cores-from.result) (slice_get-get_or cores n c.index-cores-from.result below) ∙ c.from.ensures

pub take_turn-requires-clause-known : goal.take_turn-requires-clause-known
take_turn-requires-clause-known g c =
    let was = c.requires.taken in
    let number = c.args.number in
    let some = c.loop-taken.taken in
    let h = c.in_ok-hits.ensures.taken was.0 was.1 (was.2 ++ replicate some number) (c.loop-taken.invariant.way was.0 was.1 was.2 was.3) in
    let cores = c.take_hits.new.cores in
    let n = c.from.result in
    let below : n < length cores = omega (arith, c.from.ensures, c.requires.known, c.take_hits.ensures.count, c.loop-taken.invariant.count) in
    omega (arith, below, c.from.ensures, h.stamps)

pub take_turn-requires-clause-room : goal.take_turn-requires-clause-room
take_turn-requires-clause-room g c =
    let was = c.requires.taken in
    let h = c.in_ok-hits.ensures.taken was.0 was.1 (was.2 ++ replicate c.loop-taken.taken c.args.number) (c.loop-taken.invariant.way was.0 was.1 was.2 was.3) in
    omega (arith, h.room, h.few)

pub take_turn-requires-clause-way : goal.take_turn-requires-clause-way
take_turn-requires-clause-way g c =
    let was = c.requires.taken in
    let number = c.args.number in
    let some = c.loop-taken.taken in
    let h = c.in_ok-hits.ensures.taken was.0 was.1 (was.2 ++ replicate some number) (c.loop-taken.invariant.way was.0 was.1 was.2 was.3) in
    let cores = c.take_hits.new.cores in
    let n = c.from.result in
    let below : n < length cores = omega (arith, c.from.ensures, c.requires.known, c.take_hits.ensures.count, c.loop-taken.invariant.count) in
    let left = get_or h.left n 0 in
    (left, h.each n left (get_or cores n c.index-cores-from.result) (slice_get-get_or h.left n 0 (omega (arith, below, h.count))) (slice_get-get_or cores n c.index-cores-from.result below))

pub returns-then-taken-count-clause-taken : goal.returns-then-taken-count-clause-taken
returns-then-taken-count-clause-taken g c = λ most first turns h.
    let number = c.args.number in
    let some = c.loop-taken.taken in
    let more = c.in_ok-hits.hits in
    let hits = c.in_ok-hits.ensures.taken most first (turns ++ replicate some number) (c.loop-taken.invariant.way most first turns h) in
    subst (λ (ns : List ℕ). HaveTaken (time_by_net c.args.net.now) c.args.program.now c.args.end most first ns c.take_hits.new.cores c.take_hits.new.port) (longer turns some more number) hits

pub returns-then-taken-count-clause-few : goal.returns-then-taken-count-clause-few
returns-then-taken-count-clause-few g c = omega (arith, c.if-taken-count.true)

pub returns-then-taken-count-clause-over : goal.returns-then-taken-count-clause-over
returns-then-taken-count-clause-over g c = λ fewer core found. absurd (omega (arith, fewer, c.if-taken-count.true))

pub returns-then-taken-count-clause-told : goal.returns-then-taken-count-clause-told
returns-then-taken-count-clause-told g c = λ is rest.
    let number = c.args.number in
    let some = c.loop-taken.taken in
    let more = c.in_ok-hits.hits in
    let all : some + more ≡ c.args.count = c.if-taken-count.true in
    let first = phase_of c.args.cores.now c.args.port.now in
    let old = g.T.Tracer.steps c.args.tracer.now in
    let Steps : List ℕ → List Step = λ ns. old ++ phase_steps shards_serve leaves_shards c.args.program.now c.args.end (time_by_net c.args.net.now) ns first in
    c.in_ok-hits.ensures.whole (omega (arith, c.loop-taken-test.true)) (omega (arith, all)) rest
    ∙ (c.loop-taken.invariant.told (replicate more number ++ rest) ∙ ap Steps (both some more number rest ∙ ap (λ (k : ℕ). replicate k number ++ rest) all))

pub returns-then-not-took-clause-taken : goal.returns-then-not-took-clause-taken
returns-then-not-took-clause-taken g c = λ most first turns h.
    let time = time_by_net c.args.net.now in
    let image = c.args.program.now in
    let end = c.args.end in
    let number = c.args.number in
    let some = c.loop-taken.taken in
    let more = c.in_ok-hits.hits in
    let cores = c.take_hits.new.cores in
    let port = c.take_hits.new.port in
    let n = c.from.result in
    let below : n < length cores = omega (arith, c.from.ensures, c.requires.known, c.take_hits.ensures.count, c.loop-taken.invariant.count) in
    let core : NumberedCore = get_or cores n c.index-cores-from.result in
    let here : slice_get cores n ≡ Some core = slice_get-get_or cores n c.index-cores-from.result below in
    let after = c.take_turn.new.core in
    let none : c.in_ok-took.took ≡ false = search rules in
    let hits = c.in_ok-hits.ensures.taken most first (turns ++ replicate some number) (c.loop-taken.invariant.way most first turns h) in
    subst (λ (ns : List ℕ). HaveTaken time image end most first ns (slice_set cores n after) c.take_turn.new.port) (longer turns some more number)
    (one_ended time image end most first _ cores port hits n core after here (chosen port number) c.take_turn.new.port refl refl refl (c.in_ok-took.ensures.none none))

pub returns-then-not-took-clause-few : goal.returns-then-not-took-clause-few
returns-then-not-took-clause-few g c = omega (arith, c.in_ok-hits.ensures.few, c.loop-taken.invariant.few, c.loop-taken-test.true)

pub returns-then-not-took-clause-told : goal.returns-then-not-took-clause-told
returns-then-not-took-clause-told g c = λ is. absurd (omega (arith, is, c.if-taken-count.false))

pub returns-then-not-took-clause-over : goal.returns-then-not-took-clause-over
returns-then-not-took-clause-over g c = λ fewer last found.
    let time = time_by_net c.args.net.now in
    let image = c.args.program.now in
    let end = c.args.end in
    let number = c.args.number in
    let some = c.loop-taken.taken in
    let more = c.in_ok-hits.hits in
    let cores = c.take_hits.new.cores in
    let port = c.take_hits.new.port in
    let n = c.from.result in
    let below : n < length cores = omega (arith, c.from.ensures, c.requires.known, c.take_hits.ensures.count, c.loop-taken.invariant.count) in
    let core : NumberedCore = get_or cores n c.index-cores-from.result in
    let here : slice_get cores n ≡ Some core = slice_get-get_or cores n c.index-cores-from.result below in
    let after = c.take_turn.new.core in
    let none : c.in_ok-took.took ≡ false = search rules in
    let is : after ≡ last = same_Some after last (sym (get_set cores n core after here) ∙ (ap (slice_get (slice_set cores n after)) c.from.ensures ∙ found)) in
    subst (λ (x : NumberedCore). IsOver end x.timed) is (c.in_ok-took.ensures.none none).over

pub loop-taken-preserved : goal.loop-taken-preserved
loop-taken-preserved g c =
    let time = time_by_net c.args.net.now in
    let image = c.args.program.now in
    let end = c.args.end in
    let number = c.args.number in
    let some = c.loop-taken.taken in
    let more = c.in_ok-hits.hits in
    let cores = c.take_hits.new.cores in
    let port = c.take_hits.new.port in
    let n = c.from.result in
    let below : n < length cores = omega (arith, c.from.ensures, c.requires.known, c.take_hits.ensures.count, c.loop-taken.invariant.count) in
    let core : NumberedCore = get_or cores n c.index-cores-from.result in
    let here : slice_get cores n ≡ Some core = slice_get-get_or cores n c.index-cores-from.result below in
    let after = c.take_turn.new.core in
    let took : c.in_ok-took.took ≡ true = search rules in
    let turn = c.in_ok-took.ensures.took took in
    record {
      way = λ most first turns h.
          let hits = c.in_ok-hits.ensures.taken most first (turns ++ replicate some number) (c.loop-taken.invariant.way most first turns h) in
          let all : HaveTaken time image end most first (turns ++ replicate (some + more) number) cores port =
          subst (λ (ns : List ℕ). HaveTaken time image end most first ns cores port) (longer turns some more number) hits
          in
          let one = one_taken time image end most first _ cores port all n core after here (chosen port number) c.take_turn.new.port refl refl refl turn.0 turn.1 c.requires.end in
          subst (λ (ns : List ℕ). HaveTaken time image end most first ns (slice_set cores n after) c.take_turn.new.port)
          (ap (λ (k : ℕ). (turns ++ replicate (some + more) number) ++ k ∷ []) c.from.ensures ∙ one_longer turns (some + more) number) one;
      told = λ rest.
          let was = c.requires.taken in
          let h = c.in_ok-hits.ensures.taken was.0 was.1 (was.2 ++ replicate some number) (c.loop-taken.invariant.way was.0 was.1 was.2 was.3) in
          let first = phase_of c.args.cores.now c.args.port.now in
          let old = g.T.Tracer.steps c.args.tracer.now in
          let before = g.T.Tracer.steps c.take_hits.new.tracer in
          let later = g.T.Tracer.steps c.take_turn.new.tracer in
          let did : later ≡ before ++ turn_steps shards_serve leaves_shards image end port.world n core.timed =
          c.in_ok-took.ensures.told ∙ ap (λ (k : ℕ). before ++ turn_steps shards_serve leaves_shards image end port.world k core.timed) (sym c.from.ensures)
          in
          let one = one_turn time image end was.0 was.1 _ cores port h n core after here (chosen port number) c.take_turn.new.port refl refl refl turn.0 turn.1 in
          let there : slice_get (timed_of cores) n ≡ Some core.timed = get_mapped (λ (x : NumberedCore). x.timed) cores n core here in
          turn_told image end time (phase_of cores port) (phase_of (slice_set cores n after) c.take_turn.new.port) n core.timed rest before later there one did
          ∙ (ap (λ (k : ℕ). before ++ phase_steps shards_serve leaves_shards image end time (k ∷ rest) (phase_of cores port)) c.from.ensures
          ∙ (c.in_ok-hits.ensures.told rest
          ∙ (c.loop-taken.invariant.told (replicate more number ++ number ∷ rest)
          ∙ ap (λ (ns : List ℕ). old ++ phase_steps shards_serve leaves_shards image end time ns first) (joined some more number rest))));
      few = omega (arith, c.in_ok-hits.ensures.few, c.loop-taken.invariant.few, c.loop-taken-test.true, c.if-taken-count.false);
      count = length-set cores n after ∙ (c.take_hits.ensures.count ∙ c.loop-taken.invariant.count);
      fixed = c.take_turn.ensures.fixed ∙ (c.take_hits.ensures.fixed ∙ c.loop-taken.invariant.fixed);
    }

pub returns-clause-few : goal.returns-clause-few
returns-clause-few g c = c.loop-taken.invariant.few

pub returns-clause-taken : goal.returns-clause-taken
returns-clause-taken g c = c.loop-taken.invariant.way

pub returns-clause-told : goal.returns-clause-told
returns-clause-told g c = λ is rest.
    let first = phase_of c.args.cores.now c.args.port.now in
    let old = g.T.Tracer.steps c.args.tracer.now in
    let Steps : ℕ → List Step = λ k. old ++ phase_steps shards_serve leaves_shards c.args.program.now c.args.end (time_by_net c.args.net.now) (replicate k c.args.number ++ rest) first in
    c.loop-taken.invariant.told rest ∙ ap Steps is

pub returns-clause-over : goal.returns-clause-over
returns-clause-over g c = λ fewer core found. absurd (omega (arith, fewer, c.loop-taken-test.false))
