-- The core is not over, and so has room for its hits.
use Rattle.std.proofs.Common.{◌≡◌, ℕ, ◌<◌, ◌++◌, ◌∷◌, List, get_or, length, false, Some, sym, ◌∙◌, ap, subst, arith}
use Rattle.std.specs.Prelude.{is_some, replicate, slice_get, slice_set}
use Rattle.std.proofs.lemmas.Option.{slice_get-get_or}
use Rattle.bound_core.specs.IntervalBounds.{most_accesses}
use Rattle.bound_core.specs.NumberedCores.{NumberedCore}
use Rattle.bound_core.specs.ShardWorld.{shards_serve}
use Rattle.bound_core.specs.Taken.{TakesThese}
use Rattle.bound_records.specs.Turns.{time_by_net}
use Rattle.reference.proofs.Accesses.{clock_within}
use Rattle.trace.specs.Port.{Gives, leaves_shards, phase_of}
use Rattle.trace.specs.Trace.{Step, phase_steps}
use Rattle.trace.specs.Turns.{HaveTaken, chosen}
use Rattle.trace.specs.Ways.{told_steps}
use Rattle.trace.proofs.TakingHits.{as_chosen, as_many, at_time, hits_room, hits_told, is_after, logged_of, not_over, these_taken, turns_told}
use Rattle.trace.proofs.turns.take_hits.Goals as goal

pub take_told_hits-requires-clause-number : goal.take_told_hits-requires-clause-number
take_told_hits-requires-clause-number g c =
    let was = c.requires.taken in
    let h = was.3 in
    let cores = c.args.cores.now in
    let n = c.from.result in
    let below : n < length cores = omega (arith, c.from.ensures, c.requires.known) in
    h.numbered n (get_or cores n c.index-cores-from.result) (slice_get-get_or cores n c.index-cores-from.result below) ∙ c.from.ensures

pub take_told_hits-requires-clause-known : goal.take_told_hits-requires-clause-known
take_told_hits-requires-clause-known g c =
    let h = c.requires.taken.3 in
    omega (arith, h.stamps, c.requires.known)

pub take_told_hits-requires-clause-clock : goal.take_told_hits-requires-clause-clock
take_told_hits-requires-clause-clock g c =
    let was = c.requires.taken in
    let h = was.3 in
    let cores = c.args.cores.now in
    let n = c.from.result in
    let core : NumberedCore = get_or cores n c.index-cores-from.result in
    let below : n < length cores = omega (arith, c.from.ensures, c.requires.known) in
    let left = get_or h.left n 0 in
    let way = h.each n left core (slice_get-get_or h.left n 0 (omega (arith, below, h.count))) (slice_get-get_or cores n c.index-cores-from.result below) in
    omega (arith, way.clock, clock_within c.args.end core.timed)

pub take_told_hits-requires-clause-base : goal.take_told_hits-requires-clause-base
take_told_hits-requires-clause-base g c =
    let was = c.requires.taken in
    let h = was.3 in
    let cores = c.args.cores.now in
    let n = c.from.result in
    let core : NumberedCore = get_or cores n c.index-cores-from.result in
    let below : n < length cores = omega (arith, c.from.ensures, c.requires.known) in
    let left = get_or h.left n 0 in
    let way = h.each n left core (slice_get-get_or h.left n 0 (omega (arith, below, h.count))) (slice_get-get_or cores n c.index-cores-from.result below) in
    sym way.base_is

pub take_told_hits-requires-clause-size : goal.take_told_hits-requires-clause-size
take_told_hits-requires-clause-size g c =
    let was = c.requires.taken in
    let h = was.3 in
    let cores = c.args.cores.now in
    let n = c.from.result in
    let core : NumberedCore = get_or cores n c.index-cores-from.result in
    let below : n < length cores = omega (arith, c.from.ensures, c.requires.known) in
    let left = get_or h.left n 0 in
    let way = h.each n left core (slice_get-get_or h.left n 0 (omega (arith, below, h.count))) (slice_get-get_or cores n c.index-cores-from.result below) in
    sym way.size_is

pub take_told_hits-requires-clause-l1i : goal.take_told_hits-requires-clause-l1i
take_told_hits-requires-clause-l1i g c =
    let was = c.requires.taken in
    let h = was.3 in
    let cores = c.args.cores.now in
    let n = c.from.result in
    let core : NumberedCore = get_or cores n c.index-cores-from.result in
    let below : n < length cores = omega (arith, c.from.ensures, c.requires.known) in
    let left = get_or h.left n 0 in
    let way = h.each n left core (slice_get-get_or h.left n 0 (omega (arith, below, h.count))) (slice_get-get_or cores n c.index-cores-from.result below) in
    way.fetches

pub take_told_hits-requires-clause-room : goal.take_told_hits-requires-clause-room
take_told_hits-requires-clause-room g c =
    let was = c.requires.taken in
    let h = was.3 in
    let cores = c.args.cores.now in
    let n = c.from.result in
    let core : NumberedCore = get_or cores n c.index-cores-from.result in
    let below : n < length cores = omega (arith, c.from.ensures, c.requires.known) in
    let left = get_or h.left n 0 in
    let way = h.each n left core (slice_get-get_or h.left n 0 (omega (arith, below, h.count))) (slice_get-get_or cores n c.index-cores-from.result below) in
    let going : is_some core.timed.core.halted ≡ false = ap is_some (sym c.halted.ensures) ∙ (sym c.is_some.ensures ∙ c.if-is_some.false) in
    let early : core.timed.clock < c.args.end = omega (arith, c.if-clock-end.false, c.clock.ensures) in
    let near = not_over c.args.end left core.timed going early way.few in
    hits_room (time_by_net c.args.net.now) c.args.program.now c.args.end was.0 was.1 was.2 cores c.args.port.now n (most_accesses c.args.end core.timed) h below near.0

pub returns-clause-taken : goal.returns-clause-taken
returns-clause-taken g c = λ most first turns h.
    let time = time_by_net c.args.net.now in
    let image = c.args.program.now in
    let end = c.args.end in
    let cores = c.args.cores.now in
    let number = c.args.number in
    let port = c.args.port.now in
    let n = c.from.result in
    let core : NumberedCore = get_or cores n c.index-cores-from.result in
    let below : n < length cores = omega (arith, c.from.ensures, c.requires.known) in
    let here : slice_get cores n ≡ Some core = slice_get-get_or cores n c.index-cores-from.result below in
    let left = get_or h.left n 0 in
    let way = h.each n left core (slice_get-get_or h.left n 0 (omega (arith, below, h.count))) here in
    let going : is_some core.timed.core.halted ≡ false = ap is_some (sym c.halted.ensures) ∙ (sym c.is_some.ensures ∙ c.if-is_some.false) in
    let early : core.timed.clock < c.args.end = omega (arith, c.if-clock-end.false, c.clock.ensures) in
    let near = not_over c.args.end left core.timed going early way.few in
    let did = c.in_ok-taken.ensures.hits in
    let after = c.take_told_hits.new.core in
    let port_after = c.take_told_hits.new.port in
    let these : TakesThese time image end Gives logged_of n did.entries (chosen port number) port_after core.timed after.timed =
    subst (λ (k : ℕ). TakesThese time image end Gives logged_of k did.entries (chosen port number) port_after core.timed after.timed) (h.numbered n core here) did.these
    in
    subst (λ (x : NumberedCore). HaveTaken time image end most first (turns ++ replicate c.in_ok-taken.taken number) (slice_set cores n x) port_after) (is_after core after did.number did.spare)
    (subst (λ (ns : List ℕ). HaveTaken time image end most first ns (slice_set cores n (at_time core after.timed)) port_after) (as_many turns did.entries n c.in_ok-taken.taken number did.many c.from.ensures)
    (these_taken time image end most first n did.entries turns cores (chosen port number) port_after (as_chosen time image end most first turns cores port number h) core after.timed c.requires.end here near these))

pub returns-clause-told : goal.returns-clause-told
returns-clause-told g c = λ rest.
    let was = c.requires.taken in
    let time = time_by_net c.args.net.now in
    let image = c.args.program.now in
    let end = c.args.end in
    let cores = c.args.cores.now in
    let number = c.args.number in
    let port = c.args.port.now in
    let n = c.from.result in
    let core : NumberedCore = get_or cores n c.index-cores-from.result in
    let below : n < length cores = omega (arith, c.from.ensures, c.requires.known) in
    let here : slice_get cores n ≡ Some core = slice_get-get_or cores n c.index-cores-from.result below in
    let h = as_chosen time image end was.0 was.1 was.2 cores port number was.3 in
    let did = c.in_ok-taken.ensures.hits in
    let after = c.take_told_hits.new.core in
    let port_after = c.take_told_hits.new.port in
    let own : core.number ≡ n = was.3.numbered n core here in
    let these : TakesThese time image end Gives logged_of n did.entries (chosen port number) port_after core.timed after.timed =
    subst (λ (k : ℕ). TakesThese time image end Gives logged_of k did.entries (chosen port number) port_after core.timed after.timed) own did.these
    in
    let before = g.T.Tracer.steps c.args.tracer.now in
    let later = g.T.Tracer.steps c.take_told_hits.new.tracer in
    let told = hits_told time image end was.0 was.1 n was.2 cores (chosen port number) port_after h core after.timed c.requires.end here did.entries these did.hits did.told before later did.tells
    (did.are ∙ ap (λ (k : ℕ). before ++ told_steps k did.told did.entries) own) rest
    in
    let Later : ℕ → NumberedCore → List Step = λ k x. later ++ phase_steps shards_serve leaves_shards image end time (k ∷ rest) (phase_of (slice_set cores n x) port_after) in
    sym (ap (λ (x : NumberedCore). Later number x) (is_after core after did.number did.spare))
    ∙ (sym (ap (λ (k : ℕ). Later k (at_time core after.timed)) c.from.ensures)
    ∙ (told
    ∙ (ap (λ (k : ℕ). before ++ phase_steps shards_serve leaves_shards image end time (replicate k n ++ n ∷ rest) (phase_of cores port)) did.many
    ∙ ap (λ (k : ℕ). before ++ phase_steps shards_serve leaves_shards image end time (replicate c.in_ok-taken.taken k ++ k ∷ rest) (phase_of cores port)) c.from.ensures)))

pub returns-clause-whole : goal.returns-clause-whole
returns-clause-whole g c = λ some all rest.
    let was = c.requires.taken in
    let time = time_by_net c.args.net.now in
    let image = c.args.program.now in
    let end = c.args.end in
    let cores = c.args.cores.now in
    let number = c.args.number in
    let port = c.args.port.now in
    let n = c.from.result in
    let core : NumberedCore = get_or cores n c.index-cores-from.result in
    let below : n < length cores = omega (arith, c.from.ensures, c.requires.known) in
    let here : slice_get cores n ≡ Some core = slice_get-get_or cores n c.index-cores-from.result below in
    let h = as_chosen time image end was.0 was.1 was.2 cores port number was.3 in
    let did = c.in_ok-taken.ensures.hits in
    let after = c.take_told_hits.new.core in
    let port_after = c.take_told_hits.new.port in
    let own : core.number ≡ n = was.3.numbered n core here in
    let these : TakesThese time image end Gives logged_of n did.entries (chosen port number) port_after core.timed after.timed =
    subst (λ (k : ℕ). TakesThese time image end Gives logged_of k did.entries (chosen port number) port_after core.timed after.timed) own did.these
    in
    let before = g.T.Tracer.steps c.args.tracer.now in
    let later = g.T.Tracer.steps c.take_told_hits.new.tracer in
    let same : c.most_hits-most.result ≡ c.args.most = omega (arith, all, c.in_ok-taken.ensures.few, c.most_hits-most.ensures.few) in
    let told = turns_told time image end was.0 was.1 n was.2 cores (chosen port number) port_after h core after.timed c.requires.end here did.entries these did.hits did.told before later did.tells
    (did.stops (c.most_hits-most.ensures.all some same) (omega (arith, some, same)) (omega (arith, all, same)))
    (did.are ∙ ap (λ (k : ℕ). before ++ told_steps k did.told did.entries) own) rest
    in
    let Later : NumberedCore → List Step = λ x. later ++ phase_steps shards_serve leaves_shards image end time rest (phase_of (slice_set cores n x) port_after) in
    sym (ap Later (is_after core after did.number did.spare))
    ∙ (told
    ∙ (ap (λ (k : ℕ). before ++ phase_steps shards_serve leaves_shards image end time (replicate k n ++ rest) (phase_of cores port)) did.many
    ∙ ap (λ (k : ℕ). before ++ phase_steps shards_serve leaves_shards image end time (replicate c.in_ok-taken.taken k ++ rest) (phase_of cores port)) c.from.ensures))

pub returns-clause-few : goal.returns-clause-few
returns-clause-few g c = omega (arith, c.in_ok-taken.ensures.few, c.most_hits-most.ensures.few)
