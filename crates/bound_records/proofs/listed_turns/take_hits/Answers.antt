-- The core is not over, and so has room for its hits.
use Rattle.std.proofs.Common.{◌≡◌, ℕ, ◌<◌, ◌≤◌, ◌++◌, List, get_or, length, false, None, Some, sym, ◌∙◌, ap, subst, arith}
use Rattle.std.specs.Prelude.{is_some, replicate, slice_get, slice_set}
use Rattle.std.proofs.lemmas.Option.{slice_get-get_or}
use Rattle.zs_num.specs.declared.entry.Entry.{Entry}
use Rattle.bound_core.specs.IntervalBounds.{most_accesses}
use Rattle.bound_core.specs.NumberedCores.{NumberedCore}
use Rattle.bound_core.specs.ShardPort.{base_of, l1i_of, size_of}
use Rattle.bound_core.specs.Taken.{TakesThese}
use Rattle.bound_records.specs.Recorders.{GivesTurn, TurnPortState}
use Rattle.bound_records.specs.Turns.{HaveTaken, time_by_net}
use Rattle.bound_records.proofs.KeptInTurns.{room_in}
use Rattle.bound_records.proofs.TakingHits.{hits_room, not_over, these_taken}
use Rattle.bound_records.proofs.listed_turns.take_hits.Goals as goal

pub take_hits-requires-clause-base : goal.take_hits-requires-clause-base
take_hits-requires-clause-base c =
    let was = c.requires.taken in
    let h = was.4 in
    let cores = c.args.cores.now in
    let n = c.from.result in
    let core : NumberedCore = get_or cores n c.index-cores-from.result in
    let below : n < length cores = omega (arith, c.from.ensures, c.requires.known) in
    let left = get_or h.left n 0 in
    let way = h.each n left core (slice_get-get_or h.left n 0 (omega (arith, below, h.count))) (slice_get-get_or cores n c.index-cores-from.result below) in
    ap (λ (p : TurnPortState). base_of p.recorder.world) c.choose.ensures ∙ sym way.base_is

pub take_hits-requires-clause-size : goal.take_hits-requires-clause-size
take_hits-requires-clause-size c =
    let was = c.requires.taken in
    let h = was.4 in
    let cores = c.args.cores.now in
    let n = c.from.result in
    let core : NumberedCore = get_or cores n c.index-cores-from.result in
    let below : n < length cores = omega (arith, c.from.ensures, c.requires.known) in
    let left = get_or h.left n 0 in
    let way = h.each n left core (slice_get-get_or h.left n 0 (omega (arith, below, h.count))) (slice_get-get_or cores n c.index-cores-from.result below) in
    ap (λ (p : TurnPortState). size_of p.recorder.world) c.choose.ensures ∙ sym way.size_is

pub take_hits-requires-clause-l1i : goal.take_hits-requires-clause-l1i
take_hits-requires-clause-l1i c = λ fetching.
    let was = c.requires.taken in
    let h = was.4 in
    let cores = c.args.cores.now in
    let n = c.from.result in
    let core : NumberedCore = get_or cores n c.index-cores-from.result in
    let below : n < length cores = omega (arith, c.from.ensures, c.requires.known) in
    let left = get_or h.left n 0 in
    let way = h.each n left core (slice_get-get_or h.left n 0 (omega (arith, below, h.count))) (slice_get-get_or cores n c.index-cores-from.result below) in
    ap (λ (p : TurnPortState). l1i_of p.recorder.world) c.choose.ensures ∙ way.fetches fetching

pub take_hits-requires-clause-room : goal.take_hits-requires-clause-room
take_hits-requires-clause-room c =
    let was = c.requires.taken in
    let h = was.4 in
    let cores = c.args.cores.now in
    let number = c.args.number in
    let n = c.from.result in
    let core : NumberedCore = get_or cores n c.index-cores-from.result in
    let below : n < length cores = omega (arith, c.from.ensures, c.requires.known) in
    let left = get_or h.left n 0 in
    let way = h.each n left core (slice_get-get_or h.left n 0 (omega (arith, below, h.count))) (slice_get-get_or cores n c.index-cores-from.result below) in
    let going : is_some core.timed.core.halted ≡ false = ap is_some (sym c.halted.ensures) ∙ (sym c.is_some.ensures ∙ c.if-is_some.false) in
    let early : core.timed.clock < c.args.end = omega (arith, c.if-clock-end.false, c.clock.ensures) in
    let near = not_over was.1.begin c.args.end left core.timed going early way.few in
    let room = hits_room (time_by_net c.args.net.now) c.args.program.now c.args.end was.0 was.1 was.2 was.3 cores c.args.port.now.recorder number (most_accesses c.args.end core.timed) h c.requires.known (subst (λ (k : ℕ). most_accesses c.args.end core.timed ≤ get_or h.left k 0) c.from.ensures near.0) in
    let chosen : most_accesses c.args.end core.timed ≤ room_in c.choose.new.self = subst (λ (p : TurnPortState). most_accesses c.args.end core.timed ≤ room_in p) (sym c.choose.ensures) room in
    omega (arith, chosen)

pub returns-clause-taken : goal.returns-clause-taken
returns-clause-taken c = λ most r first turns h.
    let time = time_by_net c.args.net.now in
    let image = c.args.program.now in
    let end = c.args.end in
    let cores = c.args.cores.now in
    let number = c.args.number in
    let n = c.from.result in
    let core : NumberedCore = get_or cores n c.index-cores-from.result in
    let below : n < length cores = omega (arith, c.from.ensures, c.requires.known) in
    let here : slice_get cores n ≡ Some core = slice_get-get_or cores n c.index-cores-from.result below in
    let left = get_or h.left n 0 in
    let way = h.each n left core (slice_get-get_or h.left n 0 (omega (arith, below, h.count))) here in
    let going : is_some core.timed.core.halted ≡ false = ap is_some (sym c.halted.ensures) ∙ (sym c.is_some.ensures ∙ c.if-is_some.false) in
    let early : core.timed.clock < end = omega (arith, c.if-clock-end.false, c.clock.ensures) in
    let near = not_over r.begin end left core.timed going early way.few in
    let did = c.take_hits.ensures in
    let last = c.take_hits.new.self.timed in
    let entries : List Entry = did.these.0 in
    let port : TurnPortState = record c.args.port.now { core = number } in
    let these : TakesThese time image end GivesTurn (λ p. None) n entries port c.take_hits.new.port core.timed last =
    subst (λ (p : TurnPortState). TakesThese time image end GivesTurn (λ p. None) n entries p c.take_hits.new.port core.timed last) c.choose.ensures
    (subst (λ (k : ℕ). TakesThese time image end GivesTurn (λ p. None) k entries c.choose.new.self c.take_hits.new.port core.timed last) (h.numbered n core here) did.these.1.1)
    in
    let all = these_taken time image end most r first n entries turns cores port c.take_hits.new.port h core last c.requires.end here (sym c.from.ensures) near these in
    let after : (let x : NumberedCore = record core { timed = last } in x) ≡ c.take_hits.new.self =
    ap (λ (k : ℕ). let x : NumberedCore = record core { number = k; timed = last } in x) (sym did.number) ∙ ap (λ (k : ℕ). let x : NumberedCore = record c.take_hits.new.self { spare = k } in x) (sym did.spare)
    in
    let same : turns ++ replicate (length entries) n ≡ turns ++ replicate c.take_hits.result number = ap (λ (k : ℕ). turns ++ replicate k n) did.these.1.0 ∙ ap (λ (k : ℕ). turns ++ replicate c.take_hits.result k) c.from.ensures in
    subst (λ (x : NumberedCore). HaveTaken time image end most r first (turns ++ replicate c.take_hits.result number) (slice_set cores n x) c.take_hits.new.port.recorder) after
    (subst (λ (ns : List ℕ). HaveTaken time image end most r first ns (slice_set cores n (record core { timed = last })) c.take_hits.new.port.recorder) same all)
