-- The thing was at the front of its worker's queue.
use Rattle.std.proofs.Common.{rules, ◌≡◌, ◌%◌, ◌<◌, ℕ, List, [], ◌∷◌, length, get_or, map, set, sym, ◌∙◌, ap, subst, refl, arith, mod-lt}
use Rattle.std.specs.VecDeque.{deque_capacity}
use Rattle.std.proofs.lemmas.List.{get_or-map, length-map, length-set, map-set}
use Rattle.dealing.specs.Dealing.{AreDealt, queue_at, with_next}
use Rattle.dealing.specs.Workers.{queues_of}
use Rattle.dealing.specs.declared.worker.Worker.{Worker}
use Rattle.dealing.proofs.Shares.{own_share}
use Rattle.dealing.proofs.Steps.{dealt_rest, next_of}
use Rattle.dealing.proofs.Stays.{stays}
use Rattle.dealing.proofs.dealt.take.Goals as goal

-- the queues were those that are left, with one more
queues_were : {T X : Type 0} (number : ℕ) (item : T) (workers : List (Worker T X)) (d new : Worker T X) → 0 < length workers → (get_or workers (number % length workers) d).queue.items ≡ item ∷ new.queue.items
    → queues_of workers ≡ with_next number item (queues_of (set workers (number % length workers) new))
queues_were {T} {X} number item workers d new some is =
    let own : ℕ = number % length workers in
    let f : Worker T X → List T = λ w. w.queue.items in
    let many : length (map f workers) ≡ length workers = length-map workers f in
    let here : queue_at (map f workers) own ≡ item ∷ new.queue.items = get_or-map f workers own d [] (mod-lt number some) ∙ is in
    next_of number item new.queue.items (map f workers) (omega (arith, some, many)) (ap (λ (n : ℕ). queue_at (map f workers) (number % n)) many ∙ here)
    ∙ ap (with_next number item) (ap (λ (n : ℕ). set (map f workers) (number % n) new.queue.items) many ∙ sym (map-set f workers own new))

-- it was there
one_there : {T X : Type 0} (number : ℕ) (item : T) (items : List T) (workers : List (Worker T X)) (d : Worker T X) → 0 < length workers → AreDealt number (item ∷ items) (queues_of workers)
    → 0 < length (get_or workers (number % length workers) d).queue.items
one_there {T} {X} number item items workers d some dealt =
    let own : ℕ = number % length workers in
    let f : Worker T X → List T = λ w. w.queue.items in
    let many : length (map f workers) ≡ length workers = length-map workers f in
    let within : own < length workers = mod-lt number some in
    let own_is : number % length (map f workers) ≡ own = ap (λ (n : ℕ). number % n) many in
    let here = ap length (sym (get_or-map f workers own d [] within) ∙ (dealt own (omega (arith, within, many)) ∙ own_share (length (map f workers)) own number item items own_is)) in
    omega (arith, here)

pub unreachable-requires : goal.unreachable-requires
unreachable-requires g c =
    let there = one_there c.args.number c.requires.item c.requires.items c.args.workers.now c.index-workers-own.result c.requires.some c.requires.dealt in
    let ok = (get_or c.args.workers.now (c.args.number % length c.args.workers.now) c.index-workers-own.result).queue.ok in
    let size = ok.0 in
    let none = c.in_default.is in
    let variant = c.pop_front.ensures.variant in
    let more : 0 < (get_or c.args.workers.now (c.args.number % length c.args.workers.now) c.index-workers-own.result).queue.len = omega (arith, there, size) in
    search rules

pub returns-clause-queues : goal.returns-clause-queues
returns-clause-queues g c = queues_were c.args.number c.in-Some.item c.args.workers.now c.index-workers-own.result _ c.requires.some c.in-Some.ensures.items

pub returns-clause-dealt : goal.returns-clause-dealt
returns-clause-dealt g c = λ item items dealt.
    let workers : List (Worker g.row.T.Denot g.row.X.Denot) = c.args.workers.now in
    let new : Worker g.row.T.Denot g.row.X.Denot = record { queue = c.pop_front.new.self; tools = (get_or workers (c.args.number % length workers) c.index-workers-own.result).tools } in
    let left : List (Worker g.row.T.Denot g.row.X.Denot) = set workers (c.args.number % length workers) new in
    let were = queues_were c.args.number c.in-Some.item workers c.index-workers-own.result new c.requires.some c.in-Some.ensures.items in
    let some : 0 < length (queues_of left) = (let s = c.requires.some in let a = length-map left (λ (w : Worker g.row.T.Denot g.row.X.Denot). w.queue.items) in let b = length-set workers (c.args.number % length workers) new in omega (arith, s, a, b)) in
    dealt_rest c.args.number c.in-Some.item (queues_of left) some item items (subst (AreDealt c.args.number (item ∷ items)) were dealt)

pub returns-clause-rooms : goal.returns-clause-rooms
returns-clause-rooms g c =
    stays (λ (w : Worker g.row.T.Denot g.row.X.Denot). deque_capacity w.queue) c.args.workers.now (c.args.number % length c.args.workers.now) c.index-workers-own.result _ (mod-lt c.args.number c.requires.some) c.pop_front.ensures.capacity

pub returns-clause-tools : goal.returns-clause-tools
returns-clause-tools g c =
    stays (λ (w : Worker g.row.T.Denot g.row.X.Denot). w.tools) c.args.workers.now (c.args.number % length c.args.workers.now) c.index-workers-own.result _ (mod-lt c.args.number c.requires.some) refl
