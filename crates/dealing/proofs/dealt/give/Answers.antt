-- The thing goes to the front of its worker's queue.
use Rattle.std.proofs.Common.{◌≡◌, ◌%◌, ◌<◌, ◌≤◌, ◌+◌, ℕ, suc, List, [], ◌∷◌, length, get_or, map, set, sym, ◌∙◌, ap, subst, refl, arith, mod-lt}
use Rattle.std.specs.VecDeque.{deque_capacity}
use Rattle.std.proofs.lemmas.List.{get_or-map, length-map, map-set}
use Rattle.std.proofs.lemmas.List.Elements.{All-get_or}
use Rattle.dealing.specs.Dealing.{AreDealt, queue_at, with_next}
use Rattle.dealing.specs.Workers.{queues_of}
use Rattle.dealing.specs.declared.worker.Worker.{Worker}
use Rattle.dealing.proofs.Shares.{few_in_share}
use Rattle.dealing.proofs.Steps.{dealt_next}
use Rattle.dealing.proofs.Stays.{stays}
use Rattle.dealing.proofs.dealt.give.Goals as goal

-- the queues with one more
queues_are : {T X : Type 0} (number : ℕ) (item : T) (workers : List (Worker T X)) (d new : Worker T X) → 0 < length workers → new.queue.items ≡ item ∷ (get_or workers (number % length workers) d).queue.items
    → queues_of (set workers (number % length workers) new) ≡ with_next number item (queues_of workers)
queues_are {T} {X} number item workers d new some is =
    let own : ℕ = number % length workers in
    let f : Worker T X → List T = λ w. w.queue.items in
    let many : length (map f workers) ≡ length workers = length-map workers f in
    map-set f workers own new
    ∙ (ap (set (map f workers) own) (is ∙ ap (λ (q : List T). item ∷ q) (sym (get_or-map f workers own d [] (mod-lt number some))))
    ∙ ap (λ (n : ℕ). set (map f workers) (number % n) (item ∷ queue_at (map f workers) (number % n))) (sym many))

pub push_front_reserved-requires : goal.push_front_reserved-requires
push_front_reserved-requires g c =
    let workers : List (Worker g.row.T.Denot g.row.X.Denot) = c.args.workers.now in
    let own : ℕ = c.args.number % length workers in
    let d : Worker g.row.T.Denot g.row.X.Denot = c.index-workers-worker.result in
    let f : Worker g.row.T.Denot g.row.X.Denot → List g.row.T.Denot = λ w. w.queue.items in
    let room : Worker g.row.T.Denot g.row.X.Denot → ℕ = λ w. deque_capacity w.queue in
    let within : own < length workers = mod-lt c.args.number c.requires.some in
    let many : length (map f workers) ≡ length workers = length-map workers f in
    let rooms : length (map room workers) ≡ length workers = length-map workers room in
    let here = ap length (sym (get_or-map f workers own d [] within) ∙ c.requires.dealt own (omega (arith, within, many))) in
    let few = few_in_share (length (map f workers)) own (c.args.number + 1) c.requires.items in
    let is = get_or-map room workers own d 0 within in
    let least : suc (length c.requires.items) ≤ get_or (map room workers) own 0 = All-get_or (λ (n : ℕ). suc (length c.requires.items) ≤ n) (map room workers) own 0 (omega (arith, within, rooms)) c.requires.room in
    let ok = (get_or workers own d).queue.ok in
    let size = ok.0 in
    omega (arith, here, few, is, least, size)

pub returns-clause-queues : goal.returns-clause-queues
returns-clause-queues g c = queues_are c.args.number c.args.item c.args.workers.now c.index-workers-worker.result _ c.requires.some c.push_front_reserved.ensures.items

pub returns-clause-dealt : goal.returns-clause-dealt
returns-clause-dealt g c = λ items dealt.
    let workers : List (Worker g.row.T.Denot g.row.X.Denot) = c.args.workers.now in
    let f : Worker g.row.T.Denot g.row.X.Denot → List g.row.T.Denot = λ w. w.queue.items in
    let many : length (map f workers) ≡ length workers = length-map workers f in
    let some : 0 < length (map f workers) = (let s = c.requires.some in omega (arith, s, many)) in
    subst (AreDealt c.args.number (c.args.item ∷ items)) (sym (queues_are c.args.number c.args.item workers c.index-workers-worker.result _ c.requires.some c.push_front_reserved.ensures.items))
    (dealt_next c.args.number c.args.item (queues_of workers) some items dealt)

pub returns-clause-rooms : goal.returns-clause-rooms
returns-clause-rooms g c =
    stays (λ (w : Worker g.row.T.Denot g.row.X.Denot). deque_capacity w.queue) c.args.workers.now (c.args.number % length c.args.workers.now) c.index-workers-worker.result _ (mod-lt c.args.number c.requires.some) c.push_front_reserved.ensures.capacity

pub returns-clause-tools : goal.returns-clause-tools
returns-clause-tools g c =
    stays (λ (w : Worker g.row.T.Denot g.row.X.Denot). w.tools) c.args.workers.now (c.args.number % length c.args.workers.now) c.index-workers-worker.result _ (mod-lt c.args.number c.requires.some) refl
