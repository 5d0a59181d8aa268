-- Workers, and what they have.
use Rattle.std.specs.Prelude.{ℕ, suc, ◌+◌, ◌<◌, ◌≤◌, List, [], ◌∷◌, All, length, map}
use Rattle.std.specs.VecDeque.{deque_capacity}
use Rattle.dealing.specs.Dealing.{AreDealt}
use Rattle.dealing.specs.declared.worker.Worker.{Worker}

module _ {T X : Type 0} where
  -- the things of each worker
  abbrev pub queues_of : List (Worker T X) → List (List T)
  queues_of workers = map (λ w. w.queue.items) workers

  -- how many things each has room for
  abbrev pub rooms_of : List (Worker T X) → List ℕ
  rooms_of workers = map (λ w. deque_capacity w.queue) workers

  -- what each works with
  abbrev pub tools_of : List (Worker T X) → List X
  tools_of workers = map (λ w. w.tools) workers

  -- each has room for so many
  abbrev pub HaveRoom : ℕ → List (Worker T X) → Type 0
  HaveRoom count workers = All (λ room. count ≤ room) (rooms_of workers)

  -- they have nothing, and room for so many
  pub record AreFree (count : ℕ) (workers : List (Worker T X)) : Type 0 where
    pub none : AreDealt 0 [] (queues_of workers)
    pub room : HaveRoom count workers

  -- the things behind a number are dealt, and each has room for these and one more
  pub record CanGive (number : ℕ) (workers : List (Worker T X)) : Type 0 where
    pub some : 0 < length workers
    pub items : List T
    pub dealt : AreDealt (number + 1) items (queues_of workers)
    pub room : HaveRoom (suc (length items)) workers

  -- the things from a number on are dealt, and there is one
  pub record CanTake (number : ℕ) (workers : List (Worker T X)) : Type 0 where
    pub some : 0 < length workers
    pub item : T
    pub items : List T
    pub dealt : AreDealt number (item ∷ items) (queues_of workers)
