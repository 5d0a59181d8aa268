-- Things that are dealt to workers by number.
use Rattle.std.specs.Prelude.{◌≡◌, ℕ, ◌%◌, ◌<◌, ◌==◌, List, [], ◌∷◌, length, map, slice_index_or, slice_set}
use Rattle.std.specs.List.{enumerate_from, filter}

module _ {T : Type 0} where
  -- Of things that are numbered from here on, those of a worker of so many: each whose number is the worker's modulo
  -- the number of workers.
  abbrev pub share_of : (workers worker number : ℕ) → List T → List T
  share_of workers worker number items = map (λ at. at.1) (filter (λ at. at.0 % workers == worker) (enumerate_from number items))

  -- the queue of a worker
  abbrev pub queue_at : (queues : List (List T)) (worker : ℕ) → List T
  queue_at queues worker = slice_index_or queues worker []

  -- Of things that are numbered from here on, each worker has its share, in ascending order of their numbers.
  abbrev pub AreDealt : (number : ℕ) → List T → (queues : List (List T)) → Type 0
  AreDealt number items queues = (worker : ℕ) → worker < length queues → queue_at queues worker ≡ share_of (length queues) worker number items

  -- the worker of this number has one thing more, before all others
  abbrev pub with_next : (number : ℕ) (item : T) (queues : List (List T)) → List (List T)
  with_next number item queues = slice_set queues (number % length queues) (item ∷ queue_at queues (number % length queues))
