-- A tree of minima, as a list: node 1 is the root, and below node n are nodes 2 * n and 2 * n + 1. The leaves stand last.
use Rattle.std.specs.Prelude.{◌≡◌, ◌+◌, ◌*◌, ◌<◌, ◌≤◌, ◌^◌, ℕ, min, List, drop, length, slice_index}
use Rattle.domain_queue.specs.SortedKeys.{IsAscending, ReadyKeys}
use Rattle.core_queue.specs.declared.queue.CoreQueue.TheInside.{Inside}
use Rattle.core_queue.specs.StartKeys.{keys_of}

-- each node above the leaves is the lesser of the two below it
abbrev pub AreMinima : (leaves : ℕ) → List ℕ → Type 0
AreMinima leaves nodes = (n : ℕ) → 0 < n → n < leaves → slice_index nodes n ≡ min (slice_index nodes (2 * n)) (slice_index nodes (2 * n + 1))

-- the starts of the cores, in their order
abbrev pub starts_in : Inside → List ℕ
starts_in q = drop q.leaves q.nodes.items

abbrev pub queue_of : Inside → ReadyKeys
queue_of q = record { keys = keys_of (starts_in q); room = q.room }

pub record IsTree (q : Inside) : Type 0 where
  pub leaves : q.leaves ≡ 2 ^ q.levels
  pub few : q.leaves ≤ 2 ^ 17
  pub all : length q.nodes.items ≡ 2 * q.leaves
  pub room : q.room ≤ q.leaves
  pub minima : AreMinima q.leaves q.nodes.items
  -- no key is there twice
  pub ascending : IsAscending (keys_of (starts_in q))
