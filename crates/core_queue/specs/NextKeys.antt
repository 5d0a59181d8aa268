-- The keys of cores that have a next event.
use Rattle.std.specs.Prelude.{ℕ, List, Option, None, Some}
use Rattle.zs_num.specs.declared.time.Key.{Key}
use Rattle.domain_queue.specs.SortedKeys.{put}

-- with that of a core's next event, where it has one, which starts then
abbrev pub with_next : (core : ℕ) → (start : Option ℕ) → List Key → List Key
with_next core None keys = keys
with_next core (Some start) keys = put (record { start = start; number = core }) keys
