-- What holds of all that is dealt.
use Rattle.std.specs.Prelude.{◌≡◌, ℕ, ◌<◌, List, length, slice_get, Some}
use Rattle.dealing.specs.Dealing.{AreDealt}
use Rattle.dealing.specs.Workers.{queues_of}
use Rattle.dealing.specs.declared.worker.Worker.{Worker}

module _ (T X : Type 0) where
  -- what lies in the queue of a worker is among these
  abbrev pub AreAmongThese : Type 0
  AreAmongThese =
      (number : ℕ) (items : List T) (workers : List (Worker T X)) →
      AreDealt number items (queues_of workers) →
      (worker place : ℕ) (w : Worker T X) (x : T) → slice_get workers worker ≡ Some w → slice_get w.queue.items place ≡ Some x → (i : ℕ) × (slice_get items i ≡ Some x)

  -- each worker has as many things as before
  pub record HaveAsMany (before after : List (Worker T X)) : Type 0 where
    pub count : length after ≡ length before
    pub each : (worker : ℕ) (w v : Worker T X) → slice_get before worker ≡ Some w → slice_get after worker ≡ Some v → length v.queue.items ≡ length w.queue.items

  -- a thing lies where the other lay before, at the same place of the same worker's queue
  pub record LieAlike (before after : List (Worker T X)) (x y : T) : Type 0 where
    pub worker : ℕ
    pub place : ℕ
    pub was : Worker T X
    pub is : Worker T X
    pub before_there : slice_get before worker ≡ Some was
    pub after_there : slice_get after worker ≡ Some is
    pub x_there : slice_get was.queue.items place ≡ Some x
    pub y_there : slice_get is.queue.items place ≡ Some y

  -- Other things are dealt, as many, each of which lies where the one of its number lay before.
  pub record AreChanged (number : ℕ) (items : List T) (before after : List (Worker T X)) : Type 0 where
    pub now : List T
    pub dealt : AreDealt number now (queues_of after)
    pub count : length now ≡ length items
    pub alike : (i : ℕ) (x y : T) → slice_get items i ≡ Some x → slice_get now i ≡ Some y → LieAlike before after x y

  -- So it is wherever each worker has as many things as before.
  abbrev pub ChangedAreDealt : Type 0
  ChangedAreDealt =
      (number : ℕ) (items : List T) (before after : List (Worker T X)) →
      0 < length before →
      AreDealt number items (queues_of before) →
      HaveAsMany before after →
      AreChanged number items before after
