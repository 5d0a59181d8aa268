-- What is kept of the events while they fire, in order of number.
use Rattle.std.specs.Prelude.{◌≡◌, ◌≤◌, ◌==◌, ℕ, suc, Bool, cond, false, List, [], ◌∷◌, length, count_by, slice_get, Some}
use Rattle.zs_num.specs.KeyOrder.{is_key_before}
use Rattle.zs_num.specs.declared.time.Key.{Key}
use Rattle.event_graph.specs.declared.fired.Fired.{Fired}
use Rattle.weave_seq.specs.Order.{Keys}

-- each event's start so far and its finish, and how many parents it waits for, 255 once it has fired
pub record SoFar : Type 0 where
  pub times : List Fired
  pub waits : List ℕ

-- the keys of the events that wait for no parent, where the first has the number n
abbrev pub ready_keys : ℕ → List Fired → List ℕ → List Key
ready_keys n [] waits = []
ready_keys n (t ∷ times) [] = []
ready_keys n (t ∷ times) (w ∷ waits) = cond (w == 0) (record { start = t.start; number = n } ∷ ready_keys (suc n) times waits) (ready_keys (suc n) times waits)

-- each key is there as often
abbrev pub AreSameKeys : List Key → List Key → Type 0
AreSameKeys xs ys = (p : Key → Bool) → count_by p xs ≡ count_by p ys

-- the queue has the keys of the events that wait for no parent, with room for all
pub record HasReady (times : List Fired) (waits : List ℕ) (queue : Keys) : Type 0 where
  pub sizes : length waits ≡ length times
  pub keys : AreSameKeys (ready_keys 0 times waits) queue.list
  pub room : length times ≤ queue.room

-- of the events that wait for no parent, this is the first
pub record IsFirst (s : SoFar) (k : Key) : Type 0 where
  pub time : Fired
  pub there : slice_get s.times k.number ≡ Some time
  pub start : k.start ≡ time.start
  pub ready : slice_get s.waits k.number ≡ Some 0
  pub first : (j : ℕ) (t : Fired) → slice_get s.times j ≡ Some t → slice_get s.waits j ≡ Some 0 → is_key_before (record { start = t.start; number = j }) k ≡ false

-- each event waits for a parent, or has fired
abbrev pub NoneIsReady : SoFar → Type 0
NoneIsReady s = (j : ℕ) → slice_get s.waits j ≡ Some 0 → ⊥
