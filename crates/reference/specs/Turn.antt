-- What the turns of one core leave.
use Rattle.std.specs.Prelude.{◌≡◌, ◌≤◌, ◌<◌, ◌⊎◌, ℕ, false, List, [], ◌∷◌, length, All, Option, Some, None, IsSome}
use Rattle.zs_num.specs.declared.entry.Entry.{Entry}
use Rattle.zs_num.specs.declared.request.Request.{Request}
use Rattle.elf_load.specs.MemoryImage.{MemoryImage}
use Rattle.rv_core.specs.Port.{Gains}
use Rattle.reference.specs.TimedCore.{TimedCore, asks, core_after_access, ran_to}
use Rattle.reference.specs.IntervalBounds.{latest_clock, most_accesses}

-- the core has halted, or come to the interval's end with no instruction in progress: no reply is waited for, and no
-- instruction was fetched that is still to be executed
pub record IsOver (end : ℕ) (c : TimedCore) : Type 0 where
  pub idle : c.core.instruction ≡ None
  pub over : IsSome c.core.halted ⊎ ((c.core.is_fetched ≡ false) × (end ≤ c.clock))

-- The core has no access before it ends its interval, and the port is as it was.
pub record EndsInterval {Port : Type 0} (image : MemoryImage) (end : ℕ) (port port_after : Port) (before after : TimedCore) : Type 0 where
  pub asked : asks (ran_to image end before) ≡ None
  pub left : after ≡ ran_to image end before
  pub same : port_after ≡ port

-- `time` is how long an access takes where nothing else runs. The interval ends at `end`. `gives` says which entry, and
-- which port after it, may come of a request that starts then.
module _ {Port : Type 0} (time : Entry → ℕ) (image : MemoryImage) (end : ℕ) (gives : Port → (start : ℕ) → Request → Entry → Port → Type 0) where
  -- A turn took this entry: of the access that the core has after its local instructions, as the port gave it.
  pub record TakesTurn (port port_after : Port) (before after : TimedCore) (e : Entry) : Type 0 where
    pub request : Request
    pub asked : asks (ran_to image end before) ≡ Some request
    pub given : gives port (ran_to image end before).clock request e port_after
    pub left : after ≡ core_after_access time e (ran_to image end before)

  -- A turn of the core of this number took an entry, one of those that its interval may still have. `logged_of` are the
  -- entries that the port answered so far, where it logs them.
  pub record TookOne (logged_of : Port → Option (List Entry)) (number : ℕ) (port port_after : Port) (before after : TimedCore) : Type 0 where
    pub entry : Entry
    pub turn : TakesTurn port port_after before after entry
    pub core : entry.core ≡ number
    pub starts : entry.start ≤ latest_clock end before
    pub fewer : most_accesses end after < most_accesses end before
    pub logged : Gains (logged_of port) (entry ∷ []) (logged_of port_after)

  -- turns that took these entries, one after the other, and then the end of the interval
  abbrev pub TurnsToEnd : List Entry → (port port_after : Port) (before after : TimedCore) → Type 0
  TurnsToEnd [] port port_after before after = EndsInterval image end port port_after before after
  TurnsToEnd (e ∷ entries) port port_after before after =
      (next : Port) × ((core : TimedCore) × (TakesTurn port next before core e × TurnsToEnd entries next port_after core after))

  -- What the core of this number does up to the end of its interval: its turns, and the entries that they took.
  -- `logged_of` are the entries that the port answered so far, where it logs them.
  pub record RunsToEnd (logged_of : Port → Option (List Entry)) (number : ℕ) (port port_after : Port) (before after : TimedCore) : Type 0 where
    pub entries : List Entry
    pub turns : TurnsToEnd entries port port_after before after
    pub cores : All (λ e. e.core ≡ number) entries
    pub starts : All (λ e. e.start ≤ latest_clock end before) entries
    pub few : length entries ≤ most_accesses end before
    pub logged : Gains (logged_of port) entries (logged_of port_after)
