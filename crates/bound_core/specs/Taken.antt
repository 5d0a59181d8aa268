-- What a core did of its interval so far.
use Rattle.std.specs.Prelude.{◌≡◌, ◌+◌, ◌≤◌, ◌<◌, ℕ, List, [], ◌∷◌, ◌++◌, length, All, Option}
use Rattle.zs_num.specs.declared.entry.Entry.{Entry}
use Rattle.zs_num.specs.declared.request.Request.{Request}
use Rattle.elf_load.specs.MemoryImage.{MemoryImage}
use Rattle.rv_core.specs.Port.{Gains}
use Rattle.reference.specs.TimedCore.{TimedCore, ran_to}
use Rattle.reference.specs.Turn.{TakesTurn, TurnsToEnd}
use Rattle.reference.specs.IntervalBounds.{latest_clock, most_accesses}

module _ {Port : Type 0} (time : Entry → ℕ) (image : MemoryImage) (end : ℕ) (gives : Port → (start : ℕ) → Request → Entry → Port → Type 0) where
  -- the turns so far: with those that follow they are the turns of the whole interval
  pub record HasTaken (logged : Port → Option (List Entry)) (number : ℕ) (first port : Port) (before core : TimedCore) : Type 0 where
    pub entries : List Entry
    pub path : (rest : List Entry) (last : Port) (after : TimedCore) → TurnsToEnd time image end gives rest port last core after → TurnsToEnd time image end gives (entries ++ rest) first last before after
    pub cores : All (λ e. e.core ≡ number) entries
    pub starts : All (λ e. e.start ≤ latest_clock end before) entries
    pub few : length entries + most_accesses end core ≤ most_accesses end before
    pub logged_is : Gains (logged first) entries (logged port)

  -- A turn of the core of this number took this entry, one of those that its interval may still have. `logged_of` are the
  -- entries that the port answered so far, where it logs them.
  pub record TakesOne (logged_of : Port → Option (List Entry)) (number : ℕ) (port port_after : Port) (before after : TimedCore) (e : Entry) : Type 0 where
    pub turn : TakesTurn time image end gives port port_after before after e
    pub core : e.core ≡ number
    pub starts : e.start ≤ latest_clock end before
    pub fewer : most_accesses end after < most_accesses end before
    pub not_later : latest_clock end after ≤ latest_clock end before
    pub begun : before.clock ≤ after.clock
    pub memory : after.core.memory ≡ before.core.memory
    pub fetching : after.core.fetching ≡ before.core.fetching
    pub logged : Gains (logged_of port) (e ∷ []) (logged_of port_after)

  -- It goes on within the turn that follows, by instructions alone.
  pub record Settles (before after : TimedCore) : Type 0 where
    pub ran : ran_to image end after ≡ ran_to image end before
    pub begun : before.clock ≤ after.clock
    pub not_later : latest_clock end after ≤ latest_clock end before
    pub fewer : most_accesses end after ≤ most_accesses end before
    pub memory : after.core.memory ≡ before.core.memory
    pub fetching : after.core.fetching ≡ before.core.fetching

  -- turns that took these entries, one after the other, and instructions of the one that follows
  abbrev pub TakesThese : (logged_of : Port → Option (List Entry)) (number : ℕ) → List Entry → (port port_after : Port) (before after : TimedCore) → Type 0
  TakesThese logged_of number [] port port_after before after = (port_after ≡ port) × Settles before after
  TakesThese logged_of number (e ∷ entries) port port_after before after =
      (next : Port) × ((core : TimedCore) × (TakesOne logged_of number port next before core e × TakesThese logged_of number entries next port_after core after))
