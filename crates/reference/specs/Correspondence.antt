-- That the cores do the same in two worlds.
use Rattle.std.specs.Prelude.{◌≡◌, ℕ, List, Result, Ok, Err}
use Rattle.reference.specs.ReferenceMachine.{BoundState}
use Rattle.reference.specs.TimedCore.{TimedCore}

-- `Related` says which worlds belong together where the cores are these.
module _ {World Other : Type 0} (Related : List TimedCore → World → Other → Type 0) where
  -- the same cores and the same entries, in worlds that belong together
  pub record AreRelated (s : BoundState World) (t : BoundState Other) : Type 0 where
    pub cores : t.cores ≡ s.cores
    pub entries : t.entries ≡ s.entries
    pub worlds : Related s.cores s.world t.world

  -- both are legal and end so, or both stop at the same place
  abbrev pub EndAlike : Result (BoundState World) ℕ → Result (BoundState Other) ℕ → Type 0
  EndAlike (Ok s) (Ok t) = AreRelated s t
  EndAlike (Ok s) (Err place) = ⊥
  EndAlike (Err place) (Ok t) = ⊥
  EndAlike (Err place) (Err other) = other ≡ place
