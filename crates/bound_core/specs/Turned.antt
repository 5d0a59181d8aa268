-- What a call for a turn of one core answers.
use Rattle.std.specs.Prelude.{ℕ}
use Rattle.zs_num.specs.declared.entry.Entry.{Entry}
use Rattle.zs_num.specs.declared.request.Request.{Request}
use Rattle.elf_load.specs.MemoryImage.{MemoryImage}
use Rattle.bound_core.specs.declared.turned.Turned.{Turned}
use Rattle.bound_core.specs.declared.turned.Turned.TheVariants.{Took, Ended}
use Rattle.reference.specs.TimedCore.{TimedCore}
use Rattle.reference.specs.Turn.{EndsInterval, TakesTurn}

-- of the entry of a turn that took one
abbrev pub IfTook : Turned → (Entry → Type 0) → Type 0
IfTook (Took e) P = P e
IfTook Ended P = Unit {0}

-- a turn, or the end of the interval
module _ {Port : Type 0} (time : Entry → ℕ) (image : MemoryImage) (end : ℕ) (gives : Port → (start : ℕ) → Request → Entry → Port → Type 0) where
  abbrev pub TurnsAs : (port port_after : Port) (before after : TimedCore) → Turned → Type 0
  TurnsAs port port_after before after (Took e) = TakesTurn time image end gives port port_after before after e
  TurnsAs port port_after before after Ended = EndsInterval image end port port_after before after
