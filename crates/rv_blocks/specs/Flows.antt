-- Where the loop goes on behind a slot.
use Rattle.std.specs.Prelude.{◌≡◌, ℕ, ◌+◌, ◌<◌, Bool, true, false, List, Option, Some, None, slice_get, IfSome, IsTrue}
use Rattle.rv_decode.specs.declared.name.Name.{Name}
use Rattle.rv_blocks.specs.declared.flow.Flow.{Flow}
use Rattle.rv_blocks.specs.declared.flow.Flow.TheVariants.{On, To, Load, Store, Apart}
use Rattle.rv_blocks.specs.declared.slot.Op.{Op}
use Rattle.rv_blocks.specs.declared.slot.Op.TheVariants as op
use Rattle.rv_blocks.specs.declared.slot.Slot.{Slot}
use Rattle.rv_blocks.specs.Slots.{Placed, is_plain}

-- the registers and the place behind a slot at a place
abbrev pub placed_by : Flow → (place : ℕ) → (registers : List ℕ) → Option Placed
placed_by On place registers = Some (record { registers = registers; place = place + 1 })
placed_by (To next) place registers = Some (record { registers = registers; place = next })
placed_by Load place registers = None
placed_by Store place registers = None
placed_by Apart place registers = None

-- there is a slot to go on, in the same block or behind it
abbrev pub Continues : Flow → Name → (count place : ℕ) → Type 0
Continues On name count place = IsTrue (is_plain name) × (place + 1 < count)
Continues (To next) name count place = (is_plain name ≡ false) × (next < count)
Continues Load name count place = Unit {0}
Continues Store name count place = Unit {0}
Continues Apart name count place = Unit {0}

-- nothing was done
abbrev pub is_apart : Flow → Bool
is_apart On = false
is_apart (To next) = false
is_apart Load = true
is_apart Store = true
is_apart Apart = true

-- the loop stopped at a load or a store
abbrev pub is_access_flow : Flow → Bool
is_access_flow On = false
is_access_flow (To next) = false
is_access_flow Load = true
is_access_flow Store = true
is_access_flow Apart = false

-- the slot is a load or a store where the loop stopped at one
abbrev pub AccessesBy : Flow → Op → Type 0
AccessesBy On o = Unit {0}
AccessesBy (To next) o = Unit {0}
AccessesBy Load o = o ≡ op.Load
AccessesBy Store o = o ≡ op.Store
AccessesBy Apart o = Unit {0}

-- so is the one at a place
abbrev pub AccessesAt : List Slot → (place : ℕ) → Flow → Type 0
AccessesAt slots place flow = IfSome (slice_get slots place) (λ slot. AccessesBy flow slot.op)
