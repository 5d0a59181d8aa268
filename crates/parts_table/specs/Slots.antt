-- The slots of a table: the L1s of the cores in order, then the homes of the banks in order.
use Rattle.std.specs.Prelude.{List, [], ◌∷◌, ◌++◌, map, Option, Some, None}
use Rattle.std.specs.List.{flat_map}
use Rattle.home.specs.HomeState.{HomeState}
use Rattle.l1_cache.specs.L1State.{L1State}
use Rattle.parts_table.specs.declared.part.Part.{Part}
use Rattle.parts_table.specs.declared.part.TimedPart.{TimedPart}

-- before the first access
abbrev pub l1_slot : L1State → Option TimedPart
l1_slot l1 = Some (record { time = 0; part = Part.L1 l1 })

abbrev pub home_slot : HomeState → Option TimedPart
home_slot home = Some (record { time = 0; part = Part.Home home })

abbrev pub slots_of : (homes : List HomeState) → (l1s : List L1State) → List (Option TimedPart)
slots_of homes l1s = map l1_slot l1s ++ map home_slot homes

-- what a slot has
abbrev pub l1_of_part : Part → List L1State
l1_of_part (Part.Home home) = []
l1_of_part (Part.L1 l1) = l1 ∷ []

abbrev pub home_of_part : Part → List HomeState
home_of_part (Part.Home home) = home ∷ []
home_of_part (Part.L1 l1) = []

abbrev pub l1_in_slot : Option TimedPart → List L1State
l1_in_slot None = []
l1_in_slot (Some value) = l1_of_part value.part

abbrev pub home_in_slot : Option TimedPart → List HomeState
home_in_slot None = []
home_in_slot (Some value) = home_of_part value.part

-- the L1s and the homes of slots, in order
abbrev pub l1s_of : List (Option TimedPart) → List L1State
l1s_of slots = flat_map l1_in_slot slots

abbrev pub homes_of : List (Option TimedPart) → List HomeState
homes_of slots = flat_map home_in_slot slots
