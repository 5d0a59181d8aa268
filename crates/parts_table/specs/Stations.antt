-- A core's station is its seat's desk, and how it changes as parts are taken and given.
use Rattle.std.specs.Prelude.{◌≡◌, ◌≢◌, ℕ, ◌+◌, List, [], ◌∷◌, ◌++◌, length}
use Rattle.parts_table.specs.Access.{IsSameSeat, SeatState}
use Rattle.parts_table.specs.Places.{PlacesState, in_place}
use Rattle.parts_table.specs.Seats.{Desk, slot_of}
use Rattle.parts_table.specs.Steps.{IsTaken}
use Rattle.parts_table.specs.Views.{holding}
use Rattle.parts_table.specs.declared.part.TimedPart.{TimedPart}
use Rattle.parts_table.specs.declared.station.Station.{Station}

abbrev pub desk_of : Station → Desk
desk_of s = record { me = s.place.me; core = s.core; blocks = s.blocks; made = s.made.list }

abbrev pub seat_of : Station → SeatState
seat_of s = record { table = s.place.table_id; core = s.core; made = s.made.list; knows = s.place.me.0 }

-- the same seat, with the same accesses
abbrev pub IsSameStation : (before later : Station) → Type 0
IsSameStation before later = IsSameSeat (seat_of before) (seat_of later) × (later.made.list ≡ before.made.list)

-- The L1 of a core was taken, stands in its place, and is behind all else that the seat holds.
pub record HasTakenL1 (before : Station) (places : PlacesState) (core : ℕ) (later : Station) (now : PlacesState) : Type 0 where
  pub value : TimedPart
  pub taken : IsTaken before.place.me.0 core value
  pub me : later.place.me ≡ (holding before.place.me.0 core value, before.place.me.1 ++ slot_of core ∷ [])
  pub there : in_place now core ≡ value
  pub others : (c : ℕ) → c ≢ core → in_place now c ≡ in_place places c
  pub count : length now.l1s ≡ length places.l1s
  pub filled : now.filled ≡ places.filled + 1
