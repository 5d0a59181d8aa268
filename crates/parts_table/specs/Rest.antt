-- What a core's seat keeps between two turns at work: it holds nothing, what it made is published, and there is memory for
-- the keys of all that it can make.
use Rattle.std.specs.Prelude.{◌≡◌, ℕ, ◌+◌, ◌*◌, ◌<◌, ◌≤◌, ◌^◌, All, List, [], ◌∷◌, length, map, Option}
use Rattle.atomic_table.specs.Table.{Me}
use Rattle.parts_table.specs.KeptKeys.{BlocksState}
use Rattle.parts_table.specs.TurnOrder.{key_of}
use Rattle.parts_table.specs.declared.part.TimedPart.{TimedPart}
use Rattle.parts_table.specs.declared.view.Made.{Made}
use Rattle.parts_table.specs.declared.view.View.{View}

-- the accesses are not past this time
abbrev pub ArePast : List Made → (time : ℕ) → Type 0
ArePast made time = All (λ a. a.time ≤ time) made

pub record IsAtRest (me : Me (Option TimedPart) View) (blocks : BlocksState) (made : List Made) (core : ℕ) : Type 0 where
  pub slots : me.1 ≡ []
  pub holds : me.0.holds ≡ []
  pub lone : me.0.logs ≡ record { core = core; list = made } ∷ []
  pub keys : blocks.keys ≡ map key_of made
  pub count : blocks.made ≡ length made
  -- private accesses can follow at any time that none is past
  pub now : (time : ℕ) → ArePast made time → blocks.now ≤ 2 * time + 1
  pub room : blocks.room ≡ me.0.room
  pub within : length made ≤ me.0.room
  pub core_is : core < me.0.cores
  pub few_cores : me.0.cores ≤ 256
  pub few_banks : me.0.banks < 2 ^ 16
  pub small_room : me.0.room < 2 ^ 32
