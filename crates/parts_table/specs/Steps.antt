-- What each step on the table tells the seat that makes it.
use Rattle.std.specs.Prelude.{◌≡◌, ◌≢◌, ℕ, ◌+◌, ◌*◌, ◌/◌, ◌≤◌, ◌==◌, not, true, All, List, [], ◌∷◌, length, map, Option, Some, None}
use Rattle.std.specs.List.{filter}
use Rattle.zs_num.specs.declared.request.Request.{Request}
use Rattle.atomic_table.specs.Table.{Me, Step}
use Rattle.parts_table.specs.Rule.{Holds}
use Rattle.parts_table.specs.Views.{given, holding}
use Rattle.parts_table.specs.World.{AreRight, IsSound, MayAsk, World, after, lived, touches, world_of}
use Rattle.parts_table.specs.declared.part.TimedPart.{TimedPart}
use Rattle.parts_table.specs.declared.view.CoreAccesses.{CoreAccesses}
use Rattle.parts_table.specs.declared.view.Hold.{Hold}
use Rattle.parts_table.specs.declared.view.Made.{Made}
use Rattle.parts_table.specs.declared.view.View.{View}

-- the part of a step
abbrev pub part_of_step : Step (Option TimedPart) → ℕ
part_of_step step = step.word / 16

-- the parts that a seat holds are as in this world
abbrev pub Agrees : World → List Hold → Type 0
Agrees w [] = Unit {0}
Agrees w (h ∷ holds) = (h.value ≡ w h.part) × Agrees w holds

-- What all parts may be, as far as a seat knows that holds some of them: homes and L1s of a machine, to which accesses
-- have led.
pub record IsReached (v : View) (w : World) : Type 0 where
  pub sound : IsSound v.cores v.banks w
  pub agrees : Agrees w v.holds
  pub asked : (core : ℕ) (request : Request) → MayAsk v.cores v.banks (world_of v.opening) core request → MayAsk v.cores v.banks w core request

-- A seat that has accesses of one core alone takes a part that it didn't hold. No time is past what all cores together can
-- make, and no access of the core past its L1.
pub record IsTaken (v : View) (part : ℕ) (value : TimedPart) : Type 0 where
  pub apart : Holds part v.holds → ⊥
  pub world : World
  pub reached : IsReached (holding v part value) world
  pub low : (k : ℕ) → (world k).time ≤ v.cores * v.room
  pub risen : (log : CoreAccesses) → v.logs ≡ log ∷ [] → All (λ a. a.time ≤ (world log.core).time) log.list

-- This part was taken where its word was 0.
abbrev pub taken_at : (part : ℕ) → Me (Option TimedPart) View → ℕ → Me (Option TimedPart) View → Type 0
taken_at part before found after =
    (found ≡ 0 → (value : TimedPart) × (after ≡ (holding before.0 part value, (part, Some value) ∷ before.1)) × IsTaken before.0 part value)
    × (found ≢ 0 → after ≡ before)

abbrev pub taken : Step (Option TimedPart) → Me (Option TimedPart) View → ℕ → Me (Option TimedPart) View → Type 0
taken step = taken_at (part_of_step step)

-- Every part that these accesses touch is held.
abbrev pub AreInside : (cores banks : ℕ) → World → List Made → List Hold → Type 0
AreInside cores banks w [] holds = Unit {0}
AreInside cores banks w (a ∷ list) holds =
    ((part : ℕ) → touches cores banks w a part ≡ true → Holds part holds) × AreInside cores banks (after cores banks w a) list holds

-- the other parts that are held, as accesses have left them
abbrev pub left_by : (cores banks : ℕ) → World → List Made → (part : ℕ) → List Hold → List Hold
left_by cores banks w list part holds = map {A = Hold} (λ h. record h { value = lived cores banks w list h.part }) (filter (λ h. not (h.part == part)) holds)

-- A seat may give this part back so and publish these accesses of its core: whatever all parts may be, as far as it knows,
-- they are right, touch only parts that it holds, and leave the part so.
pub record MayGive (v : View) (part : ℕ) (value : TimedPart) (list : List Made) (left : List Hold) : Type 0 where
  pub log : CoreAccesses
  pub lone : v.logs ≡ log ∷ []
  pub held : Holds part v.holds
  pub own : All (λ a. a.entry.core ≡ log.core) list
  pub asked : All (λ a. MayAsk v.cores v.banks (world_of v.opening) a.entry.core a.entry.request) list
  pub room : length log.list + length list ≤ v.room
  pub world : World
  pub reached : IsReached v world
  pub right : AreRight v.cores v.banks world list
  pub inside : AreInside v.cores v.banks world list v.holds
  pub low : (most : ℕ) → ((k : ℕ) → Holds k v.holds → (world k).time ≤ most) → (k : ℕ) → Holds k v.holds → (lived v.cores v.banks world list k).time ≤ most + length list
  pub value_is : value ≡ lived v.cores v.banks world list part
  pub left_is : left ≡ left_by v.cores v.banks world list part v.holds

-- The part was given back, these accesses were published, and the seat holds these others.
abbrev pub gave_at : List Made → (left : List Hold) → (part : ℕ) → Me (Option TimedPart) View → Me (Option TimedPart) View → Type 0
gave_at list left part before after =
    (slot : Option TimedPart) (slots : List (ℕ × Option TimedPart)) (log : CoreAccesses) → before.1 ≡ (part, slot) ∷ slots → before.0.logs ≡ log ∷ []
    → after ≡ (given before.0 log list left, slots)

abbrev pub gave : List Made → List Hold → Step (Option TimedPart) → Me (Option TimedPart) View → ℕ → Me (Option TimedPart) View → Type 0
gave list left step before stored after = gave_at list left (part_of_step step) before after

-- A step that tells nothing.
abbrev pub same : Step (Option TimedPart) → Me (Option TimedPart) View → ℕ → Me (Option TimedPart) View → Type 0
same step before stored after = after ≡ before

-- ---- a part in hand

-- Nobody held this part, and the seat has it now: it is this value, and its slot is empty. Or somebody holds it.
abbrev pub took : (part : ℕ) → Me (Option TimedPart) View → Option TimedPart → Me (Option TimedPart) View → Type 0
took part before None after = after ≡ before
took part before (Some value) after = (after ≡ (holding before.0 part value, (part, None) ∷ before.1)) × IsTaken before.0 part value
