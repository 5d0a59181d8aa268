-- What a core's seat keeps, at rest and at work, and while it serves a shared access.
use Rattle.std.specs.Prelude.{◌≡◌, ℕ, ◌+◌, ◌*◌, ◌^◌, ◌<◌, ◌≤◌, ◌==◌, ◌⊎◌, ◌||◌, not, true, false, if◌then◌else◌, nat_eq, nat_lt, All, List, [], ◌∷◌, ◌++◌, drop, length, map, reverse, Option, None}
use Rattle.std.specs.List.{filter}
use Rattle.std.specs.Set.{is_member}
use Rattle.atomic_table.specs.Seated.{TableId}
use Rattle.atomic_table.specs.Table.{Me}
use Rattle.home.specs.HomeState.{HomeState}
use Rattle.l1_cache.specs.L1State.{is_private}
use Rattle.shard.specs.PartsLaws.{AreParts, IsAsked}
use Rattle.shard.specs.SharedStep.{Bank, l1_of, touched_by}
use Rattle.zs_num.specs.Request.{bank_of}
use Rattle.zs_num.specs.declared.request.Request.{Request}
use Rattle.parts_table.specs.Access.{SeatState, TableState}
use Rattle.parts_table.specs.KeptKeys.{BlocksState}
use Rattle.parts_table.specs.Places.{PlacesState, in_place, is_in, time_at}
use Rattle.parts_table.specs.Rest.{ArePast, IsAtRest}
use Rattle.parts_table.specs.Rule.{Holds}
use Rattle.parts_table.specs.Steps.{AreInside, IsReached}
use Rattle.parts_table.specs.TurnOrder.{key_of}
use Rattle.parts_table.specs.World.{AreRight, MayAsk, World, lived, no_part, world_of}
use Rattle.parts_table.specs.declared.part.Part.{Part}
use Rattle.parts_table.specs.declared.part.TimedPart.{TimedPart}
use Rattle.parts_table.specs.declared.view.CoreAccesses.{CoreAccesses}
use Rattle.parts_table.specs.declared.view.Hold.{Hold}
use Rattle.parts_table.specs.declared.view.Made.{Made}
use Rattle.parts_table.specs.declared.view.View.{View}

-- what a seat has: what it knows with its slots, its core, the keys of its accesses, and these
pub record Desk : Type 0 where
  pub me : Me (Option TimedPart) View
  pub core : ℕ
  pub blocks : BlocksState
  pub made : List Made

-- the slot of a part that was taken
abbrev pub slot_of : (part : ℕ) → ℕ × Option TimedPart
slot_of part = (part, None)

abbrev pub parts_of : List Hold → List ℕ
parts_of holds = map (λ h. h.part) holds

-- the seat's own accesses, and how many of them its places can have
pub record IsKept (d : Desk) : Type 0 where
  pub keys : d.blocks.keys ≡ map key_of d.made
  pub count : d.blocks.made ≡ length d.made
  -- private accesses can follow at any time that none is past
  pub now : (time : ℕ) → ArePast d.made time → d.blocks.now ≤ 2 * time + 1
  pub room : d.blocks.room ≡ d.me.0.room
  pub within : length d.made ≤ d.me.0.room
  pub core_is : d.core < d.me.0.cores
  pub few_cores : d.me.0.cores ≤ 256
  pub few_banks : d.me.0.banks < 2 ^ 16
  pub small_room : d.me.0.room < 2 ^ 32

-- it holds nothing, and all that it made is published
abbrev pub IsResting : Desk → Type 0
IsResting d = IsAtRest d.me d.blocks d.made d.core

-- ---- what it has in hand

-- the core may ask for these accesses
abbrev pub AreAsked : View → List Made → Type 0
AreAsked v list = All (λ a. MayAsk v.cores v.banks (world_of v.opening) a.entry.core a.entry.request) list

-- The seat has made these accesses that are not published, and has the parts in hand that it holds: whatever all parts may be,
-- as far as it knows, the accesses are right, touch only parts that it holds, and leave those as they are in hand.
pub record HasInHand (d : Desk) (done list : List Made) (hand : World) : Type 0 where
  pub lone : d.me.0.logs ≡ record { core = d.core; list = done } ∷ []
  pub own : All (λ a. a.entry.core ≡ d.core) list
  pub asked : AreAsked d.me.0 list
  pub world : World
  pub reached : IsReached d.me.0 world
  pub right : AreRight d.me.0.cores d.me.0.banks world list
  pub inside : AreInside d.me.0.cores d.me.0.banks world list d.me.0.holds
  pub low : (most : ℕ) → ((k : ℕ) → Holds k d.me.0.holds → (world k).time ≤ most) → (k : ℕ) → Holds k d.me.0.holds → (lived d.me.0.cores d.me.0.banks world list k).time ≤ most + length list
  pub agrees : (k : ℕ) → Holds k d.me.0.holds → hand k ≡ lived d.me.0.cores d.me.0.banks world list k

-- L1s are in hand in their places, and beside them a home
abbrev pub hand_of : (cores : ℕ) → PlacesState → (home : TimedPart) → World
hand_of cores places home k = if nat_lt k cores then in_place places k else home

-- no core twice
abbrev pub AreApart : List ℕ → Type 0
AreApart [] = Unit {0}
AreApart (core ∷ cores) = (is_member nat_eq cores core ≡ false) × AreApart cores

-- The seat holds the home of which this is the number, if one is named, and behind it the L1s of these cores. What it made is
-- published, but for the list.
pub record HasParts (d : Desk) (places : PlacesState) (home : TimedPart) (numbers cores : List ℕ) (done list : List Made) : Type 0 where
  pub kept : IsKept d
  pub made_is : d.made ≡ done ++ list
  pub hand : HasInHand d done list (hand_of d.me.0.cores places home)
  pub has : (k : ℕ) → is_in (numbers ++ cores) k → Holds k d.me.0.holds
  pub only : (k : ℕ) → Holds k d.me.0.holds → is_in (numbers ++ cores) k
  pub slots : d.me.1 ≡ map slot_of (numbers ++ cores)
  pub apart : AreApart cores
  pub homes : All (λ k. d.me.0.cores ≤ k) numbers
  pub known : All (λ c. c < d.me.0.cores) cores
  pub count : length places.l1s ≡ d.me.0.cores
  pub filled : places.filled ≡ length cores

-- What is in hand is not much past what all cores together can make, and the core's L1 not before its accesses.
pub record IsTimely (d : Desk) (hand : World) : Type 0 where
  pub low : (k : ℕ) → Holds k d.me.0.holds → (hand k).time ≤ d.me.0.cores * d.me.0.room + d.me.0.room
  pub past : Holds d.core d.me.0.holds → ArePast d.made (hand d.core).time

-- At work it holds the L1 of its core alone, and what isn't published touched nothing else.
pub record IsAtWork (d : Desk) (places : PlacesState) : Type 0 where
  pub done : List Made
  pub list : List Made
  pub has : HasParts d places no_part [] (d.core ∷ []) done list
  pub past : ArePast d.made (time_at places d.core)
  pub low : time_at places d.core < 2 ^ 54

-- ---- while it serves a shared access

-- Of so many cores these are those whose L1s an access touches that the core's own L1 doesn't serve alone.
abbrev pub AreTouched : (count : ℕ) → HomeState → (core : ℕ) → Request → (cores : List ℕ) → Type 0
AreTouched count home core request cores = (p : Bank) → AreParts p → IsAsked p core request → p.home ≡ home → is_private (l1_of p core) request ≡ false
    → (c : ℕ) → c < count → is_member nat_eq (touched_by p core request) c ≡ is_member nat_eq cores c

-- It holds its core's L1, as at work, and the home that it took at once.
pub record HasHomeBeside (d : Desk) (places : PlacesState) (number : ℕ) (home : TimedPart) : Type 0 where
  pub done : List Made
  pub list : List Made
  pub has : HasParts d places home (number ∷ []) (d.core ∷ []) done list
  pub timely : IsTimely d (hand_of d.me.0.cores places home)

-- The seat holds all that an access touches: the home, and the L1s of these cores.
pub record CanServe (d : Desk) (places : PlacesState) (number : ℕ) (home : TimedPart) (cores : List ℕ) (request : Request) : Type 0 where
  pub done : List Made
  pub list : List Made
  pub has : HasParts d places home (number ∷ []) cores done list
  pub timely : IsTimely d (hand_of d.me.0.cores places home)
  pub number_is : number ≡ d.me.0.cores + bank_of d.me.0.banks request
  pub own : is_in cores d.core
  pub touched : (state : HomeState) → home.part ≡ Part.Home state → AreTouched d.me.0.cores state d.core request cores
  pub asks : MayAsk d.me.0.cores d.me.0.banks (world_of d.me.0.opening) d.core request
  pub more : length d.made < d.me.0.room

-- ---- what is published

abbrev pub published : List CoreAccesses → List Made
published [] = []
published (log ∷ logs) = log.list

-- the accesses that aren't
abbrev pub unpublished : View → List Made → List Made
unpublished v made = drop (length (published v.logs)) made

-- the others that are held, when a part is given, as they are in hand
abbrev pub left_in : (hand : World) → (part : ℕ) → List Hold → List Hold
left_in hand part holds = map {A = Hold} (λ h. record h { value = hand h.part }) (filter (λ h. not (h.part == part)) holds)
