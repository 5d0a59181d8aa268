-- The homes and L1s of a machine as parts that are held one by one, and what an access does to them. Parts are numbered:
-- the L1s of the cores in order, then the homes of the banks in order.
use Rattle.std.specs.Prelude.{◌≡◌, ℕ, ◌+◌, ◌<◌, ◌&&◌, nat_lt, nat_eq, not, Bool, true, false, if◌then◌else◌, List, [], ◌∷◌, map, replicate, slice_index_or, Option, Some, None}
use Rattle.std.specs.List.{range_with_len}
use Rattle.std.specs.Set.{is_member}
use Rattle.zs_num.specs.Request.{bank_of}
use Rattle.zs_num.specs.declared.request.Request.{Request}
use Rattle.home.specs.HomeState.{HomeState}
use Rattle.l1_cache.specs.L1State.{L1State, is_private, no_l1}
use Rattle.shard.specs.PartsLaws.{AreAllParts, IsAsked}
use Rattle.shard.specs.Seen.{PartsState, no_home}
use Rattle.shard.specs.SharedStep.{Bank, bank_after, bank_reply, l1_of, met_at_bank, touched_by}
use Rattle.parts_table.specs.declared.part.Part.{Part}
use Rattle.parts_table.specs.declared.part.TimedPart.{TimedPart}
use Rattle.parts_table.specs.declared.view.Made.{Made}

abbrev pub home_in : Part → HomeState
home_in (Part.Home home) = home
home_in (Part.L1 l1) = no_home

abbrev pub l1_in : Part → L1State
l1_in (Part.Home home) = no_l1
l1_in (Part.L1 l1) = l1

-- each part by its number
abbrev pub World : Type 0
World = ℕ → TimedPart

-- it stands where there is no part
abbrev pub no_part : TimedPart
no_part = record { time = 0; part = Part.L1 no_l1 }

abbrev pub some_part : Option TimedPart → TimedPart
some_part None = no_part
some_part (Some part) = part

-- the parts of a list
abbrev pub world_of : List (Option TimedPart) → World
world_of parts k = some_part (slice_index_or parts k None)

module _ (cores banks : ℕ) where
  -- the number of a bank's home
  abbrev pub home_number : (bank : ℕ) → ℕ
  home_number bank = cores + bank

  abbrev pub l1s_in : World → List L1State
  l1s_in w = map (λ core. l1_in (w core).part) (range_with_len 0 cores)

  abbrev pub bank_in : World → (bank : ℕ) → Bank
  bank_in w bank = record { home = home_in (w (home_number bank)).part; l1s = l1s_in w }

  -- all homes and L1s; no stamp is known
  abbrev pub parts_in : World → PartsState
  parts_in w = record { homes = map (λ bank. home_in (w (home_number bank)).part) (range_with_len 0 banks); l1s = l1s_in w; lasts = replicate banks 0 }

  -- Each part is of its kind, and together they are the homes and L1s of a machine.
  pub record IsSound (w : World) : Type 0 where
    pub l1s : (core : ℕ) → core < cores → (l1 : L1State) × ((w core).part ≡ Part.L1 l1)
    pub homes : (bank : ℕ) → bank < banks → (home : HomeState) × ((w (home_number bank)).part ≡ Part.Home home)
    pub parts : AreAllParts (parts_in w)

  -- ---- an access

  abbrev pub bank_of_made : Made → ℕ
  bank_of_made a = bank_of banks a.entry.request

  abbrev pub bank_for : World → Made → Bank
  bank_for w a = bank_in w (bank_of_made a)

  -- the core's own L1 serves it alone
  abbrev pub is_alone : World → Made → Bool
  is_alone w a = is_private (l1_of (bank_for w a) a.entry.core) a.entry.request

  -- the parts that an access touches: the L1s that its step names, and where it is shared the home
  unfoldable pub touches : World → Made → (k : ℕ) → Bool
  touches w a k =
      if nat_lt k cores then is_member nat_eq (touched_by (bank_for w a) a.entry.core a.entry.request) k
      else nat_eq k (home_number (bank_of_made a)) && not (is_alone w a)

  -- such a part after it
  unfoldable pub moved : World → Made → (k : ℕ) → TimedPart
  moved w a k = let p = bank_after (bank_for w a) a.entry.core a.entry.request in
      record { time = a.time; part = if nat_lt k cores then Part.L1 (l1_of p k) else Part.Home p.home }

  unfoldable pub after : World → Made → World
  after w a k = if touches w a k then moved w a k else w k

  abbrev pub lived : World → List Made → World
  lived w [] = w
  lived w (a ∷ list) = lived (after w a) list

  -- An access has the reply and the outcome that the parts give it. A private one has the time of its core's L1. A shared
  -- one has a time past those of all parts that it touches.
  pub record IsRight (w : World) (a : Made) : Type 0 where
    pub known : a.entry.core < cores
    pub bank : bank_of_made a < banks
    pub reply : a.entry.reply ≡ bank_reply (bank_for w a) a.entry.core a.entry.request
    pub outcome : a.entry.outcome ≡ met_at_bank (bank_for w a) a.entry.core a.entry.request
    pub shared : a.shared ≡ not (is_alone w a)
    pub alone : a.shared ≡ false → a.time ≡ (w a.entry.core).time
    pub later : a.shared ≡ true → (k : ℕ) → touches w a k ≡ true → (w k).time < a.time

  -- each of them, one after the other
  abbrev pub AreRight : World → List Made → Type 0
  AreRight w [] = Unit {0}
  AreRight w (a ∷ list) = IsRight w a × AreRight (after w a) list

  -- what a core of the machine can ask: that doesn't change
  abbrev pub MayAsk : World → (core : ℕ) → Request → Type 0
  MayAsk w core request = (bank_of banks request < banks) × IsAsked (bank_in w (bank_of banks request)) core request
