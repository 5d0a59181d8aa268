-- Places for the L1s of all cores, of which a core at work fills those that it holds.
use Rattle.std.specs.Prelude.{◌≡◌, ◌≢◌, ℕ, ◌+◌, ◌<◌, ◌⊎◌, true, false, IsTrue, List, nat_eq, slice_index, slice_index_or}
use Rattle.std.specs.Set.{is_member}
use Rattle.home.specs.HomeState.{HomeState}
use Rattle.l1_cache.specs.L1State.{L1State, is_private, no_l1, private_after, private_reply}
use Rattle.shard.specs.SharedStep.{Bank, bank_after, bank_reply, met_at_bank, with_l1}
use Rattle.zs_num.specs.declared.entry.Entry.{Entry}
use Rattle.zs_num.specs.declared.entry.Outcome.TheVariants.{Hit}
use Rattle.zs_num.specs.declared.request.Request.{Request}
use Rattle.parts_table.specs.declared.part.Part.{Part}
use Rattle.parts_table.specs.declared.part.TimedPart.{TimedPart}
use Rattle.parts_table.specs.declared.view.Made.{Made}

-- What stands in each place, and how many are filled. What stands in the others doesn't count.
pub record PlacesState : Type 0 where
  pub l1s : List L1State
  pub times : List ℕ
  pub filled : ℕ

abbrev pub time_at : PlacesState → (core : ℕ) → ℕ
time_at places core = slice_index places.times core

abbrev pub l1_at : PlacesState → (core : ℕ) → L1State
l1_at places core = slice_index_or places.l1s core no_l1

-- the part in the place of a core
abbrev pub in_place : PlacesState → (core : ℕ) → TimedPart
in_place places core = record { time = time_at places core; part = Part.L1 (l1_at places core) }

abbrev pub is_in : List ℕ → (core : ℕ) → Type 0
is_in cores core = IsTrue (is_member nat_eq cores core)

-- a home with the L1s of the places
abbrev pub bank_of_places : HomeState → PlacesState → Bank
bank_of_places home places = record { home = home; l1s = places.l1s }

-- An access of a core that its own L1 served alone.
pub record IsMetAlone (before : PlacesState) (core start : ℕ) (request : Request) (made : Made) (after : PlacesState) : Type 0 where
  pub private : is_private (l1_at before core) request ≡ true
  pub made_is : made ≡ record {
    entry = record { core = core; stamp = 0; start = start; request = request; reply = private_reply (l1_at before core) request; outcome = Hit };
    time = time_at before core;
    shared = false;
  }
  pub own : in_place after core ≡ record { time = time_at before core; part = Part.L1 (private_after (l1_at before core) request) }
  pub others : (c : ℕ) → c ≢ core → in_place after c ≡ in_place before c

-- An access of a core that a home and these L1s served. Its time is one more than the latest of theirs, and they all get it.
pub record IsMetByAll (before : PlacesState) (home : HomeState) (time : ℕ) (cores : List ℕ) (core start : ℕ) (request : Request) (made : Made) (after : PlacesState) (left : HomeState) : Type 0 where
  pub shared : is_private (l1_at before core) request ≡ false
  pub entry : made.entry ≡ record { core = core; stamp = 0; start = start; request = request; reply = bank_reply (bank_of_places home before) core request; outcome = met_at_bank (bank_of_places home before) core request }
  pub shared_is : made.shared ≡ true
  pub bank : bank_of_places left after ≡ bank_after (bank_of_places home before) core request
  pub raised : (c : ℕ) → is_in cores c → time_at after c ≡ made.time
  pub kept : (c : ℕ) → is_member nat_eq cores c ≡ false → time_at after c ≡ time_at before c
  pub past_home : time < made.time
  pub past : (c : ℕ) → is_in cores c → time_at before c < made.time
  pub next : (made.time ≡ time + 1) ⊎ ((c : ℕ) × is_in cores c × (made.time ≡ time_at before c + 1))
