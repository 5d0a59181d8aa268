-- The new shards of a machine stand for memory as it was loaded, and for empty caches.
use Rattle.std.proofs.Common.{◌≡◌, ℕ, zero, suc, ◌+◌, ◌-◌, ◌*◌, ◌/◌, ◌%◌, ◌<◌, ◌≤◌, cond, List, [], ◌∷◌, length, get_or, map, replicate, take, Option, Some, None, is_some, refl, sym, ap, ◌∙◌, subst, arith, inl, inr, length-append}
use Rattle.std.specs.List.{flat_map, range_with_len}
use Rattle.std.specs.Option.{option_map_or}
use Rattle.std.specs.Prelude.{◌⊎◌, IfSome, slice_get}
use Rattle.std.proofs.Math.Nat.{div-add-mod, mul_comm}
use Rattle.std.proofs.lemmas.Bool.{cases_lt}
use Rattle.std.proofs.lemmas.List.{get_or-replicate, get_or_past, length-replicate, length-take-le}
use Rattle.std.proofs.lemmas.List.Concat.{get_or-flat_map}
use Rattle.std.proofs.lemmas.List.FromFn.{get_or-map-range_with_len, get_or-range_with_len, length-map-range_with_len, length-range_with_len}
use Rattle.std.proofs.lemmas.Option.{get_or_from_slice_get, slice_get_within}
use Rattle.elf_load.specs.MemoryImage.{MemoryImage, byte_at, bytes_from}
use Rattle.machine_desc.specs.InstructionCaches.{fetchers_of, l1i_sets_of, l1i_ways_of}
use Rattle.machine_desc.specs.Machine.{IsL1, IsMachine}
use Rattle.machine_desc.specs.declared.machine.L1.{L1}
use Rattle.machine_desc.specs.declared.machine.Machine.{Machine}
use Rattle.flat_memory.specs.declared.reservation.Reservation.{Reservation}
use Rattle.flat_memory.specs.FlatMemory as flat
use Rattle.shard.specs.Laws.{NewShardsStand}
use Rattle.zs_num.specs.PairedRight.{pairing_of}
use Rattle.zs_num.specs.Request.{line_at}
use Rattle.zs_num.specs.declared.pairing.Pairing.{Pairing}
use Rattle.shard.specs.Served.{ShardState, new_shard, place_of}
use Rattle.home.specs.FirstBytes.{first_bytes, lines_below, lines_kept}
use Rattle.shard.specs.StandsFor.{StandFor, flat_for, new_memory, new_shards, reserved_by}
use Rattle.shard.specs.NewCaches.{new_caches}
use Rattle.shard.proofs.CoherentLists.{empty_at}
use Rattle.shard.proofs.CoherentRuns.{empty_coherent, empty_room}
use Rattle.shard.proofs.StandsForBytes.{Share, div_mono, slice_same}
use Rattle.shard.proofs.StandsForSets.{Agree}
use Rattle.shard.proofs.StandsForStep.{Stands, stand_from}

-- ---- the sets, all empty
no_sets : {X : Type 0} (n number : ℕ) → Agree {X = X} n number [] []
no_sets n number = record { many = omega arith; same = λ line is. refl }

empty_agree : {X : Type 0} (n number sets : ℕ) → 0 < n → sets % n ≡ 0 → Agree {X = X} n number (replicate sets []) (replicate (sets / n) [])
empty_agree {X = X} n number sets some whole = record {
  many =
      let all : n * (sets / n) + sets % n ≡ sets = div-add-mod sets n in
      length-replicate {A = List X} sets [] ∙ (omega arith ∙ sym (ap (λ (k : ℕ). n * k) (length-replicate {A = List X} (sets / n) [])));
  same = λ line is. rw (empty_at {X = X} sets (line / 1 % length (replicate {A = List X} sets [])), empty_at {X = X} (sets / n) (line / n % length (replicate {A = List X} (sets / n) []))) refl;
}

core_agrees : {X : Type 0} (n number cores sets core : ℕ) → 0 < n → sets % n ≡ 0 → Agree {X = X} n number (get_or (replicate cores (replicate sets [])) core []) (get_or (replicate cores (replicate (sets / n) [])) core [])
core_agrees {X = X} n number cores sets core some whole =
    let all : List (List X) = replicate sets [] in
    let own : List (List X) = replicate (sets / n) [] in
    elim (cases_lt core cores) as (λ _. Agree {X = X} n number (get_or (replicate cores all) core []) (get_or (replicate cores own) core [])) [
      | inl l ↦ rw (get_or-replicate cores core all [] l, get_or-replicate cores core own [] l) (empty_agree n number sets some whole)
      | inr l ↦ rw (get_or_past (replicate cores all) core [] (omega (arith, length-replicate cores all)), get_or_past (replicate cores own) core [] (omega (arith, length-replicate cores own))) (no_sets n number)
    ]

-- ---- the bytes
length-lines : (f : ℕ → List ℕ) → ((i : ℕ) → length (f i) ≡ 64) → (xs : List ℕ) → length (flat_map f xs) ≡ 64 * length xs
length-lines f h [] = refl
length-lines f h (x ∷ xs) = length-append (f x) (flat_map f xs) ∙ omega (arith, h x, length-lines f h xs)

module _ (n number : ℕ) (some : 0 < n) (image : MemoryImage) where
  abbrev line_bytes : ℕ → List ℕ
  line_bytes line = bytes_from image.segments (64 * (line * n + number)) 64

  abbrev kept : List ℕ
  kept = range_with_len (lines_below n image.base) (lines_kept n image.base image.size)

  line_length : (i : ℕ) → length (line_bytes i) ≡ 64
  line_length i = length-map-range_with_len (byte_at image.segments) (64 * (i * n + number)) 64

  module _ (addr : ℕ) (from : image.base ≤ addr) (below : addr < image.base + image.size) (is : line_at addr % n ≡ number) where
    abbrev at : ℕ
    at = line_at addr / n - lines_below n image.base

    low : lines_below n image.base ≤ line_at addr / n
    low = div_mono n (image.base / 64) (addr / 64) some (omega arith)

    high : line_at addr / n ≤ line_at (image.base + image.size - 1) / n
    high = div_mono n (addr / 64) ((image.base + image.size - 1) / 64) some (omega arith)

    at_kept : at < length kept
    at_kept = omega (arith, low, high, length-range_with_len (lines_below n image.base) (lines_kept n image.base image.size))

    its_line : get_or kept at 0 ≡ line_at addr / n
    its_line = get_or-range_with_len (lines_below n image.base) (lines_kept n image.base image.size) at 0 (omega (arith, low, high)) ∙ omega (arith, low)

    before : length (flat_map line_bytes (take at kept)) ≡ 64 * at
    before = length-lines line_bytes line_length (take at kept) ∙ ap (λ (k : ℕ). 64 * k) (length-take-le at kept (omega (arith, at_kept)))

    address : 64 * (line_at addr / n * n + number) + addr % 64 ≡ addr
    address =
        let all : n * (addr / 64 / n) + addr / 64 % n ≡ addr / 64 = div-add-mod (addr / 64) n in
        let turned : addr / 64 / n * n ≡ n * (addr / 64 / n) = mul_comm (addr / 64 / n) n in
        omega arith

    own_byte : get_or (first_bytes n number image) (place_of n image.base addr) 0 ≡ byte_at image.segments addr
    unfolding first_bytes
    own_byte =
        let inside : addr % 64 < length (line_bytes (get_or kept at 0)) = omega (arith, line_length (get_or kept at 0)) in
        ap (λ (k : ℕ). get_or (flat_map line_bytes kept) (k + addr % 64) 0) (sym before)
        ∙ (get_or-flat_map line_bytes kept at (addr % 64) 0 0 at_kept inside
        ∙ (ap (λ (line : ℕ). get_or (line_bytes line) (addr % 64) 0) its_line
        ∙ get_or-map-range_with_len (byte_at image.segments) (64 * (line_at addr / n * n + number)) 64 (addr % 64) addr 0 (omega arith) address))

    own_within : place_of n image.base addr < length (first_bytes n number image)
    unfolding first_bytes
    own_within = omega (arith, at_kept, length-lines line_bytes line_length kept)

  first_share : Share n number image.base (bytes_from image.segments image.base image.size) (first_bytes n number image)
  first_share =
      let long : length (bytes_from image.segments image.base image.size) ≡ image.size = length-map-range_with_len (byte_at image.segments) image.base image.size in
      record {
        bytes = λ addr from below is.
            let within : addr < image.base + image.size = omega (arith, below, long) in
            slice_same (bytes_from image.segments image.base image.size) (first_bytes n number image) (addr - image.base) (place_of n image.base addr) (omega (arith, below)) (own_within addr from within is)
            (get_or-map-range_with_len (byte_at image.segments) image.base image.size (addr - image.base) addr 0 (omega arith) (omega arith) ∙ sym (own_byte addr from within is));
      }

-- ---- lists of the same
mapped_all : {X Y : Type 0} (g : X → Y) (f : ℕ → X) (v : Y) → ((i : ℕ) → g (f i) ≡ v) → (a n : ℕ) → map g (map f (range_with_len a n)) ≡ replicate n v
mapped_all g f v h a zero = refl
mapped_all g f v h a (suc n) = rw (h a, mapped_all g f v h (a + 1) n) refl

mapped_each : {Y : Type 0} (f : ℕ → Y) (v : Y) → ((i : ℕ) → f i ≡ v) → (a n : ℕ) → map f (range_with_len a n) ≡ replicate n v
mapped_each f v h a zero = refl
mapped_each f v h a (suc n) = rw (h a, mapped_each f v h (a + 1) n) refl

-- ---- all cores have an instruction cache, or none has
l1i_ratio : (banks : ℕ) (l1i : Option L1) → IfSome l1i (IsL1 banks) → option_map_or (λ c. c.sets) l1i 0 % banks ≡ 0
l1i_ratio banks None is = omega arith
l1i_ratio banks (Some c) is = is.ratio

l1i_some : (banks cores : ℕ) (l1i : Option L1) → IfSome l1i (IsL1 banks)
    → ((cond (is_some l1i) cores 0 ≡ cores) × (1 ≤ option_map_or (λ c. c.sets) l1i 0) × (1 ≤ option_map_or (λ c. c.ways) l1i 0)) ⊎ (cond (is_some l1i) cores 0 ≡ 0)
l1i_some banks cores None is = inr refl
l1i_some banks cores (Some c) is = inl (refl, is.sets.0, is.ways.0)

-- ---- the shards of a machine
module _ (m : Machine) (image : MemoryImage) (is : IsMachine m) where
  abbrev all : List ShardState
  all = new_shards m image

  count : length all ≡ m.l2.banks
  count = length-map-range_with_len (λ number. new_shard m number image) 0 m.l2.banks

  some : 0 < m.l2.banks
  some = omega (arith, is.l2.banks.0)

  new_stands : (j : ℕ) → Stands m.l2.banks (new_memory m image) (new_caches m) j (new_shard m j image)
  new_stands j = record {
    number = refl;
    base = refl;
    size = sym (length-map-range_with_len (byte_at image.segments) image.base image.size);
    part = record {
      whole = refl;
      count = refl;
      l1_ways = refl;
      l1i_ways = refl;
      l2_ways = refl;
      cores = length-replicate m.cores (replicate (m.l1.sets / m.l2.banks) []) ∙ sym (length-replicate m.cores (replicate m.l1.sets []));
      fetchers =
          length-replicate (fetchers_of m) (replicate {A = List (ℕ × Unit {0})} (l1i_sets_of m / m.l2.banks) [])
          ∙ sym (length-replicate (fetchers_of m) (replicate {A = List (ℕ × Unit {0})} (l1i_sets_of m) []));
      l1 = λ core. core_agrees m.l2.banks j m.cores m.l1.sets core some is.l1.ratio;
      l1i = λ core. core_agrees m.l2.banks j (fetchers_of m) (l1i_sets_of m) core some (l1i_ratio m.l2.banks m.l1i is.l1i);
      l2 = empty_agree m.l2.banks j m.l2.sets some is.l2.ratio;
    };
    share = first_share m.l2.banks j some image;
    cores = length-replicate m.cores None ∙ sym (length-replicate m.cores (replicate m.l1.sets []));
  }

  one_of : (j : ℕ) (t : ShardState) → slice_get all j ≡ Some t → new_shard m j image ≡ t
  one_of j t e =
      let within : j < length all = slice_get_within all j t e in
      sym (get_or-map-range_with_len (λ number. new_shard m number image) 0 m.l2.banks j j t (omega (arith, count, within)) (omega arith)) ∙ get_or_from_slice_get all j t t e

  new_stand : StandFor all (new_memory m image) (new_caches m)
  new_stand =
      stand_from all (new_memory m image) (new_caches m)
      (λ j t e. subst (λ (k : ℕ). Stands k (new_memory m image) (new_caches m) j t) (sym count) (subst (λ (x : ShardState). Stands m.l2.banks (new_memory m image) (new_caches m) j x) (one_of j t e) (new_stands j)))
      (sym (mapped_all (λ (s : ShardState). s.marks) (λ number. new_shard m number image) (replicate m.cores None) (λ i. refl) 0 m.l2.banks))
      refl
      (empty_coherent m.cores 1 m.l1.sets m.l1.ways (fetchers_of m) (l1i_sets_of m) (l1i_ways_of m) m.l2.sets m.l2.ways)
      (empty_room m.cores 1 m.l1.sets m.l1.ways (fetchers_of m) (l1i_sets_of m) (l1i_ways_of m) m.l2.sets m.l2.ways is.l1.sets.0 is.l1.ways.0 is.l2.sets.0 is.l2.ways.0 (l1i_some m.l2.banks m.cores m.l1i is.l1i))

  no_pairing : (core : ℕ) → pairing_of (replicate m.cores None) core ≡ None
  no_pairing core =
      elim (cases_lt core m.cores) as (λ _. pairing_of (replicate m.cores None) core ≡ None) [
        | inl l ↦ get_or-replicate m.cores core None None l
        | inr l ↦ get_or_past (replicate m.cores None) core None (omega (arith, length-replicate {A = Option Pairing} m.cores None))
      ]

  loaded_flat : flat_for (new_memory m image) (replicate m.cores None) ≡ flat.loaded image m.cores
  loaded_flat =
      let each : (core : ℕ) → reserved_by (new_memory m image) core (pairing_of (replicate m.cores None) core) ≡ None = λ core. rw (no_pairing core) refl in
      let long : length (replicate {A = Option Pairing} m.cores None) ≡ m.cores = length-replicate m.cores None in
      ap (λ (r : List (Option Reservation)). record { base = image.base; bytes = bytes_from image.segments image.base image.size; reservations = r })
      (mapped_each (λ core. reserved_by (new_memory m image) core (pairing_of (replicate m.cores None) core)) None each 0 (length (replicate {A = Option Pairing} m.cores None)) ∙ ap (λ (k : ℕ). replicate k None) long)

pub new_shards_stand : NewShardsStand
new_shards_stand m image is = (new_stand m image is, loaded_flat m image is)
