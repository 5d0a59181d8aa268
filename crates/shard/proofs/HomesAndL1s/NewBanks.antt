-- New homes and L1s are seen as new shards, and fit together.
use Rattle.std.proofs.Common.{◌≡◌, ℕ, zero, suc, ◌+◌, ◌-◌, ◌*◌, ◌/◌, ◌%◌, ◌<◌, ◌≤◌, ◌⊎◌, Bool, false, cond, List, [], ◌∷◌, length, get_or, map, replicate, take, drop, Option, Some, None, is_some, refl, sym, ap, ◌∙◌, subst, arith, inl, inr}
use Rattle.std.specs.List.{range_with_len}
use Rattle.std.specs.Option.{option_map_or, unwrap_or}
use Rattle.std.specs.Prelude.{IfSome, nat_lt, slice_get}
use Rattle.std.proofs.Math.Nat.{div-add-mod, mul-div_cancel}
use Rattle.std.proofs.lemmas.Bool.{cases_lt, lt-ltb}
use Rattle.std.proofs.lemmas.List.{get_or-replicate, get_or_past, length-replicate}
use Rattle.std.proofs.lemmas.List.Folds.{flat_map-map}
use Rattle.std.proofs.lemmas.List.FromFn.{length-map-range_with_len}
use Rattle.std.proofs.lemmas.Nat.{div-mul-add, mod-mul-add}
use Rattle.zs_num.specs.Request.{line_bytes}
use Rattle.elf_load.specs.MemoryImage.{MemoryImage, byte_at, bytes_from}
use Rattle.machine_desc.specs.InstructionCaches.{fetchers_of, l1i_sets_of, l1i_ways_of}
use Rattle.machine_desc.specs.Machine.{IsL1, IsMachine}
use Rattle.machine_desc.specs.declared.machine.L1.{L1}
use Rattle.machine_desc.specs.declared.machine.Machine.{Machine}
use Rattle.cache_set.specs.Ways.{kept_of}
use Rattle.shard.specs.Coherence.{Caches, is_alone, letter_at}
use Rattle.home.specs.NewHome.{new_home}
use Rattle.home.specs.HomeState.{HomeLine, bytes_at, nobody, row_at}
use Rattle.l1_cache.specs.L1State.{Copy, L1State, copy_at, has_instructions, letter_of, newer_bytes, no_l1}
use Rattle.cache_set.specs.Lines.{set_of}
use Rattle.shard.specs.NewParts.{IsPlaced, NewBanksAreShards, new_bank, l1_of_core}
use Rattle.shard.specs.PartsLaws.{AreAlike, AreParts, IsOwn}
use Rattle.shard.specs.Seen.{bytes_seen, caches_seen, instructions_seen, letters_in, newest_in, part_of, sets_seen, shard_seen}
use Rattle.home.specs.FirstBytes.{first_bytes, lines_below, lines_kept}
use Rattle.shard.specs.Served.{new_caches_of_shard, new_shard}
use Rattle.shard.specs.SharedStep.{Bank, copy_of, l1_of}
use Rattle.shard.specs.StandsFor.{AreCoherent, HaveRoomForLines}
use Rattle.shard.proofs.HomesAndL1s.BytesPieces.{flat_same}
use Rattle.shard.proofs.CoherentLists.{empty_at}
use Rattle.shard.proofs.CoherentRuns.{AllFetchOrNone, empty_coherent, empty_room}
use Rattle.shard.proofs.HomesAndL1s.Fit.{AreFit, IsFit}
use Rattle.shard.proofs.HomesAndL1s.Gets.{got_is}
use Rattle.shard.proofs.HomesAndL1s.LettersSeen.{letter_seen}
use Rattle.shard.proofs.HomesAndL1s.LineFits.{LineFits, empty_fits, not_there}
use Rattle.shard.proofs.HomesAndL1s.ListsSeen.{parts_seen}
use Rattle.shard.proofs.HomesAndL1s.NewBytes.{cut_whole, pieces_long}
use Rattle.shard.proofs.HomesAndL1s.Newest.{newest_none}
use Rattle.shard.proofs.HomesAndL1s.PartOf.{part_sets}
use Rattle.shard.proofs.HomesAndL1s.RowsSeen.{dirty_of, seen_ways}
use Rattle.shard.proofs.SomeCores.{some_core_false}

-- ---- lists of the same
map_replicate : {X Y : Type 0} (f : X → Y) (n : ℕ) (x : X) → map f (replicate n x) ≡ replicate n (f x)
map_replicate f zero x = refl
map_replicate {Y = Y} f (suc n) x = ap (λ (ys : List Y). f x ∷ ys) (map_replicate f n x)

map_same : {Y : Type 0} (f : ℕ → Y) (y : Y) → ((k : ℕ) → f k ≡ y) → (a n : ℕ) → map f (range_with_len a n) ≡ replicate n y
map_same f y h a zero = refl
map_same {Y = Y} f y h a (suc n) = ap (λ (z : Y). z ∷ map f (range_with_len (a + 1) n)) (h a) ∙ ap (λ (ys : List Y). y ∷ ys) (map_same f y h (a + 1) n)

-- the part of empty sets
part_empty : {X : Type 0} (d n b sets : ℕ) → part_sets {X = X} d n b (replicate sets []) ≡ replicate (sets * d / n) []
part_empty {X = X} d n b sets =
    let all : List (List X) = replicate sets [] in
    ap (λ (z : ℕ). map (λ k. set_of d (k * n + b) all) (range_with_len 0 (z * d / n))) (length-replicate {A = List X} sets [])
    ∙ map_same (λ k. set_of d (k * n + b) all) [] (λ k. empty_at {X = X} sets ((k * n + b) / d % length all)) 0 (sets * d / n)

-- as many sets in each part, or all
shares : (sets parts n : ℕ) → 0 < n → sets % n ≡ 0 → (parts ≡ 1) ⊎ (parts ≡ n) → sets / parts * parts / n ≡ sets / n
shares sets parts n some whole either =
    elim either as (λ _. sets / parts * parts / n ≡ sets / n) [
      | inl e ↦
          let one : sets / 1 * 1 ≡ sets = omega arith in
          subst (λ (z : ℕ). sets / z * z / n ≡ sets / n) (sym e) (ap (λ (z : ℕ). z / n) one)
      | inr e ↦ subst (λ (z : ℕ). sets / z * z / n ≡ sets / n) (sym e) (mul-div_cancel (sets / n) some)
    ]

some_share : (sets n : ℕ) → 1 ≤ sets → sets % n ≡ 0 → 0 < n → 1 ≤ sets / n
some_share sets n some whole below =
    elim (cases_lt 0 (sets / n)) as (λ _. 1 ≤ sets / n) [
      | inl l ↦ omega arith
      | inr none ↦
          let zero_is : sets / n ≡ 0 = omega arith in
          let bad : sets ≡ n * 0 + 0 = sym (div-add-mod sets n) ∙ (ap (λ (z : ℕ). n * z + sets % n) zero_is ∙ ap (λ (z : ℕ). n * 0 + z) whole) in
          absurd (omega arith)
    ]

some_part : (sets parts n : ℕ) → 1 ≤ sets → sets % n ≡ 0 → 0 < n → (parts ≡ 1) ⊎ (parts ≡ n) → 1 ≤ sets / parts
some_part sets parts n some whole below either =
    elim either as (λ _. 1 ≤ sets / parts) [
      | inl e ↦ subst (λ (z : ℕ). 1 ≤ sets / z) (sym e) (let one : sets / 1 ≡ sets = omega arith in omega arith)
      | inr e ↦ subst (λ (z : ℕ). 1 ≤ sets / z) (sym e) (some_share sets n some whole below)
    ]

part_fits : (sets parts n : ℕ) → 0 < n → sets % n ≡ 0 → (parts ≡ 1) ⊎ (parts ≡ n) → sets / parts * parts % n ≡ 0
part_fits sets parts n some whole either =
    elim either as (λ _. sets / parts * parts % n ≡ 0) [
      | inl e ↦
          let one : sets / 1 * 1 ≡ sets = omega arith in
          subst (λ (z : ℕ). sets / z * z % n ≡ 0) (sym e) (ap (λ (z : ℕ). z % n) one ∙ whole)
      | inr e ↦ subst (λ (z : ℕ). sets / z * z % n ≡ 0) (sym e) (let zero_more : sets / n * n ≡ sets / n * n + 0 = omega arith in ap (λ (z : ℕ). z % n) zero_more ∙ mod-mul-add (sets / n) n 0 some)
    ]

-- instruction caches: none, or one for each core
l1i_fits : (o : Option L1) (n : ℕ) → IfSome o (IsL1 n) → option_map_or (λ c. c.sets) o 0 % n ≡ 0
l1i_fits None n h = none n where
  none : (n : ℕ) → 0 % n ≡ 0
  none n = omega arith
l1i_fits (Some c) n h = h.ratio

fetch_or_none : (o : Option L1) (n cores : ℕ) → 0 < n → IfSome o (IsL1 n) → AllFetchOrNone cores (cond (is_some o) cores 0) (option_map_or (λ c. c.sets) o 0 / n) (option_map_or (λ c. c.ways) o 0)
fetch_or_none None n cores some h = inr refl
fetch_or_none (Some c) n cores some h = inl (refl, some_share c.sets n h.sets.0 h.ratio some, h.ways.0)

-- what is seen of them, where an L1I of so many sets is seen as its part
fetched_new : (o : Option L1) (n cores parts : ℕ) → 0 < n → (parts ≡ 1) ⊎ (parts ≡ n) → IfSome o (IsL1 n) → (all : List (List (List (ℕ × Unit {0})))) → all ≡ replicate cores (replicate (option_map_or (λ c. c.sets) o 0 / n) [])
    → cond (nat_lt 0 (length (replicate {A = List (ℕ × Unit {0})} (option_map_or (λ c. c.sets) o 0 / parts) []))) all [] ≡ replicate (cond (is_some o) cores 0) (replicate (option_map_or (λ c. c.sets) o 0 / n) [])
fetched_new None n cores parts some either h all e =
    let nothing : 0 / parts ≡ 0 = omega arith in
    ap (λ (z : ℕ). cond (nat_lt 0 (length (replicate {A = List (ℕ × Unit {0})} z []))) all []) nothing
fetched_new (Some c) n cores parts some either h all e =
    let long : length (replicate {A = List (ℕ × Unit {0})} (c.sets / parts) []) ≡ c.sets / parts = length-replicate {A = List (ℕ × Unit {0})} (c.sets / parts) [] in
    ap (λ (b : Bool). cond b all []) (lt-ltb 0 (length (replicate {A = List (ℕ × Unit {0})} (c.sets / parts) [])) (omega (arith, long, some_part c.sets parts n h.sets.0 h.ratio some either))) ∙ e

module _ (m : Machine) (image : MemoryImage) (parts number : ℕ) (is : IsMachine m) (placed : IsPlaced image) (either : (parts ≡ 1) ⊎ (parts ≡ m.l2.banks)) (below : number < m.l2.banks) where
  abbrev n : ℕ
  n = m.l2.banks

  abbrev p : Bank
  p = new_bank m parts number image

  abbrev l1 : L1State
  l1 = l1_of_core m parts

  some : 0 < n
  some = omega (arith, is.l2.banks.0)

  some_cores : 0 < m.cores
  some_cores = omega (arith, is.cores.0)

  cores : length p.l1s ≡ m.cores
  cores = length-replicate m.cores l1

  l1_is : (k : ℕ) → k < m.cores → l1_of p k ≡ l1
  l1_is k l = get_or-replicate m.cores k l1 no_l1 l

  -- of each core, also of none
  each_l1 : (P : L1State → Type 0) → P l1 → P no_l1 → (k : ℕ) → P (l1_of p k)
  each_l1 P here none k =
      elim (cases_lt k m.cores) as (λ _. P (l1_of p k)) [
        | inl l ↦ subst P (sym (l1_is k l)) here
        | inr past ↦ subst P (sym (get_or_past p.l1s k no_l1 (omega (arith, cores)))) none
      ]

  no_copy : (k x : ℕ) → copy_of p k x ≡ None
  unfolding copy_at
  no_copy k x =
      each_l1 (λ y. copy_at y x ≡ None) (ap (kept_of x) (empty_at {X = ℕ × Copy} (m.l1.sets / parts) (x / parts % length (replicate {A = List (ℕ × Copy)} (m.l1.sets / parts) [])))) refl k

  no_instructions : (k x : ℕ) → has_instructions (l1_of p k) x ≡ false
  unfolding has_instructions
  no_instructions k x =
      each_l1 (λ y. has_instructions y x ≡ false)
      (ap (λ s. is_some (kept_of x s)) (empty_at {X = ℕ × Unit {0}} (l1i_sets_of m / parts) (x / parts % length (replicate {A = List (ℕ × Unit {0})} (l1i_sets_of m / parts) [])))) refl k

  no_row : (x : ℕ) → row_at p.home x ≡ None
  unfolding row_at new_home
  no_row x = ap (kept_of x) (empty_at {X = ℕ × HomeLine} (m.l2.sets / n) (x / n % length (replicate {A = List (ℕ × HomeLine)} (m.l2.sets / n) [])))

  -- ---- the caches
  sets_are : map (sets_seen p.home) p.l1s ≡ replicate m.cores (replicate (m.l1.sets / n) [])
  unfolding new_home
  sets_are =
      map_replicate (sets_seen p.home) m.cores l1
      ∙ ap (replicate m.cores)
      (ap (map letters_in) (part_empty parts n number (m.l1.sets / parts))
      ∙ (map_replicate letters_in (m.l1.sets / parts * parts / n) []
      ∙ ap (λ (z : ℕ). replicate z []) (shares m.l1.sets parts n some is.l1.ratio either)))

  l1i_are : instructions_seen p.home p.l1s ≡ replicate (fetchers_of m) (replicate (l1i_sets_of m / n) [])
  unfolding new_home
  l1i_are =
      let i : L1State → List (List (ℕ × Unit {0})) = λ x. (part_of n number x).l1i in
      ap (λ (x : L1State). cond (nat_lt 0 (length x.l1i)) (map i p.l1s) []) (l1_is 0 some_cores)
      ∙ fetched_new m.l1i n m.cores parts some either is.l1i (map i p.l1s)
      (map_replicate i m.cores l1
      ∙ ap (replicate m.cores)
      (part_empty parts n number (l1i_sets_of m / parts) ∙ ap (λ (z : ℕ). replicate z []) (shares (l1i_sets_of m) parts n some (l1i_fits m.l1i n is.l1i) either)))

  new_caches_seen : caches_seen p ≡ new_caches_of_shard m
  unfolding new_home
  new_caches_seen =
      parts_seen p.home p.l1s m.l1.ways (l1i_ways_of m) (replicate m.cores (replicate (m.l1.sets / n) [])) (replicate (fetchers_of m) (replicate (l1i_sets_of m / n) []))
      (ap (λ (x : L1State). x.ways) (l1_is 0 some_cores)) (ap (λ (x : L1State). x.l1i_ways) (l1_is 0 some_cores)) sets_are l1i_are
      ∙ ap (λ (l2 : List (List (ℕ × Bool))). record (new_caches_of_shard m) { l2 = l2 }) (map_replicate (seen_ways dirty_of) (m.l2.sets / n) [])

  -- ---- the bytes
  abbrev kept : ℕ
  kept = lines_kept n image.base image.size

  abbrev under : ℕ
  under = lines_below n image.base

  all_long : length p.home.bytes ≡ line_bytes * kept
  unfolding first_bytes new_home
  all_long = pieces_long (λ line. bytes_from image.segments (line_bytes * (line * n + number)) line_bytes) (λ i. length-map-range_with_len (byte_at image.segments) (line_bytes * (i * n + number)) line_bytes) under kept

  line_cut : (k : ℕ) → newest_in ((under + k) * n + number) (bytes_at p.home ((under + k) * n + number)) p.l1s ≡ take line_bytes (drop (line_bytes * k) p.home.bytes)
  unfolding bytes_at new_home
  line_cut k =
      let line : ℕ = (under + k) * n + number in
      let at : line / n - under ≡ k = minus (line / n) under k (div-mul-add (under + k) n number below) in
      newest_none line (bytes_at p.home line) p.l1s (λ j h. ap (λ (o : Option Copy). newer_bytes o h) (no_copy j line))
      ∙ ap (λ (z : ℕ). take line_bytes (drop (line_bytes * z) p.home.bytes)) at where
        minus : (q a k : ℕ) → q ≡ a + k → q - a ≡ k
        minus q a k e = omega arith

  new_bytes_seen : bytes_seen p ≡ p.home.bytes
  unfolding bytes_seen new_home
  new_bytes_seen =
      flat_map-map (λ line. newest_in line (bytes_at p.home line) p.l1s) (λ k. (under + k) * n + number) (range_with_len 0 kept)
      ∙ (flat_same (λ k. take line_bytes (drop (line_bytes * k) p.home.bytes)) (λ k. newest_in ((under + k) * n + number) (bytes_at p.home ((under + k) * n + number)) p.l1s) (range_with_len 0 kept)
      (λ i l. line_cut (get_or (range_with_len 0 kept) i 0))
      ∙ cut_whole p.home.bytes 0 kept (all_long ∙ omega arith))

  seen_as_new : shard_seen p 0 ≡ new_shard m number image
  unfolding shard_seen new_home
  seen_as_new =
      ap (λ (c : Caches). record (new_shard m number image) { caches = c; bytes = bytes_seen p }) new_caches_seen
      ∙ ap (λ (b : List ℕ). record (new_shard m number image) { bytes = b }) new_bytes_seen

  -- ---- they fit together
  abbrev empty : Caches
  empty = new_caches_of_shard m

  coherent : AreCoherent (caches_seen p)
  coherent =
      subst AreCoherent (sym new_caches_seen) (empty_coherent m.cores n (m.l1.sets / n) m.l1.ways (fetchers_of m) (l1i_sets_of m / n) (l1i_ways_of m) (m.l2.sets / n) m.l2.ways)

  room : HaveRoomForLines (caches_seen p)
  room =
      subst HaveRoomForLines (sym new_caches_seen)
      (empty_room m.cores n (m.l1.sets / n) m.l1.ways (fetchers_of m) (l1i_sets_of m / n) (l1i_ways_of m) (m.l2.sets / n) m.l2.ways
      (some_share m.l1.sets n is.l1.sets.0 is.l1.ratio some) is.l1.ways.0 (some_share m.l2.sets n is.l2.sets.0 is.l2.ratio some) is.l2.ways.0 (fetch_or_none m.l1i n m.cores some is.l1i))

  l1_at : (k : ℕ) (x : L1State) → slice_get p.l1s k ≡ Some x → x ≡ l1
  l1_at k x at =
      let is_x = got_is p.l1s k x no_l1 at in
      sym is_x.1 ∙ l1_is k (omega (arith, is_x.0, cores))

  first_at : (x : L1State) → get_or p.l1s 0 x ≡ l1
  first_at x = get_or-replicate m.cores 0 l1 x some_cores

  alike : AreAlike p.home p.l1s
  unfolding new_home
  alike = record {
    shards = λ k x at. subst (λ (y : L1State). (y.shards ≡ 1) ⊎ (y.shards ≡ n)) (sym (l1_at k x at)) either;
    ways = λ k x at.
        (ap (λ (y : L1State). y.ways) (l1_at k x at ∙ sym (first_at x)), ap (λ (y : L1State). y.l1i_ways) (l1_at k x at ∙ sym (first_at x)));
    sets = λ k x at. subst (λ (y : L1State). length y.sets * y.shards % n ≡ 0) (sym (l1_at k x at))
        (ap (λ (z : ℕ). z * parts % n) (length-replicate {A = List (ℕ × Copy)} (m.l1.sets / parts) []) ∙ part_fits m.l1.sets parts n some is.l1.ratio either);
    l1i_sets = λ k x at. subst (λ (y : L1State). length y.l1i * y.shards % n ≡ 0) (sym (l1_at k x at))
        (ap (λ (z : ℕ). z * parts % n) (length-replicate {A = List (ℕ × Unit {0})} (l1i_sets_of m / parts) []) ∙ part_fits (l1i_sets_of m) parts n some (l1i_fits m.l1i n is.l1i) either);
    fetchers = λ k x at. ap (λ (y : L1State). length y.l1i) (l1_at k x at ∙ sym (first_at x));
  }

  fits : (x : ℕ) → LineFits p x
  fits x = empty_fits p x (no_row x) (λ k. no_copy k x) (λ k. no_instructions k x)

  fit : AreFit p
  unfolding new_home
  fit = record {
    some = (some, below);
    each = λ k within.
        let l : k < m.cores = omega (arith, within, cores) in
        subst (λ (y : L1State). IsFit n (l1_of p 0) y) (sym (l1_is k l))
        (subst (λ (y : L1State). IsFit n y l1) (sym (l1_is 0 some_cores))
        (record {
          shards = either;
          ways = refl;
          l1i_ways = refl;
          sets = ap (λ (z : ℕ). z * parts % n) (length-replicate {A = List (ℕ × Copy)} (m.l1.sets / parts) []) ∙ part_fits m.l1.sets parts n some is.l1.ratio either;
          l1i_sets = ap (λ (z : ℕ). z * parts % n) (length-replicate {A = List (ℕ × Unit {0})} (l1i_sets_of m / parts) []) ∙ part_fits (l1i_sets_of m) parts n some (l1i_fits m.l1i n is.l1i) either;
          fetchers = refl;
          room = omega (arith, length-replicate {A = List (ℕ × Copy)} (m.l1.sets / parts) [], some_part m.l1.sets parts n is.l1.sets.0 is.l1.ratio some either);
        }));
  }

  no_letter : (k x : ℕ) → IsOwn p x → is_alone (letter_at (caches_seen p) k x) ≡ false
  no_letter k x own = ap is_alone (letter_seen p fit k x own) ∙ ap (λ (o : Option Copy). is_alone (letter_of o)) (no_copy k x)

  new_are_parts : AreParts p
  unfolding new_home
  new_are_parts = record {
    some = (some, below, placed.0, placed.1);
    cores = (omega (arith, cores, some_cores), omega (arith, cores, is.cores.1), length-replicate m.cores None ∙ sym cores);
    alike = alike;
    bytes = all_long;
    coherent = coherent;
    room = room;
    lines = λ x t. absurd (not_there (row_at p.home x) (no_row x) t);
    holds = λ k x own. (fits x).holds k;
    alone = λ x own. ap (λ (o : Option HomeLine). (unwrap_or o nobody).alone) (no_row x) ∙ sym (some_core_false is_alone (caches_seen p) x (λ k. no_letter k x own));
    fetches = λ k x own. (fits x).fetches k;
    whole = λ k x copy own e. (fits x).whole k copy e;
    clean = λ k x copy own e c. (fits x).clean k copy e c;
    free = λ k x copy own e f. ((fits x).free k copy e f);
  }

pub new_banks_are_shards : NewBanksAreShards
new_banks_are_shards m image parts number is placed either below = (seen_as_new m image parts number is placed either below, new_are_parts m image parts number is placed either below)
