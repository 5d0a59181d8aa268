-- The slots of homes and L1s that fit together are those of a table before the first access.
use Rattle.std.proofs.Common.{◌≡◌, ℕ, zero, suc, ◌+◌, ◌-◌, ◌<◌, ◌≤◌, List, [], ◌∷◌, ◌++◌, map, length, get_or, replicate, refl, sym, ◌∙◌, ap, subst, arith, inl, inr}
use Rattle.std.specs.Prelude.{slice_get, slice_index_or, Option, Some, None}
use Rattle.std.specs.List.{range_with_len}
use Rattle.std.proofs.lemmas.Bool.{cases_lt}
use Rattle.std.proofs.lemmas.List.{length-append, length-map, length-replicate}
use Rattle.std.proofs.lemmas.List.FromFn.{fill_by_all, length-map-range_with_len}
use Rattle.home.specs.HomeState.{HomeState}
use Rattle.l1_cache.specs.L1State.{L1State, no_l1}
use Rattle.shard.specs.PartsLaws.{AreAllParts}
use Rattle.shard.specs.Seen.{PartsState, bank_at, no_home, shard_seen, shards_seen}
use Rattle.shard.specs.Served.{ShardState, resumed}
use Rattle.shard.specs.SharedStep.{Bank}
use Rattle.parts_table.specs.declared.part.Part.{Part}
use Rattle.parts_table.specs.declared.part.TimedPart.{TimedPart}
use Rattle.parts_table.specs.Rule.{HasOpened}
use Rattle.parts_table.specs.Slots.{home_slot, l1_slot, slots_of}
use Rattle.parts_table.specs.World.{World, home_in, l1_in, l1s_in, parts_in, some_part, world_of}
use Rattle.parts_table.proofs.Seating.{slot_is, zeros}

-- ---- last stamps

-- homes and L1s with other last stamps
abbrev pub with_lasts : PartsState → List ℕ → PartsState
with_lasts w lasts = record { homes = w.homes; l1s = w.l1s; lasts = lasts }

map_twice : {X Y Z : Type 0} (g : Y → Z) (f : X → Y) (xs : List X) → map g (map f xs) ≡ map (λ x. g (f x)) xs
map_twice g f [] = refl
map_twice g f (x ∷ xs) = ap (λ zs. g (f x) ∷ zs) (map_twice g f xs)

same_map : {X Y : Type 0} (f g : X → Y) (xs : List X) → ((x : X) → f x ≡ g x) → map f xs ≡ map g xs
same_map f g [] same = refl
same_map f g (x ∷ xs) same = λ i. same x i ∷ same_map f g xs same i

resumed_bank : (p : Bank) (last : ℕ) → resumed (shard_seen p last) 0 ≡ shard_seen p 0
unfolding shard_seen
resumed_bank p last = refl

pub resumed_seen : (w : PartsState) (n : ℕ) → map (λ shard. resumed shard 0) (shards_seen w) ≡ shards_seen (with_lasts w (replicate n 0))
unfolding shards_seen
resumed_seen w n =
    let f : ℕ → ShardState = λ bank. shard_seen (bank_at w bank) (slice_index_or w.lasts bank 0) in
    let g : ℕ → ShardState = λ bank. shard_seen (bank_at w bank) (slice_index_or (replicate n 0) bank 0) in
    let banks : List ℕ = range_with_len 0 (length w.homes) in
    map_twice (λ (shard : ShardState). resumed shard 0) f banks
    ∙ same_map (λ bank. resumed (f bank) 0) g banks (λ bank. resumed_bank (bank_at w bank) (slice_index_or w.lasts bank 0) ∙ ap (shard_seen (bank_at w bank)) (sym (zeros n bank)))

pub as_many_shards : (w : PartsState) → length (shards_seen w) ≡ length w.homes
unfolding shards_seen
as_many_shards w = length-map-range_with_len (λ bank. shard_seen (bank_at w bank) (slice_index_or w.lasts bank 0)) 0 (length w.homes)

first_shard_of : (w : PartsState) (n : ℕ) → length w.homes ≡ suc n → slice_get (shards_seen w) 0 ≡ Some (shard_seen (bank_at w 0) (slice_index_or w.lasts 0 0))
unfolding shards_seen
first_shard_of w n many = ap (λ (k : ℕ). slice_get (map (λ bank. shard_seen (bank_at w bank) (slice_index_or w.lasts bank 0)) (range_with_len 0 k)) 0) many

pub marks_seen : (p : Bank) (last : ℕ) → (shard_seen p last).marks ≡ p.home.marks
unfolding shard_seen
marks_seen p last = refl

-- the shards know as many cores as there are L1s
pub known_cores : (w : PartsState) (n : ℕ) → AreAllParts w → ((shard : ShardState) → slice_get (shards_seen w) 0 ≡ Some shard → length shard.marks ≡ n) → length w.l1s ≡ n
known_cores w n are known =
    let some = are.some in
    let many : length w.homes ≡ suc (length w.homes - 1) = omega (arith, some) in
    let p : Bank = bank_at w 0 in
    let last : ℕ = slice_index_or w.lasts 0 0 in
    sym (are.parts 0 some).cores.2 ∙ (ap length (sym (marks_seen p last)) ∙ known (shard_seen p last) (first_shard_of w (length w.homes - 1) many))

pub few_l1s : (w : PartsState) → AreAllParts w → (0 < length w.l1s) × (length w.l1s ≤ 256)
few_l1s w are = let cores = (are.parts 0 are.some).cores in (cores.0, cores.1)

-- ---- the slots

front_at : {X : Type 0} (xs ys : List X) (k : ℕ) (x : X) → slice_get xs k ≡ Some x → slice_get (xs ++ ys) k ≡ Some x
front_at [] ys k x at = absurd (let none : None ≡ Some x = at in cc)
front_at (y ∷ xs) ys zero x at = at
front_at (y ∷ xs) ys (suc k) x at = front_at xs ys k x at

back_at : {X : Type 0} (xs ys : List X) (n k : ℕ) → length xs ≡ n → slice_get (xs ++ ys) (n + k) ≡ slice_get ys k
back_at [] ys zero k size = let same : 0 + k ≡ k = omega arith in ap (slice_get ys) same
back_at [] ys (suc n) k size = absurd (omega (arith, size))
back_at (x ∷ xs) ys zero k size = absurd (omega (arith, size))
back_at (x ∷ xs) ys (suc n) k size = let more : suc n + k ≡ suc (n + k) = omega arith in ap (slice_get (x ∷ (xs ++ ys))) more ∙ back_at xs ys n k (omega (arith, size))

map_at : {X Y : Type 0} (f : X → Y) (xs : List X) (k : ℕ) (d : X) → k < length xs → slice_get (map f xs) k ≡ Some (f (get_or xs k d))
map_at f [] k d within = absurd (omega (arith, within))
map_at f (x ∷ xs) zero d within = refl
map_at f (x ∷ xs) (suc k) d within = map_at f xs k d (omega (arith, within))

module _ (homes : List HomeState) (l1s : List L1State) where
  abbrev slots : List (Option TimedPart)
  slots = slots_of homes l1s

  abbrev cores : ℕ
  cores = length l1s

  abbrev banks : ℕ
  banks = length homes

  abbrev w : World
  w = world_of (slots_of homes l1s)

  pub many_slots : length (slots_of homes l1s) ≡ length l1s + length homes
  many_slots = length-append (map l1_slot l1s) (map home_slot homes) ∙ ap (λ (p : ℕ × ℕ). p.0 + p.1) (λ i. (length-map l1s l1_slot i, length-map homes home_slot i))

  at_l1 : (k : ℕ) → k < cores → slice_get slots k ≡ Some (l1_slot (get_or l1s k no_l1))
  at_l1 k within = front_at (map l1_slot l1s) (map home_slot homes) k (l1_slot (get_or l1s k no_l1)) (map_at l1_slot l1s k no_l1 within)

  at_home : (b : ℕ) → b < banks → slice_get slots (cores + b) ≡ Some (home_slot (get_or homes b no_home))
  at_home b within = back_at (map l1_slot l1s) (map home_slot homes) cores b (length-map l1s l1_slot) ∙ map_at home_slot homes b no_home within

  l1_is : (k : ℕ) → k < cores → (w k).part ≡ Part.L1 (get_or l1s k no_l1)
  l1_is k within = ap (λ (x : Option TimedPart). (some_part x).part) (slot_is slots k (l1_slot (get_or l1s k no_l1)) (at_l1 k within))

  home_is : (b : ℕ) → b < banks → (w (cores + b)).part ≡ Part.Home (get_or homes b no_home)
  home_is b within = ap (λ (x : Option TimedPart). (some_part x).part) (slot_is slots (cores + b) (home_slot (get_or homes b no_home)) (at_home b within))

  pub parts_are : parts_in (length l1s) (length homes) (world_of (slots_of homes l1s)) ≡ record { homes = homes; l1s = l1s; lasts = replicate (length homes) 0 }
  parts_are =
      let one : homes ≡ map (λ b. home_in (w (cores + b)).part) (range_with_len 0 banks) = fill_by_all (λ b. home_in (w (cores + b)).part) homes banks no_home refl (λ b within. sym (ap home_in (home_is b within))) in
      let two : l1s ≡ l1s_in cores banks w = fill_by_all (λ k. l1_in (w k).part) l1s cores no_l1 refl (λ k within. sym (ap l1_in (l1_is k within))) in
      λ i. record { homes = sym one i; l1s = sym two i; lasts = replicate banks 0 }

  module _ (lasts : List ℕ) (are : AreAllParts (record { homes = homes; l1s = l1s; lasts = lasts })) (room : ℕ) where
    zero_parts : AreAllParts (record { homes = homes; l1s = l1s; lasts = replicate (length homes) 0 })
    zero_parts = record { some = are.some; lasts = length-replicate {A = ℕ} (length homes) 0; number = are.number; whole = are.whole; parts = are.parts }

    pub has_opened : HasOpened (slots_of homes l1s) (length l1s) (length homes) room
    has_opened = record {
      count = many_slots;
      there = λ part low.
          elim (cases_lt part cores) as (λ _. (value : TimedPart) × (slice_get slots part ≡ Some (Some value)) × (value.time ≡ 0)) [
            | inl within ↦ (record { time = 0; part = Part.L1 (get_or l1s part no_l1) }, at_l1 part within, refl)
            | inr past ↦
                let same : cores + (part - cores) ≡ part = omega (arith, past) in (
                  record { time = 0; part = Part.Home (get_or homes (part - cores) no_home) },
                  ap (slice_get slots) (sym same) ∙ at_home (part - cores) (omega (arith, low, past)),
                  refl,
                )
          ];
      sound = record {
        l1s = λ k within. (get_or l1s k no_l1, l1_is k within);
        homes = λ b within. (get_or homes b no_home, home_is b within);
        parts = subst AreAllParts (sym parts_are) zero_parts;
      };
    }

    pub opening_is : shards_seen (parts_in (length l1s) (length homes) (world_of (slots_of homes l1s))) ≡ map (λ shard. resumed shard 0) (shards_seen (record { homes = homes; l1s = l1s; lasts = lasts }))
    opening_is = ap shards_seen parts_are ∙ sym (resumed_seen (record { homes = homes; l1s = l1s; lasts = lasts }) (length homes))

-- the same, of slots and numbers that are these
pub opened_by : (homes : List HomeState) (l1s : List L1State) (lasts : List ℕ) → AreAllParts (record { homes = homes; l1s = l1s; lasts = lasts }) → (these : List (Option TimedPart)) (n m room : ℕ)
    → these ≡ slots_of homes l1s → n ≡ length l1s → m ≡ length homes → HasOpened these n m room
opened_by homes l1s lasts are these n m room slots_are cores_are banks_are =
    subst (λ (xs : List (Option TimedPart)). HasOpened xs n m room) (sym slots_are)
    (subst (λ (k : ℕ). HasOpened (slots_of homes l1s) k m room) (sym cores_are)
    (subst (λ (k : ℕ). HasOpened (slots_of homes l1s) (length l1s) k room) (sym banks_are) (has_opened homes l1s lasts are room)))

pub opening_by : (homes : List HomeState) (l1s : List L1State) (lasts : List ℕ) → AreAllParts (record { homes = homes; l1s = l1s; lasts = lasts }) → (these : List (Option TimedPart)) (n m : ℕ)
    → these ≡ slots_of homes l1s → n ≡ length l1s → m ≡ length homes
    → shards_seen (parts_in n m (world_of these)) ≡ map (λ shard. resumed shard 0) (shards_seen (record { homes = homes; l1s = l1s; lasts = lasts }))
opening_by homes l1s lasts are these n m slots_are cores_are banks_are =
    (λ i. shards_seen (parts_in (cores_are i) (banks_are i) (world_of (slots_are i)))) ∙ opening_is homes l1s lasts are 0
