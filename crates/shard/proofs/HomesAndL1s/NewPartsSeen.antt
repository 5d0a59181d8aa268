-- All new homes, with whole L1s, are seen as the new shards of the machine.
use Rattle.std.proofs.Common.{◌≡◌, ℕ, zero, suc, ◌+◌, ◌<◌, List, ◌∷◌, length, get_or, map, Some, refl, sym, ap, ◌∙◌, subst, arith, inl}
use Rattle.std.specs.List.{range_with_len}
use Rattle.std.specs.Prelude.{slice_get}
use Rattle.std.proofs.lemmas.List.{get_or-replicate, length-replicate}
use Rattle.std.proofs.lemmas.List.FromFn.{get_or-map-range_with_len, length-map-range_with_len}
use Rattle.elf_load.specs.MemoryImage.{MemoryImage}
use Rattle.machine_desc.specs.Machine.{IsMachine}
use Rattle.machine_desc.specs.declared.machine.Machine.{Machine}
use Rattle.home.specs.HomeState.{HomeState}
use Rattle.home.specs.NewHome.{new_home}
use Rattle.l1_cache.specs.L1State.{L1State, no_l1}
use Rattle.shard.specs.NewParts.{IsPlaced, NewPartsAreShards, new_bank, home_of_bank, l1_of_core, new_parts}
use Rattle.shard.specs.PartsLaws.{AreAllParts, AreParts, AreWhole}
use Rattle.shard.specs.Seen.{PartsState, bank_at, no_home, shard_seen, shards_seen}
use Rattle.shard.specs.Served.{new_shard}
use Rattle.shard.specs.SharedStep.{Bank}
use Rattle.shard.specs.StandsFor.{new_shards}
use Rattle.shard.proofs.HomesAndL1s.Gets.{got_is}
use Rattle.shard.proofs.HomesAndL1s.NewBanks.{new_banks_are_shards}

pub same_range : {Y : Type 0} (f g : ℕ → Y) (a n : ℕ) → ((k : ℕ) → k < a + n → f k ≡ g k) → map f (range_with_len a n) ≡ map g (range_with_len a n)
same_range f g a zero h = refl
same_range {Y = Y} f g a (suc n) h =
    ap (λ (y : Y). y ∷ map f (range_with_len (a + 1) n)) (h a (omega arith)) ∙ ap (λ (ys : List Y). g a ∷ ys) (same_range f g (a + 1) n (λ k l. h k (omega arith)))

module _ (m : Machine) (image : MemoryImage) (is : IsMachine m) (placed : IsPlaced image) where
  abbrev n : ℕ
  n = m.l2.banks

  abbrev w : PartsState
  w = new_parts m image

  many : length w.homes ≡ n
  many = length-map-range_with_len (λ number. home_of_bank m number image) 0 n

  home_at : (k : ℕ) (d : HomeState) → k < n → get_or w.homes k d ≡ home_of_bank m k image
  home_at k d l = get_or-map-range_with_len (λ number. home_of_bank m number image) 0 n k k d l (omega arith)

  bank_is : (k : ℕ) → k < n → bank_at w k ≡ new_bank m 1 k image
  bank_is k l = ap (λ (h : HomeState). record { home = h; l1s = w.l1s }) (home_at k no_home l)

  new_bank_is : (k : ℕ) → k < n → (shard_seen (new_bank m 1 k image) 0 ≡ new_shard m k image) × AreParts (new_bank m 1 k image)
  new_bank_is k l = new_banks_are_shards m image 1 k is placed (inl refl) l

  shard_is : (k : ℕ) → k < n → shard_seen (bank_at w k) (get_or w.lasts k 0) ≡ new_shard m k image
  shard_is k l =
      ap (λ (b : Bank). shard_seen b (get_or w.lasts k 0)) (bank_is k l) ∙ (ap (shard_seen (new_bank m 1 k image)) (get_or-replicate n k 0 0 l) ∙ (new_bank_is k l).0)

  new_shards_seen : shards_seen w ≡ new_shards m image
  unfolding shards_seen
  new_shards_seen =
      ap (λ (z : ℕ). map (λ k. shard_seen (bank_at w k) (get_or w.lasts k 0)) (range_with_len 0 z)) many
      ∙ same_range (λ k. shard_seen (bank_at w k) (get_or w.lasts k 0)) (λ k. new_shard m k image) 0 n (λ k l. shard_is k (omega arith))

  home_named : (k : ℕ) (home : HomeState) → slice_get w.homes k ≡ Some home → (home.number ≡ k) × (home.shards ≡ length w.homes)
  unfolding new_home
  home_named k home at =
      let found = got_is w.homes k home no_home at in
      let l : k < n = subst (λ (z : ℕ). k < z) many found.0 in
      let same : home ≡ home_of_bank m k image = sym found.1 ∙ home_at k no_home l in
      (ap (λ (h : HomeState). h.number) same, ap (λ (h : HomeState). h.shards) same ∙ sym many)

  whole : AreWhole w.l1s
  whole k l1 at =
      let found = got_is w.l1s k l1 no_l1 at in
      let l : k < m.cores = omega (arith, found.0, length-replicate m.cores (l1_of_core m 1)) in
      ap (λ (x : L1State). x.shards) (sym found.1 ∙ get_or-replicate m.cores k (l1_of_core m 1) no_l1 l)

  new_all : AreAllParts w
  new_all = record {
    some = omega (arith, many, is.l2.banks.0);
    lasts = length-replicate n 0 ∙ sym many;
    number = home_named;
    whole = whole;
    parts = λ k l.
        let within : k < n = subst (λ (z : ℕ). k < z) many l in
        subst (λ (b : Bank). AreParts b) (sym (bank_is k within)) (new_bank_is k within).1;
  }

pub new_parts_are_shards : NewPartsAreShards
new_parts_are_shards m image is placed = (new_shards_seen m image is placed, new_all m image is placed)
