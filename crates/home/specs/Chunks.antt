-- How a list is laid out of which few parts are ever written: by chunks, each at a place. Those that were never written
-- have place 0, where the first chunk stands.
use Rattle.std.specs.Prelude.{◌≡◌, ℕ, ◌+◌, ◌*◌, ◌/◌, ◌%◌, ◌<◌, ◌≤◌, zero, suc, List, [], ◌∷◌, length, map, slice_index_or}
use Rattle.std.specs.List.{range_with_len}

-- where an item stands
abbrev pub stands_at : (chunk : ℕ) → (places : List ℕ) → (at : ℕ) → ℕ
stands_at chunk places at = slice_index_or places (at / chunk) 0 + at % chunk

module _ {A : Type 0} (none : A) (chunk : ℕ) where
  -- so many items, each as it stands in its chunk
  unfoldable pub items_in : (size : ℕ) → (places : List ℕ) → (items : List A) → List A
  items_in size places items = map (λ at. slice_index_or items (stands_at chunk places at) none) (range_with_len 0 size)

-- how many chunks were never written
abbrev pub unwritten : (places : List ℕ) → ℕ
unwritten [] = 0
unwritten (zero ∷ places) = suc (unwritten places)
unwritten (suc place ∷ places) = unwritten places

-- The place of a chunk is that of one whole chunk of items; the first has the same item everywhere; no other is that of
-- two chunks; and there is room for all that were never written.
pub record ArePlaced {A : Type 0} (none : A) (chunk : ℕ) (places : List ℕ) (items : List A) (capacity : ℕ) : Type 0 where
  pub some : chunk ≤ length items
  pub whole : length items % chunk ≡ 0
  pub aligned : (c : ℕ) → slice_index_or places c 0 % chunk ≡ 0
  pub within : (c : ℕ) → slice_index_or places c 0 + chunk ≤ length items
  pub alike : (at : ℕ) → at < chunk → slice_index_or items at none ≡ slice_index_or items 0 none
  pub apart : (c other : ℕ) → 0 < slice_index_or places c 0 → slice_index_or places c 0 ≡ slice_index_or places other 0 → c ≡ other
  pub room : length items + chunk * unwritten places ≤ capacity
