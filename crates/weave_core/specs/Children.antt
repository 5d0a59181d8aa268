-- The children of a domain's events among its events, as chains of links.
use Rattle.std.specs.Prelude.{◌≡◌, ◌<◌, ◌+◌, ◌-◌, ◌^◌, ℕ, List, [], ◌∷◌, length, slice_get, slice_index, Some}
use Rattle.weave_core.specs.declared.children.Link.{Link}
use Rattle.weave_core.specs.Waits.{Waits, told}

-- the links of a chain, from the one before `next` on; 0 ends it
abbrev pub IsChain : List Link → (next : ℕ) → List Link → Type 0
IsChain links next [] = next ≡ 0
IsChain links next (l ∷ chain) = (0 < next) × ((slice_get links (next - 1) ≡ Some l) × ((l.next < next) × IsChain links l.next chain))

-- the child learns that its parent has finished
abbrev pub tell_child : (finish : ℕ) → Waits → Link → Waits
tell_child finish w l = told w l.child (finish + l.delay)

-- one child after the other learns it
abbrev pub tell_all : (finish : ℕ) → Waits → List Link → Waits
tell_all finish w [] = w
tell_all finish w (l ∷ chain) = tell_all finish (tell_child finish w l) chain

-- the child waits for a parent
pub record IsTellable (finish : ℕ) (w : Waits) (l : Link) : Type 0 where
  pub sizes : length w.starts ≡ length w.waits
  pub within : l.child < length w.waits
  pub waits : 0 < slice_index w.waits l.child
  pub unfired : slice_index w.waits l.child < 4294967295
  pub small : finish + l.delay < 2 ^ 64

abbrev pub CanTell : (finish : ℕ) → Waits → List Link → Type 0
CanTell finish w [] = Unit {0}
CanTell finish w (l ∷ chain) = IsTellable finish w l × CanTell finish (tell_child finish w l) chain

-- each child in the chain waits for a parent when its turn comes
pub record CanTellChain (links : List Link) (head finish : ℕ) (w : Waits) : Type 0 where
  pub chain : List Link
  pub is_chain : IsChain links head chain
  pub can : CanTell finish w chain
