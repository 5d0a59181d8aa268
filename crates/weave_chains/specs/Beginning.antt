-- The chains of the first cores, before an event fires.
use Rattle.std.specs.Prelude.{◌≡◌, ◌<◌, ◌≤◌, ℕ, List, length, None, Some, slice_get}
use Rattle.zs_num.specs.declared.entry.Entry.{Entry}
use Rattle.weave_chains.specs.States.{ChainState}

-- the accesses of a core are these, and none of its events has fired
pub record IsFresh (entries : List Entry) (core : ℕ) (c : ChainState) : Type 0 where
  pub from : c.access ≤ c.end
  pub within : c.end ≤ length entries
  pub own : (i : ℕ) (e : Entry) → slice_get entries i ≡ Some e → c.access ≤ i → i < c.end → e.core ≡ core
  pub all : (i : ℕ) (e : Entry) → slice_get entries i ≡ Some e → e.core ≡ core → (c.access ≤ i) × (i < c.end)
  pub place : c.place ≡ 0
  pub sized : length c.ended ≡ 64
  pub last : c.last ≡ None

abbrev pub AreFresh : List Entry → List ChainState → Type 0
AreFresh entries chains = (core : ℕ) (c : ChainState) → slice_get chains core ≡ Some c → IsFresh entries core c
