-- Sums of tallies.
use Rattle.std.specs.Prelude.{ℕ, ◌+◌, ◌-◌, ◌^◌, min, List}
use Rattle.std.specs.List.{fold}
use Rattle.profile_rows.specs.declared.tally.Tally.{Tally}

abbrev pub no_tally : Tally
no_tally = record {
  loads = 0;
  stores = 0;
  atomics = 0;
  fetches = 0;
  hits = 0;
  upgrades = 0;
  l2hits = 0;
  misses = 0;
  cold = 0;
  coherence = 0;
  inclusion = 0;
  eviction = 0;
  invalidating = 0;
  invalidated = 0;
  downgrades = 0;
  lost = 0;
  lowered = 0;
  cycles = 0;
  missing = 0;
  waited = 0;
}

-- a tally and another one together
unfoldable pub plus : Tally → Tally → Tally
plus t more = record {
  loads = t.loads + more.loads;
  stores = t.stores + more.stores;
  atomics = t.atomics + more.atomics;
  fetches = t.fetches + more.fetches;
  hits = t.hits + more.hits;
  upgrades = t.upgrades + more.upgrades;
  l2hits = t.l2hits + more.l2hits;
  misses = t.misses + more.misses;
  cold = t.cold + more.cold;
  coherence = t.coherence + more.coherence;
  inclusion = t.inclusion + more.inclusion;
  eviction = t.eviction + more.eviction;
  invalidating = t.invalidating + more.invalidating;
  invalidated = t.invalidated + more.invalidated;
  downgrades = t.downgrades + more.downgrades;
  lost = t.lost + more.lost;
  lowered = t.lowered + more.lowered;
  cycles = t.cycles + more.cycles;
  missing = t.missing + more.missing;
  waited = t.waited + more.waited;
}

abbrev pub total : List Tally → Tally
total tallies = fold plus no_tally tallies

-- a count as far as 64 bits go
abbrev pub capped : ℕ → ℕ
capped n = min n (2 ^ 64 - 1)

-- the same of 128 bits
abbrev pub capped_wide : ℕ → ℕ
capped_wide n = min n (2 ^ 128 - 1)

unfoldable pub capped_tally : Tally → Tally
capped_tally t = record {
  loads = capped t.loads;
  stores = capped t.stores;
  atomics = capped t.atomics;
  fetches = capped t.fetches;
  hits = capped t.hits;
  upgrades = capped t.upgrades;
  l2hits = capped t.l2hits;
  misses = capped t.misses;
  cold = capped t.cold;
  coherence = capped t.coherence;
  inclusion = capped t.inclusion;
  eviction = capped t.eviction;
  invalidating = capped t.invalidating;
  invalidated = capped t.invalidated;
  downgrades = capped t.downgrades;
  lost = capped t.lost;
  lowered = capped t.lowered;
  cycles = capped t.cycles;
  missing = capped t.missing;
  waited = capped_wide t.waited;
}
