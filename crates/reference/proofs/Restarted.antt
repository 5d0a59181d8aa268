-- Shards whose last stamps are 0 stand for what they stood for.
use Rattle.std.proofs.Common.{◌≡◌, ℕ, ◌+◌, ◌*◌, ◌<◌, ◌≤◌, List, [], ◌∷◌, map, length, Option, Some, None, refl, sym, ◌∙◌, ap, subst}
use Rattle.std.specs.Prelude.{◌-◌, replicate, slice_get, slice_index_or}
use Rattle.std.specs.Option.{option_map}
use Rattle.std.proofs.lemmas.List.{length-map}
use Rattle.std.proofs.lemmas.Option.{same_Some, slice_get-map}
use Rattle.shard.specs.Coherence.{Caches}
use Rattle.zs_num.specs.Request.{line_at, bank_of_line}
use Rattle.cache_set.specs.Lines.{set_of}
use Rattle.shard.specs.Marks.{MarkedMemory}
use Rattle.shard.specs.Served.{ShardState, place_of}
use Rattle.shard.specs.StandsFor.{AreShards, StandFor}
use Rattle.reference.specs.ShardWorld.{restarted}

some_before : (o : Option ShardState) (s : ShardState) → option_map restarted o ≡ Some s → (t : ShardState) × (o ≡ Some t) × (s ≡ restarted t)
some_before None s is = cc
some_before (Some t) s is = (t, refl, sym (same_Some (restarted t) s is))

-- the shard as it was
before : (shards : List ShardState) (i : ℕ) (s : ShardState) → slice_get (map restarted shards) i ≡ Some s → (t : ShardState) × (slice_get shards i ≡ Some t) × (s ≡ restarted t)
before shards i s here = some_before (slice_get shards i) s (sym (slice_get-map restarted shards i) ∙ here)

same_marks : (shards : List ShardState) → map (λ s. s.marks) (map restarted shards) ≡ map (λ s. s.marks) shards
same_marks [] = refl
same_marks (s ∷ shards) = ap (λ (ms : List (List _)). s.marks ∷ ms) (same_marks shards)

pub no_last : (shards : List ShardState) → map (λ s. s.last) (map restarted shards) ≡ replicate (length shards) 0
no_last [] = refl
no_last (s ∷ shards) = ap (λ (ns : List ℕ). 0 ∷ ns) (no_last shards)

module _ (shards : List ShardState) where
  abbrev again : List ShardState
  again = map restarted shards

  same_many : length again ≡ length shards
  same_many = length-map shards restarted

  -- what holds of each shard, whatever its last stamp, and of how many there are
  each_again : (P : (many i : ℕ) → ShardState → Type 0) → ((many i : ℕ) (s : ShardState) → P many i s → P many i (restarted s))
      → ((i : ℕ) (s : ShardState) → slice_get shards i ≡ Some s → P (length shards) i s)
      → (i : ℕ) (s : ShardState) → slice_get again i ≡ Some s → P (length again) i s
  each_again P kept each i s here =
      let t = before shards i s here in
      subst (λ (n : ℕ). P n i s) (sym same_many) (subst (P (length shards) i) (sym t.2) (kept (length shards) i t.0 (each i t.0 t.1)))

  module _ (memory : MarkedMemory) (c : Caches) (r : StandFor shards memory c) where
    are_again : AreShards again memory.base (length memory.bytes)
    are_again = record {
      number = each_again (λ many i s. s.number ≡ i) (λ many i s is. is) r.are.number;
      count = each_again (λ many i s. s.caches.shards ≡ many) (λ many i s is. is) r.are.count;
      base = each_again (λ many i s. s.base ≡ memory.base) (λ many i s is. is) r.are.base;
      size = each_again (λ many i s. s.size ≡ length memory.bytes) (λ many i s is. is) r.are.size;
    }

    -- what a shard has of its lines
    abbrev Bytes : (many i : ℕ) → ShardState → Type 0
    Bytes many i s = (addr : ℕ) → memory.base ≤ addr → addr < memory.base + length memory.bytes → bank_of_line many (line_at addr) ≡ i
        → slice_get memory.bytes (addr - memory.base) ≡ slice_get s.bytes (place_of many memory.base addr)

    abbrev L1Sets : (many i : ℕ) → ShardState → Type 0
    L1Sets many i s = (core line : ℕ) → bank_of_line many line ≡ i → set_of 1 line (slice_index_or c.l1 core []) ≡ set_of many line (slice_index_or s.caches.l1 core [])

    abbrev L1iSets : (many i : ℕ) → ShardState → Type 0
    L1iSets many i s = (core line : ℕ) → bank_of_line many line ≡ i → set_of 1 line (slice_index_or c.l1i core []) ≡ set_of many line (slice_index_or s.caches.l1i core [])

    abbrev L2Sets : (many i : ℕ) → ShardState → Type 0
    L2Sets many i s = (line : ℕ) → bank_of_line many line ≡ i → set_of 1 line c.l2 ≡ set_of many line s.caches.l2

    bytes_each : (i : ℕ) (s : ShardState) → slice_get shards i ≡ Some s → Bytes (length shards) i s
    bytes_each i s here addr low high at = r.bytes addr s low high (ap (slice_get shards) at ∙ here)

    l1_each : (i : ℕ) (s : ShardState) → slice_get shards i ≡ Some s → L1Sets (length shards) i s
    l1_each i s here core line at = r.l1 core line s (ap (slice_get shards) at ∙ here)

    l1i_each : (i : ℕ) (s : ShardState) → slice_get shards i ≡ Some s → L1iSets (length shards) i s
    l1i_each i s here core line at = r.l1i core line s (ap (slice_get shards) at ∙ here)

    l2_each : (i : ℕ) (s : ShardState) → slice_get shards i ≡ Some s → L2Sets (length shards) i s
    l2_each i s here line at = r.l2 line s (ap (slice_get shards) at ∙ here)

    pub stand_again : StandFor again memory c
    stand_again = record {
      are = are_again;
      bytes = λ addr s low high keeps. each_again Bytes (λ many i s is. is) bytes_each (bank_of_line (length again) (line_at addr)) s keeps addr low high refl;
      marks = r.marks ∙ sym (same_marks shards);
      whole = r.whole;
      l1 = λ core line s keeps. each_again L1Sets (λ many i s is. is) l1_each (bank_of_line (length again) line) s keeps core line refl;
      l1i = λ core line s keeps. each_again L1iSets (λ many i s is. is) l1i_each (bank_of_line (length again) line) s keeps core line refl;
      l2 = λ line s keeps. each_again L2Sets (λ many i s is. is) l2_each (bank_of_line (length again) line) s keeps line refl;
      l1_sets = λ i core s here. each_again (λ many i s. length (slice_index_or c.l1 core []) ≡ many * length (slice_index_or s.caches.l1 core [])) (λ many i s is. is)
          (λ i s here. r.l1_sets i core s here) i s here;
      l1i_sets = λ i core s here. each_again (λ many i s. length (slice_index_or c.l1i core []) ≡ many * length (slice_index_or s.caches.l1i core [])) (λ many i s is. is)
          (λ i s here. r.l1i_sets i core s here) i s here;
      l2_sets = each_again (λ many i s. length c.l2 ≡ many * length s.caches.l2) (λ many i s is. is) r.l2_sets;
      cores = each_again (λ many i s. (length s.caches.l1 ≡ length c.l1) × (length s.marks ≡ length c.l1)) (λ many i s is. is) r.cores;
      fetchers = each_again (λ many i s. length s.caches.l1i ≡ length c.l1i) (λ many i s is. is) r.fetchers;
      l1_ways = each_again (λ many i s. s.caches.l1_ways ≡ c.l1_ways) (λ many i s is. is) r.l1_ways;
      l1i_ways = each_again (λ many i s. s.caches.l1i_ways ≡ c.l1i_ways) (λ many i s is. is) r.l1i_ways;
      l2_ways = each_again (λ many i s. s.caches.l2_ways ≡ c.l2_ways) (λ many i s is. is) r.l2_ways;
      coherent = r.coherent;
      room = r.room;
    }
