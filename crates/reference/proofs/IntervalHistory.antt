-- The history of an interval, from its first access on.
use Rattle.std.proofs.Common.{◌≡◌, ℕ, ◌<◌, List, [], ◌∷◌, map, length, All, Ok, refl, sym, ◌∙◌, ap, subst}
use Rattle.std.specs.Prelude.{replicate}
use Rattle.std.proofs.lemmas.List.{length-replicate}
use Rattle.std.proofs.lemmas.List.Elements.{All-head, All-tail}
use Rattle.zs_num.specs.declared.entry.Entry.{Entry}
use Rattle.elf_load.specs.MemoryImage.{MemoryImage}
use Rattle.shard.specs.Served.{AreServedBy, ShardState, shard_after}
use Rattle.access_log.specs.History.{AreStamped, bank_of_entry, core_of_entry}
use Rattle.access_log.specs.Laws.{RecordedOrderKeepsTheStamps}
use Rattle.access_log.specs.RecordedOrder.{Stamps, no_stamps, recorded_order}
use Rattle.reference.specs.History.{AreTurnsOf, IsHistory, after_history, after_turn, begun_over_shards}
use Rattle.reference.specs.ReferenceMachine.{BoundState, bound_phase}
use Rattle.reference.specs.ShardWorld.{ShardWorld, shards_serve}
use Rattle.reference.specs.TimedCore.{TimedCore}
use Rattle.reference.proofs.Histories.{Follows, IsReady, history_is_phase}
use Rattle.reference.proofs.HistoryTurn.{stamps_of}
use Rattle.reference.proofs.Numbered.{after_same_entries}
use Rattle.reference.proofs.PhaseHistories.{phase_has_history}

last_stamps : (shards : List ShardState) → All (λ shard. shard.last ≡ 0) shards → map (λ shard. shard.last) shards ≡ replicate (length shards) 0
last_stamps [] all = refl
last_stamps (shard ∷ shards) all =
    rw (All-head (λ (x : ShardState). x.last ≡ 0) shard shards all, last_stamps shards (All-tail (λ (x : ShardState). x.last ≡ 0) shard shards all)) refl

module _ (time : Entry → ℕ) (image : MemoryImage) (end : ℕ) (cores : List TimedCore) (shards : List ShardState) where
  begun_stamps : All (λ shard. shard.last ≡ 0) shards → stamps_of (begun_over_shards cores shards).world ≡ no_stamps (length shards) (length cores)
  begun_stamps begins = ap (λ (banks : List ℕ). let s : Stamps = record { banks = banks; cores = replicate (length cores) 0 } in s) (last_stamps shards begins)

  begun_ready : 0 < length shards → IsReady (begun_over_shards cores shards)
  begun_ready some = record { some = some; stamps = length-replicate (length cores) 0 }

  follows_begun : (entries : List Entry) → IsHistory time image end cores shards entries → Follows time image end (begun_over_shards cores shards) entries
  follows_begun entries h = record {
    known = h.known;
    turns = h.turns;
    served = h.served;
    stamped = subst (λ (s : Stamps). AreStamped (length shards) s entries) (sym (begun_stamps h.begins)) h.stamped;
  }

  begun_follows : (entries : List Entry) → 0 < length shards → All (λ shard. shard.last ≡ 0) shards → Follows time image end (begun_over_shards cores shards) entries → IsHistory time image end cores shards entries
  begun_follows entries some begins f = record {
    some = some;
    begins = begins;
    known = f.known;
    turns = f.turns;
    served = f.served;
    stamped = subst (λ (s : Stamps). AreStamped (length shards) s entries) (begun_stamps begins) f.stamped;
  }

  pub history_phase : (entries : List Entry) → IsHistory time image end cores shards entries
      → bound_phase shards_serve time image end (map (λ e. e.core) entries) (begun_over_shards cores shards) ≡ Ok (after_history time image end cores shards entries)
  history_phase entries h = history_is_phase time image end entries (begun_over_shards cores shards) 0 (begun_ready h.some) (follows_begun entries h)

  pub phase_history : (numbers : List ℕ) (s : BoundState ShardWorld) → 0 < length shards → All (λ shard. shard.last ≡ 0) shards
      → bound_phase shards_serve time image end numbers (begun_over_shards cores shards) ≡ Ok s
      → IsHistory time image end cores shards s.entries × (numbers ≡ map (λ e. e.core) s.entries) × (s ≡ after_history time image end cores shards s.entries)
  phase_history numbers s some begins phase =
      let h = phase_has_history time image end numbers (begun_over_shards cores shards) s 0 (begun_ready some) phase in
      let same : s.entries ≡ h.entries = ap (λ (t : BoundState ShardWorld). t.entries) h.leaves in (
        subst (IsHistory time image end cores shards) (sym same) (begun_follows h.entries some begins h.follows),
        h.numbers_are ∙ ap (λ (es : List Entry). map (λ (e : Entry). e.core) es) (sym same),
        h.leaves ∙ ap (after_history time image end cores shards) (sym same),
      )

  -- ---- in recorded order

  pub recorded_history : RecordedOrderKeepsTheStamps → (entries : List Entry) → IsHistory time image end cores shards entries
      → IsHistory time image end cores shards (recorded_order entries)
      × (after_history time image end cores shards (recorded_order entries) ≡ record (after_history time image end cores shards entries) { entries = recorded_order entries })
  recorded_history law entries h =
      let kept = law (length shards) (length cores) entries h.some h.known h.stamped in
      let same = kept.2 in
      let history : IsHistory time image end cores shards (recorded_order entries) = record {
        some = h.some;
        begins = h.begins;
        known = kept.1;
        turns = λ number c here. subst (AreTurnsOf time image end c) (sym (same.core number)) (h.turns number c here);
        served = λ number shard here. subst (AreServedBy shard) (sym (same.bank number)) (h.served number shard here);
        stamped = kept.0;
      } in (
        history,
        rw (
          after_same_entries (after_turn time image end) core_of_entry entries (recorded_order entries) same.core cores,
          after_same_entries shard_after (bank_of_entry (length shards)) entries (recorded_order entries) same.bank shards,
          after_same_entries (λ (stamp : ℕ) (e : Entry). e.stamp) core_of_entry entries (recorded_order entries) same.core (replicate (length cores) 0),
        ) refl,
      )
