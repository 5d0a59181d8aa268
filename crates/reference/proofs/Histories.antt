-- A history is a bound phase, and a bound phase has a history: a turn at a time.
use Rattle.std.proofs.Common.{◌≡◌, ℕ, zero, suc, ◌+◌, ◌<◌, max, true, List, [], ◌∷◌, ◌++◌, map, length, All, Some, None, Ok, refl, sym, ◌∙◌, ap, subst, arith}
use Rattle.std.specs.Prelude.{slice_get, slice_index, is_none}
use Rattle.std.specs.List.{list_all}
use Rattle.std.proofs.lemmas.List.{append-nil, append_assoc, length-set, map-set}
use Rattle.std.proofs.lemmas.List.Elements.{All-cons, All-head, All-tail}
use Rattle.zs_num.specs.declared.entry.Entry.{Entry}
use Rattle.elf_load.specs.MemoryImage.{MemoryImage}
use Rattle.shard.specs.Served.{AreServedBy, ShardState, shard_after}
use Rattle.access_log.specs.History.{AreStamped, bank_of_entry, core_of_entry, each_after, stamped_by}
use Rattle.access_log.specs.RecordedOrder.{Stamps}
use Rattle.reference.specs.History.{AreTurnsOf, after_turn}
use Rattle.reference.specs.ReferenceMachine.{BoundState, at_end, bound_from}
use Rattle.reference.specs.ShardWorld.{ShardWorld, shards_serve}
use Rattle.reference.specs.TimedCore.{TimedCore, asks, ran_to}
use Rattle.reference.proofs.HistoryTurn.{IsNext, last_at, next, stamps_of, takes_next}
use Rattle.reference.proofs.Numbered.{EachHolds, after_first, after_none, all_hold, first_holds, rest_holds}

pub is_there : {A : Type 0} (xs : List A) (i : ℕ) → i < length xs → (x : A) × (slice_get xs i ≡ Some x)
is_there [] i within = absurd (omega (arith, within))
is_there (x ∷ xs) zero within = (x, refl)
is_there (x ∷ xs) (suc i) within = is_there xs i (omega (arith, within))

-- there are shards, and each core has a stamp
pub record IsReady (s : BoundState ShardWorld) : Type 0 where
  pub some : 0 < length s.world.shards
  pub stamps : length s.world.stamps ≡ length s.cores

pub after_last : (shard : ShardState) (e : Entry) → (shard_after shard e).last ≡ e.stamp
unfolding shard_after
after_last shard e = refl

module _ (time : Entry → ℕ) (image : MemoryImage) (end : ℕ) where
  -- what a history is from a state of the bound phase on
  pub record Follows (s : BoundState ShardWorld) (entries : List Entry) : Type 0 where
    pub known : All (λ e. e.core < length s.cores) entries
    pub turns : EachHolds (AreTurnsOf time image end) core_of_entry s.cores entries
    pub served : EachHolds AreServedBy (bank_of_entry (length s.world.shards)) s.world.shards entries
    pub stamped : AreStamped (length s.world.shards) (stamps_of s.world) entries

  -- and what it leaves
  abbrev pub left : BoundState ShardWorld → List Entry → BoundState ShardWorld
  left s entries = record {
    cores = map (ran_to image end) (each_after (after_turn time image end) core_of_entry entries s.cores);
    world = record {
      shards = each_after shard_after (bank_of_entry (length s.world.shards)) entries s.world.shards;
      stamps = each_after (λ stamp e. e.stamp) core_of_entry entries s.world.stamps;
    };
    entries = s.entries ++ entries;
  }

  -- ---- a turn

  module _ (s : BoundState ShardWorld) (ready : IsReady s) (e : Entry) (c : TimedCore) (shard : ShardState) where
    abbrev then : BoundState ShardWorld
    then = next time image end s e c shard

    same_cores : length then.cores ≡ length s.cores
    same_cores = length-set s.cores e.core (after_turn time image end c e)

    same_shards : length then.world.shards ≡ length s.world.shards
    same_shards = length-set s.world.shards (bank_of_entry (length s.world.shards) e) (shard_after shard e)

    pub next_ready : IsReady then
    next_ready = record {
      some = omega (arith, ready.some, same_shards);
      stamps = length-set s.world.stamps e.core e.stamp ∙ ready.stamps ∙ sym same_cores;
    }

    next_stamps : stamps_of then.world ≡ stamped_by (length s.world.shards) (stamps_of s.world) e
    next_stamps =
        rw (map-set (λ (x : ShardState). x.last) s.world.shards (bank_of_entry (length s.world.shards) e) (shard_after shard e), after_last shard e) refl

    pub next_left : (entries : List Entry) → e.core < length s.cores → slice_get s.cores e.core ≡ Some c → slice_get s.world.shards (bank_of_entry (length s.world.shards) e) ≡ Some shard
        → left s (e ∷ entries) ≡ left then entries
    next_left entries within core bank =
        let stamp = is_there s.world.stamps e.core (omega (arith, within, ready.stamps)) in
        rw (
          after_first (after_turn time image end) core_of_entry e entries s.cores c core,
          after_first shard_after (bank_of_entry (length s.world.shards)) e entries s.world.shards shard bank,
          after_first (λ stamp e. e.stamp) core_of_entry e entries s.world.stamps stamp.0 stamp.1,
          same_shards,
          append_assoc s.entries (e ∷ []) entries,
        ) refl

    -- forwards
    module _ (entries : List Entry) (core : slice_get s.cores e.core ≡ Some c) (bank : slice_get s.world.shards (bank_of_entry (length s.world.shards) e) ≡ Some shard) where
      pub first_is_next : Follows s (e ∷ entries) → IsNext time image end s e c shard
      first_is_next f =
          let own = first_holds (AreTurnsOf time image end) (after_turn time image end) core_of_entry s.cores e entries c core f.turns in
          let given = first_holds AreServedBy shard_after (bank_of_entry (length s.world.shards)) s.world.shards e entries shard bank f.served in
          record {
            core = core;
            bank = bank;
            asked = own.0;
            start = own.1;
            reply = given.0;
            outcome = given.1;
            stamp = f.stamped.0 ∙ ap (λ (n : ℕ). max n (slice_index s.world.stamps e.core) + 1) (last_at s.world.shards (bank_of_entry (length s.world.shards) e) shard bank);
          }

      pub rest_follows : Follows s (e ∷ entries) → Follows then entries
      rest_follows f = record {
        known = subst (λ (n : ℕ). All (λ (x : Entry). x.core < n) entries) (sym same_cores) (All-tail (λ (x : Entry). x.core < length s.cores) e entries f.known);
        turns = rest_holds (AreTurnsOf time image end) (after_turn time image end) core_of_entry s.cores e entries c core (λ more own. own.2) f.turns;
        served = subst (λ (n : ℕ). EachHolds AreServedBy (bank_of_entry n) then.world.shards entries) (sym same_shards)
            (rest_holds AreServedBy shard_after (bank_of_entry (length s.world.shards)) s.world.shards e entries shard bank (λ more given. given.2) f.served);
        stamped = subst (λ (n : ℕ). AreStamped n (stamps_of then.world) entries) (sym same_shards)
            (subst (λ (stamps : Stamps). AreStamped (length s.world.shards) stamps entries) (sym next_stamps) f.stamped.1);
      }

      -- and back
      pub whole_follows : IsNext time image end s e c shard → e.core < length s.cores → Follows then entries → Follows s (e ∷ entries)
      whole_follows n within f = record {
        known = All-cons (λ (x : Entry). x.core < length s.cores) e entries within (subst (λ (k : ℕ). All (λ (x : Entry). x.core < k) entries) same_cores f.known);
        turns = all_hold (AreTurnsOf time image end) (after_turn time image end) core_of_entry s.cores e entries c core (λ more own. (n.asked, n.start, own)) f.turns;
        served = all_hold AreServedBy shard_after (bank_of_entry (length s.world.shards)) s.world.shards e entries shard bank (λ more given. (n.reply, n.outcome, given))
            (subst (λ (k : ℕ). EachHolds AreServedBy (bank_of_entry k) then.world.shards entries) same_shards f.served);
        stamped = (
          n.stamp ∙ sym (ap (λ (k : ℕ). max k (slice_index s.world.stamps e.core) + 1) (last_at s.world.shards (bank_of_entry (length s.world.shards) e) shard bank)),
          subst (λ (stamps : Stamps). AreStamped (length s.world.shards) stamps entries) next_stamps
              (subst (λ (k : ℕ). AreStamped k (stamps_of then.world) entries) same_shards f.stamped),
        );
      }

  -- ---- all turns

  all_done : (cores : List TimedCore) → ((number : ℕ) (c : TimedCore) → slice_get cores number ≡ Some c → asks (ran_to image end c) ≡ None)
      → list_all (λ c. is_none (asks (ran_to image end c))) cores ≡ true
  all_done [] none = refl
  all_done (c ∷ cores) none = rw (none 0 c refl, all_done cores (λ number x here. none (suc number) x here)) refl

  pub none_left : (s : BoundState ShardWorld) → left s [] ≡ at_end image end s
  none_left s =
      rw (
        after_none (after_turn time image end) core_of_entry s.cores,
        after_none shard_after (bank_of_entry (length s.world.shards)) s.world.shards,
        after_none (λ (stamp : ℕ) (e : Entry). e.stamp) core_of_entry s.world.stamps,
        append-nil s.entries,
      ) refl

  pub history_is_phase : (entries : List Entry) (s : BoundState ShardWorld) (place : ℕ) → IsReady s → Follows s entries
      → bound_from shards_serve time image end place (map (λ e. e.core) entries) s ≡ Ok (left s entries)
  history_is_phase [] s place ready f =
      rw (all_done s.cores f.turns, none_left s) refl
  history_is_phase (e ∷ entries) s place ready f =
      let within : e.core < length s.cores = All-head (λ (x : Entry). x.core < length s.cores) e entries f.known in
      let c = is_there s.cores e.core within in
      let shard = is_there s.world.shards (bank_of_entry (length s.world.shards) e) (omega (arith, ready.some)) in
      let n = first_is_next s ready e c.0 shard.0 entries c.1 shard.1 f in
      let turned = takes_next time image end s e c.0 shard.0 n in
      let rest = history_is_phase entries (next time image end s e c.0 shard.0) (place + 1) (next_ready s ready e c.0 shard.0) (rest_follows s ready e c.0 shard.0 entries c.1 shard.1 f) in
      rw turned (rest ∙ ap (λ (t : BoundState ShardWorld). Ok t) (sym (next_left s ready e c.0 shard.0 entries within c.1 shard.1)))
