-- Every bound phase over shards has a history.
use Rattle.std.proofs.Common.{◌≡◌, ℕ, zero, suc, ◌+◌, ◌<◌, max, Bool, true, false, List, [], ◌∷◌, map, length, Option, Some, None, Ok, Err, refl, sym, ◌∙◌, ap, arith}
use Rattle.std.specs.Prelude.{slice_get, slice_index, is_none}
use Rattle.std.specs.List.{list_all}
use Rattle.std.proofs.lemmas.List.Elements.{All-nil}
use Rattle.std.proofs.lemmas.Option.{get_or_from_slice_get, same_Some, slice_get_within}
use Rattle.zs_num.specs.declared.entry.Entry.{Entry}
use Rattle.zs_num.specs.declared.request.Request.{Request}
use Rattle.elf_load.specs.MemoryImage.{MemoryImage}
use Rattle.shard.specs.Served.{ShardState, met_by, no_shard, shard_for, shard_reply}
use Rattle.reference.specs.ReferenceMachine.{BoundState, are_done, at_end, bound_from, turn}
use Rattle.reference.specs.ShardWorld.{ShardWorld, recorded_by_shard, shards_serve}
use Rattle.reference.specs.TimedCore.{TimedCore, asks, ran_to}
use Rattle.reference.proofs.Histories.{Follows, IsReady, is_there, left, next_left, next_ready, none_left, whole_follows}
use Rattle.reference.proofs.HistoryTurn.{IsNext, next, takes_next}
use Rattle.zs_num.specs.Request.{bank_of}

module _ (time : Entry → ℕ) (image : MemoryImage) (end : ℕ) where
  -- what the turn of the core of this number was
  record Took (s t : BoundState ShardWorld) (number : ℕ) : Type 0 where
    pub entry : Entry
    pub core : TimedCore
    pub shard : ShardState
    pub own : number ≡ entry.core
    pub is : IsNext time image end s entry core shard
    pub to : t ≡ next time image end s entry core shard

  module _ (s : BoundState ShardWorld) (ready : IsReady s) where
    -- the entry that the shard gives
    abbrev given : (number : ℕ) → TimedCore → Request → Entry
    given number c request = recorded_by_shard (shard_for s.world.shards request) (slice_index s.world.stamps number) number (ran_to image end c).clock request

    given_next : (number : ℕ) (c : TimedCore) (request : Request) (shard : ShardState) → slice_get s.cores number ≡ Some c → asks (ran_to image end c) ≡ Some request
        → slice_get s.world.shards (bank_of (length s.world.shards) request) ≡ Some shard → IsNext time image end s (given number c request) c shard
    unfolding shard_reply met_by
    given_next number c request shard here asked there =
        let found : shard_for s.world.shards request ≡ shard = get_or_from_slice_get s.world.shards (bank_of (length s.world.shards) request) shard no_shard there in
        record {
          core = here;
          bank = there;
          asked = asked;
          start = refl;
          reply = ap (λ (x : ShardState). shard_reply x (given number c request)) found;
          outcome = ap (λ (x : ShardState). met_by x (given number c request)) found;
          stamp = ap (λ (x : ShardState). max x.last (slice_index s.world.stamps number) + 1) found;
        }

    took_asked : (number : ℕ) (c : TimedCore) (request : Request) (t : BoundState ShardWorld) → slice_get s.cores number ≡ Some c → asks (ran_to image end c) ≡ Some request
        → turn shards_serve time image end s number ≡ Some t → Took s t number
    took_asked number c request t here asked turned =
        let shard = is_there s.world.shards (bank_of (length s.world.shards) request) (omega (arith, ready.some)) in
        let e : Entry = given number c request in
        let n : IsNext time image end s e c shard.0 = given_next number c request shard.0 here asked shard.1 in
        record {
          entry = e;
          core = c;
          shard = shard.0;
          own = refl;
          is = n;
          to = same_Some t (next time image end s e c shard.0) (sym turned ∙ takes_next time image end s e c shard.0 n);
        }

    took_by : (number : ℕ) (c : TimedCore) (request : Option Request) (t : BoundState ShardWorld) → slice_get s.cores number ≡ Some c → asks (ran_to image end c) ≡ request
        → turn shards_serve time image end s number ≡ Some t → Took s t number
    took_by number c None t here asked turned =
        let none : turn shards_serve time image end s number ≡ None = rw (here, asked) refl in cc
    took_by number c (Some request) t here asked turned = took_asked number c request t here asked turned

    took_at : (number : ℕ) (found : Option TimedCore) (t : BoundState ShardWorld) → slice_get s.cores number ≡ found
        → turn shards_serve time image end s number ≡ Some t → Took s t number
    took_at number None t here turned =
        let none : turn shards_serve time image end s number ≡ None = rw here refl in cc
    took_at number (Some c) t here turned = took_by number c (asks (ran_to image end c)) t here refl turned

  -- ---- all turns

  -- by what the first core asks, and by which core
  done_by : (x : TimedCore) (cores : List TimedCore) (request : Option Request) → asks (ran_to image end x) ≡ request
      → list_all (λ c. is_none (asks (ran_to image end c))) (x ∷ cores) ≡ true
      → (asks (ran_to image end x) ≡ None) × (list_all (λ c. is_none (asks (ran_to image end c))) cores ≡ true)
  done_by x cores None is done = (is, (rw is at done))
  done_by x cores (Some request) is done = let not : false ≡ true = (rw is at done) in cc

  done_all : (cores : List TimedCore) → list_all (λ c. is_none (asks (ran_to image end c))) cores ≡ true
      → (number : ℕ) (c : TimedCore) → slice_get cores number ≡ Some c → asks (ran_to image end c) ≡ None
  done_all [] done number c here = cc
  done_all (x ∷ cores) done zero c here =
      let same : x ≡ c = same_Some x c here in
      ap (λ (y : TimedCore). asks (ran_to image end y)) (sym same) ∙ (done_by x cores (asks (ran_to image end x)) refl done).0
  done_all (x ∷ cores) done (suc number) c here = done_all cores (done_by x cores (asks (ran_to image end x)) refl done).1 number c here

  -- a history of a bound phase from this state on
  pub record HasHistory (s t : BoundState ShardWorld) (numbers : List ℕ) : Type 0 where
    pub entries : List Entry
    pub follows : Follows time image end s entries
    pub numbers_are : numbers ≡ map (λ e. e.core) entries
    pub leaves : t ≡ left time image end s entries

  ended : (s t : BoundState ShardWorld) (place : ℕ) (done : Bool) → are_done image end s ≡ done → bound_from shards_serve time image end place [] s ≡ Ok t → HasHistory s t []
  ended s t place true done phase =
      let to : at_end image end s ≡ t = let whole : Ok (at_end image end s) ≡ Ok t = (rw done at phase) in cc in
      record {
        entries = [];
        follows = record { known = All-nil (λ (e : Entry). e.core < length s.cores); turns = done_all s.cores done; served = λ number shard here. tt; stamped = tt };
        numbers_are = refl;
        leaves = sym to ∙ sym (none_left time image end s);
      }
  ended s t place false done phase =
      let not : Err place ≡ Ok t = (rw done at phase) in cc

  -- a turn, and a history of what follows
  one_more : (s then t : BoundState ShardWorld) (number : ℕ) (numbers : List ℕ) → IsReady s → (k : Took s then number) → HasHistory (next time image end s k.entry k.core k.shard) t numbers
      → HasHistory s t (number ∷ numbers)
  one_more s then t number numbers ready k h =
      let within : k.entry.core < length s.cores = slice_get_within s.cores k.entry.core k.core k.is.core in
      record {
        entries = k.entry ∷ h.entries;
        follows = whole_follows time image end s ready k.entry k.core k.shard h.entries k.is.core k.is.bank k.is within h.follows;
        numbers_are = ap (λ (n : ℕ). n ∷ numbers) k.own ∙ ap (λ (ns : List ℕ). k.entry.core ∷ ns) h.numbers_are;
        leaves = h.leaves ∙ sym (next_left time image end s ready k.entry k.core k.shard h.entries within k.is.core k.is.bank);
      }

  -- by whether the core had a turn
  turn_took : (s t : BoundState ShardWorld) (number : ℕ) (numbers : List ℕ) (place : ℕ) → IsReady s → (turned : Option (BoundState ShardWorld)) → turn shards_serve time image end s number ≡ turned
      → bound_from shards_serve time image end place (number ∷ numbers) s ≡ Ok t
      → (then : BoundState ShardWorld) × Took s then number × (bound_from shards_serve time image end (place + 1) numbers then ≡ Ok t)
  turn_took s t number numbers place ready None is phase =
      let not : Err place ≡ Ok t = (rw is at phase) in cc
  turn_took s t number numbers place ready (Some then) is phase =
      (then, took_at s ready number (slice_get s.cores number) then refl is, (rw is at phase))

  pub phase_has_history : (numbers : List ℕ) (s t : BoundState ShardWorld) (place : ℕ) → IsReady s → bound_from shards_serve time image end place numbers s ≡ Ok t → HasHistory s t numbers
  phase_has_history [] s t place ready phase = ended s t place (are_done image end s) refl phase
  phase_has_history (number ∷ numbers) s t place ready phase =
      let k = turn_took s t number numbers place ready (turn shards_serve time image end s number) refl phase in
      let first = next time image end s k.1.entry k.1.core k.1.shard in
      let rest : bound_from shards_serve time image end (place + 1) numbers first ≡ Ok t = ap (bound_from shards_serve time image end (place + 1) numbers) (sym k.1.to) ∙ k.2 in
      one_more s k.0 t number numbers ready k.1 (phase_has_history numbers first t (place + 1) (next_ready time image end s ready k.1.entry k.1.core k.1.shard) rest)
