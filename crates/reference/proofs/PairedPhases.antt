-- The accesses of a bound phase are paired right: a turn at a time.
use Rattle.std.proofs.Common.{◌≡◌, ℕ, ◌+◌, Bool, true, false, cond, List, [], ◌∷◌, ◌++◌, map, Option, Some, None, Ok, Err, refl, sym, ◌∙◌, ap, subst}
use Rattle.std.specs.Prelude.{slice_get}
use Rattle.std.specs.Option.{option_and_then, option_map}
use Rattle.std.proofs.lemmas.List.{append-nil, append_assoc}
use Rattle.std.proofs.lemmas.List.Elements.{All-head, All-set, All-tail}
use Rattle.std.proofs.lemmas.Option.{get_or_from_slice_get, slice_get_within}
use Rattle.zs_num.specs.PairedRight.{AreAllPairedRight, IsPairedRight, pairing_of, pairings_after, pairings_after_all}
use Rattle.zs_num.specs.declared.entry.Entry.{Entry}
use Rattle.zs_num.specs.declared.pairing.Pairing.{Pairing}
use Rattle.zs_num.specs.declared.request.Request.{Request}
use Rattle.elf_load.specs.MemoryImage.{MemoryImage}
use Rattle.rv_core.specs.Sound.{IsSoundCore}
use Rattle.shard.specs.Served.{ShardState}
use Rattle.shard.specs.StandsFor.{accesses_of}
use Rattle.reference.specs.History.{IsHistory, after_history, begun_over_shards}
use Rattle.reference.specs.HistoryLaws.{HistoriesArePhases}
use Rattle.reference.specs.MachineOfShards.{begun_over_machine, pairings_of}
use Rattle.reference.specs.MachineWorld as machine
use Rattle.reference.specs.MachineWorld.{MachineWorld}
use Rattle.reference.specs.PairedPhases.{ArePaired, AreSound}
use Rattle.reference.specs.ReferenceMachine.{BoundState, access_served, and_then, are_done, at_end, bound_from, bound_phase, legal_at, turn_at}
use Rattle.reference.specs.ShardWorld.{shards_serve}
use Rattle.reference.specs.TimedCore.{TimedCore, asks, core_after_access, ran_to}
use Rattle.reference.proofs.CoreKept.{CoreLaws, ran_stays_sound}
use Rattle.reference.proofs.Pairings.{turn_pairings, turn_right, turn_sound}

-- ---- any world whose entries say which core asked for what

module _ {World : Type 0} (serve : World → (core start : ℕ) → Request → Entry × World) where
  -- the entry of an access is of its core and of what it asked for
  pub record RecordsAccesses : Type 0 where
    pub core : (w : World) (number start : ℕ) (request : Request) → (serve w number start request).0.core ≡ number
    pub request : (w : World) (number start : ℕ) (request : Request) → (serve w number start request).0.request ≡ request

module _ (laws : CoreLaws) {World : Type 0} (serve : World → (core start : ℕ) → Request → Entry × World) (records : RecordsAccesses serve) (time : Entry → ℕ) (image : MemoryImage) (end : ℕ) where
  -- what a bound phase from this state on gives
  record GoesOnPaired (s t : BoundState World) : Type 0 where
    pub more : List Entry
    pub entries : t.entries ≡ s.entries ++ more
    pub paired : ArePaired s.cores t.cores more

  -- ---- the end

  same_pairings : (cores : List TimedCore) → AreSound cores → pairings_of (map (ran_to image end) cores) ≡ pairings_of cores
  same_pairings [] sound = refl
  same_pairings (c ∷ cores) sound =
      let Sound : TimedCore → Type 0 = λ x. IsSoundCore x.core in
      let one : (ran_to image end c).core.pairing ≡ c.core.pairing = (ran_stays_sound laws image end c (All-head Sound c cores sound)).pairing in
      rw (one, same_pairings cores (All-tail Sound c cores sound)) refl

  at_the_end : (s : BoundState World) → AreSound s.cores → GoesOnPaired s (at_end image end s)
  at_the_end s sound = record {
    more = [];
    entries = sym (append-nil s.entries);
    paired = record { right = tt; left = same_pairings s.cores sound };
  }

  ended : (s t : BoundState World) (place : ℕ) (done : Bool) → AreSound s.cores → cond done (Ok (at_end image end s)) (Err place) ≡ Ok t → GoesOnPaired s t
  ended s t place true sound is =
      let same : at_end image end s ≡ t = cc in
      subst (GoesOnPaired s) same (at_the_end s sound)
  ended s t place false sound is = cc

  -- ---- a turn

  module _ (s : BoundState World) (sound : AreSound s.cores) (number : ℕ) (c : TimedCore) (here : slice_get s.cores number ≡ Some c) (request : Request) (asked : asks (ran_to image end c) ≡ Some request) where
    -- the entry
    abbrev e : Entry
    e = (serve s.world number (ran_to image end c).clock request).0

    -- the state after the turn
    abbrev then : BoundState World
    then = access_served serve time image end s number (ran_to image end c) (serve s.world number (ran_to image end c).clock request)

    is_sound : IsSoundCore c.core
    is_sound =
        subst (λ (x : TimedCore). IsSoundCore x.core) (get_or_from_slice_get s.cores number c c here) (sound number c (slice_get_within s.cores number c here))

    then_sound : AreSound then.cores
    then_sound =
        All-set (λ (x : TimedCore). IsSoundCore x.core) s.cores number (core_after_access time e (ran_to image end c))
        (turn_sound laws image end s.cores number c here is_sound request asked time e) sound

    right : IsPairedRight (pairing_of (pairings_of s.cores) e.core) e.request
    right =
        rw (records.core s.world number (ran_to image end c).clock request, records.request s.world number (ran_to image end c).clock request)
        (turn_right laws image end s.cores number c here is_sound request asked)

    moved_on : pairings_after (pairings_of s.cores) e.core e.request ≡ pairings_of then.cores
    moved_on =
        subst (λ (n : ℕ). pairings_after (pairings_of s.cores) n e.request ≡ pairings_of then.cores) (sym (records.core s.world number (ran_to image end c).clock request))
        (subst (λ (r : Request). pairings_after (pairings_of s.cores) number r ≡ pairings_of then.cores) (sym (records.request s.world number (ran_to image end c).clock request))
        (turn_pairings laws image end s.cores number c here is_sound request asked time e))

    -- and what follows
    one_more : (t : BoundState World) → GoesOnPaired then t → GoesOnPaired s t
    one_more t g = record {
      more = e ∷ g.more;
      entries = g.entries ∙ append_assoc s.entries (e ∷ []) g.more;
      paired = record {
        right = (right, subst (λ (ps : List (Option Pairing)). AreAllPairedRight ps (accesses_of g.more)) (sym moved_on) g.paired.right);
        left = g.paired.left ∙ ap (λ (ps : List (Option Pairing)). pairings_after_all ps (accesses_of g.more)) (sym moved_on);
      };
    }

  -- ---- all turns

  -- what follows from every state with sound cores
  abbrev Follow : List ℕ → Type 0
  Follow numbers = (place : ℕ) (s t : BoundState World) → AreSound s.cores → bound_from serve time image end place numbers s ≡ Ok t → GoesOnPaired s t

  by_asked : (numbers : List ℕ) → Follow numbers → (place : ℕ) (s t : BoundState World) (sound : AreSound s.cores) (number : ℕ) (c : TimedCore) → slice_get s.cores number ≡ Some c
      → (request : Option Request) → asks (ran_to image end c) ≡ request
      → and_then (bound_from serve time image end (place + 1) numbers) (legal_at place (option_map (λ r. access_served serve time image end s number (ran_to image end c) (serve s.world number (ran_to image end c).clock r)) request)) ≡ Ok t
      → GoesOnPaired s t
  by_asked numbers follow place s t sound number c here None asked phase = cc
  by_asked numbers follow place s t sound number c here (Some request) asked phase =
      one_more s sound number c here request asked t
      (follow (place + 1) (then s sound number c here request asked) t (then_sound s sound number c here request asked) phase)

  by_found : (numbers : List ℕ) → Follow numbers → (place : ℕ) (s t : BoundState World) (sound : AreSound s.cores) (number : ℕ) (found : Option TimedCore) → slice_get s.cores number ≡ found
      → and_then (bound_from serve time image end (place + 1) numbers) (legal_at place (option_and_then (λ c. turn_at serve time image end s number (ran_to image end c)) found)) ≡ Ok t
      → GoesOnPaired s t
  by_found numbers follow place s t sound number None here phase = cc
  by_found numbers follow place s t sound number (Some c) here phase =
      by_asked numbers follow place s t sound number c here (asks (ran_to image end c)) refl phase

  goes_on_paired : (numbers : List ℕ) → Follow numbers
  goes_on_paired [] place s t sound phase = ended s t place (are_done image end s) sound phase
  goes_on_paired (number ∷ numbers) place s t sound phase =
      by_found numbers (goes_on_paired numbers) place s t sound number (slice_get s.cores number) refl phase

  -- from the first access on
  pub phase_paired : (numbers : List ℕ) (s t : BoundState World) → AreSound s.cores → s.entries ≡ [] → bound_phase serve time image end numbers s ≡ Ok t → ArePaired s.cores t.cores t.entries
  phase_paired numbers s t sound none phase =
      let g = goes_on_paired numbers 0 s t sound phase in
      let all : t.entries ≡ g.more = g.entries ∙ ap (λ (es : List Entry). es ++ g.more) none in
      subst (ArePaired s.cores t.cores) (sym all) g.paired

-- ---- the machine of one thread, and shards

machine_records : RecordsAccesses machine.serve
unfolding machine.serve
machine_records = record { core = λ w number start request. refl; request = λ w number start request. refl }

shards_record : RecordsAccesses shards_serve
unfolding shards_serve
shards_record = record { core = λ w number start request. refl; request = λ w number start request. refl }

module _ (laws : CoreLaws) (time : Entry → ℕ) (image : MemoryImage) (end : ℕ) where
  pub phases_are_paired : (cores : List TimedCore) (m : MachineWorld) (numbers : List ℕ) (s : BoundState MachineWorld) → AreSound cores
      → bound_phase machine.serve time image end numbers (begun_over_machine cores m) ≡ Ok s → ArePaired cores s.cores s.entries
  phases_are_paired cores m numbers s sound phase =
      phase_paired laws machine.serve machine_records time image end numbers (begun_over_machine cores m) s sound refl phase

  pub histories_are_paired : HistoriesArePhases time image end → (cores : List TimedCore) (shards : List ShardState) (entries : List Entry) → AreSound cores
      → IsHistory time image end cores shards entries → ArePaired cores (after_history time image end cores shards entries).cores entries
  histories_are_paired phases cores shards entries sound history =
      phase_paired laws shards_serve shards_record time image end (map (λ (e : Entry). e.core) entries) (begun_over_shards cores shards)
      (after_history time image end cores shards entries) sound refl (phases cores shards entries history)
