-- What an interval by several workers comes to is a bound phase of the machine of one thread.
use Rattle.std.proofs.Common.{◌≡◌, ℕ, ◌+◌, true, false, Bool, if◌then◌else◌, List, [], ◌∷◌, ◌++◌, map, Option, Some, None, Result, Ok, Err, refl, sym, ◌∙◌, ap, subst}
use Rattle.std.specs.Prelude.{slice_get}
use Rattle.std.specs.Option.{option_and_then, option_map}
use Rattle.std.proofs.lemmas.List.{append-nil, append_assoc}
use Rattle.zs_num.specs.declared.entry.Entry.{Entry}
use Rattle.zs_num.specs.declared.request.Request.{Request}
use Rattle.elf_load.specs.MemoryImage.{MemoryImage}
use Rattle.flat_memory.specs.FlatMemory as flat
use Rattle.shard.specs.Coherence as caches
use Rattle.shard.specs.Accesses.{caches_after_all, outcomes_of}
use Rattle.shard.specs.Laws.{flat_after_all, flat_replies}
use Rattle.shard.specs.Served.{ShardState}
use Rattle.shard.specs.StandsFor.{accesses_of}
use Rattle.bound_core.specs.History.{after_history}
use Rattle.bound_core.specs.HistoryLaws.{HistoriesArePhases}
use Rattle.bound_core.specs.MachineOfShards.{HistoriesAreRunsOfTheMachine, StandForMachine, begun_over_machine}
use Rattle.bound_core.specs.MachineWorld as machine
use Rattle.bound_core.specs.MachineWorld.{MachineWorld}
use Rattle.bound_core.specs.ReferenceMachine.{BoundState, access_served, and_then, are_done, at_end, bound_from, bound_phase, legal_at, turn, turn_at}
use Rattle.bound_core.specs.ShardWorld.{ShardWorld, restarted}
use Rattle.bound_core.specs.TimedCore.{TimedCore, asks, ran_to}
use Rattle.bound_core.specs.NumberedCores.{timed_of}
use Rattle.bound_phase.specs.Laws.{AreOfOneMemory, BoundsAreOfTheMachine, BoundsArePhases, turns_of}

-- ---- what was legal

legal_first : {A B : Type 0} (f : A → Result B ℕ) (place : ℕ) (o : Option A) (t : B) → and_then f (legal_at place o) ≡ Ok t → (x : A) × (o ≡ Some x) × (f x ≡ Ok t)
legal_first f place None t is = absurd (let not : Err place ≡ Ok t = is in cc)
legal_first f place (Some x) t is = (x, refl, is)

legal_end : {A : Type 0} (done : Bool) (place : ℕ) (x t : A) → (if done then Ok x else Err place) ≡ Ok t → x ≡ t
legal_end true place x t is = let same : Ok x ≡ Ok t = is in cc
legal_end false place x t is = absurd (let not : Err place ≡ Ok t = is in cc)

mapped_some : {A B : Type 0} (f : A → B) (o : Option A) (y : B) → option_map f o ≡ Some y → (x : A) × (o ≡ Some x) × (f x ≡ y)
mapped_some f None y is = absurd (let not : None ≡ Some y = is in cc)
mapped_some f (Some x) y is = (x, refl, (let same : Some (f x) ≡ Some y = is in cc))

followed_some : {A B : Type 0} (f : A → Option B) (o : Option A) (y : B) → option_and_then f o ≡ Some y → (x : A) × (o ≡ Some x) × (f x ≡ Some y)
followed_some f None y is = absurd (let not : None ≡ Some y = is in cc)
followed_some f (Some x) y is = (x, refl, is)

-- ---- one memory and one machine's caches

module _ (time : Entry → ℕ) (image : MemoryImage) (end : ℕ) where
  -- what a turn of the machine is
  record IsTurn (s t : BoundState MachineWorld) (e : Entry) : Type 0 where
    entries : t.entries ≡ s.entries ++ e ∷ []
    reply : e.reply ≡ flat.memory_reply s.world.memory e.core e.request
    outcome : e.outcome ≡ caches.outcome_of s.world.caches e.core e.request
    memory : t.world.memory ≡ flat.memory_after s.world.memory e.core e.request
    caches_are : t.world.caches ≡ caches.caches_after s.world.caches e.core e.request

  access_turn : (s : BoundState MachineWorld) (number : ℕ) (c : TimedCore) (request : Request)
      → IsTurn s (access_served machine.serve time image end s number c (machine.serve s.world number c.clock request)) (machine.recorded s.world number c.clock request)
  unfolding machine.serve
  access_turn s number c request = record { entries = refl; reply = refl; outcome = refl; memory = refl; caches_are = refl }

  a_turn : (s t : BoundState MachineWorld) (number : ℕ) → turn machine.serve time image end s number ≡ Some t → (e : Entry) × IsTurn s t e
  a_turn s t number is =
      let core = followed_some (λ (c : TimedCore). turn_at machine.serve time image end s number (ran_to image end c)) (slice_get s.cores number) t is in
      let c : TimedCore = ran_to image end core.0 in
      let asked = mapped_some (λ (request : Request). access_served machine.serve time image end s number c (machine.serve s.world number c.clock request)) (asks c) t core.2 in
      let e : Entry = machine.recorded s.world number c.clock asked.0 in
      (e, subst (λ (u : BoundState MachineWorld). IsTurn s u e) asked.2 (access_turn s number c asked.0))

  served_from : (place : ℕ) (numbers : List ℕ) (s t : BoundState MachineWorld) → bound_from machine.serve time image end place numbers s ≡ Ok t
      → (entries : List Entry) × (t.entries ≡ s.entries ++ entries) × AreOfOneMemory s.world t.world entries
  served_from place [] s t is =
      let same : at_end image end s ≡ t = legal_end (are_done image end s) place (at_end image end s) t is in (
        [],
        ap (λ (u : BoundState MachineWorld). u.entries) (sym same) ∙ sym (append-nil s.entries),
        record {
          replies = refl;
          outcomes = refl;
          memory = ap (λ (u : BoundState MachineWorld). u.world.memory) (sym same);
          caches = ap (λ (u : BoundState MachineWorld). u.world.caches) (sym same);
        },
      )
  served_from place (number ∷ numbers) s t is =
      let first = legal_first (bound_from machine.serve time image end (place + 1) numbers) place (turn machine.serve time image end s number) t is in
      let u : BoundState MachineWorld = first.0 in
      let one = a_turn s u number first.1 in
      let e : Entry = one.0 in
      let rest = served_from (place + 1) numbers u t first.2 in
      let entries : List Entry = rest.0 in
      let replies : map (λ (x : Entry). x.reply) entries ≡ flat_replies (flat.memory_after s.world.memory e.core e.request) (accesses_of entries) =
      rest.2.replies ∙ ap (λ (m : flat.MemoryState). flat_replies m (accesses_of entries)) one.1.memory in
      let outcomes : map (λ (x : Entry). x.outcome) entries ≡ outcomes_of (caches.caches_after s.world.caches e.core e.request) (accesses_of entries) =
      rest.2.outcomes ∙ ap (λ (c : caches.Caches). outcomes_of c (accesses_of entries)) one.1.caches_are in (
        e ∷ entries,
        rest.1 ∙ (ap (λ (es : List Entry). es ++ entries) one.1.entries ∙ append_assoc s.entries (e ∷ []) entries),
        record {
          replies = λ i. one.1.reply i ∷ replies i;
          outcomes = λ i. one.1.outcome i ∷ outcomes i;
          memory = rest.2.memory ∙ ap (λ (m : flat.MemoryState). flat_after_all m (accesses_of entries)) one.1.memory;
          caches = rest.2.caches ∙ ap (λ (c : caches.Caches). caches_after_all c (accesses_of entries)) one.1.caches_are;
        },
      )

  -- ---- the interval

  pub of_the_machine : HistoriesAreRunsOfTheMachine time image end → BoundsAreOfTheMachine time image end
  of_the_machine runs cores shards cores_after shards_after entries m b stand =
      let timed : List TimedCore = timed_of cores in
      let begun_shards : List ShardState = map restarted shards in
      let run = runs timed begun_shards entries m b.history stand in
      let left : BoundState MachineWorld = run.left in
      let cores_are : left.cores ≡ timed_of cores_after = run.cores_are ∙ sym b.cores_are in
      let entries_are : left.entries ≡ entries = run.entries_are ∙ b.in_order in
      let phase : bound_phase machine.serve time image end (turns_of entries) (begun_over_machine timed m) ≡ Ok left =
      subst (λ (es : List Entry). bound_phase machine.serve time image end (turns_of es) (begun_over_machine timed m) ≡ Ok left) b.in_order run.phase in
      let served = served_from 0 (turns_of entries) (begun_over_machine timed m) left phase in
      let same : served.0 ≡ entries = sym served.1 ∙ entries_are in
      let after_all : ShardWorld = (after_history time image end timed begun_shards entries).world in
      record {
        world = left.world;
        phase = phase ∙ (λ i. Ok (record { cores = cores_are i; world = left.world; entries = entries_are i }));
        served = subst (AreOfOneMemory m left.world) same served.2;
        stamps = after_all.stamps;
        stand = subst (λ (cs : List TimedCore). StandForMachine cs (record { shards = shards_after; stamps = after_all.stamps }) left.world) cores_are
            (subst (λ (xs : List ShardState). StandForMachine left.cores (record { shards = xs; stamps = after_all.stamps }) left.world) (sym b.shards_are) run.stand);
      }

  pub are_phases : HistoriesArePhases time image end → BoundsArePhases time image end
  are_phases phases cores shards cores_after shards_after entries b =
      let timed : List TimedCore = timed_of cores in
      let left : BoundState ShardWorld = after_history time image end timed (map restarted shards) entries in (
        left.world.stamps,
        phases timed (map restarted shards) entries b.history
            ∙ (λ i. Ok (record { cores = sym b.cores_are i; world = record { shards = sym b.shards_are i; stamps = left.world.stamps }; entries = entries })),
      )
