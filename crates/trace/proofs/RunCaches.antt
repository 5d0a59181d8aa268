-- The accesses of a run are met by the caches of its machine.
use Rattle.std.proofs.Common.{◌≡◌, ◌≢◌, ℕ, zero, suc, ◌+◌, ◌<◌, Bool, true, false, IsTrue, if◌then◌else◌, List, [], ◌∷◌, ◌++◌, map, length, option_to_list, Option, Some, None, Ok, Err, refl, sym, ◌∙◌, ap, subst, inl, inr, append_assoc, arith}
use Rattle.std.specs.Prelude.{slice_get, slice_index, slice_set, IfSome}
use Rattle.std.specs.List.{enumerate_from, range_with_len}
use Rattle.std.specs.Option.{option_and_then, option_map, option_map_or}
use Rattle.std.proofs.lemmas.Bool.{cases_eq}
use Rattle.std.proofs.lemmas.List.{length-map, length-replicate, length-set}
use Rattle.std.proofs.lemmas.List.FromFn.{length-map-range_with_len}
use Rattle.std.proofs.lemmas.Option.{slice_get_within}
use Rattle.zs_num.specs.declared.entry.Entry.{Entry}
use Rattle.zs_num.specs.declared.request.Request.{Request}
use Rattle.zs_num.specs.declared.request.Request.TheVariants.{Load, Store, Lr, Sc, Amo, Fetch}
use Rattle.zs_num.specs.Request.{is_fetch}
use Rattle.zs_num.specs.Servable.{MayFetch}
use Rattle.elf_load.specs.MemoryImage.{MemoryImage}
use Rattle.elf_load.specs.SoundImage.{IsSoundImage}
use Rattle.machine_desc.specs.declared.machine.Machine.{Machine}
use Rattle.machine_desc.specs.InstructionCaches.{fetchers_of, has_l1i}
use Rattle.machine_desc.specs.Machine.{IsMachine}
use Rattle.rv_core.specs.CoreState.{CoreState, InProgress}
use Rattle.rv_core.specs.Laws.{IsReached, starts}
use Rattle.rv_core.specs.Sound.{AreServableIn, IsSoundCore, left_of}
use Rattle.rv_core.specs.Step.{answered, initial_core}
use Rattle.component.specs.declared.comp.Comp.{Comp}
use Rattle.component.specs.Components.{AreFresh}
use Rattle.access_log.specs.RecordedOrder.{recorded_order}
use Rattle.shard.specs.Coherence.{Caches, caches_after, outcome_of}
use Rattle.shard.specs.Laws.{CoherentStays, NewShardsStand}
use Rattle.shard.specs.Leaving.{leaving_of}
use Rattle.shard.specs.NewCaches.{new_caches}
use Rattle.shard.specs.declared.leaving.Leaving.{Leaving}
use Rattle.shard.specs.StandsFor.{AreCoherent, HaveRoomForLines}
use Rattle.reference.specs.MachineWorld.{MachineWorld, serve}
use Rattle.reference.specs.ReferenceMachine.{BoundState, access_served, and_then, are_done, at_end, bound_from, legal_at, turn_at}
use Rattle.reference.specs.TimedCore.{TimedCore, asks, core_after_access, delayed, first_core, ran_to}
use Rattle.reference.specs.ReferenceRun.{IsRunOf, RunState, after_interval, after_intervals, after_weave, all_delayed, begun_interval, end_of, first_state, has_ended, next_place, time_of, woven_interval}
use Rattle.reference.specs.Results.{Results}
use Rattle.reference.proofs.CoreKept.{CoreLaws, ran_stays_sound, waits_for}
use Rattle.reference.proofs.Delayed.{delayed_many}
use Rattle.trace.specs.Laws.{AreMetBy, IsMetBy}
use Rattle.trace.specs.Told.{accessed_in}
use Rattle.trace.specs.Trace.{Accessed, Ended, Executed, IsTraceOf, Step, access_step, last_from, leaves_machine, phase_steps, run_steps, steps_alone}
use Rattle.trace.proofs.PhaseCounts.{last_accesses}
use Rattle.trace.proofs.RunCounts.{comes_to, interval_of, is_next, let_on, steps_of, steps_on}
use Rattle.trace.proofs.ToldParts.{alone_local}

-- ---- what the cores and the caches of a run keep

-- a core is sound, and fetches only where it has an instruction cache
record IsKept (caches : Caches) (c : TimedCore) : Type 0 where
  sound : IsSoundCore c.core
  fetches : IsTrue c.core.fetching → length caches.l1i ≡ length caches.l1

pub record AreKept (cores : List TimedCore) (caches : Caches) : Type 0 where
  coherent : AreCoherent caches
  room : HaveRoomForLines caches
  many : length caches.l1 ≡ length cores
  each : (k : ℕ) (c : TimedCore) → slice_get cores k ≡ Some c → IsKept caches c

-- steps without an access
met_more : (c : Caches) (xs ys : List Step) → accessed_in xs ≡ [] → AreMetBy c ys → AreMetBy c (xs ++ ys)
met_more c [] ys none met = met
met_more c (Executed core pc ∷ xs) ys none met = met_more c xs ys none met
met_more c (Accessed pc e leaving ∷ xs) ys none met = cc
met_more c (Ended interval ∷ xs) ys none met = met_more c xs ys none met

-- ---- an access

pub record IsServed (w : MachineWorld) (number : ℕ) (request : Request) (e : Entry) (after : MachineWorld) : Type 0 where
  pub core : e.core ≡ number
  pub request_is : e.request ≡ request
  pub outcome : e.outcome ≡ outcome_of w.caches number request
  pub caches : after.caches ≡ caches_after w.caches number request

pub is_served : (w : MachineWorld) (number start : ℕ) (request : Request) → IsServed w number request (serve w number start request).0 (serve w number start request).1
unfolding serve
is_served w number start request = record { core = refl; request_is = refl; outcome = refl; caches = refl }

pub answered_core : (time : Entry → ℕ) (e : Entry) (c : TimedCore) → (core_after_access time e c).core ≡ answered e.reply c.core
unfolding core_after_access
answered_core time e c = refl

may_fetch : (fetching : Bool) (request : Request) → MayFetch fetching request → IsTrue (is_fetch request) → IsTrue fetching
may_fetch fetching (Load width addr) may is = cc
may_fetch fetching (Store width addr value) may is = cc
may_fetch fetching (Lr width addr) may is = cc
may_fetch fetching (Sc width paired addr value) may is = cc
may_fetch fetching (Amo width op addr value) may is = cc
may_fetch fetching (Fetch addr) may is = may

next_may : (core : CoreState) (o : Option InProgress) (now : InProgress) → o ≡ Some now → IfSome o (λ x. AreServableIn core.memory core.fetching (left_of x)) → MayFetch core.fetching now.next
next_may core None now is served = cc
next_may core (Some x) now is served = let same : x ≡ now = cc in subst (λ (y : InProgress). MayFetch core.fetching y.next) same served.0.fetched

pub from_map : (f : TimedCore → TimedCore) (cores : List TimedCore) (k : ℕ) (x : TimedCore) → slice_get (map f cores) k ≡ Some x → (c : TimedCore) × (slice_get cores k ≡ Some c) × (f c ≡ x)
from_map f [] k x is = cc
from_map f (c ∷ cores) zero x is = (c, refl, cc)
from_map f (c ∷ cores) (suc k) x is = from_map f cores k x is

pub set_at_own : (cores : List TimedCore) (number : ℕ) (c after x : TimedCore) → slice_get cores number ≡ Some c → slice_get (slice_set cores number after) number ≡ Some x → after ≡ x
set_at_own [] number c after x here is = cc
set_at_own (y ∷ cores) zero c after x here is = cc
set_at_own (y ∷ cores) (suc number) c after x here is = set_at_own cores number c after x here is

pub set_at_other : (cores : List TimedCore) (number k : ℕ) (after : TimedCore) → number ≢ k → slice_get (slice_set cores number after) k ≡ slice_get cores k
set_at_other [] number k after apart = refl
set_at_other (y ∷ cores) zero zero after apart = absurd (apart refl)
set_at_other (y ∷ cores) zero (suc k) after apart = refl
set_at_other (y ∷ cores) (suc number) zero after apart = refl
set_at_other (y ∷ cores) (suc number) (suc k) after apart = set_at_other cores number k after (λ same. apart (ap suc same))

-- cores that waited
pub from_delayed : (delays : List ℕ) (from : ℕ) (cores : List TimedCore) (k : ℕ) (x : TimedCore) → slice_get (map (λ at'. delayed (slice_index delays at'.0) at'.1) (enumerate_from from cores)) k ≡ Some x
    → (c : TimedCore) × (slice_get cores k ≡ Some c) × (x.core ≡ c.core)
from_delayed delays from [] k x is = cc
from_delayed delays from (c ∷ cores) zero x is = let same : delayed (slice_index delays from) c ≡ x = cc in (c, refl, ap (λ (y : TimedCore). y.core) (sym same))
from_delayed delays from (c ∷ cores) (suc k) x is = from_delayed delays (from + 1) cores k x is

pub from_first : (machine : Machine) (image : MemoryImage) (a n k : ℕ) (x : TimedCore) → slice_get (map (first_core machine image) (range_with_len a n)) k ≡ Some x → (number : ℕ) × (first_core machine image number ≡ x)
from_first machine image a zero k x is = cc
from_first machine image a (suc n) zero x is = (a, cc)
from_first machine image a (suc n) (suc k) x is = from_first machine image (a + 1) n k x is

module _ (laws : CoreLaws) (stays : CoherentStays) (image : MemoryImage) where
  -- what a core keeps in its turn
  ran_kept : (end : ℕ) (caches : Caches) (c : TimedCore) → IsKept caches c → IsKept caches (ran_to image end c)
  ran_kept end caches c kept =
      let ran = ran_stays_sound laws image end c kept.sound in
      record { sound = ran.sound; fetches = λ is. kept.fetches (subst IsTrue ran.fetching is) }

  after_kept : (time : Entry → ℕ) (e : Entry) (caches : Caches) (c : TimedCore) → IsKept caches c → IsKept caches (core_after_access time e c)
  after_kept time e caches c kept = record {
    sound = subst IsSoundCore (sym (answered_core time e c)) (laws.answered_sound e.reply c.core kept.sound);
    fetches = λ is. kept.fetches (subst IsTrue (ap (λ (x : CoreState). x.fetching) (answered_core time e c) ∙ laws.answered_fetching e.reply c.core kept.sound) is);
  }

  -- what it asks for it may ask for
  asks_kept : (caches : Caches) (c : TimedCore) (request : Request) → IsKept caches c → asks c ≡ Some request → IsTrue (is_fetch request) → length caches.l1i ≡ length caches.l1
  asks_kept caches c request kept asked fetch =
      let now = waits_for c.core.instruction request asked in
      let may : MayFetch c.core.fetching request = subst (MayFetch c.core.fetching) now.2 (next_may c.core c.core.instruction now.0 now.1 kept.sound.served) in
      kept.fetches (may_fetch c.core.fetching request may fetch)

  -- ---- a turn

  module _ (time : Entry → ℕ) (end : ℕ) where
    abbrev after : BoundState MachineWorld → (number : ℕ) → TimedCore → Request → BoundState MachineWorld
    after s number c request = access_served serve time image end s number (ran_to image end c) (serve s.world number (ran_to image end c).clock request)

    abbrev step_of : BoundState MachineWorld → (number : ℕ) → TimedCore → Request → Step
    step_of s number c request = access_step serve leaves_machine image end s.world number (ran_to image end c) request

    -- the steps of a turn are met, and the rest by what it leaves
    turn_met : (s : BoundState MachineWorld) (number : ℕ) (c : TimedCore) (request : Request) (rest : List Step) → AreKept s.cores s.world.caches → slice_get s.cores number ≡ Some c
        → asks (ran_to image end c) ≡ Some request → AreMetBy (after s number c request).world.caches rest
        → AreMetBy s.world.caches ((steps_alone image end number c ++ step_of s number c request ∷ []) ++ rest)
    turn_met s number c request rest kept here asked met =
        let ran = ran_to image end c in
        let e : Entry = (serve s.world number ran.clock request).0 in
        let leaving : Leaving = leaving_of s.world.caches number request in
        let caches : Caches = s.world.caches in
        let is = is_served s.world number ran.clock request in
        let alone = steps_alone image end number c in
        let known : number < length caches.l1 = omega (arith, kept.many, slice_get_within s.cores number c here) in
        let fetches : IsTrue (is_fetch request) → number < length caches.l1i = λ fetch. omega (arith, known, asks_kept caches ran request (ran_kept end caches c (kept.each number c here)) asked fetch) in
        let by : IsMetBy caches e leaving = record {
          known = omega (arith, known, is.core);
          fetches = λ fetch. omega (arith, is.core, fetches (subst (λ (r : Request). IsTrue (is_fetch r)) is.request_is fetch));
          outcome = is.outcome ∙ ap (λ (n : ℕ). outcome_of caches n request) (sym is.core) ∙ ap (outcome_of caches e.core) (sym is.request_is);
          leaves = ap (λ (n : ℕ). leaving_of caches n request) (sym is.core) ∙ ap (leaving_of caches e.core) (sym is.request_is);
        } in
        let left : (after s number c request).world.caches ≡ caches_after caches e.core e.request =
        is.caches ∙ ap (λ (n : ℕ). caches_after caches n request) (sym is.core) ∙ ap (caches_after caches e.core) (sym is.request_is)
        in
        subst (AreMetBy caches) (sym (append_assoc alone (step_of s number c request ∷ []) rest))
        (met_more caches alone (step_of s number c request ∷ rest) (alone_local image end number c).accesses (by, subst (λ (x : Caches). AreMetBy x rest) left met))

    turn_kept : (s : BoundState MachineWorld) (number : ℕ) (c : TimedCore) (request : Request) → AreKept s.cores s.world.caches → slice_get s.cores number ≡ Some c
        → AreKept (after s number c request).cores (after s number c request).world.caches
    turn_kept s number c request kept here =
        let ran = ran_to image end c in
        let e : Entry = (serve s.world number ran.clock request).0 in
        let caches : Caches = s.world.caches in
        let later : TimedCore = core_after_access time e ran in
        let known : number < length caches.l1 = omega (arith, kept.many, slice_get_within s.cores number c here) in
        let still = stays caches number request kept.coherent kept.room known in
        let behind : Caches = caches_after caches number request in
        let again : (x : TimedCore) → IsKept caches x → IsKept behind x = λ x is. record { sound = is.sound; fetches = λ fetch. still.3 ∙ is.fetches fetch ∙ sym still.2 } in
        let own : IsKept behind later = again later (after_kept time e caches ran (ran_kept end caches c (kept.each number c here))) in
        let all : AreKept (slice_set s.cores number later) behind = record {
          coherent = still.0;
          room = still.1;
          many = still.2 ∙ kept.many ∙ sym (length-set s.cores number later);
          each = λ k x is. elim (cases_eq number k) [
            | inl same ↦ subst (IsKept behind) (set_at_own s.cores number c later x here (ap (slice_get (slice_set s.cores number later)) same ∙ is)) own
            | inr apart ↦ again x (kept.each k x (sym (set_at_other s.cores number k later apart) ∙ is))
          ];
        } in
        subst (AreKept (slice_set s.cores number later)) (sym (is_served s.world number ran.clock request).caches) all

    -- ---- a bound phase

    end_kept : (cores : List TimedCore) (caches : Caches) → AreKept cores caches → AreKept (map (ran_to image end) cores) caches
    end_kept cores caches kept = record {
      coherent = kept.coherent;
      room = kept.room;
      many = kept.many ∙ sym (length-map cores (ran_to image end));
      each = λ k x is.
          let c = from_map (ran_to image end) cores k x is in
          subst (IsKept caches) c.2 (ran_kept end caches c.0 (kept.each k c.0 c.1));
    }

    -- the steps up to the end are met, and what comes behind it by what they left
    record Meets (s b : BoundState MachineWorld) (steps : List Step) : Type 0 where
      kept : AreKept b.cores b.world.caches
      met : (rest : List Step) → AreMetBy b.world.caches rest → AreMetBy s.world.caches (steps ++ rest)

    meets_end : (place : ℕ) (done : Bool) (s b : BoundState MachineWorld) → AreKept s.cores s.world.caches → (if done then Ok (at_end image end s) else Err place) ≡ Ok b
        → Meets s b (last_from image end 0 s.cores)
    meets_end place false s b kept e = cc
    meets_end place true s b kept e =
        let is : at_end image end s ≡ b = cc in
        subst (λ (x : BoundState MachineWorld). Meets s x (last_from image end 0 s.cores)) is (record {
          kept = end_kept s.cores s.world.caches kept;
          met = λ rest met. met_more s.world.caches (last_from image end 0 s.cores) rest (last_accesses image end 0 s.cores) met;
        })

    then_meets : (s : BoundState MachineWorld) (b : BoundState MachineWorld) (number : ℕ) (c : TimedCore) (request : Request) (steps : List Step) → AreKept s.cores s.world.caches
        → slice_get s.cores number ≡ Some c → asks (ran_to image end c) ≡ Some request → Meets (after s number c request) b steps
        → Meets s b ((steps_alone image end number c ++ step_of s number c request ∷ []) ++ steps)
    then_meets s b number c request steps kept here asked more =
        let own = steps_alone image end number c ++ step_of s number c request ∷ [] in
        record {
          kept = more.kept;
          met = λ rest met. subst (AreMetBy s.world.caches) (sym (append_assoc own steps rest)) (turn_met s number c request (steps ++ rest) kept here asked (more.met rest met));
        }

    phase_meets : (place : ℕ) (numbers : List ℕ) (s b : BoundState MachineWorld) → AreKept s.cores s.world.caches → bound_from serve time image end place numbers s ≡ Ok b
        → Meets s b (phase_steps serve leaves_machine image end time numbers s)
    phase_meets place [] s b kept e = meets_end place (are_done image end s) s b kept e
    phase_meets place (number ∷ numbers) s b kept e =
        let of_request : (c : TimedCore) (request : Option Request) → slice_get s.cores number ≡ Some c → asks (ran_to image end c) ≡ request
        → and_then (bound_from serve time image end (place + 1) numbers) (legal_at place (option_map (after s number c) request)) ≡ Ok b
        → Meets s b ((steps_alone image end number c ++ map (step_of s number c) (option_to_list request)) ++ option_map_or (phase_steps serve leaves_machine image end time numbers) (option_map (after s number c) request) []) =
        λ c request. elim request as (λ v. slice_get s.cores number ≡ Some c → asks (ran_to image end c) ≡ v
        → and_then (bound_from serve time image end (place + 1) numbers) (legal_at place (option_map (after s number c) v)) ≡ Ok b
        → Meets s b ((steps_alone image end number c ++ map (step_of s number c) (option_to_list v)) ++ option_map_or (phase_steps serve leaves_machine image end time numbers) (option_map (after s number c) v) [])) [
          | None ↦ λ here asked f. cc
          | Some request ↦ λ here asked f.
              then_meets s b number c request _ kept here asked (phase_meets (place + 1) numbers (after s number c request) b (turn_kept s number c request kept here) f)
        ]
        in
        let of_core : (found : Option TimedCore) → slice_get s.cores number ≡ found
        → and_then (bound_from serve time image end (place + 1) numbers) (legal_at place (option_and_then (λ c. turn_at serve time image end s number (ran_to image end c)) found)) ≡ Ok b
        → Meets s b (option_map_or (λ c. steps_alone image end number c ++ map (step_of s number c) (option_to_list (asks (ran_to image end c)))) found []
        ++ option_map_or (phase_steps serve leaves_machine image end time numbers) (option_and_then (λ c. turn_at serve time image end s number (ran_to image end c)) found) []) =
        λ found. elim found as (λ v. slice_get s.cores number ≡ v
        → and_then (bound_from serve time image end (place + 1) numbers) (legal_at place (option_and_then (λ c. turn_at serve time image end s number (ran_to image end c)) v)) ≡ Ok b
        → Meets s b (option_map_or (λ c. steps_alone image end number c ++ map (step_of s number c) (option_to_list (asks (ran_to image end c)))) v []
        ++ option_map_or (phase_steps serve leaves_machine image end time numbers) (option_and_then (λ c. turn_at serve time image end s number (ran_to image end c)) v) [])) [
          | None ↦ λ here f. cc
          | Some c ↦ λ here f. of_request c (asks (ran_to image end c)) here refl f
        ]
        in
        of_core (slice_get s.cores number) refl e

  -- ---- a run

  module _ (machine : Machine) where
    delayed_kept : (delays : List ℕ) (cores : List TimedCore) (caches : Caches) → AreKept cores caches → AreKept (all_delayed delays cores) caches
    delayed_kept delays cores caches kept = record {
      coherent = kept.coherent;
      room = kept.room;
      many = kept.many ∙ sym (delayed_many delays cores);
      each = λ k x is.
          let c = from_delayed delays 0 cores k x is in
          let before = kept.each k c.0 c.1 in
          record {
            sound = subst IsSoundCore (sym c.2) before.sound;
            fetches = λ fetch. before.fetches (subst IsTrue (ap (λ (y : CoreState). y.fetching) c.2) fetch);
          };
    }

    woven_kept : (s : RunState) (b : BoundState MachineWorld) → AreKept b.cores b.world.caches → AreKept (after_weave machine s b).cores (after_weave machine s b).caches
    unfolding after_weave
    woven_kept s b kept = delayed_kept (woven_interval machine s.comps (recorded_order b.entries)).delays b.cores b.world.caches kept

    woven_caches : (s : RunState) (b : BoundState MachineWorld) → (after_weave machine s b).caches ≡ b.world.caches
    unfolding after_weave
    woven_caches s b = refl

    intervals_meet : (s t : RunState) (lists : List (List ℕ)) → AreKept s.cores s.caches → after_intervals machine image s lists ≡ Ok t → AreMetBy s.caches (run_steps machine image s lists)
    intervals_meet s t [] kept e = tt
    intervals_meet s t (turns ∷ lists) kept e =
        let on = let_on machine image (has_ended machine s) (after_interval machine image s turns) (λ r. after_intervals machine image r lists) (next_place s) t e in
        let later : RunState = on.0 in
        let next = is_next machine image s later turns on.1 in
        let b : BoundState MachineWorld = next.left in
        let meets = phase_meets (time_of machine) (end_of machine s) 0 turns (begun_interval machine s) b kept next.phase in
        let later_kept : AreKept later.cores later.caches = subst (λ (x : RunState). AreKept x.cores x.caches) next.next (woven_kept s b meets.kept) in
        let steps = steps_of machine image s turns in
        let ended = Ended (interval_of machine image s b) in
        let rest = run_steps machine image later lists in
        let left : later.caches ≡ b.world.caches = ap (λ (x : RunState). x.caches) (sym next.next) ∙ woven_caches s b in
        subst (AreMetBy s.caches) (sym (steps_on machine image s later turns lists on.1 ∙ ap (λ (xs : List Step). xs ++ rest) next.steps ∙ append_assoc steps (ended ∷ []) rest))
        (meets.met (ended ∷ rest) (subst (λ (x : Caches). AreMetBy x rest) left (intervals_meet later t lists later_kept on.2)))

    -- ---- before the first access

    first_fetching : (number : ℕ) → (first_core machine image number).core.fetching ≡ has_l1i machine
    unfolding initial_core
    first_fetching number = refl

    all_fetch : (has : Bool) → IsTrue has → (if has then machine.cores else 0) ≡ machine.cores
    all_fetch true has = refl
    all_fetch false has = cc

    first_kept : ((core : CoreState) → IsReached core → IsSoundCore core) → NewShardsStand → IsMachine machine → IsSoundImage image
        → AreKept (map (first_core machine image) (range_with_len 0 machine.cores)) (new_caches machine)
    first_kept sound stand is image_is =
        let new = stand machine image is in
        let caches : Caches = new_caches machine in
        let many : length caches.l1 ≡ machine.cores = length-replicate machine.cores _ in
        let fetchers : length caches.l1i ≡ fetchers_of machine = length-replicate (fetchers_of machine) _ in
        let first : (number : ℕ) → IsKept caches (first_core machine image number) = λ number. record {
          sound = sound (first_core machine image number).core (starts number machine.cores image.entry _ _ (has_l1i machine) (omega (arith, is.memory.base, is.memory.size.1)) (λ fetches. image_is.aligned));
          fetches = λ fetches. fetchers ∙ all_fetch (has_l1i machine) (subst IsTrue (first_fetching number) fetches) ∙ sym many;
        } in
        record {
          coherent = new.0.coherent;
          room = new.0.room;
          many = many ∙ sym (length-map-range_with_len (first_core machine image) 0 machine.cores);
          each = λ k x here. let number = from_first machine image 0 machine.cores k x here in subst (IsKept caches) number.1 (first number.0);
        }

    pub run_met : ((core : CoreState) → IsReached core → IsSoundCore core) → NewShardsStand → IsMachine machine → IsSoundImage image
        → ((comps others : List Comp) → AreFresh machine comps → AreFresh machine others → others ≡ comps) → (lists : List (List ℕ)) (steps : List Step) (results : Results)
        → IsTraceOf machine image lists steps → IsRunOf machine image lists results → AreMetBy (new_caches machine) steps
    run_met sound stand is image_is one lists steps results trace run =
        let comes = comes_to machine image lists results run in
        let same : trace.comps ≡ comes.1.comps = one comes.1.comps trace.comps comes.1.fresh trace.fresh in
        subst (AreMetBy (new_caches machine))
        (sym (trace.is ∙ ap (λ (comps : List Comp). run_steps machine image (first_state machine image comps) lists) same))
        (intervals_meet (first_state machine image comes.1.comps) comes.0 lists (first_kept sound stand is image_is) comes.1.reached)
