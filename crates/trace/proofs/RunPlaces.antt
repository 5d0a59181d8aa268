-- The steps of a run are of addresses and lines of 64 bits.
use Rattle.std.proofs.Common.{◌≡◌, ℕ, zero, suc, ◌+◌, ◌-◌, ◌^◌, ◌<◌, ◌||◌, nat_lt, Bool, true, false, IsSome, IfSome, is_some, if◌then◌else◌, List, [], ◌∷◌, ◌++◌, map, option_to_list, Option, Some, None, Ok, Err, All, refl, sym, ◌∙◌, ap, subst, inl, inr, append_assoc, div-le_self, arith}
use Rattle.std.specs.Prelude.{replicate, slice_get, slice_set}
use Rattle.std.specs.List.{range_with_len}
use Rattle.std.specs.Option.{option_and_then, option_map, option_map_or}
use Rattle.std.proofs.lemmas.Bool.{and_parts, cases_Bool, cases_eq}
use Rattle.std.proofs.lemmas.List.Elements.{All-append, All-cons, All-nil, All-replicate}
use Rattle.zs_num.specs.declared.entry.Entry.{Entry}
use Rattle.zs_num.specs.declared.request.Request.{Request}
use Rattle.zs_num.specs.Request.{addr_of, line_of}
use Rattle.elf_load.specs.MemoryImage.{MemoryImage, fetched_word}
use Rattle.elf_load.specs.SoundImage.{IsSoundImage}
use Rattle.machine_desc.specs.declared.machine.Machine.{Machine}
use Rattle.machine_desc.specs.InstructionCaches.{has_l1i}
use Rattle.machine_desc.specs.Machine.{IsMachine}
use Rattle.component.specs.declared.comp.Comp.{Comp}
use Rattle.component.specs.Components.{AreFresh}
use Rattle.rv_core.specs.CoreState.{CoreState, InProgress}
use Rattle.rv_core.specs.Laws.{IsReached, starts}
use Rattle.rv_core.specs.Sound.{AreServableIn, IsSoundCore, IsServableIn, left_of}
use Rattle.rv_core.specs.Step.{cost, executed, initial_core, is_free, unfetched}
use Rattle.access_log.specs.RecordedOrder.{recorded_order}
use Rattle.reference.specs.MachineWorld.{MachineWorld, serve}
use Rattle.reference.specs.ReferenceMachine.{BoundState, access_served, and_then, are_done, at_end, bound_from, legal_at, turn_at}
use Rattle.reference.specs.ReferenceRun.{IsRunOf, RunState, after_interval, after_intervals, after_weave, begun_interval, end_of, first_state, has_ended, next_place, time_of, woven_interval}
use Rattle.reference.specs.Results.{Results}
use Rattle.reference.specs.TimedCore.{TimedCore, after_instruction, after_instructions, asks, core_after_access, first_core, goes_on_alone, ran_to}
use Rattle.reference.proofs.CoreKept.{CoreLaws, ran_stays_sound, stepped_core, waits_for}
use Rattle.reference.proofs.Instructions.{asks_or_executes}
use Rattle.trace.specs.Laws.{Fits64Bits}
use Rattle.trace.specs.Trace.{Ended, Executed, IsTraceOf, Step, access_step, executed_by, last_from, leaves_machine, local_steps, phase_steps, run_steps, steps_alone}
use Rattle.trace.proofs.Places.{StandsAtWord, answered_stands, halted_outside, stepped_stands, word_within}
use Rattle.trace.proofs.RunCaches.{answered_core, from_delayed, from_first, from_map, is_served, set_at_other, set_at_own}
use Rattle.trace.proofs.RunCounts.{comes_to, interval_of, is_next, let_on, steps_of, steps_on}

pub record IsPlaced (image : MemoryImage) (c : TimedCore) : Type 0 where
  pub sound : IsSoundCore c.core
  pub stands : StandsAtWord image c.core

abbrev pub ArePlaced : MemoryImage → List TimedCore → Type 0
ArePlaced image cores = (k : ℕ) (c : TimedCore) → slice_get cores k ≡ Some c → IsPlaced image c

-- ---- instructions

module _ (image : MemoryImage) (image_is : IsSoundImage image) where
  word_fits : (pc : ℕ) → IsSome (fetched_word image.segments pc) → pc < 2 ^ 64
  word_fits pc word = omega (arith, word_within image.base image.size image.segments pc image_is.placed word, image_is.reach)

  -- where no word stands nothing is counted
  none_counted : (c : TimedCore) → fetched_word image.segments c.core.pc ≡ None → (after_instruction image c).instructions ≡ c.instructions
  none_counted c none =
      elim (asks_or_executes image c) [
        | inl asks ↦ ap (λ (x : TimedCore). x.instructions) asks
        | inr is ↦
            let halted : cost (executed image (unfetched c.core)).halted ≡ 0 = ap (λ (x : CoreState). cost x.halted) (halted_outside image (unfetched c.core) none) in
            ap (λ (x : TimedCore). x.instructions) is ∙ ap (λ (n : ℕ). c.instructions + n) halted ∙ omega arith
      ]

  executed_fits : (number : ℕ) (c : TimedCore) → All Fits64Bits (executed_by number c (after_instruction image c))
  executed_fits number c =
      let by : (o : Option ℕ) → fetched_word image.segments c.core.pc ≡ o → All Fits64Bits (executed_by number c (after_instruction image c)) =
      λ o. elim o as (λ v. fetched_word image.segments c.core.pc ≡ v → All Fits64Bits (executed_by number c (after_instruction image c))) [
        | None ↦ λ none.
            let n : (after_instruction image c).instructions - c.instructions ≡ 0 = omega (arith, none_counted c none) in
            subst (λ (k : ℕ). All Fits64Bits (replicate k (Executed number c.core.pc))) (sym n) (All-nil Fits64Bits)
        | Some word ↦ λ is. All-replicate Fits64Bits ((after_instruction image c).instructions - c.instructions) (Executed number c.core.pc) (word_fits c.core.pc (ap is_some is))
      ] in
      by (fetched_word image.segments c.core.pc) refl

  local_fits : (end n number : ℕ) (c : TimedCore) → All Fits64Bits (local_steps image end n number c)
  local_fits end zero number c = All-nil Fits64Bits
  local_fits end (suc n) number c =
      elim (cases_Bool (goes_on_alone end c)) as (λ _. All Fits64Bits (local_steps image end (suc n) number c)) [
        | inl on ↦ rw on (All-append Fits64Bits (executed_by number c (after_instruction image c)) (local_steps image end n number (after_instruction image c)) (executed_fits number c) (local_fits end n number (after_instruction image c)))
        | inr off ↦ rw off (All-nil Fits64Bits)
      ]

  alone_fits : (end number : ℕ) (c : TimedCore) → All Fits64Bits (steps_alone image end number c)
  alone_fits end number c = local_fits end (suc (end - c.clock)) number c

  last_fits : (end from : ℕ) (cores : List TimedCore) → All Fits64Bits (last_from image end from cores)
  last_fits end from [] = All-nil Fits64Bits
  last_fits end from (c ∷ cores) = All-append Fits64Bits (steps_alone image end from c) (last_from image end (from + 1) cores) (alone_fits end from c) (last_fits end (from + 1) cores)

  -- ---- cores

  module _ (laws : CoreLaws) where
    many_stand : (n end : ℕ) (c : TimedCore) → StandsAtWord image c.core → StandsAtWord image (after_instructions n image end c).core
    many_stand zero end c stands = stands
    many_stand (suc n) end c stands =
        elim (cases_Bool (goes_on_alone end c)) as (λ _. StandsAtWord image (after_instructions (suc n) image end c).core) [
          | inl on ↦
              let free = (and_parts (is_free c.core) (c.core.is_fetched || nat_lt c.clock end) on).0 in
              let one : StandsAtWord image (after_instruction image c).core = subst (StandsAtWord image) (sym (stepped_core image c)) (stepped_stands image c.core free) in
              let rest = many_stand n end (after_instruction image c) one in
              rw on rest
          | inr off ↦ rw off stands
        ]

    ran_placed : (end : ℕ) (c : TimedCore) → IsPlaced image c → IsPlaced image (ran_to image end c)
    ran_placed end c placed = record {
      sound = (ran_stays_sound laws image end c placed.sound).sound;
      stands = many_stand (suc (end - c.clock)) end c placed.stands;
    }

    after_placed : (time : Entry → ℕ) (e : Entry) (c : TimedCore) → IsPlaced image c → IsPlaced image (core_after_access time e c)
    after_placed time e c placed = record {
      sound = subst IsSoundCore (sym (answered_core time e c)) (laws.answered_sound e.reply c.core placed.sound);
      stands = subst (StandsAtWord image) (sym (answered_core time e c)) (answered_stands image e.reply c.core placed.stands);
    }

    next_served : (core : CoreState) (o : Option InProgress) (now : InProgress) → o ≡ Some now → IfSome o (λ x. AreServableIn core.memory core.fetching (left_of x)) → IsServableIn core.memory core.fetching now.next
    next_served core None now is served = cc
    next_served core (Some x) now is served = let same : x ≡ now = cc in subst (λ (y : InProgress). IsServableIn core.memory core.fetching y.next) same served.0

    next_stands : (core : CoreState) (o : Option InProgress) (now : InProgress) → o ≡ Some now → IfSome o (λ x. IsSome (fetched_word image.segments core.pc)) → IsSome (fetched_word image.segments core.pc)
    next_stands core None now is stands = cc
    next_stands core (Some x) now is stands = stands

    asks_fits : (c : TimedCore) (request : Request) → IsPlaced image c → asks c ≡ Some request → (c.core.pc < 2 ^ 64) × (line_of request < 2 ^ 64)
    asks_fits c request placed asked =
        let now = waits_for c.core.instruction request asked in
        let served : IsServableIn c.core.memory c.core.fetching request = subst (IsServableIn c.core.memory c.core.fetching) now.2 (next_served c.core c.core.instruction now.0 now.1 placed.sound.served) in
        let word = next_stands c.core c.core.instruction now.0 now.1 placed.stands in (
          word_fits c.core.pc word,
          omega (arith, div-le_self (addr_of request) 64, served.ends, placed.sound.reach),
        )

    -- ---- a turn

    module _ (time : Entry → ℕ) (end : ℕ) where
      abbrev after : BoundState MachineWorld → (number : ℕ) → TimedCore → Request → BoundState MachineWorld
      after s number c request = access_served serve time image end s number (ran_to image end c) (serve s.world number (ran_to image end c).clock request)

      abbrev step_of : BoundState MachineWorld → (number : ℕ) → TimedCore → Request → Step
      step_of s number c request = access_step serve leaves_machine image end s.world number (ran_to image end c) request

      turn_placed : (s : BoundState MachineWorld) (number : ℕ) (c : TimedCore) (request : Request) → ArePlaced image s.cores → slice_get s.cores number ≡ Some c → ArePlaced image (after s number c request).cores
      turn_placed s number c request placed here k x is =
          let ran = ran_to image end c in
          let e : Entry = (serve s.world number ran.clock request).0 in
          let later : TimedCore = core_after_access time e ran in
          elim (cases_eq number k) [
            | inl same ↦
                subst (IsPlaced image) (set_at_own s.cores number c later x here (ap (slice_get (slice_set s.cores number later)) same ∙ is)) (after_placed time e ran (ran_placed end c (placed number c here)))
            | inr apart ↦ placed k x (sym (set_at_other s.cores number k later apart) ∙ is)
          ]

      turn_fits : (s : BoundState MachineWorld) (number : ℕ) (c : TimedCore) (request : Request) → ArePlaced image s.cores → slice_get s.cores number ≡ Some c → asks (ran_to image end c) ≡ Some request
          → All Fits64Bits (steps_alone image end number c ++ step_of s number c request ∷ [])
      turn_fits s number c request placed here asked =
          let ran = ran_to image end c in
          let fits = asks_fits ran request (ran_placed end c (placed number c here)) asked in
          let line : (serve s.world number ran.clock request).0.request ≡ request = (is_served s.world number ran.clock request).request_is in
          let own : Fits64Bits (step_of s number c request) = (fits.0, subst (λ (r : Request). line_of r < 2 ^ 64) (sym line) fits.1) in
          All-append Fits64Bits (steps_alone image end number c) (step_of s number c request ∷ []) (alone_fits end number c) (All-cons Fits64Bits (step_of s number c request) [] own (All-nil Fits64Bits))

      -- ---- a bound phase

      record Fit (b : BoundState MachineWorld) (steps : List Step) : Type 0 where
        placed : ArePlaced image b.cores
        fits : All Fits64Bits steps

      end_fits : (place : ℕ) (done : Bool) (s b : BoundState MachineWorld) → ArePlaced image s.cores → (if done then Ok (at_end image end s) else Err place) ≡ Ok b → Fit b (last_from image end 0 s.cores)
      end_fits place false s b placed e = cc
      end_fits place true s b placed e =
          let is : at_end image end s ≡ b = cc in
          subst (λ (x : BoundState MachineWorld). Fit x (last_from image end 0 s.cores)) is (record {
            placed = λ k x here. let c = from_map (ran_to image end) s.cores k x here in subst (IsPlaced image) c.2 (ran_placed end c.0 (placed k c.0 c.1));
            fits = last_fits end 0 s.cores;
          })

      then_fits : (b : BoundState MachineWorld) (xs ys : List Step) → All Fits64Bits xs → Fit b ys → Fit b (xs ++ ys)
      then_fits b xs ys one two = record { placed = two.placed; fits = All-append Fits64Bits xs ys one two.fits }

      phase_fits : (place : ℕ) (numbers : List ℕ) (s b : BoundState MachineWorld) → ArePlaced image s.cores → bound_from serve time image end place numbers s ≡ Ok b
          → Fit b (phase_steps serve leaves_machine image end time numbers s)
      phase_fits place [] s b placed e = end_fits place (are_done image end s) s b placed e
      phase_fits place (number ∷ numbers) s b placed e =
          let of_request : (c : TimedCore) (request : Option Request) → slice_get s.cores number ≡ Some c → asks (ran_to image end c) ≡ request
          → and_then (bound_from serve time image end (place + 1) numbers) (legal_at place (option_map (after s number c) request)) ≡ Ok b
          → Fit b ((steps_alone image end number c ++ map (step_of s number c) (option_to_list request)) ++ option_map_or (phase_steps serve leaves_machine image end time numbers) (option_map (after s number c) request) []) =
          λ c request. elim request as (λ v. slice_get s.cores number ≡ Some c → asks (ran_to image end c) ≡ v
          → and_then (bound_from serve time image end (place + 1) numbers) (legal_at place (option_map (after s number c) v)) ≡ Ok b
          → Fit b ((steps_alone image end number c ++ map (step_of s number c) (option_to_list v)) ++ option_map_or (phase_steps serve leaves_machine image end time numbers) (option_map (after s number c) v) [])) [
            | None ↦ λ here asked f. cc
            | Some request ↦ λ here asked f.
                then_fits b _ _ (turn_fits s number c request placed here asked) (phase_fits (place + 1) numbers (after s number c request) b (turn_placed s number c request placed here) f)
          ]
          in
          let of_core : (found : Option TimedCore) → slice_get s.cores number ≡ found
          → and_then (bound_from serve time image end (place + 1) numbers) (legal_at place (option_and_then (λ c. turn_at serve time image end s number (ran_to image end c)) found)) ≡ Ok b
          → Fit b (option_map_or (λ c. steps_alone image end number c ++ map (step_of s number c) (option_to_list (asks (ran_to image end c)))) found []
          ++ option_map_or (phase_steps serve leaves_machine image end time numbers) (option_and_then (λ c. turn_at serve time image end s number (ran_to image end c)) found) []) =
          λ found. elim found as (λ v. slice_get s.cores number ≡ v
          → and_then (bound_from serve time image end (place + 1) numbers) (legal_at place (option_and_then (λ c. turn_at serve time image end s number (ran_to image end c)) v)) ≡ Ok b
          → Fit b (option_map_or (λ c. steps_alone image end number c ++ map (step_of s number c) (option_to_list (asks (ran_to image end c)))) v []
          ++ option_map_or (phase_steps serve leaves_machine image end time numbers) (option_and_then (λ c. turn_at serve time image end s number (ran_to image end c)) v) [])) [
            | None ↦ λ here f. cc
            | Some c ↦ λ here f. of_request c (asks (ran_to image end c)) here refl f
          ]
          in
          of_core (slice_get s.cores number) refl e

    -- ---- a run

    module _ (machine : Machine) where
      woven_placed : (s : RunState) (b : BoundState MachineWorld) → ArePlaced image b.cores → ArePlaced image (after_weave machine s b).cores
      unfolding after_weave
      woven_placed s b placed k x here =
          let c = from_delayed (woven_interval machine s.comps (recorded_order b.entries)).delays 0 b.cores k x here in
          let before = placed k c.0 c.1 in
          record { sound = subst IsSoundCore (sym c.2) before.sound; stands = subst (StandsAtWord image) (sym c.2) before.stands }

      intervals_fit : (s t : RunState) (lists : List (List ℕ)) → ArePlaced image s.cores → after_intervals machine image s lists ≡ Ok t → All Fits64Bits (run_steps machine image s lists)
      intervals_fit s t [] placed e = All-nil Fits64Bits
      intervals_fit s t (turns ∷ lists) placed e =
          let on = let_on machine image (has_ended machine s) (after_interval machine image s turns) (λ r. after_intervals machine image r lists) (next_place s) t e in
          let later : RunState = on.0 in
          let next = is_next machine image s later turns on.1 in
          let phase = phase_fits (time_of machine) (end_of machine s) 0 turns (begun_interval machine s) next.left placed next.phase in
          let later_placed : ArePlaced image later.cores = subst (λ (x : RunState). ArePlaced image x.cores) next.next (woven_placed s next.left phase.placed) in
          let steps = steps_of machine image s turns in
          let ended = Ended (interval_of machine image s next.left) in
          let rest = run_steps machine image later lists in
          subst (All Fits64Bits) (sym (steps_on machine image s later turns lists on.1 ∙ ap (λ (xs : List Step). xs ++ rest) next.steps ∙ append_assoc steps (ended ∷ []) rest))
          (All-append Fits64Bits steps (ended ∷ rest) phase.fits (All-cons Fits64Bits ended rest tt (intervals_fit later t lists later_placed on.2)))

      first_idle : (number : ℕ) → (first_core machine image number).core.instruction ≡ None
      unfolding initial_core
      first_idle number = refl

      first_placed : ((core : CoreState) → IsReached core → IsSoundCore core) → IsMachine machine → (number : ℕ) → IsPlaced image (first_core machine image number)
      first_placed sound is number = record {
        sound = sound (first_core machine image number).core (starts number machine.cores image.entry _ _ (has_l1i machine) (omega (arith, is.memory.base, is.memory.size.1)) (λ fetches. image_is.aligned));
        stands = subst (λ (o : Option InProgress). IfSome o (λ now. IsSome (fetched_word image.segments (first_core machine image number).core.pc))) (sym (first_idle number)) tt;
      }

      pub run_fits : ((core : CoreState) → IsReached core → IsSoundCore core) → IsMachine machine
          → ((comps others : List Comp) → AreFresh machine comps → AreFresh machine others → others ≡ comps) → (lists : List (List ℕ)) (steps : List Step) (results : Results)
          → IsTraceOf machine image lists steps → IsRunOf machine image lists results → All Fits64Bits steps
      run_fits sound is one lists steps results trace run =
          let comes = comes_to machine image lists results run in
          let same : trace.comps ≡ comes.1.comps = one comes.1.comps trace.comps comes.1.fresh trace.fresh in
          let first : ArePlaced image (map (first_core machine image) (range_with_len 0 machine.cores)) =
          λ k x here. let number = from_first machine image 0 machine.cores k x here in subst (IsPlaced image) number.1 (first_placed sound is number.0)
          in
          subst (All Fits64Bits)
          (sym (trace.is ∙ ap (λ (comps : List Comp). run_steps machine image (first_state machine image comps) lists) same))
          (intervals_fit (first_state machine image comes.1.comps) comes.0 lists first comes.1.reached)
