-- Worlds that belong together have the same steps.
use Rattle.std.proofs.Common.{◌≡◌, ℕ, List, [], ◌∷◌, ◌++◌, map, Option, Some, None, refl, sym, ◌∙◌, ap}
use Rattle.std.specs.Prelude.{option_to_list, slice_get, slice_set}
use Rattle.std.specs.Option.{option_and_then, option_map, option_map_or}
use Rattle.zs_num.specs.declared.entry.Entry.{Entry}
use Rattle.zs_num.specs.declared.request.Request.{Request}
use Rattle.elf_load.specs.MemoryImage.{MemoryImage}
use Rattle.shard.specs.declared.leaving.Leaving.{Leaving}
use Rattle.bound_core.specs.ReferenceMachine.{BoundState, access_served, turn_at}
use Rattle.bound_core.specs.Correspondence.{AreRelated}
use Rattle.bound_core.specs.TimedCore.{TimedCore, asks, core_after_access, ran_to}
use Rattle.reference.proofs.Correspondence.{KeptByTurns}
use Rattle.trace.specs.Trace.{Accessed, Step, access_step, last_from, phase_steps, steps_alone, turn_steps}

module _ {World Other : Type 0} (Related : List TimedCore → World → Other → Type 0) (serve : World → (core start : ℕ) → Request → Entry × World) (serve_other : Other → (core start : ℕ) → Request → Entry × Other)
    (leaves : World → (core : ℕ) → Request → Leaving) (leaves_other : Other → (core : ℕ) → Request → Leaving) (image : MemoryImage) (end : ℕ) where
  -- The same lines leave for what a core asks.
  abbrev pub LeavesAlike : Type 0
  LeavesAlike = (cores : List TimedCore) (w : World) (v : Other) (number : ℕ) (c : TimedCore) (request : Request)
      → Related cores w v → slice_get cores number ≡ Some c → asks (ran_to image end c) ≡ Some request → leaves w number request ≡ leaves_other v number request

  module _ (time : Entry → ℕ) (turns : KeptByTurns Related serve serve_other time image end) (alike : LeavesAlike) where
    module _ (numbers : List ℕ) (s : BoundState World) (t : BoundState Other) (r : AreRelated Related s t) (number : ℕ) (c : TimedCore) (here : slice_get s.cores number ≡ Some c) where
      abbrev ran : TimedCore
      ran = ran_to image end c

      -- the access of the turn
      same_access : (request : Request) → asks ran ≡ Some request → access_step serve leaves image end s.world number ran request ≡ access_step serve_other leaves_other image end t.world number ran request
      same_access request asked =
          let both = turns s.cores s.world t.world number c request r.worlds here asked (serve s.world number ran.clock request) refl in
          ap (λ (e : Entry). Accessed ran.core.pc e (leaves s.world number request)) (sym (ap (λ (answer : Entry × Other). answer.0) both.1))
          ∙ ap (Accessed ran.core.pc (serve_other t.world number ran.clock request).0) (alike s.cores s.world t.world number c request r.worlds here asked)

      -- and what it leaves
      served : (request : Request) → asks ran ≡ Some request
          → AreRelated Related (access_served serve time image end s number ran (serve s.world number ran.clock request))
          (access_served serve_other time image end t number ran (serve_other t.world number ran.clock request))
      served request asked =
          let both = turns s.cores s.world t.world number c request r.worlds here asked (serve s.world number ran.clock request) refl in
          let answer : Entry × World = serve s.world number ran.clock request in
          rw both.1 (record {
            cores = ap (λ (cores : List TimedCore). slice_set cores number (core_after_access time answer.0 ran)) r.cores;
            entries = ap (λ (es : List Entry). es ++ answer.0 ∷ []) r.entries;
            worlds = both.2;
          })

      asked_alike : (request : Option Request) → asks ran ≡ request
          → ((u : BoundState World) (v : BoundState Other) → AreRelated Related u v → phase_steps serve leaves image end time numbers u ≡ phase_steps serve_other leaves_other image end time numbers v)
          → (steps_alone image end number c ++ map (access_step serve leaves image end s.world number ran) (option_to_list request))
          ++ option_map_or (phase_steps serve leaves image end time numbers) (option_map (λ asked. access_served serve time image end s number ran (serve s.world number ran.clock asked)) request) []
          ≡ (steps_alone image end number c ++ map (access_step serve_other leaves_other image end t.world number ran) (option_to_list request))
          ++ option_map_or (phase_steps serve_other leaves_other image end time numbers) (option_map (λ asked. access_served serve_other time image end t number ran (serve_other t.world number ran.clock asked)) request) []
      asked_alike None is rest = refl
      asked_alike (Some request) is rest =
          let own = steps_alone image end number c in
          let after = access_served serve time image end s number ran (serve s.world number ran.clock request) in
          let other = access_served serve_other time image end t number ran (serve_other t.world number ran.clock request) in
          ap (λ (step : Step). (own ++ step ∷ []) ++ phase_steps serve leaves image end time numbers after) (same_access request is)
          ∙ ap (λ (steps : List Step). (own ++ access_step serve_other leaves_other image end t.world number ran request ∷ []) ++ steps) (rest after other (served request is))

    found_alike : (numbers : List ℕ) (s : BoundState World) (t : BoundState Other) → AreRelated Related s t → (number : ℕ) (found : Option TimedCore) → slice_get s.cores number ≡ found
        → ((u : BoundState World) (v : BoundState Other) → AreRelated Related u v → phase_steps serve leaves image end time numbers u ≡ phase_steps serve_other leaves_other image end time numbers v)
        → option_map_or (turn_steps serve leaves image end s.world number) found []
        ++ option_map_or (phase_steps serve leaves image end time numbers) (option_and_then (λ c. turn_at serve time image end s number (ran_to image end c)) found) []
        ≡ option_map_or (turn_steps serve_other leaves_other image end t.world number) found []
        ++ option_map_or (phase_steps serve_other leaves_other image end time numbers) (option_and_then (λ c. turn_at serve_other time image end t number (ran_to image end c)) found) []
    found_alike numbers s t r number None is rest = refl
    found_alike numbers s t r number (Some c) is rest = asked_alike numbers s t r number c is (asks (ran_to image end c)) refl rest

    pub same_steps : (numbers : List ℕ) (s : BoundState World) (t : BoundState Other) → AreRelated Related s t
        → phase_steps serve leaves image end time numbers s ≡ phase_steps serve_other leaves_other image end time numbers t
    same_steps [] s t r = ap (last_from image end 0) (sym r.cores)
    same_steps (number ∷ numbers) s t r =
        let there : slice_get t.cores number ≡ slice_get s.cores number = ap (λ (cores : List TimedCore). slice_get cores number) r.cores in
        found_alike numbers s t r number (slice_get s.cores number) refl (same_steps numbers)
        ∙ ap (λ (found : Option TimedCore). option_map_or (turn_steps serve_other leaves_other image end t.world number) found []
        ++ option_map_or (phase_steps serve_other leaves_other image end time numbers) (option_and_then (λ c. turn_at serve_other time image end t number (ran_to image end c)) found) []) (sym there)
