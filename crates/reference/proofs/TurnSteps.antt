-- A turn of the machine of one thread is steps of its core.
use Rattle.std.proofs.Common.{◌≡◌, ℕ, zero, suc, ◌-◌, ◌||◌, nat_lt, Bool, true, false, List, [], ◌∷◌, Option, Some, None, refl, sym, ◌∙◌, ap, subst, inl, inr}
use Rattle.std.specs.Prelude.{◌&&◌, replicate, slice_get, slice_set, is_none}
use Rattle.std.specs.Option.{option_and_then, option_map}
use Rattle.std.proofs.lemmas.Bool.{and_parts, cases_Bool}
use Rattle.event_graph.proofs.Lists.{get-set_same}
use Rattle.zs_num.specs.declared.entry.Entry.{Entry}
use Rattle.zs_num.specs.declared.request.Request.{Request}
use Rattle.elf_load.specs.MemoryImage.{MemoryImage}
use Rattle.rv_core.specs.CoreState.{InProgress}
use Rattle.rv_core.specs.Step.{is_free}
use Rattle.reference.specs.MachineWorld.{MachineWorld, serve}
use Rattle.reference.specs.ReferenceMachine.{BoundState, access_served, turn, turn_at}
use Rattle.reference.specs.Steps.{after_step, after_steps, begun_step}
use Rattle.reference.specs.TimedCore.{TimedCore, after_instruction, after_instructions, asks, core_after_access, goes_on_alone, next_request, ran_to}

-- a core that waits for an access is not free
waiting : (o : Option InProgress) (r : Request) (halted : Bool) → next_request o ≡ Some r → (halted && is_none o) ≡ false
waiting None r halted asked = cc
waiting (Some now) r true asked = refl
waiting (Some now) r false asked = refl

-- of two values that are set at a place the second is left
set_twice : {X : Type 0} (xs : List X) (i : ℕ) (a b : X) → slice_set (slice_set xs i a) i b ≡ slice_set xs i b
set_twice [] i a b = refl
set_twice (x ∷ xs) zero a b = refl
set_twice {X = X} (x ∷ xs) (suc i) a b = ap (λ (l : List X). x ∷ l) (set_twice xs i a b)

module _ (time : Entry → ℕ) (image : MemoryImage) (end number : ℕ) where
  abbrev served : BoundState MachineWorld → TimedCore → Request → BoundState MachineWorld
  served s c r = access_served serve time image end s number c (serve s.world number c.clock r)

  waits : (c : TimedCore) (r : Request) → asks c ≡ Some r → is_free c.core ≡ false
  waits c r asked = waiting c.core.instruction r (is_none c.core.halted) asked

  -- a step of a core that waits for an access makes it
  waiting_step : (s : BoundState MachineWorld) (c : TimedCore) (r : Request) → slice_get s.cores number ≡ Some c → asks c ≡ Some r → after_step time image s number ≡ served s c r
  waiting_step s c r here asked =
      let stands : begun_step time image c ≡ c = rw (waits c r asked) refl in
      rw (here, stands, asked) refl

  abbrev Reaches : BoundState MachineWorld → TimedCore → Request → Type 0
  Reaches s c r = (count : ℕ) × (after_steps time image s (replicate (suc count) number) ≡ served s c r)

  -- a core that waits stays as it is
  stays : (fuel : ℕ) (c : TimedCore) → is_free c.core ≡ false → after_instructions fuel image end c ≡ c
  stays zero c not_free = refl
  stays (suc fuel) c not_free = rw not_free refl

  -- a step of a core that executes an instruction without an access
  local_step : (s : BoundState MachineWorld) (c : TimedCore) → slice_get s.cores number ≡ Some c → is_free c.core ≡ true → asks (after_instruction image c) ≡ None
      → after_step time image s number ≡ record s { cores = slice_set s.cores number (after_instruction image c) }
  local_step s c here free asked =
      let begun : begun_step time image c ≡ after_instruction image c = rw free refl in
      rw (here, begun, asked) refl

  -- and of one that comes to an access
  access_step : (s : BoundState MachineWorld) (c : TimedCore) (r : Request) → slice_get s.cores number ≡ Some c → is_free c.core ≡ true → asks (after_instruction image c) ≡ Some r
      → after_step time image s number ≡ served s (after_instruction image c) r
  access_step s c r here free asked =
      let begun : begun_step time image c ≡ after_instruction image c = rw free refl in
      rw (here, begun, asked) refl

  abbrev StepsTo : (fuel : ℕ) → Type 0
  StepsTo fuel = (s : BoundState MachineWorld) (c : TimedCore) (r : Request) → slice_get s.cores number ≡ Some c → asks (after_instructions fuel image end c) ≡ Some r
      → Reaches s (after_instructions fuel image end c) r

  -- by what its next instruction asks
  steps_on : (fuel : ℕ) → StepsTo fuel → (s : BoundState MachineWorld) (c : TimedCore) (r : Request) → slice_get s.cores number ≡ Some c → is_free c.core ≡ true → (o : Option InProgress)
      → (after_instruction image c).core.instruction ≡ o → asks (after_instructions fuel image end (after_instruction image c)) ≡ Some r → Reaches s (after_instructions fuel image end (after_instruction image c)) r
  steps_on fuel goes s c r here free None none asked =
      let next : TimedCore = after_instruction image c in
      let s' : BoundState MachineWorld = record s { cores = slice_set s.cores number next } in
      let rest : Reaches s' (after_instructions fuel image end next) r = goes s' next r (get-set_same s.cores number c next here) asked in
      let last : TimedCore = core_after_access time (serve s.world number (after_instructions fuel image end next).clock r).0 (after_instructions fuel image end next) in
      let again : served s' (after_instructions fuel image end next) r ≡ served s (after_instructions fuel image end next) r =
      ap (λ (l : List TimedCore). record (served s (after_instructions fuel image end next) r) { cores = l }) (set_twice s.cores number next last) in
      (suc rest.0, ap (λ (x : BoundState MachineWorld). after_steps time image x (replicate (suc rest.0) number)) (local_step s c here free (ap next_request none)) ∙ rest.1 ∙ again)
  steps_on fuel goes s c r here free (Some now) some asked =
      let next : TimedCore = after_instruction image c in
      let asks_next : asks next ≡ Some now.next = ap next_request some in
      let stops : after_instructions fuel image end next ≡ next = stays fuel next (waits next now.next asks_next) in
      let asks_r : asks next ≡ Some r = ap asks (sym stops) ∙ asked in
      subst (λ (x : TimedCore). Reaches s x r) (sym stops) (0, access_step s c r here free asks_r)

  -- steps of a core that stands there, up to its access
  steps_to : (fuel : ℕ) → StepsTo fuel
  steps_to zero s c r here asked = (0, waiting_step s c r here asked)
  steps_to (suc fuel) s c r here asked =
      elim (cases_Bool (goes_on_alone end c)) as (λ _. Reaches s (after_instructions (suc fuel) image end c) r) [
        | inl on ↦
            let goes : after_instructions (suc fuel) image end c ≡ after_instructions fuel image end (after_instruction image c) = rw on refl in
            subst (λ (x : TimedCore). Reaches s x r) (sym goes)
            (steps_on fuel (steps_to fuel) s c r here (and_parts (is_free c.core) (c.core.is_fetched || nat_lt c.clock end) on).0 (after_instruction image c).core.instruction refl (ap asks (sym goes) ∙ asked))
        | inr off ↦
            let stops : after_instructions (suc fuel) image end c ≡ c = rw off refl in
            subst (λ (x : TimedCore). Reaches s x r) (sym stops) (0, waiting_step s c r here (ap asks (sym stops) ∙ asked))
      ]

  -- by what the core asks for in its turn
  asked_steps : (s t : BoundState MachineWorld) (c : TimedCore) (o : Option Request) → slice_get s.cores number ≡ Some c → asks (ran_to image end c) ≡ o
      → option_map (λ request. served s (ran_to image end c) request) o ≡ Some t → (count : ℕ) × (after_steps time image s (replicate (suc count) number) ≡ t)
  asked_steps s t c None here asked is = cc
  asked_steps s t c (Some r) here asked is =
      let reaches : Reaches s (ran_to image end c) r = steps_to (suc (end - c.clock)) s c r here asked in
      let is_t : served s (ran_to image end c) r ≡ t = cc in
      (reaches.0, reaches.1 ∙ is_t)

  found_steps : (s t : BoundState MachineWorld) (o : Option TimedCore) → slice_get s.cores number ≡ o → option_and_then (λ c. turn_at serve time image end s number (ran_to image end c)) o ≡ Some t
      → (count : ℕ) × (after_steps time image s (replicate (suc count) number) ≡ t)
  found_steps s t None here is = cc
  found_steps s t (Some c) here is = asked_steps s t c (asks (ran_to image end c)) here refl is

  pub turn_steps : (s t : BoundState MachineWorld) → turn serve time image end s number ≡ Some t → (count : ℕ) × (after_steps time image s (replicate (suc count) number) ≡ t)
  turn_steps s t is = found_steps s t (slice_get s.cores number) refl is
