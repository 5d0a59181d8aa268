-- What local instructions and replies leave of a core: it stays sound, and its memory where it is.
use Rattle.std.proofs.Common.{◌≡◌, ℕ, zero, suc, ◌-◌, ◌||◌, cond, nat_lt, true, false, Option, Some, None, refl, sym, ◌∙◌, subst, inl, inr}
use Rattle.std.proofs.lemmas.Bool.{and_parts, cases_Bool}
use Rattle.zs_num.specs.declared.request.Request.{Request}
use Rattle.elf_load.specs.MemoryImage.{MemoryImage}
use Rattle.rv_core.specs.CoreState.{CoreState, InProgress}
use Rattle.zs_num.specs.PairedRight.{IsPairedRight}
use Rattle.zs_num.specs.Pairing.{pairing_after}
use Rattle.rv_core.specs.Sound.{IsSoundCore}
use Rattle.rv_core.specs.Step.{answered, asks_for_instruction, is_free, needs_fetch}
use Rattle.rv_core.specs.Asked.{advanced, stepped}
use Rattle.reference.specs.TimedCore.{TimedCore, after_execution, after_instruction, after_instructions, goes_on_alone, next_request, ran_to}

-- the laws of a core
pub record CoreLaws : Type 0 where
  pub advanced_sound : (image : MemoryImage) (core : CoreState) → IsSoundCore core → IsSoundCore (advanced image core)
  pub advanced_memory : (image : MemoryImage) (core : CoreState) → IsSoundCore core → (advanced image core).memory ≡ core.memory
  pub advanced_pairing : (image : MemoryImage) (core : CoreState) → IsSoundCore core → (advanced image core).pairing ≡ core.pairing
  pub advanced_fetching : (image : MemoryImage) (core : CoreState) → IsSoundCore core → (advanced image core).fetching ≡ core.fetching
  pub answered_sound : (reply : ℕ) (core : CoreState) → IsSoundCore core → IsSoundCore (answered reply core)
  pub answered_memory : (reply : ℕ) (core : CoreState) → IsSoundCore core → (answered reply core).memory ≡ core.memory
  pub answered_pairing : (reply : ℕ) (core : CoreState) (now : InProgress) → IsSoundCore core → core.instruction ≡ Some now → (answered reply core).pairing ≡ pairing_after core.pairing now.next
  pub answered_fetching : (reply : ℕ) (core : CoreState) → IsSoundCore core → (answered reply core).fetching ≡ core.fetching
  pub paired_right : (core : CoreState) (now : InProgress) → IsSoundCore core → core.instruction ≡ Some now → IsPairedRight core.pairing now.next

-- the core stays sound, its memory and its pairing stay, and it goes on fetching, or does not fetch
pub record StaysSound (core after : CoreState) : Type 0 where
  pub sound : IsSoundCore after
  pub memory : after.memory ≡ core.memory
  pub pairing : after.pairing ≡ core.pairing
  pub fetching : after.fetching ≡ core.fetching

then_stays : (a b c : CoreState) → StaysSound a b → StaysSound b c → StaysSound a c
then_stays a b c one two = record {
  sound = two.sound;
  memory = two.memory ∙ one.memory;
  pairing = two.pairing ∙ one.pairing;
  fetching = two.fetching ∙ one.fetching;
}

-- the core's own state after a step of it
pub stepped_core : (image : MemoryImage) (c : TimedCore) → (after_instruction image c).core ≡ stepped image c.core
unfolding after_instruction
stepped_core image c =
    elim (needs_fetch image c.core) as (λ b. (let next : TimedCore = cond b (record c { core = asks_for_instruction c.core }) (after_execution image c) in next.core) ≡ cond b (asks_for_instruction c.core) (after_execution image c).core)
    [ true ↦ refl | false ↦ refl ]

-- what a core waits for
pub waits_for : (instruction : Option InProgress) (request : Request) → next_request instruction ≡ Some request → (now : InProgress) × (instruction ≡ Some now) × (now.next ≡ request)
waits_for None request asked = cc
waits_for (Some now) request asked = (now, refl, cc)

module _ (laws : CoreLaws) (image : MemoryImage) where
  free_advances : (core : CoreState) → is_free core ≡ true → advanced image core ≡ stepped image core
  free_advances core free = rw free refl

  instruction_stays : (c : TimedCore) → IsSoundCore c.core → is_free c.core ≡ true → StaysSound c.core (after_instruction image c).core
  instruction_stays c sound free =
      subst (StaysSound c.core) (free_advances c.core free ∙ sym (stepped_core image c)) (record {
        sound = laws.advanced_sound image c.core sound;
        memory = laws.advanced_memory image c.core sound;
        pairing = laws.advanced_pairing image c.core sound;
        fetching = laws.advanced_fetching image c.core sound;
      })

  instructions_stay : (n end : ℕ) (c : TimedCore) → IsSoundCore c.core → StaysSound c.core (after_instructions n image end c).core
  instructions_stay zero end c sound = record { sound = sound; memory = refl; pairing = refl; fetching = refl }
  instructions_stay (suc n) end c sound =
      elim (cases_Bool (goes_on_alone end c)) as (λ _. StaysSound c.core (after_instructions (suc n) image end c).core) [
        | inl on ↦
            let one : StaysSound c.core (after_instruction image c).core = instruction_stays c sound (and_parts (is_free c.core) (c.core.is_fetched || nat_lt c.clock end) on).0 in
            rw on (then_stays c.core (after_instruction image c).core (after_instructions n image end (after_instruction image c)).core one (instructions_stay n end (after_instruction image c) one.sound))
        | inr off ↦ rw off (record { sound = sound; memory = refl; pairing = refl; fetching = refl })
      ]

  pub ran_stays_sound : (end : ℕ) (c : TimedCore) → IsSoundCore c.core → StaysSound c.core (ran_to image end c).core
  ran_stays_sound end c sound = instructions_stay (suc (end - c.clock)) end c sound
