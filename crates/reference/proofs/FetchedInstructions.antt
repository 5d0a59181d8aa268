-- A whole instruction behind its fetch.
use Rattle.std.proofs.Common.{◌≡◌, ℕ, Bool, true, false, ◌==◌, ◌&&◌, not, cond, Some, None, IsTrue, refl, sym, ap, subst, inl, inr}
use Rattle.std.specs.Prelude.{is_none, is_some}
use Rattle.std.proofs.lemmas.Bool.{and_parts, cases_Bool, eq-eqb}
use Rattle.zs_num.specs.Request.{line_at}
use Rattle.zs_num.specs.declared.request.Request.TheVariants.{Fetch}
use Rattle.rv_decode.specs.declared.inst.Inst.{Inst}
use Rattle.elf_load.specs.MemoryImage.{MemoryImage, fetched_word}
use Rattle.flat_memory.specs.FlatMemory.{MemoryState, memory_after, memory_reply}
use Rattle.rv_core.specs.declared.program.Fetched.TheVariants.{Instruction}
use Rattle.rv_core.specs.Accesses.{is_in_memory}
use Rattle.rv_core.specs.CoreState.{CoreState}
use Rattle.rv_core.specs.Effect.{effect, ended}
use Rattle.rv_core.specs.Fetch.{fetched_at}
use Rattle.rv_core.specs.Step.{answered, asks_for_instruction, is_free, needs_fetch, unfetched}
use Rattle.rv_core.specs.Asked.{advanced}
use Rattle.reference.specs.InstructionLaws.{CoreInMemory, after_all_requests, after_executing, after_fetching, after_request}

-- the core once its fetch has the reply
abbrev pub fetched_core : CoreState → CoreState
fetched_core core = record core { instruction = None; fetched_line = Some (line_at core.pc); is_fetched = true }

pub behind_fetch : (reply : ℕ) (core : CoreState) → answered reply (asks_for_instruction core) ≡ fetched_core core
unfolding answered ended
behind_fetch reply core = refl

-- it has not to fetch the same line again
once : (fetching same there inside : Bool) → same ≡ true → (fetching && not same && there && inside) ≡ false
once true same there inside is = rw is refl
once false same there inside is = refl

pub fetched_once : (image : MemoryImage) (core : CoreState) → needs_fetch image (fetched_core core) ≡ false
unfolding needs_fetch
fetched_once image core =
    once core.fetching (line_at core.pc == line_at core.pc) (is_some (fetched_word image.segments core.pc)) (is_in_memory core.memory core.pc 4)
    (eq-eqb (line_at core.pc) (line_at core.pc) refl)

fetched_free : (core : CoreState) → is_free core ≡ true → is_free (fetched_core core) ≡ true
fetched_free core free = let runs : is_none core.halted ≡ true = (and_parts (is_none core.halted) (is_none core.instruction) free).0 in rw runs refl

module _ (number : ℕ) (image : MemoryImage) (inst : Inst) where
  abbrev IsStep : CoreInMemory → Type 0
  IsStep s = after_executing number inst (record s { core = unfetched s.core }) ≡ after_all_requests number (record s { core = advanced image s.core })

  executes_it : (core : CoreState) → is_free core ≡ true → needs_fetch image core ≡ false → fetched_at image core.pc ≡ Instruction inst
      → effect inst.name inst (unfetched core) ≡ advanced image core
  executes_it core free fetched here = rw (free, fetched, here) refl

  steps : (s : CoreInMemory) → is_free s.core ≡ true → needs_fetch image s.core ≡ false → fetched_at image s.core.pc ≡ Instruction inst → IsStep s
  steps s free fetched here = ap (λ (core : CoreState). after_all_requests number (record s { core = core })) (executes_it s.core free fetched here)

  -- the core and memory after the fetch
  abbrev behind : CoreInMemory → CoreInMemory
  behind s = after_request number (Some (Fetch s.core.pc)) (record s { core = asks_for_instruction s.core })

  steps_behind : (s : CoreInMemory) → is_free s.core ≡ true → fetched_at image s.core.pc ≡ Instruction inst → IsStep (behind s)
  steps_behind s free here =
      let memory : MemoryState = memory_after s.memory number (Fetch s.core.pc) in
      subst (λ (core : CoreState). IsStep (record { core = core; memory = memory })) (sym (behind_fetch (memory_reply s.memory number (Fetch s.core.pc)) s.core))
      (steps (record { core = fetched_core s.core; memory = memory }) (fetched_free s.core free) (fetched_once image s.core) here)

  pub whole_steps : (s : CoreInMemory) → IsTrue (is_free s.core) → fetched_at image s.core.pc ≡ Instruction inst → IsStep (after_fetching number image s)
  whole_steps s free here =
      elim (cases_Bool (needs_fetch image s.core)) as (λ _. IsStep (after_fetching number image s)) [
        | inl fetches ↦ subst IsStep (sym (ap (λ (b : Bool). cond b (behind s) s) fetches)) (steps_behind s free here)
        | inr fetched ↦ subst IsStep (sym (ap (λ (b : Bool). cond b (behind s) s) fetched)) (steps s free fetched here)
      ]
