-- A core stays sound where it goes on by itself, with accesses that are hits.
use Rattle.std.proofs.Common.{◌≡◌, ◌<◌, ◌⊎◌, ℕ, zero, suc, true, List, Option, Some, inl, inr, refl, subst, sym}
use Rattle.zs_num.specs.declared.entry.Entry.{Entry}
use Rattle.zs_num.specs.declared.request.Request.{Request}
use Rattle.elf_load.specs.MemoryImage.{MemoryImage}
use Rattle.rv_decode.specs.declared.inst.Inst.{Inst}
use Rattle.rv_decode.specs.InstructionTable.{decoded}
use Rattle.rv_core.specs.declared.stint.Stint.{Stint}
use Rattle.rv_core.specs.CoreState.{CoreState}
use Rattle.rv_core.specs.Executions.{at}
use Rattle.rv_core.specs.Hits.{GoesOn, MakesFetch, MakesHit, Moment, RunsOn}
use Rattle.rv_core.specs.Sound.{IsSoundCore}
use Rattle.rv_core.specs.Asked.{is_idle}
use Rattle.rv_core.proofs.Kept.{IsReady, unfetched-whatever}
use Rattle.rv_core.proofs.Leading.{idle-ready, led-ready}
use Rattle.rv_core.proofs.Reached.{answered-kept, executed-keeps}

-- the core has another latest line, of which nothing is said while no instruction is fetched
at-line : (core : CoreState) (line : Option ℕ) → IsReady core → IsSoundCore (record core { fetched_line = line })
at-line core line r = let s = r.sound in record {
  registers = s.registers;
  zero = s.zero;
  reach = s.reach;
  served = s.served;
  paired = s.paired;
  ending = s.ending;
  few = s.few;
  alone = s.alone;
  waits = s.waits;
  aligned = s.aligned;
  fetched = s.fetched;
  line = unfetched-whatever _ core.is_fetched r.fetched;
}

module _ (ranges : (word : ℕ) (i : Inst) → decoded word ≡ Some i → (i.rd < 32) × (i.rs1 < 32) × (i.rs2 < 32)) (image : MemoryImage)
    (core : CoreState) (idle : is_idle core ≡ true) {Port : Type 0} (stint : Stint)
    (gives : Port → (start : ℕ) → Request → Entry → Port → Type 0) (core_of : Port → ℕ) (logged_of : Port → Option (List Entry)) where
  -- the core at a moment
  abbrev IsReadyAt : Moment Port → Type 0
  IsReadyAt moment = IsReady (at core moment.registers moment.pc)

  ran-ready : (before after : Moment Port) → RunsOn image core.memory stint gives core_of logged_of before after → IsReadyAt before → IsReadyAt after
  ran-ready before after runs ready =
      led-ready ranges image before.line runs.instructions core before.registers after.registers before.pc after.pc runs.leads ready

  hit-ready : (before after : Moment Port) → MakesHit image core.memory stint gives core_of logged_of before after → IsReadyAt before → IsReadyAt after
  hit-ready before after hit ready =
      let access = hit.access in
      let keeps = executed-keeps ranges image (at core before.registers before.pc) ready in
      let began = subst IsSoundCore (access.meets core refl) keeps.sound in
      let done = answered-kept access.reply _ began in
      record { sound = subst IsSoundCore (access.completes core idle) done.sound; halted = ready.halted; instruction = ready.instruction; fetched = ready.fetched }

  fetch-ready : (before after : Moment Port) → MakesFetch image core.memory stint gives core_of logged_of before after → IsReadyAt before → IsReadyAt after
  fetch-ready before after fetch ready =
      subst (λ r. IsReady (at core r after.pc)) (sym fetch.registers) (subst (λ p. IsReady (at core before.registers p)) (sym fetch.pc) ready)

  made-ready : (before after : Moment Port) → MakesHit image core.memory stint gives core_of logged_of before after ⊎ MakesFetch image core.memory stint gives core_of logged_of before after
      → IsReadyAt before → IsReadyAt after
  made-ready before after (inl hit) ready = hit-ready before after hit ready
  made-ready before after (inr fetch) ready = fetch-ready before after fetch ready

  went-ready : (n : ℕ) (before after : Moment Port) → GoesOn image core.memory stint gives core_of logged_of n before after → IsReadyAt before → IsReadyAt after
  went-ready zero before after runs ready = ran-ready before after runs ready
  went-ready (suc n) before after (s, (t, (path, (made, runs)))) ready =
      ran-ready t after runs (made-ready s t made (went-ready n before s path ready))

  pub went-sound : (n : ℕ) (before after : Moment Port) → GoesOn image core.memory stint gives core_of logged_of n before after
      → before.registers ≡ core.registers → before.pc ≡ core.pc → IsSoundCore core → (line : Option ℕ)
      → IsSoundCore (record core { registers = after.registers; pc = after.pc; fetched_line = line })
  went-sound n before after path registers pc sound line =
      let here = subst (λ r. IsReady (at core r before.pc)) (sym registers) (subst (λ p. IsReady (at core core.registers p)) (sym pc) (idle-ready core idle sound)) in
      at-line (at core after.registers after.pc) line (went-ready n before after path here)
