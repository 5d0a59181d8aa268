use Rattle.std.proofs.Common.{◌≡◌, ℕ, List, Option, None, Some, IfSome, true, refl, subst, sym}
use Rattle.elf_load.specs.MemoryImage.{MemoryImage}
use Rattle.rv_core.specs.declared.memory_range.MemoryRange.{MemoryRange}
use Rattle.rv_core.specs.declared.single.Single.{Single}
use Rattle.rv_core.specs.CoreState.{CoreState}
use Rattle.rv_core.specs.Asked.{is_idle}
use Rattle.rv_core.specs.Executions.{at, Meets}
use Rattle.rv_core.specs.Single.{begun}
use Rattle.rv_core.specs.Step.{executed}
use Rattle.rv_core.proofs.Going.{went-sound}
use Rattle.rv_core.proofs.state.Core.run_hits.Goals as goal

pub invariant_of-self : goal.invariant_of-self
invariant_of-self g c =
    let idle = subst (λ (s : CoreState). is_idle s ≡ true) (sym c.self.view_is) c.requires.idle in
    let gone = c.run_hits-came.ensures.gone in (
      went-sound c.fields_are_in_range.ensures.registers (g.P.Program.image c.args.program.now) _ idle c.args.stint.now g.Q.Port.gives g.Q.Port.core g.Q.Port.logged
          c.run_hits-came.result.accesses _ _ gone.path refl refl c.self.invariant.0 c.if-self-2.self,
      c.self.invariant.1,
    )

pub returns-clause-sound : goal.returns-clause-sound
returns-clause-sound g c = (invariant_of-self g c).0

-- the core itself makes the access that any core at its registers makes
meets_itself : (image : MemoryImage) (memory : MemoryRange) (registers : List ℕ) (pc : ℕ) (met : Option Single) (core : CoreState) → at core registers pc ≡ core → core.memory ≡ memory
    → IfSome met (λ single. Meets image memory registers pc single) → IfSome met (λ single. executed image core ≡ begun single core)
meets_itself image memory registers pc None core is same meets = tt
meets_itself image memory registers pc (Some single) core is same meets = subst (λ (s : CoreState). executed image s ≡ begun single s) is (meets core same)

pub returns-clause-met : goal.returns-clause-met
returns-clause-met g c =
    let came = c.run_hits-came in
    meets_itself (g.P.Program.image c.args.program.now) c.self.inside.memory came.new.registers came.result.pc came.result.met _ refl refl came.ensures.met
