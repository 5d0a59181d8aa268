use Rattle.std.proofs.Common.{◌∙◌, ap, subst, sym}
use Rattle.rv_core.specs.CoreState.{CoreState}
use Rattle.rv_core.specs.Sound.{IsSoundCore}
use Rattle.rv_core.specs.Step.{asks_for_instruction, executed, unfetched}
use Rattle.rv_core.proofs.Executes.{executed-executes}
use Rattle.rv_core.proofs.Reached.{asking-keeps, executing-keeps}
use Rattle.rv_core.proofs.state.Core.step_fetching.Goals as goal

pub returns-then-needs_fetch-clause-sound : goal.returns-then-needs_fetch-clause-sound
returns-then-needs_fetch-clause-sound g c =
    let value = c.begin_fetch.ensures ∙ ap asks_for_instruction c.needs_fetch.ensures.same in
    let needs = sym c.needs_fetch.ensures.value ∙ c.if-needs_fetch.true in
    subst IsSoundCore (sym value) (asking-keeps (g.P.Program.image c.args.program.now) c.args.self.now c.requires.free c.needs_fetch.ensures.sound needs).sound

pub returns-clause-sound : goal.returns-clause-sound
returns-clause-sound g c =
    let image = g.P.Program.image c.args.program.now in
    let unfetched_is = c.begin_execution.ensures.value ∙ ap unfetched c.needs_fetch.ensures.same in
    let value = c.fetch_and_execute.ensures.value ∙ ap (executed image) unfetched_is in
    let keeps = executing-keeps c.fields_are_in_range.ensures.registers image c.args.self.now c.requires.free c.needs_fetch.ensures.sound in
    subst IsSoundCore (sym value) keeps.sound

pub returns-clause-unfetched : goal.returns-clause-unfetched
returns-clause-unfetched g c =
    let image = g.P.Program.image c.args.program.now in
    let unfetched_is = c.begin_execution.ensures.value ∙ ap unfetched c.needs_fetch.ensures.same in
    let value = c.fetch_and_execute.ensures.value ∙ ap (executed image) unfetched_is in
    ap (λ (core : CoreState). core.is_fetched) value ∙ (executed-executes image (unfetched c.args.self.now)).fetched

pub returns-clause-memory : goal.returns-clause-memory
returns-clause-memory g c =
    let image = g.P.Program.image c.args.program.now in
    let unfetched_is = c.begin_execution.ensures.value ∙ ap unfetched c.needs_fetch.ensures.same in
    let value = c.fetch_and_execute.ensures.value ∙ ap (executed image) unfetched_is in
    let keeps = executing-keeps c.fields_are_in_range.ensures.registers image c.args.self.now c.requires.free c.needs_fetch.ensures.sound in
    ap (λ (core : CoreState). core.memory) value ∙ keeps.memory

pub returns-clause-fetching : goal.returns-clause-fetching
returns-clause-fetching g c =
    let image = g.P.Program.image c.args.program.now in
    let unfetched_is = c.begin_execution.ensures.value ∙ ap unfetched c.needs_fetch.ensures.same in
    let value = c.fetch_and_execute.ensures.value ∙ ap (executed image) unfetched_is in
    let keeps = executing-keeps c.fields_are_in_range.ensures.registers image c.args.self.now c.requires.free c.needs_fetch.ensures.sound in
    ap (λ (core : CoreState). core.fetching) value ∙ keeps.fetching
