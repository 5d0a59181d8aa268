use Rattle.std.proofs.Common.{◌∙◌, ap, subst, sym}
use Rattle.rv_core.specs.CoreState.{CoreState}
use Rattle.rv_core.specs.Single.{met_by}
use Rattle.rv_core.specs.Sound.{IsSoundCore}
use Rattle.rv_core.proofs.Executes.{executed-executes}
use Rattle.rv_core.proofs.Fetches.{stepped-unfetching}
use Rattle.rv_core.proofs.Reached.{stepped-keeps}
use Rattle.rv_core.proofs.Begun.{begun-fetched, begun-fetching, begun-memory}
use Rattle.rv_core.proofs.state.Core.step_or_meet.Goals as goal

pub returns-clause-value : goal.returns-clause-value
returns-clause-value g c =
    c.execute_or_meet.ensures.value ∙ stepped-unfetching (g.P.Program.image c.args.program.now) c.args.self.now c.requires.there c.requires.unfetched

pub returns-clause-unfetched : goal.returns-clause-unfetched
returns-clause-unfetched g c =
    let image = g.P.Program.image c.args.program.now in
    sym (begun-fetched (met_by c.execute_or_meet.result) c.execute_or_meet.new.self) ∙ ap (λ (core : CoreState). core.is_fetched) c.execute_or_meet.ensures.value
    ∙ (executed-executes image c.args.self.now).fetched ∙ c.requires.unfetched

pub returns-clause-sound : goal.returns-clause-sound
returns-clause-sound g c =
    let keeps = stepped-keeps c.fields_are_in_range.ensures.registers (g.P.Program.image c.args.program.now) c.args.self.now c.requires.free c.execute_or_meet.ensures.sound in
    subst IsSoundCore (sym (returns-clause-value g c)) keeps.sound

pub returns-clause-memory : goal.returns-clause-memory
returns-clause-memory g c =
    let keeps = stepped-keeps c.fields_are_in_range.ensures.registers (g.P.Program.image c.args.program.now) c.args.self.now c.requires.free c.execute_or_meet.ensures.sound in
    sym (begun-memory (met_by c.execute_or_meet.result) c.execute_or_meet.new.self) ∙ ap (λ (core : CoreState). core.memory) (returns-clause-value g c) ∙ keeps.memory

pub returns-clause-fetching : goal.returns-clause-fetching
returns-clause-fetching g c =
    let keeps = stepped-keeps c.fields_are_in_range.ensures.registers (g.P.Program.image c.args.program.now) c.args.self.now c.requires.free c.execute_or_meet.ensures.sound in
    sym (begun-fetching (met_by c.execute_or_meet.result) c.execute_or_meet.new.self) ∙ ap (λ (core : CoreState). core.fetching) (returns-clause-value g c) ∙ keeps.fetching
