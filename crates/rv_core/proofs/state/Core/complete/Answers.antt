use Rattle.std.proofs.Common.{◌∙◌, ap, subst, sym}
use Rattle.rv_core.specs.CoreState.{CoreState}
use Rattle.rv_core.specs.Single.{begun}
use Rattle.rv_core.specs.Sound.{IsSoundCore}
use Rattle.rv_core.proofs.Reached.{answered-kept}
use Rattle.rv_core.proofs.state.Core.complete.Goals as goal

pub returns-clause-sound : goal.returns-clause-sound
returns-clause-sound c =
    subst IsSoundCore (sym c.finish.ensures) (answered-kept c.args.reply (begun c.args.single c.args.self.now) c.requires).sound

pub returns-clause-memory : goal.returns-clause-memory
returns-clause-memory c =
    ap (λ (core : CoreState). core.memory) c.finish.ensures ∙ (answered-kept c.args.reply (begun c.args.single c.args.self.now) c.requires).memory

pub returns-clause-fetching : goal.returns-clause-fetching
returns-clause-fetching c =
    ap (λ (core : CoreState). core.fetching) c.finish.ensures ∙ (answered-kept c.args.reply (begun c.args.single c.args.self.now) c.requires).fetching
