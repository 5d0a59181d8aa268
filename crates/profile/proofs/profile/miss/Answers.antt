use Rattle.profile.proofs.profile.miss.Goals as goal

pub returns-clause-series : goal.returns-clause-series
returns-clause-series c = λ s is. c.accessed.ensures s _ c.in_ok-met.ensures.met is
