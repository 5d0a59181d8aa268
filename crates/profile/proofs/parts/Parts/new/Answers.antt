use Rattle.std.proofs.Common.{List, ap}
use Rattle.profile.specs.declared.contribution.Maker.{Maker}
use Rattle.profile.specs.Makers.{queue_at}
use Rattle.profile.proofs.parts.Parts.new.Goals as goal

pub returns : goal.returns
returns c = λ time cores. record {
  copies = c.new.ensures;
  makers = λ core. ap (λ (queues : List (List Maker)). queue_at queues core) c.new-2.ensures.items;
  rows = c.new-3.ensures;
}
