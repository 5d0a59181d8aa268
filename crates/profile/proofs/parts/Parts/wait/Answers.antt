use Rattle.profile.specs.declared.parts.Parts.{Parts}
use Rattle.profile.proofs.Serving.{serving_more}
use Rattle.profile.proofs.parts.Parts.wait.Goals as goal

pub returns-clause-waits : goal.returns-clause-waits
returns-clause-waits c =
    let new : Parts = record { copies = c.args.self.now.copies; makers = c.let_go.new.makers; rows = c.give.new.rows } in
    serving_more c.args.event.now c.args.fired.now c.args.self.now new c.first_of-first.result c.first_of-first.ensures c.in_ok-give.ensures c.let_go.ensures
