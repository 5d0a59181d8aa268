use Rattle.std.proofs.Common.{sym, ◌∙◌, ap}
use Rattle.profile.specs.Profiled.{Profiled, has_address}
use Rattle.profile.specs.Rows.{is_something}
use Rattle.profile.proofs.AddressesTold.{count_tells, tally_tells}
use Rattle.profile.proofs.Right.{profiled}
use Rattle.profile.proofs.profile.Profile.has_address.Goals as goal

pub returns-then-get-ne0 : goal.returns-then-get-ne0
returns-then-get-ne0 c =
    let p = c.self.inside in
    let q : Profiled = profiled p.net.path p.cores p.comps p.every p.told.steps in
    count_tells q p.instructions p.parts p.series c.self.invariant c.args.core c.args.pc c.get.result c.get.ensures c.if-get-ne0.true
    ∙ ap (λ (s : Profiled). has_address s c.args.core c.args.pc) c.self.view_is

pub returns-else-get-ne0 : goal.returns-else-get-ne0
returns-else-get-ne0 c =
    let p = c.self.inside in
    let q : Profiled = profiled p.net.path p.cores p.comps p.every p.told.steps in
    c.is_something.ensures ∙ ap is_something c.value_at.ensures
    ∙ tally_tells q p.instructions p.parts p.series c.self.invariant c.args.core c.args.pc (sym c.get.ensures ∙ c.if-get-ne0.false)
    ∙ ap (λ (s : Profiled). has_address s c.args.core c.args.pc) c.self.view_is
