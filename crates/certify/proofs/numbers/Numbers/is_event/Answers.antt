use Rattle.std.proofs.Common.{◌∙◌}
use Rattle.certify.proofs.Known.{event_known, event_meant, event_served}
use Rattle.certify.proofs.numbers.Numbers.is_event.Goals as goal

pub returns-then-has_meaning : goal.returns-then-has_meaning
returns-then-has_meaning c =
    event_served c.args.comps.now c.args.place c.args.self.now c.in-Some.kind c.is_served.result c.in-Some.ensures c.if-has_meaning.ensures c.is_served.ensures

pub returns-else-has_meaning : goal.returns-else-has_meaning
returns-else-has_meaning c = c.if-has_meaning.false ∙ event_meant c.args.comps.now c.args.place c.args.self.now c.if-has_meaning.ensures

pub returns-in-None : goal.returns-in-None
returns-in-None c = event_known c.args.comps.now c.args.place c.args.self.now c.in-None.ensures
