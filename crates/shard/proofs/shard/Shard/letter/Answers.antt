use Rattle.std.proofs.Common.{◌<◌, ◌≤◌, length, sym, ◌∙◌}
use borrow.Author.Tests.{ltb-true, ltb-false}
use Rattle.shard.specs.BankSteps.{bank_with}
use Rattle.shard.proofs.ShardSeen.{letter_elsewhere, letter_in, letter_past}
use Rattle.shard.proofs.shard.Shard.letter.Goals as goal

pub returns-then-is_own : goal.returns-then-is_own
returns-then-is_own c =
    let found = rw (c.from.ensures, c.deref.ensures.value) at c.in-Some.ensures.lookup in
    let within : c.args.core < length c.self.inside.l1s.items = ltb-true _ _ (sym found.0) in
    c.letter.ensures ∙ letter_in (bank_with c.self.inside.home c.self.inside.l1s.items) c.self.inside.last c.args.self.now c.self.invariant.parts c.self.view_is c.args.line c.args.core c.in-Some.l1.now (sym c.is_own.ensures ∙ c.if-is_own.true) within found.1

pub returns-else-is_own : goal.returns-else-is_own
returns-else-is_own c = letter_elsewhere (bank_with c.self.inside.home c.self.inside.l1s.items) c.self.inside.last c.args.self.now c.self.invariant.parts c.self.view_is c.args.line c.args.core (sym c.is_own.ensures ∙ c.if-is_own.false)

pub returns-in-None : goal.returns-in-None
returns-in-None c =
    let found = rw (c.from.ensures, c.deref.ensures.value) at c.in-None.ensures.lookup in
    let past : length c.self.inside.l1s.items ≤ c.args.core = ltb-false _ _ (sym found.0) in
    letter_past (bank_with c.self.inside.home c.self.inside.l1s.items) c.self.inside.last c.args.self.now c.self.invariant.parts c.self.view_is c.args.line c.args.core past
