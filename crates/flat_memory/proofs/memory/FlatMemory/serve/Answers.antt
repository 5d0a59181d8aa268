use Rattle.std.proofs.Common.{◌∙◌, ap, sym}
use Rattle.flat_memory.specs.FlatMemory.{memory_after, memory_reply}
use Rattle.flat_memory.proofs.memory.FlatMemory.serve.Goals as goal

pub returns-in-Sc-clause-reply : goal.returns-in-Sc-clause-reply
returns-in-Sc-clause-reply c =
    c.store_conditional.ensures.reply c.in-Sc.paired ∙ ap (memory_reply c.args.self.now c.args.core) (sym c.in-Sc.is)

pub returns-in-Sc-clause-after : goal.returns-in-Sc-clause-after
returns-in-Sc-clause-after c =
    c.store_conditional.ensures.after c.in-Sc.paired ∙ ap (memory_after c.args.self.now c.args.core) (sym c.in-Sc.is)

pub returns-in-Amo-clause-reply : goal.returns-in-Amo-clause-reply
returns-in-Amo-clause-reply c = c.number-old.ensures ∙ ap (memory_reply c.args.self.now c.args.core) (sym c.in-Amo.is)
