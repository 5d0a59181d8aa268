use Rattle.std.proofs.Common.{◌∙◌}
use Rattle.std.proofs.lemmas.List.{length-set}
use Rattle.l1_cache.proofs.Views.{answered_then, copy_nowhere, parts_written}
use Rattle.l1_cache.proofs.l1.L1.answer.Goals as goal

pub invariant_of-self : goal.invariant_of-self
invariant_of-self c =
    let was = c.self.invariant in
    let now = parts_written was c.set_free.ensures.ways c.set_free.ensures.same in
    record {
      ways = now.ways;
      bytes_are = length-set c.self.inside.bytes.items c.in-Some.place c.copy_from_slice.new.self ∙ now.bytes_are;
      instructions = now.instructions;
    }

pub returns-in-Some : goal.returns-in-Some
returns-in-Some c =
    rw (← c.self.view_is)
    (answered_then c.self.invariant c.set_free.ensures.ways c.set_free.ensures.same c.args.line c.in-Some.place c.args.free c.in-Some.ensures.here c.set_free.ensures.kept
    c.copy_from_slice.new.self c.args.bytes.now c.copy_from_slice.ensures.after)

pub returns-in_default : goal.returns-in_default
returns-in_default c =
    let there = rw (← c.self.view_is, copy_nowhere c.self.invariant c.args.line c.in_default.ensures.none) at c.requires.there in
    absurd cc
