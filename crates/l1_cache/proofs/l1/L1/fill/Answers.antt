use Rattle.std.proofs.Common.{◌≡◌, false, get_or, ◌∙◌}
use Rattle.std.proofs.lemmas.List.{length-set}
use Rattle.l1_cache.specs.Layout.{no_kept}
use Rattle.l1_cache.proofs.Views.{copy_nowhere, copy_there, given}
use Rattle.l1_cache.proofs.l1.L1.fill.Goals as goal

pub invariant_of-self : goal.invariant_of-self
invariant_of-self c =
    let was = c.self.invariant in
    record {
      ways = was.ways;
      bytes_are = length-set c.self.inside.bytes.items c.in-Some.place c.copy_from_slice.new.self ∙ was.bytes_are;
      instructions = was.instructions;
    }

pub returns-in-Some : goal.returns-in-Some
returns-in-Some c =
    let was = c.self.invariant in
    let line = c.args.line in
    let p = c.in-Some.place in
    let here = c.in-Some.ensures.here in
    let closed : (get_or c.self.inside.ways.kept.items p no_kept).free ≡ false
    = rw (← c.self.view_is, copy_there was line p here) at c.requires.closed in
    rw (← c.self.view_is) (given was line p here closed c.copy_from_slice.new.self c.args.bytes.now c.copy_from_slice.ensures.after)

pub returns-in_default : goal.returns-in_default
returns-in_default c =
    let there = rw (← c.self.view_is, copy_nowhere c.self.invariant c.args.line c.in_default.ensures.none) at c.requires.there in
    absurd cc
