use Rattle.std.proofs.Common.{◌&&◌, ℕ, Bool, not, ◌/◌, ◌%◌, List, Option, sym, ap, ◌∙◌, arith}
use Rattle.flat_memory.specs.FlatMemory.{number_in}
use Rattle.cache_set.specs.LetterFacts.{is_alone}
use Rattle.l1_cache.specs.declared.near.Kept.{Kept}
use Rattle.l1_cache.specs.L1State.{Copy, L1State, letter_of, set_free_in}
use Rattle.l1_cache.specs.Layout.{l1_view}
use Rattle.l1_cache.proofs.Copies.{bytes_read, kept_read}
use Rattle.l1_cache.proofs.Views.{copy_nowhere, copy_there, parts_written, set_free_then, within}
use Rattle.l1_cache.proofs.l1.L1.load_shared.Goals as goal

pub invariant_of-self : goal.invariant_of-self
invariant_of-self c = parts_written c.self.invariant c.set_free.ensures.ways c.set_free.ensures.same

pub returns-in-Some-clause-reply : goal.returns-in-Some-clause-reply
returns-in-Some-clause-reply c =
    let was = c.self.invariant in
    let line = c.args.addr / 64 in
    let p = c.in-Some.place in
    let below = within was line p c.in-Some.ensures.here in
    let read = bytes_read c.self.inside.bytes.items p c.index-in-Some.result.now (omega (arith, below, was.bytes_are)) c.index-in-Some.ensures in
    rw (← c.self.view_is, copy_there was line p c.in-Some.ensures.here)
    (c.read.ensures ∙ ap (λ (b : List ℕ). number_in b (c.args.addr % 64) c.args.width) (sym read))

pub returns-in-Some-clause-after : goal.returns-in-Some-clause-after
returns-in-Some-clause-after c =
    let was = c.self.invariant in
    let w = c.self.inside.ways in
    let line = c.args.addr / 64 in
    let p = c.in-Some.place in
    let here = c.in-Some.ensures.here in
    let view : L1State = l1_view w c.self.inside.bytes.items c.self.inside.instructions in
    let below = within was line p here in
    let kept = kept_read w.kept.items p c.index.result.now (omega (arith, below, was.ways.kept_are)) c.index.ensures in
    rw (← c.self.view_is)
    (set_free_then was c.set_free.ensures.ways c.set_free.ensures.same line p c.is_free-free.result here c.set_free.ensures.kept
    ∙ ap (λ (f : Bool). set_free_in line f view)
    (c.is_free-free.ensures
    ∙ (ap (λ (k : Kept). is_alone k.letter && not c.args.marked) (sym kept)
    ∙ sym (ap (λ (o : Option Copy). is_alone (letter_of o) && not c.args.marked) (copy_there was line p here)))))

pub returns-in-None-clause-reply : goal.returns-in-None-clause-reply
returns-in-None-clause-reply c =
    let there = rw (← c.self.view_is, copy_nowhere c.self.invariant (c.args.addr / 64) c.in-None.ensures.none) at c.requires.there in
    absurd cc

pub returns-in-None-clause-after : goal.returns-in-None-clause-after
returns-in-None-clause-after c =
    let there = rw (← c.self.view_is, copy_nowhere c.self.invariant (c.args.addr / 64) c.in-None.ensures.none) at c.requires.there in
    absurd cc
