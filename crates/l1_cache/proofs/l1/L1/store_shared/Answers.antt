use Rattle.std.proofs.Common.{◌≡◌, ◌&&◌, ℕ, Bool, not, ◌/◌, ◌%◌, List, [], Option, get_or, sym, ap, ◌∙◌, arith}
use Rattle.std.specs.Option.{option_map_or}
use Rattle.std.proofs.lemmas.List.{length-set}
use Rattle.flat_memory.specs.FlatMemory.{with_number}
use Rattle.cache_set.specs.LetterFacts.{is_alone}
use Rattle.l1_cache.specs.declared.near.Kept.{Kept}
use Rattle.l1_cache.specs.L1State.{Copy, L1State, answered_in, copy_at, letter_of, written_in}
use Rattle.l1_cache.specs.Layout.{l1_view}
use Rattle.l1_cache.proofs.Copies.{bytes_read, kept_read}
use Rattle.l1_cache.proofs.Views.{answered_then, copy_nowhere, copy_there, parts_written, within}
use Rattle.l1_cache.proofs.l1.L1.store_shared.Goals as goal

pub invariant_of-self : goal.invariant_of-self
invariant_of-self c =
    let was = c.self.invariant in
    let now = parts_written was c.set_free.ensures.ways c.set_free.ensures.same in
    record {
      ways = now.ways;
      bytes_are = length-set c.self.inside.bytes.items c.in-Some.place c.write.new.bytes ∙ now.bytes_are;
      instructions = now.instructions;
    }

pub returns-in-Some : goal.returns-in-Some
unfolding written_in
returns-in-Some c =
    let was = c.self.invariant in
    let w = c.self.inside.ways in
    let p = c.in-Some.place in
    let here = c.in-Some.ensures.here in
    let line : ℕ = c.args.addr / 64 in
    let at : ℕ = c.args.addr % 64 in
    let bytes = c.self.inside.bytes.items in
    let view : L1State = l1_view w bytes c.self.inside.instructions in
    let below = within was line p here in
    let kept = kept_read w.kept.items p c.index.result.now (omega (arith, below, was.ways.kept_are)) c.index.ensures in
    let read = bytes_read bytes p c.index_mut.result.now (omega (arith, below, was.bytes_are)) c.index_mut.ensures.value in
    let free : c.is_free-free.result ≡ (is_alone (letter_of (copy_at view line)) && not c.args.marked)
    = c.is_free-free.ensures
    ∙ (ap (λ (k : Kept). is_alone k.letter && not c.args.marked) (sym kept)
    ∙ sym (ap (λ (o : Option Copy). is_alone (letter_of o) && not c.args.marked) (copy_there was line p here))) in
    let b : c.write.new.bytes ≡ with_number (get_or bytes p []) at c.args.width c.args.value
    = c.write.ensures.value ∙ ap (λ (l : List ℕ). with_number l at c.args.width c.args.value) (sym read) in
    rw (← c.self.view_is)
    (answered_then was c.set_free.ensures.ways c.set_free.ensures.same line p c.is_free-free.result here c.set_free.ensures.kept c.write.new.bytes (with_number (get_or bytes p []) at c.args.width c.args.value) b
    ∙ (sym (ap (λ (o : Option Copy). option_map_or (λ copy. answered_in line (with_number copy.bytes at c.args.width c.args.value) c.is_free-free.result view) o view) (copy_there was line p here))
    ∙ ap (λ (f : Bool). written_in c.args.addr c.args.width c.args.value f view) free))

pub returns-in_default : goal.returns-in_default
returns-in_default c =
    let there = rw (← c.self.view_is, copy_nowhere c.self.invariant (c.args.addr / 64) c.in_default.ensures.none) at c.requires.there in
    absurd cc
