-- The word may follow the one that is known, and its parent's finish is kept.
use Rattle.std.proofs.Common.{◌≡◌, ◌<◌, ℕ, List, Option, Some, length, set, get_or, slice_get, sym, ◌∙◌, ap, subst, refl, arith}
use Rattle.domain_map.specs.declared.crossing.Crossing.{Crossing}
use Rattle.weave_core.specs.DomainMachine.{word_at}
use Rattle.weave_tests.specs.KeptOfDomain.{KeptOfDomain}
use Rattle.weave_tests.proofs.Keeping.{keeps_word}
use Rattle.weave_tests.proofs.Serving.{there_at}
use Rattle.weave_tests.proofs.driven.Driven.tell.Goals as goal

pub invariant_of-self : goal.invariant_of-self
invariant_of-self c =
    let none : Crossing = record { parent = 0; child = 0; source = 0; target = 0; delay = 0 } in
    let x : Crossing = get_or c.crossings-crossings.result.now c.args.number none in
    let same : c.crossings-crossings.result.now ≡ c.args.self.now.parts.now.crossings = c.crossings-crossings.ensures in
    let there : slice_get c.args.self.now.parts.now.crossings c.args.number ≡ Some x =
    ap (λ (xs : List Crossing). slice_get xs c.args.number) (sym same) ∙ there_at c.crossings-crossings.result.now c.args.number none (omega (arith, c.if-index-crossings.false))
    in
    let within : c.args.number < length c.args.self.now.known.items = omega (arith, c.len.ensures, c.if-index-len.false, c.args.self.now.known.ok.0) in
    let parent_within : x.parent < length c.args.self.now.told.items = omega (arith, c.len-else-crossing-self.ensures, c.if-parent-len.false, c.args.self.now.told.ok.0) in
    let told : slice_get c.args.self.now.told.items x.parent ≡ Some c.index-told.result.now =
    there_at c.args.self.now.told.items x.parent _ parent_within ∙ ap (λ (o : Option ℕ). Some o) (sym c.index-told.ensures)
    in
    record {
      keeps =
          subst (λ (o : Option ℕ). KeptOfDomain c.args.self.now.graph.now c.args.self.now.parts.now c.args.self.now.number c.look.new.self (set c.args.self.now.known.items c.args.number c.args.word) (set c.args.self.now.told.items x.parent o) c.args.self.now.floor c.args.self.now.busy) (sym c.told_after.ensures)
          (keeps_word c.args.self.now.graph.now c.args.self.now.parts.now c.args.self.now.number c.args.self.now.domain c.args.self.now.known.items c.args.self.now.told.items c.args.self.now.floor c.args.self.now.busy
          c.args.self.now.keeps c.args.number x there (word_at c.args.self.now.known.items c.args.number) c.args.word refl c.index-told.result.now told (c.agrees.ensures c.if-not-agrees.false) c.look.new.self within c.look.ensures);
    }
