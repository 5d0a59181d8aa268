use Rattle.std.proofs.Common.{◌≡◌, ◌∙◌, ◌+◌, ◌++◌, ◌∷◌, [], ℤ, List, drop, Some, sym, ap, append-nil, rules}
use Rattle.std.proofs.lemmas.List.{at_drop_all}
use Rattle.toml.specs.View.{items_view}
use Rattle.machine_desc.specs.Text.{integers_of}
use Rattle.machine_desc.proofs.Documents.{before, before_next}
use Rattle.machine_desc.proofs.document.array_integers.Goals as goal

pub loop-element-preserved : goal.loop-element-preserved
loop-element-preserved c =
    let values = c.deref-element-items.result.now in
    let i = c.loop-element.element-index in
    let integers : List ℤ = c.loop-element.integers.items in
    let one = c.in-Some-as_integer in
    let pushed : c.push.new.self.items ≡ integers ++ one.integer ∷ [] = search rules in
    c.loop-element.invariant
    ∙ before_next integers values i c.element-item.result one.integer c.loop-element-test.true c.element-item.is (sym one.ensures)
    ∙ ap (λ (more : List ℤ). before more (integers_of (items_view (drop (i + 1) values)))) (sym pushed)

pub returns : goal.returns
returns c =
    let values = c.deref-element-items.result.now in
    let integers : List ℤ = c.loop-element.integers.items in
    let rest = at_drop_all (λ vs. before integers (integers_of (items_view vs))) values c.loop-element.element-index c.loop-element-test.false in
    let whole : integers_of (items_view values) ≡ Some integers = c.loop-element.invariant ∙ rest ∙ ap Some (append-nil integers) in
    rw (← c.in-Some.ensures, ← c.deref-element-items.ensures.value) (sym whole)
