use Rattle.std.proofs.Common.{◌≡◌, ◌++◌, sym, ap, arith, drop, is_some, length, take, ◌∙◌}
use Rattle.std.proofs.Math.Seq.{take-append_seam}
use Rattle.std.specs.List.{count_by}
use Rattle.flat_memory.specs.FlatMemory.{after_write}
use Rattle.home.proofs.Unmarked.{unmarked_stay}
use Rattle.home.proofs.marks.Marks.end_others.Goals as goal

pub returns-else-self-ne0-clause-value : goal.returns-else-self-ne0-clause-value
returns-else-self-ne0-clause-value c = sym (unmarked_stay c.args.core c.args.addr c.args.self.now (ap (count_by is_some) (sym c.self.view_is) ∙ (sym c.self.invariant ∙ c.if-self-ne0.false)))

pub returns-then-self-ne0-clause-value : goal.returns-then-self-ne0-clause-value
returns-then-self-ne0-clause-value c =
    let others = c.end_others.new.reservations in
    let all : c.self.inside.list.len ≡ length others = omega arith in
    ap (λ n. take n (others ++ drop (length others) c.self.inside.list.items)) all
    ∙ (take-append_seam others (drop (length others) c.self.inside.list.items)
    ∙ (c.end_others.ensures ∙ ap (after_write c.args.core c.args.addr) (c.deref_mut.ensures.value ∙ c.self.view_is)))
