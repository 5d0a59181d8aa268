use Rattle.std.proofs.Common.{arith, refl, sym, ◌∙◌, ◌≡◌, length}
use Rattle.std.specs.Prelude.{vec_capacity}
use Rattle.home.proofs.LinesPlaced.{big, none_written}
use Rattle.home.proofs.Placed.{are_first}
use Rattle.home.proofs.lines.Chunks.new.Goals as goal

pub returns-clause-are : goal.returns-clause-are
returns-clause-are c =
    let long : length c.resize.new.self.items ≡ 4096 = omega (arith, c.in_ok-resize.ensures.len) in
    let each = c.in_ok-resize.ensures.by_index.1 in
    are_first 0 4096 big c.in_ok-places.places.items c.resize.new.self.items c.args.count (c.in_ok-places.ensures.items_if_clones_equal (λ y e. e)) long
    (λ at l. each at 0 refl (omega (arith, c.in_ok-bytes.ensures.len)) l ∙ sym (each 0 0 refl (omega (arith, c.in_ok-bytes.ensures.len)) (omega arith)))
    (vec_capacity c.resize.new.self) (omega (arith, long, c.in_ok-bytes.ensures.capacity, c.in_ok-resize.ensures.capacity)) refl

pub returns-clause-zeros : goal.returns-clause-zeros
returns-clause-zeros c =
    none_written c.in_ok-places.places.items c.resize.new.self.items c.args.count (c.in_ok-places.ensures.items_if_clones_equal (λ y e. e))
    (λ at l. c.in_ok-resize.ensures.by_index.1 at 0 refl (omega (arith, c.in_ok-bytes.ensures.len)) l)
