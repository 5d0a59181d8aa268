use Rattle.std.proofs.Common.{arith, refl, ◌≡◌, ◌∙◌, length, sym}
use Rattle.std.specs.Prelude.{vec_capacity}
use Rattle.home.specs.RowChunks.{unheld}
use Rattle.home.proofs.Placed.{are_first}
use Rattle.home.proofs.RowsPlaced.{big}
use Rattle.home.proofs.rows.Chunks.new.Goals as goal

pub returns-clause-are : goal.returns-clause-are
returns-clause-are c =
    let long : length c.resize.new.self.items ≡ 64 = omega (arith, c.in_ok-resize.ensures.len) in
    let each = c.in_ok-resize.ensures.by_index.1 in
    are_first unheld 64 big c.in_ok-places.places.items c.resize.new.self.items c.args.count (c.in_ok-places.ensures.items_if_clones_equal (λ y e. e)) long
    (λ at l. each at unheld refl (omega (arith, c.in_ok-rows.ensures.len)) l ∙ sym (each 0 unheld refl (omega (arith, c.in_ok-rows.ensures.len)) (omega arith)))
    (vec_capacity c.resize.new.self) (omega (arith, long, c.in_ok-rows.ensures.capacity, c.in_ok-resize.ensures.capacity)) refl
