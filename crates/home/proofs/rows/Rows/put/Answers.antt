use Rattle.std.proofs.Common.{◌<◌, ◌∙◌, ℕ, List, length, set, ap, sym, subst, arith}
use Rattle.std.specs.Prelude.{vec_capacity}
use Rattle.home.specs.declared.row.Row.{Row}
use Rattle.home.specs.Chunks.{ArePlaced}
use Rattle.home.specs.RowChunks.{rows_in, unheld}
use Rattle.home.proofs.RowsPlaced.{are_kept, row_put, rows_are}
use Rattle.home.proofs.rows.Rows.put.Goals as goal

pub own-place-requires-clause-within : goal.own-place-requires-clause-within
own-place-requires-clause-within c =
    let s = c.self.inside in
    omega (arith, c.requires, ap length c.self.view_is, rows_are s.count s.chunks.places.items s.chunks.rows.items, c.self.invariant.all)

pub invariant_of-self : goal.invariant_of-self
invariant_of-self c =
    let now = c.own-place.new.self in
    record {
      all = omega (arith, c.self.invariant.all, c.own-place.ensures.count);
      chunks = subst (λ (at : ℕ). ArePlaced unheld 64 now.places.items (set now.rows.items at c.args.row) (vec_capacity now.rows)) (sym c.own-place.ensures.value)
          (are_kept c.own-place.ensures.are c.args.way c.own-place.ensures.own c.args.row);
    }

pub returns-clause-value : goal.returns-clause-value
returns-clause-value c =
    let s = c.self.inside in
    let now = c.own-place.new.self in
    let below : c.args.way < s.count = omega (arith, c.requires, ap length c.self.view_is, rows_are s.count s.chunks.places.items s.chunks.rows.items) in
    ap (λ (at : ℕ). rows_in s.count now.places.items (set now.rows.items at c.args.row)) c.own-place.ensures.value
    ∙ (row_put c.own-place.ensures.are c.args.way c.own-place.ensures.own c.args.row s.count below
    ∙ ap (λ (rows : List Row). set rows c.args.way c.args.row) (c.own-place.ensures.same s.count ∙ c.self.view_is))

pub returns-clause-length : goal.returns-clause-length
returns-clause-length c = rows_are c.self.inside.count c.own-place.new.self.places.items _ ∙ sym (sym (ap length c.self.view_is) ∙ rows_are c.self.inside.count c.self.inside.chunks.places.items c.self.inside.chunks.rows.items)
