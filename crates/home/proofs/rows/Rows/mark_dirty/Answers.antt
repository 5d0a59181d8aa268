use Rattle.std.proofs.Common.{true, ◌∙◌, length, ap, arith}
use Rattle.home.specs.HomeState.{HomeLine}
use Rattle.home.proofs.RowsPlaced.{are_changed, row_changed, rows_are}
use Rattle.home.proofs.rows.Rows.mark_dirty.Goals as goal

pub own-place-requires-clause-within : goal.own-place-requires-clause-within
own-place-requires-clause-within c =
    let s = c.self.inside in
    omega (arith, c.requires, ap length c.self.view_is, rows_are s.count s.chunks.places.items s.chunks.rows.items, c.self.invariant.all)

pub invariant_of-self : goal.invariant_of-self
invariant_of-self c = record {
  all = omega (arith, c.self.invariant.all, c.own-place.ensures.count);
  chunks = are_changed c.own-place.ensures.are c.args.way c.own-place.ensures.own c.own-place.result c.own-place.ensures.value c.mark_dirty.new.self;
}

pub returns-clause-changed : goal.returns-clause-changed
returns-clause-changed c =
    let count = c.self.inside.count in
    row_changed c.own-place.ensures.are c.args.way c.own-place.ensures.own c.own-place.result c.own-place.ensures.value count c.args.self.now
    (c.own-place.ensures.same count ∙ c.self.view_is) c.requires (λ (row : HomeLine). record row { dirty = true })
    c.index_mut.result.now c.mark_dirty.new.self c.index_mut.ensures.value c.mark_dirty.ensures

pub returns-clause-length : goal.returns-clause-length
returns-clause-length c =
    let s = c.self.inside in
    omega (arith, ap length c.self.view_is, rows_are s.count s.chunks.places.items s.chunks.rows.items, rows_are s.count c.own-place.new.self.places.items)
