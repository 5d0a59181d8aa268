use Rattle.std.proofs.Common.{◌∙◌, length, ap, arith}
use Rattle.mesi_dir.specs.CoreSets.{without_core}
use Rattle.home.specs.HomeState.{HomeLine}
use Rattle.home.proofs.RowsPlaced.{are_changed, row_changed, rows_are}
use Rattle.home.proofs.rows.Rows.remove_fetcher.Goals as goal

pub own-place-requires-clause-within : goal.own-place-requires-clause-within
own-place-requires-clause-within c =
    let s = c.self.inside in
    omega (arith, c.requires.way, ap length c.self.view_is, rows_are s.count s.chunks.places.items s.chunks.rows.items, c.self.invariant.all)

pub invariant_of-self : goal.invariant_of-self
invariant_of-self c = record {
  all = omega (arith, c.self.invariant.all, c.own-place.ensures.count);
  chunks = are_changed c.own-place.ensures.are c.args.way c.own-place.ensures.own c.own-place.result c.own-place.ensures.value c.remove_fetcher.new.self;
}

pub returns-clause-changed : goal.returns-clause-changed
returns-clause-changed c =
    let count = c.self.inside.count in
    row_changed c.own-place.ensures.are c.args.way c.own-place.ensures.own c.own-place.result c.own-place.ensures.value count c.args.self.now
    (c.own-place.ensures.same count ∙ c.self.view_is) c.requires.way (λ (row : HomeLine). record row { fetchers = without_core c.args.core row.fetchers })
    c.index_mut.result.now c.remove_fetcher.new.self c.index_mut.ensures.value c.remove_fetcher.ensures

pub returns-clause-length : goal.returns-clause-length
returns-clause-length c =
    let s = c.self.inside in
    omega (arith, ap length c.self.view_is, rows_are s.count s.chunks.places.items s.chunks.rows.items, rows_are s.count c.own-place.new.self.places.items)
