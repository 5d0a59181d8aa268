use Rattle.std.proofs.Common.{get_or, false, true, sym, ap, ◌∙◌, refl}
use Rattle.mesi_dir.specs.CoreSets.{without_core}
use Rattle.home.specs.HomeState.{HomeLine, dropped_in, marked_dirty_in}
use Rattle.home.specs.declared.row.Row.{Row}
use Rattle.home.specs.RowChunks.{unheld}
use Rattle.home.specs.Layout.{way_place}
use Rattle.home.proofs.Homes.{home_with, in_row, row_changed_twice_there, same_nowhere}
use Rattle.home.proofs.home.Home.drop_writer.Goals as goal

pub returns-in-Some : goal.returns-in-Some
unfolding dropped_in marked_dirty_in
returns-in-Some c =
    let s = c.self.inside in
    let mid : Row = record (get_or s.rows c.in-Some.row unheld) { dirty = true } in
    rw (← c.self.view_is)
    (ap (home_with s.met.dealt.number s.met.dealt.shards s.base s.size s.ways.ways s.bytes s.marks)
    (row_changed_twice_there c.self.invariant c.args.line (way_place c.self.inside.ways.sets c.self.inside.ways.ways c.in-Some.row) c.in-Some.ensures.here c.in-Some.row c.in-Some.ensures.row (λ (row : HomeLine). record row { dirty = true }) (λ (row : HomeLine). record row { sharers = without_core c.args.core row.sharers; alone = false })
    mid refl c.remove_writer.ensures.changed))

pub returns-in_default : goal.returns-in_default
unfolding dropped_in marked_dirty_in
returns-in_default c =
    let s = c.self.inside in
    let none = c.in_default.ensures.none in
    let mark : HomeLine → HomeLine = λ (row : HomeLine). record row { dirty = true } in
    let drop : HomeLine → HomeLine = λ (row : HomeLine). record row { sharers = without_core c.args.core row.sharers; alone = false } in
    rw (← c.self.view_is)
    (ap (home_with s.met.dealt.number s.met.dealt.shards s.base s.size s.ways.ways s.bytes s.marks)
    (sym (ap (in_row s.met.dealt.shards c.args.line drop) (same_nowhere c.self.invariant c.args.line none mark) ∙ same_nowhere c.self.invariant c.args.line none drop)))
