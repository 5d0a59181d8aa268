use Rattle.std.proofs.Common.{sym, ap}
use Rattle.mesi_dir.specs.CoreSets.{without_core}
use Rattle.home.specs.HomeState.{HomeLine, unfetched_in}
use Rattle.home.specs.Layout.{way_place}
use Rattle.home.proofs.Homes.{home_with, row_changed_there, same_nowhere}
use Rattle.home.proofs.home.Home.drop_fetcher.Goals as goal

pub returns-in-Some : goal.returns-in-Some
unfolding unfetched_in
returns-in-Some c =
    let s = c.self.inside in
    rw (← c.self.view_is)
    (ap (home_with s.met.dealt.number s.met.dealt.shards s.base s.size s.ways.ways s.bytes s.marks)
    (row_changed_there c.self.invariant c.args.line (way_place c.self.inside.ways.sets c.self.inside.ways.ways c.in-Some.row) c.in-Some.ensures.here c.in-Some.row c.in-Some.ensures.row (λ (row : HomeLine). record row { fetchers = without_core c.args.core row.fetchers }) c.remove_fetcher.ensures.changed))

pub returns-in_default : goal.returns-in_default
unfolding unfetched_in
returns-in_default c =
    let s = c.self.inside in
    rw (← c.self.view_is)
    (ap (home_with s.met.dealt.number s.met.dealt.shards s.base s.size s.ways.ways s.bytes s.marks)
    (sym (same_nowhere c.self.invariant c.args.line c.in_default.ensures.none (λ (row : HomeLine). record row { fetchers = without_core c.args.core row.fetchers }))))
