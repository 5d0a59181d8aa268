use Rattle.std.proofs.Common.{◌≡◌, ℕ, All, List, length, ap, refl, subst, sym}
use Rattle.noc_mesh.specs.NetTiming.{net_time}
use Rattle.profile_rows.specs.declared.series_row.SeriesRow.{SeriesRow}
use Rattle.profile.specs.Contributions.{nothing_before}
use Rattle.profile.specs.Profiled.{Profiled}
use Rattle.profile.specs.Series.{no_series}
use Rattle.profile.proofs.SeriesLong.{all_long}
use Rattle.profile.proofs.profile.Profile.series.Goals as goal

pub returns-clause-waits : goal.returns-clause-waits
returns-clause-waits c =
    let p = c.self.inside in
    subst (λ (n : ℕ). All (λ (row : SeriesRow). length row.waits.items ≡ n) c.deref.result.now) (ap (λ (q : Profiled). q.comps) c.self.view_is)
    (subst (λ (rows : List SeriesRow). All (λ (row : SeriesRow). length row.waits.items ≡ p.comps) rows) (sym c.deref.ensures.value)
    (all_long (net_time p.net.path) p.cores p.comps p.every nothing_before no_series p.told.steps p.series.rows.items refl c.self.invariant.series.rows))
