-- How long a core goes on by itself.
use Rattle.std.specs.Prelude.{◌≡◌, ◌≤◌, ◌<◌, ℕ, true, false, None, IsSome}
use Rattle.zs_num.specs.Request.{is_fetch}
use Rattle.zs_num.specs.declared.entry.Entry.{Entry}
use Rattle.zs_num.specs.declared.entry.Outcome.TheVariants.{Hit}
use Rattle.rv_core.specs.declared.stint.Stint.{Stint}
use Rattle.rv_core.specs.Asked.{is_idle}
use Rattle.reference.specs.TimedCore.{TimedCore}

-- This is how long a core may go on by itself, from its clock to this end: it has no pipeline and no instruction in
-- progress, and it has fetched a line, if it fetches. `time` is how long an access takes where nothing else runs.
pub record IsStint (time : Entry → ℕ) (end : ℕ) (c : TimedCore) (stint : Stint) : Type 0 where
  pub none : c.pace ≡ None
  pub idle : is_idle c.core ≡ true
  pub fetched : c.core.fetching ≡ true → IsSome c.core.fetched_line
  pub early : c.clock < end
  pub within : stint ≡ record stint { clock = c.clock; end = end }
  pub hit : (e : Entry) → e.outcome ≡ Hit → is_fetch e.request ≡ false → time e ≡ stint.hit
  pub fetch_hit : (e : Entry) → e.outcome ≡ Hit → is_fetch e.request ≡ true → time e ≡ stint.fetch_hit
  pub takes_time : (e : Entry) → 1 ≤ time e
