-- Shares of a weave that jobs carry.
use Rattle.std.specs.Prelude.{◌≡◌}
use Rattle.component.specs.ComponentStep.{comp_step}
use Rattle.component.specs.Greatest.{comp_greatest}
use Rattle.component.specs.Serving.{comp_latency, comp_serves}
use Rattle.component.specs.declared.comp.Comp.{Comp}
use Rattle.weave_run.specs.Shares.{CanRunShare, HasRunShare}
use Rattle.weave_run.specs.declared.share.DomainShare.{DomainShare}

-- A share that can run may be asked for, and its answer is the share that has run.
pub record CarriesShares {W J : Type 0} (of : DomainShare Comp W → J) (can : J → Type 0) (done : J → J → Type 0) : Type 0 where
  pub may : (s : DomainShare Comp W) → CanRunShare comp_serves comp_latency comp_step comp_greatest s → can (of s)
  pub did : (s : DomainShare Comp W) (answer : J) → done (of s) answer → (t : DomainShare Comp W) × ((answer ≡ of t) × HasRunShare comp_step s t)
