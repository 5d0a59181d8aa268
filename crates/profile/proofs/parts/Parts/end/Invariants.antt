use Rattle.std.proofs.Common.{◌≡◌, List, drop}
use Rattle.std.specs.List.{zip}
use Rattle.profile.specs.declared.contribution.Contribution.{Contribution}
use Rattle.profile.specs.Parts.{IsServing}
use Rattle.profile.proofs.parts.Parts.end.Given as goal

abbrev pub invariant-loop-place : goal.invariant-loop-place
invariant-loop-place l = record {
  serving : (whole : List Contribution) → IsServing whole (zip l.events l.fired) l.fn.self → IsServing whole (drop l.place (zip l.events l.fired)) l.self;
  copies : l.self.copies ≡ l.fn.self.copies;
}
