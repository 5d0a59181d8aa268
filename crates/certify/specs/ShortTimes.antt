-- What is asked of components, so that no sum of a check is too large, and how far they serve.
use Rattle.std.specs.Prelude.{◌<◌, ◌^◌, ℕ, max, nat_lt, if◌then◌else◌, List, All}
use Rattle.component.specs.declared.comp.Comp.{Comp}
use Rattle.component.specs.declared.comp.Comp.TheVariants.{Bank as ABank, Controller as AController, Link as ALink, Rows as ARows}
use Rattle.component.specs.declared.kind.Kind.{Kind}
use Rattle.component.specs.ComponentStep.{comp_step, free_of}

-- the longest time of a component, in cycles
abbrev pub longest_time : Comp → ℕ
longest_time (ABank b) = max (max b.lookup b.remote) (max b.fill b.occupancy)
longest_time (AController c) = max (max c.read c.write) c.occupancy
longest_time (ALink l) = max l.hop l.occupancy
longest_time (ARows r) = max (max r.numbers.conflict r.numbers.write) r.numbers.occupancy

-- each time of each component is below 2^60 cycles
abbrev pub HaveShortTimes : List Comp → Type 0
HaveShortTimes comps = All (λ c. longest_time c < 2 ^ 60) comps

-- A component serves an event of a file, in which every finish is below 2^60. One that is busy until then finishes
-- nothing before, so it is left as it is, and that cycle is the answer.
abbrev pub capped_step : Comp → Kind → (start : ℕ) → Comp × ℕ
capped_step c kind start = if nat_lt (free_of c) (2 ^ 60) then comp_step c kind start else (c, 2 ^ 60)
