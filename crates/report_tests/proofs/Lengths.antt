-- How many counts there are after an interval.
use Rattle.std.proofs.Common.{◌≡◌, ℕ, List, length, map, ◌∙◌, arith}
use Rattle.std.specs.List.{zip, enumerate_from}
use Rattle.std.proofs.lemmas.List.{length-map}
use Rattle.std.proofs.lemmas.List.FromFn.{length-enumerate_from}
use Rattle.std.proofs.lemmas.Slice.Zip.{length-zip}
use Rattle.component.specs.declared.comp.Comp.{Comp}
use Rattle.stats.specs.Counts.{Interval, Counts}
use Rattle.stats.specs.Added.{added, core_count_after, comp_count_after}

-- a list made of another's elements and their numbers
length_numbered : {X Y : Type 0} (f : ℕ × X → Y) (xs : List X) → length (map f (enumerate_from 0 xs)) ≡ length xs
length_numbered f xs = length-map (enumerate_from 0 xs) f ∙ length-enumerate_from 0 xs

-- there are as many counts as before
pub as_many_cores : (first : Counts) (i : Interval) (comps : List Comp) → length (added first i comps).core_counts ≡ length first.core_counts
unfolding added
as_many_cores first i comps = length_numbered (λ at'. core_count_after i at'.0 at'.1) first.core_counts

pub as_many_comps : (first : Counts) (i : Interval) (comps : List Comp) → length comps ≡ length first.comp_counts → length (added first i comps).comp_counts ≡ length first.comp_counts
unfolding added
as_many_comps first i comps same =
    omega (arith, length_numbered (λ at'. comp_count_after i at'.0 at'.1.0 at'.1.1) (zip first.comp_counts comps), length-zip first.comp_counts comps)
