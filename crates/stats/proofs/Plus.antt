-- That counts are added as numbers are: in any grouping, and to no less than either.
use Rattle.std.proofs.Common.{◌≡◌, ℕ, List, [], ◌∷◌, refl, ap, ◌∙◌, arith}
use Rattle.std.specs.List.{fold}
use Rattle.stats.specs.declared.counts.CoreCount.{CoreCount}
use Rattle.stats.specs.declared.counts.CompCount.{CompCount}
use Rattle.stats.specs.CountsFit.{CoreFits, CompFits}
use Rattle.stats.specs.Counted.{core_plus, no_core_count, comp_plus, no_comp_count}

-- counts of the same numbers are the same
abbrev core_of : (delay loads stores atomics fetches hits upgrades l2hits misses : ℕ) → CoreCount
core_of delay loads stores atomics fetches hits upgrades l2hits misses = record {
  delay = delay;
  loads = loads;
  stores = stores;
  atomics = atomics;
  fetches = fetches;
  hits = hits;
  upgrades = upgrades;
  l2hits = l2hits;
  misses = misses;
}

pub same_core : (a b : CoreCount) → a.delay ≡ b.delay → a.loads ≡ b.loads → a.stores ≡ b.stores → a.atomics ≡ b.atomics → a.fetches ≡ b.fetches
    → a.hits ≡ b.hits → a.upgrades ≡ b.upgrades → a.l2hits ≡ b.l2hits → a.misses ≡ b.misses → a ≡ b
same_core a b delay loads stores atomics fetches hits upgrades l2hits misses =
    let same : core_of a.delay a.loads a.stores a.atomics a.fetches a.hits a.upgrades a.l2hits a.misses ≡ core_of b.delay b.loads b.stores b.atomics b.fetches b.hits b.upgrades b.l2hits b.misses = cc in
    same

abbrev comp_of : (events waited free : ℕ) → CompCount
comp_of events waited free = record { events = events; waited = waited; free = free }

pub same_comp : (a b : CompCount) → a.events ≡ b.events → a.waited ≡ b.waited → a.free ≡ b.free → a ≡ b
same_comp a b events waited free = let same : comp_of a.events a.waited a.free ≡ comp_of b.events b.waited b.free = cc in same

pub core_plus-assoc : (a b c : CoreCount) → core_plus a (core_plus b c) ≡ core_plus (core_plus a b) c
unfolding core_plus
core_plus-assoc a b c =
    same_core _ _ (omega arith) (omega arith) (omega arith) (omega arith) (omega arith) (omega arith) (omega arith) (omega arith) (omega arith)

pub core_plus-none : (a b : CoreCount) → core_plus a (core_plus no_core_count b) ≡ core_plus a b
unfolding core_plus
core_plus-none a b =
    same_core _ _ (omega arith) (omega arith) (omega arith) (omega arith) (omega arith) (omega arith) (omega arith) (omega arith) (omega arith)

pub comp_plus-assoc : (a b c : CompCount) → comp_plus a (comp_plus b c) ≡ comp_plus (comp_plus a b) c
comp_plus-assoc a b c = same_comp _ _ (omega arith) (omega arith) refl

pub comp_plus-none : (a : CompCount) → comp_plus a no_comp_count ≡ a
comp_plus-none a = same_comp _ _ (omega arith) (omega arith) refl

-- a count and the sum of others, one after the other
module _ {C : Type 0} (plus : C → C → C) (assoc : (a b c : C) → plus a (plus b c) ≡ plus (plus a b) c) where
  pub plus-fold : (a b : C) (cs : List C) → plus a (fold plus b cs) ≡ fold plus (plus a b) cs
  plus-fold a b [] = refl
  plus-fold a b (c ∷ cs) = plus-fold a (plus b c) cs ∙ ap (λ (x : C). fold plus x cs) (assoc a b c)

-- what fits with more fits with less
pub core_fewer : (c more : CoreCount) → CoreFits (core_plus c more) → CoreFits c
unfolding core_plus
core_fewer c more fits =
    let delay = fits.delay in
    let loads = fits.loads in
    let stores = fits.stores in
    let atomics = fits.atomics in
    let fetches = fits.fetches in
    let hits = fits.hits in
    let upgrades = fits.upgrades in
    let l2hits = fits.l2hits in
    let misses = fits.misses in
    record {
      delay = omega arith;
      loads = omega arith;
      stores = omega arith;
      atomics = omega arith;
      fetches = omega arith;
      hits = omega arith;
      upgrades = omega arith;
      l2hits = omega arith;
      misses = omega arith;
    }

pub comp_fewer : (c more : CompCount) → CompFits (comp_plus c more) → CompFits c
comp_fewer c more fits =
    let events = fits.events in
    let waited = fits.waited in
    record { events = omega arith; waited = omega arith }
