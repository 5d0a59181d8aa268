-- The weave after so many rounds.
use Rattle.std.specs.Prelude.{Bool, ◌≡◌, ◌<◌, ◌≤◌, ◌^◌, ℕ, List, length, Some, slice_get}
use Rattle.component.specs.declared.kind.Kind.{Kind}
use Rattle.zs_num.specs.declared.entry.Entry.{Entry}
use Rattle.zs_num.specs.declared.time.Key.{Key}
use Rattle.event_graph.specs.declared.piece.Piece.{Piece}
use Rattle.event_graph.specs.EventGraph.{all_events}
use Rattle.event_graph.specs.Fits.{GraphFits}
use Rattle.event_graph.specs.InARow.{AreInARow}
use Rattle.event_graph.specs.OneListWeave.{after_firings}
use Rattle.event_graph.specs.SmallSteps.{AreSmallSteps}
use Rattle.weave_chains.specs.declared.chain.Chain.{Chain}
use Rattle.weave_chains.specs.States.{ChainState, states}
use Rattle.weave_chains.specs.Chains.{AreGrouped, AreUnderWay}
use Rattle.weave_chains.specs.Listed.{AreOwn, one_after_other}

-- the accesses of so many cores in one list, whose events are chains
pub record AreInChains (pieces : Entry → List Piece) (entries : List Entry) (cores : ℕ) : Type 0 where
  pub grouped : AreGrouped entries
  pub known : (i : ℕ) (e : Entry) → slice_get entries i ≡ Some e → e.core < cores
  pub some : (i : ℕ) (e : Entry) → slice_get entries i ≡ Some e → 0 < length (pieces e)
  pub few : (i : ℕ) (e : Entry) → slice_get entries i ≡ Some e → length (pieces e) ≤ 64
  pub early : (i : ℕ) (e : Entry) → slice_get entries i ≡ Some e → e.start ≤ 2 ^ 60
  pub row : (e : Entry) → AreInARow (pieces e)

-- accesses that are listed core by core, and whose events are chains
pub record AreChained (pieces : Entry → List Piece) (lists : List (List Entry)) : Type 0 where
  -- each access stands in the list of its core
  pub own : AreOwn lists
  -- it has an event at least, and no more than so many
  pub some : (i : ℕ) (e : Entry) → slice_get (one_after_other lists) i ≡ Some e → 0 < length (pieces e)
  pub few : (i : ℕ) (e : Entry) → slice_get (one_after_other lists) i ≡ Some e → length (pieces e) ≤ 64
  pub early : (i : ℕ) (e : Entry) → slice_get (one_after_other lists) i ≡ Some e → e.start ≤ 2 ^ 60
  -- an event and those before it in an access fire one after the other
  pub row : (e : Entry) → AreInARow (pieces e)

-- so many events have fired, from these components on
pub record HasCome {C : Type 0} (stepped : C → Kind → ℕ → C × ℕ) (pieces : Entry → List Piece) (entries : List Entry) (first : List C) (firings : ℕ) (chains : List ChainState) (keys : List Key) (comps : List C) : Type 0 where
  pub way : AreUnderWay pieces entries (after_firings stepped (all_events pieces entries) first firings).fired chains keys
  pub comps_are : comps ≡ (after_firings stepped (all_events pieces entries) first firings).comps

-- so many events of accesses that are listed core by core have fired, from components on that serve them all
pub record IsWeaving {C : Type 0} (serves : C → Kind → Bool) (floor : C → Kind → ℕ) (stepped : C → Kind → ℕ → C × ℕ) (greatest : C → Kind → ℕ → ℕ) (pieces : Entry → List Piece) (lists : List (List Entry)) (first : List C) (firings : ℕ) (chains : List Chain) (keys : List Key) (comps : List C) : Type 0 where
  pub fits : GraphFits serves floor (all_events pieces (one_after_other lists)) first
  pub small : AreSmallSteps stepped greatest (all_events pieces (one_after_other lists)) first
  pub within : firings ≤ length (all_events pieces (one_after_other lists))
  pub come : HasCome stepped pieces (one_after_other lists) first firings (states lists chains) keys comps
