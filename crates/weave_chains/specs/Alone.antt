-- The weave of one core alone, whose events fire one after the other.
use Rattle.std.specs.Prelude.{Bool, ◌≡◌, ◌+◌, ◌≤◌, ℕ, nat_lt, if◌then◌else◌, List, [], ◌∷◌, length, Option, None, Some, slice_set}
use Rattle.component.specs.declared.kind.Kind.{Kind}
use Rattle.std.specs.List.{Contains}
use Rattle.zs_num.specs.declared.entry.Entry.{Entry}
use Rattle.zs_num.specs.declared.time.Key.{Key}
use Rattle.event_graph.specs.declared.piece.Piece.{Piece}
use Rattle.event_graph.specs.EventGraph.{all_events}
use Rattle.event_graph.specs.OneListWeave.{FiredEvent, after_firings}
use Rattle.weave_chains.specs.declared.chain.Chain.{Chain}
use Rattle.weave_chains.specs.declared.chain.Ended.{Ended}
use Rattle.weave_chains.specs.declared.tally.Tally.{Tally}
use Rattle.weave_chains.specs.Listed.{list_of, one_after_other}
use Rattle.weave_chains.specs.Rounds.{IsWeaving}
use Rattle.weave_chains.specs.States.{states}
use Rattle.weave_chains.specs.Tallies.{AreSmall, HaveFired}

-- the chain of the one core, where its events up to this one have fired
abbrev pub standing : List (List Entry) → (access place : ℕ) → List Ended → (last : Option Ended) → Chain
standing lists access place ended last = record { access = access; end = length (list_of lists 0); place = place; ended = ended; last = last; next = None }

-- where its next event has ended so, of an access with so many
abbrev pub step_on : (count : ℕ) → Ended → Chain → Chain
step_on count done c =
    if nat_lt (c.place + 1) count
    then record c { place = c.place + 1; ended = slice_set c.ended c.place done }
    else record c { access = c.access + 1; place = 0; last = Some done }

-- so many events of the one core have fired and are counted
pub record IsAlone {C : Type 0} (serves : C → Kind → Bool) (floor : C → Kind → ℕ) (stepped : C → Kind → ℕ → C × ℕ) (greatest : C → Kind → ℕ → ℕ) (pieces : Entry → List Piece) (lists : List (List Entry)) (first : List C) (firings : ℕ) (chain : Chain) (comps : List C) (tallies : List Tally) : Type 0 where
  -- a key at most: that of the core's next event
  pub keys : List Key
  pub few : length keys ≤ 1
  pub weaving : IsWeaving serves floor stepped greatest pieces lists first firings (chain ∷ []) keys comps
  pub fired : HaveFired stepped pieces (one_after_other lists) first firings (states lists (chain ∷ [])) keys comps tallies
  pub cores : (x : FiredEvent) → Contains (after_firings stepped (all_events pieces (one_after_other lists)) first firings).fired x → x.event.core ≡ 0
  pub small : AreSmall firings tallies
  pub tallies_are : length tallies ≡ length comps
