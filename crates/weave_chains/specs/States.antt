-- The chains of all cores, with their accesses counted among those of all cores.
use Rattle.std.specs.Prelude.{◌≡◌, ◌+◌, ℕ, List, length, Option, None, map}
use Rattle.std.specs.List.{enumerate_from}
use Rattle.zs_num.specs.declared.entry.Entry.{Entry}
use Rattle.weave_chains.specs.declared.chain.Chain.{Chain}
use Rattle.weave_chains.specs.declared.chain.Ended.{Ended}
use Rattle.weave_chains.specs.Listed.{number_before}

-- what a chain says of the events that have fired
pub record ChainState : Type 0 where
  -- the access whose events fire, and where the core's accesses end
  pub access : ℕ
  pub end : ℕ
  -- which event of the access fires next
  pub place : ℕ
  -- those of the access that have fired, by their places
  pub ended : List Ended
  -- the last event of the core's accesses before
  pub last : Option Ended

-- a chain before whose core so many accesses stand
abbrev pub state_of : (before : ℕ) → Chain → ChainState
state_of before c = record { access = before + c.access; end = before + c.end; place = c.place; ended = c.ended; last = c.last }

abbrev pub states : List (List Entry) → List Chain → List ChainState
states lists chains = map (λ at. state_of (number_before lists at.0) at.1) (enumerate_from 0 chains)

-- a chain of so many accesses, before an event of it fires
pub record IsFreshChain (count : ℕ) (c : Chain) : Type 0 where
  pub access : c.access ≡ 0
  pub end : c.end ≡ count
  pub place : c.place ≡ 0
  pub sized : length c.ended ≡ 64
  pub last : c.last ≡ None
