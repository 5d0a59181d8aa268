-- The workers' shares of a round.
use Rattle.std.specs.Prelude.{◌≡◌, ◌≤◌, ◌<◌, ℕ, ⊤, Bool, List, Vec, All, length, Some, slice_get, slice_index_or}
use Rattle.std.specs.Arc.{arc_value}
use Rattle.std.specs.Borrow.{MutBor}
use Rattle.std.specs.declared.alloc.Global.{Global}
use Rattle.atomic_table.specs.Seated.{TableId}
use Rattle.component.specs.declared.kind.Kind.{Kind}
use Rattle.weave_run.specs.Crews.{CanWork, Crew, HasWorked}
use Rattle.weave_run.specs.Outgoing.{AreOutgoing}
use Rattle.weave_run.specs.Rounds.{CanWeavePlan}
use Rattle.weave_run.specs.declared.plan.Plan.{Plan}
use Rattle.weave_run.specs.declared.share.DomainShare.{DomainShare}

-- a share of this plan, at these crossings
pub record IsShareOf {C W : Type 0} (plan : Plan C) (table : TableId) (s : DomainShare C W) : Type 0 where
  pub plan_is : s.plan ≡ plan
  pub table_is : arc_value s.crossings ≡ table
  pub outgoing : AreOutgoing plan.parts.value.crossings (length plan.graph.value) (arc_value s.outgoing)
  pub some : 0 < s.steps

-- a share for each of so many workers
pub record AreShares {C W : Type 0} (plan : Plan C) (table : TableId) (count : ℕ) (shares : List (DomainShare C W)) : Type 0 where
  pub count_is : length shares ≡ count
  pub each : (worker : ℕ) (s : DomainShare C W) → slice_get shares worker ≡ Some s → IsShareOf plan table s

-- the domains of the share can run
pub record CanRunShare {C W : Type 0} (serves : C → Kind → Bool) (floor : C → Kind → ℕ) (stepped : C → Kind → ℕ → C × ℕ) (greatest : C → Kind → ℕ → ℕ) (s : DomainShare C W) : Type 0 where
  pub plan : CanWeavePlan serves floor stepped greatest s.plan
  pub share : IsShareOf s.plan (arc_value s.crossings) s
  pub crew : CanWork stepped s.plan (arc_value s.crossings) s.crew

-- They have, and published what they fired. The rest of the share is as it was.
pub record HasRunShare {C W : Type 0} (stepped : C → Kind → ℕ → C × ℕ) (before after : DomainShare C W) : Type 0 where
  pub plan_is : after.plan ≡ before.plan
  pub table_is : arc_value after.crossings ≡ arc_value before.crossings
  pub outgoing_is : arc_value after.outgoing ≡ arc_value before.outgoing
  pub steps_are : after.steps ≡ before.steps
  pub worked : HasWorked stepped before.plan (arc_value before.crossings) before.crew after.crew

-- so have those of each share, which lies in its place
pub record HaveRunShares {C W : Type 0} (stepped : C → Kind → ℕ → C × ℕ) (before after : List (DomainShare C W)) : Type 0 where
  pub count : length after ≡ length before
  pub each : (worker : ℕ) (d : DomainShare C W) → worker < length before → HasRunShare stepped (slice_index_or before worker d) (slice_index_or after worker d)

-- ---- who is asked

-- these shares are asked of hands that are ready for as many, and the domains of each can run
abbrev pub AreAsked : {C W K : Type 0} (kept : K) (ready : K → Type 0) (most : K → ℕ) (serves : C → Kind → Bool) (floor : C → Kind → ℕ) (stepped : C → Kind → ℕ → C × ℕ) (greatest : C → Kind → ℕ → ℕ) → List (DomainShare C W) → Type 0
AreAsked kept ready most serves floor stepped greatest shares =
    ready kept × (0 < length shares) × (length shares ≤ most kept) × All (CanRunShare serves floor stepped greatest) shares

-- To call it has the hands run all shares, and leaves the hands as they were.
abbrev pub RunsAll : {C W H K : Type 0} (kept : H → K) (ready : K → Type 0) (most : K → ℕ) (serves : C → Kind → Bool) (floor : C → Kind → ℕ) (stepped : C → Kind → ℕ → C × ℕ) (greatest : C → Kind → ℕ → ℕ)
    (pre : MutBor H → MutBor (Vec (DomainShare C W) Global) → Type 0) (post : MutBor H → MutBor (Vec (DomainShare C W) Global) → ⊤ → MutBor H → MutBor (Vec (DomainShare C W) Global) → Type 0) → Type 0
RunsAll {C} {W} {H} kept ready most serves floor stepped greatest pre post =
    (h : MutBor H) (shares : MutBor (Vec (DomainShare C W) Global)) → AreAsked (kept h.now) ready most serves floor stepped greatest shares.now.items
    → pre h shares
    × ((u : ⊤) (after : MutBor H) (answers : MutBor (Vec (DomainShare C W) Global)) → post h shares u after answers → (kept after.now ≡ kept h.now) × HaveRunShares stepped shares.now.items answers.now.items)

-- ---- how domains go into the shares, and out

-- the share with these domains
abbrev pub with_crew : {C W : Type 0} → DomainShare C W → Crew C → DomainShare C W
with_crew s crew = record s { crew = crew }

-- The domains of each worker below this number lie in its share, and what lay there came out.
pub record AreExchanged {C W : Type 0} (crews now : List (Crew C)) (shares after : List (DomainShare C W)) (below : ℕ) : Type 0 where
  pub crews_are : length now ≡ length crews
  pub shares_are : length after ≡ length shares
  pub taken : (worker : ℕ) (s : DomainShare C W) → worker < below → slice_get shares worker ≡ Some s → slice_get now worker ≡ Some s.crew
  pub given : (worker : ℕ) (crew : Crew C) (s : DomainShare C W) → worker < below → slice_get crews worker ≡ Some crew → slice_get shares worker ≡ Some s → slice_get after worker ≡ Some (with_crew s crew)
  pub crews_left : (worker : ℕ) → below ≤ worker → slice_get now worker ≡ slice_get crews worker
  pub shares_left : (worker : ℕ) → below ≤ worker → slice_get after worker ≡ slice_get shares worker
