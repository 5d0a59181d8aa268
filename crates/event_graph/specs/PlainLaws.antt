-- That the events of an access, and its time, are as every expansion has them.
use Rattle.std.specs.Prelude.{◌≡◌, ◌+◌, ◌-◌, ◌^◌, ◌<◌, ◌≤◌, ℕ, Bool, true, false, length, Option, None, Some, IfSome, IsSome, ◌⊎◌, slice_get, unwrap_or, refl}
use Rattle.std.proofs.Common.{arith, cond, inl, zero, suc, subst}
use Rattle.std.proofs.lemmas.Bool.{lt-ltb, le-leb, and_from}
use Rattle.machine_desc.specs.declared.machine.L1.{L1}
use Rattle.machine_desc.specs.declared.machine.L2.{L2}
use Rattle.machine_desc.specs.declared.machine.Controllers.{Controllers}
use Rattle.machine_desc.specs.Machine.{IsBetween, IsL1, IsL2, IsControllers}
use Rattle.zs_num.specs.Request.{is_fetch}
use Rattle.zs_num.specs.declared.request.Request.{Request}
use Rattle.zs_num.specs.declared.entry.Entry.{Entry}
use Rattle.zs_num.specs.declared.entry.Outcome.{Outcome}
use Rattle.zs_num.specs.declared.entry.Outcome.TheVariants.{Hit, Upgrade, L2 as FoundInL2, Miss}
use Rattle.event_graph.specs.declared.access_path.AccessPath.{AccessPath}
use Rattle.event_graph.specs.declared.piece.Piece.{Piece}
use Rattle.event_graph.specs.AccessPaths.{head_time}
use Rattle.event_graph.specs.PathInRange.{IsAccessPath}
use Rattle.event_graph.specs.Expansion.{ParentsComeBefore, OnlyFirstStartsAlone, ParentsFinishBefore, EndsAt, HaveFloors}
use Rattle.event_graph.specs.Timing.{bank_component, controller_component}
use Rattle.event_graph.specs.PlainTiming.{access_time, time_by, pieces_by, pieces_of, look_up, read, write, fill}
use Rattle.event_graph.specs.Floors.{is_bank, is_controller, plain_floor}

-- the head of an access takes a cycle at least, and not long
module _ (path : AccessPath) (ok : IsAccessPath path) where
  cache_in_range : (o : Option L1) → IfSome o (IsL1 path.l2.banks) → IsL1 path.l2.banks (unwrap_or o path.l1)
  cache_in_range None is = ok.l1
  cache_in_range (Some cache) is = is

  first_in_range : (fetch : Bool) → IsL1 path.l2.banks (cond fetch (unwrap_or path.l1i path.l1) path.l1)
  first_in_range true = cache_in_range path.l1i ok.l1i
  first_in_range false = ok.l1

  pub head_in_range : (request : Request) → IsBetween 1 (head_time path request) 65536
  head_in_range request = (first_in_range (is_fetch request)).latency

module _ (head : ℕ) (l2 : L2) (controllers : Controllers) (some : 1 ≤ head) (small : head ≤ 65536) (ok2 : IsL2 l2) (ok : IsControllers controllers) where
  time_at_least_one : (o : Outcome) → 1 ≤ time_by head l2 controllers o
  time_at_least_one Hit = some
  time_at_least_one (Upgrade o) = omega (arith, some)
  time_at_least_one (FoundInL2 o) = omega (arith, some)
  time_at_least_one (Miss d) = omega (arith, some)

  time_small : (o : Outcome) → time_by head l2 controllers o ≤ 2 ^ 20
  time_small Hit = omega arith
  time_small (Upgrade true) = omega arith
  time_small (Upgrade false) = omega arith
  time_small (FoundInL2 true) = omega arith
  time_small (FoundInL2 false) = omega arith
  time_small (Miss true) = omega arith
  time_small (Miss false) = omega arith

pub plain_time_at_least_one : (path : AccessPath) → IsAccessPath path → (e : Entry) → 1 ≤ access_time path e
plain_time_at_least_one path ok e =
    let head = head_in_range path ok e.request in
    time_at_least_one (head_time path e.request) path.l2 path.controllers head.0 head.1 ok.l2 ok.controllers e.outcome

pub plain_time_small : (path : AccessPath) → IsAccessPath path → (e : Entry) → access_time path e ≤ 2 ^ 20
plain_time_small path ok e =
    let head = head_in_range path ok e.request in
    time_small (head_time path e.request) path.l2 path.controllers head.0 head.1 ok.l2 ok.controllers e.outcome

-- by outcome and place
module _ (head : ℕ) (l2 : L2) (controllers : Controllers) (bank controller : ℕ) where
  first_before : (o : Outcome) (k : ℕ) (p : Piece) (i : ℕ) → slice_get (pieces_by head l2 controllers bank controller o) k ≡ Some p → p.first ≡ Some i → i < k
  first_before Hit k p i is parent = cc
  first_before (Upgrade o) zero p i is parent = first_of (cc, grind arith)
  first_before (Upgrade o) (suc k) p i is parent = cc
  first_before (FoundInL2 o) zero p i is parent = first_of (cc, grind arith)
  first_before (FoundInL2 o) (suc k) p i is parent = cc
  first_before (Miss false) zero p i is parent = first_of (cc, grind arith)
  first_before (Miss false) (suc zero) p i is parent = first_of (cc, grind arith)
  first_before (Miss false) (suc (suc zero)) p i is parent = first_of (cc, grind arith)
  first_before (Miss false) (suc (suc (suc k))) p i is parent = cc
  first_before (Miss true) zero p i is parent = first_of (cc, grind arith)
  first_before (Miss true) (suc zero) p i is parent = first_of (cc, grind arith)
  first_before (Miss true) (suc (suc zero)) p i is parent = first_of (cc, grind arith)
  first_before (Miss true) (suc (suc (suc zero))) p i is parent = first_of (cc, grind arith)
  first_before (Miss true) (suc (suc (suc (suc k)))) p i is parent = cc

  second_before : (o : Outcome) (k : ℕ) (p : Piece) (i : ℕ) → slice_get (pieces_by head l2 controllers bank controller o) k ≡ Some p → p.second ≡ Some i → i < k
  second_before Hit k p i is parent = cc
  second_before (Upgrade o) zero p i is parent = first_of (cc, grind arith)
  second_before (Upgrade o) (suc k) p i is parent = cc
  second_before (FoundInL2 o) zero p i is parent = first_of (cc, grind arith)
  second_before (FoundInL2 o) (suc k) p i is parent = cc
  second_before (Miss false) zero p i is parent = first_of (cc, grind arith)
  second_before (Miss false) (suc zero) p i is parent = first_of (cc, grind arith)
  second_before (Miss false) (suc (suc zero)) p i is parent = first_of (cc, grind arith)
  second_before (Miss false) (suc (suc (suc k))) p i is parent = cc
  second_before (Miss true) zero p i is parent = first_of (cc, grind arith)
  second_before (Miss true) (suc zero) p i is parent = first_of (cc, grind arith)
  second_before (Miss true) (suc (suc zero)) p i is parent = first_of (cc, grind arith)
  second_before (Miss true) (suc (suc (suc zero))) p i is parent = first_of (cc, grind arith)
  second_before (Miss true) (suc (suc (suc (suc k)))) p i is parent = cc

  pub plain_parents_come_before : (o : Outcome) → ParentsComeBefore (pieces_by head l2 controllers bank controller o)
  plain_parents_come_before o = record { first = first_before o; second = second_before o }

  alone : (o : Outcome) (p : Piece) → slice_get (pieces_by head l2 controllers bank controller o) 0 ≡ Some p → (p.first ≡ None) × (p.second ≡ None)
  alone Hit p is = (cc, cc)
  alone (Upgrade o) p is = (cc, cc)
  alone (FoundInL2 o) p is = (cc, cc)
  alone (Miss false) p is = (cc, cc)
  alone (Miss true) p is = (cc, cc)

  waits : (o : Outcome) (k : ℕ) (p : Piece) → 0 < k → slice_get (pieces_by head l2 controllers bank controller o) k ≡ Some p → IsSome p.first ⊎ IsSome p.second
  waits Hit k p later is = cc
  waits (Upgrade o) zero p later is = absurd (omega arith)
  waits (Upgrade o) (suc k) p later is = cc
  waits (FoundInL2 o) zero p later is = absurd (omega arith)
  waits (FoundInL2 o) (suc k) p later is = cc
  waits (Miss false) zero p later is = absurd (omega arith)
  waits (Miss false) (suc zero) p later is = inl (let here : p.first ≡ Some 0 = cc in rw here refl)
  waits (Miss false) (suc (suc zero)) p later is = inl (let here : p.first ≡ Some 1 = cc in rw here refl)
  waits (Miss false) (suc (suc (suc k))) p later is = cc
  waits (Miss true) zero p later is = absurd (omega arith)
  waits (Miss true) (suc zero) p later is = inl (let here : p.first ≡ Some 0 = cc in rw here refl)
  waits (Miss true) (suc (suc zero)) p later is = inl (let here : p.first ≡ Some 0 = cc in rw here refl)
  waits (Miss true) (suc (suc (suc zero))) p later is = inl (let here : p.first ≡ Some 1 = cc in rw here refl)
  waits (Miss true) (suc (suc (suc (suc k)))) p later is = cc

  pub plain_only_first_starts_alone : (o : Outcome) → OnlyFirstStartsAlone (pieces_by head l2 controllers bank controller o)
  plain_only_first_starts_alone o = record { alone = alone o; waits = waits o }

  first_finish : (o : Outcome) (k : ℕ) (p : Piece) (i : ℕ) (q : Piece) → slice_get (pieces_by head l2 controllers bank controller o) k ≡ Some p → p.first ≡ Some i → slice_get (pieces_by head l2 controllers bank controller o) i ≡ Some q → q.offset + q.time ≤ p.offset
  first_finish Hit k p i q is parent at' = cc
  first_finish (Upgrade o) zero p i q is parent at' = cc
  first_finish (Upgrade o) (suc k) p i q is parent at' = cc
  first_finish (FoundInL2 o) zero p i q is parent at' = cc
  first_finish (FoundInL2 o) (suc k) p i q is parent at' = cc
  first_finish (Miss false) zero p i q is parent at' = cc
  first_finish (Miss false) (suc zero) p zero q is parent at' = grind arith
  first_finish (Miss false) (suc zero) p (suc i) q is parent at' = cc
  first_finish (Miss false) (suc (suc zero)) p zero q is parent at' = cc
  first_finish (Miss false) (suc (suc zero)) p (suc zero) q is parent at' = grind arith
  first_finish (Miss false) (suc (suc zero)) p (suc (suc i)) q is parent at' = cc
  first_finish (Miss false) (suc (suc (suc k))) p i q is parent at' = cc
  first_finish (Miss true) zero p i q is parent at' = cc
  first_finish (Miss true) (suc zero) p zero q is parent at' = grind arith
  first_finish (Miss true) (suc zero) p (suc i) q is parent at' = cc
  first_finish (Miss true) (suc (suc zero)) p zero q is parent at' = grind arith
  first_finish (Miss true) (suc (suc zero)) p (suc i) q is parent at' = cc
  first_finish (Miss true) (suc (suc (suc zero))) p zero q is parent at' = cc
  first_finish (Miss true) (suc (suc (suc zero))) p (suc zero) q is parent at' = grind arith
  first_finish (Miss true) (suc (suc (suc zero))) p (suc (suc i)) q is parent at' = cc
  first_finish (Miss true) (suc (suc (suc (suc k)))) p i q is parent at' = cc

  second_finish : (o : Outcome) (k : ℕ) (p : Piece) (i : ℕ) (q : Piece) → slice_get (pieces_by head l2 controllers bank controller o) k ≡ Some p → p.second ≡ Some i → slice_get (pieces_by head l2 controllers bank controller o) i ≡ Some q → q.offset + q.time ≤ p.offset
  second_finish Hit k p i q is parent at' = cc
  second_finish (Upgrade o) zero p i q is parent at' = cc
  second_finish (Upgrade o) (suc k) p i q is parent at' = cc
  second_finish (FoundInL2 o) zero p i q is parent at' = cc
  second_finish (FoundInL2 o) (suc k) p i q is parent at' = cc
  second_finish (Miss false) zero p i q is parent at' = cc
  second_finish (Miss false) (suc zero) p i q is parent at' = cc
  second_finish (Miss false) (suc (suc zero)) p i q is parent at' = cc
  second_finish (Miss false) (suc (suc (suc k))) p i q is parent at' = cc
  second_finish (Miss true) zero p i q is parent at' = cc
  second_finish (Miss true) (suc zero) p i q is parent at' = cc
  second_finish (Miss true) (suc (suc zero)) p i q is parent at' = cc
  second_finish (Miss true) (suc (suc (suc zero))) p zero q is parent at' = cc
  second_finish (Miss true) (suc (suc (suc zero))) p (suc zero) q is parent at' = cc
  second_finish (Miss true) (suc (suc (suc zero))) p (suc (suc zero)) q is parent at' = grind arith
  second_finish (Miss true) (suc (suc (suc zero))) p (suc (suc (suc i))) q is parent at' = cc
  second_finish (Miss true) (suc (suc (suc (suc k)))) p i q is parent at' = cc

  pub plain_parents_finish_before : (o : Outcome) → ParentsFinishBefore (pieces_by head l2 controllers bank controller o)
  plain_parents_finish_before o = record { first = first_finish o; second = second_finish o }

  last_ends : (o : Outcome) (p : Piece) → slice_get (pieces_by head l2 controllers bank controller o) (length (pieces_by head l2 controllers bank controller o) - 1) ≡ Some p → p.offset + p.time ≡ time_by head l2 controllers o
  last_ends Hit p is = first_of (cc, grind arith)
  last_ends (Upgrade o) p is = first_of (cc, grind arith)
  last_ends (FoundInL2 o) p is = first_of (cc, grind arith)
  last_ends (Miss false) p is = first_of (cc, grind arith)
  last_ends (Miss true) p is = first_of (cc, grind arith)

  each_ends : (o : Outcome) (k : ℕ) (p : Piece) → slice_get (pieces_by head l2 controllers bank controller o) k ≡ Some p → p.offset + p.time ≤ time_by head l2 controllers o
  each_ends Hit k p is = cc
  each_ends (Upgrade o) zero p is = first_of (cc, grind arith)
  each_ends (Upgrade o) (suc k) p is = cc
  each_ends (FoundInL2 o) zero p is = first_of (cc, grind arith)
  each_ends (FoundInL2 o) (suc k) p is = cc
  each_ends (Miss false) zero p is = first_of (cc, grind arith)
  each_ends (Miss false) (suc zero) p is = first_of (cc, grind arith)
  each_ends (Miss false) (suc (suc zero)) p is = first_of (cc, grind arith)
  each_ends (Miss false) (suc (suc (suc k))) p is = cc
  each_ends (Miss true) zero p is = first_of (cc, grind arith)
  each_ends (Miss true) (suc zero) p is = first_of (cc, grind arith)
  each_ends (Miss true) (suc (suc zero)) p is = first_of (cc, grind arith)
  each_ends (Miss true) (suc (suc (suc zero))) p is = first_of (cc, grind arith)
  each_ends (Miss true) (suc (suc (suc (suc k)))) p is = cc

  pub plain_ends_with_access : (o : Outcome) → EndsAt (pieces_by head l2 controllers bank controller o) (time_by head l2 controllers o)
  plain_ends_with_access o = record { last = last_ends o; each = each_ends o }

module _ (head : ℕ) (l2 : L2) (controllers : Controllers) (bank controller : ℕ) (a_bank : is_bank l2 bank ≡ true) (a_controller : is_controller l2 controllers controller ≡ true) where
  floor_at : (q p : Piece) → Some q ≡ Some p → plain_floor l2 controllers q.component q.kind ≡ Some q.time → plain_floor l2 controllers p.component p.kind ≡ Some p.time
  floor_at q p is floors =
      let P : Piece → Type 0 = λ r. plain_floor l2 controllers r.component r.kind ≡ Some r.time in
      let same : q ≡ p = cc in
      subst P same floors

  floor_by : (o : Outcome) (k : ℕ) (p : Piece) → slice_get (pieces_by head l2 controllers bank controller o) k ≡ Some p → plain_floor l2 controllers p.component p.kind ≡ Some p.time
  floor_by Hit k p is = cc
  floor_by (Upgrade true) zero p is = floor_at (look_up head l2 controllers bank controller true) p is (rw a_bank refl)
  floor_by (Upgrade true) (suc k) p is = cc
  floor_by (Upgrade false) zero p is = floor_at (look_up head l2 controllers bank controller false) p is (rw a_bank refl)
  floor_by (Upgrade false) (suc k) p is = cc
  floor_by (FoundInL2 true) zero p is = floor_at (look_up head l2 controllers bank controller true) p is (rw a_bank refl)
  floor_by (FoundInL2 true) (suc k) p is = cc
  floor_by (FoundInL2 false) zero p is = floor_at (look_up head l2 controllers bank controller false) p is (rw a_bank refl)
  floor_by (FoundInL2 false) (suc k) p is = cc
  floor_by (Miss false) zero p is = floor_at (look_up head l2 controllers bank controller false) p is (rw a_bank refl)
  floor_by (Miss false) (suc zero) p is = floor_at (read head l2 controllers bank controller) p is (rw a_controller refl)
  floor_by (Miss false) (suc (suc zero)) p is = floor_at (fill head l2 controllers bank controller false) p is (rw a_bank refl)
  floor_by (Miss false) (suc (suc (suc k))) p is = cc
  floor_by (Miss true) zero p is = floor_at (look_up head l2 controllers bank controller false) p is (rw a_bank refl)
  floor_by (Miss true) (suc zero) p is = floor_at (read head l2 controllers bank controller) p is (rw a_controller refl)
  floor_by (Miss true) (suc (suc zero)) p is = floor_at (write head l2 controllers bank controller) p is (rw a_controller refl)
  floor_by (Miss true) (suc (suc (suc zero))) p is = floor_at (fill head l2 controllers bank controller true) p is (rw a_bank refl)
  floor_by (Miss true) (suc (suc (suc (suc k)))) p is = cc

-- a bank is a bank, and its controller is a controller
module _ (l2 : L2) (controllers : Controllers) (ok2 : IsL2 l2) (ok : IsControllers controllers) (e : Entry) where
  bank_is_there : is_bank l2 (bank_component l2 e) ≡ true
  bank_is_there = lt-ltb _ _ (omega (arith, ok2.banks.0))

  controller_is_there : is_controller l2 controllers (controller_component l2 controllers e) ≡ true
  controller_is_there =
      let from : l2.banks ≤ controller_component l2 controllers e = omega arith in
      let below : controller_component l2 controllers e < l2.banks + controllers.count = omega (arith, ok.count.0) in
      and_from _ _ (le-leb _ _ from) (lt-ltb _ _ below)

pub plain_floors_are_times : (path : AccessPath) → IsAccessPath path → (e : Entry) → HaveFloors (plain_floor path.l2 path.controllers) (pieces_of path e)
plain_floors_are_times path ok e =
    floor_by (head_time path e.request) path.l2 path.controllers (bank_component path.l2 e) (controller_component path.l2 path.controllers e)
    (bank_is_there path.l2 path.controllers ok.l2 ok.controllers e) (controller_is_there path.l2 path.controllers ok.l2 ok.controllers e) e.outcome
