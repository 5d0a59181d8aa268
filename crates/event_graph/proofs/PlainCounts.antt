-- How many events the accesses of a machine without a network are made of.
use Rattle.std.proofs.Common.{◌≤◌, ◌*◌, ℕ, true, false, List, length, get_or, sum_by, arith}
use Rattle.std.specs.List.{All}
use Rattle.std.proofs.lemmas.List.Sums.{sum_by-le}
use Rattle.machine_desc.specs.declared.machine.L2.{L2}
use Rattle.machine_desc.specs.declared.machine.Controllers.{Controllers}
use Rattle.zs_num.specs.declared.entry.Entry.{Entry}
use Rattle.zs_num.specs.declared.entry.Outcome.{Outcome}
use Rattle.zs_num.specs.declared.entry.Outcome.TheVariants.{Hit, Upgrade, L2 as FoundInL2, Miss}
use Rattle.event_graph.specs.declared.access_path.AccessPath.{AccessPath}
use Rattle.event_graph.specs.AccessPaths.{head_time}
use Rattle.event_graph.specs.Timing.{bank_component, controller_component}
use Rattle.event_graph.specs.PlainTiming.{pieces_by, pieces_of}

few_by : (head : ℕ) (l2 : L2) (controllers : Controllers) (bank controller : ℕ) (o : Outcome) → length (pieces_by head l2 controllers bank controller o) ≤ 4
few_by head l2 controllers bank controller Hit = omega arith
few_by head l2 controllers bank controller (Upgrade others) = omega arith
few_by head l2 controllers bank controller (FoundInL2 others) = omega arith
few_by head l2 controllers bank controller (Miss false) = omega arith
few_by head l2 controllers bank controller (Miss true) = omega arith

module _ (path : AccessPath) where
  few_of : (e : Entry) → length (pieces_of path e) ≤ 4
  few_of e =
      few_by (head_time path e.request) path.l2 path.controllers (bank_component path.l2 e) (controller_component path.l2 path.controllers e) e.outcome

  pub plain_few : (entries : List Entry) → sum_by (λ e. length (pieces_of path e)) entries ≤ 4 * length entries
  plain_few entries =
      let each : All (λ (e : Entry). length (pieces_of path e) ≤ 4) entries = λ k d below. few_of (get_or entries k d) in
      let within : sum_by (λ e. length (pieces_of path e)) entries ≤ length entries * 4 = sum_by-le (λ (e : Entry). length (pieces_of path e)) 4 entries each in
      omega arith
