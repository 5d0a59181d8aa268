-- That accesses of one core, to one line, with one outcome, have the same way, a fetch as a fetch.
use Rattle.std.specs.Prelude.{◌≡◌, ◌+◌, ◌-◌, ◌/◌, ◌%◌, ℕ, suc, Bool, true, false, if◌then◌else◌, unwrap_or, List, length, map, Option, None, Some, refl}
use Rattle.std.proofs.Common.{◌∙◌, ap, ap₂}
use Rattle.component.specs.declared.kind.Kind.TheVariants.{Lookup, Remote, Fill, Read, Write, RowRead}
use Rattle.machine_desc.specs.declared.machine.Dram.{Dram}
use Rattle.machine_desc.specs.declared.machine.Mesh.{Mesh}
use Rattle.machine_desc.specs.Components.{nodes_of}
use Rattle.zs_num.specs.declared.entry.Entry.{Entry}
use Rattle.zs_num.specs.declared.entry.Outcome.{Outcome}
use Rattle.zs_num.specs.declared.entry.Outcome.TheVariants.{Hit, Upgrade, L2 as FoundInL2, Miss}
use Rattle.zs_num.specs.Request.{is_fetch, line_of}
use Rattle.event_graph.specs.declared.access_path.AccessPath.{AccessPath}
use Rattle.event_graph.specs.AccessPaths.{head_time}
use Rattle.event_graph.specs.Timing.{bank_component, look_up_time}
use Rattle.noc_mesh.specs.declared.stage.Stage.{Stage}
use Rattle.noc_mesh.specs.declared.stop.Stop.{Stop}
use Rattle.noc_mesh.specs.declared.stop.Stop.TheVariants.{Core, Bank, Controller}
use Rattle.noc_mesh.specs.NetTiming.{node_of, hop_on, hops_in, hops, looks_up, reads, reads_from, writes, fills, reached, looked_up, answered, missed, read_in, brought, filled, passage}
use Rattle.noc_mesh.specs.Passages.{Passage, begun, goes, meets, passes, writes_beside}
use Rattle.noc_mesh.specs.Routes.{route}

module _ (path : AccessPath) (e other : Entry) (core : e.core ≡ other.core) (line : line_of e.request ≡ line_of other.request) (fetch : is_fetch e.request ≡ is_fetch other.request) where
  bank_same : bank_component path.l2 e ≡ bank_component path.l2 other
  bank_same = ap (λ (n : ℕ). n % path.l2.banks) line

  head_same : head_time path e.request ≡ head_time path other.request
  head_same = ap (λ (b : Bool). (if b then unwrap_or path.l1i path.l1 else path.l1).latency) fetch

  node_same : (mesh : Mesh) (stop : Stop) → node_of path e mesh stop ≡ node_of path other mesh stop
  node_same mesh Core = ap (λ (n : ℕ). n % nodes_of mesh) core
  node_same mesh Bank = ap (λ (n : ℕ). n % nodes_of mesh) bank_same
  node_same mesh Controller = ap (λ (n : ℕ). nodes_of mesh - 1 - n % path.controllers.count % nodes_of mesh) bank_same

  same_in : (mesh : Option Mesh) (from to : Stop) → hops_in path e mesh from to ≡ hops_in path other mesh from to
  same_in None from to = refl
  same_in (Some mesh) from to = ap₂ (λ (a b : ℕ). map (hop_on path e mesh) (route mesh a b)) (node_same mesh from) (node_same mesh to)

  hops_same : (from to : Stop) → hops path e from to ≡ hops path other from to
  hops_same from to = same_in path.mesh from to

  reached_same : reached path e ≡ reached path other
  reached_same = ap₂ (λ (h : ℕ) (stages : List Stage). passes (begun h) stages) head_same (hops_same Core Bank)

  looks_same : (others : Bool) → looks_up path e others ≡ looks_up path other others
  looks_same others =
      ap (λ (b : ℕ). let s : Stage = record { component = b; kind = (if others then Remote else Lookup); time = look_up_time path.l2 others } in s) bank_same

  looked_same : (others : Bool) → looked_up path e others ≡ looked_up path other others
  looked_same others = ap₂ goes reached_same (looks_same others)

  answered_same : (others : Bool) → answered path e others ≡ answered path other others
  answered_same others = ap₂ passes (looked_same others) (hops_same Bank Core)

  missed_same : missed path e ≡ missed path other
  missed_same = ap₂ passes (looked_same false) (hops_same Bank Controller)

  reads_in_same : (dram : Option Dram) → reads_from path e dram ≡ reads_from path other dram
  reads_in_same None = ap (λ (b : ℕ). let s : Stage = record { component = path.l2.banks + b % path.controllers.count; kind = Read; time = path.controllers.read } in s) bank_same
  reads_in_same (Some dram) =
      ap₂ (λ (b n : ℕ). let s : Stage = record { component = path.l2.banks + b % path.controllers.count; kind = RowRead (n / dram.row_lines % dram.banks) (n / dram.row_lines / dram.banks); time = dram.hit } in s)
      bank_same line

  reads_same : reads path e ≡ reads path other
  reads_same = reads_in_same path.dram

  writes_same : writes path e ≡ writes path other
  writes_same = ap (λ (b : ℕ). let s : Stage = record { component = path.l2.banks + b % path.controllers.count; kind = Write; time = path.controllers.write } in s) bank_same

  fills_same : fills path e ≡ fills path other
  fills_same = ap (λ (b : ℕ). let s : Stage = record { component = b; kind = Fill; time = path.l2.fill } in s) bank_same

  read_same : (dirty : Bool) → read_in path e dirty ≡ read_in path other dirty
  read_same false = ap₂ goes missed_same reads_same
  read_same true =
      ap (λ (p : Passage). writes_beside p (goes p (reads path e)) (writes path e)) missed_same
      ∙ ap₂ (λ (r w : Stage). writes_beside (missed path other) (goes (missed path other) r) w) reads_same writes_same

  brought_same : (dirty : Bool) → brought path e dirty ≡ brought path other dirty
  brought_same dirty = ap₂ passes (read_same dirty) (hops_same Controller Bank)

  filled_same : (dirty : Bool) → filled path e dirty ≡ filled path other dirty
  filled_same false = ap₂ goes (brought_same false) fills_same
  filled_same true =
      ap₂ (λ (p m : Passage). meets p (suc (length m.pieces)) (m.end + path.controllers.write) (fills path e)) (brought_same true) missed_same
      ∙ ap (meets (brought path other true) (suc (length (missed path other).pieces)) ((missed path other).end + path.controllers.write)) fills_same

  by_outcome : (o : Outcome) → passage path e o ≡ passage path other o
  by_outcome Hit = ap begun head_same
  by_outcome (Upgrade others) = answered_same others
  by_outcome (FoundInL2 others) = answered_same others
  by_outcome (Miss dirty) = ap₂ passes (filled_same dirty) (hops_same Bank Core)

  pub same_way : e.outcome ≡ other.outcome → passage path e e.outcome ≡ passage path other other.outcome
  same_way outcome = by_outcome e.outcome ∙ ap (passage path other) outcome
