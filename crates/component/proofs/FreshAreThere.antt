-- That a machine has components before their first event.
use Rattle.std.specs.Prelude.{◌≡◌, ◌+◌, ◌*◌, List, [], ◌++◌, replicate, Option, None, Some, IfSome}
use Rattle.std.proofs.Common.{sym, subst, refl, arith}
use Rattle.machine_desc.specs.declared.machine.Machine.{Machine}
use Rattle.machine_desc.specs.declared.machine.Mesh.{Mesh}
use Rattle.machine_desc.specs.declared.machine.Dram.{Dram}
use Rattle.machine_desc.specs.declared.machine.L2.{L2}
use Rattle.machine_desc.specs.declared.machine.Controllers.{Controllers}
use Rattle.std.specs.Option.{option_map_or}
use Rattle.machine_desc.specs.Components.{nodes_of}
use Rattle.machine_desc.specs.Machine.{IsMachine, IsL2, IsControllers, IsDram, IsMesh}
use Rattle.dram_rows.specs.declared.rows.Rows.{Rows}
use Rattle.component.specs.ComponentStep.{free_of}
use Rattle.component.specs.declared.bank.Bank.{Bank}
use Rattle.component.specs.declared.controller.Controller.{Controller}
use Rattle.component.specs.declared.link.Link.{Link}
use Rattle.component.specs.declared.comp.Comp.{Comp}
use Rattle.component.specs.declared.comp.Comp.TheVariants.{Bank as ABank, Controller as AController, Link as ALink, Rows as ARows}
use Rattle.component.specs.Components.{AreFresh, IsBankOf, HasNoOpenRow, IsControllerOf, IsControllerIn, KeepsRowsOf, IsLinkIn, IsLinkOf}
use Rattle.component.specs.Gained.{Gains}
use Rattle.component.proofs.Gathered.{all_alike, gathered, none_gained}

abbrev bank : (l2 : L2) → IsL2 l2 → Bank
bank l2 ok = record {
  lookup = l2.latency;
  remote = l2.latency + l2.remote;
  fill = l2.fill;
  occupancy = l2.occupancy;
  free = 0;
  lookup_at_least_one = ok.latency.0;
  remote_at_least_one = omega (arith, ok.latency.0);
  fill_at_least_one = ok.fill.0;
}

abbrev controller : (controllers : Controllers) → IsControllers controllers → Controller
controller controllers ok = record {
  read = controllers.read;
  write = controllers.write;
  occupancy = controllers.occupancy;
  free = 0;
  read_at_least_one = ok.read.0;
  write_at_least_one = ok.write.0;
}

abbrev link : (mesh : Mesh) → IsMesh mesh → Link
link mesh ok = record { hop = mesh.hop; occupancy = mesh.occupancy; free = 0; hop_at_least_one = ok.hop.0 }

abbrev rows : (controllers : Controllers) → IsControllers controllers → (dram : Dram) → IsDram dram → Rows
rows controllers ok dram is = record {
  numbers = record {
    banks = dram.banks;
    hit = dram.hit;
    closed = dram.closed;
    conflict = dram.conflict;
    write = controllers.write;
    occupancy = controllers.occupancy;
    few_banks = is.banks.1;
    hit_at_least_one = is.hit.0;
    closed_at_least_hit = is.closed.0;
    conflict_at_least_closed = is.conflict.0;
    write_at_least_one = ok.write.0;
  };
  free = 0;
  open_rows = replicate 16 None;
}

-- a controller, with open rows or without
controller_there : (m : Machine) → IsControllers m.controllers → (dram : Option Dram) → m.dram ≡ dram → IfSome dram IsDram
    → (c : Comp) × IsControllerOf m c × (free_of c ≡ 0) × HasNoOpenRow c
controller_there m ok None is in_range =
    let one : Controller = controller m.controllers ok in
    (AController one, subst (λ (o : Option Dram). IsControllerIn o m.controllers one) (sym is) (record { read = refl; write = refl; occupancy = refl }), refl, tt)
controller_there m ok (Some dram) is in_range =
    let one : Rows = rows m.controllers ok dram in_range in (
      ARows one,
      subst (λ (o : Option Dram). KeepsRowsOf o m.controllers one) (sym is) (record { banks = refl; hit = refl; closed = refl; conflict = refl; write = refl; occupancy = refl }),
      refl,
      refl,
    )

links_there : (m : Machine) (before : List Comp) (mesh : Option Mesh) → m.mesh ≡ mesh → IfSome mesh IsMesh
    → (after : List Comp) × Gains (IsLinkOf m) (option_map_or (λ x. 4 * nodes_of x) mesh 0) before after
links_there m before None is ok = (before, none_gained (IsLinkOf m) before)
links_there m before (Some mesh) is ok =
    let one : Link = link mesh ok in
    let of_mesh : IsLinkOf m (ALink one) = subst (λ (o : Option Mesh). IsLinkIn o one) (sym is) (record { hop = refl; occupancy = refl }) in
    (before ++ replicate (4 * nodes_of mesh) (ALink one), all_alike (IsLinkOf m) before (4 * nodes_of mesh) (ALink one) of_mesh refl tt)

pub fresh_there : (m : Machine) → IsMachine m → (comps : List Comp) × AreFresh m comps
fresh_there m ok =
    let a : Comp = ABank (bank m.l2 ok.l2) in
    let one = controller_there m ok.controllers m.dram refl ok.dram in
    let b : Comp = one.0 in
    let banks : List Comp = [] ++ replicate m.l2.banks a in
    let two : List Comp = banks ++ replicate m.controllers.count b in
    let last = links_there m two m.mesh refl ok.mesh in (
      last.0,
      gathered m banks two last.0
          (all_alike (IsBankOf m) [] m.l2.banks a (record { lookup = refl; remote = refl; fill = refl; occupancy = refl }) refl tt)
          (all_alike (IsControllerOf m) banks m.controllers.count b one.1 one.2 one.3) last.1,
    )
