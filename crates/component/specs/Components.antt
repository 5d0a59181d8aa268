-- The components of a machine.
use Rattle.std.specs.Prelude.{◌≡◌, ◌+◌, List, length, replicate, Option, None, Some}
use Rattle.std.specs.List.{All, AllWithin}
use Rattle.machine_desc.specs.declared.machine.L2.{L2}
use Rattle.machine_desc.specs.declared.machine.Controllers.{Controllers}
use Rattle.machine_desc.specs.declared.machine.Dram.{Dram}
use Rattle.machine_desc.specs.declared.machine.Mesh.{Mesh}
use Rattle.machine_desc.specs.declared.machine.Machine.{Machine}
use Rattle.machine_desc.specs.Components.{component_count}
use Rattle.dram_rows.specs.declared.rows.Rows.{Rows}
use Rattle.component.specs.declared.bank.Bank.{Bank}
use Rattle.component.specs.declared.controller.Controller.{Controller}
use Rattle.component.specs.declared.link.Link.{Link}
use Rattle.component.specs.declared.comp.Comp.{Comp}
use Rattle.component.specs.declared.comp.Comp.TheVariants.{Bank as ABank, Controller as AController, Link as ALink, Rows as ARows}
use Rattle.component.specs.ComponentStep.{free_of}

-- a bank with the times of this shared cache; a look-up that another core's copy delays takes both
pub record HasBankTimes (l2 : L2) (b : Bank) : Type 0 where
  pub lookup : b.lookup ≡ l2.latency
  pub remote : b.remote ≡ l2.latency + l2.remote
  pub fill : b.fill ≡ l2.fill
  pub occupancy : b.occupancy ≡ l2.occupancy

-- a controller with the times of these controllers
pub record HasControllerTimes (controllers : Controllers) (c : Controller) : Type 0 where
  pub read : c.read ≡ controllers.read
  pub write : c.write ≡ controllers.write
  pub occupancy : c.occupancy ≡ controllers.occupancy

-- a link with the times of this mesh
pub record HasLinkTimes (mesh : Mesh) (l : Link) : Type 0 where
  pub hop : l.hop ≡ mesh.hop
  pub occupancy : l.occupancy ≡ mesh.occupancy

-- a controller with open rows, with the times of this memory, and those of these controllers that do not depend on rows
pub record HasRowTimes (controllers : Controllers) (dram : Dram) (r : Rows) : Type 0 where
  pub banks : r.numbers.banks ≡ dram.banks
  pub hit : r.numbers.hit ≡ dram.hit
  pub closed : r.numbers.closed ≡ dram.closed
  pub conflict : r.numbers.conflict ≡ dram.conflict
  pub write : r.numbers.write ≡ controllers.write
  pub occupancy : r.numbers.occupancy ≡ controllers.occupancy

abbrev pub IsBankOf : Machine → Comp → Type 0
IsBankOf m (ABank b) = HasBankTimes m.l2 b
IsBankOf m (AController c) = ⊥
IsBankOf m (ALink l) = ⊥
IsBankOf m (ARows r) = ⊥

-- the controllers of a machine keep rows open exactly where its memory has rows
abbrev pub IsControllerIn : Option Dram → Controllers → Controller → Type 0
IsControllerIn None controllers c = HasControllerTimes controllers c
IsControllerIn (Some dram) controllers c = ⊥

abbrev pub KeepsRowsOf : Option Dram → Controllers → Rows → Type 0
KeepsRowsOf None controllers r = ⊥
KeepsRowsOf (Some dram) controllers r = HasRowTimes controllers dram r

abbrev pub IsControllerOf : Machine → Comp → Type 0
IsControllerOf m (ABank b) = ⊥
IsControllerOf m (AController c) = IsControllerIn m.dram m.controllers c
IsControllerOf m (ALink l) = ⊥
IsControllerOf m (ARows r) = KeepsRowsOf m.dram m.controllers r

-- without a mesh there is no link
abbrev pub IsLinkIn : Option Mesh → Link → Type 0
IsLinkIn None l = ⊥
IsLinkIn (Some mesh) l = HasLinkTimes mesh l

abbrev pub IsLinkOf : Machine → Comp → Type 0
IsLinkOf m (ABank b) = ⊥
IsLinkOf m (AController c) = ⊥
IsLinkOf m (ALink l) = IsLinkIn m.mesh l
IsLinkOf m (ARows r) = ⊥

-- the components of a machine by their numbers: its banks, then its controllers, and then the links of its mesh
pub record AreComponents (m : Machine) (comps : List Comp) : Type 0 where
  pub count : length comps ≡ component_count m
  pub banks : AllWithin (IsBankOf m) comps 0 m.l2.banks
  pub controllers : AllWithin (IsControllerOf m) comps m.l2.banks (m.l2.banks + m.controllers.count)
  pub links : AllWithin (IsLinkOf m) comps (m.l2.banks + m.controllers.count) (length comps)

-- no row of a controller is open
abbrev pub HasNoOpenRow : Comp → Type 0
HasNoOpenRow (ABank b) = Unit {0}
HasNoOpenRow (AController c) = Unit {0}
HasNoOpenRow (ALink l) = Unit {0}
HasNoOpenRow (ARows r) = r.open_rows ≡ replicate 16 None

-- the components of a machine before their first event: each is free from cycle 0 on, and no row is open
pub record AreFresh (m : Machine) (comps : List Comp) : Type 0 where
  pub are : AreComponents m comps
  pub free : All (λ c. free_of c ≡ 0) comps
  pub closed : All HasNoOpenRow comps
