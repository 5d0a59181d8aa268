-- That the components of a machine stay its components while they serve events.
use Rattle.std.specs.Prelude.{◌≡◌, ◌+◌, ◌<◌, ℕ, List, length, slice_set, slice_index_or, slice_get, Option, None, Some}
use Rattle.std.specs.List.{AllWithin}
use Rattle.std.proofs.Common.{ap, ◌∙◌, sym, subst, refl, inl, inr, length-set, get_or-set_same, get_or-set_other}
use Rattle.std.proofs.lemmas.Bool.{cases_eq}
use Rattle.std.proofs.lemmas.Option.{slice_get_within, get_or_from_slice_get}
use Rattle.machine_desc.specs.declared.machine.Controllers.{Controllers}
use Rattle.machine_desc.specs.declared.machine.Dram.{Dram}
use Rattle.machine_desc.specs.declared.machine.Mesh.{Mesh}
use Rattle.machine_desc.specs.declared.machine.Machine.{Machine}
use Rattle.component.specs.declared.kind.Kind.{Kind}
use Rattle.dram_rows.specs.declared.rows.Rows.{Rows}
use Rattle.component.specs.declared.kind.Kind.TheVariants.{Lookup, Remote, Fill, Read, Write, Hop, RowRead}
use Rattle.component.specs.declared.controller.Controller.{Controller}
use Rattle.component.specs.declared.link.Link.{Link}
use Rattle.component.specs.declared.comp.Comp.{Comp}
use Rattle.component.specs.declared.comp.Comp.TheVariants.{Bank as ABank, Controller as AController, Link as ALink, Rows as ARows}
use Rattle.component.specs.ComponentStep.{comp_step, controller_step, link_step, rows_step}
use Rattle.component.specs.Components.{AreComponents, IsBankOf, IsControllerIn, IsControllerOf, KeepsRowsOf, IsLinkIn, IsLinkOf}

bank_stays : (m : Machine) (c : Comp) (kind : Kind) (start : ℕ) → IsBankOf m c → IsBankOf m (comp_step c kind start).0
bank_stays m (ABank b) kind start is = record { lookup = is.lookup; remote = is.remote; fill = is.fill; occupancy = is.occupancy }
bank_stays m (AController c) kind start is = is
bank_stays m (ALink l) kind start is = is
bank_stays m (ARows r) kind start is = is

controller_in_stays : (dram : Option Dram) (controllers : Controllers) (c : Controller) (kind : Kind) (start : ℕ) → IsControllerIn dram controllers c → IsControllerIn dram controllers (controller_step c kind start).0
controller_in_stays None controllers c kind start is = record { read = is.read; write = is.write; occupancy = is.occupancy }
controller_in_stays (Some dram) controllers c kind start is = is

numbers_stay : (r : Rows) (kind : Kind) (start : ℕ) → (rows_step r kind start).0.numbers ≡ r.numbers
numbers_stay r Lookup start = refl
numbers_stay r Remote start = refl
numbers_stay r Fill start = refl
numbers_stay r Read start = refl
numbers_stay r Write start = refl
numbers_stay r Hop start = refl
numbers_stay r (RowRead bank row) start = refl

rows_in_stay : (dram : Option Dram) (controllers : Controllers) (r s : Rows) → s.numbers ≡ r.numbers → KeepsRowsOf dram controllers r → KeepsRowsOf dram controllers s
rows_in_stay None controllers r s same is = is
rows_in_stay (Some dram) controllers r s same is = record {
  banks = ap (λ n. n.banks) same ∙ is.banks;
  hit = ap (λ n. n.hit) same ∙ is.hit;
  closed = ap (λ n. n.closed) same ∙ is.closed;
  conflict = ap (λ n. n.conflict) same ∙ is.conflict;
  write = ap (λ n. n.write) same ∙ is.write;
  occupancy = ap (λ n. n.occupancy) same ∙ is.occupancy;
}

controller_stays : (m : Machine) (c : Comp) (kind : Kind) (start : ℕ) → IsControllerOf m c → IsControllerOf m (comp_step c kind start).0
controller_stays m (ABank b) kind start is = is
controller_stays m (AController c) kind start is = controller_in_stays m.dram m.controllers c kind start is
controller_stays m (ALink l) kind start is = is
controller_stays m (ARows r) kind start is = rows_in_stay m.dram m.controllers r (rows_step r kind start).0 (numbers_stay r kind start) is

link_in_stays : (mesh : Option Mesh) (l : Link) (kind : Kind) (start : ℕ) → IsLinkIn mesh l → IsLinkIn mesh (link_step l kind start).0
link_in_stays None l kind start is = is
link_in_stays (Some mesh) l kind start is = record { hop = is.hop; occupancy = is.occupancy }

link_stays : (m : Machine) (c : Comp) (kind : Kind) (start : ℕ) → IsLinkOf m c → IsLinkOf m (comp_step c kind start).0
link_stays m (ABank b) kind start is = is
link_stays m (AController c) kind start is = is
link_stays m (ALink l) kind start is = link_in_stays m.mesh l kind start is
link_stays m (ARows r) kind start is = is

-- a range of elements, after a write that keeps what is true of the element
within_set : {X : Type 0} (P : X → Type 0) (xs : List X) (i : ℕ) (old new : X) → slice_get xs i ≡ Some old → (P old → P new) → (low high : ℕ)
    → AllWithin P xs low high → AllWithin P (slice_set xs i new) low high
within_set P xs i old new at' keeps low high all k d from below =
    elim (cases_eq k i) [
      | inl same ↦
          let there : i < length xs = slice_get_within xs i old at' in
          let is : slice_index_or (slice_set xs i new) k d ≡ new = ap (λ (n : ℕ). slice_index_or (slice_set xs i new) n d) same ∙ get_or-set_same xs i new d there in
          let was : slice_index_or xs k d ≡ old = ap (λ (n : ℕ). slice_index_or xs n d) same ∙ get_or_from_slice_get xs i old d at' in
          subst P (sym is) (keeps (subst P was (all k d from below)))
      | inr other ↦ subst P (sym (get_or-set_other xs i k new d other)) (all k d from below)
    ]

-- after one of them served an event
pub components_stay : (m : Machine) (comps : List Comp) (i : ℕ) (c : Comp) (kind : Kind) (start : ℕ) → AreComponents m comps → slice_get comps i ≡ Some c
    → AreComponents m (slice_set comps i (comp_step c kind start).0)
components_stay m comps i c kind start are at' =
    let after = (comp_step c kind start).0 in
    let past = m.l2.banks + m.controllers.count in
    let long = length-set comps i after in
    record {
      count = long ∙ are.count;
      banks = within_set (IsBankOf m) comps i c after at' (bank_stays m c kind start) 0 m.l2.banks are.banks;
      controllers = within_set (IsControllerOf m) comps i c after at' (controller_stays m c kind start) m.l2.banks past are.controllers;
      links = subst (AllWithin (IsLinkOf m) (slice_set comps i after) past) (sym long) (within_set (IsLinkOf m) comps i c after at' (link_stays m c kind start) past (length comps) are.links);
    }
