-- That the components of a machine before their first event are one list.
use Rattle.std.specs.Prelude.{◌≡◌, ◌+◌, ◌<◌, List, length, Option, None, Some}
use Rattle.std.proofs.Common.{ap, ◌∙◌, sym, inl, inr, arith}
use Rattle.std.proofs.lemmas.Bool.{cases_lt}
use Rattle.std.proofs.lemmas.List.{same_lists}
use Rattle.machine_desc.specs.declared.machine.Controllers.{Controllers}
use Rattle.machine_desc.specs.declared.machine.Dram.{Dram}
use Rattle.machine_desc.specs.declared.machine.Mesh.{Mesh}
use Rattle.machine_desc.specs.declared.machine.Machine.{Machine}
use Rattle.dram_rows.specs.declared.rows.Rows.{Rows}
use Rattle.component.specs.declared.controller.Controller.{Controller}
use Rattle.component.specs.declared.link.Link.{Link}
use Rattle.component.specs.declared.comp.Comp.{Comp}
use Rattle.component.specs.declared.comp.Comp.TheVariants.{Bank as ABank, Controller as AController, Link as ALink, Rows as ARows}
use Rattle.component.specs.ComponentStep.{free_of}
use Rattle.component.specs.Components.{AreFresh, HasNoOpenRow, IsBankOf, IsControllerIn, IsControllerOf, KeepsRowsOf, IsLinkIn, IsLinkOf}
use Rattle.component.proofs.SameState.{same_bank, same_controller, same_link, same_rows}

one_bank : (m : Machine) (a b : Comp) → IsBankOf m a → IsBankOf m b → free_of a ≡ 0 → free_of b ≡ 0 → a ≡ b
one_bank m (ABank a) (ABank b) is is' free free' =
    ap (λ z. ABank z) (same_bank a b (is.lookup ∙ sym is'.lookup) (is.remote ∙ sym is'.remote) (is.fill ∙ sym is'.fill) (is.occupancy ∙ sym is'.occupancy) (free ∙ sym free'))
one_bank m (ABank a) (AController b) is is' free free' = absurd is'
one_bank m (ABank a) (ALink b) is is' free free' = absurd is'
one_bank m (ABank a) (ARows b) is is' free free' = absurd is'
one_bank m (AController a) b is is' free free' = absurd is
one_bank m (ALink a) b is is' free free' = absurd is
one_bank m (ARows a) b is is' free free' = absurd is

without_rows : (dram : Option Dram) (controllers : Controllers) (a b : Controller) → IsControllerIn dram controllers a → IsControllerIn dram controllers b → a.free ≡ b.free → a ≡ b
without_rows None controllers a b is is' free = same_controller a b (is.read ∙ sym is'.read) (is.write ∙ sym is'.write) (is.occupancy ∙ sym is'.occupancy) free
without_rows (Some dram) controllers a b is is' free = absurd is

with_rows : (dram : Option Dram) (controllers : Controllers) (a b : Rows) → KeepsRowsOf dram controllers a → KeepsRowsOf dram controllers b → a.free ≡ b.free → a.open_rows ≡ b.open_rows → a ≡ b
with_rows None controllers a b is is' free open_rows = absurd is
with_rows (Some dram) controllers a b is is' free open_rows =
    same_rows a b (is.banks ∙ sym is'.banks) (is.hit ∙ sym is'.hit) (is.closed ∙ sym is'.closed) (is.conflict ∙ sym is'.conflict) (is.write ∙ sym is'.write) (is.occupancy ∙ sym is'.occupancy) free
    open_rows

-- a controller either keeps rows open or does not
one_kind : {A : Type 0} (dram : Option Dram) (controllers : Controllers) (a : Controller) (b : Rows) → IsControllerIn dram controllers a → KeepsRowsOf dram controllers b → A
one_kind None controllers a b is is' = absurd is'
one_kind (Some dram) controllers a b is is' = absurd is

one_controller : (m : Machine) (a b : Comp) → IsControllerOf m a → IsControllerOf m b → free_of a ≡ 0 → free_of b ≡ 0 → HasNoOpenRow a → HasNoOpenRow b → a ≡ b
one_controller m (AController a) (AController b) is is' free free' closed closed' = ap (λ z. AController z) (without_rows m.dram m.controllers a b is is' (free ∙ sym free'))
one_controller m (ARows a) (ARows b) is is' free free' closed closed' = ap (λ z. ARows z) (with_rows m.dram m.controllers a b is is' (free ∙ sym free') (closed ∙ sym closed'))
one_controller m (AController a) (ARows b) is is' free free' closed closed' = one_kind m.dram m.controllers a b is is'
one_controller m (ARows a) (AController b) is is' free free' closed closed' = one_kind m.dram m.controllers b a is' is
one_controller m (AController a) (ABank b) is is' free free' closed closed' = absurd is'
one_controller m (AController a) (ALink b) is is' free free' closed closed' = absurd is'
one_controller m (ARows a) (ABank b) is is' free free' closed closed' = absurd is'
one_controller m (ARows a) (ALink b) is is' free free' closed closed' = absurd is'
one_controller m (ABank a) b is is' free free' closed closed' = absurd is
one_controller m (ALink a) b is is' free free' closed closed' = absurd is

one_in : (mesh : Option Mesh) (a b : Link) → IsLinkIn mesh a → IsLinkIn mesh b → a.free ≡ b.free → a ≡ b
one_in None a b is is' free = absurd is
one_in (Some mesh) a b is is' free = same_link a b (is.hop ∙ sym is'.hop) (is.occupancy ∙ sym is'.occupancy) free

one_link : (m : Machine) (a b : Comp) → IsLinkOf m a → IsLinkOf m b → free_of a ≡ 0 → free_of b ≡ 0 → a ≡ b
one_link m (ALink a) (ALink b) is is' free free' = ap (λ z. ALink z) (one_in m.mesh a b is is' (free ∙ sym free'))
one_link m (ALink a) (ABank b) is is' free free' = absurd is'
one_link m (ALink a) (AController b) is is' free free' = absurd is'
one_link m (ALink a) (ARows b) is is' free free' = absurd is'
one_link m (ABank a) b is is' free free' = absurd is
one_link m (AController a) b is is' free free' = absurd is
one_link m (ARows a) b is is' free free' = absurd is

pub one_list : (m : Machine) (comps others : List Comp) → AreFresh m comps → AreFresh m others → comps ≡ others
one_list m comps others fresh fresh' =
    let long : length comps ≡ length others = fresh.are.count ∙ sym fresh'.are.count in
    same_lists comps others long (λ k d below.
    let below' : k < length others = omega arith in
    let free = fresh.free k d below in
    let free' = fresh'.free k d below' in
    elim (cases_lt k m.l2.banks) [
      | inl bank ↦ one_bank m _ _ (fresh.are.banks k d (omega arith) bank) (fresh'.are.banks k d (omega arith) bank) free free'
      | inr past ↦ elim (cases_lt k (m.l2.banks + m.controllers.count)) [
        | inl before ↦ one_controller m _ _ (fresh.are.controllers k d past before) (fresh'.are.controllers k d past before) free free' (fresh.closed k d below) (fresh'.closed k d below')
        | inr behind ↦ one_link m _ _ (fresh.are.links k d behind below) (fresh'.are.links k d behind below') free free'
      ]
    ])
