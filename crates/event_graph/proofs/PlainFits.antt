-- That the components of a machine serve the events of its accesses.
use Rattle.std.proofs.Common.{◌≡◌, ◌+◌, ◌<◌, ◌≤◌, ℕ, Bool, true, false, List, length, get_or, Option, None, Some, refl, arith, subst, inl, inr, if◌then◌else◌, nat_lt, nat_le}
use Rattle.std.specs.List.{slice_get}
use Rattle.std.proofs.lemmas.Bool.{ltb-true, leb-true, and_parts}
use Rattle.std.proofs.lemmas.Option.{slice_get_cases}
use Rattle.machine_desc.specs.declared.machine.Dram.{Dram}
use Rattle.machine_desc.specs.declared.machine.Machine.{Machine}
use Rattle.machine_desc.specs.Machine.{IsMachine}
use Rattle.zs_num.specs.declared.entry.Entry.{Entry}
use Rattle.component.specs.declared.kind.Kind.{Kind}
use Rattle.component.specs.declared.kind.Kind.TheVariants.{Lookup, Remote, Fill, Read, Write, Hop, RowRead}
use Rattle.component.specs.declared.comp.Comp.{Comp}
use Rattle.component.specs.declared.comp.Comp.TheVariants.{Bank as ABank, Controller as AController, Link as ALink, Rows as ARows}
use Rattle.component.specs.Serving.{comp_serves, comp_latency}
use Rattle.component.specs.Components.{AreComponents, IsBankOf, IsControllerIn, IsControllerOf, KeepsRowsOf}
use Rattle.event_graph.specs.Fits.{GraphFits}
use Rattle.event_graph.specs.AccessPaths.{path_of}
use Rattle.event_graph.specs.Timing.{look_up_time}
use Rattle.event_graph.specs.PlainTiming.{pieces_of}
use Rattle.event_graph.specs.Floors.{plain_floor, is_bank, is_controller}
use Rattle.event_graph.specs.PlainLaws.{plain_floors_are_times}
use Rattle.event_graph.specs.FloorsServed.{ServesWith}
use Rattle.event_graph.specs.EventGraph.{all_events}
use Rattle.event_graph.proofs.FloorsFit.{floors_fit}

floor_if : (b : Bool) (x y : ℕ) → (if b then Some x else None) ≡ Some y → (b ≡ true) × (x ≡ y)
floor_if true x y is = (refl, cc)
floor_if false x y is = cc

module _ (m : Machine) (comps : List Comp) (no_rows : m.dram ≡ None) (are : AreComponents m comps) where
  stands : (component : ℕ) → component < length comps → (c : Comp) × (slice_get comps component ≡ Some c) × (get_or comps component c ≡ c)
  stands component below = elim (slice_get_cases comps component).1 [
    | inl found ↦ (found.0, found.2, found.3)
    | inr past ↦ absurd (omega arith)
  ]

  bank_at : (component : ℕ) → is_bank m.l2 component ≡ true → (c : Comp) × (slice_get comps component ≡ Some c) × IsBankOf m c
  bank_at component bank =
      let low : component < m.l2.banks = ltb-true component m.l2.banks bank in
      let found = stands component (omega (arith, are.count)) in
      (found.0, found.1, subst (IsBankOf m) found.2 (are.banks component found.0 (omega arith) low))

  controller_at : (component : ℕ) → is_controller m.l2 m.controllers component ≡ true → (c : Comp) × (slice_get comps component ≡ Some c) × IsControllerOf m c
  controller_at component controller =
      let parts = and_parts (nat_le m.l2.banks component) (nat_lt component (m.l2.banks + m.controllers.count)) controller in
      let from : m.l2.banks ≤ component = leb-true m.l2.banks component parts.0 in
      let low : component < m.l2.banks + m.controllers.count = ltb-true component (m.l2.banks + m.controllers.count) parts.1 in
      let below : component < length comps = omega (arith, are.count) in
      let found = stands component below in
      (found.0, found.1, subst (IsControllerOf m) found.2 (are.controllers component found.0 from low))

  of_bank : (component : ℕ) (c : Comp) → slice_get comps component ≡ Some c → IsBankOf m c
      → ServesWith comp_serves comp_latency comps component Lookup (look_up_time m.l2 false) × ServesWith comp_serves comp_latency comps component Remote (look_up_time m.l2 true) × ServesWith comp_serves comp_latency comps component Fill m.l2.fill
  of_bank component (ABank b) at' times = (
    record { component = ABank b; there = at'; served = refl; floor_is = times.lookup },
    record { component = ABank b; there = at'; served = refl; floor_is = times.remote },
    record { component = ABank b; there = at'; served = refl; floor_is = times.fill },
  )
  of_bank component (AController c) at' times = absurd times
  of_bank component (ALink l) at' times = absurd times
  of_bank component (ARows r) at' times = absurd times

  of_controller : (component : ℕ) (c : Comp) → slice_get comps component ≡ Some c → IsControllerOf m c
      → ServesWith comp_serves comp_latency comps component Read m.controllers.read × ServesWith comp_serves comp_latency comps component Write m.controllers.write
  of_controller component (ABank b) at' times = absurd times
  of_controller component (AController c) at' is =
      let times = subst (λ (o : Option Dram). IsControllerIn o m.controllers c) no_rows is in (
        record { component = AController c; there = at'; served = refl; floor_is = times.read },
        record { component = AController c; there = at'; served = refl; floor_is = times.write },
      )
  of_controller component (ALink l) at' times = absurd times
  of_controller component (ARows r) at' is = absurd (subst (λ (o : Option Dram). KeepsRowsOf o m.controllers r) no_rows is)

  pub plain_floors : (component : ℕ) (kind : Kind) (floor : ℕ) → plain_floor m.l2 m.controllers component kind ≡ Some floor → ServesWith comp_serves comp_latency comps component kind floor
  plain_floors component Lookup floor is =
      let floors = floor_if (is_bank m.l2 component) (look_up_time m.l2 false) floor is in
      let found = bank_at component floors.0 in
      subst (ServesWith comp_serves comp_latency comps component Lookup) floors.1 (of_bank component found.0 found.1 found.2).0
  plain_floors component Remote floor is =
      let floors = floor_if (is_bank m.l2 component) (look_up_time m.l2 true) floor is in
      let found = bank_at component floors.0 in
      subst (ServesWith comp_serves comp_latency comps component Remote) floors.1 (of_bank component found.0 found.1 found.2).1
  plain_floors component Fill floor is =
      let floors = floor_if (is_bank m.l2 component) m.l2.fill floor is in
      let found = bank_at component floors.0 in
      subst (ServesWith comp_serves comp_latency comps component Fill) floors.1 (of_bank component found.0 found.1 found.2).2
  plain_floors component Read floor is =
      let floors = floor_if (is_controller m.l2 m.controllers component) m.controllers.read floor is in
      let found = controller_at component floors.0 in
      subst (ServesWith comp_serves comp_latency comps component Read) floors.1 (of_controller component found.0 found.1 found.2).0
  plain_floors component Write floor is =
      let floors = floor_if (is_controller m.l2 m.controllers component) m.controllers.write floor is in
      let found = controller_at component floors.0 in
      subst (ServesWith comp_serves comp_latency comps component Write) floors.1 (of_controller component found.0 found.1 found.2).1
  plain_floors component Hop floor is = absurd cc
  plain_floors component (RowRead bank row) floor is = absurd cc

  pub plain_fits : IsMachine m → (entries : List Entry) → GraphFits comp_serves comp_latency (all_events (pieces_of (path_of m)) entries) comps
  plain_fits ok entries =
      floors_fit (pieces_of (path_of m)) (plain_floor m.l2 m.controllers) (plain_floors_are_times (path_of m) (record { l1 = ok.l1; l1i = ok.l1i; l2 = ok.l2; controllers = ok.controllers; mesh = ok.mesh; dram = ok.dram }))
      comp_serves comp_latency comps plain_floors entries
