-- That links serve the hops of accesses, and controllers, with open rows or without, the reads and the writes.
use Rattle.std.proofs.Common.{◌≡◌, ◌+◌, ◌*◌, ◌<◌, ◌≤◌, ◌&&◌, ℕ, Bool, true, false, List, length, Option, None, Some, refl, ap, ◌∙◌, arith, subst, inl, inr, if◌then◌else◌, nat_lt, nat_le}
use Rattle.std.specs.List.{slice_get}
use Rattle.std.specs.Option.{option_map_or}
use Rattle.std.proofs.lemmas.Bool.{ltb-true, leb-true, and_parts}
use Rattle.std.proofs.lemmas.Option.{slice_get_cases}
use Rattle.machine_desc.specs.declared.machine.Dram.{Dram}
use Rattle.machine_desc.specs.declared.machine.Machine.{Machine}
use Rattle.machine_desc.specs.declared.machine.Mesh.{Mesh}
use Rattle.machine_desc.specs.Components.{links_of, nodes_of}
use Rattle.component.specs.declared.kind.Kind.TheVariants.{Lookup, Remote, Fill, Read, Write, Hop, RowRead}
use Rattle.component.specs.declared.comp.Comp.{Comp}
use Rattle.component.specs.declared.comp.Comp.TheVariants.{Bank as ABank, Controller as AController, Link as ALink, Rows as ARows}
use Rattle.component.specs.Serving.{comp_serves, comp_latency}
use Rattle.component.specs.Components.{AreComponents, IsBankOf, IsControllerIn, IsControllerOf, IsLinkIn, IsLinkOf, KeepsRowsOf}
use Rattle.event_graph.specs.Floors.{is_bank, is_controller}
use Rattle.event_graph.specs.FloorsServed.{ServesWith}
use Rattle.event_graph.specs.Timing.{look_up_time}
use Rattle.noc_mesh.specs.NetFloors.{hop_floor, read_floor, row_floor}

floor_if : (b : Bool) (x y : ℕ) → (if b then Some x else None) ≡ Some y → (b ≡ true) × (x ≡ y)
floor_if true x y is = (refl, cc)
floor_if false x y is = absurd (cc is)

module _ (m : Machine) (comps : List Comp) (are : AreComponents m comps) where
  of_link : (mesh : Mesh) (number : ℕ) (c : Comp) → m.mesh ≡ Some mesh → slice_get comps number ≡ Some c → IsLinkOf m c → ServesWith comp_serves comp_latency comps number Hop mesh.hop
  of_link mesh number (ABank b) is at' link = absurd link
  of_link mesh number (AController c) is at' link = absurd link
  of_link mesh number (ARows r) is at' link = absurd link
  of_link mesh number (ALink l) is at' link =
      let times = subst (λ (o : Option Mesh). IsLinkIn o l) is link in
      record { component = ALink l; there = at'; served = refl; floor_is = times.hop }

  hop_in : (mesh : Option Mesh) (number time : ℕ) → m.mesh ≡ mesh → hop_floor (m.l2.banks + m.controllers.count) mesh number ≡ Some time
      → ServesWith comp_serves comp_latency comps number Hop time
  hop_in None number time is floor = absurd (cc floor)
  hop_in (Some mesh) number time is floor =
      let first = m.l2.banks + m.controllers.count in
      let past = first + 4 * nodes_of mesh in
      let test = floor_if (nat_le first number && nat_lt number past) mesh.hop time floor in
      let parts = and_parts (nat_le first number) (nat_lt number past) test.0 in
      let from : first ≤ number = leb-true first number parts.0 in
      let low : number < past = ltb-true number past parts.1 in
      let links : links_of m ≡ 4 * nodes_of mesh = ap (λ (o : Option Mesh). option_map_or (λ x. 4 * nodes_of x) o 0) is in
      let below : number < length comps = omega (arith, are.count, links) in
      elim (slice_get_cases comps number).1 [
        | inl found ↦ subst (ServesWith comp_serves comp_latency comps number Hop) test.1
            (of_link mesh number found.0 is found.2 (subst (IsLinkOf m) found.3 (are.links number found.0 from below)))
        | inr past ↦ absurd (omega arith)
      ]

  pub hops_served : (number time : ℕ) → hop_floor (m.l2.banks + m.controllers.count) m.mesh number ≡ Some time → ServesWith comp_serves comp_latency comps number Hop time
  hops_served number time floor = hop_in m.mesh number time refl floor

  controller_at : (number : ℕ) → is_controller m.l2 m.controllers number ≡ true → (c : Comp) × (slice_get comps number ≡ Some c) × IsControllerOf m c
  controller_at number there =
      let past = m.l2.banks + m.controllers.count in
      let parts = and_parts (nat_le m.l2.banks number) (nat_lt number past) there in
      let from : m.l2.banks ≤ number = leb-true m.l2.banks number parts.0 in
      let low : number < past = ltb-true number past parts.1 in
      elim (slice_get_cases comps number).1 [
        | inl found ↦ (found.0, found.2, subst (IsControllerOf m) found.3 (are.controllers number found.0 from low))
        | inr behind ↦ absurd (omega (arith, are.count))
      ]

  -- a controller without open rows
  plain_controller : (number : ℕ) (c : Comp) → m.dram ≡ None → slice_get comps number ≡ Some c → IsControllerOf m c
      → ServesWith comp_serves comp_latency comps number Read m.controllers.read × ServesWith comp_serves comp_latency comps number Write m.controllers.write
  plain_controller number (ABank b) none at' is = absurd is
  plain_controller number (ALink l) none at' is = absurd is
  plain_controller number (ARows r) none at' is = absurd (subst (λ (o : Option Dram). KeepsRowsOf o m.controllers r) none is)
  plain_controller number (AController c) none at' is =
      let times = subst (λ (o : Option Dram). IsControllerIn o m.controllers c) none is in (
        record { component = AController c; there = at'; served = refl; floor_is = times.read },
        record { component = AController c; there = at'; served = refl; floor_is = times.write },
      )

  -- one with open rows
  row_controller : (dram : Dram) (number : ℕ) (c : Comp) → m.dram ≡ Some dram → slice_get comps number ≡ Some c → IsControllerOf m c
      → ((bank row : ℕ) → nat_lt bank dram.banks ≡ true → ServesWith comp_serves comp_latency comps number (RowRead bank row) dram.hit)
      × ServesWith comp_serves comp_latency comps number Write m.controllers.write
  row_controller dram number (ABank b) some at' is = absurd is
  row_controller dram number (ALink l) some at' is = absurd is
  row_controller dram number (AController c) some at' is = absurd (subst (λ (o : Option Dram). IsControllerIn o m.controllers c) some is)
  row_controller dram number (ARows r) some at' is =
      let times = subst (λ (o : Option Dram). KeepsRowsOf o m.controllers r) some is in (
        λ bank row below. record {
          component = ARows r;
          there = at';
          served = ap (nat_lt bank) times.banks ∙ below;
          floor_is = times.hit;
        },
        record { component = ARows r; there = at'; served = refl; floor_is = times.write },
      )

  read_in : (dram : Option Dram) (number time : ℕ) → m.dram ≡ dram → read_floor (is_controller m.l2 m.controllers number) m.controllers.read dram ≡ Some time
      → ServesWith comp_serves comp_latency comps number Read time
  read_in (Some dram) number time is floor = absurd (cc floor)
  read_in None number time is floor =
      let test = floor_if (is_controller m.l2 m.controllers number) m.controllers.read time floor in
      let found = controller_at number test.0 in
      subst (ServesWith comp_serves comp_latency comps number Read) test.1 (plain_controller number found.0 is found.1 found.2).0

  write_in : (dram : Option Dram) (number time : ℕ) → m.dram ≡ dram → (if is_controller m.l2 m.controllers number then Some m.controllers.write else None) ≡ Some time
      → ServesWith comp_serves comp_latency comps number Write time
  write_in None number time is floor =
      let test = floor_if (is_controller m.l2 m.controllers number) m.controllers.write time floor in
      let found = controller_at number test.0 in
      subst (ServesWith comp_serves comp_latency comps number Write) test.1 (plain_controller number found.0 is found.1 found.2).1
  write_in (Some dram) number time is floor =
      let test = floor_if (is_controller m.l2 m.controllers number) m.controllers.write time floor in
      let found = controller_at number test.0 in
      subst (ServesWith comp_serves comp_latency comps number Write) test.1 (row_controller dram number found.0 is found.1 found.2).1

  row_in : (dram : Option Dram) (number bank row time : ℕ) → m.dram ≡ dram → row_floor (is_controller m.l2 m.controllers number) dram bank ≡ Some time
      → ServesWith comp_serves comp_latency comps number (RowRead bank row) time
  row_in None number bank row time is floor = absurd (cc floor)
  row_in (Some dram) number bank row time is floor =
      let there = is_controller m.l2 m.controllers number in
      let test = floor_if (there && nat_lt bank dram.banks) dram.hit time floor in
      let parts = and_parts there (nat_lt bank dram.banks) test.0 in
      let found = controller_at number parts.0 in
      subst (ServesWith comp_serves comp_latency comps number (RowRead bank row)) test.1 ((row_controller dram number found.0 is found.1 found.2).0 bank row parts.1)

  pub read_is_served : (number time : ℕ) → read_floor (is_controller m.l2 m.controllers number) m.controllers.read m.dram ≡ Some time → ServesWith comp_serves comp_latency comps number Read time
  read_is_served number time floor = read_in m.dram number time refl floor

  pub write_is_served : (number time : ℕ) → (if is_controller m.l2 m.controllers number then Some m.controllers.write else None) ≡ Some time → ServesWith comp_serves comp_latency comps number Write time
  write_is_served number time floor = write_in m.dram number time refl floor

  pub row_is_served : (number bank row time : ℕ) → row_floor (is_controller m.l2 m.controllers number) m.dram bank ≡ Some time
      → ServesWith comp_serves comp_latency comps number (RowRead bank row) time
  row_is_served number bank row time floor = row_in m.dram number bank row time refl floor

  bank_at : (number : ℕ) → is_bank m.l2 number ≡ true → (c : Comp) × (slice_get comps number ≡ Some c) × IsBankOf m c
  bank_at number there =
      let low : number < m.l2.banks = ltb-true number m.l2.banks there in
      elim (slice_get_cases comps number).1 [
        | inl found ↦ (found.0, found.2, subst (IsBankOf m) found.3 (are.banks number found.0 (omega arith) low))
        | inr behind ↦ absurd (omega (arith, are.count))
      ]

  -- a bank serves what it serves in every machine
  bank_serves : (number : ℕ) (c : Comp) → slice_get comps number ≡ Some c → IsBankOf m c
      → ServesWith comp_serves comp_latency comps number Lookup (look_up_time m.l2 false) × ServesWith comp_serves comp_latency comps number Remote (look_up_time m.l2 true) × ServesWith comp_serves comp_latency comps number Fill m.l2.fill
  bank_serves number (AController c) at' is = absurd is
  bank_serves number (ALink l) at' is = absurd is
  bank_serves number (ARows r) at' is = absurd is
  bank_serves number (ABank b) at' times = (
    record { component = ABank b; there = at'; served = refl; floor_is = times.lookup },
    record { component = ABank b; there = at'; served = refl; floor_is = times.remote },
    record { component = ABank b; there = at'; served = refl; floor_is = times.fill },
  )

  pub bank_is_served : (number time : ℕ)
      → ((if is_bank m.l2 number then Some (look_up_time m.l2 false) else None) ≡ Some time → ServesWith comp_serves comp_latency comps number Lookup time)
      × ((if is_bank m.l2 number then Some (look_up_time m.l2 true) else None) ≡ Some time → ServesWith comp_serves comp_latency comps number Remote time)
      × ((if is_bank m.l2 number then Some m.l2.fill else None) ≡ Some time → ServesWith comp_serves comp_latency comps number Fill time)
  bank_is_served number time = (
    λ floor. (let test = floor_if (is_bank m.l2 number) (look_up_time m.l2 false) time floor in let found = bank_at number test.0 in subst (ServesWith comp_serves comp_latency comps number Lookup) test.1 (bank_serves number found.0 found.1 found.2).0),
    λ floor. (let test = floor_if (is_bank m.l2 number) (look_up_time m.l2 true) time floor in let found = bank_at number test.0 in subst (ServesWith comp_serves comp_latency comps number Remote) test.1 (bank_serves number found.0 found.1 found.2).1),
    λ floor. (let test = floor_if (is_bank m.l2 number) m.l2.fill time floor in let found = bank_at number test.0 in subst (ServesWith comp_serves comp_latency comps number Fill) test.1 (bank_serves number found.0 found.1 found.2).2),
  )
