-- How far a step of a machine's component can reach.
use Rattle.std.proofs.Common.{◌≡◌, ◌<◌, ◌≤◌, ◌+◌, ◌&&◌, ℕ, max, Bool, true, false, ◌==◌, if◌then◌else◌, List, length, get_or, subst, inl, inr, leb, arith}
use Rattle.std.specs.Prelude.{IsTrue, IfSome, Option, None, Some}
use Rattle.std.specs.List.{All}
use Rattle.std.proofs.lemmas.Bool.{and_from, and_parts, cases_lt, le-leb, leb-true}
use Rattle.machine_desc.specs.declared.machine.Controllers.{Controllers}
use Rattle.machine_desc.specs.declared.machine.Dram.{Dram}
use Rattle.machine_desc.specs.declared.machine.Mesh.{Mesh}
use Rattle.machine_desc.specs.declared.machine.Machine.{Machine}
use Rattle.machine_desc.specs.Machine.{IsControllers, IsDram, IsMachine, IsMesh}
use Rattle.dram_rows.specs.declared.numbers.RowNumbers.{RowNumbers}
use Rattle.dram_rows.specs.declared.rows.Rows.{Rows}
use Rattle.dram_rows.specs.OpenRows.{open_at, read_time}
use Rattle.component.specs.declared.kind.Kind.{Kind}
use Rattle.component.specs.declared.kind.Kind.TheVariants.{Lookup, Remote, Fill, Read, Write, Hop, RowRead}
use Rattle.component.specs.declared.bank.Bank.{Bank}
use Rattle.component.specs.declared.controller.Controller.{Controller}
use Rattle.component.specs.declared.link.Link.{Link}
use Rattle.component.specs.declared.comp.Comp.{Comp}
use Rattle.component.specs.declared.comp.Comp.TheVariants.{Bank as ABank, Controller as AController, Link as ALink, Rows as ARows}
use Rattle.component.specs.ComponentStep.{bank_latency, comp_step, controller_latency, free_of, link_latency, rows_step}
use Rattle.component.specs.Greatest.{comp_greatest}
use Rattle.component.specs.Serving.{comp_serves}
use Rattle.component.specs.Components.{AreComponents, IsBankOf, IsControllerIn, IsControllerOf, KeepsRowsOf, IsLinkIn, IsLinkOf}
use Rattle.event_graph.specs.Growth.{BeginBy, IsPaced}
use Rattle.event_graph.proofs.Lists.{get_within, read_is}

-- each time of the component is 2^17 cycles at most
abbrev pub is_quick : Comp → Bool
is_quick (ABank b) = (leb b.lookup 131072 && leb b.remote 131072) && (leb b.fill 131072 && leb b.occupancy 131072)
is_quick (AController c) = leb c.read 131072 && (leb c.write 131072 && leb c.occupancy 131072)
is_quick (ALink l) = leb l.hop 131072 && leb l.occupancy 131072
is_quick (ARows r) = leb r.numbers.conflict 131072 && (leb r.numbers.write 131072 && leb r.numbers.occupancy 131072)

bank_parts : (b : Bank) → is_quick (ABank b) ≡ true → ((b.lookup ≤ 131072) × (b.remote ≤ 131072)) × ((b.fill ≤ 131072) × (b.occupancy ≤ 131072))
bank_parts b h =
    let p = and_parts (leb b.lookup 131072 && leb b.remote 131072) (leb b.fill 131072 && leb b.occupancy 131072) h in
    let q = and_parts (leb b.lookup 131072) (leb b.remote 131072) p.0 in
    let r = and_parts (leb b.fill 131072) (leb b.occupancy 131072) p.1 in
    ((leb-true b.lookup 131072 q.0, leb-true b.remote 131072 q.1), (leb-true b.fill 131072 r.0, leb-true b.occupancy 131072 r.1))

controller_parts : (c : Controller) → is_quick (AController c) ≡ true → (c.read ≤ 131072) × ((c.write ≤ 131072) × (c.occupancy ≤ 131072))
controller_parts c h =
    let p = and_parts (leb c.read 131072) (leb c.write 131072 && leb c.occupancy 131072) h in
    let q = and_parts (leb c.write 131072) (leb c.occupancy 131072) p.1 in
    (leb-true c.read 131072 p.0, (leb-true c.write 131072 q.0, leb-true c.occupancy 131072 q.1))

link_parts : (l : Link) → is_quick (ALink l) ≡ true → (l.hop ≤ 131072) × (l.occupancy ≤ 131072)
link_parts l h =
    let p = and_parts (leb l.hop 131072) (leb l.occupancy 131072) h in
    (leb-true l.hop 131072 p.0, leb-true l.occupancy 131072 p.1)

rows_parts : (r : Rows) → is_quick (ARows r) ≡ true → (r.numbers.conflict ≤ 131072) × ((r.numbers.write ≤ 131072) × (r.numbers.occupancy ≤ 131072))
rows_parts r h =
    let p = and_parts (leb r.numbers.conflict 131072) (leb r.numbers.write 131072 && leb r.numbers.occupancy 131072) h in
    let q = and_parts (leb r.numbers.write 131072) (leb r.numbers.occupancy 131072) p.1 in
    (leb-true r.numbers.conflict 131072 p.0, (leb-true r.numbers.write 131072 q.0, leb-true r.numbers.occupancy 131072 q.1))

bank_latency_small : (b : Bank) (kind : Kind) → is_quick (ABank b) ≡ true → bank_latency b kind ≤ 131072
bank_latency_small b Lookup h = (bank_parts b h).0.0
bank_latency_small b Remote h = (bank_parts b h).0.1
bank_latency_small b Fill h = (bank_parts b h).1.0
bank_latency_small b Read h = omega arith
bank_latency_small b Write h = omega arith
bank_latency_small b Hop h = omega arith
bank_latency_small b (RowRead bank row) h = omega arith

controller_latency_small : (c : Controller) (kind : Kind) → is_quick (AController c) ≡ true → controller_latency c kind ≤ 131072
controller_latency_small c Lookup h = omega arith
controller_latency_small c Remote h = omega arith
controller_latency_small c Fill h = omega arith
controller_latency_small c Read h = (controller_parts c h).0
controller_latency_small c Write h = (controller_parts c h).1.0
controller_latency_small c Hop h = omega arith
controller_latency_small c (RowRead bank row) h = omega arith

link_latency_small : (l : Link) (kind : Kind) → is_quick (ALink l) ≡ true → link_latency l kind ≤ 131072
link_latency_small l Lookup h = omega arith
link_latency_small l Remote h = omega arith
link_latency_small l Fill h = omega arith
link_latency_small l Read h = omega arith
link_latency_small l Write h = omega arith
link_latency_small l Hop h = (link_parts l h).0
link_latency_small l (RowRead bank row) h = omega arith

-- a read of a row takes no more than a conflict
read_small : (numbers : RowNumbers) (open_row : Option ℕ) (row : ℕ) → numbers.conflict ≤ 131072 → read_time numbers open_row row ≤ 131072
read_small numbers None row h = omega (arith, numbers.conflict_at_least_closed)
read_small numbers (Some other) row h = by_test (other == row)
  where
    by_test : (same : Bool) → (if same then numbers.hit else numbers.conflict) ≤ 131072
    by_test true = omega (arith, numbers.closed_at_least_hit, numbers.conflict_at_least_closed)
    by_test false = h

rows_small : (r : Rows) (kind : Kind) (start : ℕ) → is_quick (ARows r) ≡ true
    → ((rows_step r kind start).1 ≤ max start r.free + 131072) × ((rows_step r kind start).0.free ≤ max start r.free + 131072)
rows_small r Lookup start h = (omega (arith, (rows_parts r h).1.0), omega (arith, (rows_parts r h).1.1))
rows_small r Remote start h = (omega (arith, (rows_parts r h).1.0), omega (arith, (rows_parts r h).1.1))
rows_small r Fill start h = (omega (arith, (rows_parts r h).1.0), omega (arith, (rows_parts r h).1.1))
rows_small r Read start h = (omega (arith, (rows_parts r h).1.0), omega (arith, (rows_parts r h).1.1))
rows_small r Write start h = (omega (arith, (rows_parts r h).1.0), omega (arith, (rows_parts r h).1.1))
rows_small r Hop start h = (omega (arith, (rows_parts r h).1.0), omega (arith, (rows_parts r h).1.1))
rows_small r (RowRead bank row) start h =
    (omega (arith, read_small r.numbers (open_at r bank) row (rows_parts r h).0), omega (arith, (rows_parts r h).1.1))

rows_stay_quick : (r : Rows) (kind : Kind) (start : ℕ) → is_quick (ARows r) ≡ true → is_quick (ARows (rows_step r kind start).0) ≡ true
rows_stay_quick r Lookup start h = h
rows_stay_quick r Remote start h = h
rows_stay_quick r Fill start h = h
rows_stay_quick r Read start h = h
rows_stay_quick r Write start h = h
rows_stay_quick r Hop start h = h
rows_stay_quick r (RowRead bank row) start h = h

sum_small : (c : Comp) (kind : Kind) (start : ℕ) → IsTrue (is_quick c) → IsTrue (comp_serves c kind) → comp_greatest c kind start ≤ max start (free_of c) + 131072
sum_small (ABank b) kind start h s = omega (arith, bank_latency_small b kind h, (bank_parts b h).1.1)
sum_small (AController c) kind start h s = omega (arith, controller_latency_small c kind h, (controller_parts c h).1.1)
sum_small (ALink l) kind start h s = omega (arith, link_latency_small l kind h, (link_parts l h).1)
sum_small (ARows r) kind start h s = omega (arith, (rows_small r kind start h).0, (rows_small r kind start h).1)

stays_quick : (c : Comp) (kind : Kind) (start : ℕ) → IsTrue (is_quick c) → IsTrue (comp_serves c kind) → IsTrue (is_quick (comp_step c kind start).0)
stays_quick (ABank b) kind start h s = h
stays_quick (AController c) kind start h s = h
stays_quick (ALink l) kind start h s = h
stays_quick (ARows r) kind start h s = rows_stay_quick r kind start h

free_small : (c : Comp) (kind : Kind) (start : ℕ) → IsTrue (is_quick c) → IsTrue (comp_serves c kind) → free_of (comp_step c kind start).0 ≤ max start (free_of c) + 131072
free_small (ABank b) kind start h s = omega (arith, (bank_parts b h).1.1)
free_small (AController c) kind start h s = omega (arith, (controller_parts c h).1.1)
free_small (ALink l) kind start h s = omega (arith, (link_parts l h).1)
free_small (ARows r) kind start h s = (rows_small r kind start h).1

pub quick_is_paced : IsPaced comp_serves comp_step comp_greatest is_quick free_of 131072
quick_is_paced = record { sum = sum_small; stays = stays_quick; next = free_small }

-- the ranges of a machine

bank_quick : (m : Machine) → IsMachine m → (c : Comp) → IsBankOf m c → is_quick c ≡ true
bank_quick m ok (ABank b) is =
    and_from _ _
    (and_from _ _ (le-leb b.lookup 131072 (omega (arith, is.lookup, ok.l2.latency.1))) (le-leb b.remote 131072 (omega (arith, is.remote, ok.l2.latency.1, ok.l2.remote))))
    (and_from _ _ (le-leb b.fill 131072 (omega (arith, is.fill, ok.l2.fill.1))) (le-leb b.occupancy 131072 (omega (arith, is.occupancy, ok.l2.occupancy.1))))
bank_quick m ok (AController c) is = absurd is
bank_quick m ok (ALink l) is = absurd is
bank_quick m ok (ARows r) is = absurd is

controller_quick_in : (dram : Option Dram) (controllers : Controllers) → IsControllers controllers → (c : Controller) → IsControllerIn dram controllers c → is_quick (AController c) ≡ true
controller_quick_in None controllers ok c is =
    and_from _ _ (le-leb c.read 131072 (omega (arith, is.read, ok.read.1)))
    (and_from _ _ (le-leb c.write 131072 (omega (arith, is.write, ok.write.1))) (le-leb c.occupancy 131072 (omega (arith, is.occupancy, ok.occupancy.1))))
controller_quick_in (Some dram) controllers ok c is = absurd is

rows_quick_in : (dram : Option Dram) (controllers : Controllers) → IsControllers controllers → IfSome dram IsDram → (r : Rows) → KeepsRowsOf dram controllers r → is_quick (ARows r) ≡ true
rows_quick_in None controllers ok in_range r is = absurd is
rows_quick_in (Some dram) controllers ok in_range r is =
    and_from _ _ (le-leb r.numbers.conflict 131072 (omega (arith, is.conflict, in_range.conflict.1)))
    (and_from _ _ (le-leb r.numbers.write 131072 (omega (arith, is.write, ok.write.1))) (le-leb r.numbers.occupancy 131072 (omega (arith, is.occupancy, ok.occupancy.1))))

controller_quick : (m : Machine) → IsMachine m → (c : Comp) → IsControllerOf m c → is_quick c ≡ true
controller_quick m ok (ABank b) is = absurd is
controller_quick m ok (AController c) is = controller_quick_in m.dram m.controllers ok.controllers c is
controller_quick m ok (ALink l) is = absurd is
controller_quick m ok (ARows r) is = rows_quick_in m.dram m.controllers ok.controllers ok.dram r is

link_quick_in : (mesh : Option Mesh) → IfSome mesh IsMesh → (l : Link) → IsLinkIn mesh l → is_quick (ALink l) ≡ true
link_quick_in None ok l is = absurd is
link_quick_in (Some mesh) ok l is =
    and_from _ _ (le-leb l.hop 131072 (omega (arith, is.hop, ok.hop.1))) (le-leb l.occupancy 131072 (omega (arith, is.occupancy, ok.occupancy.1)))

link_quick : (m : Machine) → IsMachine m → (c : Comp) → IsLinkOf m c → is_quick c ≡ true
link_quick m ok (ABank b) is = absurd is
link_quick m ok (AController c) is = absurd is
link_quick m ok (ARows r) is = absurd is
link_quick m ok (ALink l) is = link_quick_in m.mesh ok.mesh l is

pub begin_quick : (m : Machine) (comps : List Comp) (base : ℕ) → IsMachine m → AreComponents m comps → All (λ c. free_of c ≤ base) comps → BeginBy is_quick free_of base comps
begin_quick m comps base ok are free i c at =
    let below : i < length comps = get_within comps i c at in
    let here : get_or comps i c ≡ c = read_is comps i c c at in
    let quick : is_quick c ≡ true =
    elim (cases_lt i m.l2.banks) [
      | inl bank ↦ bank_quick m ok c (subst (IsBankOf m) here (are.banks i c (omega arith) bank))
      | inr past ↦ elim (cases_lt i (m.l2.banks + m.controllers.count)) [
        | inl before ↦ controller_quick m ok c (subst (IsControllerOf m) here (are.controllers i c past before))
        | inr behind ↦ link_quick m ok c (subst (IsLinkOf m) here (are.links i c behind below))
      ]
    ]
    in
    (quick, subst (λ z. free_of z ≤ base) here (free i c below))
