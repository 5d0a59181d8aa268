-- That banks, controllers, links and controllers with open rows obey the laws of a component.
use Rattle.std.specs.Prelude.{◌≤◌, ◌==◌, ℕ, Bool, true, false, if◌then◌else◌, Option, None, Some, refl}
use Rattle.std.proofs.Common.{arith}
use Rattle.dram_rows.specs.declared.numbers.RowNumbers.{RowNumbers}
use Rattle.dram_rows.specs.OpenRows.{open_at, read_time}
use Rattle.component.specs.declared.kind.Kind.TheVariants.{Lookup, Remote, Fill, Read, Write, Hop, RowRead}
use Rattle.component.specs.declared.comp.Comp.TheVariants.{Bank as ABank, Controller as AController, Link as ALink, Rows as ARows}
use Rattle.component.specs.ComponentStep.{bank_latency, bank_step, controller_latency, controller_step, link_latency, link_step, rows_step, comp_step}
use Rattle.component.specs.Greatest.{bank_greatest, controller_greatest, link_greatest, rows_greatest, comp_greatest}
use Rattle.component.specs.Serving.{bank_serves, controller_serves, link_serves, rows_serves, rows_latency, comp_serves, comp_latency}
use Rattle.component.specs.ComponentLaws.{FloorAtLeastOne, FloorHolds, ServesStays, FloorStays, FinishWithinGreatest}

pub bank_floor_at_least_one : FloorAtLeastOne bank_serves bank_latency
bank_floor_at_least_one b Lookup s = b.lookup_at_least_one
bank_floor_at_least_one b Remote s = b.remote_at_least_one
bank_floor_at_least_one b Fill s = b.fill_at_least_one
bank_floor_at_least_one b Read s = cc
bank_floor_at_least_one b Write s = cc
bank_floor_at_least_one b Hop s = cc
bank_floor_at_least_one b (RowRead bank row) s = cc

pub bank_floor_holds : FloorHolds bank_serves bank_latency bank_step
bank_floor_holds b kind start s = omega arith

pub bank_serves_stays : ServesStays bank_serves bank_step
bank_serves_stays b kind start Lookup s = refl
bank_serves_stays b kind start Remote s = refl
bank_serves_stays b kind start Fill s = refl
bank_serves_stays b kind start Read s = refl
bank_serves_stays b kind start Write s = refl
bank_serves_stays b kind start Hop s = refl
bank_serves_stays b kind start (RowRead bank row) s = refl

pub bank_floor_stays : FloorStays bank_serves bank_latency bank_step
bank_floor_stays b kind start Lookup s = refl
bank_floor_stays b kind start Remote s = refl
bank_floor_stays b kind start Fill s = refl
bank_floor_stays b kind start Read s = refl
bank_floor_stays b kind start Write s = refl
bank_floor_stays b kind start Hop s = refl
bank_floor_stays b kind start (RowRead bank row) s = refl

pub bank_finish_within_greatest : FinishWithinGreatest bank_serves bank_step bank_greatest
bank_finish_within_greatest b kind start s = omega arith

pub controller_floor_at_least_one : FloorAtLeastOne controller_serves controller_latency
controller_floor_at_least_one c Lookup s = cc
controller_floor_at_least_one c Remote s = cc
controller_floor_at_least_one c Fill s = cc
controller_floor_at_least_one c Read s = c.read_at_least_one
controller_floor_at_least_one c Write s = c.write_at_least_one
controller_floor_at_least_one c Hop s = cc
controller_floor_at_least_one c (RowRead bank row) s = cc

pub controller_floor_holds : FloorHolds controller_serves controller_latency controller_step
controller_floor_holds c kind start s = omega arith

pub controller_serves_stays : ServesStays controller_serves controller_step
controller_serves_stays c kind start Lookup s = refl
controller_serves_stays c kind start Remote s = refl
controller_serves_stays c kind start Fill s = refl
controller_serves_stays c kind start Read s = refl
controller_serves_stays c kind start Write s = refl
controller_serves_stays c kind start Hop s = refl
controller_serves_stays c kind start (RowRead bank row) s = refl

pub controller_floor_stays : FloorStays controller_serves controller_latency controller_step
controller_floor_stays c kind start Lookup s = refl
controller_floor_stays c kind start Remote s = refl
controller_floor_stays c kind start Fill s = refl
controller_floor_stays c kind start Read s = refl
controller_floor_stays c kind start Write s = refl
controller_floor_stays c kind start Hop s = refl
controller_floor_stays c kind start (RowRead bank row) s = refl

pub controller_finish_within_greatest : FinishWithinGreatest controller_serves controller_step controller_greatest
controller_finish_within_greatest c kind start s = omega arith

pub link_floor_at_least_one : FloorAtLeastOne link_serves link_latency
link_floor_at_least_one l Lookup s = cc
link_floor_at_least_one l Remote s = cc
link_floor_at_least_one l Fill s = cc
link_floor_at_least_one l Read s = cc
link_floor_at_least_one l Write s = cc
link_floor_at_least_one l Hop s = l.hop_at_least_one
link_floor_at_least_one l (RowRead bank row) s = cc

pub link_floor_holds : FloorHolds link_serves link_latency link_step
link_floor_holds l kind start s = omega arith

pub link_serves_stays : ServesStays link_serves link_step
link_serves_stays l kind start Lookup s = refl
link_serves_stays l kind start Remote s = refl
link_serves_stays l kind start Fill s = refl
link_serves_stays l kind start Read s = refl
link_serves_stays l kind start Write s = refl
link_serves_stays l kind start Hop s = refl
link_serves_stays l kind start (RowRead bank row) s = refl

pub link_floor_stays : FloorStays link_serves link_latency link_step
link_floor_stays l kind start Lookup s = refl
link_floor_stays l kind start Remote s = refl
link_floor_stays l kind start Fill s = refl
link_floor_stays l kind start Read s = refl
link_floor_stays l kind start Write s = refl
link_floor_stays l kind start Hop s = refl
link_floor_stays l kind start (RowRead bank row) s = refl

pub link_finish_within_greatest : FinishWithinGreatest link_serves link_step link_greatest
link_finish_within_greatest l kind start s = omega arith

-- a read of a row takes no less than one where the row is open
read_at_least_hit : (numbers : RowNumbers) (open_row : Option ℕ) (row : ℕ) → numbers.hit ≤ read_time numbers open_row row
read_at_least_hit numbers None row = numbers.closed_at_least_hit
read_at_least_hit numbers (Some other) row = by_test (other == row)
  where
    by_test : (same : Bool) → numbers.hit ≤ (if same then numbers.hit else numbers.conflict)
    by_test true = omega arith
    by_test false = omega (arith, numbers.closed_at_least_hit, numbers.conflict_at_least_closed)

pub rows_floor_at_least_one : FloorAtLeastOne rows_serves rows_latency
rows_floor_at_least_one r Lookup s = cc
rows_floor_at_least_one r Remote s = cc
rows_floor_at_least_one r Fill s = cc
rows_floor_at_least_one r Read s = cc
rows_floor_at_least_one r Write s = r.numbers.write_at_least_one
rows_floor_at_least_one r Hop s = cc
rows_floor_at_least_one r (RowRead bank row) s = r.numbers.hit_at_least_one

pub rows_floor_holds : FloorHolds rows_serves rows_latency rows_step
rows_floor_holds r Lookup start s = omega arith
rows_floor_holds r Remote start s = omega arith
rows_floor_holds r Fill start s = omega arith
rows_floor_holds r Read start s = omega arith
rows_floor_holds r Write start s = omega arith
rows_floor_holds r Hop start s = omega arith
rows_floor_holds r (RowRead bank row) start s = omega (arith, read_at_least_hit r.numbers (open_at r bank) row)

pub rows_serves_stays : ServesStays rows_serves rows_step
rows_serves_stays r Lookup start other s = absurd (cc s)
rows_serves_stays r Remote start other s = absurd (cc s)
rows_serves_stays r Fill start other s = absurd (cc s)
rows_serves_stays r Read start other s = absurd (cc s)
rows_serves_stays r Write start Lookup s = refl
rows_serves_stays r Write start Remote s = refl
rows_serves_stays r Write start Fill s = refl
rows_serves_stays r Write start Read s = refl
rows_serves_stays r Write start Write s = refl
rows_serves_stays r Write start Hop s = refl
rows_serves_stays r Write start (RowRead place y) s = refl
rows_serves_stays r Hop start other s = absurd (cc s)
rows_serves_stays r (RowRead bank row) start Lookup s = refl
rows_serves_stays r (RowRead bank row) start Remote s = refl
rows_serves_stays r (RowRead bank row) start Fill s = refl
rows_serves_stays r (RowRead bank row) start Read s = refl
rows_serves_stays r (RowRead bank row) start Write s = refl
rows_serves_stays r (RowRead bank row) start Hop s = refl
rows_serves_stays r (RowRead bank row) start (RowRead place y) s = refl

pub rows_floor_stays : FloorStays rows_serves rows_latency rows_step
rows_floor_stays r Lookup start other s = absurd (cc s)
rows_floor_stays r Remote start other s = absurd (cc s)
rows_floor_stays r Fill start other s = absurd (cc s)
rows_floor_stays r Read start other s = absurd (cc s)
rows_floor_stays r Write start Lookup s = refl
rows_floor_stays r Write start Remote s = refl
rows_floor_stays r Write start Fill s = refl
rows_floor_stays r Write start Read s = refl
rows_floor_stays r Write start Write s = refl
rows_floor_stays r Write start Hop s = refl
rows_floor_stays r Write start (RowRead place y) s = refl
rows_floor_stays r Hop start other s = absurd (cc s)
rows_floor_stays r (RowRead bank row) start Lookup s = refl
rows_floor_stays r (RowRead bank row) start Remote s = refl
rows_floor_stays r (RowRead bank row) start Fill s = refl
rows_floor_stays r (RowRead bank row) start Read s = refl
rows_floor_stays r (RowRead bank row) start Write s = refl
rows_floor_stays r (RowRead bank row) start Hop s = refl
rows_floor_stays r (RowRead bank row) start (RowRead place y) s = refl

pub rows_finish_within_greatest : FinishWithinGreatest rows_serves rows_step rows_greatest
rows_finish_within_greatest r kind start s = omega arith

pub comp_floor_at_least_one : FloorAtLeastOne comp_serves comp_latency
comp_floor_at_least_one (ABank b) kind s = bank_floor_at_least_one b kind s
comp_floor_at_least_one (AController c) kind s = controller_floor_at_least_one c kind s
comp_floor_at_least_one (ALink l) kind s = link_floor_at_least_one l kind s
comp_floor_at_least_one (ARows r) kind s = rows_floor_at_least_one r kind s

pub comp_floor_holds : FloorHolds comp_serves comp_latency comp_step
comp_floor_holds (ABank b) kind start s = bank_floor_holds b kind start s
comp_floor_holds (AController c) kind start s = controller_floor_holds c kind start s
comp_floor_holds (ALink l) kind start s = link_floor_holds l kind start s
comp_floor_holds (ARows r) kind start s = rows_floor_holds r kind start s

pub comp_serves_stays : ServesStays comp_serves comp_step
comp_serves_stays (ABank b) kind start other s = bank_serves_stays b kind start other s
comp_serves_stays (AController c) kind start other s = controller_serves_stays c kind start other s
comp_serves_stays (ALink l) kind start other s = link_serves_stays l kind start other s
comp_serves_stays (ARows r) kind start other s = rows_serves_stays r kind start other s

pub comp_floor_stays : FloorStays comp_serves comp_latency comp_step
comp_floor_stays (ABank b) kind start other s = bank_floor_stays b kind start other s
comp_floor_stays (AController c) kind start other s = controller_floor_stays c kind start other s
comp_floor_stays (ALink l) kind start other s = link_floor_stays l kind start other s
comp_floor_stays (ARows r) kind start other s = rows_floor_stays r kind start other s

pub comp_finish_within_greatest : FinishWithinGreatest comp_serves comp_step comp_greatest
comp_finish_within_greatest (ABank b) kind start s = bank_finish_within_greatest b kind start s
comp_finish_within_greatest (AController c) kind start s = controller_finish_within_greatest c kind start s
comp_finish_within_greatest (ALink l) kind start s = link_finish_within_greatest l kind start s
comp_finish_within_greatest (ARows r) kind start s = rows_finish_within_greatest r kind start s
