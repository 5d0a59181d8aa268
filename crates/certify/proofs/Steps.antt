-- A component that steps: its sums stay small, and what it serves, and how long, stays.
use Rattle.std.proofs.Common.{◌≡◌, ◌<◌, ◌≤◌, ◌^◌, ◌==◌, ℕ, max, nat_lt, if◌then◌else◌, Bool, true, false, List, [], ◌∷◌, get_or, Option, Some, None, refl, ap, sym, ◌∙◌, subst, inl, inr, arith, get_or-set_same, get_or-set_other, length-set}
use Rattle.std.specs.Prelude.{slice_get, slice_set}
use Rattle.std.proofs.lemmas.Bool.{cases_eq}
use Rattle.std.proofs.lemmas.Option.{get_or_from_slice_get, slice_get_within}
use Rattle.dram_rows.specs.declared.numbers.RowNumbers.{RowNumbers}
use Rattle.dram_rows.specs.declared.rows.Rows.{Rows}
use Rattle.dram_rows.specs.OpenRows.{open_at, read_time}
use Rattle.component.specs.declared.comp.Comp.{Comp}
use Rattle.component.specs.declared.comp.Comp.TheVariants.{Bank as ABank, Controller as AController, Link as ALink, Rows as ARows}
use Rattle.component.specs.declared.kind.Kind.{Kind}
use Rattle.component.specs.declared.kind.Kind.TheVariants.{Lookup, Remote, Fill, Read, Write, Hop, RowRead}
use Rattle.component.specs.ComponentStep.{comp_step, free_of, rows_step}
use Rattle.component.specs.Greatest.{comp_greatest}
use Rattle.component.specs.Serving.{comp_latency, comp_serves, rows_latency, rows_serves}
use Rattle.event_graph.specs.OneListWeave.{FiredEvent}
use Rattle.event_graph.specs.ServedEvents.{after_serving}
use Rattle.certify.specs.ShortTimes.{HaveShortTimes, capped_step, longest_time}

-- ---- times

latency_within : (c : Comp) (kind : Kind) → comp_latency c kind ≤ longest_time c
latency_within (ABank b) Lookup = omega arith
latency_within (ABank b) Remote = omega arith
latency_within (ABank b) Fill = omega arith
latency_within (ABank b) Read = omega arith
latency_within (ABank b) Write = omega arith
latency_within (ABank b) Hop = omega arith
latency_within (ABank b) (RowRead bank row) = omega arith
latency_within (AController c) Lookup = omega arith
latency_within (AController c) Remote = omega arith
latency_within (AController c) Fill = omega arith
latency_within (AController c) Read = omega arith
latency_within (AController c) Write = omega arith
latency_within (AController c) Hop = omega arith
latency_within (AController c) (RowRead bank row) = omega arith
latency_within (ALink l) Lookup = omega arith
latency_within (ALink l) Remote = omega arith
latency_within (ALink l) Fill = omega arith
latency_within (ALink l) Read = omega arith
latency_within (ALink l) Write = omega arith
latency_within (ALink l) Hop = omega arith
latency_within (ALink l) (RowRead bank row) = omega arith
latency_within (ARows r) Lookup = omega arith
latency_within (ARows r) Remote = omega arith
latency_within (ARows r) Fill = omega arith
latency_within (ARows r) Read = omega arith
latency_within (ARows r) Write = omega arith
latency_within (ARows r) Hop = omega arith
latency_within (ARows r) (RowRead bank row) = omega (arith, r.numbers.closed_at_least_hit, r.numbers.conflict_at_least_closed)

-- a read of a row takes no longer than a conflict
read_within : (numbers : RowNumbers) (open_row : Option ℕ) (row : ℕ) → read_time numbers open_row row ≤ numbers.conflict
read_within numbers None row = numbers.conflict_at_least_closed
read_within numbers (Some other) row = by_test (other == row)
  where
    by_test : (same : Bool) → (if same then numbers.hit else numbers.conflict) ≤ numbers.conflict
    by_test true = omega (arith, numbers.closed_at_least_hit, numbers.conflict_at_least_closed)
    by_test false = omega arith

rows_within : (r : Rows) (kind : Kind) (start : ℕ) → longest_time (ARows r) < 2 ^ 60 → r.free < 2 ^ 60 → start < 2 ^ 60 → comp_greatest (ARows r) kind start ≤ 2 ^ 62
rows_within r Lookup start short free early = omega (arith, short, free, early)
rows_within r Remote start short free early = omega (arith, short, free, early)
rows_within r Fill start short free early = omega (arith, short, free, early)
rows_within r Read start short free early = omega (arith, short, free, early)
rows_within r Write start short free early = omega (arith, short, free, early)
rows_within r Hop start short free early = omega (arith, short, free, early)
rows_within r (RowRead bank row) start short free early = omega (arith, read_within r.numbers (open_at r bank) row, short, free, early)

pub greatest_within : (c : Comp) (kind : Kind) (start : ℕ) → longest_time c < 2 ^ 60 → free_of c < 2 ^ 60 → start < 2 ^ 60 → comp_greatest c kind start ≤ 2 ^ 62
greatest_within (ABank b) kind start short free early = omega (arith, latency_within (ABank b) kind, short, free, early)
greatest_within (AController c) kind start short free early = omega (arith, latency_within (AController c) kind, short, free, early)
greatest_within (ALink l) kind start short free early = omega (arith, latency_within (ALink l) kind, short, free, early)
greatest_within (ARows r) kind start short free early = rows_within r kind start short free early

numbers_stay : (r : Rows) (kind : Kind) (start : ℕ) → (rows_step r kind start).0.numbers ≡ r.numbers
numbers_stay r Lookup start = refl
numbers_stay r Remote start = refl
numbers_stay r Fill start = refl
numbers_stay r Read start = refl
numbers_stay r Write start = refl
numbers_stay r Hop start = refl
numbers_stay r (RowRead bank row) start = refl

time_stays : (c : Comp) (kind : Kind) (start : ℕ) → longest_time (comp_step c kind start).0 ≡ longest_time c
time_stays (ABank b) kind start = refl
time_stays (AController c) kind start = refl
time_stays (ALink l) kind start = refl
time_stays (ARows r) kind start = ap (λ (n : RowNumbers). max (max n.conflict n.write) n.occupancy) (numbers_stay r kind start)

capped_time : (c : Comp) (kind : Kind) (start : ℕ) → longest_time (capped_step c kind start).0 ≡ longest_time c
capped_time c kind start = elim (nat_lt (free_of c) (2 ^ 60)) as (λ t. longest_time (if t then comp_step c kind start else (c, 2 ^ 60)).0 ≡ longest_time c) [
  | true ↦ time_stays c kind start
  | false ↦ refl
]

-- a component of them stepped
pub short_set : (comps : List Comp) (number : ℕ) (c : Comp) (kind : Kind) (start : ℕ) → HaveShortTimes comps → slice_get comps number ≡ Some c
    → HaveShortTimes (slice_set comps number (capped_step c kind start).0)
short_set comps number c kind start short there k d below =
    let stepped : Comp = (capped_step c kind start).0 in
    let within = slice_get_within comps number c there in
    let itself : get_or comps number d ≡ c = get_or_from_slice_get comps number c d there in
    let own : longest_time stepped < 2 ^ 60 = omega (arith, capped_time c kind start, subst (λ q. longest_time q < 2 ^ 60) itself (short number d within)) in
    elim (cases_eq k number) [
      | inl same ↦ subst (λ q. longest_time q < 2 ^ 60) (sym (ap (λ i. get_or (slice_set comps number stepped) i d) same ∙ get_or-set_same comps number stepped d within)) own
      | inr other ↦ subst (λ q. longest_time q < 2 ^ 60) (sym (get_or-set_other comps number k stepped d other))
          (short k d (omega (arith, below, length-set comps number stepped)))
    ]

-- ---- what is served, and the floors, stay

-- controllers with open rows serve, and take as long, by their numbers
rows_serve_alike : (r s : Rows) (kind : Kind) → r.numbers ≡ s.numbers → rows_serves r kind ≡ rows_serves s kind
rows_serve_alike r s Lookup same = refl
rows_serve_alike r s Remote same = refl
rows_serve_alike r s Fill same = refl
rows_serve_alike r s Read same = refl
rows_serve_alike r s Write same = refl
rows_serve_alike r s Hop same = refl
rows_serve_alike r s (RowRead bank row) same = ap (λ (n : RowNumbers). nat_lt bank n.banks) same

rows_take_alike : (r s : Rows) (kind : Kind) → r.numbers ≡ s.numbers → rows_latency r kind ≡ rows_latency s kind
rows_take_alike r s Lookup same = refl
rows_take_alike r s Remote same = refl
rows_take_alike r s Fill same = refl
rows_take_alike r s Read same = refl
rows_take_alike r s Hop same = refl
rows_take_alike r s Write same = ap (λ (n : RowNumbers). n.write) same
rows_take_alike r s (RowRead bank row) same = ap (λ (n : RowNumbers). n.hit) same

serves_stays : (c : Comp) (kind : Kind) (start : ℕ) (other : Kind) → comp_serves (comp_step c kind start).0 other ≡ comp_serves c other
serves_stays (ABank b) kind start Lookup = refl
serves_stays (ABank b) kind start Remote = refl
serves_stays (ABank b) kind start Fill = refl
serves_stays (ABank b) kind start Read = refl
serves_stays (ABank b) kind start Write = refl
serves_stays (ABank b) kind start Hop = refl
serves_stays (ABank b) kind start (RowRead bank row) = refl
serves_stays (AController c) kind start Lookup = refl
serves_stays (AController c) kind start Remote = refl
serves_stays (AController c) kind start Fill = refl
serves_stays (AController c) kind start Read = refl
serves_stays (AController c) kind start Write = refl
serves_stays (AController c) kind start Hop = refl
serves_stays (AController c) kind start (RowRead bank row) = refl
serves_stays (ALink l) kind start Lookup = refl
serves_stays (ALink l) kind start Remote = refl
serves_stays (ALink l) kind start Fill = refl
serves_stays (ALink l) kind start Read = refl
serves_stays (ALink l) kind start Write = refl
serves_stays (ALink l) kind start Hop = refl
serves_stays (ALink l) kind start (RowRead bank row) = refl
serves_stays (ARows r) kind start other = rows_serve_alike (rows_step r kind start).0 r other (numbers_stay r kind start)

latency_stays : (c : Comp) (kind : Kind) (start : ℕ) (other : Kind) → comp_latency (comp_step c kind start).0 other ≡ comp_latency c other
latency_stays (ABank b) kind start Lookup = refl
latency_stays (ABank b) kind start Remote = refl
latency_stays (ABank b) kind start Fill = refl
latency_stays (ABank b) kind start Read = refl
latency_stays (ABank b) kind start Write = refl
latency_stays (ABank b) kind start Hop = refl
latency_stays (ABank b) kind start (RowRead bank row) = refl
latency_stays (AController c) kind start Lookup = refl
latency_stays (AController c) kind start Remote = refl
latency_stays (AController c) kind start Fill = refl
latency_stays (AController c) kind start Read = refl
latency_stays (AController c) kind start Write = refl
latency_stays (AController c) kind start Hop = refl
latency_stays (AController c) kind start (RowRead bank row) = refl
latency_stays (ALink l) kind start Lookup = refl
latency_stays (ALink l) kind start Remote = refl
latency_stays (ALink l) kind start Fill = refl
latency_stays (ALink l) kind start Read = refl
latency_stays (ALink l) kind start Write = refl
latency_stays (ALink l) kind start Hop = refl
latency_stays (ALink l) kind start (RowRead bank row) = refl
latency_stays (ARows r) kind start other = rows_take_alike (rows_step r kind start).0 r other (numbers_stay r kind start)

pub still_serves : (c : Comp) (xs : List FiredEvent) (kind : Kind) → comp_serves (after_serving comp_step c xs) kind ≡ comp_serves c kind
still_serves c [] kind = refl
still_serves c (x ∷ xs) kind = still_serves (comp_step c x.event.kind x.start).0 xs kind ∙ serves_stays c x.event.kind x.start kind

pub still_takes : (c : Comp) (xs : List FiredEvent) (kind : Kind) → comp_latency (after_serving comp_step c xs) kind ≡ comp_latency c kind
still_takes c [] kind = refl
still_takes c (x ∷ xs) kind = still_takes (comp_step c x.event.kind x.start).0 xs kind ∙ latency_stays c x.event.kind x.start kind

capped_serves : (c : Comp) (kind : Kind) (start : ℕ) (other : Kind) → comp_serves (capped_step c kind start).0 other ≡ comp_serves c other
capped_serves c kind start other = elim (nat_lt (free_of c) (2 ^ 60)) as (λ t. comp_serves (if t then comp_step c kind start else (c, 2 ^ 60)).0 other ≡ comp_serves c other) [
  | true ↦ serves_stays c kind start other
  | false ↦ refl
]

pub capped_still_serves : (c : Comp) (xs : List FiredEvent) (kind : Kind) → comp_serves (after_serving capped_step c xs) kind ≡ comp_serves c kind
capped_still_serves c [] kind = refl
capped_still_serves c (x ∷ xs) kind = capped_still_serves (capped_step c x.event.kind x.start).0 xs kind ∙ capped_serves c x.event.kind x.start kind
