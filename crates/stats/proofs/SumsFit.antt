-- That no sum of a run passes its type.
use Rattle.std.proofs.Common.{◌+◌, ◌*◌, ◌<◌, ◌≤◌, ◌^◌, ℕ, Bool, true, false, ◌==◌, List, [], ◌∷◌, length, map, get_or, slice_index, sum_by, inl, inr, sym, subst, arith}
use Rattle.std.specs.List.{All, zip, enumerate_from, range_with_len, filter, fold}
use Rattle.std.proofs.lemmas.Bool.{cases_lt}
use Rattle.std.proofs.lemmas.List.{get_or_past}
use Rattle.std.proofs.lemmas.List.Elements.{All-head, All-tail, All-map, All-filter}
use Rattle.std.proofs.lemmas.List.Sums.{sum_by-cons, length-filter, count_by-le-length}
use Rattle.std.proofs.lemmas.Option.{slice_get-get_or}
use Rattle.std.proofs.lemmas.Slice.Zip.{length-zip, get_or-zip}
use Rattle.zs_num.specs.declared.entry.Entry.{Entry}
use Rattle.component.specs.declared.comp.Comp.{Comp}
use Rattle.event_graph.specs.declared.event.Event.{Event}
use Rattle.event_graph.specs.declared.fired.Fired.{Fired}
use Rattle.event_graph.specs.Timely.{AreTimely, IsTimely}
use Rattle.stats.specs.declared.counts.CoreCount.{CoreCount}
use Rattle.stats.specs.declared.counts.CompCount.{CompCount}
use Rattle.stats.specs.Counted.{core_plus, entry_count, delay_count, no_core_count, comp_plus, event_count, no_comp_count, wait_of, one_if}
use Rattle.stats.specs.Counts.{Interval, counts_of, core_count_in, core_total, comp_count_in, comp_total}
use Rattle.stats.specs.CountsFit.{CoreFits, CompFits, CountsFit}

-- what is asked of each interval
abbrev pub IsBounded : Interval → Type 0
IsBounded i = AreTimely i.events i.fired × All (λ d. d ≤ 2 ^ 62) i.delays

-- a count of no more accesses, and of no longer delay
record IsCoreWithin (most longest : ℕ) (c : CoreCount) : Type 0 where
  pub delay : c.delay ≤ longest
  pub loads : c.loads ≤ most
  pub stores : c.stores ≤ most
  pub atomics : c.atomics ≤ most
  pub fetches : c.fetches ≤ most
  pub hits : c.hits ≤ most
  pub upgrades : c.upgrades ≤ most
  pub l2hits : c.l2hits ≤ most
  pub misses : c.misses ≤ most

-- two of them together, within the sum or more
core_together : (a b n d e m : ℕ) (c more : CoreCount) → IsCoreWithin a d c → IsCoreWithin b e more → a + b ≤ n → d + e ≤ m → IsCoreWithin n m (core_plus c more)
unfolding core_plus
core_together a b n d e m c more first second few short =
    record {
      delay = omega (arith, first.delay, second.delay);
      loads = omega (arith, first.loads, second.loads);
      stores = omega (arith, first.stores, second.stores);
      atomics = omega (arith, first.atomics, second.atomics);
      fetches = omega (arith, first.fetches, second.fetches);
      hits = omega (arith, first.hits, second.hits);
      upgrades = omega (arith, first.upgrades, second.upgrades);
      l2hits = omega (arith, first.l2hits, second.l2hits);
      misses = omega (arith, first.misses, second.misses);
    }

no_core_within : IsCoreWithin 0 0 no_core_count
no_core_within = record {
  delay = omega arith;
  loads = omega arith;
  stores = omega arith;
  atomics = omega arith;
  fetches = omega arith;
  hits = omega arith;
  upgrades = omega arith;
  l2hits = omega arith;
  misses = omega arith;
}

one_at_most : (b : Bool) → one_if b ≤ 1
one_at_most true = omega arith
one_at_most false = omega arith

entry_within : (e : Entry) → IsCoreWithin 1 0 (entry_count e)
unfolding entry_count
entry_within e = record {
  delay = omega arith;
  loads = one_at_most _;
  stores = one_at_most _;
  atomics = one_at_most _;
  fetches = one_at_most _;
  hits = one_at_most _;
  upgrades = one_at_most _;
  l2hits = one_at_most _;
  misses = one_at_most _;
}

delay_within : (cycles : ℕ) → cycles ≤ 2 ^ 62 → IsCoreWithin 0 (2 ^ 62) (delay_count cycles)
unfolding delay_count
delay_within cycles short = record {
  delay = short;
  loads = omega arith;
  stores = omega arith;
  atomics = omega arith;
  fetches = omega arith;
  hits = omega arith;
  upgrades = omega arith;
  l2hits = omega arith;
  misses = omega arith;
}

core_weaker : (a b d e : ℕ) (c : CoreCount) → IsCoreWithin a d c → a ≤ b → d ≤ e → IsCoreWithin b e c
core_weaker a b d e c within few short = record {
  delay = omega (arith, within.delay);
  loads = omega (arith, within.loads);
  stores = omega (arith, within.stores);
  atomics = omega (arith, within.atomics);
  fetches = omega (arith, within.fetches);
  hits = omega (arith, within.hits);
  upgrades = omega (arith, within.upgrades);
  l2hits = omega (arith, within.l2hits);
  misses = omega (arith, within.misses);
}

-- after these accesses
entries_within : (a n d : ℕ) (c : CoreCount) (es : List Entry) → IsCoreWithin a d c → a + length es ≤ n → IsCoreWithin n d (fold core_plus c (map entry_count es))
entries_within a n d c [] within few = core_weaker a n d d c within (omega arith) (omega arith)
entries_within a n d c (e ∷ es) within few =
    let one = core_together a 1 (a + 1) d 0 d c (entry_count e) within (entry_within e) (omega arith) (omega arith) in
    entries_within (a + 1) n d (core_plus c (entry_count e)) es one (omega arith)

-- a delay of a core, which is 0 where there is none
delay_small : (delays : List ℕ) (n : ℕ) → All (λ d. d ≤ 2 ^ 62) delays → slice_index delays n ≤ 2 ^ 62
delay_small delays n each =
    elim (cases_lt n (length delays)) [
      | inl there ↦ each n 0 there
      | inr past ↦ omega (arith, get_or_past delays n 0 past)
    ]

filtered : {X : Type 0} (p : X → Bool) (xs : List X) → length (filter p xs) ≤ length xs
filtered p xs = omega (arith, length-filter p xs, count_by-le-length p xs)

-- what is counted of a core in an interval
core_in_within : (i : Interval) (n : ℕ) → IsBounded i → IsCoreWithin (length i.entries) (2 ^ 62) (core_count_in i n)
core_in_within i n bounded =
    let own : List Entry = filter (λ e. e.core == n) i.entries in
    let delay : CoreCount = delay_count (slice_index i.delays n) in
    let first = core_together 0 0 0 0 (2 ^ 62) (2 ^ 62) no_core_count delay no_core_within (delay_within _ (delay_small i.delays n bounded.1)) (omega arith) (omega arith) in
    entries_within 0 (length i.entries) (2 ^ 62) (core_plus no_core_count delay) own first (omega (arith, filtered (λ (e : Entry). e.core == n) i.entries))

-- after these intervals
core_sum_within : (k a n d m : ℕ) (c : CoreCount) (intervals : List Interval) → All IsBounded intervals → IsCoreWithin a d c
    → a + sum_by (λ i. length i.entries) intervals ≤ n → d + 2 ^ 62 * length intervals ≤ m → IsCoreWithin n m (fold core_plus c (map (λ i. core_count_in i k) intervals))
core_sum_within k a n d m c [] bounded within few short = core_weaker a n d m c within (omega arith) (omega arith)
core_sum_within k a n d m c (i ∷ is) bounded within few short =
    let entries : Interval → ℕ = λ x. length x.entries in
    let one = core_together a (entries i) (a + entries i) d (2 ^ 62) (d + 2 ^ 62) c (core_count_in i k) within (core_in_within i k (All-head IsBounded i is bounded)) (omega arith) (omega arith) in
    core_sum_within k (a + entries i) n (d + 2 ^ 62) m (core_plus c (core_count_in i k)) is (All-tail IsBounded i is bounded) one
    (omega (arith, sum_by-cons entries i is)) (omega arith)

-- a count of no more events, each of which waited for 2^62 cycles at most
record IsCompWithin (most : ℕ) (c : CompCount) : Type 0 where
  pub events : c.events ≤ most
  pub waited : c.waited ≤ 2 ^ 62 * most

comp_together : (a b n : ℕ) (c more : CompCount) → IsCompWithin a c → IsCompWithin b more → a + b ≤ n → IsCompWithin n (comp_plus c more)
comp_together a b n c more first second few =
    record { events = omega (arith, first.events, second.events); waited = omega (arith, first.waited, second.waited) }

comp_weaker : (a b : ℕ) (c : CompCount) → IsCompWithin a c → a ≤ b → IsCompWithin b c
comp_weaker a b c within few = record { events = omega (arith, within.events); waited = omega (arith, within.waited) }

-- an event that did not wait for longer
abbrev IsShort : Event × Fired → Type 0
IsShort x = wait_of x.0 x.1 ≤ 2 ^ 62

events_within : (a n : ℕ) (c : CompCount) (es : List (Event × Fired)) → All IsShort es → IsCompWithin a c → a + length es ≤ n → IsCompWithin n (fold comp_plus c (map event_count es))
events_within a n c [] short within few = comp_weaker a n c within (omega arith)
events_within a n c (e ∷ es) short within few =
    let waited = All-head IsShort e es short in
    let one = comp_together a 1 (a + 1) c (event_count e) within (record { events = omega arith; waited = omega arith }) (omega arith) in
    events_within (a + 1) n (comp_plus c (event_count e)) es (All-tail IsShort e es short) one (omega arith)

-- no event of an interval waits for longer
are_short : (i : Interval) → AreTimely i.events i.fired → All IsShort (zip i.events i.fired)
are_short i timely = λ k d below.
    let here : k < length i.events = omega (arith, length-zip i.events i.fired) in
    let there : k < length i.fired = omega (arith, timely.count) in
    let e : Event = get_or i.events k d.0 in
    let f : Fired = get_or i.fired k d.1 in
    let is : IsTimely e f = timely.each k e f (slice_get-get_or i.events k d.0 here) (slice_get-get_or i.fired k d.1 there) in
    subst IsShort (sym (get_or-zip i.events i.fired k d here there)) (omega (arith, is.small))

comp_in_within : (i : Interval) (n : ℕ) → IsBounded i → IsCompWithin (length i.events) (comp_count_in i n)
comp_in_within i n bounded =
    let p : Event × Fired → Bool = λ x. x.0.component == n in
    let own : List (Event × Fired) = filter p (zip i.events i.fired) in
    events_within 0 (length i.events) no_comp_count own (All-filter p IsShort (zip i.events i.fired) (are_short i bounded.0))
    (record { events = omega arith; waited = omega arith })
    (omega (arith, filtered p (zip i.events i.fired), length-zip i.events i.fired))

comp_sum_within : (k a n : ℕ) (c : CompCount) (intervals : List Interval) → All IsBounded intervals → IsCompWithin a c
    → a + sum_by (λ i. length i.events) intervals ≤ n → IsCompWithin n (fold comp_plus c (map (λ i. comp_count_in i k) intervals))
comp_sum_within k a n c [] bounded within few = comp_weaker a n c within (omega arith)
comp_sum_within k a n c (i ∷ is) bounded within few =
    let events : Interval → ℕ = λ x. length x.events in
    let one = comp_together a (events i) (a + events i) c (comp_count_in i k) within (comp_in_within i k (All-head IsBounded i is bounded)) (omega arith) in
    comp_sum_within k (a + events i) n (comp_plus c (comp_count_in i k)) is (All-tail IsBounded i is bounded) one (omega (arith, sum_by-cons events i is))

module _ (intervals : List Interval) (accesses : sum_by (λ i. length i.entries) intervals < 2 ^ 64) (events : sum_by (λ i. length i.events) intervals ≤ 2 ^ 60)
    (short : length intervals ≤ 2 ^ 60) (bounded : All IsBounded intervals) where
  core_fits : (n : ℕ) → CoreFits (core_total intervals n)
  core_fits n =
      let within = core_sum_within n 0 (sum_by (λ i. length i.entries) intervals) 0 (2 ^ 62 * length intervals) no_core_count intervals bounded no_core_within (omega arith) (omega arith) in
      record {
        delay = omega (arith, within.delay);
        loads = omega (arith, within.loads);
        stores = omega (arith, within.stores);
        atomics = omega (arith, within.atomics);
        fetches = omega (arith, within.fetches);
        hits = omega (arith, within.hits);
        upgrades = omega (arith, within.upgrades);
        l2hits = omega (arith, within.l2hits);
        misses = omega (arith, within.misses);
      }

  comp_fits : (n : ℕ) (c : Comp) → CompFits (comp_total intervals n c)
  comp_fits n c =
      let none : IsCompWithin 0 no_comp_count = record { events = omega arith; waited = omega arith } in
      let within = comp_sum_within n 0 (sum_by (λ i. length i.events) intervals) no_comp_count intervals bounded none (omega arith) in
      record { events = omega (arith, within.events); waited = omega (arith, within.waited) }

  pub sums_fit : (cores : ℕ) (comps : List Comp) → CountsFit (counts_of cores comps intervals)
  unfolding counts_of
  sums_fit cores comps = record {
    core_counts = All-map CoreFits (core_total intervals) (range_with_len 0 cores) (λ k d below. core_fits _);
    comp_counts = All-map CompFits (λ (x : ℕ × Comp). comp_total intervals x.0 x.1) (enumerate_from 0 comps)
        (λ k d below. let x : ℕ × Comp = get_or (enumerate_from 0 comps) k d in comp_fits x.0 x.1);
    accesses = accesses;
    events = omega arith;
  }
