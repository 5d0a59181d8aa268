-- What one access, one delay and one event count, and sums of counts.
use Rattle.std.specs.Prelude.{◌+◌, ◌-◌, ℕ, Bool, true, false, if◌then◌else◌, List, fold}
use Rattle.zs_num.specs.declared.entry.Entry.{Entry}
use Rattle.zs_num.specs.declared.entry.Outcome.{Outcome}
use Rattle.zs_num.specs.declared.entry.Outcome.TheVariants.{Hit, Upgrade, L2, Miss}
use Rattle.zs_num.specs.Request.{is_fetch}
use Rattle.zs_num.specs.declared.request.Request.{Request}
use Rattle.zs_num.specs.declared.request.Request.TheVariants.{Load, Store, Lr, Sc, Amo, Fetch}
use Rattle.event_graph.specs.declared.event.Event.{Event}
use Rattle.event_graph.specs.declared.fired.Fired.{Fired}
use Rattle.stats.specs.declared.counts.CoreCount.{CoreCount}
use Rattle.stats.specs.declared.counts.CompCount.{CompCount}

-- what kind of access a request is
abbrev pub is_load : Request → Bool
is_load (Load width addr) = true
is_load (Store width addr value) = false
is_load (Lr width addr) = false
is_load (Sc width paired addr value) = false
is_load (Amo width op addr value) = false
is_load (Fetch addr) = false

abbrev pub is_store : Request → Bool
is_store (Load width addr) = false
is_store (Store width addr value) = true
is_store (Lr width addr) = false
is_store (Sc width paired addr value) = false
is_store (Amo width op addr value) = false
is_store (Fetch addr) = false

abbrev pub is_atomic : Request → Bool
is_atomic (Load width addr) = false
is_atomic (Store width addr value) = false
is_atomic (Lr width addr) = true
is_atomic (Sc width paired addr value) = true
is_atomic (Amo width op addr value) = true
is_atomic (Fetch addr) = false

-- how it was met
abbrev pub is_hit : Outcome → Bool
is_hit Hit = true
is_hit (Upgrade others) = false
is_hit (L2 others) = false
is_hit (Miss dirty) = false

abbrev pub is_upgrade : Outcome → Bool
is_upgrade Hit = false
is_upgrade (Upgrade others) = true
is_upgrade (L2 others) = false
is_upgrade (Miss dirty) = false

abbrev pub is_l2hit : Outcome → Bool
is_l2hit Hit = false
is_l2hit (Upgrade others) = false
is_l2hit (L2 others) = true
is_l2hit (Miss dirty) = false

abbrev pub is_miss : Outcome → Bool
is_miss Hit = false
is_miss (Upgrade others) = false
is_miss (L2 others) = false
is_miss (Miss dirty) = true

-- one, where the test holds
abbrev pub one_if : Bool → ℕ
one_if test = (if test then 1 else 0)

-- what is counted of a core before its first access
abbrev pub no_core_count : CoreCount
no_core_count = record {
  delay = 0;
  loads = 0;
  stores = 0;
  atomics = 0;
  fetches = 0;
  hits = 0;
  upgrades = 0;
  l2hits = 0;
  misses = 0;
}

-- what an access counts for its core
unfoldable pub entry_count : Entry → CoreCount
entry_count e = record {
  delay = 0;
  loads = one_if (is_load e.request);
  stores = one_if (is_store e.request);
  atomics = one_if (is_atomic e.request);
  fetches = one_if (is_fetch e.request);
  hits = one_if (is_hit e.outcome);
  upgrades = one_if (is_upgrade e.outcome);
  l2hits = one_if (is_l2hit e.outcome);
  misses = one_if (is_miss e.outcome);
}

-- what a delay of so many cycles counts
unfoldable pub delay_count : (cycles : ℕ) → CoreCount
delay_count cycles = record no_core_count { delay = cycles }

-- a count and another one together
unfoldable pub core_plus : CoreCount → CoreCount → CoreCount
core_plus c more = record {
  delay = c.delay + more.delay;
  loads = c.loads + more.loads;
  stores = c.stores + more.stores;
  atomics = c.atomics + more.atomics;
  fetches = c.fetches + more.fetches;
  hits = c.hits + more.hits;
  upgrades = c.upgrades + more.upgrades;
  l2hits = c.l2hits + more.l2hits;
  misses = c.misses + more.misses;
}

abbrev pub core_sum : List CoreCount → CoreCount
core_sum counts = fold core_plus no_core_count counts

-- what is counted of a component before its first event
abbrev pub no_comp_count : CompCount
no_comp_count = record { events = 0; waited = 0; free = 0 }

-- how long an event waited for its component: what it took longer than at zero load
abbrev pub wait_of : Event → Fired → ℕ
wait_of e f = f.finish - f.start - (e.min_finish - e.min_start)

-- what an event, as the weave fired it, counts for its component
abbrev pub event_count : Event × Fired → CompCount
event_count (e, f) = record no_comp_count { events = 1; waited = wait_of e f }

-- a count and another one together, which leaves alone from when on the component is free
abbrev pub comp_plus : CompCount → CompCount → CompCount
comp_plus c more = record c { events = c.events + more.events; waited = c.waited + more.waited }

abbrev pub comp_sum : List CompCount → CompCount
comp_sum counts = fold comp_plus no_comp_count counts
