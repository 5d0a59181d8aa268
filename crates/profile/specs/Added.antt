-- What a step adds to a tally, which is changed where it is.
use Rattle.std.specs.Prelude.{◌≡◌, ℕ, ◌+◌, ◌&&◌, Bool}
use Rattle.zs_num.specs.declared.entry.Outcome.{Outcome}
use Rattle.zs_num.specs.declared.entry.Outcome.TheVariants.{Hit, Upgrade, L2, Miss}
use Rattle.zs_num.specs.declared.request.Request.{Request}
use Rattle.zs_num.specs.declared.request.Request.TheVariants.{Load, Store, Lr, Sc, Amo, Fetch}
use Rattle.stats.specs.Counted.{one_if}
use Rattle.profile.specs.declared.added.Kind.{Kind}
use Rattle.profile.specs.declared.added.Kind.TheVariants.{Loads, Stores, Atomics, Fetches}
use Rattle.profile.specs.declared.added.Met.{Met}
use Rattle.profile.specs.declared.copies.CopyState.{CopyState}
use Rattle.profile.specs.declared.copies.CopyState.TheVariants.{Never, Held, Gone}
use Rattle.profile.specs.declared.copies.Leave.TheVariants.{Coherence, Inclusion, Eviction}
use Rattle.profile.specs.Copies.{changes_others, reads, writes}
use Rattle.profile_rows.specs.declared.tally.Tally.{Tally}
use Rattle.profile_rows.specs.Tallies.{capped, capped_tally, capped_wide, plus}

-- of which kind a request is
abbrev pub kind_of : Request → Kind
kind_of (Load width addr) = Loads
kind_of (Store width addr value) = Stores
kind_of (Lr width addr) = Atomics
kind_of (Sc width paired addr value) = Atomics
kind_of (Amo width op addr value) = Atomics
kind_of (Fetch addr) = Fetches

-- one access of this kind more
abbrev pub with_kind : Kind → Tally → Tally
with_kind Loads t = record t { loads = capped (t.loads + 1) }
with_kind Stores t = record t { stores = capped (t.stores + 1) }
with_kind Atomics t = record t { atomics = capped (t.atomics + 1) }
with_kind Fetches t = record t { fetches = capped (t.fetches + 1) }

-- one of this request
abbrev pub with_access : Request → Tally → Tally
with_access request t = with_kind (kind_of request) t

-- one of this kind that hits, and takes so many cycles
abbrev pub with_hit : Kind → (cycles : ℕ) → Tally → Tally
with_hit kind cycles t = record (with_kind kind t) { hits = capped (t.hits + 1); cycles = capped (t.cycles + cycles) }

-- how it was met
abbrev pub with_outcome : Outcome → Tally → Tally
with_outcome Hit t = record t { hits = capped (t.hits + 1) }
with_outcome (Upgrade others) t = record t { upgrades = capped (t.upgrades + 1) }
with_outcome (L2 others) t = record t { l2hits = capped (t.l2hits + 1) }
with_outcome (Miss dirty) t = record t { misses = capped (t.misses + 1) }

-- how the core's last copy left
abbrev pub with_leave : CopyState → Tally → Tally
with_leave Never t = record t { cold = capped (t.cold + 1) }
with_leave Held t = t
with_leave (Gone Coherence) t = record t { coherence = capped (t.coherence + 1) }
with_leave (Gone Inclusion) t = record t { inclusion = capped (t.inclusion + 1) }
with_leave (Gone Eviction) t = record t { eviction = capped (t.eviction + 1) }

-- the same, of an access that found none
abbrev pub with_class : Outcome → CopyState → Tally → Tally
with_class Hit copy t = t
with_class (Upgrade others) copy t = t
with_class (L2 others) copy t = with_leave copy t
with_class (Miss dirty) copy t = with_leave copy t

-- what it does to copies of others, of which it took so many away
abbrev pub with_changes : (invalidating : Bool) → (taken : ℕ) → (downgrading : Bool) → Tally → Tally
with_changes invalidating taken downgrading t = record t {
  invalidating = capped (t.invalidating + one_if invalidating);
  invalidated = capped (t.invalidated + taken);
  downgrades = capped (t.downgrades + one_if downgrading);
}

-- the cycles of one that does not hit
abbrev pub with_cycles : (cycles : ℕ) → Tally → Tally
with_cycles cycles t = record t { cycles = capped (t.cycles + cycles); missing = capped (t.missing + cycles) }

-- an access that does not hit
abbrev pub with_met : Met → Tally → Tally
with_met m t =
    with_cycles m.cycles
    (with_changes (writes m.request && changes_others m.outcome) m.taken (reads m.request && changes_others m.outcome)
    (with_class m.outcome m.copy (with_outcome m.outcome (with_access m.request t))))

-- an event waited so many cycles
abbrev pub with_wait : (cycles : ℕ) → Tally → Tally
with_wait cycles t = record t { waited = capped_wide (t.waited + cycles) }

-- A change of a tally, as far as its numbers go, adds this one.
abbrev pub Adds : (changed : Tally → Tally) → Tally → Type 0
Adds changed more = (t : Tally) → changed (capped_tally t) ≡ capped_tally (plus t more)
