-- What each step of a run adds to a profile, of which the rows are sums: by core and address, and by core and line.
use Rattle.std.specs.Prelude.{ℕ, ◌==◌, Bool, ◌&&◌, ◌||◌, List, [], ◌∷◌, ◌++◌, map, if◌then◌else◌, None, Some}
use Rattle.std.specs.List.{filter, range_with_len, zip}
use Rattle.zs_num.specs.declared.entry.Entry.{Entry}
use Rattle.zs_num.specs.Request.{is_fetch, line_of}
use Rattle.stats.specs.Counted.{is_atomic, is_hit, is_l2hit, is_load, is_miss, is_store, is_upgrade, one_if}
use Rattle.trace.specs.Trace.{Step, Accessed, Ended, Executed}
use Rattle.profile.specs.declared.copies.CopyState.{CopyState}
use Rattle.profile.specs.declared.copies.Leave.TheVariants.{Coherence, Inclusion, Eviction}
use Rattle.profile.specs.declared.contribution.Contribution.{Contribution}
use Rattle.profile.specs.declared.contribution.Maker.{Maker}
use Rattle.profile_rows.specs.declared.tally.Tally.{Tally}
use Rattle.profile.specs.Copies.{Copies, copies_after, downgrades, finds_none, has_other, invalidates, is_cold, is_gone_by, is_this, no_copies, own_copy, taken_away}
use Rattle.profile_rows.specs.Tallies.{no_tally, total}
use Rattle.profile.specs.Waits.{Wait, event_waits, makers_of}

-- what the steps before leave: the accesses of the interval that made events, and what there is of all copies
pub record Before : Type 0 where
  pub makers : List Maker
  pub copies : Copies

abbrev pub nothing_before : Before
nothing_before = record { makers = []; copies = no_copies }

-- what an access counts where it met the own copy so, took so many of others away, and takes so many cycles
unfoldable pub access_tally : Entry → CopyState → (taken cycles : ℕ) → Tally
access_tally e copy taken cycles = record {
  loads = one_if (is_load e.request);
  stores = one_if (is_store e.request);
  atomics = one_if (is_atomic e.request);
  fetches = one_if (is_fetch e.request);
  hits = one_if (is_hit e.outcome);
  upgrades = one_if (is_upgrade e.outcome);
  l2hits = one_if (is_l2hit e.outcome);
  misses = one_if (is_miss e.outcome);
  cold = one_if (finds_none e.outcome && is_cold copy);
  coherence = one_if (finds_none e.outcome && is_gone_by Coherence copy);
  inclusion = one_if (finds_none e.outcome && is_gone_by Inclusion copy);
  eviction = one_if (finds_none e.outcome && is_gone_by Eviction copy);
  invalidating = one_if (invalidates e);
  invalidated = taken;
  downgrades = one_if (downgrades e);
  lost = 0;
  lowered = 0;
  cycles = cycles;
  missing = if is_hit e.outcome then 0 else cycles;
  waited = 0;
}

-- what a core suffers by an access that takes its copy away, or that has it downgraded
unfoldable pub suffered_tally : Entry → Tally
suffered_tally e = record no_tally { lost = one_if (invalidates e); lowered = one_if (downgrades e) }

abbrev pub suffers : Entry → (other : ℕ) → Contribution
suffers e other = record {
  core = other;
  pc = None;
  line = line_of e.request;
  tally = suffered_tally e;
}

-- the other cores, of so many, whose copies it takes away or has downgraded
abbrev pub suffering : (cores : ℕ) → Copies → Entry → List ℕ
suffering cores copies e =
    if invalidates e || downgrades e then filter (has_other copies e.core (line_of e.request)) (range_with_len 0 cores) else []

-- what a wait of an event adds
abbrev pub wait_adds : Wait → Contribution
wait_adds w = record {
  core = w.maker.core;
  pc = Some w.maker.pc;
  line = w.maker.line;
  tally = record no_tally { waited = w.cycles };
}

-- `time` is how long an access takes where nothing else runs, on a machine of so many cores.
module _ (time : Entry → ℕ) (cores : ℕ) where
  abbrev pub access_adds : Copies → (pc : ℕ) → Entry → Contribution
  access_adds copies pc e = record {
    core = e.core;
    pc = Some pc;
    line = line_of e.request;
    tally = access_tally e (own_copy copies e) (taken_away cores copies e) (time e);
  }

  -- what a step adds; an instruction is counted apart
  abbrev pub step_adds : Before → Step → List Contribution
  step_adds before (Executed core pc) = []
  step_adds before (Accessed pc e leaving) = access_adds before.copies pc e ∷ map (suffers e) (suffering cores before.copies e)
  step_adds before (Ended interval) = map wait_adds (event_waits before.makers (zip interval.events interval.fired))

-- what there is after a step
abbrev pub after_step : Before → Step → Before
after_step before (Executed core pc) = before
after_step before (Accessed pc e leaving) = record {
  makers = before.makers ++ makers_of pc e;
  copies = copies_after e leaving before.copies;
}
after_step before (Ended interval) = record before { makers = [] }

abbrev pub after_steps : Before → List Step → Before
after_steps before [] = before
after_steps before (step ∷ steps) = after_steps (after_step before step) steps

module _ (time : Entry → ℕ) (cores : ℕ) where
  abbrev pub steps_add : Before → List Step → List Contribution
  steps_add before [] = []
  steps_add before (step ∷ steps) = step_adds time cores before step ++ steps_add (after_step before step) steps

  -- what all steps of a run add
  abbrev pub contributions : List Step → List Contribution
  contributions steps = steps_add nothing_before steps

-- ---- rows

-- what those of which the test holds add
abbrev pub tally_of : (Contribution → Bool) → List Contribution → Tally
tally_of test cs = total (map (λ c. c.tally) (filter test cs))

abbrev pub is_at : (core pc : ℕ) → Contribution → Bool
is_at core pc c = c.core == core && is_this c.pc pc

abbrev pub is_to : (core line : ℕ) → Contribution → Bool
is_to core line c = c.core == core && c.line == line

-- what was added to an instruction of a core
abbrev pub at_address : (core pc : ℕ) → List Contribution → Tally
at_address core pc cs = tally_of (is_at core pc) cs

-- and to a line of a core
abbrev pub at_line : (core line : ℕ) → List Contribution → Tally
at_line core line cs = tally_of (is_to core line) cs
