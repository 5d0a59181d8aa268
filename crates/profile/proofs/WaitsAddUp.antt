-- What all contributions waited is what the events of all intervals waited.
use Rattle.std.proofs.Common.{◌≡◌, ℕ, ◌==◌, true, false, List, [], ◌∷◌, ◌++◌, length, map, sum_by, Some, refl, sym, ◌∙◌, ap, subst, inl, inr, arith}
use Rattle.std.specs.List.{zip}
use Rattle.std.proofs.lemmas.Bool.{cases_Bool}
use Rattle.std.proofs.lemmas.List.{length-map}
use Rattle.std.proofs.lemmas.List.Sorted.{sum_by-IsPermutation}
use Rattle.std.proofs.lemmas.List.Sums.{sum_by-append, sum_by-cons}
use Rattle.zs_num.specs.declared.entry.Entry.{Entry}
use Rattle.zs_num.specs.declared.entry.Outcome.{Outcome}
use Rattle.zs_num.specs.declared.entry.Outcome.TheVariants.{Hit, Upgrade, L2, Miss}
use Rattle.elf_load.specs.MemoryImage.{MemoryImage}
use Rattle.machine_desc.specs.declared.machine.Machine.{Machine}
use Rattle.machine_desc.specs.Machine.{IsMachine}
use Rattle.component.specs.declared.comp.Comp.{Comp}
use Rattle.component.specs.ComponentStep.{comp_step}
use Rattle.access_log.specs.Laws.{RecordedOrderSorts}
use Rattle.access_log.specs.RecordedOrder.{recorded_order}
use Rattle.event_graph.specs.declared.access_path.AccessPath.{AccessPath}
use Rattle.event_graph.specs.declared.event.Event.{Event}
use Rattle.event_graph.specs.declared.fired.Fired.{Fired}
use Rattle.event_graph.specs.declared.piece.Piece.{Piece}
use Rattle.event_graph.specs.AccessPaths.{path_of}
use Rattle.event_graph.specs.EventGraph.{all_events}
use Rattle.event_graph.specs.OneListWeave.{fired_event_in, fired_of, weave, woven}
use Rattle.noc_mesh.specs.Laws.{NetAccessesBeyondHitsHaveEvents}
use Rattle.noc_mesh.specs.NetTiming.{net_pieces, passage}
use Rattle.stats.specs.Counted.{is_hit, one_if, wait_of}
use Rattle.stats.specs.Counts.{Interval}
use Rattle.reference.specs.ReferenceRun.{IsRunOf, time_of, woven_interval}
use Rattle.reference.specs.Results.{Results}
use Rattle.trace.specs.Laws.{AccessesAreOfIntervals, EndBehindTheirAccesses, EndsBehind}
use Rattle.trace.specs.Told.{ended_in}
use Rattle.trace.specs.Trace.{Accessed, Ended, Executed, IsTraceOf, Step}
use Rattle.profile_rows.specs.Tallies.{plus, total}
use Rattle.profile.specs.declared.contribution.Contribution.{Contribution}
use Rattle.profile.specs.declared.contribution.Maker.{Maker}
use Rattle.profile.specs.declared.copies.CopyState.{CopyState}
use Rattle.profile.specs.Contributions.{Before, access_adds, access_tally, after_step, nothing_before, step_adds, steps_add, suffered_tally, suffering, suffers, wait_adds}
use Rattle.profile.specs.Intervals.{all_waits}
use Rattle.profile.specs.Laws.{run_contributions}
use Rattle.profile.specs.Waits.{Wait, event_waits, makers_of, wait_for}
use Rattle.profile.proofs.CriticalEvents.{AllLeadToEnds, all_made, criticals, makes_of, zero_both}
use Rattle.profile.proofs.EventsFound.{makers_by, waits_found}
use Rattle.profile.proofs.Fields.{IsSum, field_of_all}

-- ---- waits

-- how long the events of a step waited, and for which accesses: those of an interval when it ends
abbrev pub step_waits : Before → Step → List Wait
step_waits before (Executed core pc) = []
step_waits before (Accessed pc e leaving) = []
step_waits before (Ended interval) = event_waits before.makers (zip interval.events interval.fired)

abbrev pub waits_behind : Before → List Step → List Wait
waits_behind before [] = []
waits_behind before (step ∷ steps) = step_waits before step ++ waits_behind (after_step before step) steps

-- ---- the events of an interval

pub hits_make_none : (path : AccessPath) (e : Entry) (outcome : Outcome) → is_hit outcome ≡ true → (passage path e outcome).pieces ≡ []
hits_make_none path e Hit is = refl
hits_make_none path e (Upgrade others) is = cc
hits_make_none path e (L2 others) is = cc
hits_make_none path e (Miss dirty) is = cc

pub no_hit : (outcome : Outcome) → is_hit outcome ≡ false → outcome ≡ Hit → ⊥
no_hit outcome not is = let hit : is_hit outcome ≡ true = ap is_hit is in cc

pub same_first : (events : List Event) (fired : List Fired) → length fired ≡ length events → map (λ x. x.0) (zip events fired) ≡ events
same_first [] fired long = refl
same_first (e ∷ events) [] long = absurd (omega (arith, long))
same_first (e ∷ events) (f ∷ fired) long = ap (λ (es : List Event). e ∷ es) (same_first events fired (omega (arith, long)))

length_woven : (events : List Event) (comps : List Comp) → length (woven comp_step events comps) ≡ length events
unfolding woven
length_woven events comps = length-map events (fired_event_in (weave comp_step events comps).fired)

-- an interval has the events of its entries, and a fired one for each
pub record IsOfEntries (machine : Machine) (interval : Interval) : Type 0 where
  pub events : interval.events ≡ all_events (net_pieces (path_of machine)) interval.entries
  pub fired : length interval.fired ≡ length interval.events

pub is_of_entries : (machine : Machine) (comps : List Comp) (entries : List Entry) → IsOfEntries machine (woven_interval machine comps entries)
unfolding woven_interval
is_of_entries machine comps entries =
    let events = all_events (net_pieces (path_of machine)) entries in
    record { events = refl; fired = length-map (woven comp_step events comps) fired_of ∙ length_woven events comps }

module _ (sorts : RecordedOrderSorts) (beyond : NetAccessesBeyondHitsHaveEvents) (machine : Machine) where
  module _ (of_wait : Wait → ℕ) (of_event : Event × Fired → ℕ) (is : (m : Maker) (e : Event) (f : Fired) → sum_by of_wait (wait_for (Some m) e f) ≡ of_event (e, f)) where
    -- where the makers are the accesses behind which the interval ended, each of its events finds one
    interval_waits : (so_far : List Entry) (makers : List Maker) (interval : Interval) → ((core : ℕ) → makers_by core makers ≡ sum_by (makes_of core) so_far)
        → EndsBehind machine so_far interval → sum_by of_wait (event_waits makers (zip interval.events interval.fired)) ≡ sum_by of_event (zip interval.events interval.fired)
    interval_waits so_far makers interval counts ends =
        let pieces : Entry → List Piece = net_pieces (path_of machine) in
        let of = subst (IsOfEntries machine) (sym ends.woven) (is_of_entries machine ends.comps interval.entries) in
        let first : map (λ x. x.0) (zip interval.events interval.fired) ≡ all_events pieces interval.entries = same_first interval.events interval.fired of.fired ∙ of.events in
        let made = all_made pieces (λ e hit. hits_make_none (path_of machine) e e.outcome hit) (λ e not. beyond (path_of machine) e (no_hit e.outcome not)) interval.entries in
        let as_many : (core : ℕ) → makers_by core makers ≡ criticals core (map (λ x. x.0) (zip interval.events interval.fired)) = λ core.
        counts core
        ∙ sym (ap (sum_by (makes_of core)) ends.entries ∙ sum_by-IsPermutation (makes_of core) so_far (recorded_order so_far) (sorts so_far).0.same)
        ∙ sym (made.0 core) ∙ ap (criticals core) (sym first)
        in
        waits_found of_wait of_event is makers (zip interval.events interval.fired) as_many (subst AllLeadToEnds (sym first) made.1)

  one_maker : (core pc : ℕ) (e : Entry) → makers_by core (makers_of pc e) ≡ makes_of core e
  one_maker core pc e =
      elim (cases_Bool (is_hit e.outcome)) as (λ _. makers_by core (makers_of pc e) ≡ makes_of core e) [
        | inl hit ↦ rw hit (sym (zero_both (e.core == core)))
        | inr not ↦ rw not (omega arith)
      ]

  makers_more : (so_far : List Entry) (makers : List Maker) (pc : ℕ) (e : Entry) → ((core : ℕ) → makers_by core makers ≡ sum_by (makes_of core) so_far)
      → (core : ℕ) → makers_by core (makers ++ makers_of pc e) ≡ sum_by (makes_of core) (so_far ++ e ∷ [])
  makers_more so_far makers pc e counts core =
      omega (
        arith,
        sum_by-append (λ (m : Maker). one_if (m.core == core)) makers (makers_of pc e),
        one_maker core pc e,
        counts core,
        sum_by-append (makes_of core) so_far (e ∷ []),
      )

  -- ---- all steps

  module _ (of_wait : Wait → ℕ) (of_event : Event × Fired → ℕ) (is : (m : Maker) (e : Event) (f : Fired) → sum_by of_wait (wait_for (Some m) e f) ≡ of_event (e, f)) where
    pub intervals_wait : (so_far : List Entry) (before : Before) (steps : List Step) → ((core : ℕ) → makers_by core before.makers ≡ sum_by (makes_of core) so_far)
        → EndBehindTheirAccesses machine so_far steps → sum_by of_wait (waits_behind before steps) ≡ sum_by (λ (i : Interval). sum_by of_event (zip i.events i.fired)) (ended_in steps)
    intervals_wait so_far before [] counts ends = refl
    intervals_wait so_far before (Executed core pc ∷ steps) counts ends = intervals_wait so_far before steps counts ends
    intervals_wait so_far before (Accessed pc e leaving ∷ steps) counts ends =
        intervals_wait (so_far ++ e ∷ []) (after_step before (Accessed pc e leaving)) steps (makers_more so_far before.makers pc e counts) ends
    intervals_wait so_far before (Ended interval ∷ steps) counts ends =
        let after = after_step before (Ended interval) in
        omega (
          arith,
          sum_by-append of_wait (event_waits before.makers (zip interval.events interval.fired)) (waits_behind after steps),
          interval_waits of_wait of_event is so_far before.makers interval counts ends.0,
          intervals_wait [] after steps (λ core. refl) ends.1,
          sum_by-cons (λ (i : Interval). sum_by of_event (zip i.events i.fired)) interval (ended_in steps),
        )

-- ---- contributions

pub is_waited : IsSum (λ t. t.waited)
unfolding plus
is_waited = record { none = refl; both = λ a b. refl }

pub unwaited : (e : Entry) (copy : CopyState) (taken cycles : ℕ) → (access_tally e copy taken cycles).waited ≡ 0
unfolding access_tally
unwaited e copy taken cycles = refl

pub unwaited_suffering : (e : Entry) → (suffered_tally e).waited ≡ 0
unfolding suffered_tally
unwaited_suffering e = refl

abbrev waited_in : List Contribution → ℕ
waited_in cs = sum_by (λ c. c.tally.waited) cs

abbrev cycles_in : List Wait → ℕ
cycles_in waits = sum_by (λ w. w.cycles) waits

waits_wait : (waits : List Wait) → waited_in (map wait_adds waits) ≡ cycles_in waits
waits_wait [] = refl
waits_wait (w ∷ waits) =
    omega (
      arith,
      sum_by-cons (λ (c : Contribution). c.tally.waited) (wait_adds w) (map wait_adds waits),
      waits_wait waits,
      sum_by-cons (λ (x : Wait). x.cycles) w waits,
    )

suffered_wait : (e : Entry) (others : List ℕ) → waited_in (map (suffers e) others) ≡ 0
suffered_wait e [] = refl
suffered_wait e (other ∷ others) =
    omega (
      arith,
      sum_by-cons (λ (c : Contribution). c.tally.waited) (suffers e other) (map (suffers e) others),
      unwaited_suffering e,
      suffered_wait e others,
    )

steps_wait : (time : Entry → ℕ) (cores : ℕ) (before : Before) (steps : List Step) → waited_in (steps_add time cores before steps) ≡ cycles_in (waits_behind before steps)
steps_wait time cores before [] = refl
steps_wait time cores before (Executed core pc ∷ steps) = steps_wait time cores before steps
steps_wait time cores before (Accessed pc e leaving ∷ steps) =
    let adds = step_adds time cores before (Accessed pc e leaving) in
    let after = after_step before (Accessed pc e leaving) in
    let others = suffering cores before.copies e in
    let own : (access_adds time cores before.copies pc e).tally.waited ≡ 0 = unwaited e _ _ _ in
    let none : waited_in adds ≡ 0 =
    omega (arith, own, suffered_wait e others, sum_by-cons (λ (c : Contribution). c.tally.waited) (access_adds time cores before.copies pc e) (map (suffers e) others))
    in
    omega (
      arith,
      sum_by-append (λ (c : Contribution). c.tally.waited) adds (steps_add time cores after steps),
      none,
      steps_wait time cores after steps,
    )
steps_wait time cores before (Ended interval ∷ steps) =
    let waits = event_waits before.makers (zip interval.events interval.fired) in
    let after = after_step before (Ended interval) in
    omega (
      arith,
      sum_by-append (λ (c : Contribution). c.tally.waited) (map wait_adds waits) (steps_add time cores after steps),
      waits_wait waits,
      steps_wait time cores after steps,
      sum_by-append (λ (w : Wait). w.cycles) waits (waits_behind after steps),
    )

pub waits_add_up : (sorts : RecordedOrderSorts) (beyond : NetAccessesBeyondHitsHaveEvents) (accesses : AccessesAreOfIntervals)
    → (machine : Machine) (image : MemoryImage) (lists : List (List ℕ)) (steps : List Step) (results : Results) → IsMachine machine
    → IsTraceOf machine image lists steps → IsRunOf machine image lists results
    → (total (map (λ c. c.tally) (run_contributions machine steps))).waited ≡ sum_by (λ i. all_waits (zip i.events i.fired)) (ended_in steps)
waits_add_up sorts beyond accesses machine image lists steps results machine_is trace run =
    field_of_all (λ t. t.waited) is_waited (run_contributions machine steps)
    ∙ steps_wait (time_of machine) machine.cores nothing_before steps
    ∙ intervals_wait sorts beyond machine (λ w. w.cycles) (λ x. wait_of x.0 x.1) (λ m e f. omega arith) [] nothing_before steps (λ core. refl) (accesses machine image lists steps results machine_is trace run)
