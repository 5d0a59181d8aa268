-- The weave of an interval of whose accesses one worker has kept records is that of the run.
use Rattle.std.proofs.Common.{◌≡◌, ◌==◌, ◌<◌, ℕ, List, length, map, get_or, Option, None, Some, false, refl, sym, ◌∙◌, ap, subst, arith}
use Rattle.std.specs.Prelude.{slice_get}
use Rattle.std.specs.List.{filter, zip}
use Rattle.std.specs.Option.{option_map}
use Rattle.std.proofs.lemmas.List.FromFn.{get_or-map-range_with_len, length-map-range_with_len}
use Rattle.std.proofs.lemmas.Option.{get_or_from_slice_get, same_Some, slice_get-map, slice_get_within}
use Rattle.zs_num.specs.declared.entry.Entry.{Entry}
use Rattle.machine_desc.specs.declared.machine.Machine.{Machine}
use Rattle.component.specs.declared.comp.Comp.{Comp}
use Rattle.component.specs.ComponentStep.{comp_step}
use Rattle.event_graph.specs.declared.event.Event.{Event}
use Rattle.event_graph.specs.AccessPaths.{path_of}
use Rattle.event_graph.specs.EventGraph.{all_events}
use Rattle.event_graph.specs.OneListWeave.{comps_after, fired_of, woven}
use Rattle.noc_mesh.specs.declared.net.Net.{Net}
use Rattle.noc_mesh.specs.NetTiming.{net_pieces}
use Rattle.feedback.specs.FeedbackDelay.{feedback_delays}
use Rattle.stats.specs.declared.counts.CompCount.{CompCount}
use Rattle.stats.specs.declared.counts.CoreCount.{CoreCount}
use Rattle.stats.specs.Counted.{comp_sum, core_sum, entry_count, event_count}
use Rattle.stats.specs.Counts.{Interval, comp_count_in}
use Rattle.stats.specs.KnownCounts.{AreAccessCounts, AreEventCounts}
use Rattle.weave_chains.specs.declared.weave.Woven.{Woven}
use Rattle.weave_chains.specs.Woven.{IsWoven, interval_of}
use Rattle.bound_records.proofs.Lists.{length_recorded}
use Rattle.bound_records.specs.CoreRuns.{IsNetOf}
use Rattle.bound_records.specs.Counted.{count_of}
use Rattle.bound_records.specs.Recorders.{RecorderState, counts_in, entries_of, kept_lists, recorded_kept}
use Rattle.run.specs.declared.recording.Recording.{Recording}
use Rattle.run.specs.declared.recording.Recording.TheVariants.{Off, On, TooLong}
use Rattle.run.specs.IntervalWeave.{AreEventsOf}
use Rattle.run.specs.Recording.{IsRecordingOf, is_on}
use Rattle.run.specs.Records.{IsRecorded, accesses_in, recorded_interval}
use Rattle.reference.specs.ReferenceRun.{woven_interval}

module _ (machine : Machine) (r : RecorderState) (rec : IsRecorded machine r) where
  -- ---- what is counted of the accesses

  core_count : (core : ℕ) (c : CoreCount) → slice_get (counts_in r) core ≡ Some c
      → (found : Option (List Entry)) → slice_get r.lists core ≡ found → c ≡ core_sum (map entry_count (filter (λ e. e.core == core) (accesses_in r)))
  core_count core c here None none =
      let not : slice_get (counts_in r) core ≡ None = slice_get-map count_of r.lists core ∙ ap (option_map count_of) none in
      let wrong : Some c ≡ None = sym here ∙ not in
      absurd cc
  core_count core c here (Some entries) there =
      let is : slice_get (counts_in r) core ≡ Some (count_of entries) = slice_get-map count_of r.lists core ∙ ap (option_map count_of) there in
      same_Some c (count_of entries) (sym here ∙ is) ∙ ap count_of (sym (rec.own core entries there))

  pub access_counts : (comps : List Comp) → AreAccessCounts (recorded_interval machine comps r) (counts_in r) (length (entries_of r))
  unfolding woven_interval
  access_counts comps = record {
    each = λ core c here. core_count core c here (slice_get r.lists core) refl;
    count = sym (length_recorded (entries_of r));
  }

  -- ---- the weave core by core

  module _ (net : Net) (is : IsNetOf machine net) where
    -- the events of the accesses as their records give them back are those of the interval
    same_events : all_events (net_pieces net.path) (recorded_kept r) ≡ all_events (net_pieces (path_of machine)) (accesses_in r)
    same_events = ap (λ path. all_events (net_pieces path) (recorded_kept r)) is ∙ rec.kept.events

    module _ (comps after : List Comp) (w : Woven) (wove : IsWoven comp_step (net_pieces net.path) (recorded_kept r) comps (length (kept_lists r)) w after) where
      pub woven_delays : w.delays ≡ (recorded_interval machine comps r).delays
      unfolding woven_interval
      woven_delays =
          wove.delays
          ∙ ap (λ (g : List Event). feedback_delays g (map fired_of (woven comp_step g comps)) (length (kept_lists r))) same_events
          ∙ ap (λ (cores : ℕ). (let g : List Event = all_events (net_pieces (path_of machine)) (accesses_in r) in feedback_delays g (map fired_of (woven comp_step g comps)) cores)) rec.kept.many

      pub woven_comps : after ≡ comps_after comp_step (recorded_interval machine comps r).events comps
      unfolding woven_interval
      woven_comps = wove.comps_are ∙ ap (λ (g : List Event). comps_after comp_step g comps) same_events

      abbrev kept_interval : Interval
      kept_interval = interval_of comp_step (net_pieces net.path) (recorded_kept r) comps (length (kept_lists r))

      pub as_many_counts : length w.counts.items ≡ length comps
      as_many_counts = ap length wove.counts ∙ length-map-range_with_len (comp_count_in kept_interval) 0 (length comps)

      comp_count : (component : ℕ) (c : CompCount) → slice_get w.counts.items component ≡ Some c → c ≡ comp_count_in kept_interval component
      comp_count component c here =
          let below : component < length comps = omega (arith, slice_get_within w.counts.items component c here, as_many_counts) in
          sym (get_or_from_slice_get w.counts.items component c c here)
          ∙ ap (λ (counts : List CompCount). get_or counts component c) wove.counts
          ∙ get_or-map-range_with_len (comp_count_in kept_interval) 0 (length comps) component component c below (omega arith)

      pub event_counts : AreEventCounts (recorded_interval machine comps r) w.counts.items w.events
      unfolding woven_interval
      event_counts = record {
        each = λ component c here.
            comp_count component c here
            ∙ ap (λ (g : List Event). comp_sum (map event_count (filter (λ x. x.0.component == component) (zip g (map fired_of (woven comp_step g comps)))))) same_events;
        count = wove.events ∙ ap length same_events;
      }

  -- ---- the weave in recorded order

  -- the events of the accesses as their records give them back are those of the interval
  pub events_in_order : (comps : List Comp) (graph : List Event) → AreEventsOf machine comps (recorded_kept r) graph → AreEventsOf machine comps (accesses_in r) graph
  events_in_order comps graph events = record {
    are = events.are ∙ rec.kept.events;
    numbered = events.numbered;
    fits = events.fits;
    small = events.small;
    cores = events.cores;
    few = omega (arith, events.few, rec.kept.recorded_few, length_recorded (entries_of r));
  }

-- the counts of accesses, however they are written
pub counted_so : (i : Interval) (counts others : List CoreCount) (n m : ℕ) → counts ≡ others → n ≡ m → AreAccessCounts i others m → AreAccessCounts i counts n
counted_so i counts others n m same as_many are =
    subst (λ (k : ℕ). AreAccessCounts i counts k) (sym as_many) (subst (λ (cs : List CoreCount). AreAccessCounts i cs m) (sym same) are)

pub events_counted_so : (i : Interval) (counts others : List CompCount) (n m : ℕ) → counts ≡ others → n ≡ m → AreEventCounts i others m → AreEventCounts i counts n
events_counted_so i counts others n m same as_many are =
    subst (λ (k : ℕ). AreEventCounts i counts k) (sym as_many) (subst (λ (cs : List CompCount). AreEventCounts i cs m) (sym same) are)

-- nothing is kept where no events are
pub off_is_of_all : (machine : Machine) (intervals : List Interval) (recording : Recording) → is_on recording ≡ false → IsRecordingOf machine intervals recording
off_is_of_all machine intervals Off off = tt
off_is_of_all machine intervals (On file) off = absurd cc
off_is_of_all machine intervals TooLong off = absurd cc
