-- What the weave core by core asks of an interval that one worker has recorded.
use Rattle.std.proofs.Common.{◌≡◌, ◌^◌, ◌-◌, ◌<◌, ◌≤◌, List, Option, Some, length, All, sym, subst, ap, ◌∙◌, arith}
use Rattle.std.specs.Prelude.{IfSome}
use Rattle.zs_num.specs.declared.entry.Entry.{Entry}
use Rattle.machine_desc.specs.declared.machine.Machine.{Machine}
use Rattle.machine_desc.specs.Machine.{IsMachine}
use Rattle.component.specs.declared.comp.Comp.{Comp}
use Rattle.component.specs.ComponentStep.{comp_step, free_of}
use Rattle.component.specs.Components.{AreComponents}
use Rattle.component.specs.Greatest.{comp_greatest}
use Rattle.component.specs.Serving.{comp_latency, comp_serves}
use Rattle.event_graph.specs.declared.event.Event.{Event}
use Rattle.event_graph.specs.EventGraph.{all_events}
use Rattle.event_graph.specs.Fits.{GraphFits}
use Rattle.event_graph.specs.SmallSteps.{AreSmallSteps}
use Rattle.noc_mesh.specs.declared.net.Net.{Net}
use Rattle.noc_mesh.specs.NetTiming.{net_pieces}
use Rattle.weave_chains.specs.Listed.{one_after_other}
use Rattle.weave_chains.specs.Rounds.{AreChained}
use Rattle.weave_chains.specs.Woven.{AreOrdered, IsWoven}
use Rattle.weave_chains.specs.declared.weave.Woven.{Woven}
use Rattle.bound_records.proofs.Lists.{length_recorded}
use Rattle.bound_records.specs.CoreRuns.{IsNetOf}
use Rattle.bound_records.specs.Recorders.{RecorderState, entries_of, kept_lists, recorded_kept}
use Rattle.run.specs.IntervalWeave.{IntervalsAreWoven, IsSoundWeave}
use Rattle.run.specs.Records.{IsRecorded, accesses_in, recorded_interval}
use Rattle.reference.specs.ReferenceRun.{woven_interval}
use Rattle.run.proofs.GoneOn.{small_room}
use Rattle.run.proofs.RecordedOrder.{all_recorded}

module _ (machine : Machine) (r : RecorderState) (rec : IsRecorded machine r) (net : Net) (is : IsNetOf machine net) where
  -- the accesses that make events, one core after the other, and the events of these
  abbrev accesses : List Entry
  accesses = one_after_other (kept_lists r)

  abbrev graph : List Event
  graph = all_events (net_pieces net.path) accesses

  pub chained : AreChained (net_pieces net.path) (kept_lists r)
  chained = subst (λ path. AreChained (net_pieces path) (kept_lists r)) (sym is) rec.kept.chained

  pub ordered : AreOrdered (net_pieces net.path) accesses (recorded_kept r)
  ordered = subst (λ path. AreOrdered (net_pieces path) accesses (recorded_kept r)) (sym is) rec.kept.ordered

  module _ (ok : IsMachine machine) (comps : List Comp) (components : AreComponents machine comps) (free : All (λ c. free_of c ≤ 2 ^ 56) comps) (law : IntervalsAreWoven) where
    short : length accesses ≤ 2 ^ 22
    short = omega (arith, rec.kept.few, small_room machine ok)

    sound : IsSoundWeave machine comps accesses (woven_interval machine comps accesses)
    sound = law machine net comps accesses ok is components free rec.kept.cores rec.kept.starts short

    graph_is : (woven_interval machine comps accesses).events ≡ graph
    graph_is = sound.events.are ∙ ap (λ path. all_events (net_pieces path) accesses) (sym is)

    pub few_events : length graph < 2 ^ 32 - 1
    few_events = omega (arith, ap length graph_is, sound.events.few, short)

    pub graph_fits : GraphFits comp_serves comp_latency graph comps
    graph_fits = subst (λ (events : List Event). GraphFits comp_serves comp_latency events comps) graph_is sound.events.fits

    pub small_steps : AreSmallSteps comp_step comp_greatest graph comps
    small_steps = subst (λ (events : List Event). AreSmallSteps comp_step comp_greatest events comps) graph_is sound.events.small

    -- the whole interval can be woven too
    pub whole : IsSoundWeave machine comps (accesses_in r) (recorded_interval machine comps r)
    whole =
        law machine net comps (accesses_in r) ok is components free (all_recorded (λ (e : Entry). e.core < machine.cores) (entries_of r) rec.cores)
        (all_recorded (λ (e : Entry). e.start ≤ 2 ^ 34) (entries_of r) rec.starts) (omega (arith, length_recorded (entries_of r), rec.few, small_room machine ok))

  -- what that weave gives, if it gives anything, is the weave in recorded order
  pub wove : (comps after : List Comp) (found : Option Woven) (w : Woven) → found ≡ Some w
      → IfSome found (λ v. (recorded : List Entry) → AreOrdered (net_pieces net.path) accesses recorded → IsWoven comp_step (net_pieces net.path) recorded comps (length (kept_lists r)) v after)
      → IsWoven comp_step (net_pieces net.path) (recorded_kept r) comps (length (kept_lists r)) w after
  wove comps after found w found_is gives =
      subst
      (λ (o : Option Woven).
      IfSome o (λ v. (recorded : List Entry) → AreOrdered (net_pieces net.path) accesses recorded → IsWoven comp_step (net_pieces net.path) recorded comps (length (kept_lists r)) v after))
      found_is gives (recorded_kept r) ordered
