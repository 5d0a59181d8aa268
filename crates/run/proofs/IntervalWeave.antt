-- What an interval's accesses and its machine bring to the weave.
use Rattle.std.proofs.Common.{◌≡◌, ℕ, ◌+◌, ◌*◌, ◌^◌, ◌<◌, ◌≤◌, List, length, map, All, sym, subst, ap, ◌∙◌, arith}
use Rattle.std.specs.Prelude.{sum_by}
use Rattle.zs_num.specs.declared.entry.Entry.{Entry}
use Rattle.machine_desc.specs.declared.machine.Machine.{Machine}
use Rattle.machine_desc.specs.Machine.{IsMachine}
use Rattle.component.specs.declared.comp.Comp.{Comp}
use Rattle.component.specs.ComponentStep.{comp_step, free_of}
use Rattle.component.specs.Greatest.{comp_greatest}
use Rattle.component.specs.Serving.{comp_latency, comp_serves}
use Rattle.component.specs.Components.{AreComponents}
use Rattle.event_graph.specs.declared.event.Event.{Event}
use Rattle.event_graph.specs.declared.fired.Fired.{Fired}
use Rattle.noc_mesh.specs.declared.net.Net.{Net}
use Rattle.event_graph.specs.EventGraph.{all_events}
use Rattle.event_graph.specs.Fits.{GraphFits}
use Rattle.event_graph.specs.Laws.{MachineStepsStaySmall}
use Rattle.event_graph.specs.Near.{AreNear}
use Rattle.event_graph.specs.Numbered.{IsNumbered}
use Rattle.event_graph.specs.OneListWeave.{fired_of, woven}
use Rattle.event_graph.specs.SmallSteps.{AreSmallSteps}
use Rattle.event_graph.specs.AccessPaths.{path_of}
use Rattle.noc_mesh.specs.Laws.{NetAccessesHaveFewEvents, NetGraphsFit}
use Rattle.noc_mesh.specs.NetTiming.{net_pieces}
use Rattle.feedback.specs.FeedbackDelay.{feedback_delays}
use Rattle.stats.specs.Counts.{Interval}
use Rattle.bound_records.specs.CoreRuns.{IsNetOf}
use Rattle.reference.specs.ReferenceRun.{woven_interval}

-- an earliest start that is below one bound is below a later one
pub near_by : (base other delay : ℕ) (events : List Event) → base ≤ other → AreNear base delay events → AreNear other delay events
near_by base other delay events up near i e at =
    let n = near i e at in
    record { min_start = omega (arith, n.min_start, up); first = n.first; second = n.second }

module _ (machine : Machine) (ok : IsMachine machine) (net : Net) (is : IsNetOf machine net) (comps : List Comp) (are : AreComponents machine comps) (entries : List Entry)
    (graph : List Event) (made : graph ≡ all_events (net_pieces net.path) entries) where
  -- the events are those of the machine
  pub same_events : graph ≡ all_events (net_pieces (path_of machine)) entries
  same_events =
      made ∙ ap (λ path. all_events (net_pieces path) entries) is

  pub fits : NetGraphsFit → GraphFits comp_serves comp_latency graph comps
  fits law = subst (λ g. GraphFits comp_serves comp_latency g comps) (sym same_events) (law machine comps entries ok are)

  -- at most sixty for each access
  pub count : NetAccessesHaveFewEvents → length (all_events (net_pieces net.path) entries) ≡ sum_by (λ e. length (net_pieces net.path e)) entries
      → length graph ≤ 60 * length entries
  count law counted =
      let few : sum_by (λ e. length (net_pieces net.path e)) entries ≤ 60 * length entries = law net.path entries net.in_range in
      let all : length graph ≡ length (all_events (net_pieces net.path) entries) = ap length made in
      omega (arith, few, all, counted)

  -- the events of an interval begin before cycle 2^34 + 2^20, and its components are free by cycle 2^56, so that no sum
  -- of the weave reaches 2^62
  pub steps_are_small : MachineStepsStaySmall → All (λ c. free_of c ≤ 2 ^ 56) comps → IsNumbered graph → GraphFits comp_serves comp_latency graph comps
      → AreNear (2 ^ 34 + 2 ^ 20) (2 ^ 34 + 2 ^ 20) (all_events (net_pieces net.path) entries) → length graph ≤ 60 * length entries → length entries ≤ 2 ^ 22
      → AreSmallSteps comp_step comp_greatest graph comps
  steps_are_small law free numbered fit near count few =
      let near_graph : AreNear (2 ^ 34 + 2 ^ 20) (2 ^ 34 + 2 ^ 20) graph = subst (λ g. AreNear (2 ^ 34 + 2 ^ 20) (2 ^ 34 + 2 ^ 20) g) (sym made) near in
      law machine comps graph (2 ^ 56) (2 ^ 34 + 2 ^ 20) ok are free numbered fit (near_by (2 ^ 34 + 2 ^ 20) (2 ^ 56) (2 ^ 34 + 2 ^ 20) graph (omega arith) near_graph) (omega (arith, count, few))

-- few accesses have few events
pub few_events : NetAccessesHaveFewEvents → (net : Net) (entries : List Entry) → length entries ≤ 2 ^ 22
    → sum_by (λ e. length (net_pieces net.path e)) entries < 2 ^ 32
few_events law net entries few = omega (arith, law net.path entries net.in_range, few)

-- the weave is what is recorded of the interval
pub is_woven : (machine : Machine) (comps : List Comp) (entries : List Entry) (graph : List Event) (fired : List Fired) (delays : List ℕ)
    → graph ≡ all_events (net_pieces (path_of machine)) entries → fired ≡ map fired_of (woven comp_step graph comps) → delays ≡ feedback_delays graph fired machine.cores
    → (let i : Interval = record { entries = entries; events = graph; fired = fired; delays = delays } in i) ≡ woven_interval machine comps entries
unfolding woven_interval
is_woven machine comps entries graph fired delays are weave feedback = cc

-- the events that are recorded of the interval
pub woven_events : (machine : Machine) (comps : List Comp) (entries : List Entry) (graph : List Event) → graph ≡ all_events (net_pieces (path_of machine)) entries
    → graph ≡ (woven_interval machine comps entries).events
unfolding woven_interval
woven_events machine comps entries graph are = are
