-- The events so far are fine.
use Rattle.std.proofs.Common.{◌≡◌, ◌<◌, ℕ, Some}
use Rattle.std.specs.Prelude.{slice_get}
use Rattle.event_graph.specs.declared.event.Event.{Event}
use Rattle.event_graph.specs.declared.event.Parent.{Parent}
use Rattle.event_graph.specs.Fits.{EventFits}
use Rattle.event_graph.specs.Near.{IsNear}
use Rattle.weave_core.specs.Beginning.{IsSmallEvent}
use Rattle.weave_tests.proofs.fitting.is_graph.Given as goal

abbrev pub invariant-loop-index : goal.invariant-loop-index
invariant-loop-index g l = record {
  number : (i : ℕ) (e : Event) → i < l.index → slice_get l.events i ≡ Some e → e.number ≡ i;
  first : (i : ℕ) (e : Event) (p : Parent) → i < l.index → slice_get l.events i ≡ Some e → e.first ≡ Some p → p.number < i;
  second : (i : ℕ) (e : Event) (p : Parent) → i < l.index → slice_get l.events i ≡ Some e → e.second ≡ Some p → p.number < i;
  fits : (i : ℕ) (e : Event) → i < l.index → slice_get l.events i ≡ Some e → EventFits g.C.Component.serves g.C.Component.floor l.comps e;
  near : (i : ℕ) (e : Event) → i < l.index → slice_get l.events i ≡ Some e → IsNear 4194304 4194304 e;
  small : (i : ℕ) (e : Event) → i < l.index → slice_get l.events i ≡ Some e → IsSmallEvent e;
}
