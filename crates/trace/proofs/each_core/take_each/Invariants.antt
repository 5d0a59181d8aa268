-- the cores before this one took all their turns, and these were told; what they executed last is untold
use Rattle.std.proofs.Common.{◌≡◌, ◌+◌, ◌<◌, ℕ, All, List, [], length, map, Some}
use Rattle.std.specs.Prelude.{slice_get}
use Rattle.rv_core.specs.declared.leg.Leg.{Leg}
use Rattle.bound_core.specs.NumberedCores.{NumberedCore, timed_of}
use Rattle.bound_core.specs.Turn.{IsOver}
use Rattle.bound_records.specs.Turns.{time_by_net}
use Rattle.trace.specs.EachCore.{IsCoreAfterCore}
use Rattle.trace.specs.Port.{phase_of}
use Rattle.trace.specs.Turns.{HaveTaken}
use Rattle.trace.specs.Ways.{FitsLeg}
use Rattle.trace.proofs.CoresInTurn.{AreHeld}
use Rattle.trace.proofs.each_core.take_each.Given as goal

abbrev pub invariant-loop-number : goal.invariant-loop-number
invariant-loop-number g l = record {
  way : (most : ℕ) → HaveTaken (time_by_net l.net) l.program l.end most (phase_of l.initial.cores l.initial.port) [] l.initial.cores l.initial.port
      → HaveTaken (time_by_net l.net) l.program l.end most (phase_of l.initial.cores l.initial.port) l.turns.items l.cores l.port;
  over : (i : ℕ) (c : NumberedCore) → i < l.number → slice_get l.cores i ≡ Some c → IsOver l.end c.timed;
  held : AreHeld (time_by_net l.net) l.program l.end (phase_of l.initial.cores l.initial.port) (g.T.Tracer.steps l.initial.tracer) l.number (timed_of l.cores) l.port (map (λ legs. legs.items) l.untold) l.turns.items (g.T.Tracer.steps l.tracer);
  fits : (i : ℕ) (legs : List Leg) → i < l.number → slice_get (map (λ legs. legs.items) l.untold) i ≡ Some legs → All FitsLeg legs;
  lists : length l.untold ≡ length l.initial.untold;
  in_order : IsCoreAfterCore l.turns.items;
  below : All (λ core. core < l.number) l.turns.items;
  many : length l.initial.port.entries + length l.turns.items ≡ length l.port.entries;
  fixed : g.T.Tracer.fixed l.tracer ≡ g.T.Tracer.fixed l.initial.tracer;
}
