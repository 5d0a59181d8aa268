use Rattle.std.proofs.Common.{◌≡◌, ◌+◌, ℕ, Option, Some, None, IfSome, ap, arith, subst, sym, ◌∙◌}
use Rattle.pipe_core.specs.Pace.{PaceState}
use Rattle.pipe_core.specs.PaceLaws.{GoesOnFrom}
use Rattle.rv_core.specs.Single.{begun}
use Rattle.rv_core.specs.Sound.{IsSoundCore}
use Rattle.reference.specs.Ahead.{ahead}
use Rattle.bound_core.specs.NumberedCores.{NumberedCore}
use Rattle.reference.specs.TimedCore.{TimedCore}
use Rattle.reference.proofs.CoreKept.{CoreLaws}
use Rattle.bound_core.proofs.Meeting.{begun_soundly}
use Rattle.bound_core.proofs.bounded.BoundCore.comes_to.Goals as goal

none_soon : (pace : Option PaceState) (clock : ℕ) → pace ≡ None → IfSome pace (GoesOnFrom clock)
none_soon None clock none = tt
none_soon (Some pace) clock none = cc

pub invariant_of-self : goal.invariant_of-self
invariant_of-self g c =
    let inside = c.self.inside in
    let none : inside.pace ≡ None = ap (λ (n : NumberedCore). n.timed.pace) c.self.view_is ∙ c.requires.pace in
    (omega (arith, c.self.invariant.0), none_soon inside.pace (inside.clock + 1) none)

pub returns-clause-begun_sound : goal.returns-clause-begun_sound
returns-clause-begun_sound g c =
    let laws : CoreLaws = record {
      advanced_sound = c.cores_stay_sound.ensures.advanced;
      advanced_memory = c.cores_stay_sound.ensures.advanced_memory;
      advanced_pairing = c.cores_stay_sound.ensures.advanced_pairing;
      advanced_fetching = c.cores_stay_sound.ensures.advanced_fetching;
      answered_sound = c.cores_stay_sound.ensures.answered;
      answered_memory = c.cores_stay_sound.ensures.answered_memory;
      answered_pairing = c.cores_stay_sound.ensures.answered_pairing;
      answered_fetching = c.cores_stay_sound.ensures.answered_fetching;
      paired_right = c.accesses_are_paired_right.ensures.next;
    } in
    let before = c.args.self.now.timed in
    subst (λ (t : TimedCore). IsSoundCore (begun c.args._single t.core)) (sym (ap (λ (n : NumberedCore). n.timed) c.self.view_is))
    (begun_soundly laws (g.P.Program.image c.args._program.now) c.args._end (Some c.args._single) before (ahead 1 before) c.keeps_sound.ensures.sound c.requires.met)
