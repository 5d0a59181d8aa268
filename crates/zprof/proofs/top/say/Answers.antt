-- The line of the status was said, or a part of it.
use Rattle.std.proofs.Common.{◌≡◌, ℕ, List, true≢false, refl, subst, sym, ◌∙◌}
use Rattle.zsim.specs.declared.ended.Status.TheVariants as status
use Rattle.zsim.specs.Ended.{SaysLine}
use Rattle.zsim.specs.Seen.{sink_seen}
use Rattle.zprof.proofs.Said.{line_not_begun, no_line}
use Rattle.zprof.proofs.top.say.Goals.{in-Ran, in_default}
use Rattle.zprof.proofs.top.say.Goals as goal

-- nothing is to be said
pub returns-then-matches-clause-line : goal.returns-then-matches-clause-line
returns-then-matches-clause-line g c =
    let sink = g.E.Sink in
    let ran : c.args.status.now ≡ status.Ran = elim c.match-matches.branch [
      | in-Ran w ↦ w.in-Ran.is
      | in_default w ↦ absurd (true≢false (sym c.if-matches.true ∙ w.matches-is))
    ] in
    no_line c.args.status.now (sink_seen sink.is_seen sink.bytes sink.faults c.args.err.now c.args.err.now) ran refl (λ _. refl)

pub returns-then-matches-clause-silent : goal.returns-then-matches-clause-silent
returns-then-matches-clause-silent g c = λ _. (refl, refl)

-- it was said, or a part of it
pub returns-in-Ok-clause-line : goal.returns-in-Ok-clause-line
returns-in-Ok-clause-line g c =
    let sink = g.E.Sink in
    let err = sink_seen sink.is_seen sink.bytes sink.faults c.args.err.now c.say_line.new.sink in
    subst (λ (line : List ℕ). SaysLine c.say_line.result line err) (c.as_bytes.ensures.value ∙ c.in-Ok.ensures) c.say_line.ensures

pub returns-in-Ok-clause-silent : goal.returns-in-Ok-clause-silent
returns-in-Ok-clause-silent g c =
    let not : c.args.status.now ≡ status.Ran → ⊥ = elim c.match-matches.branch [
      | in-Ran w ↦ absurd (true≢false (sym w.matches-is ∙ c.if-matches.false))
      | in_default w ↦ w.in_default.not-Ran
    ] in
    λ is. absurd (not is)

-- there was no room for the line
pub returns-in-Err-clause-line : goal.returns-in-Err-clause-line
returns-in-Err-clause-line g c =
    let sink = g.E.Sink in
    let not : c.args.status.now ≡ status.Ran → ⊥ = elim c.match-matches.branch [
      | in-Ran w ↦ absurd (true≢false (sym w.matches-is ∙ c.if-matches.false))
      | in_default w ↦ w.in_default.not-Ran
    ] in
    line_not_begun c.args.status.now (sink_seen sink.is_seen sink.bytes sink.faults c.args.err.now c.args.err.now) not refl (λ _. refl)

pub returns-in-Err-clause-silent : goal.returns-in-Err-clause-silent
returns-in-Err-clause-silent g c =
    let not : c.args.status.now ≡ status.Ran → ⊥ = elim c.match-matches.branch [
      | in-Ran w ↦ absurd (true≢false (sym w.matches-is ∙ c.if-matches.false))
      | in_default w ↦ w.in_default.not-Ran
    ] in
    λ is. absurd (not is)
