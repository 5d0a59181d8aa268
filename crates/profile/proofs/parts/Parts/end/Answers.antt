use Rattle.std.proofs.Common.{◌<◌, ◌+◌, ◌∙◌, List, drop, length, min, refl, subst, arith}
use Rattle.std.specs.List.{zip}
use Rattle.event_graph.specs.declared.event.Event.{Event}
use Rattle.event_graph.specs.declared.fired.Fired.{Fired}
use Rattle.profile.specs.declared.parts.Parts.{Parts}
use Rattle.profile.specs.Parts.{IsServing}
use Rattle.profile.proofs.PartsMore.{end_more}
use Rattle.profile.proofs.Serving.{next_pair, no_more}
use Rattle.profile.proofs.parts.Parts.end.Goals as goal

pub loop-place-preserved : goal.loop-place-preserved
loop-place-preserved c =
    let events = c.args.events.now in
    let fired = c.args.fired.now in
    let place = c.loop-place.place in
    let lt : place < min (length events) (length fired) = omega (arith, c.loop-place-test.true, c.min-count.ensures) in
    record {
      serving = λ whole s. c.in_ok-wait.ensures.waits whole (drop (place + 1) (zip events fired))
          (subst (λ (l : List (Event × Fired)). IsServing whole l c.loop-place.self) (next_pair events fired place _ _ lt) (c.loop-place.invariant.serving whole s));
      copies = c.wait.ensures.copies ∙ c.loop-place.invariant.copies;
    }

pub returns : goal.returns
returns c = λ time cores steps entries delays parts.
    let events = c.args.events.now in
    let fired = c.args.fired.now in
    let cleared : Parts = record { copies = c.loop-place.self.copies; makers = c.clear.new.queues; rows = c.loop-place.self.rows } in
    end_more time cores steps c.args.self.now c.loop-place.self parts entries events fired delays (drop c.loop-place.place (zip events fired))
    (no_more events fired c.loop-place.place (omega (arith, c.loop-place-test.false, c.min-count.ensures)))
    c.loop-place.invariant.serving c.loop-place.invariant.copies cleared refl refl c.clear.ensures
