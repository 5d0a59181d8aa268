-- What follows where events were fired timely: the weave is what feedback asks for, and no delay is
-- long.
use Rattle.std.proofs.Common.{◌≡◌, ◌-◌, ◌<◌, ◌≤◌, ℕ, List, length, Option, None, Some, refl, ◌∙◌, arith, get_or, inl, inr, ◌^◌}
use Rattle.std.specs.List.{All, range_with_len, slice_get}
use Rattle.std.specs.Option.{option_map_or}
use Rattle.std.proofs.lemmas.List.Elements.{All-map}
use Rattle.std.proofs.lemmas.Option.{slice_get_within, slice_get_cases}
use Rattle.event_graph.specs.declared.event.Event.{Event}
use Rattle.event_graph.specs.declared.fired.Fired.{Fired}
use Rattle.event_graph.specs.Critical.{last_critical}
use Rattle.event_graph.specs.Numbered.{IsNumbered}
use Rattle.event_graph.specs.Timely.{IsTimely, AreTimely}
use Rattle.feedback.specs.FeedbackDelay.{fired_finish, delay_of, feedback_delays}
use Rattle.feedback.specs.Finished.{HaveFinished}

module _ (events : List Event) (fired : List Fired) (timely : AreTimely events fired) where
  -- the event that was fired as this one
  event_of : (i : ℕ) (f : Fired) → slice_get fired i ≡ Some f → (e : Event) × (slice_get events i ≡ Some e) × IsTimely e f
  event_of i f is =
      let below : i < length fired = slice_get_within fired i f is in
      elim (slice_get_cases events i).1 [
        | inl found ↦ (found.0, found.2, timely.each i found.0 f found.2 is)
        | inr past ↦ absurd (omega (arith, timely.count))
      ]

  pub timely_have_finished : IsNumbered events → HaveFinished events fired
  timely_have_finished numbered = record {
    count = timely.count;
    number = λ i f is.
        let of = event_of i f is in
        of.2.number ∙ numbered.number i of.0 of.1;
    finish = λ i e f at' is.
        let one : IsTimely e f = timely.each i e f at' is in
        omega arith;
  }

  finish_by : (number : ℕ) (o : Option Fired) → slice_get fired number ≡ o → option_map_or (λ f. f.finish) o 0 ≤ 2 ^ 62
  finish_by number None is = omega arith
  finish_by number (Some f) is = (event_of number f is).2.small

  -- a delay is no more than a finish
  delay_by : (last : Option Event) → option_map_or (λ e. fired_finish fired e.number - e.min_finish) last 0 ≤ 2 ^ 62
  delay_by None = omega arith
  delay_by (Some e) =
      let small : fired_finish fired e.number ≤ 2 ^ 62 = finish_by e.number (slice_get fired e.number) refl in
      omega arith

  pub delays_small : (cores : ℕ) → All (λ d. d ≤ 2 ^ 62) (feedback_delays events fired cores)
  delays_small cores =
      All-map (λ d. d ≤ 2 ^ 62) (delay_of events fired) (range_with_len 0 cores) (λ k d below. delay_by (last_critical (get_or (range_with_len 0 cores) k d) events))
