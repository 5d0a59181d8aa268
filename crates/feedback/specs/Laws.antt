-- What is true of the feedback of every interval.
use Rattle.std.specs.Prelude.{◌≡◌, ◌≤◌, ◌^◌, ℕ, List, All, length, map}
use Rattle.event_graph.specs.declared.event.Event.{Event}
use Rattle.event_graph.specs.declared.fired.Fired.{Fired}
use Rattle.event_graph.specs.Numbered.{IsNumbered}
use Rattle.event_graph.specs.OneListWeave.{FiredEvent, fired_of}
use Rattle.event_graph.specs.OrderByCore.{AreRenumberedByCore}
use Rattle.event_graph.specs.Renumbering.{HaveTheTimesOf}
use Rattle.event_graph.specs.Timely.{AreTimely}
use Rattle.feedback.specs.FeedbackDelay.{feedback_delays}
use Rattle.feedback.specs.Finished.{HaveFinished}

-- timely events have all that is asked of a weave
abbrev pub TimelyEventsHaveFinished : Type 0
TimelyEventsHaveFinished = (events : List Event) (fired : List Fired) → IsNumbered events → AreTimely events fired → HaveFinished events fired

-- there is a delay for each core, and none is over 2^62 cycles
abbrev pub DelaysAreSmall : Type 0
DelaysAreSmall = (events : List Event) (fired : List Fired) (cores : ℕ) → IsNumbered events → AreTimely events fired
    → (length (feedback_delays events fired cores) ≡ cores) × All (λ d. d ≤ 2 ^ 62) (feedback_delays events fired cores)

-- the delays are the same where the events have other numbers, and the same times
abbrev pub DelaysAreOfTheCores : Type 0
DelaysAreOfTheCores = (to : ℕ → ℕ) (events others : List Event) (timed moved : List FiredEvent) (cores : ℕ)
    → IsNumbered events → IsNumbered others → AreRenumberedByCore to events others
    → map (λ x. x.event) timed ≡ events → map (λ x. x.event) moved ≡ others → HaveTheTimesOf to timed moved
    → feedback_delays others (map fired_of moved) cores ≡ feedback_delays events (map fired_of timed) cores
