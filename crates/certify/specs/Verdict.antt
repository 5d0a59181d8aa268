-- The verdict on timed events: whether they are the weave's, or the first that is wrong.
use Rattle.std.specs.Prelude.{ℕ, ◌+◌, ◌==◌, Bool, false, not, ◌||◌, if◌then◌else◌, List, [], ◌∷◌, length, map, sum_by, slice_get, Option, Some, None, Result, Ok}
use Rattle.std.specs.List.{enumerate_from, filter, find}
use Rattle.std.specs.Option.{option_map, option_map_or}
use Rattle.component.specs.declared.comp.Comp.{Comp}
use Rattle.component.specs.ComponentStep.{comp_step}
use Rattle.event_graph.specs.OneListWeave.{FiredEvent, finish_in, is_event_before, start_of}
use Rattle.event_graph.specs.ServedEvents.{after_serving, of_component}
use Rattle.certify.specs.declared.bad_events.BadEvents.{BadEvents}
use Rattle.certify.specs.declared.verdict.Verdict.{Verdict}
use Rattle.certify.specs.declared.verdict.Verdict.TheVariants.{Yes, Start, Finish}
use Rattle.certify.specs.EventsFile.{events_of, then_read}

-- the lesser start first, and at a tie the lesser number
abbrev pub comes_before : FiredEvent → FiredEvent → Bool
comes_before x y = is_event_before x.event x.start y.event y.start

-- a list in order with an event at its place
abbrev pub placed : FiredEvent → List FiredEvent → List FiredEvent
placed x [] = x ∷ []
placed x (y ∷ ys) = if comes_before x y then x ∷ y ∷ ys else y ∷ placed x ys

-- in order of the noted starts
abbrev pub in_order : List FiredEvent → List FiredEvent
in_order [] = []
in_order (x ∷ xs) = placed x (in_order xs)

-- whether an event starts when the noted finishes let it
abbrev pub has_right_start : List FiredEvent → FiredEvent → Bool
has_right_start timed x = x.start == start_of (finish_in timed) x.event

-- the events that its component serves before it, in their order
abbrev pub served_before : List FiredEvent → FiredEvent → List FiredEvent
served_before timed x = filter (λ y. comes_before y x) (of_component x.event.component (in_order timed))

-- when this component finishes the event, which served those before it
abbrev pub finish_on : Comp → List FiredEvent → FiredEvent → ℕ
finish_on c timed x = (comp_step (after_serving comp_step c (served_before timed x)) x.event.kind x.start).1

-- when its component, if it is there, finishes an event
abbrev pub finish_by : List Comp → List FiredEvent → FiredEvent → Option ℕ
finish_by comps timed x = option_map (λ c. finish_on c timed x) (slice_get comps x.event.component)

-- whether an event finishes when its component does so
abbrev pub has_right_finish : List Comp → List FiredEvent → FiredEvent → Bool
has_right_finish comps timed x = option_map_or (λ finish. x.finish == finish) (finish_by comps timed x) false

abbrev pub is_wrong : List Comp → List FiredEvent → FiredEvent → Bool
is_wrong comps timed x = not (has_right_start timed x) || not (has_right_finish comps timed x)

-- the components after an interval, each after its own events
abbrev pub after_all : List Comp → List FiredEvent → List Comp
after_all comps timed = map (λ at. after_serving comp_step at.1 (of_component at.0 (in_order timed))) (enumerate_from 0 comps)

-- what is said of an event that is wrong: its start, if that is wrong
abbrev pub wrong_as : List FiredEvent → (interval : ℕ) → FiredEvent → Verdict
wrong_as timed interval x = if has_right_start timed x then Finish interval x.event.number else Start interval x.event.number

-- the verdict of an event, or of what follows where there is none
abbrev pub or_verdict : Option FiredEvent → (FiredEvent → Verdict) → Option Verdict → Option Verdict
or_verdict (Some x) told next = Some (told x)
or_verdict None told next = next

-- the first interval that has a wrong event, and the least number of one; the first list is of this interval
abbrev pub first_wrong : List Comp → (interval : ℕ) → List (List FiredEvent) → Option Verdict
first_wrong comps interval [] = None
first_wrong comps interval (timed ∷ rest) =
    or_verdict (find (is_wrong comps timed) timed) (wrong_as timed interval) (first_wrong (after_all comps timed) (interval + 1) rest)

abbrev pub told_or : Option Verdict → Verdict → Verdict
told_or (Some v) otherwise = v
told_or None otherwise = otherwise

abbrev pub verdict_on : List Comp → List (List FiredEvent) → Verdict
verdict_on comps intervals = told_or (first_wrong comps 0 intervals) (Yes (length intervals) (sum_by length intervals))

-- the verdict on a file, or the first thing that is wrong with it
abbrev pub verdict_of : List Comp → (file : List ℕ) → Result Verdict BadEvents
verdict_of comps file = then_read (events_of comps file) (λ intervals. Ok (verdict_on comps intervals))
