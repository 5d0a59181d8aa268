-- What a recording keeps of an interval more.
use Rattle.std.proofs.Common.{◌≡◌, ℕ, zero, suc, ◌+◌, ◌*◌, ◌<◌, ◌≤◌, nat_le, true, false, List, [], ◌∷◌, ◌++◌, length, map, refl, sym, ◌∙◌, ap, ap₂, arith}
use Rattle.std.specs.List.{flat_map, zip}
use Rattle.std.proofs.lemmas.Bool.Decides.{nat_tests}
use Rattle.std.proofs.lemmas.Grind.{flat_map-append}
use Rattle.std.proofs.lemmas.List.{append-nil, length-append, length-map, map-append}
use Rattle.std.proofs.lemmas.List.Sums.{sum_by_push}
use Rattle.std.proofs.lemmas.Slice.Zip.{length-zip}
use Rattle.machine_desc.specs.declared.machine.Machine.{Machine}
use Rattle.machine_desc.specs.Components.{component_count}
use Rattle.event_graph.specs.declared.event.Event.{Event}
use Rattle.event_graph.specs.declared.fired.Fired.{Fired}
use Rattle.event_graph.specs.OneListWeave.{FiredEvent}
use Rattle.event_graph.specs.Timely.{AreTimely}
use Rattle.certify.specs.EventsFile.{events_file_of, interval_bytes, with_time, with_times}
use Rattle.certify.specs.Laws.{FilesHaveThisLength}
use Rattle.certify.specs.SoFar.{AreFiringsOf, EventsSoFar, events_so_far, file_bytes}
use Rattle.stats.specs.Counts.{Interval}
use Rattle.run.specs.declared.recording.Recording.{Recording}
use Rattle.run.specs.declared.recording.Recording.TheVariants.{Off, On, TooLong}
use Rattle.run.specs.Recording.{IsRecordingOf, stays_short}
use Rattle.reference.specs.RunEvents.{events_file_of_run, events_limit, timed_events}

-- each event fired once, and the list has them in order of number
pub are_firings : (events : List Event) (fired : List Fired) → AreTimely events fired → AreFiringsOf events fired
are_firings [] [] timely = refl
are_firings [] (f ∷ fs) timely = let none : length (f ∷ fs) ≡ 0 = timely.count in cc
are_firings (e ∷ es) [] timely = let none : 0 ≡ length (e ∷ es) = timely.count in cc
are_firings (e ∷ es) (f ∷ fs) timely =
    let rest : AreTimely es fs = record { count = omega (arith, timely.count); each = λ i a b at there. timely.each (suc i) a b at there } in
    ap₂ (λ n ns. n ∷ ns) (timely.each zero e f refl refl).number (are_firings es fs rest)

-- the times of an interval's events are as many as these
times_many : (events : List Event) (fired : List Fired) → AreFiringsOf events fired → length (with_times events fired) ≡ length events
times_many events fired firings =
    let same : length fired ≡ length events = sym (length-map fired (λ (f : Fired). f.number)) ∙ ap length firings ∙ length-map events (λ (e : Event). e.number) in
    length-map (zip events fired) (λ x. with_time x.0 x.1) ∙ length-zip events fired ∙ omega (arith, same)

module _ (machine : Machine) (intervals : List Interval) (i : Interval) where
  abbrev before : List (List FiredEvent)
  before = map timed_events intervals

  more : map timed_events (intervals ++ i ∷ []) ≡ before ++ timed_events i ∷ []
  more = map-append timed_events intervals (i ∷ [])

  module _ (graph : List Event) (fired : List Fired) (events_are : i.events ≡ graph) (fired_are : i.fired ≡ fired) (firings : AreFiringsOf graph fired) where
    timed_is : timed_events i ≡ with_times graph fired
    timed_is = ap (λ (es : List Event). with_times es i.fired) events_are ∙ ap (with_times graph) fired_are

    timed_many : length (timed_events i) ≡ length graph
    timed_many = ap length timed_is ∙ times_many graph fired firings

    -- how much longer the file is
    pub longer : FilesHaveThisLength → length (events_file_of_run machine (intervals ++ i ∷ [])) ≡ length (events_file_of_run machine intervals) + 4 + 64 * length graph
    longer law =
        let now = law (component_count machine) before in
        let then = law (component_count machine) (before ++ timed_events i ∷ []) in
        ap (λ (all : List (List FiredEvent)). length (events_file_of (component_count machine) all)) more
        ∙ omega (arith, now, then, length-append before (timed_events i ∷ []), sum_by_push length before (timed_events i), timed_many)

    -- the file that was given the interval too
    pub file_more : (file grown : EventsSoFar) → file ≡ events_so_far (component_count machine) before
        → grown ≡ (let f : EventsSoFar = record { components = file.components; count = file.count + 1; body = file.body ++ interval_bytes (with_times graph fired) } in f)
        → grown ≡ events_so_far (component_count machine) (map timed_events (intervals ++ i ∷ []))
    file_more file grown is grown_is =
        let made : List FiredEvent → EventsSoFar = λ timed. record {
          components = component_count machine;
          count = length before + 1;
          body = flat_map interval_bytes before ++ interval_bytes timed;
        } in
        let count : length (before ++ timed_events i ∷ []) ≡ length before + 1 = length-append before (timed_events i ∷ []) in
        let body : flat_map interval_bytes (before ++ timed_events i ∷ []) ≡ flat_map interval_bytes before ++ interval_bytes (timed_events i) =
        flat_map-append interval_bytes before (timed_events i ∷ []) ∙ ap (λ (rest : List ℕ). flat_map interval_bytes before ++ rest) (append-nil (interval_bytes (timed_events i)))
        in
        grown_is
        ∙ ap (λ (f : EventsSoFar). let g : EventsSoFar = record { components = f.components; count = f.count + 1; body = f.body ++ interval_bytes (with_times graph fired) } in g) is
        ∙ ap made (sym timed_is)
        ∙ sym (ap (events_so_far (component_count machine)) more ∙ rw (count, body) refl)

    -- a file that is too long stays so
    pub still_too_long : FilesHaveThisLength → events_limit < length (events_file_of_run machine intervals) → events_limit < length (events_file_of_run machine (intervals ++ i ∷ []))
    still_too_long law long = omega (arith, long, longer law)

within : (a most : ℕ) → nat_le a most ≡ true → a ≤ most
within a most test = grind (arith, nat_tests)

beyond : (a most : ℕ) → nat_le a most ≡ false → most < a
beyond a most test = grind (arith, nat_tests)

-- ---- an interval more

module _ (law : FilesHaveThisLength) (machine : Machine) (intervals : List Interval) (i : Interval) (graph : List Event) (fired : List Fired)
    (events_are : i.events ≡ graph) (fired_are : i.fired ≡ fired) (firings : AreFiringsOf graph fired) where
  -- the file gets too long
  pub let_go : (recording : Recording) → stays_short recording (length graph) ≡ false → IsRecordingOf machine intervals recording → IsRecordingOf machine (intervals ++ i ∷ []) TooLong
  let_go Off long is = absurd cc
  let_go (On file) long is =
      let bytes : length (file_bytes file) ≡ length (events_file_of_run machine intervals) = ap (λ (f : EventsSoFar). length (file_bytes f)) is.0 in
      let past = beyond (length (file_bytes file) + 4 + 64 * length graph) events_limit long in
      omega (arith, longer machine intervals i graph fired events_are fired_are firings law, bytes, past)
  let_go TooLong long is = absurd cc

  -- the file takes it
  pub kept : (recording : Recording) (file grown : EventsSoFar) → recording ≡ On file → stays_short recording (length graph) ≡ true
      → grown ≡ (let f : EventsSoFar = record { components = file.components; count = file.count + 1; body = file.body ++ interval_bytes (with_times graph fired) } in f)
      → IsRecordingOf machine intervals recording → IsRecordingOf machine (intervals ++ i ∷ []) (On grown)
  kept Off file grown is short grown_is recorded = absurd cc
  kept (On file') file grown is short grown_is recorded =
      let same : file' ≡ file = cc in
      let here : file ≡ events_so_far (component_count machine) (map timed_events intervals) = sym same ∙ recorded.0 in
      let bytes : length (file_bytes file') ≡ length (events_file_of_run machine intervals) = ap (λ (f : EventsSoFar). length (file_bytes f)) recorded.0 in
      let room = within (length (file_bytes file') + 4 + 64 * length graph) events_limit short in (
        file_more machine intervals i graph fired events_are fired_are firings file grown here grown_is,
        omega (arith, longer machine intervals i graph fired events_are fired_are firings law, bytes, room),
      )
  kept TooLong file grown is short grown_is recorded = absurd cc

  -- there is no file
  pub none_kept : (recording : Recording) → ((file : EventsSoFar) → recording ≡ On file → ⊥) → IsRecordingOf machine intervals recording → IsRecordingOf machine (intervals ++ i ∷ []) recording
  none_kept Off not recorded = tt
  none_kept (On file) not recorded = absurd (not file refl)
  none_kept TooLong not recorded = still_too_long machine intervals i graph fired events_are fired_are firings law recorded
