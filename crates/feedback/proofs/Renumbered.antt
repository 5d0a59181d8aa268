-- The delays of events under other numbers.
use Rattle.std.proofs.Common.{◌≡◌, ◌-◌, ℕ, List, [], ◌∷◌, map, Option, Some, None, sym, ◌∙◌, ap, refl}
use Rattle.std.specs.List.{range_with_len, slice_get}
use Rattle.std.specs.Option.{option_map, option_map_or}
use Rattle.std.proofs.lemmas.Option.{slice_get-map}
use Rattle.event_graph.specs.declared.event.Event.{Event}
use Rattle.event_graph.specs.declared.fired.Fired.{Fired}
use Rattle.event_graph.specs.Critical.{last_critical}
use Rattle.event_graph.specs.Numbered.{IsNumbered}
use Rattle.event_graph.specs.OneListWeave.{FiredEvent, fired_of}
use Rattle.event_graph.specs.Renumbering.{HaveTheTimesOf, renumbered, renumbered_fired}
use Rattle.feedback.specs.FeedbackDelay.{delay_of, feedback_delays, fired_finish}

map_ext : {X Y : Type 0} (f g : X → Y) (xs : List X) → ((x : X) → f x ≡ g x) → map f xs ≡ map g xs
map_ext f g [] h = refl
map_ext f g (x ∷ xs) h = ap (λ z. z ∷ map f xs) (h x) ∙ ap (λ zs. g x ∷ zs) (map_ext f g xs h)

some_of : (o : Option FiredEvent) (e : Event) → option_map (λ (x : FiredEvent). x.event) o ≡ Some e → (x : FiredEvent) × (o ≡ Some x)
some_of None e is = absurd (cc)
some_of (Some x) e is = (x, refl)

module _ (to : ℕ → ℕ) (events others : List Event) (timed moved : List FiredEvent) (numbered : IsNumbered events)
    (there : (core : ℕ) (e : Event) → last_critical core events ≡ Some e → slice_get events e.number ≡ Some e)
    (same : (core : ℕ) → last_critical core others ≡ option_map (renumbered to) (last_critical core events))
    (timed_are : map (λ (x : FiredEvent). x.event) timed ≡ events) (times : HaveTheTimesOf to timed moved) where
  fired_at : (xs : List FiredEvent) (n : ℕ) → slice_get (map fired_of xs) n ≡ option_map fired_of (slice_get xs n)
  fired_at xs n = slice_get-map fired_of xs n

  timed_at : (e : Event) → slice_get events e.number ≡ Some e → (x : FiredEvent) × (slice_get timed e.number ≡ Some x)
  timed_at e at =
      let mapped : option_map (λ (x : FiredEvent). x.event) (slice_get timed e.number) ≡ Some e =
      sym (slice_get-map (λ (x : FiredEvent). x.event) timed e.number) ∙ (ap (λ es. slice_get es e.number) timed_are ∙ at)
      in
      some_of (slice_get timed e.number) e mapped

  finish_same : (e : Event) → slice_get events e.number ≡ Some e → fired_finish (map fired_of moved) (to e.number) ≡ fired_finish (map fired_of timed) e.number
  finish_same e at =
      let x : (x : FiredEvent) × (slice_get timed e.number ≡ Some x) = timed_at e at in
      let y : slice_get moved (to e.number) ≡ Some (renumbered_fired to x.0) = times e.number x.0 x.1 in
      ap (λ o. option_map_or (λ (f : Fired). f.finish) o 0) (fired_at moved (to e.number) ∙ ap (option_map fired_of) y)
      ∙ sym (ap (λ o. option_map_or (λ (f : Fired). f.finish) o 0) (fired_at timed e.number ∙ ap (option_map fired_of) x.1))

  delay_by : (o : Option Event) → ((e : Event) → o ≡ Some e → slice_get events e.number ≡ Some e)
      → option_map_or (λ e. fired_finish (map fired_of moved) e.number - e.min_finish) (option_map (renumbered to) o) 0
      ≡ option_map_or (λ e. fired_finish (map fired_of timed) e.number - e.min_finish) o 0
  delay_by None h = refl
  delay_by (Some e) h = ap (λ n. n - e.min_finish) (finish_same e (h e refl))

  delay_same : (core : ℕ) → delay_of others (map fired_of moved) core ≡ delay_of events (map fired_of timed) core
  delay_same core =
      ap (λ o. option_map_or (λ e. fired_finish (map fired_of moved) e.number - e.min_finish) o 0) (same core)
      ∙ delay_by (last_critical core events) (there core)

  pub delays_same : (cores : ℕ) → feedback_delays others (map fired_of moved) cores ≡ feedback_delays events (map fired_of timed) cores
  delays_same cores = map_ext (delay_of others (map fired_of moved)) (delay_of events (map fired_of timed)) (range_with_len 0 cores) delay_same
