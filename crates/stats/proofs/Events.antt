-- One event more, as the weave fired it: what it changes of its component's count, and that it changes no other.
use Rattle.std.proofs.Common.{◌≡◌, ◌+◌, ◌<◌, ◌≤◌, ℕ, List, length, take, get_or, set, ap, ◌∙◌, sym, subst, arith}
use Rattle.std.specs.List.{zip}
use Rattle.std.proofs.lemmas.Slice.Zip.{length-zip, get_or-zip}
use Rattle.event_graph.specs.declared.event.Event.{Event}
use Rattle.event_graph.specs.declared.fired.Fired.{Fired}
use Rattle.stats.specs.declared.counts.CompCount.{CompCount}
use Rattle.stats.specs.Counted.{event_count}
use Rattle.stats.specs.CountsFit.{CompFits}
use Rattle.stats.specs.Passes.{with_event, with_events}
use Rattle.stats.proofs.Plus.{comp_fewer}
use Rattle.stats.proofs.Steps.{no_item, item_fits, item_counted, all_counted}

-- the component of an event
abbrev component_of : Event × Fired → ℕ
component_of x = x.0.component

module _ (first now : List CompCount) (events : List Event) (fired : List Fired) (i : ℕ) (d : Event) (f : Fired) (below : i < length events) (each : length fired ≡ length events)
    (place : ℕ) (own : place ≡ (get_or events i d).component) (there : place < length first)
    (so_far : (n : ℕ) (c : CompCount) → n < length first → get_or now n c ≡ with_events (get_or first n c) n (take i (zip events fired))) where
  pair : get_or (zip events fired) i (d, f) ≡ (get_or events i d, get_or fired i f)
  pair = get_or-zip events fired i (d, f) below (omega (arith, each))

  within : i < length (zip events fired)
  within = omega (arith, each, length-zip events fired)

  owned : place ≡ component_of (get_or (zip events fired) i (d, f))
  owned = own ∙ ap component_of (sym pair)

  pub event_fits : ((n : ℕ) (c : CompCount) → n < length first → CompFits (with_events (get_or first n c) n (zip events fired)))
      → (c : CompCount) → CompFits (with_event (get_or now place c) (get_or events i d, get_or fired i f))
  unfolding with_events
  event_fits fits c =
      subst (λ (x : Event × Fired). CompFits (with_event (get_or now place c) x)) pair
      (item_fits with_event component_of first now (zip events fired) i (d, f) within place owned there so_far CompFits (λ z x. comp_fewer z (event_count x)) fits c)

  pub event_counted : length now ≡ length first → (c fresh : CompCount) → fresh ≡ with_event (get_or now place c) (get_or events i d, get_or fired i f)
      → (n : ℕ) (z : CompCount) → n < length first → get_or (set now place fresh) n z ≡ with_events (get_or first n z) n (take (i + 1) (zip events fired))
  unfolding with_events
  event_counted long c fresh is =
      item_counted with_event component_of first now (zip events fired) i (d, f) within place owned there so_far long c fresh
      (is ∙ ap (λ (x : Event × Fired). with_event (get_or now place c) x) (sym pair))

pub no_event : (c : CompCount) (n : ℕ) (xs : List (Event × Fired)) → c ≡ with_events c n (take 0 xs)
unfolding with_events
no_event c n xs = no_item with_event component_of c n xs

pub all_events : (c : CompCount) (n : ℕ) (events : List Event) (fired : List Fired) (i : ℕ) → length events ≤ i → length fired ≡ length events
    → with_events c n (take i (zip events fired)) ≡ with_events c n (zip events fired)
unfolding with_events
all_events c n events fired i past each = all_counted with_event component_of c n (zip events fired) i (omega (arith, length-zip events fired))
