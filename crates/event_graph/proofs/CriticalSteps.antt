-- A core's last critical event, with one event more.
use Rattle.std.specs.Prelude.{◌≡◌, ◌+◌, ◌<◌, ℕ, Bool, true, false, if◌then◌else◌, List, [], ◌∷◌, ◌++◌, length, Option, None, Some, filter, refl}
use Rattle.std.specs.List.{last_or}
use Rattle.std.proofs.Common.{◌∙◌, ap, take, get_or}
use Rattle.std.proofs.lemmas.List.Elements.{filter_more, filter-append}
use Rattle.event_graph.specs.declared.event.Event.{Event}
use Rattle.event_graph.specs.Critical.{is_critical_of, last_critical}

last_or-more : {A : Type 0} (o : Option A) (xs : List A) (b : Bool) (x : A)
    → last_or o (xs ++ (if b then x ∷ [] else [])) ≡ (if b then Some x else last_or o xs)
last_or-more o [] true x = refl
last_or-more o [] false x = refl
last_or-more o (y ∷ ys) b x = last_or-more (Some y) ys b x

-- one event more
pub last_critical-more : (core : ℕ) (events : List Event) (i : ℕ) (d : Event) → i < length events
    → last_critical core (take (i + 1) events)
    ≡ (if is_critical_of core (get_or events i d) then Some (get_or events i d) else last_critical core (take i events))
last_critical-more core events i d below =
    ap (last_or None) (filter_more (is_critical_of core) events i d below)
    ∙ last_or-more None (filter (is_critical_of core) (take i events)) (is_critical_of core (get_or events i d)) (get_or events i d)

pub last_critical-push : (core : ℕ) (events : List Event) (e : Event)
    → last_critical core (events ++ e ∷ []) ≡ (if is_critical_of core e then Some e else last_critical core events)
last_critical-push core events e =
    ap (last_or None) (filter-append (is_critical_of core) events (e ∷ []))
    ∙ last_or-more None (filter (is_critical_of core) events) (is_critical_of core e) e
