-- Whether numbers stand for an event, by the tests that the reader makes.
use Rattle.std.proofs.Common.{◌≡◌, ℕ, Bool, true, false, if◌then◌else◌, List, Option, Some, None, refl, ◌∙◌}
use Rattle.std.specs.Prelude.{is_some, slice_get}
use Rattle.std.specs.Option.{option_and_then, option_map_or}
use Rattle.component.specs.declared.kind.Kind.{Kind}
use Rattle.component.specs.declared.comp.Comp.{Comp}
use Rattle.component.specs.Serving.{comp_latency, comp_serves}
use Rattle.certify.specs.declared.numbers.Numbers.{Numbers}
use Rattle.certify.specs.EventsFile.{event_in, event_of, has_meaning, kind_in, served_in}

served_is : (o : Option Comp) (place : ℕ) (n : Numbers) (kind : Kind)
    → option_map_or (λ c. comp_serves c kind) o false ≡ is_some (option_and_then (λ c. if comp_serves c kind then Some (event_in place n kind (comp_latency c kind)) else None) o)
served_is None place n kind = refl
served_is (Some c) place n kind = elim (comp_serves c kind) as (λ t. t ≡ is_some (if t then Some (event_in place n kind (comp_latency c kind)) else None)) [ true ↦ refl | false ↦ refl ]

-- its kind is known and its numbers have a meaning
pub event_served : (comps : List Comp) (place : ℕ) (n : Numbers) (kind : Kind) (served : Bool) → Some kind ≡ kind_in n → true ≡ has_meaning place n
    → served ≡ option_map_or (λ c. comp_serves c kind) (slice_get comps n.component) false → served ≡ is_some (event_of comps place n)
unfolding event_of
event_served comps place n kind served known meant is = rw (← meant, ← known) (is ∙ served_is (slice_get comps n.component) place n kind)

pub event_meant : (comps : List Comp) (place : ℕ) (n : Numbers) → false ≡ has_meaning place n → false ≡ is_some (event_of comps place n)
unfolding event_of
event_meant comps place n not = rw (← not) refl

pub event_known : (comps : List Comp) (place : ℕ) (n : Numbers) → None ≡ kind_in n → false ≡ is_some (event_of comps place n)
unfolding event_of
event_known comps place n none = rw (← none) (elim (has_meaning place n) as (λ t. false ≡ is_some (if t then option_and_then (served_in comps place n) None else None)) [ true ↦ refl | false ↦ refl ])
