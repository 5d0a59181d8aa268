-- What is kept of critical events, after one more.
use Rattle.std.proofs.Common.{◌≡◌, ◌<◌, ℕ, true, List, [], ◌∷◌, ◌++◌, length, length-set, get_or, set, Option, None, Some, ap, ◌∙◌, sym, arith, inl, inr, get_or-set_same, get_or-set_other}
use Rattle.std.specs.Option.{option_map}
use Rattle.std.proofs.lemmas.Bool.{cond-true, cond-false, eq-eqb, ne_eqb, and_from, and_right, cases_eq}
use Rattle.event_graph.specs.declared.builder.Critical.{Critical}
use Rattle.event_graph.specs.declared.event.Event.{Event}
use Rattle.event_graph.specs.Critical.{is_critical_of, last_critical}
use Rattle.event_graph.specs.NextEvent.{critical_of, HasLast}
use Rattle.event_graph.proofs.CriticalSteps.{last_critical-push}

pub kept_of_pushed : (last : List (Option Critical)) (events : List Event) (e : Event) → e.core < length last → HasLast last events → e.critical ≡ true
    → HasLast (set last e.core (Some (critical_of e))) (events ++ e ∷ [])
kept_of_pushed last events e there kept critical = record {
  at = λ core below.
      elim (cases_eq core e.core) [
        | inl same ↦
            ap (λ (k : ℕ). get_or (set last e.core (Some (critical_of e))) k None) same
            ∙ get_or-set_same last e.core (Some (critical_of e)) None there
            ∙ sym (ap (option_map critical_of)
            (last_critical-push core events e
            ∙ cond-true (is_critical_of core e) (Some e) (last_critical core events) (and_from _ _ critical (eq-eqb _ _ (sym same)))))
        | inr other ↦
            let within : core < length last = omega (arith, below, length-set last e.core (Some (critical_of e))) in
            get_or-set_other last e.core core (Some (critical_of e)) None other
            ∙ kept.at core within
            ∙ sym (ap (option_map critical_of)
            (last_critical-push core events e
            ∙ cond-false (is_critical_of core e) (Some e) (last_critical core events) (and_right _ _ (ne_eqb _ _ (λ h. other (sym h))))))
      ];
}
