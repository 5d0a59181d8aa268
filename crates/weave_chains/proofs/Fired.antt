-- One event more has fired.
use Rattle.std.proofs.Common.{◌≡◌, ◌+◌, ◌==◌, ℕ, true, false, List, [], ◌∷◌, ◌++◌, max, Option, Some, None, is_some, sym, ◌∙◌, ap, refl, if◌then◌else◌}
use Rattle.std.proofs.lemmas.Bool.{cond-true, cond-false, cond_both, eq-eqb, ne_eqb, false≢true}
use Rattle.event_graph.specs.declared.event.Event.{Event}
use Rattle.event_graph.specs.declared.event.Parent.{Parent}
use Rattle.event_graph.specs.OneListWeave.{FiredEvent, after_parent, find_fired, finish_in, finish_or_zero, is_fired, start_of}
use Rattle.weave_chains.specs.Chains.{ended_of}

-- what is known of other events stays
pub find_other : (fired : List FiredEvent) (x : FiredEvent) (n : ℕ) → (x.event.number ≡ n → ⊥) → find_fired (fired ++ x ∷ []) n ≡ find_fired fired n
find_other [] x n other = cond-false (x.event.number == n) (Some x) None (ne_eqb x.event.number n other)
find_other (y ∷ fired) x n other =
    cond_both (y.event.number == n) (Some y) (find_fired fired n) (λ o. (if y.event.number == n then Some y else find_fired (fired ++ x ∷ []) n) ≡ o)
    (λ t. cond-true (y.event.number == n) (Some y) (find_fired (fired ++ x ∷ []) n) t)
    (λ f. cond-false (y.event.number == n) (Some y) (find_fired (fired ++ x ∷ []) n) f ∙ find_other fired x n other)

-- it is found itself, where it was not there
pub find_itself : (fired : List FiredEvent) (x : FiredEvent) → is_fired fired x.event.number ≡ false → find_fired (fired ++ x ∷ []) x.event.number ≡ Some x
find_itself [] x none = cond-true (x.event.number == x.event.number) (Some x) None (eq-eqb x.event.number x.event.number refl)
find_itself (y ∷ fired) x none =
    cond_both (y.event.number == x.event.number) (Some y) (find_fired fired x.event.number)
    (λ o. is_some o ≡ false → (if y.event.number == x.event.number then Some y else find_fired (fired ++ x ∷ []) x.event.number) ≡ Some x)
    (λ _ k. absurd (cc))
    (λ f k. cond-false (y.event.number == x.event.number) (Some y) (find_fired (fired ++ x ∷ []) x.event.number) f ∙ find_itself fired x k)
    none

module _ (fired : List FiredEvent) (x : FiredEvent) (unfired : is_fired fired x.event.number ≡ false) where
  abbrev pub after : List FiredEvent
  after = fired ++ x ∷ []

  pub fired_other : (n : ℕ) → (x.event.number ≡ n → ⊥) → is_fired after n ≡ is_fired fired n
  fired_other n other = ap is_some (find_other fired x n other)

  pub finish_other : (n : ℕ) → (x.event.number ≡ n → ⊥) → finish_in after n ≡ finish_in fired n
  finish_other n other = ap finish_or_zero (find_other fired x n other)

  pub fired_itself : is_fired after x.event.number ≡ true
  fired_itself = ap is_some (find_itself fired x unfired)

  pub finish_itself : finish_in after x.event.number ≡ x.finish
  finish_itself = ap finish_or_zero (find_itself fired x unfired)

  -- what had fired has fired
  pub fired_still : (n : ℕ) → is_fired fired n ≡ true → is_fired after n ≡ true
  fired_still n was = fired_other n (λ same. false≢true (sym unfired ∙ (ap (is_fired fired) same ∙ was))) ∙ was

  pub ended_other : (e : Event) → (x.event.number ≡ e.number → ⊥) → ended_of (finish_in fired) e ≡ ended_of (finish_in after) e
  ended_other e other = ap (λ n. record { finish = n; at_zero_load = e.min_finish }) (sym (finish_other e.number other))

  -- an event starts as before where it does not wait for this one
  parent_other : (o : Option Parent) → ((p : Parent) → o ≡ Some p → x.event.number ≡ p.number → ⊥) → after_parent (finish_in after) o ≡ after_parent (finish_in fired) o
  parent_other None other = refl
  parent_other (Some p) other = ap (λ n. n + p.delay) (finish_other p.number (other p refl))

  pub start_other : (e : Event) → ((p : Parent) → e.first ≡ Some p → x.event.number ≡ p.number → ⊥) → ((p : Parent) → e.second ≡ Some p → x.event.number ≡ p.number → ⊥)
      → start_of (finish_in after) e ≡ start_of (finish_in fired) e
  start_other e first second =
      ap (λ n. max e.min_start (max n (after_parent (finish_in after) e.second))) (parent_other e.first first)
      ∙ ap (λ n. max e.min_start (max (after_parent (finish_in fired) e.first) n)) (parent_other e.second second)
