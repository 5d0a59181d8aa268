-- One event more: whose delay it changes, and to what.
use Rattle.std.proofs.Common.{◌≡◌, ◌+◌, ◌-◌, ◌<◌, ℕ, true, false, List, length, take, get_or, set, Option, Some, if◌then◌else◌, ap, ◌∙◌, sym, arith, inl, inr, get_or-set_same, get_or-set_other}
use Rattle.std.specs.Option.{option_map_or}
use Rattle.std.proofs.lemmas.Bool.{cond-true, cond-false, eq-eqb, ne_eqb, and_from, and_left, and_right, cases_eq}
use Rattle.std.proofs.lemmas.Option.{slice_get-get_or}
use Rattle.event_graph.specs.declared.event.Event.{Event}
use Rattle.event_graph.specs.declared.fired.Fired.{Fired}
use Rattle.event_graph.specs.Numbered.{IsNumbered}
use Rattle.event_graph.specs.Critical.{is_critical_of, last_critical}
use Rattle.feedback.specs.FeedbackDelay.{delay_of, fired_finish}

-- the delay, where this is the last critical event
abbrev delay_after : List Fired → Option Event → ℕ
delay_after fired last = option_map_or (λ e. fired_finish fired e.number - e.min_finish) last 0

-- the law of a core's last critical event
abbrev MovesOn : Type 0
MovesOn = (core : ℕ) (events : List Event) (i : ℕ) (e : Event) → i < length events → last_critical core (take (i + 1) events) ≡ (if is_critical_of core (get_or events i e) then Some (get_or events i e) else last_critical core (take i events))

module _ (law : MovesOn) (events : List Event) (fired : List Fired) (i : ℕ) (d : Event) (below : i < length events) where
  -- an event that isn't a critical event of this core
  kept : (core : ℕ) → is_critical_of core (get_or events i d) ≡ false
      → delay_of (take (i + 1) events) fired core ≡ delay_of (take i events) fired core
  kept core off = ap (delay_after fired) (law core events i d below ∙ cond-false _ _ _ off)

  pub kept_by_all : (get_or events i d).critical ≡ false → (core : ℕ)
      → delay_of (take (i + 1) events) fired core ≡ delay_of (take i events) fired core
  kept_by_all off core = kept core (and_left _ _ off)

  -- its finish becomes its core's
  moved : (core : ℕ) (fd : Fired) → IsNumbered events → i < length fired
      → is_critical_of core (get_or events i d) ≡ true
      → delay_of (take (i + 1) events) fired core ≡ (get_or fired i fd).finish - (get_or events i d).min_finish
  moved core fd numbered there hit =
      let e : Event = get_or events i d in
      let number : e.number ≡ i = numbered.number i e (slice_get-get_or events i d below) in
      ap (delay_after fired) (law core events i d below ∙ cond-true _ _ _ hit)
      ∙ ap (λ (n : ℕ). fired_finish fired n - e.min_finish) number
      ∙ ap (λ (f : Option Fired). option_map_or (λ g. g.finish) f 0 - e.min_finish) (slice_get-get_or fired i fd there)

  -- all cores after a critical event
  pub written : (list : List ℕ) (cores : ℕ) (fd : Fired) → IsNumbered events → i < length fired → length list ≡ cores
      → (get_or events i d).critical ≡ true
      → ((core : ℕ) → core < cores → get_or list core 0 ≡ delay_of (take i events) fired core)
      → (core : ℕ) → core < cores
      → get_or (set list (get_or events i d).core ((get_or fired i fd).finish - (get_or events i d).min_finish)) core 0
      ≡ delay_of (take (i + 1) events) fired core
  written list cores fd numbered there long critical before core in_cores =
      let e : Event = get_or events i d in
      let fresh : ℕ = (get_or fired i fd).finish - e.min_finish in
      elim (cases_eq core e.core) [
        | inl same ↦
            let lt : e.core < length list = omega (arith, same) in
            ap (λ (k : ℕ). get_or (set list e.core fresh) k 0) same
            ∙ get_or-set_same list e.core fresh 0 lt
            ∙ sym (moved core fd numbered there (and_from _ _ critical (eq-eqb _ _ (sym same))))
        | inr other ↦
            get_or-set_other list e.core core fresh 0 other
            ∙ before core in_cores
            ∙ sym (kept core (and_right _ _ (ne_eqb _ _ (λ h. other (sym h)))))
      ]
