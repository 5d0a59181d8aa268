-- Each event of an interval finds an access for which it waits.
use Rattle.std.proofs.Common.{◌≡◌, ℕ, ◌+◌, ◌≤◌, ◌==◌, Bool, true, false, cond, if◌then◌else◌, List, [], ◌∷◌, map, sum_by, count_by, Option, Some, refl, ◌∙◌, ap, inl, inr, arith}
use Rattle.std.proofs.lemmas.Bool.{cases_Bool, eqb-true}
use Rattle.std.proofs.lemmas.List.Sums.{sum_by-append, sum_by-cons}
use Rattle.event_graph.specs.declared.event.Event.{Event}
use Rattle.event_graph.specs.declared.fired.Fired.{Fired}
use Rattle.event_graph.specs.Critical.{is_critical_of}
use Rattle.stats.specs.Counted.{one_if}
use Rattle.profile.specs.declared.contribution.Maker.{Maker}
use Rattle.profile.specs.Waits.{Wait, event_waits, first_of, wait_for, without_first}
use Rattle.profile.proofs.CriticalEvents.{AllLeadToEnds, criticals}

-- how many of these accesses are a core's
abbrev pub makers_by : (core : ℕ) → List Maker → ℕ
makers_by core makers = count_by (λ m. m.core == core) makers

maker-cons : (core : ℕ) (m : Maker) (makers : List Maker) → makers_by core (m ∷ makers) ≡ one_if (m.core == core) + makers_by core makers
maker-cons core m makers = sum_by-cons (λ (x : Maker). cond (x.core == core) 1 0) m makers

behind : (b : Bool) (m x : Maker) (o : Option Maker) → b ≡ false → o ≡ Some x → cond b (Some m) o ≡ Some x
behind true m x o other rest = cc
behind false m x o other rest = rest

first_found : (core : ℕ) (makers : List Maker) → 1 ≤ makers_by core makers → (m : Maker) × (first_of core makers ≡ Some m)
first_found core [] some = absurd (omega (arith, some))
first_found core (m ∷ makers) some =
    elim (cases_Bool (m.core == core)) as (λ _. (x : Maker) × (first_of core (m ∷ makers) ≡ Some x)) [
      | inl own ↦ (m, rw own refl)
      | inr other ↦
          let rest = first_found core makers (omega (arith, some, maker-cons core m makers, ap one_if other)) in
          (rest.0, behind (m.core == core) m rest.0 (first_of core makers) other rest.1)
    ]

one_less : (core other : ℕ) (makers : List Maker) → 1 ≤ makers_by core makers → makers_by other (without_first core makers) + one_if (core == other) ≡ makers_by other makers
one_less core other [] some = absurd (omega (arith, some))
one_less core other (m ∷ makers) some =
    elim (cases_Bool (m.core == core)) as (λ _. makers_by other (without_first core (m ∷ makers)) + one_if (core == other) ≡ makers_by other (m ∷ makers)) [
      | inl own ↦
          let same : m.core ≡ core = eqb-true m.core core own in
          rw own (omega (arith, maker-cons other m makers, ap (λ (n : ℕ). one_if (n == other)) same))
      | inr not ↦
          rw not (omega (
            arith,
            maker-cons other m makers,
            maker-cons other m (without_first core makers),
            one_less core other makers (omega (arith, some, maker-cons core m makers, ap one_if not)),
          ))
    ]

-- `of_wait` is a measure of a wait, by its event alone.
module _ (of_wait : Wait → ℕ) (of_event : Event × Fired → ℕ) (is : (m : Maker) (e : Event) (f : Fired) → sum_by of_wait (wait_for (Some m) e f) ≡ of_event (e, f)) where
  pub waits_found : (makers : List Maker) (events : List (Event × Fired)) → ((core : ℕ) → makers_by core makers ≡ criticals core (map (λ x. x.0) events)) → AllLeadToEnds (map (λ x. x.0) events)
      → sum_by of_wait (event_waits makers events) ≡ sum_by of_event events
  waits_found makers [] counts ends = refl
  waits_found makers ((e, f) ∷ events) counts ends =
      let rest : List Event = map (λ x. x.0) events in
      let more : 1 ≤ makers_by e.core makers = omega (arith, counts e.core, ends.0) in
      let m = first_found e.core makers more in
      let own : sum_by of_wait (wait_for (first_of e.core makers) e f) ≡ of_event (e, f) = ap (λ (o : Option Maker). sum_by of_wait (wait_for o e f)) m.1 ∙ is m.0 e f in
      let left : List Maker = if e.critical then without_first e.core makers else makers in
      let first : (core : ℕ) → criticals core (e ∷ rest) ≡ one_if (is_critical_of core e) + criticals core rest =
      λ core. sum_by-cons (λ (x : Event). cond (is_critical_of core x) 1 0) e rest
      in
      let counts_left : (core : ℕ) → makers_by core left ≡ criticals core rest = λ core.
      elim (cases_Bool e.critical) as (λ _. makers_by core left ≡ criticals core rest) [
        | inl critical ↦
            let here : one_if (is_critical_of core e) ≡ one_if (e.core == core) = rw critical refl in
            rw critical (omega (arith, one_less e.core core makers more, counts core, first core, here))
        | inr not ↦
            let here : one_if (is_critical_of core e) ≡ 0 = rw not refl in
            rw not (omega (arith, counts core, first core, here))
      ]
      in
      omega (
        arith,
        sum_by-append of_wait (wait_for (first_of e.core makers) e f) (event_waits left events),
        own,
        waits_found left events counts_left ends.1,
        sum_by-cons of_event (e, f) events,
      )
