-- The last critical event of each core is the same under other numbers.
use Rattle.std.proofs.Common.{◌≡◌, ◌+◌, ◌<◌, ◌≤◌, ◌==◌, ℕ, suc, Bool, true, false, ◌&&◌, List, [], ◌∷◌, Some, None, ◌⊎◌, inl, inr, sym, ◌∙◌, ap, subst, refl, arith, length, ◌-◌}
use Rattle.std.specs.List.{Contains, filter, last_or, slice_get}
use Rattle.std.specs.Option.{option_map}
use Rattle.std.proofs.lemmas.Bool.{cases_lt, cond_both, eqb-true}
use Rattle.event_graph.specs.declared.event.Event.{Event}
use Rattle.event_graph.specs.Critical.{is_critical_of, last_critical}
use Rattle.event_graph.specs.Numbered.{IsNumbered}
use Rattle.event_graph.specs.OrderByCore.{AreRenumberedByCore}
use Rattle.event_graph.specs.Renumbering.{renumbered}
use Rattle.event_graph.proofs.AllEvents.{critical_stands}
use Rattle.event_graph.proofs.Lists.{In, at_in, contains_in, get_within, from_filter, in_at, in_contains, in_filter}

-- the numbers rise
abbrev Rise : List Event → Type 0
Rise [] = Unit {0}
Rise (x ∷ xs) = ((y : Event) → In y xs → x.number < y.number) × Rise xs

rise_from : (xs : List Event) (first : ℕ) → ((i : ℕ) (x : Event) → slice_get xs i ≡ Some x → x.number ≡ first + i) → Rise xs
rise_from [] first h = tt
rise_from (x ∷ xs) first h = (
  λ y m. let at : (i : ℕ) × (slice_get xs i ≡ Some y) = in_at y xs m in omega (arith, h 0 x refl, h (suc at.0) y at.1),
  rise_from xs (first + 1) (λ i y at. omega (arith, h (suc i) y at)),
)

filter_rises : (p : Event → Bool) (xs : List Event) → Rise xs → Rise (filter p xs)
filter_rises p [] h = tt
filter_rises p (x ∷ xs) h =
    let rest : Rise (filter p xs) = filter_rises p xs h.1 in
    cond_both (p x) (x ∷ filter p xs) (filter p xs) (λ zs. Rise zs) (λ _. (λ y m. h.0 y (from_filter p y xs m).0, rest)) (λ _. rest)

in_last_from : (first : Event) (xs : List Event) (e : Event) → last_or (Some first) xs ≡ Some e → (first ≡ e) ⊎ In e xs
in_last_from first [] e is = inl (cc)
in_last_from first (x ∷ xs) e is = inr (in_last_from x xs e is)

pub in_last : (xs : List Event) (e : Event) → last_or None xs ≡ Some e → In e xs
in_last [] e is = absurd (cc)
in_last (x ∷ xs) e is = in_last_from x xs e is

-- the last is there, and has the greatest number
abbrev IsGreatest : List Event → Event → Type 0
IsGreatest xs e = In e xs × ((y : Event) → In y xs → y.number ≤ e.number)

last_is : (first : Event) (xs : List Event) → Rise (first ∷ xs) → (e : Event) × ((last_or (Some first) xs ≡ Some e) × IsGreatest (first ∷ xs) e)
last_is first [] h = (first, (refl, (inl refl, λ y m. elim m [ inl e ↦ omega (arith, ap (λ (z : Event). z.number) e) | inr n ↦ absurd n ])))
last_is first (x ∷ xs) h =
    let r : (e : Event) × ((last_or (Some x) xs ≡ Some e) × IsGreatest (x ∷ xs) e) = last_is x xs h.1 in (
      r.0,
      (
        r.1.0,
        (
          inr r.1.1.0,
          λ y m. elim m [
            | inl e ↦ omega (arith, ap (λ (z : Event). z.number) e, h.0 x (inl refl), r.1.1.1 x (inl refl))
            | inr n ↦ r.1.1.1 y n
          ],
        ),
      ),
    )

last_cases : (xs : List Event) → Rise xs → ((last_or None xs ≡ None) × ((y : Event) → In y xs → ⊥)) ⊎ ((e : Event) × ((last_or None xs ≡ Some e) × IsGreatest xs e))
last_cases [] h = inl (refl, λ y m. absurd m)
last_cases (x ∷ xs) h = inr (last_is x xs h)

right_of : (a b : Bool) → (a && b) ≡ true → b ≡ true
right_of true b h = h
right_of false b h = absurd (cc)

pub critical_core : (core : ℕ) (d : Event) → is_critical_of core d ≡ true → d.core ≡ core
critical_core core d is = eqb-true d.core core (right_of d.critical (d.core == core) is)

module _ (core : ℕ) (to : ℕ → ℕ) (events others : List Event) (numbered : IsNumbered events) (other_numbers : IsNumbered others) (re : AreRenumberedByCore to events others) where
  rise : (xs : List Event) → IsNumbered xs → Rise (filter (is_critical_of core) xs)
  rise xs numbers = filter_rises (is_critical_of core) xs (rise_from xs 0 (λ i x at. omega (arith, numbers.number i x at)))

  one : (d e : Event) → In d events → In e events → d.number ≡ e.number → d ≡ e
  one d e md me q =
      let a : (i : ℕ) × (slice_get events i ≡ Some d) = in_at d events md in
      let b : (i : ℕ) × (slice_get events i ≡ Some e) = in_at e events me in
      let same : a.0 ≡ b.0 = sym (numbered.number a.0 d a.1) ∙ (q ∙ numbered.number b.0 e b.1) in
      let k : slice_get events b.0 ≡ Some d = subst (λ i. slice_get events i ≡ Some d) same a.1 in
      let l : slice_get events b.0 ≡ Some e = b.1 in
      cc

  from_others : (z : Event) → In z (filter (is_critical_of core) others) → (d : Event) × (In d (filter (is_critical_of core) events) × (z ≡ renumbered to d))
  from_others z m =
      let r : In z others × (is_critical_of core z ≡ true) = from_filter (is_critical_of core) z others m in
      let d : (d : Event) × (Contains events d × (z ≡ renumbered to d)) = re.renumbered.no_other z (contains_in z others r.0) in
      (d.0, (in_filter (is_critical_of core) d.0 events (in_contains d.0 events d.1.0) (ap (is_critical_of core) (sym d.1.1) ∙ r.1), d.1.1))

  to_others : (d : Event) → In d (filter (is_critical_of core) events) → In (renumbered to d) (filter (is_critical_of core) others)
  to_others d m =
      let r : In d events × (is_critical_of core d ≡ true) = from_filter (is_critical_of core) d events m in
      in_filter (is_critical_of core) (renumbered to d) others (in_contains (renumbered to d) others (re.renumbered.there d (contains_in d events r.0))) r.1

  of_core : (d : Event) → In d (filter (is_critical_of core) events) → d.core ≡ core
  of_core d m = let r : In d events × (is_critical_of core d ≡ true) = from_filter (is_critical_of core) d events m in critical_core core d r.1

  pub last_same : last_critical core others ≡ option_map (renumbered to) (last_critical core events)
  last_same =
      elim (last_cases (filter (is_critical_of core) events) (rise events numbered)) [
        | inl none ↦ elim (last_cases (filter (is_critical_of core) others) (rise others other_numbers)) [
          | inl other ↦ other.0 ∙ ap (option_map (renumbered to)) (sym none.0)
          | inr some ↦ let d = from_others some.0 some.1.1.0 in absurd (none.1 d.0 d.1.0)
        ]
        | inr last ↦ elim (last_cases (filter (is_critical_of core) others) (rise others other_numbers)) [
          | inl other ↦ absurd (other.1 (renumbered to last.0) (to_others last.0 last.1.1.0))
          | inr some ↦
              let d : (d : Event) × (In d (filter (is_critical_of core) events) × (some.0 ≡ renumbered to d)) = from_others some.0 some.1.1.0 in
              let low : d.0.number ≤ last.0.number = last.1.1.1 d.0 d.1.0 in
              let high : to last.0.number ≤ some.0.number = some.1.1.1 (renumbered to last.0) (to_others last.0 last.1.1.0) in
              let here : some.0.number ≡ to d.0.number = ap (λ (z : Event). z.number) d.1.1 in
              let din : In d.0 events = (from_filter (is_critical_of core) d.0 events d.1.0).0 in
              let ein : In last.0 events = (from_filter (is_critical_of core) last.0 events last.1.1.0).0 in
              let same : d.0 ≡ last.0 =
              elim (cases_lt d.0.number last.0.number) [
                | inl less ↦
                    absurd (omega (
                      arith,
                      high,
                      here,
                      re.rises d.0 last.0 (contains_in d.0 events din) (contains_in last.0 events ein) (of_core d.0 d.1.0 ∙ sym (of_core last.0 last.1.1.0)) less,
                    ))
                | inr not ↦ one d.0 last.0 din ein (omega (arith, low, not))
              ]
              in
              some.1.0 ∙ (ap Some (d.1.1 ∙ ap (renumbered to) same) ∙ ap (option_map (renumbered to)) (sym last.1.0))
        ]
      ]

pub last_stands : (core : ℕ) (events : List Event) (e : Event) → IsNumbered events → last_critical core events ≡ Some e → slice_get events e.number ≡ Some e
last_stands core events e numbered is =
    let at : (n : ℕ) × (slice_get events n ≡ Some e) = critical_stands core events e is in
    subst (λ n. slice_get events n ≡ Some e) (sym (numbered.number at.0 e at.1)) at.1

-- an event at the end that is critical for its core is the core's last
pub last_at_end : (core : ℕ) (xs : List Event) → IsNumbered xs → (d : Event) → slice_get xs (length xs - 1) ≡ Some d → is_critical_of core d ≡ true → last_critical core xs ≡ Some d
last_at_end core xs numbers d at critical =
    let rises : Rise (filter (is_critical_of core) xs) = filter_rises (is_critical_of core) xs (rise_from xs 0 (λ i x is. omega (arith, numbers.number i x is))) in
    let there : In d (filter (is_critical_of core) xs) = in_filter (is_critical_of core) d xs (at_in d xs (length xs - 1) at) critical in
    elim (last_cases (filter (is_critical_of core) xs) rises) [
      | inl none ↦ absurd (none.1 d there)
      | inr some ↦
          let m : In some.0 xs = (from_filter (is_critical_of core) some.0 xs some.1.1.0).0 in
          let k : (i : ℕ) × (slice_get xs i ≡ Some some.0) = in_at some.0 xs m in
          let low : d.number ≤ some.0.number = some.1.1.1 d there in
          let number : d.number ≡ length xs - 1 = numbers.number (length xs - 1) d at in
          let one : k.0 ≡ length xs - 1 = omega (arith, get_within xs k.0 some.0 k.1, numbers.number k.0 some.0 k.1, low, number) in
          let same : slice_get xs (length xs - 1) ≡ Some some.0 = subst (λ i. slice_get xs i ≡ Some some.0) one k.1 in
          let is : some.0 ≡ d = cc in
          some.1.0 ∙ ap Some is
    ]
