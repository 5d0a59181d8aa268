-- The stubs of the crossings up to one.
use Rattle.std.proofs.Common.{◌≡◌, ◌+◌, ◌<◌, ℕ, Bool, true, false, not, ◌&&◌, cond, eqb, List, [], ◌∷◌, ◌++◌, length, set, ◌⊎◌, Some, slice_get, sym, ◌∙◌, ap, subst, refl, inl, inr, arith, length-set}
use Rattle.std.proofs.lemmas.Bool.{cases_eq, cases_lt}
use Rattle.std.proofs.lemmas.List.{length_push}
use Rattle.std.proofs.lemmas.Option.{same_Some}
use Rattle.event_graph.specs.declared.event.Event.{Event}
use Rattle.domain_map.specs.declared.crossing.Crossing.{Crossing}
use Rattle.weave_core.specs.declared.incoming.Stub.{Stub}
use Rattle.weave_core.specs.Beginning.{AddsWaits, AreStubsUpto, IsMadeOf}
use Rattle.weave_core.specs.DomainMachine.{is_exact}
use Rattle.weave_core.specs.Layout.{unknown_into}
use Rattle.weave_core.proofs.Lists.{get_below, last_at}
use Rattle.weave_core.proofs.OwnPlaces.{get_push}
use Rattle.weave_core.proofs.Updates.{get_set_other, get_set_same}
use Rattle.weave_core.proofs.Words.{apart_eq, is_eq}

-- an element of a longer list is the new one or an old one
pub pushed_at : {X : Type 0} (xs : List X) (y x : X) (i : ℕ) → slice_get (xs ++ y ∷ []) i ≡ Some x → ((i < length xs) × (slice_get xs i ≡ Some x)) ⊎ ((i ≡ length xs) × (y ≡ x))
pushed_at xs y x i h =
    elim (cases_lt i (length xs)) [
      | inl l ↦ inl (l, sym (get_push xs y i l) ∙ h)
      | inr m ↦
          let same : i ≡ length xs = omega (arith, m, get_below (xs ++ y ∷ []) i x h, length_push xs y) in
          inr (same, same_Some y x (sym (last_at xs y) ∙ (ap (slice_get (xs ++ y ∷ [])) (sym same) ∙ h)))
    ]

module _ (events here : List Event) (crossings : List Crossing) (domain : ℕ) (stubs : List Stub) (upto : ℕ) (are : AreStubsUpto events here crossings domain stubs upto) (x : Crossing)
    (there : slice_get crossings upto ≡ Some x) where
  pub stubs_skip : (x.target ≡ domain → ⊥) → AreStubsUpto events here crossings domain stubs (upto + 1)
  stubs_skip apart = record {
    few = omega (arith, are.few);
    each = λ place s h. let r = are.each place s h in (omega (arith, r.0), r.1);
    covers = λ number y below h target.
        elim (cases_lt number upto) [
          | inl l ↦ are.covers number y l h target
          | inr m ↦
              let same : number ≡ upto = omega (arith, m, below) in
              let is : x ≡ y = same_Some x y (sym there ∙ (ap (slice_get crossings) (sym same) ∙ h)) in
              absurd (apart (ap (λ (z : Crossing). z.target) is ∙ target))
        ];
    rising = are.rising;
  }

  pub stubs_next : (s : Stub) → x.target ≡ domain → IsMadeOf events here upto x s → AreStubsUpto events here crossings domain (stubs ++ s ∷ []) (upto + 1)
  stubs_next s target made = record {
    few = omega (arith, are.few, length_push stubs s);
    each = λ place t h.
        elim (pushed_at stubs s t place h) [
          | inl old ↦ let r = are.each place t old.1 in (omega (arith, r.0), r.1)
          | inr new ↦
              subst (λ (z : Stub). (z.number < upto + 1) × ((y : Crossing) × ((slice_get crossings z.number ≡ Some y) × ((y.target ≡ domain) × IsMadeOf events here z.number y z)))) new.1
              (omega (arith, made.number_is), (x, (ap (slice_get crossings) made.number_is ∙ there, (target, subst (λ (n : ℕ). IsMadeOf events here n x s) (sym made.number_is) made))))
        ];
    covers = λ number y below h goal_target.
        elim (cases_lt number upto) [
          | inl l ↦
              let c = are.covers number y l h goal_target in
              (c.0, (c.1.0, (get_push stubs s c.0 (get_below stubs c.0 c.1.0 c.1.1.0) ∙ c.1.1.0, c.1.1.1)))
          | inr m ↦ (length stubs, (s, (last_at stubs s, omega (arith, m, below, made.number_is))))
        ];
    rising = λ i j t v l a b.
        elim (pushed_at stubs s v j b) [
          | inl old ↦
              elim (pushed_at stubs s t i a) [
                | inl old_t ↦ are.rising i j t v l old_t.1 old.1
                | inr new_t ↦ absurd (omega (arith, l, old.0, new_t.0))
              ]
          | inr new ↦
              elim (pushed_at stubs s t i a) [
                | inl old_t ↦
                    let low : t.number < upto = (are.each i t old_t.1).0 in
                    let high : s.number ≡ v.number = ap (λ (z : Stub). z.number) new.1 in
                    omega (arith, low, high, made.number_is)
                | inr new_t ↦ absurd (omega (arith, l, new.0, new_t.0))
              ]
        ];
  }

-- what the events wait for

unknown_push : (child : ℕ) (stubs : List Stub) (s : Stub) → unknown_into child (stubs ++ s ∷ []) ≡ unknown_into child stubs + cond {A = ℕ} (eqb s.child child && not (is_exact s.word)) 1 0
unknown_push child [] s = omega arith
unknown_push child (t ∷ stubs) s = omega (arith, unknown_push child stubs s)

unknown_one : (child : ℕ) (s : Stub) → is_exact s.word ≡ false → s.child ≡ child → cond {A = ℕ} (eqb s.child child && not (is_exact s.word)) 1 0 ≡ 1
unknown_one child s u e =
    ap (λ (t : Bool). cond {A = ℕ} (t && not (is_exact s.word)) 1 0) (is_eq s.child child e) ∙ ap (λ (t : Bool). cond {A = ℕ} (true && not t) 1 0) u

unknown_other : (child : ℕ) (s : Stub) → (s.child ≡ child → ⊥) → cond {A = ℕ} (eqb s.child child && not (is_exact s.word)) 1 0 ≡ 0
unknown_other child s e = ap (λ (t : Bool). cond {A = ℕ} (t && not (is_exact s.word)) 1 0) (apart_eq s.child child e)

pub adds_none : (waits : List ℕ) → AddsWaits waits waits []
adds_none waits = record { size = refl; each = λ place wait h. let same : wait ≡ wait + 0 = omega arith in h ∙ ap (λ n. Some n) same }

pub adds_next : (first waits : List ℕ) (stubs : List Stub) (s : Stub) (was : ℕ) → AddsWaits first waits stubs → slice_get waits s.child ≡ Some was → is_exact s.word ≡ false
    → AddsWaits first (set waits s.child (was + 1)) (stubs ++ s ∷ [])
adds_next first waits stubs s was adds there unknown = record {
  size = length-set waits s.child (was + 1) ∙ adds.size;
  each = λ place wait h.
      elim (cases_eq place s.child) [
        | inl same ↦
            let before : wait + unknown_into place stubs ≡ was = same_Some (wait + unknown_into place stubs) was (sym (adds.each place wait h) ∙ (ap (slice_get waits) same ∙ there)) in
            let now : was + 1 ≡ wait + unknown_into place (stubs ++ s ∷ []) = omega (arith, before, unknown_push place stubs s, unknown_one place s unknown (sym same)) in
            ap (slice_get (set waits s.child (was + 1))) same ∙ (get_set_same waits s.child (was + 1) was there ∙ ap (λ n. Some n) now)
        | inr apart ↦
            let now : wait + unknown_into place stubs ≡ wait + unknown_into place (stubs ++ s ∷ []) = omega (arith, unknown_push place stubs s, unknown_other place s (λ e. apart (sym e))) in
            get_set_other waits s.child place (was + 1) apart ∙ (adds.each place wait h ∙ ap (λ n. Some n) now)
      ];
}
