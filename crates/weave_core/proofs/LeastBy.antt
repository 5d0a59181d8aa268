-- The least of the events that pass a test.
use Rattle.std.proofs.Common.{◌≡◌, ◌≤◌, ℕ, Bool, true, false, cond, List, [], ◌∷◌, Option, Some, None, sym, ◌∙◌, ap, subst, refl, inl, inr, arith}
use Rattle.std.proofs.lemmas.Bool.{false≢true}
use Rattle.std.proofs.lemmas.Bool.Decides.{nat_tests}
use Rattle.event_graph.specs.declared.event.Event.{Event}
use Rattle.event_graph.specs.OneListWeave.{earlier, is_event_before}
use Rattle.weave_core.specs.DomainMachine.{least_by}
use Rattle.weave_core.proofs.Lists.{In}

not_before_itself : (e : Event) (s : ℕ) → is_event_before e s e s ≡ false
not_before_itself e s = grind (arith, nat_tests)

not_after : (a : Event) (s : ℕ) (b : Event) (t : ℕ) → is_event_before a s b t ≡ true → is_event_before b t a s ≡ false
not_after a s b t h = grind (arith, nat_tests)

not_before_trans : (a : Event) (s : ℕ) (b : Event) (t : ℕ) (c : Event) (u : ℕ) → is_event_before a s b t ≡ false → is_event_before b t c u ≡ false → is_event_before a s c u ≡ false
not_before_trans a s b t c u h k = grind (arith, nat_tests)

pub start_upto : (a : Event) (s : ℕ) (b : Event) (t : ℕ) → is_event_before a s b t ≡ false → t ≤ s
start_upto a s b t h = grind (arith, nat_tests)

module _ (test : Event → Bool) (start : Event → ℕ) where
  pub record IsLeast (es : List Event) (b : Event × ℕ) : Type 0 where
    pub there : In b.0 es
    pub passes : test b.0 ≡ true
    pub start_is : b.1 ≡ start b.0
    pub least : (e : Event) → In e es → test e ≡ true → is_event_before e (start e) b.0 b.1 ≡ false

  -- none passes, or this is the least
  abbrev pub IsNextOf : List Event → Option (Event × ℕ) → Type 0
  IsNextOf es None = (e : Event) → In e es → test e ≡ false
  IsNextOf es (Some b) = IsLeast es b

  add : (e : Event) (es : List Event) (o : Option (Event × ℕ)) → test e ≡ true → IsNextOf es o → IsLeast (e ∷ es) (earlier (e, start e) o)
  add e es None t h = record {
    there = inl refl;
    passes = t;
    start_is = refl;
    least = λ f m p.
        elim m [
          | inl s ↦ subst (λ (z : Event). is_event_before z (start z) e (start e) ≡ false) s (not_before_itself e (start e))
          | inr n ↦ absurd (false≢true (sym (h f n) ∙ p))
        ];
  }
  add e es (Some b) t h = by_test (is_event_before b.0 b.1 e (start e)) refl
    where
      by_test : (u : Bool) → is_event_before b.0 b.1 e (start e) ≡ u → IsLeast (e ∷ es) (cond u b (e, start e))
      by_test true v = record {
        there = inr h.there;
        passes = h.passes;
        start_is = h.start_is;
        least = λ f m p.
            elim m [
              | inl s ↦ subst (λ (z : Event). is_event_before z (start z) b.0 b.1 ≡ false) s (not_after b.0 b.1 e (start e) v)
              | inr n ↦ h.least f n p
            ];
      }
      by_test false v = record {
        there = inl refl;
        passes = t;
        start_is = refl;
        least = λ f m p.
            elim m [
              | inl s ↦ subst (λ (z : Event). is_event_before z (start z) e (start e) ≡ false) s (not_before_itself e (start e))
              | inr n ↦ not_before_trans f (start f) b.0 b.1 e (start e) (h.least f n p) v
            ];
      }

  pub next_of : (es : List Event) → IsNextOf es (least_by test start es)
  next_of [] = λ e m. absurd m
  next_of (e ∷ es) = by_test (next_of es) (test e) refl
    where
      by_test : IsNextOf es (least_by test start es) → (t : Bool) → test e ≡ t
          → IsNextOf (e ∷ es) (cond t (Some (earlier (e, start e) (least_by test start es))) (least_by test start es))
      by_test h true v = add e es (least_by test start es) v h
      by_test h false v = skip (least_by test start es) h
        where
          skip : (o : Option (Event × ℕ)) → IsNextOf es o → IsNextOf (e ∷ es) o
          skip None g = λ f m. elim m [ inl s ↦ ap test (sym s) ∙ v | inr n ↦ g f n ]
          skip (Some b) g = record {
            there = inr g.there;
            passes = g.passes;
            start_is = g.start_is;
            least = λ f m p. elim m [ inl s ↦ absurd (false≢true (sym v ∙ (ap test s ∙ p))) | inr n ↦ g.least f n p ];
          }

  pub some_next : (es : List Event) (b : Event × ℕ) → least_by test start es ≡ Some b → IsLeast es b
  some_next es b h = subst (λ (o : Option (Event × ℕ)). IsNextOf es o) h (next_of es)

  -- one that passes is not before the least
  pub next_there : (es : List Event) (e : Event) → In e es → test e ≡ true → (b : Event × ℕ) × (least_by test start es ≡ Some b)
  next_there es e m p = by_option (least_by test start es) refl
    where
      by_option : (o : Option (Event × ℕ)) → least_by test start es ≡ o → (b : Event × ℕ) × (least_by test start es ≡ Some b)
      by_option None v = absurd (false≢true (sym (subst (λ (o : Option (Event × ℕ)). IsNextOf es o) v (next_of es) e m) ∙ p))
      by_option (Some b) v = (b, v)
