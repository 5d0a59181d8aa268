-- A component that serves one event after the other.
use Rattle.std.proofs.Common.{◌≡◌, ◌+◌, ◌<◌, ◌≤◌, ℕ, Bool, List, [], ◌∷◌, ◌++◌, inl, inr, sym, ◌∙◌, subst, refl, arith}
use Rattle.std.specs.Prelude.{IsTrue}
use Rattle.component.specs.declared.kind.Kind.{Kind}
use Rattle.event_graph.specs.OneListWeave.{FiredEvent}
use Rattle.event_graph.specs.ServedEvents.{after_serving}
use Rattle.event_graph.specs.TimingSolution.{ServesInTurn}
use Rattle.event_graph.proofs.Lists.{In}

module _ {C : Type 0} (stepped : C → Kind → ℕ → C × ℕ) where
  pub after_serving-push : (c : C) (xs : List FiredEvent) (y : FiredEvent) → after_serving stepped c (xs ++ y ∷ []) ≡ (stepped (after_serving stepped c xs) y.event.kind y.start).0
  after_serving-push c [] y = refl
  after_serving-push c (x ∷ xs) y = after_serving-push (stepped c x.event.kind x.start).0 xs y

  pub turns_push : (c : C) (xs : List FiredEvent) (y : FiredEvent) → ServesInTurn stepped c xs → y.finish ≡ (stepped (after_serving stepped c xs) y.event.kind y.start).1 → ServesInTurn stepped c (xs ++ y ∷ [])
  turns_push c [] y h e = (e, tt)
  turns_push c (x ∷ xs) y h e = (h.0, turns_push (stepped c x.event.kind x.start).0 xs y h.1 e)

  -- the finish of one among others
  pub turns_at : (c : C) (xs : List FiredEvent) (y : FiredEvent) (ys : List FiredEvent) → ServesInTurn stepped c (xs ++ y ∷ ys) → y.finish ≡ (stepped (after_serving stepped c xs) y.event.kind y.start).1
  turns_at c [] y ys h = h.0
  turns_at c (x ∷ xs) y ys h = turns_at (stepped c x.event.kind x.start).0 xs y ys h.1

  -- each finish is later than its start
  pub turns_grow : (serves : C → Kind → Bool)
      → ((c : C) (kind : Kind) (start : ℕ) (other : Kind) → IsTrue (serves c kind) → serves (stepped c kind start).0 other ≡ serves c other)
      → ((c : C) (kind : Kind) (start : ℕ) → IsTrue (serves c kind) → start < (stepped c kind start).1)
      → (c : C) (xs : List FiredEvent) → ((x : FiredEvent) → In x xs → IsTrue (serves c x.event.kind)) → ServesInTurn stepped c xs → (x : FiredEvent) → In x xs → x.start < x.finish
  turns_grow serves stays grows c [] each h x m = absurd m
  turns_grow serves stays grows c (y ∷ ys) each h x m =
      elim m [
        | inl same ↦
            let P : FiredEvent → Type 0 = λ z. z.start < z.finish in
            subst P same (let g : y.start < (stepped c y.event.kind y.start).1 = grows c y.event.kind y.start (each y (inl refl)) in omega (arith, g, h.0))
        | inr rest ↦
            turns_grow serves stays grows (stepped c y.event.kind y.start).0 ys
            (λ z k. subst IsTrue (sym (stays c y.event.kind y.start z.event.kind (each y (inl refl)))) (each z (inr k)))
            h.1 x rest
      ]

  -- each finish is later than its start by the floor that the component had at first
  pub turns_take : (serves : C → Kind → Bool) (floor : C → Kind → ℕ)
      → ((c : C) (kind : Kind) (start : ℕ) (other : Kind) → IsTrue (serves c kind) → serves (stepped c kind start).0 other ≡ serves c other)
      → ((c : C) (kind : Kind) (start : ℕ) (other : Kind) → IsTrue (serves c kind) → floor (stepped c kind start).0 other ≡ floor c other)
      → ((c : C) (kind : Kind) (start : ℕ) → IsTrue (serves c kind) → start + floor c kind ≤ (stepped c kind start).1)
      → (c : C) (xs : List FiredEvent) → ((x : FiredEvent) → In x xs → IsTrue (serves c x.event.kind)) → ServesInTurn stepped c xs → (x : FiredEvent) → In x xs → x.start + floor c x.event.kind ≤ x.finish
  turns_take serves floor stays floor_stays holds c [] each h x m = absurd m
  turns_take serves floor stays floor_stays holds c (y ∷ ys) each h x m =
      elim m [
        | inl same ↦
            let P : FiredEvent → Type 0 = λ z. z.start + floor c z.event.kind ≤ z.finish in
            subst P same (let g : y.start + floor c y.event.kind ≤ (stepped c y.event.kind y.start).1 = holds c y.event.kind y.start (each y (inl refl)) in omega (arith, g, h.0))
        | inr rest ↦
            let later : x.start + floor (stepped c y.event.kind y.start).0 x.event.kind ≤ x.finish =
            turns_take serves floor stays floor_stays holds (stepped c y.event.kind y.start).0 ys
            (λ z k. subst IsTrue (sym (stays c y.event.kind y.start z.event.kind (each y (inl refl)))) (each z (inr k)))
            h.1 x rest
            in
            omega (arith, later, floor_stays c y.event.kind y.start x.event.kind (each y (inl refl)))
      ]

  -- a component serves what it did, with the same floors
  pub serving_keeps : (serves : C → Kind → Bool) (floor : C → Kind → ℕ)
      → ((c : C) (kind : Kind) (start : ℕ) (other : Kind) → IsTrue (serves c kind) → serves (stepped c kind start).0 other ≡ serves c other)
      → ((c : C) (kind : Kind) (start : ℕ) (other : Kind) → IsTrue (serves c kind) → floor (stepped c kind start).0 other ≡ floor c other)
      → (c : C) (xs : List FiredEvent) → ((x : FiredEvent) → In x xs → IsTrue (serves c x.event.kind))
      → ((kind : Kind) → serves (after_serving stepped c xs) kind ≡ serves c kind) × ((kind : Kind) → floor (after_serving stepped c xs) kind ≡ floor c kind)
  serving_keeps serves floor stays floor_stays c [] each = (λ kind. refl, λ kind. refl)
  serving_keeps serves floor stays floor_stays c (y ∷ ys) each =
      let now : IsTrue (serves c y.event.kind) = each y (inl refl) in
      let rest = serving_keeps serves floor stays floor_stays (stepped c y.event.kind y.start).0 ys (λ z k. subst IsTrue (sym (stays c y.event.kind y.start z.event.kind now)) (each z (inr k))) in
      (λ kind. rest.0 kind ∙ stays c y.event.kind y.start kind now, λ kind. rest.1 kind ∙ floor_stays c y.event.kind y.start kind now)
