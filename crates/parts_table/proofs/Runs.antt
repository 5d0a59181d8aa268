-- Accesses one after the other.
use Rattle.std.proofs.Common.{◌≡◌, ℕ, false, List, [], ◌∷◌, ◌++◌, All, refl, sym, ◌∙◌, inl, inr}
use Rattle.std.proofs.lemmas.Bool.{cases_Bool}
use Rattle.std.proofs.lemmas.List.Elements.{All-head, All-tail}
use Rattle.parts_table.specs.declared.view.Hold.{Hold}
use Rattle.parts_table.specs.declared.view.Made.{Made}
use Rattle.parts_table.specs.MachineLaws.{MachineLaws}
use Rattle.parts_table.specs.Rule.{Holds}
use Rattle.parts_table.specs.Steps.{AreInside}
use Rattle.parts_table.specs.World.{AreRight, MayAsk, World, after, lived, touches}
use Rattle.parts_table.proofs.Locality.{IsAllowed, IsFine, other_after, same_access, touched_after}
use Rattle.parts_table.proofs.Stays.{stays_fine}

-- the cores of these accesses may ask them
abbrev pub MayAll : (cores banks : ℕ) → World → List Made → Type 0
MayAll cores banks first list = All (λ a. MayAsk cores banks first a.entry.core a.entry.request) list

module _ (cores banks : ℕ) where
  pub lived_append : (w : World) (xs ys : List Made) → lived cores banks w (xs ++ ys) ≡ lived cores banks (lived cores banks w xs) ys
  lived_append w [] ys = refl
  lived_append w (a ∷ xs) ys = lived_append (after cores banks w a) xs ys

  pub right_append : (w : World) (xs ys : List Made) → AreRight cores banks w xs → AreRight cores banks (lived cores banks w xs) ys → AreRight cores banks w (xs ++ ys)
  right_append w [] ys one two = two
  right_append w (a ∷ xs) ys one two = (one.0, right_append (after cores banks w a) xs ys one.1 two)

  pub stays_fine_all : MachineLaws → (first w : World) (list : List Made) → IsFine cores banks first w → AreRight cores banks w list → MayAll cores banks first list
      → IsFine cores banks first (lived cores banks w list)
  stays_fine_all laws first w [] fine right may = fine
  stays_fine_all laws first w (a ∷ list) fine right may =
      let P : Made → Type 0 = λ a. MayAsk cores banks first a.entry.core a.entry.request in
      let allowed : IsAllowed cores banks first w a = record { right = right.0; asked = All-head P a list may } in
      stays_fine_all laws first (after cores banks w a) list (stays_fine cores banks laws first w a fine allowed) right.1 (All-tail P a list may)

  -- the accesses of one world in another, that is alike in what is held
  pub record IsSameRun (w v : World) (list : List Made) (holds : List Hold) : Type 0 where
    pub right : AreRight cores banks v list
    pub held : (k : ℕ) → Holds k holds → lived cores banks v list k ≡ lived cores banks w list k
    pub others : (k : ℕ) → (Holds k holds → ⊥) → lived cores banks v list k ≡ v k

  pub same_run : MachineLaws → (first w v : World) (list : List Made) (holds : List Hold) → IsFine cores banks first w → IsFine cores banks first v
      → ((k : ℕ) → Holds k holds → v k ≡ w k) → AreRight cores banks w list → MayAll cores banks first list → AreInside cores banks w list holds
      → IsSameRun w v list holds
  same_run laws first w v [] holds fine too agree right may inside = record { right = tt; held = agree; others = λ k other. refl }
  same_run laws first w v (a ∷ list) holds fine too agree right may inside =
      let P : Made → Type 0 = λ a. MayAsk cores banks first a.entry.core a.entry.request in
      let ask = All-head P a list may in
      let may_w = fine.asked a.entry.core a.entry.request ask in
      let may_v = too.asked a.entry.core a.entry.request ask in
      let same = same_access cores banks laws w v a fine.sound too.sound right.0 may_w may_v (λ k is. agree k (inside.0 k is)) in
      let w1 : World = after cores banks w a in
      let v1 : World = after cores banks v a in
      let not_touched : (k : ℕ) → touches cores banks w a k ≡ false → v1 k ≡ v k = λ k is. other_after cores banks v a k (same.touched k ∙ is) in
      let agree1 : (k : ℕ) → Holds k holds → v1 k ≡ w1 k = λ k held. elim (cases_Bool (touches cores banks w a k)) as (λ _. v1 k ≡ w1 k) [
        | inl is ↦ touched_after cores banks v a k (same.touched k ∙ is) ∙ (same.moved_same k is ∙ sym (touched_after cores banks w a k is))
        | inr is ↦ not_touched k is ∙ (agree k held ∙ sym (other_after cores banks w a k is))
      ] in
      let later = same_run laws first w1 v1 list holds
      (stays_fine cores banks laws first w a fine (record { right = right.0; asked = ask }))
      (stays_fine cores banks laws first v a too (record { right = same.right; asked = ask }))
      agree1 right.1 (All-tail P a list may) inside.1 in
      record {
        right = (same.right, later.right);
        held = later.held;
        others = λ k other. later.others k other ∙ (elim (cases_Bool (touches cores banks w a k)) as (λ _. v1 k ≡ v k) [
          | inl is ↦ absurd (other (inside.0 k is))
          | inr is ↦ not_touched k is
        ]);
      }
