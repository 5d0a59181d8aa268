-- The seats of a table after a step of one of them.
use Rattle.std.proofs.Common.{◌≡◌, ℕ, zero, suc, ◌<◌, ◌≢◌, ◌⊎◌, List, [], ◌∷◌, ◌++◌, length, All, refl, sym, ◌∙◌, ap, subst, arith, inl, inr}
use Rattle.std.specs.Prelude.{slice_get, slice_set, Some}
use mathlib.Core.Option.{some, some-ne-none}
use lib.ListN.{get_elem?}
use Rattle.atomic_table.proofs.Lists.{at_set, set_else, set_here}
use Rattle.parts_table.specs.declared.view.Made.{Made}
use Rattle.parts_table.specs.declared.view.View.{View}
use Rattle.parts_table.specs.declared.view.CoreAccesses.{CoreAccesses}
use Rattle.parts_table.specs.Rule.{HaveOwnCores, AreBelowMade, Has}

-- ---- the cores of a seat

pub has_one : (core : ℕ) (log : CoreAccesses) → Has core (log ∷ []) → log.core ≡ core
has_one core log (inl is) = is
has_one core log (inr none) = absurd none

pub has_its : (core : ℕ) (logs : List CoreAccesses) (log : CoreAccesses) → logs ≡ log ∷ [] → Has core logs → log.core ≡ core
has_its core logs log is has = has_one core log (subst (Has core) is has)

pub its_own : (logs : List CoreAccesses) (log : CoreAccesses) → logs ≡ log ∷ [] → Has log.core logs
its_own logs log is = subst (Has log.core) (sym is) (inl refl)

pub has_left : (core : ℕ) (logs others : List CoreAccesses) → Has core logs → Has core (logs ++ others)
has_left core [] others has = absurd has
has_left core (log ∷ logs) others (inl is) = inl is
has_left core (log ∷ logs) others (inr has) = inr (has_left core logs others has)

pub has_right : (core : ℕ) (logs others : List CoreAccesses) → Has core others → Has core (logs ++ others)
has_right core [] others has = has
has_right core (log ∷ logs) others has = inr (has_right core logs others has)

pub has_either : (core : ℕ) (logs others : List CoreAccesses) → Has core (logs ++ others) → Has core logs ⊎ Has core others
has_either core [] others has = inr has
has_either core (log ∷ logs) others (inl is) = inl (inl is)
has_either core (log ∷ logs) others (inr has) =
    elim (has_either core logs others has) as (λ _. Has core (log ∷ logs) ⊎ Has core others) [
      | inl left ↦ inl (inr left)
      | inr right ↦ inr right
    ]

-- ---- a list at a place

pub some_at : {X : Type 0} (xs : List X) (i : ℕ) → i < length xs → (x : X) × (slice_get xs i ≡ Some x)
some_at [] i within = absurd (omega (arith, within))
some_at (x ∷ xs) zero within = (x, refl)
some_at (x ∷ xs) (suc i) within = some_at xs i (omega (arith, within))

pub within_at : {X : Type 0} (xs : List X) (i : ℕ) (x : X) → get_elem? xs i ≡ some x → i < length xs
within_at [] i x at = absurd (some-ne-none x (sym at))
within_at (y ∷ xs) zero x at = omega arith
within_at (y ∷ xs) (suc i) x at = let later = within_at xs i x at in omega (arith, later)

-- ---- a step of the seat at this place, which has a new view

module _ (views : List View) (id : ℕ) (v w : View) (at : get_elem? views id ≡ some v) where
  pub new_here : get_elem? (slice_set views id w) id ≡ some w
  new_here = set_here views id w (within_at views id v at)

  pub other_there : (place : ℕ) → place ≢ id → get_elem? (slice_set views id w) place ≡ get_elem? views place
  other_there place other = set_else views id place w other

  module _ (kept : (core : ℕ) → Has core w.logs → Has core v.logs) where
    -- a core that a seat has it had before
    pub had : (place : ℕ) (u : View) → get_elem? (slice_set views id w) place ≡ some u → (core : ℕ) → Has core u.logs
        → (y : View) × (get_elem? views place ≡ some y) × Has core y.logs
    had place u there core has =
        elim (at_set views id place w u there) as (λ _. (y : View) × (get_elem? views place ≡ some y) × Has core y.logs) [
          | inl new ↦ (v, subst (λ (n : ℕ). get_elem? views n ≡ some v) (sym new.0) at, kept core (subst (λ (z : View). Has core z.logs) (sym new.1) has))
          | inr old ↦ (u, old.1, has)
        ]

    pub apart_stays : HaveOwnCores views → HaveOwnCores (slice_set views id w)
    apart_stays apart = λ place other core u x here there has too.
        let one = had place u here core has in
        let two = had other x there core too in
        apart place other core one.0 two.0 one.1 two.1 one.2 two.2

    pub fresh_stays : (history : List Made) → w.made ≡ v.made → AreBelowMade history views → AreBelowMade history (slice_set views id w)
    fresh_stays history same fresh = λ place u there first.
        elim (at_set views id place w u there) as (λ _. All (λ a. a.entry.core < u.made) history × ((other core : ℕ) (x : View) → get_elem? (slice_set views id w) other ≡ some x → Has core x.logs → core < u.made)) [
          | inl new ↦
              let made : u.made ≡ v.made = ap (λ (z : View). z.made) (sym new.1) ∙ same in
              let before = fresh id v at (subst (λ (n : ℕ). 0 < n) made first) in (
                subst (λ (n : ℕ). All (λ (a : Made). a.entry.core < n) history) (sym made) before.0,
                (λ other core x here has. let y = had other x here core has in subst (λ (n : ℕ). core < n) (sym made) (before.1 other core y.0 y.1 y.2)),
              )
          | inr old ↦
              let before = fresh place u old.1 first in
              (before.0, (λ other core x here has. let y = had other x here core has in before.1 other core y.0 y.1 y.2))
        ]
