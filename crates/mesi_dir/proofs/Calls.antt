-- What the public calls do to the sharing of a line.
use Rattle.std.proofs.Common.{◌≡◌, ◌≢◌, ℕ, ◌<◌, Bool, true, false, not, ◌&&◌, ◌||◌, List, [], ◌∷◌, Option, Some, None, refl, sym, ap, ◌∙◌, subst, inl, inr}
use Rattle.std.specs.Prelude.{nat_eq, IsTrue, if◌then◌else◌}
use Rattle.std.specs.Bool.{then_some}
use Rattle.std.proofs.lemmas.Bool.{eqb-true, eq-eqb, ne_eqb, cases_eq, and_parts, or_cases}
use Rattle.mesi_dir.specs.CoreSets.{has_core, cores_in}
use Rattle.mesi_dir.specs.LineMap.{Sharing, LineMap, nobody, is_among, sharing_of, is_sharer, owner_of, owner_without, IsSharing, IsLineMap}
use Rattle.mesi_dir.proofs.CoreSets.{is_member-cores_in, cores_in-none, zeros_have_none}

abbrev pub sharing_by : (words : List ℕ) → Option ℕ → Sharing
sharing_by words owner = record { sharers = cores_in words; owner = owner }

-- the sharing of no core
pub zeros_are_nobody : sharing_by (0 ∷ 0 ∷ 0 ∷ 0 ∷ []) None ≡ nobody
zeros_are_nobody = rw (cores_in-none (0 ∷ 0 ∷ 0 ∷ 0 ∷ []) zeros_have_none) refl

pub zeros_are_sharing : (cores : ℕ) → IsSharing cores (sharing_by (0 ∷ 0 ∷ 0 ∷ 0 ∷ []) None)
zeros_are_sharing cores =
    rw zeros_are_nobody (record { below = λ core (h : false ≡ true). absurd cc; alone = λ owner core (h : None ≡ Some owner). absurd cc })

pub zeros_are_not_shared : (core : ℕ) → is_among (sharing_by (0 ∷ 0 ∷ 0 ∷ 0 ∷ []) None) core ≡ false
zeros_are_not_shared core = is_member-cores_in (0 ∷ 0 ∷ 0 ∷ 0 ∷ []) core ∙ zeros_have_none core

pub then_some-if : (own : Bool) (core : ℕ) → then_some own core ≡ (if own then Some core else None)
then_some-if true core = refl
then_some-if false core = refl

none_is_some : {o : ℕ} → None ≡ Some o → ⊥
none_is_some h = cc

-- an owner that is left is the one that was, and another core
owner_kept : (core : ℕ) (owner : Option ℕ) (o : ℕ) → owner_without core owner ≡ Some o → (owner ≡ Some o) × (core ≢ o)
owner_kept core None o h = absurd cc
owner_kept core (Some x) o h =
    elim (cases_eq core x) as (λ _. (Some x ≡ Some o) × (core ≢ o)) [
      | inl e ↦ absurd (none_is_some (rw (eq-eqb core x e) at h))
      | inr e ↦ let k : Some x ≡ Some o = rw (ne_eqb core x e) at h in (k, λ c. e (c ∙ cc))
    ]

not_and : (core o c : ℕ) → core ≢ o → (not (nat_eq core c) && nat_eq o c) ≡ nat_eq o c
not_and core o c apart =
    elim (cases_eq core c) as (λ _. (not (nat_eq core c) && nat_eq o c) ≡ nat_eq o c) [
      | inl e ↦ rw (eq-eqb core c e) (sym (ne_eqb o c (λ k. apart (e ∙ sym k))))
      | inr e ↦ rw (ne_eqb core c e) refl
    ]

module _ (m : LineMap) (line : ℕ) (words : List ℕ) (owner : Option ℕ) (row : sharing_by words owner ≡ sharing_of m line) where
  -- a core's bit says whether it has the line
  pub sharer_is : (c : ℕ) → is_sharer m line c ≡ has_core words c
  sharer_is c = rw (← row) (is_member-cores_in words c)

  pub owner_is : owner_of m line ≡ owner
  owner_is = ap (λ (s : Sharing). s.owner) (sym row)

  module _ (is_map : IsLineMap m) (core : ℕ) (within : core < m.cores) where
    -- a core more
    module _ (more : List ℕ) (added : (c : ℕ) → has_core more c ≡ (nat_eq core c || has_core words c)) where
      granted_below : (own : Option ℕ) (c : ℕ) → IsTrue (is_among (sharing_by more own) c) → c < m.cores
      granted_below own c h =
          let has : (nat_eq core c || has_core words c) ≡ true = sym (added c) ∙ (sym (is_member-cores_in more c) ∙ h) in
          elim (or_cases (nat_eq core c) (has_core words c) has) as (λ _. c < m.cores) [
            | inl e ↦ subst (λ (x : ℕ). x < m.cores) (eqb-true core c e) within
            | inr e ↦ (is_map.sharing line).below c (sharer_is c ∙ e)
          ]

      granted_alone : (own : Bool) → (own ≡ true → (other : ℕ) → other ≢ core → is_sharer m line other ≡ false) → (o c : ℕ) → (if own then Some core else None) ≡ Some o → is_among (sharing_by more (if own then Some core else None)) c ≡ nat_eq o c
      granted_alone true alone o c e =
          let same : core ≡ o = cc in
          let here : is_among (sharing_by more (Some core)) c ≡ (nat_eq core c || has_core words c) = is_member-cores_in more c ∙ added c in
          elim (cases_eq core c) as (λ _. is_among (sharing_by more (Some core)) c ≡ nat_eq o c) [
            | inl k ↦ rw (here, ← same, eq-eqb core c k) refl
            | inr k ↦ rw (here, ← same, ne_eqb core c k) (sym (sharer_is c) ∙ alone refl c (λ x. k (sym x)))
          ]
      granted_alone false alone o c e = absurd cc

      pub granted_sharers : (after : LineMap) (own : Option ℕ) → sharing_of after line ≡ sharing_by more own → (c : ℕ) → is_sharer after line c ≡ (nat_eq core c || is_sharer m line c)
      granted_sharers after own e c = rw (e, is_member-cores_in more c, added c, sharer_is c) refl

      pub granted_sharing : (own : Bool) → (own ≡ true → (other : ℕ) → other ≢ core → is_sharer m line other ≡ false) → IsSharing m.cores (sharing_by more (if own then Some core else None))
      granted_sharing own alone = record { below = granted_below (if own then Some core else None); alone = granted_alone own alone }

    -- a core fewer
    module _ (fewer : List ℕ) (removed : (c : ℕ) → has_core fewer c ≡ (not (nat_eq core c) && has_core words c)) where
      pub dropped_from : (own : Option ℕ) (c : ℕ) → IsTrue (is_among (sharing_by fewer own) c) → IsTrue (is_sharer m line c)
      dropped_from own c h =
          sharer_is c ∙ (and_parts (not (nat_eq core c)) (has_core words c) (sym (removed c) ∙ (sym (is_member-cores_in fewer c) ∙ h))).1

      dropped_alone : (o c : ℕ) → owner_without core owner ≡ Some o → is_among (sharing_by fewer (owner_without core owner)) c ≡ nat_eq o c
      dropped_alone o c e =
          let kept = owner_kept core owner o e in
          let alone : is_sharer m line c ≡ nat_eq o c = (is_map.sharing line).alone o c (owner_is ∙ kept.0) in
          let here : is_among (sharing_by fewer (owner_without core owner)) c ≡ (not (nat_eq core c) && has_core words c) = is_member-cores_in fewer c ∙ removed c in
          rw (here, ← sharer_is c, alone) (not_and core o c kept.1)

      pub dropped_sharers : (after : LineMap) (own : Option ℕ) → sharing_of after line ≡ sharing_by fewer own → (c : ℕ) → is_sharer after line c ≡ (not (nat_eq core c) && is_sharer m line c)
      dropped_sharers after own e c = rw (e, is_member-cores_in fewer c, removed c, sharer_is c) refl

      pub dropped_sharing : IsSharing m.cores (sharing_by fewer (owner_without core owner))
      dropped_sharing = record {
        below = λ c h. (is_map.sharing line).below c (dropped_from (owner_without core owner) c h);
        alone = dropped_alone;
      }
