-- What a map of lines is when one line's sharing has changed.
use Rattle.std.proofs.Common.{◌≡◌, ◌≢◌, ℕ, ◌≤◌, cond, length, Option, refl, sym, arith, inl, inr}
use Rattle.std.specs.List.{IsDistinct}
use Rattle.std.specs.Map.{keys_of, lookup}
use Rattle.std.specs.Prelude.{nat_eq, unwrap_or, IsSome, IsTrue}
use Rattle.std.proofs.lemmas.Bool.{eq-eqb, ne_eqb, cases_eq}
use Rattle.mesi_dir.specs.LineMap.{Sharing, LineMap, nobody, is_among, sharing_of, is_sharer, IsSharing, IsLineMap, KeepsOthers}

-- a line has this sharing now, where there is one, and each other line the one that it had
pub record IsUpdated (old new : LineMap) (line : ℕ) (w : Option Sharing) : Type 0 where
  pub looks : (q : ℕ) → lookup (nat_eq q) new.lines ≡ cond (nat_eq line q) w (lookup (nat_eq q) old.lines)
  pub room : new.room ≡ old.room
  pub cores : new.cores ≡ old.cores

module _ {old new : LineMap} {line : ℕ} {w : Option Sharing} (u : IsUpdated old new line w) where
  pub updated_here : sharing_of new line ≡ unwrap_or w nobody
  updated_here = rw (u.looks line, eq-eqb line line refl) refl

  pub updated_other : (q : ℕ) → q ≢ line → sharing_of new q ≡ sharing_of old q
  updated_other q apart = rw (u.looks q, ne_eqb line q (λ e. apart (sym e))) refl

  pub updated_keeps : KeepsOthers old new line
  updated_keeps = record { others = updated_other; room = u.room; cores = u.cores }

  updated_sharing : IsLineMap old → IsSharing old.cores (unwrap_or w nobody) → (q : ℕ) → IsSharing new.cores (sharing_of new q)
  updated_sharing m s q =
      elim (cases_eq q line) as (λ _. IsSharing new.cores (sharing_of new q)) [
        | inl e ↦ rw (e, u.cores, updated_here) s
        | inr e ↦ rw (u.cores, updated_other q e) (m.sharing q)
      ]

  updated_shared : IsLineMap old → (IsSome w → (core : ℕ) × IsTrue (is_among (unwrap_or w nobody) core)) → (q : ℕ) → IsSome (lookup (nat_eq q) new.lines) → (core : ℕ) × IsTrue (is_sharer new q core)
  updated_shared m s q =
      elim (cases_eq q line) as (λ _. IsSome (lookup (nat_eq q) new.lines) → (core : ℕ) × IsTrue (is_sharer new q core)) [
        | inl e ↦ rw (e, u.looks line, eq-eqb line line refl) s
        | inr e ↦ rw (u.looks q, ne_eqb line q (λ k. e (sym k))) (m.shared q)
      ]

  pub updated_map : IsLineMap old → IsDistinct nat_eq (keys_of new.lines) → length new.lines ≤ old.room → IsSharing old.cores (unwrap_or w nobody) → (IsSome w → (core : ℕ) × IsTrue (is_among (unwrap_or w nobody) core)) → IsLineMap new
  updated_map m d l s t = record {
    distinct = d;
    within = omega (arith, u.room);
    cores_within = omega (arith, u.cores, m.cores_within);
    sharing = updated_sharing m s;
    shared = updated_shared m t;
  }
