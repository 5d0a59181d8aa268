-- What is kept of a core that executes one instruction more.
use Rattle.std.proofs.Common.{◌≡◌, ℕ, zero, suc, ◌+◌, ◌*◌, ◌≤◌, ◌^◌, List, [], ◌∷◌, ◌++◌, Option, Some, None, option_to_list, refl, sym, ◌∙◌, ap, ap₂, append-nil, append_assoc, arith, eq-eqb}
use Rattle.profile_rows.specs.declared.halt_row.Jump.{Jump}
use Rattle.last_jumps.specs.Jumps.{behind, jump_between, jumps_from, jumps_of, last_of}
use Rattle.last_jumps.specs.Kept.{Kept, jump_to, jumps_with, kept_of, latest_from, latest_of, with_one_more, with_stretch}
use Rattle.last_jumps.proofs.LastOf.{last_more}

jumps_from_more : (from : ℕ) (pcs : List ℕ) (pc : ℕ) → jumps_from from (pcs ++ pc ∷ []) ≡ jumps_from from pcs ++ jump_between (latest_from from pcs) pc
jumps_from_more from [] pc = append-nil (jump_between from pc)
jumps_from_more from (to ∷ rest) pc =
    ap (λ (js : List Jump). jump_between from to ++ js) (jumps_from_more to rest pc)
    ∙ sym (append_assoc (jump_between from to) (jumps_from to rest) (jump_between (latest_from to rest) pc))

jumps_more : (pcs : List ℕ) (pc : ℕ) → jumps_of (pcs ++ pc ∷ []) ≡ jumps_of pcs ++ jump_to (latest_of pcs) pc
jumps_more [] pc = refl
jumps_more (first ∷ rest) pc = jumps_from_more first rest pc

latest_from_more : (from : ℕ) (pcs : List ℕ) (pc : ℕ) → latest_from from (pcs ++ pc ∷ []) ≡ pc
latest_from_more from [] pc = refl
latest_from_more from (next ∷ rest) pc = latest_from_more next rest pc

latest_more : (pcs : List ℕ) (pc : ℕ) → latest_of (pcs ++ pc ∷ []) ≡ Some pc
latest_more [] pc = refl
latest_more (first ∷ rest) pc = ap (λ (n : ℕ). Some n) (latest_from_more first rest pc)

pub kept_more : (pcs : List ℕ) (pc : ℕ) → kept_of (pcs ++ pc ∷ []) ≡ with_one_more pc (kept_of pcs)
kept_more pcs pc =
    ap₂ (λ (latest : Option ℕ) (jumps : List Jump). record { latest = latest; jumps = jumps }) (latest_more pcs pc)
    (ap (λ (js : List Jump). last_of 16 js) (jumps_more pcs pc) ∙ sym (last_more 16 (jumps_of pcs) (jump_to (latest_of pcs) pc)))

pub with_next : (pcs : List ℕ) (next : Option ℕ) → jumps_with next (kept_of pcs) ≡ last_of 16 (jumps_of (pcs ++ option_to_list next))
with_next pcs None = ap (λ (all : List ℕ). last_of 16 (jumps_of all)) (sym (append-nil pcs))
with_next pcs (Some pc) = sym (ap (λ (k : Kept). k.jumps) (kept_more pcs pc))

-- ---- instructions that follow each other

no_jump : (pc : ℕ) → pc + 4 ≤ 2 ^ 48 → jump_between pc (pc + 4) ≡ []
no_jump pc fits = rw (eq-eqb (pc + 4) (behind pc) (omega (arith, fits))) refl

-- the first of them, and then the others
pub stretch_from_next : (pc n : ℕ) (kept : Kept) → pc + 4 * suc n ≤ 2 ^ 48 → with_stretch (pc + 4) n (with_one_more pc kept) ≡ with_stretch pc (suc n) kept
stretch_from_next pc zero kept fits = ap (λ (at : ℕ). record { latest = Some at; jumps = (with_one_more pc kept).jumps }) (omega arith)
stretch_from_next pc (suc n) kept fits =
    ap₂ (λ (at : ℕ) (jumps : List Jump). let k : Kept = record { latest = Some at; jumps = jumps } in k) (omega arith)
    (ap (λ (more : List Jump). last_of 16 (last_of 16 (kept.jumps ++ jump_to kept.latest pc) ++ more)) (no_jump pc (omega (arith, fits)))
    ∙ last_more 16 (kept.jumps ++ jump_to kept.latest pc) [] ∙ ap (last_of 16) (append-nil (kept.jumps ++ jump_to kept.latest pc)))
