-- What is kept of the ways, with their bytes.
use Rattle.std.proofs.Common.{◌≡◌, ℕ, zero, suc, ◌<◌, List, [], ◌∷◌, length, get_or, set, refl, sym, ap, ◌∙◌, arith}
use Rattle.std.proofs.lemmas.List.{get_or_default, set-get_or}
use Rattle.l1_cache.specs.declared.near.Kept.{Kept}
use Rattle.l1_cache.specs.L1State.{Copy}
use Rattle.l1_cache.specs.Layout.{copy_in, copies_in, no_kept}

abbrev pub no_copy : Copy
no_copy = copy_in no_kept []

pub length_copies : (kept : List Kept) (bytes : List (List ℕ)) → length bytes ≡ length kept → length (copies_in kept bytes) ≡ length kept
length_copies [] bytes h = refl
length_copies (k ∷ kept) [] h = absurd (omega arith)
length_copies (k ∷ kept) (b ∷ bytes) h = omega (arith, length_copies kept bytes (omega arith))

pub copy_at_place : (kept : List Kept) (bytes : List (List ℕ)) (p : ℕ) → length bytes ≡ length kept → get_or (copies_in kept bytes) p no_copy ≡ copy_in (get_or kept p no_kept) (get_or bytes p [])
copy_at_place [] [] p h = refl
copy_at_place [] (b ∷ bytes) p h = absurd (omega arith)
copy_at_place (k ∷ kept) [] p h = absurd (omega arith)
copy_at_place (k ∷ kept) (b ∷ bytes) zero h = refl
copy_at_place (k ∷ kept) (b ∷ bytes) (suc p) h = copy_at_place kept bytes p (omega arith)

pub copies_set : (kept : List Kept) (bytes : List (List ℕ)) (p : ℕ) (k : Kept) (b : List ℕ) → copies_in (set kept p k) (set bytes p b) ≡ set (copies_in kept bytes) p (copy_in k b)
copies_set [] [] p k b = refl
copies_set [] (c ∷ bytes) p k b = refl
copies_set (j ∷ kept) [] zero k b = refl
copies_set (j ∷ kept) [] (suc p) k b = refl
copies_set (j ∷ kept) (c ∷ bytes) zero k b = refl
copies_set (j ∷ kept) (c ∷ bytes) (suc p) k b = ap (λ (l : List Copy). copy_in j c ∷ l) (copies_set kept bytes p k b)

-- the bytes stay
pub copies_kept : (kept : List Kept) (bytes : List (List ℕ)) (p : ℕ) (k : Kept) → copies_in (set kept p k) bytes ≡ set (copies_in kept bytes) p (copy_in k (get_or bytes p []))
copies_kept kept bytes p k = ap (λ (l : List (List ℕ)). copies_in (set kept p k) l) (sym (set-get_or bytes p [])) ∙ copies_set kept bytes p k (get_or bytes p [])

-- what the program reads of a way
pub kept_read : (kept : List Kept) (p : ℕ) (k : Kept) → p < length kept → k ≡ get_or kept p k → get_or kept p no_kept ≡ k
kept_read kept p k l e = sym (e ∙ get_or_default kept p k no_kept l)

pub bytes_read : (bytes : List (List ℕ)) (p : ℕ) (b : List ℕ) → p < length bytes → b ≡ get_or bytes p b → get_or bytes p [] ≡ b
bytes_read bytes p b l e = sym (e ∙ get_or_default bytes p b [] l)
