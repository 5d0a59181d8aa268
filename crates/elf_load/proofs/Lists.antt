-- Lists with no element that passes a test.
use Rattle.std.proofs.Common.{◌≡◌, ℕ, zero, suc, ◌+◌, ◌<◌, Bool, true, false, ◌||◌, cond, List, [], ◌∷◌, length, get_or, Option, Some, None, refl, sym, ◌∙◌, arith}
use Rattle.std.specs.List.{list_any, position, position_from}
use Rattle.std.specs.Option.{option_map, option_or}
use Rattle.std.proofs.lemmas.Bool.{or_parts}
use Rattle.std.proofs.lemmas.Iterator.Adapters.{position_from-zero}

-- a list has no place at which the test passes
position_from-None : {X : Type 0} (p : X → Bool) (i : ℕ) (xs : List X) → position_from p i xs ≡ None → list_any p xs ≡ false
position_from-None p i [] h = refl
position_from-None p i (x ∷ xs) h =
    elim (p x) as (λ b. cond b (Some i) (position_from p (i + 1) xs) ≡ None → (b || list_any p xs) ≡ false)
    [ true ↦ λ (e : Some i ≡ None). cc | false ↦ λ (e : position_from p (i + 1) xs ≡ None). position_from-None p (i + 1) xs e ] h

pub position-None : {X : Type 0} (p : X → Bool) (xs : List X) → position p xs ≡ None → list_any p xs ≡ false
position-None p xs h = position_from-None p 0 xs (sym (position_from-zero p xs) ∙ h)

-- neither of two options holds anything
pub option_or-None : {T : Type 0} (a b : Option T) → option_or a b ≡ None → (a ≡ None) × (b ≡ None)
option_or-None None b h = (refl, h)
option_or-None (Some x) b h = cc

pub option_map-None : {T U : Type 0} (f : T → U) (a : Option T) → option_map f a ≡ None → a ≡ None
option_map-None f None h = refl
option_map-None f (Some x) h = cc

-- no element passes the test, at a place
pub passed_over : {X : Type 0} (p : X → Bool) (xs : List X) (k : ℕ) (d : X) → list_any p xs ≡ false → k < length xs → p (get_or xs k d) ≡ false
passed_over p [] k d h l = absurd (omega arith)
passed_over p (x ∷ xs) zero d h l = (or_parts (p x) (list_any p xs) h).0
passed_over p (x ∷ xs) (suc k) d h l = passed_over p xs k d (or_parts (p x) (list_any p xs) h).1 (omega arith)
