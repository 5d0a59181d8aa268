-- Counts over lists that are one longer.
use Rattle.std.proofs.Common.{◌≡◌, ℕ, ◌+◌, Bool, List, [], ◌∷◌, ◌++◌, if◌then◌else◌, map-id, ◌∙◌, sym, ap, ap₂, arith}
use Rattle.std.specs.List.{count_by, range_with_len}
use Rattle.std.proofs.lemmas.List.FromFn.{map-range_with_len_more}
use Rattle.std.proofs.lemmas.List.Sums.{fold-append}

pub count_behind : {X : Type 0} (p : X → Bool) (xs : List X) (x : X) → count_by p (xs ++ x ∷ []) ≡ count_by p xs + (if p x then 1 else 0)
count_behind p xs x = fold-append _ 0 xs (x ∷ [])

pub range_more : (n : ℕ) → range_with_len 0 (n + 1) ≡ range_with_len 0 n ++ n ∷ []
range_more n = sym (map-id _) ∙ map-range_with_len_more (λ k. k) 0 n n (omega arith) ∙ ap (λ ks. ks ++ n ∷ []) (map-id _)

pub count_to : (p : ℕ → Bool) (n : ℕ) → count_by p (range_with_len 0 (n + 1)) ≡ count_by p (range_with_len 0 n) + (if p n then 1 else 0)
count_to p n = ap (count_by p) (range_more n) ∙ count_behind p (range_with_len 0 n) n

pub counted : (p : ℕ → Bool) (n count new : ℕ) (b : Bool) → count ≡ count_by p (range_with_len 0 n) → b ≡ p n → new ≡ count + (if b then 1 else 0) → new ≡ count_by p (range_with_len 0 (n + 1))
counted p n count new b is test more = more ∙ ap₂ (λ (m : ℕ) (t : Bool). m + (if t then 1 else 0)) is test ∙ sym (count_to p n)
