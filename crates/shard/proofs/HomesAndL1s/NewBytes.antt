-- The bytes of a list, cut into lines one after the other.
use Rattle.std.proofs.Common.{◌≡◌, ℕ, zero, suc, ◌+◌, ◌*◌, List, [], ◌∷◌, ◌++◌, length, take, drop, refl, sym, ap, ◌∙◌, arith}
use Rattle.std.specs.List.{flat_map, range_with_len}
use Rattle.std.proofs.Math.ListN.{drop_of_length-le}
use Rattle.std.proofs.lemmas.List.{length-append, take-append-drop}
use Rattle.std.proofs.lemmas.List.Concat.{flat_map-cons}
use Rattle.zs_num.specs.Request.{line_bytes}

-- later bytes, from a place on and from another
dropped : (a b : ℕ) (xs : List ℕ) → drop b (drop a xs) ≡ drop (a + b) xs
dropped zero b xs =
    let same : b ≡ zero + b = omega arith in
    ap (λ (n : ℕ). drop n xs) same
dropped (suc a) b [] = empty b ∙ sym (empty (suc a + b)) where
  empty : (n : ℕ) → drop {A = ℕ} n [] ≡ []
  empty zero = refl
  empty (suc n) = refl
dropped (suc a) b (x ∷ xs) =
    let same : suc (a + b) ≡ suc a + b = omega arith in
    dropped a b xs ∙ ap (λ (n : ℕ). drop n (x ∷ xs)) same

pub cut_whole : (all : List ℕ) (a n : ℕ) → length all ≡ line_bytes * (a + n) → flat_map (λ k. take line_bytes (drop (line_bytes * k) all)) (range_with_len a n) ≡ drop (line_bytes * a) all
cut_whole all a zero long = sym (drop_of_length-le all (omega arith))
cut_whole all a (suc n) long =
    let f : ℕ → List ℕ = λ k. take line_bytes (drop (line_bytes * k) all) in
    let next : line_bytes * a + line_bytes ≡ line_bytes * (a + 1) = omega arith in
    flat_map-cons f a (range_with_len (a + 1) n)
    ∙ (ap (λ (x : List ℕ). f a ++ x) (cut_whole all (a + 1) n (omega arith))
    ∙ (ap (λ (k : ℕ). f a ++ drop k all) (sym next)
    ∙ (ap (λ (x : List ℕ). f a ++ x) (sym (dropped (line_bytes * a) line_bytes all))
    ∙ take-append-drop line_bytes (drop (line_bytes * a) all))))

pub pieces_long : (f : ℕ → List ℕ) → ((i : ℕ) → length (f i) ≡ line_bytes) → (a n : ℕ) → length (flat_map f (range_with_len a n)) ≡ line_bytes * n
pieces_long f h a zero = refl
pieces_long f h a (suc n) =
    ap (λ (x : List ℕ). length x) (flat_map-cons f a (range_with_len (a + 1) n))
    ∙ (length-append (f a) (flat_map f (range_with_len (a + 1) n)) ∙ omega (arith, h a, pieces_long f h (a + 1) n))
