-- A change of one piece.
use Rattle.std.proofs.Common.{◌≡◌, ◌≢◌, ℕ, zero, suc, ◌+◌, ◌*◌, ◌<◌, ◌≤◌, List, [], ◌∷◌, ◌++◌, length, get_or, set, take, drop, refl, sym, ap, ◌∙◌, arith, length-drop, append_assoc}
use Rattle.std.proofs.lemmas.List.{length-take-le, get_or-take, get_or-drop, get_or-set_other, get_or-set_same, set-get_or, drop-set-lt, drop-set-add, take-set-le}
use Rattle.std.proofs.Math.Seq.{take-set-lt}
use Rattle.cache_set.specs.Pieces.{piece, pieces}

module _ {X : Type 0} where
  pub length_pieces : (count size : ℕ) (items : List X) → length (pieces count size items) ≡ count
  length_pieces zero size items = refl
  length_pieces (suc count) size items = ap suc (length_pieces count size (drop size items))

  take_append : (n : ℕ) (xs ys : List X) → length xs ≡ n → take n (xs ++ ys) ≡ xs
  take_append zero [] ys h = refl
  take_append zero (x ∷ xs) ys h = absurd (omega arith)
  take_append (suc n) [] ys h = absurd (omega arith)
  take_append (suc n) (x ∷ xs) ys h = ap (λ (l : List X). x ∷ l) (take_append n xs ys (omega arith))

  drop_append : (n : ℕ) (xs ys : List X) → length xs ≡ n → drop n (xs ++ ys) ≡ ys
  drop_append zero [] ys h = refl
  drop_append zero (x ∷ xs) ys h = absurd (omega arith)
  drop_append (suc n) [] ys h = absurd (omega arith)
  drop_append (suc n) (x ∷ xs) ys h = drop_append n xs ys (omega arith)

  drop_none : (n : ℕ) → drop {A = X} n [] ≡ []
  drop_none zero = refl
  drop_none (suc n) = refl

  take_none : (n : ℕ) → take {A = X} n [] ≡ []
  take_none zero = refl
  take_none (suc n) = refl

  take_more : (n m k : ℕ) (xs : List X) → k ≡ n + m → take k xs ≡ take n xs ++ take m (drop n xs)
  take_more zero m k xs e = ap (λ (j : ℕ). take j xs) (let h : k ≡ m = omega arith in h)
  take_more (suc n) m zero xs e = absurd (omega arith)
  take_more (suc n) m (suc k) [] e = sym (take_none m)
  take_more (suc n) m (suc k) (x ∷ xs) e = ap (λ (l : List X). x ∷ l) (take_more n m k xs (omega arith))

  drop_more : (n m k : ℕ) (xs : List X) → k ≡ n + m → drop k xs ≡ drop m (drop n xs)
  drop_more zero m k xs e = ap (λ (j : ℕ). drop j xs) (let h : k ≡ m = omega arith in h)
  drop_more (suc n) m zero xs e = absurd (omega arith)
  drop_more (suc n) m (suc k) [] e = sym (drop_none m)
  drop_more (suc n) m (suc k) (x ∷ xs) e = drop_more n m k xs (omega arith)

  -- the array after another piece came in at a place
  pub pieces_set : (count size n at end : ℕ) (items new : List X) → n < count → length items ≡ count * size → length new ≡ size → at ≡ n * size → end ≡ at + size
      → pieces count size (take at items ++ (new ++ drop end items)) ≡ set (pieces count size items) n new
  pieces_set zero size n at end items new l h g a b = absurd (omega arith)
  pieces_set (suc count) size zero (suc at) end items new l h g a b = absurd (omega arith)
  pieces_set (suc count) size zero zero end items new l h g a b =
      let e : end ≡ size = omega arith in
      let here : take size (new ++ drop end items) ≡ new = take_append size new (drop end items) g in
      let behind : drop size (new ++ drop end items) ≡ drop size items = drop_append size new (drop end items) g ∙ ap (λ (j : ℕ). drop j items) e in
      ap (λ (l : List X). l ∷ pieces count size (drop size (new ++ drop end items))) here ∙ ap (λ (l : List X). new ∷ pieces count size l) behind
  pieces_set (suc count) size (suc n) at end items new l h g a b =
      let before : ℕ = n * size in
      let after : ℕ = n * size + size in
      let front : length (take size items) ≡ size = length-take-le size items (omega arith) in
      let rest : List X = take before (drop size items) ++ (new ++ drop after (drop size items)) in
      let whole : take at items ++ (new ++ drop end items) ≡ take size items ++ rest
      = ap (λ (l : List X). l ++ (new ++ drop end items)) (take_more size before at items (omega arith))
      ∙ (append_assoc (take size items) (take before (drop size items)) (new ++ drop end items)
      ∙ ap (λ (l : List X). take size items ++ (take before (drop size items) ++ (new ++ l))) (drop_more size after end items (omega arith))) in
      ap (pieces (suc count) size) whole
      ∙ (ap (λ (l : List X). l ∷ pieces count size (drop size (take size items ++ rest))) (take_append size (take size items) rest front)
      ∙ (ap (λ (l : List X). take size items ∷ pieces count size l) (drop_append size (take size items) rest front)
      ∙ ap (λ (l : List (List X)). take size items ∷ l)
      (pieces_set count size n before after (drop size items) new (omega arith) (omega (arith, length-drop size items)) g refl refl)))

  pub piece_at : (count size n at : ℕ) (items d : List X) → n < count → at ≡ n * size → get_or (pieces count size items) n d ≡ take size (drop at items)
  piece_at zero size n at items d l a = absurd (omega arith)
  piece_at (suc count) size zero (suc at) items d l a = absurd (omega arith)
  piece_at (suc count) size zero zero items d l a = refl
  piece_at (suc count) size (suc n) at items d l a =
      let before : ℕ = n * size in
      piece_at count size n before (drop size items) d (omega arith) refl ∙ ap (take size) (sym (drop_more size before at items (omega arith)))

pub within_pieces : (count size n : ℕ) → n < count → n * size + size ≤ count * size
within_pieces zero size n l = absurd (omega arith)
within_pieces (suc count) size zero l = omega arith
within_pieces (suc count) size (suc n) l = omega (arith, within_pieces count size n (omega arith))

-- ---- one item changes

drop_set : {X : Type 0} (m i k : ℕ) (xs : List X) (x : X) → k ≡ m + i → drop m (set xs k x) ≡ set (drop m xs) i x
drop_set m i k xs x e = ap (λ (j : ℕ). drop m (set xs j x)) e ∙ drop-set-add m xs i x

module _ {X : Type 0} where
  pub pieces_put : (count size n i p : ℕ) (items : List X) (x : X) → n < count → i < size → p ≡ n * size + i
      → pieces count size (set items p x) ≡ set (pieces count size items) n (set (piece size n items) i x)
  pieces_put zero size n i p items x l m e = absurd (omega arith)
  pieces_put (suc count) size zero i p items x l m e =
      let here : p ≡ i = omega arith in
      ap (λ (j : ℕ). pieces (suc count) size (set items j x)) here
      ∙ (ap (λ (l : List X). l ∷ pieces count size (drop size (set items i x))) (take-set-lt size items i x m)
      ∙ (ap (λ (l : List X). set (take size items) i x ∷ pieces count size l) (drop-set-lt size items i x m)
      ∙ ap (λ (l : List X). set (take size l) i x ∷ pieces count size (drop size items)) (let none : items ≡ drop (0 * size) items = ap (λ (j : ℕ). drop j items) (let z : 0 ≡ 0 * size = omega arith in z) in none)))
  pieces_put (suc count) size (suc n) i p items x l m e =
      let q : ℕ = n * size + i in
      let seam : p ≡ size + q = omega (arith, e) in
      ap (λ (l : List X). l ∷ pieces count size (drop size (set items p x))) (take-set-le size items p x (omega (arith, seam)))
      ∙ (ap (λ (l : List X). take size items ∷ pieces count size l) (drop_set size q p items x seam)
      ∙ (ap (λ (l : List (List X)). take size items ∷ l) (pieces_put count size n i q (drop size items) x (omega arith) m refl)
      ∙ ap (λ (l : List X). take size items ∷ set (pieces count size (drop size items)) n (set (take size l) i x)) (sym (drop_more size (n * size) (suc n * size) items (omega arith)))))

  pub piece_is : (count size n : ℕ) (items d : List X) → n < count → get_or (pieces count size items) n d ≡ piece size n items
  piece_is count size n items d l = piece_at count size n (n * size) items d l refl

  pub pieces_same : (count size n : ℕ) (items : List X) → n < count → pieces count size items ≡ set (pieces count size items) n (piece size n items)
  pieces_same count size n items l =
      sym (set-get_or (pieces count size items) n []) ∙ ap (λ (l : List X). set (pieces count size items) n l) (piece_is count size n items [] l)

  pub length_piece : (count size n : ℕ) (items : List X) → n < count → length items ≡ count * size → length (piece size n items) ≡ size
  length_piece count size n items l long =
      length-take-le size (drop (n * size) items) (omega (arith, length-drop (n * size) items, within_pieces count size n l))

  pub piece_get : (size n i p : ℕ) (items : List X) (d : X) → i < size → p ≡ n * size + i → get_or (piece size n items) i d ≡ get_or items p d
  piece_get size n i p items d l e =
      get_or-take size (drop (n * size) items) i d l ∙ (get_or-drop (n * size) items i d ∙ ap (λ (j : ℕ). get_or items j d) (sym e))

  pub piece_put : (count size n i p : ℕ) (items : List X) (x : X) → n < count → i < size → p ≡ n * size + i → piece size n (set items p x) ≡ set (piece size n items) i x
  piece_put count size n i p items x l m e =
      sym (piece_is count size n (set items p x) [] l)
      ∙ (ap (λ (l : List (List X)). get_or l n []) (pieces_put count size n i p items x l m e)
      ∙ get_or-set_same (pieces count size items) n (set (piece size n items) i x) [] (omega (arith, length_pieces count size items)))

  pub piece_other : (count size n i p m : ℕ) (items : List X) (x : X) → n < count → i < size → p ≡ n * size + i → m < count → m ≢ n → piece size m (set items p x) ≡ piece size m items
  piece_other count size n i p m items x l b e k apart =
      sym (piece_is count size m (set items p x) [] k)
      ∙ (ap (λ (l : List (List X)). get_or l m []) (pieces_put count size n i p items x l b e)
      ∙ (get_or-set_other (pieces count size items) n m (set (piece size n items) i x) [] apart
      ∙ piece_is count size m items [] k))

  -- after one piece changed, by the list of the pieces
  pub piece_changed : (count size n : ℕ) (items after new : List X) → n < count → pieces count size after ≡ set (pieces count size items) n new → piece size n after ≡ new
  piece_changed count size n items after new l e =
      sym (piece_is count size n after [] l)
      ∙ (ap (λ (l : List (List X)). get_or l n []) e ∙ get_or-set_same (pieces count size items) n new [] (omega (arith, length_pieces count size items)))

  pub piece_unchanged : (count size n m : ℕ) (items after new : List X) → m < count → m ≢ n → pieces count size after ≡ set (pieces count size items) n new → piece size m after ≡ piece size m items
  piece_unchanged count size n m items after new l apart e =
      sym (piece_is count size m after [] l)
      ∙ (ap (λ (l : List (List X)). get_or l m []) e
      ∙ (get_or-set_other (pieces count size items) n m new [] apart ∙ piece_is count size m items [] l))
