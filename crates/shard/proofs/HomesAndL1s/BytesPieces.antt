-- An access to some bytes of one line is an access to the bytes of all lines, at the line's place.
use Rattle.std.proofs.Common.{◌≡◌, ◌≢◌, ℕ, zero, suc, ◌+◌, ◌*◌, ◌<◌, ◌≤◌, true, false, cond, List, [], ◌∷◌, ◌++◌, length, get_or, take, drop, Option, refl, sym, ap, ◌∙◌, append_assoc, arith}
use Rattle.std.specs.List.{flat_map}
use Rattle.std.proofs.Math.Seq.{drop-append-add, take-append-add}
use Rattle.std.proofs.lemmas.List.{drop-append-le, get_or-append-add, get_or_append_left, take-append-le}
use Rattle.std.proofs.lemmas.List.Concat.{flat_map-cons}
use Rattle.byteorder.specs.Endian.{little_bytes, little_number}
use Rattle.zs_num.specs.Request.{line_bytes, width_of}
use Rattle.zs_num.specs.declared.request.Request.{Request}
use Rattle.zs_num.specs.declared.request.Request.TheVariants.{Load, Store, Lr, Sc, Amo, Fetch}
use Rattle.rv_alu.specs.Atomic.{new_number}
use Rattle.flat_memory.specs.FlatMemory.{number_in, with_number}
use Rattle.flat_memory.specs.declared.reservation.Reservation.{Reservation}
use Rattle.shard.specs.Marks.{bytes_after, does_store, reply_from}
use Rattle.shard.proofs.StandsForBytes.{number_same}

-- ---- a number in the first of two lists, or in the second
left_written : (a r : List ℕ) (place width value : ℕ) → place + width ≤ length a → with_number (a ++ r) place width value ≡ with_number a place width value ++ r
unfolding with_number
left_written a r place width value l =
    let low : List ℕ = little_bytes width value in
    ap (λ (t : List ℕ). t ++ (low ++ drop (place + width) (a ++ r))) (take-append-le place a r (omega arith))
    ∙ (ap (λ (t : List ℕ). take place a ++ (low ++ t)) (drop-append-le (place + width) a r l)
    ∙ (ap (λ (t : List ℕ). take place a ++ t) (sym (append_assoc low (drop (place + width) a) r))
    ∙ sym (append_assoc (take place a) (low ++ drop (place + width) a) r)))

right_written : (a r : List ℕ) (at place width value : ℕ) → at ≡ length a + place → with_number (a ++ r) at width value ≡ a ++ with_number r place width value
unfolding with_number
right_written a r at place width value e =
    let low : List ℕ = little_bytes width value in
    let end : at + width ≡ length a + (place + width) = omega arith in
    ap (λ (n : ℕ). take n (a ++ r) ++ (low ++ drop (at + width) (a ++ r))) e
    ∙ (ap (λ (t : List ℕ). t ++ (low ++ drop (at + width) (a ++ r))) (take-append-add a r place)
    ∙ (ap (λ (n : ℕ). (a ++ take place r) ++ (low ++ drop n (a ++ r))) end
    ∙ (ap (λ (t : List ℕ). (a ++ take place r) ++ (low ++ t)) (drop-append-add a r (place + width))
    ∙ append_assoc a (take place r) (low ++ drop (place + width) r))))

left_number : (a r : List ℕ) (place width : ℕ) → place + width ≤ length a → number_in (a ++ r) place width ≡ number_in a place width
left_number a r place width l = number_same width place place (a ++ r) a (λ k below. get_or_append_left a r 0 (place + k) (omega arith))

right_number : (a r : List ℕ) (at place width : ℕ) → at ≡ length a + place → number_in (a ++ r) at width ≡ number_in r place width
unfolding number_in
right_number a r at place width e =
    ap (λ (n : ℕ). little_number width (drop n (a ++ r))) e ∙ ap (little_number width) (drop-append-add a r place)

module _ (marks : List (Option Reservation)) (core : ℕ) where
  -- ---- what is left
  left_after : (request : Request) (a r : List ℕ) (place : ℕ) → place + width_of request ≤ length a → bytes_after (a ++ r) place marks core request ≡ bytes_after a place marks core request ++ r
  unfolding bytes_after
  left_after (Load width addr) a r place l = refl
  left_after (Store width addr value) a r place l = left_written a r place width value l
  left_after (Lr width addr) a r place l = refl
  left_after (Sc width paired addr value) a r place l =
      elim (does_store marks core addr width paired) as (λ b. cond b (with_number (a ++ r) place width value) (a ++ r) ≡ cond b (with_number a place width value) a ++ r)
      [ true ↦ left_written a r place width value l | false ↦ refl ]
  left_after (Amo width op addr value) a r place l =
      ap (λ (n : ℕ). with_number (a ++ r) place width (new_number op width n value)) (left_number a r place width l)
      ∙ left_written a r place width (new_number op width (number_in a place width) value) l
  left_after (Fetch addr) a r place l = refl

  right_after : (request : Request) (a r : List ℕ) (at place : ℕ) → at ≡ length a + place → bytes_after (a ++ r) at marks core request ≡ a ++ bytes_after r place marks core request
  unfolding bytes_after
  right_after (Load width addr) a r at place e = refl
  right_after (Store width addr value) a r at place e = right_written a r at place width value e
  right_after (Lr width addr) a r at place e = refl
  right_after (Sc width paired addr value) a r at place e =
      elim (does_store marks core addr width paired) as (λ b. cond b (with_number (a ++ r) at width value) (a ++ r) ≡ a ++ cond b (with_number r place width value) r)
      [ true ↦ right_written a r at place width value e | false ↦ refl ]
  right_after (Amo width op addr value) a r at place e =
      ap (λ (n : ℕ). with_number (a ++ r) at width (new_number op width n value)) (right_number a r at place width e)
      ∙ right_written a r at place width (new_number op width (number_in r place width) value) e
  right_after (Fetch addr) a r at place e = refl

  -- ---- the answer
  left_reply : (request : Request) (a r : List ℕ) (place : ℕ) → place + width_of request ≤ length a → reply_from (a ++ r) place marks core request ≡ reply_from a place marks core request
  unfolding reply_from
  left_reply (Load width addr) a r place l = left_number a r place width l
  left_reply (Store width addr value) a r place l = refl
  left_reply (Lr width addr) a r place l = left_number a r place width l
  left_reply (Sc width paired addr value) a r place l = refl
  left_reply (Amo width op addr value) a r place l = left_number a r place width l
  left_reply (Fetch addr) a r place l = refl

  right_reply : (request : Request) (a r : List ℕ) (at place : ℕ) → at ≡ length a + place → reply_from (a ++ r) at marks core request ≡ reply_from r place marks core request
  unfolding reply_from
  right_reply (Load width addr) a r at place e = right_number a r at place width e
  right_reply (Store width addr value) a r at place e = refl
  right_reply (Lr width addr) a r at place e = right_number a r at place width e
  right_reply (Sc width paired addr value) a r at place e = refl
  right_reply (Amo width op addr value) a r at place e = right_number a r at place width e
  right_reply (Fetch addr) a r at place e = refl

-- ---- pieces, of which one changes
pub flat_same : (f g : ℕ → List ℕ) (xs : List ℕ) → ((i : ℕ) → i < length xs → g (get_or xs i 0) ≡ f (get_or xs i 0)) → flat_map g xs ≡ flat_map f xs
flat_same f g [] same = refl
flat_same f g (x ∷ xs) same =
    flat_map-cons g x xs
    ∙ (ap (λ (p : List ℕ). p ++ flat_map g xs) (same 0 (omega arith))
    ∙ (ap (λ (p : List ℕ). f x ++ p) (flat_same f g xs (λ i l. same (suc i) (omega arith)))
    ∙ sym (flat_map-cons f x xs)))

module _ (marks : List (Option Reservation)) (core : ℕ) (request : Request) (place : ℕ) (fits : place + width_of request ≤ line_bytes) (f : ℕ → List ℕ) where
  pub pieces_after : (g : ℕ → List ℕ) (xs : List ℕ) (j at : ℕ) → j < length xs → at ≡ line_bytes * j + place → ((i : ℕ) → i < length xs → length (f (get_or xs i 0)) ≡ line_bytes)
      → g (get_or xs j 0) ≡ bytes_after (f (get_or xs j 0)) place marks core request → ((i : ℕ) → i < length xs → i ≢ j → g (get_or xs i 0) ≡ f (get_or xs i 0))
      → flat_map g xs ≡ bytes_after (flat_map f xs) at marks core request
  pieces_after g [] j at l e long here same = absurd (omega arith)
  pieces_after g (x ∷ xs) zero at l e long here same =
      let start : place ≡ at = omega arith in
      flat_map-cons g x xs
      ∙ (ap (λ (p : List ℕ). p ++ flat_map g xs) here
      ∙ (ap (λ (p : List ℕ). bytes_after (f x) place marks core request ++ p) (flat_same f g xs (λ i l. same (suc i) (omega arith) (omega arith)))
      ∙ (sym (left_after marks core request (f x) (flat_map f xs) place (omega (arith, fits, long 0 (omega arith))))
      ∙ (ap (λ (n : ℕ). bytes_after (f x ++ flat_map f xs) n marks core request) start
      ∙ ap (λ (b : List ℕ). bytes_after b at marks core request) (sym (flat_map-cons f x xs))))))
  pieces_after g (x ∷ xs) (suc j) at l e long here same =
      let rest : ℕ = line_bytes * j + place in
      let step : at ≡ length (f x) + rest = omega (arith, e, long 0 (omega arith)) in
      flat_map-cons g x xs
      ∙ (ap (λ (p : List ℕ). p ++ flat_map g xs) (same 0 (omega arith) (omega arith))
      ∙ (ap (λ (p : List ℕ). f x ++ p) (pieces_after g xs j rest (omega arith) refl (λ i l. long (suc i) (omega arith)) here (λ i l apart. same (suc i) (omega arith) (λ z. apart (omega arith))))
      ∙ (sym (right_after marks core request (f x) (flat_map f xs) at rest step)
      ∙ ap (λ (b : List ℕ). bytes_after b at marks core request) (sym (flat_map-cons f x xs)))))

  pub pieces_reply : (xs : List ℕ) (j at : ℕ) → j < length xs → at ≡ line_bytes * j + place → ((i : ℕ) → i < length xs → length (f (get_or xs i 0)) ≡ line_bytes)
      → reply_from (flat_map f xs) at marks core request ≡ reply_from (f (get_or xs j 0)) place marks core request
  pieces_reply [] j at l e long = absurd (omega arith)
  pieces_reply (x ∷ xs) zero at l e long =
      let start : at ≡ place = omega arith in
      ap (λ (b : List ℕ). reply_from b at marks core request) (flat_map-cons f x xs)
      ∙ (ap (λ (n : ℕ). reply_from (f x ++ flat_map f xs) n marks core request) start
      ∙ left_reply marks core request (f x) (flat_map f xs) place (omega (arith, fits, long 0 (omega arith))))
  pieces_reply (x ∷ xs) (suc j) at l e long =
      let rest : ℕ = line_bytes * j + place in
      let step : at ≡ length (f x) + rest = omega (arith, e, long 0 (omega arith)) in
      ap (λ (b : List ℕ). reply_from b at marks core request) (flat_map-cons f x xs)
      ∙ (right_reply marks core request (f x) (flat_map f xs) at rest step
      ∙ pieces_reply xs j rest (omega arith) refl (λ i l. long (suc i) (omega arith)))

-- a byte of a piece
pub pieces_byte : (f : ℕ → List ℕ) (xs : List ℕ) (j place at : ℕ) → j < length xs → place < line_bytes → at ≡ line_bytes * j + place → ((i : ℕ) → i < length xs → length (f (get_or xs i 0)) ≡ line_bytes)
    → get_or (flat_map f xs) at 0 ≡ get_or (f (get_or xs j 0)) place 0
pieces_byte f [] j place at l fits e long = absurd (omega arith)
pieces_byte f (x ∷ xs) zero place at l fits e long =
    let start : at ≡ place = omega arith in
    ap (λ (b : List ℕ). get_or b at 0) (flat_map-cons f x xs)
    ∙ (ap (λ (n : ℕ). get_or (f x ++ flat_map f xs) n 0) start
    ∙ get_or_append_left (f x) (flat_map f xs) 0 place (omega (arith, fits, long 0 (omega arith))))
pieces_byte f (x ∷ xs) (suc j) place at l fits e long =
    let rest : ℕ = line_bytes * j + place in
    let step : at ≡ length (f x) + rest = omega (arith, e, long 0 (omega arith)) in
    ap (λ (b : List ℕ). get_or b at 0) (flat_map-cons f x xs)
    ∙ (ap (λ (n : ℕ). get_or (f x ++ flat_map f xs) n 0) step
    ∙ (get_or-append-add (f x) (flat_map f xs) rest 0
    ∙ pieces_byte f xs j place rest (omega arith) fits refl (λ i l. long (suc i) (omega arith))))
