-- The bytes of numbers, in the words of a core and in those of memory.
use Rattle.std.proofs.Common.{◌≡◌, ◌<◌, ◌≤◌, ◌+◌, ◌-◌, ◌*◌, ◌/◌, ◌%◌, ◌^◌, ◌∙◌, ℕ, zero, suc, List, [], ◌∷◌, ◌++◌, All, length, take, drop, inl, inr, refl, sym, ap, arith}
use Rattle.std.specs.Prelude.{slice_index}
use Rattle.std.specs.Int.{byte_at, bytes_low_first}
use Rattle.std.proofs.Math.Nat.{div-div-eq-div-mul, pow-le-pow_right, pow-succ'}
use Rattle.std.proofs.lemmas.Bool.{cases_lt}
use Rattle.std.proofs.lemmas.List.{append_assoc, drop-drop, drop_at, get_or_past, length-append, length-drop, length-take-le, take_at}
use Rattle.std.proofs.lemmas.Nat.{mod-pow-add}
use Rattle.byteorder.specs.Endian.{little_bytes, little_number}
use Rattle.byteorder.specs.Numbers.{length-bytes_low_first, little_from-cons, little_from-lt, little_from-take}
use Rattle.flat_memory.specs.FlatMemory.{number_in, with_number}
use Rattle.rv_core.specs.Laws.{bytes_of, number_of_bytes}

-- ---- the bytes of a number

byte-above : (i x : ℕ) → byte_at (suc i) x ≡ byte_at i (x / 256)
byte-above zero x = refl
byte-above (suc i) x =
    ap (λ (y : ℕ). y % 256) (ap (λ (p : ℕ). x / p) (pow-succ' 256 (suc i)) ∙ sym (div-div-eq-div-mul x 256 (256 ^ suc i)))

bytes-above : (i count x : ℕ) → bytes_low_first (suc i) count x ≡ bytes_low_first i count (x / 256)
bytes-above i zero x = refl
bytes-above i (suc count) x = rw (byte-above i x, bytes-above (suc i) count x) refl

pub same-bytes : (count x : ℕ) → little_bytes count x ≡ bytes_of count x
same-bytes zero x = refl
same-bytes (suc count) x = ap (λ bytes. x % 256 ∷ bytes) (bytes-above 0 count x ∙ same-bytes count (x / 256))

-- ---- the number of bytes

same-number : (count : ℕ) (xs : List ℕ) → count ≤ length xs → little_number count xs ≡ number_of_bytes (take count xs)
same-number zero xs h = refl
same-number (suc count) [] h = absurd (omega arith)
same-number (suc count) (x ∷ xs) h = ap (λ n. x + 256 * n) (little_from-cons 0 count x xs ∙ same-number count xs (omega arith))

pub number-read : (bytes : List ℕ) (place width : ℕ) → place + width ≤ length bytes → number_in bytes place width ≡ number_of_bytes (take width (drop place bytes))
unfolding number_in
number-read bytes place width h = same-number width (drop place bytes) (simp length-drop (omega arith))

each-below : (xs : List ℕ) → All (λ byte. byte < 256) xs → (k : ℕ) → slice_index xs k < 256
each-below xs all k =
    elim (cases_lt k (length xs)) [
      | inl within ↦ all k 0 within
      | inr past ↦ omega (arith, get_or_past xs k 0 past)
    ]

-- a number of at most eight bytes is one of 64 bits
pub number-below : (bytes : List ℕ) (place width : ℕ) → width ≤ 8 → All (λ byte. byte < 256) (take width (drop place bytes)) → number_in bytes place width < 2 ^ 64
unfolding number_in
number-below bytes place width few all =
    let here : little_number width (take width (drop place bytes)) ≡ little_number width (drop place bytes) = little_from-take 0 width width (drop place bytes) (omega arith) in
    let below : little_number width (take width (drop place bytes)) < 256 ^ width = little_from-lt 0 width (take width (drop place bytes)) (each-below (take width (drop place bytes)) all) in
    let most : 256 ^ width ≤ 256 ^ 8 = pow-le-pow_right {n = 256} (omega arith) few in
    omega (arith, here, below, most)

-- ---- numbers that are written one after the other

pub written-twice : (bytes : List ℕ) (place a b x y : ℕ) → place + (a + b) ≤ length bytes
    → with_number (with_number bytes place a x) (place + a) b y ≡ take place bytes ++ ((little_bytes a x ++ little_bytes b y) ++ drop (place + (a + b)) bytes)
unfolding with_number
written-twice bytes place a b x y h =
    let front = take place bytes ++ little_bytes a x in
    let rest = drop (place + a) bytes in
    let long : length (take place bytes) ≡ place = length-take-le place bytes (omega (arith, h)) in
    let size : length (little_bytes a x) ≡ a = length-bytes_low_first 0 a x in
    let seam : length front ≡ place + a = length-append (take place bytes) (little_bytes a x) ∙ omega (arith, long, size) in
    let once : take place bytes ++ (little_bytes a x ++ rest) ≡ front ++ rest = sym (append_assoc (take place bytes) (little_bytes a x) rest) in
    let before : take (place + a) (take place bytes ++ (little_bytes a x ++ rest)) ≡ front = ap (take (place + a)) once ∙ take_at front rest (place + a) seam in
    let after : drop (place + a) (take place bytes ++ (little_bytes a x ++ rest)) ≡ rest = ap (drop (place + a)) once ∙ drop_at front rest (place + a) seam in
    let sum : place + a + b ≡ place + (a + b) = omega arith in
    let behind : drop (place + a + b) (take place bytes ++ (little_bytes a x ++ rest)) ≡ drop (place + (a + b)) bytes =
    sym (drop-drop b (place + a) (take place bytes ++ (little_bytes a x ++ rest))) ∙ ap (drop b) after ∙ drop-drop b (place + a) bytes ∙ ap (λ n. drop n bytes) sum in
    ap (λ first. first ++ (little_bytes b y ++ drop (place + a + b) (take place bytes ++ (little_bytes a x ++ rest)))) before
    ∙ ap (λ last. front ++ (little_bytes b y ++ last)) behind
    ∙ append_assoc (take place bytes) (little_bytes a x) (little_bytes b y ++ drop (place + (a + b)) bytes)
    ∙ ap (λ last. take place bytes ++ last) (sym (append_assoc (little_bytes a x) (little_bytes b y) (drop (place + (a + b)) bytes)))

pub with_number-length : (bytes : List ℕ) (place width x : ℕ) → place + width ≤ length bytes → length (with_number bytes place width x) ≡ length bytes
unfolding with_number
with_number-length bytes place width x h =
    let front : length (take place bytes) ≡ place = length-take-le place bytes (omega (arith, h)) in
    let size : length (little_bytes width x) ≡ width = length-bytes_low_first 0 width x in
    let behind : length (drop (place + width) bytes) ≡ length bytes - (place + width) = length-drop (place + width) bytes in
    length-append (take place bytes) (little_bytes width x ++ drop (place + width) bytes)
    ∙ ap (λ n. length (take place bytes) + n) (length-append (little_bytes width x) (drop (place + width) bytes))
    ∙ omega (arith, front, size, behind, h)

-- ---- a number that is read where it was written

-- the bytes that were written are bytes
pub bytes-below : (count x : ℕ) → All (λ byte. byte < 256) (bytes_of count x)
bytes-below zero x k d below = absurd (omega (arith, below))
bytes-below (suc count) x zero d below = omega arith
bytes-below (suc count) x (suc k) d below = bytes-below count (x / 256) k d (omega (arith, below))

pub read-back : (bytes : List ℕ) (place width x : ℕ) → place ≤ length bytes → take width (drop place (with_number bytes place width x)) ≡ bytes_of width x
unfolding with_number
read-back bytes place width x h =
    let rest = little_bytes width x ++ drop (place + width) bytes in
    let long : length (take place bytes) ≡ place = length-take-le place bytes h in
    let behind : drop place (take place bytes ++ rest) ≡ rest = drop_at (take place bytes) rest place long in
    ap (take width) behind ∙ take_at (little_bytes width x) (drop (place + width) bytes) width (length-bytes_low_first 0 width x) ∙ same-bytes width x

pub number_of-bytes : (count x : ℕ) → number_of_bytes (bytes_of count x) ≡ x % 2 ^ (8 * count)
number_of-bytes zero x = omega arith
number_of-bytes (suc count) x =
    let more : 8 * suc count ≡ 8 * count + 8 = omega arith in
    let split : x % 2 ^ (8 * suc count) ≡ x / 256 % 2 ^ (8 * count) * 256 + x % 256 = ap (λ k. x % 2 ^ k) more ∙ mod-pow-add x (8 * count) 8 in
    let rest = number_of-bytes count (x / 256) in
    omega (arith, split, rest)
