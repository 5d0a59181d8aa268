-- Numbers and the bytes in which they stand.
use Rattle.std.proofs.Common.{◌≡◌, ℕ, zero, suc, ◌+◌, ◌*◌, ◌/◌, ◌%◌, ◌^◌, ◌<◌, ◌≤◌, List, [], ◌∷◌, ◌++◌, All, length, take, drop, get_or, inl, inr, refl, ap, sym, ◌∙◌, arith}
use Rattle.std.proofs.Math.Nat.{div-div-eq-div-mul, pow-succ'}
use Rattle.std.proofs.lemmas.Bool.{cases_lt}
use Rattle.std.proofs.lemmas.List.{drop-drop, get_or_past, length-drop, length-take-le, take-append-drop}
use Rattle.std.proofs.lemmas.List.Elements.{All-drop, All-tail, All-take}
use Rattle.std.specs.Int.{byte_at, bytes_low_first}
use Rattle.byteorder.specs.Endian.{little_bytes, little_number}
use Rattle.byteorder.specs.Numbers.{little_from-cons, little_from-take}

byte-above : (i x : ℕ) → byte_at (suc i) x ≡ byte_at i (x / 256)
byte-above zero x = refl
byte-above (suc i) x =
    ap (λ (y : ℕ). y % 256) (ap (λ (p : ℕ). x / p) (pow-succ' 256 (suc i)) ∙ sym (div-div-eq-div-mul x 256 (256 ^ suc i)))

bytes-above : (i count x : ℕ) → bytes_low_first (suc i) count x ≡ bytes_low_first i count (x / 256)
bytes-above i zero x = refl
bytes-above i (suc count) x = rw (byte-above i x, bytes-above (suc i) count x) refl

-- bytes are those of their number
pub number_written : (xs : List ℕ) → All (λ byte. byte < 256) xs → little_bytes (length xs) (little_number (length xs) xs) ≡ xs
number_written [] low = refl
number_written (x ∷ xs) low =
    let here : x < 256 = low 0 0 (omega arith) in
    let rest = little_number (length xs) xs in
    let all : little_number (length (x ∷ xs)) (x ∷ xs) ≡ x + 256 * rest = ap (λ n. x + 256 * n) (little_from-cons 0 (length xs) x xs) in
    let first : (x + 256 * rest) % 256 ≡ x = omega (arith, here) in
    let others : (x + 256 * rest) / 256 ≡ rest = omega (arith, here) in
    ap (little_bytes (length (x ∷ xs))) all
    ∙ (ap (λ byte. byte ∷ bytes_low_first 1 (length xs) (x + 256 * rest)) first
    ∙ ap (λ bytes. x ∷ bytes) (bytes-above 0 (length xs) (x + 256 * rest) ∙ (ap (bytes_low_first 0 (length xs)) others ∙ number_written xs (All-tail (λ byte. byte < 256) x xs low))))

pub each_below : (xs : List ℕ) → All (λ byte. byte < 256) xs → (k : ℕ) → get_or xs k 0 < 256
each_below xs low k =
    elim (cases_lt k (length xs)) [
      | inl within ↦ low k 0 within
      | inr past ↦ omega (arith, get_or_past xs k 0 past)
    ]

-- the first number that bytes begin with is written as these
first_written : (width : ℕ) (bytes : List ℕ) → All (λ byte. byte < 256) bytes → width ≤ length bytes → little_bytes width (little_number width bytes) ≡ take width bytes
first_written width bytes low long =
    let first = take width bytes in
    let is : length first ≡ width = length-take-le width bytes long in
    ap (little_bytes width) (sym (little_from-take 0 width width bytes (omega arith)))
    ∙ (ap (λ n. little_bytes n (little_number n first)) (sym is) ∙ number_written first (All-take (λ byte. byte < 256) width bytes low))

-- a number that was read at a place is written there, before what is behind it
pub written_at : (width at : ℕ) (bytes : List ℕ) (number : ℕ) (rest : List ℕ) → All (λ byte. byte < 256) bytes → at + width ≤ length bytes
    → number ≡ little_number width (drop at bytes) → rest ≡ drop (at + width) bytes → little_bytes width number ++ rest ≡ drop at bytes
written_at width at bytes number rest low within is behind =
    let here = drop at bytes in
    let long : width ≤ length here = rw length-drop (omega (arith, within)) in
    let next : rest ≡ drop width here = behind ∙ sym (drop-drop width at bytes) in
    ap (λ n. little_bytes width n ++ rest) is
    ∙ (ap (λ front. front ++ rest) (first_written width here (All-drop (λ byte. byte < 256) at bytes low) long)
    ∙ (ap (λ end. take width here ++ end) next ∙ take-append-drop width here))
