-- Numbers of one width, one after the other, and the bytes in which they stand.
use Rattle.std.proofs.Common.{◌≡◌, ℕ, zero, suc, ◌+◌, ◌*◌, ◌/◌, ◌%◌, ◌^◌, ◌<◌, ◌≤◌, false, List, [], ◌∷◌, ◌++◌, All, length, take, drop, get_or, inl, inr, refl, ap, sym, ◌∙◌, arith, length-append}
use Rattle.std.proofs.Math.Nat.{div-div-eq-div-mul, mul-suc, pow-succ'}
use Rattle.std.proofs.lemmas.Bool.{cases_lt, le-ltb, lt-ltb}
use Rattle.std.proofs.lemmas.List.{drop-drop, drop_at, get_or_past, length-drop, length-take-le, nil_from_length, take-append-drop}
use Rattle.std.proofs.lemmas.List.Elements.{All-drop, All-tail, All-take}
use Rattle.std.specs.Int.{byte_at, bytes_low_first}
use Rattle.std.specs.List.{flat_map}
use Rattle.byteorder.specs.Endian.{little_bytes, little_number}
use Rattle.byteorder.specs.Numbers.{length-bytes_low_first, little_from-cons, little_from-take, little_number-reads_back}
use Rattle.schedule_file.specs.ScheduleFile.{is_wide, numbers_of, width_for}

-- ---- one number

byte-above : (i x : ℕ) → byte_at (suc i) x ≡ byte_at i (x / 256)
byte-above zero x = refl
byte-above (suc i) x =
    ap (λ (y : ℕ). y % 256) (ap (λ (p : ℕ). x / p) (pow-succ' 256 (suc i)) ∙ sym (div-div-eq-div-mul x 256 (256 ^ suc i)))

bytes-above : (i count x : ℕ) → bytes_low_first (suc i) count x ≡ bytes_low_first i count (x / 256)
bytes-above i zero x = refl
bytes-above i (suc count) x = rw (byte-above i x, bytes-above (suc i) count x) refl

-- bytes are those of their number
pub number_written : (xs : List ℕ) → All (λ byte. byte < 256) xs → little_bytes (length xs) (little_number (length xs) xs) ≡ xs
number_written [] low = refl
number_written (x ∷ xs) low =
    let here : x < 256 = low 0 0 (omega arith) in
    let rest = little_number (length xs) xs in
    let all : little_number (length (x ∷ xs)) (x ∷ xs) ≡ x + 256 * rest = ap (λ n. x + 256 * n) (little_from-cons 0 (length xs) x xs) in
    let first : (x + 256 * rest) % 256 ≡ x = omega (arith, here) in
    let others : (x + 256 * rest) / 256 ≡ rest = omega (arith, here) in
    ap (little_bytes (length (x ∷ xs))) all
    ∙ (ap (λ byte. byte ∷ bytes_low_first 1 (length xs) (x + 256 * rest)) first
    ∙ ap (λ bytes. x ∷ bytes) (bytes-above 0 (length xs) (x + 256 * rest) ∙ (ap (bytes_low_first 0 (length xs)) others ∙ number_written xs (All-tail (λ byte. byte < 256) x xs low))))

pub each_below : (xs : List ℕ) → All (λ byte. byte < 256) xs → (k : ℕ) → get_or xs k 0 < 256
each_below xs low k =
    elim (cases_lt k (length xs)) [
      | inl within ↦ low k 0 within
      | inr past ↦ omega (arith, get_or_past xs k 0 past)
    ]

-- ---- numbers, read

pub length-numbers_of : (width count : ℕ) (bytes : List ℕ) → length (numbers_of width count bytes) ≡ count
length-numbers_of width zero bytes = refl
length-numbers_of width (suc count) bytes = ap suc (length-numbers_of width count (drop width bytes))

-- one more was read
pub numbers_on : (width count : ℕ) (bytes : List ℕ) → numbers_of width (suc count) bytes ≡ numbers_of width count bytes ++ little_number width (drop (width * count) bytes) ∷ []
numbers_on width zero bytes =
    let none : 0 ≡ width * 0 = omega arith in
    ap (λ n. little_number width (drop n bytes) ∷ []) none
numbers_on width (suc count) bytes =
    let past : width + width * count ≡ width * suc count = omega (arith, mul-suc width count) in
    ap (λ ns. little_number width bytes ∷ ns) (numbers_on width count (drop width bytes)
    ∙ ap (λ behind. numbers_of width count (drop width bytes) ++ little_number width behind ∷ []) (drop-drop (width * count) width bytes ∙ ap (λ n. drop n bytes) past))

-- those of one byte are the bytes
pub numbers_of_bytes : (bytes : List ℕ) → numbers_of 1 (length bytes) bytes ≡ bytes
numbers_of_bytes [] = refl
numbers_of_bytes (x ∷ xs) =
    let first : x + 256 * 0 ≡ x = omega arith in
    ap (λ n. n ∷ numbers_of 1 (length xs) xs) first ∙ ap (λ ns. x ∷ ns) (numbers_of_bytes xs)

-- the numbers of a list of version 1
pub narrow_numbers : (cores count : ℕ) (list : List ℕ) → is_wide cores ≡ false → length list ≡ width_for cores * count → list ≡ numbers_of (width_for cores) count list
unfolding width_for
narrow_numbers cores count list narrow long =
    let in_bytes : length list ≡ 1 * count = rw narrow at long in
    rw narrow (sym (ap (λ n. numbers_of 1 n list) (omega (arith, in_bytes)) ∙ numbers_of_bytes list))

-- ---- numbers, written

-- the number of a core fits in the width of its file
pub fits : (cores core : ℕ) → cores < 2 ^ 16 → core < cores → core < 256 ^ width_for cores
unfolding width_for is_wide
fits cores core small known =
    elim (cases_lt 64 cores) [
      | inl wide ↦ rw (lt-ltb 64 cores wide) (omega (arith, small, known))
      | inr narrow ↦ rw (le-ltb 64 cores narrow) (omega (arith, narrow, known))
    ]

pub length-written : (width : ℕ) (turns : List ℕ) → length (flat_map (little_bytes width) turns) ≡ width * length turns
length-written width [] = omega arith
length-written width (x ∷ xs) =
    length-append (little_bytes width x) (flat_map (little_bytes width) xs)
    ∙ omega (arith, length-bytes_low_first 0 width x, length-written width xs, mul-suc width (length xs))

-- they are read again
pub numbers_back : (width : ℕ) (turns : List ℕ) → All (λ core. core < 256 ^ width) turns → numbers_of width (length turns) (flat_map (little_bytes width) turns) ≡ turns
numbers_back width [] low = refl
numbers_back width (x ∷ xs) low =
    let rest = flat_map (little_bytes width) xs in
    ap (λ n. n ∷ numbers_of width (length xs) (drop width (little_bytes width x ++ rest))) (little_number-reads_back width x rest (low 0 0 (omega arith)))
    ∙ ap (λ ns. x ∷ ns) (ap (numbers_of width (length xs)) (drop_at (little_bytes width x) rest width (length-bytes_low_first 0 width x))
    ∙ numbers_back width xs (All-tail (λ core. core < 256 ^ width) x xs low))

-- the first number that bytes begin with is written as these
first_written : (width : ℕ) (bytes : List ℕ) → All (λ byte. byte < 256) bytes → width ≤ length bytes → little_bytes width (little_number width bytes) ≡ take width bytes
first_written width bytes low long =
    let first = take width bytes in
    let is : length first ≡ width = length-take-le width bytes long in
    ap (little_bytes width) (sym (little_from-take 0 width width bytes (omega arith)))
    ∙ (ap (λ n. little_bytes n (little_number n first)) (sym is) ∙ number_written first (All-take (λ byte. byte < 256) width bytes low))

-- the numbers of which bytes consist are written as these
pub numbers_written : (width count : ℕ) (bytes : List ℕ) → All (λ byte. byte < 256) bytes → length bytes ≡ width * count → flat_map (little_bytes width) (numbers_of width count bytes) ≡ bytes
numbers_written width zero bytes low long = sym (nil_from_length bytes (omega (arith, long)))
numbers_written width (suc count) bytes low long =
    let rest = drop width bytes in
    let within : width ≤ length bytes = omega (arith, long, mul-suc width count) in
    let left : length rest ≡ width * count = length-drop width bytes ∙ omega (arith, long, mul-suc width count) in
    ap (λ front. front ++ flat_map (little_bytes width) (numbers_of width count rest)) (first_written width bytes low within)
    ∙ (ap (λ behind. take width bytes ++ behind) (numbers_written width count rest (All-drop (λ byte. byte < 256) width bytes low) left)
    ∙ take-append-drop width bytes)
