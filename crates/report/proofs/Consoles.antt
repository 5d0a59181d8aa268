-- What is printed of bytes tells the bytes.
use Rattle.std.proofs.Common.{◌≡◌, ℕ, ◌/◌, ◌%◌, ◌<◌, true, List, [], ◌∷◌, ◌++◌, All, refl, sym, ap, ◌∙◌, inl, inr, arith}
use Rattle.std.proofs.lemmas.Bool.{cases_Bool}
use Rattle.std.proofs.lemmas.List.Elements.{All-head, All-tail}
use Rattle.report.specs.ReportText.{hex_digit, hexadecimal, is_printable, printed, printed_byte}

-- digits below 16 are told apart
digit_is : (a b : ℕ) → a < 16 → b < 16 → hex_digit a ≡ hex_digit b → a ≡ b
digit_is a b low high e = grind arith

-- a byte is its two digits
digits_are : (x y : ℕ) → x < 256 → y < 256 → x / 16 % 16 ≡ y / 16 % 16 → x % 16 ≡ y % 16 → x ≡ y
digits_are x y small other high low = omega arith

heads : (x y : ℕ) (xs ys : List ℕ) → x ∷ xs ≡ y ∷ ys → x ≡ y
heads x y xs ys e = cc

tails : (x y : ℕ) (xs ys : List ℕ) → x ∷ xs ≡ y ∷ ys → xs ≡ ys
tails x y xs ys e = cc

-- what does not print as itself prints with a backslash, which does not print as itself
not_backslash : (x : ℕ) → is_printable x ≡ true → x ≡ 92 → ⊥
not_backslash x prints is = let e : is_printable 92 ≡ true = ap is_printable (sym is) ∙ prints in cc

-- a printed byte is told apart from others, whatever follows
byte_is : (x y : ℕ) (xs ys : List ℕ) → x < 256 → y < 256 → printed_byte x ++ xs ≡ printed_byte y ++ ys → (x ≡ y) × (xs ≡ ys)
unfolding printed_byte
byte_is x y xs ys small other e = elim (cases_Bool (is_printable x)) [
  | inl p ↦ elim (cases_Bool (is_printable y)) [
    | inl q ↦ let same : x ∷ xs ≡ y ∷ ys = rw (p, q) at e in (heads x y xs ys same, tails x y xs ys same)
    | inr q ↦ let same : x ∷ xs ≡ 92 ∷ (120 ∷ (hexadecimal 2 y ++ ys)) = rw (p, q) at e in absurd (not_backslash x p (heads x 92 xs _ same))
  ]
  | inr p ↦ elim (cases_Bool (is_printable y)) [
    | inl q ↦ let same : 92 ∷ (120 ∷ (hexadecimal 2 x ++ xs)) ≡ y ∷ ys = rw (p, q) at e in absurd (not_backslash y q (sym (heads 92 y _ ys same)))
    | inr q ↦
        let same : 92 ∷ 120 ∷ hex_digit (x / 16 % 16) ∷ hex_digit (x % 16) ∷ xs ≡ 92 ∷ 120 ∷ hex_digit (y / 16 % 16) ∷ hex_digit (y % 16) ∷ ys = rw (p, q) at e in
        let digits : hex_digit (x / 16 % 16) ∷ hex_digit (x % 16) ∷ xs ≡ hex_digit (y / 16 % 16) ∷ hex_digit (y % 16) ∷ ys = tails _ _ _ _ (tails _ _ _ _ same) in
        let high : x / 16 % 16 ≡ y / 16 % 16 = digit_is _ _ (omega arith) (omega arith) (heads _ _ _ _ digits) in
        let rest : hex_digit (x % 16) ∷ xs ≡ hex_digit (y % 16) ∷ ys = tails _ _ _ _ digits in
        let low : x % 16 ≡ y % 16 = digit_is _ _ (omega arith) (omega arith) (heads _ _ _ _ rest) in
        (digits_are x y small other high low, tails _ _ _ _ rest)
  ]
]

-- a printed byte is something
some_byte : (x : ℕ) (xs : List ℕ) → [] ≡ printed_byte x ++ xs → ⊥
unfolding printed_byte
some_byte x xs e = elim (cases_Bool (is_printable x)) [
  | inl p ↦ let none : [] ≡ x ∷ xs = rw p at e in cc
  | inr p ↦ let none : [] ≡ 92 ∷ (120 ∷ (hexadecimal 2 x ++ xs)) = rw p at e in cc
]

abbrev IsByte : ℕ → Type 0
IsByte b = b < 256

pub printed_apart : (first second : List ℕ) → All IsByte first → All IsByte second → printed first ≡ printed second → first ≡ second
printed_apart [] [] a b e = refl
printed_apart [] (y ∷ ys) a b e = absurd (some_byte y (printed ys) e)
printed_apart (x ∷ xs) [] a b e = absurd (some_byte x (printed xs) (sym e))
printed_apart (x ∷ xs) (y ∷ ys) a b e =
    let parts = byte_is x y (printed xs) (printed ys) (All-head IsByte x xs a) (All-head IsByte y ys b) e in
    let rest = printed_apart xs ys (All-tail IsByte x xs a) (All-tail IsByte y ys b) parts.1 in
    rw (parts.0, rest) refl
