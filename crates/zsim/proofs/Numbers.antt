-- What `parse` reads of a word with decimal digits alone.
use Rattle.std.proofs.Common.{◌≡◌, ℕ, ◌<◌, ◌^◌, true, false, List, [], ◌∷◌, Some, None, arith, refl, sym, ap, subst, ◌∙◌, nat_lt, not, length}
use Rattle.std.specs.Char.{digit_value, is_ascii_digit}
use Rattle.std.specs.Int.{IsInRange}
use Rattle.std.specs.List.{list_all}
use Rattle.std.specs.Str.Parse.{AllDigits, IsNumeral, digits_value, without_leading_plus}
use Rattle.std.proofs.lemmas.Bool.{and_parts, false_from_ne_true, false≢true, leb-true, lt-ltb, ltb-true, ne_eqb}
use Rattle.std.proofs.lemmas.Str.{digit_value_digit}
use Rattle.clap.specs.Walk.{is_empty}
use Rattle.zsim.specs.CommandLine.{decimal_of, is_decimal}

digit_is_in_range : (d : ℕ) → is_ascii_digit d ≡ true → IsInRange 48 57 d
digit_is_in_range d h = let both = and_parts _ _ h in (leb-true 48 d both.0, leb-true d 57 both.1)

digit_is_below : (d : ℕ) → is_ascii_digit d ≡ true → digit_value d < 10
digit_is_below d h =
    let range = digit_is_in_range d h in
    let value = digit_value_digit d range in
    omega arith

digits_from : (ds : List ℕ) → list_all is_ascii_digit ds ≡ true → AllDigits 10 ds
digits_from [] h = tt
digits_from (d ∷ ds) h = let both = and_parts (is_ascii_digit d) _ h in (digit_is_below d both.0, digits_from ds both.1)

no_plus : (ds : List ℕ) → list_all is_ascii_digit ds ≡ true → without_leading_plus ds ≡ ds
no_plus [] h = refl
no_plus (d ∷ ds) h =
    let range = digit_is_in_range d (and_parts (is_ascii_digit d) _ h).0 in
    rw (ne_eqb d 43 (λ e. absurd (omega arith))) refl

nonempty : (word : List ℕ) → not (is_empty word) ≡ true → 0 < length word
nonempty [] h = absurd (false≢true h)
nonempty (d ∷ ds) h = omega arith

parts : (word : List ℕ) → is_decimal word ≡ true → (0 < length word) × (list_all is_ascii_digit word ≡ true)
unfolding is_decimal
parts word h =
    let both = and_parts (not (is_empty word)) _ h in
    let rest = and_parts (list_all is_ascii_digit word) _ both.1 in
    (nonempty word both.0, rest.0)

pub no_number : (word : List ℕ) → is_decimal word ≡ false → None ≡ decimal_of word
unfolding decimal_of
no_number word h = rw h refl

pub parsed : (word : List ℕ) (n : ℕ) → is_decimal word ≡ true
    → (IsNumeral 10 (without_leading_plus word) × (digits_value 10 (without_leading_plus word) < 2 ^ 64)) × (n ≡ digits_value 10 (without_leading_plus word))
    → Some n ≡ decimal_of word
unfolding decimal_of
parsed word n decimal h =
    let whole = no_plus word (parts word decimal).1 in
    let value : n ≡ digits_value 10 word = h.1 ∙ ap (digits_value 10) whole in
    let less : digits_value 10 word < 2 ^ 64 = subst (λ (ds : List ℕ). digits_value 10 ds < 2 ^ 64) whole h.0.1 in
    rw (decimal, lt-ltb (digits_value 10 word) (2 ^ 64) less) (ap Some value)

pub not_parsed : (word : List ℕ) → is_decimal word ≡ true
    → ¬ (IsNumeral 10 (without_leading_plus word) × (digits_value 10 (without_leading_plus word) < 2 ^ 64))
    → None ≡ decimal_of word
unfolding decimal_of
not_parsed word decimal h =
    let are = parts word decimal in
    let whole = no_plus word are.1 in
    let not_less : nat_lt (digits_value 10 word) (2 ^ 64) ≡ false = false_from_ne_true _ (λ t.
    h (subst (λ (ds : List ℕ). IsNumeral 10 ds × (digits_value 10 ds < 2 ^ 64)) (sym whole) ((are.0, digits_from word are.1), ltb-true _ _ t))) in
    rw (decimal, not_less) refl
