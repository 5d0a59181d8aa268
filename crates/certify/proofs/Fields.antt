-- The fields of a file: what is read at a place, and what is behind it.
use Rattle.std.proofs.Common.{◌≡◌, ℕ, ◌+◌, ◌-◌, ◌^◌, ◌<◌, ◌≤◌, Bool, true, false, cond, List, [], ◌++◌, All, length, take, drop, nat_le, Result, Ok, Err, refl, ap, sym, ◌∙◌, append-nil, arith, length-append}
use Rattle.std.proofs.lemmas.Bool.{leb-true, le-leb}
use Rattle.std.proofs.lemmas.List.{drop-drop, drop_at, length-drop, length-take-le, take_at, take-append-drop}
use Rattle.std.proofs.lemmas.List.Elements.{All-drop, All-take}
use Rattle.byteorder.specs.Endian.{little_bytes, little_number}
use Rattle.byteorder.specs.Numbers.{length-bytes_low_first, little_from-lt, little_number-reads_back}
use Rattle.certify.specs.declared.bad_events.BadEvents.{BadEvents}
use Rattle.certify.specs.EventsFile.{field_at, read_number, then_read}
use Rattle.certify.proofs.Bytes.{each_below, number_written}

-- ---- what was read before a result

-- a test passed
pub test_passed : {A : Type 0} (b : Bool) (r : Result A BadEvents) (wrong : BadEvents) (y : A) → cond b r (Err wrong) ≡ Ok y → (b ≡ true) × (r ≡ Ok y)
test_passed true r wrong y is = (refl, is)
test_passed false r wrong y is = cc

-- the first part was read, and gave this
pub first_read : {A B : Type 0} (r : Result A BadEvents) (f : A → Result B BadEvents) (y : B) → then_read r f ≡ Ok y → (x : A) × (r ≡ Ok x) × (f x ≡ Ok y)
first_read (Ok x) f y is = (x, refl, is)
first_read (Err wrong) f y is = cc

-- these bytes are there
pub record IsField (bytes : List ℕ) (at count : ℕ) (field : List ℕ) : Type 0 where
  pub within : at + count ≤ length bytes
  pub long : length field ≡ count
  pub ahead : drop at bytes ≡ field ++ drop (at + count) bytes

pub field_read : (bytes : List ℕ) (at count : ℕ) (field : List ℕ) → field_at bytes at count ≡ Ok field → IsField bytes at count field × (field ≡ take count (drop at bytes))
field_read bytes at count field is =
    let passed = test_passed (nat_le (at + count) (length bytes)) (Ok (take count (drop at bytes))) _ field is in
    let within : at + count ≤ length bytes = leb-true (at + count) (length bytes) passed.0 in
    let same : take count (drop at bytes) ≡ field = cc (passed.1) in (
      record {
        within = within;
        long = ap length (sym same) ∙ length-take-le count (drop at bytes) (rw length-drop (omega (arith, within)));
        ahead = sym (take-append-drop count (drop at bytes)) ∙ (ap (λ front. front ++ drop count (drop at bytes)) same ∙ ap (λ rest. field ++ rest) (drop-drop count at bytes));
      },
      sym same,
    )

-- the bytes of a field are bytes of the file
pub field_low : (bytes : List ℕ) (at count : ℕ) (field : List ℕ) → All (λ byte. byte < 256) bytes → field ≡ take count (drop at bytes) → All (λ byte. byte < 256) field
field_low bytes at count field low is = rw is (All-take (λ byte. byte < 256) count (drop at bytes) (All-drop (λ byte. byte < 256) at bytes low))

pub number_read : (bytes : List ℕ) (at number : ℕ) → All (λ byte. byte < 256) bytes → read_number bytes at ≡ Ok number → IsField bytes at 4 (little_bytes 4 number) × (number < 2 ^ 32)
number_read bytes at number low is =
    let read = first_read (field_at bytes at 4) (λ field. Ok (little_number 4 field)) number is in
    let field = read.0 in
    let has = field_read bytes at 4 field read.1 in
    let same : little_number 4 field ≡ number = cc (read.2) in
    let bytes_low = field_low bytes at 4 field low has.1 in
    let short : little_number 4 field < 256 ^ 4 = little_from-lt 0 4 field (each_below field bytes_low) in
    let written : little_bytes 4 number ≡ field = ap (little_bytes 4) (sym same) ∙ (ap (λ n. little_bytes n (little_number n field)) (sym has.0.long) ∙ number_written field bytes_low) in
    (rw written has.0, omega (arith, same, short))

-- ---- what is there is read

-- a field, and then the rest
pub record IsAhead (bytes : List ℕ) (at : ℕ) (field rest : List ℕ) : Type 0 where
  pub place : at ≤ length bytes
  pub ahead : drop at bytes ≡ field ++ rest

-- it lies in the file
is_within : (bytes : List ℕ) (at : ℕ) (field rest : List ℕ) → IsAhead bytes at field rest → at + length field ≤ length bytes
is_within bytes at field rest is =
    let long : length bytes - at ≡ length field + length rest = sym (length-drop at bytes) ∙ (ap length is.ahead ∙ length-append field rest) in
    omega (arith, long, is.place)

-- it is what is read there
pub field_is : (bytes : List ℕ) (at count : ℕ) (field rest : List ℕ) → IsAhead bytes at field rest → length field ≡ count → field_at bytes at count ≡ Ok field
field_is bytes at count field rest is long =
    let within : at + count ≤ length bytes = omega (arith, is_within bytes at field rest is, long) in
    rw (le-leb (at + count) (length bytes) within) (ap Ok (ap (take count) is.ahead ∙ take_at field rest count long))

-- and behind it is the rest
pub behind_is : (bytes : List ℕ) (at count : ℕ) (field next rest : List ℕ) → IsAhead bytes at field (next ++ rest) → length field ≡ count → IsAhead bytes (at + count) next rest
behind_is bytes at count field next rest is long = record {
  place = omega (arith, is_within bytes at field (next ++ rest) is, long);
  ahead = sym (drop-drop count at bytes) ∙ (ap (drop count) is.ahead ∙ drop_at field (next ++ rest) count long);
}

pub number_is : (bytes : List ℕ) (at number : ℕ) (rest : List ℕ) → IsAhead bytes at (little_bytes 4 number) rest → number < 2 ^ 32 → read_number bytes at ≡ Ok number
number_is bytes at number rest is low =
    let four : length (little_bytes 4 number) ≡ 4 = length-bytes_low_first 0 4 number in
    let back : little_number 4 (little_bytes 4 number) ≡ number =
    ap (little_number 4) (sym (append-nil (little_bytes 4 number))) ∙ little_number-reads_back 4 number [] low in
    ap (λ r. then_read r (λ field. Ok (little_number 4 field))) (field_is bytes at 4 (little_bytes 4 number) rest is four) ∙ ap Ok back
