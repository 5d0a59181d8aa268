-- What the checks say of the numbers that pass them.
use Rattle.std.proofs.Common.{◌≡◌, ℕ, zero, suc, ◌+◌, ◌*◌, ◌%◌, ◌<◌, ◌≤◌, Bool, true, false, not, ◌==◌, ◌&&◌, nat_le, ℤ, pos, negsuc, List, [], ◌∷◌, ◌++◌, length, get_or, All, Option, Some, None, option_map, option_and_then, unwrap_or, position, Ok, inl, inr, refl, sym, ◌∙◌, arith}
use Rattle.std.specs.Option.{option_or, option_map_or}
use Rattle.std.proofs.lemmas.Bool.Decides.{nat_tests}
use Rattle.std.proofs.lemmas.Bool.{and_parts, cases_Bool}
use Rattle.std.specs.List.{find, position_from}
use Rattle.std.proofs.lemmas.Iterator.Adapters.{position_from-zero}
use Rattle.toml.specs.Data.{Data, Members, as_integer}
use Rattle.machine_desc.specs.Keys.{KeyPath, Range, Check, Ratio, is_integer, is_share, is_at_least, is_array}
use Rattle.machine_desc.specs.Text.{natural, integer_at, natural_of, integers_at, array_integers, value_at}
use Rattle.machine_desc.specs.Description.{is_in_range, is_share_of, is_no_less, unless, bad_integer, bad_array, bad_value, refusal_of, check_refusal, checks_refusal, ratio_refusal, ratios_refusal, is_below}
use Rattle.machine_desc.specs.Answers.{passed_unless}
use Rattle.machine_desc.specs.declared.checks.BadValue.{BadValue}
use Rattle.machine_desc.specs.declared.checks.BadValue.TheVariants.{OtherKind, OutOfRange}
use Rattle.machine_desc.specs.declared.errors.BadMachine.{BadMachine}

-- neither of two finds anything
pub first_none : {A : Type 0} (a b : Option A) → option_or a b ≡ None → a ≡ None
first_none None b h = refl
first_none (Some x) b h = cc

pub second_none : {A : Type 0} (a b : Option A) → option_or a b ≡ None → b ≡ None
second_none None b h = h
second_none (Some x) b h = cc

-- a check that passed found nothing
pub refusal_none : (wrong : Option BadMachine) (x : Unit {0}) → passed_unless wrong ≡ Ok x → wrong ≡ None
refusal_none None x h = refl
refusal_none (Some bad) x h = cc

-- neither of two lists of checks finds anything
pub checks_none-append : (document : Members) (xs ys : List Check) → checks_refusal document (xs ++ ys) ≡ None
    → (checks_refusal document xs ≡ None) × (checks_refusal document ys ≡ None)
checks_none-append document [] ys h = (refl, h)
checks_none-append document (x ∷ xs) ys h =
    let rest = checks_none-append document xs ys (second_none (check_refusal document x) _ h) in
    (rw (first_none (check_refusal document x) _ h) rest.0, rest.1)

-- the check of a key finds nothing where its list finds nothing
pub check_none : (document : Members) (cs : List Check) (p : Check → Bool) (c : Check) → checks_refusal document cs ≡ None → find p cs ≡ Some c → check_refusal document c ≡ None
check_none document [] p c h found = cc
check_none document (x ∷ xs) p c h found =
    elim (cases_Bool (p x)) [
      | inl passes ↦ let same = rw passes at found in let is : x ≡ c = cc in rw (← is) (first_none _ _ h)
      | inr other ↦ check_none document xs p c (second_none (check_refusal document x) _ h) (rw other at found)
    ]

-- some integer that passes the test is the number
abbrev pub Passes : (ℤ → Bool) → ℕ → Type 0
Passes is_good n = (z : ℤ) × ((is_good z ≡ true) × (n ≡ natural z))

unless_none : {F : Type 0} (b : Bool) (wrong : F) → unless b wrong ≡ None → b ≡ true
unless_none true wrong h = refl
unless_none false wrong h = cc

pub map_none : {A B : Type 0} (f : A → B) (o : Option A) → option_map f o ≡ None → o ≡ None
map_none f None h = refl
map_none f (Some x) h = cc

integer_passes : (is_good : ℤ → Bool) (o : Option ℤ) → option_map_or (λ z. unless (is_good z) (OutOfRange z)) o (Some OtherKind) ≡ None → Passes is_good (option_map_or natural o 0)
integer_passes is_good None h = cc
integer_passes is_good (Some z) h = (z, (unless_none (is_good z) _ h, refl))

value_passes : (is_good : ℤ → Bool) (refusal : BadValue → BadMachine) (missing : BadMachine) (o : Option Data)
    → option_map_or (λ d. option_map refusal (bad_integer is_good d)) o (Some missing) ≡ None → Passes is_good (option_map_or natural_of o 0)
value_passes is_good refusal missing None h = cc
value_passes is_good refusal missing (Some d) h = integer_passes is_good (as_integer d) (map_none refusal _ h)

-- the number is in the range
pub record IsInItsRange (range : Range) (n : ℕ) : Type 0 where
  pub low : range.low ≤ n
  pub high : n ≤ range.high
  pub step : n % range.step ≡ 0

from_range : (range : Range) (z : ℤ) → is_in_range range z ≡ true → IsInItsRange range (natural z)
from_range range (pos n) h =
    let (ends, step) = and_parts (nat_le range.low n && nat_le n range.high) (n % range.step == 0) h in
    let (low, high) = and_parts (nat_le range.low n) (nat_le n range.high) ends in
    record { low = grind (arith, nat_tests); high = grind (arith, nat_tests); step = grind (arith, nat_tests) }
from_range range (negsuc n) h = cc

pub integer_holds : (document : Members) (key : KeyPath) (range : Range) → check_refusal document (record { key = key; rule = is_integer range }) ≡ None → IsInItsRange range (integer_at document key)
unfolding check_refusal bad_value integer_at
integer_holds document key range h =
    let (z, passes) = value_passes (is_in_range range) (refusal_of key) _ (value_at document key) h in
    rw passes.1 (from_range range z passes.0)

pub share_holds : (document : Members) (key : KeyPath) (range : Range) (times whole : KeyPath) → check_refusal document (record { key = key; rule = is_share range times whole }) ≡ None
    → IsInItsRange range (integer_at document key) × (integer_at document times * integer_at document key ≤ integer_at document whole)
unfolding check_refusal bad_value integer_at
share_holds document key range times whole h =
    let (z, passes) = value_passes (λ z. is_in_range range z && is_share_of (integer_at document times) (integer_at document whole) z) (refusal_of key) _ (value_at document key) h in
    let (inside, share) = and_parts _ _ passes.0 in
    rw passes.1 (from_range range z inside, grind (arith, nat_tests))

pub at_least_holds : (document : Members) (key : KeyPath) (range : Range) (least : KeyPath) → check_refusal document (record { key = key; rule = is_at_least range least }) ≡ None
    → IsInItsRange range (integer_at document key) × (integer_at document least ≤ integer_at document key)
unfolding check_refusal bad_value integer_at
at_least_holds document key range least h =
    let (z, passes) = value_passes (λ z. is_in_range range z && is_no_less (integer_at document least) z) (refusal_of key) _ (value_at document key) h in
    let (inside, no_less) = and_parts _ _ passes.0 in
    rw passes.1 (from_range range z inside, grind (arith, nat_tests))

array_long : (count : ℕ) (o : Option (List ℤ)) → option_map_or (λ zs. unless (length zs == count) (OutOfRange (pos (length zs)))) o (Some OtherKind) ≡ None → length (unwrap_or o []) ≡ count
array_long count None h = cc
array_long count (Some zs) h =
    let same = unless_none (length zs == count) _ h in
    grind (arith, nat_tests)

array_passes : (count : ℕ) (refusal : BadValue → BadMachine) (missing : BadMachine) (o : Option Data)
    → option_map_or (λ d. option_map refusal (bad_array count d)) o (Some missing) ≡ None → length (unwrap_or (option_and_then array_integers o) []) ≡ count
array_passes count refusal missing None h = cc
array_passes count refusal missing (Some d) h = array_long count (array_integers d) (map_none refusal _ h)

pub array_holds : (document : Members) (key count : KeyPath) → check_refusal document (record { key = key; rule = is_array count }) ≡ None → length (integers_at document key) ≡ integer_at document count
unfolding check_refusal bad_value integers_at
array_holds document key count h = array_passes (integer_at document count) (refusal_of key) _ (value_at document key) h

-- the ratio of a key finds nothing where its list finds nothing
pub ratio_none : (document : Members) (rs : List Ratio) (p : Ratio → Bool) (r : Ratio) → ratios_refusal document rs ≡ None → find p rs ≡ Some r → ratio_refusal document r ≡ None
ratio_none document [] p r h found = cc
ratio_none document (x ∷ xs) p r h found =
    elim (cases_Bool (p x)) [
      | inl passes ↦ let same = rw passes at found in let is : x ≡ r = cc in rw (← is) (first_none _ _ h)
      | inr other ↦ ratio_none document xs p r (second_none (ratio_refusal document x) _ h) (rw other at found)
    ]

pub ratio_holds : (document : Members) (r : Ratio) → ratio_refusal document r ≡ None → integer_at document r.key % integer_at document r.divisor ≡ 0
ratio_holds document r h =
    let divides = unless_none (integer_at document r.key % integer_at document r.divisor == 0) _ h in
    grind (arith, nat_tests)

-- where no element passes, each fails
position_from_none : {X : Type 0} (p : X → Bool) (i : ℕ) (xs : List X) → position_from p i xs ≡ None → (k : ℕ) (d : X) → k < length xs → p (get_or xs k d) ≡ false
position_from_none p i [] h k d within = absurd (omega arith)
position_from_none p i (x ∷ xs) h zero d within =
    elim (cases_Bool (p x)) [ inl passes ↦ let there = rw passes at h in cc | inr fails ↦ fails ]
position_from_none p i (x ∷ xs) h (suc k) d within =
    elim (cases_Bool (p x)) [
      | inl passes ↦ let there = rw passes at h in cc
      | inr fails ↦ position_from_none p (i + 1) xs (rw fails at h) k d (omega arith)
    ]

from_below : (count : ℕ) (z : ℤ) → not (is_below count z) ≡ false → natural z < count
from_below count (pos n) h = grind (arith, nat_tests)
from_below count (negsuc n) h = cc

-- every domain is below the count, where none is outside
pub domains_hold : (count : ℕ) (zs : List ℤ) → position (λ z. not (is_below count z)) zs ≡ None → All (λ z. natural z < count) zs
domains_hold count zs h = λ k d within.
    from_below count (get_or zs k d) (position_from_none (λ z. not (is_below count z)) 0 zs (sym (position_from-zero _ zs) ∙ h) k d within)
