-- The header of a file, before what was added.
use Rattle.std.proofs.Common.{◌≡◌, ℕ, ◌+◌, ◌≤◌, List, [], ◌++◌, length, take, drop, ap, sym, ◌∙◌, arith}
use Rattle.std.proofs.lemmas.List.{drop-append-le, drop_all, drop_at, length-take, take-append-le, take-take, take_all, take_at}
use Rattle.byteorder.specs.Endian.{little_bytes}
use Rattle.certify.specs.EventsFile.{header_bytes}
use Rattle.certify.proofs.FileLengths.{header_length}

-- a file with no intervals
pub record IsNew (components : ℕ) (bytes : List ℕ) : Type 0 where
  pub header : take 16 bytes ≡ header_bytes components 0
  pub body : drop 16 bytes ≡ []

pub is_new : (components : ℕ) (bytes : List ℕ) → bytes ≡ header_bytes components 0 → IsNew components bytes
is_new components bytes is =
    let long : length bytes ≡ 16 = ap length is ∙ header_length components 0 in
    record { header = take_all 16 bytes (omega (arith, long)) ∙ is; body = drop_all 16 bytes (omega (arith, long)) }

-- the bytes begin with the header
pub long_enough : (components count : ℕ) (bytes : List ℕ) → take 16 bytes ≡ header_bytes components count → 16 ≤ length bytes
long_enough components count bytes is =
    let long : length (take 16 bytes) ≡ 16 = ap length is ∙ header_length components count in
    omega (arith, long, length-take 16 bytes)

-- with another number of intervals
counted : (components count next : ℕ) (bytes : List ℕ) → take 16 bytes ≡ header_bytes components count
    → take 12 bytes ++ (little_bytes 4 next ++ drop 16 bytes) ≡ header_bytes components next ++ drop 16 bytes
unfolding header_bytes
counted components count next bytes is =
    let first : take 12 bytes ≡ take 12 (header_bytes components count) = sym (take-take 12 16 bytes (omega arith)) ∙ ap (take 12) is in
    ap (λ front. front ++ (little_bytes 4 next ++ drop 16 bytes)) first

-- a file to which these bytes were added
pub record IsGrown (components count : ℕ) (before added bytes : List ℕ) : Type 0 where
  pub header : take 16 bytes ≡ header_bytes components (count + 1)
  pub body : drop 16 bytes ≡ drop 16 before ++ added

pub is_grown : (components count : ℕ) (before added grown bytes : List ℕ) → take 16 before ≡ header_bytes components count → grown ≡ before ++ added
    → bytes ≡ take 12 grown ++ (little_bytes 4 (count + 1) ++ drop 16 grown) → IsGrown components count before added bytes
is_grown components count before added grown bytes is more counts =
    let long : 16 ≤ length before = long_enough components count before is in
    let starts : take 16 grown ≡ header_bytes components count = ap (take 16) more ∙ (take-append-le 16 before added long ∙ is) in
    let whole : bytes ≡ header_bytes components (count + 1) ++ drop 16 grown = counts ∙ counted components count (count + 1) grown starts in
    let sixteen = header_length components (count + 1) in
    record {
      header = ap (take 16) whole ∙ take_at (header_bytes components (count + 1)) (drop 16 grown) 16 sixteen;
      body = ap (drop 16) whole ∙ (drop_at (header_bytes components (count + 1)) (drop 16 grown) 16 sixteen ∙ (ap (drop 16) more ∙ drop-append-le 16 before added long));
    }
