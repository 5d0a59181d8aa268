-- A line's bytes after those of a line came home.
use Rattle.std.proofs.Common.{◌≡◌, ◌≢◌, ℕ, zero, suc, ◌+◌, ◌*◌, ◌/◌, ◌%◌, ◌<◌, ◌≤◌, List, [], ◌∷◌, ◌++◌, length, take, drop, refl, sym, ap, ◌∙◌, arith, inl, inr}
use Rattle.std.proofs.Math.Seq.{take-append_seam}
use Rattle.std.proofs.Math.Nat.{div-add-mod}
use Rattle.std.proofs.lemmas.Bool.{cases_lt}
use Rattle.zs_num.specs.Request.{line_bytes}
use Rattle.home.specs.HomeState.{HomeState, bytes_at, line_place, with_bytes_at}
use Rattle.shard.specs.PartsLaws.{IsInMemory}

pub here : (a : ℕ) (all x rest : List ℕ) → a ≤ length all → take (length x) (drop a (take a all ++ (x ++ rest))) ≡ x
here zero all x rest l = take-append_seam x rest
here (suc a) [] x rest l = absurd (omega arith)
here (suc a) (y ∷ all) x rest l = here a all x rest (omega arith)

first_of : (n a : ℕ) (all rest : List ℕ) → n ≤ a → a ≤ length all → take n (take a all ++ rest) ≡ take n all
first_of zero a all rest h l = refl
first_of (suc n) zero all rest h l = absurd (omega arith)
first_of (suc n) (suc a) [] rest h l = absurd (omega arith)
first_of (suc n) (suc a) (y ∷ all) rest h l = ap (λ (ys : List ℕ). y ∷ ys) (first_of n a all rest (omega arith) (omega arith))

pub in_front : (n q a : ℕ) (all rest : List ℕ) → q + n ≤ a → a ≤ length all → take n (drop q (take a all ++ rest)) ≡ take n (drop q all)
in_front n zero a all rest h l = first_of n a all rest (omega arith) l
in_front n (suc q) zero all rest h l = absurd (omega arith)
in_front n (suc q) (suc a) [] rest h l = absurd (omega arith)
in_front n (suc q) (suc a) (y ∷ all) rest h l = in_front n q a all rest (omega arith) (omega arith)

-- from a place on behind those that were written
past : (x all : List ℕ) (q e : ℕ) → e ≡ length x → e ≤ q → drop q (x ++ drop e all) ≡ drop q all
past [] all q zero same h = refl
past [] all q (suc e) same h = absurd (omega arith)
past (y ∷ x) all q zero same h = absurd (omega arith)
past (y ∷ x) [] zero (suc e) same h = absurd (omega arith)
past (y ∷ x) (z ∷ all) zero (suc e) same h = absurd (omega arith)
past (y ∷ x) [] (suc q) (suc e) same h = past_none x q (omega arith) where
  past_none : (x : List ℕ) (q : ℕ) → length x ≤ q → drop q (x ++ []) ≡ []
  past_none [] zero h = refl
  past_none [] (suc q) h = refl
  past_none (y ∷ x) zero h = absurd (omega arith)
  past_none (y ∷ x) (suc q) h = past_none x q (omega arith)
past (y ∷ x) (z ∷ all) (suc q) (suc e) same h = past x all q e (omega arith) (omega arith)

pub behind : (q a e : ℕ) (all x : List ℕ) → a ≤ length all → e ≡ a + length x → e ≤ q → drop q (take a all ++ (x ++ drop e all)) ≡ drop q all
behind q zero e all x l same h = past x all q e (omega arith) h
behind q (suc a) e [] x l same h = absurd (omega arith)
behind q (suc a) zero (y ∷ all) x l same h = absurd (omega arith)
behind zero (suc a) (suc e) (y ∷ all) x l same h = absurd (omega arith)
behind (suc q) (suc a) (suc e) (y ∷ all) x l same h = behind q a e all x (omega arith) (omega arith) (omega arith)

-- ---- at home
pub bytes_same_line : (home : HomeState) (line : ℕ) (bytes : List ℕ) → IsInMemory home line → length bytes ≡ line_bytes → bytes_at (with_bytes_at line bytes home) line ≡ bytes
unfolding bytes_at with_bytes_at
bytes_same_line home line bytes inside long =
    let a : ℕ = line_place home line in
    let rest : List ℕ = drop (a + line_bytes) home.bytes in
    ap (λ (n : ℕ). take n (drop a (take a home.bytes ++ (bytes ++ rest)))) (sym long) ∙ here a home.bytes bytes rest (omega (arith, inside.1))

-- two own lines in memory have places that don't meet
pub apart_places : (n base line q : ℕ) → 0 < n → line % n ≡ q % n → line ≢ q → line / n ≢ q / n
apart_places n base line q some same apart e =
    apart (sym (div-add-mod line n) ∙ (ap (λ (z : ℕ). n * z + line % n) e ∙ (ap (λ (z : ℕ). n * (q / n) + z) same ∙ div-add-mod q n)))

pub bytes_other_line : (home : HomeState) (line q : ℕ) (bytes : List ℕ) → 0 < home.shards → IsInMemory home line → IsInMemory home q → line % home.shards ≡ q % home.shards → line ≢ q → length bytes ≡ line_bytes
    → bytes_at (with_bytes_at line bytes home) q ≡ bytes_at home q
unfolding bytes_at with_bytes_at
bytes_other_line home line q bytes some inside inside_q same apart long =
    let a : ℕ = line_place home line in
    let b : ℕ = line_place home q in
    let places : line / home.shards ≢ q / home.shards = apart_places home.shards home.base line q some same apart in
    elim (cases_lt (line / home.shards) (q / home.shards)) as (λ _. take line_bytes (drop b (take a home.bytes ++ (bytes ++ drop (a + line_bytes) home.bytes))) ≡ take line_bytes (drop b home.bytes)) [
      | inl l ↦ ap (take line_bytes) (behind b a (a + line_bytes) home.bytes bytes (omega (arith, inside.1)) (omega (arith, long)) (omega (arith, l, inside.0, inside_q.0)))
      | inr g ↦
          let less : q / home.shards < line / home.shards = lower (q / home.shards) (line / home.shards) g places in
          in_front line_bytes b a home.bytes (bytes ++ drop (a + line_bytes) home.bytes) (omega (arith, less, inside.0, inside_q.0)) (omega (arith, inside.1))
    ] where
      lower : (x y : ℕ) → x ≤ y → y ≢ x → x < y
      lower x y h apart = elim (cases_lt x y) as (λ _. x < y) [
        | inl l ↦ l
        | inr g ↦ absurd (apart (omega arith))
      ]
