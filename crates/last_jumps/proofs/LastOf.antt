-- The last ones of a list that grows at its end.
use Rattle.std.proofs.Common.{◌≡◌, ℕ, ◌+◌, ◌-◌, ◌≤◌, List, ◌++◌, drop, length, sym, ◌∙◌, ap, arith, length-append, length-drop}
use Rattle.std.proofs.lemmas.List.{drop-append-le, drop-drop}
use Rattle.profile_rows.specs.declared.halt_row.Jump.{Jump}
use Rattle.last_jumps.specs.Jumps.{last_of}

count : (all more most : ℕ) → (all - most) + (all - (all - most) + more - most) ≡ all + more - most
count all more most = omega arith

few : (all most : ℕ) → all - most ≤ all
few all most = omega arith

module _ (most : ℕ) (xs ys : List Jump) where
  abbrev past : ℕ
  past = length xs - most

  -- what comes behind the last ones
  behind : last_of most xs ++ ys ≡ drop past (xs ++ ys)
  behind = sym (drop-append-le past xs ys (few (length xs) most))

  long : length (last_of most xs ++ ys) ≡ length xs - past + length ys
  long = length-append (drop past xs) ys ∙ ap (λ (n : ℕ). n + length ys) (length-drop past xs)

  -- the last ones of the last ones and more are those of all and more
  pub last_more : last_of most (last_of most xs ++ ys) ≡ last_of most (xs ++ ys)
  last_more =
      ap (λ (n : ℕ). drop (n - most) (last_of most xs ++ ys)) long
      ∙ ap (λ (all : List Jump). drop (length xs - past + length ys - most) all) behind
      ∙ drop-drop (length xs - past + length ys - most) past (xs ++ ys)
      ∙ ap (λ (n : ℕ). drop n (xs ++ ys)) (count (length xs) (length ys) most)
      ∙ sym (ap (λ (n : ℕ). drop (n - most) (xs ++ ys)) (length-append xs ys))
