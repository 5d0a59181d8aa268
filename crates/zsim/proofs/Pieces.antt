-- What was taken of a text, and then of its rest.
use Rattle.std.proofs.Common.{◌≡◌, ℕ, ◌+◌, ◌-◌, List, ◌++◌, length, take, drop, sym, ◌∙◌, ap}
use Rattle.std.proofs.lemmas.List.{take_rest}
use Rattle.std.proofs.Math.Seq.{take-add}

-- the first of a text, and the first of the rest, are the first of it
pub take_more : (done n : ℕ) (text : List ℕ) → take done text ++ take n (take (length text - done) (drop done text)) ≡ take (done + n) text
take_more done n text = ap (λ rest. take done text ++ take n rest) (take_rest text done) ∙ sym (take-add done n text)
