-- Stretches of a list that name one core.
use Rattle.std.proofs.Common.{◌≡◌, ℕ, ◌+◌, ◌<◌, ◌≤◌, get_or, List, [], ◌∷◌, ◌++◌, length, sym, take, ◌∙◌, ap, arith}
use Rattle.std.specs.Prelude.{replicate}
use Rattle.std.proofs.lemmas.List.{append_assoc, get_or-append-add, get_or-replicate, get_or-take, length-take-le, replicate-append-replicate, replicate_more, take-replicate, take-take}
use Rattle.std.proofs.Math.Seq.{take-append-add}

pub longer : (turns : List ℕ) (some more number : ℕ) → (turns ++ replicate some number) ++ replicate more number ≡ turns ++ replicate (some + more) number
longer turns some more number = append_assoc turns (replicate some number) (replicate more number) ∙ ap (λ (ns : List ℕ). turns ++ ns) (replicate-append-replicate some more number)

pub one_longer : (turns : List ℕ) (some number : ℕ) → (turns ++ replicate some number) ++ number ∷ [] ≡ turns ++ replicate (some + 1) number
one_longer turns some number = append_assoc turns (replicate some number) (number ∷ []) ∙ ap (λ (ns : List ℕ). turns ++ ns) (replicate_more some number)

-- two parts of a stretch before others
pub both : (some more number : ℕ) (rest : List ℕ) → replicate some number ++ (replicate more number ++ rest) ≡ replicate (some + more) number ++ rest
both some more number rest =
    sym (append_assoc (replicate some number) (replicate more number) rest) ∙ ap (λ (ns : List ℕ). ns ++ rest) (replicate-append-replicate some more number)

-- and a turn more
pub joined : (some more number : ℕ) (rest : List ℕ) → replicate some number ++ (replicate more number ++ number ∷ rest) ≡ replicate (some + more + 1) number ++ rest
joined some more number rest =
    both some more number (number ∷ rest)
    ∙ (sym (append_assoc (replicate (some + more) number) (number ∷ []) rest) ∙ ap (λ (ns : List ℕ). ns ++ rest) (replicate_more (some + more) number))

module _ (turns : List ℕ) (place count number : ℕ) (within : place + count ≤ length turns) (same : take (place + count) turns ≡ take place turns ++ replicate count number) where
  before_is : length (take place turns) ≡ place
  before_is = length-take-le place turns (omega (arith, within))

  -- a part of it
  pub part : (taken : ℕ) → taken ≤ count → take (place + taken) turns ≡ take place turns ++ replicate taken number
  part taken few =
      sym (take-take (place + taken) (place + count) turns (omega (arith, few)))
      ∙ (ap (take (place + taken)) same
      ∙ (ap (λ (n : ℕ). take (n + taken) (take place turns ++ replicate count number)) (sym before_is)
      ∙ (take-append-add (take place turns) (replicate count number) taken ∙ ap (λ (ns : List ℕ). take place turns ++ ns) (take-replicate taken count number few))))

  -- the core of each place is the same
  pub named : (taken : ℕ) → taken < count → get_or turns (place + taken) 0 ≡ number
  named taken few =
      sym (get_or-take (place + count) turns (place + taken) 0 (omega (arith, few)))
      ∙ (ap (λ (ns : List ℕ). get_or ns (place + taken) 0) same
      ∙ (ap (λ (n : ℕ). get_or (take place turns ++ replicate count number) (n + taken) 0) (sym before_is)
      ∙ (get_or-append-add (take place turns) (replicate count number) taken 0 ∙ get_or-replicate count taken number 0 few)))
