-- What a table that is added, or set, does to what all cores have at all numbers.
use Rattle.std.proofs.Common.{◌≡◌, ℕ, zero, suc, ◌<◌, List, [], ◌∷◌, get_or, set, length, ◌⊎◌, inl, inr, refl, sym, ◌∙◌, ap, arith, get_or-set_other, ◌==◌, true, false, eq-eqb}
use Rattle.std.proofs.lemmas.Bool.{cases_eq, ne_eqb}
use Rattle.std.proofs.lemmas.Grind.{get_or-set_at}
use Rattle.sparse_table.specs.Laws.{GivesBack, OthersStay}
use Rattle.sparse_table.specs.Sparse.{Sparse, value_of, with_value}
use Rattle.sparse_table.specs.ByCore.{empty, value_at, with_one}

pub any_default : {X : Type 0} (xs : List X) (i : ℕ) (d e : X) → i < length xs → get_or xs i d ≡ get_or xs i e
any_default [] i d e lt = absurd (omega (arith, lt))
any_default (x ∷ xs) zero d e lt = refl
any_default (x ∷ xs) (suc i) d e lt = any_default xs i d e (omega (arith, lt))

module _ {T : Type 0} where
  module _ (gives : GivesBack T) (others : OthersStay T) (none : T) (tables : List (Sparse T)) (core number : ℕ) (value : T) (there : core < length tables) (table after : Sparse T)
      (table_is : table ≡ get_or tables core table) (after_is : after ≡ with_value table number value) where
    known : get_or tables core (empty none) ≡ table
    known = any_default tables core (empty none) table there ∙ sym table_is

    pub set_one : (c n : ℕ) → value_at none (set tables core after) c n ≡ with_one core number value (value_at none tables) c n
    set_one c n = by (cases_eq c core) (cases_eq n number)
      where
        by : (c ≡ core) ⊎ (c ≡ core → ⊥) → (n ≡ number) ⊎ (n ≡ number → ⊥) → value_at none (set tables core after) c n ≡ with_one core number value (value_at none tables) c n
        by (inl is) (inl at) =
            let yes : (core == c) ≡ true = eq-eqb core c (sym is) in
            let here : (number == n) ≡ true = eq-eqb number n (sym at) in
            rw (yes, here) (ap (λ (t : Sparse T). value_of t n) (get_or-set_at tables core c after (empty none) is there ∙ after_is) ∙ ap (value_of (with_value table number value)) at ∙ gives table number value)
        by (inl is) (inr other) =
            let yes : (core == c) ≡ true = eq-eqb core c (sym is) in
            let not_here : (number == n) ≡ false = ne_eqb number n (λ e. other (sym e)) in
            rw (yes, not_here) (ap (λ (t : Sparse T). value_of t n) (get_or-set_at tables core c after (empty none) is there ∙ after_is) ∙ others table number value n other ∙ ap (λ (t : Sparse T). value_of t n) (sym known ∙ ap (λ (k : ℕ). get_or tables k (empty none)) (sym is)))
        by (inr not) at =
            let no : (core == c) ≡ false = ne_eqb core c (λ e. not (sym e)) in
            rw no (ap (λ (t : Sparse T). value_of t n) (get_or-set_other tables core c after (empty none) not))
