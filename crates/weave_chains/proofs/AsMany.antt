-- Accesses in another order make as many events.
use Rattle.std.proofs.Common.{◌≡◌, ◌+◌, ◌==◌, ◌<◌, ◌≤◌, ℕ, zero, suc, false, List, [], ◌∷◌, inl, inr, sum_by, sym, ◌∙◌, ap, subst, refl, arith, nat_lt}
use Rattle.std.specs.List.{filter}
use Rattle.std.proofs.lemmas.Bool.{cases_eq, cases_lt, cond-false, cond-true, eq-eqb, lt-ltb, ne_eqb}
use Rattle.std.proofs.lemmas.Bool.Decides.{nat_tests}
use Rattle.std.proofs.lemmas.List.Sums.{sum_by-cons}
use Rattle.zs_num.specs.declared.entry.Entry.{Entry}
use Rattle.event_graph.specs.OrderByCore.{HaveTheSameByCore, accesses_of}
use Rattle.event_graph.proofs.Lists.{In, from_filter, in_filter}

not_lt : (a b : ℕ) → b ≤ a → nat_lt a b ≡ false
not_lt a b h = grind (arith, nat_tests)

-- those of the cores below a number
abbrev below : (cores : ℕ) → List Entry → List Entry
below cores entries = filter (λ e. nat_lt e.core cores) entries

apart : (a b : ℕ) → b ≤ a → (a ≡ b → ⊥) → suc b ≤ a
apart a b not other = elim (cases_lt b a) [ inl less ↦ omega (arith, less) | inr below ↦ absurd (other (omega (arith, not, below))) ]

all_below : (cores : ℕ) (entries : List Entry) → ((e : Entry) → In e entries → e.core < cores) → below cores entries ≡ entries
all_below cores [] known = refl
all_below cores (e ∷ entries) known =
    cond-true (nat_lt e.core cores) (e ∷ below cores entries) (below cores entries) (lt-ltb e.core cores (known e (inl refl)))
    ∙ ap (λ zs. e ∷ zs) (all_below cores entries (λ d m. known d (inr m)))

module _ (weight : Entry → ℕ) where
  abbrev total : (cores : ℕ) → List Entry → ℕ
  total zero entries = 0
  total (suc cores) entries = total cores entries + sum_by weight (accesses_of cores entries)

  none_below : (entries : List Entry) → sum_by weight (below 0 entries) ≡ 0
  none_below [] = refl
  none_below (e ∷ entries) = ap (sum_by weight) (cond-false (nat_lt e.core 0) (e ∷ below 0 entries) (below 0 entries) (not_lt e.core 0 (omega arith))) ∙ none_below entries

  one_core_more : (cores : ℕ) (entries : List Entry) → sum_by weight (below (suc cores) entries) ≡ sum_by weight (below cores entries) + sum_by weight (accesses_of cores entries)
  one_core_more cores [] = refl
  one_core_more cores (e ∷ entries) =
      let rest : sum_by weight (below (suc cores) entries) ≡ sum_by weight (below cores entries) + sum_by weight (accesses_of cores entries) = one_core_more cores entries in
      elim (cases_eq e.core cores) [
        | inl same ↦
            let a : sum_by weight (below (suc cores) (e ∷ entries)) ≡ sum_by weight (e ∷ below (suc cores) entries) = ap (sum_by weight) (cond-true (nat_lt e.core (suc cores)) (e ∷ below (suc cores) entries) (below (suc cores) entries) (lt-ltb e.core (suc cores) (omega (arith, same)))) in
            let b : sum_by weight (below cores (e ∷ entries)) ≡ sum_by weight (below cores entries) = ap (sum_by weight) (cond-false (nat_lt e.core cores) (e ∷ below cores entries) (below cores entries) (not_lt e.core cores (omega (arith, same)))) in
            let d : sum_by weight (accesses_of cores (e ∷ entries)) ≡ sum_by weight (e ∷ accesses_of cores entries) = ap (sum_by weight) (cond-true (e.core == cores) (e ∷ accesses_of cores entries) (accesses_of cores entries) (eq-eqb e.core cores same)) in
            omega (arith, a, b, d, rest, sum_by-cons weight e (below (suc cores) entries), sum_by-cons weight e (accesses_of cores entries))
        | inr other ↦
            let d : sum_by weight (accesses_of cores (e ∷ entries)) ≡ sum_by weight (accesses_of cores entries) = ap (sum_by weight) (cond-false (e.core == cores) (e ∷ accesses_of cores entries) (accesses_of cores entries) (ne_eqb e.core cores other)) in
            elim (cases_lt e.core cores) [
              | inl less ↦
                  let a : sum_by weight (below (suc cores) (e ∷ entries)) ≡ sum_by weight (e ∷ below (suc cores) entries) = ap (sum_by weight) (cond-true (nat_lt e.core (suc cores)) (e ∷ below (suc cores) entries) (below (suc cores) entries) (lt-ltb e.core (suc cores) (omega (arith, less)))) in
                  let b : sum_by weight (below cores (e ∷ entries)) ≡ sum_by weight (e ∷ below cores entries) = ap (sum_by weight) (cond-true (nat_lt e.core cores) (e ∷ below cores entries) (below cores entries) (lt-ltb e.core cores less)) in
                  omega (arith, a, b, d, rest, sum_by-cons weight e (below (suc cores) entries), sum_by-cons weight e (below cores entries))
              | inr not ↦
                  let above : suc cores ≤ e.core = apart e.core cores not other in
                  let a : sum_by weight (below (suc cores) (e ∷ entries)) ≡ sum_by weight (below (suc cores) entries) = ap (sum_by weight) (cond-false (nat_lt e.core (suc cores)) (e ∷ below (suc cores) entries) (below (suc cores) entries) (not_lt e.core (suc cores) above)) in
                  let b : sum_by weight (below cores (e ∷ entries)) ≡ sum_by weight (below cores entries) = ap (sum_by weight) (cond-false (nat_lt e.core cores) (e ∷ below cores entries) (below cores entries) (not_lt e.core cores not)) in
                  omega (arith, a, b, d, rest)
            ]
      ]

  by_cores : (cores : ℕ) (entries : List Entry) → sum_by weight (below cores entries) ≡ total cores entries
  by_cores zero entries = none_below entries
  by_cores (suc cores) entries = one_core_more cores entries ∙ ap (λ n. n + sum_by weight (accesses_of cores entries)) (by_cores cores entries)

  same_total : (cores : ℕ) (entries others : List Entry) → HaveTheSameByCore entries others → total cores others ≡ total cores entries
  same_total zero entries others same = refl
  same_total (suc cores) entries others same = ap (λ n. n + sum_by weight (accesses_of cores others)) (same_total cores entries others same) ∙ ap (λ zs. total cores entries + sum_by weight zs) (same cores)

  pub as_much : (cores : ℕ) (entries others : List Entry) → ((e : Entry) → In e entries → e.core < cores) → HaveTheSameByCore entries others → sum_by weight others ≡ sum_by weight entries
  as_much cores entries others known same =
      let others_known : (e : Entry) → In e others → e.core < cores =
      λ e m.
      let own : In e (accesses_of e.core entries) = subst (λ zs. In e zs) (same e.core) (in_filter (λ d. d.core == e.core) e others m (eq-eqb e.core e.core refl)) in
      known e (from_filter (λ d. d.core == e.core) e entries own).0
      in
      ap (sum_by weight) (sym (all_below cores others others_known))
      ∙ (by_cores cores others ∙ (same_total cores entries others same ∙ (sym (by_cores cores entries) ∙ ap (sum_by weight) (all_below cores entries known))))
