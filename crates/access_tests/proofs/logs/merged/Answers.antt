use Rattle.std.proofs.Common.{◌≡◌, ◌++◌, false, [], ◌∷◌, subst, sym, arith}
use Rattle.std.proofs.lemmas.Bool.Decides.{nat_tests}
use Rattle.std.specs.List.{IsDistinct}
use Rattle.zs_num.specs.declared.entry.Entry.{Entry}
use Rattle.access_log.specs.Logs.{HaveDistinctKeys, LogState, have_same_key}
use Rattle.access_tests.proofs.logs.merged.Goals as goal

other_cores : (a b : Entry) → a.core ≡ 0 → b.core ≡ 1 → have_same_key a b ≡ false
other_cores a b p q = grind (arith, nat_tests)

first_stamps : (a b : Entry) → a.stamp ≡ 1 → b.stamp ≡ 3 → have_same_key a b ≡ false
first_stamps a b p q = grind (arith, nat_tests)

second_stamps : (a b : Entry) → a.stamp ≡ 1 → b.stamp ≡ 2 → have_same_key a b ≡ false
second_stamps a b p q = grind (arith, nat_tests)

distinct : (a b c d : Entry) → (a.core ≡ 0) × (a.stamp ≡ 1) → (b.core ≡ 0) × (b.stamp ≡ 3) → (c.core ≡ 1) × (c.stamp ≡ 1) → (d.core ≡ 1) × (d.stamp ≡ 2)
    → HaveDistinctKeys (a ∷ b ∷ c ∷ d ∷ [])
unfolding IsDistinct
distinct a b c d p q r s = (
  (first_stamps a b p.1 q.1, (other_cores a c p.0 r.0, (other_cores a d p.0 s.0, tt))),
  (
    (other_cores b c q.0 r.0, (other_cores b d q.0 s.0, tt)),
    ((second_stamps c d r.1 s.1, tt), (tt, tt)),
  ),
)

pub merge-requires-clause-keys : goal.merge-requires-clause-keys
merge-requires-clause-keys c =
    subst (λ (x : LogState). HaveDistinctKeys (x.entries ++ (c.in_ok-second.second.entries ++ []))) (sym c.in_ok-first.ensures)
    (subst (λ (x : LogState). HaveDistinctKeys (c.load.result ∷ c.load-2.result ∷ (x.entries ++ []))) (sym c.in_ok-second.ensures)
    (distinct c.load.result c.load-2.result c.load-3.result c.load-4.result
    (c.load.ensures.core, c.load.ensures.stamp) (c.load-2.ensures.core, c.load-2.ensures.stamp) (c.load-3.ensures.core, c.load-3.ensures.stamp) (c.load-4.ensures.core, c.load-4.ensures.stamp)))
