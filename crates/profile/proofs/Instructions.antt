-- The count of each instruction once more were executed.
use Rattle.std.proofs.Common.{◌≡◌, ◌≢◌, ℕ, zero, suc, ◌+◌, ◌==◌, Bool, true, false, List, [], ◌∷◌, ◌++◌, ◌⊎◌, inl, inr, refl, sym, ◌∙◌, ap, arith, tests}
use Rattle.std.specs.Prelude.{◌&&◌}
use Rattle.std.proofs.lemmas.Bool.Decides.{eqb_tells}
use Rattle.std.proofs.lemmas.List.Sums.{sum_by-append, sum_by-cons}
use Rattle.trace.specs.Trace.{Executed, Step, stretch_steps}
use Rattle.execution_counts.specs.Counted.{Counts, counted, is_in_stretch, one_if}
use Rattle.profile.specs.Executed.{executed_at, is_executed}
use Rattle.profile.specs.Profiled.{CountInstructions}
use Rattle.profile_rows.specs.Tallies.{capped}
use Rattle.profile.proofs.Lists.{count_behind}

further : (steps : List Step) (old new : Counts) (all : List Step) (more : (core pc : ℕ) → ℕ)
    → CountInstructions steps old
    → ((c n : ℕ) → executed_at c n all ≡ executed_at c n steps + more c n)
    → ((c n : ℕ) → counted new c n ≡ capped (counted old c n + more c n))
    → CountInstructions all new
further steps old new all more right grows adds c n = by (counted new c n) (counted old c n) (executed_at c n steps) (executed_at c n all) (more c n) (adds c n) (right c n) (grows c n)
  where
    by : (now was before after one : ℕ) → now ≡ capped (was + one) → was ≡ capped before → after ≡ before + one → now ≡ capped after
    by now was before after one add is grow = omega (arith, add, is, grow)

-- one instruction
pub one_more : (steps : List Step) (old new : Counts) (core pc : ℕ)
    → CountInstructions steps old
    → ((c n : ℕ) → counted new c n ≡ capped (counted old c n + one_if (core == c && pc == n)))
    → CountInstructions (steps ++ Executed core pc ∷ []) new
one_more steps old new core pc right adds =
    further steps old new (steps ++ Executed core pc ∷ []) (λ c n. one_if (core == c && pc == n)) right (λ c n. count_behind (is_executed c n) steps (Executed core pc)) adds

-- ---- instructions that follow each other

none_in : (pc n : ℕ) → is_in_stretch pc 0 n ≡ false
none_in pc n = grind (arith, tests)

-- the first of them, and then the others
first_in : (pc k n : ℕ) → one_if (pc == n) + one_if (is_in_stretch (pc + 4) k n) ≡ one_if (is_in_stretch pc (suc k) n)
first_in pc k n = by (eqb_tells pc n) (is_in_stretch (pc + 4) k n) refl
  where
    by : ((pc == n) ≡ true × (pc ≡ n)) ⊎ ((pc == n) ≡ false × (pc ≢ n)) → (test : Bool) → is_in_stretch (pc + 4) k n ≡ test
        → one_if (pc == n) + one_if (is_in_stretch (pc + 4) k n) ≡ one_if (is_in_stretch pc (suc k) n)
    by (inl (is_it, at)) test is =
        let now : is_in_stretch pc (suc k) n ≡ true = grind (arith, tests, at) in
        let not_there : is_in_stretch (pc + 4) k n ≡ false = grind (arith, tests, at) in
        rw (is_it, now, not_there) refl
    by (inr (not_it, other)) true is =
        let now : is_in_stretch pc (suc k) n ≡ true = grind (arith, tests, is) in
        rw (not_it, now, is) refl
    by (inr (not_it, other)) false is =
        let not_in : is_in_stretch pc (suc k) n ≡ false = grind (arith, tests, is, other) in
        rw (not_it, not_in, is) refl

count_in : (c n core pc count : ℕ) → executed_at c n (stretch_steps core pc count) ≡ one_if (core == c && is_in_stretch pc count n)
count_in c n core pc zero = sym (by (core == c))
  where
    by : (b : Bool) → one_if (b && is_in_stretch pc 0 n) ≡ 0
    by true = ap one_if (none_in pc n)
    by false = refl
count_in c n core pc (suc k) =
    sum_by-cons (λ step. one_if (is_executed c n step)) (Executed core pc) (stretch_steps core (pc + 4) k)
    ∙ ap (λ rest. one_if (core == c && pc == n) + rest) (count_in c n core (pc + 4) k) ∙ by (core == c)
  where
    by : (b : Bool) → one_if (b && pc == n) + one_if (b && is_in_stretch (pc + 4) k n) ≡ one_if (b && is_in_stretch pc (suc k) n)
    by true = first_in pc k n
    by false = refl

pub stretch_more : (steps : List Step) (old new : Counts) (core pc count : ℕ)
    → CountInstructions steps old
    → ((c n : ℕ) → counted new c n ≡ capped (counted old c n + one_if (core == c && is_in_stretch pc count n)))
    → CountInstructions (steps ++ stretch_steps core pc count) new
stretch_more steps old new core pc count right adds =
    further steps old new (steps ++ stretch_steps core pc count) (λ c n. one_if (core == c && is_in_stretch pc count n)) right
    (λ c n. sum_by-append (λ step. one_if (is_executed c n step)) steps (stretch_steps core pc count) ∙ ap (λ more. executed_at c n steps + more) (count_in c n core pc count)) adds

-- ---- other steps

-- a step of another kind counts no instruction
pub none_more : (steps : List Step) (step : Step) (counts : Counts) → ((core pc : ℕ) → is_executed core pc step ≡ false) → CountInstructions steps counts → CountInstructions (steps ++ step ∷ []) counts
none_more steps step counts other right core pc =
    let not : is_executed core pc step ≡ false = other core pc in rw (count_behind (is_executed core pc) steps step, not) (omega (arith, right core pc))
