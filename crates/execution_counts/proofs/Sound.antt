-- Tables stay sound.
use Rattle.std.proofs.Common.{◌≡◌, ◌≢◌, ℕ, ◌+◌, ◌*◌, ◌<◌, ◌≤◌, ◌^◌, ◌==◌, Bool, true, false, ◌&&◌, if◌then◌else◌, List, ◌⊎◌, inl, inr, ap, sym, arith, subst}
use Rattle.std.proofs.lemmas.Bool.Decides.{eqb_tells}
use Rattle.sparse_table.specs.ByCore.{HaveNone, value_at, with_one}
use Rattle.sparse_table.specs.Sparse.{Sparse}
use Rattle.execution_counts.specs.declared.stretch.Stretch.{Stretch}
use Rattle.execution_counts.specs.Counted.{AreShort, AreSound, Counts, no_stretch}

module _ (singles : List (Sparse ℕ)) (old new : List (Sparse Stretch)) (sound : AreSound (record { singles = singles; stretches = old }))
    (none : HaveNone no_stretch old → HaveNone no_stretch new) where
  abbrev after : Counts
  after = record { singles = singles; stretches = new }

  -- where all stretches are as they were
  pub sound_same : ((c n : ℕ) → value_at no_stretch new c n ≡ value_at no_stretch old c n) → AreSound after
  sound_same same = record {
    none_single = sound.none_single;
    none_stretch = none sound.none_stretch;
    within = λ c n place lt. sound.within c n place (subst (λ (s : Stretch). place < s.count) (same c n) lt);
  }

  -- and where one more fits
  pub sound_more : (core pc : ℕ) (more : Stretch) → ((place : ℕ) → place < more.count → pc + 4 * place < 2 ^ 64) → ((c n : ℕ) → value_at no_stretch new c n ≡ with_one core pc more (value_at no_stretch old) c n) → AreSound after
  sound_more core pc more fits sets = record {
    none_single = sound.none_single;
    none_stretch = none sound.none_stretch;
    within = λ c n place lt. by c n place (eqb_tells core c) (eqb_tells pc n) (subst (λ (s : Stretch). place < s.count) (sets c n) lt);
  }
    where
      by : (c n place : ℕ) → ((core == c) ≡ true × (core ≡ c)) ⊎ ((core == c) ≡ false × (core ≢ c)) → ((pc == n) ≡ true × (pc ≡ n)) ⊎ ((pc == n) ≡ false × (pc ≢ n))
          → place < (with_one core pc more (value_at no_stretch old) c n).count → n + 4 * place < 2 ^ 64
      by c n place (inl (by_core, same)) (inl (here, at)) lt =
          let in_it : place < more.count = rw (by_core, here) at lt in
          let fit : pc + 4 * place < 2 ^ 64 = fits place in_it in
          omega (arith, fit, at)
      by c n place (inl (by_core, same)) (inr (not_here, other)) lt = sound.within c n place (rw (by_core, not_here) at lt)
      by c n place (inr (no_core, other)) at lt = sound.within c n place (rw no_core at lt)

-- Stretches stay short.
module _ (longest later : ℕ) (old new : List (Sparse Stretch)) (short : AreShort longest old) (no_less : longest ≤ later) (few : later ≤ 128) where
  -- where all are as they were
  pub short_same : ((c n : ℕ) → value_at no_stretch new c n ≡ value_at no_stretch old c n) → AreShort later new
  short_same same = record {
    few = few;
    short = λ c n. omega (arith, ap (λ (s : Stretch). s.count) (same c n), short.short c n, no_less);
  }

  -- and where one more is
  pub short_more : (core pc : ℕ) (more : Stretch) → more.count ≤ later → ((c n : ℕ) → value_at no_stretch new c n ≡ with_one core pc more (value_at no_stretch old) c n) → AreShort later new
  short_more core pc more fits sets = record {
    few = few;
    short = λ c n. subst (λ (s : Stretch). s.count ≤ later) (sym (sets c n)) (by (core == c && pc == n) c n);
  }
    where
      by : (b : Bool) (c n : ℕ) → (if b then more else value_at no_stretch old c n).count ≤ later
      by true c n = fits
      by false c n = omega (arith, short.short c n, no_less)
