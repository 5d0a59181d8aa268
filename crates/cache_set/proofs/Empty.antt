-- A cache without a line: all ways are free, and each set is empty.
use Rattle.std.proofs.Common.{◌≡◌, ℕ, suc, ◌+◌, ◌*◌, ◌<◌, List, [], ◌∷◌, length, get_or, replicate, refl, sym, ap, ◌∙◌, arith}
use Rattle.std.proofs.lemmas.Bool.{eq-eqb}
use Rattle.std.proofs.lemmas.List.{ext_get_or, get_or-replicate, length-replicate}
use Rattle.cache_set.specs.Ages.{by_age, rows_in}
use Rattle.cache_set.specs.Pieces.{AreAgedSets, piece, sets_in}
use Rattle.cache_set.proofs.ByAge.{the_ways}
use Rattle.cache_set.proofs.Pieces.{length_piece, piece_get, within_pieces}
use Rattle.cache_set.proofs.SetsInArrays.{length_sets, set_at}

module _ {X : Type 0} where
  all_free : (ages tags : List ℕ) (kept : List X) → ((j : ℕ) → j < length ages → get_or ages j 0 ≡ 0) → by_age (rows_in ages tags kept) ≡ []
  all_free [] tags kept h = refl
  all_free (a ∷ ages) [] kept h = refl
  all_free (a ∷ ages) (g ∷ tags) [] h = refl
  all_free (a ∷ ages) (g ∷ tags) (m ∷ kept) h = rw (eq-eqb a 0 (h 0 (omega arith))) (all_free ages tags kept (λ j l. h (suc j) (omega arith)))

module _ (sets ways : ℕ) where
  abbrev zeros : List ℕ
  zeros = replicate (sets * ways) 0

  long : length zeros ≡ sets * ways
  long = length-replicate {A = ℕ} (sets * ways) 0

  free : (n j : ℕ) → n < sets → j < ways → get_or (piece ways n zeros) j 0 ≡ 0
  free n j l m =
      piece_get ways n j (n * ways + j) zeros 0 m refl ∙ get_or-replicate {A = ℕ} (sets * ways) (n * ways + j) 0 0 (omega (arith, within_pieces sets ways n l, m))

  pub empty_aged : (tick : ℕ) (tags : List ℕ) → length tags ≡ sets * ways → AreAgedSets sets ways tick zeros tags
  empty_aged tick tags tags_long = record {
    ages_are = long;
    tags_are = tags_long;
    aged = λ n l. record {
      ages_are = length_piece sets ways n zeros l long;
      tags_are = length_piece sets ways n tags l tags_long;
      past = λ j m. omega (arith, free n j l m);
      apart = λ a b k m h some. absurd (omega (arith, some, free n a l k));
      once = λ a b k m h some other. absurd (omega (arith, some, free n a l k));
    };
  }

  pub empty_sets : {X : Type 0} (tags : List ℕ) (kept : List X) → sets_in sets ways zeros tags kept ≡ replicate sets []
  empty_sets {X} tags kept =
      ext_get_or [] (sets_in sets ways zeros tags kept) (replicate sets [])
      (length_sets sets ways zeros tags kept ∙ sym (length-replicate {A = List (ℕ × X)} sets []))
      (λ n l. let below : n < sets = omega (arith, l, length_sets sets ways zeros tags kept) in
      set_at sets ways n zeros tags kept below
      ∙ (ap the_ways (all_free (piece ways n zeros) (piece ways n tags) (piece ways n kept) (λ j m. free n j below (omega (arith, m, length_piece sets ways n zeros below long))))
      ∙ sym (get_or-replicate {A = List (ℕ × X)} sets n [] [] below)))
