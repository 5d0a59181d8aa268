-- The line that leaves a set for another, behind a line that left its own set.
use Rattle.std.proofs.Common.{◌≡◌, ◌≢◌, ℕ, zero, suc, ◌+◌, ◌-◌, ◌≤◌, ◌&&◌, Bool, true, false, List, [], ◌∷◌, length, get_or, Option, Some, None, is_some, refl, sym, ap, ◌∙◌, arith, inl, inr}
use Rattle.std.specs.List.{All}
use Rattle.std.specs.Prelude.{slice_get}
use Rattle.std.proofs.lemmas.Bool.{cases_eq, cases_lt, eq-eqb, ne_eqb}
use Rattle.cache_set.proofs.Sets.{length-without_some}
use Rattle.cache_set.specs.Lines.{in_set_of, set_number, set_of}
use Rattle.cache_set.specs.Ways.{kept_of, victim_of, without}
use Rattle.shard.specs.Leaving.{is_this, left_beside, line_in_way}
use Rattle.shard.proofs.CoherentLetters.{at_victim}
use Rattle.shard.proofs.CoherentLines.{set_other, set_same_at}
use Rattle.shard.proofs.HomesAndL1s.RecalledSeen.{without_absent}

-- where no line left that was there
pub beside_none : (beside last : Option ℕ) → left_beside false beside last ≡ last
beside_none beside None = refl
beside_none beside (Some last) = refl

-- where it left the same set
pub beside_same : (last : Option ℕ) → left_beside true last last ≡ None
beside_same None = refl
beside_same (Some last) = rw (eq-eqb last last refl) refl

-- and where it left another
other_false : (there b : Bool) → b ≡ false → (there && b) ≡ false
other_false true b e = e
other_false false b e = refl

pub beside_other : (there : Bool) (beside last : Option ℕ) → ((line : ℕ) → last ≡ Some line → is_this beside line ≡ false) → left_beside there beside last ≡ last
beside_other there beside None apart = refl
beside_other there beside (Some last) apart = rw (other_false there (is_this beside last) (apart last refl)) refl

module _ {X : Type 0} where
  past : (s : List (ℕ × X)) (n : ℕ) → length s ≤ n → slice_get s n ≡ None
  past [] n l = refl
  past (e ∷ s) zero l = absurd (omega arith)
  past (e ∷ s) (suc n) l = past s n (omega arith)

  -- a line of a way
  way_of : (w : Option (ℕ × X)) (line : ℕ) → line_in_way w ≡ Some line → (way : ℕ × X) × ((w ≡ Some way) × (way.0 ≡ line))
  way_of None line e = absurd cc
  way_of (Some way) line e = (way, (refl, cc))

  no_way_is : (w : Option (ℕ × X)) (line : ℕ) → ((way : ℕ × X) → w ≡ Some way → way.0 ≢ line) → is_this (line_in_way w) line ≡ false
  no_way_is None line apart = refl
  no_way_is (Some way) line apart = ne_eqb way.0 line (apart way refl)

module _ {X : Type 0} (shards ways : ℕ) (sets : List (List (ℕ × X))) where
  abbrev set : ℕ → List (ℕ × X)
  set line = set_of shards line sets

  abbrev last : ℕ → Option ℕ
  last line = line_in_way (victim_of ways (set line))

  abbrev behind : (line left : ℕ) → Option ℕ
  behind line left = line_in_way (victim_of ways (set_of shards line (in_set_of shards left (without left) sets)))

  abbrev there : ℕ → Bool
  there left = is_some (kept_of left (set left))

  -- in the same set
  same_set : (line left : ℕ) → (length (set left) ≤ ways) → (kept : Option X) → kept_of left (set left) ≡ kept → set line ≡ set left
      → line_in_way (victim_of ways (without left (set left))) ≡ left_beside (is_some kept) (last left) (last line)
  same_set line left few None e same =
      ap (λ (s : List (ℕ × X)). line_in_way (victim_of ways s)) (without_absent left (set left) e ∙ sym same)
      ∙ sym (beside_none (last left) (last line))
  same_set line left few (Some x) e same =
      let fewer : length (without left (set left)) + 1 ≡ length (set left) = length-without_some left (set left) (ap (λ (o : Option X). is_some o) e) in
      let none : victim_of ways (without left (set left)) ≡ None = past (without left (set left)) (ways - 1) (omega (arith, fewer, few)) in
      ap line_in_way none ∙ sym (ap (λ (s : List (ℕ × X)). left_beside true (last left) (line_in_way (victim_of ways s))) same ∙ beside_same (last left))

  module _ (few : (line : ℕ) → length (set line) ≤ ways) (placed : (n : ℕ) → All (λ way. set_number shards way.0 sets ≡ n) (get_or sets n [])) where
    -- a line is the last one of its own set
    own_set : (line : ℕ) (way : ℕ × X) → victim_of ways (set line) ≡ Some way → set_number shards way.0 sets ≡ set_number shards line sets
    own_set line way e =
        at_victim (λ (w : ℕ × X). set_number shards w.0 sets ≡ set_number shards line sets) ways (set line) way (placed (set_number shards line sets)) e

    apart_sets : (line left : ℕ) → set_number shards line sets ≢ set_number shards left sets → (l : ℕ) → last line ≡ Some l → is_this (last left) l ≡ false
    apart_sets line left apart l e =
        let own = way_of (victim_of ways (set line)) l e in
        no_way_is (victim_of ways (set left)) l
        (λ way is same. apart (sym (own_set line own.0 own.1.0) ∙ (ap (λ (k : ℕ). set_number shards k sets) (own.1.1 ∙ sym same) ∙ own_set left way is)))

    pub last_behind : (line left : ℕ) → behind line left ≡ left_beside (there left) (last left) (last line)
    last_behind line left =
        elim (cases_lt 0 (length sets)) as (λ _. behind line left ≡ left_beside (there left) (last left) (last line)) [
          | inl some ↦
              elim (cases_eq (set_number shards line sets) (set_number shards left sets)) as (λ _. behind line left ≡ left_beside (there left) (last left) (last line)) [
                | inl same ↦
                    ap (λ (s : List (ℕ × X)). line_in_way (victim_of ways s)) (set_same_at shards line left (without left) sets (omega arith) same)
                    ∙ same_set line left (few left) (kept_of left (set left)) refl (ap (λ (k : ℕ). get_or sets k []) same)
                | inr apart ↦
                    ap (λ (s : List (ℕ × X)). line_in_way (victim_of ways s)) (set_other shards line left (without left) sets apart)
                    ∙ sym (beside_other (there left) (last left) (last line) (apart_sets line left apart))
              ]
          | inr none ↦ nothing sets none line left
        ] where
          nothing : (all : List (List (ℕ × X))) → length all ≤ 0 → (line left : ℕ)
              → line_in_way (victim_of ways (set_of shards line (in_set_of shards left (without left) all)))
              ≡ left_beside (is_some (kept_of left (set_of shards left all))) (line_in_way (victim_of ways (set_of shards left all))) (line_in_way (victim_of ways (set_of shards line all)))
          nothing [] h line left = refl
          nothing (x ∷ all) h line left = absurd (omega arith)
