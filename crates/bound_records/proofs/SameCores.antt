-- What holds of cores, and of their states in time.
use Rattle.std.proofs.Common.{◌≡◌, ℕ, suc, ◌<◌, List, [], ◌∷◌, get_or, length, All, Some, refl, sym, ◌∙◌, ap, subst, arith}
use Rattle.std.specs.Prelude.{slice_get}
use Rattle.std.proofs.lemmas.List.{get_or-map, length-map}
use Rattle.std.proofs.lemmas.Option.{get_or_from_slice_get, slice_get-get_or, slice_get_within}
use Rattle.bound_core.specs.TimedCore.{TimedCore}
use Rattle.bound_core.specs.NumberedCores.{NumberedCore, timed_of}
use Rattle.bound_records.specs.CoreRuns.{AreNumbered}
use Rattle.bound_records.proofs.Lists.{get_mapped}

-- what holds of each core holds of all their states in time, and the other way round
pub all_timed : (P : TimedCore → Type 0) (cores : List NumberedCore) → ((i : ℕ) (c : NumberedCore) → slice_get cores i ≡ Some c → P c.timed) → All P (timed_of cores)
all_timed P cores each = λ k d below.
    let core : NumberedCore = record { number = 0; timed = d; spare = 0 } in
    let within : k < length cores = omega (arith, below, length-map cores (λ (c : NumberedCore). c.timed)) in
    subst P (sym (get_or-map (λ (c : NumberedCore). c.timed) cores k core d within)) (each k (get_or cores k core) (slice_get-get_or cores k core within))

each_timed : (P : TimedCore → Type 0) (cores : List NumberedCore) → All P (timed_of cores) → (i : ℕ) (c : NumberedCore) → slice_get cores i ≡ Some c → i < length cores → P c.timed
each_timed P cores all i c here below =
    let there = get_mapped (λ (x : NumberedCore). x.timed) cores i c here in
    subst P (get_or_from_slice_get (timed_of cores) i c.timed c.timed there) (all i c.timed (omega (arith, below, length-map cores (λ (x : NumberedCore). x.timed))))

-- what holds of each core in time holds of cores that are the same in time
pub ready_again : (P : TimedCore → Type 0) (before after : List NumberedCore) → timed_of after ≡ timed_of before → ((i : ℕ) (c : NumberedCore) → slice_get before i ≡ Some c → P c.timed)
    → (i : ℕ) (c : NumberedCore) → slice_get after i ≡ Some c → P c.timed
ready_again P before after same each i c here = each_timed P after (subst (All P) (sym same) (all_timed P before each)) i c here (slice_get_within after i c here)

-- the same cores in time, one by one
pub same_timed : (before after : List NumberedCore) → length after ≡ length before → ((k : ℕ) (d : NumberedCore) → (get_or after k d).timed ≡ (get_or before k d).timed) → timed_of after ≡ timed_of before
same_timed [] [] same each = refl
same_timed [] (y ∷ ys) same each = absurd (omega (arith, same))
same_timed (x ∷ xs) [] same each = absurd (omega (arith, same))
same_timed (x ∷ xs) (y ∷ ys) same each =
    let first : y.timed ≡ x.timed = each 0 x in
    let rest : timed_of ys ≡ timed_of xs = same_timed xs ys (omega (arith, same)) (λ k d. each (suc k) d) in
    ap (λ (c : TimedCore). c ∷ timed_of ys) first ∙ ap (λ (cs : List TimedCore). x.timed ∷ cs) rest

pub same_numbers : (before after : List NumberedCore) → length after ≡ length before → ((k : ℕ) (d : NumberedCore) → (get_or after k d).number ≡ (get_or before k d).number)
    → AreNumbered before → AreNumbered after
same_numbers before after same each numbered = λ i c here.
    let below : i < length before = omega (arith, slice_get_within after i c here, same) in
    let own : get_or after i c ≡ c = get_or_from_slice_get after i c c here in
    ap (λ (x : NumberedCore). x.number) (sym own) ∙ each i c ∙ numbered i (get_or before i c) (slice_get-get_or before i c below)
