-- What L1s are like, whatever lines they have, so that a home sees its part of them; and the steps of a bank leave it so.
use Rattle.std.proofs.Common.{◌≡◌, ℕ, ◌*◌, ◌%◌, ◌<◌, ◌⊎◌, Bool, true, false, cond, List, [], ◌∷◌, length, get_or, set, Option, Some, None, refl, sym, ap, ◌∙◌, subst, arith, inl, inr}
use Rattle.std.proofs.lemmas.Bool.{cases_eq}
use Rattle.std.proofs.lemmas.List.{get_or-set_other, length-set}
use Rattle.cache_set.specs.Ways.{without}
use Rattle.shard.specs.Coherence.{is_modified}
use Rattle.home.specs.HomeState.{HomeLine, HomeState, dropped_in, marked_dirty_in, with_bytes_at}
use Rattle.l1_cache.specs.L1State.{Copy, L1State, given_up_in, in_copies_of, in_instructions_of, instruction_given_up_in, no_l1, shared_among, shared_in}
use Rattle.cache_set.specs.Lines.{set_number, set_of}
use Rattle.shard.specs.SharedStep.{Bank, collected, dirty_by, evicted_everywhere, given_up_by, instructions_given_up_by, is_modified_by, l1_of, own_evicted, shared_by, with_home, with_l1}
use Rattle.shard.proofs.HomesAndL1s.Gets.{set_is}

-- an L1 among others, of which this is the first
pub record IsFit (n : ℕ) (first l1 : L1State) : Type 0 where
  pub shards : (l1.shards ≡ 1) ⊎ (l1.shards ≡ n)
  pub ways : l1.ways ≡ first.ways
  pub l1i_ways : l1.l1i_ways ≡ first.l1i_ways
  -- as many sets in each bank
  pub sets : length l1.sets * l1.shards % n ≡ 0
  pub l1i_sets : length l1.l1i * l1.shards % n ≡ 0
  pub fetchers : length l1.l1i ≡ length first.l1i
  pub room : 0 < length l1.sets

pub record AreFit (p : Bank) : Type 0 where
  pub some : (0 < p.home.shards) × (p.home.number < p.home.shards)
  pub each : (k : ℕ) → k < length p.l1s → IsFit p.home.shards (l1_of p 0) (l1_of p k)

-- the lines of the sets change, and nothing else
pub record IsShapedAs (was l1 : L1State) : Type 0 where
  pub shards : l1.shards ≡ was.shards
  pub ways : l1.ways ≡ was.ways
  pub l1i_ways : l1.l1i_ways ≡ was.l1i_ways
  pub long : length l1.sets ≡ length was.sets
  pub l1i_long : length l1.l1i ≡ length was.l1i

pub same_shape : (l1 : L1State) → IsShapedAs l1 l1
same_shape l1 = record { shards = refl; ways = refl; l1i_ways = refl; long = refl; l1i_long = refl }

pub copies_shape : (line : ℕ) (f : List (ℕ × Copy) → List (ℕ × Copy)) (l1 : L1State) → IsShapedAs l1 (in_copies_of line f l1)
copies_shape line f l1 = record { shards = refl; ways = refl; l1i_ways = refl; long = length-set l1.sets (set_number l1.shards line l1.sets) (f (set_of l1.shards line l1.sets)); l1i_long = refl }

pub instructions_shape : (line : ℕ) (f : List (ℕ × Unit {0}) → List (ℕ × Unit {0})) (l1 : L1State) → IsShapedAs l1 (in_instructions_of line f l1)
instructions_shape line f l1 = record { shards = refl; ways = refl; l1i_ways = refl; long = refl; l1i_long = length-set l1.l1i (set_number l1.shards line l1.l1i) (f (set_of l1.shards line l1.l1i)) }

fit_as : (n : ℕ) (first was first_now now : L1State) → IsFit n first was → IsShapedAs first first_now → IsShapedAs was now → IsFit n first_now now
fit_as n first was first_now now fit head shape = record {
  shards = subst (λ (z : ℕ). (z ≡ 1) ⊎ (z ≡ n)) (sym shape.shards) fit.shards;
  ways = shape.ways ∙ (fit.ways ∙ sym head.ways);
  l1i_ways = shape.l1i_ways ∙ (fit.l1i_ways ∙ sym head.l1i_ways);
  sets = ap (λ (z : ℕ). z * now.shards % n) shape.long ∙ (ap (λ (z : ℕ). length was.sets * z % n) shape.shards ∙ fit.sets);
  l1i_sets = ap (λ (z : ℕ). z * now.shards % n) shape.l1i_long ∙ (ap (λ (z : ℕ). length was.l1i * z % n) shape.shards ∙ fit.l1i_sets);
  fetchers = shape.l1i_long ∙ (fit.fetchers ∙ sym head.l1i_long);
  room = subst (λ (z : ℕ). 0 < z) (sym shape.long) fit.room;
}

set_shape : (core : ℕ) (f : L1State → L1State) (p : Bank) → ((l1 : L1State) → IsShapedAs l1 (f l1)) → (k : ℕ) → IsShapedAs (l1_of p k) (l1_of (with_l1 core f p) k)
set_shape core f p step k =
    let new : L1State = f (l1_of p core) in
    elim (cases_eq k core) as (λ _. IsShapedAs (get_or p.l1s k no_l1) (get_or (set p.l1s core new) k no_l1)) [
      | inl e ↦
          subst (λ (j : ℕ). IsShapedAs (get_or p.l1s j no_l1) (get_or (set p.l1s core new) j no_l1)) (sym e)
          (elim (set_is p.l1s core new no_l1) as (λ _. IsShapedAs (get_or p.l1s core no_l1) (get_or (set p.l1s core new) core no_l1)) [
            | inl is ↦ subst (λ (x : L1State). IsShapedAs (get_or p.l1s core no_l1) x) (sym is) (step (l1_of p core))
            | inr is ↦ subst (λ (x : L1State). IsShapedAs (get_or p.l1s core no_l1) x) (sym is) (same_shape (l1_of p core))
          ])
      | inr e ↦ subst (λ (x : L1State). IsShapedAs (get_or p.l1s k no_l1) x) (sym (get_or-set_other p.l1s core k new no_l1 e)) (same_shape (l1_of p k))
    ]

pub fit_l1 : (core : ℕ) (f : L1State → L1State) (p : Bank) → AreFit p → ((l1 : L1State) → IsShapedAs l1 (f l1)) → AreFit (with_l1 core f p)
fit_l1 core f p fit step = record {
  some = fit.some;
  each = λ k within. fit_as p.home.shards (l1_of p 0) (l1_of p k) (l1_of (with_l1 core f p) 0) (l1_of (with_l1 core f p) k) (fit.each k (omega (arith, within, length-set p.l1s core (f (l1_of p core))))) (set_shape core f p step 0) (set_shape core f p step k);
}

-- another home of the same bank
pub fit_home : (p : Bank) (home : HomeState) → AreFit p → home.shards ≡ p.home.shards → home.number ≡ p.home.number → AreFit (record p { home = home })
fit_home p home fit count number = record {
  some = (subst (λ (z : ℕ). 0 < z) (sym count) fit.some.0, subst (λ (z : ℕ). home.number < z) (sym count) (subst (λ (z : ℕ). z < p.home.shards) (sym number) fit.some.1));
  each = λ k within. subst (λ (z : ℕ). IsFit z (l1_of p 0) (l1_of p k)) (sym count) (fit.each k within);
}

pub fit_given_up : (line : ℕ) (cores : List ℕ) (p : Bank) → AreFit p → AreFit (given_up_by line cores p)
unfolding given_up_in with_bytes_at
fit_given_up line [] p fit = fit
fit_given_up line (core ∷ cores) p fit =
    fit_given_up line cores (with_l1 core (given_up_in line) (collected line core p))
    (fit_l1 core (given_up_in line) (collected line core p) (fit_home p (collected line core p).home fit refl refl) (copies_shape line (without line)))

pub fit_shared : (line : ℕ) (cores : List ℕ) (p : Bank) → AreFit p → AreFit (shared_by line cores p)
unfolding shared_in with_bytes_at
fit_shared line [] p fit = fit
fit_shared line (core ∷ cores) p fit =
    fit_shared line cores (with_l1 core (shared_in line) (collected line core p))
    (fit_l1 core (shared_in line) (collected line core p) (fit_home p (collected line core p).home fit refl refl) (copies_shape line (shared_among line)))

pub fit_instructions : (line : ℕ) (cores : List ℕ) (p : Bank) → AreFit p → AreFit (instructions_given_up_by line cores p)
unfolding instruction_given_up_in
fit_instructions line [] p fit = fit
fit_instructions line (core ∷ cores) p fit =
    fit_instructions line cores (with_l1 core (instruction_given_up_in line) p) (fit_l1 core (instruction_given_up_in line) p fit (instructions_shape line (without line)))

fit_if : (b : Bool) (line : ℕ) (p : Bank) → AreFit p → AreFit (cond b (with_home (marked_dirty_in line) p) p)
unfolding marked_dirty_in
fit_if true line p fit = fit_home p (marked_dirty_in line p.home) fit refl refl
fit_if false line p fit = fit

pub fit_dirty : (line : ℕ) (cores : List ℕ) (p : Bank) → AreFit p → AreFit (dirty_by line cores p)
fit_dirty line cores p fit = fit_if (is_modified_by p line cores) line p fit

pub fit_evicted : (v : Option (ℕ × HomeLine)) (p : Bank) → AreFit p → AreFit (evicted_everywhere v p)
fit_evicted None p fit = fit
fit_evicted (Some v) p fit = fit_instructions v.0 v.1.fetchers (given_up_by v.0 v.1.sharers p) (fit_given_up v.0 v.1.sharers p fit)

evicting : (b : Bool) (line core : ℕ) (p : Bank) → AreFit p → AreFit (with_home (dropped_in line core) (cond b (with_home (marked_dirty_in line) (collected line core p)) p))
unfolding marked_dirty_in dropped_in with_bytes_at
evicting true line core p fit = fit_home p (dropped_in line core (marked_dirty_in line (collected line core p).home)) fit refl refl
evicting false line core p fit = fit_home p (dropped_in line core p.home) fit refl refl

pub fit_own_evicted : (v : Option (ℕ × Copy)) (core : ℕ) (p : Bank) → AreFit p → AreFit (own_evicted v core p)
fit_own_evicted None core p fit = fit
fit_own_evicted (Some v) core p fit = evicting (is_modified v.1.letter) v.0 core p fit
