-- The steps of a bank leave it the bank that it is, with as many L1s.
use Rattle.std.proofs.Common.{◌≡◌, ℕ, ◌%◌, ◌<◌, Bool, true, false, cond, List, length, Option, Some, None, refl, sym, ap, ◌∙◌, subst}
use Rattle.home.specs.HomeState.{HomeLine, HomeState, brought_in, evicted_by, looked_up_in, marked_dirty_in}
use Rattle.l1_cache.specs.L1State.{L1State, given_up_in, instruction_given_up_in, no_l1, shared_in}
use Rattle.shard.specs.PartsLaws.{IsOwn}
use Rattle.shard.specs.SharedStep.{Bank, brought_home, dirty_by, evicted_everywhere, given_up_by, instructions_given_up_by, is_modified_by, left_by_others, others_of, shared_by, shared_by_others, with_home}
use Rattle.shard.proofs.HomesAndL1s.Fit.{AreFit, fit_given_up, fit_home, fit_instructions, fit_shared}
use Rattle.shard.proofs.HomesAndL1s.FoldIsMap.{fold_long, given_up_l1s, instructions_given_up_l1s, no_given_up, no_instructions_given_up, no_shared, shared_l1s}
use Rattle.shard.proofs.HomesAndL1s.InstructionsSeen.{instructions_home}
use Rattle.shard.proofs.HomesAndL1s.RecalledSeen.{given_up_home}
use Rattle.shard.proofs.HomesAndL1s.SharedSeen.{shared_home}

pub record IsBankOf (p q : Bank) : Type 0 where
  pub count : q.home.shards ≡ p.home.shards
  pub number : q.home.number ≡ p.home.number
  pub cores : length q.l1s ≡ length p.l1s
  pub fit : AreFit q

pub same_bank : (p : Bank) → AreFit p → IsBankOf p p
same_bank p fit = record { count = refl; number = refl; cores = refl; fit = fit }

module _ (p q : Bank) (is : IsBankOf p q) where
  pub own_in : (line : ℕ) → IsOwn p line → IsOwn q line
  own_in line own = ap (λ (z : ℕ). line % z) is.count ∙ (own ∙ sym is.number)

  pub core_in : (core : ℕ) → core < length p.l1s → core < length q.l1s
  core_in core within = subst (λ (z : ℕ). core < z) (sym is.cores) within

  pub home_bank : (home : HomeState) → home.shards ≡ q.home.shards → home.number ≡ q.home.number → IsBankOf p (record q { home = home })
  home_bank home count number = record { count = count ∙ is.count; number = number ∙ is.number; cores = is.cores; fit = fit_home q home is.fit count number }

  pub given_up_bank : (line : ℕ) (cores : List ℕ) → IsBankOf p (given_up_by line cores q)
  given_up_bank line cores = record {
    count = ap (λ (h : HomeState). h.shards) (given_up_home line cores q) ∙ is.count;
    number = ap (λ (h : HomeState). h.number) (given_up_home line cores q) ∙ is.number;
    cores = ap (λ (l : List L1State). length l) (given_up_l1s line cores q) ∙ (fold_long no_l1 (given_up_in line) (no_given_up line) cores q.l1s ∙ is.cores);
    fit = fit_given_up line cores q is.fit;
  }

  pub shared_bank : (line : ℕ) (cores : List ℕ) → IsBankOf p (shared_by line cores q)
  shared_bank line cores = record {
    count = ap (λ (h : HomeState). h.shards) (shared_home line cores q) ∙ is.count;
    number = ap (λ (h : HomeState). h.number) (shared_home line cores q) ∙ is.number;
    cores = ap (λ (l : List L1State). length l) (shared_l1s line cores q) ∙ (fold_long no_l1 (shared_in line) (no_shared line) cores q.l1s ∙ is.cores);
    fit = fit_shared line cores q is.fit;
  }

  pub instructions_bank : (line : ℕ) (cores : List ℕ) → IsBankOf p (instructions_given_up_by line cores q)
  instructions_bank line cores = record {
    count = ap (λ (h : HomeState). h.shards) (instructions_home line cores q) ∙ is.count;
    number = ap (λ (h : HomeState). h.number) (instructions_home line cores q) ∙ is.number;
    cores = ap (λ (l : List L1State). length l) (instructions_given_up_l1s line cores q) ∙ (fold_long no_l1 (instruction_given_up_in line) (no_instructions_given_up line) cores q.l1s ∙ is.cores);
    fit = fit_instructions line cores q is.fit;
  }

  pub looked_up_bank : (line : ℕ) → IsBankOf p (with_home (looked_up_in line) q)
  unfolding looked_up_in
  looked_up_bank line = home_bank (looked_up_in line q.home) refl refl

  pub brought_in_bank : (line : ℕ) → IsBankOf p (with_home (brought_in line) q)
  unfolding brought_in
  brought_in_bank line = home_bank (brought_in line q.home) refl refl

  pub marked_bank : (b : Bool) (line : ℕ) → IsBankOf p (cond b (with_home (marked_dirty_in line) q) q)
  unfolding marked_dirty_in
  marked_bank true line = home_bank (marked_dirty_in line q.home) refl refl
  marked_bank false line = is

module _ (p : Bank) (fit : AreFit p) where
  evicted_bank : (v : Option (ℕ × HomeLine)) → IsBankOf p (evicted_everywhere v p)
  evicted_bank None = same_bank p fit
  evicted_bank (Some v) = instructions_bank p (given_up_by v.0 v.1.sharers p) (given_up_bank p p (same_bank p fit) v.0 v.1.sharers) v.0 v.1.fetchers

  pub brought_home_bank : (line : ℕ) → IsBankOf p (brought_home line p)
  unfolding brought_home
  brought_home_bank line = brought_in_bank p (evicted_everywhere (evicted_by p.home line) p) (evicted_bank (evicted_by p.home line)) line

  pub left_bank : (core line : ℕ) (row : HomeLine) → IsBankOf p (left_by_others core line row (with_home (looked_up_in line) p))
  unfolding left_by_others
  left_bank core line row =
      let q : Bank = with_home (looked_up_in line) p in
      let others : List ℕ = others_of core row in
      given_up_bank p (dirty_by line others q) (marked_bank p q (looked_up_bank p p (same_bank p fit) line) (is_modified_by q line others) line) line others

  sharing : (b : Bool) (line : ℕ) (row : HomeLine) (q : Bank) → IsBankOf p q → IsBankOf p (cond b (shared_by line row.sharers (dirty_by line row.sharers q)) q)
  sharing true line row q is = shared_bank p (dirty_by line row.sharers q) (marked_bank p q is (is_modified_by q line row.sharers) line) line row.sharers
  sharing false line row q is = is

  pub shared_others_bank : (line : ℕ) (row : HomeLine) → IsBankOf p (shared_by_others line row (with_home (looked_up_in line) p))
  unfolding shared_by_others
  shared_others_bank line row = sharing row.alone line row (with_home (looked_up_in line) p) (looked_up_bank p p (same_bank p fit) line)
