-- What is seen of a line's bytes stays where cores share a line.
use Rattle.std.proofs.Common.{◌≡◌, ◌≢◌, ℕ, ◌+◌, ◌%◌, ◌<◌, ◌≤◌, List, [], ◌∷◌, length, Some, refl, sym, ap, ◌∙◌, subst, inl, inr}
use Rattle.std.proofs.lemmas.Bool.{cases_eq}
use Rattle.std.proofs.lemmas.List.{get_or-set_other, length-set}
use Rattle.zs_num.specs.Request.{line_bytes}
use Rattle.home.specs.HomeState.{bytes_at, line_place, with_bytes_at}
use Rattle.l1_cache.specs.L1State.{Copy, L1State, copy_at, newer_bytes, no_l1, shared_in}
use Rattle.shard.specs.PartsLaws.{IsInMemory}
use Rattle.shard.specs.Seen.{newest_in}
use Rattle.shard.specs.SharedStep.{Bank, collected, copy_of, l1_of, shared_by, with_l1}
use Rattle.shard.proofs.HomesAndL1s.BytesSeen.{bytes_other_line, bytes_same_line}
use Rattle.shard.proofs.HomesAndL1s.FoldIsMap.{no_shared, stepped_same}
use Rattle.shard.proofs.HomesAndL1s.Newest.{IsOld, OneIsOld, newest_moved, newest_same}
use Rattle.shard.proofs.HomesAndL1s.NewestStays.{long_still, newer_long}
use Rattle.shard.proofs.HomesAndL1s.SharedCopies.{shared_elsewhere, shared_from, shared_old}

-- a bank of which a line can be shared
pub record CanShare (line : ℕ) (p : Bank) : Type 0 where
  pub some : 0 < p.home.shards
  pub inside : IsInMemory p.home line
  pub here : length (bytes_at p.home line) ≡ line_bytes
  pub single : (a b : ℕ) → a ≢ b → OneIsOld line (l1_of p a) (l1_of p b)
  pub whole : (core : ℕ) (copy : Copy) → copy_of p core line ≡ Some copy → length copy.bytes ≡ line_bytes

module _ (line core : ℕ) (p : Bank) (can : CanShare line p) where
  abbrev stepped : Bank
  stepped = with_l1 core (shared_in line) (collected line core p)

  abbrev home_bytes : List ℕ
  home_bytes = newer_bytes (copy_of p core line) (bytes_at p.home line)

  home_long : length home_bytes ≡ line_bytes
  home_long = newer_long (copy_of p core line) (bytes_at p.home line) can.here (can.whole core)

  own_now : l1_of stepped core ≡ shared_in line (l1_of p core)
  own_now = stepped_same no_l1 (shared_in line) (no_shared line) p.l1s core

  other_now : (k : ℕ) → k ≢ core → l1_of stepped k ≡ l1_of p k
  other_now k apart = get_or-set_other p.l1s core k (shared_in line (l1_of p core)) no_l1 apart

  each_now : (P : ℕ → L1State → Type 0) → P core (shared_in line (l1_of p core)) → ((k : ℕ) → k ≢ core → P k (l1_of p k)) → (k : ℕ) → P k (l1_of stepped k)
  each_now P own others k =
      elim (cases_eq k core) as (λ _. P k (l1_of stepped k)) [
        | inl e ↦ subst (λ (j : ℕ). P j (l1_of stepped j)) (sym e) (subst (P core) (sym own_now) own)
        | inr e ↦ subst (P k) (sym (other_now k e)) (others k e)
      ]

  same_line : newest_in line (bytes_at stepped.home line) stepped.l1s ≡ newest_in line (bytes_at p.home line) p.l1s
  same_line =
      ap (λ (b : List ℕ). newest_in line b stepped.l1s) (bytes_same_line p.home line home_bytes can.inside home_long)
      ∙ newest_moved line core (bytes_at p.home line) p.l1s (shared_in line (l1_of p core)) (shared_old line (l1_of p core)) (λ k apart. can.single k core apart)

  other_line : (x : ℕ) → IsInMemory p.home x → line % p.home.shards ≡ x % p.home.shards → x ≢ line → newest_in x (bytes_at stepped.home x) stepped.l1s ≡ newest_in x (bytes_at p.home x) p.l1s
  other_line x inside same apart =
      ap (λ (b : List ℕ). newest_in x b stepped.l1s) (bytes_other_line p.home line x home_bytes can.some can.inside inside same (λ e. apart (sym e)) home_long)
      ∙ newest_same x (bytes_at p.home x) stepped.l1s p.l1s (length-set p.l1s core (shared_in line (l1_of p core)))
      (each_now (λ k l1. copy_at l1 x ≡ copy_at (l1_of p k) x) (shared_elsewhere line x (l1_of p core) apart) (λ k e. refl))

  memory_still : (x : ℕ) → IsInMemory p.home x → IsInMemory stepped.home x
  unfolding with_bytes_at
  memory_still x inside =
      (inside.0, subst (λ (l : ℕ). line_place p.home x + line_bytes ≤ l) (sym (long_still p.home line home_bytes can.inside home_long)) inside.1)

  whole_shared : (copy : Copy) → copy_at (shared_in line (l1_of p core)) line ≡ Some copy → length copy.bytes ≡ line_bytes
  whole_shared after e =
      let was = shared_from line (l1_of p core) (copy_of p core line) refl after e in
      ap (λ (c : Copy). length c.bytes) was.2 ∙ can.whole core was.0 was.1

  can_still : CanShare line stepped
  unfolding with_bytes_at
  can_still = record {
    some = can.some;
    inside = memory_still line can.inside;
    here = ap (λ (b : List ℕ). length b) (bytes_same_line p.home line home_bytes can.inside home_long) ∙ home_long;
    single = λ a b apart. elim (cases_eq a core) as (λ _. OneIsOld line (l1_of stepped a) (l1_of stepped b)) [
      | inl e ↦ inl (subst (λ (j : ℕ). IsOld line (l1_of stepped j)) (sym e) (subst (IsOld line) (sym own_now) (shared_old line (l1_of p core))))
      | inr e ↦ each_now (λ k x. a ≢ k → OneIsOld line (l1_of stepped a) x) (λ _. inr (shared_old line (l1_of p core)))
          (λ k f apart. subst (λ (x : L1State). OneIsOld line x (l1_of p k)) (sym (other_now a e)) (can.single a k apart)) b apart
    ];
    whole = each_now (λ k x. (copy : Copy) → copy_at x line ≡ Some copy → length copy.bytes ≡ line_bytes) whole_shared (λ k e. can.whole k);
  }

pub newest_shared : (line x : ℕ) (cores : List ℕ) (p : Bank) → CanShare line p → IsInMemory p.home x → line % p.home.shards ≡ x % p.home.shards
    → newest_in x (bytes_at (shared_by line cores p).home x) (shared_by line cores p).l1s ≡ newest_in x (bytes_at p.home x) p.l1s
unfolding with_bytes_at
newest_shared line x [] p can inside same = refl
newest_shared line x (core ∷ cores) p can inside same =
    newest_shared line x cores (stepped line core p can) (can_still line core p can) (memory_still line core p can x inside) same
    ∙ elim (cases_eq x line) as (λ _. newest_in x (bytes_at (stepped line core p can).home x) (stepped line core p can).l1s ≡ newest_in x (bytes_at p.home x) p.l1s) [
      | inl e ↦ subst (λ (j : ℕ). newest_in j (bytes_at (stepped line core p can).home j) (stepped line core p can).l1s ≡ newest_in j (bytes_at p.home j) p.l1s) (sym e) (same_line line core p can)
      | inr e ↦ other_line line core p can x inside same e
    ]

pub bytes_shared : (line x : ℕ) (cores : List ℕ) (p : Bank) → CanShare line p → IsInMemory p.home x → line % p.home.shards ≡ x % p.home.shards → x ≢ line → bytes_at (shared_by line cores p).home x ≡ bytes_at p.home x
unfolding with_bytes_at
bytes_shared line x [] p can inside same apart = refl
bytes_shared line x (core ∷ cores) p can inside same apart =
    bytes_shared line x cores (stepped line core p can) (can_still line core p can) (memory_still line core p can x inside) same apart
    ∙ bytes_other_line p.home line x (home_bytes line core p can) can.some can.inside inside same (λ e. apart (sym e)) (home_long line core p can)

pub length_shared : (line : ℕ) (cores : List ℕ) (p : Bank) → CanShare line p → length (shared_by line cores p).home.bytes ≡ length p.home.bytes
unfolding with_bytes_at
length_shared line [] p can = refl
length_shared line (core ∷ cores) p can =
    length_shared line cores (stepped line core p can) (can_still line core p can) ∙ long_still p.home line (home_bytes line core p can) can.inside (home_long line core p can)
