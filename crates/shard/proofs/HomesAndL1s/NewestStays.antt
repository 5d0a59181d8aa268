-- What is seen of a line's bytes stays where cores give a line up.
use Rattle.std.proofs.Common.{◌≡◌, ◌≢◌, ℕ, ◌+◌, ◌%◌, ◌<◌, ◌≤◌, ◌++◌, true, false, cond, List, [], ◌∷◌, length, take, drop, Option, Some, None, refl, sym, ap, ◌∙◌, subst, arith, inl, inr}
use Rattle.std.proofs.lemmas.Bool.{cases_eq}
use Rattle.std.proofs.lemmas.List.{get_or-set_other, length-append, length-drop, length-set, length-take-le}
use Rattle.zs_num.specs.Request.{line_bytes}
use Rattle.cache_set.specs.Ways.{without}
use Rattle.shard.specs.Coherence.{is_modified}
use Rattle.home.specs.HomeState.{HomeState, bytes_at, line_place, with_bytes_at}
use Rattle.l1_cache.specs.L1State.{Copy, L1State, copies_at, copy_at, given_up_in, newer_bytes, no_l1}
use Rattle.shard.specs.PartsLaws.{IsInMemory}
use Rattle.shard.specs.Seen.{newest_in}
use Rattle.shard.specs.SharedStep.{Bank, collected, copy_of, given_up_by, l1_of, with_l1}
use Rattle.shard.proofs.HomesAndL1s.BytesSeen.{bytes_other_line, bytes_same_line}
use Rattle.shard.proofs.CoherentLines.{kept_elsewhere, kept_without_other}
use Rattle.shard.proofs.HomesAndL1s.FoldIsMap.{no_given_up, stepped_same}
use Rattle.shard.proofs.HomesAndL1s.Newest.{IsOld, OneIsOld, newest_moved, newest_same}
use Rattle.shard.proofs.HomesAndL1s.RecalledSeen.{given_up_absent}

pub copy_elsewhere : (line q : ℕ) (l1 : L1State) → q ≢ line → copy_at (given_up_in line l1) q ≡ copy_at l1 q
unfolding given_up_in copy_at
copy_elsewhere line q l1 apart = kept_elsewhere l1.shards q line (without line) l1.sets (kept_without_other q line (copies_at l1 line) apart)

pub old_without : (line : ℕ) (l1 : L1State) → copy_at l1 line ≡ None → IsOld line l1
old_without line l1 none h = ap (λ (o : Option Copy). newer_bytes o h) none

pub long_still : (home : HomeState) (line : ℕ) (bytes : List ℕ) → IsInMemory home line → length bytes ≡ line_bytes → length (with_bytes_at line bytes home).bytes ≡ length home.bytes
unfolding with_bytes_at
long_still home line bytes inside long =
    let a : ℕ = line_place home line in
    omega (arith, inside.1, long, length-append (take a home.bytes) (bytes ++ drop (a + line_bytes) home.bytes), length-append bytes (drop (a + line_bytes) home.bytes), length-take-le a home.bytes (omega (arith, inside.1)), length-drop (a + line_bytes) home.bytes)

-- a bank of which a line can be given up
pub record CanGiveUp (line : ℕ) (p : Bank) : Type 0 where
  pub some : 0 < p.home.shards
  pub inside : IsInMemory p.home line
  pub here : length (bytes_at p.home line) ≡ line_bytes
  pub single : (a b : ℕ) → a ≢ b → OneIsOld line (l1_of p a) (l1_of p b)
  pub whole : (core : ℕ) (copy : Copy) → copy_of p core line ≡ Some copy → length copy.bytes ≡ line_bytes
  pub gone : (core : ℕ) → copy_at (given_up_in line (l1_of p core)) line ≡ None

pub newer_long : (o : Option Copy) (h : List ℕ) → length h ≡ line_bytes → ((copy : Copy) → o ≡ Some copy → length copy.bytes ≡ line_bytes) → length (newer_bytes o h) ≡ line_bytes
newer_long None h long whole = long
newer_long (Some copy) h long whole =
    elim (is_modified copy.letter) as (λ b. length (cond b copy.bytes h) ≡ line_bytes) [ true ↦ whole copy refl | false ↦ long ]

module _ (line core : ℕ) (p : Bank) (can : CanGiveUp line p) where
  abbrev pub stepped : Bank
  stepped = with_l1 core (given_up_in line) (collected line core p)

  abbrev home_bytes : List ℕ
  home_bytes = newer_bytes (copy_of p core line) (bytes_at p.home line)

  home_long : length home_bytes ≡ line_bytes
  home_long = newer_long (copy_of p core line) (bytes_at p.home line) can.here (can.whole core)

  own_now : l1_of stepped core ≡ given_up_in line (l1_of p core)
  own_now = stepped_same no_l1 (given_up_in line) (no_given_up line) p.l1s core

  other_now : (k : ℕ) → k ≢ core → l1_of stepped k ≡ l1_of p k
  other_now k apart = get_or-set_other p.l1s core k (given_up_in line (l1_of p core)) no_l1 apart

  -- what holds of the L1 without the line, and of the others as they were
  each_now : (P : ℕ → L1State → Type 0) → P core (given_up_in line (l1_of p core)) → ((k : ℕ) → k ≢ core → P k (l1_of p k)) → (k : ℕ) → P k (l1_of stepped k)
  each_now P own others k =
      elim (cases_eq k core) as (λ _. P k (l1_of stepped k)) [
        | inl e ↦ subst (λ (j : ℕ). P j (l1_of stepped j)) (sym e) (subst (P core) (sym own_now) own)
        | inr e ↦ subst (P k) (sym (other_now k e)) (others k e)
      ]

  pub same_line : newest_in line (bytes_at stepped.home line) stepped.l1s ≡ newest_in line (bytes_at p.home line) p.l1s
  same_line =
      ap (λ (b : List ℕ). newest_in line b stepped.l1s) (bytes_same_line p.home line home_bytes can.inside home_long)
      ∙ newest_moved line core (bytes_at p.home line) p.l1s (given_up_in line (l1_of p core)) (old_without line (given_up_in line (l1_of p core)) (can.gone core)) (λ k apart. can.single k core apart)

  pub other_line : (q : ℕ) → IsInMemory p.home q → line % p.home.shards ≡ q % p.home.shards → q ≢ line → newest_in q (bytes_at stepped.home q) stepped.l1s ≡ newest_in q (bytes_at p.home q) p.l1s
  other_line q inside same apart =
      ap (λ (b : List ℕ). newest_in q b stepped.l1s) (bytes_other_line p.home line q home_bytes can.some can.inside inside same (λ e. apart (sym e)) home_long)
      ∙ newest_same q (bytes_at p.home q) stepped.l1s p.l1s (length-set p.l1s core (given_up_in line (l1_of p core)))
      (each_now (λ k x. copy_at x q ≡ copy_at (l1_of p k) q) (copy_elsewhere line q (l1_of p core) apart) (λ k e. refl))

  memory_still : (q : ℕ) → IsInMemory p.home q → IsInMemory stepped.home q
  unfolding with_bytes_at
  memory_still q inside =
      (inside.0, subst (λ (l : ℕ). line_place p.home q + line_bytes ≤ l) (sym (long_still p.home line home_bytes can.inside home_long)) inside.1)

  pub can_still : CanGiveUp line stepped
  unfolding with_bytes_at
  can_still = record {
    some = can.some;
    inside = memory_still line can.inside;
    here = ap (λ (b : List ℕ). length b) (bytes_same_line p.home line home_bytes can.inside home_long) ∙ home_long;
    single = λ a b apart. elim (cases_eq a core) as (λ _. OneIsOld line (l1_of stepped a) (l1_of stepped b)) [
      | inl e ↦ inl (subst (λ (j : ℕ). IsOld line (l1_of stepped j)) (sym e) (subst (IsOld line) (sym own_now) (old_without line (given_up_in line (l1_of p core)) (can.gone core))))
      | inr e ↦ each_now (λ k x. a ≢ k → OneIsOld line (l1_of stepped a) x) (λ _. inr (old_without line (given_up_in line (l1_of p core)) (can.gone core)))
          (λ k f apart. subst (λ (x : L1State). OneIsOld line x (l1_of p k)) (sym (other_now a e)) (can.single a k apart)) b apart
    ];
    whole = each_now (λ k x. (copy : Copy) → copy_at x line ≡ Some copy → length copy.bytes ≡ line_bytes) (λ copy e. let bad : None ≡ Some copy = sym (can.gone core) ∙ e in absurd cc) (λ k e. can.whole k);
    gone = each_now (λ k x. copy_at (given_up_in line x) line ≡ None) (ap (λ (x : L1State). copy_at x line) (given_up_absent line (given_up_in line (l1_of p core)) (can.gone core)) ∙ can.gone core) (λ k e. can.gone k);
  }

-- whichever cores give it up
pub newest_stays : (line q : ℕ) (cores : List ℕ) (p : Bank) → CanGiveUp line p → IsInMemory p.home q → line % p.home.shards ≡ q % p.home.shards
    → newest_in q (bytes_at (given_up_by line cores p).home q) (given_up_by line cores p).l1s ≡ newest_in q (bytes_at p.home q) p.l1s
unfolding with_bytes_at
newest_stays line q [] p can inside same = refl
newest_stays line q (core ∷ cores) p can inside same =
    newest_stays line q cores (stepped line core p can) (can_still line core p can) (memory_still line core p can q inside) same
    ∙ elim (cases_eq q line) as (λ _. newest_in q (bytes_at (stepped line core p can).home q) (stepped line core p can).l1s ≡ newest_in q (bytes_at p.home q) p.l1s) [
      | inl e ↦ subst (λ (j : ℕ). newest_in j (bytes_at (stepped line core p can).home j) (stepped line core p can).l1s ≡ newest_in j (bytes_at p.home j) p.l1s) (sym e) (same_line line core p can)
      | inr e ↦ other_line line core p can q inside same e
    ]

-- the bytes at home of other lines, and how many they are
pub bytes_stay : (line q : ℕ) (cores : List ℕ) (p : Bank) → CanGiveUp line p → IsInMemory p.home q → line % p.home.shards ≡ q % p.home.shards → q ≢ line → bytes_at (given_up_by line cores p).home q ≡ bytes_at p.home q
unfolding with_bytes_at
bytes_stay line q [] p can inside same apart = refl
bytes_stay line q (core ∷ cores) p can inside same apart =
    bytes_stay line q cores (stepped line core p can) (can_still line core p can) (memory_still line core p can q inside) same apart
    ∙ bytes_other_line p.home line q (home_bytes line core p can) can.some can.inside inside same (λ e. apart (sym e)) (home_long line core p can)

pub length_stays : (line : ℕ) (cores : List ℕ) (p : Bank) → CanGiveUp line p → length (given_up_by line cores p).home.bytes ≡ length p.home.bytes
unfolding with_bytes_at
length_stays line [] p can = refl
length_stays line (core ∷ cores) p can =
    length_stays line cores (stepped line core p can) (can_still line core p can) ∙ long_still p.home line (home_bytes line core p can) can.inside (home_long line core p can)
