-- Parts can give a line of the bank up.
use Rattle.std.proofs.Common.{◌≡◌, ◌≢◌, ℕ, Bool, true, false, cond, List, length, drop, Option, Some, None, refl, sym, ap, ◌∙◌, subst, arith, inl, inr}
use Rattle.std.specs.Prelude.{IsTrue}
use Rattle.std.proofs.lemmas.Bool.{cases_Bool, cases_lt}
use Rattle.std.proofs.lemmas.List.{get_or_past, length-drop, length-take-le}
use Rattle.zs_num.specs.Request.{line_bytes}
use Rattle.cache_set.specs.declared.letter.Letter.{Letter}
use Rattle.cache_set.specs.declared.letter.Letter.TheVariants.{M, E, S, I}
use Rattle.shard.specs.Coherence.{is_alone, is_modified, letter_at}
use Rattle.home.specs.HomeState.{HomeState, bytes_at, line_place}
use Rattle.l1_cache.specs.L1State.{Copy, L1State, copy_at, given_up_in, letter_of, newer_bytes, no_l1}
use Rattle.shard.specs.PartsLaws.{AreParts, IsInMemory, IsOwn}
use Rattle.shard.specs.Seen.{caches_seen}
use Rattle.shard.specs.SharedStep.{Bank, copy_of, l1_of, own_letter}
use Rattle.shard.proofs.HomesAndL1s.FitOf.{fit_of}
use Rattle.shard.proofs.HomesAndL1s.FoldIsMap.{no_given_up}
use Rattle.shard.proofs.HomesAndL1s.LettersSeen.{letter_seen}
use Rattle.shard.proofs.HomesAndL1s.Newest.{IsOld, OneIsOld}
use Rattle.shard.proofs.HomesAndL1s.NewestStays.{CanGiveUp}
use Rattle.shard.proofs.HomesAndL1s.RecalledSeen.{distinct_at, given_up_gone}

pub bytes_long : (home : HomeState) (line : ℕ) → IsInMemory home line → length (bytes_at home line) ≡ line_bytes
unfolding bytes_at
bytes_long home line inside =
    length-take-le line_bytes (drop (line_place home line) home.bytes) (omega (arith, inside.1, length-drop (line_place home line) home.bytes))

-- a copy that was not modified has nothing newer
pub old_letter : (o : Option Copy) → is_modified (letter_of o) ≡ false → (h : List ℕ) → newer_bytes o h ≡ h
old_letter None m h = refl
old_letter (Some copy) m h = ap (λ (b : Bool). cond b copy.bytes h) m

pub modified_alone : (x : Letter) → is_modified x ≡ true → IsTrue (is_alone x)
modified_alone M h = refl
modified_alone E h = absurd cc
modified_alone S h = absurd cc
modified_alone I h = absurd cc

module _ (p : Bank) (are : AreParts p) (line : ℕ) (own : IsOwn p line) where
  pub old_at : (k : ℕ) → is_modified (own_letter p k line) ≡ false → IsOld line (l1_of p k)
  old_at k m = old_letter (copy_of p k line) m

  pub one_old : (a b : ℕ) → a ≢ b → OneIsOld line (l1_of p a) (l1_of p b)
  one_old a b apart =
      elim (cases_Bool (is_modified (own_letter p a line))) as (λ _. OneIsOld line (l1_of p a) (l1_of p b)) [
        | inl m ↦
            let seen_a : letter_at (caches_seen p) a line ≡ own_letter p a line = letter_seen p (fit_of p are) a line own in
            let seen_b : letter_at (caches_seen p) b line ≡ own_letter p b line = letter_seen p (fit_of p are) b line own in
            let alone : IsTrue (is_alone (letter_at (caches_seen p) a line)) = subst (λ (x : Letter). IsTrue (is_alone x)) (sym seen_a) (modified_alone (own_letter p a line) m) in
            let gone : own_letter p b line ≡ I = sym seen_b ∙ are.coherent.single a b line (λ e. apart (sym e)) alone in
            inr (old_at b (ap is_modified gone))
        | inr m ↦ inl (old_at a m)
      ]

  pub gone_at : (k : ℕ) → copy_at (given_up_in line (l1_of p k)) line ≡ None
  unfolding copy_at
  gone_at k =
      elim (cases_lt k (length p.l1s)) as (λ _. copy_at (given_up_in line (l1_of p k)) line ≡ None) [
        | inl l ↦ given_up_gone line (l1_of p k) (omega (arith, ((fit_of p are).each k l).room)) (distinct_at p are line own k l)
        | inr past ↦ subst (λ (l1 : L1State). copy_at (given_up_in line l1) line ≡ None) (sym (get_or_past p.l1s k no_l1 past)) (ap (λ (l1 : L1State). copy_at l1 line) (no_given_up line))
      ]

  pub can_give : IsInMemory p.home line → CanGiveUp line p
  can_give inside = record {
    some = are.some.0;
    inside = inside;
    here = bytes_long p.home line inside;
    single = one_old;
    whole = λ k copy e. are.whole k line copy own e;
    gone = gone_at;
  }
