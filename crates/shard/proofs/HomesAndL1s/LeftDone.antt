-- The others gave the line up.
use Rattle.std.proofs.Common.{◌≡◌, ◌≢◌, ℕ, ◌%◌, Bool, true, List, length, get_or, Option, Some, None, refl, sym, ap, ◌∙◌, subst, inl, inr}
use Rattle.std.proofs.lemmas.Bool.{cases_eq}
use Rattle.shard.specs.Coherence.{is_alone, is_valid}
use Rattle.home.specs.HomeState.{HomeLine, HomeState, row_at, row_of}
use Rattle.l1_cache.specs.L1State.{Copy, L1State, copy_at, given_up_in, has_instructions, letter_of, no_l1}
use Rattle.shard.specs.PartsLaws.{AreParts, IsInMemory, IsOwn}
use Rattle.shard.specs.SharedStep.{Bank, copy_of, given_up_by, is_modified_by, l1_of, left_by_others, others_of}
use Rattle.shard.proofs.HomesAndL1s.Banks.{given_up_bank}
use Rattle.shard.proofs.HomesAndL1s.CanGive.{can_give, gone_at}
use Rattle.shard.proofs.HomesAndL1s.FoldIsMap.{given_up_l1s, no_given_up, one_after_the_other}
use Rattle.shard.proofs.HomesAndL1s.LeftSeen.{left_at, left_core}
use Rattle.shard.proofs.HomesAndL1s.LineFits.{KeepsBank, memory_in}
use Rattle.shard.proofs.HomesAndL1s.NewestStays.{CanGiveUp, bytes_stay, copy_elsewhere, length_stays, newest_stays}
use Rattle.shard.proofs.HomesAndL1s.OthersDone.{OthersDone, dirtied, dirtied_bytes, dirtied_give, dirtied_keeps, dirtied_l1s, dirtied_marks, dirtied_newest, dirtied_row, dirtied_rows}
use Rattle.shard.proofs.HomesAndL1s.RecalledSeen.{given_up_home}

pub rows_are : (home : HomeState) (bytes : List ℕ) (x : ℕ) → row_at (record home { bytes = bytes }) x ≡ row_at home x
unfolding row_at
rows_are home bytes x = refl

module _ (p : Bank) (are : AreParts p) (core line : ℕ) (own : IsOwn p line) (inside : IsInMemory p.home line) (there : row_at p.home line ≡ Some (row_of p.home line)) (b : Bool) where
  abbrev row : HomeLine
  row = row_of p.home line

  abbrev others : List ℕ
  others = others_of core row

  abbrev d : Bank
  d = dirtied p are line row there b

  abbrev l : Bank
  l = given_up_by line others d

  dk : KeepsBank p d
  dk = dirtied_keeps p are line row there b

  can : CanGiveUp line d
  can = dirtied_give p are line row there b (can_give p are line own inside)

  home_is : l.home ≡ record d.home { bytes = l.home.bytes }
  home_is = given_up_home line others d

  at_other : (k : ℕ) → k ≢ core → l1_of l k ≡ given_up_in line (l1_of p k)
  at_other k apart =
      ap (λ (l1s : List L1State). get_or l1s k no_l1) (given_up_l1s line others d)
      ∙ (ap (λ (l1s : List L1State). get_or (one_after_the_other no_l1 (given_up_in line) (no_given_up line) others l1s) k no_l1) (dirtied_l1s p are line row there b)
      ∙ left_at p are core line own k apart)

  own_still : l1_of l core ≡ l1_of p core
  own_still = left_core p are core line own d (dirtied_l1s p are line row there b)

  instructions_are : (l1 : L1State) (x : ℕ) → has_instructions (given_up_in line l1) x ≡ has_instructions l1 x
  unfolding given_up_in has_instructions
  instructions_are l1 x = refl

  none : (k : ℕ) → k ≢ core → copy_of l k line ≡ None
  none k apart = ap (λ (l1 : L1State). copy_at l1 line) (at_other k apart) ∙ gone_at p are line own k

  same_rest : (x : ℕ) → IsOwn p x → line % d.home.shards ≡ x % d.home.shards
  same_rest x own_x = ap (λ (z : ℕ). line % z) dk.bank.count ∙ (own ∙ sym own_x) ∙ sym (ap (λ (z : ℕ). x % z) dk.bank.count)

  pub given_done : OthersDone p l core line row true
  given_done = record {
    keeps = record {
      bank = given_up_bank p d dk.bank line others;
      base = ap (λ (h : HomeState). h.base) home_is ∙ dk.base;
      size = ap (λ (h : HomeState). h.size) home_is ∙ dk.size;
      marks = ap (λ (h : HomeState). length h.marks) home_is ∙ dk.marks;
      long = length_stays line others d can ∙ dk.long;
    };
    marks = ap (λ (h : HomeState). h.marks) home_is ∙ dirtied_marks p are line row there b;
    row_now =
        let r = dirtied_row p are line row there b in
        (r.0, ap (λ (h : HomeState). row_at h line) home_is ∙ (rows_are d.home l.home.bytes line ∙ r.1), r.2, r.3);
    rows = λ x apart. ap (λ (h : HomeState). row_at h x) home_is ∙ (rows_are d.home l.home.bytes x ∙ dirtied_rows p are line row there b x apart);
    own = own_still;
    copies = λ x k apart. elim (cases_eq k core) as (λ _. copy_of l k x ≡ copy_of p k x) [
      | inl e ↦ subst (λ (j : ℕ). copy_of l j x ≡ copy_of p j x) (sym e) (ap (λ (l1 : L1State). copy_at l1 x) own_still)
      | inr e ↦ ap (λ (l1 : L1State). copy_at l1 x) (at_other k e) ∙ copy_elsewhere line x (l1_of p k) apart
    ];
    instructions = λ x k. elim (cases_eq k core) as (λ _. has_instructions (l1_of l k) x ≡ has_instructions (l1_of p k) x) [
      | inl e ↦ subst (λ (j : ℕ). has_instructions (l1_of l j) x ≡ has_instructions (l1_of p j) x) (sym e) (ap (λ (l1 : L1State). has_instructions l1 x) own_still)
      | inr e ↦ ap (λ (l1 : L1State). has_instructions l1 x) (at_other k e) ∙ instructions_are (l1_of p k) x
    ];
    bytes = λ x apart own_x inside_x. bytes_stay line x others d can (memory_in p d dk x inside_x) (same_rest x own_x) apart ∙ dirtied_bytes p are line row there b x;
    newest = λ x own_x inside_x. newest_stays line x others d can (memory_in p d dk x inside_x) (same_rest x own_x) ∙ dirtied_newest p are line row there b x;
    shared = λ k apart. ap (λ (o : Option Copy). is_alone (letter_of o)) (none k apart);
    valid = λ k apart. ap (λ (o : Option Copy). is_valid (letter_of o)) (none k apart);
    whole = λ k copy apart e. let bad : None ≡ Some copy = sym (none k apart) ∙ e in absurd cc;
    clean = λ k copy apart e. let bad : None ≡ Some copy = sym (none k apart) ∙ e in absurd cc;
    free = λ k copy apart e. let bad : None ≡ Some copy = sym (none k apart) ∙ e in absurd cc;
  }

pub left_done : (p : Bank) → AreParts p → (core line : ℕ) → IsOwn p line → IsInMemory p.home line → row_at p.home line ≡ Some (row_of p.home line)
    → OthersDone p (left_by_others core line (row_of p.home line) p) core line (row_of p.home line) true
unfolding left_by_others
left_done p are core line own inside there = given_done p are core line own inside there (is_modified_by p line (others_of core (row_of p.home line)))
