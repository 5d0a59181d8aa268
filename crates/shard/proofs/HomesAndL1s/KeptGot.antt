-- A line that a core's own L1 has comes to its front, with another letter.
use Rattle.std.proofs.Common.{◌≡◌, ◌≢◌, ℕ, ◌<◌, Bool, true, false, cond, List, ◌∷◌, length, Option, Some, None, refl, sym, ap, ◌∙◌, subst, inl, inr}
use Rattle.std.proofs.lemmas.Bool.{cases_Bool, cases_eq}
use Rattle.std.proofs.lemmas.List.{get_or-set_other, get_or-set_same, length-set}
use Rattle.cache_set.specs.Ways.{kept_of, without}
use Rattle.shard.specs.Coherence.{is_alone, is_modified}
use Rattle.home.specs.HomeState.{HomeLine, bytes_at, row_at, row_of}
use Rattle.l1_cache.specs.L1State.{Copy, L1State, copies_at, copy_at, has_instructions, kept_first_in, letter_of, newer_bytes, no_l1}
use Rattle.shard.specs.PartsLaws.{AreParts, IsInMemory, IsOwn}
use Rattle.shard.specs.Seen.{newest_in}
use Rattle.shard.specs.SharedStep.{Bank, copy_of, l1_of, own_letter, with_l1}
use Rattle.shard.proofs.HomesAndL1s.Banks.{IsBankOf, same_bank}
use Rattle.shard.proofs.HomesAndL1s.CanGive.{old_letter}
use Rattle.shard.proofs.CoherentLines.{kept_elsewhere, kept_front_other, kept_front_same, kept_without_other, set_same}
use Rattle.shard.proofs.HomesAndL1s.Decisions.{contrary}
use Rattle.shard.proofs.HomesAndL1s.Fit.{IsShapedAs, copies_shape, fit_l1}
use Rattle.shard.proofs.HomesAndL1s.FitOf.{fit_of}
use Rattle.shard.proofs.HomesAndL1s.LineFits.{line_of_parts}
use Rattle.shard.proofs.HomesAndL1s.Newest.{IsOld, newest_one, newest_same}
use Rattle.shard.proofs.HomesAndL1s.OthersDone.{OthersDone, newest_copy, others_shared}
use Rattle.shard.proofs.HomesAndL1s.OwnGot.{OwnGot}
use Rattle.shard.proofs.HomesAndL1s.Rows.{has_sets}
use Rattle.shard.proofs.HomesAndL1s.SharedDone.{not_modified}

-- ---- one L1
pub first_shape : (line : ℕ) (copy : Copy) (l1 : L1State) → IsShapedAs l1 (kept_first_in line copy l1)
unfolding kept_first_in
first_shape line copy l1 = copies_shape line (λ copies. (line, copy) ∷ without line copies) l1

pub first_same : (line : ℕ) (copy was : Copy) (l1 : L1State) → copy_at l1 line ≡ Some was → copy_at (kept_first_in line copy l1) line ≡ Some copy
unfolding kept_first_in copy_at
first_same line copy was l1 e =
    ap (kept_of line) (set_same l1.shards line (λ copies. (line, copy) ∷ without line copies) l1.sets (has_sets l1.shards line l1.sets was e))
    ∙ kept_front_same line copy (without line (copies_at l1 line))

pub first_other : (line : ℕ) (copy : Copy) (l1 : L1State) (x : ℕ) → x ≢ line → copy_at (kept_first_in line copy l1) x ≡ copy_at l1 x
unfolding kept_first_in copy_at
first_other line copy l1 x apart =
    let s : List (ℕ × Copy) = copies_at l1 line in
    kept_elsewhere l1.shards x line (λ copies. (line, copy) ∷ without line copies) l1.sets (kept_front_other x line copy (without line s) apart ∙ kept_without_other x line s apart)

pub first_instructions : (line : ℕ) (copy : Copy) (l1 : L1State) (x : ℕ) → has_instructions (kept_first_in line copy l1) x ≡ has_instructions l1 x
unfolding kept_first_in has_instructions
first_instructions line copy l1 x = refl

-- ---- where a core has the line, no other has it alone
pub kept_done : (p : Bank) → AreParts p → (core line : ℕ) → IsOwn p line → (copy : Copy) → copy_of p core line ≡ Some copy → row_at p.home line ≡ Some (row_of p.home line) → OthersDone p p core line (row_of p.home line) false
kept_done p are core line own copy here there = record {
  keeps = record { bank = same_bank p (fit_of p are); base = refl; size = refl; marks = refl; long = refl };
  marks = refl;
  row_now = (row_of p.home line, there, refl, refl);
  rows = λ x apart. refl;
  own = refl;
  copies = λ x k apart. refl;
  instructions = λ x k. refl;
  bytes = λ x apart own_x inside_x. refl;
  newest = λ x own_x inside_x. refl;
  shared = λ k apart. others_shared p are line own core copy here k apart;
  valid = λ k apart. refl;
  whole = λ k c apart e. are.whole k line c own e;
  clean = λ k c apart e. are.clean k line c own e (not_modified c.letter (letter k c apart e));
  free = λ k c apart e. elim (cases_Bool c.free) as (λ _. c.free ≡ false) [
    | inl f ↦ absurd (contrary (is_alone c.letter) ((line_of_parts p are line own).free k c e f).0 (letter k c apart e))
    | inr f ↦ f
  ];
} where
  letter : (k : ℕ) (c : Copy) → k ≢ core → copy_of p k line ≡ Some c → is_alone c.letter ≡ false
  letter k c apart e = sym (ap (λ (o : Option Copy). is_alone (letter_of o)) e) ∙ others_shared p are line own core copy here k apart

module _ (p l : Bank) (are : AreParts p) (core line : ℕ) (within : core < length p.l1s) (own : IsOwn p line) (inside : IsInMemory p.home line) (row : HomeLine) (write : Bool)
    (done : OthersDone p l core line row write) (was : Copy) (here : copy_of p core line ≡ Some was) (after : Copy) (bytes : after.bytes ≡ was.bytes) (still : is_modified was.letter ≡ true → is_modified after.letter ≡ true) where
  abbrev r : Bank
  r = with_l1 core (kept_first_in line after) l

  bank : IsBankOf p l
  bank = done.keeps.bank

  within_l : core < length l.l1s
  within_l = subst (λ (z : ℕ). core < z) (sym bank.cores) within

  here_l : copy_of l core line ≡ Some was
  here_l = ap (λ (l1 : L1State). copy_at l1 line) done.own ∙ here

  own_now : l1_of r core ≡ kept_first_in line after (l1_of l core)
  own_now = get_or-set_same l.l1s core (kept_first_in line after (l1_of l core)) no_l1 within_l

  other_now : (k : ℕ) → k ≢ core → l1_of r k ≡ l1_of l k
  other_now k apart = get_or-set_other l.l1s core k (kept_first_in line after (l1_of l core)) no_l1 apart

  long : length r.l1s ≡ length l.l1s
  long = length-set l.l1s core (kept_first_in line after (l1_of l core))

  there : copy_of r core line ≡ Some after
  there = ap (λ (l1 : L1State). copy_at l1 line) own_now ∙ first_same line after was (l1_of l core) here_l

  copies_still : (x : ℕ) → x ≢ line → copy_of r core x ≡ copy_of l core x
  copies_still x apart = ap (λ (l1 : L1State). copy_at l1 x) own_now ∙ first_other line after (l1_of l core) x apart

  old_l : (k : ℕ) → k ≢ core → IsOld line (l1_of l k)
  old_l k apart = old_letter (copy_of l k line) (not_modified (own_letter l k line) (done.shared k apart))

  abbrev h : List ℕ
  h = bytes_at l.home line

  -- what the line's bytes are
  pub newest_was : newest_in line h l.l1s ≡ was.bytes
  newest_was = done.newest line own inside ∙ newest_copy p are line own core was here

  newest_read : newest_in line h l.l1s ≡ cond (is_modified was.letter) was.bytes h
  newest_read = newest_one line core h l.l1s within_l old_l ∙ ap (λ (o : Option Copy). newer_bytes o h) here_l

  newest_by : (a b : Bool) → is_modified was.letter ≡ a → is_modified after.letter ≡ b → cond b after.bytes h ≡ newest_in line h l.l1s
  newest_by a true e f = bytes ∙ sym newest_was
  newest_by true false e f = let bad : true ≡ false = sym (still e) ∙ f in absurd cc
  newest_by false false e f = sym (newest_read ∙ ap (λ (b : Bool). cond b was.bytes h) e)

  newest_line : newest_in line h r.l1s ≡ newest_in line h l.l1s
  newest_line =
      newest_one line core h r.l1s (subst (λ (z : ℕ). core < z) (sym long) within_l) (λ k apart. subst (IsOld line) (sym (other_now k apart)) (old_l k apart))
      ∙ (ap (λ (o : Option Copy). newer_bytes o h) there ∙ newest_by (is_modified was.letter) (is_modified after.letter) refl refl)

  pub clean_after : is_modified after.letter ≡ false → after.bytes ≡ h
  clean_after f = bytes ∙ (sym newest_was ∙ sym (newest_by (is_modified was.letter) false refl f))

  pub kept_got : OwnGot l r core line after None
  kept_got = record {
    keeps = record {
      bank = record { count = refl; number = refl; cores = long; fit = fit_l1 core (kept_first_in line after) l bank.fit (first_shape line after) };
      base = refl;
      size = refl;
      marks = refl;
      long = refl;
    };
    marks = refl;
    there = there;
    others = other_now;
    instructions = λ x k. elim (cases_eq k core) as (λ _. has_instructions (l1_of r k) x ≡ has_instructions (l1_of l k) x) [
      | inl z ↦
          subst (λ (j : ℕ). has_instructions (l1_of r j) x ≡ has_instructions (l1_of l j) x) (sym z)
          (ap (λ (l1 : L1State). has_instructions l1 x) own_now ∙ first_instructions line after (l1_of l core) x)
      | inr z ↦ ap (λ (l1 : L1State). has_instructions l1 x) (other_now k z)
    ];
    rows = λ x stays. refl;
    copies = λ x apart stays. copies_still x apart;
    bytes = λ x own_x inside_x stays. refl;
    newest = λ x own_x inside_x. elim (cases_eq x line) as (λ _. newest_in x (bytes_at r.home x) r.l1s ≡ newest_in x (bytes_at l.home x) l.l1s) [
      | inl z ↦ subst (λ (y : ℕ). newest_in y (bytes_at r.home y) r.l1s ≡ newest_in y (bytes_at l.home y) l.l1s) (sym z) newest_line
      | inr z ↦
          newest_same x (bytes_at l.home x) r.l1s l.l1s long
          (λ k. elim (cases_eq k core) as (λ _. copy_at (l1_of r k) x ≡ copy_at (l1_of l k) x) [
            | inl t ↦ subst (λ (j : ℕ). copy_at (l1_of r j) x ≡ copy_at (l1_of l j) x) (sym t) (copies_still x z)
            | inr t ↦ ap (λ (l1 : L1State). copy_at l1 x) (other_now k t)
          ])
    ];
    was = λ w e. absurd cc;
    gone = λ w e. absurd cc;
    row_gone = λ w row e there. absurd cc;
  }
