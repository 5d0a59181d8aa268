-- The core that had the line alone shares it.
use Rattle.std.proofs.Common.{◌≡◌, ℕ, ◌%◌, Bool, true, false, cond, List, length, get_or, Option, Some, None, refl, sym, ap, ◌∙◌, subst, inl, inr}
use Rattle.std.specs.Prelude.{nat_eq}
use Rattle.std.specs.Set.{is_member}
use Rattle.std.proofs.lemmas.Bool.{cases_Bool}
use Rattle.cache_set.specs.declared.letter.Letter.{Letter}
use Rattle.cache_set.specs.declared.letter.Letter.TheVariants.{M, E, S, I}
use Rattle.shard.specs.Coherence.{is_alone, is_modified, is_valid}
use Rattle.home.specs.HomeState.{HomeLine, HomeState, bytes_at, row_at, row_of}
use Rattle.l1_cache.specs.L1State.{Copy, L1State, as_shared, copy_at, has_instructions, letter_of, no_l1, shared_in}
use Rattle.shard.specs.PartsLaws.{AreParts, IsInMemory, IsOwn}
use Rattle.shard.specs.Seen.{newest_in}
use Rattle.shard.specs.SharedStep.{Bank, copy_of, dirty_by, is_modified_by, l1_of, own_letter, shared_by, shared_by_others}
use Rattle.shard.proofs.HomesAndL1s.Banks.{same_bank, shared_bank}
use Rattle.shard.proofs.HomesAndL1s.CanGive.{bytes_long, one_old}
use Rattle.shard.proofs.HomesAndL1s.Decisions.{contrary}
use Rattle.shard.proofs.HomesAndL1s.FitOf.{fit_of}
use Rattle.shard.proofs.HomesAndL1s.FoldAt.{fold_unnamed}
use Rattle.shard.proofs.HomesAndL1s.FoldIsMap.{no_shared, one_after_the_other, shared_l1s}
use Rattle.shard.proofs.HomesAndL1s.LeftDone.{rows_are}
use Rattle.shard.proofs.HomesAndL1s.LettersSeen.{copy_valid}
use Rattle.shard.proofs.HomesAndL1s.LineFits.{KeepsBank, line_of_parts, memory_in}
use Rattle.shard.proofs.HomesAndL1s.Newest.{IsOld, newest_none}
use Rattle.shard.proofs.HomesAndL1s.OthersDone.{OthersDone, dirtied, dirtied_bytes, dirtied_keeps, dirtied_l1s, dirtied_marks, dirtied_newest, dirtied_row, dirtied_rows, dirtied_share, newest_copy}
use Rattle.shard.proofs.HomesAndL1s.SharedCopies.{shared_copy, shared_elsewhere, shared_from, shared_none, shared_old}
use Rattle.shard.proofs.HomesAndL1s.SharedSeen.{shared_home, sharing_at}
use Rattle.shard.proofs.HomesAndL1s.SharedStays.{CanShare, bytes_shared, length_shared, newest_shared}

-- ---- the letter from then on
shared_alone : (line : ℕ) (l1 : L1State) (o : Option Copy) → copy_at l1 line ≡ o → is_alone (letter_of (copy_at (shared_in line l1) line)) ≡ false
shared_alone line l1 None e = ap (λ (o : Option Copy). is_alone (letter_of o)) (shared_none line l1 e)
shared_alone line l1 (Some copy) e = ap (λ (o : Option Copy). is_alone (letter_of o)) (shared_copy line l1 copy e)

shared_valid : (line : ℕ) (l1 : L1State) (o : Option Copy) → copy_at l1 line ≡ o → ((copy : Copy) → o ≡ Some copy → is_valid copy.letter ≡ true)
    → is_valid (letter_of (copy_at (shared_in line l1) line)) ≡ is_valid (letter_of o)
shared_valid line l1 None e valid = ap (λ (o : Option Copy). is_valid (letter_of o)) (shared_none line l1 e)
shared_valid line l1 (Some copy) e valid = ap (λ (o : Option Copy). is_valid (letter_of o)) (shared_copy line l1 copy e) ∙ sym (valid copy refl)

pub not_modified : (x : Letter) → is_alone x ≡ false → is_modified x ≡ false
not_modified M h = absurd cc
not_modified E h = refl
not_modified S h = refl
not_modified I h = refl

module _ (p : Bank) (are : AreParts p) (core line : ℕ) (own : IsOwn p line) (inside : IsInMemory p.home line) (there : row_at p.home line ≡ Some (row_of p.home line)) (absent : own_letter p core line ≡ I) where
  abbrev row : HomeLine
  row = row_of p.home line

  not_member : is_member nat_eq row.sharers core ≡ false
  not_member = are.holds core line own ∙ ap is_valid absent

  can_share : CanShare line p
  can_share = record { some = are.some.0; inside = inside; here = bytes_long p.home line inside; single = one_old p are line own; whole = λ k copy e. are.whole k line copy own e }

  module _ (b : Bool) where
    abbrev d : Bank
    d = dirtied p are line row there b

    abbrev l : Bank
    l = shared_by line row.sharers d

    dk : KeepsBank p d
    dk = dirtied_keeps p are line row there b

    can : CanShare line d
    can = dirtied_share p are line row there b can_share

    home_is : l.home ≡ record d.home { bytes = l.home.bytes }
    home_is = shared_home line row.sharers d

    at : (k : ℕ) → l1_of l k ≡ shared_in line (l1_of p k)
    at k =
        ap (λ (l1s : List L1State). get_or l1s k no_l1) (shared_l1s line row.sharers d)
        ∙ (ap (λ (l1s : List L1State). get_or (one_after_the_other no_l1 (shared_in line) (no_shared line) row.sharers l1s) k no_l1) (dirtied_l1s p are line row there b)
        ∙ sharing_at p are core line own k)

    own_still : l1_of l core ≡ l1_of p core
    own_still =
        ap (λ (l1s : List L1State). get_or l1s core no_l1) (shared_l1s line row.sharers d)
        ∙ (ap (λ (l1s : List L1State). get_or (one_after_the_other no_l1 (shared_in line) (no_shared line) row.sharers l1s) core no_l1) (dirtied_l1s p are line row there b)
        ∙ fold_unnamed no_l1 (shared_in line) (no_shared line) row.sharers p.l1s core not_member)

    instructions_are : (l1 : L1State) (x : ℕ) → has_instructions (shared_in line l1) x ≡ has_instructions l1 x
    unfolding shared_in has_instructions
    instructions_are l1 x = refl

    same_rest : (x : ℕ) → IsOwn p x → line % d.home.shards ≡ x % d.home.shards
    same_rest x own_x = ap (λ (z : ℕ). line % z) dk.bank.count ∙ (own ∙ sym own_x) ∙ sym (ap (λ (z : ℕ). x % z) dk.bank.count)

    newest_still : (x : ℕ) → IsOwn p x → IsInMemory p.home x → newest_in x (bytes_at l.home x) l.l1s ≡ newest_in x (bytes_at p.home x) p.l1s
    newest_still x own_x inside_x = newest_shared line x row.sharers d can (memory_in p d dk x inside_x) (same_rest x own_x) ∙ dirtied_newest p are line row there b x

    was : (k : ℕ) (copy : Copy) → copy_of l k line ≡ Some copy → (before : Copy) × (copy_of p k line ≡ Some before) × (copy ≡ as_shared before)
    was k copy e = shared_from line (l1_of p k) (copy_of p k line) refl copy (sym (ap (λ (l1 : L1State). copy_at l1 line) (at k)) ∙ e)

    -- all have nothing newer
    home_newest : newest_in line (bytes_at l.home line) l.l1s ≡ bytes_at l.home line
    home_newest = newest_none line (bytes_at l.home line) l.l1s (λ k. subst (IsOld line) (sym (at k)) (shared_old line (l1_of p k)))

    shared_is_done : OthersDone p l core line row false
    shared_is_done = record {
      keeps = record {
        bank = shared_bank p d dk.bank line row.sharers;
        base = ap (λ (h : HomeState). h.base) home_is ∙ dk.base;
        size = ap (λ (h : HomeState). h.size) home_is ∙ dk.size;
        marks = ap (λ (h : HomeState). length h.marks) home_is ∙ dk.marks;
        long = length_shared line row.sharers d can ∙ dk.long;
      };
      marks = ap (λ (h : HomeState). h.marks) home_is ∙ dirtied_marks p are line row there b;
      row_now =
          let r = dirtied_row p are line row there b in
          (r.0, ap (λ (h : HomeState). row_at h line) home_is ∙ (rows_are d.home l.home.bytes line ∙ r.1), r.2, r.3);
      rows = λ x apart. ap (λ (h : HomeState). row_at h x) home_is ∙ (rows_are d.home l.home.bytes x ∙ dirtied_rows p are line row there b x apart);
      own = own_still;
      copies = λ x k apart. ap (λ (l1 : L1State). copy_at l1 x) (at k) ∙ shared_elsewhere line x (l1_of p k) apart;
      instructions = λ x k. ap (λ (l1 : L1State). has_instructions l1 x) (at k) ∙ instructions_are (l1_of p k) x;
      bytes = λ x apart own_x inside_x. bytes_shared line x row.sharers d can (memory_in p d dk x inside_x) (same_rest x own_x) apart ∙ dirtied_bytes p are line row there b x;
      newest = newest_still;
      shared = λ k apart. ap (λ (l1 : L1State). is_alone (letter_of (copy_at l1 line))) (at k) ∙ shared_alone line (l1_of p k) (copy_of p k line) refl;
      valid = λ k apart.
          ap (λ (l1 : L1State). is_valid (letter_of (copy_at l1 line))) (at k)
          ∙ shared_valid line (l1_of p k) (copy_of p k line) refl (λ copy e. (copy_valid p are k line copy own e));
      whole = λ k copy apart e. let w = was k copy e in ap (λ (c : Copy). length c.bytes) w.2 ∙ are.whole k line w.0 own w.1;
      clean = λ k copy apart e.
          let w = was k copy e in
          ap (λ (c : Copy). c.bytes) w.2 ∙ (sym (newest_copy p are line own k w.0 w.1) ∙ (sym (newest_still line own inside) ∙ home_newest));
      free = λ k copy apart e. ap (λ (c : Copy). c.free) (was k copy e).2;
    }

  -- where nobody had it alone
  stays_done : row.alone ≡ false → OthersDone p p core line row false
  stays_done none = record {
    keeps = record { bank = same_bank p (fit_of p are); base = refl; size = refl; marks = refl; long = refl };
    marks = refl;
    row_now = (row, there, refl, refl);
    rows = λ x apart. refl;
    own = refl;
    copies = λ x k apart. refl;
    instructions = λ x k. refl;
    bytes = λ x apart own_x inside_x. refl;
    newest = λ x own_x inside_x. refl;
    shared = λ k apart. (line_of_parts p are line own).alone_none none k;
    valid = λ k apart. refl;
    whole = λ k copy apart e. are.whole k line copy own e;
    clean = λ k copy apart e. are.clean k line copy own e (not_modified copy.letter (shared_letter k copy e none));
    free = λ k copy apart e. elim (cases_Bool copy.free) as (λ _. copy.free ≡ false) [
      | inl f ↦ absurd (contrary (is_alone copy.letter) ((line_of_parts p are line own).free k copy e f).0 (shared_letter k copy e none))
      | inr f ↦ f
    ];
  } where
    shared_letter : (k : ℕ) (copy : Copy) → copy_of p k line ≡ Some copy → row.alone ≡ false → is_alone copy.letter ≡ false
    shared_letter k copy e none = sym (ap (λ (o : Option Copy). is_alone (letter_of o)) e) ∙ (line_of_parts p are line own).alone_none none k

  sharing_done : (alone : Bool) → row.alone ≡ alone → OthersDone p (cond alone (shared_by line row.sharers (dirty_by line row.sharers p)) p) core line row false
  sharing_done true e = shared_is_done (is_modified_by p line row.sharers)
  sharing_done false e = stays_done e

  pub shared_done : OthersDone p (shared_by_others line row p) core line row false
  unfolding shared_by_others
  shared_done = sharing_done row.alone refl
