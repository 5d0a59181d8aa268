-- A line comes into a core's own L1 from its home.
use Rattle.std.proofs.Common.{◌≡◌, ◌≢◌, ℕ, ◌%◌, ◌<◌, Bool, true, false, cond, List, length, get_or, set, Option, Some, None, refl, sym, ap, ◌∙◌, subst, inl, inr}
use Rattle.std.proofs.lemmas.Bool.{cases_eq}
use Rattle.std.proofs.lemmas.List.{get_or-set_other, get_or-set_same, length-set}
use Rattle.zs_num.specs.Request.{line_bytes}
use Rattle.cache_set.specs.Ways.{filled}
use Rattle.cache_set.specs.declared.letter.Letter.{Letter}
use Rattle.cache_set.specs.declared.letter.Letter.TheVariants.{I}
use Rattle.shard.specs.Coherence.{is_modified, is_valid}
use Rattle.home.specs.HomeState.{HomeLine, bytes_at, row_at}
use Rattle.mesi_dir.specs.CoreSets.{without_core}
use Rattle.l1_cache.specs.L1State.{Copy, L1State, copy_at, filled_in, has_instructions, letter_of, newer_bytes, no_l1, victim_in}
use Rattle.shard.specs.PartsLaws.{AreParts, IsInMemory, IsOwn}
use Rattle.shard.specs.Seen.{newest_in}
use Rattle.shard.specs.SharedStep.{Bank, brought_to_own, copy_of, l1_of, own_evicted, own_letter, with_l1}
use Rattle.shard.proofs.HomesAndL1s.Banks.{IsBankOf, same_bank}
use Rattle.shard.proofs.HomesAndL1s.BroughtSeen.{own_evicted_l1s}
use Rattle.shard.proofs.HomesAndL1s.CanGive.{bytes_long, old_letter}
use Rattle.shard.proofs.HomesAndL1s.Fit.{AreFit, IsShapedAs, copies_shape, fit_l1}
use Rattle.shard.proofs.HomesAndL1s.LettersSeen.{copy_valid}
use Rattle.shard.proofs.HomesAndL1s.LineFits.{KeepsBank, copy_memory, line_of_parts, memory_in}
use Rattle.shard.proofs.HomesAndL1s.Newest.{IsOld, newest_moved, newest_none, newest_one, newest_same}
use Rattle.shard.proofs.HomesAndL1s.NewestStays.{newer_long}
use Rattle.shard.proofs.HomesAndL1s.OthersDone.{OthersDone, lost_letter, others_old}
use Rattle.shard.proofs.HomesAndL1s.OwnCopies.{filled_other, filled_room, filled_same, filled_victim, victim_copy, victim_owned}
use Rattle.shard.proofs.HomesAndL1s.OwnEvicted.{evicted_bytes, evicted_here, evicted_keeps, evicted_marks, evicted_row, evicted_rows}
use Rattle.shard.proofs.HomesAndL1s.OwnGot.{OwnGot}
use Rattle.shard.proofs.HomesAndL1s.SharedDone.{not_modified}

filled_shape : (line : ℕ) (copy : Copy) (l1 : L1State) → IsShapedAs l1 (filled_in line copy l1)
unfolding filled_in
filled_shape line copy l1 = copies_shape line (filled l1.ways line copy) l1

-- what is known of the line that leaves
pub record IsVictim (p l : Bank) (core line : ℕ) (w : ℕ × Copy) : Type 0 where
  pub owned : IsOwn p w.0
  pub before : copy_of p core w.0 ≡ Some w.1
  pub copy : copy_of l core w.0 ≡ Some w.1
  pub inside : IsInMemory l.home w.0
  pub long : length (newer_bytes (copy_of l core w.0) (bytes_at l.home w.0)) ≡ line_bytes
  pub apart : w.0 ≢ line

-- ---- the home after it left
module _ (p l : Bank) (core line : ℕ) (fit : AreFit l) where
  abbrev Known : Option (ℕ × Copy) → Type 0
  Known o = (w : ℕ × Copy) → o ≡ Some w → IsVictim p l core line w

  rows_by : (o : Option (ℕ × Copy)) (x : ℕ) → ((w : ℕ × Copy) → o ≡ Some w → x ≢ w.0) → row_at (own_evicted o core l).home x ≡ row_at l.home x
  rows_by None x apart = refl
  rows_by (Some w) x apart = evicted_rows w.0 core l (is_modified w.1.letter) x (apart w refl)

  row_by : (o : Option (ℕ × Copy)) (w : ℕ × Copy) (row : HomeLine) → o ≡ Some w → row_at l.home w.0 ≡ Some row
      → (r : HomeLine) × (row_at (own_evicted o core l).home w.0 ≡ Some r) × (r.sharers ≡ without_core core row.sharers) × (r.alone ≡ false) × (r.fetchers ≡ row.fetchers)
  row_by o w row is e =
      subst (λ (z : Option (ℕ × Copy)). (r : HomeLine) × (row_at (own_evicted z core l).home w.0 ≡ Some r) × (r.sharers ≡ without_core core row.sharers) × (r.alone ≡ false) × (r.fetchers ≡ row.fetchers)) (sym is)
      (evicted_row w.0 core l (is_modified w.1.letter) row e)

  bytes_by : (o : Option (ℕ × Copy)) → Known o → (x : ℕ) → IsOwn l x → IsOwn l x → IsInMemory l.home x → ((w : ℕ × Copy) → o ≡ Some w → IsOwn l w.0) → ((w : ℕ × Copy) → o ≡ Some w → x ≢ w.0)
      → bytes_at (own_evicted o core l).home x ≡ bytes_at l.home x
  bytes_by None known x own own_x inside owned apart = refl
  bytes_by (Some w) known x own own_x inside owned apart =
      let k : IsVictim p l core line w = known w refl in
      evicted_bytes w.0 core l k.inside k.long (is_modified w.1.letter) x fit.some.0 inside (owned w refl ∙ sym own_x) (λ z. apart w refl (sym z))

  here_by : (o : Option (ℕ × Copy)) → Known o → (w : ℕ × Copy) → o ≡ Some w → bytes_at (own_evicted o core l).home w.0 ≡ newer_bytes (copy_of l core w.0) (bytes_at l.home w.0)
  here_by o known w is =
      let k : IsVictim p l core line w = known w is in
      ap (λ (z : Option (ℕ × Copy)). bytes_at (own_evicted z core l).home w.0) is ∙ evicted_here w.0 core l k.inside k.long (is_modified w.1.letter) w.1 k.copy refl

  keeps_by : (o : Option (ℕ × Copy)) → Known o → KeepsBank l (own_evicted o core l)
  keeps_by None known = record { bank = same_bank l fit; base = refl; size = refl; marks = refl; long = refl }
  keeps_by (Some w) known =
      let k : IsVictim p l core line w = known w refl in
      evicted_keeps w.0 core l k.inside k.long fit (is_modified w.1.letter)

  marks_by : (o : Option (ℕ × Copy)) → (own_evicted o core l).home.marks ≡ l.home.marks
  marks_by None = refl
  marks_by (Some w) = evicted_marks w.0 core l (is_modified w.1.letter)

-- ---- the line comes in
module _ (p l : Bank) (are : AreParts p) (core line : ℕ) (within : core < length p.l1s) (own : IsOwn p line) (inside : IsInMemory p.home line) (row : HomeLine) (write : Bool)
    (done : OthersDone p l core line row write) (absent : own_letter p core line ≡ I) (letter : Letter) where
  abbrev pub v : Option (ℕ × Copy)
  v = victim_in (l1_of l core) line

  abbrev e : Bank
  e = own_evicted v core l

  abbrev pub copy : Copy
  copy = record { letter = letter; free = false; bytes = bytes_at e.home line }

  abbrev r : Bank
  r = with_l1 core (filled_in line copy) e

  bank : IsBankOf p l
  bank = done.keeps.bank

  own_l : (x : ℕ) → IsOwn p x → IsOwn l x
  own_l x own_x = ap (λ (z : ℕ). x % z) bank.count ∙ (own_x ∙ sym bank.number)

  own_p : (x : ℕ) → IsOwn l x → IsOwn p x
  own_p x own_x = sym (ap (λ (z : ℕ). x % z) bank.count) ∙ (own_x ∙ bank.number)

  victim_p : (w : ℕ × Copy) → v ≡ Some w → victim_in (l1_of p core) line ≡ Some w
  victim_p w is = sym (ap (λ (l1 : L1State). victim_in l1 line) done.own) ∙ is

  same_copy : (x : ℕ) → copy_of l core x ≡ copy_of p core x
  same_copy x = ap (λ (l1 : L1State). copy_at l1 x) done.own

  known : (w : ℕ × Copy) → v ≡ Some w → IsVictim p l core line w
  known w is =
      let owned : IsOwn p w.0 = victim_owned p are core line within own w (victim_p w is) in
      let before : copy_of p core w.0 ≡ Some w.1 = victim_copy p are core line within own w (victim_p w is) in
      let valid : is_valid w.1.letter ≡ true = (copy_valid p are core w.0 w.1 owned before) in
      let inside_w : IsInMemory l.home w.0
      = memory_in p l done.keeps w.0 (copy_memory p w.0 (line_of_parts p are w.0 owned) core (ap (λ (o : Option Copy). is_valid (letter_of o)) before ∙ valid)) in
      record {
        owned = owned;
        before = before;
        copy = same_copy w.0 ∙ before;
        inside = inside_w;
        long = newer_long (copy_of l core w.0) (bytes_at l.home w.0) (bytes_long l.home w.0 inside_w) (λ c k. are.whole core w.0 c owned (sym (same_copy w.0) ∙ k));
        apart = λ z. lost_letter w.1.letter valid (sym (ap letter_of (ap (copy_at (l1_of p core)) (sym z) ∙ before)) ∙ absent);
      }

  line_apart : (w : ℕ × Copy) → v ≡ Some w → line ≢ w.0
  line_apart w is z = (known w is).apart (sym z)

  e_l1s : e.l1s ≡ l.l1s
  e_l1s = own_evicted_l1s v core l

  e_keeps : KeepsBank l e
  e_keeps = keeps_by p l core line bank.fit v known

  same_core : l1_of e core ≡ l1_of p core
  same_core = ap (λ (l1s : List L1State). get_or l1s core no_l1) e_l1s ∙ done.own

  within_e : core < length e.l1s
  within_e = subst (λ (z : ℕ). core < z) (sym (e_keeps.bank.cores ∙ bank.cores)) within

  own_now : l1_of r core ≡ filled_in line copy (l1_of p core)
  own_now = get_or-set_same e.l1s core (filled_in line copy (l1_of e core)) no_l1 within_e ∙ ap (filled_in line copy) same_core

  other_now : (k : ℕ) → k ≢ core → l1_of r k ≡ l1_of l k
  other_now k apart = get_or-set_other e.l1s core k (filled_in line copy (l1_of e core)) no_l1 apart ∙ ap (λ (l1s : List L1State). get_or l1s k no_l1) e_l1s

  there : copy_of r core line ≡ Some copy
  there = ap (λ (l1 : L1State). copy_at l1 line) own_now ∙ filled_same p are core line within own copy

  instructions_are : (l1 : L1State) (x : ℕ) → has_instructions (filled_in line copy l1) x ≡ has_instructions l1 x
  unfolding filled_in has_instructions
  instructions_are l1 x = refl

  other_by : (o : Option (ℕ × Copy)) → v ≡ o → (x : ℕ) → x ≢ line → ((w : ℕ × Copy) → o ≡ Some w → x ≢ w.0) → copy_at (filled_in line copy (l1_of p core)) x ≡ copy_of p core x
  other_by None is x apart stays = filled_room p are core line within own copy x (sym (ap (λ (l1 : L1State). victim_in l1 line) done.own) ∙ is) apart
  other_by (Some w) is x apart stays = filled_other p are core line within own w (victim_p w is) copy x apart (stays w refl)

  copies_still : (x : ℕ) → x ≢ line → ((w : ℕ × Copy) → v ≡ Some w → x ≢ w.0) → copy_of r core x ≡ copy_of l core x
  copies_still x apart stays = ap (λ (l1 : L1State). copy_at l1 x) own_now ∙ (other_by v refl x apart stays ∙ sym (same_copy x))

  gone : (w : ℕ × Copy) → v ≡ Some w → copy_of r core w.0 ≡ None
  gone w is = ap (λ (l1 : L1State). copy_at l1 w.0) own_now ∙ filled_victim p are core line within own w (victim_p w is) copy (known w is).apart

  bytes_still : (x : ℕ) → IsOwn l x → IsInMemory l.home x → ((w : ℕ × Copy) → v ≡ Some w → x ≢ w.0) → bytes_at e.home x ≡ bytes_at l.home x
  bytes_still x own_x inside_x apart = bytes_by p l core line bank.fit v known x own_x own_x inside_x (λ w is. own_l w.0 (known w is).owned) apart

  -- ---- the newest bytes
  old_l : (k : ℕ) → IsOld line (l1_of l k)
  old_l k =
      elim (cases_eq k core) as (λ _. IsOld line (l1_of l k)) [
        | inl z ↦ subst (λ (j : ℕ). IsOld line (l1_of l j)) (sym z) (old_letter (copy_of l core line) (ap (λ (o : Option Copy). is_modified (letter_of o)) (same_copy line) ∙ ap is_modified absent))
        | inr z ↦ old_letter (copy_of l k line) (not_modified (own_letter l k line) (done.shared k z))
      ]

  same_either : (b : Bool) (h : List ℕ) → cond b h h ≡ h
  same_either true h = refl
  same_either false h = refl

  newest_line : newest_in line (bytes_at r.home line) r.l1s ≡ newest_in line (bytes_at l.home line) l.l1s
  newest_line =
      let h : List ℕ = bytes_at e.home line in
      newest_one line core h r.l1s (subst (λ (z : ℕ). core < z) (sym (length-set e.l1s core (filled_in line copy (l1_of e core)))) within_e) (λ k apart. subst (IsOld line) (sym (other_now k apart)) (old_l k))
      ∙ (ap (λ (o : Option Copy). newer_bytes o h) there
      ∙ (same_either (is_modified letter) h
      ∙ (bytes_still line (own_l line own) (memory_in p l done.keeps line inside) line_apart
      ∙ sym (newest_none line (bytes_at l.home line) l.l1s old_l))))

  newest_victim : (w : ℕ × Copy) → v ≡ Some w → newest_in w.0 (bytes_at r.home w.0) r.l1s ≡ newest_in w.0 (bytes_at l.home w.0) l.l1s
  newest_victim w is =
      let k : IsVictim p l core line w = known w is in
      let after : L1State = filled_in line copy (l1_of e core) in
      let after_is : after ≡ filled_in line copy (l1_of p core) = ap (filled_in line copy) same_core in
      let none : copy_at after w.0 ≡ None = ap (λ (l1 : L1State). copy_at l1 w.0) after_is ∙ filled_victim p are core line within own w (victim_p w is) copy k.apart in
      ap (λ (b : List ℕ). newest_in w.0 b r.l1s) (here_by p l core line bank.fit v known w is)
      ∙ (ap (λ (l1s : List L1State). newest_in w.0 (newer_bytes (copy_of l core w.0) (bytes_at l.home w.0)) (set l1s core after)) e_l1s
      ∙ newest_moved w.0 core (bytes_at l.home w.0) l.l1s after (λ h. ap (λ (o : Option Copy). newer_bytes o h) none)
      (λ j apart. inl (old_letter (copy_of l j w.0) (ap (λ (o : Option Copy). is_modified (letter_of o)) (done.copies w.0 j k.apart) ∙ others_old p are w.0 k.owned core w.1 k.before j apart))))

  newest_other : (x : ℕ) → IsOwn l x → IsInMemory l.home x → x ≢ line → ((w : ℕ × Copy) → v ≡ Some w → x ≢ w.0) → newest_in x (bytes_at r.home x) r.l1s ≡ newest_in x (bytes_at l.home x) l.l1s
  newest_other x own_x inside_x apart stays =
      ap (λ (b : List ℕ). newest_in x b r.l1s) (bytes_still x own_x inside_x stays)
      ∙ newest_same x (bytes_at l.home x) r.l1s l.l1s (length-set e.l1s core (filled_in line copy (l1_of e core)) ∙ e_keeps.bank.cores)
      (λ k. elim (cases_eq k core) as (λ _. copy_at (l1_of r k) x ≡ copy_at (l1_of l k) x) [
        | inl z ↦ subst (λ (j : ℕ). copy_at (l1_of r j) x ≡ copy_at (l1_of l j) x) (sym z) (copies_still x apart stays)
        | inr z ↦ ap (λ (l1 : L1State). copy_at l1 x) (other_now k z)
      ])

  newest_by : (o : Option (ℕ × Copy)) → v ≡ o → (x : ℕ) → IsOwn l x → IsInMemory l.home x → x ≢ line → newest_in x (bytes_at r.home x) r.l1s ≡ newest_in x (bytes_at l.home x) l.l1s
  newest_by None is x own_x inside_x apart = newest_other x own_x inside_x apart (λ w k. let bad : None ≡ Some w = sym is ∙ k in absurd cc)
  newest_by (Some w) is x own_x inside_x apart =
      elim (cases_eq x w.0) as (λ _. newest_in x (bytes_at r.home x) r.l1s ≡ newest_in x (bytes_at l.home x) l.l1s) [
        | inl z ↦ subst (λ (y : ℕ). newest_in y (bytes_at r.home y) r.l1s ≡ newest_in y (bytes_at l.home y) l.l1s) (sym z) (newest_victim w is)
        | inr z ↦ newest_other x own_x inside_x apart (λ u k. let one : w ≡ u = one_some w u (sym is ∙ k) in λ y. z (y ∙ sym (ap (λ (t : ℕ × Copy). t.0) one)))
      ] where
        one_some : (a b : ℕ × Copy) → Some a ≡ Some b → a ≡ b
        one_some a b e = cc

  got_filled : OwnGot l r core line copy v
  got_filled = record {
    keeps = record {
      bank = record {
        count = e_keeps.bank.count;
        number = e_keeps.bank.number;
        cores = length-set e.l1s core (filled_in line copy (l1_of e core)) ∙ e_keeps.bank.cores;
        fit = fit_filled;
      };
      base = e_keeps.base;
      size = e_keeps.size;
      marks = e_keeps.marks;
      long = e_keeps.long;
    };
    marks = marks_by p l core line bank.fit v;
    there = there;
    others = other_now;
    instructions = λ x k. elim (cases_eq k core) as (λ _. has_instructions (l1_of r k) x ≡ has_instructions (l1_of l k) x) [
      | inl z ↦
          subst (λ (j : ℕ). has_instructions (l1_of r j) x ≡ has_instructions (l1_of l j) x) (sym z)
          (ap (λ (l1 : L1State). has_instructions l1 x) own_now ∙ (instructions_are (l1_of p core) x ∙ sym (ap (λ (l1 : L1State). has_instructions l1 x) done.own)))
      | inr z ↦ ap (λ (l1 : L1State). has_instructions l1 x) (other_now k z)
    ];
    rows = λ x stays. rows_by p l core line bank.fit v x stays;
    copies = copies_still;
    bytes = bytes_still;
    newest = λ x own_x inside_x. elim (cases_eq x line) as (λ _. newest_in x (bytes_at r.home x) r.l1s ≡ newest_in x (bytes_at l.home x) l.l1s) [
      | inl z ↦ subst (λ (y : ℕ). newest_in y (bytes_at r.home y) r.l1s ≡ newest_in y (bytes_at l.home y) l.l1s) (sym z) newest_line
      | inr z ↦ newest_by v refl x own_x inside_x z
    ];
    was = λ w is. (own_l w.0 (known w is).owned, (known w is).copy);
    gone = λ w is. ((known w is).apart, gone w is);
    row_gone = λ w row is e. row_by p l core line bank.fit v w row is e;
  } where
    fit_filled : AreFit r
    fit_filled = fit_l1 core (filled_in line copy) e e_keeps.bank.fit (filled_shape line copy)

  pub brought_got : OwnGot l (brought_to_own letter core line l) core line copy v
  unfolding brought_to_own
  brought_got = got_filled
