-- The other cores have done what one core's access to a line asks of them.
use Rattle.std.proofs.Common.{◌≡◌, ◌≢◌, ℕ, Bool, true, false, cond, length, Option, Some, None, refl, sym, ap, ◌∙◌, subst, inl, inr}
use Rattle.std.specs.Prelude.{IsTrue}
use Rattle.std.proofs.lemmas.Bool.{cases_Bool}
use Rattle.zs_num.specs.Request.{line_bytes}
use Rattle.cache_set.specs.declared.letter.Letter.{Letter}
use Rattle.cache_set.specs.declared.letter.Letter.TheVariants.{I}
use Rattle.shard.specs.Coherence.{is_alone, is_modified, is_valid, letter_at}
use Rattle.home.specs.HomeState.{HomeLine, bytes_at, marked_dirty_in, nobody, row_at}
use Rattle.l1_cache.specs.L1State.{Copy, has_instructions, letter_of, newer_bytes}
use Rattle.shard.specs.PartsLaws.{AreParts, IsInMemory, IsOwn}
use Rattle.shard.specs.Seen.{caches_seen, newest_in}
use Rattle.shard.specs.SharedStep.{Bank, copy_of, l1_of, own_letter, with_home}
use Rattle.shard.proofs.HomesAndL1s.Banks.{marked_bank, same_bank}
use Rattle.shard.proofs.HomesAndL1s.CanGive.{modified_alone, old_at}
use Rattle.shard.proofs.HomesAndL1s.Decisions.{known}
use Rattle.shard.proofs.HomesAndL1s.FitOf.{fit_of}
use Rattle.shard.proofs.HomesAndL1s.LettersSeen.{copy_valid, letter_seen}
use Rattle.shard.proofs.HomesAndL1s.LineFits.{KeepsBank}
use Rattle.shard.proofs.HomesAndL1s.Newest.{newest_one}
use Rattle.shard.proofs.HomesAndL1s.NewestStays.{CanGiveUp}
use Rattle.shard.proofs.HomesAndL1s.Rows.{row_other, row_there}
use Rattle.shard.proofs.HomesAndL1s.SharedStays.{CanShare}

pub record OthersDone (p l : Bank) (core line : ℕ) (row : HomeLine) (write : Bool) : Type 0 where
  pub keeps : KeepsBank p l
  pub marks : l.home.marks ≡ p.home.marks
  pub row_now : (r : HomeLine) × (row_at l.home line ≡ Some r) × (r.sharers ≡ row.sharers) × (r.fetchers ≡ row.fetchers)
  pub rows : (x : ℕ) → x ≢ line → row_at l.home x ≡ row_at p.home x
  pub own : l1_of l core ≡ l1_of p core
  pub copies : (x k : ℕ) → x ≢ line → copy_of l k x ≡ copy_of p k x
  pub instructions : (x k : ℕ) → has_instructions (l1_of l k) x ≡ has_instructions (l1_of p k) x
  pub bytes : (x : ℕ) → x ≢ line → IsOwn p x → IsInMemory p.home x → bytes_at l.home x ≡ bytes_at p.home x
  pub newest : (x : ℕ) → IsOwn p x → IsInMemory p.home x → newest_in x (bytes_at l.home x) l.l1s ≡ newest_in x (bytes_at p.home x) p.l1s
  -- what the others have of the line from then on
  pub shared : (k : ℕ) → k ≢ core → is_alone (own_letter l k line) ≡ false
  pub valid : (k : ℕ) → k ≢ core → is_valid (own_letter l k line) ≡ cond write false (is_valid (own_letter p k line))
  pub whole : (k : ℕ) (copy : Copy) → k ≢ core → copy_of l k line ≡ Some copy → length copy.bytes ≡ line_bytes
  pub clean : (k : ℕ) (copy : Copy) → k ≢ core → copy_of l k line ≡ Some copy → copy.bytes ≡ bytes_at l.home line
  pub free : (k : ℕ) (copy : Copy) → k ≢ core → copy_of l k line ≡ Some copy → copy.free ≡ false

-- ---- nobody has it
pub nobody_done : (p : Bank) (core line : ℕ) (write : Bool) → AreParts p → row_at p.home line ≡ Some nobody → ((k : ℕ) → copy_of p k line ≡ None) → OthersDone p p core line nobody write
nobody_done p core line write are row none = record {
  keeps = record { bank = same_bank p (fit_of p are); base = refl; size = refl; marks = refl; long = refl };
  marks = refl;
  row_now = (nobody, row, refl, refl);
  rows = λ x apart. refl;
  own = refl;
  copies = λ x k apart. refl;
  instructions = λ x k. refl;
  bytes = λ x apart own inside. refl;
  newest = λ x own inside. refl;
  shared = λ k apart. ap (λ (o : Option Copy). is_alone (letter_of o)) (none k);
  valid = λ k apart. valid_none (is_valid (own_letter p k line)) (ap (λ (o : Option Copy). is_valid (letter_of o)) (none k)) write;
  whole = λ k copy apart e. let bad : None ≡ Some copy = sym (none k) ∙ e in absurd cc;
  clean = λ k copy apart e. let bad : None ≡ Some copy = sym (none k) ∙ e in absurd cc;
  free = λ k copy apart e. let bad : None ≡ Some copy = sym (none k) ∙ e in absurd cc;
} where
  valid_none : (b : Bool) → b ≡ false → (write : Bool) → b ≡ cond write false b
  valid_none b e true = e
  valid_none b e false = refl

-- ---- the newest bytes are those of any copy
pub lost_letter : (x : Letter) → is_valid x ≡ true → x ≡ I → ⊥
lost_letter x v e = let bad : true ≡ false = sym v ∙ ap is_valid e in cc

module _ (p : Bank) (are : AreParts p) (line : ℕ) (own : IsOwn p line) where
  -- where one core has a copy, no other has it modified
  pub others_old : (k : ℕ) (copy : Copy) → copy_of p k line ≡ Some copy → (j : ℕ) → j ≢ k → is_modified (own_letter p j line) ≡ false
  others_old k copy e j apart =
      elim (cases_Bool (is_modified (own_letter p j line))) as (λ _. is_modified (own_letter p j line) ≡ false) [
        | inl m ↦
            let seen_j : letter_at (caches_seen p) j line ≡ own_letter p j line = letter_seen p (fit_of p are) j line own in
            let alone : IsTrue (is_alone (letter_at (caches_seen p) j line)) = subst (λ (x : Letter). IsTrue (is_alone x)) (sym seen_j) (modified_alone (own_letter p j line) m) in
            let gone : own_letter p k line ≡ I = sym (letter_seen p (fit_of p are) k line own) ∙ are.coherent.single j k line (λ z. apart (sym z)) alone in
            absurd (lost_letter copy.letter ((copy_valid p are k line copy own e)) (sym (ap letter_of e) ∙ gone))
        | inr m ↦ m
      ]

  -- nor alone
  pub others_shared : (k : ℕ) (copy : Copy) → copy_of p k line ≡ Some copy → (j : ℕ) → j ≢ k → is_alone (own_letter p j line) ≡ false
  others_shared k copy e j apart =
      elim (cases_Bool (is_alone (own_letter p j line))) as (λ _. is_alone (own_letter p j line) ≡ false) [
        | inl m ↦
            let seen_j : letter_at (caches_seen p) j line ≡ own_letter p j line = letter_seen p (fit_of p are) j line own in
            let alone : is_alone (letter_at (caches_seen p) j line) ≡ true = ap is_alone seen_j ∙ m in
            let gone : own_letter p k line ≡ I = sym (letter_seen p (fit_of p are) k line own) ∙ are.coherent.single j k line (λ z. apart (sym z)) alone in
            absurd (lost_letter copy.letter ((copy_valid p are k line copy own e)) (sym (ap letter_of e) ∙ gone))
        | inr m ↦ m
      ]

  newest_by : (k : ℕ) (copy : Copy) → copy_of p k line ≡ Some copy → (m : Bool) → is_modified copy.letter ≡ m → cond m copy.bytes (bytes_at p.home line) ≡ copy.bytes
  newest_by k copy e true m = refl
  newest_by k copy e false m = sym (are.clean k line copy own e m)

  pub newest_copy : (k : ℕ) (copy : Copy) → copy_of p k line ≡ Some copy → newest_in line (bytes_at p.home line) p.l1s ≡ copy.bytes
  newest_copy k copy e =
      let valid : is_valid (own_letter p k line) ≡ true = ap (λ (o : Option Copy). is_valid (letter_of o)) e ∙ (copy_valid p are k line copy own e) in
      newest_one line k (bytes_at p.home line) p.l1s (known p are line own k valid) (λ j apart. old_at p are line own j (others_old k copy e j apart))
      ∙ (ap (λ (o : Option Copy). newer_bytes o (bytes_at p.home line)) e ∙ newest_by k copy e (is_modified copy.letter) refl)

-- ---- the row is marked dirty, or is not
module _ (p : Bank) (are : AreParts p) (line : ℕ) (row : HomeLine) (there : row_at p.home line ≡ Some row) where
  abbrev pub dirtied : Bool → Bank
  dirtied b = cond b (with_home (marked_dirty_in line) p) p

  pub dirtied_l1s : (b : Bool) → (dirtied b).l1s ≡ p.l1s
  dirtied_l1s true = refl
  dirtied_l1s false = refl

  pub dirtied_row : (b : Bool) → (r : HomeLine) × (row_at (dirtied b).home line ≡ Some r) × (r.sharers ≡ row.sharers) × (r.fetchers ≡ row.fetchers)
  unfolding marked_dirty_in
  dirtied_row true = (record row { dirty = true }, row_there line (λ row. record row { dirty = true }) p.home row there, refl, refl)
  dirtied_row false = (row, there, refl, refl)

  pub dirtied_rows : (b : Bool) (x : ℕ) → x ≢ line → row_at (dirtied b).home x ≡ row_at p.home x
  unfolding marked_dirty_in
  dirtied_rows true x apart = row_other line (λ row. record row { dirty = true }) p.home x apart
  dirtied_rows false x apart = refl

  pub dirtied_bytes : (b : Bool) (x : ℕ) → bytes_at (dirtied b).home x ≡ bytes_at p.home x
  unfolding marked_dirty_in bytes_at
  dirtied_bytes true x = refl
  dirtied_bytes false x = refl

  pub dirtied_keeps : (b : Bool) → KeepsBank p (dirtied b)
  unfolding marked_dirty_in
  dirtied_keeps true = record { bank = marked_bank p p (same_bank p (fit_of p are)) true line; base = refl; size = refl; marks = refl; long = refl }
  dirtied_keeps false = record { bank = same_bank p (fit_of p are); base = refl; size = refl; marks = refl; long = refl }

  pub dirtied_marks : (b : Bool) → (dirtied b).home.marks ≡ p.home.marks
  unfolding marked_dirty_in
  dirtied_marks true = refl
  dirtied_marks false = refl

  pub dirtied_give : (b : Bool) → CanGiveUp line p → CanGiveUp line (dirtied b)
  unfolding marked_dirty_in bytes_at
  dirtied_give true can = record { some = can.some; inside = can.inside; here = can.here; single = can.single; whole = can.whole; gone = can.gone }
  dirtied_give false can = can

  pub dirtied_share : (b : Bool) → CanShare line p → CanShare line (dirtied b)
  unfolding marked_dirty_in bytes_at
  dirtied_share true can = record { some = can.some; inside = can.inside; here = can.here; single = can.single; whole = can.whole }
  dirtied_share false can = can

  pub dirtied_newest : (b : Bool) (x : ℕ) → newest_in x (bytes_at (dirtied b).home x) (dirtied b).l1s ≡ newest_in x (bytes_at p.home x) p.l1s
  unfolding marked_dirty_in bytes_at
  dirtied_newest true x = refl
  dirtied_newest false x = refl
