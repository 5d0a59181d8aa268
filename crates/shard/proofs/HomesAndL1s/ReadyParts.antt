-- A line is made ready for a read or a write: the parts are parts as before, and the newest bytes of each line stay.
use Rattle.std.proofs.Common.{◌≡◌, ◌≢◌, ℕ, ◌<◌, Bool, true, false, List, length, Option, Some, None, refl, sym, ap, ◌∙◌, subst, inl, inr}
use Rattle.std.specs.Option.{option_map_or, unwrap_or}
use Rattle.std.specs.Prelude.{nat_eq}
use Rattle.std.specs.Set.{is_member}
use Rattle.std.proofs.lemmas.Bool.{cases_eq}
use Rattle.cache_set.specs.declared.letter.Letter.{Letter}
use Rattle.cache_set.specs.declared.letter.Letter.TheVariants.{M, I}
use Rattle.shard.specs.Coherence.{is_alone, is_modified, is_valid}
use Rattle.home.specs.HomeState.{HomeLine, bytes_at, granted_in, nobody, owned_in, row_at, row_of}
use Rattle.l1_cache.specs.L1State.{Copy, copy_at, kept_first_in, letter_of}
use Rattle.shard.specs.PartsLaws.{AreParts, IsInMemory, IsOwn}
use Rattle.shard.specs.Seen.{caches_seen, newest_in}
use Rattle.shard.specs.SharedStep.{Bank, brought_to_own, copy_of, kept_with, left_by_others, own_letter, with_home, with_l1}
use Rattle.shard.specs.StandsFor.{AreCoherent, HaveRoomForLines}
use Rattle.shard.proofs.HomesAndL1s.Banks.{own_in}
use Rattle.shard.proofs.HomesAndL1s.Begun.{Begun}
use Rattle.shard.proofs.HomesAndL1s.Brought.{brought_got, copy, v}
use Rattle.shard.proofs.HomesAndL1s.CanGive.{bytes_long}
use Rattle.shard.proofs.HomesAndL1s.Decisions.{contrary}
use Rattle.shard.proofs.HomesAndL1s.KeptGot.{clean_after, kept_done, kept_got}
use Rattle.shard.proofs.HomesAndL1s.LeftDone.{left_done}
use Rattle.shard.proofs.HomesAndL1s.LettersSeen.{copy_valid}
use Rattle.shard.proofs.HomesAndL1s.LineFits.{KeepsBank, line_of_parts, memory_in}
use Rattle.shard.proofs.HomesAndL1s.OthersDone.{OthersDone, others_shared}
use Rattle.shard.proofs.HomesAndL1s.OwnGot.{OwnGot}
use Rattle.shard.proofs.HomesAndL1s.ReadyFits.{IsCopy, RowSet, keeps_then, ready_marks, ready_newest, ready_parts, ready_there}
use Rattle.shard.proofs.HomesAndL1s.ReadyFits as readyfits
use Rattle.shard.proofs.HomesAndL1s.RowSets.{granted_set, owned_set, unset}

-- the line is ready
pub record Prepared (p q : Bank) (core line : ℕ) (write : Bool) : Type 0 where
  pub keeps : KeepsBank p q
  pub parts : AreParts q
  pub marks : q.home.marks ≡ p.home.marks
  pub copy : Copy
  pub there : copy_of q core line ≡ Some copy
  pub written : write ≡ true → is_modified copy.letter ≡ true
  pub newest : (x : ℕ) → IsOwn p x → IsInMemory p.home x → newest_in x (bytes_at q.home x) q.l1s ≡ newest_in x (bytes_at p.home x) p.l1s

abbrev pub IsSound : Bank → Type 0
IsSound q = AreCoherent (caches_seen q) × HaveRoomForLines (caches_seen q)

pub some_of : (p : Bank) → AreParts p → (core line : ℕ) → IsOwn p line → is_valid (own_letter p core line) ≡ true → row_at p.home line ≡ Some (row_of p.home line)
some_of p are core line own valid = there (row_at p.home line) (are.holds core line own ∙ valid) where
  there : (o : Option HomeLine) → is_member nat_eq (unwrap_or o nobody).sharers core ≡ true → o ≡ Some (unwrap_or o nobody)
  there None h = absurd cc
  there (Some row) h = refl

-- where the core has a copy, the row says whether it is alone
pub alone_as : (p : Bank) → (are : AreParts p) → (core line : ℕ) → IsOwn p line → (copy : Copy) → copy_of p core line ≡ Some copy → (row_of p.home line).alone ≡ is_alone copy.letter
alone_as p are core line own copy here = by_row (row_of p.home line).alone refl where
  letter : is_alone (own_letter p core line) ≡ is_alone copy.letter
  letter = ap (λ (o : Option Copy). is_alone (letter_of o)) here

  by_row : (b : Bool) → (row_of p.home line).alone ≡ b → (row_of p.home line).alone ≡ is_alone copy.letter
  by_row true e =
      let has = (line_of_parts p are line own).alone_some e in
      elim (cases_eq has.0 core) as (λ _. (row_of p.home line).alone ≡ is_alone copy.letter) [
        | inl z ↦ e ∙ sym (sym letter ∙ subst (λ (j : ℕ). is_alone (own_letter p j line) ≡ true) z has.2)
        | inr z ↦ absurd (contrary (is_alone (own_letter p has.0 line)) has.2 (others_shared p are line own core copy here has.0 z))
      ]
  by_row false e = e ∙ sym (sym letter ∙ (line_of_parts p are line own).alone_none e core)

module _ (p : Bank) (are : AreParts p) (core line : ℕ) (within : core < length p.l1s) (own : IsOwn p line) (inside : IsInMemory p.home line) where
  -- ---- a line that the core has, with as good a letter
  module _ (was : Copy) (here : copy_of p core line ≡ Some was) (letter : Letter) (valid : is_valid letter ≡ true) (alone : is_alone was.letter ≡ is_alone letter) (still : is_modified was.letter ≡ true → is_modified letter ≡ true) where
    abbrev after : Copy
    after = record was { letter = letter }

    abbrev r : Bank
    r = with_l1 core (kept_first_in line after) p

    was_valid : is_valid was.letter ≡ true
    was_valid = (copy_valid p are core line was own here)

    own_valid : is_valid (own_letter p core line) ≡ true
    own_valid = ap (λ (o : Option Copy). is_valid (letter_of o)) here ∙ was_valid

    there : row_at p.home line ≡ Some (row_of p.home line)
    there = some_of p are core line own own_valid

    done : OthersDone p p core line (row_of p.home line) false
    done = kept_done p are core line own was here there

    got : OwnGot p r core line after None
    got = kept_got p p are core line within own inside (row_of p.home line) false done was here after refl still

    members : (k : ℕ) → is_member nat_eq (row_of p.home line).sharers k ≡ is_valid (own_letter r k line)
    members k =
        are.holds k line own
        ∙ elim (cases_eq k core) as (λ _. is_valid (own_letter p k line) ≡ is_valid (own_letter r k line)) [
          | inl z ↦
              subst (λ (j : ℕ). is_valid (own_letter p j line) ≡ is_valid (own_letter r j line)) (sym z) (own_valid ∙ sym (ap (λ (o : Option Copy). is_valid (letter_of o)) got.there ∙ valid))
          | inr z ↦ sym (ap (λ l1. is_valid (letter_of (copy_at l1 line))) (got.others k z))
        ]

    set : RowSet r r core line (row_of p.home line) after
    set = unset r got.keeps.bank.fit core line (row_of p.home line) (row_of p.home line) after there refl (alone_as p are core line own was here ∙ alone) members

    good : IsCopy p r core line after
    good = record {
      whole = are.whole core line was own here;
      clean = clean_after p p are core line within own inside (row_of p.home line) false done was here after refl still;
      free = λ f.
          let was_free = (line_of_parts p are line own).free core was here f in
          (sym alone ∙ was_free.0, was_free.1);
    }

    kept_is : kept_with letter core line p ≡ r
    kept_is = ap (λ (o : Option Copy). option_map_or (λ copy. with_l1 core (kept_first_in line (record copy { letter = letter })) p) o p) here

    pub kept_prepared : (write : Bool) → (write ≡ true → is_modified letter ≡ true) → IsSound (kept_with letter core line p) → Prepared p (kept_with letter core line p) core line write
    kept_prepared write written sound =
        let sound_r : IsSound r = subst IsSound kept_is sound in
        subst (λ (b : Bank). Prepared p b core line write) (sym kept_is)
        (record {
          keeps = readyfits.keeps p p r r are core line within own inside (row_of p.home line) false done refl after None got set good;
          parts = ready_parts p p r r are core line within own inside (row_of p.home line) false done refl after None got set good sound_r.0 sound_r.1;
          marks = ready_marks p p r r are core line within own inside (row_of p.home line) false done refl after None got set good;
          copy = after;
          there = ready_there p p r r are core line within own inside (row_of p.home line) false done refl after None got set good;
          written = written;
          newest = ready_newest p p r r are core line within own inside (row_of p.home line) false done refl after None got set good;
        })

  -- ---- an upgrade, where the L2 was looked up
  module _ (there : row_at p.home line ≡ Some (row_of p.home line)) where
    abbrev row : HomeLine
    row = row_of p.home line

    abbrev left : Bank
    left = left_by_others core line row p

    left_is : OthersDone p left core line row true
    left_is = left_done p are core line own inside there

    module _ (was : Copy) (here : copy_of p core line ≡ Some was) where
      abbrev modified : Copy
      modified = record was { letter = M }

      abbrev up : Bank
      up = with_l1 core (kept_first_in line modified) left

      up_got : OwnGot left up core line modified None
      up_got = kept_got p left are core line within own inside row true left_is was here modified refl (λ _. refl)

      up_others : (k : ℕ) → k ≢ core → is_valid (own_letter up k line) ≡ false
      up_others k apart = ap (λ l1. is_valid (letter_of (copy_at l1 line))) (up_got.others k apart) ∙ left_is.valid k apart

      up_set : RowSet up (with_home (owned_in line core) up) core line row modified
      up_set =
          owned_set up up_got.keeps.bank.fit core line row left_is.row_now.0 modified left_is.row_now.1 left_is.row_now.3 (ap (λ (o : Option Copy). is_valid (letter_of o)) up_got.there) refl up_others

      up_good : IsCopy p up core line modified
      up_good = record {
        whole = are.whole core line was own here;
        clean = λ m. absurd cc;
        free = λ f. (refl, ((line_of_parts p are line own).free core was here f).1);
      }

      up_is : kept_with M core line left ≡ up
      up_is = ap (λ (o : Option Copy). option_map_or (λ copy. with_l1 core (kept_first_in line (record copy { letter = M })) left) o left) (ap (λ l1. copy_at l1 line) left_is.own ∙ here)

      pub upgraded_prepared : (write : Bool) → IsSound (with_home (owned_in line core) (kept_with M core line left)) → Prepared p (with_home (owned_in line core) (kept_with M core line left)) core line write
      upgraded_prepared write sound =
          let q : Bank = with_home (owned_in line core) up in
          let sound_q : IsSound q = subst (λ (b : Bank). IsSound (with_home (owned_in line core) b)) up_is sound in
          subst (λ (b : Bank). Prepared p (with_home (owned_in line core) b) core line write) (sym up_is)
          (record {
            keeps = readyfits.keeps p left up q are core line within own inside row true left_is refl modified None up_got up_set up_good;
            parts = ready_parts p left up q are core line within own inside row true left_is refl modified None up_got up_set up_good sound_q.0 sound_q.1;
            marks = ready_marks p left up q are core line within own inside row true left_is refl modified None up_got up_set up_good;
            copy = modified;
            there = ready_there p left up q are core line within own inside row true left_is refl modified None up_got up_set up_good;
            written = λ _. refl;
            newest = ready_newest p left up q are core line within own inside row true left_is refl modified None up_got up_set up_good;
          })

  -- ---- a line that comes into the L1
  module _ (absent : own_letter p core line ≡ I) (row : HomeLine) (same_row : row ≡ row_of p.home line) (write : Bool) (l : Bank) (done : OthersDone p l core line row write) (letter : Letter) (valid : is_valid letter ≡ true) where
    abbrev came : Copy
    came = copy p l are core line within own inside row write done absent letter

    abbrev r_own : Bank
    r_own = brought_to_own letter core line l

    abbrev victim : Option (ℕ × Copy)
    victim = v p l are core line within own inside row write done absent letter

    came_got : OwnGot l r_own core line came victim
    came_got = brought_got p l are core line within own inside row write done absent letter

    came_row : row_at r_own.home line ≡ Some done.row_now.0
    came_row = came_got.rows line (λ w is z. (came_got.gone w is).0 (sym z)) ∙ done.row_now.1

    came_mine : is_valid (own_letter r_own core line) ≡ true
    came_mine = ap (λ (o : Option Copy). is_valid (letter_of o)) came_got.there ∙ valid

    came_others : (k : ℕ) → k ≢ core → is_valid (own_letter r_own k line) ≡ is_valid (own_letter l k line)
    came_others k apart = ap (λ l1. is_valid (letter_of (copy_at l1 line))) (came_got.others k apart)

    bytes_line : bytes_at r_own.home line ≡ came.bytes
    unfolding brought_to_own
    bytes_line = refl

    came_good : IsCopy p r_own core line came
    came_good = record {
      whole = ap (λ (b : List ℕ). length b) (sym bytes_line) ∙ bytes_long r_own.home line (memory_in p r_own (keeps_then p l r_own done.keeps came_got.keeps) line inside);
      clean = λ m. sym bytes_line;
      free = λ f. absurd cc;
    }

    pub came_prepared : (q : Bank) → RowSet r_own q core line row came → (w : Bool) → (w ≡ true → is_modified letter ≡ true) → IsSound q → Prepared p q core line w
    came_prepared q set w written sound = record {
      keeps = readyfits.keeps p l r_own q are core line within own inside row write done same_row came victim came_got set came_good;
      parts = ready_parts p l r_own q are core line within own inside row write done same_row came victim came_got set came_good sound.0 sound.1;
      marks = ready_marks p l r_own q are core line within own inside row write done same_row came victim came_got set came_good;
      copy = came;
      there = ready_there p l r_own q are core line within own inside row write done same_row came victim came_got set came_good;
      written = written;
      newest = ready_newest p l r_own q are core line within own inside row write done same_row came victim came_got set came_good;
    }

    -- the core alone has it
    pub came_owned : (w : Bool) → (w ≡ true → is_modified letter ≡ true) → is_alone letter ≡ true → ((k : ℕ) → k ≢ core → is_valid (own_letter l k line) ≡ false)
        → IsSound (with_home (owned_in line core) r_own) → Prepared p (with_home (owned_in line core) r_own) core line w
    came_owned w written alone others sound =
        came_prepared (with_home (owned_in line core) r_own)
        (owned_set r_own came_got.keeps.bank.fit core line row done.row_now.0 came came_row done.row_now.3 came_mine alone (λ k apart. came_others k apart ∙ others k apart)) w written sound

    pub came_granted : (alone : Bool) → alone ≡ is_alone letter → ((k : ℕ) → k ≢ core → is_member nat_eq row.sharers k ≡ is_valid (own_letter l k line)) → ((k : ℕ) → is_member nat_eq row.sharers k ≡ true → k < 256) → core < 256
        → IsSound (with_home (granted_in line core alone) r_own) → Prepared p (with_home (granted_in line core alone) r_own) core line false
    came_granted alone same others few few_core sound =
        came_prepared (with_home (granted_in line core alone) r_own)
        (granted_set r_own came_got.keeps.bank.fit core line row done.row_now.0 came came_row done.row_now.3 came_mine alone same few_core
        (λ k t. few k (sym (ap (λ (s : List ℕ). is_member nat_eq s k) done.row_now.2) ∙ t))
        (λ k apart. ap (λ (s : List ℕ). is_member nat_eq s k) done.row_now.2 ∙ (others k apart ∙ sym (came_others k apart))))
        false (λ t. absurd cc) sound

-- ---- after what began at the L2
pub prepared_then : (p b q : Bank) (core line : ℕ) (row : HomeLine) (write : Bool) → Begun p b line row → Prepared b q core line write → Prepared p q core line write
prepared_then p b q core line row write begun ready = record {
  keeps = keeps_then p b q begun.keeps ready.keeps;
  parts = ready.parts;
  marks = ready.marks ∙ begun.marks;
  copy = ready.copy;
  there = ready.there;
  written = ready.written;
  newest = λ x own inside. ready.newest x (own_in p b begun.keeps.bank x own) (memory_in p b begun.keeps x inside) ∙ begun.newest x own inside;
}
