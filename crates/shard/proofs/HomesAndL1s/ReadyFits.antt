-- When the line stands in the core's own L1 and the home says so, the parts are parts as before.
use Rattle.std.proofs.Common.{◌≡◌, ◌≢◌, ℕ, ◌%◌, ◌<◌, Bool, true, false, List, length, get_or, Option, Some, None, refl, sym, ap, ◌∙◌, subst, inl, inr}
use Rattle.std.specs.Option.{unwrap_or}
use Rattle.std.specs.Prelude.{IsSome, nat_eq}
use Rattle.std.specs.Set.{is_member}
use Rattle.std.proofs.lemmas.Bool.{cases_eq}
use Rattle.zs_num.specs.Request.{line_bytes}
use Rattle.shard.specs.Coherence.{is_alone, is_modified, is_valid}
use Rattle.home.specs.HomeState.{HomeLine, bytes_at, is_marked_by_others, nobody, row_at, row_of}
use Rattle.mesi_dir.specs.CoreSets.{without_core}
use Rattle.l1_cache.specs.L1State.{Copy, L1State, copy_at, has_instructions, letter_of, no_l1}
use Rattle.shard.specs.PartsLaws.{AreParts, IsInMemory, IsOwn}
use Rattle.shard.specs.Seen.{caches_seen, newest_in}
use Rattle.shard.specs.SharedStep.{Bank, copy_of, l1_of, own_letter}
use Rattle.shard.specs.StandsFor.{AreCoherent, HaveRoomForLines}
use Rattle.shard.proofs.HomesAndL1s.Banks.{own_in}
use Rattle.shard.proofs.HomesAndL1s.CanGive.{old_letter}
use Rattle.shard.proofs.HomesAndL1s.FoldAt.{not_own}
use Rattle.shard.proofs.HomesAndL1s.LettersSeen.{copy_valid}
use Rattle.shard.proofs.HomesAndL1s.LineFits.{KeepsBank, LineFits, SameAt, carry, copy_memory, line_of_parts, memory_in, parts_of_lines}
use Rattle.shard.proofs.HomesAndL1s.Newest.{newest_none}
use Rattle.shard.proofs.HomesAndL1s.OthersDone.{OthersDone, newest_copy, others_old, others_shared}
use Rattle.shard.proofs.HomesAndL1s.OwnGot.{OwnGot}
use Rattle.shard.proofs.HomesAndL1s.Rows.{as_row}
use Rattle.shard.proofs.HomesAndL1s.Untouched.{member_without}

pub keeps_then : (p q r : Bank) → KeepsBank p q → KeepsBank q r → KeepsBank p r
keeps_then p q r a b = record {
  bank = record { count = b.bank.count ∙ a.bank.count; number = b.bank.number ∙ a.bank.number; cores = b.bank.cores ∙ a.bank.cores; fit = b.bank.fit };
  base = b.base ∙ a.base;
  size = b.size ∙ a.size;
  marks = b.marks ∙ a.marks;
  long = b.long ∙ a.long;
}

-- the home's row of the line, and nothing else, after what the core's own L1 did
pub record RowSet (r q : Bank) (core line : ℕ) (was : HomeLine) (copy : Copy) : Type 0 where
  pub keeps : KeepsBank r q
  pub marks : q.home.marks ≡ r.home.marks
  pub l1s : q.l1s ≡ r.l1s
  pub rows : (x : ℕ) → x ≢ line → row_at q.home x ≡ row_at r.home x
  pub bytes : (x : ℕ) → bytes_at q.home x ≡ bytes_at r.home x
  pub row_now : (w : HomeLine) × (row_at q.home line ≡ Some w) × (w.fetchers ≡ was.fetchers) × (w.alone ≡ is_alone copy.letter)
      × ((k : ℕ) → is_member nat_eq w.sharers k ≡ is_valid (own_letter r k line))

-- what the core's copy is like
pub record IsCopy (p r : Bank) (core line : ℕ) (copy : Copy) : Type 0 where
  pub whole : length copy.bytes ≡ line_bytes
  pub clean : is_modified copy.letter ≡ false → copy.bytes ≡ bytes_at r.home line
  pub free : copy.free ≡ true → (is_alone copy.letter ≡ true) × (is_marked_by_others p.home.marks core line ≡ false)

module _ (p l r q : Bank) (are : AreParts p) (core line : ℕ) (within : core < length p.l1s) (own : IsOwn p line) (inside : IsInMemory p.home line) (row : HomeLine) (write : Bool)
    (done : OthersDone p l core line row write) (same_row : row ≡ row_of p.home line) (copy : Copy) (v : Option (ℕ × Copy)) (got : OwnGot l r core line copy v) (set : RowSet r q core line row copy) (good : IsCopy p r core line copy) where
  keeps_r : KeepsBank p r
  keeps_r = keeps_then p l r done.keeps got.keeps

  pub keeps : KeepsBank p q
  keeps = keeps_then p r q keeps_r set.keeps

  own_l : (x : ℕ) → IsOwn p x → IsOwn l x
  own_l x own_x = own_in p l done.keeps.bank x own_x

  pub ready_marks : q.home.marks ≡ p.home.marks
  ready_marks = set.marks ∙ (got.marks ∙ done.marks)

  marked : (x k : ℕ) → is_marked_by_others p.home.marks k x ≡ false → is_marked_by_others q.home.marks k x ≡ false
  marked x k h = subst (λ marks. is_marked_by_others marks k x ≡ false) (sym ready_marks) h

  -- copies of q are those of r
  as_r : (k : ℕ) → l1_of q k ≡ l1_of r k
  as_r k = ap (λ (l1s : List L1State). get_or l1s k no_l1) set.l1s

  other : (k : ℕ) → k ≢ core → l1_of q k ≡ l1_of l k
  other k apart = as_r k ∙ got.others k apart

  pub ready_there : copy_of q core line ≡ Some copy
  ready_there = ap (λ (l1 : L1State). copy_at l1 line) (as_r core) ∙ got.there

  instructions_same : (x k : ℕ) → has_instructions (l1_of q k) x ≡ has_instructions (l1_of p k) x
  instructions_same x k = ap (λ (l1 : L1State). has_instructions l1 x) (as_r k) ∙ (got.instructions x k ∙ done.instructions x k)

  pub ready_newest : (x : ℕ) → IsOwn p x → IsInMemory p.home x → newest_in x (bytes_at q.home x) q.l1s ≡ newest_in x (bytes_at p.home x) p.l1s
  ready_newest x own_x inside_x =
      ap (λ (b : List ℕ). newest_in x b q.l1s) (set.bytes x)
      ∙ (ap (newest_in x (bytes_at r.home x)) set.l1s
      ∙ (got.newest x (own_l x own_x) (memory_in p l done.keeps x inside_x) ∙ done.newest x own_x inside_x))

  -- ---- the line itself
  letter_here : own_letter q core line ≡ copy.letter
  letter_here = ap letter_of ready_there

  letter_other : (k : ℕ) → k ≢ core → own_letter q k line ≡ own_letter l k line
  letter_other k apart = ap (λ (l1 : L1State). letter_of (copy_at l1 line)) (other k apart)

  abbrev now : HomeLine
  now = set.row_now.0

  now_is : row_of q.home line ≡ now
  now_is = as_row q.home line now set.row_now.1

  alone_here : (k : ℕ) → is_alone copy.letter ≡ false → is_alone (own_letter q k line) ≡ false
  alone_here k shared =
      elim (cases_eq k core) as (λ _. is_alone (own_letter q k line) ≡ false) [
        | inl z ↦ subst (λ (j : ℕ). is_alone (own_letter q j line) ≡ false) (sym z) (ap is_alone letter_here ∙ shared)
        | inr z ↦ ap is_alone (letter_other k z) ∙ done.shared k z
      ]

  bytes_line : bytes_at r.home line ≡ bytes_at l.home line
  bytes_line = got.bytes line (own_l line own) (memory_in p l done.keeps line inside) (λ w is z. (got.gone w is).0 (sym z))

  abbrev Each : ((k : ℕ) (copy : Copy) → Type 0) → Type 0
  Each P = (k : ℕ) (c : Copy) → copy_of q k line ≡ Some c → P k c

  each : (P : (k : ℕ) (c : Copy) → Type 0) → P core copy → ((k : ℕ) (c : Copy) → k ≢ core → copy_of l k line ≡ Some c → P k c) → Each P
  each P here others k c e =
      elim (cases_eq k core) as (λ _. P k c) [
        | inl z ↦
            let there : copy_of q core line ≡ Some c = subst (λ (j : ℕ). copy_of q j line ≡ Some c) z e in
            let same : Some copy ≡ Some c = sym ready_there ∙ there in
            let is : copy ≡ c = cc in
            subst (λ (j : ℕ). P j c) (sym z) (subst (P core) is here)
        | inr z ↦ others k c z (sym (ap (λ (l1 : L1State). copy_at l1 line) (other k z)) ∙ e)
      ]

  line_fits : LineFits q line
  line_fits = record {
    memory = λ _. memory_in p q keeps line inside;
    holds = λ k. ap (λ (w : HomeLine). is_member nat_eq w.sharers k) now_is ∙ (set.row_now.4 k ∙ sym (ap (λ (l1 : L1State). is_valid (letter_of (copy_at l1 line))) (as_r k)));
    alone_some = λ so.
        (core, subst (λ (z : ℕ). core < z) (sym keeps.bank.cores) within, ap is_alone letter_here ∙ (sym set.row_now.3 ∙ (sym (ap (λ (w : HomeLine). w.alone) now_is) ∙ so)));
    alone_none = λ not_so k. alone_here k (sym set.row_now.3 ∙ (sym (ap (λ (w : HomeLine). w.alone) now_is) ∙ not_so));
    fetches = λ k.
        ap (λ (w : HomeLine). is_member nat_eq w.fetchers k) now_is
        ∙ (ap (λ (f : List ℕ). is_member nat_eq f k) (set.row_now.2 ∙ ap (λ (w : HomeLine). w.fetchers) same_row)
        ∙ (are.fetches k line own ∙ sym (instructions_same line k)));
    whole = each (λ k c. length c.bytes ≡ line_bytes) good.whole (λ k c apart e. done.whole k c apart e);
    clean = each (λ k c. is_modified c.letter ≡ false → c.bytes ≡ bytes_at q.home line) (λ m. good.clean m ∙ sym (set.bytes line)) (λ k c apart e m. done.clean k c apart e ∙ (sym bytes_line ∙ sym (set.bytes line)));
    free = each (λ k c. c.free ≡ true → (is_alone c.letter ≡ true) × (is_marked_by_others q.home.marks k line ≡ false)) (λ f. ((good.free f).0, marked line core (good.free f).1))
        (λ k c apart e f. let bad : true ≡ false = sym f ∙ done.free k c apart e in absurd cc);
  }

  -- ---- the line that the core's L1 let go
  module _ (w : ℕ × Copy) (is : v ≡ Some w) where
    apart_w : w.0 ≢ line
    apart_w = (got.gone w is).0

    own_w : IsOwn p w.0
    own_w = sym (ap (λ (z : ℕ). w.0 % z) done.keeps.bank.count) ∙ ((got.was w is).0 ∙ done.keeps.bank.number)

    was_w : copy_of p core w.0 ≡ Some w.1
    was_w = sym (ap (λ (l1 : L1State). copy_at l1 w.0) done.own) ∙ (got.was w is).1

    fits_w : LineFits p w.0
    fits_w = line_of_parts p are w.0 own_w

    valid_w : is_valid (own_letter p core w.0) ≡ true
    valid_w = ap (λ (o : Option Copy). is_valid (letter_of o)) was_w ∙ (copy_valid p are core w.0 w.1 own_w was_w)

    inside_w : IsInMemory p.home w.0
    inside_w = copy_memory p w.0 fits_w core valid_w

    gone_w : copy_of q core w.0 ≡ None
    gone_w = ap (λ (l1 : L1State). copy_at l1 w.0) (as_r core) ∙ (got.gone w is).1

    other_w : (k : ℕ) → k ≢ core → copy_of q k w.0 ≡ copy_of p k w.0
    other_w k apart = ap (λ (l1 : L1State). copy_at l1 w.0) (other k apart) ∙ done.copies w.0 k apart_w

    some_row : (o : Option HomeLine) → is_member nat_eq (unwrap_or o nobody).sharers core ≡ true → (a : HomeLine) × (o ≡ Some a)
    some_row None h = absurd cc
    some_row (Some a) h = (a, refl)

    row_w : (a : HomeLine) × (row_at p.home w.0 ≡ Some a)
    row_w = some_row (row_at p.home w.0) (fits_w.holds core ∙ valid_w)

    abbrev before : HomeLine
    before = row_w.0

    then_w : (a : HomeLine) × (row_at r.home w.0 ≡ Some a) × (a.sharers ≡ without_core core before.sharers) × (a.alone ≡ false) × (a.fetchers ≡ before.fetchers)
    then_w = got.row_gone w before is (done.rows w.0 apart_w ∙ row_w.1)

    abbrev after : HomeLine
    after = then_w.0

    after_is : row_of q.home w.0 ≡ after
    after_is = as_row q.home w.0 after (set.rows w.0 apart_w ∙ then_w.1)

    before_is : row_of p.home w.0 ≡ before
    before_is = as_row p.home w.0 before row_w.1

    -- at the core and at the others
    at_each : (P : ℕ → Option Copy → Type 0) → P core None → ((k : ℕ) → k ≢ core → P k (copy_of p k w.0)) → (k : ℕ) → P k (copy_of q k w.0)
    at_each P here others k =
        elim (cases_eq k core) as (λ _. P k (copy_of q k w.0)) [
          | inl z ↦ subst (λ (j : ℕ). P j (copy_of q j w.0)) (sym z) (subst (P core) (sym gone_w) here)
          | inr z ↦ subst (P k) (sym (other_w k z)) (others k z)
        ]

    -- the others' copies are not modified, so that the home has the line's bytes
    old_w : (k : ℕ) → is_modified (letter_of (copy_of q k w.0)) ≡ false
    old_w = at_each (λ k o. is_modified (letter_of o) ≡ false) refl (λ k apart. others_old p are w.0 own_w core w.1 was_w k apart)

    home_w : newest_in w.0 (bytes_at q.home w.0) q.l1s ≡ bytes_at q.home w.0
    home_w = newest_none w.0 (bytes_at q.home w.0) q.l1s (λ k. old_letter (copy_of q k w.0) (old_w k))

    victim_fits : LineFits q w.0
    victim_fits = record {
      memory = λ _. memory_in p q keeps w.0 inside_w;
      holds = at_each (λ k o. is_member nat_eq (row_of q.home w.0).sharers k ≡ is_valid (letter_of o))
          (ap (λ (a : HomeLine). is_member nat_eq a.sharers core) after_is ∙ (ap (λ (s : List ℕ). is_member nat_eq s core) then_w.2 ∙ not_own core before.sharers))
          (λ k apart.
          ap (λ (a : HomeLine). is_member nat_eq a.sharers k) after_is
          ∙ (ap (λ (s : List ℕ). is_member nat_eq s k) then_w.2
          ∙ (member_without core k before.sharers (λ z. apart (sym z))
          ∙ (sym (ap (λ (a : HomeLine). is_member nat_eq a.sharers k) before_is) ∙ fits_w.holds k))));
      alone_some = λ so. let bad : false ≡ true = sym (ap (λ (a : HomeLine). a.alone) after_is ∙ then_w.3) ∙ so in absurd cc;
      alone_none = λ _. at_each (λ k o. is_alone (letter_of o) ≡ false) refl (λ k apart. others_shared p are w.0 own_w core w.1 was_w k apart);
      fetches = λ k.
          ap (λ (a : HomeLine). is_member nat_eq a.fetchers k) after_is
          ∙ (ap (λ (s : List ℕ). is_member nat_eq s k) then_w.4
          ∙ (sym (ap (λ (a : HomeLine). is_member nat_eq a.fetchers k) before_is)
          ∙ (fits_w.fetches k ∙ sym (instructions_same w.0 k))));
      whole = at_each (λ k o. (c : Copy) → o ≡ Some c → length c.bytes ≡ line_bytes) (λ c e. absurd cc) (λ k apart. fits_w.whole k);
      clean = at_each (λ k o. (c : Copy) → o ≡ Some c → is_modified c.letter ≡ false → c.bytes ≡ bytes_at q.home w.0) (λ c e. absurd cc)
          (λ k apart c e _. sym (newest_copy p are w.0 own_w k c e) ∙ (sym (ready_newest w.0 own_w inside_w) ∙ home_w));
      free = at_each (λ k o. (c : Copy) → o ≡ Some c → c.free ≡ true → (is_alone c.letter ≡ true) × (is_marked_by_others q.home.marks k w.0 ≡ false)) (λ c e. absurd cc)
          (λ k apart c e f. ((fits_w.free k c e f).0, marked w.0 k (fits_w.free k c e f).1));
    }

  -- ---- any other line
  row_then : (x : ℕ) → x ≢ line → ((w : ℕ × Copy) → v ≡ Some w → x ≢ w.0) → row_at q.home x ≡ row_at p.home x
  row_then x apart stays = set.rows x apart ∙ (got.rows x stays ∙ done.rows x apart)

  same : (x : ℕ) → IsOwn p x → x ≢ line → ((w : ℕ × Copy) → v ≡ Some w → x ≢ w.0) → SameAt p q x
  same x own_x apart stays = record {
    row = ap (λ (o : Option HomeLine). unwrap_or o nobody) (row_then x apart stays);
    copies = λ k. elim (cases_eq k core) as (λ _. copy_of q k x ≡ copy_of p k x) [
      | inl z ↦
          subst (λ (j : ℕ). copy_of q j x ≡ copy_of p j x) (sym z)
          (ap (λ (l1 : L1State). copy_at l1 x) (as_r core) ∙ (got.copies x apart stays ∙ ap (λ (l1 : L1State). copy_at l1 x) done.own))
      | inr z ↦ ap (λ (l1 : L1State). copy_at l1 x) (other k z) ∙ done.copies x k apart
    ];
    instructions = instructions_same x;
    bytes = λ inside_x. set.bytes x ∙ (got.bytes x (own_l x own_x) (memory_in p l done.keeps x inside_x) stays ∙ done.bytes x apart own_x inside_x);
  }

  other_fits : (x : ℕ) → IsOwn p x → x ≢ line → ((w : ℕ × Copy) → v ≡ Some w → x ≢ w.0) → LineFits q x
  other_fits x own_x apart stays =
      carry p q x keeps (same x own_x apart stays) (marked x) (line_of_parts p are x own_x) (λ k c e. (copy_valid p are k x c own_x e))
      (λ t. memory_in p q keeps x (are.lines x (subst (λ (o : Option HomeLine). IsSome o) (row_then x apart stays) t)).1)

  one_some : (a b : ℕ × Copy) → Some a ≡ Some b → a ≡ b
  one_some a b e = cc

  stays_by : (w : ℕ × Copy) → v ≡ Some w → (x : ℕ) → x ≢ w.0 → (u : ℕ × Copy) → v ≡ Some u → x ≢ u.0
  stays_by w is x z u k y = let one : w ≡ u = one_some w u (sym is ∙ k) in z (y ∙ sym (ap (λ (t : ℕ × Copy). t.0) one))

  fits_by : (o : Option (ℕ × Copy)) → v ≡ o → (x : ℕ) → IsOwn p x → x ≢ line → LineFits q x
  fits_by None is x own_x apart = other_fits x own_x apart (λ w k. let bad : None ≡ Some w = sym is ∙ k in absurd cc)
  fits_by (Some w) is x own_x apart =
      elim (cases_eq x w.0) as (λ _. LineFits q x) [
        | inl z ↦ subst (λ (y : ℕ). LineFits q y) (sym z) (victim_fits w is)
        | inr z ↦ other_fits x own_x apart (stays_by w is x z)
      ]

  fits : (x : ℕ) → IsOwn q x → LineFits q x
  fits x own_now =
      let own_x : IsOwn p x = sym (ap (λ (z : ℕ). x % z) keeps.bank.count) ∙ (own_now ∙ keeps.bank.number) in
      elim (cases_eq x line) as (λ _. LineFits q x) [
        | inl z ↦ subst (λ (y : ℕ). LineFits q y) (sym z) line_fits
        | inr z ↦ fits_by v refl x own_x z
      ]

  rows_by : (o : Option (ℕ × Copy)) → v ≡ o → (x : ℕ) → x ≢ line → IsSome (row_at q.home x) → IsOwn p x
  rows_by None is x apart t =
      (are.lines x (subst (λ (o : Option HomeLine). IsSome o) (row_then x apart (λ w k. let bad : None ≡ Some w = sym is ∙ k in absurd cc)) t)).0
  rows_by (Some w) is x apart t =
      elim (cases_eq x w.0) as (λ _. IsOwn p x) [
        | inl z ↦ subst (λ (y : ℕ). IsOwn p y) (sym z) (own_w w is)
        | inr z ↦ (are.lines x (subst (λ (o : Option HomeLine). IsSome o) (row_then x apart (stays_by w is x z)) t)).0
      ]

  own_rows : (x : ℕ) → IsSome (row_at q.home x) → IsOwn q x
  own_rows x t =
      own_in p q keeps.bank x
      (elim (cases_eq x line) as (λ _. IsOwn p x) [ inl z ↦ subst (λ (y : ℕ). IsOwn p y) (sym z) own | inr z ↦ rows_by v refl x z t ])

  pub ready_parts : AreCoherent (caches_seen q) → HaveRoomForLines (caches_seen q) → AreParts q
  ready_parts coherent room = parts_of_lines p q are keeps coherent room own_rows fits
