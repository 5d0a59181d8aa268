-- The answer: the line's bytes, the marks, and whether the line is free to write; the parts are parts as before.
use Rattle.std.proofs.Common.{◌≡◌, ◌≢◌, ℕ, ◌+◌, ◌<◌, ◌≤◌, ◌&&◌, Bool, true, false, not, cond, List, length, Option, Some, None, refl, sym, ap, ◌∙◌, subst, inl, inr}
use Rattle.std.specs.Option.{option_map_or}
use Rattle.std.proofs.lemmas.Bool.{cases_Bool, cases_eq}
use Rattle.std.proofs.lemmas.List.{get_or-set_other, get_or-set_same, length-set}
use Rattle.zs_num.specs.Request.{addr_of, line_bytes, line_of, width_of}
use Rattle.zs_num.specs.declared.request.Request.{Request}
use Rattle.zs_num.specs.declared.request.Request.TheVariants.{Load, Store, Lr, Sc, Amo, Fetch}
use Rattle.cache_set.specs.Ways.{changed, kept_of}
use Rattle.flat_memory.specs.declared.reservation.Reservation.{Reservation}
use Rattle.flat_memory.specs.FlatMemory.{number_in, with_number}
use Rattle.rv_alu.specs.Atomic.{new_number}
use Rattle.shard.specs.Coherence.{is_alone, is_modified, is_valid, is_write}
use Rattle.home.specs.HomeState.{bytes_at, is_marked_by_others, row_at}
use Rattle.l1_cache.specs.L1State.{Copy, L1State, copies_at, copy_at, has_instructions, in_copies_of, letter_of, no_l1, place_in_line}
use Rattle.shard.specs.Marks.{bytes_after, does_store, marks_after}
use Rattle.shard.specs.PartsLaws.{AreParts, IsInMemory, IsOwn}
use Rattle.shard.specs.Seen.{caches_seen, newest_in}
use Rattle.shard.specs.SharedStep.{Bank, answered, answered_with, copy_of, l1_of, own_letter, with_l1}
use Rattle.shard.specs.StandsFor.{AreCoherent, HaveRoomForLines}
use Rattle.shard.proofs.HomesAndL1s.BroughtSeen.{answered_seen}
use Rattle.shard.proofs.CoherentLines.{kept_changed_other, kept_changed_same, kept_elsewhere, set_same}
use Rattle.shard.proofs.HomesAndL1s.Decisions.{contrary}
use Rattle.shard.proofs.HomesAndL1s.Fit.{copies_shape, fit_home, fit_l1}
use Rattle.shard.proofs.HomesAndL1s.FitOf.{fit_of}
use Rattle.shard.proofs.HomesAndL1s.LettersSeen.{copy_valid}
use Rattle.shard.proofs.HomesAndL1s.LineFits.{KeepsBank, LineFits, SameAt, carry, line_of_parts, newest_as, parts_of_lines}
use Rattle.shard.proofs.HomesAndL1s.MarksApart.{marks_apart, marks_long}
use Rattle.shard.proofs.HomesAndL1s.OthersDone.{newest_copy, others_shared}
use Rattle.shard.proofs.HomesAndL1s.Rows.{has_sets}
use Rattle.shard.proofs.StandsForBytes.{length_written}

-- ---- one L1
changed_there : (line : ℕ) (after was : Copy) (l1 : L1State) → copy_at l1 line ≡ Some was → copy_at (in_copies_of line (changed line after) l1) line ≡ Some after
unfolding copy_at
changed_there line after was l1 e =
    ap (kept_of line) (set_same l1.shards line (changed line after) l1.sets (has_sets l1.shards line l1.sets was e))
    ∙ (kept_changed_same line after (copies_at l1 line) ∙ ap (λ (o : Option Copy). option_map_or (λ _. Some after) o None) e)

changed_other : (line : ℕ) (after : Copy) (l1 : L1State) (x : ℕ) → x ≢ line → copy_at (in_copies_of line (changed line after) l1) x ≡ copy_at l1 x
unfolding copy_at
changed_other line after l1 x apart = kept_elsewhere l1.shards x line (changed line after) l1.sets (kept_changed_other x line after (copies_at l1 line) apart)

changed_instructions : (line : ℕ) (after : Copy) (l1 : L1State) (x : ℕ) → has_instructions (in_copies_of line (changed line after) l1) x ≡ has_instructions l1 x
unfolding has_instructions
changed_instructions line after l1 x = refl

-- ---- the bytes of one line
after_long : (request : Request) (bytes : List ℕ) (place : ℕ) (marks : List (Option Reservation)) (core : ℕ) → place + width_of request ≤ length bytes → length (bytes_after bytes place marks core request) ≡ length bytes
unfolding bytes_after
after_long (Load width addr) bytes place marks core l = refl
after_long (Store width addr value) bytes place marks core l = length_written bytes place width value l
after_long (Lr width addr) bytes place marks core l = refl
after_long (Sc width paired addr value) bytes place marks core l =
    elim (does_store marks core addr width paired) as (λ b. length (cond b (with_number bytes place width value) bytes) ≡ length bytes) [ true ↦ length_written bytes place width value l | false ↦ refl ]
after_long (Amo width op addr value) bytes place marks core l = length_written bytes place width (new_number op width (number_in bytes place width) value) l
after_long (Fetch addr) bytes place marks core l = refl

-- what reads leaves them
after_read : (request : Request) (bytes : List ℕ) (place : ℕ) (marks : List (Option Reservation)) (core : ℕ) → is_write request ≡ false → bytes_after bytes place marks core request ≡ bytes
unfolding bytes_after
after_read (Load width addr) bytes place marks core r = refl
after_read (Store width addr value) bytes place marks core r = absurd cc
after_read (Lr width addr) bytes place marks core r = refl
after_read (Sc width paired addr value) bytes place marks core r = absurd cc
after_read (Amo width op addr value) bytes place marks core r = absurd cc
after_read (Fetch addr) bytes place marks core r = refl

both_true : (a b : Bool) → (a && not b) ≡ true → (a ≡ true) × (b ≡ false)
both_true true true h = absurd cc
both_true true false h = (refl, refl)
both_true false b h = absurd cc

module _ (p : Bank) (are : AreParts p) (core : ℕ) (request : Request) (within : core < length p.l1s) (own : IsOwn p (line_of request)) (inside : IsInMemory p.home (line_of request))
    (fits_in : place_in_line (addr_of request) + width_of request ≤ line_bytes)
    (copy : Copy) (here : copy_of p core (line_of request) ≡ Some copy) (written : is_write request ≡ true → is_modified copy.letter ≡ true) where
  abbrev line : ℕ
  line = line_of request

  abbrev marks : List (Option Reservation)
  marks = marks_after p.home.marks core request

  abbrev after : Copy
  after = record copy {
    free = is_alone copy.letter && not (is_marked_by_others marks core line);
    bytes = bytes_after copy.bytes (place_in_line (addr_of request)) p.home.marks core request;
  }

  abbrev q : Bank
  q = answered_with core line request copy p

  abbrev f : L1State → L1State
  f = in_copies_of line (changed line after)

  long : length q.l1s ≡ length p.l1s
  long = length-set p.l1s core (f (l1_of p core))

  keeps : KeepsBank p q
  keeps = record {
    bank = record {
      count = refl;
      number = refl;
      cores = long;
      fit = fit_home (with_l1 core f p) q.home (fit_l1 core f p (fit_of p are) (copies_shape line (changed line after))) refl refl;
    };
    base = refl;
    size = refl;
    marks = marks_long core request p.home.marks;
    long = refl;
  }

  own_now : l1_of q core ≡ f (l1_of p core)
  own_now = get_or-set_same p.l1s core (f (l1_of p core)) no_l1 within

  other_now : (k : ℕ) → k ≢ core → l1_of q k ≡ l1_of p k
  other_now k apart = get_or-set_other p.l1s core k (f (l1_of p core)) no_l1 apart

  pub there : copy_of q core line ≡ Some after
  there = ap (λ (l1 : L1State). copy_at l1 line) own_now ∙ changed_there line after copy (l1_of p core) here

  by_core : {Y : Type 0} (g : L1State → Y) → g (f (l1_of p core)) ≡ g (l1_of p core) → (k : ℕ) → g (l1_of q k) ≡ g (l1_of p k)
  by_core {Y = Y} g same k =
      elim (cases_eq k core) as (λ _. g (l1_of q k) ≡ g (l1_of p k)) [
        | inl z ↦ subst (λ (j : ℕ). g (l1_of q j) ≡ g (l1_of p j)) (sym z) (ap g own_now ∙ same)
        | inr z ↦ ap g (other_now k z)
      ]

  letters : (k : ℕ) → own_letter q k line ≡ own_letter p k line
  letters = by_core (λ l1. letter_of (copy_at l1 line)) (ap letter_of (changed_there line after copy (l1_of p core) here) ∙ sym (ap letter_of here))

  instructions : (x k : ℕ) → has_instructions (l1_of q k) x ≡ has_instructions (l1_of p k) x
  instructions x = by_core (λ l1. has_instructions l1 x) (changed_instructions line after (l1_of p core) x)

  same : (x : ℕ) → x ≢ line → SameAt p q x
  unfolding row_at bytes_at
  same x apart = record { row = refl; copies = by_core (λ l1. copy_at l1 x) (changed_other line after (l1_of p core) x apart); instructions = instructions x; bytes = λ _. refl }

  valid : (x : ℕ) → IsOwn p x → (k : ℕ) (c : Copy) → copy_of p k x ≡ Some c → is_valid c.letter ≡ true
  valid x own_x k c e = (copy_valid p are k x c own_x e)

  bytes_long : length copy.bytes ≡ line_bytes
  bytes_long = are.whole core line copy own here

  each : (P : (k : ℕ) (c : Copy) → Type 0) → P core after → ((k : ℕ) (c : Copy) → k ≢ core → copy_of p k line ≡ Some c → P k c) → (k : ℕ) (c : Copy) → copy_of q k line ≡ Some c → P k c
  each P mine others k c e =
      elim (cases_eq k core) as (λ _. P k c) [
        | inl z ↦
            let now : copy_of q core line ≡ Some c = subst (λ (j : ℕ). copy_of q j line ≡ Some c) z e in
            let both : Some after ≡ Some c = sym there ∙ now in
            let is : after ≡ c = cc in
            subst (λ (j : ℕ). P j c) (sym z) (subst (P core) is mine)
        | inr z ↦ others k c z (sym (ap (λ (l1 : L1State). copy_at l1 line) (other_now k z)) ∙ e)
      ]

  was : LineFits p line
  was = line_of_parts p are line own

  not_written : is_modified copy.letter ≡ false → is_write request ≡ false
  not_written m =
      elim (cases_Bool (is_write request)) as (λ _. is_write request ≡ false) [
        | inl w ↦ absurd (contrary (is_modified copy.letter) (written w) m)
        | inr w ↦ w
      ]

  line_fits : LineFits q line
  unfolding row_at bytes_at
  line_fits = record {
    memory = λ _. inside;
    holds = λ k. was.holds k ∙ ap is_valid (sym (letters k));
    alone_some = λ so. let has = was.alone_some so in (has.0, subst (λ (z : ℕ). has.0 < z) (sym long) has.1, ap is_alone (letters has.0) ∙ has.2);
    alone_none = λ not_so k. ap is_alone (letters k) ∙ was.alone_none not_so k;
    fetches = λ k. was.fetches k ∙ sym (instructions line k);
    whole = each (λ k c. length c.bytes ≡ line_bytes)
        (after_long request copy.bytes (place_in_line (addr_of request)) p.home.marks core (subst (λ (z : ℕ). place_in_line (addr_of request) + width_of request ≤ z) (sym bytes_long) fits_in) ∙ bytes_long)
        (λ k c apart e. was.whole k c e);
    clean = each (λ k c. is_modified c.letter ≡ false → c.bytes ≡ bytes_at q.home line)
        (λ m. after_read request copy.bytes (place_in_line (addr_of request)) p.home.marks core (not_written m) ∙ was.clean core copy here m)
        (λ k c apart e m. was.clean k c e m);
    free = each (λ k c. c.free ≡ true → (is_alone c.letter ≡ true) × (is_marked_by_others q.home.marks k line ≡ false))
        (λ free. both_true (is_alone copy.letter) (is_marked_by_others marks core line) free)
        (λ k c apart e free. absurd (contrary (is_alone c.letter) (was.free k c e free).0 (sym (ap (λ (o : Option Copy). is_alone (letter_of o)) e) ∙ others_shared p are line own core copy here k apart)));
  }

  fits : (x : ℕ) → IsOwn q x → LineFits q x
  unfolding row_at
  fits x own_x =
      elim (cases_eq x line) as (λ _. LineFits q x) [
        | inl z ↦ subst (λ (y : ℕ). LineFits q y) (sym z) line_fits
        | inr z ↦ carry p q x keeps (same x z) (λ k h. marks_apart k x core request p.home.marks z h) (line_of_parts p are x own_x) (valid x own_x) (λ t. (are.lines x t).1)
      ]

  answered_is : answered core request p ≡ q
  answered_is = ap (λ (o : Option Copy). option_map_or (λ copy. answered_with core line request copy p) o p) here

  seen_same : caches_seen q ≡ caches_seen p
  seen_same = ap caches_seen (sym answered_is) ∙ answered_seen core request p (fit_of p are) within own

  parts : AreParts q
  unfolding row_at
  parts = parts_of_lines p q are keeps (subst AreCoherent (sym seen_same) are.coherent) (subst HaveRoomForLines (sym seen_same) are.room) (λ x t. (are.lines x t).0) fits

  newest_line : newest_in line (bytes_at q.home line) q.l1s ≡ bytes_after (newest_in line (bytes_at p.home line) p.l1s) (place_in_line (addr_of request)) p.home.marks core request
  newest_line =
      newest_copy q parts line own core after there
      ∙ ap (λ (b : List ℕ). bytes_after b (place_in_line (addr_of request)) p.home.marks core request) (sym (newest_copy p are line own core copy here))

  newest_other : (x : ℕ) → IsInMemory p.home x → x ≢ line → newest_in x (bytes_at q.home x) q.l1s ≡ newest_in x (bytes_at p.home x) p.l1s
  newest_other x inside_x apart = newest_as p q x keeps (same x apart) inside_x

-- an access that changes the bytes of its line alone
pub record Accessed (p q : Bank) (core : ℕ) (request : Request) : Type 0 where
  pub keeps : KeepsBank p q
  pub parts : AreParts q
  pub marks : q.home.marks ≡ marks_after p.home.marks core request
  pub here : newest_in (line_of request) (bytes_at q.home (line_of request)) q.l1s
      ≡ bytes_after (newest_in (line_of request) (bytes_at p.home (line_of request)) p.l1s) (place_in_line (addr_of request)) p.home.marks core request
  pub others : (x : ℕ) → IsOwn p x → IsInMemory p.home x → x ≢ line_of request → newest_in x (bytes_at q.home x) q.l1s ≡ newest_in x (bytes_at p.home x) p.l1s

pub answered_accesses : (p : Bank) (are : AreParts p) (core : ℕ) (request : Request) → core < length p.l1s → IsOwn p (line_of request) → IsInMemory p.home (line_of request)
    → place_in_line (addr_of request) + width_of request ≤ line_bytes → (copy : Copy) → copy_of p core (line_of request) ≡ Some copy → (is_write request ≡ true → is_modified copy.letter ≡ true)
    → Accessed p (answered core request p) core request
answered_accesses p are core request within own inside fits_in copy here written =
    subst (λ (b : Bank). Accessed p b core request) (sym (answered_is p are core request within own inside fits_in copy here written))
    (record {
      keeps = keeps p are core request within own inside fits_in copy here written;
      parts = parts p are core request within own inside fits_in copy here written;
      marks = refl;
      here = newest_line p are core request within own inside fits_in copy here written;
      others = λ x own_x inside_x apart. newest_other p are core request within own inside fits_in copy here written x inside_x apart;
    })
