-- Marks by shard and one reservation for each core say the same after an access, if they did before.
use Rattle.std.proofs.Common.{◌≡◌, ◌≢◌, ℕ, zero, suc, ◌+◌, ◌-◌, ◌/◌, ◌%◌, ◌<◌, ◌≤◌, Bool, true, false, cond, eqb, List, [], ◌∷◌, length, get_or, map, set, Option, Some, None, refl, sym, ap, ◌∙◌, subst, arith, inl, inr}
use Rattle.std.specs.List.{All, enumerate_from, range_with_len}
use Rattle.std.proofs.lemmas.Bool.{eqb-true, eq-eqb, ne_eqb, cases_eq, and_parts}
use Rattle.std.proofs.lemmas.List.{get_or-map, get_or-set_same, get_or-set_other, length-set}
use Rattle.std.proofs.lemmas.List.Elements.{All-set, All-head, All-tail}
use Rattle.std.proofs.lemmas.List.FromFn.{get_or-enumerate_from, length-enumerate_from, get_or-map-range_with_len}
use Rattle.zs_num.specs.PairedRight.{AreAllPairedRight, IsPairedRight, pairing_of, pairings_after, pairings_after_all}
use Rattle.zs_num.specs.Pairing.{is_paired, pairing_after}
use Rattle.zs_num.specs.Request.{addr_of, line_at, bank_of_line, bank_of}
use Rattle.zs_num.specs.declared.pairing.Pairing.{Pairing}
use Rattle.zs_num.specs.declared.request.Request.{Request}
use Rattle.zs_num.specs.declared.request.Request.TheVariants.{Load, Store, Lr, Sc, Amo, Fetch}
use Rattle.rv_alu.specs.Atomic.{new_number}
use Rattle.flat_memory.specs.declared.reservation.Reservation.{Reservation}
use Rattle.flat_memory.specs.FlatMemory as flat
use Rattle.shard.specs.Marks.{MarkedMemory, bytes_after, does_store, marked_after, marked_reply, marks_after, marks_for, reply_from}
use Rattle.shard.specs.Laws.{marked_replies, marked_after_all, flat_replies, flat_after_all}
use Rattle.shard.specs.StandsFor.{flat_for, mark_at, reserved_by}
use Rattle.shard.proofs.Kept.{length-marks_after}

abbrev Reserved : Type 0
Reserved = Option Reservation

abbrev Paired : Type 0
Paired = Option Pairing

-- the bytes of a pairing, as they can be reserved
abbrev bytes_of : Pairing → Reservation
bytes_of p = record { addr = p.addr; width = p.width }

-- ---- lists of what a function gives at each number
module _ {X : Type 0} where
  same_at_all : (f g : ℕ → X) (a n : ℕ) → ((i : ℕ) → a ≤ i → i < a + n → f i ≡ g i) → map f (range_with_len a n) ≡ map g (range_with_len a n)
  same_at_all f g a zero h = refl
  same_at_all f g a (suc n) h =
      let head : f a ≡ g a = h a (omega arith) (omega arith) in
      let tail : map f (range_with_len (a + 1) n) ≡ map g (range_with_len (a + 1) n) = same_at_all f g (a + 1) n (λ i low high. h i (omega arith) (omega arith)) in
      rw (head, tail) refl

  numbered : (f : ℕ → X) (a n : ℕ) → enumerate_from a (map f (range_with_len a n)) ≡ map (λ i. (i, f i)) (range_with_len a n)
  numbered f a zero = refl
  numbered f a (suc n) = ap (λ (es : List (ℕ × X)). (a, f a) ∷ es) (numbered f (a + 1) n)

  one_set : (f : ℕ → X) (v : X) (core a n k : ℕ) → core ≡ a + k → k < n → set (map f (range_with_len a n)) k v ≡ map (λ i. cond (eqb i core) v (f i)) (range_with_len a n)
  one_set f v core a zero k e l = absurd (omega arith)
  one_set f v core a (suc n) zero e l =
      let here : eqb a core ≡ true = eq-eqb a core (omega arith) in
      let tail : map f (range_with_len (a + 1) n) ≡ map (λ i. cond (eqb i core) v (f i)) (range_with_len (a + 1) n)
      = same_at_all f (λ i. cond (eqb i core) v (f i)) (a + 1) n (λ i low high. rw (ne_eqb i core (λ s. omega arith)) refl) in
      rw (here, tail) refl
  one_set f v core a (suc n) (suc k) e l =
      let here : eqb a core ≡ false = ne_eqb a core (λ s. omega arith) in
      rw (here, one_set f v core (a + 1) n k (omega arith) (omega arith)) refl

mapped_twice : {X Y : Type 0} (g : ℕ × X → Y) (f : ℕ → X) (a n : ℕ) → map g (map (λ i. (i, f i)) (range_with_len a n)) ≡ map (λ i. g (i, f i)) (range_with_len a n)
mapped_twice g f a zero = refl
mapped_twice {Y = Y} g f a (suc n) = ap (λ (ys : List Y). g (a, f a) ∷ ys) (mapped_twice g f (a + 1) n)

-- ---- one core
abbrev kept_if : Bool → Reservation → Reserved
kept_if b q = cond b (Some q) None

same_line : (r q : Reservation) → flat.is_reservation (Some r) q.addr q.width ≡ true → r.addr ≡ q.addr
same_line r q h = eqb-true r.addr q.addr (and_parts (eqb r.addr q.addr) (eqb r.width q.width) h).0

own_stays : (addr : ℕ) (r : Reserved) → flat.unless_written true addr r ≡ r
own_stays addr None = refl
own_stays addr (Some r) = refl

-- a line that is not written to
apart_stays : (b : Bool) (addr : ℕ) (q : Reservation) (kept : Bool) → q.addr / 64 ≢ addr / 64 → flat.unless_written b addr (kept_if kept q) ≡ kept_if kept q
apart_stays true addr q kept h = own_stays addr (kept_if kept q)
apart_stays false addr q true h = rw (ne_eqb (q.addr / 64) (addr / 64) h) refl
apart_stays false addr q false h = refl

-- another core writes to the shard of a mark
other_written : (addr : ℕ) (r q : Reservation) (b : Bool) → eqb (r.addr / 64) (addr / 64) ≡ b → (is : Bool) → flat.is_reservation (Some r) q.addr q.width ≡ is
    → kept_if (flat.is_reservation (cond b None (Some r)) q.addr q.width) q ≡ flat.unless_written false addr (kept_if is q)
other_written addr r q true line true is =
    let here : eqb (q.addr / 64) (addr / 64) ≡ true = subst (λ (x : ℕ). eqb (x / 64) (addr / 64) ≡ true) (same_line r q is) line in
    rw here refl
other_written addr r q false line true is =
    let here : eqb (q.addr / 64) (addr / 64) ≡ false = subst (λ (x : ℕ). eqb (x / 64) (addr / 64) ≡ false) (same_line r q is) line in
    rw (is, here) refl
other_written addr r q true line false is = refl
other_written addr r q false line false is = rw is refl

-- a mark in the shard that is written to
mark_written : (b : Bool) (addr : ℕ) (mark : Reserved) (q : Reservation)
    → kept_if (flat.is_reservation (flat.unless_written b addr mark) q.addr q.width) q ≡ flat.unless_written b addr (kept_if (flat.is_reservation mark q.addr q.width) q)
mark_written true addr mark q = rw (own_stays addr mark) (sym (own_stays addr (kept_if (flat.is_reservation mark q.addr q.width) q)))
mark_written false addr None q = refl
mark_written false addr (Some r) q = other_written addr r q (eqb (r.addr / 64) (addr / 64)) refl (flat.is_reservation (Some r) q.addr q.width) refl

-- ---- marks of all shards
pub record AreMarks (m : MarkedMemory) (cores : ℕ) : Type 0 where
  pub some : 0 < length m.marks
  pub each : All (λ marks. length marks ≡ cores) m.marks

module _ (m : MarkedMemory) (cores : ℕ) (are : AreMarks m cores) (core : ℕ) (request : Request) where
  shard_within : bank_of (length m.marks) request < length m.marks
  shard_within = omega (arith, are.some)

  here_length : length (marks_for m request) ≡ cores
  here_length = are.each (bank_of (length m.marks) request) [] shard_within

  pub marks_stay : AreMarks (marked_after m core request) cores
  marks_stay = record {
    some = omega (arith, are.some, length-set m.marks (bank_of (length m.marks) request) (marks_after (marks_for m request) core request));
    each = All-set (λ marks. length marks ≡ cores) m.marks (bank_of (length m.marks) request) (marks_after (marks_for m request) core request) (length-marks_after (marks_for m request) core request ∙ here_length) are.each;
  }

  -- the mark in the shard of an address after the access
  mark_here : (k addr : ℕ) → bank_of_line (length m.marks) (line_at addr) ≡ bank_of (length m.marks) request → mark_at (marked_after m core request) k addr ≡ get_or (marks_after (marks_for m request) core request) k None
  mark_here k addr e =
      rw (length-set m.marks (bank_of (length m.marks) request) (marks_after (marks_for m request) core request), e, get_or-set_same m.marks (bank_of (length m.marks) request) (marks_after (marks_for m request) core request) [] shard_within) refl

  mark_there : (k addr : ℕ) → (bank_of_line (length m.marks) (line_at addr) ≡ bank_of (length m.marks) request → ⊥) → mark_at (marked_after m core request) k addr ≡ mark_at m k addr
  mark_there k addr e =
      rw (length-set m.marks (bank_of (length m.marks) request) (marks_after (marks_for m request) core request), get_or-set_other m.marks (bank_of (length m.marks) request) (bank_of_line (length m.marks) (line_at addr)) (marks_after (marks_for m request) core request) [] e) refl

  mark_before : (k addr : ℕ) → bank_of_line (length m.marks) (line_at addr) ≡ bank_of (length m.marks) request → mark_at m k addr ≡ get_or (marks_for m request) k None
  mark_before k addr e = rw e refl

  -- a core whose mark in the shard stays has reserved what it had
  pub reserved_stays : (k : ℕ) → get_or (marks_after (marks_for m request) core request) k None ≡ get_or (marks_for m request) k None → (p : Paired) → reserved_by (marked_after m core request) k p ≡ reserved_by m k p
  reserved_stays k h None = refl
  reserved_stays k h (Some q) =
      elim (cases_eq (bank_of_line (length m.marks) (line_at q.addr)) (bank_of (length m.marks) request)) as (λ _. kept_if (flat.is_reservation (mark_at (marked_after m core request) k q.addr) q.addr q.width) (bytes_of q) ≡ kept_if (flat.is_reservation (mark_at m k q.addr) q.addr q.width) (bytes_of q)) [
        | inl e ↦ rw (mark_here k q.addr e, h, mark_before k q.addr e) refl
        | inr e ↦ rw (mark_there k q.addr e) refl
      ]

  -- what a core has reserved where the shard was written to
  pub reserved_written : (k : ℕ) → get_or (marks_after (marks_for m request) core request) k None ≡ flat.unless_written (eqb k core) (addr_of request) (get_or (marks_for m request) k None) → (p : Paired) → reserved_by (marked_after m core request) k p ≡ flat.unless_written (eqb k core) (addr_of request) (reserved_by m k p)
  reserved_written k h None = refl
  reserved_written k h (Some q) =
      elim (cases_eq (bank_of_line (length m.marks) (line_at q.addr)) (bank_of (length m.marks) request)) as (λ _. kept_if (flat.is_reservation (mark_at (marked_after m core request) k q.addr) q.addr q.width) (bytes_of q) ≡ flat.unless_written (eqb k core) (addr_of request) (kept_if (flat.is_reservation (mark_at m k q.addr) q.addr q.width) (bytes_of q))) [
        | inl e ↦ rw (mark_here k q.addr e, h, mark_before k q.addr e) (mark_written (eqb k core) (addr_of request) (get_or (marks_for m request) k None) (bytes_of q))
        | inr e ↦ rw (mark_there k q.addr e) (sym (apart_stays (eqb k core) (addr_of request) (bytes_of q) (flat.is_reservation (mark_at m k q.addr) q.addr q.width) (λ l. e (ap (λ (x : ℕ). x % length m.marks) l))))
      ]

-- ---- the marks of one shard after a write
pub written_at : (core addr : ℕ) (marks : List Reserved) (k : ℕ) → k < length marks → get_or (flat.after_write core addr marks) k None ≡ flat.unless_written (eqb k core) addr (get_or marks k None)
unfolding flat.after_write
written_at core addr marks k l =
    let enumerated : length (enumerate_from 0 marks) ≡ length marks = length-enumerate_from 0 marks in
    let at : get_or (enumerate_from 0 marks) k (0, None) ≡ (0 + k, get_or marks k None) = get_or-enumerate_from 0 marks k (0, None) l in
    let zero_k : 0 + k ≡ k = omega arith in
    get_or-map (λ (at : ℕ × Reserved). flat.unless_written (eqb at.0 core) addr at.1) (enumerate_from 0 marks) k (0, None) None (omega (arith, enumerated)) ∙ rw (at, zero_k) refl

-- ---- flat memory
abbrev all_of : MarkedMemory → (pairings : List Paired) → List Reserved
all_of m pairings = map (λ k. reserved_by m k (pairing_of pairings k)) (range_with_len 0 (length pairings))

flat_at : (m : MarkedMemory) (pairings : List Paired) (k : ℕ) → k < length pairings → get_or (all_of m pairings) k None ≡ reserved_by m k (pairing_of pairings k)
flat_at m pairings k l = get_or-map-range_with_len (λ k. reserved_by m k (pairing_of pairings k)) 0 (length pairings) k k None l (omega arith)

flat_written : (f : ℕ → Reserved) (core addr n : ℕ) → flat.after_write core addr (map f (range_with_len 0 n)) ≡ map (λ k. flat.unless_written (eqb k core) addr (f k)) (range_with_len 0 n)
unfolding flat.after_write
flat_written f core addr n =
    rw (numbered f 0 n) (mapped_twice (λ (at : ℕ × Reserved). flat.unless_written (eqb at.0 core) addr at.1) f 0 n)

flat_set : (f : ℕ → Reserved) (v : Reserved) (core n : ℕ) → core < n → set (map f (range_with_len 0 n)) core v ≡ map (λ k. cond (eqb k core) v (f k)) (range_with_len 0 n)
flat_set f v core n l = one_set f v core 0 n core (omega arith) l

module _ (m : MarkedMemory) (pairings : List Paired) (are : AreMarks m (length pairings)) (core : ℕ) (within : core < length pairings) where
  abbrev R : ℕ → Reserved
  R k = reserved_by m k (pairing_of pairings k)

  -- the pairings after an access, of which this is the core's own
  paired_at : (v : Paired) (k : ℕ) → pairing_of (set pairings core v) k ≡ cond (eqb k core) v (pairing_of pairings k)
  paired_at v k =
      elim (cases_eq k core) as (λ _. get_or (set pairings core v) k None ≡ cond (eqb k core) v (get_or pairings k None)) [
        | inl e ↦ rw (eq-eqb k core e, e) (get_or-set_same pairings core v None within)
        | inr e ↦ rw (ne_eqb k core e) (get_or-set_other pairings core k v None e)
      ]

  same_pairing : (k : ℕ) → cond (eqb k core) (pairing_of pairings core) (pairing_of pairings k) ≡ pairing_of pairings k
  same_pairing k =
      elim (cases_eq k core) as (λ _. cond (eqb k core) (pairing_of pairings core) (pairing_of pairings k) ≡ pairing_of pairings k) [
        | inl e ↦ rw (eq-eqb k core e) (ap (λ (x : ℕ). pairing_of pairings x) (sym e))
        | inr e ↦ rw (ne_eqb k core e) refl
      ]

  -- the reservations after an access, from those of each core
  from_each : (request : Request) (v : Paired) (g : ℕ → Reserved) → ((k : ℕ) → k < length pairings → reserved_by (marked_after m core request) k (cond (eqb k core) v (pairing_of pairings k)) ≡ g k)
      → all_of (marked_after m core request) (set pairings core v) ≡ map g (range_with_len 0 (length pairings))
  from_each request v g h =
      rw (length-set pairings core v)
      (same_at_all (λ k. reserved_by (marked_after m core request) k (pairing_of (set pairings core v) k)) g 0 (length pairings)
      (λ k low high. rw (paired_at v k) (h k (omega arith))))

  abbrev memory_of : (bytes : List ℕ) → List Reserved → flat.MemoryState
  memory_of bytes reservations = record { base = m.base; bytes = bytes; reservations = reservations }

  state_from : (bytes : List ℕ) (r s : List Reserved) → r ≡ s → memory_of bytes r ≡ memory_of bytes s
  state_from bytes r s e = ap (λ (x : List Reserved). memory_of bytes x) e

  after_load : (addr width : ℕ) → all_of (marked_after m core (Load width addr)) (set pairings core (pairing_of pairings core)) ≡ all_of m pairings
  unfolding marks_after
  after_load addr width =
      from_each (Load width addr) (pairing_of pairings core) R (λ k l. rw (same_pairing k) (reserved_stays m (length pairings) are core (Load width addr) k refl (pairing_of pairings k)))

  after_fetch : (addr : ℕ) → all_of (marked_after m core (Fetch addr)) (set pairings core (pairing_of pairings core)) ≡ all_of m pairings
  unfolding marks_after
  after_fetch addr =
      from_each (Fetch addr) (pairing_of pairings core) R (λ k l. rw (same_pairing k) (reserved_stays m (length pairings) are core (Fetch addr) k refl (pairing_of pairings k)))

  after_store : (addr width value : ℕ) → all_of (marked_after m core (Store width addr value)) (set pairings core (pairing_of pairings core)) ≡ flat.after_write core addr (all_of m pairings)
  unfolding marks_after
  after_store addr width value =
      from_each (Store width addr value) (pairing_of pairings core) (λ k. flat.unless_written (eqb k core) addr (R k))
      (λ k l. rw (same_pairing k) (reserved_written m (length pairings) are core (Store width addr value) k (written_at core addr (marks_for m (Store width addr value)) k (omega (arith, here_length m (length pairings) are core (Store width addr value)))) (pairing_of pairings k)))
      ∙ sym (flat_written R core addr (length pairings))

  after_amo : (op : _) (addr width value : ℕ) → all_of (marked_after m core (Amo width op addr value)) (set pairings core (pairing_of pairings core)) ≡ flat.after_write core addr (all_of m pairings)
  unfolding marks_after
  after_amo op addr width value =
      from_each (Amo width op addr value) (pairing_of pairings core) (λ k. flat.unless_written (eqb k core) addr (R k))
      (λ k l. rw (same_pairing k) (reserved_written m (length pairings) are core (Amo width op addr value) k (written_at core addr (marks_for m (Amo width op addr value)) k (omega (arith, here_length m (length pairings) are core (Amo width op addr value)))) (pairing_of pairings k)))
      ∙ sym (flat_written R core addr (length pairings))

  -- a load-reserved: the core's own mark and pairing are of the same bytes
  own_reserved : (addr width : ℕ) → reserved_by (marked_after m core (Lr width addr)) core (Some (record { addr = addr; width = width })) ≡ Some (record { addr = addr; width = width })
  unfolding marks_after
  own_reserved addr width =
      let q : Reservation = record { addr = addr; width = width } in
      let l : core < length (marks_for m (Lr width addr)) = omega (arith, here_length m (length pairings) are core (Lr width addr)) in
      rw (mark_here m (length pairings) are core (Lr width addr) core addr refl, get_or-set_same (marks_for m (Lr width addr)) core (Some q) None l, eq-eqb addr addr refl, eq-eqb width width refl) refl

  after_lr : (addr width : ℕ) → all_of (marked_after m core (Lr width addr)) (set pairings core (Some (record { addr = addr; width = width }))) ≡ set (all_of m pairings) core (Some (record { addr = addr; width = width }))
  unfolding marks_after
  after_lr addr width =
      let p : Pairing = record { addr = addr; width = width } in
      let q : Reservation = record { addr = addr; width = width } in
      from_each (Lr width addr) (Some p) (λ k. cond (eqb k core) (Some q) (R k))
      (λ k l. elim (cases_eq k core) as (λ _. reserved_by (marked_after m core (Lr width addr)) k (cond (eqb k core) (Some p) (pairing_of pairings k)) ≡ cond (eqb k core) (Some q) (R k)) [
        | inl e ↦ rw (eq-eqb k core e, e) (own_reserved addr width)
        | inr e ↦ rw (ne_eqb k core e) (reserved_stays m (length pairings) are core (Lr width addr) k (get_or-set_other (marks_for m (Lr width addr)) core k (Some q) None e) (pairing_of pairings k))
      ])
      ∙ sym (flat_set R (Some q) core (length pairings) within)

  -- a store-conditional, which stores or does not
  module _ (addr width value : ℕ) (paired : Bool) where
    abbrev sc : Request
    sc = Sc width paired addr value

    other_mark : (b : Bool) → does_store (marks_for m sc) core addr width paired ≡ b → (k : ℕ) → (k ≡ core → ⊥) → get_or (marks_after (marks_for m sc) core sc) k None ≡ get_or (cond b (flat.after_write core addr (marks_for m sc)) (marks_for m sc)) k None
    unfolding marks_after
    other_mark b e k apart = rw e (get_or-set_other (cond b (flat.after_write core addr (marks_for m sc)) (marks_for m sc)) core k None None apart)

    abbrev left : Bool → ℕ → Reserved
    left b k = cond b (flat.unless_written (eqb k core) addr (R k)) (R k)

    other_left : (b : Bool) → does_store (marks_for m sc) core addr width paired ≡ b → (k : ℕ) → k < length pairings → (k ≡ core → ⊥) → reserved_by (marked_after m core sc) k (pairing_of pairings k) ≡ left b k
    other_left true e k l apart =
        reserved_written m (length pairings) are core sc k
        (other_mark true e k apart ∙ written_at core addr (marks_for m sc) k (omega (arith, here_length m (length pairings) are core sc)))
        (pairing_of pairings k)
    other_left false e k l apart = reserved_stays m (length pairings) are core sc k (other_mark false e k apart) (pairing_of pairings k)

    flat_left : (b : Bool) → set (cond b (flat.after_write core addr (all_of m pairings)) (all_of m pairings)) core None ≡ set (map (left b) (range_with_len 0 (length pairings))) core None
    flat_left true = ap (λ (x : List Reserved). set x core None) (flat_written R core addr (length pairings))
    flat_left false = refl

    after_sc : (b : Bool) → does_store (marks_for m sc) core addr width paired ≡ b → all_of (marked_after m core sc) (set pairings core None) ≡ set (cond b (flat.after_write core addr (all_of m pairings)) (all_of m pairings)) core None
    after_sc b e =
        from_each sc None (λ k. cond (eqb k core) None (left b k))
        (λ k l. elim (cases_eq k core) as (λ _. reserved_by (marked_after m core sc) k (cond (eqb k core) None (pairing_of pairings k)) ≡ cond (eqb k core) None (left b k)) [
          | inl same ↦ rw (eq-eqb k core same) refl
          | inr apart ↦ subst (λ (t : Bool). reserved_by (marked_after m core sc) k (cond t None (pairing_of pairings k)) ≡ cond t None (left b k)) (sym (ne_eqb k core apart)) (other_left b e k l apart)
        ])
        ∙ sym (flat_left b ∙ flat_set (left b) None core (length pairings) within)

    -- a mark of these bytes, and a pairing of them
    kept_same : (q : Reservation) (b : Bool) → b ≡ flat.is_reservation (kept_if b q) q.addr q.width
    kept_same q true = rw (eq-eqb q.addr q.addr refl, eq-eqb q.width q.width refl) refl
    kept_same q false = refl

    kept_alike : (q : Reservation) → q.addr ≡ addr → q.width ≡ width → (mark : Reserved) → flat.is_reservation mark addr width ≡ flat.is_reservation (kept_if (flat.is_reservation mark q.addr q.width) q) addr width
    kept_alike q a w mark =
        subst (λ (x : ℕ). flat.is_reservation mark x width ≡ flat.is_reservation (kept_if (flat.is_reservation mark q.addr q.width) q) x width) a
        (subst (λ (y : ℕ). flat.is_reservation mark q.addr y ≡ flat.is_reservation (kept_if (flat.is_reservation mark q.addr q.width) q) q.addr y) w
        (kept_same q (flat.is_reservation mark q.addr q.width)))

    -- a pairing of other bytes
    never_alike : (q : Reservation) → flat.is_reservation (Some q) addr width ≡ false → (kept : Bool) → flat.is_reservation (kept_if kept q) addr width ≡ false
    never_alike q h true = h
    never_alike q h false = refl

    alike : (q : Pairing) (b : Bool) → is_paired (Some q) addr width ≡ b → paired ≡ b → does_store (marks_for m sc) core addr width paired ≡ flat.is_reservation (reserved_by m core (Some q)) addr width
    alike q false is h = rw h (sym (never_alike (bytes_of q) is (flat.is_reservation (mark_at m core q.addr) q.addr q.width)))
    alike q true is h =
        let both = and_parts (eqb q.addr addr) (eqb q.width width) is in
        let a : q.addr ≡ addr = eqb-true q.addr addr both.0 in
        let w : q.width ≡ width = eqb-true q.width width both.1 in
        let here : mark_at m core q.addr ≡ get_or (marks_for m sc) core None = ap (λ (x : ℕ). mark_at m core x) a in
        rw h (kept_alike (bytes_of q) a w (get_or (marks_for m sc) core None) ∙ ap (λ (x : Reserved). flat.is_reservation (kept_if (flat.is_reservation x q.addr q.width) (bytes_of q)) addr width) (sym here))

    -- it stores exactly where the core has reserved the bytes
    stores_alike : (p : Paired) → pairing_of pairings core ≡ p → paired ≡ is_paired p addr width → does_store (marks_for m sc) core addr width paired ≡ flat.is_reservation (reserved_by m core p) addr width
    stores_alike None e h = rw h refl
    stores_alike (Some q) e h = alike q (is_paired (Some q) addr width) refl h

  -- ---- one access
  step_reply : (request : Request) → IsPairedRight (pairing_of pairings core) request → marked_reply m core request ≡ flat.memory_reply (flat_for m pairings) core request
  unfolding reply_from flat.is_reserved
  step_reply (Load width addr) h = refl
  step_reply (Store width addr value) h = refl
  step_reply (Lr width addr) h = refl
  step_reply (Sc width paired addr value) h =
      let e = stores_alike addr width value paired (pairing_of pairings core) refl h in
      rw (e, flat_at m pairings core within) refl
  step_reply (Amo width op addr value) h = refl
  step_reply (Fetch addr) h = refl

  sc_state : (addr width value : ℕ) (paired : Bool) (b : Bool) → does_store (marks_for m (Sc width paired addr value)) core addr width paired ≡ b → flat_for (marked_after m core (Sc width paired addr value)) (set pairings core None) ≡ cond b (flat.reserving (flat.written (flat_for m pairings) core addr width value) core None) (flat.reserving (flat_for m pairings) core None)
  unfolding bytes_after flat.written
  sc_state addr width value paired true e = rw (e, after_sc addr width value paired true e) refl
  sc_state addr width value paired false e = rw (e, after_sc addr width value paired false e) refl

  pub step_after : (request : Request) → IsPairedRight (pairing_of pairings core) request → flat_for (marked_after m core request) (pairings_after pairings core request) ≡ flat.memory_after (flat_for m pairings) core request
  unfolding bytes_after flat.written flat.is_reserved
  step_after (Load width addr) h = state_from m.bytes _ _ (after_load addr width)
  step_after (Store width addr value) h = state_from (flat.with_number m.bytes (addr - m.base) width value) _ _ (after_store addr width value)
  step_after (Lr width addr) h = state_from m.bytes _ _ (after_lr addr width)
  step_after (Sc width paired addr value) h =
      let e = stores_alike addr width value paired (pairing_of pairings core) refl h in
      let same : does_store (marks_for m (Sc width paired addr value)) core addr width paired ≡ flat.is_reservation (get_or (all_of m pairings) core None) addr width = rw (flat_at m pairings core within) e in
      sc_state addr width value paired (flat.is_reservation (get_or (all_of m pairings) core None) addr width) same
  step_after (Amo width op addr value) h = state_from (flat.with_number m.bytes (addr - m.base) width (new_number op width (flat.number_in m.bytes (addr - m.base) width) value)) _ _ (after_amo op addr width value)
  step_after (Fetch addr) h = state_from m.bytes _ _ (after_fetch addr)

-- ---- lists of accesses
all_steps : (accesses : List (ℕ × Request)) (m : MarkedMemory) (pairings : List Paired) → AreMarks m (length pairings) → All (λ access. access.0 < length pairings) accesses → AreAllPairedRight pairings accesses
    → (marked_replies m accesses ≡ flat_replies (flat_for m pairings) accesses)
    × (flat_for (marked_after_all m accesses) (pairings_after_all pairings accesses) ≡ flat_after_all (flat_for m pairings) accesses)
all_steps [] m pairings are cores right = (refl, refl)
all_steps (access ∷ accesses) m pairings are cores right =
    let P : ℕ × Request → Type 0 = λ a. a.0 < length pairings in
    let within : access.0 < length pairings = All-head P access accesses cores in
    let reply = step_reply m pairings are access.0 within access.1 right.0 in
    let state = step_after m pairings are access.0 within access.1 right.0 in
    let longer : length (pairings_after pairings access.0 access.1) ≡ length pairings = length-set pairings access.0 (pairing_after (pairing_of pairings access.0) access.1) in
    let rest = all_steps accesses (marked_after m access.0 access.1) (pairings_after pairings access.0 access.1)
    (subst (λ (n : ℕ). AreMarks (marked_after m access.0 access.1) n) (sym longer) (marks_stay m (length pairings) are access.0 access.1))
    (subst (λ (n : ℕ). All (λ (a : ℕ × Request). a.0 < n) accesses) (sym longer) (All-tail P access accesses cores))
    right.1 in
    let replies : flat_replies (flat_for (marked_after m access.0 access.1) (pairings_after pairings access.0 access.1)) accesses ≡ flat_replies (flat.memory_after (flat_for m pairings) access.0 access.1) accesses = ap (λ (memory : flat.MemoryState). flat_replies memory accesses) state in
    let states : flat_after_all (flat_for (marked_after m access.0 access.1) (pairings_after pairings access.0 access.1)) accesses ≡ flat_after_all (flat.memory_after (flat_for m pairings) access.0 access.1) accesses = ap (λ (memory : flat.MemoryState). flat_after_all memory accesses) state in
    (rw (reply, rest.0 ∙ replies) refl, rest.1 ∙ states)

pub marks_are_reservations : (memory : MarkedMemory) (pairings : List Paired) (accesses : List (ℕ × Request))
    → 0 < length memory.marks → All (λ marks. length marks ≡ length pairings) memory.marks → All (λ access. access.0 < length pairings) accesses
    → AreAllPairedRight pairings accesses
    → (marked_replies memory accesses ≡ flat_replies (flat_for memory pairings) accesses)
    × (flat_for (marked_after_all memory accesses) (pairings_after_all pairings accesses) ≡ flat_after_all (flat_for memory pairings) accesses)
marks_are_reservations memory pairings accesses some each cores right =
    all_steps accesses memory pairings (record { some = some; each = each }) cores right
