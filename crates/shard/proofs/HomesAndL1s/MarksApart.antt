-- Marks of other lines after an access, and of its own where no other core's mark stands on it.
use Rattle.std.proofs.Common.{◌≡◌, ◌≢◌, ℕ, zero, suc, ◌+◌, ◌<◌, ◌&&◌, ◌||◌, Bool, true, false, not, cond, List, [], ◌∷◌, length, get_or, set, Option, Some, None, refl, sym, ap, ◌∙◌, subst, arith, inl, inr}
use Rattle.std.specs.List.{enumerate_from, list_any}
use Rattle.std.specs.Prelude.{nat_eq}
use Rattle.std.proofs.lemmas.Bool.{cases_eq, cases_lt, eq-eqb, ne_eqb}
use Rattle.std.proofs.lemmas.List.{ext_get_or, get_or-map, get_or-set_other, get_or-set_same, get_or_past, length-map, length-set}
use Rattle.std.proofs.lemmas.List.FromFn.{get_or-enumerate_from, length-enumerate_from}
use Rattle.zs_num.specs.Request.{line_at, line_of}
use Rattle.zs_num.specs.declared.request.Request.{Request}
use Rattle.zs_num.specs.declared.request.Request.TheVariants.{Load, Store, Lr, Sc, Amo, Fetch}
use Rattle.flat_memory.specs.FlatMemory.{after_write, unless_written}
use Rattle.flat_memory.specs.declared.reservation.Reservation.{Reservation}
use Rattle.home.specs.HomeState.{is_marked_by_others, is_on_line}
use Rattle.shard.specs.Marks.{does_store, marks_after}

-- no other core's mark stands on the line
abbrev pub Unmarked : (k x : ℕ) → List (Option Reservation) → Type 0
Unmarked k x marks = (i : ℕ) → i ≢ k → is_on_line x (get_or marks i None) ≡ false

both_false : (a b : Bool) → (a || b) ≡ false → (a ≡ false) × (b ≡ false)
both_false true b h = absurd cc
both_false false b h = (refl, h)

each_from : (k x a : ℕ) (marks : List (Option Reservation)) → list_any (λ at. not (nat_eq at.0 k) && is_on_line x at.1) (enumerate_from a marks) ≡ false
    → (i : ℕ) → a + i ≢ k → is_on_line x (get_or marks i None) ≡ false
each_from k x a [] h i apart = refl
each_from k x a (m ∷ marks) h zero apart =
    let first = both_false (not (nat_eq a k) && is_on_line x m) (list_any (λ at. not (nat_eq at.0 k) && is_on_line x at.1) (enumerate_from (a + 1) marks)) h in
    let other : a ≢ k = λ e. apart (omega arith) in
    sym (ap (λ (b : Bool). not b && is_on_line x m) (ne_eqb a k other)) ∙ first.0
each_from k x a (m ∷ marks) h (suc i) apart =
    let first = both_false (not (nat_eq a k) && is_on_line x m) (list_any (λ at. not (nat_eq at.0 k) && is_on_line x at.1) (enumerate_from (a + 1) marks)) h in
    each_from k x (a + 1) marks first.1 i (λ e. apart (omega arith))

from_each : (k x a : ℕ) (marks : List (Option Reservation)) → ((i : ℕ) → a + i ≢ k → is_on_line x (get_or marks i None) ≡ false)
    → list_any (λ at. not (nat_eq at.0 k) && is_on_line x at.1) (enumerate_from a marks) ≡ false
from_each k x a [] h = refl
from_each k x a (m ∷ marks) h =
    let rest : list_any (λ at. not (nat_eq at.0 k) && is_on_line x at.1) (enumerate_from (a + 1) marks) ≡ false = from_each k x (a + 1) marks (λ i apart. h (suc i) (λ e. apart (omega arith))) in
    let head : (not (nat_eq a k) && is_on_line x m) ≡ false
    = elim (cases_eq a k) as (λ _. (not (nat_eq a k) && is_on_line x m) ≡ false) [
      | inl e ↦ ap (λ (b : Bool). not b && is_on_line x m) (eq-eqb a k e)
      | inr e ↦ ap (λ (b : Bool). not b && is_on_line x m) (ne_eqb a k e) ∙ h 0 (λ z. e (omega arith))
    ] in
    ap (λ (b : Bool). b || list_any (λ at. not (nat_eq at.0 k) && is_on_line x at.1) (enumerate_from (a + 1) marks)) head ∙ rest

pub unmarked_of : (k x : ℕ) (marks : List (Option Reservation)) → is_marked_by_others marks k x ≡ false → Unmarked k x marks
unfolding is_marked_by_others
unmarked_of k x marks h i apart = each_from k x 0 marks h i (λ e. apart (omega arith))

pub of_unmarked : (k x : ℕ) (marks : List (Option Reservation)) → Unmarked k x marks → is_marked_by_others marks k x ≡ false
unfolding is_marked_by_others
of_unmarked k x marks h = from_each k x 0 marks (λ i apart. h i (λ e. apart (omega arith)))

-- ---- after a write
written_at : (core addr : ℕ) (marks : List (Option Reservation)) (i : ℕ) → i < length marks → get_or (after_write core addr marks) i None ≡ unless_written (nat_eq i core) addr (get_or marks i None)
unfolding after_write
written_at core addr marks i within =
    let zero_i : 0 + i ≡ i = omega arith in
    get_or-map (λ (at : ℕ × Option Reservation). unless_written (nat_eq at.0 core) addr at.1) (enumerate_from 0 marks) i (0, None) None (omega (arith, length-enumerate_from 0 marks))
    ∙ ap (λ (at : ℕ × Option Reservation). unless_written (nat_eq at.0 core) addr at.1) (get_or-enumerate_from 0 marks i (0, None) within ∙ ap (λ (j : ℕ). (j, get_or marks i None)) zero_i)

written_long : (core addr : ℕ) (marks : List (Option Reservation)) → length (after_write core addr marks) ≡ length marks
unfolding after_write
written_long core addr marks = length-map (enumerate_from 0 marks) (λ (at : ℕ × Option Reservation). unless_written (nat_eq at.0 core) addr at.1) ∙ length-enumerate_from 0 marks

still_off : (b : Bool) (addr x : ℕ) (m : Option Reservation) → is_on_line x m ≡ false → is_on_line x (unless_written b addr m) ≡ false
still_off b addr x None h = refl
still_off b addr x (Some m) h =
    elim (not b && nat_eq (line_at m.addr) (line_at addr)) as (λ (c : Bool). is_on_line x (cond c None (Some m)) ≡ false) [ true ↦ refl | false ↦ h ]

write_keeps : (core addr k x : ℕ) (marks : List (Option Reservation)) → Unmarked k x marks → Unmarked k x (after_write core addr marks)
write_keeps core addr k x marks h i apart =
    elim (cases_lt i (length marks)) as (λ _. is_on_line x (get_or (after_write core addr marks) i None) ≡ false) [
      | inl l ↦ ap (is_on_line x) (written_at core addr marks i l) ∙ still_off (nat_eq i core) addr x (get_or marks i None) (h i apart)
      | inr past ↦ ap (is_on_line x) (get_or_past (after_write core addr marks) i None (omega (arith, written_long core addr marks)))
    ]

set_keeps : (core k x : ℕ) (marks : List (Option Reservation)) (m : Option Reservation) → is_on_line x m ≡ false → Unmarked k x marks → Unmarked k x (set marks core m)
set_keeps core k x marks m off h i apart =
    elim (cases_eq i core) as (λ _. is_on_line x (get_or (set marks core m) i None) ≡ false) [
      | inl e ↦
          elim (cases_lt i (length marks)) as (λ _. is_on_line x (get_or (set marks core m) i None) ≡ false) [
            | inl l ↦ subst (λ (j : ℕ). is_on_line x (get_or (set marks core m) j None) ≡ false) (sym e) (ap (is_on_line x) (get_or-set_same marks core m None (subst (λ (j : ℕ). j < length marks) e l)) ∙ off)
            | inr past ↦ ap (is_on_line x) (get_or_past (set marks core m) i None (omega (arith, length-set marks core m)))
          ]
      | inr e ↦ ap (is_on_line x) (get_or-set_other marks core i m None e) ∙ h i apart
    ]

either_keeps : (b : Bool) (k x : ℕ) (a c : List (Option Reservation)) → Unmarked k x a → Unmarked k x c → Unmarked k x (cond b a c)
either_keeps true k x a c h g = h
either_keeps false k x a c h g = g

pub marks_keep : (k x core : ℕ) (request : Request) (marks : List (Option Reservation)) → x ≢ line_of request → Unmarked k x marks → Unmarked k x (marks_after marks core request)
unfolding marks_after
marks_keep k x core (Load width addr) marks apart h = h
marks_keep k x core (Store width addr value) marks apart h = write_keeps core addr k x marks h
marks_keep k x core (Lr width addr) marks apart h =
    set_keeps core k x marks (Some (record { addr = addr; width = width })) (ne_eqb (line_at addr) x (λ e. apart (sym e))) h
marks_keep k x core (Sc width paired addr value) marks apart h =
    let stores : Bool = does_store marks core addr width paired in
    set_keeps core k x (cond stores (after_write core addr marks) marks) None refl (either_keeps stores k x (after_write core addr marks) marks (write_keeps core addr k x marks h) h)
marks_keep k x core (Amo width op addr value) marks apart h = write_keeps core addr k x marks h
marks_keep k x core (Fetch addr) marks apart h = h

pub marks_apart : (k x core : ℕ) (request : Request) (marks : List (Option Reservation)) → x ≢ line_of request → is_marked_by_others marks k x ≡ false → is_marked_by_others (marks_after marks core request) k x ≡ false
marks_apart k x core request marks apart h = of_unmarked k x (marks_after marks core request) (marks_keep k x core request marks apart (unmarked_of k x marks h))

pub marks_long : (core : ℕ) (request : Request) (marks : List (Option Reservation)) → length (marks_after marks core request) ≡ length marks
unfolding marks_after
marks_long core (Load width addr) marks = refl
marks_long core (Store width addr value) marks = written_long core addr marks
marks_long core (Lr width addr) marks = length-set marks core (Some (record { addr = addr; width = width }))
marks_long core (Sc width paired addr value) marks =
    let stores : Bool = does_store marks core addr width paired in
    length-set (cond stores (after_write core addr marks) marks) core None
    ∙ elim stores as (λ b. length (cond b (after_write core addr marks) marks) ≡ length marks) [ true ↦ written_long core addr marks | false ↦ refl ]
marks_long core (Amo width op addr value) marks = written_long core addr marks
marks_long core (Fetch addr) marks = refl

-- ---- a write to a line on which no other core's mark stands
unwritten : (b : Bool) (addr : ℕ) (m : Option Reservation) → (b ≡ false → is_on_line (line_at addr) m ≡ false) → unless_written b addr m ≡ m
unwritten b addr None h = refl
unwritten true addr (Some m) h = refl
unwritten false addr (Some m) h = ap (λ (c : Bool). cond c None (Some m)) (h refl)

pub write_stays : (core addr : ℕ) (marks : List (Option Reservation)) → is_marked_by_others marks core (line_at addr) ≡ false → after_write core addr marks ≡ marks
write_stays core addr marks h =
    ext_get_or None (after_write core addr marks) marks (written_long core addr marks)
    (λ i inside. written_at core addr marks i (omega (arith, written_long core addr marks))
    ∙ unwritten (nat_eq i core) addr (get_or marks i None)
    (λ other. unmarked_of core (line_at addr) marks h i (λ e. let bad : true ≡ false = sym (eq-eqb i core e) ∙ other in cc)))
