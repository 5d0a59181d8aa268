-- The steps of an access in code are the steps of a bank.
use Rattle.std.proofs.Common.{◌≡◌, ℕ, ◌+◌, ◌<◌, ◌++◌, ◌||◌, Bool, true, false, cond, List, [], ◌∷◌, length, get_or, set, take, drop, Option, Some, None, refl, sym, ap, ap₂, ◌∙◌, subst, arith}
use Rattle.std.specs.List.{All}
use Rattle.std.specs.Option.{option_map_or}
use Rattle.std.specs.Prelude.{IfSome, IsSome, ◌&&◌, not, option_map}
use Rattle.zs_num.specs.Request.{addr_of, line_of}
use Rattle.zs_num.specs.declared.request.Request.{Request}
use Rattle.flat_memory.specs.declared.reservation.Reservation.{Reservation}
use Rattle.home.specs.Rows.{evicted_in}
use Rattle.home.specs.declared.row.Row.{Row}
use Rattle.shard.specs.Marks.{bytes_after, marks_after}
use Rattle.shard.specs.SharedStep.{answered, answered_with, bytes_of, dirty_by, shared_by_others}
use Rattle.std.proofs.lemmas.List.{get_or_default, length-append, length-drop, length-take-le}
use Rattle.std.proofs.lemmas.List.Elements.{All-head, All-tail}
use Rattle.std.proofs.lemmas.Simd.{chunk-drop}
use Rattle.std.proofs.lemmas.List.{take-append-drop}
use Rattle.zs_num.specs.Request.{line_bytes}
use Rattle.cache_set.specs.declared.letter.Letter.{Letter}
use Rattle.cache_set.specs.declared.letter.Letter.TheVariants.{M, E, S, I}
use Rattle.cache_set.specs.Ways.{changed}
use Rattle.home.specs.HomeState.{HomeLine, HomeState, KeepsLine, brought_in, bytes_at, dropped_in, evicted_by, is_marked_by_others, line_place, marked_dirty_in, with_bytes_at}
use Rattle.l1_cache.specs.L1State.{AreBytesOf, Copy, L1State, answered_in, copy_at, given_up_in, in_copies_of, instruction_given_up_in, kept_first_in, kept_with_in, letter_of, newer_bytes, no_l1, place_in_line, shared_in}
use Rattle.shard.specs.BankSteps.{AreKnown, CanEvict, bank_with}
use Rattle.shard.specs.Coherence.{is_alone, is_modified}
use Rattle.shard.specs.SharedStep.{Bank, brought_home, collected, copy_of, evicted_everywhere, given_up_by, instructions_given_up_by, is_modified_by, kept_with, l1_of, own_letter, shared_by, with_home, with_l1}

-- ---- what goes home
pub written_same : (home : HomeState) (line : ℕ) → with_bytes_at line (bytes_at home line) home ≡ home
unfolding with_bytes_at bytes_at
written_same home line =
    ap (λ (bytes : List ℕ). record home { bytes = bytes })
    (ap (λ (rest : List ℕ). take (line_place home line) home.bytes ++ rest) (sym (chunk-drop (line_place home line) line_bytes home.bytes))
    ∙ take-append-drop (line_place home line) home.bytes)

pub written_long : (home : HomeState) (line : ℕ) (bytes : List ℕ) → KeepsLine home line → length bytes ≡ line_bytes → length (with_bytes_at line bytes home).bytes ≡ length home.bytes
unfolding with_bytes_at
written_long home line bytes kept long =
    let a : ℕ = line_place home line in
    omega (arith, kept, long, length-append (take a home.bytes) (bytes ++ drop (a + line_bytes) home.bytes), length-append bytes (drop (a + line_bytes) home.bytes), length-take-le a home.bytes (omega (arith, kept)), length-drop (a + line_bytes) home.bytes)

place_other : (home : HomeState) (v line : ℕ) (bytes : List ℕ) → line_place (with_bytes_at v bytes home) line ≡ line_place home line
unfolding with_bytes_at
place_other home v line bytes = refl

pub kept_still : (home now : HomeState) (line : ℕ) (bytes : List ℕ) → now ≡ with_bytes_at line bytes home → length now.bytes ≡ length home.bytes → KeepsLine home line → KeepsLine now line
kept_still home now line bytes is long kept =
    let place : line_place now line ≡ line_place home line = ap (λ (h : HomeState). line_place h line) is ∙ place_other home line line bytes in
    omega (arith, place, long, kept)

-- ---- the bytes of a copy
old_by : (x : Letter) (free : Bool) (bytes h : List ℕ) → (x ≡ M → ⊥) → newer_bytes (Some (record { letter = x; free = free; bytes = bytes })) h ≡ h
old_by M free bytes h m = absurd (m refl)
old_by E free bytes h m = refl
old_by S free bytes h m = refl
old_by I free bytes h m = refl

newer_by : (x : Letter) (free : Bool) (bytes h : List ℕ) → x ≡ M → newer_bytes (Some (record { letter = x; free = free; bytes = bytes })) h ≡ bytes
newer_by M free bytes h m = refl
newer_by E free bytes h m = absurd cc
newer_by S free bytes h m = absurd cc
newer_by I free bytes h m = absurd cc

pub newer_none : (o : Option Copy) (h : List ℕ) → o ≡ None → newer_bytes o h ≡ h
newer_none None h e = refl
newer_none (Some copy) h e = absurd cc

pub newer_not : (o : Option Copy) (h : List ℕ) → (letter_of o ≡ M → ⊥) → newer_bytes o h ≡ h
newer_not None h m = refl
newer_not (Some copy) h m = old_by copy.letter copy.free copy.bytes h m

pub newer_is : (o : Option Copy) (bytes h : List ℕ) → letter_of o ≡ M → AreBytesOf o bytes → bytes ≡ newer_bytes o h
newer_is None bytes h m of = absurd cc
newer_is (Some copy) bytes h m of = of.0 ∙ sym (newer_by copy.letter copy.free copy.bytes h m)

pub long_of : (o : Option Copy) (bytes : List ℕ) → AreBytesOf o bytes → length bytes ≡ line_bytes
long_of None bytes of = absurd of
long_of (Some copy) bytes of = of.1

-- ---- one core's L1
pub l1_is : (l1s : List L1State) (core : ℕ) (l1 : L1State) → core < length l1s → l1 ≡ get_or l1s core l1 → l1 ≡ get_or l1s core no_l1
l1_is l1s core l1 within is = is ∙ get_or_default l1s core l1 no_l1 within

-- what it has goes home, and it changes
pub one_collected : (f : L1State → L1State) (home now : HomeState) (l1s : List L1State) (core line : ℕ) (l1 changed : L1State) → l1 ≡ get_or l1s core no_l1
    → now ≡ with_bytes_at line (newer_bytes (copy_at l1 line) (bytes_at home line)) home → changed ≡ f l1
    → bank_with now (set l1s core changed) ≡ with_l1 core f (collected line core (bank_with home l1s))
one_collected f home now l1s core line l1 changed is written did =
    ap₂ bank_with (written ∙ ap (λ (x : L1State). with_bytes_at line (newer_bytes (copy_at x line) (bytes_at home line)) home) is)
    (ap (set l1s core) (did ∙ ap f is))

pub one_changed : (f : L1State → L1State) (home : HomeState) (l1s : List L1State) (core : ℕ) (l1 changed : L1State) → l1 ≡ get_or l1s core no_l1 → changed ≡ f l1
    → bank_with home (set l1s core changed) ≡ with_l1 core f (bank_with home l1s)
one_changed f home l1s core l1 changed is did = ap (λ (x : L1State). bank_with home (set l1s core x)) (did ∙ ap f is)

-- ---- one core after the other
pub known_first : (cores rest : List ℕ) (core : ℕ) (l1s : List L1State) → cores ≡ core ∷ rest → AreKnown cores l1s → core < length l1s
known_first cores rest core l1s is known = All-head (λ core. core < length l1s) core rest (subst (λ (z : List ℕ). AreKnown z l1s) is known)

pub known_rest : (cores rest : List ℕ) (core : ℕ) (l1s now : List L1State) → cores ≡ core ∷ rest → length now ≡ length l1s → AreKnown cores l1s → AreKnown rest now
known_rest cores rest core l1s now is long known =
    subst (λ (n : ℕ). All (λ core. core < n) rest) (sym long)
    (All-tail (λ core. core < length l1s) core rest (subst (λ (z : List ℕ). AreKnown z l1s) is known))

pub given_more : (line core : ℕ) (cores rest : List ℕ) (p q x : Bank) → cores ≡ core ∷ rest → q ≡ with_l1 core (given_up_in line) (collected line core p) → given_up_by line cores p ≡ x
    → given_up_by line rest q ≡ x
given_more line core cores rest p q x is step so_far = ap (given_up_by line rest) step ∙ (sym (ap (λ (z : List ℕ). given_up_by line z p) is) ∙ so_far)

pub shared_more : (line core : ℕ) (cores rest : List ℕ) (p q x : Bank) → cores ≡ core ∷ rest → q ≡ with_l1 core (shared_in line) (collected line core p) → shared_by line cores p ≡ x
    → shared_by line rest q ≡ x
shared_more line core cores rest p q x is step so_far = ap (shared_by line rest) step ∙ (sym (ap (λ (z : List ℕ). shared_by line z p) is) ∙ so_far)

pub instructions_more : (line core : ℕ) (cores rest : List ℕ) (p q x : Bank) → cores ≡ core ∷ rest → q ≡ with_l1 core (instruction_given_up_in line) p → instructions_given_up_by line cores p ≡ x
    → instructions_given_up_by line rest q ≡ x
instructions_more line core cores rest p q x is step so_far = ap (instructions_given_up_by line rest) step ∙ (sym (ap (λ (z : List ℕ). instructions_given_up_by line z p) is) ∙ so_far)

-- at the end
pub given_all : (line : ℕ) (cores : List ℕ) (p x : Bank) → cores ≡ [] → given_up_by line cores p ≡ x → p ≡ x
given_all line cores p x none so_far = sym (ap (λ (z : List ℕ). given_up_by line z p) none) ∙ so_far

pub shared_all : (line : ℕ) (cores : List ℕ) (p x : Bank) → cores ≡ [] → shared_by line cores p ≡ x → p ≡ x
shared_all line cores p x none so_far = sym (ap (λ (z : List ℕ). shared_by line z p) none) ∙ so_far

pub instructions_all : (line : ℕ) (cores : List ℕ) (p x : Bank) → cores ≡ [] → instructions_given_up_by line cores p ≡ x → p ≡ x
instructions_all line cores p x none so_far = sym (ap (λ (z : List ℕ). instructions_given_up_by line z p) none) ∙ so_far

pub modified_first : (p : Bank) (line core : ℕ) (cores rest : List ℕ) (b : Bool) → cores ≡ core ∷ rest → is_modified (own_letter p core line) ≡ true → is_modified_by p line cores ≡ b → true ≡ b
modified_first p line core cores rest b is m all =
    sym (ap (λ (t : Bool). t || is_modified_by p line rest) m) ∙ (sym (ap (is_modified_by p line) is) ∙ all)

pub modified_rest : (p : Bank) (line core : ℕ) (cores rest : List ℕ) (b : Bool) → cores ≡ core ∷ rest → is_modified (own_letter p core line) ≡ false → is_modified_by p line cores ≡ b → is_modified_by p line rest ≡ b
modified_rest p line core cores rest b is m all =
    sym (ap (λ (t : Bool). t || is_modified_by p line rest) m) ∙ (sym (ap (is_modified_by p line) is) ∙ all)

-- ---- the home alone changes
pub home_then : (f : HomeState → HomeState) (home now : HomeState) (l1s : List L1State) (q : Bank) → now ≡ f home → bank_with home l1s ≡ q → bank_with now l1s ≡ with_home f q
home_then f home now l1s q did is = ap (λ (h : HomeState). bank_with h l1s) did ∙ ap (with_home f) is

-- instruction caches give a line up whatever the home is
abbrev pub with_home_of : (h : HomeState) → Bank → Bank
with_home_of h p = record p { home = h }

instructions_beside : (h : HomeState) (line : ℕ) (cores : List ℕ) (p : Bank) → instructions_given_up_by line cores (with_home_of h p) ≡ with_home_of h (instructions_given_up_by line cores p)
instructions_beside h line [] p = refl
instructions_beside h line (core ∷ cores) p = instructions_beside h line cores (with_l1 core (instruction_given_up_in line) p)

pub instructions_at_home : (home other : HomeState) (line : ℕ) (cores : List ℕ) (l1s now : List L1State) → bank_with other now ≡ instructions_given_up_by line cores (bank_with other l1s)
    → bank_with home now ≡ instructions_given_up_by line cores (bank_with home l1s)
instructions_at_home home other line cores l1s now is = ap (with_home_of home) is ∙ sym (instructions_beside home line cores (bank_with other l1s))

-- ---- the line that leaves the core's own L1
kept_dropped : (home : HomeState) (v core line : ℕ) → KeepsLine home line → KeepsLine (dropped_in v core home) line
unfolding dropped_in
kept_dropped home v core line kept = kept

kept_marked : (home : HomeState) (v line : ℕ) → KeepsLine home line → KeepsLine (marked_dirty_in v home) line
unfolding marked_dirty_in
kept_marked home v line kept = kept

kept_written : (home : HomeState) (v line : ℕ) (bytes : List ℕ) → length (with_bytes_at v bytes home).bytes ≡ length home.bytes → KeepsLine home line → KeepsLine (with_bytes_at v bytes home) line
kept_written home v line bytes long kept = omega (arith, place_other home v line bytes, long, kept)

pub kept_modified : (home a b c : HomeState) (v core line : ℕ) (wrote : List ℕ) → a ≡ with_bytes_at v wrote home → length a.bytes ≡ length home.bytes → b ≡ marked_dirty_in v a → c ≡ dropped_in v core b
    → KeepsLine home line → KeepsLine c line
kept_modified home a b c v core line wrote first long second third kept =
    let at_a : KeepsLine a line = subst (λ (h : HomeState). KeepsLine h line) (sym first) (kept_written home v line wrote (ap (λ (h : HomeState). length h.bytes) (sym first) ∙ long) kept) in
    let at_b : KeepsLine b line = subst (λ (h : HomeState). KeepsLine h line) (sym second) (kept_marked a v line at_a) in
    subst (λ (h : HomeState). KeepsLine h line) (sym third) (kept_dropped b v core line at_b)

pub kept_clean : (home c : HomeState) (v core line : ℕ) → c ≡ dropped_in v core home → KeepsLine home line → KeepsLine c line
kept_clean home c v core line did kept = subst (λ (h : HomeState). KeepsLine h line) (sym did) (kept_dropped home v core line kept)

-- ---- a line comes into the core's own L1
pub long_at : (home : HomeState) (line : ℕ) → KeepsLine home line → length (bytes_at home line) ≡ line_bytes
unfolding bytes_at
long_at home line kept = length-take-le line_bytes (drop (line_place home line) home.bytes) (omega (arith, kept, length-drop (line_place home line) home.bytes))

-- a line that is there is used
module _ (letter : Letter) (core line : ℕ) (p : Bank) where
  abbrev inside : Option Copy → Bank
  inside o = record p { l1s = set p.l1s core (option_map_or (λ copy. kept_first_in line (record copy { letter = letter }) (l1_of p core)) o (l1_of p core)) }

  abbrev outside : Option Copy → Bank
  outside o = option_map_or (λ copy. with_l1 core (kept_first_in line (record copy { letter = letter })) p) o p

  by_copy : (o : Option Copy) → copy_of p core line ≡ o → IsSome o → inside (copy_of p core line) ≡ outside (copy_of p core line)
  by_copy None e there = absurd cc
  by_copy (Some copy) e there = ap inside e ∙ sym (ap outside e)

  pub kept_as : IsSome (copy_of p core line) → with_l1 core (kept_with_in line letter) p ≡ kept_with letter core line p
  unfolding kept_with_in
  kept_as there = by_copy (copy_of p core line) refl there

-- the same, said of the L1s alone
pub kept_by : (letter : Letter) (home other : HomeState) (l1s now : List L1State) (core line : ℕ) → bank_with other now ≡ with_l1 core (kept_with_in line letter) (bank_with other l1s) → IsSome (copy_of (bank_with home l1s) core line)
    → bank_with home now ≡ kept_with letter core line (bank_with home l1s)
kept_by letter home other l1s now core line is there = ap (with_home_of home) is ∙ kept_as letter core line (bank_with home l1s) there

pub has_copy : (o : Option Copy) (letter : Letter) → (I ≡ letter → ⊥) → letter_of o ≡ letter → IsSome o
has_copy None letter some e = absurd (some e)
has_copy (Some copy) letter some e = refl

-- ---- the answer
answered_as : (l1 : L1State) (line : ℕ) (bytes : List ℕ) (free : Bool) (copy : Copy) → copy_at l1 line ≡ Some copy
    → answered_in line bytes free l1 ≡ in_copies_of line (changed line (record copy { free = free; bytes = bytes })) l1
unfolding answered_in copy_at
answered_as l1 line bytes free copy e =
    ap (λ (o : Option Copy). in_copies_of line (λ copies. option_map_or (λ copy. changed line (record copy { free = free; bytes = bytes }) copies) o copies) l1) e

-- ---- a line leaves every L1
-- A line that comes into the L2 first changes no bytes, and no L1.
given_beside : (v line : ℕ) (cores : List ℕ) (p : Bank) → given_up_by v cores (with_home (brought_in line) p) ≡ with_home (brought_in line) (given_up_by v cores p)
unfolding brought_in with_bytes_at bytes_at
given_beside v line [] p = refl
given_beside v line (core ∷ cores) p = given_beside v line cores (with_l1 core (given_up_in v) (collected v core p))

instructions_after : (v line : ℕ) (cores : List ℕ) (p : Bank) → instructions_given_up_by v cores (with_home (brought_in line) p) ≡ with_home (brought_in line) (instructions_given_up_by v cores p)
instructions_after v line [] p = refl
instructions_after v line (core ∷ cores) p = instructions_after v line cores (with_l1 core (instruction_given_up_in v) p)

evicted_beside : (line : ℕ) (o : Option (ℕ × HomeLine)) (p : Bank) → evicted_everywhere o (with_home (brought_in line) p) ≡ with_home (brought_in line) (evicted_everywhere o p)
evicted_beside line None p = refl
evicted_beside line (Some w) p =
    ap (instructions_given_up_by w.0 w.1.fetchers) (given_beside w.0 line w.1.sharers p) ∙ instructions_after w.0 line w.1.fetchers (given_up_by w.0 w.1.sharers p)

pub brought_as : (home a now : HomeState) (l1s s : List L1State) (line : ℕ) (o : Option (ℕ × HomeLine)) → o ≡ evicted_by home line → a ≡ brought_in line home → bank_with now s ≡ evicted_everywhere o (bank_with a l1s)
    → bank_with now s ≡ brought_home line (bank_with home l1s)
unfolding brought_home
brought_as home a now l1s s line o is did left =
    left
    ∙ (ap (λ (h : HomeState). evicted_everywhere o (bank_with h l1s)) did
    ∙ (evicted_beside line o (bank_with home l1s)
    ∙ ap (λ (o : Option (ℕ × HomeLine)). with_home (brought_in line) (evicted_everywhere o (bank_with home l1s))) is))

kept_brought : (home : HomeState) (line v : ℕ) → KeepsLine home v → KeepsLine (brought_in line home) v
unfolding brought_in
kept_brought home line v kept = kept

pub can_after : (home : HomeState) (line : ℕ) (l1s : List L1State) (o : Option (ℕ × HomeLine)) → CanEvict home l1s o → CanEvict (brought_in line home) l1s o
can_after home line l1s None can = tt
can_after home line l1s (Some w) can = (kept_brought home line w.0 can.0, can.1, can.2)

module _ (home now other : HomeState) (l1s s : List L1State) (core : ℕ) (request : Request) (bytes : List ℕ) (free : Bool) where
  abbrev p : Bank
  p = bank_with home l1s

  abbrev line : ℕ
  line = line_of request

  abbrev left : List (Option Reservation)
  left = marks_after home.marks core request

  abbrev all : Option Copy → Bank
  all o = option_map_or (λ copy. answered_with core line request copy p) o p

  module _ (is : bank_with other s ≡ with_l1 core (answered_in line bytes free) (bank_with other l1s)) (marks : now ≡ record home { marks = left })
      (wrote : bytes ≡ bytes_after (bytes_of (copy_of p core line)) (place_in_line (addr_of request)) home.marks core request)
      (right : free ≡ (is_alone (own_letter p core line) && not (is_marked_by_others now.marks core line))) where
    with_copy : (o : Option Copy) → copy_of p core line ≡ o → IsSome o → bank_with now s ≡ answered core request p
    with_copy None e t = absurd cc
    with_copy (Some copy) e t =
        let wrote_now : List ℕ = bytes_after copy.bytes (place_in_line (addr_of request)) home.marks core request in
        let free_now : Bool = is_alone copy.letter && not (is_marked_by_others left core line) in
        let bytes_are : bytes ≡ wrote_now = wrote ∙ ap (λ (o : Option Copy). bytes_after (bytes_of o) (place_in_line (addr_of request)) home.marks core request) e in
        let free_is : free ≡ free_now
        = right ∙ (ap (λ (o : Option Copy). is_alone (letter_of o) && not (is_marked_by_others now.marks core line)) e ∙ ap (λ (h : HomeState). is_alone copy.letter && not (is_marked_by_others h.marks core line)) marks) in
        ap (with_home_of now) is
        ∙ (ap (λ (h : HomeState). bank_with h (set l1s core (answered_in line bytes free (l1_of p core)))) marks
        ∙ (ap (λ (x : L1State). bank_with (record home { marks = left }) (set l1s core x)) (answered_as (l1_of p core) line bytes free copy e)
        ∙ (ap (λ (b : List ℕ). bank_with (record home { marks = left }) (set l1s core (in_copies_of line (changed line (record copy { free = free; bytes = b })) (l1_of p core)))) bytes_are
        ∙ (ap (λ (f : Bool). bank_with (record home { marks = left }) (set l1s core (in_copies_of line (changed line (record copy { free = f; bytes = wrote_now })) (l1_of p core)))) free_is
        ∙ sym (ap all e)))))

    pub answered_by : IsSome (copy_of p core line) → bank_with now s ≡ answered core request p
    answered_by there = with_copy (copy_of p core line) refl there

-- ---- known of what the code has read
pub known_evicted : (home : HomeState) (l1s : List L1State) (o : Option (ℕ × Row)) → CanEvict home l1s (option_map evicted_in o) → IfSome o (λ evicted. AreKnown (evicted_in evicted).1.sharers l1s)
known_evicted home l1s None can = tt
known_evicted home l1s (Some e) can = can.1

-- ---- a line that a core has modified
kept_dirtied : (b : Bool) (line : ℕ) (p : Bank) → KeepsLine p.home line → KeepsLine (cond b (with_home (marked_dirty_in line) p) p).home line
kept_dirtied true line p kept = kept_marked p.home line line kept
kept_dirtied false line p kept = kept

pub kept_dirty : (line : ℕ) (cores : List ℕ) (p q : Bank) → q ≡ dirty_by line cores p → KeepsLine p.home line → KeepsLine q.home line
kept_dirty line cores p q is kept = subst (λ (b : Bank). KeepsLine b.home line) (sym is) (kept_dirtied (is_modified_by p line cores) line p kept)

pub shared_where : (line : ℕ) (row : HomeLine) (p : Bank) → row.alone ≡ true → shared_by line row.sharers (dirty_by line row.sharers p) ≡ shared_by_others line row p
unfolding shared_by_others
shared_where line row p alone = sym (ap (λ (b : Bool). cond b (shared_by line row.sharers (dirty_by line row.sharers p)) p) alone)

pub shared_nowhere : (line : ℕ) (row : HomeLine) (p : Bank) → row.alone ≡ false → p ≡ shared_by_others line row p
unfolding shared_by_others
shared_nowhere line row p alone = sym (ap (λ (b : Bool). cond b (shared_by line row.sharers (dirty_by line row.sharers p)) p) alone)

pub letter_old : (x : Letter) → (x ≡ M → ⊥) → is_modified x ≡ false
letter_old M h = absurd (h refl)
letter_old E h = refl
letter_old S h = refl
letter_old I h = refl
