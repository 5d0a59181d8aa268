-- A line comes into a core's own L1, or is used there: what is seen of it.
use Rattle.std.proofs.Common.{◌≡◌, ℕ, zero, suc, ◌-◌, ◌%◌, ◌<◌, ◌&&◌, Bool, true, false, not, cond, List, [], ◌∷◌, length, get_or, set, Option, Some, None, refl, sym, ap, ◌∙◌, subst}
use Rattle.std.specs.Option.{option_map_or}
use Rattle.std.specs.Prelude.{slice_get}
use Rattle.zs_num.specs.Request.{addr_of, line_of}
use Rattle.zs_num.specs.declared.request.Request.{Request}
use Rattle.cache_set.specs.Ways.{changed, filled, used, victim_of, without}
use Rattle.cache_set.specs.declared.letter.Letter.{Letter}
use Rattle.std.proofs.lemmas.List.{set-get_or}
use Rattle.std.proofs.lemmas.Map.Steps.{set_value_same}
use Rattle.std.specs.Prelude.{nat_eq}
use Rattle.shard.specs.Coherence.{Caches, filled_into_l1, filled_into_l1i, in_l1i_set_of, in_own_set_of, is_alone, is_modified, kept_first, marked_dirty, own_victim, used_in_l1i, written_back}
use Rattle.home.specs.HomeState.{bytes_at, dropped_in, is_marked_by_others, marked_dirty_in, unfetched_in, with_bytes_at}
use Rattle.l1_cache.specs.L1State.{Copy, L1State, copies_at, copy_at, filled_in, instruction_filled_in, instruction_used_in, instructions_at, kept_first_in, no_l1, place_in_line, used_in, victim_in}
use Rattle.shard.specs.Marks.{bytes_after, marks_after}
use Rattle.shard.specs.PartsLaws.{IsOwn}
use Rattle.shard.specs.Seen.{caches_seen, letters_in}
use Rattle.shard.specs.SharedStep.{Bank, answered, answered_with, brought_to_own, collected, copy_of, instruction_brought, kept_with, l1_of, own_evicted, own_instruction_evicted, with_home, with_l1}
use Rattle.shard.proofs.HomesAndL1s.Fit.{AreFit, fit_home, fit_own_evicted}
use Rattle.shard.proofs.HomesAndL1s.LettersSeen.{copies_seen, letter_kept}
use Rattle.shard.proofs.HomesAndL1s.ListsSeen.{copies_changed, dropped_seen, fetched_in_seen, instructions_changed, marked_dirty_seen, seen_filled, seen_first, unfetched_in_seen}
use Rattle.shard.proofs.HomesAndL1s.RowsSeen.{in_set_same, see_maybe, seen_changed, seen_kept}

-- ---- the victim
abbrev pub see_way : Option (ℕ × Copy) → Option (ℕ × Letter)
see_way None = None
see_way (Some way) = Some (way.0, way.1.letter)

way_seen : (s : List (ℕ × Copy)) (i : ℕ) → slice_get (letters_in s) i ≡ see_way (slice_get s i)
way_seen [] i = refl
way_seen (w ∷ s) zero = refl
way_seen (w ∷ s) (suc i) = way_seen s i

pub own_victim_seen : (p : Bank) (fit : AreFit p) (core line : ℕ) → core < length p.l1s → IsOwn p line → own_victim (caches_seen p) core line ≡ see_way (victim_in (l1_of p core) line)
unfolding caches_seen
own_victim_seen p fit core line within own =
    ap (victim_of (l1_of p 0).ways) (copies_seen p fit core line own)
    ∙ (ap (λ (ways : ℕ). victim_of ways (letters_in (copies_at (l1_of p core) line))) (sym (fit.each core within).ways)
    ∙ way_seen (copies_at (l1_of p core) line) ((l1_of p core).ways - 1))

collected_seen : (line core : ℕ) (p : Bank) → caches_seen (collected line core p) ≡ caches_seen p
unfolding caches_seen with_bytes_at
collected_seen line core p = refl

evicting_seen : (b : Bool) (line core : ℕ) (p : Bank)
    → caches_seen (with_home (dropped_in line core) (cond b (with_home (marked_dirty_in line) (collected line core p)) p)) ≡ cond b (marked_dirty line (caches_seen p)) (caches_seen p)
evicting_seen true line core p =
    dropped_seen line core (with_home (marked_dirty_in line) (collected line core p))
    ∙ (marked_dirty_seen line (collected line core p) ∙ ap (marked_dirty line) (collected_seen line core p))
evicting_seen false line core p = dropped_seen line core p

pub own_evicted_seen : (v : Option (ℕ × Copy)) (core : ℕ) (p : Bank) → caches_seen (own_evicted v core p) ≡ written_back (see_way v) (caches_seen p)
own_evicted_seen None core p = refl
own_evicted_seen (Some v) core p = evicting_seen (is_modified v.1.letter) v.0 core p

evicting_l1s : (b : Bool) (line core : ℕ) (p : Bank) → (with_home (dropped_in line core) (cond b (with_home (marked_dirty_in line) (collected line core p)) p)).l1s ≡ p.l1s
evicting_l1s true line core p = refl
evicting_l1s false line core p = refl

pub own_evicted_l1s : (v : Option (ℕ × Copy)) (core : ℕ) (p : Bank) → (own_evicted v core p).l1s ≡ p.l1s
own_evicted_l1s None core p = refl
own_evicted_l1s (Some v) core p = evicting_l1s (is_modified v.1.letter) v.0 core p

evicting_bank : (b : Bool) (line core : ℕ) (p : Bank)
    → ((with_home (dropped_in line core) (cond b (with_home (marked_dirty_in line) (collected line core p)) p)).home.shards ≡ p.home.shards)
    × ((with_home (dropped_in line core) (cond b (with_home (marked_dirty_in line) (collected line core p)) p)).home.number ≡ p.home.number)
unfolding dropped_in marked_dirty_in with_bytes_at
evicting_bank true line core p = (refl, refl)
evicting_bank false line core p = (refl, refl)

pub own_evicted_bank : (v : Option (ℕ × Copy)) (core : ℕ) (p : Bank) → ((own_evicted v core p).home.shards ≡ p.home.shards) × ((own_evicted v core p).home.number ≡ p.home.number)
own_evicted_bank None core p = (refl, refl)
own_evicted_bank (Some v) core p = evicting_bank (is_modified v.1.letter) v.0 core p

first_ways : (p : Bank) → (l1_of p 0).ways ≡ (caches_seen p).l1_ways
unfolding caches_seen
first_ways p = refl

instruction_ways : (p : Bank) → (l1_of p 0).l1i_ways ≡ (caches_seen p).l1i_ways
unfolding caches_seen
instruction_ways p = refl

pub brought_seen : (letter : Letter) (core line : ℕ) (p : Bank) → AreFit p → core < length p.l1s → IsOwn p line → caches_seen (brought_to_own letter core line p) ≡ filled_into_l1 core line letter (caches_seen p)
unfolding brought_to_own filled_in filled_into_l1
brought_seen letter core line p fit within own =
    let v : Option (ℕ × Copy) = victim_in (l1_of p core) line in
    let q : Bank = own_evicted v core p in
    let same : q.l1s ≡ p.l1s = own_evicted_l1s v core p in
    let bank = own_evicted_bank v core p in
    let l1 : L1State = l1_of q core in
    let ways : ℕ = (caches_seen p).l1_ways in
    let is : l1.ways ≡ ways = ap (λ (l1s : List L1State). (get_or l1s core no_l1).ways) same ∙ ((fit.each core within).ways ∙ first_ways p) in
    let copy : Copy = record { letter = letter; free = false; bytes = bytes_at q.home line } in
    copies_changed q (fit_own_evicted v core p fit) core line (subst (λ (l1s : List L1State). core < length l1s) (sym same) within) (own_then q.home.shards q.home.number bank.0 bank.1)
    (filled l1.ways line copy) (filled ways line letter)
    (seen_filled letter_kept l1.ways line copy (copies_at l1 line) ∙ ap (λ (w : ℕ). filled w line letter (letters_in (copies_at l1 line))) is)
    ∙ (ap (in_own_set_of core line (filled ways line letter)) (own_evicted_seen v core p)
    ∙ ap (λ (o : Option (ℕ × Letter)). in_own_set_of core line (filled ways line letter) (written_back o (caches_seen p))) (sym (own_victim_seen p fit core line within own))) where
      own_then : (shards number : ℕ) → shards ≡ p.home.shards → number ≡ p.home.number → line % shards ≡ number
      own_then shards number e f = ap (λ (z : ℕ). line % z) e ∙ (own ∙ sym f)

-- ---- a line that is there
keeping : (letter : Letter) (core line : ℕ) (p : Bank) (o : Option Copy) → AreFit p → core < length p.l1s → IsOwn p line → (copy : Copy) → o ≡ Some copy
    → caches_seen (option_map_or (λ copy. with_l1 core (kept_first_in line (record copy { letter = letter })) p) o p) ≡ kept_first core line letter (caches_seen p)
unfolding kept_first_in kept_first
keeping letter core line p None fit within own copy e = absurd cc
keeping letter core line p (Some here) fit within own copy e =
    copies_changed p fit core line within own (λ copies. (line, record here { letter = letter }) ∷ without line copies) (λ copies. (line, letter) ∷ without line copies)
    (seen_first letter_kept line (record here { letter = letter }) (copies_at (l1_of p core) line))

pub kept_seen : (letter : Letter) (core line : ℕ) (p : Bank) → AreFit p → core < length p.l1s → IsOwn p line → (copy : Copy) → copy_of p core line ≡ Some copy
    → caches_seen (kept_with letter core line p) ≡ kept_first core line letter (caches_seen p)
kept_seen letter core line p fit within own copy e = keeping letter core line p (copy_of p core line) fit within own copy e

-- a copy that is there comes first, with other bytes
pub first_seen : (core line : ℕ) (p : Bank) → AreFit p → core < length p.l1s → IsOwn p line → (copy : Copy) → caches_seen (with_l1 core (kept_first_in line copy) p) ≡ kept_first core line copy.letter (caches_seen p)
unfolding kept_first_in kept_first
first_seen core line p fit within own copy =
    copies_changed p fit core line within own (λ copies. (line, copy) ∷ without line copies) (λ copies. (line, copy.letter) ∷ without line copies)
    (seen_first letter_kept line copy (copies_at (l1_of p core) line))

pub used_seen : (core line : ℕ) (p : Bank) → AreFit p → core < length p.l1s → IsOwn p line → (copy : Copy) → copy_of p core line ≡ Some copy
    → caches_seen (with_l1 core (used_in line) p) ≡ kept_first core line copy.letter (caches_seen p)
unfolding used_in kept_first copy_at
used_seen core line p fit within own copy e =
    let s : List (ℕ × Copy) = copies_at (l1_of p core) line in
    copies_changed p fit core line within own (used line) (λ copies. (line, copy.letter) ∷ without line copies)
    (ap (λ (o : Option Copy). letters_in (option_map_or (λ kept. (line, kept) ∷ without line s) o s)) e ∙ seen_first letter_kept line copy s)

-- ---- the answer
own_same : (core line : ℕ) (c : Caches) → in_own_set_of core line (λ copies. copies) c ≡ c
own_same core line c =
    ap (λ (z : List (List (List (ℕ × Letter)))). record c { l1 = z })
    (ap (set c.l1 core) (in_set_same c.shards line (λ copies. copies) (get_or c.l1 core []) refl) ∙ set-get_or c.l1 core [])

answering : (core : ℕ) (request : Request) (p : Bank) (o : Option Copy) → AreFit p → core < length p.l1s → IsOwn p (line_of request) → copy_of p core (line_of request) ≡ o
    → caches_seen (option_map_or (λ copy. answered_with core (line_of request) request copy p) o p) ≡ caches_seen p
unfolding caches_seen copy_at
answering core request p None fit within own e = refl
answering core request p (Some copy) fit within own e =
    let line : ℕ = line_of request in
    let marks = marks_after p.home.marks core request in
    let after : Copy = record copy {
      free = is_alone copy.letter && not (is_marked_by_others marks core line);
      bytes = bytes_after copy.bytes (place_in_line (addr_of request)) p.home.marks core request;
    } in
    let s : List (ℕ × Copy) = copies_at (l1_of p core) line in
    copies_changed p fit core line within own (changed line after) (λ copies. copies)
    (seen_changed letter_kept line after s ∙ set_value_same (nat_eq line) (letters_in s) copy.letter (seen_kept letter_kept line s ∙ ap (see_maybe letter_kept) e))
    ∙ own_same core line (caches_seen p)

pub answered_seen : (core : ℕ) (request : Request) (p : Bank) → AreFit p → core < length p.l1s → IsOwn p (line_of request) → caches_seen (answered core request p) ≡ caches_seen p
answered_seen core request p fit within own = answering core request p (copy_of p core (line_of request)) fit within own refl

-- ---- instructions
pub instruction_used_seen : (core line : ℕ) (p : Bank) → AreFit p → core < length p.l1s → IsOwn p line → caches_seen (with_l1 core (instruction_used_in line) p) ≡ used_in_l1i core line (caches_seen p)
unfolding instruction_used_in used_in_l1i
instruction_used_seen core line p fit within own = instructions_changed p fit core line within own (used line)

own_instruction_seen : (v : Option (ℕ × Unit {0})) (core : ℕ) (p : Bank) → caches_seen (own_instruction_evicted v core p) ≡ caches_seen p
own_instruction_seen None core p = refl
own_instruction_seen (Some v) core p = unfetched_in_seen v.0 core p

filled_then : (core line : ℕ) (q : Bank) → AreFit q → core < length q.l1s → IsOwn q line → caches_seen (with_l1 core (instruction_filled_in line) q) ≡ filled_into_l1i core line (caches_seen q)
unfolding instruction_filled_in filled_into_l1i
filled_then core line q fit within own =
    instructions_changed q fit core line within own (filled (l1_of q core).l1i_ways line tt)
    ∙ ap (λ (w : ℕ). in_l1i_set_of core line (filled w line tt) (caches_seen q)) ((fit.each core within).l1i_ways ∙ instruction_ways q)

filling : (v : Option (ℕ × Unit {0})) (core line : ℕ) (p : Bank) → AreFit p → core < length p.l1s → IsOwn p line
    → caches_seen (with_l1 core (instruction_filled_in line) (own_instruction_evicted v core p)) ≡ filled_into_l1i core line (caches_seen p)
unfolding unfetched_in
filling None core line p fit within own = filled_then core line p fit within own
filling (Some v) core line p fit within own =
    filled_then core line (own_instruction_evicted (Some v) core p) (fit_home p (unfetched_in v.0 core p.home) fit refl refl) within own
    ∙ ap (filled_into_l1i core line) (own_instruction_seen (Some v) core p)

pub instruction_brought_seen : (core line : ℕ) (p : Bank) → AreFit p → core < length p.l1s → IsOwn p line → caches_seen (instruction_brought core line p) ≡ filled_into_l1i core line (caches_seen p)
instruction_brought_seen core line p fit within own =
    let v : Option (ℕ × Unit {0}) = victim_of (l1_of p core).l1i_ways (instructions_at (l1_of p core) line) in
    fetched_in_seen line core (with_l1 core (instruction_filled_in line) (own_instruction_evicted v core p)) ∙ filling v core line p fit within own
