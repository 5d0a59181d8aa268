-- What accesses to the lines of one bank leave of the L1s, as another bank sees them: nothing of its lines changes.
use Rattle.std.proofs.Common.{◌≡◌, ◌≢◌, ℕ, ◌*◌, ◌%◌, ◌<◌, ◌&&◌, Bool, true, false, not, cond, List, [], ◌∷◌, length, get_or, set, Option, Some, None, refl, sym, ap, ◌∙◌, subst, inl, inr}
use Rattle.std.specs.Option.{option_map_or}
use Rattle.std.proofs.lemmas.Bool.{cases_eq}
use Rattle.std.proofs.lemmas.List.{get_or-set_other, length-set}
use Rattle.zs_num.specs.Request.{addr_of, is_fetch, line_at, line_of}
use Rattle.zs_num.specs.declared.request.Request.{Request}
use Rattle.zs_num.specs.declared.request.Request.TheVariants.{Load, Store, Lr, Sc, Amo, Fetch}
use Rattle.cache_set.specs.Ways.{changed, filled, used, victim_of, without}
use Rattle.cache_set.specs.declared.letter.Letter.{Letter}
use Rattle.cache_set.specs.declared.letter.Letter.TheVariants.{M, E, S, I}
use Rattle.shard.specs.Coherence.{is_alone, is_modified, is_write, own_after}
use Rattle.home.specs.HomeState.{HomeLine, HomeState, bytes_at, evicted_by, is_marked_by_others, looked_up_in, marked_dirty_in, row_at, row_of}
use Rattle.l1_cache.specs.L1State.{Copy, L1State, copy_at, filled_in, given_up_in, in_copies_of, in_instructions_of, instruction_filled_in, instruction_given_up_in, instruction_used_in, instructions_at, is_private, kept_first_in, no_l1, place_in_line, private_after, shared_among, shared_in, stored, used_in, victim_in}
use Rattle.shard.specs.Marks.{bytes_after, marks_after}
use Rattle.cache_set.specs.Lines.{in_set_of, set_number, set_of}
use Rattle.shard.specs.SharedStep.{Bank, answered, answered_with, bank_after, brought_home, brought_to_own, collected, copy_of, dirty_by, evicted_everywhere, fetched_from, given_up_by, instruction_brought, instructions_given_up_by, is_modified_by, is_some_core, kept_with, l1_of, left_by_others, others_of, own_evicted, own_instruction_evicted, own_letter, ready, ready_by, ready_from_home, ready_where_shared, shared_after, shared_by, shared_by_others, with_home, with_l1}
use Rattle.shard.proofs.HomesAndL1s.Gets.{set_is}
use Rattle.shard.proofs.HomesAndL1s.PartOf.{part_sets, whole_apart}

-- an L1 that is whole, as a bank sees it: as another one was
pub record IsSeenAs (n o : ℕ) (was l1 : L1State) : Type 0 where
  pub shards : l1.shards ≡ 1
  pub ways : l1.ways ≡ was.ways
  pub l1i_ways : l1.l1i_ways ≡ was.l1i_ways
  pub long : length l1.sets ≡ length was.sets
  pub l1i_long : length l1.l1i ≡ length was.l1i
  pub fits : length was.sets * 1 % n ≡ 0
  pub l1i_fits : length was.l1i * 1 % n ≡ 0
  pub sets : part_sets 1 n o l1.sets ≡ part_sets 1 n o was.sets
  pub l1i : part_sets 1 n o l1.l1i ≡ part_sets 1 n o was.l1i

module _ (n o : ℕ) (some : 0 < n) (below : o < n) where
  abbrev pub Apart : (line : ℕ) → Type 0
  Apart line = line % n ≢ o

  module _ (was l1 : L1State) (seen : IsSeenAs n o was l1) (line : ℕ) (apart : Apart line) where
    pub copies_step : (f : List (ℕ × Copy) → List (ℕ × Copy)) → IsSeenAs n o was (in_copies_of line f l1)
    copies_step f =
        let many : length l1.sets * 1 % n ≡ 0 = ap (λ (z : ℕ). z * 1 % n) seen.long ∙ seen.fits in
        record {
          shards = seen.shards;
          ways = seen.ways;
          l1i_ways = seen.l1i_ways;
          long = length-set l1.sets (set_number l1.shards line l1.sets) (f (set_of l1.shards line l1.sets)) ∙ seen.long;
          l1i_long = seen.l1i_long;
          fits = seen.fits;
          l1i_fits = seen.l1i_fits;
          sets = ap (λ (z : ℕ). part_sets 1 n o (in_set_of z line f l1.sets)) seen.shards ∙ (whole_apart n o some below l1.sets many f line apart ∙ seen.sets);
          l1i = seen.l1i;
        }

    pub instructions_step : (f : List (ℕ × Unit {0}) → List (ℕ × Unit {0})) → IsSeenAs n o was (in_instructions_of line f l1)
    instructions_step f =
        let many : length l1.l1i * 1 % n ≡ 0 = ap (λ (z : ℕ). z * 1 % n) seen.l1i_long ∙ seen.l1i_fits in
        record {
          shards = seen.shards;
          ways = seen.ways;
          l1i_ways = seen.l1i_ways;
          long = seen.long;
          l1i_long = length-set l1.l1i (set_number l1.shards line l1.l1i) (f (set_of l1.shards line l1.l1i)) ∙ seen.l1i_long;
          fits = seen.fits;
          l1i_fits = seen.l1i_fits;
          sets = seen.sets;
          l1i = ap (λ (z : ℕ). part_sets 1 n o (in_set_of z line f l1.l1i)) seen.shards ∙ (whole_apart n o some below l1.l1i many f line apart ∙ seen.l1i);
        }

  private_option : (was l1 : L1State) (line : ℕ) (after : Copy → Copy) (c : Option Copy) → IsSeenAs n o was l1 → Apart line → IsSeenAs n o was (option_map_or (λ copy. kept_first_in line (after copy) l1) c l1)
  unfolding kept_first_in
  private_option was l1 line after None seen apart = seen
  private_option was l1 line after (Some copy) seen apart = copies_step was l1 seen line apart (λ copies. (line, after copy) ∷ without line copies)

  pub private_step : (was l1 : L1State) (request : Request) → IsSeenAs n o was l1 → Apart (line_of request) → IsSeenAs n o was (private_after l1 request)
  unfolding private_after used_in instruction_used_in
  private_step was l1 (Load width addr) seen apart = copies_step was l1 seen (line_at addr) apart (used (line_at addr))
  private_step was l1 (Store width addr value) seen apart = private_option was l1 (line_at addr) (stored (place_in_line addr) width value) (copy_at l1 (line_at addr)) seen apart
  private_step was l1 (Lr width addr) seen apart = seen
  private_step was l1 (Sc width paired addr value) seen apart = seen
  private_step was l1 (Amo width op addr value) seen apart = seen
  private_step was l1 (Fetch addr) seen apart = instructions_step was l1 seen (line_at addr) apart (used (line_at addr))

  -- ---- all L1s
  module _ (start : List L1State) where
    pub record AreSeen (l1s : List L1State) : Type 0 where
      pub cores : length l1s ≡ length start
      pub each : (k : ℕ) → IsSeenAs n o (get_or start k no_l1) (get_or l1s k no_l1)

    abbrev pub Seen : Bank → Type 0
    Seen p = AreSeen p.l1s

    pub l1_step : (core : ℕ) (f : L1State → L1State) (p : Bank) → Seen p → ((was l1 : L1State) → IsSeenAs n o was l1 → IsSeenAs n o was (f l1)) → Seen (with_l1 core f p)
    l1_step core f p seen step =
        let new : L1State = f (l1_of p core) in
        record {
          cores = length-set p.l1s core new ∙ seen.cores;
          each = λ k. elim (cases_eq k core) as (λ _. IsSeenAs n o (get_or start k no_l1) (get_or (set p.l1s core new) k no_l1)) [
            | inl e ↦
                subst (λ (j : ℕ). IsSeenAs n o (get_or start j no_l1) (get_or (set p.l1s core new) j no_l1)) (sym e)
                (elim (set_is p.l1s core new no_l1) as (λ _. IsSeenAs n o (get_or start core no_l1) (get_or (set p.l1s core new) core no_l1)) [
                  | inl is ↦ subst (λ (x : L1State). IsSeenAs n o (get_or start core no_l1) x) (sym is) (step (get_or start core no_l1) (l1_of p core) (seen.each core))
                  | inr is ↦ subst (λ (x : L1State). IsSeenAs n o (get_or start core no_l1) x) (sym is) (seen.each core)
                ])
            | inr e ↦ subst (λ (x : L1State). IsSeenAs n o (get_or start k no_l1) x) (sym (get_or-set_other p.l1s core k new no_l1 e)) (seen.each k)
          ];
        }

    pub seen_given_up : (line : ℕ) (cores : List ℕ) (p : Bank) → Apart line → Seen p → Seen (given_up_by line cores p)
    unfolding given_up_in
    seen_given_up line [] p apart seen = seen
    seen_given_up line (core ∷ cores) p apart seen =
        seen_given_up line cores (with_l1 core (given_up_in line) (collected line core p)) apart
        (l1_step core (given_up_in line) (collected line core p) seen (λ was l1 s. copies_step was l1 s line apart (without line)))

    pub seen_shared : (line : ℕ) (cores : List ℕ) (p : Bank) → Apart line → Seen p → Seen (shared_by line cores p)
    unfolding shared_in
    seen_shared line [] p apart seen = seen
    seen_shared line (core ∷ cores) p apart seen =
        seen_shared line cores (with_l1 core (shared_in line) (collected line core p)) apart
        (l1_step core (shared_in line) (collected line core p) seen (λ was l1 s. copies_step was l1 s line apart (shared_among line)))

    pub seen_instructions : (line : ℕ) (cores : List ℕ) (p : Bank) → Apart line → Seen p → Seen (instructions_given_up_by line cores p)
    unfolding instruction_given_up_in
    seen_instructions line [] p apart seen = seen
    seen_instructions line (core ∷ cores) p apart seen =
        seen_instructions line cores (with_l1 core (instruction_given_up_in line) p) apart
        (l1_step core (instruction_given_up_in line) p seen (λ was l1 s. instructions_step was l1 s line apart (without line)))

    seen_evicted : (v : Option (ℕ × HomeLine)) (p : Bank) → ((w : ℕ × HomeLine) → v ≡ Some w → Apart w.0) → Seen p → Seen (evicted_everywhere v p)
    seen_evicted None p apart seen = seen
    seen_evicted (Some v) p apart seen =
        seen_instructions v.0 v.1.fetchers (given_up_by v.0 v.1.sharers p) (apart v refl) (seen_given_up v.0 v.1.sharers p (apart v refl) seen)

    pub seen_brought_home : (line : ℕ) (p : Bank) → ((w : ℕ × HomeLine) → evicted_by p.home line ≡ Some w → Apart w.0) → Seen p → Seen (brought_home line p)
    unfolding brought_home
    seen_brought_home line p apart seen = seen_evicted (evicted_by p.home line) p apart seen

    seen_if : (b : Bool) (g : HomeState → HomeState) (p : Bank) → Seen p → Seen (cond b (with_home g p) p)
    seen_if true g p seen = seen
    seen_if false g p seen = seen

    pub seen_left : (core line : ℕ) (row : HomeLine) (p : Bank) → Apart line → Seen p → Seen (left_by_others core line row p)
    unfolding left_by_others
    seen_left core line row p apart seen =
        seen_given_up line (others_of core row) (dirty_by line (others_of core row) p) apart (seen_if (is_modified_by p line (others_of core row)) (marked_dirty_in line) p seen)

    sharing : (b : Bool) (line : ℕ) (sharers : List ℕ) (p : Bank) → Apart line → Seen p → Seen (cond b (shared_by line sharers (dirty_by line sharers p)) p)
    sharing false line sharers p apart seen = seen
    sharing true line sharers p apart seen = seen_shared line sharers (dirty_by line sharers p) apart (seen_if (is_modified_by p line sharers) (marked_dirty_in line) p seen)

    pub seen_shared_by_others : (line : ℕ) (row : HomeLine) (p : Bank) → Apart line → Seen p → Seen (shared_by_others line row p)
    unfolding shared_by_others
    seen_shared_by_others line row p apart seen = sharing row.alone line row.sharers p apart seen

    keeping : (letter : Letter) (core line : ℕ) (p : Bank) (c : Option Copy) → Apart line → Seen p → Seen (option_map_or (λ copy. with_l1 core (kept_first_in line (record copy { letter = letter })) p) c p)
    unfolding kept_first_in
    keeping letter core line p None apart seen = seen
    keeping letter core line p (Some copy) apart seen =
        l1_step core (kept_first_in line (record copy { letter = letter })) p seen (λ was l1 s. copies_step was l1 s line apart (λ copies. (line, record copy { letter = letter }) ∷ without line copies))

    pub seen_kept : (letter : Letter) (core line : ℕ) (p : Bank) → Apart line → Seen p → Seen (kept_with letter core line p)
    seen_kept letter core line p apart seen = keeping letter core line p (copy_of p core line) apart seen

    evicting : (b : Bool) (line core : ℕ) (p : Bank) → Seen p → Seen (cond b (with_home (marked_dirty_in line) (collected line core p)) p)
    evicting true line core p seen = seen
    evicting false line core p seen = seen

    seen_own_evicted : (v : Option (ℕ × Copy)) (core : ℕ) (p : Bank) → Seen p → Seen (own_evicted v core p)
    seen_own_evicted None core p seen = seen
    seen_own_evicted (Some v) core p seen = evicting (is_modified v.1.letter) v.0 core p seen

    filling : (copy : Copy) (core line : ℕ) (p : Bank) → Apart line → Seen p → Seen (with_l1 core (filled_in line copy) p)
    unfolding filled_in
    filling copy core line p apart seen = l1_step core (filled_in line copy) p seen (λ was l1 s. copies_step was l1 s line apart (filled l1.ways line copy))

    pub seen_brought : (letter : Letter) (core line : ℕ) (p : Bank) → Apart line → Seen p → Seen (brought_to_own letter core line p)
    unfolding brought_to_own
    seen_brought letter core line p apart seen =
        let v : Option (ℕ × Copy) = victim_in (l1_of p core) line in
        filling (record { letter = letter; free = false; bytes = bytes_at (own_evicted v core p).home line }) core line (own_evicted v core p) apart (seen_own_evicted v core p seen)

    own_instruction : (v : Option (ℕ × Unit {0})) (core : ℕ) (p : Bank) → Seen p → Seen (own_instruction_evicted v core p)
    own_instruction None core p seen = seen
    own_instruction (Some v) core p seen = seen

    pub seen_instruction_brought : (core line : ℕ) (p : Bank) → Apart line → Seen p → Seen (instruction_brought core line p)
    unfolding instruction_filled_in
    seen_instruction_brought core line p apart seen =
        let v : Option (ℕ × Unit {0}) = victim_of (l1_of p core).l1i_ways (instructions_at (l1_of p core) line) in
        l1_step core (instruction_filled_in line) (own_instruction_evicted v core p) (own_instruction v core p seen) (λ was l1 s. instructions_step was l1 s line apart (filled l1.l1i_ways line tt))

    -- ---- an access
    answering : (core : ℕ) (request : Request) (p : Bank) (c : Option Copy) → Apart (line_of request) → Seen p → Seen (option_map_or (λ copy. answered_with core (line_of request) request copy p) c p)
    answering core request p None apart seen = seen
    answering core request p (Some copy) apart seen =
        let line : ℕ = line_of request in
        let marks = marks_after p.home.marks core request in
        let change : List (ℕ × Copy) → List (ℕ × Copy) = changed line (record copy {
          free = is_alone copy.letter && not (is_marked_by_others marks core line);
          bytes = bytes_after copy.bytes (place_in_line (addr_of request)) p.home.marks core request;
        }) in
        l1_step core (in_copies_of line change) p seen (λ was l1 s. copies_step was l1 s line apart change)

    pub seen_answered : (core : ℕ) (request : Request) (p : Bank) → Apart (line_of request) → Seen p → Seen (answered core request p)
    seen_answered core request p apart seen = answering core request p (copy_of p core (line_of request)) apart seen

    seen_from_home : (write : Bool) (core line : ℕ) (row : Option HomeLine) (p : Bank) → Apart line → ((w : ℕ × HomeLine) → evicted_by p.home line ≡ Some w → Apart w.0) → Seen p
        → Seen (ready_from_home write core line row p)
    seen_from_home write core line None p apart victim seen = seen_brought (own_after write I false) core line (brought_home line p) apart (seen_brought_home line p victim seen)
    seen_from_home true core line (Some row) p apart victim seen =
        let q : Bank = with_home (looked_up_in line) p in
        seen_brought M core line (left_by_others core line row q) apart (seen_left core line row q apart seen)
    seen_from_home false core line (Some row) p apart victim seen =
        let q : Bank = with_home (looked_up_in line) p in
        seen_brought (own_after false I (is_some_core row.sharers)) core line (shared_by_others line row q) apart (seen_shared_by_others line row q apart seen)

    seen_where_shared : (write : Bool) (core line : ℕ) (p : Bank) → Apart line → Seen p → Seen (ready_where_shared write core line p)
    seen_where_shared false core line p apart seen = seen_kept S core line p apart seen
    seen_where_shared true core line p apart seen =
        let q : Bank = with_home (looked_up_in line) p in
        seen_kept M core line (left_by_others core line (row_of p.home line) q) apart (seen_left core line (row_of p.home line) q apart seen)

    seen_ready : (letter : Letter) (write : Bool) (core line : ℕ) (p : Bank) → Apart line → ((w : ℕ × HomeLine) → evicted_by p.home line ≡ Some w → Apart w.0) → Seen p → Seen (ready_by letter write core line p)
    seen_ready M write core line p apart victim seen = seen_kept M core line p apart seen
    seen_ready E write core line p apart victim seen = seen_kept (own_after write E false) core line p apart seen
    seen_ready S write core line p apart victim seen = seen_where_shared write core line p apart seen
    seen_ready I write core line p apart victim seen = seen_from_home write core line (row_at p.home line) p apart victim seen

    seen_fetched : (core line : ℕ) (row : Option HomeLine) (p : Bank) → Apart line → ((w : ℕ × HomeLine) → evicted_by p.home line ≡ Some w → Apart w.0) → Seen p → Seen (fetched_from core line row p)
    seen_fetched core line None p apart victim seen = seen_instruction_brought core line (brought_home line p) apart (seen_brought_home line p victim seen)
    seen_fetched core line (Some row) p apart victim seen = seen_instruction_brought core line (with_home (looked_up_in line) p) apart seen

    pub seen_after : (p : Bank) (core : ℕ) (request : Request) → Apart (line_of request) → ((w : ℕ × HomeLine) → evicted_by p.home (line_of request) ≡ Some w → Apart w.0) → Seen p → Seen (bank_after p core request)
    unfolding bank_after shared_after ready
    seen_after p core request apart victim seen =
        elim (is_private (l1_of p core) request) as (λ b. Seen (cond b (with_l1 core (λ l1. private_after l1 request) p) (cond (is_fetch request) (fetched_from core (line_of request) (row_at p.home (line_of request)) p) (answered core request (ready_by (own_letter p core (line_of request)) (is_write request) core (line_of request) p))))) [
          | true ↦ l1_step core (λ l1. private_after l1 request) p seen (λ was l1 s. private_step was l1 request s apart)
          | false ↦
              elim (is_fetch request) as (λ b. Seen (cond b (fetched_from core (line_of request) (row_at p.home (line_of request)) p) (answered core request (ready_by (own_letter p core (line_of request)) (is_write request) core (line_of request) p)))) [
                | true ↦ seen_fetched core (line_of request) (row_at p.home (line_of request)) p apart victim seen
                | false ↦
                    seen_answered core request (ready_by (own_letter p core (line_of request)) (is_write request) core (line_of request) p) apart
                    (seen_ready (own_letter p core (line_of request)) (is_write request) core (line_of request) p apart victim seen)
              ]
        ]
