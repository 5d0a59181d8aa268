-- An access of a bank does to the caches that are seen what the table says.
use Rattle.std.proofs.Common.{◌≡◌, ℕ, ◌%◌, ◌<◌, Bool, true, false, cond, length, Option, Some, None, is_some, refl, sym, ap, ◌∙◌}
use Rattle.std.specs.Option.{option_map_or}
use Rattle.std.specs.Prelude.{slice_set}
use Rattle.zs_num.specs.Request.{line_at, line_of}
use Rattle.zs_num.specs.declared.request.Request.{Request}
use Rattle.zs_num.specs.declared.request.Request.TheVariants.{Load, Store, Lr, Sc, Amo, Fetch}
use Rattle.cache_set.specs.declared.letter.Letter.{Letter}
use Rattle.cache_set.specs.declared.letter.Letter.TheVariants.{M, E, S, I}
use Rattle.shard.specs.Coherence.{Caches, after_at, caches_after, dirty_at, fetch_holds, fetch_outcome_by, filled_into_l1i, is_alone, is_dirty_victim, is_valid, is_write, kept_first, l2_victim, on_l1i, on_l2, some_other}
use Rattle.home.specs.HomeState.{HomeLine, looked_up_in, row_at}
use Rattle.l1_cache.specs.L1State.{Copy, L1State, copy_at, has_instructions, instruction_used_in, is_private, kept_first_in, letter_of, may_write, place_in_line, private_after, stored, used_in}
use Rattle.shard.specs.PartsLaws.{AreParts, IsAsked, IsOwn}
use Rattle.shard.specs.Seen.{caches_seen}
use Rattle.shard.specs.SharedStep.{Bank, answered, bank_after, brought_home, copy_of, fetched_from, l1_of, own_letter, ready, ready_by, shared_after, with_home, with_l1}
use Rattle.shard.proofs.HomesAndL1s.Banks.{IsBankOf, brought_home_bank, core_in, looked_up_bank, own_in, same_bank}
use Rattle.shard.proofs.HomesAndL1s.BroughtSeen.{answered_seen, first_seen, instruction_brought_seen, instruction_used_seen, used_seen}
use Rattle.shard.proofs.HomesAndL1s.EvictedSeen.{home_seen, in_l2_seen}
use Rattle.shard.proofs.HomesAndL1s.Fit.{AreFit}
use Rattle.shard.proofs.HomesAndL1s.FitOf.{fit_of}
use Rattle.shard.proofs.HomesAndL1s.LettersSeen.{copy_valid, holds_seen, letter_seen}
use Rattle.shard.proofs.HomesAndL1s.ListsSeen.{looked_up_seen}
use Rattle.shard.proofs.HomesAndL1s.ReadyBank.{ready_bank}
use Rattle.shard.proofs.HomesAndL1s.ReadySeen.{ready_seen, then}

-- a test of what is there
pub there : (o : Option Copy) → is_some o ≡ true → (copy : Copy) × (o ≡ Some copy)
there None h = absurd cc
there (Some copy) h = (copy, refl)

pub free_there : (o : Option Copy) → may_write o ≡ true → (copy : Copy) × (o ≡ Some copy) × (copy.free ≡ true)
free_there None h = absurd cc
free_there (Some copy) h = (copy, refl, h)

module _ (p : Bank) (are : AreParts p) (core line : ℕ) (within : core < length p.l1s) (own : IsOwn p line) where
  abbrev c : Caches
  c = caches_seen p

  fit : AreFit p
  fit = fit_of p are

  abbrev table : (letter : Letter) (write in_l2 alone dirty : Bool) → Caches
  table letter write in_l2 alone dirty = then p are core line within own letter write in_l2 alone dirty

  -- ---- reads and writes
  by_table : (write : Bool) → table (own_letter p core line) write (is_some (row_at p.home line)) (some_other is_alone c core line) (is_dirty_victim c (l2_victim c line)) ≡ after_at c core line write
  by_table write =
      let alone : Bool = some_other is_alone c core line in
      let dirty : Bool = is_dirty_victim c (l2_victim c line) in
      ap (λ (b : Bool). table (own_letter p core line) write b alone dirty) (sym (in_l2_seen p line))
      ∙ ap (λ (x : Letter). table x write (is_some (dirty_at c line)) alone dirty) (sym (letter_seen p fit core line own))

  pub shared_seen : (request : Request) → line_of request ≡ line → (write : Bool) → is_write request ≡ write
      → caches_seen (answered core request (ready_by (own_letter p core line) write core line p)) ≡ after_at c core line write
  shared_seen request is write w =
      let r : Bank = ready_by (own_letter p core line) write core line p in
      let bank : IsBankOf p r = ready_bank p fit core line (own_letter p core line) write in
      answered_seen core request r bank.fit (core_in p r bank core within) (own_in p r bank (line_of request) (ap (λ (z : ℕ). z % p.home.shards) is ∙ own))
      ∙ (ready_seen p are core line within own (own_letter p core line) refl write (some_other is_alone c core line) (is_dirty_victim c (l2_victim c line))
      ∙ by_table write)

  reading : (letter : Letter) → is_valid letter ≡ true → (in_l2 alone dirty : Bool) → kept_first core line letter c ≡ table letter false in_l2 alone dirty
  reading M h in_l2 alone dirty = refl
  reading E h in_l2 alone dirty = refl
  reading S h in_l2 alone dirty = refl
  reading I h in_l2 alone dirty = absurd cc

  writing : (letter : Letter) → is_alone letter ≡ true → (in_l2 alone dirty : Bool) → kept_first core line M c ≡ table letter true in_l2 alone dirty
  writing M h in_l2 alone dirty = refl
  writing E h in_l2 alone dirty = refl
  writing S h in_l2 alone dirty = absurd cc
  writing I h in_l2 alone dirty = absurd cc

  -- a load of a line that the core has
  pub loaded_seen : is_some (copy_of p core line) ≡ true → caches_seen (with_l1 core (used_in line) p) ≡ after_at c core line false
  loaded_seen has =
      let copy = there (copy_of p core line) has in
      let letter : own_letter p core line ≡ copy.0.letter = ap letter_of copy.1 in
      used_seen core line p fit within own copy.0 copy.1
      ∙ (reading copy.0.letter ((copy_valid p are core line copy.0 own copy.1)) (is_some (row_at p.home line)) (some_other is_alone c core line) (is_dirty_victim c (l2_victim c line))
      ∙ (ap (λ (x : Letter). table x false (is_some (row_at p.home line)) (some_other is_alone c core line) (is_dirty_victim c (l2_victim c line))) (sym letter)
      ∙ by_table false))

  -- a store to one that is free to write
  pub stored_seen : (change : Copy → Copy) → ((copy : Copy) → (change copy).letter ≡ M) → may_write (copy_of p core line) ≡ true
      → caches_seen (with_l1 core (λ l1. option_map_or (λ copy. kept_first_in line (change copy) l1) (copy_at l1 line) l1) p) ≡ after_at c core line true
  stored_seen change modified free =
      let copy = free_there (copy_of p core line) free in
      let letter : own_letter p core line ≡ copy.0.letter = ap letter_of copy.1 in
      let l1 : L1State = l1_of p core in
      ap (λ (o : Option Copy). caches_seen (record p { l1s = slice_set p.l1s core (option_map_or (λ copy. kept_first_in line (change copy) l1) o l1) })) copy.1
      ∙ (first_seen core line p fit within own (change copy.0)
      ∙ (ap (λ (x : Letter). kept_first core line x c) (modified copy.0)
      ∙ (writing copy.0.letter ((are.free core line copy.0 own copy.1 copy.2).0) (is_some (row_at p.home line)) (some_other is_alone c core line) (is_dirty_victim c (l2_victim c line))
      ∙ (ap (λ (x : Letter). table x true (is_some (row_at p.home line)) (some_other is_alone c core line) (is_dirty_victim c (l2_victim c line))) (sym letter)
      ∙ by_table true))))

  -- ---- fetches
  abbrev fetches : (held in_l2 dirty : Bool) → Caches
  fetches held in_l2 dirty = on_l1i held core line (on_l2 (fetch_outcome_by held in_l2 dirty) line c)

  abbrev pub by_fetches : Caches
  by_fetches = fetches (fetch_holds c core line) (is_some (dirty_at c line)) (is_dirty_victim c (l2_victim c line))

  pub used_fetch_seen : has_instructions (l1_of p core) line ≡ true → caches_seen (with_l1 core (instruction_used_in line) p) ≡ by_fetches
  used_fetch_seen has =
      instruction_used_seen core line p fit within own
      ∙ sym (ap (λ (b : Bool). fetches b (is_some (dirty_at c line)) (is_dirty_victim c (l2_victim c line))) (holds_seen p fit core line own ∙ has))

  from : (dirty : Bool) (o : Option HomeLine) → caches_seen (fetched_from core line o p) ≡ fetches false (is_some o) dirty
  from dirty None =
      let h : Bank = brought_home line p in
      let bank : IsBankOf p h = brought_home_bank p fit line in
      instruction_brought_seen core line h bank.fit (core_in p h bank core within) (own_in p h bank line own) ∙ ap (filled_into_l1i core line) (home_seen p are line)
  from dirty (Some row) =
      let q : Bank = with_home (looked_up_in line) p in
      let bank : IsBankOf p q = looked_up_bank p p (same_bank p fit) line in
      instruction_brought_seen core line q bank.fit (core_in p q bank core within) (own_in p q bank line own) ∙ ap (filled_into_l1i core line) (looked_up_seen line p)

  pub fetch_seen : has_instructions (l1_of p core) line ≡ false → caches_seen (fetched_from core line (row_at p.home line) p) ≡ by_fetches
  fetch_seen none =
      let dirty : Bool = is_dirty_victim c (l2_victim c line) in
      from dirty (row_at p.home line)
      ∙ (ap (λ (b : Bool). fetches false b dirty) (sym (in_l2_seen p line))
      ∙ sym (ap (λ (b : Bool). fetches b (is_some (dirty_at c line)) dirty) (holds_seen p fit core line own ∙ none)))

-- what is seen of either of two banks
either : (b : Bool) (x y : Bank) (z : Caches) → (b ≡ true → caches_seen x ≡ z) → (b ≡ false → caches_seen y ≡ z) → caches_seen (cond b x y) ≡ z
either true x y z f g = f refl
either false x y z f g = g refl

pub after_seen : (p : Bank) → AreParts p → (core : ℕ) (request : Request) → IsAsked p core request → caches_seen (bank_after p core request) ≡ caches_after (caches_seen p) core request
unfolding bank_after shared_after ready caches_after is_private private_after
after_seen p are core (Load width addr) asked =
    let line : ℕ = line_at addr in
    let request : Request = Load width addr in
    either (is_some (copy_of p core line)) (with_l1 core (used_in line) p) (answered core request (ready_by (own_letter p core line) false core line p)) (after_at (caches_seen p) core line false)
    (loaded_seen p are core line asked.known asked.own) (λ _. shared_seen p are core line asked.known asked.own request refl false refl)
after_seen p are core (Store width addr value) asked =
    let line : ℕ = line_at addr in
    let request : Request = Store width addr value in
    let change : Copy → Copy = stored (place_in_line addr) width value in
    either (may_write (copy_of p core line)) (with_l1 core (λ l1. option_map_or (λ copy. kept_first_in line (change copy) l1) (copy_at l1 line) l1) p) (answered core request (ready_by (own_letter p core line) true core line p))
    (after_at (caches_seen p) core line true)
    (stored_seen p are core line asked.known asked.own change (λ copy. refl)) (λ _. shared_seen p are core line asked.known asked.own request refl true refl)
after_seen p are core (Lr width addr) asked = shared_seen p are core (line_at addr) asked.known asked.own (Lr width addr) refl false refl
after_seen p are core (Sc width paired addr value) asked = shared_seen p are core (line_at addr) asked.known asked.own (Sc width paired addr value) refl true refl
after_seen p are core (Amo width op addr value) asked = shared_seen p are core (line_at addr) asked.known asked.own (Amo width op addr value) refl true refl
after_seen p are core (Fetch addr) asked =
    let line : ℕ = line_at addr in
    either (has_instructions (l1_of p core) line) (with_l1 core (instruction_used_in line) p) (fetched_from core line (row_at p.home line) p) (by_fetches p are core line asked.known asked.own)
    (used_fetch_seen p are core line asked.known asked.own) (fetch_seen p are core line asked.known asked.own)
