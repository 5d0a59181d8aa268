-- How a bank meets an access, private or shared.
use Rattle.std.proofs.Common.{◌≡◌, ℕ, ◌<◌, Bool, true, false, cond, List, length, get_or, set, Option, Some, None, is_some, refl, sym, ap, ◌∙◌, arith}
use Rattle.std.specs.Prelude.{IsSome}
use Rattle.std.proofs.lemmas.List.{set-get_or}
use Rattle.zs_num.specs.Request.{addr_of, is_fetch, line_of}
use Rattle.zs_num.specs.declared.entry.Outcome.{Outcome}
use Rattle.zs_num.specs.declared.entry.Outcome.TheVariants.{Hit}
use Rattle.zs_num.specs.declared.request.Request.{Request}
use Rattle.zs_num.specs.declared.request.Request.TheVariants.{Load, Store, Lr, Sc, Amo, Fetch}
use Rattle.home.specs.HomeState.{HomeState, evicted_by, row_at, row_of}
use Rattle.l1_cache.specs.L1State.{Copy, L1State, has_instructions, is_private, no_l1, place_in_line, private_after, private_reply}
use Rattle.shard.specs.BankSteps.{AsksFor, bank_with, line_met}
use Rattle.shard.specs.Coherence.{after_at, after_fetch_at, caches_after, fetch_outcome_by, is_write}
use Rattle.shard.specs.Marks.{reply_from}
use Rattle.shard.specs.PartsLaws.{AreParts, IsAsked}
use Rattle.shard.specs.Seen.{caches_seen}
use Rattle.shard.specs.SharedStep.{Bank, answered, bank_after, bank_reply, bytes_of, copy_of, fetched_from, is_dirty_here, is_some_core, l1_of, met_at_bank, others_of, own_letter, ready, ready_by, shared_after, shared_reply, with_l1}
use Rattle.shard.proofs.BankSteps.{with_home_of}
use Rattle.shard.proofs.Coherent.{coherent_stays, l2_laws}
use Rattle.shard.proofs.HomesAndL1s.AccessBytes.{asked_inside}
use Rattle.shard.proofs.HomesAndL1s.Accesses.{prepared}
use Rattle.shard.proofs.HomesAndL1s.Private.{private_is_of_one_l1}
use Rattle.shard.proofs.HomesAndL1s.ReadyParts.{Prepared}

-- ---- private
abbrev pub alone_step : Request → L1State → L1State
alone_step request l1 = cond (is_private l1 request) (private_after l1 request) l1

module _ (home other : HomeState) (l1s s : List L1State) (core : ℕ) (request : Request) (step : bank_with other s ≡ with_l1 core (alone_step request) (bank_with other l1s)) where
  abbrev l1 : L1State
  l1 = get_or l1s core no_l1

  abbrev p : Bank
  p = bank_with home l1s

  pub served_alone : is_private l1 request ≡ true → bank_with home s ≡ bank_after p core request
  unfolding bank_after
  served_alone private =
      ap (with_home_of home) step
      ∙ (ap (λ (b : Bool). bank_with home (set l1s core (cond b (private_after l1 request) l1))) private
      ∙ sym (ap (λ (b : Bool). cond b (with_l1 core (λ l1. private_after l1 request) p) (shared_after p core request)) private))

  pub same_l1s : is_private l1 request ≡ false → s ≡ l1s
  same_l1s shared =
      ap (λ (b : Bank). b.l1s) step
      ∙ (ap (λ (b : Bool). set l1s core (cond b (private_after l1 request) l1)) shared ∙ set-get_or l1s core no_l1)

module _ (p : Bank) (core : ℕ) (request : Request) where
  pub replied_alone : is_private (l1_of p core) request ≡ true → private_reply (l1_of p core) request ≡ bank_reply p core request
  unfolding bank_reply
  replied_alone private = sym (ap (λ (b : Bool). cond b (private_reply (l1_of p core) request) (shared_reply p core request)) private)

  pub met_alone : AreParts p → IsAsked p core request → is_private (l1_of p core) request ≡ true → Hit ≡ met_at_bank p core request
  met_alone are asked private = sym (private_is_of_one_l1 p core request are asked private).0

  pub shared_is : is_private (l1_of p core) request ≡ false → shared_after p core request ≡ bank_after p core request
  unfolding bank_after
  shared_is shared = sym (ap (λ (b : Bool). cond b (with_l1 core (λ l1. private_after l1 request) p) (shared_after p core request)) shared)

  pub reply_is : is_private (l1_of p core) request ≡ false → shared_reply p core request ≡ bank_reply p core request
  unfolding bank_reply
  reply_is shared = sym (ap (λ (b : Bool). cond b (private_reply (l1_of p core) request) (shared_reply p core request)) shared)

  pub asks_for : AreParts p → IsAsked p core request → AsksFor p core (line_of request)
  asks_for are asked = record { known = asked.known; own = asked.own; inside = asked_inside p are core request asked }

-- ---- a fetch
pub fetch_absent : (l1 : L1State) (request : Request) → is_fetch request ≡ true → is_private l1 request ≡ false → has_instructions l1 (line_of request) ≡ false
unfolding is_private
fetch_absent l1 (Load width addr) f h = absurd cc
fetch_absent l1 (Store width addr value) f h = absurd cc
fetch_absent l1 (Lr width addr) f h = absurd cc
fetch_absent l1 (Sc width paired addr value) f h = absurd cc
fetch_absent l1 (Amo width op addr value) f h = absurd cc
fetch_absent l1 (Fetch addr) f h = h

module _ (p : Bank) (core : ℕ) (request : Request) where
  abbrev line : ℕ
  line = line_of request

  abbrev fetched : Bank
  fetched = fetched_from core line (row_at p.home line) p

  abbrev has : Bool
  has = is_some_core (others_of core (row_of p.home line))

  abbrev dirty : Bool
  dirty = is_dirty_here p (evicted_by p.home line)

  abbrev met_fetch : Outcome
  met_fetch = fetch_outcome_by (has_instructions (l1_of p core) line) (is_some (row_at p.home line)) dirty

  abbrev made : Bank
  made = ready_by (own_letter p core line) (is_write request) core line p

  pub fetched_after : is_fetch request ≡ true → fetched ≡ shared_after p core request
  unfolding shared_after
  fetched_after f = sym (ap (λ (b : Bool). cond b fetched (answered core request (ready p core request))) f)

  pub fetched_reply : is_fetch request ≡ true → 0 ≡ shared_reply p core request
  unfolding shared_reply
  fetched_reply f = sym (ap (λ (b : Bool). cond b 0 (reply_from (bytes_of (copy_of (ready p core request) core line)) (place_in_line (addr_of request)) p.home.marks core request)) f)

  pub fetched_met : is_fetch request ≡ true → has_instructions (l1_of p core) line ≡ false → fetch_outcome_by false (is_some (row_at p.home line)) dirty ≡ met_at_bank p core request
  unfolding met_at_bank
  fetched_met f none =
      sym (ap (λ (b : Bool). cond b met_fetch (line_met p core line (is_write request))) f ∙ ap (λ (b : Bool). fetch_outcome_by b (is_some (row_at p.home line)) dirty) none)

  -- ---- a read or a write
  pub read_after : is_fetch request ≡ false → answered core request made ≡ shared_after p core request
  unfolding shared_after ready
  read_after f = sym (ap (λ (b : Bool). cond b fetched (answered core request made)) f)

  pub read_reply : is_fetch request ≡ false → reply_from (bytes_of (copy_of made core line)) (place_in_line (addr_of request)) p.home.marks core request ≡ shared_reply p core request
  unfolding shared_reply ready
  read_reply f = sym (ap (λ (b : Bool). cond b 0 (reply_from (bytes_of (copy_of made core line)) (place_in_line (addr_of request)) p.home.marks core request)) f)

  pub read_met : is_fetch request ≡ false → line_met p core line (is_write request) ≡ met_at_bank p core request
  unfolding met_at_bank
  read_met f = sym (ap (λ (b : Bool). cond b met_fetch (line_met p core line (is_write request))) f)

  module _ (are : AreParts p) (asked : IsAsked p core request) (reads : is_fetch request ≡ false) where
    table : after_at (caches_seen p) core line (is_write request) ≡ caches_after (caches_seen p) core request
    unfolding caches_after
    table = sym (ap (λ (b : Bool). cond b (after_fetch_at (caches_seen p) core line) (after_at (caches_seen p) core line (is_write request))) reads)

    is_prepared : Prepared p made core line (is_write request)
    is_prepared = prepared coherent_stays l2_laws p are core request asked table

    pub made_marks : made.home.marks ≡ p.home.marks
    made_marks = is_prepared.marks

    pub made_room : core < length made.home.marks
    made_room =
        let marks : length made.home.marks ≡ length made.l1s = is_prepared.parts.cores.2 in
        let cores : length made.l1s ≡ length p.l1s = is_prepared.keeps.bank.cores in
        let known : core < length p.l1s = asked.known in
        omega arith

    pub made_there : IsSome (copy_of made core line)
    made_there = some_is (copy_of made core line) is_prepared.copy is_prepared.there where
      some_is : (o : Option Copy) (copy : Copy) → o ≡ Some copy → IsSome o
      some_is None copy e = absurd cc
      some_is (Some was) copy e = refl
