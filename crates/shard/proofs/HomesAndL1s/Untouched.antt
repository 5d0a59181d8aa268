-- An access and an L1 that it does not touch.
use Rattle.std.proofs.Common.{◌≡◌, ◌≢◌, ℕ, ◌||◌, ◌&&◌, Bool, true, false, not, cond, List, [], ◌∷◌, Option, Some, None, is_some, refl, sym, ap, ◌∙◌, subst, inl, inr}
use Rattle.std.specs.Option.{unwrap_or}
use Rattle.std.specs.Prelude.{nat_eq}
use Rattle.std.specs.Set.{is_member}
use Rattle.std.proofs.lemmas.Bool.{cases_Bool, cases_eq, eq-eqb, ne_eqb}
use Rattle.zs_num.specs.Request.{addr_of, is_fetch, line_of}
use Rattle.zs_num.specs.declared.entry.Outcome.{Outcome}
use Rattle.zs_num.specs.declared.entry.Outcome.TheVariants.{Miss}
use Rattle.zs_num.specs.declared.request.Request.{Request}
use Rattle.zs_num.specs.declared.request.Request.TheVariants.{Load, Store, Lr, Sc, Amo, Fetch}
use Rattle.cache_set.specs.declared.letter.Letter.{Letter}
use Rattle.cache_set.specs.declared.letter.Letter.TheVariants.{M, E, S, I}
use Rattle.shard.specs.Coherence.{fetch_outcome_by, is_write, outcome_by, own_after}
use Rattle.home.specs.HomeState.{HomeLine, evicted_by, granted_in, looked_up_in, nobody, owned_in, row_at, row_of}
use Rattle.mesi_dir.specs.CoreSets.{without_core}
use Rattle.l1_cache.specs.L1State.{L1State, copy_at, has_instructions, is_private, letter_of, place_in_line, private_after, private_reply}
use Rattle.shard.specs.Marks.{reply_from}
use Rattle.shard.specs.PartsLaws.{UntouchedIsApart}
use Rattle.shard.specs.SharedStep.{Bank, answered, bank_after, bank_reply, brought_home, brought_to_own, bytes_of, copy_of, fetched_from, holders_of, instruction_brought, is_dirty_here, is_some_core, kept_with, l1_of, left_by_others, met_at_bank, others_asked, others_of, own_letter, ready, ready_by, ready_from_home, ready_from_l2, shared_after, shared_by_others, shared_reply, touched_by, with_home, with_l1}
use Rattle.shard.proofs.HomesAndL1s.Frame.{W, l1_same, modified_same, not_first, not_in_either, through_answered, through_brought, through_brought_home, through_instruction_brought, through_kept, through_l1, through_left, through_shared_by_others}
use Rattle.shard.proofs.HomesAndL1s.Private.{own_sound}
use Rattle.shard.proofs.HomesAndL1s.PrivateHits.{IsSound, met_by_own, private_hits}

-- a core that is not among the others of this one is not among all
pub member_without : (core other : ℕ) (cores : List ℕ) → core ≢ other → is_member nat_eq (without_core core cores) other ≡ is_member nat_eq cores other
member_without core other [] apart = refl
member_without core other (c ∷ cores) apart =
    elim (cases_eq c core) as (λ _. is_member nat_eq (without_core core (c ∷ cores)) other ≡ is_member nat_eq (c ∷ cores) other) [
      | inl e ↦ rw (eq-eqb c core e, ne_eqb other c (λ k. apart (sym (k ∙ e)))) (member_without core other cores apart)
      | inr e ↦ rw (ne_eqb c core e) (ap (λ (b : Bool). nat_eq other c || b) (member_without core other cores apart))
    ]

module _ (other : ℕ) (change : L1State → L1State) (core : ℕ) (apart : core ≢ other) where
  abbrev pub V : Bank → Bank
  V p = W other change p

  -- ---- a read or a write
  from_l2 : (write : Bool) (line : ℕ) (row : HomeLine) (p : Bank) (alone has : Bool) (evicted : Option (ℕ × HomeLine))
      → is_member nat_eq (others_asked (outcome_by write I true alone has false) false write core row evicted) other ≡ false
      → ready_from_l2 write core line row (V p) ≡ V (ready_from_l2 write core line row p)
  from_l2 true line row p alone has evicted h =
      let q : Bank = with_home (looked_up_in line) p in
      ap (λ (r : Bank). with_home (owned_in line core) (brought_to_own M core line r)) (through_left other change core line row q h)
      ∙ ap (with_home (owned_in line core)) (through_brought other change core apart M line (left_by_others core line row q))
  from_l2 false line row p alone has evicted h =
      let q : Bank = with_home (looked_up_in line) p in
      let letter : Letter = own_after false I (is_some_core row.sharers) in
      let named : row.alone ≡ true → is_member nat_eq row.sharers other ≡ false
      = λ t. sym (member_without core other row.sharers apart) ∙ subst (λ (b : Bool). is_member nat_eq (cond b (others_of core row) []) other ≡ false) t h in
      ap (λ (r : Bank). with_home (granted_in line core (not (is_some_core row.sharers))) (brought_to_own letter core line r)) (through_shared_by_others other change line row q named)
      ∙ ap (with_home (granted_in line core (not (is_some_core row.sharers)))) (through_brought other change core apart letter line (shared_by_others line row q))

  from_home : (write : Bool) (line : ℕ) (o : Option HomeLine) (p : Bank) (alone has dirty : Bool)
      → is_member nat_eq (others_asked (outcome_by write I (is_some o) alone has dirty) false write core (unwrap_or o nobody) (evicted_by p.home line)) other ≡ false
      → ready_from_home write core line o (V p) ≡ V (ready_from_home write core line o p)
  from_home true line None p alone has dirty h =
      ap (λ (r : Bank). with_home (owned_in line core) (brought_to_own M core line r)) (through_brought_home other change line p h)
      ∙ ap (with_home (owned_in line core)) (through_brought other change core apart M line (brought_home line p))
  from_home false line None p alone has dirty h =
      ap (λ (r : Bank). with_home (owned_in line core) (brought_to_own E core line r)) (through_brought_home other change line p h)
      ∙ ap (with_home (owned_in line core)) (through_brought other change core apart E line (brought_home line p))
  from_home true line (Some row) p alone has dirty h = from_l2 true line row p alone has (evicted_by p.home line) h
  from_home false line (Some row) p alone has dirty h = from_l2 false line row p alone has (evicted_by p.home line) h

  where_shared : (line : ℕ) (p : Bank) → is_member nat_eq (others_of core (row_of p.home line)) other ≡ false → ready_by S true core line (V p) ≡ V (ready_by S true core line p)
  where_shared line p h =
      let q : Bank = with_home (looked_up_in line) p in
      let row : HomeLine = row_of p.home line in
      ap (λ (r : Bank). with_home (owned_in line core) (kept_with M core line r)) (through_left other change core line row q h)
      ∙ ap (with_home (owned_in line core)) (through_kept other change core apart M line (left_by_others core line row q))

  pub through_ready : (letter : Letter) (write : Bool) (line : ℕ) (p : Bank) (alone has dirty : Bool)
      → is_member nat_eq (others_asked (outcome_by write letter (is_some (row_at p.home line)) alone has dirty) false write core (row_of p.home line) (evicted_by p.home line)) other ≡ false
      → ready_by letter write core line (V p) ≡ V (ready_by letter write core line p)
  through_ready M write line p alone has dirty h = through_kept other change core apart M line p
  through_ready E write line p alone has dirty h = through_kept other change core apart (own_after write E false) line p
  through_ready S false line p alone has dirty h = through_kept other change core apart S line p
  through_ready S true line p alone has dirty h = where_shared line p h
  through_ready I write line p alone has dirty h = from_home write line (row_at p.home line) p alone has dirty h

  -- ---- a fetch
  pub through_fetched : (line : ℕ) (o : Option HomeLine) (write : Bool) (p : Bank) (dirty : Bool)
      → is_member nat_eq (others_asked (fetch_outcome_by false (is_some o) dirty) true write core (unwrap_or o nobody) (evicted_by p.home line)) other ≡ false
      → fetched_from core line o (V p) ≡ V (fetched_from core line o p)
  through_fetched line None write p dirty h =
      ap (instruction_brought core line) (through_brought_home other change line p h) ∙ through_instruction_brought other change core apart line (brought_home line p)
  through_fetched line (Some row) write p dirty h = through_instruction_brought other change core apart line (with_home (looked_up_in line) p)

  -- ---- how it is met
  dirty_same : (v : Option (ℕ × HomeLine)) (p : Bank) → is_member nat_eq (holders_of v) other ≡ false → is_dirty_here (V p) v ≡ is_dirty_here p v
  dirty_same None p h = refl
  dirty_same (Some v) p h = ap (λ (b : Bool). v.1.dirty || b) (modified_same other change v.0 v.1.sharers p (not_in_either v.1.sharers v.1.fetchers other h).0)

  met_same : (write : Bool) (letter : Letter) (in_l2 alone has : Bool) (row : HomeLine) (v : Option (ℕ × HomeLine)) (p : Bank)
      → is_member nat_eq (others_asked (outcome_by write letter in_l2 alone has (is_dirty_here p v)) false write core row v) other ≡ false
      → outcome_by write letter in_l2 alone has (is_dirty_here (V p) v) ≡ outcome_by write letter in_l2 alone has (is_dirty_here p v)
  met_same false M in_l2 alone has row v p h = refl
  met_same false E in_l2 alone has row v p h = refl
  met_same false S in_l2 alone has row v p h = refl
  met_same false I true alone has row v p h = refl
  met_same false I false alone has row v p h = ap (λ (b : Bool). Miss b) (dirty_same v p h)
  met_same true M in_l2 alone has row v p h = refl
  met_same true E in_l2 alone has row v p h = refl
  met_same true S in_l2 alone has row v p h = refl
  met_same true I true alone has row v p h = refl
  met_same true I false alone has row v p h = ap (λ (b : Bool). Miss b) (dirty_same v p h)

  fetch_met_same : (held in_l2 write : Bool) (row : HomeLine) (v : Option (ℕ × HomeLine)) (p : Bank)
      → is_member nat_eq (others_asked (fetch_outcome_by held in_l2 (is_dirty_here p v)) true write core row v) other ≡ false
      → fetch_outcome_by held in_l2 (is_dirty_here (V p) v) ≡ fetch_outcome_by held in_l2 (is_dirty_here p v)
  fetch_met_same true in_l2 write row v p h = refl
  fetch_met_same false true write row v p h = refl
  fetch_met_same false false write row v p h = ap (λ (b : Bool). Miss b) (dirty_same v p h)

  -- ---- an access
  abbrev pub row_for : Bank → Request → HomeLine
  row_for p request = row_of p.home (line_of request)

  abbrev pub has_for : Bank → Request → Bool
  has_for p request = is_some_core (others_of core (row_for p request))

  abbrev pub victim_for : Bank → Request → Option (ℕ × HomeLine)
  victim_for p request = evicted_by p.home (line_of request)

  -- as met_at_bank, of an access that is a fetch or is not
  abbrev pub met_where : (fetch : Bool) → Bank → Request → (dirty : Bool) → Outcome
  met_where fetch p request dirty =
      cond fetch (fetch_outcome_by (has_instructions (l1_of p core) (line_of request)) (is_some (row_at p.home (line_of request))) dirty)
      (outcome_by (is_write request) (own_letter p core (line_of request)) (is_some (row_at p.home (line_of request))) ((row_for p request).alone && has_for p request) (has_for p request) dirty)

  abbrev pub NotAsked : (fetch : Bool) → Bank → Request → Type 0
  NotAsked fetch p request =
      is_member nat_eq (others_asked (met_where fetch p request (is_dirty_here p (victim_for p request))) fetch (is_write request) core (row_for p request) (victim_for p request)) other ≡ false

  ready_same : (p : Bank) (request : Request) → NotAsked false p request → ready (V p) core request ≡ V (ready p core request)
  unfolding ready
  ready_same p request h =
      ap (λ (l1 : L1State). ready_by (letter_of (copy_at l1 (line_of request))) (is_write request) core (line_of request) (V p)) (l1_same other change core p apart)
      ∙ through_ready (own_letter p core (line_of request)) (is_write request) (line_of request) p ((row_for p request).alone && has_for p request) (has_for p request) (is_dirty_here p (victim_for p request)) h

  after_same : (fetch : Bool) (p : Bank) (request : Request) → (fetch ≡ true → has_instructions (l1_of p core) (line_of request) ≡ false) → NotAsked fetch p request
      → cond fetch (fetched_from core (line_of request) (row_at p.home (line_of request)) (V p)) (answered core request (ready (V p) core request))
      ≡ V (cond fetch (fetched_from core (line_of request) (row_at p.home (line_of request)) p) (answered core request (ready p core request)))
  after_same true p request absent h =
      let v : Option (ℕ × HomeLine) = victim_for p request in
      through_fetched (line_of request) (row_at p.home (line_of request)) (is_write request) p (is_dirty_here p v)
      (subst (λ (b : Bool). is_member nat_eq (others_asked (fetch_outcome_by b (is_some (row_at p.home (line_of request))) (is_dirty_here p v)) true (is_write request) core (row_for p request) v) other ≡ false) (absent refl) h)
  after_same false p request absent h =
      ap (answered core request) (ready_same p request h) ∙ through_answered other change core apart request (ready p core request)

  reply_same : (fetch : Bool) (p : Bank) (request : Request) → NotAsked fetch p request
      → cond fetch 0 (reply_from (bytes_of (copy_of (ready (V p) core request) core (line_of request))) (place_in_line (addr_of request)) p.home.marks core request)
      ≡ cond fetch 0 (reply_from (bytes_of (copy_of (ready p core request) core (line_of request))) (place_in_line (addr_of request)) p.home.marks core request)
  reply_same true p request h = refl
  reply_same false p request h =
      ap (λ (l1 : L1State). reply_from (bytes_of (copy_at l1 (line_of request))) (place_in_line (addr_of request)) p.home.marks core request)
      (ap (λ (q : Bank). l1_of q core) (ready_same p request h) ∙ l1_same other change core (ready p core request) apart)

  outcome_same : (fetch : Bool) (p : Bank) (request : Request) → NotAsked fetch p request
      → met_where fetch p request (is_dirty_here (V p) (victim_for p request)) ≡ met_where fetch p request (is_dirty_here p (victim_for p request))
  outcome_same true p request h =
      fetch_met_same (has_instructions (l1_of p core) (line_of request)) (is_some (row_at p.home (line_of request))) (is_write request) (row_for p request) (victim_for p request) p h
  outcome_same false p request h =
      met_same (is_write request) (own_letter p core (line_of request)) (is_some (row_at p.home (line_of request))) ((row_for p request).alone && has_for p request) (has_for p request) (row_for p request) (victim_for p request) p h

  instructions_absent : (l1 : L1State) (request : Request) → is_private l1 request ≡ false → is_fetch request ≡ true → has_instructions l1 (line_of request) ≡ false
  unfolding is_private
  instructions_absent l1 (Load width addr) h f = absurd cc
  instructions_absent l1 (Store width addr value) h f = absurd cc
  instructions_absent l1 (Lr width addr) h f = absurd cc
  instructions_absent l1 (Sc width paired addr value) h f = absurd cc
  instructions_absent l1 (Amo width op addr value) h f = absurd cc
  instructions_absent l1 (Fetch addr) h f = h

  module _ (p : Bank) (request : Request) where
    abbrev pub private : Bool
    private = is_private (l1_of p core) request

    abbrev pub Same : Type 0
    Same = (bank_after (V p) core request ≡ V (bank_after p core request)) × (bank_reply (V p) core request ≡ bank_reply p core request) × (met_at_bank (V p) core request ≡ met_at_bank p core request)

    -- the bank after it, whether or not it is private
    after_first : bank_after (V p) core request ≡ cond private (with_l1 core (λ l1. private_after l1 request) (V p)) (shared_after (V p) core request)
    unfolding bank_after
    after_first = ap (λ (l1 : L1State). cond (is_private l1 request) (with_l1 core (λ l1. private_after l1 request) (V p)) (shared_after (V p) core request)) (l1_same other change core p apart)

    reply_first : bank_reply (V p) core request ≡ cond private (private_reply (l1_of p core) request) (shared_reply (V p) core request)
    unfolding bank_reply
    reply_first = ap (λ (l1 : L1State). cond (is_private l1 request) (private_reply l1 request) (shared_reply (V p) core request)) (l1_same other change core p apart)

    met_first : met_at_bank (V p) core request ≡ met_where (is_fetch request) p request (is_dirty_here (V p) (victim_for p request))
    unfolding met_at_bank
    met_first =
        ap (λ (l1 : L1State). met_by_own l1 request (is_some (row_at p.home (line_of request))) ((row_for p request).alone && has_for p request) (has_for p request) (is_dirty_here (V p) (victim_for p request))) (l1_same other change core p apart)

    where_private : IsSound (copy_at (l1_of p core) (line_of request)) → private ≡ true → Same
    unfolding bank_after bank_reply met_at_bank
    where_private sound t = (
      after_first
          ∙ (ap (λ (b : Bool). cond b (with_l1 core (λ l1. private_after l1 request) (V p)) (shared_after (V p) core request)) t
          ∙ (through_l1 other change core (λ l1. private_after l1 request) p apart
          ∙ sym (ap (λ (b : Bool). V (cond b (with_l1 core (λ l1. private_after l1 request) p) (shared_after p core request))) t))),
      reply_first
          ∙ (ap (λ (b : Bool). cond b (private_reply (l1_of p core) request) (shared_reply (V p) core request)) t
          ∙ sym (ap (λ (b : Bool). cond b (private_reply (l1_of p core) request) (shared_reply p core request)) t)),
      met_first
          ∙ (private_hits (l1_of p core) request (is_some (row_at p.home (line_of request))) ((row_for p request).alone && has_for p request) (has_for p request) (is_dirty_here (V p) (victim_for p request)) t sound
          ∙ sym (private_hits (l1_of p core) request (is_some (row_at p.home (line_of request))) ((row_for p request).alone && has_for p request) (has_for p request) (is_dirty_here p (victim_for p request)) t sound)),
    )

    where_shared_access : private ≡ false → NotAsked (is_fetch request) p request → Same
    unfolding bank_after bank_reply met_at_bank shared_after shared_reply
    where_shared_access t h = (
      after_first
          ∙ (ap (λ (b : Bool). cond b (with_l1 core (λ l1. private_after l1 request) (V p)) (shared_after (V p) core request)) t
          ∙ (after_same (is_fetch request) p request (instructions_absent (l1_of p core) request t) h
          ∙ sym (ap (λ (b : Bool). V (cond b (with_l1 core (λ l1. private_after l1 request) p) (shared_after p core request))) t))),
      reply_first
          ∙ (ap (λ (b : Bool). cond b (private_reply (l1_of p core) request) (shared_reply (V p) core request)) t
          ∙ (reply_same (is_fetch request) p request h
          ∙ sym (ap (λ (b : Bool). cond b (private_reply (l1_of p core) request) (shared_reply p core request)) t))),
      met_first ∙ outcome_same (is_fetch request) p request h,
    )

-- the same, whether or not the parts fit together, where the core's own copy is sound
pub untouched_at : (p : Bank) (core other : ℕ) (request : Request) (change : L1State → L1State) → IsSound (copy_at (l1_of p core) (line_of request)) → is_member nat_eq (touched_by p core request) other ≡ false
    → (bank_after (with_l1 other change p) core request ≡ with_l1 other change (bank_after p core request))
    × (bank_reply (with_l1 other change p) core request ≡ bank_reply p core request)
    × (met_at_bank (with_l1 other change p) core request ≡ met_at_bank p core request)
unfolding met_at_bank touched_by
untouched_at p core other request change sound h =
    let met = met_at_bank p core request in
    let asked_of : Bool → List ℕ = λ b. cond b [] (others_asked met (is_fetch request) (is_write request) core (row_of p.home (line_of request)) (evicted_by p.home (line_of request))) in
    let private : Bool = is_private (l1_of p core) request in
    let first = not_first core other (asked_of private) h in
    let apart : core ≢ other = λ e. first.0 (sym e) in
    elim (cases_Bool private) as (λ _. Same other change core apart p request) [
      | inl t ↦ where_private other change core apart p request sound t
      | inr t ↦ where_shared_access other change core apart p request t (subst (λ (b : Bool). is_member nat_eq (asked_of b) other ≡ false) t first.1)
    ]

pub untouched : UntouchedIsApart
untouched p core other request change are asked within h = untouched_at p core other request change (own_sound p core request are asked) h
