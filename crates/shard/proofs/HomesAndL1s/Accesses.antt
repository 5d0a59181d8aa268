-- Every access of a bank changes the bytes of its line alone, and leaves parts.
use Rattle.std.proofs.Common.{◌≡◌, ℕ, ◌<◌, Bool, true, false, cond, List, length, Option, Some, None, is_some, refl, sym, ap, ◌∙◌, subst}
use Rattle.std.specs.Option.{option_map_or}
use Rattle.std.specs.Prelude.{IsTrue, nat_lt}
use Rattle.std.proofs.lemmas.List.{length-map}
use Rattle.zs_num.specs.Request.{addr_of, line_at, line_of}
use Rattle.zs_num.specs.declared.request.Request.{Request}
use Rattle.zs_num.specs.declared.request.Request.TheVariants.{Load, Store, Lr, Sc, Amo, Fetch}
use Rattle.cache_set.specs.Ways.{without}
use Rattle.cache_set.specs.declared.letter.Letter.{Letter}
use Rattle.cache_set.specs.declared.letter.Letter.TheVariants.{M, E, S, I}
use Rattle.flat_memory.specs.FlatMemory.{number_in}
use Rattle.shard.specs.Coherence.{Caches, after_at, caches_after, copies_evicted, filled_into_l2, instructions_recalled, is_alone, is_write, l2_victim, looked_up, recalled}
use Rattle.shard.specs.HaveL1i.{have_l1i}
use Rattle.home.specs.HomeState.{HomeLine, bytes_at, looked_up_in, nobody, row_at}
use Rattle.l1_cache.specs.L1State.{Copy, L1State, copy_at, has_instructions, instruction_used_in, is_private, kept_first_in, letter_of, may_write, number_of, place_in_line, private_after, private_reply, stored, used_in}
use Rattle.shard.specs.Laws.{CoherentStays}
use Rattle.cache_set.specs.Lines.{in_set_of}
use Rattle.shard.specs.Marks.{bytes_after, marks_after, reply_from}
use Rattle.shard.specs.PartsLaws.{AreParts, IsAsked, IsInMemory}
use Rattle.shard.specs.Seen.{caches_seen, newest_in}
use Rattle.shard.specs.SharedStep.{Bank, answered, bank_after, bank_reply, brought_home, bytes_of, copy_of, fetched_from, instruction_brought, kept_with, l1_of, own_letter, ready, ready_by, shared_after, shared_reply, with_home, with_l1}
use Rattle.shard.specs.StandsFor.{AreCoherent, HaveRoomForLines}
use Rattle.shard.proofs.HomesAndL1s.AccessBytes.{asked_inside}
use Rattle.shard.proofs.HomesAndL1s.AnsweredFits.{Accessed, answered_accesses}
use Rattle.shard.proofs.HomesAndL1s.Banks.{IsBankOf, core_in, own_in}
use Rattle.shard.proofs.HomesAndL1s.Begun.{Begun, looked_begins}
use Rattle.shard.proofs.HomesAndL1s.BroughtHome.{brought_begins}
use Rattle.shard.proofs.HomesAndL1s.BroughtSeen.{answered_seen}
use Rattle.shard.proofs.HomesAndL1s.CachesSeen.{fetch_seen, free_there, loaded_seen, shared_seen, there, used_fetch_seen}
use Rattle.shard.proofs.HomesAndL1s.Decisions.{cores_seen}
use Rattle.shard.proofs.HomesAndL1s.EvictedSeen.{home_seen}
use Rattle.shard.proofs.HomesAndL1s.FetchParts.{Fetched, fetched_done}
use Rattle.shard.proofs.HomesAndL1s.FitOf.{fit_of}
use Rattle.shard.proofs.L2Laws.{L2Laws}
use Rattle.shard.proofs.HomesAndL1s.LineFits.{memory_in}
use Rattle.shard.proofs.HomesAndL1s.ListsSeen.{looked_up_seen}
use Rattle.shard.proofs.HomesAndL1s.OrderParts.{KeepsLines, instruction_used_keeps, order_keeps, order_newest, order_parts, used_keeps}
use Rattle.shard.proofs.HomesAndL1s.OthersDone.{newest_copy}
use Rattle.shard.proofs.HomesAndL1s.ReadyAll.{ready_prepared}
use Rattle.shard.proofs.HomesAndL1s.ReadyBank.{ready_bank}
use Rattle.shard.proofs.HomesAndL1s.ReadyFits.{keeps_then}
use Rattle.shard.proofs.HomesAndL1s.ReadyParts.{IsSound, Prepared}
use Rattle.shard.proofs.HomesAndL1s.StoreAsShared.{store_as_shared}

-- what an access leaves, and what it is answered
pub record Done (p q : Bank) (core : ℕ) (request : Request) (reply : ℕ) : Type 0 where
  pub accessed : Accessed p q core request
  pub answer : reply ≡ reply_from (newest_in (line_of request) (bytes_at p.home (line_of request)) p.l1s) (place_in_line (addr_of request)) p.home.marks core request

done_either : (b : Bool) (p x y : Bank) (core : ℕ) (request : Request) (r s : ℕ) → (b ≡ true → Done p x core request r) → (b ≡ false → Done p y core request s) → Done p (cond b x y) core request (cond b r s)
done_either true p x y core request r s f g = f refl
done_either false p x y core request r s f g = g refl

-- ---- machines with instruction caches
have_copies : (v : Option (ℕ × Bool)) (c : Caches) → have_l1i (copies_evicted v c) ≡ have_l1i c
unfolding recalled instructions_recalled
have_copies None c = refl
have_copies (Some w) c = ap (λ (z : ℕ). nat_lt 0 z) (length-map c.l1i (in_set_of c.shards w.0 (without w.0)))

have_filled : (line : ℕ) (c : Caches) → have_l1i (filled_into_l2 line c) ≡ have_l1i c
unfolding filled_into_l2
have_filled line c = refl

have_looked : (line : ℕ) (c : Caches) → have_l1i (looked_up line c) ≡ have_l1i c
unfolding looked_up
have_looked line c = refl

module _ (stays : CoherentStays) (laws : L2Laws) (p : Bank) (are : AreParts p) (core : ℕ) where
  abbrev c : Caches
  c = caches_seen p

  sound_of : (request : Request) → core < length p.l1s → (q : Bank) → caches_seen q ≡ caches_after c core request → IsSound q
  sound_of request within q same =
      let after = stays c core request are.coherent are.room (subst (λ (z : ℕ). core < z) (sym (cores_seen p)) within) in
      (subst AreCoherent (sym same) after.0, subst HaveRoomForLines (sym same) after.1)

  -- ---- a read or a write that is shared
  module _ (request : Request) (asked : IsAsked p core request) (table : after_at c core (line_of request) (is_write request) ≡ caches_after c core request) where
    abbrev line : ℕ
    line = line_of request

    abbrev r : Bank
    r = ready_by (own_letter p core line) (is_write request) core line p

    inside : IsInMemory p.home line
    inside = asked_inside p are core request asked

    r_seen : caches_seen r ≡ caches_after c core request
    r_seen =
        sym (answered_seen core request r r_bank.fit (core_in p r r_bank core asked.known) (own_in p r r_bank line asked.own))
        ∙ (shared_seen p are core line asked.known asked.own request refl (is_write request) refl ∙ table) where
          r_bank : IsBankOf p r
          r_bank = ready_bank p (fit_of p are) core line (own_letter p core line) (is_write request)

    pub prepared : Prepared p r core line (is_write request)
    prepared = ready_prepared laws p are core line asked.known asked.own inside (own_letter p core line) refl (is_write request) (sound_of request asked.known r r_seen)

    answered_done : Accessed r (answered core request r) core request
    answered_done =
        answered_accesses r prepared.parts core request (core_in p r prepared.keeps.bank core asked.known) (own_in p r prepared.keeps.bank line asked.own) (memory_in p r prepared.keeps line inside)
        asked.servable.in_line prepared.copy prepared.there prepared.written

    newest_r : newest_in line (bytes_at r.home line) r.l1s ≡ newest_in line (bytes_at p.home line) p.l1s
    newest_r = prepared.newest line asked.own inside

    accessed : Accessed p (answered core request r) core request
    accessed = record {
      keeps = keeps_then p r (answered core request r) prepared.keeps answered_done.keeps;
      parts = answered_done.parts;
      marks = answered_done.marks ∙ ap (λ ms. marks_after ms core request) prepared.marks;
      here = answered_done.here
          ∙ (ap (λ (b : List ℕ). bytes_after b (place_in_line (addr_of request)) r.home.marks core request) newest_r
          ∙ ap (λ ms. bytes_after (newest_in line (bytes_at p.home line) p.l1s) (place_in_line (addr_of request)) ms core request) prepared.marks);
      others = λ x own_x inside_x apart. answered_done.others x (own_in p r prepared.keeps.bank x own_x) (memory_in p r prepared.keeps x inside_x) apart ∙ prepared.newest x own_x inside_x;
    }

    pub shared_done : Done p (answered core request r) core request (reply_from (bytes_of (copy_of r core line)) (place_in_line (addr_of request)) p.home.marks core request)
    shared_done = record {
      accessed = accessed;
      answer = ap (λ (b : List ℕ). reply_from b (place_in_line (addr_of request)) p.home.marks core request)
          (ap (λ (o : Option Copy). bytes_of o) prepared.there ∙ (sym (newest_copy r prepared.parts line (own_in p r prepared.keeps.bank line asked.own) core prepared.copy prepared.there) ∙ newest_r));
    }

  -- ---- an access that changes no bytes
  order_accessed : (request : Request) (asked : IsAsked p core request) (f : L1State → L1State) → KeepsLines f → caches_seen (with_l1 core f p) ≡ caches_after c core request
      → ((bytes : List ℕ) (place : ℕ) → bytes_after bytes place p.home.marks core request ≡ bytes) → marks_after p.home.marks core request ≡ p.home.marks → Accessed p (with_l1 core f p) core request
  order_accessed request asked f keeps same bytes marks = record {
    keeps = order_keeps p are core f keeps;
    parts = order_parts p are core f keeps (sound_of request asked.known (with_l1 core f p) same);
    marks = sym marks;
    here = order_newest p are core f keeps (line_of request) (asked_inside p are core request asked)
        ∙ sym (bytes (newest_in (line_of request) (bytes_at p.home (line_of request)) p.l1s) (place_in_line (addr_of request)));
    others = λ x own_x inside_x apart. order_newest p are core f keeps x inside_x;
  }

  -- ---- a fetch that the core's instruction cache does not have
  module _ (addr : ℕ) (asked : IsAsked p core (Fetch addr)) (absent : has_instructions (l1_of p core) (line_at addr) ≡ false) where
    abbrev at : ℕ
    at = line_at addr

    then : (b : Bank) (row : HomeLine) → Begun p b at row → have_l1i (caches_seen b) ≡ have_l1i c → IsSound (instruction_brought core at b) → Fetched b (instruction_brought core at b)
    then b row begun have sound =
        fetched_done b begun.parts core at (core_in p b begun.keeps.bank core asked.known) (own_in p b begun.keeps.bank at asked.own) (subst IsTrue (sym have) asked.servable.fetched) row begun.stands (begun.instructions core ∙ absent) sound

    fetched_accessed : (b : Bank) (row : HomeLine) → Begun p b at row → Fetched b (instruction_brought core at b) → Accessed p (instruction_brought core at b) core (Fetch addr)
    unfolding marks_after bytes_after
    fetched_accessed b row begun done = record {
      keeps = keeps_then p b (instruction_brought core at b) begun.keeps done.fetched_keeps;
      parts = done.fetched_parts;
      marks = done.fetched_marks ∙ begun.marks;
      here = done.fetched_newest at ∙ begun.newest at asked.own (asked_inside p are core (Fetch addr) asked);
      others = λ x own_x inside_x apart. done.fetched_newest x ∙ begun.newest x own_x inside_x;
    }

    from : (o : Option HomeLine) → row_at p.home at ≡ o → caches_seen (fetched_from core at o p) ≡ caches_after c core (Fetch addr) → Accessed p (fetched_from core at o p) core (Fetch addr)
    from None e same =
        let b : Bank = brought_home at p in
        let begun : Begun p b at nobody = brought_begins laws p are at asked.own (asked_inside p are core (Fetch addr) asked) e in
        let have : have_l1i (caches_seen b) ≡ have_l1i c
        = ap (λ (d : Caches). have_l1i d) (home_seen p are at) ∙ (have_filled at (copies_evicted (l2_victim c at) c) ∙ have_copies (l2_victim c at) c) in
        fetched_accessed b nobody begun (then b nobody begun have (sound_of (Fetch addr) asked.known (instruction_brought core at b) same))
    from (Some row) e same =
        let b : Bank = with_home (looked_up_in at) p in
        let begun : Begun p b at row = looked_begins laws p are at row e in
        let have : have_l1i (caches_seen b) ≡ have_l1i c = ap (λ (d : Caches). have_l1i d) (looked_up_seen at p) ∙ have_looked at c in
        fetched_accessed b row begun (then b row begun have (sound_of (Fetch addr) asked.known (instruction_brought core at b) same))

  -- ---- the requests
  private_store : (letter : Letter) → is_alone letter ≡ true → (line : ℕ) → ready_by letter true core line p ≡ kept_with M core line p
  private_store M h line = refl
  private_store E h line = refl
  private_store S h line = absurd cc
  private_store I h line = absurd cc

  load_same : (addr width : ℕ) (bytes : List ℕ) (place : ℕ) → bytes_after bytes place p.home.marks core (Load width addr) ≡ bytes
  unfolding bytes_after
  load_same addr width bytes place = refl

  fetch_same : (addr : ℕ) (bytes : List ℕ) (place : ℕ) → bytes_after bytes place p.home.marks core (Fetch addr) ≡ bytes
  unfolding bytes_after
  fetch_same addr bytes place = refl

  load_marks : (addr width : ℕ) → marks_after p.home.marks core (Load width addr) ≡ p.home.marks
  unfolding marks_after
  load_marks addr width = refl

  fetch_marks : (addr : ℕ) → marks_after p.home.marks core (Fetch addr) ≡ p.home.marks
  unfolding marks_after
  fetch_marks addr = refl

  -- by what the core's own L1 has
  load_done : (addr width : ℕ) (asked : IsAsked p core (Load width addr)) → is_some (copy_of p core (line_at addr)) ≡ true
      → Done p (with_l1 core (used_in (line_at addr)) p) core (Load width addr) (number_of (copy_of p core (line_at addr)) (place_in_line addr) width)
  unfolding caches_after reply_from
  load_done addr width asked has =
      let line : ℕ = line_at addr in
      let copy = there (copy_of p core line) has in
      record {
        accessed = order_accessed (Load width addr) asked (used_in line) (used_keeps line) (loaded_seen p are core line asked.known asked.own has) (load_same addr width) (load_marks addr width);
        answer = ap (λ (o : Option Copy). number_of o (place_in_line addr) width) copy.1 ∙ ap (λ (b : List ℕ). number_in b (place_in_line addr) width) (sym (newest_copy p are line asked.own core copy.0 copy.1));
      }

  store_done : (addr width value : ℕ) (asked : IsAsked p core (Store width addr value)) → may_write (copy_of p core (line_at addr)) ≡ true
      → Done p (with_l1 core (λ l1. option_map_or (λ copy. kept_first_in (line_at addr) (stored (place_in_line addr) width value copy) l1) (copy_at l1 (line_at addr)) l1) p) core (Store width addr value) 0
  unfolding caches_after reply_from
  store_done addr width value asked free =
      let line : ℕ = line_at addr in
      let request : Request = Store width addr value in
      let copy = free_there (copy_of p core line) free in
      let was = are.free core line copy.0 asked.own copy.1 copy.2 in
      let letter : is_alone (own_letter p core line) ≡ true = ap (λ (o : Option Copy). is_alone (letter_of o)) copy.1 ∙ was.0 in
      let same : answered core request (ready_by (own_letter p core line) true core line p)
      ≡ with_l1 core (λ l1. option_map_or (λ copy. kept_first_in line (stored (place_in_line addr) width value copy) l1) (copy_at l1 line) l1) p
      = ap (answered core request) (private_store (own_letter p core line) letter line) ∙ store_as_shared p core addr width value asked.known copy.0 copy.1 copy.2 was.1 in
      record { accessed = subst (λ (b : Bank). Accessed p b core request) same (shared_done request asked refl).accessed; answer = refl }

  fetch_done : (addr : ℕ) (asked : IsAsked p core (Fetch addr)) → has_instructions (l1_of p core) (line_at addr) ≡ true → Done p (with_l1 core (instruction_used_in (line_at addr)) p) core (Fetch addr) 0
  unfolding caches_after reply_from
  fetch_done addr asked has =
      let line : ℕ = line_at addr in
      record {
        accessed = order_accessed (Fetch addr) asked (instruction_used_in line) (instruction_used_keeps line) (used_fetch_seen p are core line asked.known asked.own has) (fetch_same addr) (fetch_marks addr);
        answer = refl;
      }

  fetched_from_done : (addr : ℕ) (asked : IsAsked p core (Fetch addr)) → has_instructions (l1_of p core) (line_at addr) ≡ false → Done p (fetched_from core (line_at addr) (row_at p.home (line_at addr)) p) core (Fetch addr) 0
  unfolding caches_after reply_from
  fetched_from_done addr asked none =
      let line : ℕ = line_at addr in
      record { accessed = from addr asked none (row_at p.home line) refl (fetch_seen p are core line asked.known asked.own none); answer = refl }

  pub access_done : (request : Request) (asked : IsAsked p core request) → Done p (bank_after p core request) core request (bank_reply p core request)
  unfolding bank_after bank_reply shared_after shared_reply ready is_private private_after private_reply caches_after
  access_done (Load width addr) asked =
      let line : ℕ = line_at addr in
      let request : Request = Load width addr in
      let r : Bank = ready_by (own_letter p core line) false core line p in
      done_either (is_some (copy_of p core line)) p (with_l1 core (used_in line) p) (answered core request r) core request (number_of (copy_of p core line) (place_in_line addr) width)
      (reply_from (bytes_of (copy_of r core line)) (place_in_line addr) p.home.marks core request) (load_done addr width asked) (λ _. shared_done request asked refl)
  access_done (Store width addr value) asked =
      let line : ℕ = line_at addr in
      let request : Request = Store width addr value in
      let r : Bank = ready_by (own_letter p core line) true core line p in
      done_either (may_write (copy_of p core line)) p
      (with_l1 core (λ l1. option_map_or (λ copy. kept_first_in line (stored (place_in_line addr) width value copy) l1) (copy_at l1 line) l1) p) (answered core request r) core request 0
      (reply_from (bytes_of (copy_of r core line)) (place_in_line addr) p.home.marks core request) (store_done addr width value asked) (λ _. shared_done request asked refl)
  access_done (Lr width addr) asked = shared_done (Lr width addr) asked refl
  access_done (Sc width paired addr value) asked = shared_done (Sc width paired addr value) asked refl
  access_done (Amo width op addr value) asked = shared_done (Amo width op addr value) asked refl
  access_done (Fetch addr) asked =
      let line : ℕ = line_at addr in
      done_either (has_instructions (l1_of p core) line) p (with_l1 core (instruction_used_in line) p) (fetched_from core line (row_at p.home line) p) core (Fetch addr) 0 0 (fetch_done addr asked) (fetched_from_done addr asked)
