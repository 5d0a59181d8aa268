-- One turn over shards and over the machine for which they stand.
use Rattle.std.proofs.Common.{◌≡◌, ℕ, ◌<◌, List, [], ◌∷◌, map, length, All, Option, Some, refl, sym, ◌∙◌, ap, subst, arith, Bool, IsTrue, nat_lt}
use Rattle.std.specs.Prelude.{slice_get, slice_index, slice_set}
use Rattle.std.proofs.lemmas.List.{length-map, length-set, map-set}
use Rattle.std.proofs.lemmas.List.Elements.{All-cons, All-head, All-map, All-nil, All-set, All-tail, All-weaker}
use Rattle.std.proofs.lemmas.Option.{get_or_from_slice_get, slice_get_within}
use Rattle.zs_num.specs.PairedRight.{IsPairedRight, pairing_of, pairings_after}
use Rattle.zs_num.specs.Request.{bank_of}
use Rattle.zs_num.specs.Servable.{IsServable}
use Rattle.zs_num.specs.declared.entry.Entry.{Entry}
use Rattle.zs_num.specs.declared.entry.Outcome.{Outcome}
use Rattle.zs_num.specs.declared.pairing.Pairing.{Pairing}
use Rattle.zs_num.specs.declared.request.Request.{Request}
use Rattle.elf_load.specs.MemoryImage.{MemoryImage}
use Rattle.rv_core.specs.CoreState.{CoreState, InProgress}
use Rattle.rv_core.specs.Sound.{IsSoundCore}
use Rattle.rv_core.specs.Step.{answered}
use Rattle.flat_memory.specs.declared.reservation.Reservation.{Reservation}
use Rattle.flat_memory.specs.FlatMemory as flat
use Rattle.shard.specs.Coherence.{outcome_of}
use Rattle.shard.specs.Coherence as caches
use Rattle.shard.proofs.Kept.{access_same}
use Rattle.shard.specs.HaveL1i.{have_l1i}
use Rattle.shard.specs.Laws.{MarksAreReservations, ShardsStandForAMachine}
use Rattle.shard.specs.Marks.{MarkedMemory, marked_after, marked_reply}
use Rattle.shard.specs.Served.{ShardState, met_by, no_shard, shard_after, shard_reply}
use Rattle.shard.specs.StandsFor.{StandFor, flat_for}
use Rattle.access_log.specs.RecordedOrder.{next_stamp}
use Rattle.reference.specs.MachineOfShards.{IsCoreOf, StandForMachine, pairings_of}
use Rattle.reference.specs.MachineWorld as machine
use Rattle.reference.specs.MachineWorld.{MachineWorld}
use Rattle.reference.specs.ReferenceMachine.{BoundState, bound_from}
use Rattle.reference.specs.Correspondence.{AreRelated, EndAlike}
use Rattle.reference.specs.ShardWorld.{ShardWorld, recorded_by_shard, shards_serve}
use Rattle.reference.specs.TimedCore.{TimedCore, asks, core_after_access, ran_to}
use Rattle.reference.proofs.CoreKept.{CoreLaws, StaysSound, ran_stays_sound, waits_for}
use Rattle.reference.proofs.Histories.{after_last, is_there}
use Rattle.reference.proofs.HistoryTurn.{last_at}
use Rattle.reference.proofs.Lists.{get_set}
use Rattle.reference.proofs.MoreServable.{more_servable}
use Rattle.reference.proofs.Pairings.{core_after, turn_pairings, turn_right, turn_sound}
use Rattle.reference.proofs.Correspondence.{KeptByTurns, same_phases}
use Rattle.reference.proofs.ShardKept.{marks_kept, recorded_outcome, recorded_reply, size_kept}

same_head : {A : Type 0} (x y : A) (xs ys : List A) → x ∷ xs ≡ y ∷ ys → x ≡ y
same_head x y xs ys same = cc

-- of a core that waits for an access of a sound instruction
module _ (laws : CoreLaws) (c : CoreState) (sound : IsSoundCore c) (now : InProgress) (is : c.instruction ≡ Some now) where
  pub waits_served : IsServable c.memory.base c.memory.size c.fetching now.next
  waits_served = let served = sound.served in (rw is at served).0

-- ---- the turn

module _ (laws : CoreLaws) (step : ShardsStandForAMachine) (marks_law : MarksAreReservations) (time : Entry → ℕ) (image : MemoryImage) (end : ℕ) (cores : List TimedCore) (w : ShardWorld) (m : MachineWorld) (r : StandForMachine cores w m) (number : ℕ) (c : TimedCore) (here : slice_get cores number ≡ Some c) (request : Request) (asked : asks (ran_to image end c) ≡ Some request) where
  -- the core as it asks
  abbrev pub ran : TimedCore
  ran = ran_to image end c

  within : number < length cores
  within = slice_get_within cores number c here

  -- whether the cores have instruction caches
  abbrev l1i : Bool
  l1i = have_l1i m.caches

  is_core : IsCoreOf r.memory.base (length r.memory.bytes) l1i c
  is_core = subst (IsCoreOf r.memory.base (length r.memory.bytes) l1i) (get_or_from_slice_get cores number c c here) (r.cores_are number c within)

  stays : StaysSound c.core ran.core
  stays = ran_stays_sound laws image end c is_core.sound

  waiting : (now : InProgress) × (ran.core.instruction ≡ Some now) × (now.next ≡ request)
  waiting = waits_for ran.core.instruction request asked

  servable : IsServable r.memory.base (length r.memory.bytes) l1i request
  servable =
      let may : IsServable ran.core.memory.base ran.core.memory.size ran.core.fetching waiting.0.next = waits_served laws ran.core stays.sound waiting.0 waiting.1 in
      let own : IsServable ran.core.memory.base ran.core.memory.size l1i waiting.0.next =
      more_servable ran.core.memory.base ran.core.memory.size ran.core.fetching l1i waiting.0.next (λ fetches. is_core.fetches (subst IsTrue stays.fetching fetches)) may
      in
      let based : ran.core.memory.base ≡ r.memory.base = ap (λ (x : _). x.base) stays.memory ∙ is_core.base_is in
      let sized : ran.core.memory.size ≡ length r.memory.bytes = ap (λ (x : _). x.size) stays.memory ∙ is_core.size_is in
      subst (IsServable r.memory.base (length r.memory.bytes) l1i) waiting.2
      (subst (λ (n : ℕ). IsServable r.memory.base n l1i waiting.0.next) sized
      (subst (λ (n : ℕ). IsServable n ran.core.memory.size l1i waiting.0.next) based own))

  -- its shard
  pub there : (shard : ShardState) × (slice_get w.shards (bank_of (length w.shards) request) ≡ Some shard)
  there = is_there w.shards (bank_of (length w.shards) request) (omega (arith, r.some))

  abbrev pub shard : ShardState
  shard = there.0

  abbrev pub place : ℕ
  place = bank_of (length w.shards) request

  -- the entry
  abbrev pub e : Entry
  e = recorded_by_shard shard (slice_index w.stamps number) number ran.clock request

  own_number : shard.number ≡ place
  own_number = r.stand.are.number place shard there.1

  -- ---- replies, outcomes and stamps are the same

  marks_here : length shard.marks ≡ length cores
  marks_here =
      let P : ShardState → Type 0 = λ x. length x.marks ≡ length cores in
      subst P (get_or_from_slice_get w.shards place shard shard there.1) (r.cores_known place shard (slice_get_within w.shards place shard there.1))

  core_in_caches : number < length m.caches.l1
  core_in_caches = let known = (r.stand.cores place shard there.1).1 in omega (arith, within, known, marks_here)

  stepped : (shard_reply shard e ≡ marked_reply r.memory number request) × (met_by shard e ≡ outcome_of m.caches number request)
      × StandFor (slice_set w.shards shard.number (shard_after shard e)) (marked_after r.memory number request) (caches.caches_after m.caches number request)
  stepped = step w.shards r.memory m.caches shard e r.stand there.1 servable core_in_caches

  abbrev pub pairings : List (Option Pairing)
  pairings = pairings_of cores

  all_marks : (shards : List ShardState) (n : ℕ) → All (λ x. length x.marks ≡ n) shards → All (λ marks. length marks ≡ n) (map (λ x. x.marks) shards)
  all_marks shards n all = All-map (λ (marks : List (Option Reservation)). length marks ≡ n) (λ (x : ShardState). x.marks) shards all

  marked : (marked_reply r.memory number request ≡ flat.memory_reply (flat_for r.memory pairings) number request)
      × (flat_for (marked_after r.memory number request) (pairings_after pairings number request) ≡ flat.memory_after (flat_for r.memory pairings) number request)
  marked =
      let paired : length pairings ≡ length cores = length-map cores (λ (x : TimedCore). x.core.pairing) in
      let lists : length r.memory.marks ≡ length w.shards = ap length r.stand.marks ∙ length-map w.shards (λ (x : ShardState). x.marks) in
      let each : All (λ marks. length marks ≡ length pairings) r.memory.marks =
      subst (λ (n : ℕ). All (λ (marks : List (Option Reservation)). length marks ≡ n) r.memory.marks) (sym paired)
      (subst (λ (ms : List (List (Option Reservation))). All (λ (marks : List (Option Reservation)). length marks ≡ length cores) ms) (sym r.stand.marks) (all_marks w.shards (length cores) r.cores_known))
      in
      let in_pairings : number < length pairings = omega (arith, within, paired) in
      let one : All (λ (access : ℕ × Request). access.0 < length pairings) ((number, request) ∷ []) =
      All-cons (λ (access : ℕ × Request). access.0 < length pairings) (number, request) [] in_pairings (All-nil (λ (access : ℕ × Request). access.0 < length pairings))
      in
      let right : IsPairedRight (pairing_of pairings number) request = turn_right laws image end cores number c here is_core.sound request asked in
      let ours = marks_law r.memory pairings ((number, request) ∷ []) (omega (arith, lists, r.some)) each one (right, tt) in
      (same_head (marked_reply r.memory number request) (flat.memory_reply (flat_for r.memory pairings) number request) [] [] ours.0, ours.1)

  replied : flat.memory_reply m.memory number request ≡ e.reply
  replied =
      ap (λ (memory : flat.MemoryState). flat.memory_reply memory number request) r.flat ∙ sym marked.0 ∙ sym stepped.0
      ∙ recorded_reply shard (slice_index w.stamps number) number ran.clock request

  met : outcome_of m.caches number request ≡ e.outcome
  met = sym stepped.1 ∙ recorded_outcome shard (slice_index w.stamps number) number ran.clock request

  same_bank : bank_of (length m.stamps.banks) request ≡ place
  same_bank = ap (λ (n : ℕ). bank_of n request) (ap length r.banks_stamped ∙ length-map w.shards (λ (x : ShardState). x.last))

  stamped : next_stamp m.stamps (bank_of (length m.stamps.banks) request) number ≡ e.stamp
  stamped =
      let bank : slice_index m.stamps.banks (bank_of (length m.stamps.banks) request) ≡ shard.last = ap (slice_index m.stamps.banks) same_bank ∙ ap (λ (banks : List ℕ). slice_index banks place) r.banks_stamped ∙ last_at w.shards place shard there.1 in
      let core : slice_index m.stamps.cores number ≡ slice_index w.stamps number = ap (λ (stamps : List ℕ). slice_index stamps number) r.cores_stamped in
      rw (bank, core) refl

  -- ---- the answers of both

  abbrev pub w_after : ShardWorld
  w_after = record { shards = slice_set w.shards place (shard_after shard e); stamps = slice_set w.stamps number e.stamp }

  abbrev pub m_after : MachineWorld
  m_after = record {
    memory = flat.memory_after m.memory number request;
    caches = caches.caches_after m.caches number request;
    stamps = record { banks = slice_set m.stamps.banks (bank_of (length m.stamps.banks) request) e.stamp; cores = slice_set m.stamps.cores number e.stamp };
  }

  pub shards_answer : shards_serve w number ran.clock request ≡ (e, w_after)
  unfolding shards_serve
  shards_answer = rw (get_or_from_slice_get w.shards place shard no_shard there.1) refl

  abbrev pub made : (stamp reply : ℕ) → Outcome → Entry
  made stamp reply outcome = record { core = number; stamp = stamp; start = ran.clock; request = request; reply = reply; outcome = outcome }

  machine_entry : machine.recorded m number ran.clock request ≡ e
  machine_entry =
      ap (λ (stamp : ℕ). made stamp (flat.memory_reply m.memory number request) (outcome_of m.caches number request)) stamped
      ∙ ap (λ (reply : ℕ). made e.stamp reply (outcome_of m.caches number request)) replied
      ∙ ap (λ (outcome : Outcome). made e.stamp e.reply outcome) met

  pub machine_answers : machine.serve m number ran.clock request ≡ (e, m_after)
  unfolding machine.serve
  machine_answers =
      let with_entry : Entry → Entry × MachineWorld = λ x. (
        x,
        record {
          memory = flat.memory_after m.memory number request;
          caches = caches.caches_after m.caches number request;
          stamps = record { banks = slice_set m.stamps.banks (bank_of (length m.stamps.banks) request) x.stamp; cores = slice_set m.stamps.cores number x.stamp };
        },
      ) in
      ap with_entry machine_entry

  -- ---- what they leave

  abbrev pub c_after : TimedCore
  c_after = core_after_access time e ran

  abbrev pub cores_after : List TimedCore
  cores_after = slice_set cores number c_after

  abbrev pub marked_left : MarkedMemory
  marked_left = marked_after r.memory number request

  stand_after : StandFor w_after.shards marked_left m_after.caches
  stand_after = subst (λ (n : ℕ). StandFor (slice_set w.shards n (shard_after shard e)) marked_left m_after.caches) own_number stepped.2

  pairings_left : pairings_after pairings number request ≡ pairings_of cores_after
  pairings_left = turn_pairings laws image end cores number c here is_core.sound request asked time e

  flat_after : m_after.memory ≡ flat_for marked_left (pairings_of cores_after)
  flat_after =
      ap (λ (memory : flat.MemoryState). flat.memory_after memory number request) r.flat ∙ sym marked.1 ∙ ap (flat_for marked_left) pairings_left

  same_size : length marked_left.bytes ≡ length r.memory.bytes
  same_size =
      let at : slice_get w_after.shards place ≡ Some (shard_after shard e) = get_set w.shards place shard (shard_after shard e) there.1 in
      sym (stand_after.are.size place (shard_after shard e) at) ∙ size_kept shard e ∙ r.stand.are.size place shard there.1

  core_left : IsCoreOf r.memory.base (length r.memory.bytes) l1i c_after
  core_left =
      let is : c_after.core ≡ answered e.reply ran.core = core_after time e ran in
      let memory = ap (λ (core : CoreState). core.memory) is ∙ laws.answered_memory e.reply ran.core stays.sound ∙ stays.memory in
      let fetching = ap (λ (core : CoreState). core.fetching) is ∙ laws.answered_fetching e.reply ran.core stays.sound ∙ stays.fetching in
      record {
        sound = turn_sound laws image end cores number c here is_core.sound request asked time e;
        base_is = ap (λ (x : _). x.base) memory ∙ is_core.base_is;
        size_is = ap (λ (x : _). x.size) memory ∙ is_core.size_is;
        fetches = λ fetches. is_core.fetches (subst IsTrue fetching fetches);
      }

  -- the cores still have instruction caches, or none
  same_l1i : have_l1i m_after.caches ≡ l1i
  same_l1i = ap (nat_lt 0) (access_same m.caches number request).fetchers

  pub stands_after : StandForMachine cores_after w_after m_after
  stands_after =
      let many : length cores_after ≡ length cores = length-set cores number c_after in
      let known : All (λ x. length x.marks ≡ length cores) w_after.shards = All-set (λ (x : ShardState). length x.marks ≡ length cores) w.shards place (shard_after shard e) (marks_kept shard e ∙ marks_here) r.cores_known in
      let are : All (IsCoreOf r.memory.base (length r.memory.bytes) l1i) cores_after = All-set (IsCoreOf r.memory.base (length r.memory.bytes) l1i) cores number c_after core_left r.cores_are in
      let last : (shard_after shard e).last ≡ e.stamp = after_last shard e in
      record {
        memory = marked_left;
        stand = stand_after;
        flat = flat_after;
        some = omega (arith, length-set w.shards place (shard_after shard e), r.some);
        cores_known = subst (λ (n : ℕ). All (λ (x : ShardState). length x.marks ≡ n) w_after.shards) (sym many) known;
        cores_are = subst (λ (has : Bool). All (IsCoreOf r.memory.base (length marked_left.bytes) has) cores_after) (sym same_l1i)
            (subst (λ (n : ℕ). All (IsCoreOf r.memory.base n l1i) cores_after) (sym same_size) are);
        banks_stamped =
            ap (λ (n : ℕ). slice_set m.stamps.banks n e.stamp) same_bank
            ∙ ap (λ (banks : List ℕ). slice_set banks place e.stamp) r.banks_stamped
            ∙ ap (λ (n : ℕ). slice_set (map (λ (x : ShardState). x.last) w.shards) place n) (sym last)
            ∙ sym (map-set (λ (x : ShardState). x.last) w.shards place (shard_after shard e));
        cores_stamped = ap (λ (stamps : List ℕ). slice_set stamps number e.stamp) r.cores_stamped;
      }

-- ---- the end of the interval

module _ (laws : CoreLaws) (image : MemoryImage) (end : ℕ) where
  same_pairings : (base size : ℕ) (l1i : Bool) (cores : List TimedCore) → All (IsCoreOf base size l1i) cores → pairings_of (map (ran_to image end) cores) ≡ pairings_of cores
  same_pairings base size l1i [] are = refl
  same_pairings base size l1i (c ∷ cores) are =
      let one : (ran_to image end c).core.pairing ≡ c.core.pairing = (ran_stays_sound laws image end c (All-head (IsCoreOf base size l1i) c cores are).sound).pairing in
      rw (one, same_pairings base size l1i cores (All-tail (IsCoreOf base size l1i) c cores are)) refl

  ran_core : (base size : ℕ) (l1i : Bool) (c : TimedCore) → IsCoreOf base size l1i c → IsCoreOf base size l1i (ran_to image end c)
  ran_core base size _ c is =
      let stays = ran_stays_sound laws image end c is.sound in
      record {
        sound = stays.sound;
        base_is = ap (λ (x : _). x.base) stays.memory ∙ is.base_is;
        size_is = ap (λ (x : _). x.size) stays.memory ∙ is.size_is;
        fetches = λ fetches. is.fetches (subst IsTrue stays.fetching fetches);
      }

  pub stands_at_end : (cores : List TimedCore) (w : ShardWorld) (m : MachineWorld) → StandForMachine cores w m → StandForMachine (map (ran_to image end) cores) w m
  stands_at_end cores w m r =
      let base = r.memory.base in
      let size : ℕ = length r.memory.bytes in
      let l1i : Bool = have_l1i m.caches in
      record {
        memory = r.memory;
        stand = r.stand;
        flat = r.flat ∙ ap (flat_for r.memory) (sym (same_pairings base size l1i cores r.cores_are));
        some = r.some;
        cores_known = subst (λ (n : ℕ). All (λ (x : ShardState). length x.marks ≡ n) w.shards) (sym (length-map cores (ran_to image end))) r.cores_known;
        cores_are = All-map (IsCoreOf base size l1i) (ran_to image end) cores (All-weaker (IsCoreOf base size l1i) (λ c. IsCoreOf base size l1i (ran_to image end c)) (λ c is. ran_core base size l1i c is) cores r.cores_are);
        banks_stamped = r.banks_stamped;
        cores_stamped = r.cores_stamped;
      }

-- ---- whole bound phases

module _ (laws : CoreLaws) (step : ShardsStandForAMachine) (marks_law : MarksAreReservations) (time : Entry → ℕ) (image : MemoryImage) (end : ℕ) where
  pub kept_by_turns : KeptByTurns StandForMachine shards_serve machine.serve time image end
  kept_by_turns cores w m number c request r here asked answer is =
      let both = shards_answer laws step marks_law time image end cores w m r number c here request asked in
      let after_both = w_after laws step marks_law time image end cores w m r number c here request asked in
      let given = e laws step marks_law time image end cores w m r number c here request asked in
      subst
      (λ (a : Entry × ShardWorld). (v : MachineWorld) × (machine.serve m number (ran_to image end c).clock request ≡ (a.0, v)) × StandForMachine (slice_set cores number (core_after_access time a.0 (ran_to image end c))) a.1 v)
      (sym (is ∙ both)) (
        m_after laws step marks_law time image end cores w m r number c here request asked,
        machine_answers laws step marks_law time image end cores w m r number c here request asked,
        stands_after laws step marks_law time image end cores w m r number c here request asked,
      )

  pub shards_do_as_machine : (s : BoundState ShardWorld) (t : BoundState MachineWorld) → AreRelated StandForMachine s t → (numbers : List ℕ) (place : ℕ)
      → EndAlike StandForMachine (bound_from shards_serve time image end place numbers s) (bound_from machine.serve time image end place numbers t)
  shards_do_as_machine s t related numbers place =
      same_phases StandForMachine shards_serve machine.serve time image end kept_by_turns (stands_at_end laws image end) numbers place s t related
