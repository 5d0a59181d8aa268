-- Turns of an interval, one after the other.
use Rattle.std.proofs.Common.{◌≡◌, ℕ, zero, suc, ◌+◌, ◌*◌, ◌-◌, ◌^◌, ◌<◌, ◌≤◌, drop, get_or, min, take, Bool, true, false, Err, List, [], ◌∷◌, ◌++◌, length, Option, Some, None, refl, sym, ◌∙◌, ap, subst, inl, inr, arith, append-nil}
use Rattle.std.specs.Prelude.{◌==◌, IsSome, is_none, is_some, slice_get, slice_set}
use Rattle.std.specs.Option.{option_map_or}
use Rattle.std.proofs.lemmas.List.{drop_more, length-append, length-set, length-take-le, map-set, take-append-drop}
use Rattle.std.proofs.lemmas.List.Elements.{All-push, filter-append}
use Rattle.std.proofs.lemmas.List.Folds.{list_all_at}
use Rattle.std.proofs.lemmas.List.Sums.{sum_by-set}
use Rattle.std.proofs.lemmas.Option.{get_or_from_slice_get, same_Some, slice_get-get_or, slice_get_within}
use Rattle.zs_num.specs.declared.entry.Entry.{Entry}
use Rattle.zs_num.specs.Servable.{IsServable}
use Rattle.rv_core.specs.declared.why.Why.{Why}
use Rattle.elf_load.specs.MemoryImage.{MemoryImage}
use Rattle.access_log.specs.History.{of_core}
use Rattle.access_record.specs.Records.{IsInReach}
use Rattle.bound_core.specs.TurnLaws.{AnswersAsWorld, moved, with_core}
use Rattle.bound_core.specs.Reaching.{Reaches}
use Rattle.bound_core.specs.ReferenceMachine.{BoundState, are_done, bound_from, bound_phase}
use Rattle.bound_core.specs.ShardPort.{base_of, l1i_of, room_of, size_of}
use Rattle.bound_core.specs.ShardWorld.{ShardWorld, shards_serve}
use Rattle.bound_core.specs.TimedCore.{TimedCore, asks, goes_on_alone, next_request, ran_to}
use Rattle.bound_core.specs.NumberedCores.{NumberedCore, timed_of}
use Rattle.bound_core.specs.IntervalBounds.{latest_clock, most_accesses}
use Rattle.bound_core.specs.Turn.{IsOver}
use Rattle.reference.proofs.Instructions.{late_stops, ran_later, ran_stays}
use Rattle.reference.proofs.Lists.{get_set}
use Rattle.reference.proofs.Reaching.{by_itself, by_turn}
use Rattle.weave_chains.specs.Listed.{list_of}
use Rattle.bound_records.specs.CoreRuns.{AreNumbered}
use Rattle.bound_records.specs.Recorders.{GivesTurn, RecorderState, TurnPortState, with_access_of}
use Rattle.bound_records.specs.Turns.{HasRoomForTurns, HaveTaken, IsOnItsWay, TakesAccess, TakesNone, chosen, phase_by}
use Rattle.bound_records.proofs.Lists.{get_mapped, get_other, has_at, other_core, own_core, set_cases}
use Rattle.bound_records.proofs.Turns.{as_many_banks, as_many_stamps, in_memory, reached, same_core}

-- ---- a core that is over

halted_stops : (end : ℕ) (c : TimedCore) (halted : Option Why) → c.core.halted ≡ halted → IsSome halted → goes_on_alone end c ≡ false
halted_stops end c None e some = cc
halted_stops end c (Some why) e some = rw e refl

pub over_asks : (image : MemoryImage) (end : ℕ) (c : TimedCore) → IsOver end c → asks (ran_to image end c) ≡ None
over_asks image end c over =
    let stops : goes_on_alone end c ≡ false = elim over.over [ inl halted ↦ halted_stops end c c.core.halted refl halted | inr late ↦ late_stops end c late.0 late.1 ] in
    ap asks (ran_stays image end c stops) ∙ ap next_request over.idle

not_both : {A : Type 0} (o : Option A) (x : A) → o ≡ None → o ≡ Some x → ⊥
not_both None x none some = cc
not_both (Some y) x none some = cc

-- ---- an access more

abbrev world : TurnPortState → ShardWorld
world p = p.recorder.world

answers : AnswersAsWorld GivesTurn world shards_serve
answers port port_after start request e g =
    g.given ∙ ap (λ (n : ℕ). shards_serve port.recorder.world n start request) (sym (same_core port.recorder.world port_after.recorder.world port.core start request e g.given))

one_own : (core : ℕ) (e : Entry) (es : List Entry) → e.core ≡ core → of_core core (es ++ e ∷ []) ≡ of_core core es ++ e ∷ []
one_own core e es same =
    filter-append (λ (x : Entry). x.core == core) es (e ∷ []) ∙ ap (λ (xs : List Entry). of_core core es ++ xs) (own_core core (e ∷ []) (λ k d below. only k d below))
  where
    only : (k : ℕ) (d : Entry) → k < length (e ∷ []) → (get_or (e ∷ []) k d).core ≡ core
    only zero d below = same
    only (suc k) d below = absurd (omega (arith, below))

one_other : (core : ℕ) (e : Entry) (es : List Entry) → (e.core ≡ core → ⊥) → of_core core (es ++ e ∷ []) ≡ of_core core es
one_other core e es other =
    filter-append (λ (x : Entry). x.core == core) es (e ∷ []) ∙ (ap (λ (xs : List Entry). of_core core es ++ xs) (other_core core e.core (e ∷ []) other (λ k d below. only k d below)) ∙ append-nil (of_core core es))
  where
    only : (k : ℕ) (d : Entry) → k < length (e ∷ []) → (get_or (e ∷ []) k d).core ≡ e.core
    only zero d below = refl
    only (suc k) d below = absurd (omega (arith, below))

-- ---- the core of this number takes its turn, through this port

module _ (time : Entry → ℕ) (image : MemoryImage) (end most : ℕ) (r : RecorderState) (first : BoundState ShardWorld) (turns : List ℕ) (cores : List NumberedCore) (port port_after : TurnPortState) (h : HaveTaken time image end most r first turns cores port.recorder)
    (number : ℕ) (core after : NumberedCore) (here : slice_get cores number ≡ Some core) where
  abbrev now : RecorderState
  now = port.recorder

  abbrev next : RecorderState
  next = port_after.recorder

  abbrev own_left : ℕ
  own_left = get_or h.left number 0

  within : number < length cores
  within = slice_get_within cores number core here

  left_below : number < length h.left
  left_below = (let w = within in omega (arith, w, h.count))

  left_here : slice_get h.left number ≡ Some own_left
  left_here = slice_get-get_or h.left number 0 left_below

  way : IsOnItsWay r.begin end (base_of now.world) (size_of now.world) (l1i_of now.world) own_left core
  way = h.each number own_left core left_here here

  own_number : core.number ≡ number
  own_number = h.numbered number core here

  abbrev cores_after : List NumberedCore
  cores_after = slice_set cores number after

  all_numbered : after.number ≡ core.number → AreNumbered cores_after
  all_numbered same = λ i c found. set_cases cores number i core after c here found (λ x. x.number ≡ i) (λ at. same ∙ own_number ∙ sym at) (λ apart was. h.numbered i c was)

  timed_here : slice_get (timed_of cores) number ≡ Some core.timed
  timed_here = get_mapped (λ (c : NumberedCore). c.timed) cores number core here

  as_many : length cores_after ≡ length cores
  as_many = length-set cores number after

  -- a core whose turn it was not is where it was
  other_way : (i n : ℕ) (c : NumberedCore) → base_of next.world ≡ base_of now.world → size_of next.world ≡ size_of now.world → l1i_of next.world ≡ l1i_of now.world
      → slice_get h.left i ≡ Some n → slice_get cores i ≡ Some c → IsOnItsWay r.begin end (base_of next.world) (size_of next.world) (l1i_of next.world) n c
  other_way i n c base size l1i left there =
      let was = h.each i n c left there in
      record { few = was.few; clock = was.clock; spare = was.spare; base_is = was.base_is ∙ sym base; size_is = was.size_is ∙ sym size; fetches = λ fetching. l1i ∙ was.fetches fetching }

  -- ---- it took an access

  module _ (e : Entry) (t : TakesAccess time image end (chosen port number) port_after core after e) where
    near : (most_accesses end core.timed ≤ own_left) × ((latest_clock end core.timed ≤ end + 2 ^ 30) × (r.begin ≤ core.timed.clock))
    near = elim way.few [ inl over ↦ absurd (not_both (asks (ran_to image end core.timed)) t.turn.request (over_asks image end core.timed over) t.turn.asked) | inr few ↦ few ]

    abbrev start : ℕ
    start = (ran_to image end core.timed).clock

    g : GivesTurn (chosen port number) start t.turn.request e port_after
    g = t.turn.given

    of_it : e.core ≡ number
    of_it = t.own ∙ own_number

    recorder_is : next ≡ with_access_of now number e next.world
    recorder_is = ap (λ (p : TurnPortState). p.recorder) g.kept

    abbrev list_after : List Entry
    list_after = list_of now.lists number ++ e ∷ []

    lists_are : next.lists ≡ slice_set now.lists number list_after
    lists_are = ap (λ (x : RecorderState). x.lists) recorder_is

    room_same : next.room ≡ now.room
    room_same = ap (λ (x : RecorderState). x.room) recorder_is

    abbrev left_after : List ℕ
    left_after = slice_set h.left number (own_left - 1)

    some_left : 1 ≤ own_left
    some_left = (let n = near.0 in let f = t.fewer in omega (arith, n, f))

    own_way : IsOnItsWay r.begin end (base_of next.world) (size_of next.world) (l1i_of next.world) (own_left - 1) after
    own_way = record {
      few = inr (let n = near.0 in let f = t.fewer in omega (arith, n, f), (let l = t.not_later in let n = near.1.0 in omega (arith, l, n), let b = t.begun in let n = near.1.1 in omega (arith, b, n)));
      clock = (let l = t.not_later in let w = way.clock in omega (arith, l, w));
      spare = (let s = t.spare in let w = way.spare in let some = some_left in omega (arith, s, w, some));
      base_is = ap (λ memory. memory.base) t.memory ∙ way.base_is ∙ sym g.base_stays;
      size_is = ap (λ memory. memory.size) t.memory ∙ way.size_is ∙ sym g.size_stays;
      fetches = λ fetching. g.l1i_stays ∙ way.fetches (sym t.fetching ∙ fetching);
    }

    each_way : (i n : ℕ) (c : NumberedCore) → slice_get left_after i ≡ Some n → slice_get cores_after i ≡ Some c → IsOnItsWay r.begin end (base_of next.world) (size_of next.world) (l1i_of next.world) n c
    each_way i n c left there =
        set_cases cores number i core after c here there (λ x. IsOnItsWay r.begin end (base_of next.world) (size_of next.world) (l1i_of next.world) n x)
        (λ same.
        let own : slice_get left_after number ≡ Some n = ap (slice_get left_after) (sym same) ∙ left in
        let is : own_left - 1 ≡ n = same_Some (own_left - 1) n (sym (get_set h.left number own_left (own_left - 1) left_here) ∙ own) in
        subst (λ (k : ℕ). IsOnItsWay r.begin end (base_of next.world) (size_of next.world) (l1i_of next.world) k after) is own_way)
        (λ apart was. other_way i n c g.base_stays g.size_stays g.l1i_stays (sym (get_other h.left number i (own_left - 1) apart) ∙ left) was)

    moved_is : moved (phase_by cores now h.taken) e.core after.timed next.world (e ∷ []) ≡ phase_by cores_after next (h.taken ++ e ∷ [])
    moved_is =
        ap (λ (n : ℕ). moved (phase_by cores now h.taken) n after.timed next.world (e ∷ [])) of_it
        ∙ ap (λ (cs : List TimedCore). let s : BoundState ShardWorld = record { cores = cs; world = next.world; entries = h.taken ++ e ∷ [] } in s) (sym (map-set (λ (c : NumberedCore). c.timed) cores number after))

    reached_it : Reaches shards_serve time image end first (turns ++ number ∷ []) (phase_by cores_after next (h.taken ++ e ∷ []))
    reached_it =
        let there : slice_get (timed_of cores) e.core ≡ Some core.timed = ap (slice_get (timed_of cores)) of_it ∙ timed_here in
        let led = by_turn GivesTurn world shards_serve time image end first (phase_by cores now h.taken) turns (chosen port number) port_after core.timed after.timed h.reaches answers e there refl t.turn in
        let to = subst (λ (s : BoundState ShardWorld). Reaches shards_serve time image end first (turns ++ e.core ∷ []) s) moved_is led in
        subst (λ (n : ℕ). Reaches shards_serve time image end first (turns ++ n ∷ []) (phase_by cores_after next (h.taken ++ e ∷ []))) of_it to

    -- ---- what is kept of it

    number_there : number < length now.lists
    number_there = (let w = within in omega (arith, w, h.room.lists))

    there_list : (list : List Entry) × (slice_get now.lists number ≡ Some list)
    there_list = has_at now.lists number number_there

    list_is : list_of now.lists number ≡ there_list.0
    list_is = ap (λ (o : Option (List Entry)). option_map_or (λ (list : List Entry). list) o []) there_list.1

    listed_at : (i : ℕ) (es : List Entry) → slice_get next.lists i ≡ Some es → slice_get (slice_set now.lists number list_after) i ≡ Some es
    listed_at i es found = ap (λ (ls : List (List Entry)). slice_get ls i) (sym lists_are) ∙ found

    own_after : (i : ℕ) (es : List Entry) → slice_get next.lists i ≡ Some es → of_core i (h.taken ++ e ∷ []) ≡ es
    own_after i es found =
        set_cases now.lists number i there_list.0 list_after es there_list.1 (listed_at i es found) (λ x. of_core i (h.taken ++ e ∷ []) ≡ x)
        (λ same.
        one_own i e h.taken (of_it ∙ sym same)
        ∙ ap (λ (xs : List Entry). xs ++ e ∷ []) (ap (λ (n : ℕ). of_core n h.taken) same ∙ (h.own number there_list.0 there_list.1 ∙ sym list_is)))
        (λ apart was. one_other i e h.taken (λ (own : e.core ≡ i). apart (sym own ∙ of_it)) ∙ h.own i es was)

    room_after : (i n : ℕ) (es : List Entry) → slice_get left_after i ≡ Some n → slice_get next.lists i ≡ Some es → length es + n < next.room
    room_after i n es left found =
        set_cases now.lists number i there_list.0 list_after es there_list.1 (listed_at i es found) (λ x. length x + n < next.room)
        (λ same.
        let own : slice_get left_after number ≡ Some n = ap (slice_get left_after) (sym same) ∙ left in
        let is : own_left - 1 ≡ n = same_Some (own_left - 1) n (sym (get_set h.left number own_left (own_left - 1) left_here) ∙ own) in
        let was = h.room.each number own_left there_list.0 left_here there_list.1 in
        let long = length-append (list_of now.lists number) (e ∷ []) in
        let list_long = ap length list_is in
        let some = some_left in
        let same_room = room_same in
        omega (arith, is, was, long, list_long, some, same_room))
        (λ apart was.
        let fits = h.room.each i n es (sym (get_other h.left number i (own_left - 1) apart) ∙ left) was in
        let same_room = room_same in
        omega (arith, fits, same_room))

    start_soon : e.start ≤ end + 2 ^ 30
    start_soon = (let s = t.start in let n = near.1.0 in omega (arith, s, n))

    near_it : IsInReach r.begin r.base e
    near_it =
        let later : core.timed.clock ≤ start = ran_later image end core.timed in
        let is : e.start ≡ start = g.start_is in
        let from : r.begin ≤ e.start = (let n = near.1.1 in omega (arith, n, later, is)) in
        let servable : IsServable r.base (size_of now.world) (l1i_of now.world) t.turn.request = subst (λ (b : ℕ). IsServable b (size_of now.world) (l1i_of now.world) t.turn.request) h.room.base g.asked in
        reached r.begin r.base (size_of now.world) end e (in_memory r.begin r.base (size_of now.world) (l1i_of now.world) t.turn.request e servable g.request_is from) start_soon h.room.short h.room.size

    as_it_was : next ≡ record r { world = next.world; lists = next.lists }
    as_it_was =
        recorder_is
        ∙ (ap (λ (x : RecorderState). let y : RecorderState = record x { world = next.world; lists = slice_set now.lists number list_after } in y) h.room.as_was
        ∙ ap (λ (ls : List (List Entry)). let y : RecorderState = record r { world = next.world; lists = ls } in y) (sym lists_are))

    room_is : HasRoomForTurns end most r (h.taken ++ e ∷ []) left_after cores_after next
    room_is =
        let longer = length-append h.taken (e ∷ []) in
        let sum = sum_by-set (λ (n : ℕ). n) h.left number (own_left - 1) 0 left_below in
        let some = some_left in
        record {
          few = (let f = h.room.few in omega (arith, longer, sum, f, some));
          room = (let m = h.room.room in let n = g.room in omega (arith, longer, m, n));
          each = room_after;
          stamps = as_many_stamps now.world next.world number start t.turn.request e g.given ∙ h.room.stamps ∙ sym as_many;
          lists = ap length lists_are ∙ (length-set now.lists number list_after ∙ (h.room.lists ∙ sym as_many));
          banks = as_many_banks now.world next.world number start t.turn.request e g.given ∙ h.room.banks;
          base = g.base_stays ∙ h.room.base;
          size = subst (λ (n : ℕ). n ≤ 2 ^ 28) (sym g.size_stays) h.room.size;
          short = h.room.short;
          as_was = as_it_was;
        }

    pub one_taken : end ≤ 10 * 2 ^ 30 → HaveTaken time image end most r first (turns ++ number ∷ []) cores_after next
    one_taken small = record {
      taken = h.taken ++ e ∷ [];
      reaches = reached_it;
      left = left_after;
      count = length-set h.left number (own_left - 1) ∙ h.count ∙ sym as_many;
      each = each_way;
      room = room_is;
      numbered = all_numbered t.number;
      own = own_after;
      starts = All-push (λ (x : Entry). x.start ≤ 2 ^ 34) h.taken e h.starts (let s = start_soon in omega (arith, s, small));
      reach = All-push (IsInReach r.begin r.base) h.taken e h.reach near_it;
    }

    -- it has an access less left
    pub left_taken : (small : end ≤ 10 * 2 ^ 30) → (one_taken small).left ≡ slice_set h.left number (get_or h.left number 0 - 1)
    unfolding one_taken
    left_taken small = refl

  -- ---- it ended its interval

  pub one_ended : TakesNone image end (chosen port number) port_after core after → HaveTaken time image end most r first turns cores_after next
  one_ended t =
      let same : next ≡ now = ap (λ (p : TurnPortState). p.recorder) t.ends.same in
      let led = by_itself shards_serve time image end first (phase_by cores now h.taken) turns number core.timed after.timed h.reaches timed_here t.ends.left in
      let to : with_core (phase_by cores now h.taken) number after.timed ≡ phase_by cores_after now h.taken =
      ap (λ (cs : List TimedCore). let s : BoundState ShardWorld = record { cores = cs; world = now.world; entries = h.taken } in s) (sym (map-set (λ (c : NumberedCore). c.timed) cores number after))
      in
      let own : IsOnItsWay r.begin end (base_of now.world) (size_of now.world) (l1i_of now.world) own_left after = record {
        few = inl t.over;
        clock = (let l = t.not_later in let w = way.clock in omega (arith, l, w));
        spare = (let s = t.spare in let w = way.spare in omega (arith, s, w));
        base_is = ap (λ memory. memory.base) t.memory ∙ way.base_is;
        size_is = ap (λ memory. memory.size) t.memory ∙ way.size_is;
        fetches = λ fetching. way.fetches (sym t.fetching ∙ fetching);
      }
      in
      let ended : HaveTaken time image end most r first turns cores_after now = record {
        taken = h.taken;
        reaches = subst (λ (s : BoundState ShardWorld). Reaches shards_serve time image end first turns s) to led;
        left = h.left;
        count = h.count ∙ sym as_many;
        each = λ i n c left there.
            set_cases cores number i core after c here there (λ x. IsOnItsWay r.begin end (base_of now.world) (size_of now.world) (l1i_of now.world) n x)
            (λ same.
            let is : own_left ≡ n = same_Some own_left n (sym left_here ∙ ap (slice_get h.left) (sym same) ∙ left) in
            subst (λ (k : ℕ). IsOnItsWay r.begin end (base_of now.world) (size_of now.world) (l1i_of now.world) k after) is own)
            (λ apart was. h.each i n c left was);
        room = record {
          few = h.room.few;
          room = h.room.room;
          each = h.room.each;
          stamps = h.room.stamps ∙ sym as_many;
          lists = h.room.lists ∙ sym as_many;
          banks = h.room.banks;
          base = h.room.base;
          size = h.room.size;
          short = h.room.short;
          as_was = h.room.as_was;
        };
        numbered = all_numbered t.number;
        own = h.own;
        starts = h.starts;
        reach = h.reach;
      }
      in
      subst (λ (x : RecorderState). HaveTaken time image end most r first turns cores_after x) (sym same) ended

-- each core has room for an access
pub turn_room : (time : Entry → ℕ) (image : MemoryImage) (end most : ℕ) (r : RecorderState) (first : BoundState ShardWorld) (turns : List ℕ) (cores : List NumberedCore) (now : RecorderState) (number : ℕ) → number < length cores
    → HaveTaken time image end most r first turns cores now → 1 ≤ min (room_of now.world) (now.room - length (list_of now.lists number))
turn_room time image end most r first turns cores now number within h =
    let left : ℕ = get_or h.left number 0 in
    let here : slice_get h.left number ≡ Some left = slice_get-get_or h.left number 0 (omega (arith, within, h.count)) in
    let there = has_at now.lists number (omega (arith, within, h.room.lists)) in
    let is : list_of now.lists number ≡ there.0 = ap (λ (o : Option (List Entry)). option_map_or (λ (list : List Entry). list) o []) there.1 in
    let fits = h.room.each number left there.0 here there.1 in
    let long = ap length is in
    let most_left = h.room.few in
    let room = h.room.room in
    omega (arith, fits, long, most_left, room)

-- ---- a place that is not legal

none_none : {A : Type 0} (o : Option A) → is_some o ≡ false → o ≡ None
none_none None none = refl
none_none (Some x) none = cc

some_some : {A : Type 0} (o : Option A) → is_some o ≡ true → is_none o ≡ false
some_some None some = cc
some_some (Some x) some = refl

module _ (time : Entry → ℕ) (image : MemoryImage) (end most : ℕ) (r : RecorderState) (first : BoundState ShardWorld) (cores : List NumberedCore) (now : RecorderState) (number : ℕ) (core : NumberedCore) (here : slice_get cores number ≡ Some core) where
  there : slice_get (timed_of cores) number ≡ Some core.timed
  there = get_mapped (λ (c : NumberedCore). c.timed) cores number core here

  refused : (taken : List Entry) (place : ℕ) (rest : List ℕ) → asks (ran_to image end core.timed) ≡ None → bound_from shards_serve time image end place (number ∷ rest) (phase_by cores now taken) ≡ Err place
  refused taken place rest none = rw (there, none) refl

  -- the core at this place has no access
  pub no_access : (turns : List ℕ) (place : ℕ) → place < length turns → get_or turns place 0 ≡ number → HaveTaken time image end most r first (take place turns) cores now
      → is_some (asks (ran_to image end core.timed)) ≡ false → bound_phase shards_serve time image end turns first ≡ Err place
  no_access turns place below is h asked =
      let all : take place turns ++ number ∷ drop (place + 1) turns ≡ turns =
      ap (λ (n : ℕ). take place turns ++ n ∷ drop (place + 1) turns) (sym is) ∙ ap (λ (rest : List ℕ). take place turns ++ rest) (sym (drop_more turns place 0 below)) ∙ take-append-drop place turns
      in
      let at : 0 + length (take place turns) ≡ place = omega (arith, length-take-le place turns (omega (arith, below))) in
      ap (λ (ns : List ℕ). bound_from shards_serve time image end 0 ns first) (sym all)
      ∙ h.reaches 0 (number ∷ drop (place + 1) turns)
      ∙ ap (λ (n : ℕ). bound_from shards_serve time image end n (number ∷ drop (place + 1) turns) (phase_by cores now h.taken)) at
      ∙ refused h.taken place (drop (place + 1) turns) (none_none (asks (ran_to image end core.timed)) asked)

  -- after the last place the core still has one
  pub still_asks : (turns : List ℕ) → HaveTaken time image end most r first turns cores now → is_some (asks (ran_to image end core.timed)) ≡ true → bound_phase shards_serve time image end turns first ≡ Err (length turns)
  still_asks turns h asked =
      let undone : are_done image end (phase_by cores now h.taken) ≡ false =
      let test : TimedCore → Bool = λ c. is_none (asks (ran_to image end c)) in
      list_all_at test (timed_of cores) number core.timed (slice_get_within (timed_of cores) number core.timed there)
      (ap test (get_or_from_slice_get (timed_of cores) number core.timed core.timed there) ∙ some_some (asks (ran_to image end core.timed)) asked)
      in
      let stops : bound_from shards_serve time image end (0 + length turns) [] (phase_by cores now h.taken) ≡ Err (0 + length turns) = rw undone refl in
      let none : 0 + length turns ≡ length turns = omega arith in
      ap (λ (ns : List ℕ). bound_from shards_serve time image end 0 ns first) (sym (append-nil turns))
      ∙ h.reaches 0 []
      ∙ stops ∙ ap Err none
