-- Turns of an interval, one after the other.
use Rattle.std.proofs.Common.{◌≡◌, ℕ, ◌+◌, ◌*◌, ◌-◌, ◌^◌, ◌<◌, ◌≤◌, drop, min, get_or, take, Bool, true, false, Err, List, [], ◌∷◌, ◌++◌, length, Option, Some, None, All, refl, sym, ◌∙◌, ap, subst, inl, inr, arith}
use Rattle.std.specs.Prelude.{IsSome, is_none, is_some, slice_get, slice_set}
use Rattle.std.specs.Option.{option_and_then, option_map}
use Rattle.std.proofs.lemmas.List.{append-nil, drop_more, length-append, length-set, length-take-le, map-set, take-append-drop}
use Rattle.std.proofs.lemmas.List.Elements.{All-push}
use Rattle.std.proofs.lemmas.List.Folds.{list_all_at}
use Rattle.std.proofs.lemmas.List.Sums.{sum_by-set}
use Rattle.std.proofs.lemmas.Option.{get_or_from_slice_get, same_Some, slice_get-get_or, slice_get_within}
use Rattle.zs_num.specs.declared.entry.Entry.{Entry}
use Rattle.zs_num.specs.declared.request.Request.{Request}
use Rattle.rv_core.specs.declared.why.Why.{Why}
use Rattle.elf_load.specs.MemoryImage.{MemoryImage}
use Rattle.bound_core.specs.TurnLaws.{moved, with_core}
use Rattle.bound_core.specs.Reaching.{Reaches}
use Rattle.bound_core.specs.ReferenceMachine.{BoundState, access_served, are_done, bound_from, bound_phase, turn, turn_at}
use Rattle.bound_core.specs.ShardPort.{base_of, l1i_of, room_of, size_of}
use Rattle.bound_core.specs.ShardWorld.{ShardWorld, shards_serve}
use Rattle.bound_core.specs.TimedCore.{TimedCore, asks, goes_on_alone, next_request, ran_to}
use Rattle.bound_core.specs.NumberedCores.{NumberedCore, timed_of}
use Rattle.bound_core.specs.IntervalBounds.{latest_clock, most_accesses}
use Rattle.bound_core.specs.Turn.{IsOver}
use Rattle.reference.proofs.Instructions.{late_stops, ran_stays}
use Rattle.reference.proofs.Lists.{get_set}
use Rattle.reference.proofs.Reaching.{by_itself, by_turn}
use Rattle.trace.specs.Port.{Gives, LoggedPortState, phase_of}
use Rattle.bound_records.specs.CoreRuns.{AreNumbered}
use Rattle.trace.specs.Turns.{HaveTaken, IsOnItsWay, TakesAccess, TakesNone}
use Rattle.bound_records.proofs.Lists.{get_mapped, get_other, set_cases}
use Rattle.trace.proofs.PortTurns.{answers, world}
use Rattle.bound_records.proofs.Turns.{as_many_stamps}

-- ---- a core that is over

halted_stops : (end : ℕ) (c : TimedCore) (halted : Option Why) → c.core.halted ≡ halted → IsSome halted → goes_on_alone end c ≡ false
halted_stops end c None e some = cc
halted_stops end c (Some why) e some = rw e refl

pub over_stops : (end : ℕ) (c : TimedCore) → IsOver end c → goes_on_alone end c ≡ false
over_stops end c over = elim over.over [ inl halted ↦ halted_stops end c c.core.halted refl halted | inr late ↦ late_stops end c late.0 late.1 ]

pub over_asks : (image : MemoryImage) (end : ℕ) (c : TimedCore) → IsOver end c → asks (ran_to image end c) ≡ None
over_asks image end c over = ap asks (ran_stays image end c (over_stops end c over)) ∙ ap next_request over.idle

not_both : {A : Type 0} (o : Option A) (x : A) → o ≡ None → o ≡ Some x → ⊥
not_both None x none some = cc
not_both (Some y) x none some = cc

-- ---- the core of this number takes its turn, through this port

module _ (time : Entry → ℕ) (image : MemoryImage) (end most : ℕ) (first : BoundState ShardWorld) (turns : List ℕ) (cores : List NumberedCore) (port : LoggedPortState) (h : HaveTaken time image end most first turns cores port)
    (number : ℕ) (core after : NumberedCore) (here : slice_get cores number ≡ Some core) (chosen port_after : LoggedPortState) (world_is : chosen.world ≡ port.world) (entries_are : chosen.entries ≡ port.entries) (room_is : chosen.room ≡ port.room) where
  abbrev own_left : ℕ
  own_left = get_or h.left number 0

  left_below : number < length h.left
  left_below = omega (arith, slice_get_within cores number core here, h.count)

  left_here : slice_get h.left number ≡ Some own_left
  left_here = slice_get-get_or h.left number 0 left_below

  way : IsOnItsWay end (base_of port.world) (size_of port.world) (l1i_of port.world) own_left core
  way = h.each number own_left core left_here here

  own_number : core.number ≡ number
  own_number = h.numbered number core here

  abbrev cores_after : List NumberedCore
  cores_after = slice_set cores number after

  all_numbered : after.number ≡ core.number → AreNumbered cores_after
  all_numbered same = λ i c found. set_cases cores number i core after c here found (λ x. x.number ≡ i) (λ at. same ∙ own_number ∙ sym at) (λ apart was. h.numbered i c was)

  timed_here : slice_get (timed_of cores) number ≡ Some core.timed
  timed_here = get_mapped (λ (c : NumberedCore). c.timed) cores number core here

  -- a core whose turn it was not is where it was
  other_way : (i n : ℕ) (c : NumberedCore) → base_of port_after.world ≡ base_of port.world → size_of port_after.world ≡ size_of port.world → l1i_of port_after.world ≡ l1i_of port.world
      → slice_get h.left i ≡ Some n → slice_get cores i ≡ Some c → IsOnItsWay end (base_of port_after.world) (size_of port_after.world) (l1i_of port_after.world) n c
  other_way i n c base size l1i left there =
      let was = h.each i n c left there in
      record { few = was.few; clock = was.clock; spare = was.spare; base_is = was.base_is ∙ sym base; size_is = was.size_is ∙ sym size; fetches = λ fetching. l1i ∙ was.fetches fetching }

  -- ---- it took an access

  module _ (e : Entry) (t : TakesAccess time image end chosen port_after core after e) where
    near : (most_accesses end core.timed ≤ own_left) × (latest_clock end core.timed ≤ end + 2 ^ 30)
    near = elim way.few [ inl over ↦ absurd (not_both (asks (ran_to image end core.timed)) t.turn.request (over_asks image end core.timed over) t.turn.asked) | inr few ↦ few ]

    gained : port_after.entries ≡ port.entries ++ e ∷ []
    gained = t.logged ∙ ap (λ (entries : List Entry). entries ++ e ∷ []) entries_are

    base : base_of port_after.world ≡ base_of port.world
    base = t.base ∙ ap base_of world_is

    size : size_of port_after.world ≡ size_of port.world
    size = t.size ∙ ap size_of world_is

    l1i : l1i_of port_after.world ≡ l1i_of port.world
    l1i = t.l1i ∙ ap l1i_of world_is

    abbrev left_after : List ℕ
    left_after = slice_set h.left number (own_left - 1)

    own_way : IsOnItsWay end (base_of port_after.world) (size_of port_after.world) (l1i_of port_after.world) (own_left - 1) after
    own_way = record {
      few = inr (omega (arith, t.fewer, near.0), omega (arith, t.not_later, near.1));
      clock = omega (arith, t.not_later, way.clock);
      spare = omega (arith, t.spare, way.spare, t.fewer, near.0);
      base_is = ap (λ memory. memory.base) t.memory ∙ way.base_is ∙ sym base;
      size_is = ap (λ memory. memory.size) t.memory ∙ way.size_is ∙ sym size;
      fetches = λ fetching. l1i ∙ way.fetches (sym t.fetching ∙ fetching);
    }

    each_way : (i n : ℕ) (c : NumberedCore) → slice_get left_after i ≡ Some n → slice_get cores_after i ≡ Some c → IsOnItsWay end (base_of port_after.world) (size_of port_after.world) (l1i_of port_after.world) n c
    each_way i n c left there =
        set_cases cores number i core after c here there (λ x. IsOnItsWay end (base_of port_after.world) (size_of port_after.world) (l1i_of port_after.world) n x)
        (λ same.
        let own : slice_get left_after number ≡ Some n = ap (slice_get left_after) (sym same) ∙ left in
        let is : own_left - 1 ≡ n = same_Some (own_left - 1) n (sym (get_set h.left number own_left (own_left - 1) left_here) ∙ own) in
        subst (λ (k : ℕ). IsOnItsWay end (base_of port_after.world) (size_of port_after.world) (l1i_of port_after.world) k after) is own_way)
        (λ apart was. other_way i n c base size l1i (sym (get_other h.left number i (own_left - 1) apart) ∙ left) was)

    moved_is : moved (phase_of cores port) e.core after.timed port_after.world (e ∷ []) ≡ phase_of cores_after port_after
    moved_is =
        ap (λ (n : ℕ). moved (phase_of cores port) n after.timed port_after.world (e ∷ [])) (t.own ∙ own_number)
        ∙ ap (λ (cs : List TimedCore). let s : BoundState ShardWorld = record { cores = cs; world = port_after.world; entries = port.entries ++ e ∷ [] } in s) (sym (map-set (λ (c : NumberedCore). c.timed) cores number after))
        ∙ ap (λ (es : List Entry). let s : BoundState ShardWorld = record { cores = timed_of cores_after; world = port_after.world; entries = es } in s) (sym gained)

    reached : Reaches shards_serve time image end first (turns ++ number ∷ []) (phase_of cores_after port_after)
    reached =
        let there : slice_get (timed_of cores) e.core ≡ Some core.timed = ap (slice_get (timed_of cores)) (t.own ∙ own_number) ∙ timed_here in
        let led = by_turn Gives world shards_serve time image end first (phase_of cores port) turns chosen port_after core.timed after.timed h.reaches answers e there (sym world_is) t.turn in
        let to = subst (λ (s : BoundState ShardWorld). Reaches shards_serve time image end first (turns ++ e.core ∷ []) s) moved_is led in
        subst (λ (n : ℕ). Reaches shards_serve time image end first (turns ++ n ∷ []) (phase_of cores_after port_after)) (t.own ∙ own_number) to

    -- so does a turn of the machine
    pub one_turn : turn shards_serve time image end (phase_of cores port) number ≡ Some (phase_of cores_after port_after)
    one_turn =
        let ran : TimedCore = ran_to image end core.timed in
        let served : shards_serve port.world number ran.clock t.turn.request ≡ (e, port_after.world) =
        ap (λ (w : ShardWorld). shards_serve w number ran.clock t.turn.request) (sym world_is)
        ∙ ap (λ (n : ℕ). shards_serve chosen.world n ran.clock t.turn.request) (sym (t.own ∙ own_number))
        ∙ sym (answers chosen port_after ran.clock t.turn.request e t.turn.given)
        in
        let at : moved (phase_of cores port) number after.timed port_after.world (e ∷ []) ≡ phase_of cores_after port_after =
        ap (λ (n : ℕ). moved (phase_of cores port) n after.timed port_after.world (e ∷ [])) (sym (t.own ∙ own_number)) ∙ moved_is
        in
        ap (λ (found : Option TimedCore). option_and_then (λ c. turn_at shards_serve time image end (phase_of cores port) number (ran_to image end c)) found) timed_here
        ∙ ap (λ (asked : Option Request). option_map (λ request. access_served shards_serve time image end (phase_of cores port) number ran (shards_serve port.world number ran.clock request)) asked) t.turn.asked
        ∙ ap (λ (answer : Entry × ShardWorld). Some (access_served shards_serve time image end (phase_of cores port) number ran answer)) served
        ∙ ap (λ (c : TimedCore). Some (moved (phase_of cores port) number c port_after.world (e ∷ []))) (sym t.turn.left)
        ∙ ap Some at

    stamps_stay : length port_after.world.stamps ≡ length port.world.stamps
    stamps_stay =
        as_many_stamps chosen.world port_after.world chosen.core (ran_to image end core.timed).clock t.turn.request e t.turn.given.given ∙ ap (λ (w : ShardWorld). length w.stamps) world_is

    pub one_taken : end ≤ 10 * 2 ^ 30 → HaveTaken time image end most first (turns ++ number ∷ []) cores_after port_after
    one_taken small =
        let longer : length port_after.entries ≡ length port.entries + 1 = omega (arith, ap length gained, length-append port.entries (e ∷ [])) in
        let sum = sum_by-set (λ (n : ℕ). n) h.left number (own_left - 1) 0 left_below in
        let chosen_room : min (room_of chosen.world) chosen.room ≡ min (room_of port.world) port.room =
        ap (λ (w : ShardWorld). min (room_of w) chosen.room) world_is ∙ ap (min (room_of port.world)) room_is
        in
        let start : e.start ≤ 2 ^ 34 = omega (arith, t.start, near.1, small) in
        record {
          reaches = reached;
          left = left_after;
          count = length-set h.left number (own_left - 1) ∙ h.count ∙ sym (length-set cores number after);
          each = each_way;
          few = omega (arith, longer, sum, h.few, t.fewer, near.0);
          room = omega (arith, longer, h.room, t.room, chosen_room);
          numbered = all_numbered t.number;
          stamps = stamps_stay ∙ h.stamps ∙ sym (length-set cores number after);
          starts = subst (All (λ (x : Entry). x.start ≤ 2 ^ 34)) (sym gained) (All-push (λ (x : Entry). x.start ≤ 2 ^ 34) port.entries e h.starts start);
        }

    -- it has an access less left
    pub left_taken : (small : end ≤ 10 * 2 ^ 30) → (one_taken small).left ≡ slice_set h.left number (get_or h.left number 0 - 1)
    unfolding one_taken
    left_taken small = refl

  -- ---- it ended its interval

  pub one_ended : TakesNone image end chosen port_after core after → HaveTaken time image end most first turns cores_after port_after
  one_ended t =
      let world_same : port_after.world ≡ port.world = ap (λ (p : LoggedPortState). p.world) t.ends.same ∙ world_is in
      let entries_same : port_after.entries ≡ port.entries = ap (λ (p : LoggedPortState). p.entries) t.ends.same ∙ entries_are in
      let room_same : port_after.room ≡ port.room = ap (λ (p : LoggedPortState). p.room) t.ends.same ∙ room_is in
      let base = ap base_of world_same in
      let size = ap size_of world_same in
      let l1i : l1i_of port_after.world ≡ l1i_of port.world = ap l1i_of world_same in
      let led = by_itself shards_serve time image end first (phase_of cores port) turns number core.timed after.timed h.reaches timed_here t.ends.left in
      let to : with_core (phase_of cores port) number after.timed ≡ phase_of cores_after port_after =
      ap (λ (cs : List TimedCore). let s : BoundState ShardWorld = record { cores = cs; world = port.world; entries = port.entries } in s) (sym (map-set (λ (c : NumberedCore). c.timed) cores number after))
      ∙ ap (λ (w : ShardWorld). let s : BoundState ShardWorld = record { cores = timed_of cores_after; world = w; entries = port.entries } in s) (sym world_same)
      ∙ ap (λ (es : List Entry). let s : BoundState ShardWorld = record { cores = timed_of cores_after; world = port_after.world; entries = es } in s) (sym entries_same)
      in
      let own : IsOnItsWay end (base_of port_after.world) (size_of port_after.world) (l1i_of port_after.world) own_left after = record {
        few = inl t.over;
        clock = omega (arith, t.not_later, way.clock);
        spare = omega (arith, t.spare, way.spare);
        base_is = ap (λ memory. memory.base) t.memory ∙ way.base_is ∙ sym base;
        size_is = ap (λ memory. memory.size) t.memory ∙ way.size_is ∙ sym size;
        fetches = λ fetching. l1i ∙ way.fetches (sym t.fetching ∙ fetching);
      }
      in
      let room : min (room_of port_after.world) port_after.room ≡ min (room_of port.world) port.room =
      ap (λ (w : ShardWorld). min (room_of w) port_after.room) world_same ∙ ap (min (room_of port.world)) room_same
      in
      record {
        reaches = subst (λ (s : BoundState ShardWorld). Reaches shards_serve time image end first turns s) to led;
        left = h.left;
        count = h.count ∙ sym (length-set cores number after);
        each = λ i n c left there.
            set_cases cores number i core after c here there (λ x. IsOnItsWay end (base_of port_after.world) (size_of port_after.world) (l1i_of port_after.world) n x)
            (λ same.
            let is : own_left ≡ n = same_Some own_left n (sym left_here ∙ ap (slice_get h.left) (sym same) ∙ left) in
            subst (λ (k : ℕ). IsOnItsWay end (base_of port_after.world) (size_of port_after.world) (l1i_of port_after.world) k after) is own)
            (λ apart was. other_way i n c base size l1i left was);
        few = omega (arith, ap length entries_same, h.few);
        room = omega (arith, ap length entries_same, h.room, room);
        numbered = all_numbered t.number;
        stamps = ap (λ (w : ShardWorld). length w.stamps) world_same ∙ h.stamps ∙ sym (length-set cores number after);
        starts = subst (All (λ (x : Entry). x.start ≤ 2 ^ 34)) (sym entries_same) h.starts;
      }

-- ---- a place that is not legal

none_none : {A : Type 0} (o : Option A) → is_some o ≡ false → o ≡ None
none_none None none = refl
none_none (Some x) none = cc

some_some : {A : Type 0} (o : Option A) → is_some o ≡ true → is_none o ≡ false
some_some None some = cc
some_some (Some x) some = refl

module _ (time : Entry → ℕ) (image : MemoryImage) (end most : ℕ) (first : BoundState ShardWorld) (cores : List NumberedCore) (port : LoggedPortState) (number : ℕ) (core : NumberedCore) (here : slice_get cores number ≡ Some core) where
  there : slice_get (timed_of cores) number ≡ Some core.timed
  there = get_mapped (λ (c : NumberedCore). c.timed) cores number core here

  refused : (place : ℕ) (rest : List ℕ) → asks (ran_to image end core.timed) ≡ None → bound_from shards_serve time image end place (number ∷ rest) (phase_of cores port) ≡ Err place
  refused place rest none = rw (there, none) refl

  -- the core at this place has no access
  pub no_access : (turns : List ℕ) (place : ℕ) → place < length turns → get_or turns place 0 ≡ number → HaveTaken time image end most first (take place turns) cores port
      → is_some (asks (ran_to image end core.timed)) ≡ false → bound_phase shards_serve time image end turns first ≡ Err place
  no_access turns place below is h asked =
      let all : take place turns ++ number ∷ drop (place + 1) turns ≡ turns =
      ap (λ (n : ℕ). take place turns ++ n ∷ drop (place + 1) turns) (sym is) ∙ ap (λ (rest : List ℕ). take place turns ++ rest) (sym (drop_more turns place 0 below)) ∙ take-append-drop place turns
      in
      let at : 0 + length (take place turns) ≡ place = omega (arith, length-take-le place turns (omega (arith, below))) in
      ap (λ (ns : List ℕ). bound_from shards_serve time image end 0 ns first) (sym all)
      ∙ h.reaches 0 (number ∷ drop (place + 1) turns)
      ∙ ap (λ (n : ℕ). bound_from shards_serve time image end n (number ∷ drop (place + 1) turns) (phase_of cores port)) at
      ∙ refused place (drop (place + 1) turns) (none_none (asks (ran_to image end core.timed)) asked)

  -- after the last place the core still has one
  pub still_asks : (turns : List ℕ) → HaveTaken time image end most first turns cores port → is_some (asks (ran_to image end core.timed)) ≡ true → bound_phase shards_serve time image end turns first ≡ Err (length turns)
  still_asks turns h asked =
      let undone : are_done image end (phase_of cores port) ≡ false =
      let test : TimedCore → Bool = λ c. is_none (asks (ran_to image end c)) in
      list_all_at test (timed_of cores) number core.timed (slice_get_within (timed_of cores) number core.timed there)
      (ap test (get_or_from_slice_get (timed_of cores) number core.timed core.timed there) ∙ some_some (asks (ran_to image end core.timed)) asked)
      in
      let stops : bound_from shards_serve time image end (0 + length turns) [] (phase_of cores port) ≡ Err (0 + length turns) = rw undone refl in
      let none : 0 + length turns ≡ length turns = omega arith in
      ap (λ (ns : List ℕ). bound_from shards_serve time image end 0 ns first) (sym (append-nil turns))
      ∙ h.reaches 0 []
      ∙ stops ∙ ap Err none
