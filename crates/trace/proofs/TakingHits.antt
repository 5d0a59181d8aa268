-- Turns of one core whose accesses are hits, which it takes at once, and what is told of them.
use Rattle.std.proofs.Common.{◌≡◌, ◌⊎◌, ℕ, ◌+◌, ◌*◌, ◌-◌, ◌^◌, ◌<◌, ◌≤◌, drop, get_or, Bool, List, [], ◌∷◌, ◌++◌, false, length, map, min, None, Option, option_to_list, Some, All, true≢false, refl, sym, ◌∙◌, ap, subst, inl, inr, arith, append-nil, append_assoc, get_or-set_same}
use Rattle.std.specs.Prelude.{is_some, replicate, slice_get, slice_set}
use Rattle.std.specs.Option.{option_and_then, option_map, option_map_or}
use Rattle.std.proofs.lemmas.List.{append_cancel_right, length-set, map-set}
use Rattle.std.proofs.lemmas.List.Elements.{All-append, All-head, All-tail}
use Rattle.std.proofs.lemmas.List.Sums.{get_or-le-sum_by}
use Rattle.std.proofs.lemmas.Option.{same_Some, slice_get-get_or, slice_get_within}
use Rattle.std.proofs.Math.Seq.{drop-append_seam}
use Rattle.zs_num.specs.declared.entry.Entry.{Entry}
use Rattle.zs_num.specs.declared.entry.Outcome.TheVariants.{Hit}
use Rattle.zs_num.specs.declared.request.Request.{Request}
use Rattle.elf_load.specs.MemoryImage.{MemoryImage}
use Rattle.rv_core.specs.declared.leg.Leg.{Leg}
use Rattle.rv_core.specs.Told.{Made, Told, told_of}
use Rattle.bound_core.specs.IntervalBounds.{latest_clock, most_accesses}
use Rattle.bound_core.specs.NumberedCores.{NumberedCore, timed_of}
use Rattle.bound_core.specs.Reaching.{Reaches}
use Rattle.bound_core.specs.ReferenceMachine.{BoundState, access_served, bound_from}
use Rattle.bound_core.specs.ShardPort.{base_of, l1i_of, room_of, size_of}
use Rattle.bound_core.specs.ShardWorld.{ShardWorld, shards_serve}
use Rattle.bound_core.specs.Taken.{Settles, TakesOne, TakesThese}
use Rattle.bound_core.specs.TimedCore.{TimedCore, asks, core_after_access, ran_to}
use Rattle.bound_core.specs.ToldTurns.{TellsTurns, behind_turns, told_alone, told_by_turns}
use Rattle.bound_core.specs.Turn.{IsOver}
use Rattle.bound_core.specs.TurnLaws.{with_core}
use Rattle.reference.proofs.Lists.{get_set, set_again, set_same}
use Rattle.reference.proofs.Phase.{local_alone}
use Rattle.bound_records.proofs.Lists.{get_mapped, set_cases}
use Rattle.trace.specs.Port.{Gives, LoggedPortState, leaves_shards, phase_of}
use Rattle.trace.specs.Trace.{Accessed, Step, access_step, phase_steps, steps_alone, turn_steps}
use Rattle.trace.specs.Turns.{HaveTaken, IsOnItsWay, TakesAccess, chosen}
use Rattle.trace.specs.Ways.{FitsLeg, nothing_leaves, told_steps}
use Rattle.trace.proofs.Addresses.{ToldFits, alone-fits, behind-fits, turns-fit}
use Rattle.trace.proofs.HitsLeave.{none_leave}
use Rattle.trace.proofs.PhaseTold.{turn_told}
use Rattle.trace.proofs.PortTurns.{answers}
use Rattle.trace.proofs.TakingTurns.{left_taken, one_taken, one_turn}
use Rattle.trace.proofs.WayTold.{all_left, alone_behind, alone_told, legs_fit}

-- ---- a core that has gone on within its turn

module _ (time : Entry → ℕ) (image : MemoryImage) (end : ℕ) where
  -- a schedule goes on as it did
  goes_on : (s t : BoundState ShardWorld) (turns : List ℕ) (number : ℕ) (before after : TimedCore) → Reaches shards_serve time image end s turns t
      → slice_get t.cores number ≡ Some before → ran_to image end after ≡ ran_to image end before → Reaches shards_serve time image end s turns (with_core t number after)
  goes_on s t turns number before after reaches here same place more =
      let u : BoundState ShardWorld = with_core t number after in
      let there : slice_get u.cores number ≡ Some after = get_set t.cores number before after here in
      let again : with_core u number (ran_to image end after) ≡ with_core t number (ran_to image end before) =
      ap (λ (cs : List TimedCore). let x : BoundState ShardWorld = record t { cores = cs } in x) (set_again t.cores number after (ran_to image end after) ∙ ap (slice_set t.cores number) same)
      in
      reaches place more
      ∙ sym (local_alone shards_serve time image end t number before (place + length turns) more here)
      ∙ ap (λ (x : BoundState ShardWorld). bound_from shards_serve time image end (place + length turns) more x) (sym again)
      ∙ local_alone shards_serve time image end u number after (place + length turns) more there

-- a core that is not over: it has no more accesses left than so many, and none of them is late
abbrev pub IsNear : (end left : ℕ) → TimedCore → Type 0
IsNear end left c = (most_accesses end c ≤ left) × (latest_clock end c ≤ end + 2 ^ 30)

-- so is one that neither halted nor came to the end
pub not_over : (end left : ℕ) (c : TimedCore) → is_some c.core.halted ≡ false → c.clock < end → IsOver end c ⊎ IsNear end left c → IsNear end left c
not_over end left c going early few =
    elim few [
      | inl over ↦ elim over.over [ inl halted ↦ absurd (true≢false (sym halted ∙ going)) | inr late ↦ (let l = late.1 in absurd (omega (arith, l, early))) ]
      | inr near ↦ near
    ]

-- such a core stays on its way while it goes ahead within its turn
pub settled_way : (time : Entry → ℕ) (image : MemoryImage) (end : ℕ) (core after : NumberedCore) → Settles time image end Gives core.timed after.timed → after.spare ≡ core.spare
    → (base size : ℕ) (l1i : Bool) (left : ℕ) → IsNear end left core.timed → IsOnItsWay end base size l1i left core → IsOnItsWay end base size l1i left after
settled_way time image end core after s same base size l1i left near way = record {
  few = inr (let a = s.fewer in let b = near.0 in omega (arith, a, b), let a = s.not_later in let b = near.1 in omega (arith, a, b));
  clock = (let a = s.not_later in let b = way.clock in omega (arith, a, b));
  spare = (let a = way.spare in omega (arith, a, same));
  base_is = ap (λ memory. memory.base) s.memory ∙ way.base_is;
  size_is = ap (λ memory. memory.size) s.memory ∙ way.size_is;
  fetches = λ fetching. way.fetches (sym s.fetching ∙ fetching);
}

abbrev pub left_of : {time : Entry → ℕ} {image : MemoryImage} {end most : ℕ} {first : BoundState ShardWorld} {turns : List ℕ} {cores : List NumberedCore} {port : LoggedPortState}
    → HaveTaken time image end most first turns cores port → (number : ℕ) → ℕ
left_of h number = get_or h.left number 0

-- the same core at this time
abbrev pub at_time : NumberedCore → TimedCore → NumberedCore
at_time core timed = record core { timed = timed }

-- a core of which nothing but its time is other than before
pub is_after : (core after : NumberedCore) → after.number ≡ core.number → after.spare ≡ core.spare → at_time core after.timed ≡ after
is_after core after number spare =
    ap (λ (k : ℕ). let x : NumberedCore = record core { number = k; timed = after.timed } in x) (sym number)
    ∙ ap (λ (k : ℕ). let x : NumberedCore = record after { spare = k } in x) (sym spare)

-- as many turns of the core as there are entries
pub as_many : (turns : List ℕ) (entries : List Entry) (n taken number : ℕ) → length entries ≡ taken → n ≡ number → turns ++ replicate (length entries) n ≡ turns ++ replicate taken number
as_many turns entries n taken number many is = ap (λ (k : ℕ). turns ++ replicate k n) many ∙ ap (λ (k : ℕ). turns ++ replicate taken k) is

-- whichever core is chosen
abbrev pub as_chosen : (time : Entry → ℕ) (image : MemoryImage) (end most : ℕ) (first : BoundState ShardWorld) (turns : List ℕ) (cores : List NumberedCore) (port : LoggedPortState) (number : ℕ)
    → HaveTaken time image end most first turns cores port → HaveTaken time image end most first turns cores (chosen port number)
as_chosen time image end most first turns cores port number h = record {
  reaches = h.reaches;
  left = h.left;
  count = h.count;
  each = h.each;
  few = h.few;
  room = h.room;
  numbered = h.numbered;
  stamps = h.stamps;
  starts = h.starts;
}

-- the accesses that the port has logged
abbrev pub logged_of : LoggedPortState → Option (List Entry)
logged_of p = Some p.entries

-- there is room for all of them
pub hits_room : (time : Entry → ℕ) (image : MemoryImage) (end most : ℕ) (first : BoundState ShardWorld) (turns : List ℕ) (cores : List NumberedCore) (port : LoggedPortState) (number accesses : ℕ)
    → (h : HaveTaken time image end most first turns cores port) → number < length cores → accesses ≤ left_of h number → accesses ≤ min (room_of port.world) port.room
hits_room time image end most first turns cores port number accesses h within few =
    let count = h.count in
    let below : number < length h.left = omega (arith, within, count) in
    let all = h.few in
    let room = h.room in
    let one = get_or-le-sum_by (λ (n : ℕ). n) h.left number 0 below in
    omega (arith, few, all, room, one)

-- ---- what is told of turns

module _ (time : Entry → ℕ) (image : MemoryImage) (end number : ℕ) where
  -- that of one, with what is told of those behind it
  pub one_told : (c behind : TimedCore) (e : Entry) (entries : List Entry) → behind ≡ core_after_access time e (ran_to image end c)
      → told_steps number (told_by_turns time image end (e ∷ entries) c) (e ∷ entries)
      ≡ (steps_alone image end number c ++ Accessed (ran_to image end c).core.pc e nothing_leaves ∷ []) ++ told_steps number (told_by_turns time image end entries behind) entries
  one_told c behind e entries is =
      let ran : TimedCore = ran_to image end c in
      let alone = steps_alone image end number c in
      let access : List Step = Accessed ran.core.pc e nothing_leaves ∷ [] in
      alone_told number image end c (Made ran.core.pc ∷ told_by_turns time image end entries (core_after_access time e ran)) (e ∷ entries)
      ∙ (ap (λ (x : TimedCore). alone ++ (access ++ told_steps number (told_by_turns time image end entries x) entries)) (sym is)
      ∙ sym (append_assoc alone access (told_steps number (told_by_turns time image end entries behind) entries)))

  -- an access that was a hit, of a core that comes to it
  pub hit_access : (port next : LoggedPortState) (c behind : TimedCore) (e : Entry) → TakesOne time image end Gives logged_of number port next c behind e → e.outcome ≡ Hit
      → map (access_step shards_serve leaves_shards image end port.world number (ran_to image end c)) (option_to_list (asks (ran_to image end c))) ≡ Accessed (ran_to image end c).core.pc e nothing_leaves ∷ []
  hit_access port next c behind e one hit =
      let ran : TimedCore = ran_to image end c in
      let request = one.turn.request in
      let served : (e, next.world) ≡ shards_serve port.world number ran.clock request =
      answers port next ran.clock request e one.turn.given ∙ ap (λ (n : ℕ). shards_serve port.world n ran.clock request) one.core
      in
      ap (λ (asked : Option Request). map (access_step shards_serve leaves_shards image end port.world number ran) (option_to_list asked)) one.turn.asked
      ∙ (ap (λ (answer : Entry × ShardWorld). Accessed ran.core.pc answer.0 (leaves_shards port.world number request) ∷ []) (sym served)
      ∙ ap (λ leaving. Accessed ran.core.pc e leaving ∷ []) (none_leave port.world next.world number ran.clock request e served hit))

  -- a turn whose access was a hit
  hit_turn : (port next : LoggedPortState) (c behind : TimedCore) (e : Entry) → TakesOne time image end Gives logged_of number port next c behind e → e.outcome ≡ Hit
      → turn_steps shards_serve leaves_shards image end port.world number c ≡ steps_alone image end number c ++ Accessed (ran_to image end c).core.pc e nothing_leaves ∷ []
  hit_turn port next c behind e one hit = ap (λ (access : List Step). steps_alone image end number c ++ access) (hit_access port next c behind e one hit)

  -- the core that has gone on is in the same turn as the one behind them
  pub same_turn : (entries : List Entry) (port port_after : LoggedPortState) (c last : TimedCore) → TakesThese time image end Gives logged_of number entries port port_after c last
      → ran_to image end last ≡ ran_to image end (behind_turns time image end entries c)
  same_turn [] port port_after c last these = these.1.ran
  same_turn (e ∷ entries) port port_after c last these =
      same_turn entries these.0 port_after these.1.0 last these.1.1.1
      ∙ ap (λ (x : TimedCore). ran_to image end (behind_turns time image end entries x)) these.1.1.0.turn.left

  -- the port has logged the entries
  pub all_logged : (entries : List Entry) (port port_after : LoggedPortState) (c last : TimedCore) → TakesThese time image end Gives logged_of number entries port port_after c last
      → port_after.entries ≡ port.entries ++ entries
  all_logged [] port port_after c last these = ap (λ (p : LoggedPortState). p.entries) these.0 ∙ sym (append-nil port.entries)
  all_logged (e ∷ entries) port port_after c last these =
      let next : LoggedPortState = these.0 in
      all_logged entries next port_after these.1.0 last these.1.1.1
      ∙ (ap (λ (es : List Entry). es ++ entries) (same_Some next.entries (port.entries ++ e ∷ []) these.1.1.0.logged) ∙ append_assoc port.entries (e ∷ []) entries)

module _ (time : Entry → ℕ) (image : MemoryImage) (end most : ℕ) (first : BoundState ShardWorld) (number : ℕ) where
  -- a core that goes ahead within its turn
  pub ahead_taken : (turns : List ℕ) (cores : List NumberedCore) (port : LoggedPortState) (h : HaveTaken time image end most first turns cores port) (core after : NumberedCore)
      → slice_get cores number ≡ Some core → ran_to image end after.timed ≡ ran_to image end core.timed → after.number ≡ core.number
      → IsOnItsWay end (base_of port.world) (size_of port.world) (l1i_of port.world) (left_of h number) after
      → HaveTaken time image end most first turns (slice_set cores number after) port
  ahead_taken turns cores port h core after here ran own_number own =
      let as_many : length (slice_set cores number after) ≡ length cores = length-set cores number after in
      let within : number < length cores = slice_get_within cores number core here in
      let left_here : slice_get h.left number ≡ Some (left_of h number) = slice_get-get_or h.left number 0 (let count = h.count in omega (arith, within, count)) in
      let to : with_core (phase_of cores port) number after.timed ≡ phase_of (slice_set cores number after) port =
      ap (λ (cs : List TimedCore). let x : BoundState ShardWorld = record { cores = cs; world = port.world; entries = port.entries } in x) (sym (map-set (λ (c : NumberedCore). c.timed) cores number after))
      in
      let led = goes_on time image end first (phase_of cores port) turns number core.timed after.timed h.reaches (get_mapped (λ (c : NumberedCore). c.timed) cores number core here) ran in
      record {
        reaches = subst (λ (x : BoundState ShardWorld). Reaches shards_serve time image end first turns x) to led;
        left = h.left;
        count = h.count ∙ sym as_many;
        each = λ i n c left there.
            set_cases cores number i core after c here there (λ x. IsOnItsWay end (base_of port.world) (size_of port.world) (l1i_of port.world) n x)
            (λ same.
            let is : left_of h number ≡ n = same_Some (left_of h number) n (sym left_here ∙ ap (slice_get h.left) (sym same) ∙ left) in
            subst (λ (k : ℕ). IsOnItsWay end (base_of port.world) (size_of port.world) (l1i_of port.world) k after) is own)
            (λ apart was. h.each i n c left was);
        few = h.few;
        room = h.room;
        numbered = λ i c found. set_cases cores number i core after c here found (λ x. x.number ≡ i) (λ same. own_number ∙ h.numbered number core here ∙ sym same) (λ apart was. h.numbered i c was);
        stamps = h.stamps ∙ sym as_many;
        starts = h.starts;
      }

  settled : (turns : List ℕ) (cores : List NumberedCore) (port : LoggedPortState) (h : HaveTaken time image end most first turns cores port) (core : NumberedCore) (last : TimedCore)
      → slice_get cores number ≡ Some core → IsNear end (left_of h number) core.timed → Settles time image end Gives core.timed last
      → HaveTaken time image end most first turns (slice_set cores number (at_time core last)) port
  settled turns cores port h core last here near s =
      let within : number < length cores = slice_get_within cores number core here in
      let left_here : slice_get h.left number ≡ Some (left_of h number) = slice_get-get_or h.left number 0 (let count = h.count in omega (arith, within, count)) in
      ahead_taken turns cores port h core (at_time core last) here s.ran refl
      (settled_way time image end core (at_time core last) s refl (base_of port.world) (size_of port.world) (l1i_of port.world) (left_of h number) near (h.each number (left_of h number) core left_here here))

  -- ---- a core that takes turns

  -- a turn as the code of a turn says it
  as_access : (port next : LoggedPortState) (core : NumberedCore) (behind : TimedCore) (e : Entry) → core.number ≡ number
      → TakesOne time image end Gives logged_of number port next core.timed behind e → TakesAccess time image end port next core (at_time core behind) e
  as_access port next core behind e own one = record {
    turn = one.turn;
    own = one.core ∙ sym own;
    start = one.starts;
    fewer = one.fewer;
    not_later = one.not_later;
    number = refl;
    memory = one.memory;
    fetching = one.fetching;
    spare = omega arith;
    base = one.turn.given.base_stays;
    size = one.turn.given.size_stays;
    l1i = one.turn.given.l1i_stays;
    room = one.turn.given.room;
    logged = same_Some next.entries (port.entries ++ e ∷ []) one.logged;
  }

  one_less : (left : List ℕ) → number < length left → (now : ℕ) → now < get_or left number 0 → now ≤ get_or (slice_set left number (get_or left number 0 - 1)) number 0
  one_less left within now less =
      let is = get_or-set_same left number (get_or left number 0 - 1) 0 within in
      omega (arith, is, less)

  pub these_taken : (entries : List Entry) (turns : List ℕ) (cores : List NumberedCore) (port port_after : LoggedPortState) (h : HaveTaken time image end most first turns cores port) (core : NumberedCore) (last : TimedCore)
      → end ≤ 10 * 2 ^ 30 → slice_get cores number ≡ Some core → IsNear end (left_of h number) core.timed
      → TakesThese time image end Gives logged_of number entries port port_after core.timed last
      → HaveTaken time image end most first (turns ++ replicate (length entries) number) (slice_set cores number (at_time core last)) port_after
  these_taken [] turns cores port port_after h core last small here near these =
      let after : List NumberedCore = slice_set cores number (at_time core last) in
      let still : HaveTaken time image end most first turns after port = settled turns cores port h core last here near these.1 in
      subst (λ (p : LoggedPortState). HaveTaken time image end most first (turns ++ []) after p) (sym these.0)
      (subst (λ (ns : List ℕ). HaveTaken time image end most first ns after port) (sym (append-nil turns)) still)
  these_taken (e ∷ entries) turns cores port port_after h core last small here near these =
      let next : LoggedPortState = these.0 in
      let behind : TimedCore = these.1.0 in
      let one = these.1.1.0 in
      let mid : NumberedCore = at_time core behind in
      let took : TakesAccess time image end port next core mid e = as_access port next core behind e (h.numbered number core here) one in
      let taken : HaveTaken time image end most first (turns ++ number ∷ []) (slice_set cores number mid) next =
      one_taken time image end most first turns cores port h number core mid here port next refl refl refl e took small
      in
      let left : left_of taken number ≡ get_or (slice_set h.left number (left_of h number - 1)) number 0 =
      ap (λ (ns : List ℕ). get_or ns number 0) (left_taken time image end most first turns cores port h number core mid here port next refl refl refl e took small)
      in
      let there : slice_get (slice_set cores number mid) number ≡ Some mid = get_set cores number core mid here in
      let within : number < length h.left = (let w = slice_get_within cores number core here in let count = h.count in omega (arith, w, count)) in
      let nearer : IsNear end (left_of taken number) behind = (
        (let a = one.fewer in let b = near.0 in let less = one_less h.left within (most_accesses end behind) (omega (arith, a, b)) in omega (arith, less, left)),
        (let a = one.not_later in let b = near.1 in omega (arith, a, b)),
      )
      in
      let all = these_taken entries (turns ++ number ∷ []) (slice_set cores number mid) next port_after taken mid last small there nearer these.1.1.1 in
      subst (λ (cs : List NumberedCore). HaveTaken time image end most first (turns ++ number ∷ replicate (length entries) number) cs port_after) (set_again cores number mid (at_time core last))
      (subst (λ (ns : List ℕ). HaveTaken time image end most first ns (slice_set (slice_set cores number mid) number (at_time core last)) port_after) (append_assoc turns (number ∷ []) (replicate (length entries) number)) all)

  -- ---- what is told of these turns

  pub these_told : (entries : List Entry) (turns : List ℕ) (cores : List NumberedCore) (port port_after : LoggedPortState) (h : HaveTaken time image end most first turns cores port) (core : NumberedCore) (last : TimedCore)
      → end ≤ 10 * 2 ^ 30 → slice_get cores number ≡ Some core
      → TakesThese time image end Gives logged_of number entries port port_after core.timed last → All (λ e. e.outcome ≡ Hit) entries → (rest : List ℕ)
      → phase_steps shards_serve leaves_shards image end time (replicate (length entries) number ++ rest) (phase_of cores port)
      ≡ told_steps number (told_by_turns time image end entries core.timed) entries
      ++ phase_steps shards_serve leaves_shards image end time rest (phase_of (slice_set cores number (at_time core (behind_turns time image end entries core.timed))) port_after)
  these_told [] turns cores port port_after h core last small here these hits rest =
      ap (λ (cs : List NumberedCore). phase_steps shards_serve leaves_shards image end time rest (phase_of cs port)) (sym (set_same cores number core here))
      ∙ ap (λ (p : LoggedPortState). phase_steps shards_serve leaves_shards image end time rest (phase_of (slice_set cores number core) p)) (sym these.0)
  these_told (e ∷ entries) turns cores port port_after h core last small here these hits rest =
      let next : LoggedPortState = these.0 in
      let behind : TimedCore = these.1.0 in
      let one = these.1.1.0 in
      let mid : NumberedCore = at_time core behind in
      let Hits : Entry → Type 0 = λ x. x.outcome ≡ Hit in
      let took : TakesAccess time image end port next core mid e = as_access port next core behind e (h.numbered number core here) one in
      let taken : HaveTaken time image end most first (turns ++ number ∷ []) (slice_set cores number mid) next =
      one_taken time image end most first turns cores port h number core mid here port next refl refl refl e took small
      in
      let turned = one_turn time image end most first turns cores port h number core mid here port next refl refl refl e took in
      let there : slice_get (slice_set cores number mid) number ≡ Some mid = get_set cores number core mid here in
      let timed : slice_get (timed_of cores) number ≡ Some core.timed = get_mapped (λ (x : NumberedCore). x.timed) cores number core here in
      let own = turn_steps shards_serve leaves_shards image end port.world number core.timed in
      let more : List ℕ = replicate (length entries) number ++ rest in
      let own_is = hit_turn time image end number port next core.timed behind e one (All-head Hits e entries hits) in
      let told_behind = told_steps number (told_by_turns time image end entries behind) entries in
      let Later : List NumberedCore → List Step = λ cs. phase_steps shards_serve leaves_shards image end time rest (phase_of cs port_after) in
      let all = these_told entries (turns ++ number ∷ []) (slice_set cores number mid) next port_after taken mid last small there these.1.1.1 (All-tail Hits e entries hits) rest in
      let last_is : (x : TimedCore) → slice_set (slice_set cores number mid) number (at_time mid x) ≡ slice_set cores number (at_time core x) = λ x. set_again cores number mid (at_time core x) in
      sym (turn_told image end time (phase_of cores port) (phase_of (slice_set cores number mid) next) number core.timed more [] own timed turned refl)
      ∙ (ap (λ (steps : List Step). own ++ steps) (all ∙ ap (λ (cs : List NumberedCore). told_behind ++ Later cs) (last_is (behind_turns time image end entries behind)))
      ∙ (sym (append_assoc own told_behind (Later (slice_set cores number (at_time core (behind_turns time image end entries behind)))))
      ∙ (ap (λ (steps : List Step). (steps ++ told_behind) ++ Later (slice_set cores number (at_time core (behind_turns time image end entries behind)))) own_is
      ∙ (ap (λ (steps : List Step). steps ++ Later (slice_set cores number (at_time core (behind_turns time image end entries behind)))) (sym (one_told time image end number core.timed behind e entries one.turn.left))
      ∙ ap (λ (x : TimedCore). told_steps number (told_by_turns time image end (e ∷ entries) core.timed) (e ∷ entries) ++ Later (slice_set cores number (at_time core (behind_turns time image end entries x)))) one.turn.left))))

-- ---- a core within its turn

module _ (time : Entry → ℕ) (image : MemoryImage) (end number : ℕ) (cores : List NumberedCore) (port : LoggedPortState) (core : NumberedCore) (here : slice_get cores number ≡ Some core) where
  abbrev with_timed : TimedCore → BoundState ShardWorld
  with_timed c = with_core (phase_of cores port) number c

  is_with_timed : (c : TimedCore) → phase_of (slice_set cores number (at_time core c)) port ≡ with_timed c
  is_with_timed c = ap (λ (cs : List TimedCore). let x : BoundState ShardWorld = record { cores = cs; world = port.world; entries = port.entries } in x) (map-set (λ (x : NumberedCore). x.timed) cores number (at_time core c))

  -- what is told of the access to which it comes, and of all behind it
  abbrev own_access : TimedCore → List Step
  own_access ran = map (access_step shards_serve leaves_shards image end port.world number ran) (option_to_list (asks ran))

  abbrev behind_access : (rest : List ℕ) → TimedCore → (asked : Option Request) → List Step
  behind_access rest ran asked =
      option_map_or (phase_steps shards_serve leaves_shards image end time rest)
      (option_map (λ request. access_served shards_serve time image end (phase_of cores port) number ran (shards_serve port.world number ran.clock request)) asked) []

  same_behind : (rest : List ℕ) (c ran : TimedCore) (asked : Option Request)
      → option_map_or (phase_steps shards_serve leaves_shards image end time rest)
      (option_map (λ request. access_served shards_serve time image end (with_timed c) number ran (shards_serve port.world number ran.clock request)) asked) []
      ≡ behind_access rest ran asked
  same_behind rest c ran None = refl
  same_behind rest c ran (Some request) =
      let answer = shards_serve port.world number ran.clock request in
      ap (λ (cs : List TimedCore). let x : BoundState ShardWorld = record { cores = cs; world = answer.1; entries = port.entries ++ answer.0 ∷ [] } in phase_steps shards_serve leaves_shards image end time rest x)
      (set_again (timed_of cores) number c (core_after_access time answer.0 ran))

  first_turn : (rest : List ℕ) (c : TimedCore)
      → phase_steps shards_serve leaves_shards image end time (number ∷ rest) (with_timed c)
      ≡ (steps_alone image end number c ++ own_access (ran_to image end c)) ++ behind_access rest (ran_to image end c) (asks (ran_to image end c))
  first_turn rest c =
      let ran : TimedCore = ran_to image end c in
      let there : slice_get (slice_set (timed_of cores) number c) number ≡ Some c =
      get_set (timed_of cores) number core.timed c (get_mapped (λ (x : NumberedCore). x.timed) cores number core here)
      in
      ap (λ (found : Option TimedCore).
      option_map_or (turn_steps shards_serve leaves_shards image end port.world number) found []
      ++ option_map_or (phase_steps shards_serve leaves_shards image end time rest)
      (option_and_then (λ x. option_map (λ request. access_served shards_serve time image end (with_timed c) number (ran_to image end x) (shards_serve port.world number (ran_to image end x).clock request)) (asks (ran_to image end x))) found) []) there
      ∙ ap (λ (steps : List Step). turn_steps shards_serve leaves_shards image end port.world number c ++ steps) (same_behind rest c ran (asks ran))

  -- two places within the same turn, with what was told before them
  pub within_turn : (one other : TimedCore) (before later : List Step) → ran_to image end one ≡ ran_to image end other
      → before ++ steps_alone image end number one ≡ later ++ steps_alone image end number other → (rest : List ℕ)
      → before ++ phase_steps shards_serve leaves_shards image end time (number ∷ rest) (phase_of (slice_set cores number (at_time core one)) port)
      ≡ later ++ phase_steps shards_serve leaves_shards image end time (number ∷ rest) (phase_of (slice_set cores number (at_time core other)) port)
  within_turn one other before later same told rest =
      let Ends : TimedCore → List Step = λ ran. own_access ran ++ behind_access rest ran (asks ran) in
      let whole : (c : TimedCore) (steps : List Step)
      → steps ++ phase_steps shards_serve leaves_shards image end time (number ∷ rest) (phase_of (slice_set cores number (at_time core c)) port)
      ≡ (steps ++ steps_alone image end number c) ++ Ends (ran_to image end c) =
      λ c steps.
      ap (λ (s : BoundState ShardWorld). steps ++ phase_steps shards_serve leaves_shards image end time (number ∷ rest) s) (is_with_timed c)
      ∙ (ap (λ (all : List Step). steps ++ all)
      (first_turn rest c ∙ append_assoc (steps_alone image end number c) (own_access (ran_to image end c)) (behind_access rest (ran_to image end c) (asks (ran_to image end c))))
      ∙ sym (append_assoc steps (steps_alone image end number c) (Ends (ran_to image end c))))
      in
      whole one before
      ∙ (ap (λ (steps : List Step). steps ++ Ends (ran_to image end one)) told
      ∙ (ap (λ (ran : TimedCore). (later ++ steps_alone image end number other) ++ Ends ran) same ∙ sym (whole other later)))

-- ---- all together

module _ (time : Entry → ℕ) (image : MemoryImage) (end most : ℕ) (first : BoundState ShardWorld) (number : ℕ) (turns : List ℕ) (cores : List NumberedCore) (port port_after : LoggedPortState)
    (h : HaveTaken time image end most first turns cores port) (core : NumberedCore) (last : TimedCore) (small : end ≤ 10 * 2 ^ 30) (here : slice_get cores number ≡ Some core)
    (entries : List Entry) (these : TakesThese time image end Gives logged_of number entries port port_after core.timed last) (hits : All (λ e. e.outcome ≡ Hit) entries) where
  -- what was told is told of the turns, and of what the core did of the one that follows
  pub hits_told : (told : List Told) (before later : List Step) → TellsTurns time image end told entries core.timed last → later ≡ before ++ told_steps number told entries → (rest : List ℕ)
      → later ++ phase_steps shards_serve leaves_shards image end time (number ∷ rest) (phase_of (slice_set cores number (at_time core last)) port_after)
      ≡ before ++ phase_steps shards_serve leaves_shards image end time (replicate (length entries) number ++ number ∷ rest) (phase_of cores port)
  hits_told told before later tells is rest =
      let behind : TimedCore = behind_turns time image end entries core.timed in
      let by_turns = told_by_turns time image end entries core.timed in
      let Later : TimedCore → List Step = λ c. phase_steps shards_serve leaves_shards image end time (number ∷ rest) (phase_of (slice_set cores number (at_time core c)) port_after) in
      let same : told_steps number told entries ++ steps_alone image end number last ≡ told_steps number by_turns entries ++ steps_alone image end number behind =
      sym (alone_behind number image end told entries last) ∙ (ap (λ (x : List Told). told_steps number x entries) tells ∙ alone_behind number image end by_turns entries behind)
      in
      let within = within_turn time image end number cores port_after core here last behind (told_steps number told entries) (told_steps number by_turns entries)
      (same_turn time image end number entries port port_after core.timed last these) same rest
      in
      ap (λ (steps : List Step). steps ++ Later last) is
      ∙ (append_assoc before (told_steps number told entries) (Later last)
      ∙ (ap (λ (steps : List Step). before ++ steps) within
      ∙ ap (λ (steps : List Step). before ++ steps) (sym (these_told time image end most first number entries turns cores port port_after h core last small here these hits (number ∷ rest)))))

  -- and of the turns alone, where the core stands behind the last of them
  pub turns_told : (told : List Told) (before later : List Step) → TellsTurns time image end told entries core.timed last → last ≡ behind_turns time image end entries core.timed
      → later ≡ before ++ told_steps number told entries → (rest : List ℕ)
      → later ++ phase_steps shards_serve leaves_shards image end time rest (phase_of (slice_set cores number (at_time core last)) port_after)
      ≡ before ++ phase_steps shards_serve leaves_shards image end time (replicate (length entries) number ++ rest) (phase_of cores port)
  turns_told told before later tells stops is rest =
      let behind : TimedCore = behind_turns time image end entries core.timed in
      let by_turns = told_by_turns time image end entries core.timed in
      let Later : TimedCore → List Step = λ c. phase_steps shards_serve leaves_shards image end time rest (phase_of (slice_set cores number (at_time core c)) port_after) in
      let same : told ≡ by_turns = append_cancel_right told by_turns (told_alone image end behind) (ap (λ (c : TimedCore). told ++ told_alone image end c) (sym stops) ∙ tells) in
      ap (λ (steps : List Step). steps ++ Later last) is
      ∙ (append_assoc before (told_steps number told entries) (Later last)
      ∙ (ap (λ (t : List Told). before ++ (told_steps number t entries ++ Later last)) same
      ∙ (ap (λ (c : TimedCore). before ++ (told_steps number by_turns entries ++ Later c)) stops
      ∙ ap (λ (steps : List Step). before ++ steps) (sym (these_told time image end most first number entries turns cores port port_after h core last small here these hits rest)))))

-- the legs of a way that tells them fit
pub way_fits : (time : Entry → ℕ) (image : MemoryImage) (end : ℕ) (entries : List Entry) (told : List Told) (before last : TimedCore) (legs : List Leg) → before.core.pc < 2 ^ 64
    → TellsTurns time image end told entries before last → told_of legs ≡ told → All FitsLeg legs
way_fits time image end entries told before last legs fits tells is =
    let all : All ToldFits (told ++ told_alone image end last) = subst (All ToldFits) (sym tells)
    (All-append ToldFits (told_by_turns time image end entries before) (told_alone image end (behind_turns time image end entries before))
    (turns-fit image time end entries before fits) (alone-fits image end (behind_turns time image end entries before) (behind-fits image time end entries before fits)))
    in
    legs_fit legs (subst (All ToldFits) (sym is) (all_left ToldFits told (told_alone image end last) all))

-- the entries behind those that there were
pub entries_behind : (before entries after : List Entry) → after ≡ before ++ entries → drop (length before) after ≡ entries
entries_behind before entries after is = ap (drop (length before)) is ∙ drop-append_seam before entries
