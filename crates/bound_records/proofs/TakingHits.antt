-- Turns of one core whose accesses are hits, which it takes at once.
use Rattle.std.proofs.Common.{◌≡◌, ◌⊎◌, ℕ, ◌+◌, ◌*◌, ◌-◌, ◌^◌, ◌<◌, ◌≤◌, get_or, List, [], ◌∷◌, ◌++◌, false, length, min, None, Option, Some, true≢false, refl, sym, take, ◌∙◌, ap, subst, inl, inr, arith, append-nil, get_or-set_same}
use Rattle.std.specs.Prelude.{is_some, replicate, slice_get, slice_set}
use Rattle.std.specs.Option.{option_map_or}
use Rattle.std.proofs.lemmas.List.{append_assoc, get_or-append-add, get_or-replicate, get_or-take, length-set, length-take-le, map-set, replicate-append-replicate, replicate_more, take-replicate, take-take}
use Rattle.std.proofs.lemmas.List.Sums.{get_or-le-sum_by}
use Rattle.std.proofs.lemmas.Option.{same_Some, slice_get-get_or, slice_get_within}
use Rattle.std.proofs.Math.Seq.{take-append-add}
use Rattle.zs_num.specs.declared.entry.Entry.{Entry}
use Rattle.elf_load.specs.MemoryImage.{MemoryImage}
use Rattle.bound_core.specs.IntervalBounds.{latest_clock, most_accesses}
use Rattle.bound_core.specs.TurnLaws.{with_core}
use Rattle.bound_core.specs.NumberedCores.{NumberedCore}
use Rattle.bound_core.specs.Reaching.{Reaches}
use Rattle.bound_core.specs.ReferenceMachine.{BoundState, bound_from}
use Rattle.bound_core.specs.ShardPort.{base_of, l1i_of, room_of, size_of}
use Rattle.bound_core.specs.ShardWorld.{ShardWorld, shards_serve}
use Rattle.bound_core.specs.Taken.{Settles, TakesThese}
use Rattle.bound_core.specs.TimedCore.{TimedCore, ran_to}
use Rattle.bound_core.specs.Turn.{IsOver}
use Rattle.reference.proofs.Lists.{get_set, set_again}
use Rattle.reference.proofs.Phase.{local_alone}
use Rattle.weave_chains.specs.Listed.{list_of}
use Rattle.bound_records.specs.Recorders.{GivesTurn, RecorderState, TurnPortState}
use Rattle.bound_records.specs.Turns.{HaveTaken, IsOnItsWay, TakesAccess, chosen, phase_by}
use Rattle.bound_records.proofs.Lists.{get_mapped, has_at, set_cases}
use Rattle.bound_records.proofs.TakingTurns.{left_taken, one_taken}

-- ---- a core that has gone on within its turn

module _ (time : Entry → ℕ) (image : MemoryImage) (end : ℕ) where
  -- a schedule goes on as it did
  goes_on : (s t : BoundState ShardWorld) (turns : List ℕ) (number : ℕ) (before after : TimedCore) → Reaches shards_serve time image end s turns t
      → slice_get t.cores number ≡ Some before → ran_to image end after ≡ ran_to image end before → Reaches shards_serve time image end s turns (with_core t number after)
  goes_on s t turns number before after reaches here same place more =
      let u : BoundState ShardWorld = with_core t number after in
      let there : slice_get u.cores number ≡ Some after = get_set t.cores number before after here in
      let again : with_core u number (ran_to image end after) ≡ with_core t number (ran_to image end before) =
      ap (λ (cs : List TimedCore). let x : BoundState ShardWorld = record t { cores = cs } in x) (set_again t.cores number after (ran_to image end after) ∙ ap (slice_set t.cores number) same)
      in
      reaches place more
      ∙ sym (local_alone shards_serve time image end t number before (place + length turns) more here)
      ∙ ap (λ (x : BoundState ShardWorld). bound_from shards_serve time image end (place + length turns) more x) (sym again)
      ∙ local_alone shards_serve time image end u number after (place + length turns) more there

-- a core that is not over: it has no more accesses left than so many, and none of them is late
abbrev pub IsNear : (begin end left : ℕ) → TimedCore → Type 0
IsNear begin end left c = (most_accesses end c ≤ left) × ((latest_clock end c ≤ end + 2 ^ 30) × (begin ≤ c.clock))

abbrev pub left_of : {time : Entry → ℕ} {image : MemoryImage} {end most : ℕ} {r : RecorderState} {first : BoundState ShardWorld} {turns : List ℕ} {cores : List NumberedCore} {now : RecorderState}
    → HaveTaken time image end most r first turns cores now → (number : ℕ) → ℕ
left_of h number = get_or h.left number 0

-- the same core at this time
abbrev at_time : NumberedCore → TimedCore → NumberedCore
at_time core timed = record core { timed = timed }

module _ (time : Entry → ℕ) (image : MemoryImage) (end most : ℕ) (r : RecorderState) (first : BoundState ShardWorld) (number : ℕ) where
  settled : (turns : List ℕ) (cores : List NumberedCore) (now : RecorderState) (h : HaveTaken time image end most r first turns cores now) (core : NumberedCore) (last : TimedCore)
      → slice_get cores number ≡ Some core → IsNear r.begin end (left_of h number) core.timed → Settles time image end GivesTurn core.timed last
      → HaveTaken time image end most r first turns (slice_set cores number (at_time core last)) now
  settled turns cores now h core last here near s =
      let after : NumberedCore = at_time core last in
      let as_many : length (slice_set cores number after) ≡ length cores = length-set cores number after in
      let within : number < length cores = slice_get_within cores number core here in
      let left_here : slice_get h.left number ≡ Some (left_of h number) = slice_get-get_or h.left number 0 (let count = h.count in omega (arith, within, count)) in
      let way = h.each number (left_of h number) core left_here here in
      let own : IsOnItsWay r.begin end (base_of now.world) (size_of now.world) (l1i_of now.world) (left_of h number) after = record {
        few = inr (let a = s.fewer in let b = near.0 in omega (arith, a, b), (let a = s.not_later in let b = near.1.0 in omega (arith, a, b), let a = s.begun in let b = near.1.1 in omega (arith, a, b)));
        clock = (let a = s.not_later in let b = way.clock in omega (arith, a, b));
        spare = way.spare;
        base_is = ap (λ memory. memory.base) s.memory ∙ way.base_is;
        size_is = ap (λ memory. memory.size) s.memory ∙ way.size_is;
        fetches = λ fetching. way.fetches (sym s.fetching ∙ fetching);
      }
      in
      let to : with_core (phase_by cores now h.taken) number last ≡ phase_by (slice_set cores number after) now h.taken =
      ap (λ (cs : List TimedCore). let x : BoundState ShardWorld = record { cores = cs; world = now.world; entries = h.taken } in x) (sym (map-set (λ (c : NumberedCore). c.timed) cores number after))
      in
      let led = goes_on time image end first (phase_by cores now h.taken) turns number core.timed last h.reaches (get_mapped (λ (c : NumberedCore). c.timed) cores number core here) s.ran in
      record {
        taken = h.taken;
        reaches = subst (λ (x : BoundState ShardWorld). Reaches shards_serve time image end first turns x) to led;
        left = h.left;
        count = h.count ∙ sym as_many;
        each = λ i n c left there.
            set_cases cores number i core after c here there (λ x. IsOnItsWay r.begin end (base_of now.world) (size_of now.world) (l1i_of now.world) n x)
            (λ same.
            let is : left_of h number ≡ n = same_Some (left_of h number) n (sym left_here ∙ ap (slice_get h.left) (sym same) ∙ left) in
            subst (λ (k : ℕ). IsOnItsWay r.begin end (base_of now.world) (size_of now.world) (l1i_of now.world) k after) is own)
            (λ apart was. h.each i n c left was);
        room = record {
          few = h.room.few;
          room = h.room.room;
          each = h.room.each;
          stamps = h.room.stamps ∙ sym as_many;
          lists = h.room.lists ∙ sym as_many;
          banks = h.room.banks;
          base = h.room.base;
          size = h.room.size;
          short = h.room.short;
          as_was = h.room.as_was;
        };
        numbered = λ i c found. set_cases cores number i core after c here found (λ x. x.number ≡ i) (λ same. h.numbered number core here ∙ sym same) (λ apart was. h.numbered i c was);
        own = h.own;
        starts = h.starts;
        reach = h.reach;
      }

  -- ---- a core that takes turns

  -- the port with the core chosen that it has
  chosen_is : (port : TurnPortState) → port.core ≡ number → chosen port number ≡ port
  chosen_is port same = ap (λ (n : ℕ). let p : TurnPortState = record port { core = n } in p) (sym same)

  one_less : (left : List ℕ) → number < length left → (now : ℕ) → now < get_or left number 0 → now ≤ get_or (slice_set left number (get_or left number 0 - 1)) number 0
  one_less left within now less =
      let is = get_or-set_same left number (get_or left number 0 - 1) 0 within in
      omega (arith, is, less)

  pub these_taken : (entries : List Entry) (turns : List ℕ) (cores : List NumberedCore) (port port_after : TurnPortState) (h : HaveTaken time image end most r first turns cores port.recorder) (core : NumberedCore) (last : TimedCore)
      → end ≤ 10 * 2 ^ 30 → slice_get cores number ≡ Some core → port.core ≡ number → IsNear r.begin end (left_of h number) core.timed
      → TakesThese time image end GivesTurn (λ p. None) number entries port port_after core.timed last
      → HaveTaken time image end most r first (turns ++ replicate (length entries) number) (slice_set cores number (at_time core last)) port_after.recorder
  these_taken [] turns cores port port_after h core last small here same near these =
      let after : List NumberedCore = slice_set cores number (at_time core last) in
      let still : HaveTaken time image end most r first turns after port.recorder = settled turns cores port.recorder h core last here near these.1 in
      subst (λ (p : TurnPortState). HaveTaken time image end most r first (turns ++ []) after p.recorder) (sym these.0)
      (subst (λ (ns : List ℕ). HaveTaken time image end most r first ns after port.recorder) (sym (append-nil turns)) still)
  these_taken (e ∷ entries) turns cores port port_after h core last small here same near these =
      let next : TurnPortState = these.0 in
      let behind : TimedCore = these.1.0 in
      let one = these.1.1.0 in
      let mid : NumberedCore = at_time core behind in
      let own : core.number ≡ number = h.numbered number core here in
      let took : TakesAccess time image end port next core mid e = record {
        turn = one.turn;
        own = one.core ∙ sym own;
        start = one.starts;
        begun = one.begun;
        fewer = one.fewer;
        not_later = one.not_later;
        number = refl;
        memory = one.memory;
        fetching = one.fetching;
        spare = omega arith;
      }
      in
      let turn : TakesAccess time image end (chosen port number) next core mid e = subst (λ (p : TurnPortState). TakesAccess time image end p next core mid e) (sym (chosen_is port same)) took in
      let taken : HaveTaken time image end most r first (turns ++ number ∷ []) (slice_set cores number mid) next.recorder =
      one_taken time image end most r first turns cores port next h number core mid here e turn small
      in
      let left : left_of taken number ≡ get_or (slice_set h.left number (left_of h number - 1)) number 0 =
      ap (λ (ns : List ℕ). get_or ns number 0) (left_taken time image end most r first turns cores port next h number core mid here e turn small)
      in
      let there : slice_get (slice_set cores number mid) number ≡ Some mid = get_set cores number core mid here in
      let still : next.core ≡ number = ap (λ (p : TurnPortState). p.core) one.turn.given.kept ∙ same in
      let within : number < length h.left = (let w = slice_get_within cores number core here in let count = h.count in omega (arith, w, count)) in
      let nearer : IsNear r.begin end (left_of taken number) behind = (
        (let a = one.fewer in let b = near.0 in let less = one_less h.left within (most_accesses end behind) (omega (arith, a, b)) in omega (arith, less, left)),
        (let a = one.not_later in let b = near.1.0 in omega (arith, a, b), let a = one.begun in let b = near.1.1 in omega (arith, a, b)),
      )
      in
      let all = these_taken entries (turns ++ number ∷ []) (slice_set cores number mid) next port_after taken mid last small there still nearer these.1.1.1 in
      subst (λ (cs : List NumberedCore). HaveTaken time image end most r first (turns ++ number ∷ replicate (length entries) number) cs port_after.recorder) (set_again cores number mid (at_time core last))
      (subst (λ (ns : List ℕ). HaveTaken time image end most r first ns (slice_set (slice_set cores number mid) number (at_time core last)) port_after.recorder) (append_assoc turns (number ∷ []) (replicate (length entries) number)) all)

-- ---- before they are taken

-- a core that neither halted nor came to the end is not over
pub not_over : (begin end left : ℕ) (c : TimedCore) → is_some c.core.halted ≡ false → c.clock < end → IsOver end c ⊎ IsNear begin end left c → IsNear begin end left c
not_over begin end left c going early few =
    elim few [
      | inl over ↦ elim over.over [ inl halted ↦ absurd (true≢false (sym halted ∙ going)) | inr late ↦ (let l = late.1 in absurd (omega (arith, l, early))) ]
      | inr near ↦ near
    ]

-- there is room for all of them
pub hits_room : (time : Entry → ℕ) (image : MemoryImage) (end most : ℕ) (r : RecorderState) (first : BoundState ShardWorld) (turns : List ℕ) (cores : List NumberedCore) (now : RecorderState) (number : ℕ) (accesses : ℕ)
    → (h : HaveTaken time image end most r first turns cores now) → number < length cores → accesses ≤ left_of h number → accesses ≤ min (room_of now.world) (now.room - length (list_of now.lists number))
hits_room time image end most r first turns cores now number accesses h within few =
    let left : ℕ = left_of h number in
    let count = h.count in
    let below : number < length h.left = omega (arith, within, count) in
    let here : slice_get h.left number ≡ Some left = slice_get-get_or h.left number 0 below in
    let many = h.room.lists in
    let there = has_at now.lists number (omega (arith, within, many)) in
    let is : list_of now.lists number ≡ there.0 = ap (λ (o : Option (List Entry)). option_map_or (λ (list : List Entry). list) o []) there.1 in
    let fits = h.room.each number left there.0 here there.1 in
    let long = ap length is in
    let all = h.room.few in
    let room = h.room.room in
    let one = get_or-le-sum_by (λ (n : ℕ). n) h.left number 0 below in
    omega (arith, few, fits, long, all, room, one)

-- ---- stretches of a list

pub longer : (turns : List ℕ) (some more number : ℕ) → (turns ++ replicate some number) ++ replicate more number ≡ turns ++ replicate (some + more) number
longer turns some more number = append_assoc turns (replicate some number) (replicate more number) ∙ ap (λ (ns : List ℕ). turns ++ ns) (replicate-append-replicate some more number)

pub one_longer : (turns : List ℕ) (some number : ℕ) → (turns ++ replicate some number) ++ number ∷ [] ≡ turns ++ replicate (some + 1) number
one_longer turns some number = append_assoc turns (replicate some number) (number ∷ []) ∙ ap (λ (ns : List ℕ). turns ++ ns) (replicate_more some number)

module _ (turns : List ℕ) (place count number : ℕ) (within : place + count ≤ length turns) (same : take (place + count) turns ≡ take place turns ++ replicate count number) where
  before_is : length (take place turns) ≡ place
  before_is = length-take-le place turns (omega (arith, within))

  -- a part of it
  pub part : (taken : ℕ) → taken ≤ count → take (place + taken) turns ≡ take place turns ++ replicate taken number
  part taken few =
      sym (take-take (place + taken) (place + count) turns (omega (arith, few)))
      ∙ (ap (take (place + taken)) same
      ∙ (ap (λ (n : ℕ). take (n + taken) (take place turns ++ replicate count number)) (sym before_is)
      ∙ (take-append-add (take place turns) (replicate count number) taken ∙ ap (λ (ns : List ℕ). take place turns ++ ns) (take-replicate taken count number few))))

  -- the core of each place is the same
  pub named : (taken : ℕ) → taken < count → get_or turns (place + taken) 0 ≡ number
  named taken few =
      sym (get_or-take (place + count) turns (place + taken) 0 (omega (arith, few)))
      ∙ (ap (λ (ns : List ℕ). get_or ns (place + taken) 0) same
      ∙ (ap (λ (n : ℕ). get_or (take place turns ++ replicate count number) (n + taken) 0) (sym before_is)
      ∙ (get_or-append-add (take place turns) (replicate count number) taken 0 ∙ get_or-replicate count taken number 0 few)))
