-- An access is served by what a seat holds, and the home is given back.
use Rattle.std.proofs.Common.{◌≡◌, ◌≢◌, ℕ, ◌+◌, ◌*◌, ◌^◌, ◌<◌, ◌≤◌, ◌⊎◌, Bool, true, false, cond, List, [], ◌∷◌, ◌++◌, All, drop, map, length, refl, sym, ◌∙◌, ap, subst, arith, inl, inr}
use Rattle.std.specs.Prelude.{IsTrue, if◌then◌else◌, nat_eq, Option}
use Rattle.std.specs.Set.{is_member}
use Rattle.std.proofs.lemmas.Bool.{cases_Bool, cases_eq}
use Rattle.std.proofs.lemmas.List.{append-nil, append_assoc, length-append}
use Rattle.std.proofs.lemmas.List.Elements.{All-append, All-cons, All-head, All-tail, All-weaker}
use Rattle.atomic_table.specs.Seated.{TableId}
use Rattle.atomic_table.specs.Table.{Me}
use Rattle.home.specs.HomeState.{HomeState}
use Rattle.l1_cache.specs.L1State.{is_private}
use Rattle.shard.specs.Touched.{HasTouched}
use Rattle.zs_num.specs.Request.{bank_of}
use Rattle.zs_num.specs.declared.entry.Entry.{Entry}
use Rattle.zs_num.specs.declared.request.Request.{Request}
use Rattle.parts_table.specs.declared.part.Part.{Part}
use Rattle.parts_table.specs.declared.part.TimedPart.{TimedPart}
use Rattle.parts_table.specs.declared.view.CoreAccesses.{CoreAccesses}
use Rattle.parts_table.specs.declared.view.Hold.{Hold}
use Rattle.parts_table.specs.declared.view.Made.{Made}
use Rattle.parts_table.specs.declared.view.View.{View}
use Rattle.parts_table.specs.Access.{IsAccess, SeatState}
use Rattle.parts_table.specs.KeptKeys.{BlocksState}
use Rattle.parts_table.specs.MachineLaws.{MachineLaws}
use Rattle.parts_table.specs.Places.{IsMetAlone, IsMetByAll, PlacesState, bank_of_places, in_place, is_in, l1_at, time_at}
use Rattle.parts_table.specs.Rest.{ArePast}
use Rattle.parts_table.specs.Rule.{Holds}
use Rattle.parts_table.specs.Seats.{CanServe, Desk, HasInHand, HasParts, IsAtWork, IsKept, IsTimely, hand_of, left_in, slot_of, unpublished}
use Rattle.parts_table.specs.Steps.{MayGive}
use Rattle.parts_table.specs.TurnOrder.{key_of}
use Rattle.parts_table.specs.Views.{given}
use Rattle.parts_table.specs.World.{MayAsk, World, lived, no_part, world_of}
use Rattle.parts_table.proofs.DeskGives.{any_home, rehand}
use Rattle.parts_table.proofs.DeskTakes.{few_accesses}
use Rattle.parts_table.proofs.Desks.{has_let, may_let}
use Rattle.parts_table.proofs.Hand.{fine_now, one_more}
use Rattle.parts_table.proofs.Locality.{IsFine}
use Rattle.parts_table.proofs.Members.{all_in, in_cons, in_first, in_rest}
use Rattle.parts_table.proofs.Serving.{has_touched, hand_home, hand_l1, next_alone, next_shared}

-- what a seat's accesses keep, and one access more
pub kept_more : (me : Me (Option TimedPart) View) (core : ℕ) (blocks : BlocksState) (made : List Made) → IsKept (record { me = me; core = core; blocks = blocks; made = made }) → (m : Made) → length made < me.0.room
    → (blocks' : BlocksState) (made' : List Made) → blocks' ≡ record blocks { keys = blocks.keys ++ key_of m ∷ []; now = 2 * m.time + 1; made = blocks.made + 1 } → made' ≡ made ++ m ∷ []
    → IsKept (record { me = me; core = core; blocks = blocks'; made = made' })
kept_more me core blocks made kept m more blocks' made' blocks_are made_are =
    subst (λ (b : BlocksState). IsKept (record { me = me; core = core; blocks = b; made = made' })) (sym blocks_are)
    (subst (λ (list : List Made). IsKept (record { me = me; core = core; blocks = record blocks { keys = blocks.keys ++ key_of m ∷ []; now = 2 * m.time + 1; made = blocks.made + 1 }; made = list })) (sym made_are) (record {
      keys = ap (λ (ks : List ℕ). ks ++ key_of m ∷ []) kept.keys ∙ sym (map_one made);
      count = ap (λ (n : ℕ). n + 1) kept.count ∙ sym (length-append made (m ∷ []));
      now = λ time past.
          let last : m.time ≤ time = last_of made past in
          omega (arith, last);
      room = kept.room;
      within = (let long = length-append made (m ∷ []) in omega (arith, long, more));
      core_is = kept.core_is;
      few_cores = kept.few_cores;
      few_banks = kept.few_banks;
      small_room = kept.small_room;
    }))
  where
    map_one : (xs : List Made) → map key_of (xs ++ m ∷ []) ≡ map key_of xs ++ key_of m ∷ []
    map_one [] = refl
    map_one (x ∷ xs) = ap (λ (ks : List ℕ). key_of x ∷ ks) (map_one xs)

    last_of : {time : ℕ} (xs : List Made) → ArePast (xs ++ m ∷ []) time → m.time ≤ time
    last_of {time} [] past = All-head (λ (a : Made). a.time ≤ time) m [] past
    last_of {time} (x ∷ xs) past = last_of {time = time} xs (All-tail (λ (a : Made). a.time ≤ time) x (xs ++ m ∷ []) past)

pub past_more : (made : List Made) (m : Made) (before time : ℕ) → ArePast made before → before ≤ time → m.time ≤ time → ArePast (made ++ m ∷ []) time
past_more made m before time past later now =
    All-append (λ (a : Made). a.time ≤ time) made (m ∷ []) (All-weaker (λ (a : Made). a.time ≤ before) (λ (a : Made). a.time ≤ time) (λ (a : Made) low. omega (arith, low, later)) made past)
    (All-cons (λ (a : Made). a.time ≤ time) m [] now (λ k d lt. absurd (omega (arith, lt))))

-- a core's accesses that aren't published, as all are told
pub list_more : (made done list : List Made) (m : Made) → made ≡ done ++ list → made ++ m ∷ [] ≡ done ++ (list ++ m ∷ [])
list_more made done list m is = ap (λ (xs : List Made). xs ++ m ∷ []) is ∙ append_assoc done list (m ∷ [])

-- the access is the seat's
pub accessed : (table : TableId) (core start : ℕ) (request : Request) (made : List Made) (m : Made) (before now : View) → now.opening ≡ before.opening → now.cores ≡ before.cores → now.banks ≡ before.banks → now.room ≡ before.room
    → m.entry.core ≡ core → m.entry.start ≡ start → m.entry.request ≡ request → m.entry.stamp ≡ 0
    → IsAccess (record { table = table; core = core; made = made; knows = before }) (record { table = table; core = core; made = made ++ m ∷ []; knows = now }) start request m.entry
accessed table core start request made m before now opening cores banks room core_is start_is request_is stamp_is = record {
  same = record { table = refl; core = refl; opening = opening; cores = cores; banks = banks; room = room };
  access = (m.time, m.shared, refl);
  core_is = core_is;
  start_is = start_is;
  request_is = request_is;
  stamp_is = stamp_is;
}

module _ (laws : MachineLaws) (me : Me (Option TimedPart) View) (core : ℕ) (blocks : BlocksState) (made : List Made) (places : PlacesState) (number : ℕ) (home : TimedPart) (cores : List ℕ) (request : Request)
    (can : CanServe (record { me = me; core = core; blocks = blocks; made = made }) places number home cores request) where
  abbrev d : Desk
  d = record { me = me; core = core; blocks = blocks; made = made }

  abbrev v : View
  v = me.0

  abbrev has : HasParts d places home (number ∷ []) cores can.done can.list
  has = can.has

  abbrev w1 : World
  w1 = lived v.cores v.banks can.has.hand.world can.list

  fine : IsFine v.cores v.banks (world_of v.opening) w1
  fine = fine_now laws me core blocks made can.done can.list (hand_of v.cores places home) can.has.hand

  own_held : Holds core v.holds
  own_held = has.has core (in_rest number cores core can.own)

  past_home : v.cores ≤ number
  past_home = All-head (λ (k : ℕ). v.cores ≤ k) number [] has.homes

  pub l1s_known : (c : ℕ) → is_in cores c → c < me.0.cores
  l1s_known c is = all_in (λ (k : ℕ). k < v.cores) cores has.known c is

  holds_l1s : (c : ℕ) → is_in cores c → Holds c v.holds
  holds_l1s c is = has.has c (in_rest number cores c is)

  holds_home : Holds number v.holds
  holds_home = has.has number (in_first number cores number refl)

  holds_only : (k : ℕ) → Holds k v.holds → (k ≡ number) ⊎ is_in cores k
  holds_only k held = in_cons number cores k (has.only k held)

  -- no time in hand is great
  pub low_l1 : (c : ℕ) → is_in cores c → time_at places c < 2 ^ 41
  low_l1 c is =
      let low = can.timely.low c (holds_l1s c is) in
      let time = ap (λ (x : TimedPart). x.time) (hand_l1 v.cores places home c (l1s_known c is)) in
      let few = few_accesses v.cores v.room has.kept.few_cores has.kept.small_room in
      omega (arith, low, time, few)

  pub low_home : home.time < 2 ^ 41
  low_home =
      let low = can.timely.low number holds_home in
      let time = ap (λ (x : TimedPart). x.time) (hand_home v.cores places home number past_home) in
      let few = few_accesses v.cores v.room has.kept.few_cores has.kept.small_room in
      omega (arith, low, time, few)

  pub own_past : ArePast made (time_at places core)
  own_past = subst (λ (x : TimedPart). ArePast made x.time) (hand_l1 v.cores places home core has.kept.core_is) (can.timely.past own_held)

  -- the home is one
  pub is_home : (state : HomeState) × (home.part ≡ Part.Home state)
  is_home =
      let at : home ≡ w1 number = sym (hand_home v.cores places home number past_home) ∙ has.hand.agrees number holds_home in
      let it = fine.sound.homes (bank_of v.banks request) can.asks.0 in
      (it.0, ap (λ (x : TimedPart). x.part) at ∙ (ap (λ (n : ℕ). (w1 n).part) can.number_is ∙ it.1))

  module _ (state : HomeState) (home_is : home.part ≡ Part.Home state) where
    pub touched_here : is_private (l1_at places core) request ≡ false → HasTouched (bank_of_places state places) core request
    touched_here shared =
        has_touched laws v w1 fine places home (λ k held. has.hand.agrees k held) core 0 request can.asks own_held has.kept.core_is
        number cores state can.number_is home_is holds_home holds_l1s holds_only l1s_known can.own has.count (can.touched state home_is) shared

    module _ (start : ℕ) (now : PlacesState) (left : HomeState) (m : Made) (count : length now.l1s ≡ length places.l1s) (filled : now.filled ≡ places.filled)
        (alone : m.shared ≡ false → IsMetAlone places core start request m now × (left ≡ state)) (shared : m.shared ≡ true → IsMetByAll places state home.time cores core start request m now left) where
      -- the home after the access
      abbrev value : TimedPart
      value = record { time = if m.shared then m.time else home.time; part = Part.Home left }

      value_alone : m.shared ≡ false → left ≡ state → value ≡ home
      value_alone is same = λ i. record { time = cond (is i) m.time home.time; part = (ap (λ (h : HomeState). Part.Home h) same ∙ sym home_is) i }

      value_shared : m.shared ≡ true → value ≡ record { time = m.time; part = Part.Home left }
      value_shared is = ap (λ (b : Bool). record { time = cond b m.time home.time; part = Part.Home left }) is

      -- what it is told of both ways
      pub its_core : m.entry.core ≡ core
      its_core = elim (cases_Bool m.shared) as (λ _. m.entry.core ≡ core) [
        | inl is ↦ ap (λ (e : Entry). e.core) (shared is).entry
        | inr is ↦ ap (λ (x : Made). x.entry.core) (alone is).0.made_is
      ]

      pub its_start : m.entry.start ≡ start
      its_start = elim (cases_Bool m.shared) as (λ _. m.entry.start ≡ start) [
        | inl is ↦ ap (λ (e : Entry). e.start) (shared is).entry
        | inr is ↦ ap (λ (x : Made). x.entry.start) (alone is).0.made_is
      ]

      pub its_request : m.entry.request ≡ request
      its_request = elim (cases_Bool m.shared) as (λ _. m.entry.request ≡ request) [
        | inl is ↦ ap (λ (e : Entry). e.request) (shared is).entry
        | inr is ↦ ap (λ (x : Made). x.entry.request) (alone is).0.made_is
      ]

      pub its_stamp : m.entry.stamp ≡ 0
      its_stamp = elim (cases_Bool m.shared) as (λ _. m.entry.stamp ≡ 0) [
        | inl is ↦ ap (λ (e : Entry). e.stamp) (shared is).entry
        | inr is ↦ ap (λ (x : Made). x.entry.stamp) (alone is).0.made_is
      ]

      alone_time : m.shared ≡ false → m.time ≡ time_at places core
      alone_time is = ap (λ (x : Made). x.time) (alone is).0.made_is

      pub time_past : m.shared ≡ true → time_at places core < m.time
      time_past is = (shared is).past core can.own

      pub low_time : m.time < 2 ^ 54
      low_time = elim (cases_Bool m.shared) as (λ _. m.time < 2 ^ 54) [
        | inl is ↦ elim (shared is).next as (λ _. m.time < 2 ^ 54) [
          | inl one ↦ let low = low_home in omega (arith, one, low)
          | inr at ↦ let low = low_l1 at.0 at.1 in let one = at.2 in omega (arith, one, low)
        ]
        | inr is ↦ let low = low_l1 core can.own in let time = alone_time is in omega (arith, time, low)
      ]

      pub key_alone : m.shared ≡ false → blocks.now ≤ 2 * m.time + 1
      key_alone is = let now_low = has.kept.now (time_at places core) own_past in let time = alone_time is in omega (arith, now_low, time)

      pub key_shared : m.shared ≡ true → blocks.now < 2 * m.time
      key_shared is = let now_low = has.kept.now (time_at places core) own_past in let time = time_past is in omega (arith, now_low, time)

      pub room_left : blocks.made < blocks.room
      room_left = let count = has.kept.count in let room = has.kept.room in let more = can.more in omega (arith, count, room, more)

      -- the core's L1 afterwards
      pub own_later : m.time ≡ time_at now core
      own_later = elim (cases_Bool m.shared) as (λ _. m.time ≡ time_at now core) [
        | inl is ↦ sym ((shared is).raised core can.own)
        | inr is ↦ alone_time is ∙ ap (λ (x : TimedPart). x.time) (sym (alone is).0.own)
      ]

      pub past_then : ArePast (made ++ m ∷ []) (time_at now core)
      past_then =
          let later : time_at places core ≤ time_at now core = elim (cases_Bool m.shared) as (λ _. time_at places core ≤ time_at now core) [
            | inl is ↦ let past = time_past is in let same = own_later in omega (arith, past, same)
            | inr is ↦ let time = alone_time is in let same = own_later in omega (arith, time, same)
          ] in
          let same = own_later in
          past_more made m (time_at places core) (time_at now core) own_past later (omega (arith, same))

      module _ (blocks' : BlocksState) (made' : List Made) (blocks_are : blocks' ≡ record blocks { keys = blocks.keys ++ key_of m ∷ []; now = 2 * m.time + 1; made = blocks.made + 1 }) (made_are : made' ≡ made ++ m ∷ []) where
        ask : MayAsk v.cores v.banks (world_of v.opening) m.entry.core m.entry.request
        ask = subst (λ (c : ℕ). MayAsk v.cores v.banks (world_of v.opening) c m.entry.request) (sym its_core)
            (subst (λ (r : Request). MayAsk v.cores v.banks (world_of v.opening) core r) (sym its_request) can.asks)

        hand_then : HasInHand (record { me = me; core = core; blocks = blocks'; made = made' }) can.done (can.list ++ m ∷ []) (hand_of v.cores now value)
        hand_then = elim (cases_Bool m.shared) as (λ _. HasInHand (record { me = me; core = core; blocks = blocks'; made = made' }) can.done (can.list ++ m ∷ []) (hand_of v.cores now value)) [
          | inl is ↦
              subst (λ (h : TimedPart). HasInHand (record { me = me; core = core; blocks = blocks'; made = made' }) can.done (can.list ++ m ∷ []) (hand_of v.cores now h)) (sym (value_shared is))
              (one_more laws me core blocks made can.done can.list (hand_of v.cores places home) has.hand m blocks' made' (hand_of v.cores now (record { time = m.time; part = Part.Home left })) its_core ask
              (next_shared laws v w1 fine places home (λ k held. has.hand.agrees k held) core start request can.asks own_held has.kept.core_is
              number cores state can.number_is home_is holds_home holds_l1s holds_only l1s_known can.own has.count (can.touched state home_is) (shared is).shared m now left (shared is)))
          | inr is ↦
              subst (λ (h : TimedPart). HasInHand (record { me = me; core = core; blocks = blocks'; made = made' }) can.done (can.list ++ m ∷ []) (hand_of v.cores now h)) (sym (value_alone is (alone is).1))
              (one_more laws me core blocks made can.done can.list (hand_of v.cores places home) has.hand m blocks' made' (hand_of v.cores now home) its_core ask
              (next_alone laws v w1 fine places home (λ k held. has.hand.agrees k held) core start request can.asks own_held has.kept.core_is m now (alone is).0))
        ]

        then_has : HasParts (record { me = me; core = core; blocks = blocks'; made = made' }) now value (number ∷ []) cores can.done (can.list ++ m ∷ [])
        then_has = record {
          kept = kept_more me core blocks made has.kept m can.more blocks' made' blocks_are made_are;
          made_is = made_are ∙ list_more made can.done can.list m has.made_is;
          hand = hand_then;
          has = has.has;
          only = has.only;
          slots = has.slots;
          apart = has.apart;
          homes = has.homes;
          known = has.known;
          count = count ∙ has.count;
          filled = filled ∙ has.filled;
        }

        in_both : is_in (number ∷ cores) number
        in_both = in_first number cores number refl

        same_hands : (k : ℕ) → Holds k me.0.holds → k ≢ number → hand_of me.0.cores now value k ≡ hand_of me.0.cores now value k
        same_hands k held other = refl

        pub may_give_home : MayGive me.0 number value (unpublished me.0 made') (left_in (hand_of me.0.cores now value) number me.0.holds)
        may_give_home = may_let laws me core blocks' made' now value (number ∷ []) cores can.done (can.list ++ m ∷ []) then_has number in_both now value same_hands value (sym (hand_home me.0.cores now value number past_home))

        pub gave_home : (me' : Me (Option TimedPart) View)
            → ((slots : List (ℕ × Option TimedPart)) (log : CoreAccesses) → me.1 ≡ slot_of number ∷ slots → me.0.logs ≡ log ∷ [] → me' ≡ (given me.0 log (unpublished me.0 made') (left_in (hand_of me.0.cores now value) number me.0.holds), slots))
            → HasParts (record { me = me'; core = core; blocks = blocks'; made = made' }) now no_part [] cores made' []
        gave_home me' gave =
            let log : CoreAccesses = record { core = core; list = can.done } in
            let is = gave (map slot_of cores) log has.slots has.hand.lone in
            subst (λ (x : Me (Option TimedPart) View). HasParts (record { me = x; core = core; blocks = blocks'; made = made' }) now no_part [] cores made' []) (sym is)
            (any_home (record { me = (given me.0 log (unpublished me.0 made') (left_in (hand_of me.0.cores now value) number me.0.holds), map slot_of cores); core = core; blocks = blocks'; made = made' }) now value no_part cores made' []
            (has_let laws me core blocks' made' now value (number ∷ []) cores can.done (can.list ++ m ∷ []) then_has number in_both now value same_hands [] cores blocks' (map slot_of cores)
            (λ k is_core. (in_rest number cores k is_core, (λ same. let low = l1s_known k is_core in let high = past_home in omega (arith, same, low, high))))
            (λ k is_either other. elim (in_cons number cores k is_either) as (λ _. is_in cores k) [ inl same ↦ absurd (other same) | inr more ↦ more ])
            refl has.apart (λ k d lt. absurd (omega (arith, lt))) has.known refl (filled ∙ has.filled)))
