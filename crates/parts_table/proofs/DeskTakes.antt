-- What a seat has when it has taken a part.
use Rattle.std.proofs.Common.{◌≡◌, ◌≢◌, ℕ, ◌+◌, ◌*◌, ◌^◌, ◌<◌, ◌≤◌, ◌⊎◌, List, [], ◌∷◌, ◌++◌, All, map, length, refl, sym, ◌∙◌, ap, subst, arith, inl, inr, mul-le-mul}
use Rattle.std.specs.Prelude.{nat_eq, Option}
use Rattle.std.proofs.lemmas.List.{append-nil}
use Rattle.std.proofs.lemmas.List.Elements.{All-cons, All-weaker}
use Rattle.atomic_table.specs.Table.{Me}
use Rattle.parts_table.specs.declared.part.TimedPart.{TimedPart}
use Rattle.parts_table.specs.declared.view.CoreAccesses.{CoreAccesses}
use Rattle.parts_table.specs.declared.view.Hold.{Hold}
use Rattle.parts_table.specs.declared.view.Made.{Made}
use Rattle.parts_table.specs.declared.view.View.{View}
use Rattle.parts_table.specs.KeptKeys.{BlocksState}
use Rattle.parts_table.specs.MachineLaws.{MachineLaws}
use Rattle.parts_table.specs.Places.{PlacesState, in_place, is_in, time_at}
use Rattle.parts_table.specs.Rest.{ArePast, IsAtRest}
use Rattle.parts_table.specs.Rule.{Holds}
use Rattle.parts_table.specs.Seats.{Desk, HasHomeBeside, HasInHand, HasParts, IsAtWork, IsKept, IsTimely, hand_of, slot_of}
use Rattle.parts_table.specs.Steps.{IsTaken}
use Rattle.parts_table.specs.Views.{holding}
use Rattle.parts_table.specs.World.{World, no_part}
use Rattle.parts_table.proofs.DeskGives.{kept_at_rest}
use Rattle.parts_table.proofs.Desks.{has_taken}
use Rattle.parts_table.proofs.Hand.{one_taken, timely}
use Rattle.parts_table.proofs.Held.{agrees_at}
use Rattle.parts_table.proofs.Members.{in_cons, in_either, in_first, in_left, in_none, in_one, in_rest, in_right}
use Rattle.parts_table.proofs.Serving.{hand_home, hand_l1}

pub few_accesses : (cores room : ℕ) → cores ≤ 256 → room < 2 ^ 32 → cores * room + room < 2 ^ 41
few_accesses cores room few small =
    let two : room ≤ 2 ^ 32 = omega (arith, small) in
    let most : cores * room ≤ 256 * 2 ^ 32 = mul-le-mul few two in
    omega (arith, most, two)

none_held : (holds : List Hold) (k : ℕ) → holds ≡ [] → Holds k holds → ⊥
none_held holds k empty held = subst (Holds k) empty held

module _ (me : Me (Option TimedPart) View) (core : ℕ) (blocks : BlocksState) (made : List Made) (part : ℕ) (value : TimedPart) (taken : IsTaken me.0 part value) where
  -- what is in hand is as the parts are then
  module _ (slots : List (ℕ × Option TimedPart)) (hand : World) (has : HasInHand (record { me = (holding me.0 part value, slots); core = core; blocks = blocks; made = made }) made [] hand) where
    as_taken : (k : ℕ) → Holds k (holding me.0 part value).holds → hand k ≡ taken.world k
    as_taken k held = has.agrees k held ∙ agrees_at taken.world (holding me.0 part value).holds taken.reached.agrees has.world has.reached.agrees k held

    pub timely_taken : IsTimely (record { me = (holding me.0 part value, slots); core = core; blocks = blocks; made = made }) hand
    timely_taken = record {
      low = λ k held. let time = ap (λ (x : TimedPart). x.time) (as_taken k held) in let low = taken.low k in omega (arith, time, low);
      past = λ held. subst (λ (x : TimedPart). ArePast made x.time) (sym (as_taken core held)) (taken.risen (record { core = core; list = made }) has.lone);
    }

  -- ---- from rest

  module _ (rest : IsAtRest me blocks made core) where
    pub first_hand : (slots : List (ℕ × Option TimedPart)) (hand : World) → hand part ≡ value → HasInHand (record { me = (holding me.0 part value, slots); core = core; blocks = blocks; made = made }) made [] hand
    first_hand slots hand there = record {
      lone = rest.lone;
      own = λ k d lt. absurd (omega (arith, lt));
      asked = λ k d lt. absurd (omega (arith, lt));
      world = taken.world;
      reached = taken.reached;
      right = tt;
      inside = tt;
      low = λ most bound k held. let small = bound k held in omega (arith, small);
      agrees = λ k held. elim held as (λ _. hand k ≡ taken.world k) [
        | inl is ↦ ap hand (sym is) ∙ (there ∙ (taken.reached.agrees.0 ∙ ap taken.world is))
        | inr old ↦ absurd (none_held me.0.holds k rest.holds old)
      ];
    }

    kept : IsKept (record { me = me; core = core; blocks = blocks; made = made })
    kept = kept_at_rest (record { me = me; core = core; blocks = blocks; made = made }) rest

    only_it : (k : ℕ) → Holds k (holding me.0 part value).holds → k ≡ part
    only_it k held = elim held as (λ _. k ≡ part) [ inl is ↦ sym is | inr old ↦ absurd (none_held me.0.holds k rest.holds old) ]

    -- the core's own L1
    pub own_taken : part ≡ core → (places : PlacesState) → in_place places part ≡ value → length places.l1s ≡ me.0.cores → places.filled ≡ 1
        → IsAtWork (record { me = (holding me.0 part value, me.1 ++ slot_of part ∷ []); core = core; blocks = blocks; made = made }) places
    own_taken is places there count filled =
        let within : part < me.0.cores = let low = rest.core_is in omega (arith, low, is) in
        let hand = first_hand (me.1 ++ slot_of part ∷ []) (hand_of me.0.cores places no_part) (hand_l1 me.0.cores places no_part part within ∙ there) in
        let timely = timely_taken (me.1 ++ slot_of part ∷ []) (hand_of me.0.cores places no_part) hand in
        record {
          done = made;
          list = [];
          has = record {
            kept = record { keys = kept.keys; count = kept.count; now = kept.now; room = kept.room; within = kept.within; core_is = kept.core_is; few_cores = kept.few_cores; few_banks = kept.few_banks; small_room = kept.small_room };
            made_is = sym (append-nil made);
            hand = hand;
            has = λ k in_own. inl (is ∙ sym (in_one core k in_own));
            only = λ k held. in_first core [] k (only_it k held ∙ is);
            slots = ap (λ (ss : List (ℕ × Option TimedPart)). ss ++ slot_of part ∷ []) rest.slots ∙ ap (λ (n : ℕ). slot_of n ∷ []) is;
            apart = (refl, tt);
            homes = λ k d lt. absurd (omega (arith, lt));
            known = All-cons (λ (c : ℕ). c < me.0.cores) core [] rest.core_is (λ k d lt. absurd (omega (arith, lt)));
            count = count;
            filled = filled;
          };
          past = subst (λ (x : TimedPart). ArePast made x.time) (hand_l1 me.0.cores places no_part core rest.core_is) (timely.past (inl is));
          low =
              let low = timely.low core (inl is) in
              let time = ap (λ (x : TimedPart). x.time) (hand_l1 me.0.cores places no_part core rest.core_is) in
              let few = few_accesses me.0.cores me.0.room rest.few_cores rest.small_room in
              omega (arith, low, time, few);
        }

    -- a home
    pub home_taken : me.0.cores ≤ part → (places : PlacesState) → length places.l1s ≡ me.0.cores → places.filled ≡ 0
        → HasParts (record { me = (holding me.0 part value, slot_of part ∷ me.1); core = core; blocks = blocks; made = made }) places value (part ∷ []) [] made []
        × IsTimely (record { me = (holding me.0 part value, slot_of part ∷ me.1); core = core; blocks = blocks; made = made }) (hand_of me.0.cores places value)
    home_taken past places count filled =
        let hand = first_hand (slot_of part ∷ me.1) (hand_of me.0.cores places value) (hand_home me.0.cores places value part past) in (
          record {
            kept = record { keys = kept.keys; count = kept.count; now = kept.now; room = kept.room; within = kept.within; core_is = kept.core_is; few_cores = kept.few_cores; few_banks = kept.few_banks; small_room = kept.small_room };
            made_is = sym (append-nil made);
            hand = hand;
            has = λ k in_one_part. inl (sym (in_one part k in_one_part));
            only = λ k held. in_first part [] k (only_it k held);
            slots = ap (λ (ss : List (ℕ × Option TimedPart)). slot_of part ∷ ss) rest.slots;
            apart = tt;
            homes = All-cons (λ (c : ℕ). me.0.cores ≤ c) part [] past (λ k d lt. absurd (omega (arith, lt)));
            known = λ k d lt. absurd (omega (arith, lt));
            count = count;
            filled = filled;
          },
          timely_taken (slot_of part ∷ me.1) (hand_of me.0.cores places value) hand,
        )

  -- ---- a home beside the core's own L1

  pub home_beside : MachineLaws → (places : PlacesState) → IsAtWork (record { me = me; core = core; blocks = blocks; made = made }) places → me.0.cores ≤ part
      → HasHomeBeside (record { me = (holding me.0 part value, slot_of part ∷ me.1); core = core; blocks = blocks; made = made }) places part value
  home_beside laws places work past =
      let has = work.has in
      let same : (k : ℕ) → Holds k me.0.holds → hand_of me.0.cores places value k ≡ hand_of me.0.cores places no_part k = λ k held.
      let within : k < me.0.cores = subst (λ (n : ℕ). n < me.0.cores) (sym (in_one core k (has.only k held))) has.kept.core_is in
      hand_l1 me.0.cores places value k within ∙ sym (hand_l1 me.0.cores places no_part k within) in
      let there : hand_of me.0.cores places value part ≡ value = hand_home me.0.cores places value part past in
      record {
        done = work.done;
        list = work.list;
        has = record {
          kept = record { keys = has.kept.keys; count = has.kept.count; now = has.kept.now; room = has.kept.room; within = has.kept.within; core_is = has.kept.core_is; few_cores = has.kept.few_cores; few_banks = has.kept.few_banks; small_room = has.kept.small_room };
          made_is = has.made_is;
          hand = one_taken laws me core blocks made work.done work.list (hand_of me.0.cores places no_part) has.hand part value taken (slot_of part ∷ me.1) (hand_of me.0.cores places value) same there;
          has = λ k is. elim (in_cons part (core ∷ []) k is) as (λ _. Holds k (holding me.0 part value).holds) [ inl new ↦ inl (sym new) | inr old ↦ inr (has.has k old) ];
          only = λ k held. elim held as (λ _. is_in (part ∷ core ∷ []) k) [ inl new ↦ in_first part (core ∷ []) k (sym new) | inr old ↦ in_rest part (core ∷ []) k (has.only k old) ];
          slots = ap (λ (ss : List (ℕ × Option TimedPart)). slot_of part ∷ ss) has.slots;
          apart = has.apart;
          homes = All-cons (λ (c : ℕ). me.0.cores ≤ c) part [] past (λ k d lt. absurd (omega (arith, lt)));
          known = has.known;
          count = has.count;
          filled = has.filled;
        };
        timely = record {
          low = λ k held.
              let low = timely laws me core blocks made work.done work.list (hand_of me.0.cores places no_part) has.hand part value taken (slot_of part ∷ me.1) (hand_of me.0.cores places value) same there k held in
              let long = Rattle.std.proofs.lemmas.List.length-append work.done work.list in
              let size = ap {A = List Made} length has.made_is in
              let within = has.kept.within in
              omega (arith, low, long, size, within);
          past = λ held. subst (λ (x : TimedPart). ArePast made x.time) (sym (hand_l1 me.0.cores places value core has.kept.core_is)) work.past;
        };
      }

  -- ---- one L1 more

  pub l1_taken : MachineLaws → (places now : PlacesState) (home : TimedPart) (numbers cores : List ℕ) → HasParts (record { me = me; core = core; blocks = blocks; made = made }) places home numbers cores made []
      → part < me.0.cores → in_place now part ≡ value → ((k : ℕ) → k ≢ part → in_place now k ≡ in_place places k) → length now.l1s ≡ length places.l1s → now.filled ≡ places.filled + 1
      → HasParts (record { me = (holding me.0 part value, me.1 ++ slot_of part ∷ []); core = core; blocks = blocks; made = made }) now home numbers (cores ++ part ∷ []) made []
      × IsTimely (record { me = (holding me.0 part value, me.1 ++ slot_of part ∷ []); core = core; blocks = blocks; made = made }) (hand_of me.0.cores now home)
  l1_taken laws places now home numbers cores has known there others count filled =
      let it = has_taken laws me core blocks made places home numbers cores made [] has part now value known taken there others count filled in
      (it, timely_taken (me.1 ++ slot_of part ∷ []) (hand_of me.0.cores now home) it.hand)
