-- What a seat has when it has given a part back.
use Rattle.std.proofs.Common.{◌≡◌, ◌≢◌, ℕ, ◌+◌, ◌*◌, ◌<◌, ◌≤◌, ◌⊎◌, Bool, true, false, cond, List, [], ◌∷◌, ◌++◌, All, drop, map, length, refl, sym, ◌∙◌, ap, subst, arith, inl, inr}
use Rattle.std.specs.Prelude.{nat_eq, Option}
use Rattle.std.specs.Set.{is_member}
use Rattle.std.proofs.lemmas.Bool.{cases_eq}
use Rattle.std.proofs.lemmas.List.Elements.{All-cons, All-head, All-tail}
use Rattle.atomic_table.specs.Table.{Me}
use Rattle.parts_table.specs.declared.part.TimedPart.{TimedPart}
use Rattle.parts_table.specs.declared.view.CoreAccesses.{CoreAccesses}
use Rattle.parts_table.specs.declared.view.Hold.{Hold}
use Rattle.parts_table.specs.declared.view.Made.{Made}
use Rattle.parts_table.specs.declared.view.View.{View}
use Rattle.parts_table.specs.KeptKeys.{BlocksState}
use Rattle.parts_table.specs.MachineLaws.{MachineLaws}
use Rattle.parts_table.specs.Places.{PlacesState, in_place, is_in}
use Rattle.parts_table.specs.Rest.{IsAtRest}
use Rattle.parts_table.specs.Rule.{Holds}
use Rattle.parts_table.specs.Seats.{AreApart, Desk, HasInHand, HasParts, IsKept, hand_of, left_in, slot_of, unpublished}
use Rattle.parts_table.specs.Steps.{MayGive}
use Rattle.parts_table.specs.Views.{given}
use Rattle.parts_table.specs.World.{World, lived, no_part}
use Rattle.parts_table.proofs.Desks.{has_let, may_let, same_hand}
use Rattle.parts_table.proofs.Members.{all_in, in_cons, in_either, in_first, in_left, in_none, in_one, in_rest, in_right, not_in}
use Rattle.parts_table.proofs.Serving.{hand_home, hand_l1}

-- another hand that has the same
pub rehand : (d : Desk) (done list : List Made) (hand hand' : World) → HasInHand d done list hand → ((k : ℕ) → Holds k d.me.0.holds → hand' k ≡ hand k) → HasInHand d done list hand'
rehand d done list hand hand' has same = record {
  lone = has.lone;
  own = has.own;
  asked = has.asked;
  world = has.world;
  reached = has.reached;
  right = has.right;
  inside = has.inside;
  low = has.low;
  agrees = λ k held. same k held ∙ has.agrees k held;
}

-- without a home in hand it doesn't count which one is named
pub any_home : (d : Desk) (places : PlacesState) (home other : TimedPart) (cores : List ℕ) (done list : List Made) → HasParts d places home [] cores done list → HasParts d places other [] cores done list
any_home d places home other cores done list has = record {
  kept = has.kept;
  made_is = has.made_is;
  hand = rehand d done list (hand_of d.me.0.cores places home) (hand_of d.me.0.cores places other) has.hand (λ k held.
      let within : k < d.me.0.cores = all_in (λ (c : ℕ). c < d.me.0.cores) cores has.known k (has.only k held) in
      hand_l1 d.me.0.cores places other k within ∙ sym (hand_l1 d.me.0.cores places home k within));
  has = has.has;
  only = has.only;
  slots = has.slots;
  apart = has.apart;
  homes = has.homes;
  known = has.known;
  count = has.count;
  filled = has.filled;
}

not_apart : (cores : List ℕ) (c k : ℕ) → is_member nat_eq cores c ≡ false → is_in cores k → k ≢ c
not_apart cores c k none has same = let yes : is_member nat_eq cores c ≡ true = subst (λ (n : ℕ). is_in cores n) same has in let bad : true ≡ false = sym yes ∙ none in cc

module _ (laws : MachineLaws) (me : Me (Option TimedPart) View) (core : ℕ) (blocks : BlocksState) (made : List Made) (places now : PlacesState) (c : ℕ) (value : TimedPart)
    (was : value ≡ in_place places c) (others : (k : ℕ) → k ≢ c → in_place now k ≡ in_place places k) (count : length now.l1s ≡ length places.l1s) (filled : places.filled ≡ now.filled + 1) where
  abbrev d : Desk
  d = record { me = me; core = core; blocks = blocks; made = made }

  -- ---- an L1 is given, and L1s alone are left
  module _ (rest : List ℕ) (done list : List Made) (has : HasParts (record { me = me; core = core; blocks = blocks; made = made }) places no_part [] (c ∷ rest) done list) where
    abbrev log : CoreAccesses
    log = record { core = core; list = done }

    known : c < me.0.cores
    known = All-head (λ (k : ℕ). k < me.0.cores) c rest has.known

    same_l1s : (k : ℕ) → Holds k me.0.holds → k ≢ c → hand_of me.0.cores now value k ≡ hand_of me.0.cores places no_part k
    same_l1s k held other =
        let within : k < me.0.cores = all_in (λ (n : ℕ). n < me.0.cores) (c ∷ rest) has.known k (has.only k held) in
        hand_l1 me.0.cores now value k within ∙ (others k other ∙ sym (hand_l1 me.0.cores places no_part k within))

    pub may_give_l1 : MayGive me.0 c value (unpublished me.0 made) (left_in (hand_of me.0.cores now value) c me.0.holds)
    may_give_l1 = may_let laws me core blocks made places no_part [] (c ∷ rest) done list has c (in_first c rest c refl) now value same_l1s value (was ∙ sym (hand_l1 me.0.cores places no_part c known))

    pub gave_l1 : (me' : Me (Option TimedPart) View)
        → ((slots : List (ℕ × Option TimedPart)) (log : CoreAccesses) → me.1 ≡ slot_of c ∷ slots → me.0.logs ≡ log ∷ [] → me' ≡ (given me.0 log (unpublished me.0 made) (left_in (hand_of me.0.cores now value) c me.0.holds), slots))
        → HasParts (record { me = me'; core = core; blocks = blocks; made = made }) now no_part [] rest made []
    gave_l1 me' gave =
        let is = gave (map slot_of rest) log has.slots has.hand.lone in
        subst (λ (m : Me (Option TimedPart) View). HasParts (record { me = m; core = core; blocks = blocks; made = made }) now no_part [] rest made []) (sym is)
        (any_home (record { me = (given me.0 log (unpublished me.0 made) (left_in (hand_of me.0.cores now value) c me.0.holds), map slot_of rest); core = core; blocks = blocks; made = made }) now value no_part rest made []
        (has_let laws me core blocks made places no_part [] (c ∷ rest) done list has c (in_first c rest c refl) now value same_l1s [] rest blocks (map slot_of rest)
        (λ k is_rest. (in_rest c rest k is_rest, not_apart rest c k has.apart.0 is_rest))
        (λ k is other. elim (in_cons c rest k is) as (λ _. is_in rest k) [ inl same ↦ absurd (other same) | inr more ↦ more ])
        refl has.apart.1 has.homes (All-tail (λ (k : ℕ). k < me.0.cores) c rest has.known) count
        (let all = has.filled in let n = filled in omega (arith, all, n))))

  -- ---- the core's own L1 is given, and a home is left
  module _ (number : ℕ) (home : TimedPart) (done list : List Made) (has : HasParts (record { me = me; core = core; blocks = blocks; made = made }) places home (number ∷ []) (c ∷ []) done list) where
    abbrev log2 : CoreAccesses
    log2 = record { core = core; list = done }

    known2 : c < me.0.cores
    known2 = All-head (λ (k : ℕ). k < me.0.cores) c [] has.known

    past2 : me.0.cores ≤ number
    past2 = All-head (λ (k : ℕ). me.0.cores ≤ k) number [] has.homes

    own_in : is_in (number ∷ c ∷ []) c
    own_in = in_rest number (c ∷ []) c (in_first c [] c refl)

    same_beside : (k : ℕ) → Holds k me.0.holds → k ≢ c → hand_of me.0.cores now home k ≡ hand_of me.0.cores places home k
    same_beside k held other = same_hand me.0.cores places now home c others k other

    -- the slot of the home was turned behind
    abbrev turned_me : Me (Option TimedPart) View
    turned_me = (me.0, slot_of c ∷ slot_of number ∷ [])

    pub may_give_beside : MayGive me.0 c value (unpublished me.0 made) (left_in (hand_of me.0.cores now home) c me.0.holds)
    may_give_beside = may_let laws me core blocks made places home (number ∷ []) (c ∷ []) done list has c own_in now home same_beside value (was ∙ sym (hand_l1 me.0.cores places home c known2))

    pub gave_beside : (me' : Me (Option TimedPart) View)
        → me' ≡ (given me.0 (record { core = core; list = done }) (unpublished me.0 made) (left_in (hand_of me.0.cores now home) c me.0.holds), slot_of number ∷ [])
        → HasParts (record { me = me'; core = core; blocks = blocks; made = made }) now home (number ∷ []) [] made []
    gave_beside me' is =
        subst (λ (m : Me (Option TimedPart) View). HasParts (record { me = m; core = core; blocks = blocks; made = made }) now home (number ∷ []) [] made []) (sym is)
        (has_let laws me core blocks made places home (number ∷ []) (c ∷ []) done list has c own_in now home same_beside (number ∷ []) [] blocks (slot_of number ∷ [])
        (λ k is_number. (in_left (number ∷ []) (c ∷ []) k is_number, (λ same. let one : k ≡ number = in_one number k is_number in let low = known2 in let high = past2 in omega (arith, same, one, low, high))))
        (λ k is_either other. elim (in_either (number ∷ []) (c ∷ []) k is_either) as (λ _. is_in (number ∷ []) k) [ inl one ↦ one | inr own ↦ absurd (other (in_one c k own)) ])
        refl tt has.homes (λ k d lt. absurd (omega (arith, lt))) count
        (let all = has.filled in let n = filled in omega (arith, all, n)))

-- ---- at rest

no_holds : (holds : List Hold) → ((k : ℕ) → Holds k holds → ⊥) → holds ≡ []
no_holds [] none = refl
no_holds (h ∷ holds) none = absurd (none h.part (inl refl))

pub rests : (d : Desk) (places : PlacesState) → HasParts d places no_part [] [] d.made [] → IsAtRest d.me d.blocks d.made d.core
rests d places has = record {
  slots = has.slots;
  holds = no_holds d.me.0.holds (λ k held. in_none k (has.only k held));
  lone = has.hand.lone;
  keys = has.kept.keys;
  count = has.kept.count;
  now = has.kept.now;
  room = has.kept.room;
  within = has.kept.within;
  core_is = has.kept.core_is;
  few_cores = has.kept.few_cores;
  few_banks = has.kept.few_banks;
  small_room = has.kept.small_room;
}

-- what a seat at rest keeps
pub kept_at_rest : (d : Desk) → IsAtRest d.me d.blocks d.made d.core → IsKept d
kept_at_rest d rest = record {
  keys = rest.keys;
  count = rest.count;
  now = rest.now;
  room = rest.room;
  within = rest.within;
  core_is = rest.core_is;
  few_cores = rest.few_cores;
  few_banks = rest.few_banks;
  small_room = rest.small_room;
}
