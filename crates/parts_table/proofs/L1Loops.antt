-- Loops that take and give the L1s of a set of cores, the least first.
use Rattle.std.proofs.Common.{◌≡◌, ◌≢◌, ℕ, zero, suc, ◌+◌, ◌*◌, ◌<◌, ◌≤◌, Bool, true, false, cond, List, [], ◌∷◌, ◌++◌, length, refl, sym, ◌∙◌, ap, subst, arith, inl, inr}
use Rattle.std.specs.Prelude.{Option}
use Rattle.std.specs.List.{filter, range_with_len}
use Rattle.std.proofs.lemmas.List.{append-nil, append_assoc, length-append}
use Rattle.atomic_table.specs.Table.{Me}
use Rattle.mesi_dir.specs.CoreSets.{cores_in, has_core}
use Rattle.parts_table.specs.declared.part.TimedPart.{TimedPart}
use Rattle.parts_table.specs.declared.station.Station.{Station}
use Rattle.parts_table.specs.declared.view.Made.{Made}
use Rattle.parts_table.specs.declared.view.View.{View}
use Rattle.parts_table.specs.Access.{IsSameSeat, SeatState}
use Rattle.parts_table.specs.KeptKeys.{BlocksState}
use Rattle.parts_table.specs.MachineLaws.{MachineLaws}
use Rattle.parts_table.specs.Places.{PlacesState}
use Rattle.parts_table.specs.Seats.{Desk, HasParts, IsTimely, hand_of, slot_of}
use Rattle.parts_table.specs.Stations.{HasTakenL1, IsSameStation, desk_of, seat_of}
use Rattle.parts_table.specs.Views.{holding}
use Rattle.parts_table.specs.World.{no_part}
use Rattle.parts_table.proofs.DeskTakes.{l1_taken}

few_in : (p : ℕ → Bool) (a n : ℕ) → length (filter p (range_with_len a n)) ≤ n
few_in p a zero = omega arith
few_in p a (suc n) =
    let rest = few_in p (a + 1) n in
    elim (p a) as (λ b. length (cond b (a ∷ filter p (range_with_len (a + 1) n)) (filter p (range_with_len (a + 1) n))) ≤ suc n) [
      | true ↦ omega (arith, rest)
      | false ↦ omega (arith, rest)
    ]

pub few_cores : (words : List ℕ) → length words ≡ 4 → length (cores_in words) ≤ 256
unfolding cores_in
few_cores words four = let few = few_in (has_core words) 0 (64 * length words) in omega (arith, few, four)

pub same_twice : (a b c : Station) → IsSameStation a b → IsSameStation b c → IsSameStation a c
same_twice a b c one two = (
  record {
    table = two.0.table ∙ one.0.table;
    core = two.0.core ∙ one.0.core;
    opening = two.0.opening ∙ one.0.opening;
    cores = two.0.cores ∙ one.0.cores;
    banks = two.0.banks ∙ one.0.banks;
    room = two.0.room ∙ one.0.room;
  },
  two.1 ∙ one.1,
)

pub same_once : (a : Station) → IsSameStation a a
same_once a = (record { table = refl; core = refl; opening = refl; cores = refl; banks = refl; room = refl }, refl)

-- The L1s of some cores were taken, the first of a list, and a home before.
pub record IsTaking (first now : Station) (places : PlacesState) (home : TimedPart) (number cores : ℕ) (all left : List ℕ) : Type 0 where
  pub taken : List ℕ
  pub all_is : all ≡ taken ++ left
  pub has : HasParts (desk_of now) places home (number ∷ []) taken first.made.list []
  pub timely : IsTimely (desk_of now) (hand_of cores places home)
  pub same : IsSameStation first now
  pub blocks : now.blocks ≡ first.blocks

pub taking_begins : (first : Station) (places : PlacesState) (home : TimedPart) (number cores : ℕ) (all : List ℕ) → HasParts (desk_of first) places home (number ∷ []) [] first.made.list [] → IsTimely (desk_of first) (hand_of cores places home)
    → IsTaking first first places home number cores all all
taking_begins first places home number cores all has timely = record { taken = []; all_is = refl; has = has; timely = timely; same = same_once first; blocks = refl }

-- one more
pub taking_goes_on : MachineLaws → (first now later : Station) (places then : PlacesState) (home : TimedPart) (number cores core : ℕ) (all left rest : List ℕ) → IsTaking first now places home number cores all left → left ≡ core ∷ rest
    → core < now.place.me.0.cores → cores ≡ now.place.me.0.cores → HasTakenL1 now places core later then → IsSameStation now later → later.blocks ≡ now.blocks
    → IsTaking first later then home number cores all rest
taking_goes_on laws first now later places then home number cores core all left rest it is known cores_are took same blocks =
    let made_is : now.made.list ≡ first.made.list = it.same.1 in
    let has : HasParts (record { me = now.place.me; core = now.core; blocks = now.blocks; made = now.made.list }) places home (number ∷ []) it.taken now.made.list [] =
    subst (λ (list : List Made). HasParts (desk_of now) places home (number ∷ []) it.taken list []) (sym made_is) it.has in
    let more = l1_taken now.place.me now.core now.blocks now.made.list core took.value took.taken laws places then home (number ∷ []) it.taken has known took.there took.others took.count took.filled in
    let desk : desk_of later ≡ record { me = (holding now.place.me.0 core took.value, now.place.me.1 ++ slot_of core ∷ []); core = now.core; blocks = now.blocks; made = now.made.list } =
    λ i. record { me = took.me i; core = same.0.core i; blocks = blocks i; made = same.1 i } in
    record {
      taken = it.taken ++ core ∷ [];
      all_is = it.all_is ∙ (ap (λ (xs : List ℕ). it.taken ++ xs) is ∙ sym (append_assoc it.taken (core ∷ []) rest));
      has = subst (λ (d : Desk). HasParts d then home (number ∷ []) (it.taken ++ core ∷ []) first.made.list []) (sym desk)
          (subst (λ (list : List Made). HasParts (record { me = (holding now.place.me.0 core took.value, now.place.me.1 ++ slot_of core ∷ []); core = now.core; blocks = now.blocks; made = now.made.list }) then home (number ∷ []) (it.taken ++ core ∷ []) list []) made_is more.0);
      timely = subst (λ (d : Desk). IsTimely d (hand_of cores then home)) (sym desk)
          (subst (λ (n : ℕ). IsTimely (record { me = (holding now.place.me.0 core took.value, now.place.me.1 ++ slot_of core ∷ []); core = now.core; blocks = now.blocks; made = now.made.list }) (hand_of n then home)) (sym cores_are) more.1);
      same = same_twice first now later it.same same;
      blocks = blocks ∙ it.blocks;
    }

pub taking_ends : (first now : Station) (places : PlacesState) (home : TimedPart) (number cores : ℕ) (all left : List ℕ) → IsTaking first now places home number cores all left → left ≡ []
    → HasParts (desk_of now) places home (number ∷ []) all first.made.list []
taking_ends first now places home number cores all left it empty =
    subst (λ (cs : List ℕ). HasParts (desk_of now) places home (number ∷ []) cs first.made.list []) (sym (it.all_is ∙ (ap (λ (xs : List ℕ). it.taken ++ xs) empty ∙ append-nil it.taken))) it.has

-- there is room for one more
pub taking_fits : (first now : Station) (places : PlacesState) (home : TimedPart) (number cores core : ℕ) (all left rest : List ℕ) → IsTaking first now places home number cores all left → left ≡ core ∷ rest → length all ≤ 256 → places.filled < 256
taking_fits first now places home number cores core all left rest it is few =
    let filled = it.has.filled in
    let long = length-append it.taken left in
    let size = ap {A = List ℕ} length it.all_is in
    let some = ap {A = List ℕ} length is in
    omega (arith, filled, long, size, some, few)

-- The L1s of some cores were given, and those of these are left.
pub record IsGiving (first now : Station) (places : PlacesState) (left : List ℕ) : Type 0 where
  pub has : HasParts (desk_of now) places no_part [] left now.made.list []
  pub same : IsSameStation first now

pub giving_begins : (first : Station) (places : PlacesState) (all : List ℕ) → HasParts (desk_of first) places no_part [] all first.made.list [] → IsGiving first first places all
giving_begins first places all has = record { has = has; same = same_once first }

pub giving_goes_on : (first now later : Station) (places then : PlacesState) (left rest : List ℕ) (core : ℕ) → IsGiving first now places left → left ≡ core ∷ rest
    → ((rest : List ℕ) (done list : List Made) → HasParts (desk_of now) places no_part [] (core ∷ rest) done list → HasParts (desk_of later) then no_part [] rest now.made.list []) → IsSameStation now later
    → IsGiving first later then rest
giving_goes_on first now later places then left rest core it is gave same = record {
  has = subst (λ (list : List Made). HasParts (desk_of later) then no_part [] rest list []) (sym same.1)
      (gave rest now.made.list [] (subst (λ (cs : List ℕ). HasParts (desk_of now) places no_part [] cs now.made.list []) is it.has));
  same = same_twice first now later it.same same;
}
