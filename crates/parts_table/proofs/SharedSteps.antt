-- The steps by which a station serves a shared access.
use Rattle.std.proofs.Common.{◌≡◌, ◌≢◌, ℕ, ◌+◌, ◌*◌, ◌^◌, ◌<◌, ◌≤◌, Bool, true, false, List, [], ◌∷◌, ◌++◌, length, refl, sym, ◌∙◌, ap, subst, arith, inl, inr}
use Rattle.std.specs.Prelude.{nat_eq, Option}
use Rattle.std.specs.Set.{is_member}
use Rattle.std.proofs.lemmas.Bool.{cases_Bool, cases_eq, eq-eqb, ne_eqb}
use Rattle.std.proofs.lemmas.List.Elements.{All-head}
use Rattle.atomic_table.specs.Table.{Me}
use Rattle.home.specs.HomeState.{HomeState}
use Rattle.mesi_dir.specs.CoreSets.{HasOtherCore, cores_in, has_core}
use Rattle.mesi_dir.proofs.CoreSets.{is_member-cores_in}
use Rattle.zs_num.specs.Request.{bank_of}
use Rattle.zs_num.specs.declared.request.Request.{Request}
use Rattle.parts_table.specs.declared.part.Part.{Part}
use Rattle.parts_table.specs.declared.part.TimedPart.{TimedPart}
use Rattle.parts_table.specs.declared.station.Station.{Station}
use Rattle.parts_table.specs.declared.view.Made.{Made}
use Rattle.parts_table.specs.declared.view.View.{View}
use Rattle.parts_table.specs.Access.{CanAsk, IsSeatOf, TableState}
use Rattle.parts_table.specs.Places.{PlacesState, is_in, time_at}
use Rattle.parts_table.specs.Rest.{ArePast}
use Rattle.parts_table.specs.Seats.{AreTouched, CanServe, Desk, HasParts, IsAtWork, IsTimely, hand_of}
use Rattle.parts_table.specs.Stations.{desk_of, seat_of}
use Rattle.parts_table.specs.World.{MayAsk, no_part, world_of}
use Rattle.parts_table.proofs.Members.{in_first, in_none, in_one}
use Rattle.parts_table.proofs.Serving.{hand_home}

-- what the table says of cores, banks and the opening, said of the seat
pub asked_of_seat : (t : TableState) (s : Station) (request : Request) → IsSeatOf t (seat_of s) → CanAsk t (seat_of s) request
    → (length s.made.list < s.place.me.0.room) × MayAsk s.place.me.0.cores s.place.me.0.banks (world_of s.place.me.0.opening) s.core request
asked_of_seat t s request at can = (
  subst (λ (n : ℕ). length s.made.list < n) (sym at.room) can.0,
  subst (λ (n : ℕ). MayAsk n s.place.me.0.banks (world_of s.place.me.0.opening) s.core request) (sym at.cores)
      (subst (λ (n : ℕ). MayAsk t.cores n (world_of s.place.me.0.opening) s.core request) (sym at.banks)
      (subst (λ (os : List (Option TimedPart)). MayAsk t.cores t.banks (world_of os) s.core request) (sym at.opening) can.1)),
)

pub can_serve : (t : TableState) (s : Station) (places : PlacesState) (home : TimedPart) (number : ℕ) (cores : List ℕ) (done list : List Made) (request : Request) → IsSeatOf t (seat_of s) → CanAsk t (seat_of s) request
    → number ≡ t.cores + bank_of t.banks request → HasParts (desk_of s) places home (number ∷ []) cores done list → IsTimely (desk_of s) (hand_of s.place.me.0.cores places home) → is_in cores s.core
    → ((state : HomeState) → home.part ≡ Part.Home state → AreTouched t.cores state s.core request cores) → CanServe (desk_of s) places number home cores request
can_serve t s places home number cores done list request at can is has timely own touched =
    let asks = asked_of_seat t s request at can in
    record {
      done = done;
      list = list;
      has = has;
      timely = timely;
      number_is = is ∙ (ap (λ (n : ℕ). n + bank_of t.banks request) (sym at.cores) ∙ ap (λ (n : ℕ). s.place.me.0.cores + bank_of n request) (sym at.banks));
      own = own;
      touched = subst (λ (n : ℕ). (state : HomeState) → home.part ≡ Part.Home state → AreTouched n state s.core request cores) (sym at.cores) touched;
      asks = asks.1;
      more = asks.0;
    }

-- a set of one core alone
pub only_own : (words : List ℕ) (core : ℕ) → is_in (cores_in words) core → (HasOtherCore words core → ⊥) → (c : ℕ) → is_member nat_eq (cores_in words) c ≡ is_member nat_eq (core ∷ []) c
only_own words core own none c =
    elim (cases_eq c core) as (λ _. is_member nat_eq (cores_in words) c ≡ is_member nat_eq (core ∷ []) c) [
      | inl same ↦ (let sure : is_member nat_eq (cores_in words) c ≡ true = subst (λ (n : ℕ). is_in (cores_in words) n) (sym same) own in sure ∙ sym (in_first core [] c same))
      | inr other ↦
          (elim (cases_Bool (has_core words c)) as (λ _. is_member nat_eq (cores_in words) c ≡ false) [
            | inl sure ↦ absurd (none (c, other, sure))
            | inr never ↦ is_member-cores_in words c ∙ never
          ]) ∙ sym (rw (ne_eqb c core other) refl)
    ]

pub touched_alone : (count : ℕ) (words : List ℕ) (core : ℕ) (state : HomeState) (request : Request) (cores : List ℕ) → cores ≡ core ∷ [] → is_in (cores_in words) core → (HasOtherCore words core → ⊥)
    → AreTouched count state core request (cores_in words) → AreTouched count state core request cores
touched_alone count words core state request cores is own none touched = λ p are asked home shared c low.
    touched p are asked home shared c low ∙ (only_own words core own none c ∙ ap (λ (cs : List ℕ). is_member nat_eq cs c) (sym is))

-- back at work
pub works : (d : Desk) (places : PlacesState) (cores : List ℕ) → cores ≡ d.core ∷ [] → HasParts d places no_part [] cores d.made [] → ArePast d.made (time_at places d.core) → time_at places d.core < 2 ^ 54 → IsAtWork d places
works d places cores is has past low = record {
  done = d.made;
  list = [];
  has = subst (λ (cs : List ℕ). HasParts d places no_part [] cs d.made []) is has;
  past = past;
  low = low;
}

-- a home in hand and nothing else
pub timely_alone : (d : Desk) (places : PlacesState) (home : TimedPart) (number : ℕ) (done list : List Made) → HasParts d places home (number ∷ []) [] done list → home.time ≤ d.me.0.cores * d.me.0.room + d.me.0.room
    → IsTimely d (hand_of d.me.0.cores places home)
timely_alone d places home number done list has low = record {
  low = λ k held.
      let is : k ≡ number = in_one number k (has.only k held) in
      let past : d.me.0.cores ≤ k = subst (λ (n : ℕ). d.me.0.cores ≤ n) (sym is) (All-head (λ (n : ℕ). d.me.0.cores ≤ n) number [] has.homes) in
      let time = ap (λ (x : TimedPart). x.time) (hand_home d.me.0.cores places home k past) in
      omega (arith, time, low);
  past = λ held. absurd (
      let is : d.core ≡ number = in_one number d.core (has.only d.core held) in
      let past : d.me.0.cores ≤ number = All-head (λ (n : ℕ). d.me.0.cores ≤ n) number [] has.homes in
      let known = has.kept.core_is in
      omega (arith, is, past, known));
}

-- what is in hand of a home that is held
pub home_time : (d : Desk) (places : PlacesState) (home : TimedPart) (number : ℕ) (cores : List ℕ) (done list : List Made) → HasParts d places home (number ∷ []) cores done list → IsTimely d (hand_of d.me.0.cores places home)
    → home.time ≤ d.me.0.cores * d.me.0.room + d.me.0.room
home_time d places home number cores done list has timely =
    let past : d.me.0.cores ≤ number = All-head (λ (n : ℕ). d.me.0.cores ≤ n) number [] has.homes in
    let low = timely.low number (has.has number (in_first number cores number refl)) in
    let time = ap (λ (x : TimedPart). x.time) (hand_home d.me.0.cores places home number past) in
    omega (arith, time, low)
