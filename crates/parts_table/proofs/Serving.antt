-- An access that was served is right, whatever all parts may be, and leaves what is in hand.
use Rattle.std.proofs.Common.{◌≡◌, ◌≢◌, ℕ, ◌+◌, ◌*◌, ◌<◌, ◌≤◌, ◌⊎◌, Bool, true, false, cond, List, [], ◌∷◌, ◌++◌, All, length, get_or, set, refl, sym, ◌∙◌, ap, subst, arith, inl, inr}
use Rattle.std.specs.Prelude.{IsTrue, not, nat_eq, nat_lt, if◌then◌else◌, slice_index_or}
use Rattle.std.specs.Set.{is_member}
use Rattle.std.proofs.lemmas.Bool.{cases_Bool, cases_eq, cases_lt, eq-eqb, ne_eqb}
use Rattle.std.proofs.lemmas.Bool.Decides.{nat_tests}
use Rattle.std.proofs.lemmas.List.{get_or-set_same, get_or_past}
use Rattle.zs_num.specs.Request.{bank_of}
use Rattle.zs_num.specs.declared.entry.Entry.{Entry}
use Rattle.zs_num.specs.declared.request.Request.{Request}
use Rattle.home.specs.HomeState.{HomeState}
use Rattle.l1_cache.specs.L1State.{L1State, is_private, no_l1, private_after, private_reply}
use Rattle.shard.specs.PartsLaws.{AreParts, IsAsked}
use Rattle.shard.specs.SharedStep.{Bank, bank_after, bank_reply, l1_of, met_at_bank, touched_by, with_l1}
use Rattle.shard.specs.Touched.{HasTouched, IsLike}
use Rattle.parts_table.specs.declared.part.Part.{Part}
use Rattle.parts_table.specs.declared.part.TimedPart.{TimedPart}
use Rattle.parts_table.specs.declared.view.Made.{Made}
use Rattle.parts_table.specs.declared.view.View.{View}
use Rattle.parts_table.specs.MachineLaws.{MachineLaws}
use Rattle.parts_table.specs.Places.{IsMetAlone, IsMetByAll, PlacesState, bank_of_places, in_place, is_in, l1_at, time_at}
use Rattle.parts_table.specs.Rule.{Holds}
use Rattle.parts_table.specs.Seats.{AreTouched, hand_of}
use Rattle.parts_table.specs.World.{IsRight, IsSound, MayAsk, World, after, bank_for, bank_in, bank_of_made, home_in, home_number, is_alone, l1_in, l1s_in, moved, touches, world_of}
use Rattle.parts_table.proofs.Hand.{IsNext}
use Rattle.parts_table.proofs.Locality.{IsFine, alone_after, alone_reply, alone_touched, in_homes, in_l1s, many_l1s, moved_home, moved_l1, other_after, own_member, own_touched, parts_at, touched_after}
use Rattle.parts_table.proofs.Times.{only_own}

-- the L1 in hand at a core's number
pub hand_l1 : (cores : ℕ) (places : PlacesState) (home : TimedPart) (k : ℕ) → k < cores → hand_of cores places home k ≡ in_place places k
hand_l1 cores places home k within = let is : nat_lt k cores ≡ true = grind (arith, nat_tests) in rw is refl

pub hand_home : (cores : ℕ) (places : PlacesState) (home : TimedPart) (k : ℕ) → cores ≤ k → hand_of cores places home k ≡ home
hand_home cores places home k past = let is : nat_lt k cores ≡ false = grind (arith, nat_tests) in rw is refl

is_l1 : (x y : L1State) → Part.L1 x ≡ Part.L1 y → x ≡ y
is_l1 x y e = ap l1_in e

module _ (laws : MachineLaws) (v : View) (w : World) (fine : IsFine v.cores v.banks (world_of v.opening) w) (places : PlacesState) (home : TimedPart)
    (agrees : (k : ℕ) → Holds k v.holds → hand_of v.cores places home k ≡ w k)
    (core start : ℕ) (request : Request) (ask : MayAsk v.cores v.banks (world_of v.opening) core request) (own : Holds core v.holds) (known : core < v.cores) where
  abbrev bank : ℕ
  bank = bank_of v.banks request

  abbrev p : Bank
  p = bank_in v.cores v.banks w bank

  may : MayAsk v.cores v.banks w core request
  may = fine.asked core request ask

  are : AreParts p
  are = parts_at v.cores v.banks w fine.sound bank may.0

  own_hand : in_place places core ≡ w core
  own_hand = sym (hand_l1 v.cores places home core known) ∙ agrees core own

  own_l1 : l1_of p core ≡ l1_at places core
  own_l1 = Rattle.parts_table.proofs.Locality.l1_at v.cores v.banks w core known no_l1 ∙ ap (λ (x : TimedPart). l1_in x.part) (sym own_hand)

  own_time : (w core).time ≡ time_at places core
  own_time = ap (λ (x : TimedPart). x.time) (sym own_hand)

  -- ---- by the core's own L1 alone

  module _ (made : Made) (places' : PlacesState) (met : IsMetAlone places core start request made places') where
    at_core : made.entry.core ≡ core
    at_core = ap (λ (m : Made). m.entry.core) met.made_is

    at_request : made.entry.request ≡ request
    at_request = ap (λ (m : Made). m.entry.request) met.made_is

    abbrev it : Made
    it = record {
      entry = record { core = core; stamp = 0; start = start; request = request; reply = private_reply (l1_at places core) request; outcome = Rattle.zs_num.specs.declared.entry.Outcome.TheVariants.Hit };
      time = time_at places core;
      shared = false;
    }

    private : is_private (l1_of p core) request ≡ true
    private = ap (λ (l : L1State). is_private l request) own_l1 ∙ met.private

    right_it : IsRight v.cores v.banks w it
    right_it = record {
      known = known;
      bank = may.0;
      reply = ap (λ (l : L1State). private_reply l request) (sym own_l1) ∙ sym (alone_reply p core request private);
      outcome = sym (laws.hits p core request are may.1 private).0;
      shared = ap not (sym private);
      alone = λ is. sym own_time;
      later = λ is. absurd (let bad : false ≡ true = is in cc);
    }

    -- it leaves the core's L1
    after_own : after v.cores v.banks w it core ≡ record { time = time_at places core; part = Part.L1 (private_after (l1_at places core) request) }
    after_own =
        let l1 : l1_of (bank_after p core request) core ≡ private_after (l1_at places core) request =
        ap (λ (b : Bank). l1_of b core) (alone_after p core request private)
        ∙ (get_or-set_same p.l1s core (private_after (l1_of p core) request) no_l1 (subst (λ (n : ℕ). core < n) (sym (many_l1s v.cores v.banks w)) known)
        ∙ ap (λ (l : L1State). private_after l request) own_l1) in
        touched_after v.cores v.banks w it core (own_touched v.cores v.banks w it known)
        ∙ (moved_l1 v.cores v.banks w it core known ∙ ap (λ (l : L1State). record { time = time_at places core; part = Part.L1 l }) l1)

    after_other : (k : ℕ) → k ≢ core → after v.cores v.banks w it k ≡ w k
    after_other k other =
        elim (cases_Bool (touches v.cores v.banks w it k)) as (λ _. after v.cores v.banks w it k ≡ w k) [
          | inl is ↦ absurd (other (only_own v.cores v.banks w it private k is))
          | inr is ↦ other_after v.cores v.banks w it k is
        ]

    hand_after : (k : ℕ) → Holds k v.holds → hand_of v.cores places' home k ≡ after v.cores v.banks w it k
    hand_after k held =
        elim (cases_eq k core) as (λ _. hand_of v.cores places' home k ≡ after v.cores v.banks w it k) [
          | inl same ↦
              subst (λ (n : ℕ). hand_of v.cores places' home n ≡ after v.cores v.banks w it n) (sym same)
              (hand_l1 v.cores places' home core known ∙ (met.own ∙ sym after_own))
          | inr other ↦ same_hand k other ∙ (agrees k held ∙ sym (after_other k other))
        ]
      where
        same_hand : (k : ℕ) → k ≢ core → hand_of v.cores places' home k ≡ hand_of v.cores places home k
        same_hand k other =
            elim (cases_lt k v.cores) as (λ _. hand_of v.cores places' home k ≡ hand_of v.cores places home k) [
              | inl within ↦ hand_l1 v.cores places' home k within ∙ (met.others k other ∙ sym (hand_l1 v.cores places home k within))
              | inr past ↦ hand_home v.cores places' home k past ∙ sym (hand_home v.cores places home k past)
            ]

    pub next_alone : IsNext v w made (hand_of v.cores places' home)
    next_alone = subst (λ (m : Made). IsNext v w m (hand_of v.cores places' home)) (sym met.made_is) (record {
      right = right_it;
      inside = λ k is. subst (λ (n : ℕ). Holds n v.holds) (sym (only_own v.cores v.banks w it private k is)) own;
      low = λ most bound k held.
          elim (cases_eq k core) as (λ _. (after v.cores v.banks w it k).time ≤ most + 1) [
            | inl same ↦
                let time : (after v.cores v.banks w it k).time ≡ time_at places core = ap (λ (n : ℕ). (after v.cores v.banks w it n).time) same ∙ ap (λ (x : TimedPart). x.time) after_own in
                let was = own_time in
                let small = bound core own in
                omega (arith, time, was, small)
            | inr other ↦
                let time = ap (λ (x : TimedPart). x.time) (after_other k other) in
                let small = bound k held in
                omega (arith, time, small)
          ];
      agrees = hand_after;
    })

  -- ---- by the home and the L1s that it touches

  module _ (number : ℕ) (cores : List ℕ) (state : HomeState) (number_is : number ≡ v.cores + bank_of v.banks request) (home_is : home.part ≡ Part.Home state) (holds_home : Holds number v.holds)
      (holds_l1s : (c : ℕ) → is_in cores c → Holds c v.holds) (holds_only : (k : ℕ) → Holds k v.holds → (k ≡ number) ⊎ is_in cores k) (l1s_known : (c : ℕ) → is_in cores c → c < v.cores)
      (own_in : is_in cores core) (count : length places.l1s ≡ v.cores) (touched : AreTouched v.cores state core request cores) (shared : is_private (l1_at places core) request ≡ false) where
    abbrev q : Bank
    q = bank_of_places state places

    home_hand : home ≡ w number
    home_hand = sym (hand_home v.cores places home number (omega (arith, number_is))) ∙ agrees number holds_home

    home_at : p.home ≡ state
    home_at = ap (λ (n : ℕ). home_in (w n).part) (sym number_is) ∙ (ap (λ (x : TimedPart). home_in x.part) (sym home_hand) ∙ ap home_in home_is)

    shared_p : is_private (l1_of p core) request ≡ false
    shared_p = ap (λ (l : L1State). is_private l request) own_l1 ∙ shared

    members : (c : ℕ) → c < v.cores → is_member nat_eq (touched_by p core request) c ≡ is_member nat_eq cores c
    members c within = touched p are may.1 home_at shared_p c within

    -- where there is no core there is no L1 in either
    l1_same : (c : ℕ) → is_in (touched_by p core request) c → l1_of q c ≡ l1_of p c
    l1_same c is = elim (cases_lt c v.cores) as (λ _. l1_of q c ≡ l1_of p c) [
      | inl within ↦ known_same c within (sym (members c within) ∙ is)
      | inr past ↦
          get_or_past places.l1s c no_l1 (subst (λ (n : ℕ). n ≤ c) (sym count) past)
          ∙ sym (get_or_past (l1s_in v.cores v.banks w) c no_l1 (subst (λ (n : ℕ). n ≤ c) (sym (many_l1s v.cores v.banks w)) past))
    ] where
      known_same : (c : ℕ) → c < v.cores → is_in cores c → l1_of q c ≡ l1_of p c
      known_same c within is =
          let hand : in_place places c ≡ w c = sym (hand_l1 v.cores places home c within) ∙ agrees c (holds_l1s c is) in
          ap (λ (x : TimedPart). l1_in x.part) hand ∙ sym (Rattle.parts_table.proofs.Locality.l1_at v.cores v.banks w c within no_l1)

    pub has_touched : HasTouched (bank_of_places state places) core request
    has_touched = (
      p,
      are,
      may.1,
      record {
        home = sym home_at;
        count = count ∙ sym (many_l1s v.cores v.banks w);
        same = l1_same;
      },
    )

    like : IsLike p q core request
    like = record { home = sym home_at; count = count ∙ sym (many_l1s v.cores v.banks w); same = l1_same }

    module _ (made : Made) (places' : PlacesState) (left : HomeState) (met : IsMetByAll places state home.time cores core start request made places' left) where
      abbrev e : Entry
      e = record { core = core; stamp = 0; start = start; request = request; reply = bank_reply q core request; outcome = met_at_bank q core request }

      abbrev all : Made
      all = record { entry = e; time = made.time; shared = true }

      made_all : made ≡ all
      made_all = λ i. record { entry = met.entry i; time = made.time; shared = met.shared_is i }

      touches_l1 : (k : ℕ) → k < v.cores → touches v.cores v.banks w all k ≡ is_member nat_eq cores k
      touches_l1 k within = in_l1s v.cores v.banks w all k within ∙ members k within

      touches_home : (k : ℕ) → v.cores ≤ k → touches v.cores v.banks w all k ≡ nat_eq k number
      touches_home k past =
          in_homes v.cores v.banks w all k past
          ∙ (ap (λ (b : Bool). Rattle.std.specs.Prelude.◌&&◌ (nat_eq k (v.cores + bank)) (not b)) shared_p ∙ (and_true (nat_eq k (v.cores + bank)) ∙ ap (nat_eq k) (sym number_is)))
        where
          and_true : (b : Bool) → Rattle.std.specs.Prelude.◌&&◌ b true ≡ b
          and_true true = refl
          and_true false = refl

      -- what it touches is held
      inside : (k : ℕ) → touches v.cores v.banks w all k ≡ true → Holds k v.holds
      inside k is =
          elim (cases_lt k v.cores) as (λ _. Holds k v.holds) [
            | inl within ↦ holds_l1s k (sym (touches_l1 k within) ∙ is)
            | inr past ↦ elim (cases_eq k number) as (λ _. Holds k v.holds) [
              | inl same ↦ subst (λ (n : ℕ). Holds n v.holds) (sym same) holds_home
              | inr other ↦ absurd (
                  let no : touches v.cores v.banks w all k ≡ false = touches_home k past ∙ ne_eqb k number other in
                  let bad : true ≡ false = sym is ∙ no in cc)
            ]
          ]

      -- and what is held it touches
      outside : (k : ℕ) → Holds k v.holds → touches v.cores v.banks w all k ≡ true
      outside k held =
          elim (holds_only k held) as (λ _. touches v.cores v.banks w all k ≡ true) [
            | inl same ↦ touches_home k (omega (arith, same, number_is)) ∙ eq-eqb k number same
            | inr is ↦ touches_l1 k (l1s_known k is) ∙ is
          ]

      time_before : (k : ℕ) → Holds k v.holds → (w k).time < made.time
      time_before k held =
          elim (holds_only k held) as (λ _. (w k).time < made.time) [
            | inl same ↦
                let was : (w k).time ≡ home.time = ap (λ (n : ℕ). (w n).time) same ∙ ap (λ (x : TimedPart). x.time) (sym home_hand) in
                let past = met.past_home in
                omega (arith, was, past)
            | inr is ↦
                let was : (w k).time ≡ time_at places k = ap (λ (x : TimedPart). x.time) (sym (agrees k held) ∙ hand_l1 v.cores places home k (l1s_known k is)) in
                let past = met.past k is in
                omega (arith, was, past)
          ]

      right_all : IsRight v.cores v.banks w all
      right_all = record {
        known = known;
        bank = may.0;
        reply = (laws.only p q core request are may.1 like).1;
        outcome = (laws.only p q core request are may.1 like).2;
        shared = ap not (sym shared_p);
        alone = λ is. absurd (let bad : true ≡ false = is in cc);
        later = λ is k at. time_before k (inside k at);
      }

      left_home : left ≡ (bank_after p core request).home
      left_home = ap (λ (b : Bank). b.home) met.bank ∙ (laws.only p q core request are may.1 like).3

      left_l1 : (c : ℕ) → is_in cores c → l1_at places' c ≡ l1_of (bank_after p core request) c
      left_l1 c is = ap (λ (b : Bank). l1_of b c) met.bank ∙ (laws.only p q core request are may.1 like).5 c (members c (l1s_known c is) ∙ is)

      hand_then : (k : ℕ) → Holds k v.holds → hand_of v.cores places' (record { time = made.time; part = Part.Home left }) k ≡ after v.cores v.banks w all k
      hand_then k held =
          let moves : after v.cores v.banks w all k ≡ moved v.cores v.banks w all k = touched_after v.cores v.banks w all k (outside k held) in
          elim (holds_only k held) as (λ _. hand_of v.cores places' (record { time = made.time; part = Part.Home left }) k ≡ after v.cores v.banks w all k) [
            | inl same ↦
                let past : v.cores ≤ k = omega (arith, same, number_is) in
                hand_home v.cores places' (record { time = made.time; part = Part.Home left }) k past
                ∙ (ap (λ (h : HomeState). record { time = made.time; part = Part.Home h }) left_home ∙ (sym (moved_home v.cores v.banks w all k past) ∙ sym moves))
            | inr is ↦
                let within = l1s_known k is in
                let own_part : in_place places' k ≡ record { time = made.time; part = Part.L1 (l1_of (bank_after p core request) k) } =
                λ i. record { time = met.raised k is i; part = Part.L1 (left_l1 k is i) } in
                hand_l1 v.cores places' (record { time = made.time; part = Part.Home left }) k within ∙ (own_part ∙ (sym (moved_l1 v.cores v.banks w all k within) ∙ sym moves))
          ]

      time_after : (k : ℕ) → Holds k v.holds → (after v.cores v.banks w all k).time ≡ made.time
      time_after k held =
          ap (λ (x : TimedPart). x.time) (touched_after v.cores v.banks w all k (outside k held)) ∙ Rattle.parts_table.proofs.Locality.time_moved v.cores v.banks w all k

      pub next_shared : IsNext v w made (hand_of v.cores places' (record { time = made.time; part = Part.Home left }))
      next_shared = subst (λ (m : Made). IsNext v w m (hand_of v.cores places' (record { time = made.time; part = Part.Home left }))) (sym made_all) (record {
        right = right_all;
        inside = inside;
        low = λ most bound k held.
            let time = time_after k held in
            let at_home : home.time ≤ most = subst (λ (x : TimedPart). x.time ≤ most) (sym home_hand) (bound number holds_home) in
            let next : made.time ≤ most + 1 = elim met.next as (λ _. made.time ≤ most + 1) [
              | inl is ↦ omega (arith, is, at_home)
              | inr at ↦
                  let small = subst (λ (x : TimedPart). x.time ≤ most) (sym (agrees at.0 (holds_l1s at.0 at.1)) ∙ hand_l1 v.cores places home at.0 (l1s_known at.0 at.1)) (bound at.0 (holds_l1s at.0 at.1)) in
                  let is = at.2 in
                  omega (arith, small, is)
            ] in
            omega (arith, time, next);
        agrees = hand_then;
      })
