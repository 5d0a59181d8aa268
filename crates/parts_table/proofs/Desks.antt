-- What a seat has as it takes and gives parts.
use Rattle.std.proofs.Common.{◌≡◌, ◌≢◌, ℕ, ◌+◌, ◌*◌, ◌<◌, ◌≤◌, ◌⊎◌, Bool, true, false, cond, List, [], ◌∷◌, ◌++◌, All, drop, map, length, refl, sym, ◌∙◌, ap, subst, arith, inl, inr}
use Rattle.std.specs.Prelude.{nat_eq, nat_lt, Option}
use Rattle.std.specs.Set.{is_member}
use Rattle.std.proofs.lemmas.Bool.{cases_Bool, cases_eq, cases_lt, eq-eqb, ne_eqb}
use Rattle.std.proofs.lemmas.List.{append-nil, append_assoc, length-append}
use Rattle.std.proofs.lemmas.List.Elements.{All-append, All-cons, All-head, All-tail}
use Rattle.atomic_table.specs.Table.{Me}
use Rattle.parts_table.specs.declared.part.TimedPart.{TimedPart}
use Rattle.parts_table.specs.declared.view.CoreAccesses.{CoreAccesses}
use Rattle.parts_table.specs.declared.view.Hold.{Hold}
use Rattle.parts_table.specs.declared.view.Made.{Made}
use Rattle.parts_table.specs.declared.view.View.{View}
use Rattle.parts_table.specs.KeptKeys.{BlocksState}
use Rattle.parts_table.specs.MachineLaws.{MachineLaws}
use Rattle.parts_table.specs.Places.{PlacesState, in_place, is_in}
use Rattle.parts_table.specs.Rule.{Holds}
use Rattle.parts_table.specs.Seats.{AreApart, Desk, HasInHand, HasParts, IsKept, hand_of, left_in, published, slot_of, unpublished}
use Rattle.parts_table.specs.Steps.{IsTaken, MayGive}
use Rattle.parts_table.specs.Views.{given, holding}
use Rattle.parts_table.specs.World.{World, no_part}
use Rattle.parts_table.proofs.Hand.{given_has, given_only, given_others, may_give, one_taken}
use Rattle.parts_table.proofs.Members.{all_in, in_cons, in_either, in_first, in_left, in_none, in_one, in_rest, in_right, not_in}
use Rattle.parts_table.proofs.Serving.{hand_home, hand_l1}

drop_all : {X : Type 0} (xs ys : List X) → drop (length xs) (xs ++ ys) ≡ ys
drop_all [] ys = refl
drop_all (x ∷ xs) ys = drop_all xs ys

map_more : {X Y : Type 0} (f : X → Y) (xs ys : List X) → map f (xs ++ ys) ≡ map f xs ++ map f ys
map_more f [] ys = refl
map_more f (x ∷ xs) ys = ap (λ zs. f x ∷ zs) (map_more f xs ys)

-- what isn't published
pub unpublished_is : (v : View) (log : CoreAccesses) (made list : List Made) → v.logs ≡ log ∷ [] → made ≡ log.list ++ list → unpublished v made ≡ list
unpublished_is v log made list lone is =
    ap (λ (logs : List CoreAccesses). drop (length (published logs)) made) lone ∙ (ap (drop (length log.list)) is ∙ drop_all log.list list)

apart_more : (cores : List ℕ) (c : ℕ) → AreApart cores → (is_in cores c → ⊥) → AreApart (cores ++ c ∷ [])
apart_more [] c apart new = (refl, tt)
apart_more (x ∷ cores) c apart new = (
  not_in (cores ++ c ∷ []) x (λ has. elim (in_either cores (c ∷ []) x has) as (λ _. ⊥) [
    | inl old ↦ let no : is_member nat_eq cores x ≡ false = apart.0 in let yes : is_member nat_eq cores x ≡ true = old in let bad : true ≡ false = sym yes ∙ no in cc
    | inr is ↦ new (in_first x cores c (sym (in_one c x is)))
  ]),
  apart_more cores c apart.1 (λ has. new (in_rest x cores c has)),
)

-- hands with the same L1s and homes
pub same_hand : (cores : ℕ) (places now : PlacesState) (home : TimedPart) (c : ℕ) → ((k : ℕ) → k ≢ c → in_place now k ≡ in_place places k) → (k : ℕ) → k ≢ c → hand_of cores now home k ≡ hand_of cores places home k
same_hand cores places now home c others k other =
    elim (cases_lt k cores) as (λ _. hand_of cores now home k ≡ hand_of cores places home k) [
      | inl within ↦ hand_l1 cores now home k within ∙ (others k other ∙ sym (hand_l1 cores places home k within))
      | inr past ↦ hand_home cores now home k past ∙ sym (hand_home cores places home k past)
    ]

module _ (laws : MachineLaws) (me : Me (Option TimedPart) View) (core : ℕ) (blocks : BlocksState) (made : List Made) (places : PlacesState) (home : TimedPart) (numbers cores : List ℕ) (done list : List Made)
    (has : HasParts (record { me = me; core = core; blocks = blocks; made = made }) places home numbers cores done list) where
  -- ---- the L1 of a core is taken

  module _ (c : ℕ) (now : PlacesState) (value : TimedPart) (known : c < me.0.cores) (taken : IsTaken me.0 c value) (there : in_place now c ≡ value)
      (others : (k : ℕ) → k ≢ c → in_place now k ≡ in_place places k) (count : length now.l1s ≡ length places.l1s) (filled : now.filled ≡ places.filled + 1) where
    new_core : is_in cores c → ⊥
    new_core old = taken.apart (has.has c (in_right numbers cores c old))

    list_is : numbers ++ (cores ++ c ∷ []) ≡ (numbers ++ cores) ++ c ∷ []
    list_is = sym (append_assoc numbers cores (c ∷ []))

    hand_same : (k : ℕ) → Holds k me.0.holds → hand_of me.0.cores now home k ≡ hand_of me.0.cores places home k
    hand_same k held = same_hand me.0.cores places now home c others k (λ is. taken.apart (subst (λ (n : ℕ). Holds n me.0.holds) is held))

    pub has_taken : HasParts (record { me = (holding me.0 c value, me.1 ++ slot_of c ∷ []); core = core; blocks = blocks; made = made }) now home numbers (cores ++ c ∷ []) done list
    has_taken = record {
      kept = record { keys = has.kept.keys; count = has.kept.count; now = has.kept.now; room = has.kept.room; within = has.kept.within; core_is = has.kept.core_is; few_cores = has.kept.few_cores; few_banks = has.kept.few_banks; small_room = has.kept.small_room };
      made_is = has.made_is;
      hand = one_taken laws me core blocks made done list (hand_of me.0.cores places home) has.hand c value taken (me.1 ++ slot_of c ∷ []) (hand_of me.0.cores now home) hand_same (hand_l1 me.0.cores now home c known ∙ there);
      has = λ k is. elim (in_either (numbers ++ cores) (c ∷ []) k (subst (λ (ks : List ℕ). is_in ks k) list_is is)) as (λ _. Holds k (holding me.0 c value).holds) [
        | inl old ↦ inr (has.has k old)
        | inr new ↦ inl (sym (in_one c k new))
      ];
      only = λ k held. subst (λ (ks : List ℕ). is_in ks k) (sym list_is) (elim held as (λ _. is_in ((numbers ++ cores) ++ c ∷ []) k) [
        | inl new ↦ in_right (numbers ++ cores) (c ∷ []) k (in_first c [] k (sym new))
        | inr old ↦ in_left (numbers ++ cores) (c ∷ []) k (has.only k old)
      ]);
      slots = ap (λ (ss : List (ℕ × Option TimedPart)). ss ++ slot_of c ∷ []) has.slots ∙ (sym (map_more slot_of (numbers ++ cores) (c ∷ [])) ∙ ap (map slot_of) (sym list_is));
      apart = apart_more cores c has.apart new_core;
      homes = has.homes;
      known = All-append (λ (k : ℕ). k < me.0.cores) cores (c ∷ []) has.known (All-cons (λ (k : ℕ). k < me.0.cores) c [] known (λ k d lt. absurd (omega (arith, lt))));
      count = count ∙ has.count;
      filled = filled ∙ (ap (λ (n : ℕ). n + 1) has.filled ∙ sym (length-append cores (c ∷ [])));
    }

  -- ---- a part is given back

  pub not_published : unpublished me.0 made ≡ list
  not_published = unpublished_is me.0 (record { core = core; list = done }) made list has.hand.lone has.made_is

  pub enough_room : length done + length list ≤ me.0.room
  enough_room = let long = length-append done list in let size = ap {A = List Made} length has.made_is in let within = has.kept.within in omega (arith, long, size, within)

  module _ (part : ℕ) (held : is_in (numbers ++ cores) part) (now : PlacesState) (left_home : TimedPart)
      (same : (k : ℕ) → Holds k me.0.holds → k ≢ part → hand_of me.0.cores now left_home k ≡ hand_of me.0.cores places home k) where
    pub may_let : (value : TimedPart) → value ≡ hand_of me.0.cores places home part → MayGive me.0 part value (unpublished me.0 made) (left_in (hand_of me.0.cores now left_home) part me.0.holds)
    may_let value is = subst (λ (l : List Made). MayGive me.0 part value l (left_in (hand_of me.0.cores now left_home) part me.0.holds)) (sym not_published)
        (may_give laws me core blocks made done list (hand_of me.0.cores places home) (hand_of me.0.cores now left_home) has.hand part (has.has part held) same enough_room value is)

    -- behind it the seat has these
    pub has_let : (numbers' cores' : List ℕ) (blocks' : BlocksState) (slots : List (ℕ × Option TimedPart)) → ((k : ℕ) → is_in (numbers' ++ cores') k → is_in (numbers ++ cores) k × (k ≢ part))
        → ((k : ℕ) → is_in (numbers ++ cores) k → k ≢ part → is_in (numbers' ++ cores') k) → slots ≡ map slot_of (numbers' ++ cores') → AreApart cores' → All (λ k. me.0.cores ≤ k) numbers' → All (λ k. k < me.0.cores) cores'
        → length now.l1s ≡ length places.l1s → now.filled ≡ length cores'
        → HasParts (record { me = (given me.0 (record { core = core; list = done }) (unpublished me.0 made) (left_in (hand_of me.0.cores now left_home) part me.0.holds), slots); core = core; blocks = blocks; made = made }) now left_home numbers' cores' made []
    has_let numbers' cores' blocks' slots had stays slots_are apart homes known count filled =
        subst (λ (l : List Made). HasParts (record { me = (given me.0 (record { core = core; list = done }) l (left_in (hand_of me.0.cores now left_home) part me.0.holds), slots); core = core; blocks = blocks; made = made }) now left_home numbers' cores' made []) (sym not_published) (record {
          kept = record { keys = has.kept.keys; count = has.kept.count; now = has.kept.now; room = has.kept.room; within = has.kept.within; core_is = has.kept.core_is; few_cores = has.kept.few_cores; few_banks = has.kept.few_banks; small_room = has.kept.small_room };
          made_is = sym (append-nil made);
          hand = subst (λ (l : List Made). HasInHand (record { me = (given me.0 (record { core = core; list = done }) list (left_in (hand_of me.0.cores now left_home) part me.0.holds), slots); core = core; blocks = blocks; made = made }) l [] (hand_of me.0.cores now left_home)) (sym has.made_is)
              (given_has laws me core blocks made done list (hand_of me.0.cores places home) (hand_of me.0.cores now left_home) has.hand part (has.has part held) same slots);
          has = λ k is. let old = had k is in given_others laws me core blocks made done list (hand_of me.0.cores places home) (hand_of me.0.cores now left_home) has.hand part (has.has part held) same k (has.has k old.0) old.1;
          only = λ k holds. let old = given_only laws me core blocks made done list (hand_of me.0.cores places home) (hand_of me.0.cores now left_home) has.hand part (has.has part held) same k holds in stays k (has.only k old.0) old.1;
          slots = slots_are;
          apart = apart;
          homes = homes;
          known = known;
          count = count ∙ has.count;
          filled = filled;
        })
