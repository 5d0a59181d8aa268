-- What a seat has in hand stays so while it takes parts, makes accesses, and gives parts back.
use Rattle.std.proofs.Common.{◌≡◌, ◌≢◌, ℕ, ◌+◌, ◌*◌, ◌<◌, ◌≤◌, ◌==◌, Bool, true, false, cond, List, [], ◌∷◌, ◌++◌, All, map, length, refl, sym, ◌∙◌, ap, subst, arith, inl, inr}
use Rattle.std.specs.Prelude.{not, Option}
use Rattle.std.specs.List.{filter}
use Rattle.std.proofs.lemmas.Bool.{cases_Bool, cases_eq, eq-eqb, ne_eqb}
use Rattle.std.proofs.lemmas.List.{length-append}
use Rattle.std.proofs.lemmas.List.Elements.{All-append, All-head, All-tail, All-cons}
use Rattle.atomic_table.specs.Table.{Me}
use Rattle.parts_table.specs.declared.part.TimedPart.{TimedPart}
use Rattle.parts_table.specs.declared.view.CoreAccesses.{CoreAccesses}
use Rattle.parts_table.specs.declared.view.Hold.{Hold}
use Rattle.parts_table.specs.declared.view.Made.{Made}
use Rattle.parts_table.specs.declared.view.View.{View}
use Rattle.parts_table.specs.KeptKeys.{BlocksState}
use Rattle.parts_table.specs.MachineLaws.{MachineLaws}
use Rattle.parts_table.specs.Rule.{Holds}
use Rattle.parts_table.specs.Seats.{AreAsked, Desk, HasInHand, left_in}
use Rattle.parts_table.specs.Steps.{Agrees, AreInside, IsReached, IsTaken, MayGive, left_by}
use Rattle.parts_table.specs.Views.{given, holding}
use Rattle.parts_table.specs.World.{AreRight, IsRight, MayAsk, World, after, lived, moved, touches, world_of}
use Rattle.parts_table.proofs.Held.{agrees_at}
use Rattle.parts_table.proofs.Locality.{IsAllowed, IsFine, IsSameAccess, other_after, same_access, touched_after}
use Rattle.parts_table.proofs.Runs.{IsSameRun, MayAll, lived_append, right_append, same_run, stays_fine_all}
use Rattle.parts_table.proofs.Stays.{stays_fine}

-- ---- lists of accesses inside of what is held

module _ (cores banks : ℕ) where
  pub inside_append : (w : World) (xs ys : List Made) (holds : List Hold) → AreInside cores banks w xs holds → AreInside cores banks (lived cores banks w xs) ys holds → AreInside cores banks w (xs ++ ys) holds
  inside_append w [] ys holds one two = two
  inside_append w (a ∷ xs) ys holds one two = (one.0, inside_append (after cores banks w a) xs ys holds one.1 two)

  -- in another world, where more is held
  pub same_inside : MachineLaws → (first w v : World) (list : List Made) (holds more : List Hold) → IsFine cores banks first w → IsFine cores banks first v
      → ((k : ℕ) → Holds k holds → v k ≡ w k) → ((k : ℕ) → Holds k holds → Holds k more) → AreRight cores banks w list → MayAll cores banks first list → AreInside cores banks w list holds
      → AreInside cores banks v list more
  same_inside laws first w v [] holds more fine too agree within right may inside = tt
  same_inside laws first w v (a ∷ list) holds more fine too agree within right may inside =
      let P : Made → Type 0 = λ a. MayAsk cores banks first a.entry.core a.entry.request in
      let ask = All-head P a list may in
      let may_w = fine.asked a.entry.core a.entry.request ask in
      let may_v = too.asked a.entry.core a.entry.request ask in
      let same = same_access cores banks laws w v a fine.sound too.sound right.0 may_w may_v (λ k is. agree k (inside.0 k is)) in
      let w1 : World = after cores banks w a in
      let v1 : World = after cores banks v a in
      let agree1 : (k : ℕ) → Holds k holds → v1 k ≡ w1 k = λ k held. elim (cases_Bool (touches cores banks w a k)) as (λ _. v1 k ≡ w1 k) [
        | inl is ↦ touched_after cores banks v a k (same.touched k ∙ is) ∙ (same.moved_same k is ∙ sym (touched_after cores banks w a k is))
        | inr is ↦ other_after cores banks v a k (same.touched k ∙ is) ∙ (agree k held ∙ sym (other_after cores banks w a k is))
      ] in (
        (λ k is. within k (inside.0 k (sym (same.touched k) ∙ is))),
        same_inside laws first w1 v1 list holds more (stays_fine cores banks laws first w a fine (record { right = right.0; asked = ask }))
            (stays_fine cores banks laws first v a too (record { right = same.right; asked = ask })) agree1 within right.1 (All-tail P a list may) inside.1,
      )

pub fine_of : (v : View) (w : World) → IsReached v w → IsFine v.cores v.banks (world_of v.opening) w
fine_of v w reached = record { sound = reached.sound; asked = reached.asked }

-- ---- one access more

-- An access that is right where these accesses have led, and what is in hand after it.
pub record IsNext (v : View) (w : World) (a : Made) (hand : World) : Type 0 where
  pub right : IsRight v.cores v.banks w a
  pub inside : (k : ℕ) → touches v.cores v.banks w a k ≡ true → Holds k v.holds
  pub low : (most : ℕ) → ((k : ℕ) → Holds k v.holds → (w k).time ≤ most) → (k : ℕ) → Holds k v.holds → (after v.cores v.banks w a k).time ≤ most + 1
  pub agrees : (k : ℕ) → Holds k v.holds → hand k ≡ after v.cores v.banks w a k

module _ (laws : MachineLaws) (me : Me (Option TimedPart) View) (core : ℕ) (blocks : BlocksState) (made done list : List Made) (hand : World) where
  abbrev d : Desk
  d = record { me = me; core = core; blocks = blocks; made = made }

  abbrev v : View
  v = me.0

  module _ (has : HasInHand d done list hand) where
    abbrev w : World
    w = has.world

    abbrev w1 : World
    w1 = lived v.cores v.banks w list

    fine : IsFine v.cores v.banks (world_of v.opening) w
    fine = fine_of v w has.reached

    -- what the accesses have led to is a machine
    pub fine_now : IsFine me.0.cores me.0.banks (world_of me.0.opening) (lived me.0.cores me.0.banks has.world list)
    fine_now = stays_fine_all v.cores v.banks laws (world_of v.opening) w list fine has.right has.asked

    pub one_more : (a : Made) (blocks' : BlocksState) (made' : List Made) (hand' : World) → a.entry.core ≡ core → MayAsk me.0.cores me.0.banks (world_of me.0.opening) a.entry.core a.entry.request
        → IsNext me.0 (lived me.0.cores me.0.banks has.world list) a hand'
        → HasInHand (record { me = me; core = core; blocks = blocks'; made = made' }) done (list ++ a ∷ []) hand'
    one_more a blocks' made' hand' own ask next = record {
      lone = has.lone;
      own = All-append (λ (x : Made). x.entry.core ≡ core) list (a ∷ []) has.own (All-cons (λ (x : Made). x.entry.core ≡ core) a [] own (λ k e lt. absurd (omega (arith, lt))));
      asked = All-append (λ (x : Made). MayAsk v.cores v.banks (world_of v.opening) x.entry.core x.entry.request) list (a ∷ []) has.asked
          (All-cons (λ (x : Made). MayAsk v.cores v.banks (world_of v.opening) x.entry.core x.entry.request) a [] ask (λ k e lt. absurd (omega (arith, lt))));
      world = w;
      reached = has.reached;
      right = right_append v.cores v.banks w list (a ∷ []) has.right (next.right, tt);
      inside = inside_append v.cores v.banks w list (a ∷ []) v.holds has.inside (next.inside, tt);
      low = λ most bound k held.
          let at : lived v.cores v.banks w (list ++ a ∷ []) k ≡ after v.cores v.banks w1 a k = ap (λ (u : World). u k) (lived_append v.cores v.banks w list (a ∷ [])) in
          let small : (after v.cores v.banks w1 a k).time ≤ most + length list + 1 = next.low (most + length list) (has.low most bound) k held in
          let long = length-append list (a ∷ []) in
          let time = ap (λ (x : TimedPart). x.time) at in
          omega (arith, small, long, time);
      agrees = λ k held. next.agrees k held ∙ ap (λ (u : World). u k) (sym (lived_append v.cores v.banks w list (a ∷ [])));
    }

    -- ---- a part is taken

    module _ (part : ℕ) (value : TimedPart) (taken : IsTaken me.0 part value) (slots : List (ℕ × Option TimedPart)) (hand' : World)
        (same : (k : ℕ) → Holds k me.0.holds → hand' k ≡ hand k) (there : hand' part ≡ value) where
      abbrev v' : View
      v' = holding v part value

      abbrev w' : World
      w' = taken.world

      fine' : IsFine v.cores v.banks (world_of v.opening) w'
      fine' = record { sound = taken.reached.sound; asked = taken.reached.asked }

      agree : (k : ℕ) → Holds k v.holds → w' k ≡ w k
      agree k held = agrees_at w v.holds has.reached.agrees w' taken.reached.agrees.1 k held

      run : IsSameRun v.cores v.banks w w' list v.holds
      run = same_run v.cores v.banks laws (world_of v.opening) w w' list v.holds fine fine' agree has.right has.asked has.inside

      pub one_taken : HasInHand (record { me = (holding me.0 part value, slots); core = core; blocks = blocks; made = made }) done list hand'
      one_taken = record {
        lone = has.lone;
        own = has.own;
        asked = has.asked;
        world = w';
        reached = taken.reached;
        right = run.right;
        inside = same_inside v.cores v.banks laws (world_of v.opening) w w' list v.holds v'.holds fine fine' agree (λ k held. inr held) has.right has.asked has.inside;
        low = λ most bound k held. elim held as (λ _. (lived v.cores v.banks w' list k).time ≤ most + length list) [
          | inl is ↦
              let at : lived v.cores v.banks w' list k ≡ w' k = run.others k (λ other. taken.apart (subst (λ (n : ℕ). Holds n v.holds) (sym is) other)) in
              let time = ap (λ (x : TimedPart). x.time) at in
              let small : (w' k).time ≤ most = bound k (inl is) in
              omega (arith, time, small)
          | inr old ↦
              let at : lived v.cores v.banks w' list k ≡ lived v.cores v.banks w list k = run.held k old in
              let time = ap (λ (x : TimedPart). x.time) at in
              let small = has.low most (λ j holds. subst (λ (x : TimedPart). x.time ≤ most) (agree j holds) (bound j (inr holds))) k old in
              omega (arith, time, small)
        ];
        agrees = λ k held. elim held as (λ _. hand' k ≡ lived v.cores v.banks w' list k) [
          | inl is ↦
              ap hand' (sym is) ∙ (there ∙ (taken.reached.agrees.0 ∙ (ap w' is ∙ sym (run.others k (λ other. taken.apart (subst (λ (n : ℕ). Holds n v.holds) (sym is) other))))))
          | inr old ↦ same k old ∙ (has.agrees k old ∙ sym (run.held k old))
        ];
      }

      -- no time in hand is much past what all cores together can make
      pub timely : (k : ℕ) → Holds k (holding me.0 part value).holds → (hand' k).time ≤ me.0.cores * me.0.room + length list
      unfolding one_taken
      timely k held =
          let small : (lived v.cores v.banks w' list k).time ≤ v.cores * v.room + length list = one_taken.low (v.cores * v.room) (λ j holds. taken.low j) k held in
          let time = ap (λ (x : TimedPart). x.time) (one_taken.agrees k held) in
          omega (arith, small, time)

-- ---- a part is given back

-- the others that are held
module _ (cores banks : ℕ) (w : World) (list : List Made) (part : ℕ) where
  abbrev u : World
  u = lived cores banks w list

  pub left_agrees : (holds : List Hold) → Agrees (lived cores banks w list) (left_by cores banks w list part holds)
  left_agrees [] = tt
  left_agrees (h ∷ holds) = elim (cases_eq h.part part) as (λ _. Agrees u (left_by cores banks w list part (h ∷ holds))) [
    | inl same ↦ rw (eq-eqb h.part part same) (left_agrees holds)
    | inr other ↦ rw (ne_eqb h.part part other) (refl, left_agrees holds)
  ]

  pub left_held : (holds : List Hold) (k : ℕ) → Holds k (left_by cores banks w list part holds) → Holds k holds × (k ≢ part)
  left_held [] k has = absurd has
  left_held (h ∷ holds) k has = elim (cases_eq h.part part) as (λ _. Holds k (h ∷ holds) × (k ≢ part)) [
    | inl same ↦ let it = left_held holds k (rw (eq-eqb h.part part same) at has) in (inr it.0, it.1)
    | inr other ↦
        let one : Holds k (record { part = h.part; value = u h.part } ∷ left_by cores banks w list part holds) = rw (ne_eqb h.part part other) at has in
        elim one as (λ _. Holds k (h ∷ holds) × (k ≢ part)) [
          | inl is ↦ (inl is, λ bad. other (is ∙ bad))
          | inr old ↦ let it = left_held holds k old in (inr it.0, it.1)
        ]
  ]

  pub held_left : (holds : List Hold) (k : ℕ) → Holds k holds → k ≢ part → Holds k (left_by cores banks w list part holds)
  held_left [] k has other = absurd has
  held_left (h ∷ holds) k (inl is) other =
      let apart : h.part ≢ part = λ bad. other (sym is ∙ bad) in
      rw (ne_eqb h.part part apart) (inl is)
  held_left (h ∷ holds) k (inr has) other = elim (cases_eq h.part part) as (λ _. Holds k (left_by cores banks w list part (h ∷ holds))) [
    | inl same ↦ rw (eq-eqb h.part part same) (held_left holds k has other)
    | inr apart ↦ rw (ne_eqb h.part part apart) (inr (held_left holds k has other))
  ]

  -- these are the values in hand
  pub left_is : (hand : World) (holds : List Hold) → ((k : ℕ) → Holds k holds → k ≢ part → hand k ≡ lived cores banks w list k)
      → map {A = Hold} (λ h. record h { value = hand h.part }) (filter (λ h. not (h.part == part)) holds) ≡ left_by cores banks w list part holds
  left_is hand [] same = refl
  left_is hand (h ∷ holds) same =
      let rest = left_is hand holds (λ k held. same k (inr held)) in
      elim (cases_eq h.part part) as (λ _. map {A = Hold} (λ x. record x { value = hand x.part }) (filter (λ x. not (x.part == part)) (h ∷ holds)) ≡ left_by cores banks w list part (h ∷ holds)) [
        | inl one ↦ rw (eq-eqb h.part part one) rest
        | inr other ↦
            let value : hand h.part ≡ u h.part = same h.part (inl refl) other in
            rw (ne_eqb h.part part other) (λ i. record { part = h.part; value = value i } ∷ rest i)
      ]

-- Here `hand` is what is in hand before, and `hand'` when the part was let go.
module _ (laws : MachineLaws) (me : Me (Option TimedPart) View) (core : ℕ) (blocks : BlocksState) (made done list : List Made) (hand hand' : World)
    (has : HasInHand (record { me = me; core = core; blocks = blocks; made = made }) done list hand) (part : ℕ) (held : Holds part me.0.holds)
    (same : (k : ℕ) → Holds k me.0.holds → k ≢ part → hand' k ≡ hand k) where
  abbrev log : CoreAccesses
  log = record { core = core; list = done }

  left_right : left_in hand' part me.0.holds ≡ left_by me.0.cores me.0.banks has.world list part me.0.holds
  left_right = left_is me.0.cores me.0.banks has.world list part hand' me.0.holds (λ k holds other. same k holds other ∙ has.agrees k holds)

  pub may_give : length done + length list ≤ me.0.room → (value : TimedPart) → value ≡ hand part → MayGive me.0 part value list (left_in hand' part me.0.holds)
  may_give room value is = record {
    log = log;
    lone = has.lone;
    held = held;
    own = has.own;
    asked = has.asked;
    room = room;
    world = has.world;
    reached = has.reached;
    right = has.right;
    inside = has.inside;
    low = has.low;
    value_is = is ∙ has.agrees part held;
    left_is = left_right;
  }

  -- the seat after it
  pub given_has : (slots : List (ℕ × Option TimedPart)) → HasInHand (record { me = (given me.0 (record { core = core; list = done }) list (left_in hand' part me.0.holds), slots); core = core; blocks = blocks; made = made }) (done ++ list) [] hand'
  given_has slots =
      let fine = fine_now laws me core blocks made done list hand has in
      let w1 : World = lived me.0.cores me.0.banks has.world list in
      subst (λ (holds : List Hold). HasInHand (record { me = (given me.0 log list holds, slots); core = core; blocks = blocks; made = made }) (done ++ list) [] hand') (sym left_right) (record {
        lone = refl;
        own = λ k d lt. absurd (omega (arith, lt));
        asked = λ k d lt. absurd (omega (arith, lt));
        world = w1;
        reached = record { sound = fine.sound; agrees = left_agrees me.0.cores me.0.banks has.world list part me.0.holds; asked = fine.asked };
        right = tt;
        inside = tt;
        low = λ most bound k holds. let small = bound k holds in omega (arith, small);
        agrees = λ k holds.
            let was = left_held me.0.cores me.0.banks has.world list part me.0.holds k holds in
            same k was.0 was.1 ∙ has.agrees k was.0;
      })

  pub given_only : (k : ℕ) → Holds k (left_in hand' part me.0.holds) → Holds k me.0.holds × (k ≢ part)
  given_only k holds = left_held me.0.cores me.0.banks has.world list part me.0.holds k (subst (Holds k) left_right holds)

  pub given_others : (k : ℕ) → Holds k me.0.holds → k ≢ part → Holds k (left_in hand' part me.0.holds)
  given_others k holds other = subst (Holds k) (sym left_right) (held_left me.0.cores me.0.banks has.world list part me.0.holds k holds other)
