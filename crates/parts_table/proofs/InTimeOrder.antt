-- A list of accesses in order of times is a run of the homes and L1s, if it has the accesses of each core of one.
use Rattle.std.proofs.Common.{◌≡◌, ℕ, ◌+◌, ◌*◌, ◌<◌, ◌≤◌, ◌==◌, ◌||◌, ◌&&◌, Bool, true, false, cond, not, if◌then◌else◌, eqb, ltb, List, [], ◌∷◌, refl, sym, ap, ◌∙◌, subst, arith, nat_eq, nat_lt, All}
use Rattle.std.specs.List.{filter}
use Rattle.std.specs.Set.{is_member}
use Rattle.std.proofs.lemmas.Bool.{cases_Bool, eq-eqb, eqb-true, lt-ltb, not-false, not-true, true≢false}
use Rattle.std.proofs.lemmas.List.Elements.{All-head, All-tail}
use Rattle.zs_num.specs.Request.{bank_of}
use Rattle.zs_num.specs.declared.request.Request.{Request}
use Rattle.l1_cache.specs.L1State.{is_private}
use Rattle.shard.specs.SharedStep.{Bank, l1_of, touched_by}
use Rattle.parts_table.specs.TurnOrder.{AreInOrder as AreSorted, by_core}
use Rattle.parts_table.specs.World.{AreRight, IsRight, IsSound, MayAsk, World, after, bank_for, is_alone, lived, moved, touches}
use Rattle.parts_table.specs.declared.part.TimedPart.{TimedPart}
use Rattle.parts_table.specs.declared.view.Made.{Made}
use Rattle.parts_table.proofs.Reorder.{AreInOrder, AreLocal, AreReordered, AreRight as AreAllRight, lived as left_by, reordered}

-- where its own L1 serves an access, it touches no other
own_alone : (p : Bank) (core : ℕ) (request : Request) → is_private (l1_of p core) request ≡ true → touched_by p core request ≡ core ∷ []
unfolding touched_by
own_alone p core request is = rw is refl

member_own : (p : Bank) (core : ℕ) (request : Request) → is_member nat_eq (touched_by p core request) core ≡ true
unfolding touched_by
member_own p core request = rw (eq-eqb core core refl) refl

member_one : (core k : ℕ) → is_member nat_eq (core ∷ []) k ≡ true → k ≡ core
member_one core k is = eqb-true k core (by_test (eqb k core) is)
  where
    by_test : (t : Bool) → (t || false) ≡ true → t ≡ true
    by_test true is = refl
    by_test false is = is

not_both : (t u : Bool) → u ≡ true → (t && not u) ≡ true → ⊥
not_both true u own touched = true≢false (sym own ∙ not-true u touched)
not_both false u own touched = true≢false (sym touched)

module _ (cores banks : ℕ) (asking : World) where
  -- the core of an access may make it
  abbrev pub IsAsked : Made → Type 0
  IsAsked a = MayAsk cores banks asking a.entry.core a.entry.request

  -- homes and L1s of a machine, whose cores may ask what they could ask of the first
  pub record IsFine (w : World) : Type 0 where
    pub sound : IsSound cores banks w
    pub asked : (core : ℕ) (request : Request) → MayAsk cores banks asking core request → MayAsk cores banks w core request

  pub record IsAccess (w : World) (a : Made) : Type 0 where
    pub right : IsRight cores banks w a
    pub asked : IsAsked a

  abbrev pub Agrees : World → World → Made → Type 0
  Agrees w v a = (k : ℕ) → touches cores banks w a k ≡ true → v k ≡ w k

  -- An access goes by the parts that it touches, and leaves homes and L1s.
  pub record GoByParts : Type 0 where
    pub touches_same : (w v : World) (a : Made) → IsFine w → IsFine v → IsAccess w a → Agrees w v a → (k : ℕ) → touches cores banks v a k ≡ touches cores banks w a k
    pub moved_same : (w v : World) (a : Made) → IsFine w → IsFine v → IsAccess w a → Agrees w v a → (k : ℕ) → touches cores banks w a k ≡ true → moved cores banks v a k ≡ moved cores banks w a k
    pub right_same : (w v : World) (a : Made) → IsFine w → IsFine v → IsAccess w a → Agrees w v a → IsRight cores banks v a
    pub fine : (w : World) (a : Made) → IsFine w → IsAccess w a → IsFine (after cores banks w a)

  touches_own : (w : World) (a : Made) → IsFine w → IsAccess w a → touches cores banks w a a.entry.core ≡ true
  unfolding touches
  touches_own w a fine is = rw (lt-ltb a.entry.core cores is.right.known) (member_own (bank_for cores banks w a) a.entry.core a.entry.request)

  is_own : (w : World) (a : Made) → IsFine w → IsAccess w a → a.shared ≡ false → is_alone cores banks w a ≡ true
  is_own w a fine is no_other = not-false (is_alone cores banks w a) (sym is.right.shared ∙ no_other)

  touches_alone : (w : World) (a : Made) → IsFine w → IsAccess w a → a.shared ≡ false → (k : ℕ) → touches cores banks w a k ≡ true → k ≡ a.entry.core
  unfolding touches
  touches_alone w a fine is no_other k touched =
      let own : is_alone cores banks w a ≡ true = is_own w a fine is no_other in
      by_place own (nat_lt k cores) touched
    where
      by_place : is_alone cores banks w a ≡ true → (t : Bool)
          → (if t then is_member nat_eq (touched_by (bank_for cores banks w a) a.entry.core a.entry.request) k else nat_eq k (cores + bank_of banks a.entry.request) && not (is_alone cores banks w a)) ≡ true → k ≡ a.entry.core
      by_place own true touched = member_one a.entry.core k (subst (λ (list : List ℕ). is_member nat_eq list k ≡ true) (own_alone (bank_for cores banks w a) a.entry.core a.entry.request own) touched)
      by_place own false touched = absurd (not_both (nat_eq k (cores + bank_of banks a.entry.request)) (is_alone cores banks w a) own touched)

  module _ (parts : GoByParts) where
    local : AreLocal (λ a. a.entry.core) (λ a. a.time) (λ a. a.shared) (touches cores banks) (moved cores banks) IsAccess IsFine (λ part. part.time)
    unfolding moved after
    local = record {
      touches_same = parts.touches_same;
      moved_same = parts.moved_same;
      right_same = λ w v a fine also is same. record { right = parts.right_same w v a fine also is same; asked = is.asked };
      fine = parts.fine;
      own = touches_own;
      alone = touches_alone;
      alone_time = λ w a fine is no_other. is.right.alone no_other;
      later = λ w a fine is shared. is.right.later shared;
      timed = λ w a fine is k touched. refl;
    }

    -- ---- the same, said of lists of which all may be asked
    all_right : (w : World) (list : List Made) → AreRight cores banks w list → All IsAsked list
        → AreAllRight (λ a. a.entry.core) (λ a. a.time) (λ a. a.shared) (touches cores banks) (moved cores banks) IsAccess IsFine (λ part. part.time) w list
    unfolding after
    all_right w [] right asked = tt
    all_right w (a ∷ list) right asked = (record { right = right.0; asked = All-head IsAsked a list asked }, all_right (after cores banks w a) list right.1 (All-tail IsAsked a list asked))

    are_right : (w : World) (list : List Made) → AreAllRight (λ a. a.entry.core) (λ a. a.time) (λ a. a.shared) (touches cores banks) (moved cores banks) IsAccess IsFine (λ part. part.time) w list
        → AreRight cores banks w list
    unfolding after
    are_right w [] right = tt
    are_right w (a ∷ list) right = (right.0.right, are_right (after cores banks w a) list right.1)

    same_left : (w : World) (list : List Made) → left_by (λ a. a.entry.core) (λ a. a.time) (λ a. a.shared) (touches cores banks) (moved cores banks) IsAccess IsFine (λ part. part.time) w list ≡ lived cores banks w list
    unfolding after
    same_left w [] = refl
    same_left w (a ∷ list) = same_left (after cores banks w a) list

    in_order : (list : List Made) → AreSorted list → AreInOrder (λ a. a.entry.core) (λ a. a.time) (λ a. a.shared) (touches cores banks) (moved cores banks) IsAccess IsFine (λ part. part.time) list
    in_order [] order = tt
    in_order (a ∷ []) order = (tt, tt)
    in_order (a ∷ b ∷ list) order = (order.0, in_order (b ∷ list) order.1)

    pub record AreOfRun (w : World) (history sorted : List Made) : Type 0 where
      pub right : AreRight cores banks w sorted
      pub left : lived cores banks w sorted ≡ lived cores banks w history

    -- In order of times they are a run from the same parts, which leaves the same.
    pub in_time_order : (w : World) (history sorted : List Made) → IsFine w → AreRight cores banks w history → All IsAsked history → AreSorted sorted
        → ((core : ℕ) → by_core core history ≡ by_core core sorted) → AreOfRun w history sorted
    in_time_order w history sorted fine right asked order same =
        let r : AreReordered (λ a. a.entry.core) (λ a. a.time) (λ a. a.shared) (touches cores banks) (moved cores banks) IsAccess IsFine (λ part. part.time) local w history sorted =
        reordered (λ a. a.entry.core) (λ a. a.time) (λ a. a.shared) (touches cores banks) (moved cores banks) IsAccess IsFine (λ part. part.time) local
        sorted w fine history (all_right w history right asked) (in_order sorted order) same in
        record { right = are_right w sorted r.right; left = sym (same_left w sorted) ∙ r.left ∙ same_left w history }
