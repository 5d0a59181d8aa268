-- The queue by word after each step.
use Rattle.std.proofs.Common.{◌≡◌, ◌+◌, ◌-◌, ◌<◌, ◌≤◌, ℕ, Bool, true, false, cond, List, [], ◌∷◌, length, drop, ◌⊎◌, Option, Some, None, slice_get, sym, ◌∙◌, ap, subst, refl, inl, inr, arith}
use Rattle.std.proofs.lemmas.Bool.{false≢true}
use Rattle.std.proofs.lemmas.Option.{same_Some, none-some}
use Rattle.std.specs.List.{Contains}
use Rattle.std.specs.Option.{option_map_or}
use Rattle.zs_num.specs.KeyOrder.{is_key_before}
use Rattle.zs_num.specs.declared.time.Key.{Key}
use Rattle.domain_queue.specs.SortedKeys.{IsAscending, ReadyKeys, put}
use Rattle.weave_core.specs.declared.incoming.Stub.{Stub}
use Rattle.weave_core.specs.DomainMachine.{is_exact}
use Rattle.weave_core.specs.Stubs.{IsFloorCurrent, IsKeyed, IsWordCurrent, arrival_at, arrival_in, is_ahead, reach_of, slack}
use Rattle.weave_core.specs.Waits.{key_of}
use Rattle.weave_core.proofs.Keys.{first_in, first_or_rest, has_in, in_has, length-put, length-rest, put_cases, put_new, put_old, rest_apart, rest_in}
use Rattle.weave_core.proofs.Lists.{In}

slack-put : (stubs : List Stub) (floor : ℕ) (k : Key) (keys : List Key) → slack stubs floor (put k keys) ≡ slack stubs floor (k ∷ keys)
slack-put stubs floor k [] = refl
slack-put stubs floor k (y ∷ keys) = by_test (slack-put stubs floor k keys) (is_key_before k y)
  where
    by_test : slack stubs floor (put k keys) ≡ slack stubs floor (k ∷ keys) → (t : Bool) → slack stubs floor (cond t (k ∷ y ∷ keys) (y ∷ put k keys)) ≡ slack stubs floor (k ∷ y ∷ keys)
    by_test rest true = refl
    by_test rest false = omega (arith, rest)

slack-first : (stubs : List Stub) (floor : ℕ) (f : Key) (keys : List Key) → slice_get keys 0 ≡ Some f → slack stubs floor keys ≡ 1 + (arrival_in stubs floor f.number - f.start) + slack stubs floor (drop 1 keys)
slack-first stubs floor f [] e = absurd (none-some f e)
slack-first stubs floor f (y ∷ keys) e =
    ap (λ (z : Key). 1 + (arrival_in stubs floor z.number - z.start) + slack stubs floor keys) (same_Some y f e)

module _ (stubs : List Stub) (floor : ℕ) (by_floor queue : ReadyKeys) (keyed : IsKeyed stubs floor by_floor queue) (f : Key) (a : IsAscending queue.keys) (e : slice_get queue.keys 0 ≡ Some f) where
  pub word_within : f.number < length stubs
  word_within = keyed.within f (in_has queue.keys f (first_in f queue.keys e))

  not_in_rest : (k : Key) → In k (drop 1 queue.keys) → k.number ≡ f.number → ⊥
  not_in_rest k h same =
      let is : k ≡ f = keyed.once k f (in_has queue.keys k (rest_in k queue.keys h)) (in_has queue.keys f (first_in f queue.keys e)) same in
      rest_apart f k queue.keys a e h (sym is)

  pub is_new_word : (start : ℕ) (left : ReadyKeys) → left ≡ record queue { keys = drop 1 queue.keys } → Contains left.keys (key_of start f.number) → ⊥
  is_new_word start left is h =
      not_in_rest (key_of start f.number) (has_in (drop 1 queue.keys) (key_of start f.number) (subst (λ (q : ReadyKeys). Contains q.keys (key_of start f.number)) is h)) refl

  pub is_new_reach : (reach : ℕ) → Contains by_floor.keys (key_of reach f.number) → ⊥
  is_new_reach reach h = keyed.apart (key_of reach f.number) f h (in_has queue.keys f (first_in f queue.keys e)) refl

  pub word_room_left : (left : ReadyKeys) → left ≡ record queue { keys = drop 1 queue.keys } → length left.keys < left.room
  word_room_left left is =
      let n : length left.keys ≡ length (drop 1 queue.keys) = ap (λ (q : ReadyKeys). length q.keys) is in
      let r : left.room ≡ queue.room = ap (λ (q : ReadyKeys). q.room) is in
      omega (arith, n, r, keyed.word_room, length-rest f queue.keys e)

  pub floor_room_left : length by_floor.keys < by_floor.room
  floor_room_left = omega (arith, keyed.floor_room, length-rest f queue.keys e)

  -- what the rest keeps
  rest_covers : (s : Stub) → slice_get stubs f.number ≡ Some s → (place : ℕ) (t : Stub) → slice_get stubs place ≡ Some t → is_exact t.word ≡ false
      → ((f.number ≡ place) × (s ≡ t)) ⊎ (Contains by_floor.keys (key_of (reach_of t) place)
      ⊎ ((start : ℕ) × ((start ≤ arrival_at floor t) × Contains (drop 1 queue.keys) (key_of start place))))
  rest_covers s there place t at unknown =
      elim (keyed.covers place t at unknown) [
        | inl h ↦ inr (inl h)
        | inr k ↦
            elim (first_or_rest f (key_of k.0 place) queue.keys e (has_in queue.keys (key_of k.0 place) k.1.1)) [
              | inl same ↦
                  let number : f.number ≡ place = ap (λ (z : Key). z.number) same in
                  inl (number, same_Some s t (sym there ∙ (ap (slice_get stubs) number ∙ at)))
              | inr m ↦ inr (inr (k.0, (k.1.0, in_has (drop 1 queue.keys) (key_of k.0 place) m)))
            ]
      ]

  old_word : (k : Key) → Contains (drop 1 queue.keys) k → Contains queue.keys k
  old_word k h = in_has queue.keys k (rest_in k queue.keys (has_in (drop 1 queue.keys) k h))

  module _ (s : Stub) (there : slice_get stubs f.number ≡ Some s) where
    -- the finish of the first is known
    pub word_dropped : (left : ReadyKeys) → left ≡ record queue { keys = drop 1 queue.keys } → is_exact s.word ≡ true → IsKeyed stubs floor by_floor left
    word_dropped left is closed =
        subst (λ (q : ReadyKeys). IsKeyed stubs floor by_floor q) (sym is)
        (record {
          covers = λ place t at unknown.
              elim (rest_covers s there place t at unknown) [
                | inl same ↦ absurd (false≢true (sym unknown ∙ (ap (λ (z : Stub). is_exact z.word) (sym same.1) ∙ closed)))
                | inr kept ↦ kept
              ];
          reaches = keyed.reaches;
          within = λ k h. keyed.within k (old_word k h);
          once = λ k o h i same. keyed.once k o (old_word k h) (old_word o i) same;
          apart = λ k o h i same. keyed.apart k o h (old_word o i) same;
          floor_room = omega (arith, keyed.floor_room, length-rest f queue.keys e);
          word_room = omega (arith, keyed.word_room, length-rest f queue.keys e);
        })

    -- it is put in again at its arrival
    pub word_again : (left longer : ReadyKeys) → left ≡ record queue { keys = drop 1 queue.keys } → longer ≡ record left { keys = put (key_of (arrival_at floor s) f.number) left.keys }
        → IsKeyed stubs floor by_floor longer
    word_again left longer is more =
        subst (λ (q : ReadyKeys). IsKeyed stubs floor by_floor q) (sym (more ∙ ap (λ (q : ReadyKeys). record q { keys = put (key_of (arrival_at floor s) f.number) q.keys }) is))
        (record {
          covers = λ place t at unknown.
              elim (rest_covers s there place t at unknown) [
                | inl same ↦
                    inr (
                      arrival_at floor s,
                      (
                        omega (arith, ap (arrival_at floor) same.1),
                        in_has (put new (drop 1 queue.keys)) (key_of (arrival_at floor s) place)
                            (subst (λ (n : ℕ). In (key_of (arrival_at floor s) n) (put new (drop 1 queue.keys))) same.0 (put_new new (drop 1 queue.keys))),
                      ),
                    )
                | inr kept ↦
                    elim kept [
                      | inl h ↦ inl h
                      | inr k ↦ inr (k.0, (k.1.0, in_has (put new (drop 1 queue.keys)) (key_of k.0 place) (put_old new (key_of k.0 place) (drop 1 queue.keys) (has_in (drop 1 queue.keys) (key_of k.0 place) k.1.1))))
                    ]
              ];
          reaches = keyed.reaches;
          within = λ k h.
              elim (put_cases new k (drop 1 queue.keys) (has_in (put new (drop 1 queue.keys)) k h)) [
                | inl same ↦ subst (λ (z : Key). z.number < length stubs) same word_within
                | inr m ↦ keyed.within k (in_has queue.keys k (rest_in k queue.keys m))
              ];
          once = λ k o h i same.
              elim (put_cases new k (drop 1 queue.keys) (has_in (put new (drop 1 queue.keys)) k h)) [
                | inl b ↦
                    elim (put_cases new o (drop 1 queue.keys) (has_in (put new (drop 1 queue.keys)) o i)) [
                      | inl c ↦ sym b ∙ c
                      | inr c ↦ absurd (not_in_rest o c (sym same ∙ sym (ap (λ (z : Key). z.number) b)))
                    ]
                | inr b ↦
                    elim (put_cases new o (drop 1 queue.keys) (has_in (put new (drop 1 queue.keys)) o i)) [
                      | inl c ↦ absurd (not_in_rest k b (same ∙ sym (ap (λ (z : Key). z.number) c)))
                      | inr c ↦ keyed.once k o (in_has queue.keys k (rest_in k queue.keys b)) (in_has queue.keys o (rest_in o queue.keys c)) same
                    ]
              ];
          apart = λ k o h i same.
              elim (put_cases new o (drop 1 queue.keys) (has_in (put new (drop 1 queue.keys)) o i)) [
                | inl c ↦ keyed.apart k f h (in_has queue.keys f (first_in f queue.keys e)) (same ∙ sym (ap (λ (z : Key). z.number) c))
                | inr c ↦ keyed.apart k o h (in_has queue.keys o (rest_in o queue.keys c)) same
              ];
          floor_room = omega (arith, keyed.floor_room, length-rest f queue.keys e, length-put new (drop 1 queue.keys));
          word_room = omega (arith, keyed.word_room, length-rest f queue.keys e, length-put new (drop 1 queue.keys));
        })
      where
        new : Key
        new = key_of (arrival_at floor s) f.number

    -- the floor says its arrival, and it is put in by its reach
    pub word_to_floor : (left reached : ReadyKeys) → left ≡ record queue { keys = drop 1 queue.keys } → reached ≡ record by_floor { keys = put (key_of (reach_of s) f.number) by_floor.keys }
        → IsKeyed stubs floor reached left
    word_to_floor left reached is more =
        subst (λ (q : ReadyKeys). IsKeyed stubs floor reached q) (sym is)
        (subst (λ (q : ReadyKeys). IsKeyed stubs floor q (record queue { keys = drop 1 queue.keys })) (sym more)
        (record {
          covers = λ place t at unknown.
              elim (rest_covers s there place t at unknown) [
                | inl same ↦
                    inl (in_has (put new by_floor.keys) (key_of (reach_of t) place)
                    (subst (λ (z : Key). In z (put new by_floor.keys)) (ap (λ n. key_of n f.number) (ap reach_of same.1) ∙ ap (key_of (reach_of t)) same.0) (put_new new by_floor.keys)))
                | inr kept ↦
                    elim kept [
                      | inl h ↦ inl (in_has (put new by_floor.keys) (key_of (reach_of t) place) (put_old new (key_of (reach_of t) place) by_floor.keys (has_in by_floor.keys (key_of (reach_of t) place) h)))
                      | inr k ↦ inr k
                    ]
              ];
          reaches = λ k h.
              elim (put_cases new k by_floor.keys (has_in (put new by_floor.keys) k h)) [
                | inl same ↦ subst (λ (z : Key). (t : Stub) × ((slice_get stubs z.number ≡ Some t) × (z.start ≡ reach_of t))) same (s, (there, refl))
                | inr m ↦ keyed.reaches k (in_has by_floor.keys k m)
              ];
          within = λ k h. keyed.within k (old_word k h);
          once = λ k o h i same. keyed.once k o (old_word k h) (old_word o i) same;
          apart = λ k o h i same.
              elim (put_cases new k by_floor.keys (has_in (put new by_floor.keys) k h)) [
                | inl b ↦ not_in_rest o (has_in (drop 1 queue.keys) o i) (sym same ∙ sym (ap (λ (z : Key). z.number) b))
                | inr b ↦ keyed.apart k o (in_has by_floor.keys k b) (old_word o i) same
              ];
          floor_room = omega (arith, keyed.floor_room, length-rest f queue.keys e, length-put new by_floor.keys);
          word_room = omega (arith, keyed.word_room, length-rest f queue.keys e, length-put new by_floor.keys);
        }))
      where
        new : Key
        new = key_of (reach_of s) f.number

    pub slack_without : (left : ReadyKeys) → left ≡ record queue { keys = drop 1 queue.keys } → slack stubs floor left.keys < slack stubs floor queue.keys
    slack_without left is =
        let same : slack stubs floor left.keys ≡ slack stubs floor (drop 1 queue.keys) = ap (λ (q : ReadyKeys). slack stubs floor q.keys) is in
        omega (arith, same, slack-first stubs floor f queue.keys e)

    -- the key is at its stub's arrival or before, where the stub is open
    start_upto : is_exact s.word ≡ false → f.start ≤ arrival_at floor s
    start_upto unknown =
        elim (keyed.covers f.number s there unknown) [
          | inl h ↦ absurd (keyed.apart (key_of (reach_of s) f.number) f h (in_has queue.keys f (first_in f queue.keys e)) refl)
          | inr c ↦
              let same : key_of c.0 f.number ≡ f = keyed.once (key_of c.0 f.number) f c.1.1 (in_has queue.keys f (first_in f queue.keys e)) refl in
              let start : c.0 ≡ f.start = ap (λ (z : Key). z.start) same in
              omega (arith, c.1.0, start)
        ]

    pub slack_again : (left longer : ReadyKeys) → left ≡ record queue { keys = drop 1 queue.keys } → longer ≡ record left { keys = put (key_of (arrival_at floor s) f.number) left.keys }
        → is_exact s.word ≡ false → (f.start ≡ arrival_at floor s → ⊥) → slack stubs floor longer.keys < slack stubs floor queue.keys
    slack_again left longer is more unknown stale =
        let same : slack stubs floor longer.keys ≡ slack stubs floor (put (key_of (arrival_at floor s) f.number) (drop 1 queue.keys)) =
        ap (λ (q : ReadyKeys). slack stubs floor q.keys) more ∙ ap (λ (q : ReadyKeys). slack stubs floor (put (key_of (arrival_at floor s) f.number) q.keys)) is
        in
        let arrival : arrival_in stubs floor f.number ≡ arrival_at floor s = ap (λ (o : Option Stub). option_map_or (arrival_at floor) o 0) there in
        omega (arith, same, slack-put stubs floor (key_of (arrival_at floor s) f.number) (drop 1 queue.keys), slack-first stubs floor f queue.keys e, arrival, start_upto unknown, stale)

    pub is_word_current : is_exact s.word ≡ false → f.start ≡ arrival_at floor s → IsWordCurrent stubs floor queue
    is_word_current unknown at k t there_k there_t =
        let same : f ≡ k = same_Some f k (sym e ∙ there_k) in
        let stub : s ≡ t = same_Some s t (sym there ∙ (ap (λ (z : Key). slice_get stubs z.number) same ∙ there_t)) in
        (ap (λ (z : Stub). is_exact z.word) (sym stub) ∙ unknown, ap (λ (z : Key). z.start) (sym same) ∙ (at ∙ ap (arrival_at floor) stub))

-- no key at all
pub no_word_current : (stubs : List Stub) (floor : ℕ) (queue : ReadyKeys) → slice_get queue.keys 0 ≡ None → IsWordCurrent stubs floor queue
no_word_current stubs floor queue e k s there at = absurd (none-some k (sym e ∙ there))

-- one more key by reach, whose arrival the floor says
pub floor_current_put : (stubs : List Stub) (floor : ℕ) (by_floor reached : ReadyKeys) (k : Key) (s : Stub) → IsFloorCurrent stubs floor by_floor
    → reached ≡ record by_floor { keys = put k by_floor.keys } → slice_get stubs k.number ≡ Some s → is_exact s.word ≡ false → is_ahead floor s ≡ false → IsFloorCurrent stubs floor reached
floor_current_put stubs floor by_floor reached k s current is there unknown behind g t first at =
    by_first by_floor.keys refl (ap (λ (q : ReadyKeys). slice_get q.keys 0) (sym is) ∙ first)
  where
    by_k : k ≡ g → (is_exact t.word ≡ false) × (is_ahead floor t ≡ false)
    by_k same =
        let stub : s ≡ t = same_Some s t (sym there ∙ (ap (λ (z : Key). slice_get stubs z.number) same ∙ at)) in
        (ap (λ (z : Stub). is_exact z.word) (sym stub) ∙ unknown, ap (is_ahead floor) (sym stub) ∙ behind)

    by_test : (y : Key) (rest : List Key) → by_floor.keys ≡ y ∷ rest → (b : Bool) → slice_get (cond b (k ∷ y ∷ rest) (y ∷ put k rest)) 0 ≡ Some g → (is_exact t.word ≡ false) × (is_ahead floor t ≡ false)
    by_test y rest keys true h = by_k (same_Some k g h)
    by_test y rest keys false h = current g t (ap (λ (ks : List Key). slice_get ks 0) keys ∙ h) at

    by_first : (keys : List Key) → by_floor.keys ≡ keys → slice_get (put k keys) 0 ≡ Some g → (is_exact t.word ≡ false) × (is_ahead floor t ≡ false)
    by_first [] same h = by_k (same_Some k g h)
    by_first (y ∷ rest) same h = by_test y rest same (is_key_before k y) h
