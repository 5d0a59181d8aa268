-- The queue by reach after each step.
use Rattle.std.proofs.Common.{◌≡◌, ◌<◌, ◌≤◌, ℕ, true, false, List, length, drop, ◌⊎◌, Some, None, slice_get, sym, ◌∙◌, ap, subst, refl, inl, inr, arith}
use Rattle.std.proofs.lemmas.Bool.{false≢true}
use Rattle.std.proofs.lemmas.Option.{same_Some, none-some}
use Rattle.std.specs.List.{Contains}
use Rattle.zs_num.specs.declared.time.Key.{Key}
use Rattle.domain_queue.specs.SortedKeys.{IsAscending, ReadyKeys, put}
use Rattle.weave_core.specs.declared.incoming.Stub.{Stub}
use Rattle.weave_core.specs.DomainMachine.{is_exact}
use Rattle.weave_core.specs.Stubs.{IsFloorCurrent, IsKeyed, arrival_at, is_ahead, reach_of}
use Rattle.weave_core.specs.Waits.{key_of}
use Rattle.weave_core.proofs.Keys.{first_in, first_or_rest, has_in, in_has, length-put, length-rest, put_cases, put_new, put_old, rest_apart, rest_in}
use Rattle.weave_core.proofs.Lists.{In, get_below}

module _ (stubs : List Stub) (floor : ℕ) (queue by_word : ReadyKeys) (keyed : IsKeyed stubs floor queue by_word) (f : Key) (a : IsAscending queue.keys) (e : slice_get queue.keys 0 ≡ Some f) where
  pub floor_within : f.number < length stubs
  floor_within = let s = keyed.reaches f (in_has queue.keys f (first_in f queue.keys e)) in get_below stubs f.number s.0 s.1.0

  pub is_new_told : (start : ℕ) → Contains by_word.keys (key_of start f.number) → ⊥
  is_new_told start h = keyed.apart f (key_of start f.number) (in_has queue.keys f (first_in f queue.keys e)) h refl

  pub word_room_left : length by_word.keys < by_word.room
  word_room_left = omega (arith, keyed.word_room, length-rest f queue.keys e)

  old_reach : (k : Key) → Contains (drop 1 queue.keys) k → Contains queue.keys k
  old_reach k h = in_has queue.keys k (rest_in k queue.keys (has_in (drop 1 queue.keys) k h))

  -- two keys of one stub are one
  reach_once : (k : Key) → Contains queue.keys k → k.number ≡ f.number → k ≡ f
  reach_once k h same =
      let s = keyed.reaches k h in
      let t = keyed.reaches f (in_has queue.keys f (first_in f queue.keys e)) in
      let stub : s.0 ≡ t.0 = same_Some s.0 t.0 (sym s.1.0 ∙ (ap (slice_get stubs) same ∙ t.1.0)) in
      ap (λ n. key_of n k.number) (s.1.1 ∙ (ap reach_of stub ∙ sym t.1.1)) ∙ ap (key_of f.start) same

  not_in_rest : (k : Key) → In k (drop 1 queue.keys) → k.number ≡ f.number → ⊥
  not_in_rest k h same = rest_apart f k queue.keys a e h (sym (reach_once k (in_has queue.keys k (rest_in k queue.keys h)) same))

  rest_covers : (s : Stub) → slice_get stubs f.number ≡ Some s → (place : ℕ) (t : Stub) → slice_get stubs place ≡ Some t → is_exact t.word ≡ false
      → ((f.number ≡ place) × (s ≡ t)) ⊎ (Contains (drop 1 queue.keys) (key_of (reach_of t) place)
      ⊎ ((start : ℕ) × ((start ≤ arrival_at floor t) × Contains by_word.keys (key_of start place))))
  rest_covers s there place t at unknown =
      elim (keyed.covers place t at unknown) [
        | inl h ↦
            elim (first_or_rest f (key_of (reach_of t) place) queue.keys e (has_in queue.keys (key_of (reach_of t) place) h)) [
              | inl same ↦
                  let number : f.number ≡ place = ap (λ (z : Key). z.number) same in
                  inl (number, same_Some s t (sym there ∙ (ap (slice_get stubs) number ∙ at)))
              | inr m ↦ inr (inl (in_has (drop 1 queue.keys) (key_of (reach_of t) place) m))
            ]
        | inr k ↦ inr (inr k)
      ]

  module _ (s : Stub) (there : slice_get stubs f.number ≡ Some s) where
    -- the finish of the first is known
    pub floor_dropped : (left : ReadyKeys) → left ≡ record queue { keys = drop 1 queue.keys } → is_exact s.word ≡ true → IsKeyed stubs floor left by_word
    floor_dropped left is closed =
        subst (λ (q : ReadyKeys). IsKeyed stubs floor q by_word) (sym is)
        (record {
          covers = λ place t at unknown.
              elim (rest_covers s there place t at unknown) [
                | inl same ↦ absurd (false≢true (sym unknown ∙ (ap (λ (z : Stub). is_exact z.word) (sym same.1) ∙ closed)))
                | inr kept ↦ kept
              ];
          reaches = λ k h. keyed.reaches k (old_reach k h);
          within = keyed.within;
          once = keyed.once;
          apart = λ k o h i same. keyed.apart k o (old_reach k h) i same;
          floor_room = omega (arith, keyed.floor_room, length-rest f queue.keys e);
          word_room = omega (arith, keyed.word_room, length-rest f queue.keys e);
        })

    -- its word says its arrival, and it is put in at that
    pub floor_to_word : (left longer : ReadyKeys) → left ≡ record queue { keys = drop 1 queue.keys } → longer ≡ record by_word { keys = put (key_of (arrival_at floor s) f.number) by_word.keys }
        → IsKeyed stubs floor left longer
    floor_to_word left longer is more =
        subst (λ (q : ReadyKeys). IsKeyed stubs floor q longer) (sym is)
        (subst (λ (q : ReadyKeys). IsKeyed stubs floor (record queue { keys = drop 1 queue.keys }) q) (sym more)
        (record {
          covers = λ place t at unknown.
              elim (rest_covers s there place t at unknown) [
                | inl same ↦
                    inr (
                      arrival_at floor s,
                      (
                        omega (arith, ap (arrival_at floor) same.1),
                        in_has (put new by_word.keys) (key_of (arrival_at floor s) place)
                            (subst (λ (n : ℕ). In (key_of (arrival_at floor s) n) (put new by_word.keys)) same.0 (put_new new by_word.keys)),
                      ),
                    )
                | inr kept ↦
                    elim kept [
                      | inl h ↦ inl h
                      | inr k ↦ inr (k.0, (k.1.0, in_has (put new by_word.keys) (key_of k.0 place) (put_old new (key_of k.0 place) by_word.keys (has_in by_word.keys (key_of k.0 place) k.1.1))))
                    ]
              ];
          reaches = λ k h. keyed.reaches k (old_reach k h);
          within = λ k h.
              elim (put_cases new k by_word.keys (has_in (put new by_word.keys) k h)) [
                | inl same ↦ subst (λ (z : Key). z.number < length stubs) same floor_within
                | inr m ↦ keyed.within k (in_has by_word.keys k m)
              ];
          once = λ k o h i same.
              elim (put_cases new k by_word.keys (has_in (put new by_word.keys) k h)) [
                | inl b ↦
                    elim (put_cases new o by_word.keys (has_in (put new by_word.keys) o i)) [
                      | inl c ↦ sym b ∙ c
                      | inr c ↦ absurd (is_new_told o.start (subst (λ (z : Key). Contains by_word.keys z) (ap (key_of o.start) (sym same ∙ sym (ap (λ (z : Key). z.number) b))) (in_has by_word.keys o c)))
                    ]
                | inr b ↦
                    elim (put_cases new o by_word.keys (has_in (put new by_word.keys) o i)) [
                      | inl c ↦ absurd (is_new_told k.start (subst (λ (z : Key). Contains by_word.keys z) (ap (key_of k.start) (same ∙ sym (ap (λ (z : Key). z.number) c))) (in_has by_word.keys k b)))
                      | inr c ↦ keyed.once k o (in_has by_word.keys k b) (in_has by_word.keys o c) same
                    ]
              ];
          apart = λ k o h i same.
              elim (put_cases new o by_word.keys (has_in (put new by_word.keys) o i)) [
                | inl c ↦ not_in_rest k (has_in (drop 1 queue.keys) k h) (same ∙ sym (ap (λ (z : Key). z.number) c))
                | inr c ↦ keyed.apart k o (old_reach k h) (in_has by_word.keys o c) same
              ];
          floor_room = omega (arith, keyed.floor_room, length-rest f queue.keys e, length-put new by_word.keys);
          word_room = omega (arith, keyed.word_room, length-rest f queue.keys e, length-put new by_word.keys);
        }))
      where
        new : Key
        new = key_of (arrival_at floor s) f.number

    pub fewer : (left : ReadyKeys) → left ≡ record queue { keys = drop 1 queue.keys } → length left.keys < length queue.keys
    fewer left is = omega (arith, ap (λ (q : ReadyKeys). length q.keys) is, length-rest f queue.keys e)

    pub is_floor_current : is_exact s.word ≡ false → is_ahead floor s ≡ false → IsFloorCurrent stubs floor queue
    is_floor_current unknown behind k t there_k there_t =
        let same : f ≡ k = same_Some f k (sym e ∙ there_k) in
        let stub : s ≡ t = same_Some s t (sym there ∙ (ap (λ (z : Key). slice_get stubs z.number) same ∙ there_t)) in
        (ap (λ (z : Stub). is_exact z.word) (sym stub) ∙ unknown, ap (is_ahead floor) (sym stub) ∙ behind)

-- no key at all
pub no_floor_current : (stubs : List Stub) (floor : ℕ) (queue : ReadyKeys) → slice_get queue.keys 0 ≡ None → IsFloorCurrent stubs floor queue
no_floor_current stubs floor queue e k s there at = absurd (none-some k (sym e ∙ there))
