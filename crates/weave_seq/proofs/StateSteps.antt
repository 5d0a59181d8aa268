-- The queue has the ready events after each step.
use Rattle.std.proofs.Common.{◌≡◌, ◌+◌, ◌≤◌, ◌<◌, ℕ, zero, suc, Bool, true, cond, List, [], ◌∷◌, length, set, get_or, All, Some, sym, ◌∙◌, ap, subst, refl, arith, length-set, false, inl}
use Rattle.std.specs.Prelude.{count_by, slice_get, slice_index}
use Rattle.std.specs.List.Sorted.{IsPermutation}
use Rattle.std.proofs.lemmas.Bool.{ne_eqb}
use Rattle.std.proofs.lemmas.List.Sorted.{IsPermutation-sym}
use Rattle.zs_num.specs.KeyOrder.{is_key_before}
use Rattle.zs_num.specs.declared.time.Key.{Key}
use Rattle.event_graph.specs.declared.fired.Fired.{Fired}
use Rattle.event_graph.proofs.Lists.{In, get_read, get_within}
use Rattle.weave_seq.specs.Order.{Keys}
use Rattle.weave_seq.specs.SoFar.{HasReady, IsFirst, NoneIsReady, ready_keys}
use Rattle.weave_seq.proofs.ReadyKeys.{IsOf, all_in, changed, count-cons, count_every, counted, few_keys, in_same, key_at, of_ready, one_if, ready_in, same_from_permutation}

set_itself : {X : Type 0} (xs : List X) (i : ℕ) (x : X) → slice_get xs i ≡ Some x → set xs i x ≡ xs
set_itself [] i x h = refl
set_itself (y ∷ ys) zero x h = let e : x ≡ y = cc in ap (λ z. z ∷ ys) e
set_itself (y ∷ ys) (suc i) x h = ap (λ zs. y ∷ zs) (set_itself ys i x h)

abbrev no_time : Fired
no_time = record { number = 0; start = 0; finish = 0 }

abbrev key_of : ℕ → ℕ → Key
key_of start number = record { start = start; number = number }

same_parts : (a b n : ℕ) → a ≡ b → key_of a n ≡ key_of b n
same_parts a b n h = ap (λ q. key_of q n) h

inl_refl : (k : Key) (rest : List Key) → In k (k ∷ rest)
inl_refl k rest = inl refl

module _ (times : List Fired) (waits : List ℕ) (queue : Keys) (has : HasReady times waits queue) where
  -- the queue's keys are those of ready events
  module _ (rest : List Key) (k : Key) (popped : IsPermutation queue.list (k ∷ rest)) where
    counts : (p : Key → Bool) → count_by p queue.list ≡ one_if (p k) + count_by p rest
    counts p = same_from_permutation queue.list (k ∷ rest) popped p ∙ count-cons p k rest

    of_popped : IsOf times waits 0 k
    of_popped =
        of_ready 0 times waits k
        (in_same k queue.list (ready_keys 0 times waits) (λ p. sym (has.keys p))
        (in_same k (k ∷ rest) queue.list (same_from_permutation (k ∷ rest) queue.list (IsPermutation-sym queue.list (k ∷ rest) popped)) (inl_refl k rest)))

    number_is : k.number ≡ of_popped.index
    number_is = omega (arith, of_popped.number)

    there : slice_get times k.number ≡ Some of_popped.time
    there = ap (λ n. slice_get times n) number_is ∙ of_popped.there

    none_waited : slice_get waits k.number ≡ Some 0
    none_waited = ap (λ n. slice_get waits n) number_is ∙ of_popped.ready

    pub popped_within : k.number < length waits
    popped_within = get_within waits k.number 0 none_waited

    key_is : key_at k.number of_popped.time ≡ k
    key_is = same_parts of_popped.time.start k.start k.number (sym of_popped.start)

    pub taken : (queue' : Keys) → queue'.list ≡ rest → queue'.room ≡ queue.room → HasReady times (set waits k.number 255) queue'
    taken queue' is room = record {
      sizes = length-set waits k.number 255 ∙ has.sizes;
      keys = λ p.
          let change : count_by p (ready_keys 0 times waits) + counted p 255 (key_at k.number of_popped.time)
          ≡ count_by p (ready_keys 0 (set times k.number of_popped.time) (set waits k.number 255)) + counted p 0 (key_at k.number of_popped.time)
          = changed p times waits k.number of_popped.time of_popped.time 0 255 there none_waited in
          let same : count_by p (ready_keys 0 (set times k.number of_popped.time) (set waits k.number 255)) ≡ count_by p (ready_keys 0 times (set waits k.number 255)) =
          ap (λ ts. count_by p (ready_keys 0 ts (set waits k.number 255))) (set_itself times k.number of_popped.time there)
          in
          let one : counted p 0 (key_at k.number of_popped.time) ≡ one_if (p k) = ap (λ q. one_if (p q)) key_is in
          let none : counted p 255 (key_at k.number of_popped.time) ≡ 0 = refl in
          omega (arith, change, same, one, none, has.keys p, counts p, ap (λ xs. count_by p xs) is);
      room = omega (arith, has.room, room);
    }

    pub first_popped : All (λ other. is_key_before other k ≡ false) queue.list → IsFirst (record { times = times; waits = waits }) k
    first_popped least = record {
      time = of_popped.time;
      there = there;
      start = of_popped.start;
      ready = none_waited;
      first = λ j t at ready.
          all_in (λ other. is_key_before other k ≡ false) queue.list least (key_at j t)
          (in_same (key_at j t) (ready_keys 0 times waits) queue.list has.keys (ready_in times waits j t at ready));
    }

  pub none_popped : queue.list ≡ [] → NoneIsReady (record { times = times; waits = waits })
  none_popped none j ready =
      let l : j < length waits = get_within waits j 0 ready in
      let m : In (key_at j (get_or times j no_time)) queue.list =
      in_same (key_at j (get_or times j no_time)) (ready_keys 0 times waits) queue.list has.keys
      (ready_in times waits j (get_or times j no_time) (get_read times j no_time (omega (arith, l, has.sizes))) ready)
      in
      subst (λ xs. In (key_at j (get_or times j no_time)) xs) none m

  pub kept : (fired : Fired) → fired.number < length times → slice_index waits fired.number ≡ 255 → HasReady (set times fired.number fired) waits queue
  kept fired within is = record {
    sizes = has.sizes ∙ sym (length-set times fired.number fired);
    keys = λ p.
        let waits_is : slice_get waits fired.number ≡ Some 255 = get_read waits fired.number 0 (omega (arith, within, has.sizes)) ∙ ap (λ w. Some w) is in
        let change : count_by p (ready_keys 0 times waits) + counted p 255 (key_at fired.number fired)
        ≡ count_by p (ready_keys 0 (set times fired.number fired) (set waits fired.number 255)) + counted p 255 (key_at fired.number (get_or times fired.number no_time))
        = changed p times waits fired.number (get_or times fired.number no_time) fired 255 255 (get_read times fired.number no_time within) waits_is in
        let same : count_by p (ready_keys 0 (set times fired.number fired) (set waits fired.number 255)) ≡ count_by p (ready_keys 0 (set times fired.number fired) waits) =
        ap (λ ws. count_by p (ready_keys 0 (set times fired.number fired) ws)) (set_itself waits fired.number 255 waits_is)
        in
        let none : counted p 255 (key_at fired.number fired) ≡ 0 = refl in
        let none' : counted p 255 (key_at fired.number (get_or times fired.number no_time)) ≡ 0 = refl in
        omega (arith, change, same, none, none', has.keys p);
    room = omega (arith, has.room, length-set times fired.number fired);
  }

  -- an event waits for one parent less
  module _ (i : ℕ) (t t' : Fired) (w w' : ℕ) (there : slice_get times i ≡ Some t) (waited : slice_get waits i ≡ Some w) (some : w ≡ 0 → ⊥) where
    sizes : length (set waits i w') ≡ length (set times i t')
    sizes = length-set waits i w' ∙ (has.sizes ∙ sym (length-set times i t'))

    nothing_before : (p : Key → Bool) → counted p w (key_at i t) ≡ 0
    nothing_before p = ap (λ b. cond b (one_if (p (key_at i t))) 0) (ne_eqb w 0 some)

    pub still_waits : (w' ≡ 0 → ⊥) → HasReady (set times i t') (set waits i w') queue
    still_waits more = record {
      sizes = sizes;
      keys = λ p.
          let after : counted p w' (key_at i t') ≡ 0 = ap (λ b. cond b (one_if (p (key_at i t'))) 0) (ne_eqb w' 0 more) in
          omega (arith, changed p times waits i t t' w w' there waited, nothing_before p, after, has.keys p);
      room = omega (arith, has.room, length-set times i t');
    }

    pub is_ready_now : w' ≡ 0 → (queue' : Keys) → IsPermutation (key_at i t' ∷ queue.list) queue'.list → queue.room ≤ queue'.room → HasReady (set times i t') (set waits i w') queue'
    is_ready_now none queue' pushed room = record {
      sizes = sizes;
      keys = λ p.
          let after : counted p w' (key_at i t') ≡ one_if (p (key_at i t')) = ap (λ n. counted p n (key_at i t')) none in
          let more : count_by p queue'.list ≡ one_if (p (key_at i t')) + count_by p queue.list =
          sym (same_from_permutation (key_at i t' ∷ queue.list) queue'.list pushed p) ∙ count-cons p (key_at i t') queue.list
          in
          omega (arith, changed p times waits i t t' w w' there waited, nothing_before p, after, more, has.keys p);
      room = omega (arith, has.room, room, length-set times i t');
    }

    pub has_room : length queue.list < queue.room
    has_room =
        let change : count_by (λ x. true) (ready_keys 0 times waits) + counted (λ x. true) 0 (key_at i t) ≡ count_by (λ x. true) (ready_keys 0 (set times i t) (set waits i 0)) + counted (λ x. true) w (key_at i t) =
        changed (λ x. true) times waits i t t w 0 there waited
        in
        let one : counted (λ x. true) 0 (key_at i t) ≡ 1 = refl in
        omega (
          arith,
          change,
          one,
          nothing_before (λ x. true),
          has.keys (λ x. true),
          has.room,
          count_every queue.list,
          count_every (ready_keys 0 (set times i t) (set waits i 0)),
          few_keys 0 (set times i t) (set waits i 0),
          length-set times i t,
        )
