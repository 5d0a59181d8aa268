-- The queue has the places that wait for no parent after each step.
use Rattle.std.proofs.Common.{◌≡◌, ◌+◌, ◌-◌, ◌<◌, ◌≤◌, ℕ, zero, suc, List, [], ◌∷◌, length, set, drop, Some, None, slice_get, sym, ◌∙◌, ap, subst, refl, inl, inr, arith, length-set}
use Rattle.std.proofs.lemmas.Bool.{cases_eq}
use Rattle.std.proofs.lemmas.Bool.Decides.{nat_tests}
use Rattle.std.proofs.lemmas.Option.{same_Some, none-some}
use Rattle.std.specs.List.{Contains}
use Rattle.zs_num.specs.declared.time.Key.{Key}
use Rattle.domain_queue.specs.SortedKeys.{IsAscending, ReadyKeys, put}
use Rattle.weave_core.specs.Waits.{HasReadyPlaces, IsFirstReady, NoneReady, key_of, one_waiting, waiting_in}
use Rattle.weave_core.proofs.Keys.{first_in, first_least, first_or_rest, has_in, in_has, length-put, length-rest, put_cases, put_new, put_old, rest_apart, rest_in}
use Rattle.weave_core.proofs.Lists.{In, get_below, get_there}
use Rattle.weave_core.proofs.Updates.{get_set_other, get_set_same}

drop_at : (xs : List ℕ) (i x : ℕ) → slice_get xs i ≡ Some x → drop i xs ≡ x ∷ drop (suc i) xs
drop_at [] i x h = absurd (none-some x h)
drop_at (y ∷ xs) zero x h = ap (λ z. z ∷ xs) (same_Some y x h)
drop_at (y ∷ xs) (suc i) x h = drop_at xs i x h

drop_past : (xs : List ℕ) (i : ℕ) → length xs ≤ i → drop i xs ≡ []
drop_past [] zero l = refl
drop_past [] (suc i) l = refl
drop_past (y ∷ xs) zero l = absurd (omega arith)
drop_past (y ∷ xs) (suc i) l = drop_past xs i (omega arith)

-- how many wait after one of them changes
waiting_set : (waits : List ℕ) (place was now : ℕ) → slice_get waits place ≡ Some was
    → waiting_in (set waits place now) + one_waiting was ≡ waiting_in waits + one_waiting now
waiting_set [] place was now h = absurd (none-some was h)
waiting_set (w ∷ waits) zero was now h =
    let same : one_waiting w ≡ one_waiting was = ap (λ (n : ℕ). one_waiting n) (same_Some w was h) in
    omega (arith, same)
waiting_set (w ∷ waits) (suc place) was now h = omega (arith, waiting_set waits place was now h)

none_waits : one_waiting 0 ≡ 0
none_waits = refl

fired_waits : one_waiting 4294967295 ≡ 0
fired_waits = refl

some_waits : (w : ℕ) → 0 < w → w < 4294967295 → one_waiting w ≡ 1
some_waits w a b = grind (arith, nat_tests)

at_most_one : (w : ℕ) → one_waiting w ≤ 1
at_most_one w = grind (arith, nat_tests)

same_key : (a b n : ℕ) → a ≡ b → key_of a n ≡ key_of b n
same_key a b n h = ap (λ m. key_of m n) h

pub no_key : (k : Key) (keys : List Key) → slice_get keys 0 ≡ None → In k keys → ⊥
no_key k [] e h = h
no_key k (y ∷ keys) e h = none-some y (sym e)

module _ (starts waits : List ℕ) (queue : ReadyKeys) (has : HasReadyPlaces starts waits queue) where
  at_key : (k : Key) → In k queue.keys → (slice_get waits k.number ≡ Some 0) × (slice_get starts k.number ≡ Some k.start)
  at_key k h = has.each k (in_has queue.keys k h)

  key_at : (place start : ℕ) → slice_get waits place ≡ Some 0 → slice_get starts place ≡ Some start → In (key_of start place) queue.keys
  key_at place start w s = has_in queue.keys (key_of start place) (has.covers place start w s)

  pub first_ready : (k : Key) → IsAscending queue.keys → slice_get queue.keys 0 ≡ Some k → IsFirstReady (record { starts = starts; waits = waits }) k
  first_ready k a e =
      let r : (slice_get waits k.number ≡ Some 0) × (slice_get starts k.number ≡ Some k.start) = at_key k (first_in k queue.keys e) in
      record {
        ready = r.0;
        start = r.1;
        least = λ place start w s. first_least k (key_of start place) queue.keys a e (key_at place start w s);
      }

  pub none_ready : slice_get queue.keys 0 ≡ None → NoneReady (record { starts = starts; waits = waits })
  none_ready e place w =
      let below : place < length starts = omega (arith, has.sizes, get_below waits place 0 w) in
      let s : (start : ℕ) × (slice_get starts place ≡ Some start) = get_there starts place below in
      no_key (key_of s.0 place) queue.keys e (key_at place s.0 w s.1)

  -- the first has fired
  pub popped : (k : Key) (left : ReadyKeys) → IsAscending queue.keys → slice_get queue.keys 0 ≡ Some k → left ≡ record queue { keys = drop 1 queue.keys }
      → HasReadyPlaces starts (set waits k.number 4294967295) left
  popped k left a e is =
      let r : (slice_get waits k.number ≡ Some 0) × (slice_get starts k.number ≡ Some k.start) = at_key k (first_in k queue.keys e) in
      subst (λ (q : ReadyKeys). HasReadyPlaces starts (set waits k.number 4294967295) q) (sym is)
      (record {
        sizes = has.sizes ∙ sym (length-set waits k.number 4294967295);
        each = λ x h.
            let m : In x (drop 1 queue.keys) = has_in (drop 1 queue.keys) x h in
            let was : (slice_get waits x.number ≡ Some 0) × (slice_get starts x.number ≡ Some x.start) = at_key x (rest_in x queue.keys m) in
            elim (cases_eq x.number k.number) [
              | inl same ↦
                  let starts_same : k.start ≡ x.start = same_Some k.start x.start (sym r.1 ∙ (ap (slice_get starts) (sym same) ∙ was.1)) in
                  let keys_same : k ≡ x = ap (λ n. key_of n k.number) starts_same ∙ ap (λ n. key_of x.start n) (sym same) in
                  absurd (rest_apart k x queue.keys a e m keys_same)
              | inr apart ↦ (get_set_other waits k.number x.number 4294967295 apart ∙ was.0, was.1)
            ];
        covers = λ place start w s.
            elim (cases_eq place k.number) [
              | inl same ↦
                  let fired : slice_get (set waits k.number 4294967295) place ≡ Some 4294967295 =
                  ap (slice_get (set waits k.number 4294967295)) same ∙ get_set_same waits k.number 4294967295 0 r.0
                  in
                  absurd (omega (arith, same_Some 4294967295 0 (sym fired ∙ w)))
              | inr apart ↦
                  let was : In (key_of start place) queue.keys = key_at place start (sym (get_set_other waits k.number place 4294967295 apart) ∙ w) s in
                  elim (first_or_rest k (key_of start place) queue.keys e was) [
                    | inl same ↦ absurd (apart (sym (ap (λ (z : Key). z.number) same)))
                    | inr m ↦ in_has (drop 1 queue.keys) (key_of start place) m
                  ]
            ];
        room =
            let n : length queue.keys ≡ length (drop 1 queue.keys) + 1 = length-rest k queue.keys e in
            let w : waiting_in (set waits k.number 4294967295) + one_waiting 0 ≡ waiting_in waits + one_waiting 4294967295 =
            waiting_set waits k.number 0 4294967295 r.0
            in
            omega (arith, n, w, none_waits, fired_waits, has.room);
      })

  -- one of those that wait is told
  module _ (place was start : ℕ) (there : slice_get waits place ≡ Some was) (some : 0 < was) (unfired : was < 4294967295) where
    not_here : (x : Key) → In x queue.keys → x.number ≡ place → ⊥
    not_here x h same =
        let none : was ≡ 0 = same_Some was 0 (sym there ∙ (ap (slice_get waits) (sym same) ∙ (at_key x h).0)) in
        absurd (omega (arith, none, some))

    start_there : (s : ℕ) × (slice_get starts place ≡ Some s)
    start_there = get_there starts place (omega (arith, has.sizes, get_below waits place was there))

    pub has_room : length queue.keys < queue.room
    has_room =
        let w : waiting_in (set waits place 0) + one_waiting was ≡ waiting_in waits + one_waiting 0 = waiting_set waits place was 0 there in
        omega (arith, w, none_waits, some_waits was some unfired, has.room)

    pub is_new : Contains queue.keys (key_of start place) → ⊥
    is_new h = not_here (key_of start place) (has_in queue.keys (key_of start place) h) refl

    each_stays : (now : ℕ) (x : Key) → In x queue.keys → (slice_get (set waits place now) x.number ≡ Some 0) × (slice_get (set starts place start) x.number ≡ Some x.start)
    each_stays now x h =
        let r : (slice_get waits x.number ≡ Some 0) × (slice_get starts x.number ≡ Some x.start) = at_key x h in
        (get_set_other waits place x.number now (not_here x h) ∙ r.0, get_set_other starts place x.number start (not_here x h) ∙ r.1)

    other_stays : (now other s : ℕ) → (other ≡ place → ⊥) → slice_get (set waits place now) other ≡ Some 0 → slice_get (set starts place start) other ≡ Some s → In (key_of s other) queue.keys
    other_stays now other s apart w t =
        key_at other s (sym (get_set_other waits place other now apart) ∙ w) (sym (get_set_other starts place other start apart) ∙ t)

    -- it still waits
    pub still_waits : 0 < was - 1 → HasReadyPlaces (set starts place start) (set waits place (was - 1)) queue
    still_waits more = record {
      sizes = length-set starts place start ∙ (has.sizes ∙ sym (length-set waits place (was - 1)));
      each = λ x h. each_stays (was - 1) x (has_in queue.keys x h);
      covers = λ other s w t.
          elim (cases_eq other place) [
            | inl same ↦
                let here : slice_get (set waits place (was - 1)) other ≡ Some (was - 1) =
                ap (slice_get (set waits place (was - 1))) same ∙ get_set_same waits place (was - 1) was there
                in
                absurd (omega (arith, same_Some (was - 1) 0 (sym here ∙ w), more))
            | inr apart ↦ in_has queue.keys (key_of s other) (other_stays (was - 1) other s apart w t)
          ];
      room =
          let w : waiting_in (set waits place (was - 1)) + one_waiting was ≡ waiting_in waits + one_waiting (was - 1) = waiting_set waits place was (was - 1) there in
          omega (arith, w, some_waits was some unfired, at_most_one (was - 1), has.room);
    }

    -- or it is ready
    pub is_ready_now : (longer : ReadyKeys) → longer ≡ record queue { keys = put (key_of start place) queue.keys } → was - 1 ≡ 0
        → HasReadyPlaces (set starts place start) (set waits place (was - 1)) longer
    is_ready_now longer is none =
        subst (λ (q : ReadyKeys). HasReadyPlaces (set starts place start) (set waits place (was - 1)) q) (sym is)
        (record {
          sizes = length-set starts place start ∙ (has.sizes ∙ sym (length-set waits place (was - 1)));
          each = λ x h.
              elim (put_cases (key_of start place) x queue.keys (has_in (put (key_of start place) queue.keys) x h)) [
                | inl same ↦
                    subst (λ (z : Key). (slice_get (set waits place (was - 1)) z.number ≡ Some 0) × (slice_get (set starts place start) z.number ≡ Some z.start)) same
                    (get_set_same waits place (was - 1) was there ∙ ap (λ n. Some n) none, get_set_same starts place start start_there.0 start_there.1)
                | inr m ↦ each_stays (was - 1) x m
              ];
          covers = λ other s w t.
              elim (cases_eq other place) [
                | inl same ↦
                    let s_is : start ≡ s = same_Some start s (sym (get_set_same starts place start start_there.0 start_there.1) ∙ (ap (slice_get (set starts place start)) (sym same) ∙ t)) in
                    in_has (put (key_of start place) queue.keys) (key_of s other)
                    (subst (λ (z : Key). In z (put (key_of start place) queue.keys)) (ap (λ n. key_of n place) s_is ∙ ap (λ n. key_of s n) (sym same)) (put_new (key_of start place) queue.keys))
                | inr apart ↦
                    in_has (put (key_of start place) queue.keys) (key_of s other)
                    (put_old (key_of start place) (key_of s other) queue.keys (other_stays (was - 1) other s apart w t))
              ];
          room =
              let w : waiting_in (set waits place (was - 1)) + one_waiting was ≡ waiting_in waits + one_waiting (was - 1) = waiting_set waits place was (was - 1) there in
              let z : one_waiting (was - 1) ≡ 0 = ap (λ (n : ℕ). one_waiting n) none in
              omega (arith, w, z, some_waits was some unfired, length-put (key_of start place) queue.keys, has.room);
        })

-- The queue while it is filled.
pub record IsFilled (starts waits : List ℕ) (keys : List Key) (place : ℕ) : Type 0 where
  pub few : length keys ≤ place
  pub room : length keys + waiting_in waits ≤ place + waiting_in (drop place waits)
  pub each : (k : Key) → Contains keys k → (k.number < place) × ((slice_get waits k.number ≡ Some 0) × (slice_get starts k.number ≡ Some k.start))
  pub covers : (other start : ℕ) → other < place → slice_get waits other ≡ Some 0 → slice_get starts other ≡ Some start → Contains keys (key_of start other)

module _ (starts waits : List ℕ) where
  pub filled_none : IsFilled starts waits [] 0
  filled_none = record {
    few = omega arith;
    room = omega arith;
    each = λ k h. absurd (has_in [] k h);
    covers = λ other start below. absurd (omega arith);
  }

  module _ (keys : List Key) (place : ℕ) (so_far : IsFilled starts waits keys place) where
    pub is_later : (start : ℕ) → Contains keys (key_of start place) → ⊥
    is_later start h = let below : place < place = (so_far.each (key_of start place) h).0 in omega arith

    rest_waits : (w : ℕ) → slice_get waits place ≡ Some w → waiting_in (drop place waits) ≡ one_waiting w + waiting_in (drop (place + 1) waits)
    rest_waits w h =
        let more : suc place ≡ place + 1 = omega arith in
        ap waiting_in (drop_at waits place w h) ∙ ap (λ n. one_waiting w + waiting_in (drop n waits)) more

    pub filled_push : (start : ℕ) → slice_get waits place ≡ Some 0 → slice_get starts place ≡ Some start → IsFilled starts waits (put (key_of start place) keys) (place + 1)
    filled_push start w s = record {
      few = omega (arith, length-put (key_of start place) keys, so_far.few);
      room = omega (arith, length-put (key_of start place) keys, so_far.room, rest_waits 0 w, none_waits);
      each = λ k h.
          elim (put_cases (key_of start place) k keys (has_in (put (key_of start place) keys) k h)) [
            | inl same ↦
                subst (λ (z : Key). (z.number < place + 1) × ((slice_get waits z.number ≡ Some 0) × (slice_get starts z.number ≡ Some z.start))) same
                (omega arith, (w, s))
            | inr m ↦ let r = so_far.each k (in_has keys k m) in (omega (arith, r.0), r.1)
          ];
      covers = λ other t below ow os.
          elim (cases_eq other place) [
            | inl same ↦
                let t_is : start ≡ t = same_Some start t (sym s ∙ (ap (slice_get starts) (sym same) ∙ os)) in
                in_has (put (key_of start place) keys) (key_of t other)
                (subst (λ (z : Key). In z (put (key_of start place) keys)) (ap (λ n. key_of n place) t_is ∙ ap (λ n. key_of t n) (sym same)) (put_new (key_of start place) keys))
            | inr apart ↦
                in_has (put (key_of start place) keys) (key_of t other)
                (put_old (key_of start place) (key_of t other) keys (has_in keys (key_of t other) (so_far.covers other t (omega arith) ow os)))
          ];
    }

    pub filled_skip : (w : ℕ) → slice_get waits place ≡ Some w → (w ≡ 0 → ⊥) → IsFilled starts waits keys (place + 1)
    filled_skip w there some = record {
      few = omega (arith, so_far.few);
      room = omega (arith, so_far.room, rest_waits w there, at_most_one w);
      each = λ k h. let r = so_far.each k h in (omega (arith, r.0), r.1);
      covers = λ other t below ow os.
          elim (cases_eq other place) [
            | inl same ↦ absurd (some (same_Some w 0 (sym there ∙ (ap (slice_get waits) (sym same) ∙ ow))))
            | inr apart ↦ so_far.covers other t (omega arith) ow os
          ];
    }

    pub filled_all : (queue : ReadyKeys) → queue.keys ≡ keys → queue.room ≡ length waits → length starts ≡ length waits → place ≡ length waits → HasReadyPlaces starts waits queue
    filled_all queue is room sizes end = record {
      sizes = sizes;
      each = λ k h. (so_far.each k (subst (λ (ks : List Key). Contains ks k) is h)).1;
      covers = λ other start w s.
          subst (λ (ks : List Key). Contains ks (key_of start other)) (sym is) (so_far.covers other start (omega (arith, end, get_below waits other 0 w)) w s);
      room = omega (arith, so_far.room, ap length is, room, end, ap waiting_in (drop_past waits place (omega (arith, end))));
    }
