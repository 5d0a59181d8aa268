-- The queue's keys where one is put in, and the key of each core's first event.
use Rattle.std.proofs.Common.{◌≡◌, ◌<◌, ◌≤◌, ◌+◌, ◌==◌, ℕ, zero, suc, true, cond, List, All, [], ◌∷◌, length, get_or, inl, inr, ◌⊎◌, Option, Some, None, sym, ◌∙◌, ap, subst, refl, arith}
use Rattle.std.specs.Prelude.{count_by, slice_get, slice_index_or}
use Rattle.std.specs.List.{Contains}
use Rattle.std.specs.List.Sorted.{IsPermutation}
use Rattle.std.proofs.lemmas.Bool.{cases_eq, cond-true, cond-false, eq-eqb, eqb-true, ne_eqb}
use Rattle.std.proofs.lemmas.List.Sorted.{Contains-permutation, IsPermutation-sym}
use Rattle.zs_num.specs.declared.time.Key.{Key}
use Rattle.event_graph.specs.declared.event.Event.{Event}
use Rattle.event_graph.specs.Numbered.{IsNumbered}
use Rattle.event_graph.specs.OneListWeave.{finish_in, is_fired, start_of}
use Rattle.event_graph.proofs.Lists.{In, at_in, contains_in, in_contains, read_is}
use Rattle.weave_seq.specs.ByCore.{AreFirstFrom, AreFirstKeys, HaveFiredBelow, IsFirstFrom, IsFirstKey, IsOfCore}
use Rattle.weave_seq.proofs.Firing.{by_all}
use Rattle.weave_seq.proofs.ReadyKeys.{count-cons, count_from_in, in_from_count, same_from_permutation}

abbrev pub key_of : ℕ → ℕ → Key
key_of start number = record { start = start; number = number }

-- no number is there twice
abbrev pub AreOnce : List Key → Type 0
AreOnce keys = (number : ℕ) → count_by (λ key. key.number == number) keys ≤ 1

module _ (keys keys' : List Key) (key : Key) (pushed : IsPermutation (key ∷ keys) keys') where
  pub pushed_cases : (k : Key) → Contains keys' k → (key ≡ k) ⊎ Contains keys k
  pushed_cases k m =
      let c : In k (key ∷ keys) = in_contains k (key ∷ keys) (Contains-permutation keys' (key ∷ keys) k (IsPermutation-sym (key ∷ keys) keys' pushed) m) in
      elim c [ inl same ↦ inl same | inr rest ↦ inr (contains_in k keys rest) ]

  pub pushed_old : (k : Key) → Contains keys k → Contains keys' k
  pushed_old k m = Contains-permutation (key ∷ keys) keys' k pushed (contains_in k (key ∷ keys) (inr (in_contains k keys m)))

  pub pushed_new : Contains keys' key
  pushed_new = Contains-permutation (key ∷ keys) keys' key pushed (contains_in key (key ∷ keys) (inl refl))

  counts : (number : ℕ) → count_by (λ k. k.number == number) keys' ≡ cond (key.number == number) 1 0 + count_by (λ k. k.number == number) keys
  counts number = sym (same_from_permutation (key ∷ keys) keys' pushed (λ k. k.number == number)) ∙ count-cons (λ k. k.number == number) key keys

  none_counts : ((k : Key) → Contains keys k → k.number ≡ key.number → ⊥) → count_by (λ k. k.number == key.number) keys ≤ 0
  none_counts new =
      elim (count_by (λ k. k.number == key.number) keys) as (λ n. count_by (λ k. k.number == key.number) keys ≡ n → n ≤ 0) [
        | zero ↦ λ is. omega arith
        | suc n ↦ λ is.
            let r : (x : Key) × (In x keys × ((x.number == key.number) ≡ true)) = in_from_count (λ k. k.number == key.number) keys (omega (arith, is)) in
            absurd (new r.0 (contains_in r.0 keys r.1.0) (eqb-true r.0.number key.number r.1.1))
      ] refl

  pub pushed_once : AreOnce keys → ((k : Key) → Contains keys k → k.number ≡ key.number → ⊥) → AreOnce keys'
  pushed_once once new number =
      elim (cases_eq key.number number) [
        | inl same ↦
            let none : count_by (λ k. k.number == number) keys ≤ 0 = subst (λ n. count_by (λ (k : Key). k.number == n) keys ≤ 0) same (none_counts new) in
            omega (arith, counts number, cond-true {A = ℕ} (key.number == number) 1 0 (eq-eqb key.number number same), none)
        | inr ne ↦ omega (arith, counts number, cond-false {A = ℕ} (key.number == number) 1 0 (ne_eqb key.number number ne), once number)
      ]

module _ (keys rest : List Key) (key : Key) (popped : IsPermutation keys (key ∷ rest)) where
  pub popped_in : Contains keys key
  popped_in = Contains-permutation (key ∷ rest) keys key (IsPermutation-sym keys (key ∷ rest) popped) (contains_in key (key ∷ rest) (inl refl))

  pub rest_in : (k : Key) → Contains rest k → Contains keys k
  rest_in k m = Contains-permutation (key ∷ rest) keys k (IsPermutation-sym keys (key ∷ rest) popped) (contains_in k (key ∷ rest) (inr (in_contains k rest m)))

  pub still_in : (k : Key) → Contains keys k → (k.number ≡ key.number → ⊥) → Contains rest k
  still_in k m ne =
      let c : In k (key ∷ rest) = in_contains k (key ∷ rest) (Contains-permutation keys (key ∷ rest) k popped m) in
      elim c [ inl same ↦ absurd (ne (ap (λ (z : Key). z.number) (sym same))) | inr m' ↦ contains_in k rest m' ]

  counts_down : (number : ℕ) → count_by (λ k. k.number == number) keys ≡ cond (key.number == number) 1 0 + count_by (λ k. k.number == number) rest
  counts_down number = same_from_permutation keys (key ∷ rest) popped (λ k. k.number == number) ∙ count-cons (λ k. k.number == number) key rest

  pub rest_once : AreOnce keys → AreOnce rest
  rest_once once number = omega (arith, counts_down number, once number)

  pub rest_other : AreOnce keys → (k : Key) → Contains rest k → k.number ≡ key.number → ⊥
  rest_other once k m same =
      omega (
        arith,
        counts_down key.number,
        once key.number,
        cond-true {A = ℕ} (key.number == key.number) 1 0 (eq-eqb key.number key.number refl),
        count_from_in (λ k. k.number == key.number) k rest (in_contains k rest m) (eq-eqb k.number key.number same),
      )

-- the keys of the first events of the cores below `cores`, where none has fired
pub record AreKeysBelow (events : List Event) (cores : ℕ) (keys : List Key) : Type 0 where
  pub each : (key : Key) → Contains keys key → IsFirstKey events [] key
  pub below : (key : Key) (e : Event) → Contains keys key → slice_get events key.number ≡ Some e → e.core < cores
  pub all : (number : ℕ) (e : Event) → slice_get events number ≡ Some e → e.core < cores → HaveFiredBelow events [] number e.core → Contains keys (key_of (start_of (finish_in []) e) number)
  pub once : AreOnce keys

pub of_all_cores : (events : List Event) (cores : ℕ) (keys : List Key) → All (λ e. e.core < cores) events → AreKeysBelow events cores keys → AreFirstKeys events [] keys
of_all_cores events cores keys within h = record {
  each = h.each;
  all = λ number e at f b. h.all number e at (by_all (λ (e : Event). e.core < cores) events within e (at_in e events number at)) b;
  once = h.once;
}

module _ (events : List Event) (numbered : IsNumbered events) where
  -- with no core there is no key
  pub no_keys : (keys : List Key) → keys ≡ [] → AreKeysBelow events 0 keys
  no_keys keys is =
      let none : (k : Key) → Contains keys k → ⊥ = λ k m. (let z : In k [] = in_contains k [] (subst (λ xs. Contains xs k) is m) in z) in
      record {
        each = λ k m. absurd (none k m);
        below = λ k e m at. absurd (none k m);
        all = λ number e at l. absurd (omega (arith, l));
        once = λ number. omega (arith, ap (λ xs. count_by (λ (key : Key). key.number == number) xs) is);
      }

  module _ (firsts : List (Option ℕ)) (first : AreFirstFrom events 0 firsts) (core : ℕ) (within : core < length firsts) (keys : List Key) (has : AreKeysBelow events core keys) where
    pub none_more : slice_index_or firsts core None ≡ None → AreKeysBelow events (core + 1) keys
    none_more is =
        let none : IsFirstFrom events 0 core None = subst (λ o. IsFirstFrom events 0 core o) is (first core within) in
        record {
          each = has.each;
          below = λ k e m at. omega (arith, has.below k e m at);
          all = λ number e at l b.
              elim (cases_eq e.core core) [
                | inl same ↦ absurd (omega (arith, none number (record { event = e; there = at; of = same })))
                | inr ne ↦ has.all number e at (omega (arith, l, ne)) b
              ];
          once = has.once;
        }

    pub some_more : (n : ℕ) → slice_index_or firsts core None ≡ Some n → (d : Event) (start : ℕ) → start ≡ start_of (finish_in []) (get_or events n d) → (keys' : List Key) → IsPermutation (key_of start n ∷ keys) keys'
        → AreKeysBelow events (core + 1) keys'
    some_more n is d start start_is keys' pushed =
        let some : IsFirstFrom events 0 core (Some n) = subst (λ o. IsFirstFrom events 0 core o) is (first core within) in
        let of : IsOfCore events n core = some.1.0 in
        let event_is : get_or events n d ≡ of.event = read_is events n d of.event of.there in
        let here : IsFirstKey events [] (key_of start n) = record {
          event = of.event;
          there = of.there;
          start = start_is ∙ ap (λ e. start_of (finish_in []) e) event_is;
          unfired = refl;
          below = λ k of' l. absurd (omega (arith, l, some.1.1 k (record { event = of'.event; there = of'.there; of = of'.of ∙ of.of }) (omega arith)));
        } in
        let same_core : (e : Event) → slice_get events n ≡ Some e → e.core ≡ core = λ e at. (let e_is : of.event ≡ e = (let b : slice_get events n ≡ Some of.event = of.there in cc) in ap (λ (z : Event). z.core) (sym e_is) ∙ of.of) in
        record {
          each = λ k m. elim (pushed_cases keys keys' (key_of start n) pushed k m) [ inl same ↦ subst (λ z. IsFirstKey events [] z) same here | inr old ↦ has.each k old ];
          below = λ k e m at.
              elim (pushed_cases keys keys' (key_of start n) pushed k m) [
                | inl same ↦ omega (arith, same_core e (subst (λ (z : Key). slice_get events z.number ≡ Some e) (sym same) at))
                | inr old ↦ omega (arith, has.below k e old at)
              ];
          all = λ number e at l b.
              elim (cases_eq e.core core) [
                | inl same ↦
                    let up : n ≤ number = some.1.1 number (record { event = e; there = at; of = same }) (omega arith) in
                    elim (cases_eq number n) [
                      | inl it ↦
                          let e_is : get_or events n d ≡ e = read_is events n d e (subst (λ z. slice_get events z ≡ Some e) it at) in
                          let key_is : key_of start n ≡ key_of (start_of (finish_in []) e) number = ap (λ z. key_of z n) (start_is ∙ ap (λ z. start_of (finish_in []) z) e_is) ∙ ap (λ z. key_of (start_of (finish_in []) e) z) (sym it) in
                          subst (λ z. Contains keys' z) key_is (pushed_new keys keys' (key_of start n) pushed)
                      | inr ne ↦ absurd (let t : is_fired [] n ≡ true = b n (record { event = of.event; there = of.there; of = of.of ∙ sym same }) (omega (arith, up, ne)) in cc)
                    ]
                | inr ne ↦ pushed_old keys keys' (key_of start n) pushed _ (has.all number e at (omega (arith, l, ne)) b)
              ];
          once = pushed_once keys keys' (key_of start n) pushed has.once
              (λ k m same. let e : IsFirstKey events [] k = has.each k m in omega (arith, has.below k e.event m e.there, same_core e.event (subst (λ z. slice_get events z ≡ Some e.event) same e.there)));
        }
