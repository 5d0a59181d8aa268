-- One event more before the first fires.
use Rattle.std.proofs.Common.{◌≡◌, ◌+◌, ◌<◌, ◌≤◌, ◌==◌, ℕ, suc, Bool, true, false, cond, List, [], ◌∷◌, ◌++◌, map, length, take, get_or, Option, Some, None, sym, ◌∙◌, ap, refl, arith}
use Rattle.std.specs.Prelude.{IfSome, count_by, slice_get}
use Rattle.std.specs.List.Sorted.{IsPermutation}
use Rattle.std.proofs.lemmas.Bool.{ne_eqb}
use Rattle.std.proofs.lemmas.List.{length-map, map-append, take_more}
use Rattle.zs_num.specs.declared.time.Key.{Key}
use Rattle.event_graph.specs.declared.event.Event.{Event}
use Rattle.event_graph.specs.declared.event.Parent.{Parent}
use Rattle.event_graph.specs.declared.fired.Fired.{Fired}
use Rattle.event_graph.specs.Numbered.{IsNumbered}
use Rattle.event_graph.proofs.Lists.{get-map, get_read, read_is}
use Rattle.weave_seq.specs.declared.children.ParentSlot.{ParentSlot}
use Rattle.weave_seq.specs.Chains.{AreChains, last_child, parent_in, parents_in, with_last_child}
use Rattle.weave_seq.specs.SoFar.{AreSameKeys, ready_keys}
use Rattle.weave_seq.proofs.Chains.{one_more}
use Rattle.weave_seq.proofs.ReadyKeys.{count-cons, count_every, counted, few_keys, key_at, one_if, same_from_permutation}
use Rattle.weave_seq.proofs.TellSteps.{parent_below}

pub within_by : (n : ℕ) (o : Option Parent) → ((p : Parent) → o ≡ Some p → p.number < n) → IfSome o (λ p. p.number < n)
within_by n None h = tt
within_by n (Some p) h = h p refl

-- one more in a mapped front
pub front_more : {Y : Type 0} (f : Event → Y) (events : List Event) (i : ℕ) (d : Event) (ys ys' : List Y) (y : Y) → i < length events → ys ≡ map f (take i events) → ys' ≡ ys ++ y ∷ [] → y ≡ f (get_or events i d) → ys' ≡ map f (take (i + 1) events)
front_more f events i d ys ys' y below were are is =
    are ∙ (ap (λ zs. zs ++ y ∷ []) were
    ∙ (ap (λ z. map f (take i events) ++ z ∷ []) is
    ∙ (sym (map-append f (take i events) (get_or events i d ∷ [])) ∙ ap (λ zs. map f zs) (sym (take_more events i d below)))))

module _ (events : List Event) (numbered : IsNumbered events) (i : ℕ) (d : Event) (below : i < length events) where
  there : slice_get events i ≡ Some (get_or events i d)
  there = get_read events i d below

  pub number_is : (get_or events i d).number ≡ i
  number_is = numbered.number i (get_or events i d) there

  pub parent_within : (slot : ParentSlot) (last before : List ℕ) → AreChains (parents_in slot events) last before i → IfSome (parent_in slot (get_or events i d)) (λ p. p.number < length last)
  parent_within slot last before h =
      within_by (length last) (parent_in slot (get_or events i d))
      (λ p is. omega (arith, parent_below slot events numbered i (get_or events i d) p there is, below, h.last_size, length-map events (parent_in slot)))

  pub chained : (slot : ParentSlot) (last before last' before' : List ℕ) → AreChains (parents_in slot events) last before i → last' ≡ with_last_child last (parent_in slot (get_or events i d)) (get_or events i d).number
      → before' ≡ before ++ last_child last (parent_in slot (get_or events i d)) ∷ [] → AreChains (parents_in slot events) last' before' (i + 1)
  chained slot last before last' before' h a b =
      one_more (parents_in slot events) last before i h last' before' (parent_in slot (get_or events i d))
      (read_is (parents_in slot events) i None (parent_in slot (get_or events i d)) (get-map (parent_in slot) (get_or events i d) events i there))
      (λ p is. omega (arith, parent_below slot events numbered i (get_or events i d) p there is, below, length-map events (parent_in slot)))
      (a ∙ ap (λ n. with_last_child last (parent_in slot (get_or events i d)) n) number_is) b

-- one more key

count_more_from : (p : Key → Bool) (n m : ℕ) (ts : List Fired) (ws : List ℕ) (t : Fired) (w : ℕ) → length ws ≡ length ts → m ≡ n + length ts
    → count_by p (ready_keys n (ts ++ t ∷ []) (ws ++ w ∷ [])) ≡ count_by p (ready_keys n ts ws) + counted p w (key_at m t)
count_more_from p n m [] [] t w size is =
    let here : n ≡ m = omega (arith, is) in
    let first : count_by p (ready_keys n (t ∷ []) (w ∷ [])) ≡ counted p w (key_at n t) =
    elim (w == 0) as (λ b. count_by p (cond b (key_at n t ∷ []) []) ≡ cond b (one_if (p (key_at n t))) 0) [ true ↦ omega (arith, count-cons p (key_at n t) []) | false ↦ refl ]
    in
    omega (arith, first, ap (λ k. counted p w (key_at k t)) here)
count_more_from p n m [] (v ∷ ws) t w size is = absurd (omega (arith, size))
count_more_from p n m (u ∷ ts) [] t w size is = absurd (omega (arith, size))
count_more_from p n m (u ∷ ts) (v ∷ ws) t w size is =
    let rest : count_by p (ready_keys (suc n) (ts ++ t ∷ []) (ws ++ w ∷ [])) ≡ count_by p (ready_keys (suc n) ts ws) + counted p w (key_at m t) = count_more_from p (suc n) m ts ws t w (omega (arith, size)) (omega (arith, is)) in
    elim (v == 0)
    as (λ b. count_by p (cond b (key_at n u ∷ ready_keys (suc n) (ts ++ t ∷ []) (ws ++ w ∷ [])) (ready_keys (suc n) (ts ++ t ∷ []) (ws ++ w ∷ [])))
    ≡ count_by p (cond b (key_at n u ∷ ready_keys (suc n) ts ws) (ready_keys (suc n) ts ws)) + counted p w (key_at m t)) [
      | true ↦ omega (arith, rest, count-cons p (key_at n u) (ready_keys (suc n) (ts ++ t ∷ []) (ws ++ w ∷ [])), count-cons p (key_at n u) (ready_keys (suc n) ts ws))
      | false ↦ rest
    ]

module _ (ts ts' : List Fired) (ws ws' : List ℕ) (t : Fired) (w : ℕ) (i : ℕ) (size : length ts ≡ i) (size' : length ws ≡ i) (more : ts' ≡ ts ++ t ∷ []) (more' : ws' ≡ ws ++ w ∷ [])
    (list : List Key) (same : AreSameKeys (ready_keys 0 ts ws) list) where
  count_more : (p : Key → Bool) → count_by p (ready_keys 0 ts' ws') ≡ count_by p (ready_keys 0 ts ws) + counted p w (key_at i t)
  count_more p = ap (λ zs. count_by p (ready_keys 0 zs ws')) more ∙ (ap (λ zs. count_by p (ready_keys 0 (ts ++ t ∷ []) zs)) more' ∙ count_more_from p 0 i ts ws t w (size' ∙ sym size) (omega (arith, size)))

  pub waits_more : (w ≡ 0 → ⊥) → AreSameKeys (ready_keys 0 ts' ws') list
  waits_more some p =
      let none : counted p w (key_at i t) ≡ 0 = ap (λ b. cond b (one_if (p (key_at i t))) 0) (ne_eqb w 0 some) in
      omega (arith, count_more p, none, same p)

  pub ready_more : w ≡ 0 → (list' : List Key) → IsPermutation (key_at i t ∷ list) list' → AreSameKeys (ready_keys 0 ts' ws') list'
  ready_more none list' pushed p =
      let one : counted p w (key_at i t) ≡ one_if (p (key_at i t)) = ap (λ n. counted p n (key_at i t)) none in
      omega (arith, count_more p, one, same p, same_from_permutation (key_at i t ∷ list) list' pushed p, count-cons p (key_at i t) list)

few_so_far : (ts : List Fired) (ws : List ℕ) (i : ℕ) → length ts ≡ i → (list : List Key) → AreSameKeys (ready_keys 0 ts ws) list → length list ≤ i
few_so_far ts ws i size list same = omega (arith, same (λ x. true), count_every list, count_every (ready_keys 0 ts ws), few_keys 0 ts ws, size)

pub below_all : (ts : List Fired) (ws : List ℕ) (i n : ℕ) → length ts ≡ i → length ws ≡ i → (list : List Key) → AreSameKeys (ready_keys 0 ts ws) list → i < n → length list < n
below_all ts ws i n size size' list same l = omega (arith, few_so_far ts ws i size list same, l)
