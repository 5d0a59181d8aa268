-- The keys of the ready events, where one event changes.
use Rattle.std.proofs.Common.{◌≡◌, ◌+◌, ◌≤◌, ◌==◌, ◌&&◌, ℕ, zero, suc, Bool, true, false, cond, List, [], ◌∷◌, length, set, inl, inr, Some, sym, ◌∙◌, ap, subst, refl, arith}
use Rattle.std.specs.Prelude.{count_by, slice_get, All}
use Rattle.std.specs.List.Sorted.{IsPermutation}
use Rattle.std.proofs.lemmas.Bool.{and_from, and_parts, cases_Bool, cond-true, cond-false, cond_both, eq-eqb, eqb-true}
use Rattle.std.proofs.lemmas.List.Elements.{All-head, All-tail}
use Rattle.std.proofs.lemmas.List.Sums.{sum_by-cons}
use Rattle.std.proofs.lemmas.List.Sorted.{sum_by-IsPermutation}
use Rattle.zs_num.specs.declared.time.Key.{Key}
use Rattle.event_graph.specs.declared.fired.Fired.{Fired}
use Rattle.event_graph.proofs.Lists.{In}
use Rattle.weave_seq.specs.SoFar.{AreSameKeys, ready_keys}

abbrev pub key_at : ℕ → Fired → Key
key_at n t = record { start = t.start; number = n }

-- 1 where it passes
abbrev pub one_if : Bool → ℕ
one_if b = cond b 1 0

pub count-cons : (p : Key → Bool) (x : Key) (xs : List Key) → count_by p (x ∷ xs) ≡ one_if (p x) + count_by p xs
count-cons p x xs = sum_by-cons (λ (y : Key). cond (p y) 1 0) x xs

-- how often the key of an event that waits for w parents counts
abbrev pub counted : (Key → Bool) → ℕ → Key → ℕ
counted p w k = cond (w == 0) (one_if (p k)) 0

first_counts : (p : Key → Bool) (n : ℕ) (t : Fired) (w : ℕ) (ts : List Fired) (ws : List ℕ) → count_by p (ready_keys n (t ∷ ts) (w ∷ ws)) ≡ counted p w (key_at n t) + count_by p (ready_keys (suc n) ts ws)
first_counts p n t w ts ws =
    elim (w == 0) as (λ b. count_by p (cond b (key_at n t ∷ ready_keys (suc n) ts ws) (ready_keys (suc n) ts ws)) ≡ cond b (one_if (p (key_at n t))) 0 + count_by p (ready_keys (suc n) ts ws)) [
      | true ↦ count-cons p (key_at n t) (ready_keys (suc n) ts ws)
      | false ↦ omega arith
    ]

-- one event changes
changed_from : (p : Key → Bool) (n : ℕ) (ts : List Fired) (ws : List ℕ) (i m : ℕ) (t t' : Fired) (w w' : ℕ) → m ≡ n + i → slice_get ts i ≡ Some t → slice_get ws i ≡ Some w
    → count_by p (ready_keys n ts ws) + counted p w' (key_at m t') ≡ count_by p (ready_keys n (set ts i t') (set ws i w')) + counted p w (key_at m t)
changed_from p n [] ws i m t t' w w' same h k = absurd (cc)
changed_from p n (u ∷ ts) [] i m t t' w w' same h k = absurd (cc)
changed_from p n (u ∷ ts) (v ∷ ws) zero m t t' w w' same h k =
    let here : m ≡ n = omega arith in
    let a : u ≡ t = cc in
    let b : v ≡ w = cc in
    let first : count_by p (ready_keys n (u ∷ ts) (v ∷ ws)) ≡ counted p w (key_at m t) + count_by p (ready_keys (suc n) ts ws) =
    first_counts p n u v ts ws ∙ (ap (λ z. counted p v (key_at n z) + count_by p (ready_keys (suc n) ts ws)) a ∙ (ap (λ z. counted p z (key_at n t) + count_by p (ready_keys (suc n) ts ws)) b ∙ ap (λ z. counted p w (key_at z t) + count_by p (ready_keys (suc n) ts ws)) (sym here)))
    in
    let then : count_by p (ready_keys n (t' ∷ ts) (w' ∷ ws)) ≡ counted p w' (key_at m t') + count_by p (ready_keys (suc n) ts ws) =
    first_counts p n t' w' ts ws ∙ ap (λ z. counted p w' (key_at z t') + count_by p (ready_keys (suc n) ts ws)) (sym here)
    in
    omega (arith, first, then)
changed_from p n (u ∷ ts) (v ∷ ws) (suc i) m t t' w w' same h k =
    let ih : count_by p (ready_keys (suc n) ts ws) + counted p w' (key_at m t') ≡ count_by p (ready_keys (suc n) (set ts i t') (set ws i w')) + counted p w (key_at m t) =
    changed_from p (suc n) ts ws i m t t' w w' (omega arith) h k
    in
    omega (arith, ih, first_counts p n u v ts ws, first_counts p n u v (set ts i t') (set ws i w'))

pub changed : (p : Key → Bool) (ts : List Fired) (ws : List ℕ) (i : ℕ) (t t' : Fired) (w w' : ℕ) → slice_get ts i ≡ Some t → slice_get ws i ≡ Some w
    → count_by p (ready_keys 0 ts ws) + counted p w' (key_at i t') ≡ count_by p (ready_keys 0 (set ts i t') (set ws i w')) + counted p w (key_at i t)
changed p ts ws i t t' w w' h k = changed_from p 0 ts ws i i t t' w w' (omega arith) h k

-- what is among the keys

abbrev key_of : ℕ → ℕ → Key
key_of start number = record { start = start; number = number }

pub is_key : Key → Key → Bool
is_key k x = (x.start == k.start) && (x.number == k.number)

pub is_itself : (k : Key) → is_key k k ≡ true
unfolding is_key
is_itself k = and_from _ _ (eq-eqb k.start k.start refl) (eq-eqb k.number k.number refl)

pub same_key : (k x : Key) → is_key k x ≡ true → x ≡ k
unfolding is_key
same_key k x h =
    let a = and_parts (x.start == k.start) (x.number == k.number) h in
    let s : x.start ≡ k.start = eqb-true x.start k.start a.0 in
    let n : x.number ≡ k.number = eqb-true x.number k.number a.1 in
    ap (λ q. key_of q x.number) s ∙ ap (λ q. key_of k.start q) n

pub count_from_in : (p : Key → Bool) (x : Key) (xs : List Key) → In x xs → p x ≡ true → 1 ≤ count_by p xs
count_from_in p x [] m t = absurd m
count_from_in p x (y ∷ ys) m t =
    elim m [
      | inl same ↦ omega (arith, count-cons p y ys, cond-true {A = ℕ} (p y) 1 0 (ap p same ∙ t))
      | inr rest ↦ omega (arith, count-cons p y ys, count_from_in p x ys rest t)
    ]

pub in_from_count : (p : Key → Bool) (xs : List Key) → 1 ≤ count_by p xs → (x : Key) × (In x xs × (p x ≡ true))
in_from_count p [] h = absurd (omega arith)
in_from_count p (y ∷ ys) h =
    elim (cases_Bool (p y)) [
      | inl t ↦ (y, (inl refl, t))
      | inr f ↦ let r : (x : Key) × (In x ys × (p x ≡ true)) = in_from_count p ys (omega (arith, h, count-cons p y ys, cond-false {A = ℕ} (p y) 1 0 f)) in (r.0, (inr r.1.0, r.1.1))
    ]

-- a key of a list is one of the same keys
pub in_same : (k : Key) (xs ys : List Key) → AreSameKeys xs ys → In k xs → In k ys
in_same k xs ys same m =
    let r : (x : Key) × (In x ys × (is_key k x ≡ true)) = in_from_count (is_key k) ys (omega (arith, same (is_key k), count_from_in (is_key k) k xs m (is_itself k))) in
    subst (λ z. In z ys) (same_key k r.0 r.1.1) r.1.0

pub same_from_permutation : (xs ys : List Key) → IsPermutation xs ys → AreSameKeys xs ys
same_from_permutation xs ys h p = sym (sum_by-IsPermutation (λ (y : Key). cond (p y) 1 0) xs ys h)

pub all_in : (P : Key → Type 0) (xs : List Key) → All P xs → (x : Key) → In x xs → P x
all_in P [] h x m = absurd m
all_in P (y ∷ ys) h x m = elim m [ inl same ↦ subst P same (All-head P y ys h) | inr rest ↦ all_in P ys (All-tail P y ys h) x rest ]

-- the ready events and their keys

ready_in_from : (n : ℕ) (ts : List Fired) (ws : List ℕ) (i m : ℕ) (t : Fired) → m ≡ n + i → slice_get ts i ≡ Some t → slice_get ws i ≡ Some 0 → In (key_at m t) (ready_keys n ts ws)
ready_in_from n [] ws i m t same h k = absurd (cc)
ready_in_from n (u ∷ ts) [] i m t same h k = absurd (cc)
ready_in_from n (u ∷ ts) (v ∷ ws) zero m t same h k =
    let z : v ≡ 0 = cc in
    let a : u ≡ t = cc in
    let here : n ≡ m = omega arith in
    let key : key_at n u ≡ key_at m t = ap (λ q. key_at n q) a ∙ ap (λ q. key_at q t) here in
    subst (λ xs. In (key_at m t) xs) (sym (cond-true (v == 0) (key_at n u ∷ ready_keys (suc n) ts ws) (ready_keys (suc n) ts ws) (eq-eqb v 0 z))) (inl key)
ready_in_from n (u ∷ ts) (v ∷ ws) (suc i) m t same h k =
    let rest : In (key_at m t) (ready_keys (suc n) ts ws) = ready_in_from (suc n) ts ws i m t (omega arith) h k in
    cond_both (v == 0) (key_at n u ∷ ready_keys (suc n) ts ws) (ready_keys (suc n) ts ws) (λ xs. In (key_at m t) xs) (λ _. inr rest) (λ _. rest)

pub ready_in : (ts : List Fired) (ws : List ℕ) (i : ℕ) (t : Fired) → slice_get ts i ≡ Some t → slice_get ws i ≡ Some 0 → In (key_at i t) (ready_keys 0 ts ws)
ready_in ts ws i t h k = ready_in_from 0 ts ws i i t (omega arith) h k

-- the event of a key
pub record IsOf (ts : List Fired) (ws : List ℕ) (n : ℕ) (x : Key) : Type 0 where
  pub index : ℕ
  pub number : x.number ≡ n + index
  pub time : Fired
  pub there : slice_get ts index ≡ Some time
  pub start : x.start ≡ time.start
  pub ready : slice_get ws index ≡ Some 0

pub of_ready : (n : ℕ) (ts : List Fired) (ws : List ℕ) (x : Key) → In x (ready_keys n ts ws) → IsOf ts ws n x
of_ready n [] ws x m = absurd m
of_ready n (u ∷ ts) [] x m = absurd m
of_ready n (u ∷ ts) (v ∷ ws) x m =
    let later : In x (ready_keys (suc n) ts ws) → IsOf (u ∷ ts) (v ∷ ws) n x =
    λ q. let r : IsOf ts ws (suc n) x = of_ready (suc n) ts ws x q in record { index = suc r.index; number = omega (arith, r.number); time = r.time; there = r.there; start = r.start; ready = r.ready }
    in
    elim (cases_Bool (v == 0)) [
      | inl t ↦
          let z : v ≡ 0 = eqb-true v 0 t in
          let k : In x (key_at n u ∷ ready_keys (suc n) ts ws) = subst (λ xs. In x xs) (cond-true (v == 0) (key_at n u ∷ ready_keys (suc n) ts ws) (ready_keys (suc n) ts ws) t) m in
          elim k [
            | inl same ↦ record { index = zero; number = omega (arith, ap (λ (q : Key). q.number) same); time = u; there = refl; start = ap (λ (q : Key). q.start) (sym same); ready = ap (λ q. Some q) z }
            | inr rest ↦ later rest
          ]
      | inr f ↦ later (subst (λ xs. In x xs) (cond-false (v == 0) (key_at n u ∷ ready_keys (suc n) ts ws) (ready_keys (suc n) ts ws) f) m)
    ]

-- how many there can be
pub few_keys : (n : ℕ) (ts : List Fired) (ws : List ℕ) → length (ready_keys n ts ws) ≤ length ts
few_keys n [] ws = omega arith
few_keys n (u ∷ ts) [] = omega arith
few_keys n (u ∷ ts) (v ∷ ws) =
    let rest : length (ready_keys (suc n) ts ws) ≤ length ts = few_keys (suc n) ts ws in
    cond_both (v == 0) (key_at n u ∷ ready_keys (suc n) ts ws) (ready_keys (suc n) ts ws) (λ xs. length xs ≤ suc (length ts)) (λ _. omega arith) (λ _. omega arith)

pub count_every : (xs : List Key) → count_by (λ x. true) xs ≡ length xs
count_every [] = refl
count_every (x ∷ xs) = omega (arith, count-cons (λ (y : Key). true) x xs, count_every xs)
