-- Chains with their accesses counted among those of all cores.
use Rattle.std.proofs.Common.{◌≡◌, ◌+◌, ◌<◌, ℕ, zero, suc, List, [], ◌∷◌, length, map, Option, Some, None, inl, inr, sym, ◌∙◌, ap, subst, refl, arith}
use Rattle.std.specs.Prelude.{slice_set}
use Rattle.std.specs.List.{enumerate_from, slice_get}
use Rattle.std.specs.Option.{option_map}
use Rattle.std.proofs.lemmas.Bool.{cases_eq, cases_lt}
use Rattle.std.proofs.lemmas.Option.{slice_get_within}
use Rattle.zs_num.specs.declared.entry.Entry.{Entry}
use Rattle.weave_chains.specs.declared.chain.Chain.{Chain}
use Rattle.weave_chains.specs.Beginning.{AreFresh, IsFresh}
use Rattle.weave_chains.specs.Chains.{delay_by}
use Rattle.weave_chains.specs.Listed.{AreOwn, list_of, number_before, one_after_other}
use Rattle.weave_chains.specs.NextEvents.{AreOfLists}
use Rattle.weave_chains.specs.States.{ChainState, IsFreshChain, state_of, states}
use Rattle.weave_chains.proofs.Listed as listed
use Rattle.weave_chains.proofs.Moved.{set_other, set_same}

module _ {X Y : Type 0} (f : ℕ → X → Y) where
  numbered : ℕ → List X → List Y
  numbered n xs = map (λ at. f at.0 at.1) (enumerate_from n xs)

  pub numbered_at : (n : ℕ) (xs : List X) (i : ℕ) → slice_get (map (λ at. f at.0 at.1) (enumerate_from n xs)) i ≡ option_map (f (n + i)) (slice_get xs i)
  numbered_at n [] i = refl
  numbered_at n (x ∷ xs) zero = ap (λ k. Some (f k x)) (let e : n ≡ n + 0 = omega arith in e)
  numbered_at n (x ∷ xs) (suc i) =
      numbered_at (n + 1) xs i ∙ ap (λ k. option_map (f k) (slice_get xs i)) (let e : n + 1 + i ≡ n + suc i = omega arith in e)

  pub numbered_set : (n : ℕ) (xs : List X) (i : ℕ) (x : X) → map (λ at. f at.0 at.1) (enumerate_from n (slice_set xs i x)) ≡ slice_set (map (λ at. f at.0 at.1) (enumerate_from n xs)) i (f (n + i) x)
  numbered_set n [] i x = refl
  numbered_set n (y ∷ xs) zero x = ap (λ k. f k x ∷ map (λ at. f at.0 at.1) (enumerate_from (n + 1) xs)) (let e : n ≡ n + 0 = omega arith in e)
  numbered_set n (y ∷ xs) (suc i) x =
      ap (λ zs. f n y ∷ zs)
      (numbered_set (n + 1) xs i x ∙ ap (λ k. slice_set (map (λ at. f at.0 at.1) (enumerate_from (n + 1) xs)) i (f k x)) (let e : n + 1 + i ≡ n + suc i = omega arith in e))

  pub numbered_length : (n : ℕ) (xs : List X) → length (map (λ at. f at.0 at.1) (enumerate_from n xs)) ≡ length xs
  numbered_length n [] = refl
  numbered_length n (x ∷ xs) = ap suc (numbered_length (n + 1) xs)

of_some : {X Y : Type 0} (f : X → Y) (o : Option X) (y : Y) → option_map f o ≡ Some y → (x : X) × ((o ≡ Some x) × (f x ≡ y))
of_some f None y is = absurd (cc)
of_some f (Some x) y is = (x, (refl, cc))

module _ (lists : List (List Entry)) where
  abbrev numbered_state : ℕ → Chain → ChainState
  numbered_state core c = state_of (number_before lists core) c

  pub state_at : (chains : List Chain) (core : ℕ) (c : Chain) → slice_get chains core ≡ Some c → slice_get (states lists chains) core ≡ Some (state_of (number_before lists core) c)
  state_at chains core c at =
      numbered_at numbered_state 0 chains core
      ∙ (ap (λ k. option_map (numbered_state k) (slice_get chains core)) (let e : 0 + core ≡ core = omega arith in e) ∙ ap (option_map (numbered_state core)) at)

  pub state_from : (chains : List Chain) (core : ℕ) (s : ChainState) → slice_get (states lists chains) core ≡ Some s → (c : Chain) × ((slice_get chains core ≡ Some c) × (state_of (number_before lists core) c ≡ s))
  state_from chains core s at =
      of_some (numbered_state core) (slice_get chains core) s
      (ap (λ k. option_map (numbered_state k) (slice_get chains core)) (let e : core ≡ 0 + core = omega arith in e) ∙ (sym (numbered_at numbered_state 0 chains core) ∙ at))

  pub states_length : (chains : List Chain) → length (states lists chains) ≡ length chains
  states_length chains = numbered_length numbered_state 0 chains

  pub states_set : (chains : List Chain) (core : ℕ) (c : Chain) → states lists (slice_set chains core c) ≡ slice_set (states lists chains) core (state_of (number_before lists core) c)
  states_set chains core c =
      numbered_set numbered_state 0 chains core c ∙ ap (λ k. slice_set (states lists chains) core (numbered_state k c)) (let e : 0 + core ≡ core = omega arith in e)

  -- the chains of the first cores, before an event fires
  abbrev pub AreFreshChains : (cores : ℕ) → List Chain → Type 0
  AreFreshChains cores chains = (core : ℕ) (c : Chain) → core < cores → slice_get chains core ≡ Some c → IsFreshChain (length (list_of lists core)) c

  pub are_fresh : AreOwn lists → (chains : List Chain) → length chains ≡ length lists → AreFreshChains (length lists) chains → AreFresh (one_after_other lists) (states lists chains)
  are_fresh own chains count fresh core s at =
      let c : (c : Chain) × ((slice_get chains core ≡ Some c) × (state_of (number_before lists core) c ≡ s)) = state_from chains core s at in
      let less : core < length lists = omega (arith, count, slice_get_within chains core c.0 c.1.0) in
      subst (λ z. IsFresh (one_after_other lists) core z) c.1.1 (listed.fresh lists own core less c.0 (fresh core c.0 less c.1.0))

  pub are_of_lists : (chains : List Chain) → length chains ≡ length lists → AreFreshChains (length lists) chains → AreOfLists lists chains
  are_of_lists chains count fresh core c at = (fresh core c (omega (arith, count, slice_get_within chains core c at)) at).end

  -- one more
  pub one_more_fresh : (chains : List Chain) (cores : ℕ) (new : Chain) → AreFreshChains cores chains → cores < length chains → IsFreshChain (length (list_of lists cores)) new → AreFreshChains (cores + 1) (slice_set chains cores new)
  one_more_fresh chains cores new fresh within is core c less at =
      elim (cases_eq cores core) [
        | inl same ↦
            let here : slice_get (slice_set chains cores new) core ≡ Some new = subst (λ i. slice_get (slice_set chains cores new) i ≡ Some new) same (set_same chains cores new within) in
            let one : new ≡ c = cc in
            subst (λ i. IsFreshChain (length (list_of lists i)) c) same (subst (IsFreshChain (length (list_of lists cores))) one is)
        | inr other ↦ fresh core c (before core less other) (sym (set_other chains cores core new other) ∙ at)
      ]
    where
      before : (n : ℕ) → n < cores + 1 → (cores ≡ n → ⊥) → n < cores
      before n less other = elim (cases_lt n cores) [ inl l ↦ l | inr not ↦ absurd (other (omega (arith, not, less))) ]

-- delays are the same wherever accesses are counted from
module _ (lists : List (List Entry)) where
  pub same_delays : (n : ℕ) (chains : List Chain) → map delay_by (map (λ at. state_of (number_before lists at.0) at.1) (enumerate_from n chains)) ≡ map (λ c. delay_by (state_of 0 c)) chains
  same_delays n [] = refl
  same_delays n (c ∷ chains) = ap (λ zs. delay_by (state_of 0 c) ∷ zs) (same_delays (n + 1) chains)
