-- What the events of a component count, in whatever order they stand.
use Rattle.std.proofs.Common.{◌≡◌, ◌+◌, ◌==◌, ℕ, Bool, cond, List, [], ◌∷◌, map, fold, sum_by, inl, inr, sym, ◌∙◌, ap, refl, arith}
use Rattle.std.specs.List.{filter, zip}
use Rattle.std.proofs.lemmas.Bool.{cases_Bool, cond-false, cond-true}
use Rattle.std.specs.List.Sorted.{IsPermutation}
use Rattle.std.proofs.lemmas.List.Sorted.{sum_by-IsPermutation}
use Rattle.std.proofs.lemmas.List.Sums.{sum_by-cons}
use Rattle.event_graph.specs.declared.event.Event.{Event}
use Rattle.event_graph.specs.declared.fired.Fired.{Fired}
use Rattle.event_graph.specs.OneListWeave.{FiredEvent, fired_of}
use Rattle.event_graph.specs.ServedEvents.{of_component}
use Rattle.stats.specs.declared.counts.CompCount.{CompCount}
use Rattle.stats.specs.Counted.{comp_plus, comp_sum, event_count, no_comp_count, wait_of}
use Rattle.stats.specs.Counts.{Interval, comp_count_in}
use Rattle.weave_chains.specs.Tallies.{counted}

abbrev pair : FiredEvent → Event × Fired
pair x = (x.event, fired_of x)

abbrev count_of : FiredEvent → CompCount
count_of x = event_count (x.event, fired_of x)

abbrev is_of : ℕ → FiredEvent → Bool
is_of component x = x.event.component == component

abbrev pub one : FiredEvent → ℕ
one x = 1

abbrev pub waited : FiredEvent → ℕ
waited x = wait_of x.event (fired_of x)

abbrev summing : (events waits : ℕ) → CompCount
summing events waits = record no_comp_count { events = events; waited = waits }

grown : (c : CompCount) (xs : List FiredEvent) → fold comp_plus c (map count_of xs) ≡ record c { events = c.events + sum_by one xs; waited = c.waited + sum_by waited xs }
grown c [] =
    let sums : ℕ → ℕ → CompCount = λ events waits. record c { events = events; waited = waits } in
    ap (λ n. sums n c.waited) (let e : c.events ≡ c.events + 0 = omega arith in e) ∙ ap (sums (c.events + 0)) (let e : c.waited ≡ c.waited + 0 = omega arith in e)
grown c (x ∷ xs) =
    let sums : ℕ → ℕ → CompCount = λ events waits. record c { events = events; waited = waits } in
    let events : c.events + 1 + sum_by one xs ≡ c.events + sum_by one (x ∷ xs) = omega (arith, sum_by-cons one x xs) in
    let waits : c.waited + waited x + sum_by waited xs ≡ c.waited + sum_by waited (x ∷ xs) = omega (arith, sum_by-cons waited x xs) in
    grown (comp_plus c (count_of x)) xs
    ∙ (ap (λ n. sums n (c.waited + waited x + sum_by waited xs)) events ∙ ap (sums (c.events + sum_by one (x ∷ xs))) waits)

-- two sums
pub counted_is : (component : ℕ) (xs : List FiredEvent) → counted component xs ≡ summing (0 + sum_by one (of_component component xs)) (0 + sum_by waited (of_component component xs))
counted_is component xs = grown no_comp_count (of_component component xs)

pub counted_alike : (component : ℕ) (xs ys : List FiredEvent) → sum_by one (of_component component xs) ≡ sum_by one (of_component component ys) → sum_by waited (of_component component xs) ≡ sum_by waited (of_component component ys)
    → counted component xs ≡ counted component ys
counted_alike component xs ys events waits =
    counted_is component xs
    ∙ (ap (λ n. summing (0 + n) (0 + sum_by waited (of_component component xs))) events
    ∙ (ap (λ n. summing (0 + sum_by one (of_component component ys)) (0 + n)) waits ∙ sym (counted_is component ys)))

-- ---- of an interval

pairs : (xs : List FiredEvent) → zip (map (λ (x : FiredEvent). x.event) xs) (map fired_of xs) ≡ map pair xs
pairs [] = refl
pairs (x ∷ xs) = ap (λ zs. pair x ∷ zs) (pairs xs)

counts_of_pairs : (component : ℕ) (xs : List FiredEvent) → map event_count (filter (λ (x : Event × Fired). x.0.component == component) (map pair xs)) ≡ map count_of (of_component component xs)
counts_of_pairs component [] = refl
counts_of_pairs component (x ∷ xs) =
    elim (cases_Bool (x.event.component == component)) [
      | inl t ↦
          ap (map event_count) (cond-true (x.event.component == component) (pair x ∷ filter (λ (y : Event × Fired). y.0.component == component) (map pair xs)) (filter (λ (y : Event × Fired). y.0.component == component) (map pair xs)) t)
          ∙ (ap (λ zs. count_of x ∷ zs) (counts_of_pairs component xs) ∙ ap (map count_of) (sym (cond-true (x.event.component == component) (x ∷ of_component component xs) (of_component component xs) t)))
      | inr f ↦
          ap (map event_count) (cond-false (x.event.component == component) (pair x ∷ filter (λ (y : Event × Fired). y.0.component == component) (map pair xs)) (filter (λ (y : Event × Fired). y.0.component == component) (map pair xs)) f)
          ∙ (counts_of_pairs component xs ∙ ap (map count_of) (sym (cond-false (x.event.component == component) (x ∷ of_component component xs) (of_component component xs) f)))
    ]

pub in_interval : (i : Interval) (timed : List FiredEvent) → map (λ (x : FiredEvent). x.event) timed ≡ i.events → i.fired ≡ map fired_of timed → (component : ℕ) → comp_count_in i component ≡ counted component timed
in_interval i timed events fired component =
    ap (λ zs. comp_sum (map event_count (filter (λ (x : Event × Fired). x.0.component == component) zs)))
    (ap (λ es. zip es i.fired) (sym events) ∙ (ap (zip (map (λ (x : FiredEvent). x.event) timed)) fired ∙ pairs timed))
    ∙ ap comp_sum (counts_of_pairs component timed)

-- ---- in another order

summed_if : (weight : FiredEvent → ℕ) (component : ℕ) (xs : List FiredEvent) → sum_by weight (of_component component xs) ≡ sum_by (λ x. cond (is_of component x) (weight x) 0) xs
summed_if weight component [] = refl
summed_if weight component (x ∷ xs) =
    let each : FiredEvent → ℕ = λ y. cond (is_of component y) (weight y) 0 in
    let rest : sum_by weight (of_component component xs) ≡ sum_by each xs = summed_if weight component xs in
    let whole : sum_by each (x ∷ xs) ≡ each x + sum_by each xs = sum_by-cons each x xs in
    elim (cases_Bool (is_of component x)) [
      | inl t ↦
          let here : each x ≡ weight x = cond-true (is_of component x) (weight x) 0 t in
          let is : sum_by weight (of_component component (x ∷ xs)) ≡ sum_by weight (x ∷ of_component component xs) = ap (sum_by weight) (cond-true (is_of component x) (x ∷ of_component component xs) (of_component component xs) t) in
          omega (arith, is, here, rest, whole, sum_by-cons weight x (of_component component xs))
      | inr f ↦
          let here : each x ≡ 0 = cond-false (is_of component x) (weight x) 0 f in
          let is : sum_by weight (of_component component (x ∷ xs)) ≡ sum_by weight (of_component component xs) = ap (sum_by weight) (cond-false (is_of component x) (x ∷ of_component component xs) (of_component component xs) f) in
          omega (arith, is, here, rest, whole)
    ]

module _ (timed fired : List FiredEvent) (same : IsPermutation timed fired) where
  sums_alike : (weight : FiredEvent → ℕ) (component : ℕ) → sum_by weight (of_component component fired) ≡ sum_by weight (of_component component timed)
  sums_alike weight component =
      summed_if weight component fired ∙ (sum_by-IsPermutation (λ x. cond (is_of component x) (weight x) 0) timed fired same ∙ sym (summed_if weight component timed))

  pub counted_in_order : (component : ℕ) → counted component fired ≡ counted component timed
  counted_in_order component = counted_alike component fired timed (sums_alike one component) (sums_alike waited component)
