-- An interval in another order.
use Rattle.std.proofs.Common.{◌≡◌, ◌+◌, ◌==◌, ℕ, List, [], ◌∷◌, map, sum_by, slice_index, inl, inr, sym, ◌∙◌, ap, refl, arith, fold}
use Rattle.std.specs.List.{enumerate_from, filter, zip}
use Rattle.std.proofs.lemmas.Bool.{cases_Bool, cond-true, cond-false}
use Rattle.std.proofs.lemmas.List.Sums.{sum_by-cons}
use Rattle.component.specs.declared.comp.Comp.{Comp}
use Rattle.component.specs.ComponentStep.{free_of}
use Rattle.event_graph.specs.declared.event.Event.{Event}
use Rattle.event_graph.specs.declared.fired.Fired.{Fired}
use Rattle.event_graph.specs.OneListWeave.{FiredEvent, fired_of}
use Rattle.event_graph.specs.ServedEvents.{of_component}
use Rattle.stats.specs.declared.counts.CompCount.{CompCount}
use Rattle.stats.specs.declared.counts.CoreCount.{CoreCount}
use Rattle.stats.specs.Added.{added, comp_count_after, core_count_after}
use Rattle.stats.specs.Counted.{comp_plus, comp_sum, core_plus, core_sum, delay_count, entry_count, event_count, no_comp_count, wait_of}
use Rattle.stats.specs.Counts.{Counts, Interval, comp_count_in, core_count_in}
use Rattle.stats.specs.Laws.{CountAlike}

map_ext : {X Y : Type 0} (f g : X → Y) (xs : List X) → ((x : X) → f x ≡ g x) → map f xs ≡ map g xs
map_ext f g [] h = refl
map_ext f g (x ∷ xs) h = ap (λ z. z ∷ map f xs) (h x) ∙ ap (λ zs. g x ∷ zs) (map_ext f g xs h)

-- an event beside its times
abbrev pair : FiredEvent → Event × Fired
pair x = (x.event, fired_of x)

pairs : (xs : List FiredEvent) → zip (map (λ (x : FiredEvent). x.event) xs) (map fired_of xs) ≡ map pair xs
pairs [] = refl
pairs (x ∷ xs) = ap (λ zs. pair x ∷ zs) (pairs xs)

of_pairs : (component : ℕ) (xs : List FiredEvent) → filter (λ (x : Event × Fired). x.0.component == component) (map pair xs) ≡ map pair (of_component component xs)
of_pairs component [] = refl
of_pairs component (x ∷ xs) =
    elim (cases_Bool (x.event.component == component)) [
      | inl t ↦
          cond-true (x.event.component == component) (pair x ∷ filter (λ (y : Event × Fired). y.0.component == component) (map pair xs)) (filter (λ (y : Event × Fired). y.0.component == component) (map pair xs)) t
          ∙ (ap (λ zs. pair x ∷ zs) (of_pairs component xs) ∙ ap (map pair) (sym (cond-true (x.event.component == component) (x ∷ of_component component xs) (of_component component xs) t)))
      | inr f ↦
          cond-false (x.event.component == component) (pair x ∷ filter (λ (y : Event × Fired). y.0.component == component) (map pair xs)) (filter (λ (y : Event × Fired). y.0.component == component) (map pair xs)) f
          ∙ (of_pairs component xs ∙ ap (map pair) (sym (cond-false (x.event.component == component) (x ∷ of_component component xs) (of_component component xs) f)))
    ]

abbrev one : FiredEvent → ℕ
one x = 1

abbrev waited : FiredEvent → ℕ
waited x = wait_of x.event (fired_of x)

count_with : (c : CompCount) (e w d v : ℕ) → e ≡ d → w ≡ v → record c { events = e; waited = w } ≡ record c { events = d; waited = v }
count_with c e w d v p q =
    let first : ℕ → CompCount = λ n. record c { events = n; waited = w } in
    let second : ℕ → CompCount = λ n. record c { events = d; waited = n } in
    ap first p ∙ ap second q

summed : (c : CompCount) (xs : List FiredEvent) → fold comp_plus c (map event_count (map pair xs)) ≡ record c { events = c.events + sum_by one xs; waited = c.waited + sum_by waited xs }
summed c [] = count_with c c.events c.waited (c.events + 0) (c.waited + 0) (omega arith) (omega arith)
summed c (x ∷ xs) =
    let next : CompCount = comp_plus c (event_count (pair x)) in
    summed next xs
    ∙ count_with c (c.events + 1 + sum_by one xs) (c.waited + waited x + sum_by waited xs) (c.events + sum_by one (x ∷ xs)) (c.waited + sum_by waited (x ∷ xs))
    (omega (arith, sum_by-cons one x xs)) (omega (arith, sum_by-cons waited x xs))

module _ (to : ℕ → ℕ) (i j : Interval) (timed moved : List FiredEvent) (alike : CountAlike to i j timed moved) where
  of_core : (core : ℕ) → core_count_in j core ≡ core_count_in i core
  of_core core =
      ap (λ ds. core_sum (delay_count (slice_index ds core) ∷ map entry_count (filter (λ e. e.core == core) j.entries))) alike.delays
      ∙ ap (λ es. core_sum (delay_count (slice_index i.delays core) ∷ map entry_count es)) (alike.entries core)

  of_comp : (component : ℕ) → comp_count_in j component ≡ comp_count_in i component
  of_comp component =
      ap (λ zs. comp_sum (map event_count (filter (λ (x : Event × Fired). x.0.component == component) zs)))
      (ap (λ es. zip es j.fired) alike.moved_events ∙ (ap (zip (map (λ (x : FiredEvent). x.event) moved)) alike.moved_fired ∙ pairs moved))
      ∙ (ap (λ zs. comp_sum (map event_count zs)) (of_pairs component moved)
      ∙ (summed no_comp_count (of_component component moved)
      ∙ (count_with no_comp_count (0 + sum_by one (of_component component moved)) (0 + sum_by waited (of_component component moved)) (0 + sum_by one (of_component component timed)) (0 + sum_by waited (of_component component timed))
      (ap (λ n. 0 + n) (alike.sums one (λ x. refl) component)) (ap (λ n. 0 + n) (alike.sums waited (λ x. refl) component))
      ∙ (sym (summed no_comp_count (of_component component timed))
      ∙ (sym (ap (λ zs. comp_sum (map event_count zs)) (of_pairs component timed))
      ∙ sym (ap (λ zs. comp_sum (map event_count (filter (λ (x : Event × Fired). x.0.component == component) zs)))
      (ap (λ es. zip es i.fired) alike.events ∙ (ap (zip (map (λ (x : FiredEvent). x.event) timed)) alike.fired ∙ pairs timed))))))))

  abbrev counts_from : List CoreCount → List CompCount → ℕ → ℕ → Counts
  counts_from cores comps accesses events = record { core_counts = cores; comp_counts = comps; accesses = accesses; events = events }

  counts_with : (cores cores' : List CoreCount) (comps comps' : List CompCount) (a b e f : ℕ) → cores ≡ cores' → comps ≡ comps' → a ≡ b → e ≡ f
      → counts_from cores comps a e ≡ counts_from cores' comps' b f
  counts_with cores cores' comps comps' a b e f p q r s = cc

  pub alike_added : (before : Counts) (comps : List Comp) → added before j comps ≡ added before i comps
  unfolding added
  alike_added before comps =
      counts_with _ _ _ _ _ _ _ _
      (map_ext (λ at. core_count_after j at.0 at.1) (λ at. core_count_after i at.0 at.1) (enumerate_from 0 before.core_counts) (λ at. ap (λ c. core_plus at.1 c) (of_core at.0)))
      (map_ext (λ at. comp_count_after j at.0 at.1.0 at.1.1) (λ at. comp_count_after i at.0 at.1.0 at.1.1) (enumerate_from 0 (zip before.comp_counts comps))
      (λ at. ap (λ c. record (comp_plus at.1.0 c) { free = free_of at.1.1 }) (of_comp at.0)))
      (ap (λ n. before.accesses + n) alike.as_many)
      (ap (λ n. before.events + n) alike.as_many_events)
