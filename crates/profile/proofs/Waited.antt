-- How long components waited, event by event.
use Rattle.std.proofs.Common.{◌≡◌, ◌≢◌, ℕ, ◌+◌, ◌<◌, ◌==◌, true, false, List, [], ◌∷◌, ◌++◌, drop, map, min, get_or, length, ◌⊎◌, inl, inr, sym, ◌∙◌, ap, arith}
use Rattle.std.specs.List.{filter, zip}
use Rattle.std.specs.Prelude.{sum_by}
use Rattle.std.proofs.lemmas.Bool.Decides.{eqb_tells}
use Rattle.std.proofs.lemmas.List.{ext_get_or, get_or-map, length-map}
use Rattle.std.proofs.lemmas.List.Elements.{filter-append}
use Rattle.std.proofs.lemmas.List.FromFn.{get_or-map-range_with_len, length-map-range_with_len}
use Rattle.std.proofs.lemmas.List.Sums.{sum_by-append}
use Rattle.event_graph.specs.declared.event.Event.{Event}
use Rattle.event_graph.specs.declared.fired.Fired.{Fired}
use Rattle.stats.specs.Counted.{wait_of}
use Rattle.profile.specs.Series.{waited_at, with_waits}
use Rattle.profile_rows.specs.Tallies.{capped_wide}
use Rattle.profile.proofs.RowsMore.{capped_wide_sum}
use Rattle.profile.proofs.Serving.{next_pair}

pub waits_long : (waits : List ℕ) (events : List (Event × Fired)) → length (with_waits waits events) ≡ length waits
waits_long waits events = length-map-range_with_len _ 0 (length waits)

there : (waits : List ℕ) (events : List (Event × Fired)) (i : ℕ) → i < length waits → get_or (with_waits waits events) i 0 ≡ get_or waits i 0 + waited_at events i
there waits events i lt = get_or-map-range_with_len (λ comp. get_or waits comp 0 + waited_at events comp) 0 (length waits) i i 0 lt (omega arith)

waited_both : (xs ys : List (Event × Fired)) (i : ℕ) → waited_at (xs ++ ys) i ≡ waited_at xs i + waited_at ys i
waited_both xs ys i = ap (λ (es : List (Event × Fired)). sum_by (λ x. wait_of x.0 x.1) es) (filter-append _ xs ys) ∙ sum_by-append (λ x. wait_of x.0 x.1) (filter _ xs) (filter _ ys)

-- no event waits
pub waits_none : (waits : List ℕ) → with_waits waits [] ≡ waits
waits_none waits = ext_get_or 0 (with_waits waits []) waits (waits_long waits []) (λ i lt. there waits [] i (omega (arith, lt, waits_long waits [])) ∙ omega arith)

-- some events wait, and then others
pub waits_both : (waits : List ℕ) (xs ys : List (Event × Fired)) → with_waits (with_waits waits xs) ys ≡ with_waits waits (xs ++ ys)
waits_both waits xs ys =
    ext_get_or 0 (with_waits (with_waits waits xs) ys) (with_waits waits (xs ++ ys)) (waits_long (with_waits waits xs) ys ∙ waits_long waits xs ∙ sym (waits_long waits (xs ++ ys))) (λ i lt. by i (omega (arith, lt, waits_long (with_waits waits xs) ys, waits_long waits xs)))
  where
    by : (i : ℕ) → i < length waits → get_or (with_waits (with_waits waits xs) ys) i 0 ≡ get_or (with_waits waits (xs ++ ys)) i 0
    by i lt =
        let second = there (with_waits waits xs) ys i (omega (arith, lt, waits_long waits xs)) in
        let first = there waits xs i lt in
        let all = there waits (xs ++ ys) i lt in
        let both = waited_both xs ys i in
        omega (arith, second, first, all, both)

-- one event waits
module _ (e : Event) (f : Fired) (old new sums : List ℕ) (old_is : old ≡ map capped_wide sums) (same : length new ≡ length old)
    (served : e.component < length old → get_or new e.component 0 ≡ capped_wide (get_or old e.component 0 + wait_of e f))
    (others : (i : ℕ) → i < length old → i ≢ e.component → get_or new i 0 ≡ get_or old i 0) where
  count : length old ≡ length sums
  count = ap length old_is ∙ length-map sums capped_wide

  before : (i : ℕ) → i < length sums → get_or old i 0 ≡ capped_wide (get_or sums i 0)
  before i lt = ap (λ (xs : List ℕ). get_or xs i 0) old_is ∙ get_or-map capped_wide sums i 0 0 lt

  one : (i : ℕ) → i < length sums → get_or new i 0 ≡ capped_wide (get_or sums i 0 + waited_at ((e, f) ∷ []) i)
  one i lt = by (eqb_tells e.component i)
    where
      by : ((e.component == i) ≡ true × (e.component ≡ i)) ⊎ ((e.component == i) ≡ false × (e.component ≢ i)) → get_or new i 0 ≡ capped_wide (get_or sums i 0 + waited_at ((e, f) ∷ []) i)
      by (inl (here, is)) =
          let now : get_or new i 0 ≡ capped_wide (get_or old i 0 + wait_of e f) =
          ap (λ (k : ℕ). get_or new k 0) (sym is) ∙ served (omega (arith, lt, is, count)) ∙ ap (λ (k : ℕ). capped_wide (get_or old k 0 + wait_of e f)) is
          in
          rw here (now ∙ ap (λ (n : ℕ). capped_wide (n + wait_of e f)) (before i lt) ∙ capped_wide_sum (get_or sums i 0) (wait_of e f) ∙ omega arith)
      by (inr (other, not)) = rw other (others i (omega (arith, lt, count)) (λ is. not (sym is)) ∙ before i lt ∙ omega arith)

  pub waits_one : new ≡ map capped_wide (with_waits sums ((e, f) ∷ []))
  waits_one =
      ext_get_or 0 new (map capped_wide (with_waits sums ((e, f) ∷ []))) (same ∙ count ∙ sym (length-map (with_waits sums ((e, f) ∷ [])) capped_wide ∙ waits_long sums ((e, f) ∷ []))) (λ i lt.
      let few : i < length sums = omega (arith, lt, same, count) in
      one i few
      ∙ ap capped_wide (sym (there sums ((e, f) ∷ []) i few))
      ∙ sym (get_or-map capped_wide (with_waits sums ((e, f) ∷ [])) i 0 0 (omega (arith, few, waits_long sums ((e, f) ∷ [])))))

-- the next of all events waits
pub waits_next : (events : List Event) (fired : List Fired) (place : ℕ) (e : Event) (f : Fired) (now new whole : List ℕ) → place < min (length events) (length fired)
    → new ≡ map capped_wide (with_waits now ((get_or events place e, get_or fired place f) ∷ []))
    → with_waits now (drop place (zip events fired)) ≡ whole
    → (more : List ℕ) × (new ≡ map capped_wide more) × (with_waits more (drop (place + 1) (zip events fired)) ≡ whole)
waits_next events fired place e f now new whole lt is so_far =
    let one : List (Event × Fired) = (get_or events place e, get_or fired place f) ∷ [] in
    (with_waits now one, is, waits_both now one (drop (place + 1) (zip events fired)) ∙ ap (with_waits now) (sym (next_pair events fired place e f lt)) ∙ so_far)
