-- While the events of an interval are served: what one event more does.
use Rattle.std.proofs.Common.{◌≡◌, ◌≢◌, ℕ, zero, suc, ◌+◌, ◌<◌, ◌≤◌, ◌&&◌, ◌==◌, Bool, true, false, List, [], ◌∷◌, ◌++◌, if◌then◌else◌, map, drop, length, min, get_or, Option, Some, refl, sym, ◌∙◌, ap, subst, arith, append_assoc, append-nil, add-one, ◌⊎◌, inl, inr}
use Rattle.std.specs.List.{zip}
use Rattle.std.proofs.lemmas.Bool.Decides.{eqb_tells, nat_tests}
use Rattle.std.proofs.lemmas.List.{map-append}
use Rattle.event_graph.specs.declared.event.Event.{Event}
use Rattle.event_graph.specs.declared.fired.Fired.{Fired}
use Rattle.profile.specs.declared.contribution.Contribution.{Contribution}
use Rattle.profile.specs.declared.contribution.Maker.{Maker}
use Rattle.profile.specs.declared.parts.Parts.{Parts}
use Rattle.profile.specs.Contributions.{wait_adds}
use Rattle.profile.specs.Makers.{HaveMakers, head, of_core, queue_at, tail}
use Rattle.profile.specs.Parts.{IsServing}
use Rattle.profile.specs.Rows.{AreRows}
use Rattle.profile.specs.Waits.{Wait, event_waits, first_of, wait_for, without_first}

first_is : (core : ℕ) (makers : List Maker) → first_of core makers ≡ head (of_core core makers)
first_is core [] = refl
first_is core (m ∷ makers) = by (first_is core makers) (m.core == core)
  where
    by : first_of core makers ≡ head (of_core core makers) → (b : Bool) → (if b then Some m else first_of core makers) ≡ head (if b then m ∷ of_core core makers else of_core core makers)
    by rest true = refl
    by rest false = rest

without_own : (core : ℕ) (makers : List Maker) → of_core core (without_first core makers) ≡ tail (of_core core makers)
without_own core [] = refl
without_own core (m ∷ makers) = by (without_own core makers) (eqb_tells m.core core)
  where
    by : of_core core (without_first core makers) ≡ tail (of_core core makers) → ((m.core == core) ≡ true × (m.core ≡ core)) ⊎ ((m.core == core) ≡ false × (m.core ≢ core)) → of_core core (without_first core (m ∷ makers)) ≡ tail (of_core core (m ∷ makers))
    by rest (inl (same, is)) = rw same refl
    by rest (inr (other, not)) = rw (other, other) rest

without_other : (core c : ℕ) (makers : List Maker) → core ≢ c → of_core c (without_first core makers) ≡ of_core c makers
without_other core c [] ne = refl
without_other core c (m ∷ makers) ne = grind (arith, nat_tests, ne, without_other core c makers ne)

let_go : (event : Event) (queues new : List (List Maker)) (makers : List Maker)
    → HaveMakers queues makers
    → ((c : ℕ) → queue_at new c ≡ (if event.critical && event.core == c then tail (queue_at queues c) else queue_at queues c))
    → HaveMakers new (if event.critical then without_first event.core makers else makers)
let_go event queues new makers have step core = step core ∙ by event.critical (eqb_tells event.core core)
  where
    by : (b : Bool) → ((event.core == core) ≡ true × (event.core ≡ core)) ⊎ ((event.core == core) ≡ false × (event.core ≢ core))
        → (if b && event.core == core then tail (queue_at queues core) else queue_at queues core) ≡ of_core core (if b then without_first event.core makers else makers)
    by false own = have core
    by true (inl (same, is)) = rw same (ap tail (have core) ∙ sym (without_own core makers) ∙ ap (λ (k : ℕ). of_core core (without_first k makers)) (sym is))
    by true (inr (other, not)) = rw other (have core ∙ sym (without_other event.core core makers not))

module _ (event : Event) (fired : Fired) (old new : Parts) (first : Option Maker)
    (first_found : first ≡ head (queue_at old.makers.items event.core))
    (given : (cs : List Contribution) → AreRows cs old.rows.addresses.items old.rows.lines.items → AreRows (cs ++ map wait_adds (wait_for first event fired)) new.rows.addresses.items new.rows.lines.items)
    (gone : (c : ℕ) → queue_at new.makers.items c ≡ (if event.critical && event.core == c then tail (queue_at old.makers.items c) else queue_at old.makers.items c)) where
  pub serving_more : (whole : List Contribution) (left : List (Event × Fired)) → IsServing whole ((event, fired) ∷ left) old → IsServing whole left new
  serving_more whole left s =
      let after : List Maker = if event.critical then without_first event.core s.makers else s.makers in
      let waits : List Wait = wait_for (first_of event.core s.makers) event fired in
      let is_first : first ≡ first_of event.core s.makers = first_found ∙ ap head (s.queues event.core) ∙ sym (first_is event.core s.makers) in
      record {
        makers = after;
        cs = s.cs ++ map wait_adds waits;
        queues = let_go event old.makers.items new.makers.items s.makers s.queues gone;
        rows = subst (λ (f : Option Maker). AreRows (s.cs ++ map wait_adds (wait_for f event fired)) new.rows.addresses.items new.rows.lines.items) is_first (given s.cs s.rows);
        is = append_assoc s.cs (map wait_adds waits) (map wait_adds (event_waits after left)) ∙ ap (λ (cs : List Contribution). s.cs ++ cs) (sym (map-append wait_adds waits (event_waits after left))) ∙ s.is;
      }

next : (events : List Event) (fired : List Fired) (place : ℕ) (e : Event) (f : Fired) → place < length events → place < length fired
    → drop place (zip events fired) ≡ (get_or events place e, get_or fired place f) ∷ drop (suc place) (zip events fired)
next [] fired place e f lt few = absurd (omega (arith, lt))
next (x ∷ events) [] place e f lt few = absurd (omega (arith, few))
next (x ∷ events) (y ∷ fired) zero e f lt few = refl
next (x ∷ events) (y ∷ fired) (suc place) e f lt few = next events fired place e f (omega (arith, lt)) (omega (arith, few))

pub next_pair : (events : List Event) (fired : List Fired) (place : ℕ) (e : Event) (f : Fired) → place < min (length events) (length fired)
    → drop place (zip events fired) ≡ (get_or events place e, get_or fired place f) ∷ drop (place + 1) (zip events fired)
next_pair events fired place e f lt = rw add-one (next events fired place e f (omega (arith, lt)) (omega (arith, lt)))

pub no_more : (events : List Event) (fired : List Fired) (n : ℕ) → min (length events) (length fired) ≤ n → drop n (zip events fired) ≡ []
no_more [] fired zero le = refl
no_more [] fired (suc n) le = refl
no_more (x ∷ events) [] zero le = refl
no_more (x ∷ events) [] (suc n) le = refl
no_more (x ∷ events) (y ∷ fired) zero le = absurd (omega (arith, le))
no_more (x ∷ events) (y ∷ fired) (suc n) le = no_more events fired n (omega (arith, le))

pub all_served : (whole : List Contribution) (left : List (Event × Fired)) (p : Parts) → left ≡ [] → IsServing whole left p → AreRows whole p.rows.addresses.items p.rows.lines.items
all_served whole left p none s =
    subst (λ (cs : List Contribution). AreRows cs p.rows.addresses.items p.rows.lines.items)
    (sym (append-nil s.cs) ∙ ap (λ (l : List (Event × Fired)). s.cs ++ map wait_adds (event_waits s.makers l)) (sym none) ∙ s.is) s.rows
