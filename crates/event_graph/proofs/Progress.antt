-- Each event fires: while one is unfired, one is ready.
use Rattle.std.proofs.Common.{◌≡◌, ◌+◌, ◌≤◌, ◌<◌, ℕ, zero, suc, Bool, true, false, not, List, [], ◌∷◌, ◌++◌, length, ◌⊎◌, inl, inr, Option, Some, None, sym, ◌∙◌, ap, subst, refl, arith}
use Rattle.std.specs.Prelude.{slice_get}
use Rattle.std.proofs.lemmas.Bool.{cases_Bool, cases_eq, false≢true, not-false, not-true, not_from_false, not_from_true}
use Rattle.component.specs.declared.kind.Kind.{Kind}
use Rattle.event_graph.specs.declared.event.Event.{Event}
use Rattle.event_graph.specs.declared.event.Parent.{Parent}
use Rattle.event_graph.specs.Numbered.{IsNumbered}
use Rattle.event_graph.specs.OneListWeave.{FiredEvent, Weave, after_firings, fire, fire_least, is_fired, is_parent_fired, least_ready, served, weave}
use Rattle.event_graph.proofs.FindFired.{fired_in, is_fired_from_in}
use Rattle.event_graph.proofs.Least.{IsLeast, least_none, least_some, ready_from, ready_parts}
use Rattle.event_graph.proofs.Lists.{In, at_in, count, count_all, count_less, count_none, in_at, in_left, in_push}
use Rattle.event_graph.proofs.BetweenFirings.{HoldsBetween, IsLawful, IsServed, holds_after, holds_at_first}

abbrev pub AllFired : List FiredEvent → List Event → Type 0
AllFired fired events = (e : Event) → In e events → is_fired fired e.number ≡ true

pub get_below : {X : Type 0} (xs : List X) (i j : ℕ) (x : X) → slice_get xs i ≡ Some x → j < i → (y : X) × (slice_get xs j ≡ Some y)
get_below [] i j x h l = absurd (cc)
get_below (z ∷ xs) zero j x h l = absurd (omega arith)
get_below (z ∷ xs) (suc i) zero x h l = (z, refl)
get_below (z ∷ xs) (suc i) (suc j) x h l = get_below xs i j x h (omega (arith, l))

parent_fired : (fired : List FiredEvent) (o : Option Parent) → ((p : Parent) → o ≡ Some p → is_fired fired p.number ≡ true) → is_parent_fired fired o ≡ true
parent_fired fired None h = refl
parent_fired fired (Some p) h = h p refl

unfired_before : (x : Event) (fired : List FiredEvent) (next : FiredEvent) → is_fired (fired ++ next ∷ []) x.number ≡ false → is_fired fired x.number ≡ false
unfired_before x fired next f =
    elim (cases_Bool (is_fired fired x.number)) [
      | inl t ↦
          let r : (y : FiredEvent) × (In y fired × (y.event.number ≡ x.number)) = fired_in fired x.number t in
          absurd (false≢true (sym f ∙ is_fired_from_in (fired ++ next ∷ []) r.0 x.number (in_left r.0 fired (next ∷ []) r.1.0) r.1.1))
      | inr k ↦ k
    ]

-- an event of each number below an event's
pub event_below : (events : List Event) → IsNumbered events → (e : Event) → In e events → (n : ℕ) → n < e.number → (q : Event) × (In q events × (q.number ≡ n))
event_below events numbered e m n l =
    let at : (i : ℕ) × (slice_get events i ≡ Some e) = in_at e events m in
    let number : e.number ≡ at.0 = numbered.number at.0 e at.1 in
    let q : (y : Event) × (slice_get events n ≡ Some y) = get_below events at.0 n e at.1 (omega arith) in
    (q.0, (at_in q.0 events n q.1, numbered.number n q.0 q.1))

pub first_below : (events : List Event) → IsNumbered events → (e : Event) → In e events → (p : Parent) → e.first ≡ Some p → p.number < e.number
first_below events numbered e m p h =
    let at : (i : ℕ) × (slice_get events i ≡ Some e) = in_at e events m in
    omega (arith, numbered.number at.0 e at.1, numbered.first at.0 e p at.1 h)

pub second_below : (events : List Event) → IsNumbered events → (e : Event) → In e events → (p : Parent) → e.second ≡ Some p → p.number < e.number
second_below events numbered e m p h =
    let at : (i : ℕ) × (slice_get events i ≡ Some e) = in_at e events m in
    omega (arith, numbered.number at.0 e at.1, numbered.second at.0 e p at.1 h)

all_below : (events : List Event) → IsNumbered events → (fired : List FiredEvent) → least_ready fired events ≡ None
    → (n : ℕ) (e : Event) → In e events → e.number < n → is_fired fired e.number ≡ true
all_below events numbered fired none zero e m l = absurd (omega arith)
all_below events numbered fired none (suc n) e m l =
    let parent : (p : Parent) → p.number < e.number → is_fired fired p.number ≡ true =
    λ p k.
    let q : (q : Event) × (In q events × (q.number ≡ p.number)) = event_below events numbered e m p.number k in
    subst (λ z. is_fired fired z ≡ true) q.1.1 (all_below events numbered fired none n q.0 q.1.0 (omega (arith, q.1.1, k, l)))
    in
    elim (cases_Bool (is_fired fired e.number)) [
      | inl t ↦ t
      | inr f ↦
          absurd (false≢true (sym (least_none fired events none e m)
          ∙ ready_from fired e f (
            parent_fired fired e.first (λ p h. parent p (first_below events numbered e m p h)),
            parent_fired fired e.second (λ p h. parent p (second_below events numbered e m p h)),
          )))
    ]

pub all_fired_from_none : (events : List Event) → IsNumbered events → (fired : List FiredEvent) → least_ready fired events ≡ None → AllFired fired events
all_fired_from_none events numbered fired none e m = all_below events numbered fired none (suc e.number) e m (omega arith)

none_from_all_by : (events : List Event) (fired : List FiredEvent) → AllFired fired events → (o : Option (Event × ℕ)) → least_ready fired events ≡ o → o ≡ None
none_from_all_by events fired all None is = refl
none_from_all_by events fired all (Some r) is =
    let l : IsLeast fired events r.0 r.1 = least_some fired events r is in
    absurd (false≢true (sym (ready_parts fired r.0 l.ready).0 ∙ all r.0 l.member))

pub none_from_all : (events : List Event) (fired : List FiredEvent) → AllFired fired events → least_ready fired events ≡ None
none_from_all events fired all = none_from_all_by events fired all (least_ready fired events) refl

module _ {C : Type 0} (serves : C → Kind → Bool) (stepped : C → Kind → ℕ → C × ℕ) (events : List Event) (comps : List C) where
  pub fire_least_stays : (w : Weave C) → least_ready w.fired events ≡ None → fire_least stepped events w ≡ w
  unfolding fire_least
  fire_least_stays w h = ap (λ o. fire stepped w o) h

  pub fire_least_serves : (w : Weave C) (r : Event × ℕ) (c : C) → least_ready w.fired events ≡ Some r → slice_get w.comps r.0.component ≡ Some c → fire_least stepped events w ≡ served stepped w r.0 r.1 (Some c)
  unfolding fire_least
  fire_least_serves w r c h k = ap (λ o. fire stepped w o) h ∙ ap (λ o. served stepped w r.0 r.1 o) k

  pub after_first_firing : after_firings stepped events comps 0 ≡ record { fired = []; comps = comps }
  unfolding after_firings
  after_first_firing = refl

  pub after_more : (n : ℕ) → after_firings stepped events comps (suc n) ≡ fire_least stepped events (after_firings stepped events comps n)
  unfolding after_firings
  after_more n = refl

  module _ (lawful : IsLawful serves stepped) (numbered : IsNumbered events) (fits : (e : Event) → In e events → IsServed serves comps e) where
    holds_firing_by : (w : Weave C) → HoldsBetween serves stepped events comps w → (o : Option (Event × ℕ)) → least_ready w.fired events ≡ o → HoldsBetween serves stepped events comps (fire_least stepped events w)
    holds_firing_by w h None is = subst (λ v. HoldsBetween serves stepped events comps v) (sym (fire_least_stays w is)) h
    holds_firing_by w h (Some r) is =
        let l : IsLeast w.fired events r.0 r.1 = least_some w.fired events r is in
        let f : IsServed serves w.comps r.0 = h.are_served r.0 l.member in
        subst (λ v. HoldsBetween serves stepped events comps v) (sym (fire_least_serves w r f.0 is f.1.0))
        (holds_after serves stepped events comps lawful numbered w r.0 r.1 f.0 h l f.1.0)

    pub holds : (n : ℕ) → HoldsBetween serves stepped events comps (after_firings stepped events comps n)
    holds zero = subst (λ v. HoldsBetween serves stepped events comps v) (sym after_first_firing) (holds_at_first serves stepped events comps fits)
    holds (suc n) =
        subst (λ v. HoldsBetween serves stepped events comps v) (sym (after_more n))
        (holds_firing_by (after_firings stepped events comps n) (holds n) (least_ready (after_firings stepped events comps n).fired events) refl)

    -- how many events are unfired
    abbrev pub unfired : List FiredEvent → ℕ
    unfired fired = count (λ e. not (is_fired fired e.number)) events

    fewer_by : (w : Weave C) → HoldsBetween serves stepped events comps w → (o : Option (Event × ℕ)) → least_ready w.fired events ≡ o
        → AllFired w.fired events ⊎ (unfired (fire_least stepped events w).fired + 1 ≤ unfired w.fired)
    fewer_by w h None is = inl (all_fired_from_none events numbered w.fired is)
    fewer_by w h (Some r) is =
        let l : IsLeast w.fired events r.0 r.1 = least_some w.fired events r is in
        let f : IsServed serves w.comps r.0 = h.are_served r.0 l.member in
        let next : FiredEvent = record { event = r.0; start = r.1; finish = (stepped f.0 r.0.kind r.1).1 } in
        inr (subst (λ v. unfired v.fired + 1 ≤ unfired w.fired) (sym (fire_least_serves w r f.0 is f.1.0))
        (count_less (λ e. not (is_fired w.fired e.number)) (λ e. not (is_fired (w.fired ++ next ∷ []) e.number)) events r.0 l.member
        (not_from_false _ (ready_parts w.fired r.0 l.ready).0)
        (not_from_true _ (is_fired_from_in (w.fired ++ next ∷ []) next r.0.number (in_push w.fired next) refl))
        (λ x k. not_from_false _ (unfired_before x w.fired next (not-true _ k)))))

    progress : (n : ℕ) → AllFired (after_firings stepped events comps n).fired events ⊎ (unfired (after_firings stepped events comps n).fired + n ≤ length events)
    progress zero = inr (omega (arith, count_all (λ e. not (is_fired (after_firings stepped events comps 0).fired e.number)) events))
    progress (suc n) =
        let w : Weave C = after_firings stepped events comps n in
        let more : after_firings stepped events comps (suc n) ≡ fire_least stepped events w = after_more n in
        let stay : AllFired w.fired events → AllFired (after_firings stepped events comps (suc n)).fired events =
        λ all. subst (λ v. AllFired v.fired events) (sym (more ∙ fire_least_stays w (none_from_all events w.fired all))) all
        in
        elim (progress n) [
          | inl all ↦ inl (stay all)
          | inr few ↦ elim (fewer_by w (holds n) (least_ready w.fired events) refl) [
            | inl all ↦ inl (stay all)
            | inr fewer ↦ inr (subst (λ v. unfired v.fired + suc n ≤ length events) (sym more) (omega (arith, few, fewer)))
          ]
        ]

    -- after as many firings as there are events, all fired
    pub all_fired : AllFired (weave stepped events comps).fired events
    all_fired =
        elim (progress (length events)) [
          | inl all ↦ all
          | inr few ↦ λ e m. not-false _ (count_none (λ x. not (is_fired (weave stepped events comps).fired x.number)) events (omega (arith, few)) e m)
        ]

    -- then nothing changes any more
    pub stays : (n : ℕ) → AllFired (after_firings stepped events comps n).fired events → (m : ℕ) → n ≤ m → after_firings stepped events comps m ≡ after_firings stepped events comps n
    stays n all zero l = ap (λ k. after_firings stepped events comps k) (omega arith)
    stays n all (suc m) l =
        elim (cases_eq n (suc m)) [
          | inl same ↦ ap (λ k. after_firings stepped events comps k) (sym same)
          | inr apart ↦
              after_more m ∙ (ap (λ w. fire_least stepped events w) (stays n all m (omega arith)) ∙ fire_least_stays (after_firings stepped events comps n) (none_from_all events (after_firings stepped events comps n).fired all))
        ]
