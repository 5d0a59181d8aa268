-- The least ready event.
use Rattle.std.proofs.Common.{◌≡◌, ℕ, true, false, not, ◌&&◌, ◌⊎◌, inl, inr, List, [], ◌∷◌, Option, Some, None, sym, ◌∙◌, ap, subst, refl}
use Rattle.std.specs.Prelude.{slice_get}
use Rattle.std.proofs.lemmas.Bool.{and_from, and_parts, cases_eq, cond_both, false≢true, not-true, not_from_false}
use Rattle.event_graph.specs.declared.event.Event.{Event}
use Rattle.event_graph.specs.Firing.{IsNext}
use Rattle.event_graph.specs.Numbered.{IsNumbered}
use Rattle.event_graph.specs.OneListWeave.{FiredEvent, earlier, finish_in, is_event_before, is_fired, is_parent_fired, is_ready, least_ready, start_of}
use Rattle.event_graph.proofs.FindFired.{AreParentsFired}
use Rattle.event_graph.proofs.Lists.{In, contains_in, in_at, in_contains}
use Rattle.event_graph.proofs.Order.{before_from_not, not_before_from, not_before_itself, not_before_trans}

-- two events of one number are one
pub same_event : (events : List Event) → IsNumbered events → (a b : Event) → In a events → In b events → a.number ≡ b.number → a ≡ b
same_event events numbered a b ma mb e =
    let ia : (i : ℕ) × (slice_get events i ≡ Some a) = in_at a events ma in
    let ib : (i : ℕ) × (slice_get events i ≡ Some b) = in_at b events mb in
    let na : a.number ≡ ia.0 = numbered.number ia.0 a ia.1 in
    let nb : b.number ≡ ib.0 = numbered.number ib.0 b ib.1 in
    let same : ia.0 ≡ ib.0 = sym na ∙ (e ∙ nb) in
    let k : slice_get events ib.0 ≡ Some a = subst (λ i. slice_get events i ≡ Some a) same ia.1 in
    cc

pub ready_parts : (fired : List FiredEvent) (e : Event) → is_ready fired e ≡ true → (is_fired fired e.number ≡ false) × AreParentsFired fired e
ready_parts fired e h =
    let a : (not (is_fired fired e.number) ≡ true) × ((is_parent_fired fired e.first && is_parent_fired fired e.second) ≡ true) = and_parts _ _ h in
    (not-true _ a.0, and_parts _ _ a.1)

pub ready_from : (fired : List FiredEvent) (e : Event) → is_fired fired e.number ≡ false → AreParentsFired fired e → is_ready fired e ≡ true
ready_from fired e f p = and_from _ _ (not_from_false _ f) (and_from _ _ p.0 p.1)

pair_same : {A B : Type 0} (p : A × B) (c : A) (d : B) → p.0 ≡ c → p.1 ≡ d → p ≡ (c, d)
pair_same (a, b) c d e f = cc

-- a ready event with its start, than which no ready event is earlier
pub record IsLeast (fired : List FiredEvent) (events : List Event) (e : Event) (s : ℕ) : Type 0 where
  pub member : In e events
  pub ready : is_ready fired e ≡ true
  pub start_is : s ≡ start_of (finish_in fired) e
  pub least : (y : Event) → In y events → is_ready fired y ≡ true → is_event_before y (start_of (finish_in fired) y) e s ≡ false

pub least_none : (fired : List FiredEvent) (events : List Event) → least_ready fired events ≡ None → (y : Event) → In y events → is_ready fired y ≡ false
least_none fired [] h y m = absurd m
least_none fired (e ∷ es) h y m =
    cond_both (is_ready fired e) (Some (earlier (e, start_of (finish_in fired) e) (least_ready fired es))) (least_ready fired es) (λ o. o ≡ None → is_ready fired y ≡ false)
    (λ _ k. absurd (cc))
    (λ f k. elim m [ inl same ↦ ap (λ z. is_ready fired z) (sym same) ∙ f | inr rest ↦ least_none fired es k y rest ])
    h

-- the first event isn't ready
skip : (fired : List FiredEvent) (e : Event) (es : List Event) (r : Event × ℕ) → is_ready fired e ≡ false → IsLeast fired es r.0 r.1 → IsLeast fired (e ∷ es) r.0 r.1
skip fired e es r f l = record {
  member = inr l.member;
  ready = l.ready;
  start_is = l.start_is;
  least = λ y m k. elim m [ inl same ↦ absurd (false≢true (sym f ∙ (ap (λ z. is_ready fired z) same ∙ k))) | inr rest ↦ l.least y rest k ];
}

-- it is ready, and none of the rest is earlier
first : (fired : List FiredEvent) (e : Event) (es : List Event) → is_ready fired e ≡ true
    → ((y : Event) → In y es → is_ready fired y ≡ true → is_event_before y (start_of (finish_in fired) y) e (start_of (finish_in fired) e) ≡ false)
    → IsLeast fired (e ∷ es) e (start_of (finish_in fired) e)
first fired e es t h = record {
  member = inl refl;
  ready = t;
  start_is = refl;
  least = λ y m k. elim m [
    | inl same ↦ subst (λ z. is_event_before z (start_of (finish_in fired) z) e (start_of (finish_in fired) e) ≡ false) same (not_before_itself e (start_of (finish_in fired) e))
    | inr rest ↦ h y rest k
  ];
}

-- it is ready, and the least of the rest is earlier
other : (fired : List FiredEvent) (e : Event) (es : List Event) (b : Event × ℕ) → is_event_before b.0 b.1 e (start_of (finish_in fired) e) ≡ true → IsLeast fired es b.0 b.1 → IsLeast fired (e ∷ es) b.0 b.1
other fired e es b t l = record {
  member = inr l.member;
  ready = l.ready;
  start_is = l.start_is;
  least = λ y m k. elim m [
    | inl same ↦ subst (λ z. is_event_before z (start_of (finish_in fired) z) b.0 b.1 ≡ false) same (not_before_from b.0 b.1 e (start_of (finish_in fired) e) t)
    | inr rest ↦ l.least y rest k
  ];
}

head : (fired : List FiredEvent) (e : Event) (es : List Event) → is_ready fired e ≡ true → (o : Option (Event × ℕ)) → least_ready fired es ≡ o → ((r : Event × ℕ) → o ≡ Some r → IsLeast fired es r.0 r.1)
    → (r : Event × ℕ) → Some (earlier (e, start_of (finish_in fired) e) o) ≡ Some r → IsLeast fired (e ∷ es) r.0 r.1
head fired e es t None is ih r k =
    let same : (e, start_of (finish_in fired) e) ≡ r = cc in
    subst (λ (z : Event × ℕ). IsLeast fired (e ∷ es) z.0 z.1) same (first fired e es t (λ y m h. absurd (false≢true (sym (least_none fired es is y m) ∙ h))))
head fired e es t (Some b) is ih r k =
    let l : IsLeast fired es b.0 b.1 = ih b refl in
    cond_both (is_event_before b.0 b.1 e (start_of (finish_in fired) e)) b (e, start_of (finish_in fired) e) (λ z. Some z ≡ Some r → IsLeast fired (e ∷ es) r.0 r.1)
    (λ before q. let same : b ≡ r = cc in subst (λ (z : Event × ℕ). IsLeast fired (e ∷ es) z.0 z.1) same (other fired e es b before l))
    (λ before q.
    let same : (e, start_of (finish_in fired) e) ≡ r = cc in
    subst (λ (z : Event × ℕ). IsLeast fired (e ∷ es) z.0 z.1) same
    (first fired e es t (λ y m h. not_before_trans y (start_of (finish_in fired) y) b.0 b.1 e (start_of (finish_in fired) e) (l.least y m h) before)))
    k

pub least_some : (fired : List FiredEvent) (events : List Event) (r : Event × ℕ) → least_ready fired events ≡ Some r → IsLeast fired events r.0 r.1
least_some fired [] r h = absurd (cc)
least_some fired (e ∷ es) r h =
    cond_both (is_ready fired e) (Some (earlier (e, start_of (finish_in fired) e) (least_ready fired es))) (least_ready fired es) (λ o. o ≡ Some r → IsLeast fired (e ∷ es) r.0 r.1)
    (λ t k. head fired e es t (least_ready fired es) refl (λ z q. least_some fired es z q) r k)
    (λ f k. skip fired e es r f (least_some fired es r k))
    h

least_is_by : (fired : List FiredEvent) (events : List Event) (e : Event) → In e events → is_ready fired e ≡ true
    → ((y : Event) → In y events → is_ready fired y ≡ true → (y ≡ e) ⊎ (is_event_before e (start_of (finish_in fired) e) y (start_of (finish_in fired) y) ≡ true))
    → (o : Option (Event × ℕ)) → least_ready fired events ≡ o → o ≡ Some (e, start_of (finish_in fired) e)
least_is_by fired events e m t h None is = absurd (false≢true (sym (least_none fired events is e m) ∙ t))
least_is_by fired events e m t h (Some r) is =
    let l : IsLeast fired events r.0 r.1 = least_some fired events r is in
    elim (h r.0 l.member l.ready) [
      | inl same ↦
          let s : r.1 ≡ start_of (finish_in fired) e = l.start_is ∙ ap (λ z. start_of (finish_in fired) z) same in
          ap (λ z. Some z) (pair_same r e (start_of (finish_in fired) e) same s)
      | inr before ↦
          absurd (false≢true (sym (l.least e m t) ∙ subst (λ n. is_event_before e (start_of (finish_in fired) e) r.0 n ≡ true) (sym l.start_is) before))
    ]

-- an event that is ready, and before each other ready one, is the least
pub least_is : (fired : List FiredEvent) (events : List Event) (e : Event) → In e events → is_ready fired e ≡ true
    → ((y : Event) → In y events → is_ready fired y ≡ true → (y ≡ e) ⊎ (is_event_before e (start_of (finish_in fired) e) y (start_of (finish_in fired) y) ≡ true))
    → least_ready fired events ≡ Some (e, start_of (finish_in fired) e)
least_is fired events e m t h = least_is_by fired events e m t h (least_ready fired events) refl

-- the least ready event is the next
pub next_from_least : (fired : List FiredEvent) (events : List Event) → IsNumbered events → (x : FiredEvent) → IsLeast fired events x.event x.start → IsNext fired events x
next_from_least fired events numbered x l = record {
  event = contains_in x.event events l.member;
  ready = l.ready;
  start = l.start_is;
  first = λ y m ready.
      let k : In y events = in_contains y events m in
      elim (cases_eq y.number x.event.number) [
        | inl same ↦ inl (same_event events numbered y x.event k l.member same)
        | inr apart ↦ inr (before_from_not x.event x.start y (start_of (finish_in fired) y) (l.least y k ready) (λ q. apart (sym q)))
      ];
}
