-- The least start of a ready event, and what it is told to all domains.
use Rattle.std.proofs.Common.{◌≡◌, ◌+◌, ◌<◌, ◌≤◌, ◌^◌, ℕ, zero, suc, Bool, min, List, [], ◌∷◌, ◌++◌, length, set, drop, Option, Some, None, slice_get, sym, ◌∙◌, ap, refl, inl, inr, arith, length-set}
use Rattle.std.proofs.lemmas.Bool.{cases_lt, cases_eq}
use Rattle.std.proofs.lemmas.List.{length-map}
use Rattle.std.proofs.lemmas.Option.{same_Some, none-some, slice_get-map, slice_get_within}
use Rattle.std.specs.List.{enumerate_from}
use Rattle.std.specs.Option.{option_map, option_map_or, option_to_list}
use Rattle.std.specs.Prelude.{IfSome}
use Rattle.zs_num.specs.declared.time.Key.{Key}
use Rattle.component.specs.declared.kind.Kind.{Kind}
use Rattle.event_graph.specs.declared.event.Event.{Event}
use Rattle.domain_map.specs.Domains.{Partition}
use Rattle.weave_core.specs.AtBarrier.{least_start_of}
use Rattle.weave_core.specs.DomainCalls.{DomainValue, earliest_of}
use Rattle.weave_core.specs.DomainMachine.{DomainState, least, next_in, ready_starts, with_floor}
use Rattle.weave_core.specs.Keeping.{KeepingLaws, owns_of}
use Rattle.weave_run.specs.Rounds.{AllKeep, CanWeavePlan, with_floors}
use Rattle.weave_run.specs.declared.plan.Plan.{Plan}
use Rattle.weave_run.proofs.Tellings.{get_set_other, get_set_same}

-- the lesser of two cycles, where there are two
abbrev pub lesser : Option ℕ → Option ℕ → Option ℕ
lesser None z = z
lesser (Some a) z = Some (option_map_or (min a) z a)

abbrev pub with_start : Option ℕ → Option ℕ → Option ℕ
with_start front None = front
with_start front (Some start) = Some (option_map_or (min start) front start)

lesser_step : (front o : Option ℕ) (ns : List ℕ) → lesser front (least (option_to_list o ++ ns)) ≡ lesser (with_start front o) (least ns)
lesser_step front None ns = refl
lesser_step front (Some s) ns = by_cases front (least ns)
  where
    some_same : (a b : ℕ) → a ≡ b → ◌≡◌ {A = Option ℕ} (Some a) (Some b)
    some_same a b e = ap (λ (n : ℕ). Some n) e

    by_cases : (f z : Option ℕ) → lesser f (Some (option_map_or (min s) z s)) ≡ lesser (Some (option_map_or (min s) f s)) z
    by_cases None None = refl
    by_cases None (Some c) = refl
    by_cases (Some a) None = some_same (min a s) (min s a) (omega arith)
    by_cases (Some a) (Some c) = some_same (min a (min s c)) (min (min s a) c) (omega arith)

lesser_none : (front : Option ℕ) → lesser front None ≡ front
lesser_none None = refl
lesser_none (Some a) = refl

-- the starts from a number on
abbrev pub starts_from : List Event → Partition → List DomainState → (number : ℕ) → Option ℕ
starts_from events p owns number = least (ready_starts events p (enumerate_from number (drop number owns)))

pub drop_step : {X : Type 0} (xs : List X) (n m : ℕ) (x : X) → m ≡ suc n → slice_get xs n ≡ Some x → drop n xs ≡ x ∷ drop m xs
drop_step [] n m x e h = absurd (none-some x h)
drop_step (y ∷ xs) zero m x e h = ap (λ (z : _). z ∷ xs) (same_Some y x h) ∙ ap (λ (k : ℕ). x ∷ drop k (y ∷ xs)) (sym e)
drop_step (y ∷ xs) (suc n) m x e h = drop_step xs n (suc n) x refl h ∙ ap (λ (k : ℕ). x ∷ drop k (y ∷ xs)) (sym e)

pub drop_all : {X : Type 0} (xs : List X) (n : ℕ) → length xs ≤ n → drop n xs ≡ []
drop_all [] zero l = refl
drop_all [] (suc n) l = refl
drop_all (x ∷ xs) zero l = absurd (omega arith)
drop_all (x ∷ xs) (suc n) l = drop_all xs n (omega arith)

pub front_step : (events : List Event) (p : Partition) (owns : List DomainState) (front : Option ℕ) (number : ℕ) (own : DomainState) → slice_get owns number ≡ Some own
    → lesser front (starts_from events p owns number) ≡ least_start_of events p owns
    → lesser (with_start front (option_map (λ (next : Event × ℕ). next.1) (next_in events p number own))) (starts_from events p owns (number + 1)) ≡ least_start_of events p owns
front_step events p owns front number own at h =
    sym (lesser_step front (option_map (λ (next : Event × ℕ). next.1) (next_in events p number own)) (ready_starts events p (enumerate_from (number + 1) (drop (number + 1) owns))))
    ∙ (ap (λ (xs : List DomainState). lesser front (least (ready_starts events p (enumerate_from number xs)))) (sym (drop_step owns number (number + 1) own (omega arith) at)) ∙ h)

pub front_end : (events : List Event) (p : Partition) (owns : List DomainState) (front : Option ℕ) (number : ℕ) → length owns ≤ number
    → lesser front (starts_from events p owns number) ≡ least_start_of events p owns → front ≡ least_start_of events p owns
front_end events p owns front number l h =
    sym (lesser_none front) ∙ (ap (λ (xs : List DomainState). lesser front (least (ready_starts events p (enumerate_from number xs)))) (sym (drop_all owns number l)) ∙ h)

-- the front so far
pub record IsFrontSo {C : Type 0} (plan : Plan C) (vs : List (DomainValue C)) (index : ℕ) (front : Option ℕ) : Type 0 where
  pub front_is : lesser front (starts_from plan.graph.value plan.parts.value (owns_of vs) index) ≡ least_start_of plan.graph.value plan.parts.value (owns_of vs)
  pub small : IfSome front (λ start. start ≤ 2 ^ 62)

pub no_front : {C : Type 0} (plan : Plan C) (vs : List (DomainValue C)) → IsFrontSo plan vs 0 None
no_front plan vs = record { front_is = refl; small = tt }

pub whole_front : {C : Type 0} (plan : Plan C) (vs : List (DomainValue C)) (index : ℕ) (front : Option ℕ) → length vs ≤ index → IsFrontSo plan vs index front
    → front ≡ least_start_of plan.graph.value plan.parts.value (owns_of vs)
whole_front {C} plan vs index front l h = front_end plan.graph.value plan.parts.value (owns_of vs) front index (omega (arith, l, length-map vs (λ (v : DomainValue C). v.own))) h.front_is

module _ {C : Type 0} (serves : C → Kind → Bool) (floor : C → Kind → ℕ) (stepped : C → Kind → ℕ → C × ℕ) (greatest : C → Kind → ℕ → ℕ) (laws : KeepingLaws serves floor stepped greatest)
    (plan : Plan C) (can : CanWeavePlan serves floor stepped greatest plan) (vs : List (DomainValue C)) (k : AllKeep stepped plan vs) (index : ℕ) (v : DomainValue C) (at : slice_get vs index ≡ Some v) (front : Option ℕ) (h : IsFrontSo plan vs index front) where
  own_at_index : slice_get (owns_of vs) index ≡ Some v.own
  own_at_index = slice_get-map (λ (w : DomainValue C). w.own) vs index ∙ ap (option_map (λ (w : DomainValue C). w.own)) at

  earliest_is : earliest_of v.events v.partition v.domain v.own ≡ earliest_of plan.graph.value plan.parts.value index v.own
  earliest_is = ap (λ (w : DomainValue C). earliest_of w.events w.partition w.domain v.own) (k.each index v at).is

  pub front_past : earliest_of v.events v.partition v.domain v.own ≡ None → IsFrontSo plan vs (index + 1) front
  front_past none = by_next (next_in plan.graph.value plan.parts.value index v.own) refl
    where
      by_next : (o : Option (Event × ℕ)) → next_in plan.graph.value plan.parts.value index v.own ≡ o → IsFrontSo plan vs (index + 1) front
      by_next None e = record {
        front_is = ap (λ (o : Option (Event × ℕ)). lesser (with_start front (option_map (λ (next : Event × ℕ). next.1) o)) (starts_from plan.graph.value plan.parts.value (owns_of vs) (index + 1))) (sym e)
            ∙ front_step plan.graph.value plan.parts.value (owns_of vs) front index v.own own_at_index h.front_is;
        small = h.small;
      }
      by_next (Some b) e =
          let some : earliest_of plan.graph.value plan.parts.value index v.own ≡ Some (record { start = b.1; number = b.0.number }) =
          ap (option_map (λ (next : Event × ℕ). let key : Key = record { start = next.1; number = next.0.number } in key)) e
          in
          absurd (none-some (let key : Key = record { start = b.1; number = b.0.number } in key) (sym none ∙ (earliest_is ∙ some)))

  pub front_next : (key : Key) → earliest_of v.events v.partition v.domain v.own ≡ Some key → IsFrontSo plan vs (index + 1) (Some (option_map_or (min key.start) front key.start))
  front_next key some = by_next (next_in plan.graph.value plan.parts.value index v.own) refl
    where
      by_next : (o : Option (Event × ℕ)) → next_in plan.graph.value plan.parts.value index v.own ≡ o → IsFrontSo plan vs (index + 1) (Some (option_map_or (min key.start) front key.start))
      by_next None e =
          let none : earliest_of plan.graph.value plan.parts.value index v.own ≡ None = ap (option_map (λ (next : Event × ℕ). let key : Key = record { start = next.1; number = next.0.number } in key)) e in
          absurd (none-some key (sym (earliest_is ∙ none) ∙ some))
      by_next (Some b) e =
          let is : earliest_of plan.graph.value plan.parts.value index v.own ≡ Some (record { start = b.1; number = b.0.number }) =
          ap (option_map (λ (next : Event × ℕ). let key : Key = record { start = next.1; number = next.0.number } in key)) e
          in
          let key_is : b.1 ≡ key.start = ap (λ (z : Key). z.start) (same_Some _ key (sym (earliest_is ∙ is) ∙ some)) in
          let r = laws.ready plan.graph.value plan.parts.value plan.comps.value can index v.own v.comps b.0 b.1 (k.each index v at).keeps e in
          let low : key.start ≤ 2 ^ 62 = (let s = r.small in omega (arith, s, key_is)) in
          record {
            front_is = ap (λ (n : ℕ). lesser (Some (option_map_or (min n) front n)) (starts_from plan.graph.value plan.parts.value (owns_of vs) (index + 1))) (sym key_is)
                ∙ (ap (λ (o : Option (Event × ℕ)). lesser (with_start front (option_map (λ (next : Event × ℕ). next.1) o)) (starts_from plan.graph.value plan.parts.value (owns_of vs) (index + 1))) (sym e)
                ∙ front_step plan.graph.value plan.parts.value (owns_of vs) front index v.own own_at_index h.front_is);
            small = low_too front low;
          }
        where
          low_too : (f : Option ℕ) → key.start ≤ 2 ^ 62 → option_map_or (min key.start) f key.start ≤ 2 ^ 62
          low_too None l = l
          low_too (Some a) l = omega arith

-- the floors that were raised so far

abbrev pub raised : {C : Type 0} → (floor : ℕ) → DomainValue C → DomainValue C
raised floor v = record v { own = with_floor floor v.own }

pub record AreRaised {C : Type 0} (old new : List (DomainValue C)) (floor index : ℕ) : Type 0 where
  pub count : length new ≡ length old
  pub done : (d : ℕ) (v : DomainValue C) → d < index → slice_get old d ≡ Some v → slice_get new d ≡ Some (raised floor v)
  pub rest : (d : ℕ) (v : DomainValue C) → index ≤ d → slice_get old d ≡ Some v → slice_get new d ≡ Some v

pub none_raised : {C : Type 0} (vs : List (DomainValue C)) (floor : ℕ) → AreRaised vs vs floor 0
none_raised vs floor = record { count = refl; done = λ d v l at. absurd (omega (arith, l)); rest = λ d v l at. at }

pub one_raised : {C : Type 0} (old now : List (DomainValue C)) (floor index : ℕ) (v w : DomainValue C) → AreRaised old now floor index → slice_get old index ≡ Some v → w ≡ raised floor v → AreRaised old (set now index w) floor (index + 1)
one_raised {C} old now floor index v w h at is =
    let below : index < length now = (let b = slice_get_within old index v at in let c = h.count in omega (arith, b, c)) in
    record {
      count = length-set now index w ∙ h.count;
      done = λ d u l there.
          elim (cases_eq d index) [
            | inl same ↦
                let one : v ≡ u = same_Some v u (sym at ∙ (ap (slice_get old) (sym same) ∙ there)) in
                ap (slice_get (set now index w)) same ∙ (get_set_same now index w below ∙ ap (λ (z : DomainValue C). Some z) (is ∙ ap (raised floor) one))
            | inr other ↦ get_set_other now index d w other ∙ h.done d u (omega (arith, l, other)) there
          ];
      rest = λ d u l there. get_set_other now index d w (λ e. absurd (omega (arith, e, l))) ∙ h.rest d u (omega (arith, l)) there;
    }

same_list : {X : Type 0} (xs ys : List X) → ((i : ℕ) → slice_get xs i ≡ slice_get ys i) → xs ≡ ys
same_list [] [] h = refl
same_list [] (y ∷ ys) h = absurd (none-some y (h 0))
same_list (x ∷ xs) [] h = absurd (none-some x (sym (h 0)))
same_list {X} (x ∷ xs) (y ∷ ys) h = ap (λ (z : X). z ∷ xs) (same_Some x y (h 0)) ∙ ap (λ (zs : List X). y ∷ zs) (same_list xs ys (λ i. h (suc i)))

past_end : {X : Type 0} (xs : List X) (i : ℕ) → length xs ≤ i → slice_get xs i ≡ None
past_end [] i l = refl
past_end (x ∷ xs) zero l = absurd (omega arith)
past_end (x ∷ xs) (suc i) l = past_end xs i (omega arith)

pub all_raised : {C : Type 0} (old new : List (DomainValue C)) (floor index : ℕ) → AreRaised old new floor index → length old ≤ index → new ≡ with_floors floor old
all_raised {C} old new floor index h l = same_list new (with_floors floor old) each
  where
    each : (i : ℕ) → slice_get new i ≡ slice_get (with_floors floor old) i
    each i = by_old (slice_get old i) refl
      where
        by_old : (o : Option (DomainValue C)) → slice_get old i ≡ o → slice_get new i ≡ slice_get (with_floors floor old) i
        by_old None e =
            let past : length old ≤ i = elim (cases_lt i (length old)) [ inr p ↦ p | inl b ↦ absurd (missing old i b e) ] in
            past_end new i (let c = h.count in omega (arith, past, c)) ∙ sym (slice_get-map (raised floor) old i ∙ ap (option_map (raised floor)) e)
          where
            missing : (xs : List (DomainValue C)) (i : ℕ) → i < length xs → slice_get xs i ≡ None → ⊥
            missing [] i b e = absurd (omega (arith, b))
            missing (x ∷ xs) zero b e = absurd (none-some x (sym e))
            missing (x ∷ xs) (suc i) b e = missing xs i (omega (arith, b)) e
        by_old (Some v) e = h.done i v (let b = slice_get_within old i v e in omega (arith, b, l)) e ∙ sym (slice_get-map (raised floor) old i ∙ ap (option_map (raised floor)) e)

pub no_key : (o : Option Key) → ((key : Key) → o ≡ Some key → ⊥) → o ≡ None
no_key None h = refl
no_key (Some key) h = absurd (h key refl)
