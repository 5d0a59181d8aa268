-- A barrier's floor is no later than the start of any unfired event.
use Rattle.std.proofs.Common.{◌≡◌, ◌+◌, ◌<◌, ◌≤◌, ℕ, zero, suc, Bool, true, false, not, ◌&&◌, ◌||◌, leb, List, [], ◌∷◌, length, map, get_or, take, Option, Some, is_some, slice_get, sym, ◌∙◌, ap, subst, refl, inl, inr, arith}
use Rattle.std.proofs.lemmas.List.{length-map}
use Rattle.std.proofs.lemmas.Bool.{false≢true, cases_lt}
use Rattle.std.proofs.lemmas.Bool.Decides.{nat_tests}
use Rattle.std.proofs.lemmas.Option.{same_Some, none-some}
use Rattle.std.specs.List.{enumerate_from}
use Rattle.std.specs.Option.{option_map, option_map_or, option_to_list}
use Rattle.component.specs.declared.kind.Kind.{Kind}
use Rattle.event_graph.specs.declared.event.Event.{Event}
use Rattle.event_graph.specs.OneListWeave.{FiredEvent, is_fired, start_of}
use Rattle.domain_map.specs.declared.crossing.Crossing.{Crossing}
use Rattle.domain_map.specs.Domains.{Partition, IsPartition, domain_of_event}
use Rattle.weave_core.specs.DomainMachine.{DomainState, MachineState, barrier, effect_of, every_crossing, fresh_domain, is_allowed, is_exact, is_ready_in, is_settled, known_finish, least, least_ready_start, next_in, ready_starts, state_of, with_floor, word_at}
use Rattle.weave_core.specs.Soundness.{start_in}
use Rattle.weave_core.specs.Interleavings.{of_domain}
use Rattle.weave_core.proofs.Lists.{In, all_in, at_in, both, either, in_enum, in_left, in_right, least_le, not_true, some_at, test_cases}
use Rattle.weave_core.proofs.LeastBy.{next_there, some_next, start_upto}
use Rattle.weave_core.proofs.Updates.{floors_after}
use Rattle.weave_core.proofs.First.{IsFirst, first_of}
use Rattle.weave_core.proofs.Firing.{IsOrder, before_start, fired_before, start_by_all, start_is}
use Rattle.weave_core.proofs.Joined.{parent_before, parent_of_crossing}
use Rattle.weave_core.proofs.PendingEvents.{first_pending, is_pending, pending_is, pending_test}
use Rattle.weave_core.proofs.ReadyEvents.{IsReady, is_ready, ready_start}
use Rattle.weave_core.proofs.Steps.{AreFronts, Holds, Stands, bounds_from, fronts}

-- a list element's domain is among the numbered domains
in_starts : (events : List Event) (p : Partition) (n d : ℕ) (xs : List DomainState) (own : DomainState) (b : Event × ℕ) → slice_get xs d ≡ Some own
    → next_in events p (n + d) own ≡ Some b → In b.1 (ready_starts events p (enumerate_from n xs))
in_starts events p n d [] own b h e = absurd (none-some own h)
in_starts events p n zero (x ∷ xs) own b h e =
    let same : next_in events p n x ≡ Some b = ap (next_in events p n) (same_Some x own h) ∙ (ap (λ (m : ℕ). next_in events p m own) (omega arith) ∙ e) in
    in_left b.1 (option_to_list (option_map (λ (next : Event × ℕ). next.1) (next_in events p n x))) (ready_starts events p (enumerate_from (n + 1) xs))
    (subst (λ (z : Option (Event × ℕ)). In b.1 (option_to_list (option_map (λ (next : Event × ℕ). next.1) z))) (sym same) (inl refl))
in_starts events p n (suc d) (x ∷ xs) own b h e =
    in_right b.1 (option_to_list (option_map (λ (next : Event × ℕ). next.1) (next_in events p n x))) (ready_starts events p (enumerate_from (n + 1) xs))
    (in_starts events p (n + 1) d xs own b h (ap (λ (m : ℕ). next_in events p m own) (omega arith) ∙ e))

zero_plus : (n : ℕ) → 0 + n ≡ n
zero_plus n = omega arith

at_domain : (xs : List DomainState) (d : ℕ) → d < length xs → slice_get xs d ≡ Some (get_or xs d fresh_domain)
at_domain [] d l = absurd (omega arith)
at_domain (x ∷ xs) zero l = refl
at_domain (x ∷ xs) (suc d) l = at_domain xs d (omega arith)

module _ {C : Type 0} (stepped : C → Kind → ℕ → C × ℕ) (events : List Event) (p : Partition) (comps : List C) (all : List FiredEvent)
    (o : IsOrder events all) (div : IsPartition events p)
    (here : (k : ℕ) (x : FiredEvent) → slice_get all k ≡ Some x → domain_of_event p.places x.event < length p.events) where
  -- a crossing of a fired parent is resolved
  pub settled_is : (s : MachineState C) → every_crossing events p (is_settled events p stepped s) ≡ true → (number : ℕ) (x : Crossing) → slice_get p.crossings number ≡ Some x
      → is_fired (state_of s x.source).fired x.parent ≡ true → is_exact (word_at (state_of s x.target).known number) ≡ true
  settled_is s settled number x there fired =
      let t : (not (is_fired (state_of s x.source).fired x.parent) || (is_exact (word_at s.words number) && is_exact (word_at (state_of s x.target).known number))) ≡ true =
      all_in (λ (at : ℕ × Crossing). is_settled events p stepped s at.0 at.1) (enumerate_from 0 p.crossings) (number, x) settled (in_enum p.crossings number x there)
      in
      elim (either (not (is_fired (state_of s x.source).fired x.parent)) _ t) [
        | inl n ↦ absurd (false≢true (sym (not_true (is_fired (state_of s x.source).fired x.parent) n) ∙ fired))
        | inr a ↦ (both (is_exact (word_at s.words number)) (is_exact (word_at (state_of s x.target).known number)) a).1
      ]

  module _ (s : MachineState C) (h : AreFronts stepped events p comps all o div s)
      (resolved : (number : ℕ) (x : Crossing) → slice_get p.crossings number ≡ Some x → is_fired (state_of s x.source).fired x.parent ≡ true → is_exact (word_at (state_of s x.target).known number) ≡ true) where
    -- the event's domain has it yet to fire
    abbrev pub is_left : ℕ → FiredEvent → Bool
    is_left k x = leb (h.cut (domain_of_event p.places x.event)) k

    pub left_test : (k : ℕ) (x : FiredEvent) → h.cut (domain_of_event p.places x.event) ≤ k → is_left k x ≡ true
    left_test k x l = grind (arith, nat_tests)

    pub left_is : (k : ℕ) (x : FiredEvent) → is_left k x ≡ true → h.cut (domain_of_event p.places x.event) ≤ k
    left_is k x t = grind (arith, nat_tests)

    -- the first event that is left is ready in its domain
    pub first_left_ready : (k : ℕ) (x : FiredEvent) → IsFirst is_left all k x
        → is_ready_in events p (domain_of_event p.places x.event) (state_of s (domain_of_event p.places x.event)) x.event ≡ true
    first_left_ready k x f =
        let d : ℕ = domain_of_event p.places x.event in
        let own = h.domains (domain_of_event p.places x.event) in
        let first : IsFirst (is_pending events p all o div (domain_of_event p.places x.event) (h.cut (domain_of_event p.places x.event)) (state_of s (domain_of_event p.places x.event)) own.fired own.known (bounds_from stepped events p comps all o div _ _ _ own)) all k x =
        record {
          there = f.there;
          passes = pending_test events p all o div (domain_of_event p.places x.event) (h.cut (domain_of_event p.places x.event)) (state_of s (domain_of_event p.places x.event)) own.fired own.known (bounds_from stepped events p comps all o div _ _ _ own) k x refl (left_is k x f.passes);
          before = λ j y l e.
              elim (test_cases (is_pending events p all o div (domain_of_event p.places x.event) (h.cut (domain_of_event p.places x.event)) (state_of s (domain_of_event p.places x.event)) own.fired own.known (bounds_from stepped events p comps all o div _ _ _ own) j y)) [
                | inr fails_it ↦ fails_it
                | inl passes_it ↦
                    let is = pending_is events p all o div (domain_of_event p.places x.event) (h.cut (domain_of_event p.places x.event)) (state_of s (domain_of_event p.places x.event)) own.fired own.known (bounds_from stepped events p comps all o div _ _ _ own) j y passes_it in
                    let cut : h.cut (domain_of_event p.places y.event) ≡ h.cut (domain_of_event p.places x.event) = ap h.cut is.0 in
                    absurd (false≢true (sym (f.before j y l e) ∙ left_test j y (omega (arith, is.1, cut))))
              ];
        }
        in
        elim (first_pending events p all o div (domain_of_event p.places x.event) (h.cut (domain_of_event p.places x.event)) (state_of s (domain_of_event p.places x.event)) own.fired own.known (bounds_from stepped events p comps all o div _ _ _ own) k x first) [
          | inl ready ↦ ready
          | inr a ↦
              let q : (i : ℕ) × ((w : FiredEvent) × ((i < k) × ((slice_get all i ≡ Some w) × ((w.event.number ≡ a.crossing.parent) × (a.crossing.source ≡ domain_of_event p.places w.event))))) =
              parent_before events p all o div a.number a.crossing a.there k x f.there (sym a.child)
              in
              let below : q.0 < h.cut (domain_of_event p.places q.1.0.event) =
              elim (cases_lt q.0 (h.cut (domain_of_event p.places q.1.0.event))) [
                | inl l ↦ l
                | inr m ↦ absurd (false≢true (sym (f.before q.0 q.1.0 q.1.1.0 q.1.1.1.0) ∙ left_test q.0 q.1.0 m))
              ]
              in
              let fired : is_fired (of_domain p.places (domain_of_event p.places q.1.0.event) (take (h.cut (domain_of_event p.places q.1.0.event)) all)) q.1.0.event.number ≡ true =
              fired_before events all o p.places (domain_of_event p.places q.1.0.event) (h.cut (domain_of_event p.places q.1.0.event)) q.0 q.1.0 below q.1.1.1.0 refl
              in
              let known : is_fired (state_of s a.crossing.source).fired a.crossing.parent ≡ true =
              ap (λ n. is_fired (state_of s n).fired a.crossing.parent) q.1.1.1.1.1
              ∙ (ap (λ (xs : List FiredEvent). is_fired xs a.crossing.parent) (h.domains (domain_of_event p.places q.1.0.event)).fired
              ∙ (ap (is_fired (of_domain p.places (domain_of_event p.places q.1.0.event) (take (h.cut (domain_of_event p.places q.1.0.event)) all))) (sym q.1.1.1.1.0) ∙ fired))
              in
              let exact : is_exact (word_at (state_of s (domain_of_event p.places x.event)).known a.number) ≡ true =
              ap (λ n. is_exact (word_at (state_of s n).known a.number)) (sym a.target) ∙ resolved a.number a.crossing a.there known
              in
              absurd (false≢true (sym a.unknown ∙ exact))
        ]

    -- while an event is left, some domain has one ready
    pub some_start : (k : ℕ) (x : FiredEvent) → IsFirst is_left all k x → (start : ℕ) × (least_ready_start events p stepped s ≡ Some start)
    some_start k x f =
        let ready = first_left_ready k x f in
        let i : In x.event events = at_in x.event events x.event.number (o.event k x f.there) in
        let b : (b : Event × ℕ) × (next_in events p (domain_of_event p.places x.event) (state_of s (domain_of_event p.places x.event)) ≡ Some b) =
        next_there (is_ready_in events p (domain_of_event p.places x.event) (state_of s (domain_of_event p.places x.event)))
        (λ e. start_of (known_finish events p (domain_of_event p.places x.event) (state_of s (domain_of_event p.places x.event))) e) events x.event i ready
        in
        let below : domain_of_event p.places x.event < length s.domains = omega (arith, here k x f.there, h.count) in
        let m : In b.0.1 (ready_starts events p (enumerate_from 0 s.domains)) =
        in_starts events p 0 (domain_of_event p.places x.event) s.domains (state_of s (domain_of_event p.places x.event)) b.0 (at_domain s.domains (domain_of_event p.places x.event) below)
        (ap (λ n. next_in events p n (state_of s (domain_of_event p.places x.event))) (zero_plus (domain_of_event p.places x.event)) ∙ b.1)
        in
        let v : (v : ℕ) × ((least (ready_starts events p (enumerate_from 0 s.domains)) ≡ Some v) × (v ≤ b.0.1)) = least_le (ready_starts events p (enumerate_from 0 s.domains)) b.0.1 m in
        (v.0, v.1.0)

    -- no event that is left starts before the least start of a ready event
    pub least_start : (start : ℕ) → least_ready_start events p stepped s ≡ Some start → (k : ℕ) (x : FiredEvent) → slice_get all k ≡ Some x
        → h.cut (domain_of_event p.places x.event) ≤ k → start ≤ x.start
    least_start start is k x there left =
        let f : (j : ℕ) × ((y : FiredEvent) × ((j ≤ k) × IsFirst is_left all j y)) = first_of is_left all k x there (left_test k x left) in
        let ready = first_left_ready f.0 f.1.0 f.1.1.1 in
        let d : ℕ = domain_of_event p.places f.1.0.event in
        let own = h.domains (domain_of_event p.places f.1.0.event) in
        let i : In f.1.0.event events = at_in f.1.0.event events f.1.0.event.number (o.event f.0 f.1.0 f.1.1.1.there) in
        let b : (b : Event × ℕ) × (next_in events p (domain_of_event p.places f.1.0.event) (state_of s (domain_of_event p.places f.1.0.event)) ≡ Some b) =
        next_there (is_ready_in events p (domain_of_event p.places f.1.0.event) (state_of s (domain_of_event p.places f.1.0.event)))
        (λ e. start_of (known_finish events p (domain_of_event p.places f.1.0.event) (state_of s (domain_of_event p.places f.1.0.event))) e) events f.1.0.event i ready
        in
        let l = some_next (is_ready_in events p (domain_of_event p.places f.1.0.event) (state_of s (domain_of_event p.places f.1.0.event)))
        (λ e. start_of (known_finish events p (domain_of_event p.places f.1.0.event) (state_of s (domain_of_event p.places f.1.0.event))) e) events b.0 b.1
        in
        let r : IsReady events p all o div (domain_of_event p.places f.1.0.event) (h.cut (domain_of_event p.places f.1.0.event)) (state_of s (domain_of_event p.places f.1.0.event)) own.fired own.known (bounds_from stepped events p comps all o div _ _ _ own) f.1.0.event =
        is_ready events p all o div (domain_of_event p.places f.1.0.event) (h.cut (domain_of_event p.places f.1.0.event)) (state_of s (domain_of_event p.places f.1.0.event)) own.fired own.known (bounds_from stepped events p comps all o div _ _ _ own) f.1.0.event ready
        in
        let at : start_of (known_finish events p (domain_of_event p.places f.1.0.event) (state_of s (domain_of_event p.places f.1.0.event))) f.1.0.event ≡ f.1.0.start =
        ready_start events p all o div (domain_of_event p.places f.1.0.event) (h.cut (domain_of_event p.places f.1.0.event)) (state_of s (domain_of_event p.places f.1.0.event)) own.fired own.known (bounds_from stepped events p comps all o div _ _ _ own)
        f.1.0.event.number f.1.0.event r (o.event f.0 f.1.0 f.1.1.1.there)
        ∙ sym (start_by_all events all o f.0 f.1.0 f.1.1.1.there)
        in
        let upto : b.0.1 ≤ start_of (known_finish events p (domain_of_event p.places f.1.0.event) (state_of s (domain_of_event p.places f.1.0.event))) f.1.0.event =
        start_upto f.1.0.event _ b.0.0 b.0.1 (l.least f.1.0.event i ready)
        in
        let below : domain_of_event p.places f.1.0.event < length s.domains = omega (arith, here f.0 f.1.0 f.1.1.1.there, h.count) in
        let m : In b.0.1 (ready_starts events p (enumerate_from 0 s.domains)) =
        in_starts events p 0 (domain_of_event p.places f.1.0.event) s.domains (state_of s (domain_of_event p.places f.1.0.event)) b.0
        (at_domain s.domains (domain_of_event p.places f.1.0.event) below)
        (ap (λ n. next_in events p n (state_of s (domain_of_event p.places f.1.0.event))) (zero_plus (domain_of_event p.places f.1.0.event)) ∙ b.1)
        in
        let v : (v : ℕ) × ((least (ready_starts events p (enumerate_from 0 s.domains)) ≡ Some v) × (v ≤ b.0.1)) = least_le (ready_starts events p (enumerate_from 0 s.domains)) b.0.1 m in
        let same : start ≡ v.0 = same_Some start v.0 (sym is ∙ v.1.0) in
        let order : f.1.0.start ≤ x.start =
        elim (cases_lt f.0 k) [
          | inl less ↦ before_start f.1.0 x (o.order f.0 k f.1.0 x less f.1.1.1.there there)
          | inr m2 ↦
              let e : f.0 ≡ k = omega (arith, f.1.1.0) in
              let t : f.1.0.start ≡ x.start = ap (λ (z : FiredEvent). z.start) (same_Some f.1.0 x (sym f.1.1.1.there ∙ (ap (slice_get all) e ∙ there))) in
              omega (arith, t)
        ]
        in
        omega (arith, same, v.1.1, upto, at, order)

    -- the parent of a crossing that a domain hasn't resolved starts no earlier
    pub floor_holds : (start : ℕ) → least_ready_start events p stepped s ≡ Some start → (d number : ℕ) (x : Crossing) → slice_get p.crossings number ≡ Some x → x.target ≡ d
        → is_exact (word_at (state_of s d).known number) ≡ false → start ≤ start_in all x.parent
    floor_holds start is d number x there target unknown =
        let q = parent_of_crossing events p all o div number x there in
        let started : start_in all x.parent ≡ q.1.0.start = ap (start_in all) (sym q.1.1.1.0) ∙ start_is events all o q.0 q.1.0 q.1.1.0 in
        let left : h.cut (domain_of_event p.places q.1.0.event) ≤ q.0 =
        elim (cases_lt q.0 (h.cut (domain_of_event p.places q.1.0.event))) [
          | inr b ↦ b
          | inl less ↦
              let fired : is_fired (of_domain p.places (domain_of_event p.places q.1.0.event) (take (h.cut (domain_of_event p.places q.1.0.event)) all)) q.1.0.event.number ≡ true =
              fired_before events all o p.places (domain_of_event p.places q.1.0.event) (h.cut (domain_of_event p.places q.1.0.event)) q.0 q.1.0 less q.1.1.0 refl
              in
              let known : is_fired (state_of s x.source).fired x.parent ≡ true =
              ap (λ n. is_fired (state_of s n).fired x.parent) q.1.1.1.1
              ∙ (ap (λ (xs : List FiredEvent). is_fired xs x.parent) (h.domains (domain_of_event p.places q.1.0.event)).fired
              ∙ (ap (is_fired (of_domain p.places (domain_of_event p.places q.1.0.event) (take (h.cut (domain_of_event p.places q.1.0.event)) all))) (sym q.1.1.1.0) ∙ fired))
              in
              absurd (false≢true (sym unknown ∙ (ap (λ n. is_exact (word_at (state_of s n).known number)) (sym target) ∙ resolved number x there known)))
        ]
        in
        omega (arith, started, least_start start is q.0 q.1.0 q.1.1.0 left)

  pub barriers : (s : MachineState C) → Holds stepped events p comps all o div s → is_allowed events p stepped s barrier ≡ true
      → Holds stepped events p comps all o div (effect_of events p stepped s barrier)
  barriers s h allowed =
      let a = both (every_crossing events p (is_settled events p stepped s)) (is_some (least_ready_start events p stepped s)) allowed in
      let m : (start : ℕ) × (least_ready_start events p stepped s ≡ Some start) = some_at (least_ready_start events p stepped s) a.1 in
      subst (λ (z : MachineState C). Holds stepped events p comps all o div z)
      (sym (ap (λ (z : Option ℕ). option_map_or (λ start. record s { domains = map (with_floor start) s.domains }) z s) m.1))
      (record {
        count = length-map s.domains (with_floor m.0) ∙ h.count;
        cut = h.cut;
        domains = λ d.
            elim (floors_after m.0 s.domains d) [
              | inr e ↦ subst (λ (z : DomainState). Stands stepped events p comps all o div s.words (h.cut d) d z) (sym e) (h.domains d)
              | inl e ↦
                  subst (λ (z : DomainState). Stands stepped events p comps all o div s.words (h.cut d) d z) (sym e)
                  (record {
                    fired = (h.domains d).fired;
                    known = (h.domains d).known;
                    floor = record {
                      each = λ number x there target unknown. floor_holds s (fronts stepped events p comps all o div s h) (settled_is s a.0) m.0 m.1 d number x there target unknown;
                    };
                    kept = (h.domains d).kept;
                  })
            ];
        words = h.words;
        comps_are = h.comps_are;
      })
