-- What a user of a domain keeps, after each call.
use Rattle.std.proofs.Common.{◌≡◌, ◌<◌, ◌≤◌, ◌+◌, ◌^◌, ℕ, zero, suc, true, false, max, List, [], ◌∷◌, length, map, set, Option, Some, slice_get, sym, ◌∙◌, ap, subst, refl, inl, inr, arith, ◌⊎◌}
use Rattle.std.specs.Prelude.{IfSome, replicate}
use Rattle.std.proofs.lemmas.Bool.{cases_eq, false≢true}
use Rattle.std.proofs.lemmas.Option.{same_Some, none-some}
use Rattle.zs_num.specs.declared.time.Key.{Key}
use Rattle.zs_num.specs.declared.time.Word.{Word}
use Rattle.zs_num.specs.declared.time.Word.TheVariants.{Bound, Exact}
use Rattle.component.specs.declared.kind.Kind.{Kind}
use Rattle.event_graph.specs.declared.event.Event.{Event}
use Rattle.event_graph.specs.declared.fired.Fired.{Fired}
use Rattle.domain_map.specs.declared.crossing.Crossing.{Crossing}
use Rattle.domain_map.specs.Domains.{Partition}
use Rattle.weave_core.specs.DomainCalls.{CanFire, DomainValue, IsFire, IsNoFall, MayFire, MayTell, at_first, with_known}
use Rattle.weave_core.specs.DomainMachine.{DomainState, bound_of, cycle_of, is_exact, latency_at, with_floor, word_at}
use Rattle.weave_core.specs.Layout.{place_in}
use Rattle.weave_tests.specs.declared.server.Server.{Server}
use Rattle.weave_tests.specs.KeptOfDomain.{AreCalm, KeptOfDomain, Rises, told_after}

-- lists with one place set

get_set_same : {X : Type 0} (xs : List X) (i : ℕ) (y x : X) → slice_get xs i ≡ Some x → slice_get (set xs i y) i ≡ Some y
get_set_same [] i y x h = absurd (none-some x h)
get_set_same (z ∷ xs) zero y x h = refl
get_set_same (z ∷ xs) (suc i) y x h = get_set_same xs i y x h

get_set_other : {X : Type 0} (xs : List X) (i j : ℕ) (y : X) → (j ≡ i → ⊥) → slice_get (set xs i y) j ≡ slice_get xs j
get_set_other [] i j y n = refl
get_set_other (z ∷ xs) zero zero y n = absurd (n refl)
get_set_other (z ∷ xs) zero (suc j) y n = refl
get_set_other (z ∷ xs) (suc i) zero y n = refl
get_set_other (z ∷ xs) (suc i) (suc j) y n = get_set_other xs i j y (λ e. n (ap suc e))

get_set_cases : {X : Type 0} (xs : List X) (i j : ℕ) (y x : X) → slice_get (set xs i y) j ≡ Some x → (y ≡ x) ⊎ (slice_get xs j ≡ Some x)
get_set_cases [] i j y x h = inr h
get_set_cases (z ∷ xs) zero zero y x h = inl (same_Some y x h)
get_set_cases (z ∷ xs) zero (suc j) y x h = inr h
get_set_cases (z ∷ xs) (suc i) zero y x h = inr h
get_set_cases (z ∷ xs) (suc i) (suc j) y x h = get_set_cases xs i j y x h

word_set_same : (ws : List Word) (i : ℕ) (w : Word) → i < length ws → word_at (set ws i w) i ≡ w
word_set_same [] i w l = absurd (omega arith)
word_set_same (z ∷ ws) zero w l = refl
word_set_same (z ∷ ws) (suc i) w l = word_set_same ws i w (omega arith)

word_set_other : (ws : List Word) (i j : ℕ) (w : Word) → (j ≡ i → ⊥) → word_at (set ws i w) j ≡ word_at ws j
word_set_other [] i j w n = refl
word_set_other (z ∷ ws) zero zero w n = absurd (n refl)
word_set_other (z ∷ ws) zero (suc j) w n = refl
word_set_other (z ∷ ws) (suc i) zero w n = refl
word_set_other (z ∷ ws) (suc i) (suc j) w n = word_set_other ws i j w (λ e. n (ap suc e))

-- nothing is known at first

first_word : (xs : List Crossing) (number : ℕ) → word_at (map (λ (x : Crossing). Bound 0) xs) number ≡ Bound 0
first_word [] number = refl
first_word (x ∷ xs) zero = refl
first_word (x ∷ xs) (suc number) = first_word xs number

first_words : (xs : List Crossing) → replicate (length xs) (Bound 0) ≡ map (λ (x : Crossing). Bound 0) xs
first_words [] = refl
first_words (x ∷ xs) = ap (λ ws. Bound 0 ∷ ws) (first_words xs)

pub keeps_first : (events : List Event) (p : Partition) (domain : ℕ) (v : DomainValue Server) (known : List Word) (told : List (Option ℕ)) (comps : List Server) (busy : ℕ)
    → v ≡ record { domain = domain; events = events; partition = p; own = at_first p; comps = comps } → known ≡ replicate (length p.crossings) (Bound 0) → AreCalm busy comps
    → KeptOfDomain events p domain v known told 0 busy
keeps_first events p domain v known told comps busy is words calm =
    subst (λ (z : DomainValue Server). KeptOfDomain events p domain z known told 0 busy) (sym is)
    (record {
      domain_is = refl;
      events_are = refl;
      partition_is = refl;
      known_are = words ∙ first_words p.crossings;
      told_are = record { each = λ number x h e. absurd (false≢true (ap is_exact (sym (first_word p.crossings number)) ∙ e)) };
      floor_is = refl;
      floor_small = omega arith;
      calm = calm;
    })

module _ (events : List Event) (p : Partition) (domain : ℕ) (old : DomainValue Server) (known : List Word) (told : List (Option ℕ)) (floor busy : ℕ)
    (keeps : KeptOfDomain events p domain old known told floor busy) where
  -- another floor
  pub keeps_floor : (new : DomainValue Server) (higher : ℕ) → new ≡ record old { own = with_floor higher old.own } → higher ≤ 2 ^ 62 → KeptOfDomain events p domain new known told higher busy
  keeps_floor new higher is small =
      subst (λ (z : DomainValue Server). KeptOfDomain events p domain z known told higher busy) (sym is)
      (record {
        domain_is = keeps.domain_is;
        events_are = keeps.events_are;
        partition_is = keeps.partition_is;
        known_are = keeps.known_are;
        told_are = keeps.told_are;
        floor_is = refl;
        floor_small = small;
        calm = keeps.calm;
      })

  -- it may fire where the start is no great cycle
  pub can_fire : (greatest : Server → Kind → ℕ → ℕ) → ((c : Server) (kind : Kind) (start : ℕ) → greatest c kind start ≡ max start c.free + (c.occupancy + 100))
      → (key : Key) → MayFire old.events old.partition old.domain old.own key → key.start ≤ 2 ^ 61 → busy ≤ 2 ^ 61 → CanFire greatest old
  can_fire greatest is key may early free = record {
    key = key;
    may = may;
    small = λ c h. let r = keeps.calm.each (place_in old.partition.places old.domain may.event.component) c h in omega (arith, is c may.event.kind key.start, r.0, r.1, early, free);
  }

  pub keeps_fire : (stepped : Server → Kind → ℕ → Server × ℕ) → ((c : Server) (kind : Kind) (start : ℕ) → (stepped c kind start).0 ≡ record c { free = max start c.free + c.occupancy })
      → (new : DomainValue Server) (result : Fired) (key : Key) → MayFire old.events old.partition old.domain old.own key → IsFire stepped old new result
      → KeptOfDomain events p domain new known told floor (max busy key.start + 4194304)
  keeps_fire stepped is new result key may f =
      subst (λ (z : DomainValue Server). KeptOfDomain events p domain z known told floor (max busy key.start + 4194304)) (sym f.new_is)
      (record {
        domain_is = keeps.domain_is;
        events_are = keeps.events_are;
        partition_is = keeps.partition_is;
        known_are = keeps.known_are;
        told_are = keeps.told_are;
        floor_is = keeps.floor_is;
        floor_small = keeps.floor_small;
        calm = record { each = calm };
      })
    where
      calm : (i : ℕ) (s : Server) → slice_get (set old.comps (place_in old.partition.places old.domain f.event.component) (stepped f.component f.event.kind f.start).0) i ≡ Some s
          → (s.occupancy ≤ 4194304) × (s.free ≤ max busy key.start + 4194304)
      calm i s h =
          elim (get_set_cases old.comps (place_in old.partition.places old.domain f.event.component) i (stepped f.component f.event.kind f.start).0 s h) [
            | inl e ↦
                let r = keeps.calm.each (place_in old.partition.places old.domain f.event.component) f.component f.there in
                let same : f.start ≡ key.start = ap (λ (n : Event × ℕ). n.1) (same_Some (f.event, f.start) (may.event, key.start) (sym f.next ∙ may.next)) in
                let after : record f.component { free = max f.start f.component.free + f.component.occupancy } ≡ s = sym (is f.component f.event.kind f.start) ∙ e in
                let occupancy : f.component.occupancy ≡ s.occupancy = ap (λ (z : Server). z.occupancy) after in
                let free : max f.start f.component.free + f.component.occupancy ≡ s.free = ap (λ (z : Server). z.free) after in
                (omega (arith, r.0, occupancy), omega (arith, r.0, r.1, free, same))
            | inr e ↦ let r = keeps.calm.each i s e in (r.0, omega (arith, r.1))
          ]

  -- a word

  no_fall : (own : DomainState) (number : ℕ) (x : Crossing) (bound : ℕ) (was word : Word) → bound ≡ bound_of events p own number x → Rises bound was word → IsNoFall events p domain own number x was word
  no_fall own number x bound (Bound a) (Bound b) is r = r
  no_fall own number x bound (Exact a) (Bound b) is r = r
  no_fall own number x bound (Bound a) (Exact f) is r = omega (arith, is, r)
  no_fall own number x bound (Exact a) (Exact f) is r = r

  module _ (number : ℕ) (x : Crossing) (there : slice_get p.crossings number ≡ Some x) (was word : Word) (was_is : was ≡ word_at known number) (known_of : Option ℕ)
      (known_there : slice_get told x.parent ≡ Some known_of) (agrees : is_exact word ≡ true → IfSome known_of (λ finish. cycle_of word ≡ finish)) where
    -- what the domain was told of the same parent is the same
    same_finish : (other : ℕ) (y : Crossing) → slice_get p.crossings other ≡ Some y → y.parent ≡ x.parent → is_exact (word_at old.own.known other) ≡ true → is_exact word ≡ true
        → cycle_of word ≡ cycle_of (word_at old.own.known other)
    same_finish other y h parent known_exact exact =
        let t : slice_get told y.parent ≡ Some (Some (cycle_of (word_at old.own.known other))) = keeps.told_are.each other y h known_exact in
        let is : known_of ≡ Some (cycle_of (word_at old.own.known other)) = same_Some known_of (Some (cycle_of (word_at old.own.known other))) (sym known_there ∙ (ap (slice_get told) (sym parent) ∙ t)) in
        subst (λ (o : Option ℕ). IfSome o (λ finish. cycle_of word ≡ finish)) is (agrees exact)

    pub may_tell : (bound latency : ℕ) → x.target ≡ domain → bound ≡ max (cycle_of was) (floor + latency) → latency ≡ latency_at events x.parent → Rises bound was word → cycle_of word ≤ 2 ^ 62
        → MayTell old.events old.partition old.domain old.own number word
    may_tell bound latency target bound_is latency_is rises small =
        let word_is : was ≡ word_at old.own.known number = was_is ∙ ap (λ ws. word_at ws number) keeps.known_are in
        let bound_at : bound ≡ bound_of events p old.own number x =
        omega (arith, bound_is, latency_is, keeps.floor_is, ap cycle_of word_is)
        in
        subst (λ (es : List Event). MayTell es old.partition old.domain old.own number word) (sym keeps.events_are)
        (subst (λ (q : Partition). MayTell events q old.domain old.own number word) (sym keeps.partition_is)
        (subst (λ (d : ℕ). MayTell events p d old.own number word) (sym keeps.domain_is)
        (record {
          crossing = x;
          there = there;
          target = target;
          no_fall = subst (λ (w : Word). IsNoFall events p domain old.own number x w word) word_is (no_fall old.own number x bound was word bound_at rises);
          agrees = same_finish;
          small = small;
        })))

    pub keeps_word : (new : DomainValue Server) → number < length known → new ≡ record old { own = with_known old.own number word }
        → KeptOfDomain events p domain new (set known number word) (set told x.parent (told_after known_of word)) floor busy
    keeps_word new within is =
        subst (λ (z : DomainValue Server). KeptOfDomain events p domain z (set known number word) (set told x.parent (told_after known_of word)) floor busy) (sym is)
        (record {
          domain_is = keeps.domain_is;
          events_are = keeps.events_are;
          partition_is = keeps.partition_is;
          known_are = ap (λ ws. set ws number word) keeps.known_are;
          told_are = record { each = each };
          floor_is = keeps.floor_is;
          floor_small = keeps.floor_small;
          calm = keeps.calm;
        })
      where
        within_own : number < length old.own.known
        within_own = omega (arith, within, ap length keeps.known_are)

        told_here : (w : Word) → is_exact w ≡ true → told_after known_of w ≡ Some (cycle_of w)
        told_here (Bound b) e = absurd (false≢true e)
        told_here (Exact f) e = refl

        told_as_before : (w : Word) (c : ℕ) → known_of ≡ Some c → (is_exact w ≡ true → cycle_of w ≡ c) → told_after known_of w ≡ Some c
        told_as_before (Bound b) c k e = k
        told_as_before (Exact f) c k e = ap (λ n. Some n) (e refl)

        each : (other : ℕ) (y : Crossing) → slice_get p.crossings other ≡ Some y → is_exact (word_at (set old.own.known number word) other) ≡ true
            → slice_get (set told x.parent (told_after known_of word)) y.parent ≡ Some (Some (cycle_of (word_at (set old.own.known number word) other)))
        each other y h exact =
            elim (cases_eq other number) [
              | inl same ↦
                  let now : word_at (set old.own.known number word) other ≡ word = ap (word_at (set old.own.known number word)) same ∙ word_set_same old.own.known number word within_own in
                  let crossing : x ≡ y = same_Some x y (sym there ∙ (ap (slice_get p.crossings) (sym same) ∙ h)) in
                  let told_exact : is_exact word ≡ true = ap is_exact (sym now) ∙ exact in
                  ap (λ (z : Crossing). slice_get (set told x.parent (told_after known_of word)) z.parent) (sym crossing)
                  ∙ (get_set_same told x.parent (told_after known_of word) known_of known_there ∙ (ap (λ o. Some o) (told_here word told_exact) ∙ ap (λ w. Some (Some (cycle_of w))) (sym now)))
              | inr apart ↦
                  let now : word_at (set old.own.known number word) other ≡ word_at old.own.known other = word_set_other old.own.known number other word apart in
                  let before : is_exact (word_at old.own.known other) ≡ true = ap is_exact (sym now) ∙ exact in
                  let t : slice_get told y.parent ≡ Some (Some (cycle_of (word_at old.own.known other))) = keeps.told_are.each other y h before in
                  elim (cases_eq y.parent x.parent) [
                    | inl parent ↦
                        let is : known_of ≡ Some (cycle_of (word_at old.own.known other)) = same_Some known_of (Some (cycle_of (word_at old.own.known other))) (sym known_there ∙ (ap (slice_get told) (sym parent) ∙ t)) in
                        ap (slice_get (set told x.parent (told_after known_of word))) parent
                        ∙ (get_set_same told x.parent (told_after known_of word) known_of known_there
                        ∙ (ap (λ o. Some o) (told_as_before word (cycle_of (word_at old.own.known other)) is (same_finish other y h parent before)) ∙ ap (λ w. Some (Some (cycle_of w))) (sym now)))
                    | inr far ↦ get_set_other told x.parent y.parent (told_after known_of word) far ∙ (t ∙ ap (λ w. Some (Some (cycle_of w))) (sym now))
                  ]
            ]
