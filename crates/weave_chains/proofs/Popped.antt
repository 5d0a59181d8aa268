-- The queue's first key is that of the event that fires next.
use Rattle.std.proofs.Common.{◌≡◌, ◌+◌, ◌-◌, ◌<◌, ◌≤◌, ℕ, zero, suc, Bool, true, false, List, length, get_or, Option, Some, None, ◌⊎◌, inl, inr, sym, ◌∙◌, ap, subst, refl, arith, not, ◌&&◌, [], ◌∷◌}
use Rattle.std.specs.Prelude.{IsTrue}
use Rattle.std.specs.List.{Contains, slice_get}
use Rattle.std.proofs.lemmas.Bool.{cases_lt, false≢true}
use Rattle.std.proofs.lemmas.Bool.Decides.{nat_tests}
use Rattle.std.proofs.lemmas.Option.{get_or_from_slice_get, slice_get-get_or, slice_get_within}
use Rattle.zs_num.specs.declared.entry.Entry.{Entry}
use Rattle.zs_num.specs.declared.time.Key.{Key}
use Rattle.zs_num.specs.KeyOrder.{is_key_before}
use Rattle.domain_queue.specs.SortedKeys.{IsAscending}
use Rattle.event_graph.specs.declared.event.Event.{Event}
use Rattle.event_graph.specs.declared.event.Parent.{Parent}
use Rattle.event_graph.specs.declared.piece.Piece.{Piece}
use Rattle.event_graph.specs.EventGraph.{all_events, event_at}
use Rattle.event_graph.specs.Firing.{IsNext}
use Rattle.event_graph.specs.OneListWeave.{FiredEvent, finish_in, is_event_before, is_fired, is_parent_fired, is_ready, start_of}
use Rattle.event_graph.specs.PlacedEvents.{IsEventOf, IsOfSameCore, events_before, first_number}
use Rattle.weave_chains.specs.States.{ChainState}
use Rattle.weave_chains.specs.Chains.{AreGrouped, AreUnderWay, IsChain, IsReady, next_number}
use Rattle.weave_chains.specs.GraphFacts.{ArePlaced}

pub key_cases : (k other : Key) → is_key_before k other ≡ true → (k.start < other.start) ⊎ ((k.start ≡ other.start) × (k.number < other.number))
key_cases k other h = grind (arith, nat_tests)

event_cases : (a : Event) (s : ℕ) (b : Event) (t : ℕ) → is_event_before a s b t ≡ true → (s < t) ⊎ ((s ≡ t) × (a.number < b.number))
event_cases a s b t h = grind (arith, nat_tests)

unfired_of : (f a b : Bool) → (not f && (a && b)) ≡ true → f ≡ false
unfired_of false a b h = refl
unfired_of true a b h = absurd (cc)

unfired_from : (fired : List FiredEvent) (e : Event) → is_ready fired e ≡ true → is_fired fired e.number ≡ false
unfired_from fired e ready = unfired_of (is_fired fired e.number) (is_parent_fired fired e.first) (is_parent_fired fired e.second) ready

all_of : (f a b : Bool) → f ≡ false → a ≡ true → b ≡ true → (not f && (a && b)) ≡ true
all_of false true true h k l = refl
all_of true a b h k l = absurd (cc)
all_of f false b h k l = absurd (cc)
all_of f true false h k l = absurd (cc)

pub contained : {X : Type 0} (xs : List X) (i : ℕ) (x : X) → slice_get xs i ≡ Some x → Contains xs x
contained xs i x at = (i, slice_get_within xs i x at, get_or_from_slice_get xs i x x at)

pub get_some : {X : Type 0} (xs : List X) (i : ℕ) → i < length xs → (x : X) × (slice_get xs i ≡ Some x)
get_some [] i h = absurd (omega (arith, h))
get_some (y ∷ ys) zero h = (y, refl)
get_some (y ∷ ys) (suc i) h = get_some ys i (omega (arith, h))

plus_none : (a : ℕ) → a + 0 ≡ a
plus_none a = omega arith

plus_suc : (a more : ℕ) → a + suc more ≡ a + more + 1
plus_suc a more = omega arith

plus_minus : (a b : ℕ) → a ≤ b → a + (b - a) ≡ b
plus_minus a b up = omega (arith, up)

-- ---- numbers of accesses
module _ (pieces : Entry → List Piece) (entries : List Entry) (placed : ArePlaced pieces entries) where
  abbrev pub events : List Event
  events = all_events pieces entries

  rises_by : (a more : ℕ) → a + more ≤ length entries → first_number pieces entries a ≤ first_number pieces entries (a + more)
  rises_by a zero within = omega (arith, ap (first_number pieces entries) (plus_none a))
  rises_by a (suc more) within =
      let e : (e : Entry) × (slice_get entries (a + more) ≡ Some e) = get_some entries (a + more) (omega (arith, within)) in
      omega (arith, rises_by a more (omega (arith, within)), placed.next (a + more) e.0 e.1, ap (first_number pieces entries) (plus_suc a more))

  pub first_rises : (a b : ℕ) → a ≤ b → b ≤ length entries → first_number pieces entries a ≤ first_number pieces entries b
  first_rises a b up within = omega (arith, rises_by a (b - a) (omega (arith, up, within)), ap (first_number pieces entries) (plus_minus a b up))

  -- an event stands before those of the accesses behind
  pub before_next : (n : ℕ) (ev : Event) (of : IsEventOf pieces entries n ev) (b : ℕ) → of.access < b → b ≤ length entries → n < first_number pieces entries b
  before_next n ev of b less within =
      omega (arith, of.number_is, slice_get_within (pieces of.entry) of.place of.piece of.made, placed.next of.access of.entry of.there, first_rises (of.access + 1) b (omega (arith, less)) within)

  pub core_is : (n : ℕ) (ev : Event) (of : IsEventOf pieces entries n ev) → ev.core ≡ of.entry.core
  core_is n ev of = ap (λ (e : Event). e.core) of.is

  -- cores in ascending order have their events in ascending order
  pub grouped_events : AreGrouped entries → (n m : ℕ) (d e : Event) → slice_get events n ≡ Some d → slice_get events m ≡ Some e → d.core < e.core → n < m
  grouped_events grouped n m d e dn em less =
      let a : IsEventOf pieces entries n d = placed.each n d dn in
      let b : IsEventOf pieces entries m e = placed.each m e em in
      let da : d.core ≡ a.entry.core = core_is n d a in
      let eb : e.core ≡ b.entry.core = core_is m e b in
      elim (cases_lt a.access b.access) [
        | inl up ↦ omega (arith, before_next n d a b.access up (omega (arith, slice_get_within entries b.access b.entry b.there)), b.number_is)
        | inr not ↦ elim (cases_lt b.access a.access) [
          | inl down ↦ absurd (omega (arith, grouped b.access a.access b.entry a.entry down b.there a.there, less, da, eb))
          | inr back ↦
              let same : a.access ≡ b.access = omega (arith, not, back) in
              let at : slice_get entries b.access ≡ Some a.entry = subst (λ i. slice_get entries i ≡ Some a.entry) same a.there in
              let bt : slice_get entries b.access ≡ Some b.entry = b.there in
              let one : a.entry ≡ b.entry = cc in
              absurd (omega (arith, less, da, eb, ap (λ (x : Entry). x.core) one))
        ]
      ]

  -- the event with which a chain goes on is of its core
  pub event_core_of : (fired : List FiredEvent) (core : ℕ) (c : ChainState) → IsChain pieces entries fired core c → c.access < c.end → (d : Event) → slice_get events (next_number pieces entries c) ≡ Some d → d.core ≡ core
  event_core_of fired core c is on d at =
      let e : (e : Entry) × (slice_get entries c.access ≡ Some e) = get_some entries c.access (omega (arith, on, is.within)) in
      let p : (p : Piece) × (slice_get (pieces e.0) c.place ≡ Some p) = get_some (pieces e.0) c.place (is.place e.0 on e.1) in
      let made : slice_get events (next_number pieces entries c) ≡ Some (event_at (events_before pieces entries c.access) e.0 (pieces e.0) c.place p.0) = placed.there c.access e.0 c.place p.0 e.1 p.1 in
      let one : d ≡ event_at (events_before pieces entries c.access) e.0 (pieces e.0) c.place p.0 = cc in
      ap (λ (z : Event). z.core) one ∙ is.own c.access e.0 e.1 (omega arith) on

  module _ (grouped : AreGrouped entries) (fired : List FiredEvent) (chains : List ChainState) (keys : List Key) (ascending : IsAscending keys) (way : AreUnderWay pieces entries fired chains keys)
      (known : (i : ℕ) (e : Entry) → slice_get entries i ≡ Some e → e.core < length chains) (x : FiredEvent) (next : IsNext fired events x)
      (first : (d : Event) → Contains events d → d.core ≡ x.event.core → d.number < x.event.number → is_fired fired d.number ≡ true) where
    abbrev pub core : ℕ
    core = x.event.core

    pub number_at : (n : ℕ) (d : Event) → slice_get events n ≡ Some d → d.number ≡ n
    number_at n d at = placed.numbered.number n d at

    pub x_at : slice_get events x.event.number ≡ Some x.event
    x_at =
        let c : Contains events x.event = next.event in
        let at : slice_get events c.0 ≡ Some (get_or events c.0 x.event) = slice_get-get_or events c.0 x.event c.1 in
        let here : slice_get events c.0 ≡ Some x.event = at ∙ ap Some c.2 in
        subst (λ n. slice_get events n ≡ Some x.event) (sym (number_at c.0 x.event here)) here

    pub unfired : is_fired fired x.event.number ≡ false
    unfired = unfired_from fired x.event next.ready

    pub x_of : IsEventOf pieces entries x.event.number x.event
    x_of = placed.each x.event.number x.event x_at

    -- the chain of its core
    abbrev pub own : (c : ChainState) × (slice_get chains core ≡ Some c)
    own = get_some chains core (omega (arith, known x_of.access x_of.entry x_of.there, core_is x.event.number x.event x_of))

    pub is_chain : IsChain pieces entries fired core own.0
    is_chain = way.chain core own.0 own.1

    not_behind : next_number pieces entries own.0 ≤ x.event.number
    not_behind = elim (cases_lt x.event.number (next_number pieces entries own.0)) [
      | inl less ↦ absurd (false≢true (sym unfired ∙ is_chain.behind x.event.number x.event x_at refl less))
      | inr not ↦ not
    ]

    pub goes_on : own.0.access < own.0.end
    goes_on = elim (cases_lt own.0.access own.0.end) [
      | inl less ↦ less
      | inr not ↦
          let same : own.0.access ≡ own.0.end = omega (arith, not, is_chain.from) in
          let inside : x_of.access < own.0.end = is_chain.all x_of.access x_of.entry x_of.there (sym (core_is x.event.number x.event x_of)) in
          let early : x.event.number < first_number pieces entries own.0.end = before_next x.event.number x.event x_of own.0.end inside is_chain.within in
          absurd (omega (arith, early, not_behind, is_chain.over same, ap (first_number pieces entries) same))
    ]

    -- the event with which a chain goes on
    pub event_of : (c : ChainState) (number : ℕ) → IsChain pieces entries fired number c → c.access < c.end → (d : Event) × ((slice_get events (next_number pieces entries c) ≡ Some d) × (d.core ≡ number))
    event_of c number is on =
        let e : (e : Entry) × (slice_get entries c.access ≡ Some e) = get_some entries c.access (omega (arith, on, is.within)) in
        let p : (p : Piece) × (slice_get (pieces e.0) c.place ≡ Some p) = get_some (pieces e.0) c.place (is.place e.0 on e.1) in
        (event_at (events_before pieces entries c.access) e.0 (pieces e.0) c.place p.0, (placed.there c.access e.0 c.place p.0 e.1 p.1, is.own c.access e.0 e.1 (omega arith) on))

    -- it is x
    pub is_next : slice_get events (next_number pieces entries own.0) ≡ Some x.event
    is_next =
        let d : (d : Event) × ((slice_get events (next_number pieces entries own.0) ≡ Some d) × (d.core ≡ core)) = event_of own.0 core is_chain goes_on in
        let n : d.0.number ≡ next_number pieces entries own.0 = number_at (next_number pieces entries own.0) d.0 d.1.0 in
        elim (cases_lt (next_number pieces entries own.0) x.event.number) [
          | inl less ↦
              let was : is_fired fired d.0.number ≡ true = first d.0 (contained events (next_number pieces entries own.0) d.0 d.1.0) d.1.1 (omega (arith, less, n)) in
              let not : is_fired fired (next_number pieces entries own.0) ≡ false = is_chain.ahead (next_number pieces entries own.0) d.0 d.1.0 d.1.1 (omega arith) in
              absurd (false≢true (sym not ∙ (ap (is_fired fired) (sym n) ∙ was)))
          | inr not ↦
              let same : x.event.number ≡ next_number pieces entries own.0 = omega (arith, not, not_behind) in
              subst (λ i. slice_get events i ≡ Some x.event) same x_at
        ]

    parent_fired : (o : Option Parent) → ((p : Parent) → o ≡ Some p → is_fired fired p.number ≡ true) → is_parent_fired fired o ≡ true
    parent_fired None h = refl
    parent_fired (Some p) h = h p refl

    -- an event with which a chain goes on is ready
    ready_of : (c : ChainState) (number : ℕ) → IsChain pieces entries fired number c → (d : Event) → slice_get events (next_number pieces entries c) ≡ Some d → d.core ≡ number → is_ready fired d ≡ true
    ready_of c number is d at core_of =
        let n : d.number ≡ next_number pieces entries c = number_at (next_number pieces entries c) d at in
        let parents : IsOfSameCore pieces entries d d.first × IsOfSameCore pieces entries d d.second = placed.parents (next_number pieces entries c) d at in
        all_of (is_fired fired d.number) (is_parent_fired fired d.first) (is_parent_fired fired d.second)
        (ap (is_fired fired) n ∙ is.ahead (next_number pieces entries c) d at core_of (omega arith))
        (parent_fired d.first (λ p is_p.
        let q : (q : Event) × ((slice_get events p.number ≡ Some q) × (q.core ≡ d.core)) = parents.0 p is_p in
        is.behind p.number q.0 q.1.0 (q.1.1 ∙ core_of) (placed.numbered.first (next_number pieces entries c) d p at is_p)))
        (parent_fired d.second (λ p is_p.
        let q : (q : Event) × ((slice_get events p.number ≡ Some q) × (q.core ≡ d.core)) = parents.1 p is_p in
        is.behind p.number q.0 q.1.0 (q.1.1 ∙ core_of) (placed.numbered.second (next_number pieces entries c) d p at is_p)))

    -- the key of its chain
    own_key : (k : Key) × (Contains keys k × ((k.number ≡ core) × (k.start ≡ x.start)))
    own_key =
        let k : (k : Key) × (Contains keys k × (k.number ≡ core)) = way.ready.all core own.0 own.1 goes_on in
        let r : IsReady pieces entries fired chains k.0 = way.ready.each k.0 k.1.0 in
        let there : slice_get chains core ≡ Some r.chain = subst (λ i. slice_get chains i ≡ Some r.chain) k.1.1 r.there in
        let mine : slice_get chains core ≡ Some own.0 = own.1 in
        let chain : r.chain ≡ own.0 = cc in
        let at : slice_get events (next_number pieces entries own.0) ≡ Some r.event = subst (λ c. slice_get events (next_number pieces entries c) ≡ Some r.event) chain r.next in
        let here : slice_get events (next_number pieces entries own.0) ≡ Some x.event = is_next in
        let event : r.event ≡ x.event = cc in
        (k.0, (k.1.0, (k.1.1, r.start ∙ (ap (start_of (finish_in fired)) event ∙ sym next.start))))

    place_of : (k : Key) → slice_get keys 0 ≡ Some k → (o : Key) (i : ℕ) → slice_get keys i ≡ Some o → o.number ≡ core → o.start ≡ x.start → (k.number ≡ core) × (k.start ≡ x.start)
    place_of k at o zero oi number start = let same : k ≡ o = cc in (ap (λ (z : Key). z.number) same ∙ number, ap (λ (z : Key). z.start) same ∙ start)
    place_of k at o (suc i) oi number start =
        let order : IsTrue (is_key_before (get_or keys 0 k) (get_or keys (suc i) k)) = ascending 0 (suc i) k (omega arith) (slice_get_within keys (suc i) o oi) in
        let before : is_key_before k o ≡ true =
        subst (λ z. is_key_before k z ≡ true) (get_or_from_slice_get keys (suc i) o k oi)
        (subst (λ z. is_key_before z (get_or keys (suc i) k) ≡ true) (get_or_from_slice_get keys 0 k k at) order)
        in
        let r : IsReady pieces entries fired chains k = way.ready.each k (contained keys 0 k at) in
        let is : IsChain pieces entries fired k.number r.chain = way.chain k.number r.chain r.there in
        let d : (d : Event) × ((slice_get events (next_number pieces entries r.chain) ≡ Some d) × (d.core ≡ k.number)) = event_of r.chain k.number is r.goes_on in
        let same : d.0 ≡ r.event = (let a : slice_get events (next_number pieces entries r.chain) ≡ Some d.0 = d.1.0 in let b : slice_get events (next_number pieces entries r.chain) ≡ Some r.event = r.next in cc) in
        let d_core : r.event.core ≡ k.number = ap (λ (e : Event). e.core) (sym same) ∙ d.1.1 in
        let d_ready : is_ready fired r.event ≡ true = ready_of r.chain k.number is r.event r.next d_core in
        elim (next.first r.event (contained events (next_number pieces entries r.chain) r.event r.next) d_ready) [
          | inl one ↦
              let cores : k.number ≡ core = sym d_core ∙ ap (λ (e : Event). e.core) one in
              (cores, r.start ∙ (ap (start_of (finish_in fired)) one ∙ sym next.start))
          | inr later ↦
              absurd (elim (event_cases x.event x.start r.event (start_of (finish_in fired) r.event) later) [
                | inl less ↦ elim (key_cases k o before) [
                  | inl early ↦ omega (arith, less, early, r.start, start)
                  | inr tie ↦ omega (arith, less, tie.0, r.start, start)
                ]
                | inr tie ↦ elim (key_cases k o before) [
                  | inl early ↦ omega (arith, tie.0, early, r.start, start)
                  | inr both ↦
                      omega (
                        arith,
                        tie.1,
                        number_at (next_number pieces entries r.chain) r.event r.next,
                        grouped_events grouped (next_number pieces entries r.chain) x.event.number r.event x.event r.next x_at (omega (arith, both.1, d_core, number)),
                      )
                ]
              ])
        ]

    -- the first key is that one
    pub popped : (k : Key) → slice_get keys 0 ≡ Some k → (k.number ≡ core) × (k.start ≡ x.start)
    popped k at =
        let o : (o : Key) × (Contains keys o × ((o.number ≡ core) × (o.start ≡ x.start))) = own_key in
        let i : ℕ = o.1.0.0 in
        let oi : slice_get keys i ≡ Some o.0 = slice_get-get_or keys i o.0 o.1.0.1 ∙ ap Some o.1.0.2 in
        place_of k at o.0 i oi o.1.1.0 o.1.1.1
