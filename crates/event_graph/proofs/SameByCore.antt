-- In another order of the accesses that keeps those of each core, the events are the same under other numbers.
use Rattle.std.proofs.Common.{◌≡◌, ◌<◌, ◌==◌, ℕ, true, List, length, map, Option, Some, None, inl, inr, sym, ◌∙◌, ap, subst, refl, arith}
use Rattle.std.specs.List.{filter, slice_get}
use Rattle.std.specs.Option.{option_map_or}
use Rattle.std.proofs.lemmas.Bool.{cases_lt, eq-eqb, eqb-true}
use Rattle.std.proofs.lemmas.Option.{slice_get-map}
use Rattle.zs_num.specs.declared.entry.Entry.{Entry}
use Rattle.event_graph.specs.declared.event.Event.{Event}
use Rattle.event_graph.specs.declared.event.Parent.{Parent}
use Rattle.event_graph.specs.declared.piece.Piece.{Piece}
use Rattle.event_graph.specs.EventGraph.{all_events}
use Rattle.event_graph.specs.Expansion.{ParentsComeBefore}
use Rattle.event_graph.specs.Numbered.{IsNumbered}
use Rattle.event_graph.specs.OrderByCore.{AreRenumberedByCore, HaveTheSameByCore, accesses_of}
use Rattle.event_graph.specs.Renumbering.{renumbered, renumbered_parent}
use Rattle.event_graph.proofs.AllEvents.{all_numbered, mapped_some}
use Rattle.event_graph.proofs.ByCore.{Shows, is_of_core, same_numbers, shows_own}
use Rattle.event_graph.proofs.Lists.{In, at_in, contains_in, get-map, get_some, get_within, in_at, in_contains}
use Rattle.event_graph.proofs.Ranks.{at_rank, from_rank, rank, rank_rises}

-- ---- the events of one core among numbered ones
module _ (core : ℕ) (events own : List Event) (numbered : IsNumbered events) (own_numbered : IsNumbered own) (s : Shows core events own) where
  -- where the event at a place of the core's own stands
  pub record Placed (r : ℕ) (o : Event) : Type 0 where
    pub place : ℕ
    pub there : slice_get events place ≡ Some (renumbered s.0 o)
    pub of_core : (o.core == core) ≡ true
    pub rank_is : rank (is_of_core core) events place ≡ r
    pub number_is : s.0 r ≡ place

  pub placed : (r : ℕ) (o : Event) → slice_get own r ≡ Some o → Placed r o
  placed r o at =
      let left : slice_get (filter (is_of_core core) events) r ≡ Some (renumbered s.0 o) =
      subst (λ xs. slice_get xs r ≡ Some (renumbered s.0 o)) (sym s.1) (get-map (renumbered s.0) o own r at)
      in
      let f : (n : ℕ) × ((slice_get events n ≡ Some (renumbered s.0 o)) × ((is_of_core core (renumbered s.0 o) ≡ true) × (rank (is_of_core core) events n ≡ r))) =
      from_rank (is_of_core core) events r (renumbered s.0 o) left
      in
      record {
        place = f.0;
        there = f.1.0;
        of_core = f.1.1.0;
        rank_is = f.1.1.1;
        number_is = ap s.0 (sym (own_numbered.number r o at)) ∙ numbered.number f.0 (renumbered s.0 o) f.1.0;
      }

  -- which of the core's own it is
  pub record IsOwn (e : Event) (n : ℕ) : Type 0 where
    pub own_event : Event
    pub at : slice_get own (rank (is_of_core core) events n) ≡ Some own_event
    pub is : e ≡ renumbered s.0 own_event

  pub is_own : (e : Event) (n : ℕ) → slice_get events n ≡ Some e → (e.core == core) ≡ true → IsOwn e n
  is_own e n at of_core =
      let r : ℕ = rank (is_of_core core) events n in
      let left : slice_get (map (renumbered s.0) own) r ≡ Some e = subst (λ xs. slice_get xs r ≡ Some e) s.1 (at_rank (is_of_core core) events n e at of_core) in
      let f : (o : Event) × (slice_get own r ≡ Some o) × (e ≡ renumbered s.0 o) = mapped_some (renumbered s.0) (slice_get own r) e (sym (slice_get-map (renumbered s.0) own r) ∙ left) in
      record { own_event = f.0; at = f.1; is = f.2 }

  -- the numbers rise
  pub rises : (r t : ℕ) → r < t → t < length own → s.0 r < s.0 t
  rises r t less within =
      let o : (o : Event) × (slice_get own r ≡ Some o) = get_some own r (omega (arith, less, within)) in
      let q : (q : Event) × (slice_get own t ≡ Some q) = get_some own t within in
      let a : Placed r o.0 = placed r o.0 o.1 in
      let b : Placed t q.0 = placed t q.0 q.1 in
      elim (cases_lt a.place b.place) [
        | inl fine ↦ omega (arith, fine, a.number_is, b.number_is)
        | inr late ↦ elim (cases_lt b.place a.place) [
          | inl wrong ↦
              let k : rank (is_of_core core) events b.place < rank (is_of_core core) events a.place =
              rank_rises (is_of_core core) events b.place a.place (renumbered s.0 q.0) b.there b.of_core wrong
              in
              absurd (omega (arith, k, a.rank_is, b.rank_is, less))
          | inr back ↦
              let one : a.place ≡ b.place = omega (arith, late, back) in
              absurd (omega (arith, sym a.rank_is ∙ (ap (rank (is_of_core core) events) one ∙ b.rank_is), less))
        ]
      ]

module _ (pieces : Entry → List Piece) (law : (e : Entry) → ParentsComeBefore (pieces e)) (entries others : List Entry) (same : HaveTheSameByCore entries others) where
  abbrev events : List Event
  events = all_events pieces entries

  abbrev moved : List Event
  moved = all_events pieces others

  abbrev own : (core : ℕ) → List Event
  own core = all_events pieces (accesses_of core entries)

  numbered : IsNumbered events
  numbered = all_numbered pieces law entries

  moved_numbered : IsNumbered moved
  moved_numbered = all_numbered pieces law others

  own_numbered : (core : ℕ) → IsNumbered (own core)
  own_numbered core = all_numbered pieces law (accesses_of core entries)

  shows : (core : ℕ) → Shows core events (own core)
  shows core = shows_own pieces law core entries

  moved_shows : (core : ℕ) → Shows core moved (own core)
  moved_shows core = subst (λ es. Shows core moved (all_events pieces es)) (same core) (shows_own pieces law core others)

  abbrev pos : (core : ℕ) → ℕ → ℕ
  pos core = (shows core).0

  abbrev moved_pos : (core : ℕ) → ℕ → ℕ
  moved_pos core = (moved_shows core).0

  -- the other number: that of the same of the core's events
  pub to : ℕ → ℕ
  to n = option_map_or (λ e. moved_pos e.core (rank (is_of_core e.core) events n)) (slice_get events n) 0

  to_at : (n : ℕ) (e : Event) → slice_get events n ≡ Some e → to n ≡ moved_pos e.core (rank (is_of_core e.core) events n)
  unfolding to
  to_at n e at = ap (λ o. option_map_or (λ (x : Event). moved_pos x.core (rank (is_of_core x.core) events n)) o 0) at

  to_pos : (core j : ℕ) → j < length (own core) → to (pos core j) ≡ moved_pos core j
  to_pos core j below =
      let o : (o : Event) × (slice_get (own core) j ≡ Some o) = get_some (own core) j below in
      let p : Placed core events (own core) numbered (own_numbered core) (shows core) j o.0 = placed core events (own core) numbered (own_numbered core) (shows core) j o.0 o.1 in
      ap to p.number_is
      ∙ (to_at p.place (renumbered (pos core) o.0) p.there
      ∙ (ap (λ d. moved_pos d (rank (is_of_core d) events p.place)) (eqb-true o.0.core core p.of_core)
      ∙ ap (moved_pos core) p.rank_is))

  to_parent : (core : ℕ) (o : Option Parent) → ((p : Parent) → o ≡ Some p → p.number < length (own core))
      → renumbered_parent to (renumbered_parent (pos core) o) ≡ renumbered_parent (moved_pos core) o
  to_parent core None h = refl
  to_parent core (Some p) h = ap (λ n. Some (record { number = n; delay = p.delay })) (to_pos core p.number (h p refl))

  to_event : (core : ℕ) (r : ℕ) (o : Event) → slice_get (own core) r ≡ Some o → renumbered to (renumbered (pos core) o) ≡ renumbered (moved_pos core) o
  to_event core r o at =
      let within : r < length (own core) = get_within (own core) r o at in
      same_numbers o (to (pos core o.number)) (moved_pos core o.number) (renumbered_parent to (renumbered_parent (pos core) o.first)) (renumbered_parent (moved_pos core) o.first)
      (renumbered_parent to (renumbered_parent (pos core) o.second)) (renumbered_parent (moved_pos core) o.second)
      (to_pos core o.number (omega (arith, within, (own_numbered core).number r o at)))
      (to_parent core o.first (λ p k. omega (arith, within, (own_numbered core).first r o p at k)))
      (to_parent core o.second (λ p k. omega (arith, within, (own_numbered core).second r o p at k)))

  there : (e : Event) → In e events → In (renumbered to e) moved
  there e m =
      let at : (n : ℕ) × (slice_get events n ≡ Some e) = in_at e events m in
      let c : ℕ = e.core in
      let o : IsOwn c events (own c) numbered (own_numbered c) (shows c) e at.0 = is_own c events (own c) numbered (own_numbered c) (shows c) e at.0 at.1 (eq-eqb c c refl) in
      let p : Placed c moved (own c) moved_numbered (own_numbered c) (moved_shows c) (rank (is_of_core c) events at.0) o.own_event =
      placed c moved (own c) moved_numbered (own_numbered c) (moved_shows c) (rank (is_of_core c) events at.0) o.own_event o.at
      in
      subst (λ x. In x moved) (sym (ap (renumbered to) o.is ∙ to_event c (rank (is_of_core c) events at.0) o.own_event o.at))
      (at_in (renumbered (moved_pos c) o.own_event) moved p.place p.there)

  back : (x : Event) → In x moved → (e : Event) × (In e events × (x ≡ renumbered to e))
  back x m =
      let at : (n : ℕ) × (slice_get moved n ≡ Some x) = in_at x moved m in
      let c : ℕ = x.core in
      let o : IsOwn c moved (own c) moved_numbered (own_numbered c) (moved_shows c) x at.0 = is_own c moved (own c) moved_numbered (own_numbered c) (moved_shows c) x at.0 at.1 (eq-eqb c c refl) in
      let p : Placed c events (own c) numbered (own_numbered c) (shows c) (rank (is_of_core c) moved at.0) o.own_event =
      placed c events (own c) numbered (own_numbered c) (shows c) (rank (is_of_core c) moved at.0) o.own_event o.at
      in
      (renumbered (pos c) o.own_event, (at_in (renumbered (pos c) o.own_event) events p.place p.there, o.is ∙ sym (to_event c (rank (is_of_core c) moved at.0) o.own_event o.at)))

  in_order : (c : ℕ) (d e : Event) (n m : ℕ) → slice_get events n ≡ Some d → slice_get events m ≡ Some e → d.core ≡ c → e.core ≡ c → n < m → to n < to m
  in_order c d e n m dn em dc ec less =
      let r : ℕ = rank (is_of_core c) events n in
      let t : ℕ = rank (is_of_core c) events m in
      let up : r < t = rank_rises (is_of_core c) events n m d dn (eq-eqb d.core c dc) less in
      let o : IsOwn c events (own c) numbered (own_numbered c) (shows c) e m = is_own c events (own c) numbered (own_numbered c) (shows c) e m em (eq-eqb e.core c ec) in
      let k : moved_pos c r < moved_pos c t = rises c moved (own c) moved_numbered (own_numbered c) (moved_shows c) r t up (get_within (own c) t o.own_event o.at) in
      let a : to n ≡ moved_pos c r = to_at n d dn ∙ ap (λ z. moved_pos z (rank (is_of_core z) events n)) dc in
      let b : to m ≡ moved_pos c t = to_at m e em ∙ ap (λ z. moved_pos z (rank (is_of_core z) events m)) ec in
      omega (arith, k, a, b)

  -- an event's other number is its number among the others
  number_among : (n : ℕ) (e : Event) → slice_get events n ≡ Some e → slice_get moved (to n) ≡ Some (renumbered to e)
  number_among n e at =
      let k : (i : ℕ) × (slice_get moved i ≡ Some (renumbered to e)) = in_at (renumbered to e) moved (there e (at_in e events n at)) in
      let number : to e.number ≡ k.0 = moved_numbered.number k.0 (renumbered to e) k.1 in
      subst (λ i. slice_get moved i ≡ Some (renumbered to e)) (sym number ∙ ap to (numbered.number n e at)) k.1

  apart : (i j : ℕ) → i < length events → j < length events → to i ≡ to j → i ≡ j
  apart i j ib jb q =
      let d : (d : Event) × (slice_get events i ≡ Some d) = get_some events i ib in
      let e : (e : Event) × (slice_get events j ≡ Some e) = get_some events j jb in
      let a : slice_get moved (to j) ≡ Some (renumbered to d.0) = subst (λ n. slice_get moved n ≡ Some (renumbered to d.0)) q (number_among i d.0 d.1) in
      let b : slice_get moved (to j) ≡ Some (renumbered to e.0) = number_among j e.0 e.1 in
      let one : renumbered to d.0 ≡ renumbered to e.0 = cc in
      let core : d.0.core ≡ e.0.core = ap (λ (x : Event). x.core) one in
      elim (cases_lt i j) [
        | inl less ↦ absurd (omega (arith, in_order e.0.core d.0 e.0 i j d.1 e.1 core refl less, q))
        | inr not ↦ elim (cases_lt j i) [
          | inl more ↦ absurd (omega (arith, in_order e.0.core e.0 d.0 j i e.1 d.1 refl core more, q))
          | inr back ↦ omega (arith, not, back)
        ]
      ]

  pub are_renumbered : AreRenumberedByCore to events moved
  are_renumbered = record {
    renumbered = record {
      apart = apart;
      there = λ e m. contains_in (renumbered to e) moved (there e (in_contains e events m));
      no_other = λ x m. let r : (e : Event) × (In e events × (x ≡ renumbered to e)) = back x (in_contains x moved m) in (r.0, (contains_in r.0 events r.1.0, r.1.1));
    };
    rises = λ d e md me core less.
        let a : (n : ℕ) × (slice_get events n ≡ Some d) = in_at d events (in_contains d events md) in
        let b : (n : ℕ) × (slice_get events n ≡ Some e) = in_at e events (in_contains e events me) in
        let an : d.number ≡ a.0 = numbered.number a.0 d a.1 in
        let bn : e.number ≡ b.0 = numbered.number b.0 e b.1 in
        let k : to a.0 < to b.0 = in_order e.core d e a.0 b.0 a.1 b.1 core refl (omega (arith, less, an, bn)) in
        omega (arith, k, ap to an, ap to bn);
  }
