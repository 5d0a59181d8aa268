-- The queue after the next event has fired.
use Rattle.std.proofs.Common.{◌≡◌, ◌<◌, ◌≤◌, ℕ, zero, suc, true, false, List, [], ◌∷◌, ◌++◌, length, drop, get_or, Some, ◌⊎◌, inl, inr, sym, ◌∙◌, ap, subst, refl, arith}
use Rattle.std.specs.Prelude.{IsTrue, slice_set}
use Rattle.std.specs.List.{Contains, slice_get}
use Rattle.std.proofs.lemmas.Bool.{cases_eq, cond_both}
use Rattle.std.proofs.lemmas.Option.{get_or_from_slice_get, slice_get-get_or, slice_get_within}
use Rattle.zs_num.specs.declared.entry.Entry.{Entry}
use Rattle.zs_num.specs.declared.time.Key.{Key}
use Rattle.zs_num.specs.KeyOrder.{is_key_before}
use Rattle.domain_queue.specs.SortedKeys.{IsAscending, put}
use Rattle.event_graph.specs.declared.event.Event.{Event}
use Rattle.event_graph.specs.declared.piece.Piece.{Piece}
use Rattle.event_graph.specs.EventGraph.{all_events}
use Rattle.event_graph.specs.OneListWeave.{FiredEvent, finish_in, is_fired, start_of}
use Rattle.event_graph.proofs.Lists.{In, contains_in, in_contains}
use Rattle.weave_chains.specs.States.{ChainState}
use Rattle.weave_chains.specs.Chains.{AreUnderWay, IsChain, IsReady, next_number}
use Rattle.weave_chains.specs.GraphFacts.{ArePlaced}
use Rattle.weave_chains.proofs.Moved.{other_chain, other_start, set_other, set_same}
use Rattle.weave_chains.proofs.Popped.{contained, event_core_of, key_cases}

-- ---- keys

pub from_put : (k z : Key) (ks : List Key) → In z (put k ks) → (k ≡ z) ⊎ In z ks
from_put k z [] m = elim m [ inl e ↦ inl e | inr n ↦ absurd n ]
from_put k z (y ∷ ys) m =
    cond_both (is_key_before k y) (k ∷ y ∷ ys) (y ∷ put k ys) (λ zs. In z zs → (k ≡ z) ⊎ In z (y ∷ ys))
    (λ _ n. elim n [ inl e ↦ inl e | inr o ↦ inr o ])
    (λ _ n. elim n [ inl e ↦ inr (inl e) | inr o ↦ elim (from_put k z ys o) [ inl e ↦ inl e | inr r ↦ inr (inr r) ] ])
    m

pub in_put : (k z : Key) (ks : List Key) → (k ≡ z) ⊎ In z ks → In z (put k ks)
in_put k z [] h = elim h [ inl e ↦ inl e | inr n ↦ absurd n ]
in_put k z (y ∷ ys) h =
    cond_both (is_key_before k y) (k ∷ y ∷ ys) (y ∷ put k ys) (λ zs. In z zs)
    (λ _. elim h [ inl e ↦ inl e | inr n ↦ inr n ])
    (λ _. elim h [ inl e ↦ inr (in_put k z ys (inl e)) | inr n ↦ elim n [ inl e ↦ inl e | inr o ↦ inr (in_put k z ys (inr o)) ] ])

behind_first : (ks : List Key) (i : ℕ) → slice_get (drop 1 ks) i ≡ slice_get ks (suc i)
behind_first [] i = refl
behind_first (k ∷ ks) i = refl

module _ (pieces : Entry → List Piece) (entries : List Entry) (placed : ArePlaced pieces entries) (fired : List FiredEvent) (x : FiredEvent)
    (unfired : is_fired fired x.event.number ≡ false) (x_at : slice_get (all_events pieces entries) x.event.number ≡ Some x.event)
    (chains : List ChainState) (keys : List Key) (ascending : IsAscending keys) (way : AreUnderWay pieces entries fired chains keys)
    (k : Key) (first : slice_get keys 0 ≡ Some k) (core_is : k.number ≡ x.event.core)
    (c : ChainState) (here : slice_get chains k.number ≡ Some c) (next : slice_get (all_events pieces entries) (next_number pieces entries c) ≡ Some x.event)
    (moved : ChainState) (is_moved : IsChain pieces entries (fired ++ x ∷ []) x.event.core moved) where
  abbrev events : List Event
  events = all_events pieces entries

  abbrev after : List FiredEvent
  after = fired ++ x ∷ []

  abbrev pub chains_after : List ChainState
  chains_after = slice_set chains k.number moved

  there : k.number < length chains
  there = slice_get_within chains k.number c here

  other_there : (core : ℕ) (d : ChainState) → (k.number ≡ core → ⊥) → slice_get chains core ≡ Some d → slice_get chains_after core ≡ Some d
  other_there core d other at = set_other chains k.number core moved other ∙ at

  pub chain_after : (core : ℕ) (d : ChainState) → slice_get chains_after core ≡ Some d → IsChain pieces entries after core d
  chain_after core d at =
      elim (cases_eq k.number core) [
        | inl same ↦
            let set : slice_get chains_after core ≡ Some moved = subst (λ i. slice_get chains_after i ≡ Some moved) same (set_same chains k.number moved there) in
            let one : moved ≡ d = cc in
            subst (λ z. IsChain pieces entries after core z) one (subst (λ i. IsChain pieces entries after i moved) (sym core_is ∙ same) is_moved)
        | inr other ↦
            let old : slice_get chains core ≡ Some d = sym (set_other chains k.number core moved other) ∙ at in
            other_chain pieces entries placed fired x unfired x_at core d (λ same. other (core_is ∙ sym same)) (way.chain core d old)
      ]

  -- a key behind the first is of another chain
  behind : (z : Key) → Contains (drop 1 keys) z → Contains keys z × (k.number ≡ z.number → ⊥)
  behind z m =
      let i : ℕ = m.0 in
      let at : slice_get keys (suc i) ≡ Some z = sym (behind_first keys i) ∙ (slice_get-get_or (drop 1 keys) i z m.1 ∙ ap Some m.2) in
      let c_z : Contains keys z = contained keys (suc i) z at in (
        c_z,
        λ same.
            let r : IsReady pieces entries fired chains z = way.ready.each z c_z in
            let q : IsReady pieces entries fired chains k = way.ready.each k (contained keys 0 k first) in
            let rc : slice_get chains z.number ≡ Some r.chain = r.there in
            let qc : slice_get chains z.number ≡ Some q.chain = subst (λ n. slice_get chains n ≡ Some q.chain) same q.there in
            let one : r.chain ≡ q.chain = cc in
            let re : slice_get events (next_number pieces entries q.chain) ≡ Some r.event = subst (λ d. slice_get events (next_number pieces entries d) ≡ Some r.event) one r.next in
            let qe : slice_get events (next_number pieces entries q.chain) ≡ Some q.event = q.next in
            let event : r.event ≡ q.event = cc in
            let start : z.start ≡ k.start = r.start ∙ (ap (start_of (finish_in fired)) event ∙ sym q.start) in
            let order : IsTrue (is_key_before (get_or keys 0 k) (get_or keys (suc i) k)) = ascending 0 (suc i) k (omega arith) (slice_get_within keys (suc i) z at) in
            let before : is_key_before k z ≡ true =
            subst (λ y. is_key_before k y ≡ true) (get_or_from_slice_get keys (suc i) z k at)
            (subst (λ y. is_key_before y (get_or keys (suc i) k) ≡ true) (get_or_from_slice_get keys 0 k k first) order)
            in
            elim (key_cases k z before) [ inl less ↦ omega (arith, less, start) | inr tie ↦ omega (arith, tie.1, same) ],
      )

  event_core : (z : Key) (r : IsReady pieces entries fired chains z) → r.event.core ≡ z.number
  event_core z r = event_core_of pieces entries placed fired z.number r.chain (way.chain z.number r.chain r.there) r.goes_on r.event r.next

  -- its chain goes on as before
  still_ready : (z : Key) → Contains (drop 1 keys) z → IsReady pieces entries after chains_after z
  still_ready z m =
      let b : Contains keys z × (k.number ≡ z.number → ⊥) = behind z m in
      let r : IsReady pieces entries fired chains z = way.ready.each z b.0 in
      let of_core : r.event.core ≡ x.event.core → ⊥ =
      λ same. b.1 (core_is ∙ (sym same ∙ event_core z r))
      in
      record {
        chain = r.chain;
        there = other_there z.number r.chain b.1 r.there;
        goes_on = r.goes_on;
        event = r.event;
        next = r.next;
        start = r.start ∙ sym (other_start pieces entries placed fired x unfired x_at (next_number pieces entries r.chain) r.event r.next of_core);
      }

  key_at : (core : ℕ) → (k.number ≡ core → ⊥) → (z : Key) → z.number ≡ core → (i : ℕ) → slice_get keys i ≡ Some z → (y : Key) × (Contains (drop 1 keys) y × (y.number ≡ core))
  key_at core other z number zero at = let same : k ≡ z = cc in absurd (other (ap (λ (y : Key). y.number) same ∙ number))
  key_at core other z number (suc i) at = (z, (contained (drop 1 keys) i z (behind_first keys i ∙ at), number))

  -- another chain that goes on has its key behind the first
  other_key : (core : ℕ) (d : ChainState) → (k.number ≡ core → ⊥) → slice_get chains core ≡ Some d → d.access < d.end → (z : Key) × (Contains (drop 1 keys) z × (z.number ≡ core))
  other_key core d other at on =
      let z : (z : Key) × (Contains keys z × (z.number ≡ core)) = way.ready.all core d at on in
      let zi : slice_get keys z.1.0.0 ≡ Some z.0 = slice_get-get_or keys z.1.0.0 z.0 z.1.0.1 ∙ ap Some z.1.0.2 in
      key_at core other z.0 z.1.1 z.1.0.0 zi

  -- where the chain is over
  pub over : moved.end ≤ moved.access → AreUnderWay pieces entries after chains_after (drop 1 keys)
  over done = record {
    chain = chain_after;
    ready = record {
      each = still_ready;
      all = λ core d at on. elim (cases_eq k.number core) [
        | inl same ↦
            let set : slice_get chains_after core ≡ Some moved = subst (λ i. slice_get chains_after i ≡ Some moved) same (set_same chains k.number moved there) in
            let one : moved ≡ d = cc in
            absurd (omega (arith, done, on, ap (λ (z : ChainState). z.access) one, ap (λ (z : ChainState). z.end) one))
        | inr other ↦ other_key core d other (sym (set_other chains k.number core moved other) ∙ at) on
      ];
    };
  }

  -- where it goes on with an event that starts then
  module _ (on : moved.access < moved.end) (e : Event) (e_at : slice_get events (next_number pieces entries moved) ≡ Some e) (start : ℕ) (start_is : start ≡ start_of (finish_in after) e) where
    abbrev pub new_key : Key
    new_key = record { start = start; number = k.number }

    new_ready : IsReady pieces entries after chains_after new_key
    new_ready = record {
      chain = moved;
      there = set_same chains k.number moved there;
      goes_on = on;
      event = e;
      next = e_at;
      start = start_is;
    }

    pub goes_on : AreUnderWay pieces entries after chains_after (put new_key (drop 1 keys))
    goes_on = record {
      chain = chain_after;
      ready = record {
        each = λ z m. elim (from_put new_key z (drop 1 keys) (in_contains z (put new_key (drop 1 keys)) m)) [
          | inl same ↦ subst (λ y. IsReady pieces entries after chains_after y) same new_ready
          | inr old ↦ still_ready z (contains_in z (drop 1 keys) old)
        ];
        all = λ core d at on'. elim (cases_eq k.number core) [
          | inl same ↦ (new_key, (contains_in new_key (put new_key (drop 1 keys)) (in_put new_key new_key (drop 1 keys) (inl refl)), same))
          | inr other ↦
              let z : (z : Key) × (Contains (drop 1 keys) z × (z.number ≡ core)) = other_key core d other (sym (set_other chains k.number core moved other) ∙ at) on' in
              (z.0, (contains_in z.0 (put new_key (drop 1 keys)) (in_put new_key z.0 (drop 1 keys) (inr (in_contains z.0 (drop 1 keys) z.1.0))), z.1.1))
        ];
      };
    }
