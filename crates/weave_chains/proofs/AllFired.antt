-- A round that counts its event, and what is known once all have fired.
use Rattle.std.proofs.Common.{◌≡◌, ◌+◌, ◌*◌, ◌<◌, ◌≤◌, ◌^◌, ℕ, true, false, List, [], ◌∷◌, ◌++◌, Some, inl, inr, take, sym, ◌∙◌, ap, subst, refl, arith}
use Rattle.std.specs.Prelude.{slice_set, slice_get}
use Rattle.std.specs.List.{Contains}
use Rattle.std.proofs.lemmas.Bool.{cases_eq}
use Rattle.std.proofs.lemmas.Option.{slice_get_within}
use Rattle.component.specs.declared.kind.Kind.{Kind}
use Rattle.zs_num.specs.declared.entry.Entry.{Entry}
use Rattle.zs_num.specs.declared.time.Key.{Key}
use Rattle.event_graph.specs.declared.event.Event.{Event}
use Rattle.event_graph.specs.declared.piece.Piece.{Piece}
use Rattle.event_graph.specs.EventGraph.{all_events}
use Rattle.event_graph.specs.OneListWeave.{FiredEvent, after_firings, weave}
use Rattle.event_graph.specs.TimingSolution.{IsInOrder}
use Rattle.weave_chains.specs.States.{ChainState}
use Rattle.weave_chains.specs.declared.tally.Served.{Served}
use Rattle.weave_chains.specs.declared.tally.Tally.{Tally}
use Rattle.weave_chains.specs.Rounds.{HasCome}
use Rattle.weave_chains.specs.Tallies.{AreSmall, AreTallied, HaveFired, served_of, taken, ties}
use Rattle.weave_chains.specs.Ties.{HaveNoTie, HaveTie}
use Rattle.weave_chains.proofs.Moved.{set_other, set_same}
use Rattle.weave_chains.proofs.Tallied as T

pub none_fired : {C : Type 0} (stepped : C → Kind → ℕ → C × ℕ) (events : List Event) (first : List C) → (after_firings stepped events first 0).fired ≡ []
unfolding after_firings
none_fired stepped events first = refl

pub begins : {C : Type 0} (stepped : C → Kind → ℕ → C × ℕ) (pieces : Entry → List Piece) (entries : List Entry) (first : List C) (chains : List ChainState) (keys : List Key) (comps : List C) (tallies : List Tally)
    → HasCome stepped pieces entries first 0 chains keys comps → AreTallied [] tallies → HaveFired stepped pieces entries first 0 chains keys comps tallies
begins stepped pieces entries first chains keys comps tallies come none = record {
  come = come;
  tallied = subst (λ xs. AreTallied xs tallies) (sym (none_fired stepped (all_events pieces entries) first)) none;
  no_tie = subst (λ xs. HaveNoTie xs) (sym (none_fired stepped (all_events pieces entries) first)) T.none_tie;
}

-- sums of one event more
pub still_small : (n : ℕ) (tallies : List Tally) (t : Tally) (s : Served) → s.waited < 2 ^ 64 → AreSmall n tallies → slice_get tallies s.component ≡ Some t
    → AreSmall (n + 1) (slice_set tallies s.component (taken t s))
still_small n tallies t s few small t_at component u u_at =
    let own : (t.count.events ≤ n) × (t.count.waited ≤ 2 ^ 64 * n) = small s.component t t_at in
    elim (cases_eq s.component component) [
      | inl same ↦
          let here : slice_get (slice_set tallies s.component (taken t s)) component ≡ Some (taken t s) =
          subst (λ k. slice_get (slice_set tallies s.component (taken t s)) k ≡ Some (taken t s)) same (set_same tallies s.component (taken t s) (slice_get_within tallies s.component t t_at))
          in
          let one : taken t s ≡ u = cc in
          let events : t.count.events + 1 ≡ u.count.events = ap (λ (z : Tally). z.count.events) one in
          let waited : t.count.waited + s.waited ≡ u.count.waited = ap (λ (z : Tally). z.count.waited) one in
          (omega (arith, own.0, events), omega (arith, own.1, waited, few))
      | inr other ↦
          let old : (u.count.events ≤ n) × (u.count.waited ≤ 2 ^ 64 * n) = small component u (sym (set_other tallies s.component component (taken t s) other) ∙ u_at) in
          (omega (arith, old.0), omega (arith, old.1))
    ]

module _ {C : Type 0} (stepped : C → Kind → ℕ → C × ℕ) (pieces : Entry → List Piece) (entries : List Entry) (first : List C) (n : ℕ)
    (ordered : IsInOrder (weave stepped (all_events pieces entries) first).fired)
    (prefix : (after_firings stepped (all_events pieces entries) first (n + 1)).fired ≡ take (n + 1) (weave stepped (all_events pieces entries) first).fired)
    (x : FiredEvent) (x_is : (after_firings stepped (all_events pieces entries) first (n + 1)).fired ≡ (after_firings stepped (all_events pieces entries) first n).fired ++ x ∷ [])
    (s : Served) (s_is : s ≡ served_of x)
    (chains : List ChainState) (keys : List Key) (comps : List C) (tallies : List Tally) (have : HaveFired stepped pieces entries first n chains keys comps tallies)
    (t : Tally) (t_at : slice_get tallies s.component ≡ Some t) where
  abbrev fired : List FiredEvent
  fired = (after_firings stepped (all_events pieces entries) first n).fired

  order : (y : FiredEvent) → Contains fired y → y.start ≤ x.start
  order = T.in_order (weave stepped (all_events pieces entries) first).fired fired x (n + 1) ordered (sym x_is ∙ prefix)

  component_is : s.component ≡ x.event.component
  component_is = ap (λ (z : Served). z.component) s_is

  t_there : slice_get tallies x.event.component ≡ Some t
  t_there = subst (λ k. slice_get tallies k ≡ Some t) component_is t_at

  pub goes_on : (chains' : List ChainState) (keys' : List Key) (comps' : List C) → HasCome stepped pieces entries first (n + 1) chains' keys' comps' → ties t.last s ≡ false
      → HaveFired stepped pieces entries first (n + 1) chains' keys' comps' (slice_set tallies s.component (taken t s))
  goes_on chains' keys' comps' come untied = record {
    come = come;
    tallied = subst (λ xs. AreTallied xs (slice_set tallies s.component (taken t s))) (sym x_is)
        (subst (λ k. AreTallied (fired ++ x ∷ []) (slice_set tallies k (taken t s))) (sym component_is)
        (T.one_more fired x order s s_is tallies have.tallied t t_there));
    no_tie = subst (λ xs. HaveNoTie xs) (sym x_is) (T.no_tie fired x order s s_is t (have.tallied x.event.component t t_there) untied have.no_tie);
  }

  pub meets : ties t.last s ≡ true → HaveTie (weave stepped (all_events pieces entries) first).fired
  meets tied =
      T.tie_of_first (weave stepped (all_events pieces entries) first).fired (fired ++ x ∷ []) (n + 1) (sym x_is ∙ prefix)
      (T.tie fired x order s s_is t (have.tallied x.event.component t t_there) tied)
