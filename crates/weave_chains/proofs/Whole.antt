-- The weave from its beginning to its end.
use Rattle.std.proofs.Common.{◌≡◌, ◌+◌, ℕ, List, [], map, length, replicate, Some, None, zero, suc, sym, ◌∙◌, ap, subst, refl, arith}
use Rattle.std.specs.Prelude.{slice_get}
use Rattle.std.specs.List.{Contains, range_with_len}
use Rattle.std.specs.List.Sorted.{IsPermutation}
use Rattle.std.proofs.lemmas.List.Sorted.{Contains-permutation, IsPermutation-sym}
use Rattle.component.specs.declared.kind.Kind.{Kind}
use Rattle.zs_num.specs.declared.entry.Entry.{Entry}
use Rattle.zs_num.specs.declared.time.Key.{Key}
use Rattle.event_graph.specs.declared.event.Event.{Event}
use Rattle.event_graph.specs.declared.piece.Piece.{Piece}
use Rattle.event_graph.specs.EventGraph.{all_events}
use Rattle.event_graph.specs.OneListWeave.{FiredEvent, after_firings, fired_of, weave, woven}
use Rattle.event_graph.specs.Critical.{last_critical}
use Rattle.event_graph.specs.Firing.{FiredByTheRules, time_so_far}
use Rattle.event_graph.specs.TimingSolution.{IsInOrder}
use Rattle.stats.specs.Counts.{comp_count_in}
use Rattle.stats.specs.Counted.{no_comp_count}
use Rattle.weave_chains.specs.States.{ChainState}
use Rattle.weave_chains.specs.declared.tally.Tally.{Tally}
use Rattle.weave_chains.specs.declared.weave.Woven.{Woven}
use Rattle.weave_chains.specs.Beginning.{AreFresh}
use Rattle.weave_chains.specs.Chains.{AreReady, AreUnderWay, delay_by}
use Rattle.weave_chains.specs.GraphFacts.{ArePlaced}
use Rattle.weave_chains.specs.Rounds.{AreInChains, HasCome}
use Rattle.weave_chains.specs.Tallies.{AreSmall, AreTallied, HaveFired}
use Rattle.weave_chains.specs.Ties.{HaveNoTie, HaveTie}
use Rattle.weave_chains.specs.Woven.{IsWoven, interval_of}
use Rattle.weave_chains.proofs.AllFired.{none_fired}
use Rattle.weave_chains.proofs.Answered.{all_fired, as_fired, woven_is as woven_as}
use Rattle.weave_chains.proofs.Counts.{counted_in_order, in_interval}
use Rattle.weave_chains.proofs.Ended.{by_places, delays_are}
use Rattle.weave_chains.proofs.FirstKeys.{is_chain}
use Rattle.weave_chains.proofs.Tallied.{none_tallied}

first_comps : {C : Type 0} (stepped : C → Kind → ℕ → C × ℕ) (events : List Event) (first : List C) → first ≡ (after_firings stepped events first 0).comps
unfolding after_firings
first_comps stepped events first = refl

each_is : {X : Type 0} (n : ℕ) (x y : X) (i : ℕ) → slice_get (replicate n x) i ≡ Some y → x ≡ y
each_is zero x y i at = absurd (cc)
each_is (suc n) x y zero at = cc
each_is (suc n) x y (suc i) at = each_is n x y i at

module _ (n : ℕ) (t : Tally) (count : t.count ≡ no_comp_count) (last : t.last ≡ None) where
  pub nothing : AreTallied [] (replicate n t)
  nothing = none_tallied (replicate n t)
      (λ component u at. let same : t ≡ u = each_is n t u component at in (subst (λ (z : Tally). z.count ≡ no_comp_count) same count, subst (λ (z : Tally). z.last ≡ None) same last))

  pub no_sums : AreSmall 0 (replicate n t)
  no_sums component u at =
      let same : u.count ≡ no_comp_count = subst (λ (z : Tally). z.count ≡ no_comp_count) (each_is n t u component at) count in
      (omega (arith, ap (λ z. z.events) same), omega (arith, ap (λ z. z.waited) same))

module _ {C : Type 0} (stepped : C → Kind → ℕ → C × ℕ) (pieces : Entry → List Piece) (entries : List Entry) (placed : ArePlaced pieces entries) (comps : List C) where
  abbrev events : List Event
  events = all_events pieces entries

  at_first : (chains : List ChainState) (keys : List Key) → AreInChains pieces entries (length chains) → AreFresh entries chains → AreReady pieces entries [] chains keys → AreUnderWay pieces entries [] chains keys
  at_first chains keys chained fresh ready = record { chain = is_chain pieces entries placed chains chained fresh; ready = ready }

  pub comes : (chains : List ChainState) (keys : List Key) → AreInChains pieces entries (length chains) → AreFresh entries chains → AreReady pieces entries [] chains keys → HasCome stepped pieces entries comps 0 chains keys comps
  comes chains keys chained fresh ready = record {
    way = subst (λ xs. AreUnderWay pieces entries xs chains keys) (sym (none_fired stepped events comps)) (at_first chains keys chained fresh ready);
    comps_are = first_comps stepped events comps;
  }

  -- by the laws of the weave
  module _ (once : IsPermutation events (map (λ (x : FiredEvent). x.event) (weave stepped events comps).fired)) (order : IsInOrder (weave stepped events comps).fired)
      (rules : (x : FiredEvent) → Contains (weave stepped events comps).fired x → FiredByTheRules events (weave stepped events comps).fired x)
      (stands : (core : ℕ) (e : Event) → last_critical core events ≡ Some e → slice_get events e.number ≡ Some e)
      (times : map (time_so_far (weave stepped events comps).fired) events ≡ map fired_of (woven stepped events comps))
      (events_are : map (λ (x : FiredEvent). x.event) (woven stepped events comps) ≡ events) where
    abbrev fired : List FiredEvent
    fired = (weave stepped events comps).fired

    same : IsPermutation (woven stepped events comps) fired
    same = subst (λ zs. IsPermutation zs fired) (sym (woven_as stepped events comps)) (as_fired events placed.numbered fired once order rules)

    into : (x : FiredEvent) → Contains fired x → Contains (woven stepped events comps) x
    into x m = Contains-permutation fired (woven stepped events comps) x (IsPermutation-sym (woven stepped events comps) fired same) m

    from : (x : FiredEvent) → Contains (woven stepped events comps) x → Contains fired x
    from x m = Contains-permutation (woven stepped events comps) fired x same m

    pub tie_is : HaveTie fired → HaveTie (woven stepped events comps)
    tie_is t = record {
      one = t.one;
      other = t.other;
      one_there = into t.one t.one_there;
      other_there = into t.other t.other_there;
      component = t.component;
      start = t.start;
      cores = t.cores;
    }

    pub no_tie_is : HaveNoTie fired → HaveNoTie (woven stepped events comps)
    no_tie_is none x y mx my component start = none x y (from x mx) (from y my) component start

    pub woven_is : (cores : ℕ) (chains : List ChainState) (keys : List Key) (after : List C) (tallies : List Tally) (w : Woven) → HaveFired stepped pieces entries comps (length events) chains keys after tallies
        → length chains ≡ cores → length tallies ≡ length comps → w.delays ≡ map delay_by chains → w.counts.items ≡ map (λ t. t.count) tallies → w.events ≡ length events
        → IsWoven stepped pieces entries comps cores w after
    woven_is cores chains keys after tallies w have count as_many delays counts number = record {
      delays = delays ∙ (delays_are pieces entries placed fired (map fired_of (woven stepped events comps))
          (all_fired events fired once) stands times chains have.come.way.chain
          ∙ ap (λ n. (interval_of stepped pieces entries comps n).delays) count);
      counts = counts ∙ (by_places (λ (t : Tally). t.count) (comp_count_in (interval_of stepped pieces entries comps cores)) tallies 0
          (λ k t at.
          let place : k ≡ 0 + k = omega arith in
          (have.tallied k t at).count
          ∙ (counted_in_order (woven stepped events comps) fired same k
          ∙ (sym (in_interval (interval_of stepped pieces entries comps cores) (woven stepped events comps) events_are refl k)
          ∙ ap (comp_count_in (interval_of stepped pieces entries comps cores)) place)))
          ∙ ap (λ n. map (comp_count_in (interval_of stepped pieces entries comps cores)) (range_with_len 0 n)) as_many);
      events = number;
      comps_are = have.come.comps_are;
    }
