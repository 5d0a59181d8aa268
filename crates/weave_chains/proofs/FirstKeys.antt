-- The queue of the first events.
use Rattle.std.proofs.Common.{◌≡◌, ◌+◌, ◌<◌, ◌≤◌, ℕ, List, [], length, Some, inl, inr, ◌∙◌, ap, subst, refl, arith}
use Rattle.std.specs.List.{Contains, slice_get}
use Rattle.std.proofs.lemmas.Bool.{cases_lt}
use Rattle.std.proofs.lemmas.Option.{slice_get_within}
use Rattle.zs_num.specs.declared.entry.Entry.{Entry}
use Rattle.zs_num.specs.declared.time.Key.{Key}
use Rattle.domain_queue.specs.SortedKeys.{put}
use Rattle.event_graph.specs.declared.event.Event.{Event}
use Rattle.event_graph.specs.declared.piece.Piece.{Piece}
use Rattle.event_graph.specs.EventGraph.{all_events, event_at}
use Rattle.event_graph.specs.Expansion.{ParentsComeBefore}
use Rattle.event_graph.specs.OneListWeave.{finish_in, start_of}
use Rattle.event_graph.specs.PlacedEvents.{events_before}
use Rattle.event_graph.proofs.Lists.{contains_in, in_contains}
use Rattle.weave_chains.specs.States.{ChainState}
use Rattle.weave_chains.specs.Beginning.{AreFresh, IsFresh}
use Rattle.weave_chains.specs.Chains.{AreReady, IsChain, IsReady, next_number, start_by}
use Rattle.weave_chains.specs.GraphFacts.{ArePlaced}
use Rattle.weave_chains.specs.Rounds.{AreInChains}
use Rattle.weave_chains.proofs.Begun.{begins}
use Rattle.weave_chains.proofs.Rounds.{from_put, in_put}
use Rattle.weave_chains.proofs.Starts.{start_is}

-- the first chains have their keys
pub record HaveKeys (pieces : Entry → List Piece) (entries : List Entry) (chains : List ChainState) (cores : ℕ) (keys : List Key) : Type 0 where
  pub each : (k : Key) → Contains keys k → IsReady pieces entries [] chains k
  pub early : (k : Key) → Contains keys k → k.number < cores
  pub all : (core : ℕ) (c : ChainState) → core < cores → slice_get chains core ≡ Some c → c.access < c.end → (k : Key) × (Contains keys k × (k.number ≡ core))

module _ (pieces : Entry → List Piece) (entries : List Entry) (placed : ArePlaced pieces entries) (chains : List ChainState) (chained : AreInChains pieces entries (length chains)) (fresh : AreFresh entries chains) where
  pub is_chain : (core : ℕ) (c : ChainState) → slice_get chains core ≡ Some c → IsChain pieces entries [] core c
  is_chain core c at =
      let f : IsFresh entries core c = fresh core c at in
      begins pieces entries placed core c f.from f.within f.own f.all chained.some f.place f.sized f.last

  module _ (core : ℕ) (keys : List Key) (have : HaveKeys pieces entries chains core keys) (c : ChainState) (at : slice_get chains core ≡ Some c) where
    pub passed_over : c.end ≤ c.access → HaveKeys pieces entries chains (core + 1) keys
    passed_over over = record {
      each = have.each;
      early = λ k m. omega (arith, have.early k m);
      all = λ n d below there on. elim (cases_lt n core) [
        | inl early ↦ have.all n d early there on
        | inr not ↦
            let same : core ≡ n = omega (arith, not, below) in
            let here : slice_get chains n ≡ Some c = subst (λ i. slice_get chains i ≡ Some c) same at in
            let one : c ≡ d = cc in
            absurd (omega (arith, over, on, ap (λ (z : ChainState). z.access) one, ap (λ (z : ChainState). z.end) one))
      ];
    }

    module _ (on : c.access < c.end) where
      pub access_within : c.access < length entries
      access_within = omega (arith, on, (fresh core c at).within)

      module _ (entry : Entry) (there : slice_get entries c.access ≡ Some entry) where
        pub place_within : c.place < length (pieces entry)
        place_within = omega (arith, (fresh core c at).place, chained.some c.access entry there)

        module _ (p : Piece) (p_there : slice_get (pieces entry) c.place ≡ Some p) (law : ParentsComeBefore (pieces entry)) where
          abbrev pub event : Event
          event = event_at (events_before pieces entries c.access) entry (pieces entry) c.place p

          pub event_there : slice_get (all_events pieces entries) (next_number pieces entries c) ≡ Some event
          event_there = placed.there c.access entry c.place p there p_there

          pub starts_then : start_by c (entry.start + p.offset) p ≡ start_of (finish_in []) event
          starts_then = start_is pieces entries placed [] core c (is_chain core c at) on entry there law p p_there

          module _ (start : ℕ) (start_now : start ≡ start_by c (entry.start + p.offset) p) where
            abbrev pub key : Key
            key = record { start = start; number = core }

            pub one_key_more : HaveKeys pieces entries chains (core + 1) (put key keys)
            one_key_more = record {
              each = λ k m. elim (from_put key k keys (in_contains k (put key keys) m)) [
                | inl same ↦ subst (λ z. IsReady pieces entries [] chains z) same (record { chain = c; there = at; goes_on = on; event = event; next = event_there; start = start_now ∙ starts_then })
                | inr old ↦ have.each k (contains_in k keys old)
              ];
              early = λ k m. elim (from_put key k keys (in_contains k (put key keys) m)) [
                | inl same ↦ omega (arith, ap (λ (z : Key). z.number) same)
                | inr old ↦ omega (arith, have.early k (contains_in k keys old))
              ];
              all = λ n d below d_there d_on. elim (cases_lt n core) [
                | inl early ↦
                    let k : (k : Key) × (Contains keys k × (k.number ≡ n)) = have.all n d early d_there d_on in
                    (k.0, (contains_in k.0 (put key keys) (in_put key k.0 keys (inr (in_contains k.0 keys k.1.0))), k.1.1))
                | inr not ↦ (key, (contains_in key (put key keys) (in_put key key keys (inl refl)), omega (arith, not, below)))
              ];
            }

pub no_keys : (pieces : Entry → List Piece) (entries : List Entry) (chains : List ChainState) → HaveKeys pieces entries chains 0 []
no_keys pieces entries chains = record {
  each = λ k m. absurd (omega (arith, m.1));
  early = λ k m. absurd (omega (arith, m.1));
  all = λ core c below at on. absurd (omega (arith, below));
}

pub all_keys : (pieces : Entry → List Piece) (entries : List Entry) (chains : List ChainState) (cores : ℕ) (keys : List Key) → length chains ≤ cores → HaveKeys pieces entries chains cores keys → AreReady pieces entries [] chains keys
all_keys pieces entries chains cores keys long have = record {
  each = have.each;
  all = λ core c at on. have.all core c (omega (arith, long, slice_get_within chains core c at)) at on;
}
