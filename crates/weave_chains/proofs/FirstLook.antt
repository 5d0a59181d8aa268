-- The first event of a chain is looked up.
use Rattle.std.proofs.Common.{◌≡◌, ◌+◌, ◌-◌, ◌<◌, ◌≤◌, ◌^◌, ℕ, zero, suc, Bool, List, [], ◌∷◌, length, Option, None, Some, All, inl, inr, sym, ◌∙◌, ap, subst, refl, arith}
use Rattle.std.specs.Prelude.{IfNone, IfSome, slice_set}
use Rattle.std.specs.List.{Contains, slice_get}
use Rattle.std.proofs.lemmas.Bool.{cases_eq, cases_lt}
use Rattle.std.proofs.lemmas.Option.{slice_get_within}
use Rattle.component.specs.declared.kind.Kind.{Kind}
use Rattle.zs_num.specs.declared.entry.Entry.{Entry}
use Rattle.zs_num.specs.declared.time.Key.{Key}
use Rattle.core_queue.specs.NextKeys.{with_next}
use Rattle.event_graph.specs.declared.event.Event.{Event}
use Rattle.event_graph.specs.declared.piece.Piece.{Piece}
use Rattle.event_graph.specs.EventGraph.{all_events}
use Rattle.event_graph.specs.Fits.{GraphFits}
use Rattle.event_graph.specs.OneListWeave.{after_firings, finish_in, start_of}
use Rattle.event_graph.specs.SmallSteps.{AreSmallSteps}
use Rattle.weave_chains.specs.declared.chain.Chain.{Chain}
use Rattle.weave_chains.specs.Beginning.{AreFresh}
use Rattle.weave_chains.specs.Chains.{AreReady, next_number, start_by}
use Rattle.weave_chains.specs.GraphFacts.{ArePlaced}
use Rattle.weave_chains.specs.Listed.{list_of, number_before, one_after_other}
use Rattle.weave_chains.specs.NextEvents.{AreOfLists, IsAhead, KnowsAccess, StartsAt}
use Rattle.weave_chains.specs.RoundLaws.{RoundLaws}
use Rattle.weave_chains.specs.Rounds.{AreChained, AreInChains}
use Rattle.weave_chains.specs.States.{ChainState, state_of, states}
use Rattle.weave_chains.proofs.AllFired.{none_fired}
use Rattle.weave_chains.proofs.FirstKeys as F
use Rattle.weave_chains.proofs.FirstKeys.{HaveKeys}
use Rattle.weave_chains.proofs.Listed.{in_all, in_chains}
use Rattle.weave_chains.proofs.Moved.{set_other, set_same}
use Rattle.weave_chains.proofs.Popped.{contained}
use Rattle.weave_chains.proofs.States.{state_at, states_length, states_set}

by_all : {X : Type 0} (P : X → Type 0) (xs : List X) → All P xs → (x : X) → Contains xs x → P x
by_all P xs h x c = subst P c.2 (h c.0 x c.1)

set_itself : {X : Type 0} (xs : List X) (i : ℕ) (x : X) → slice_get xs i ≡ Some x → slice_set xs i x ≡ xs
set_itself [] i x at = refl
set_itself (y ∷ xs) zero x at = (let same : x ≡ y = cc in ap (λ z. z ∷ xs) same)
set_itself (y ∷ xs) (suc i) x at = ap (λ zs. y ∷ zs) (set_itself xs i x at)

module _ {C : Type 0} {serves : C → Kind → Bool} {floor : C → Kind → ℕ} {stepped : C → Kind → ℕ → C × ℕ} {greatest : C → Kind → ℕ → ℕ} {pieces : Entry → List Piece} {lists : List (List Entry)}
    (laws : RoundLaws serves floor stepped greatest pieces) (chained : AreChained pieces lists) (begun : List Chain) (count : length begun ≡ length lists)
    (fresh : AreFresh (one_after_other lists) (states lists begun)) where
  abbrev entries : List Entry
  entries = one_after_other lists

  placed : ArePlaced pieces entries
  placed = laws.placed entries

  in_list : AreInChains pieces entries (length (states lists begun))
  in_list = subst (λ m. AreInChains pieces entries m) (sym (states_length lists begun ∙ count)) (in_chains pieces lists chained)

  pub none_yet : HaveKeys pieces entries (states lists begun) 0 []
  none_yet = F.no_keys pieces entries (states lists begun)

  -- all have been looked up
  pub all_ready : (cores : ℕ) (keys : List Key) → cores ≡ length begun → HaveKeys pieces entries (states lists begun) cores keys → AreReady pieces entries [] (states lists begun) keys
  all_ready cores keys is have =
      F.all_keys pieces entries (states lists begun) cores keys (omega (arith, is, states_length lists begun)) have

  module _ (chains : List Chain) (same : states lists chains ≡ states lists begun) (of : AreOfLists lists chains) (core : ℕ) (keys : List Key) (have : HaveKeys pieces entries (states lists begun) core keys)
      (chain : Chain) (there : slice_get chains core ≡ Some chain) where
    abbrev list : List Entry
    list = list_of lists core

    abbrev c : ChainState
    c = state_of (number_before lists core) chain

    c_there : slice_get (states lists begun) core ≡ Some c
    c_there = subst (λ cs. slice_get cs core ≡ Some c) same (state_at lists chains core chain there)

    at_first : chain.place ≡ 0
    at_first = (fresh core c c_there).place

    pub end_is : chain.end ≡ length list
    end_is = of core chain there

    pub no_other : (k : Key) → Contains keys k → k.number ≡ core → ⊥
    no_other k m same = omega (arith, have.early k m, same)

    pub none_known : KnowsAccess pieces list chain
    none_known deep = absurd (omega (arith, deep, at_first))

    module _ (e : Entry) (e_there : slice_get list chain.access ≡ Some e) where
      on : c.access < c.end
      on = omega (arith, slice_get_within list chain.access e e_there, end_is)

      e_in_all : slice_get entries c.access ≡ Some e
      e_in_all = in_all lists core chain.access e e_there

      pub place_of : chain.place < length (pieces e)
      place_of = F.place_within pieces entries placed (states lists begun) in_list fresh core keys have c c_there on e e_in_all

      module _ (p : Piece) (p_there : slice_get (pieces e) chain.place ≡ Some p) where
        abbrev event : Event
        event = F.event pieces entries placed (states lists begun) in_list fresh core keys have c c_there on e e_in_all p p_there (laws.parents e)

        pub start_small : (first : List C) → GraphFits serves floor (all_events pieces entries) first → AreSmallSteps stepped greatest (all_events pieces entries) first
            → (e.start + p.offset + p.time ≤ 2 ^ 62) × (start_by (state_of 0 chain) (e.start + p.offset) p ≤ 2 ^ 62)
        start_small first fits small =
            let event_there : slice_get (all_events pieces entries) (next_number pieces entries c) ≡ Some event = F.event_there pieces entries placed (states lists begun) in_list fresh core keys have c c_there on e e_in_all p p_there (laws.parents e) in
            let s : start_of (finish_in []) event ≤ 2 ^ 62 =
            subst (λ xs. start_of (finish_in xs) event ≤ 2 ^ 62) (none_fired stepped (all_events pieces entries) first)
            (by_all (λ z. start_of (finish_in (after_firings stepped (all_events pieces entries) first 0).fired) z ≤ 2 ^ 62) (all_events pieces entries) (laws.starts (all_events pieces entries) first 0 placed.numbered fits small) event
            (contained (all_events pieces entries) (next_number pieces entries c) event event_there))
            in
            let then : start_by c (e.start + p.offset) p ≡ start_of (finish_in []) event = F.starts_then pieces entries placed (states lists begun) in_list fresh core keys have c c_there on e e_in_all p p_there (laws.parents e) in
            (omega (arith, chained.early c.access e e_in_all, laws.short e chain.place p p_there), omega (arith, s, then))

        module _ (start : ℕ) (start_now : start ≡ start_by (state_of 0 chain) (e.start + p.offset) p) where
          start_soon : (first : List C) → GraphFits serves floor (all_events pieces entries) first → AreSmallSteps stepped greatest (all_events pieces entries) first → start < 2 ^ 64 - 1
          start_soon first fits small = omega (arith, start_now, (start_small first fits small).1)

          key_more : HaveKeys pieces entries (states lists begun) (core + 1) (with_next core (Some start) keys)
          key_more = F.one_key_more pieces entries placed (states lists begun) in_list fresh core keys have c c_there on e e_in_all p p_there (laws.parents e) start start_now

    -- the chain that knows its first event, where it has one
    module _ (after : Chain) (after_is : after ≡ record chain { next = after.next }) (looked : IsAhead pieces list after) where
      pub starts_soon : (first : List C) → GraphFits serves floor (all_events pieces entries) first → AreSmallSteps stepped greatest (all_events pieces entries) first
          → (start : Option ℕ) → IfSome start (StartsAt pieces list chain) → IfSome start (λ s. s < 2 ^ 64 - 1)
      starts_soon first fits small None h = h
      starts_soon first fits small (Some start) h = start_soon h.entry h.there h.piece h.made start h.start_is first fits small

      pub keys_after : (start : Option ℕ) → IfNone start (chain.end ≤ chain.access) → IfSome start (StartsAt pieces list chain) → HaveKeys pieces entries (states lists begun) (core + 1) (with_next core start keys)
      keys_after None end some = F.passed_over pieces entries placed (states lists begun) in_list fresh core keys have c c_there (omega (arith, end))
      keys_after (Some start) end some = key_more some.entry some.there some.piece some.made start some.start_is

      pub same_after : states lists (slice_set chains core after) ≡ states lists begun
      same_after =
          states_set lists chains core after
          ∙ (ap (slice_set (states lists chains) core) (ap (state_of (number_before lists core)) after_is) ∙ (set_itself (states lists chains) core c (state_at lists chains core chain there) ∙ same))

      here : (n : ℕ) (d : Chain) → core ≡ n → slice_get (slice_set chains core after) n ≡ Some d → after ≡ d
      here n d is d_there =
          let a : slice_get (slice_set chains core after) n ≡ Some after = subst (λ i. slice_get (slice_set chains core after) i ≡ Some after) is (set_same chains core after (slice_get_within chains core chain there)) in cc

      pub of_after : AreOfLists lists (slice_set chains core after)
      of_after n d d_there =
          elim (cases_eq core n) [
            | inl is ↦ subst (λ i. d.end ≡ length (list_of lists i)) is (subst (λ (z : Chain). z.end ≡ length list) (here n d is d_there) looked.end)
            | inr other ↦ of n d (sym (set_other chains core n after other) ∙ d_there)
          ]

      pub ahead_after : ((n : ℕ) (d : Chain) → n < core → slice_get chains n ≡ Some d → IsAhead pieces (list_of lists n) d)
          → (n : ℕ) (d : Chain) → n < core + 1 → slice_get (slice_set chains core after) n ≡ Some d → IsAhead pieces (list_of lists n) d
      ahead_after before n d within d_there =
          elim (cases_eq core n) [
            | inl is ↦ subst (λ i. IsAhead pieces (list_of lists i) d) is (subst (λ z. IsAhead pieces list z) (here n d is d_there) looked)
            | inr other ↦ before n d (below n within other) (sym (set_other chains core n after other) ∙ d_there)
          ]
        where
          below : (n : ℕ) → n < core + 1 → (core ≡ n → ⊥) → n < core
          below n within other = elim (cases_lt n core) [ inl less ↦ less | inr not ↦ absurd (other (omega (arith, not, within))) ]
