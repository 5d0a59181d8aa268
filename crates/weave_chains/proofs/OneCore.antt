-- A round of one core alone.
use Rattle.std.proofs.Common.{◌≡◌, ◌+◌, ◌-◌, ◌<◌, ◌≤◌, ◌^◌, ℕ, zero, suc, Bool, true, false, List, [], ◌∷◌, length, drop, Option, None, Some, inl, inr, sym, ◌∙◌, ap, subst, refl, arith, nat_lt}
use Rattle.std.specs.Prelude.{IfNone, IfSome, IsTrue, if◌then◌else◌, slice_set}
use Rattle.std.specs.List.{Contains, slice_get}
use Rattle.std.proofs.lemmas.Bool.{cases_lt}
use Rattle.std.proofs.lemmas.Bool.Decides.{nat_tests}
use Rattle.std.proofs.lemmas.List.{length-set}
use Rattle.std.proofs.lemmas.Option.{slice_get-get_or, slice_get_within}
use Rattle.component.specs.declared.kind.Kind.{Kind}
use Rattle.zs_num.specs.declared.entry.Entry.{Entry}
use Rattle.zs_num.specs.declared.time.Key.{Key}
use Rattle.domain_queue.specs.SortedKeys.{IsAscending}
use Rattle.core_queue.specs.NextKeys.{with_next}
use Rattle.event_graph.specs.declared.piece.Piece.{Piece}
use Rattle.event_graph.specs.EventGraph.{all_events}
use Rattle.event_graph.specs.OneListWeave.{FiredEvent, after_firings}
use Rattle.weave_chains.specs.declared.chain.Chain.{Chain}
use Rattle.weave_chains.specs.declared.chain.Ended.{Ended}
use Rattle.weave_chains.specs.declared.chain.Next.{Next}
use Rattle.weave_chains.specs.declared.tally.Served.{Served}
use Rattle.weave_chains.specs.declared.tally.Tally.{Tally}
use Rattle.weave_chains.specs.Alone.{IsAlone, standing, step_on}
use Rattle.weave_chains.specs.Chains.{AreReady, IsReady, moved_on, start_by}
use Rattle.weave_chains.specs.Listed.{list_of, number_before, one_after_other}
use Rattle.weave_chains.specs.NextEvents.{AreAhead, IsAhead, IsNext, StartsAt}
use Rattle.weave_chains.specs.RoundLaws.{RoundLaws}
use Rattle.weave_chains.specs.Rounds.{AreChained, HasCome, IsWeaving}
use Rattle.weave_chains.specs.States.{ChainState, state_of, states}
use Rattle.weave_chains.specs.Tallies.{AreSmall, AreTallied, HasFiredNext, HaveFired, IsLastOf, taken, ties}
use Rattle.weave_chains.proofs.AllFired as F
use Rattle.weave_chains.proofs.Popped.{contained, get_some}
use Rattle.weave_chains.proofs.Round as R
use Rattle.weave_chains.proofs.Round.{IsRound}
use Rattle.weave_chains.proofs.Tallied as T

-- a list of one
only : {X : Type 0} (x : X) (i : ℕ) (y : X) → slice_get (x ∷ []) i ≡ Some y → (i ≡ 0) × (x ≡ y)
only x zero y is = (refl, (let a : Some x ≡ Some y = is in cc))
only x (suc i) y is = absurd (let a : None ≡ Some y = is in cc)

short_ascends : (keys : List Key) → length keys ≤ 1 → IsAscending keys
short_ascends keys few i j d less within = absurd (omega (arith, few, less, within))

few_next : (number : ℕ) (start : Option ℕ) (keys : List Key) → length keys ≤ 1 → length (with_next number start (drop 1 keys)) ≤ 1
few_next number None [] few = omega arith
few_next number (Some start) [] few = omega arith
few_next number None (k ∷ []) few = omega arith
few_next number (Some start) (k ∷ []) few = omega arith
few_next number start (k ∷ l ∷ keys) few = absurd (omega (arith, few))

not_true : (b : Bool) → (b ≡ true → ⊥) → b ≡ false
not_true true wrong = absurd (wrong refl)
not_true false wrong = refl

untied : (o : Option Served) (s : Served) → ((last : Served) → o ≡ Some last → last.core ≡ 0) → s.core ≡ 0 → ties o s ≡ false
untied None s mine own = refl
untied (Some last) s mine own = not_true (ties (Some last) s) (λ tie. (T.meets last s tie).1 (mine last refl ∙ sym own))

-- the program's step is that of the definition, among the accesses of all cores
step_cases : (b : Bool) (base count : ℕ) (done : Ended) (c : Chain) (next : Option Next)
    → state_of base (record (if b then record c { place = c.place + 1; ended = slice_set c.ended c.place done } else record c { access = c.access + 1; place = 0; last = Some done }) { next = next })
    ≡ (if b then record (state_of base c) { place = c.place + 1; ended = slice_set c.ended c.place done } else record (state_of base c) { access = base + c.access + 1; place = 0; last = Some done })
step_cases true base count done c next = refl
step_cases false base count done c next =
    let at : ℕ → ChainState = λ a. record { access = a; end = base + c.end; place = 0; ended = c.ended; last = Some done } in
    let same : base + (c.access + 1) ≡ base + c.access + 1 = omega arith in
    ap at same

abbrev pub next_of : (count : ℕ) → Entry → Piece → Next
next_of count e p = record { core = e.core; count = count; component = p.component; kind = p.kind; time = p.time; finish = e.start + p.offset + p.time }

abbrev pub is_next_of : (pieces : Entry → List Piece) (lists : List (List Entry)) (access place : ℕ) (ended : List Ended) (last : Option Ended) (count : ℕ) (e : Entry) (p : Piece)
    → slice_get (list_of lists 0) access ≡ Some e → count ≡ length (pieces e) → slice_get (pieces e) place ≡ Some p
    → IsNext pieces (list_of lists 0) (standing lists access place ended last) (next_of count e p)
is_next_of pieces lists access place ended last count e p there many made = record {
  entry = e;
  piece = p;
  access = record { goes_on = slice_get_within (list_of lists 0) access e there; there = there; count_is = many };
  made = made;
  core = refl;
  component = refl;
  kind = refl;
  time = refl;
  finish = refl;
}

module _ {C : Type 0} {serves : C → Kind → Bool} {floor : C → Kind → ℕ} {stepped : C → Kind → ℕ → C × ℕ} {greatest : C → Kind → ℕ → ℕ} {pieces : Entry → List Piece}
    (laws : RoundLaws serves floor stepped greatest pieces) (lists : List (List Entry)) (chained : AreChained pieces lists) (one : length lists ≡ 1)
    (first : List C) (n : ℕ) (stands : Chain) (end_is : stands.end ≡ length (list_of lists 0)) (comps : List C) (tallies : List Tally)
    (a : IsAlone serves floor stepped greatest pieces lists first n stands comps tallies)
    (known : Next) (is : IsNext pieces (list_of lists 0) stands known) where
  abbrev chain : Chain
  chain = record stands { next = Some known }

  is_next : IsNext pieces (list_of lists 0) chain known
  is_next = record {
    entry = is.entry;
    piece = is.piece;
    access = record { goes_on = is.access.goes_on; there = is.access.there; count_is = is.access.count_is };
    made = is.made;
    core = is.core;
    component = is.component;
    kind = is.kind;
    time = is.time;
    finish = is.finish;
  }

  ahead_here : IsAhead pieces (list_of lists 0) chain
  ahead_here = record {
    end = end_is;
    next = λ z z_is. (let b : Some known ≡ Some z = z_is in let same : known ≡ z = cc in subst (λ z. IsNext pieces (list_of lists 0) chain z) same is_next);
    over = λ none. absurd (let b : Some known ≡ None = none in cc);
  }

  ahead : AreAhead pieces lists (chain ∷ [])
  ahead core c at =
      let o = only chain core c at in
      subst (λ i. IsAhead pieces (list_of lists i) c) (sym o.0) (subst (λ z. IsAhead pieces (list_of lists 0) z) o.1 ahead_here)

  r : IsRound serves floor stepped greatest pieces lists (chain ∷ []) a.keys comps first n
  r = record {
    laws = laws;
    chained = chained;
    count = sym one;
    ahead = ahead;
    ascending = short_ascends a.keys a.few;
    weaving = record { fits = a.weaving.fits; small = a.weaving.small; within = a.weaving.within; come = a.weaving.come };
  }

  pub key : (k : Key) × (slice_get a.keys 0 ≡ Some k)
  key =
      let k = a.weaving.come.way.ready.all 0 (state_of (number_before lists 0) chain) refl (omega (arith, is.access.goes_on)) in
      get_some a.keys 0 (omega (arith, k.1.0.1))

  number : key.0.number ≡ 0
  number = omega (arith, R.within r key.0 key.1)

  there : slice_get (chain ∷ []) key.0.number ≡ Some chain
  there = subst (λ i. slice_get (chain ∷ []) i ≡ Some chain) (sym number) refl

  pub component_within : known.component < length comps
  component_within = R.component_within r key.0 key.1 chain there known refl

  pub start_is : start_by (state_of 0 stands) (is.entry.start + is.piece.offset) is.piece ≡ key.0.start
  start_is =
      sym (R.starts_now r key.0 key.1 chain there is.entry (subst (λ i. slice_get (list_of lists i) stands.access ≡ Some is.entry) (sym number) is.access.there) is.piece is.made)

  pub start_small : start_by (state_of 0 stands) (is.entry.start + is.piece.offset) is.piece ≤ 2 ^ 62
  start_small = omega (arith, start_is, R.starts_small r key.0 key.1 chain there)

  module _ (comp : C) (comp_is : slice_get comps known.component ≡ Some comp) where
    abbrev k : Key
    k = key.0

    pub serves_it : IsTrue (serves comp known.kind)
    serves_it = R.serves_it r k key.1 chain there known refl comp comp_is

    pub small_here : greatest comp known.kind k.start ≤ 2 ^ 62
    small_here = R.small_here r k key.1 chain there known refl comp comp_is

    -- by the start that the program computes
    pub small_now : (start : ℕ) → start ≡ start_by (state_of 0 stands) (is.entry.start + is.piece.offset) is.piece → greatest comp known.kind start ≤ 2 ^ 62
    small_now start starts = subst (λ s. greatest comp known.kind s ≤ 2 ^ 62) (sym (starts ∙ start_is)) small_here

    abbrev finish : ℕ
    finish = (stepped comp known.kind k.start).1

    abbrev done : Ended
    done = record { finish = finish; at_zero_load = known.finish }

    abbrev now : Chain
    now = step_on known.count done stands

    abbrev moved : Chain
    moved = record now { next = Some known }

    moved_is : (base : ℕ) → state_of base moved ≡ moved_on known.count done (state_of base chain)
    moved_is base = step_cases (nat_lt (stands.place + 1) known.count) base known.count done stands (Some known)

    m_end : moved.end ≡ length (list_of lists k.number)
    m_end = R.moved_end r k key.1 chain there known refl comp comp_is moved moved_is refl

    next_start : (start : Option ℕ) × (IfNone start (moved.end ≤ moved.access) × IfSome start (StartsAt pieces (list_of lists k.number) moved))
    next_start = elim (cases_lt moved.access moved.end) [
      | inl goes ↦
          let e = get_some (list_of lists k.number) moved.access (omega (arith, goes, m_end)) in
          let p = get_some (pieces e.0) moved.place (R.place_of r k key.1 chain there known refl comp comp_is moved moved_is refl e.0 e.1) in
          (Some (start_by (state_of 0 moved) (e.0.start + p.0.offset) p.0), (tt, record { entry = e.0; piece = p.0; there = e.1; made = p.1; start_is = refl }))
      | inr over ↦ (None, (omega (arith, over), tt))
    ]

    abbrev keys_now : List Key
    keys_now = with_next k.number next_start.0 (drop 1 a.keys)

    abbrev left : List C
    left = slice_set comps known.component (stepped comp known.kind k.start).0

    abbrev served : Served
    served = R.served_by known.core known.component k.start (finish - k.start - known.time)

    fires : HasFiredNext stepped pieces (one_after_other lists) first n (slice_set (states lists (chain ∷ [])) k.number (state_of (number_before lists k.number) moved)) keys_now left served
    fires = R.fires_on r k key.1 chain there known refl comp comp_is moved moved_is refl next_start.0 next_start.1.0 next_start.1.1

    states_are : slice_set (states lists (chain ∷ [])) k.number (state_of (number_before lists k.number) moved) ≡ states lists (now ∷ [])
    states_are = subst (λ i. slice_set (states lists (chain ∷ [])) i (state_of (number_before lists i) moved) ≡ states lists (now ∷ [])) (sym number) refl

    come : HasCome stepped pieces (one_after_other lists) first (n + 1) (states lists (now ∷ [])) keys_now left
    come = subst (λ cs. HasCome stepped pieces (one_after_other lists) first (n + 1) cs keys_now left) states_are fires.come

    own_core : served.core ≡ 0
    own_core = is.core ∙ chained.own 0 stands.access is.entry is.access.there

    x_core : fires.event.event.core ≡ 0
    x_core = sym (ap (λ (z : Served). z.core) fires.served_is) ∙ own_core

    pub more : n < length (all_events pieces (one_after_other lists))
    more = fires.more

    module _ (t : Tally) (t_at : slice_get tallies known.component ≡ Some t) where
      last_core : (last : Served) → t.last ≡ Some last → last.core ≡ 0
      last_core last is_last =
          let o : IsLastOf (after_firings stepped (all_events pieces (one_after_other lists)) first n).fired known.component last = (a.fired.tallied known.component t t_at).last last is_last in
          ap (λ (z : Served). z.core) o.is ∙ a.cores o.event o.there

      have : HaveFired stepped pieces (one_after_other lists) first (n + 1) (states lists (now ∷ [])) keys_now left (slice_set tallies known.component (taken t served))
      have =
          let events = all_events pieces (one_after_other lists) in
          let numbered = (laws.placed (one_after_other lists)).numbered in
          F.goes_on stepped pieces (one_after_other lists) first n (laws.sorted events first numbered a.weaving.fits) (laws.prefix events first (n + 1) numbered a.weaving.fits)
          fires.event fires.fired served fires.served_is (states lists (stands ∷ [])) a.keys comps tallies a.fired t t_at (states lists (now ∷ [])) keys_now left come (untied t.last served last_core own_core)

      cores : (y : FiredEvent) → Contains (after_firings stepped (all_events pieces (one_after_other lists)) first (n + 1)).fired y → y.event.core ≡ 0
      cores y m =
          elim (T.cases (after_firings stepped (all_events pieces (one_after_other lists)) first n).fired fires.event y (subst (λ xs. Contains xs y) fires.fired m)) [
            | inl old ↦ a.cores y old
            | inr same ↦ subst (λ (z : FiredEvent). z.event.core ≡ 0) same x_core
          ]

      alone_still : served.waited < 2 ^ 64 → IsAlone serves floor stepped greatest pieces lists first (n + 1) now left (slice_set tallies known.component (taken t served))
      alone_still small = record {
        keys = keys_now;
        few = few_next k.number next_start.0 a.keys a.few;
        weaving = record { fits = a.weaving.fits; small = a.weaving.small; within = omega (arith, more); come = come };
        fired = have;
        cores = cores;
        small = F.still_small n tallies t served small a.small t_at;
        tallies_are = length-set tallies known.component (taken t served) ∙ (a.tallies_are ∙ sym (length-set comps known.component (stepped comp known.kind k.start).0));
      }

      -- by the start that the program computes
      pub alone_next : (start : ℕ) → start ≡ start_by (state_of 0 stands) (is.entry.start + is.piece.offset) is.piece
          → (stepped comp known.kind start).1 - start - known.time < 2 ^ 64
          → IsAlone serves floor stepped greatest pieces lists first (n + 1) (step_on known.count (record { finish = (stepped comp known.kind start).1; at_zero_load = known.finish }) stands)
          (slice_set comps known.component (stepped comp known.kind start).0)
          (slice_set tallies known.component (taken t (R.served_by known.core known.component start ((stepped comp known.kind start).1 - start - known.time))))
      alone_next start starts =
          subst
          (λ s.
          (stepped comp known.kind s).1 - s - known.time < 2 ^ 64
          → IsAlone serves floor stepped greatest pieces lists first (n + 1) (step_on known.count (record { finish = (stepped comp known.kind s).1; at_zero_load = known.finish }) stands)
          (slice_set comps known.component (stepped comp known.kind s).0)
          (slice_set tallies known.component (taken t (R.served_by known.core known.component s ((stepped comp known.kind s).1 - s - known.time)))))
          (sym (starts ∙ start_is)) alone_still

-- a step amid an access, and from its last event on
pub amid : (lists : List (List Entry)) (access place count : ℕ) (ended : List Ended) (last : Option Ended) (done : Ended) → place + 1 < count
    → step_on count done (standing lists access place ended last) ≡ standing lists access (place + 1) (slice_set ended place done) last
amid lists access place count ended last done more = let t : nat_lt (place + 1) count ≡ true = grind (arith, nat_tests) in rw t refl

pub at_last : (lists : List (List Entry)) (access place count : ℕ) (ended : List Ended) (last : Option Ended) (done : Ended) → place + 1 ≡ count
    → step_on count done (standing lists access place ended last) ≡ standing lists (access + 1) 0 ended (Some done)
at_last lists access place count ended last done all = let f : nat_lt (place + 1) count ≡ false = grind (arith, nat_tests) in rw f refl

single : {X : Type 0} (xs : List X) (x : X) → length xs ≡ 1 → slice_get xs 0 ≡ Some x → xs ≡ x ∷ []
single [] x one at = absurd (omega (arith, one))
single (y ∷ []) x one at = let a : Some y ≡ Some x = at in let same : y ≡ x = cc in ap (λ z. z ∷ []) same
single (y ∷ z ∷ xs) x one at = absurd (omega (arith, one))

-- the chain as the program keeps it
pub stands_so : (lists : List (List Entry)) (chains : List Chain) (c : Chain) → length chains ≡ 1 → slice_get chains 0 ≡ Some c → c.end ≡ length (list_of lists 0) → c.place ≡ 0
    → states lists chains ≡ states lists (standing lists c.access 0 c.ended c.last ∷ [])
stands_so lists chains c one at end place =
    ap (states lists) (single chains c one at)
    ∙ (ap (λ e. states lists ((record c { end = e }) ∷ [])) end ∙ ap (λ p. states lists ((record c { end = length (list_of lists 0); place = p }) ∷ [])) place)

module _ {C : Type 0} {serves : C → Kind → Bool} {floor : C → Kind → ℕ} {stepped : C → Kind → ℕ → C × ℕ} {greatest : C → Kind → ℕ → ℕ} {pieces : Entry → List Piece}
    (laws : RoundLaws serves floor stepped greatest pieces) (lists : List (List Entry)) (chained : AreChained pieces lists) (one : length lists ≡ 1)
    (first : List C) (n : ℕ) (access : ℕ) (ended : List Ended) (last : Option Ended) (comps : List C) where
  abbrev stands : Chain
  stands = standing lists access 0 ended last

  -- where it is over all have fired
  pub all_alone : (tallies : List Tally) → IsAlone serves floor stepped greatest pieces lists first n stands comps tallies → length (list_of lists 0) ≤ access
      → n ≡ length (all_events pieces (one_after_other lists))
  all_alone tallies a over = R.all_have_fired round (none a.keys refl)
    where
      ahead_over : IsAhead pieces (list_of lists 0) stands
      ahead_over = record {
        end = refl;
        next = λ z wrong. absurd (let b : None ≡ Some z = wrong in cc);
        over = λ none. over;
      }

      round : IsRound serves floor stepped greatest pieces lists (stands ∷ []) a.keys comps first n
      round = record {
        laws = laws;
        chained = chained;
        count = sym one;
        ahead = λ core c at. (let o = only stands core c at in subst (λ i. IsAhead pieces (list_of lists i) c) (sym o.0) (subst (λ z. IsAhead pieces (list_of lists 0) z) o.1 ahead_over));
        ascending = short_ascends a.keys a.few;
        weaving = a.weaving;
      }

      none : (keys : List Key) → a.keys ≡ keys → slice_get keys 0 ≡ None
      none [] is = refl
      none (k ∷ ks) is =
          let ready = a.weaving.come.way.ready.each k (contained a.keys 0 k (subst (λ xs. slice_get xs 0 ≡ Some k) (sym is) refl)) in
          let o = only (state_of (number_before lists 0) stands) k.number ready.chain ready.there in
          absurd (omega (arith, over, subst (λ (z : ChainState). z.access < z.end) (sym o.1) ready.goes_on))

  module _ (tallies : List Tally) (keys : List Key) (w : IsWeaving serves floor stepped greatest pieces lists first 0 (stands ∷ []) keys comps) where
    abbrev c : ChainState
    c = state_of (number_before lists 0) stands

    few_ready : (ks : List Key) × ((length ks ≤ 1) × AreReady pieces (one_after_other lists) (after_firings stepped (all_events pieces (one_after_other lists)) first 0).fired (c ∷ []) ks)
    few_ready = elim (cases_lt c.access c.end) [
      | inl goes ↦
          let q = w.come.way.ready.all 0 c refl goes in (
            q.0 ∷ [],
            (
              omega arith,
              record {
                each = λ o m. subst (IsReady pieces (one_after_other lists) (after_firings stepped (all_events pieces (one_after_other lists)) first 0).fired (c ∷ [])) (sole q.0 o m) (w.come.way.ready.each q.0 q.1.0);
                all = λ core d at on. (q.0, (contained (q.0 ∷ []) 0 q.0 refl, q.1.1 ∙ sym (only c core d at).0));
              },
            ),
          )
      | inr over ↦ (
        [],
        (
          omega arith,
          record {
            each = λ o m. absurd (omega (arith, m.1));
            all = λ core d at on. absurd (omega (arith, over, subst (λ (z : ChainState). z.access < z.end) (sym (only c core d at).1) on));
          },
        ),
      )
    ]
      where
        sole : (k o : Key) → Contains (k ∷ []) o → k ≡ o
        sole k o m = (only k m.0 o (slice_get-get_or' k o m)).1
          where
            slice_get-get_or' : (k o : Key) → (m : Contains (k ∷ []) o) → slice_get (k ∷ []) m.0 ≡ Some o
            slice_get-get_or' k o m = slice_get-get_or (k ∷ []) m.0 o m.1 ∙ ap Some m.2

    pub begun : AreTallied [] tallies → AreSmall 0 tallies → length tallies ≡ length comps → IsAlone serves floor stepped greatest pieces lists first 0 stands comps tallies
    begun nothing empty many =
        let come : HasCome stepped pieces (one_after_other lists) first 0 (states lists (stands ∷ [])) few_ready.0 comps = record {
          way = record { chain = w.come.way.chain; ready = few_ready.1.1 };
          comps_are = w.come.comps_are;
        }
        in
        record {
          keys = few_ready.0;
          few = few_ready.1.0;
          weaving = record { fits = w.fits; small = w.small; within = w.within; come = come };
          fired = F.begins stepped pieces (one_after_other lists) first (states lists (stands ∷ [])) few_ready.0 comps tallies come nothing;
          cores = λ x m. absurd (let e : Contains [] x = subst (λ xs. Contains xs x) (F.none_fired stepped (all_events pieces (one_after_other lists)) first) m in omega (arith, e.1));
          small = empty;
          tallies_are = many;
        }
