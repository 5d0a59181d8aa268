-- All domains, of which one is told a finish or a bound.
use Rattle.std.proofs.Common.{◌≡◌, ◌+◌, ◌<◌, ◌≤◌, ℕ, zero, suc, Bool, true, false, List, [], ◌∷◌, ◌++◌, length, map, set, get_or, slice_index, ◌⊎◌, Some, slice_get, sym, ◌∙◌, ap, subst, refl, inl, inr, arith, length-set}
use Rattle.std.proofs.lemmas.Bool.{cases_lt, cases_eq, false≢true}
use Rattle.std.proofs.lemmas.List.{append-nil, append_assoc, get_or-set_same, length-map}
use Rattle.std.proofs.lemmas.Option.{same_Some, none-some, slice_get-map, slice_get-get_or, slice_get_within}
use Rattle.zs_num.specs.declared.time.Word.{Word}
use Rattle.zs_num.specs.declared.time.Word.TheVariants.{Bound, Exact}
use Rattle.component.specs.declared.kind.Kind.{Kind}
use Rattle.event_graph.specs.declared.event.Event.{Event}
use Rattle.event_graph.specs.declared.fired.Fired.{Fired}
use Rattle.event_graph.specs.OneListWeave.{FiredEvent, finish_in, fired_of, woven}
use Rattle.std.specs.Option.{option_map}
use Rattle.weave_core.specs.Layout.{timed_from}
use Rattle.domain_map.specs.declared.crossing.Crossing.{Crossing}
use Rattle.domain_map.specs.Domains.{Partition}
use Rattle.weave_core.specs.DomainCalls.{DomainValue, IsBoundAnswer, IsInto, IsOutOf, MayTell, with_known}
use Rattle.weave_core.specs.DomainMachine.{DomainState, SaysAsMuch, cycle_of, is_exact, word_at}
use Rattle.weave_core.specs.Keeping.{IsWeaveFiring, IsTrueWordOf, IsKept, KeepingLaws}
use Rattle.weave_run.specs.Rounds.{AllKeep, AllLearn, CanWeavePlan, Grows, HasToldCrossing, HasToldAll, HasToldRest, HasToldRests, HaveLearned, IsBoundOf, IsFinish, IsResolved, Learns, own_in}
use Rattle.weave_run.specs.declared.plan.Plan.{Plan}
use Rattle.weave_run.proofs.Running.{same_value}

-- reading a list that was written

pub read_set : {X : Type 0} (xs : List X) (i : ℕ) (v d : X) (j : ℕ) → ((j ≡ i) × (get_or (set xs i v) j d ≡ v)) ⊎ (get_or (set xs i v) j d ≡ get_or xs j d)
read_set [] i v d j = inr refl
read_set (x ∷ xs) zero v d zero = inl (refl, refl)
read_set (x ∷ xs) zero v d (suc j) = inr refl
read_set (x ∷ xs) (suc i) v d zero = inr refl
read_set (x ∷ xs) (suc i) v d (suc j) =
    elim (read_set xs i v d j) [ inl a ↦ inl (ap suc a.0, a.1) | inr b ↦ inr b ]

pub get_set_same : {X : Type 0} (xs : List X) (i : ℕ) (v : X) → i < length xs → slice_get (set xs i v) i ≡ Some v
get_set_same [] i v l = absurd (omega arith)
get_set_same (x ∷ xs) zero v l = refl
get_set_same (x ∷ xs) (suc i) v l = get_set_same xs i v (omega arith)

pub get_set_other : {X : Type 0} (xs : List X) (i j : ℕ) (v : X) → (j ≡ i → ⊥) → slice_get (set xs i v) j ≡ slice_get xs j
get_set_other [] i j v h = refl
get_set_other (x ∷ xs) zero zero v h = absurd (h refl)
get_set_other (x ∷ xs) zero (suc j) v h = refl
get_set_other (x ∷ xs) (suc i) zero v h = refl
get_set_other (x ∷ xs) (suc i) (suc j) v h = get_set_other xs i j v (λ e. h (ap suc e))

pub there_at : {X : Type 0} (xs : List X) (i : ℕ) → i < length xs → (x : X) × (slice_get xs i ≡ Some x)
there_at [] i l = absurd (omega arith)
there_at (x ∷ xs) zero l = (x, refl)
there_at (x ∷ xs) (suc i) l = there_at xs i (omega arith)

-- what a domain keeps, by its number

pub own_there : {C : Type 0} (vs : List (DomainValue C)) (d : ℕ) (v : DomainValue C) → slice_get vs d ≡ Some v → own_in vs d ≡ v.own
own_there [] d v e = absurd (none-some v e)
own_there (w ∷ vs) zero v e = ap (λ (z : DomainValue _). z.own) (same_Some w v e)
own_there (w ∷ vs) (suc d) v e = own_there vs d v e

pub own_set_same : {C : Type 0} (vs : List (DomainValue C)) (d : ℕ) (v : DomainValue C) → d < length vs → own_in (set vs d v) d ≡ v.own
own_set_same vs d v l = own_there (set vs d v) d v (get_set_same vs d v l)

pub own_set_other : {C : Type 0} (vs : List (DomainValue C)) (i d : ℕ) (v : DomainValue C) → (d ≡ i → ⊥) → own_in (set vs i v) d ≡ own_in vs d
own_set_other [] i d v h = refl
own_set_other (w ∷ vs) zero zero v h = absurd (h refl)
own_set_other (w ∷ vs) zero (suc d) v h = refl
own_set_other (w ∷ vs) (suc i) zero v h = refl
own_set_other (w ∷ vs) (suc i) (suc d) v h = own_set_other vs i d v (λ e. h (ap suc e))

-- learning and growing

as_much : (w : Word) → SaysAsMuch w w
as_much w = record { finish = λ e. e; bound = λ e. omega arith }

pub learns_nothing : (own : DomainState) → Learns own own
learns_nothing own = record { fired = refl; floor = refl; words = λ n. as_much (word_at own.known n) }

words_twice : (a b c : Word) → SaysAsMuch a b → SaysAsMuch b c → SaysAsMuch a c
words_twice a b c h k = record {
  finish = λ e. k.finish (h.finish e);
  bound = λ e. by_test (is_exact b) refl e;
}
  where
    by_test : (t : Bool) → is_exact b ≡ t → is_exact c ≡ false → cycle_of a ≤ cycle_of c
    by_test false f e = omega (arith, h.bound f, k.bound e)
    by_test true f e = absurd (false≢true (sym e ∙ k.finish f))

pub learns_twice : (a b c : DomainState) → Learns a b → Learns b c → Learns a c
learns_twice a b c h k = record {
  fired = k.fired ∙ h.fired;
  floor = k.floor ∙ h.floor;
  words = λ n. words_twice (word_at a.known n) (word_at b.known n) (word_at c.known n) (h.words n) (k.words n);
}

pub learn_more : {C : Type 0} (first old new : List (DomainValue C)) → AllLearn first old → AllLearn old new → AllLearn first new
learn_more first old new h k = record { each = λ d. learns_twice (own_in first d) (own_in old d) (own_in new d) (h.each d) (k.each d) }

pub grows_twice : (a b c : DomainState) → Grows a b → Grows b c → Grows a c
grows_twice a b c h k = record {
  rest = h.rest ++ k.rest;
  fired = k.fired ∙ (ap (λ (xs : List FiredEvent). xs ++ k.rest) h.fired ∙ append_assoc a.fired h.rest k.rest);
  floor = k.floor ∙ h.floor;
  words = λ n. words_twice (word_at a.known n) (word_at b.known n) (word_at c.known n) (h.words n) (k.words n);
}

pub grows_by_learning : (a b : DomainState) → Learns a b → Grows a b
grows_by_learning a b h = record { rest = []; fired = h.fired ∙ sym (append-nil a.fired); floor = h.floor; words = h.words }

pub grows_nothing : (a : DomainState) → Grows a a
grows_nothing a = grows_by_learning a a (learns_nothing a)

-- a finish stays known
pub stays_exact : (a b : DomainState) (n : ℕ) → SaysAsMuch (word_at a.known n) (word_at b.known n) → is_exact (word_at a.known n) ≡ true → is_exact (word_at b.known n) ≡ true
stays_exact a b n says e = says.finish e

-- a word that is told
pub word_told : (own : DomainState) (number : ℕ) (word : Word) → SaysAsMuch (word_at own.known number) word → (n : ℕ) → SaysAsMuch (word_at own.known n) (word_at (with_known own number word).known n)
word_told own number word says n =
    elim (read_set own.known number word (Bound 0) n) [
      | inl a ↦ subst (SaysAsMuch (word_at own.known n)) (sym a.1) (subst (λ m. SaysAsMuch (word_at own.known m) word) (sym a.0) says)
      | inr b ↦ subst (SaysAsMuch (word_at own.known n)) (sym b) (as_much (word_at own.known n))
    ]

-- a finish says as much as any word, and so does a bound that is higher
pub finish_says : (was : Word) (finish : ℕ) → SaysAsMuch was (Exact finish)
finish_says was finish = record { finish = λ e. refl; bound = λ e. absurd (false≢true (sym e)) }

pub bound_says : (was : Word) (before bound : ℕ) → was ≡ Bound before → before ≤ bound → SaysAsMuch was (Bound bound)
bound_says was before bound e l = record { finish = λ t. absurd (false≢true (sym (ap is_exact e) ∙ t)); bound = λ f. omega (arith, ap cycle_of e, l) }

module _ {C : Type 0} (stepped : C → Kind → ℕ → C × ℕ) (plan : Plan C) where
  abbrev parts : Partition
  parts = plan.parts.value

  -- a whole chain, as far as it was told

  pub record HasToldFrom (old new : List (DomainValue C)) (parent link : ℕ) : Type 0 where
    pub kept : AllKeep stepped plan new
    pub learn : AllLearn old new
    pub told : (number : ℕ) (x : Crossing) → link ≤ number → slice_get parts.crossings number ≡ Some x → x.parent ≡ parent → IsResolved new number x

  pub none_told : (vs : List (DomainValue C)) (parent link : ℕ) → AllKeep stepped plan vs
      → ((number : ℕ) (x : Crossing) → link ≤ number → slice_get parts.crossings number ≡ Some x → x.parent ≡ parent → ⊥) → HasToldFrom vs vs parent link
  none_told vs parent link k none = record {
    kept = k;
    learn = record { each = λ d. learns_nothing (own_in vs d) };
    told = λ number x l at e. absurd (none number x l at e);
  }

  pub one_told : (first old new : List (DomainValue C)) (parent number before : ℕ) → HasToldFrom first old parent (number + 1) → HasToldCrossing stepped plan old new number
      → ((n : ℕ) (x : Crossing) → before ≤ n → n < number → slice_get parts.crossings n ≡ Some x → x.parent ≡ parent → ⊥) → HasToldFrom first new parent before
  one_told first old new parent number before h t none = record {
    kept = t.kept;
    learn = record { each = λ d. learns_twice (own_in first d) (own_in old d) (own_in new d) (h.learn.each d) (t.learn.each d) };
    told = λ n x l at e.
        elim (cases_lt n number) [
          | inl less ↦ absurd (none n x l less at e)
          | inr past ↦
              elim (cases_eq n number) [
                | inl same ↦ subst (λ (m : ℕ). IsResolved new m x) (sym same) (t.told x (ap (slice_get parts.crossings) (sym same) ∙ at))
                | inr other ↦
                    stays_exact (own_in old x.target) (own_in new x.target) n ((t.learn.each x.target).words n) (h.told n x (omega (arith, past, other)) at e)
              ]
        ];
  }

  pub chain_told : (old new : List (DomainValue C)) (parent : ℕ) → HasToldFrom old new parent 0 → HasToldAll stepped plan old new parent
  chain_told old new parent h = record { kept = h.kept; learn = h.learn; told = λ n x at e. h.told n x (omega arith) at e }

  -- all that a domain fired from a place on, as far as it was told

  pub record HasToldPart (first now : List (DomainValue C)) (source place next : ℕ) : Type 0 where
    pub kept : AllKeep stepped plan now
    pub learn : AllLearn first now
    pub told : (at : ℕ) (y : FiredEvent) → place ≤ at → at < next → slice_get (own_in first source).fired at ≡ Some y
        → (number : ℕ) (x : Crossing) → slice_get parts.crossings number ≡ Some x → x.parent ≡ y.event.number → IsResolved now number x

  pub no_part : (vs : List (DomainValue C)) (source place : ℕ) → AllKeep stepped plan vs → HasToldPart vs vs source place place
  no_part vs source place k = record {
    kept = k;
    learn = record { each = λ d. learns_nothing (own_in vs d) };
    told = λ at y l m there. absurd (omega (arith, l, m));
  }

  pub next_part : (first old new : List (DomainValue C)) (source place next : ℕ) (y : FiredEvent) (n : ℕ) → HasToldPart first old source place next → slice_get (own_in first source).fired next ≡ Some y → y.event.number ≡ n
      → HasToldAll stepped plan old new n → HasToldPart first new source place (next + 1)
  next_part first old new source place next y n h at number t = record {
    kept = t.kept;
    learn = learn_more first old new h.learn t.learn;
    told = λ i z l m there k x crossing parent.
        elim (cases_lt i next) [
          | inl less ↦ stays_exact (own_in old x.target) (own_in new x.target) k ((t.learn.each x.target).words k) (h.told i z l less there k x crossing parent)
          | inr past ↦
              let same : i ≡ next = omega (arith, m, past) in
              let one : z ≡ y = same_Some z y (sym there ∙ (ap (slice_get (own_in first source).fired) same ∙ at)) in
              t.told k x crossing (parent ∙ (ap (λ (w : FiredEvent). w.event.number) one ∙ number))
        ];
  }

  pub whole_part : (first now : List (DomainValue C)) (source place next : ℕ) → HasToldPart first now source place next → length (own_in first source).fired ≤ next → HasToldRest stepped plan first now source place
  whole_part first now source place next h l = record {
    kept = h.kept;
    learn = h.learn;
    told = λ at y low there. h.told at y low (let w = slice_get_within (own_in first source).fired at y there in omega (arith, l, w)) there;
  }

  -- and of one domain after the other

  pub no_rests : (vs : List (DomainValue C)) (counts : List ℕ) → AllKeep stepped plan vs → HasToldRests stepped plan vs vs counts 0
  no_rests vs counts k = record {
    kept = k;
    learn = record { each = λ d. learns_nothing (own_in vs d) };
    told = λ source at y l m there. absurd (omega (arith, l));
  }

  pub next_rests : (first old new : List (DomainValue C)) (counts : List ℕ) (n place : ℕ) → HasToldRests stepped plan first old counts n → place ≡ slice_index counts n → HasToldRest stepped plan old new n place
      → HasToldRests stepped plan first new counts (n + 1)
  next_rests first old new counts n place h is t = record {
    kept = t.kept;
    learn = learn_more first old new h.learn t.learn;
    told = λ source at y l m there k x crossing parent.
        elim (cases_lt source n) [
          | inl less ↦ stays_exact (own_in old x.target) (own_in new x.target) k ((t.learn.each x.target).words k) (h.told source at y less m there k x crossing parent)
          | inr past ↦
              let same : source ≡ n = omega (arith, l, past) in
              let low : place ≤ at = (let e = ap (slice_index counts) same in omega (arith, m, is, e)) in
              t.told at y low (ap (λ (xs : List FiredEvent). slice_get xs at) ((h.learn.each n).fired ∙ ap (λ (d : ℕ). (own_in first d).fired) (sym same)) ∙ there) k x crossing parent
        ];
  }

  pub whole_rests : (first now : List (DomainValue C)) (counts : List ℕ) (n m : ℕ) → m ≤ n → HasToldRests stepped plan first now counts n → HasToldRests stepped plan first now counts m
  whole_rests first now counts n m l h = record {
    kept = h.kept;
    learn = h.learn;
    told = λ source at y below. h.told source at y (omega (arith, l, below));
  }

-- a crossing out of a domain that keeps to the plan is one of the plan
pub out_of_plan : {C : Type 0} (stepped : C → Kind → ℕ → C × ℕ) (plan : Plan C) (vs : List (DomainValue C)) → AllKeep stepped plan vs → (source : ℕ) (v : DomainValue C) → slice_get vs source ≡ Some v → (number : ℕ)
    → IsOutOf v.partition v.domain number → IsOutOf plan.parts.value source number
out_of_plan {C} stepped plan vs k source v there number out =
    let i : IsKept stepped plan.graph.value plan.parts.value plan.comps.value source v = k.each source v there in
    subst (λ (w : DomainValue C). IsOutOf w.partition w.domain number) i.is out

module _ {C : Type 0} (serves : C → Kind → Bool) (floor : C → Kind → ℕ) (stepped : C → Kind → ℕ → C × ℕ) (greatest : C → Kind → ℕ → ℕ) (laws : KeepingLaws serves floor stepped greatest)
    (plan : Plan C) (can : CanWeavePlan serves floor stepped greatest plan) where
  abbrev events : List Event
  events = plan.graph.value

  abbrev partition : Partition
  partition = plan.parts.value

  -- a crossing leads to a domain that is there
  pub target_there : (vs : List (DomainValue C)) → AllKeep stepped plan vs → (number : ℕ) (x : Crossing) → slice_get partition.crossings number ≡ Some x → x.target < length vs
  target_there vs k number x h = let l = (laws.crossings events partition plan.comps.value can number x h).target_below in let n = k.count in omega (arith, l, n)

  abbrev finish_of : (own : DomainState) (number finish : ℕ) (x : Crossing) → slice_get partition.crossings number ≡ Some x → IsFinish stepped plan x.parent finish
      → IsTrueWordOf stepped events partition plan.comps.value x.target own number (Exact finish)
  finish_of own number finish x h f = record { crossing = x; there = h; target = refl; sound = f; says = finish_says (word_at own.known number) finish }

  abbrev bound_of : (own : DomainState) (number bound : ℕ) (x : Crossing) → slice_get partition.crossings number ≡ Some x → IsBoundOf stepped plan x bound → SaysAsMuch (word_at own.known number) (Bound bound)
      → IsTrueWordOf stepped events partition plan.comps.value x.target own number (Bound bound)
  bound_of own number bound x h l says = record { crossing = x; there = h; target = refl; sound = l; says = says }

  pub may_tell : (vs : List (DomainValue C)) → AllKeep stepped plan vs → (number : ℕ) (word : Word) (target : ℕ) (v : DomainValue C) → slice_get vs target ≡ Some v
      → IsTrueWordOf stepped events partition plan.comps.value target v.own number word → MayTell v.events v.partition v.domain v.own number word
  may_tell vs k number word target v there t =
      let i : IsKept stepped events partition plan.comps.value target v = k.each target v there in
      subst (λ (w : DomainValue C). MayTell w.events w.partition w.domain w.own number word) (sym i.is) (laws.may_tell events partition plan.comps.value can target v.own v.comps number word i.keeps t)

  pub has_learned : (vs : List (DomainValue C)) → AllKeep stepped plan vs → (number : ℕ) (word : Word) (target : ℕ) (v w : DomainValue C) → slice_get vs target ≡ Some v
      → IsTrueWordOf stepped events partition plan.comps.value target v.own number word → w ≡ record v { own = with_known v.own number word } → HaveLearned stepped plan vs (set vs target w)
  has_learned vs k number word target v w there t is =
      let below : target < length vs = slice_get_within vs target v there in
      let own_is : w.own ≡ with_known v.own number word = ap (λ (z : DomainValue C). z.own) is in
      let before : own_in vs target ≡ v.own = own_there vs target v there in
      let after : own_in (set vs target w) target ≡ with_known v.own number word = own_set_same vs target w below ∙ own_is in
      record {
        kept = record {
          count = length-set vs target w ∙ k.count;
          each = λ d u at.
              elim (cases_eq d target) [
                | inr other ↦ k.each d u (sym (get_set_other vs target d w other) ∙ at)
                | inl same ↦
                    let u_is : w ≡ u = same_Some w u (sym (get_set_same vs target w below) ∙ (ap (slice_get (set vs target w)) (sym same) ∙ at)) in
                    subst (λ (z : DomainValue C). IsKept stepped events partition plan.comps.value d z) (sym is ∙ u_is)
                    (subst (λ (m : ℕ). IsKept stepped events partition plan.comps.value m (record v { own = with_known v.own number word })) (sym same) (kept_then (k.each target v there)))
              ];
        };
        learn = record {
          each = λ d.
              elim (cases_eq d target) [
                | inr other ↦ subst (Learns (own_in vs d)) (sym (own_set_other vs target d w other)) (learns_nothing (own_in vs d))
                | inl same ↦
                    subst (λ (m : ℕ). Learns (own_in vs m) (own_in (set vs target w) m)) (sym same)
                    (subst (λ (a : DomainState). Learns a (own_in (set vs target w) target)) (sym before)
                    (subst (Learns v.own) (sym after) (record { fired = refl; floor = refl; words = word_told v.own number word t.says })))
              ];
        };
      }
    where
      kept_then : IsKept stepped events partition plan.comps.value target v → IsKept stepped events partition plan.comps.value target (record v { own = with_known v.own number word })
      kept_then i = record {
        is = same_value (record v { own = with_known v.own number word }) events partition target (ap (λ (z : DomainValue C). z.events) i.is) (ap (λ (z : DomainValue C). z.partition) i.is) (ap (λ (z : DomainValue C). z.domain) i.is);
        keeps = laws.tells events partition plan.comps.value can target v.own v.comps number word i.keeps t;
      }

  pub has_told : (vs : List (DomainValue C)) → AllKeep stepped plan vs → (number finish : ℕ) (x : Crossing) (v w : DomainValue C) → slice_get partition.crossings number ≡ Some x → IsFinish stepped plan x.parent finish
      → slice_get vs x.target ≡ Some v → w ≡ record v { own = with_known v.own number (Exact finish) } → number < length v.own.known → HasToldCrossing stepped plan vs (set vs x.target w) number
  has_told vs k number finish x v w h f there is wide =
      let l : HaveLearned stepped plan vs (set vs x.target w) = has_learned vs k number (Exact finish) x.target v w there (finish_of v.own number finish x h f) is in
      let after : own_in (set vs x.target w) x.target ≡ with_known v.own number (Exact finish) = own_set_same vs x.target w (target_there vs k number x h) ∙ ap (λ (z : DomainValue C). z.own) is in
      record {
        kept = l.kept;
        learn = l.learn;
        told = λ y at.
            let one : x ≡ y = same_Some x y (sym h ∙ at) in
            subst (λ (z : Crossing). IsResolved (set vs x.target w) number z) one
            (ap (λ (a : DomainState). is_exact (word_at a.known number)) after ∙ ap is_exact (get_or-set_same v.own.known number (Exact finish) (Bound 0) wide));
      }

  -- all that a domain fired, as far as it was told

  pub record IsLogged (v : DomainValue C) (next : ℕ) (g : Fired) : Type 0 where
    pub firing : FiredEvent
    pub there : slice_get v.own.fired next ≡ Some firing
    pub number : firing.event.number ≡ g.number
    pub below : g.number < length events
    pub finish : IsFinish stepped plan g.number g.finish

  pub logged : (vs : List (DomainValue C)) → AllKeep stepped plan vs → (source : ℕ) (v : DomainValue C) → slice_get vs source ≡ Some v → (fs : List Fired) → v.own.fired ≡ map (timed_from v.events) fs
      → (next : ℕ) (g : Fired) → slice_get fs next ≡ Some g → IsLogged v next g
  logged vs k source v there fs is next g at =
      let i : IsKept stepped events partition plan.comps.value source v = k.each source v there in
      let is_too : v.own.fired ≡ map (timed_from events) fs = is ∙ ap (λ (es : List Event). map (timed_from es) fs) (ap (λ (z : DomainValue C). z.events) i.is) in
      let log : map fired_of v.own.fired ≡ fs = laws.log events partition plan.comps.value can source v.own v.comps fs i.keeps is_too in
      let y_there : slice_get v.own.fired next ≡ Some (timed_from events g) =
      ap (λ (xs : List FiredEvent). slice_get xs next) is_too ∙ (slice_get-map (timed_from events) fs next ∙ ap (option_map (timed_from events)) at)
      in
      let e : IsWeaveFiring stepped events partition plan.comps.value source (timed_from events g) = laws.firings events partition plan.comps.value can source v.own v.comps next (timed_from events g) i.keeps y_there in
      let same : fired_of (timed_from events g) ≡ g =
      same_Some _ _ (sym (slice_get-map fired_of v.own.fired next ∙ ap (option_map fired_of) y_there) ∙ (ap (λ (xs : List Fired). slice_get xs next) log ∙ at))
      in
      let number : (timed_from events g).event.number ≡ g.number = ap (λ (z : Fired). z.number) same in
      record {
        firing = timed_from events g;
        there = y_there;
        number = number;
        below = (let w = slice_get_within events (timed_from events g).event.number (timed_from events g).event e.there in omega (arith, w, number));
        finish = sym (ap (finish_in (woven stepped events plan.comps.value)) (sym number) ∙ e.finish);
      }

  -- the crossing of a number, and its domain

  pub told_at : (vs : List (DomainValue C)) → AllKeep stepped plan vs → (number finish : ℕ) (x : Crossing) (target : ℕ) (d : DomainValue C) → slice_get partition.crossings number ≡ Some x → target ≡ x.target → IsFinish stepped plan x.parent finish
      → MayTell (get_or vs target d).events (get_or vs target d).partition (get_or vs target d).domain (get_or vs target d).own number (Exact finish)
  told_at vs k number finish x target d h is f =
      subst (λ (m : ℕ). MayTell (get_or vs m d).events (get_or vs m d).partition (get_or vs m d).domain (get_or vs m d).own number (Exact finish)) (sym is)
      (may_tell vs k number (Exact finish) x.target (get_or vs x.target d) (slice_get-get_or vs x.target d (target_there vs k number x h)) (finish_of (get_or vs x.target d).own number finish x h f))

  pub told_then : (vs : List (DomainValue C)) → AllKeep stepped plan vs → (number finish : ℕ) (x : Crossing) (target : ℕ) (d w : DomainValue C) → slice_get partition.crossings number ≡ Some x → target ≡ x.target → IsFinish stepped plan x.parent finish
      → w ≡ record (get_or vs target d) { own = with_known (get_or vs target d).own number (Exact finish) } → HasToldCrossing stepped plan vs (set vs target w) number
  told_then vs k number finish x target d w h is f w_is =
      let there : slice_get vs x.target ≡ Some (get_or vs x.target d) = slice_get-get_or vs x.target d (target_there vs k number x h) in
      let wide : length (get_or vs x.target d).own.known ≡ length partition.crossings = (k.each x.target (get_or vs x.target d) there).keeps.wide in
      subst (λ (m : ℕ). HasToldCrossing stepped plan vs (set vs m w) number) (sym is)
      (has_told vs k number finish x (get_or vs x.target d) w h f there (subst (λ (m : ℕ). w ≡ record (get_or vs m d) { own = with_known (get_or vs m d).own number (Exact finish) }) is w_is)
      (let l = slice_get_within partition.crossings number x h in omega (arith, l, wide)))

  -- a bound of the crossing of a number

  module _ (vs : List (DomainValue C)) (k : AllKeep stepped plan vs) (number bound : ℕ) (x : Crossing) (target : ℕ) (d : DomainValue C) (h : slice_get partition.crossings number ≡ Some x) (is : target ≡ x.target) where
    target_stands : slice_get vs target ≡ Some (get_or vs target d)
    target_stands = slice_get-get_or vs target d (let l = target_there vs k number x h in omega (arith, l, is))

    pub leads_into : IsInto (get_or vs target d).partition (get_or vs target d).domain number
    leads_into =
        let i : IsKept stepped events partition plan.comps.value target (get_or vs target d) = k.each target (get_or vs target d) target_stands in
        subst (λ (w : DomainValue C). IsInto w.partition w.domain number) (sym i.is) (record { crossing = x; there = h; target = sym is })

    module _ (l : IsBoundOf stepped plan x bound) (before : ℕ) (word : Word) (e : DomainValue C) (word_is : word ≡ word_at (get_or vs target e).own.known number) (was : word ≡ Bound before) (rises : before < bound) where
      known_is : word_at (get_or vs target d).own.known number ≡ Bound before
      known_is =
          let there : slice_get vs target ≡ Some (get_or vs target e) = slice_get-get_or vs target e (slice_get_within vs target (get_or vs target d) target_stands) in
          ap (λ (v : DomainValue C). word_at v.own.known number) (same_Some (get_or vs target d) (get_or vs target e) (sym target_stands ∙ there)) ∙ (sym word_is ∙ was)

      true_bound : IsTrueWordOf stepped events partition plan.comps.value target (get_or vs target d).own number (Bound bound)
      true_bound =
          subst (λ (m : ℕ). IsTrueWordOf stepped events partition plan.comps.value m (get_or vs target d).own number (Bound bound)) (sym is)
          (bound_of (get_or vs target d).own number bound x h l (bound_says (word_at (get_or vs target d).own.known number) before bound known_is (omega (arith, rises))))

      pub may_tell_bound : MayTell (get_or vs target d).events (get_or vs target d).partition (get_or vs target d).domain (get_or vs target d).own number (Bound bound)
      may_tell_bound = may_tell vs k number (Bound bound) target (get_or vs target d) target_stands true_bound

      pub bound_told : (w : DomainValue C) → w ≡ record (get_or vs target d) { own = with_known (get_or vs target d).own number (Bound bound) } → HaveLearned stepped plan vs (set vs target w)
      bound_told w w_is = has_learned vs k number (Bound bound) target (get_or vs target d) w target_stands true_bound w_is

  -- a bound that a domain gives
  pub kept_bound : (source : ℕ) (v : DomainValue C) → IsKept stepped events partition plan.comps.value source v → (number bound : ℕ) → IsOutOf v.partition v.domain number
      → ((x : Crossing) → slice_get v.partition.crossings number ≡ Some x → IsBoundAnswer v.events v.partition v.domain v.own x (Some bound))
      → (x : Crossing) → slice_get partition.crossings number ≡ Some x → IsBoundOf stepped plan x bound
  kept_bound source v i number bound out answer x h =
      let o : IsOutOf partition source number = subst (λ (w : DomainValue C). IsOutOf w.partition w.domain number) i.is out in
      let a : IsBoundAnswer events partition source v.own x (Some bound) =
      subst (λ (w : DomainValue C). (y : Crossing) → slice_get w.partition.crossings number ≡ Some y → IsBoundAnswer w.events w.partition w.domain w.own y (Some bound)) i.is answer x h
      in
      let one : o.crossing ≡ x = same_Some o.crossing x (sym o.there ∙ h) in
      laws.bounds_hold events partition plan.comps.value can source v.own v.comps x bound i.keeps
      (record { number = number; there = h; source = ap (λ (z : Crossing). z.source) (sym one) ∙ o.source; unfired = a.unfired; allowed = a.allowed })

  pub gives_bound : (vs : List (DomainValue C)) → AllKeep stepped plan vs → (source : ℕ) (v : DomainValue C) → slice_get vs source ≡ Some v → (number bound : ℕ) → IsOutOf v.partition v.domain number
      → ((x : Crossing) → slice_get v.partition.crossings number ≡ Some x → IsBoundAnswer v.events v.partition v.domain v.own x (Some bound))
      → (x : Crossing) → slice_get partition.crossings number ≡ Some x → IsBoundOf stepped plan x bound
  gives_bound vs k source v there number bound out answer x h =
      let i : IsKept stepped events partition plan.comps.value source v = k.each source v there in
      kept_bound source v i number bound out answer x h

pub picked : (p q : Partition) (cs : List Crossing) (number : ℕ) (d : Crossing) → p ≡ q → cs ≡ p.crossings → number < length p.crossings → slice_get q.crossings number ≡ Some (get_or cs number d)
picked p q cs number d e is l =
    ap (λ (z : Partition). slice_get z.crossings number) (sym e) ∙ (ap (λ (zs : List Crossing). slice_get zs number) (sym is) ∙ slice_get-get_or cs number d (omega (arith, l, ap length is)))

module _ {C : Type 0} (serves : C → Kind → Bool) (floor : C → Kind → ℕ) (stepped : C → Kind → ℕ → C × ℕ) (greatest : C → Kind → ℕ → ℕ) (laws : KeepingLaws serves floor stepped greatest)
    (plan : Plan C) (can : CanWeavePlan serves floor stepped greatest plan) (first vs : List (DomainValue C)) (kept : AllKeep stepped plan vs) (learn : AllLearn first vs) (source : ℕ) (below : source < length vs)
    (m : ℕ) (same : m ≡ source) (d : DomainValue C) (fs : List Fired) (fired : (get_or vs m d).own.fired ≡ map (timed_from (get_or vs m d).events) fs)
    (next : ℕ) (within : next < length (own_in first source).fired) (e : Fired) where
  abbrev domain_there : slice_get vs source ≡ Some (get_or vs m d)
  domain_there = subst (λ (n : ℕ). slice_get vs source ≡ Some (get_or vs n d)) (sym same) (slice_get-get_or vs source d below)

  own_is : own_in vs source ≡ (get_or vs m d).own
  own_is = own_there vs source (get_or vs m d) domain_there

  next_below : next < length fs
  next_below =
      let a = ap length ((learn.each source).fired) in
      let b = ap (λ (z : DomainState). length z.fired) own_is in
      let c = ap length fired in
      let n = length-map fs (timed_from (get_or vs m d).events) in
      omega (arith, within, a, b, c, n)

  pub firing : IsLogged serves floor stepped greatest laws plan can (get_or vs m d) next (get_or fs next e)
  firing = logged serves floor stepped greatest laws plan can vs kept source (get_or vs m d) domain_there fs fired next (get_or fs next e) (slice_get-get_or fs next e next_below)

  pub entry_below : (get_or fs next e).number < length plan.graph.value
  entry_below = firing.below

  pub entry_finish : IsFinish stepped plan (get_or fs next e).number (get_or fs next e).finish
  entry_finish = firing.finish

  pub next_done : (place : ℕ) (new : List (DomainValue C)) → HasToldPart stepped plan first vs source place next → HasToldAll stepped plan vs new (get_or fs next e).number → HasToldPart stepped plan first new source place (next + 1)
  next_done place new h t =
      next_part stepped plan first vs new source place next firing.firing (get_or fs next e).number h
      (ap (λ (xs : List FiredEvent). slice_get xs next) (sym (learn.each source).fired) ∙ (ap (λ (z : DomainState). slice_get z.fired next) own_is ∙ firing.there)) firing.number t
