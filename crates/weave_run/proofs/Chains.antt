-- The chain of the crossings out of an event.
use Rattle.std.proofs.Common.{◌≡◌, ◌≤◌, ◌<◌, ◌+◌, ◌-◌, ℕ, zero, suc, List, [], ◌∷◌, length, get_or, Some, slice_get, sym, ◌∙◌, ap, subst, refl, arith}
use Rattle.std.proofs.lemmas.Option.{slice_get_within}
use Rattle.component.specs.declared.kind.Kind.{Kind}
use Rattle.domain_map.specs.declared.crossing.Crossing.{Crossing}
use Rattle.weave_core.specs.DomainCalls.{DomainValue}
use Rattle.weave_run.specs.Outgoing.{AreOutgoing, IsLastBelow}
use Rattle.weave_run.specs.Rounds.{AllKeep, HasToldCrossing, IsFinish}
use Rattle.weave_run.specs.declared.outgoing.Outgoing.{Outgoing}
use Rattle.weave_run.specs.declared.plan.Plan.{Plan}
use Rattle.weave_run.proofs.Tellings.{HasToldFrom, none_told, one_told}

-- a link to a crossing out of the event
pub record IsLink (crossings : List Crossing) (parent link : ℕ) : Type 0 where
  pub below : link ≤ length crossings
  pub there : (number : ℕ) → link ≡ number + 1 → (x : Crossing) × (slice_get crossings number ≡ Some x) × (x.parent ≡ parent)

-- a place that is there reads as itself
pub read_there : (xs : List ℕ) (n d : ℕ) → n < length xs → get_or xs n d ≡ get_or xs n 0
read_there [] n d l = absurd (omega arith)
read_there (x ∷ xs) zero d l = refl
read_there (x ∷ xs) (suc n) d l = read_there xs n d (omega arith)

module _ {C : Type 0} (stepped : C → Kind → ℕ → C × ℕ) (plan : Plan C) (o : Outgoing) (out : AreOutgoing plan.parts.value.crossings (length plan.graph.value) o) where
  abbrev crossings : List Crossing
  crossings = plan.parts.value.crossings

  pub last_of : (parent link : ℕ) → parent < length plan.graph.value → link ≡ get_or o.last.items parent 0 → IsLastBelow crossings (length crossings) parent link
  last_of parent link l is =
      subst (IsLastBelow crossings (length crossings) parent) (sym is) (out.linked.lasts parent (let n = out.events_are in omega (arith, l, n)))

  pub first_link : (parent link : ℕ) → parent < length plan.graph.value → link ≡ get_or o.last.items parent 0 → IsLink crossings parent link
  first_link parent link l is = let b : IsLastBelow crossings (length crossings) parent link = last_of parent link l is in record { below = b.below; there = b.there }

  pub none_yet : (vs : List (DomainValue C)) (parent link : ℕ) → AllKeep stepped plan vs → parent < length plan.graph.value → link ≡ get_or o.last.items parent 0 → HasToldFrom stepped plan vs vs parent link
  none_yet vs parent link k l is =
      let b : IsLastBelow crossings (length crossings) parent link = last_of parent link l is in
      none_told stepped plan vs parent link k (λ number x a at e. b.none_behind number x a (slice_get_within crossings number x at) at e)

  pub before_of : (parent link number before : ℕ) → IsLink crossings parent link → link ≡ number + 1 → before ≡ get_or o.before.items number 0 → IsLastBelow crossings number parent before
  before_of parent link number before h e is =
      let x = h.there number e in
      subst (IsLastBelow crossings number parent) (sym is) (subst (λ (n : ℕ). IsLastBelow crossings number n (get_or o.before.items number 0)) x.2 (out.linked.befores number x.0 x.1))

  pub next_link : (parent link number before : ℕ) → IsLink crossings parent link → link ≡ number + 1 → before ≡ get_or o.before.items number 0 → IsLink crossings parent before
  next_link parent link number before h e is =
      let b : IsLastBelow crossings number parent before = before_of parent link number before h e is in
      let l = h.below in
      record { below = (let a = b.below in omega (arith, a, l, e)); there = b.there }

  pub next_told : (first old new : List (DomainValue C)) (parent link number before : ℕ) → IsLink crossings parent link → link ≡ number + 1 → before ≡ get_or o.before.items number 0
      → HasToldFrom stepped plan first old parent link → HasToldCrossing stepped plan old new number → HasToldFrom stepped plan first new parent before
  next_told first old new parent link number before h e is so t =
      let b : IsLastBelow crossings number parent before = before_of parent link number before h e is in
      one_told stepped plan first old new parent number before (subst (HasToldFrom stepped plan first old parent) e so) t b.none_behind

  pub before_less : (parent link number before : ℕ) → IsLink crossings parent link → link ≡ number + 1 → before ≡ get_or o.before.items number 0 → before < link
  before_less parent link number before h e is =
      let b : IsLastBelow crossings number parent before = before_of parent link number before h e is in
      let a = b.below in
      omega (arith, a, e)

  -- the finish of the crossing's parent
  pub finish_there : (parent link number finish : ℕ) → IsLink crossings parent link → link ≡ number + 1 → IsFinish stepped plan parent finish → (x : Crossing) → slice_get crossings number ≡ Some x → IsFinish stepped plan x.parent finish
  finish_there parent link number finish h e f x at =
      let y = h.there number e in
      let same : y.0.parent ≡ x.parent = ap (λ (z : Crossing). z.parent) (same_crossing y.0 x (sym y.1 ∙ at)) in
      subst (λ (n : ℕ). IsFinish stepped plan n finish) (sym y.2 ∙ same) f
    where
      same_crossing : (y x : Crossing) → Some y ≡ Some x → y ≡ x
      same_crossing y x h = cc

  -- a step down the chain, as the loop makes it
  pub record IsStep (first new : List (DomainValue C)) (parent link before : ℕ) : Type 0 where
    pub link_is : IsLink crossings parent before
    pub told : HasToldFrom stepped plan first new parent before
    pub less : before < link

  pub step : (first old new : List (DomainValue C)) (parent link before d : ℕ) → (link ≡ 0 → ⊥) → IsLink crossings parent link → HasToldFrom stepped plan first old parent link
      → HasToldCrossing stepped plan old new (link - 1) → before ≡ get_or o.before.items (link - 1) d → IsStep first new parent link before
  step first old new parent link before d some h so t is =
      let e : link ≡ (link - 1) + 1 = omega (arith, some) in
      let x = h.there (link - 1) e in
      let below : link - 1 < length o.before.items = (let w = slice_get_within crossings (link - 1) x.0 x.1 in let n = out.crossings_are in omega (arith, w, n)) in
      let reads : before ≡ get_or o.before.items (link - 1) 0 = is ∙ read_there o.before.items (link - 1) d below in
      record {
        link_is = next_link parent link (link - 1) before h e reads;
        told = next_told first old new parent link (link - 1) before h e reads so t;
        less = before_less parent link (link - 1) before h e reads;
      }
