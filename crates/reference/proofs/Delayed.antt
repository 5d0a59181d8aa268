-- Cores that waited.
use Rattle.std.proofs.Common.{◌≡◌, ℕ, ◌+◌, List, [], ◌∷◌, length, map, slice_index, All, refl, ◌∙◌, ap, inl, inr, arith}
use Rattle.std.specs.List.{enumerate_from}
use Rattle.std.proofs.lemmas.List.{length-map}
use Rattle.std.proofs.lemmas.List.Elements.{All-cons, All-head, All-nil, All-tail}
use Rattle.std.proofs.lemmas.List.FromFn.{length-enumerate_from}
use Rattle.rv_core.specs.CoreState.{CoreState}
use Rattle.reference.specs.TimedCore.{TimedCore, delayed}
use Rattle.reference.specs.Turn.{IsOver}
use Rattle.reference.specs.ReferenceRun.{all_delayed}

abbrev pub waited : (delays : List ℕ) → (from : ℕ) → List TimedCore → List TimedCore
waited delays from cores = map (λ at. delayed (slice_index delays at.0) at.1) (enumerate_from from cores)

pub delayed_many : (delays : List ℕ) (cores : List TimedCore) → length (all_delayed delays cores) ≡ length cores
delayed_many delays cores = length-map (enumerate_from 0 cores) (λ at. delayed (slice_index delays at.0) at.1) ∙ length-enumerate_from 0 cores

same_from : (delays : List ℕ) (from : ℕ) (cores : List TimedCore) → map (λ c. c.core) (waited delays from cores) ≡ map (λ c. c.core) cores
same_from delays from [] = refl
same_from delays from (c ∷ cores) = ap (λ (states : List CoreState). c.core ∷ states) (same_from delays (from + 1) cores)

-- to wait changes no core's own state
pub delayed_same : (delays : List ℕ) (cores : List TimedCore) → map (λ c. c.core) (all_delayed delays cores) ≡ map (λ c. c.core) cores
delayed_same delays cores = same_from delays 0 cores

over_later : (end by : ℕ) (c : TimedCore) → IsOver end c → IsOver end (delayed by c)
over_later end by c over = record {
  idle = over.idle;
  over = elim over.over [
    | inl halted ↦ inl halted
    | inr late ↦ inr (late.0, omega (arith, late.1))
  ];
}

over_from : (end : ℕ) (delays : List ℕ) (from : ℕ) (cores : List TimedCore) → All (IsOver end) cores → All (IsOver end) (waited delays from cores)
over_from end delays from [] all = All-nil (IsOver end)
over_from end delays from (c ∷ cores) all =
    All-cons (IsOver end) (delayed (slice_index delays from) c) (waited delays (from + 1) cores) (over_later end (slice_index delays from) c (All-head (IsOver end) c cores all))
    (over_from end delays (from + 1) cores (All-tail (IsOver end) c cores all))

-- a core that came to the end of an interval is there after it waited
pub delayed_over : (end : ℕ) (delays : List ℕ) (cores : List TimedCore) → All (IsOver end) cores → All (IsOver end) (all_delayed delays cores)
delayed_over end delays cores all = over_from end delays 0 cores all
