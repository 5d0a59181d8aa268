-- A failure that `?` hands on.
use Rattle.std.proofs.Common.{◌≡◌, ℕ, List, Result, Ok, Err, sym, subst}
use Rattle.std.specs.Prelude.{IfErr, IsErrAnd}
use Rattle.elf_load.specs.MemoryImage.{MemoryImage}
use Rattle.machine_desc.specs.declared.machine.Machine.{Machine}
use Rattle.bound_records.specs.Intervals.{IfIllegalTurn}
use Rattle.bound_records.specs.declared.turns_fail.TurnsFail.{TurnsFail}
use Rattle.bound_records.specs.declared.turns_fail.TurnsFail.TheVariants as turns_fail
use Rattle.replay.specs.Replay.{IfIllegal, Replays, fail_of}
use Rattle.reference.specs.ReferenceRun.{Illegal, IsIllegalAt}
use Rattle.reference.specs.Results.{Results}
use Rattle.replay.specs.declared.replay_fail.ReplayFail.{ReplayFail}
use Rattle.replay.specs.declared.replay_fail.ReplayFail.TheVariants as fail

-- what holds of the failure holds of the answer
pub handed_on : {T : Type 0} (P : ReplayFail → Type 0) (why : ReplayFail) (r : Result T ReplayFail) → IsErrAnd r (λ e. e ≡ why) → P why → IfErr r P
handed_on P why (Ok x) gives p = absurd gives
handed_on P why (Err e) gives p = subst P (sym gives) p

-- what is known of the place, and what follows of it
pub of_place : (why : ReplayFail) (P Q : Illegal → Type 0) → ((at : Illegal) → P at → Q at) → IfIllegal why P → IfIllegal why Q
of_place (fail.Illegal interval place) P Q follows p = follows (record { interval = interval; place = place }) p
of_place fail.NoMemory P Q follows p = tt

-- the same of the turns of an interval
pub of_turn : (interval : ℕ) (why : TurnsFail) (P : (place : ℕ) → Type 0) (Q : Illegal → Type 0) → ((place : ℕ) → P place → Q (record { interval = interval; place = place })) → IfIllegalTurn why P → IfIllegal (fail_of interval why) Q
of_turn interval (turns_fail.Illegal place) P Q follows p = follows place p
of_turn interval turns_fail.NoMemory P Q follows p = tt

-- the answer of a replay that failed
failed_as : (machine : Machine) (image : MemoryImage) (lists : List (List ℕ)) (why : ReplayFail) → IfIllegal why (IsIllegalAt machine image lists) → Replays machine image lists (Err why)
failed_as machine image lists (fail.Illegal interval place) p = p
failed_as machine image lists fail.NoMemory p = tt

pub replay_failed : (machine : Machine) (image : MemoryImage) (lists : List (List ℕ)) (why : ReplayFail) (r : Result Results ReplayFail) → IsErrAnd r (λ e. e ≡ why)
    → IfIllegal why (IsIllegalAt machine image lists) → Replays machine image lists r
replay_failed machine image lists why (Ok x) gives p = absurd gives
replay_failed machine image lists why (Err e) gives p = failed_as machine image lists e (subst (λ (f : ReplayFail). IfIllegal f (IsIllegalAt machine image lists)) (sym gives) p)
