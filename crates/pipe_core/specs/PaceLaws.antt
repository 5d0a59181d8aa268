-- What holds of a pace that is kept beside a clock.
use Rattle.std.specs.Prelude.{◌≡◌, ◌+◌, ◌^◌, ◌≤◌, ℕ, Bool, length, slice_index}
use Rattle.std.specs.List.{All}
use Rattle.machine_desc.specs.Machine.{IsPipe}
use Rattle.machine_desc.specs.declared.machine.Pipe.{Pipe}
use Rattle.rv_decode.specs.declared.inst.Inst.{Inst}
use Rattle.pipe_core.specs.Pace.{PaceState, first_pace, issued, issues_at, latency_of}

-- 32 registers, of which x0 is ready, and a counter for each entry
pub record IsPace (pace : PaceState) : Type 0 where
  pub pipe : IsPipe pace.pipe
  pub registers : length pace.ready ≡ 32
  pub zero_ready : slice_index pace.ready 0 ≡ 0
  pub entries : length pace.counters ≡ pace.pipe.entries
  pub counters : All (λ counter. counter ≤ 3) pace.counters

-- It goes on from this clock: no register is ready later than 127 cycles after it.
pub record GoesOnFrom (clock : ℕ) (pace : PaceState) : Type 0 where
  pub is : IsPace pace
  pub soon : All (λ cycle. cycle ≤ clock + 127) pace.ready

-- No number of an instruction passes 2^62: the clock behind it, nor the cycle from which on its destination is ready.
pub record HasRoom (pace : PaceState) (i : Inst) (pc : ℕ) (taken : Bool) (clock : ℕ) : Type 0 where
  pub clock_small : (issued pace i pc taken clock).clock ≤ 2 ^ 62
  pub ready_small : issues_at pace i clock + latency_of pace.pipe i.name ≤ 2 ^ 62

-- An instruction costs a cycle at least, whatever the numbers.
abbrev pub InstructionsCostACycle : Type 0
InstructionsCostACycle = (pace : PaceState) (i : Inst) (pc clock : ℕ) (taken : Bool) → clock + 1 ≤ (issued pace i pc taken clock).clock

-- It costs 192 cycles at most where the pace goes on from the clock, and the pace goes on from the clock behind it.
pub record StaysSoon (clock : ℕ) (after : ℕ) (pace : PaceState) : Type 0 where
  pub within : after ≤ clock + 192
  pub goes_on : GoesOnFrom after pace

-- (A register is ready 128 cycles at most after an issue, which was a cycle before the clock at least; then comes a cycle, and a
-- penalty of 64 at most.)
abbrev pub IssuesAreSoon : Type 0
IssuesAreSoon = (pace : PaceState) (i : Inst) (pc clock : ℕ) (taken : Bool) → GoesOnFrom clock pace
    → StaysSoon clock (issued pace i pc taken clock).clock (issued pace i pc taken clock).pace

-- A pace that goes on from a clock up to 2^61 has room for any instruction.
abbrev pub SoonHasRoom : Type 0
SoonHasRoom = (pace : PaceState) (i : Inst) (pc clock : ℕ) (taken : Bool) → GoesOnFrom clock pace → clock ≤ 2 ^ 61 → HasRoom pace i pc taken clock

-- The first pace goes on from cycle 0.
abbrev pub FirstGoesOn : Type 0
FirstGoesOn = (pipe : Pipe) → IsPipe pipe → GoesOnFrom 0 (first_pace pipe)
