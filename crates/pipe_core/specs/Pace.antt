-- The pace of a pipelined core: when an instruction issues, and when the next one can. A scoreboard has the cycle from which on
-- each register is ready, and a table of two-bit counters predicts the branches.
use Rattle.std.specs.Prelude.{◌+◌, ◌-◌, ◌/◌, ◌%◌, ◌==◌, ◌||◌, ℕ, nat_le, max, min, Bool, true, false, not, if◌then◌else◌, List, [], ◌∷◌, replicate, slice_index, slice_set}
use Rattle.machine_desc.specs.declared.machine.Pipe.{Pipe}
use Rattle.rv_decode.specs.declared.inst.Inst.{Inst}
use Rattle.rv_decode.specs.declared.name.Name.{Name}
use Rattle.rv_decode.specs.declared.name.Name.TheVariants.{Jalr, Beq, Bne, Blt, Bge, Bltu, Bgeu, Sb, Sh, Sw, Sd, Fence, Ecall, Ebreak, Mul, Mulh, Mulhsu, Mulhu, Div, Divu, Rem, Remu, Mulw, Divw, Divuw, Remw, Remuw}

pub record PaceState : Type 0 where
  pub pipe : Pipe
  -- by the number of the register, the cycle from which on it is ready; x0 always is
  pub ready : List ℕ
  -- by its place in the table, a counter from 0 to 3
  pub counters : List ℕ

abbrev pub first_pace : Pipe → PaceState
first_pace pipe = record { pipe = pipe; ready = replicate 32 0; counters = replicate pipe.entries 1 }

-- ---- the scoreboard

abbrev pub ready_at : PaceState → (register : ℕ) → ℕ
ready_at pace register = slice_index pace.ready register

-- the cycle from which on all are ready
abbrev pub all_ready : (ready : List ℕ) → ℕ
all_ready [] = 0
all_ready (cycle ∷ cycles) = max cycle (all_ready cycles)

-- the cycle from which on the registers are ready that an instruction names
abbrev pub own_ready : PaceState → Inst → ℕ
own_ready pace i = max (ready_at pace i.rs1) (max (ready_at pace i.rs2) (ready_at pace i.rd))

-- An instruction waits for the registers that it names, its destination among them. ECALL waits for all registers, FENCE for none.
unfoldable pub waits_until : Name → PaceState → Inst → ℕ
waits_until Fence pace i = 0
waits_until Ecall pace i = all_ready pace.ready
waits_until _ pace i = own_ready pace i

abbrev pub issues_at : PaceState → Inst → (clock : ℕ) → ℕ
issues_at pace i clock = max clock (waits_until i.name pace i)

-- how long after its issue the register is ready that an instruction writes
unfoldable pub latency_of : Pipe → Name → ℕ
latency_of pipe Mul = pipe.mul
latency_of pipe Mulh = pipe.mul
latency_of pipe Mulhsu = pipe.mul
latency_of pipe Mulhu = pipe.mul
latency_of pipe Mulw = pipe.mul
latency_of pipe Div = pipe.div
latency_of pipe Divu = pipe.div
latency_of pipe Rem = pipe.div
latency_of pipe Remu = pipe.div
latency_of pipe Divw = pipe.div
latency_of pipe Divuw = pipe.div
latency_of pipe Remw = pipe.div
latency_of pipe Remuw = pipe.div
latency_of pipe _ = 1

-- Branches, stores, ECALL, EBREAK and FENCE write no register, whatever their field rd has.
unfoldable pub writes_rd : Name → Bool
writes_rd Beq = false
writes_rd Bne = false
writes_rd Blt = false
writes_rd Bge = false
writes_rd Bltu = false
writes_rd Bgeu = false
writes_rd Sb = false
writes_rd Sh = false
writes_rd Sw = false
writes_rd Sd = false
writes_rd Ecall = false
writes_rd Ebreak = false
writes_rd Fence = false
writes_rd _ = true

-- a write to x0 is dropped
unfoldable pub ready_after : PaceState → Inst → (issue : ℕ) → List ℕ
ready_after pace i issue =
    if (i.rd == 0) || not (writes_rd i.name) then pace.ready else slice_set pace.ready i.rd (issue + latency_of pace.pipe i.name)

-- ---- the table of branches

abbrev pub place_of : PaceState → (pc : ℕ) → ℕ
place_of pace pc = pc / 4 % pace.pipe.entries

abbrev pub counter_at : PaceState → (pc : ℕ) → ℕ
counter_at pace pc = slice_index pace.counters (place_of pace pc)

-- a branch is predicted as taken where its counter is 2 or 3
abbrev pub predicts : (counter : ℕ) → Bool
predicts counter = nat_le 2 counter

abbrev pub is_right : (taken : Bool) → (counter : ℕ) → Bool
is_right true counter = predicts counter
is_right false counter = not (predicts counter)

-- the counter behind the branch
abbrev pub counter_after : (taken : Bool) → (counter : ℕ) → ℕ
counter_after true counter = min 3 (counter + 1)
counter_after false counter = counter - 1

abbrev pub counters_behind : PaceState → (pc : ℕ) → (taken : Bool) → List ℕ
counters_behind pace pc taken = slice_set pace.counters (place_of pace pc) (counter_after taken (counter_at pace pc))

-- only branches move a counter
unfoldable pub counters_after : Name → PaceState → (pc : ℕ) → (taken : Bool) → List ℕ
counters_after Beq pace pc taken = counters_behind pace pc taken
counters_after Bne pace pc taken = counters_behind pace pc taken
counters_after Blt pace pc taken = counters_behind pace pc taken
counters_after Bge pace pc taken = counters_behind pace pc taken
counters_after Bltu pace pc taken = counters_behind pace pc taken
counters_after Bgeu pace pc taken = counters_behind pace pc taken
counters_after _ pace pc taken = pace.counters

-- what a branch costs beside its cycle, by the counter before it moves
abbrev pub branch_penalty : PaceState → (pc : ℕ) → (taken : Bool) → ℕ
branch_penalty pace pc taken = if is_right taken (counter_at pace pc) then 0 else pace.pipe.penalty

-- What an instruction costs beside its cycle: nothing, but for a jump to an address in a register and a branch that was predicted wrongly.
unfoldable pub penalty_of : Name → PaceState → (pc : ℕ) → (taken : Bool) → ℕ
penalty_of Jalr pace pc taken = pace.pipe.penalty
penalty_of Beq pace pc taken = branch_penalty pace pc taken
penalty_of Bne pace pc taken = branch_penalty pace pc taken
penalty_of Blt pace pc taken = branch_penalty pace pc taken
penalty_of Bge pace pc taken = branch_penalty pace pc taken
penalty_of Bltu pace pc taken = branch_penalty pace pc taken
penalty_of Bgeu pace pc taken = branch_penalty pace pc taken
penalty_of _ pace pc taken = 0

-- ---- an instruction

-- the clock behind it, and the pace
pub record Issued : Type 0 where
  pub clock : ℕ
  pub pace : PaceState

-- The instruction at pc, which is counted, at this clock. Whether it was taken matters of a branch alone.
abbrev pub issued : PaceState → Inst → (pc : ℕ) → (taken : Bool) → (clock : ℕ) → Issued
issued pace i pc taken clock = let issue = issues_at pace i clock in record {
  clock = issue + 1 + penalty_of i.name pace pc taken;
  pace = record {
    pipe = pace.pipe;
    ready = ready_after pace i issue;
    counters = counters_after i.name pace pc taken;
  };
}
