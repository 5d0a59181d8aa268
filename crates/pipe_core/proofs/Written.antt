-- What stays of a pace where a register or a counter is written.
use Rattle.std.proofs.Common.{◌≡◌, ◌≢◌, ◌≤◌, ◌+◌, ◌==◌, ℕ, zero, suc, Bool, true, false, List, length, inl, inr, arith, rules, refl, ◌∙◌, ap₂}
use Rattle.std.specs.Prelude.{slice_index, slice_set, if◌then◌else◌, ◌||◌, not}
use Rattle.std.specs.List.{All}
use Rattle.std.proofs.lemmas.Bool.{cases_lt}
use Rattle.std.proofs.lemmas.List.{get_or-set_other, get_or_past, length-set}
use Rattle.std.proofs.lemmas.List.Elements.{All-set}
use Rattle.rv_decode.specs.declared.inst.Inst.{Inst}
use Rattle.rv_decode.specs.declared.name.Name.{Name}
use Rattle.rv_decode.specs.declared.name.Name.TheVariants.{Beq, Bne, Blt, Bge, Bltu, Bgeu}
use Rattle.pipe_core.specs.Pace.{PaceState, counter_after, counter_at, counters_after, counters_behind, place_of, latency_of, ready_after, writes_rd}
use Rattle.pipe_core.specs.PaceLaws.{IsPace}

-- what is at most a bound at each place is so at any, as it is 0 past the end
pub small_at : (bound : ℕ) (numbers : List ℕ) → All (λ n. n ≤ bound) numbers → (place : ℕ) → slice_index numbers place ≤ bound
small_at bound numbers all place =
    elim (cases_lt place (length numbers)) [
      | inl below ↦ all place 0 below
      | inr past ↦ omega (arith, get_or_past numbers place 0 past)
    ]

-- ---- a register

length_by : (dropped : Bool) (ready : List ℕ) (rd cycle : ℕ) → length (if dropped then ready else slice_set ready rd cycle) ≡ length ready
length_by true ready rd cycle = refl
length_by false ready rd cycle = length-set ready rd cycle

pub all_by : (P : ℕ → Type 0) (dropped : Bool) (ready : List ℕ) (rd cycle : ℕ) → All P ready → P cycle → All P (if dropped then ready else slice_set ready rd cycle)
all_by P true ready rd cycle all one = all
all_by P false ready rd cycle all one = All-set P ready rd cycle one all

zero_by : (dropped : Bool) (ready : List ℕ) (rd cycle : ℕ) → 0 ≢ rd → slice_index ready 0 ≡ 0 → slice_index (if dropped then ready else slice_set ready rd cycle) 0 ≡ 0
zero_by true ready rd cycle apart here = here
zero_by false ready rd cycle apart here = get_or-set_other ready rd 0 cycle 0 apart ∙ here

zero_of : (rd : ℕ) (dropped : Bool) (ready : List ℕ) (cycle : ℕ) → slice_index ready 0 ≡ 0
    → slice_index (if (rd == 0) || dropped then ready else slice_set ready rd cycle) 0 ≡ 0
zero_of zero dropped ready cycle here = here
zero_of (suc n) dropped ready cycle here =
    let other : (suc n == 0) ≡ false = search rules in
    let apart : 0 ≢ suc n = omega arith in
    rw other (zero_by dropped ready (suc n) cycle apart here)

pub ready-length : (pace : PaceState) (i : Inst) (issue : ℕ) → length (ready_after pace i issue) ≡ length pace.ready
unfolding ready_after
ready-length pace i issue = length_by ((i.rd == 0) || not (writes_rd i.name)) pace.ready i.rd (issue + latency_of pace.pipe i.name)

pub ready-zero : (pace : PaceState) (i : Inst) (issue : ℕ) → slice_index pace.ready 0 ≡ 0 → slice_index (ready_after pace i issue) 0 ≡ 0
unfolding ready_after
ready-zero pace i issue here = zero_of i.rd (not (writes_rd i.name)) pace.ready (issue + latency_of pace.pipe i.name) here

pub writes-keep : (pace : PaceState) (i : Inst) (issue : ℕ) → IsPace pace → IsPace (record pace { ready = ready_after pace i issue })
writes-keep pace i issue is = record {
  pipe = is.pipe;
  registers = ready-length pace i issue ∙ is.registers;
  zero_ready = ready-zero pace i issue is.zero_ready;
  entries = is.entries;
  counters = is.counters;
}

-- where the counters moved before, the registers do as they did else
pub writes-behind : (before moved after : PaceState) (i : Inst) (pc : ℕ) (taken : Bool) (issue at : ℕ) → moved ≡ record before { counters = counters_after i.name before pc taken }
    → issue ≡ at → after ≡ record moved { ready = ready_after moved i issue }
    → after ≡ record { pipe = before.pipe; ready = ready_after before i at; counters = counters_after i.name before pc taken }
unfolding ready_after
writes-behind before moved after i pc taken issue at is same written = written ∙ ap₂ (λ (p : PaceState) (n : ℕ). record p { ready = ready_after p i n }) is same

-- ---- a counter

counter-small : (taken : Bool) (counter : ℕ) → counter ≤ 3 → counter_after taken counter ≤ 3
counter-small true counter small = omega arith
counter-small false counter small = omega arith

behind-small : (pace : PaceState) (pc : ℕ) (taken : Bool) → All (λ counter. counter ≤ 3) pace.counters → All (λ counter. counter ≤ 3) (counters_behind pace pc taken)
behind-small pace pc taken all =
    All-set (λ counter. counter ≤ 3) pace.counters (place_of pace pc) (counter_after taken (counter_at pace pc)) (counter-small taken (counter_at pace pc) (small_at 3 pace.counters all (place_of pace pc))) all

behind-length : (pace : PaceState) (pc : ℕ) (taken : Bool) → length (counters_behind pace pc taken) ≡ length pace.counters
behind-length pace pc taken = length-set pace.counters (place_of pace pc) (counter_after taken (counter_at pace pc))

counters-length : (name : Name) (pace : PaceState) (pc : ℕ) (taken : Bool) → length (counters_after name pace pc taken) ≡ length pace.counters
unfolding counters_after
counters-length Beq pace pc taken = behind-length pace pc taken
counters-length Bne pace pc taken = behind-length pace pc taken
counters-length Blt pace pc taken = behind-length pace pc taken
counters-length Bge pace pc taken = behind-length pace pc taken
counters-length Bltu pace pc taken = behind-length pace pc taken
counters-length Bgeu pace pc taken = behind-length pace pc taken
counters-length _ pace pc taken = refl

counters-small : (name : Name) (pace : PaceState) (pc : ℕ) (taken : Bool) → All (λ counter. counter ≤ 3) pace.counters → All (λ counter. counter ≤ 3) (counters_after name pace pc taken)
unfolding counters_after
counters-small Beq pace pc taken all = behind-small pace pc taken all
counters-small Bne pace pc taken all = behind-small pace pc taken all
counters-small Blt pace pc taken all = behind-small pace pc taken all
counters-small Bge pace pc taken all = behind-small pace pc taken all
counters-small Bltu pace pc taken all = behind-small pace pc taken all
counters-small Bgeu pace pc taken all = behind-small pace pc taken all
counters-small _ pace pc taken all = all

pub branches-keep : (name : Name) (pace : PaceState) (pc : ℕ) (taken : Bool) → IsPace pace → IsPace (record pace { counters = counters_after name pace pc taken })
branches-keep name pace pc taken is = record {
  pipe = is.pipe;
  registers = is.registers;
  zero_ready = is.zero_ready;
  entries = counters-length name pace pc taken ∙ is.entries;
  counters = counters-small name pace pc taken is.counters;
}

pub behind-keeps : (pace : PaceState) (pc : ℕ) (taken : Bool) → IsPace pace → IsPace (record pace { counters = counters_behind pace pc taken })
behind-keeps pace pc taken is = record {
  pipe = is.pipe;
  registers = is.registers;
  zero_ready = is.zero_ready;
  entries = behind-length pace pc taken ∙ is.entries;
  counters = behind-small pace pc taken is.counters;
}
