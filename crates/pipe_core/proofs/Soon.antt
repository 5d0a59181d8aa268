-- What an instruction costs, at least and at most.
use Rattle.std.proofs.Common.{◌≤◌, ◌+◌, ◌==◌, ℕ, max, Bool, true, false, List, [], ◌∷◌, arith}
use Rattle.std.specs.Prelude.{if◌then◌else◌, ◌||◌, not}
use Rattle.std.specs.List.{All}
use Rattle.std.proofs.lemmas.List.Elements.{All-head, All-replicate, All-tail}
use Rattle.std.proofs.lemmas.List.{get_or-replicate, length-replicate}
use Rattle.machine_desc.specs.Machine.{IsPipe}
use Rattle.machine_desc.specs.declared.machine.Pipe.{Pipe}
use Rattle.rv_decode.specs.declared.inst.Inst.{Inst}
use Rattle.rv_decode.specs.declared.name.Name.{Name}
use Rattle.rv_decode.specs.declared.name.Name.TheVariants.{Jalr, Beq, Bne, Blt, Bge, Bltu, Bgeu, Fence, Ecall, Mul, Mulh, Mulhsu, Mulhu, Div, Divu, Rem, Remu, Mulw, Divw, Divuw, Remw, Remuw}
use Rattle.pipe_core.specs.Pace.{PaceState, all_ready, counter_at, counters_after, is_right, issues_at, latency_of, penalty_of, ready_after, ready_at, waits_until, writes_rd}
use Rattle.pipe_core.specs.PaceLaws.{FirstGoesOn, GoesOnFrom, InstructionsCostACycle, IsPace, IssuesAreSoon, SoonHasRoom}
use Rattle.pipe_core.proofs.Written.{all_by, branches-keep, small_at, writes-keep}

pub costs_a_cycle : InstructionsCostACycle
costs_a_cycle pace i pc clock taken = omega arith

-- ---- each number is small

all_soon : (bound : ℕ) (ready : List ℕ) → All (λ cycle. cycle ≤ bound) ready → all_ready ready ≤ bound
all_soon bound [] all = omega arith
all_soon bound (cycle ∷ cycles) all =
    let first : cycle ≤ bound = All-head (λ c. c ≤ bound) cycle cycles all in
    let rest : all_ready cycles ≤ bound = all_soon bound cycles (All-tail (λ c. c ≤ bound) cycle cycles all) in
    omega arith

own_soon : (bound : ℕ) (pace : PaceState) (i : Inst) → All (λ cycle. cycle ≤ bound) pace.ready → max (ready_at pace i.rs1) (max (ready_at pace i.rs2) (ready_at pace i.rd)) ≤ bound
own_soon bound pace i all =
    let first = small_at bound pace.ready all i.rs1 in
    let second = small_at bound pace.ready all i.rs2 in
    let destination = small_at bound pace.ready all i.rd in
    omega arith

waits_soon : (bound : ℕ) (name : Name) (pace : PaceState) (i : Inst) → All (λ cycle. cycle ≤ bound) pace.ready → waits_until name pace i ≤ bound
unfolding waits_until
waits_soon bound Fence pace i all = omega arith
waits_soon bound Ecall pace i all = all_soon bound pace.ready all
waits_soon bound _ pace i all = own_soon bound pace i all

one_is_small : 1 ≤ 128
one_is_small = omega arith

none_is_small : 0 ≤ 64
none_is_small = omega arith

latency-small : (pipe : Pipe) (name : Name) → IsPipe pipe → latency_of pipe name ≤ 128
unfolding latency_of
latency-small pipe Mul is = omega (arith, is.mul)
latency-small pipe Mulh is = omega (arith, is.mul)
latency-small pipe Mulhsu is = omega (arith, is.mul)
latency-small pipe Mulhu is = omega (arith, is.mul)
latency-small pipe Mulw is = omega (arith, is.mul)
latency-small pipe Div is = omega (arith, is.div)
latency-small pipe Divu is = omega (arith, is.div)
latency-small pipe Rem is = omega (arith, is.div)
latency-small pipe Remu is = omega (arith, is.div)
latency-small pipe Divw is = omega (arith, is.div)
latency-small pipe Divuw is = omega (arith, is.div)
latency-small pipe Remw is = omega (arith, is.div)
latency-small pipe Remuw is = omega (arith, is.div)
latency-small pipe _ is = one_is_small

branch-small : (right : Bool) (penalty : ℕ) → penalty ≤ 64 → (if right then 0 else penalty) ≤ 64
branch-small true penalty small = omega arith
branch-small false penalty small = small

penalty-small : (name : Name) (pace : PaceState) (pc : ℕ) (taken : Bool) → IsPipe pace.pipe → penalty_of name pace pc taken ≤ 64
unfolding penalty_of
penalty-small Jalr pace pc taken is = is.penalty
penalty-small Beq pace pc taken is = branch-small (is_right taken (counter_at pace pc)) pace.pipe.penalty is.penalty
penalty-small Bne pace pc taken is = branch-small (is_right taken (counter_at pace pc)) pace.pipe.penalty is.penalty
penalty-small Blt pace pc taken is = branch-small (is_right taken (counter_at pace pc)) pace.pipe.penalty is.penalty
penalty-small Bge pace pc taken is = branch-small (is_right taken (counter_at pace pc)) pace.pipe.penalty is.penalty
penalty-small Bltu pace pc taken is = branch-small (is_right taken (counter_at pace pc)) pace.pipe.penalty is.penalty
penalty-small Bgeu pace pc taken is = branch-small (is_right taken (counter_at pace pc)) pace.pipe.penalty is.penalty
penalty-small _ pace pc taken is = none_is_small

-- ---- an instruction

branches-writes : (i : Inst) (pc : ℕ) (taken : Bool) (pace : PaceState) (issue : ℕ) → IsPace pace
    → IsPace (record { pipe = pace.pipe; ready = ready_after pace i issue; counters = counters_after i.name pace pc taken })
branches-writes i pc taken pace issue is =
    let written = writes-keep pace i issue is in
    let branched = branches-keep i.name pace pc taken is in record {
      pipe = is.pipe;
      registers = written.registers;
      zero_ready = written.zero_ready;
      entries = branched.entries;
      counters = branched.counters;
    }

-- what was ready soon after the clock still is so after a later one, and what is written then is
ready_soon : (clock : ℕ) (pace : PaceState) (i : Inst) (issue after : ℕ) → GoesOnFrom clock pace → clock ≤ issue → issue + 1 ≤ after
    → All (λ cycle. cycle ≤ after + 127) (ready_after pace i issue)
unfolding ready_after
ready_soon clock pace i issue after goes_on late behind =
    let latency : latency_of pace.pipe i.name ≤ 128 = latency-small pace.pipe i.name goes_on.is.pipe in
    all_by (λ cycle. cycle ≤ after + 127) ((i.rd == 0) || not (writes_rd i.name)) pace.ready i.rd (issue + latency_of pace.pipe i.name)
    (λ register d below. let before = goes_on.soon register d below in omega arith)
    (omega arith)

pub issues_are_soon : IssuesAreSoon
issues_are_soon pace i pc clock taken goes_on =
    let issue = issues_at pace i clock in
    let waited : waits_until i.name pace i ≤ clock + 127 = waits_soon (clock + 127) i.name pace i goes_on.soon in
    let penalty : penalty_of i.name pace pc taken ≤ 64 = penalty-small i.name pace pc taken goes_on.is.pipe in
    let late : clock ≤ issue = omega arith in
    let behind : issue + 1 ≤ issue + 1 + penalty_of i.name pace pc taken = omega arith in record {
      within = omega arith;
      goes_on = record {
        is = branches-writes i pc taken pace issue goes_on.is;
        soon = ready_soon clock pace i issue (issue + 1 + penalty_of i.name pace pc taken) goes_on late behind;
      };
    }

pub first_goes_on : FirstGoesOn
first_goes_on pipe is = record {
  is = record {
    pipe = is;
    registers = length-replicate {A = ℕ} 32 0;
    zero_ready = get_or-replicate {A = ℕ} 32 0 0 0 (omega arith);
    entries = length-replicate {A = ℕ} pipe.entries 1;
    counters = All-replicate (λ counter. counter ≤ 3) pipe.entries 1 (omega arith);
  };
  soon = All-replicate (λ cycle. cycle ≤ 0 + 127) 32 0 (omega arith);
}

pub soon_has_room : SoonHasRoom
soon_has_room pace i pc clock taken goes_on small =
    let waited : waits_until i.name pace i ≤ clock + 127 = waits_soon (clock + 127) i.name pace i goes_on.soon in
    let penalty : penalty_of i.name pace pc taken ≤ 64 = penalty-small i.name pace pc taken goes_on.is.pipe in
    let latency : latency_of pace.pipe i.name ≤ 128 = latency-small pace.pipe i.name goes_on.is.pipe in record {
      clock_small = omega (arith, waited, penalty, small);
      ready_small = omega (arith, waited, latency, small);
    }
