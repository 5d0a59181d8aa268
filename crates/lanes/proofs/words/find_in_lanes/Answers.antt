use Rattle.std.proofs.Common.{◌≡◌, ◌+◌, ◌<◌, ◌≤◌, ℕ, not, false, List, length, get_or, arith, inl, inr, subst}
use Rattle.std.specs.Prelude.{nat_eq}
use Rattle.std.specs.List.{prefix_len}
use Rattle.std.specs.Simd.Lanes.{chunk}
use Rattle.std.proofs.lemmas.Bool.{cases_lt}
use Rattle.std.proofs.lemmas.Simd.{run_in_chunk_fails, run_in_chunk_stops, run_in_chunk_le}
use Rattle.lanes.proofs.words.find_in_lanes.Goals as goal

joined : (list : List ℕ) (x at r : ℕ) → at + 8 ≤ length list → r ≡ prefix_len (λ y. not (nat_eq y x)) (chunk at 8 list)
    → ((k : ℕ) → k < at → nat_eq (get_or list k 0) x ≡ false) → (k : ℕ) → k < at + r → nat_eq (get_or list k 0) x ≡ false
joined list x at r room counted before k below =
    elim (cases_lt k at) as (λ _. nat_eq (get_or list k 0) x ≡ false) [
      | inl l ↦ before k l
      | inr g ↦ run_in_chunk_fails (λ y. nat_eq y x) list at 8 r 0 room counted k g below
    ]

pub returns-then-lane-lt-LANES-clause-before : goal.returns-then-lane-lt-LANES-clause-before
returns-then-lane-lt-LANES-clause-before c =
    joined c.args.list.now c.args.x c.loop-at.at c.before_in-lane.result (omega arith) c.before_in-lane.ensures c.loop-at.invariant.1

pub returns-then-lane-lt-LANES-clause-here : goal.returns-then-lane-lt-LANES-clause-here
returns-then-lane-lt-LANES-clause-here c _ =
    (omega arith, run_in_chunk_stops (λ y. nat_eq y c.args.x) c.args.list.now c.loop-at.at 8 c.before_in-lane.result 0 (omega arith) c.before_in-lane.ensures (omega arith))

pub loop-at-preserved : goal.loop-at-preserved
loop-at-preserved c =
    let le : c.before_in-lane.result ≤ 8 = run_in_chunk_le (λ y. nat_eq y c.args.x) c.args.list.now c.loop-at.at 8 c.before_in-lane.result 0 (omega arith) c.before_in-lane.ensures in
    let all : c.before_in-lane.result ≡ 8 = omega arith in (
      omega arith,
      subst (λ (n : ℕ). (k : ℕ) → k < c.loop-at.at + n → nat_eq (get_or c.args.list.now k 0) c.args.x ≡ false) all
          (joined c.args.list.now c.args.x c.loop-at.at c.before_in-lane.result (omega arith) c.before_in-lane.ensures c.loop-at.invariant.1),
    )
