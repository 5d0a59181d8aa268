use Rattle.std.proofs.Common.{rules, ◌<◌, ◌+◌, ℕ, get_or, set, length, sym, ◌∙◌, ap, subst, arith, inl, inr}
use Rattle.std.proofs.lemmas.Bool.{cases_eq}
use Rattle.std.proofs.lemmas.List.{get_or-set_other, get_or-set_same, length-set}
use Rattle.bound_core.specs.TimedCore.{beside_cycles}
use Rattle.bound_core.specs.NumberedCores.{NumberedCore}
use Rattle.bound_phase.specs.Bounds.{HasConsoleRoom}
use Rattle.bound_phase.proofs.Whole.{same_made}
use Rattle.bound_phase.proofs.interval.reserve_all.Goals as goal

pub returns-in_err-reserve-clause-timed : goal.returns-in_err-reserve-clause-timed
returns-in_err-reserve-clause-timed c =
    same_made (λ (x : NumberedCore). x.timed) c.loop-i.cores c.loop-i.i c.reserve.new.self c.index-cores-i.result c.in_err-reserve.ensures.timed (search rules) ∙ c.loop-i.invariant.timed

pub returns-in_err-reserve-clause-number : goal.returns-in_err-reserve-clause-number
returns-in_err-reserve-clause-number c =
    same_made (λ (x : NumberedCore). x.number) c.loop-i.cores c.loop-i.i c.reserve.new.self c.index-cores-i.result c.in_err-reserve.ensures.number (search rules) ∙ c.loop-i.invariant.number

pub loop-i-preserved : goal.loop-i-preserved
loop-i-preserved c =
    let before = c.loop-i.invariant in
    let within : c.loop-i.i < length c.loop-i.cores = search rules in
    record {
      count = length-set c.loop-i.cores c.loop-i.i c.reserve.new.self ∙ before.count;
      timed = same_made (λ (x : NumberedCore). x.timed) c.loop-i.cores c.loop-i.i c.reserve.new.self c.index-cores-i.result c.in_ok-reserve.ensures.timed within ∙ before.timed;
      number = same_made (λ (x : NumberedCore). x.number) c.loop-i.cores c.loop-i.i c.reserve.new.self c.index-cores-i.result c.in_ok-reserve.ensures.number within ∙ before.number;
      spare = λ k d below.
          elim (cases_eq k c.loop-i.i) as (λ _. HasConsoleRoom (c.args.interval + beside_cycles) (get_or (set c.loop-i.cores c.loop-i.i c.reserve.new.self) k d)) [
            | inl own ↦
                subst (HasConsoleRoom (c.args.interval + beside_cycles))
                (sym (ap (λ (n : ℕ). get_or (set c.loop-i.cores c.loop-i.i c.reserve.new.self) n d) own ∙ get_or-set_same c.loop-i.cores c.loop-i.i c.reserve.new.self d within)) c.in_ok-reserve.ensures.room
            | inr other ↦
                subst (HasConsoleRoom (c.args.interval + beside_cycles)) (sym (get_or-set_other c.loop-i.cores c.loop-i.i k c.reserve.new.self d other)) (before.spare k d (omega (arith, below, other)))
          ];
    }
