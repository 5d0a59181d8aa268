-- One instruction more.
use Rattle.std.proofs.Common.{◌≡◌, ◌+◌, ◌*◌, ◌++◌, ◌∷◌, [], ℕ, suc, List, append_assoc, sym, ◌∙◌, ap, arith}
use Rattle.trace.specs.Trace.{Executed, Step, stretch_steps}
use Rattle.trace.proofs.StretchTold.{stretch_more}
use Rattle.trace.proofs.telling.tell_instructions.Goals as goal

pub loop-k-preserved : goal.loop-k-preserved
loop-k-preserved g c =
    let number = c.args.number in
    let pc = c.args.leg.now.pc in
    let k = c.loop-k.k in
    let told = g.T.Tracer.steps c.args.tracer.now in
    let one : List Step = Executed number (pc + 4 * k) ∷ [] in
    let next : suc k ≡ k + 1 = omega arith in
    record {
      told =
          c.in_ok-executed.ensures.told
          ∙ (ap (λ (steps : List Step). steps ++ one) c.loop-k.invariant.told
          ∙ (append_assoc told (stretch_steps number pc k) one
          ∙ (ap (λ (steps : List Step). told ++ steps) (sym (stretch_more number pc k))
          ∙ ap (λ (n : ℕ). told ++ stretch_steps number pc n) next)));
      fixed = c.executed.ensures.fixed ∙ c.loop-k.invariant.fixed;
    }
