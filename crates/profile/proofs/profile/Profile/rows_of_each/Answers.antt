use Rattle.std.proofs.Common.{◌≡◌, ℕ, add-one, subst, sym, arith}
use Rattle.profile.specs.Listed.{AreCoresRows}
use Rattle.profile.proofs.profile.Profile.rows_of_each.Goals as goal

pub loop-core-init : goal.loop-core-init
loop-core-init c = c.new-rows.ensures.items

pub loop-core-preserved : goal.loop-core-preserved
loop-core-preserved c =
    let own = c.in_ok-push_rows.ensures in
    subst (λ (n : ℕ). AreCoresRows c.args.self.now n c.push_rows.new.rows.items) (sym (add-one c.loop-core.core))
    (c.loop-core.rows.items, own.0, c.loop-core.invariant, own.1, own.2)

pub returns : goal.returns
returns c =
    let all : c.loop-core.core ≡ c.args.self.now.cores = omega (arith, c.loop-core-test.false, c.loop-core.auto.core-end, c.cores-core-end.ensures) in
    subst (λ (n : ℕ). AreCoresRows c.args.self.now n c.loop-core.rows.items) all c.loop-core.invariant
