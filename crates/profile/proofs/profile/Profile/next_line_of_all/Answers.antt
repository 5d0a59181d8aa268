use Rattle.std.proofs.Common.{◌≡◌, ◌+◌, ℕ, Option, refl, sym, subst, arith}
use Rattle.std.specs.List.{list_any, range_with_len}
use Rattle.profile.specs.Profiled.{added_in}
use Rattle.profile.specs.Rows.{IsNext, has_line}
use Rattle.profile.proofs.Listing.{next_more}
use Rattle.profile.proofs.profile.Profile.next_line_of_all.Goals as goal

pub loop-core-init : goal.loop-core-init
loop-core-init c = λ n le. refl

pub loop-core-preserved : goal.loop-core-preserved
loop-core-preserved c =
    let has = has_line (added_in c.args.self.now) in
    let core = c.loop-core.core in
    subst (λ (next : Option ℕ). IsNext (λ n. list_any (λ k. has k n) (range_with_len 0 (core + 1))) c.args.from next) (sym c.earlier-next.ensures)
    (next_more has core c.args.from c.loop-core.next c.next_line.result c.loop-core.invariant c.next_line.ensures)

pub returns : goal.returns
returns c =
    let has = has_line (added_in c.args.self.now) in
    let all : c.loop-core.core ≡ c.args.self.now.cores = omega (arith, c.loop-core-test.false, c.loop-core.auto.core-end, c.cores-core-end.ensures) in
    subst (λ (cores : ℕ). IsNext (λ n. list_any (λ k. has k n) (range_with_len 0 cores)) c.args.from c.loop-core.next) all c.loop-core.invariant
