use Rattle.std.proofs.Common.{ℕ, Option, sym, subst}
use Rattle.std.specs.Prelude.{option_map}
use Rattle.home.specs.HomeState.{HomeLine, HomeState}
use Rattle.home.specs.Rows.{evicted_in}
use Rattle.shard.specs.BankSteps.{CanEvict}
use Rattle.shard.proofs.BankSteps.{brought_as, can_after, known_evicted}
use Rattle.shard.proofs.shared.others.bring_home.Goals as goal

pub is_dirty-dirty-requires : goal.is_dirty-dirty-requires
is_dirty-dirty-requires c =
    known_evicted c.args.home.now c.args.l1s.now c.enter-evicted.result
    (subst (λ (o : Option (ℕ × HomeLine)). CanEvict c.args.home.now c.args.l1s.now o) (sym c.enter-evicted.ensures.evicted) c.requires.can)

pub evict_copies-requires : goal.evict_copies-requires
evict_copies-requires c =
    subst (λ (h : HomeState). CanEvict h c.args.l1s.now (option_map evicted_in c.enter-evicted.result)) (sym c.enter-evicted.ensures.after)
    (can_after c.args.home.now c.args.line c.args.l1s.now (option_map evicted_in c.enter-evicted.result)
    (subst (λ (o : Option (ℕ × HomeLine)). CanEvict c.args.home.now c.args.l1s.now o) (sym c.enter-evicted.ensures.evicted) c.requires.can))

pub returns-clause-after : goal.returns-clause-after
returns-clause-after c =
    brought_as c.args.home.now c.enter-evicted.new.self c.evict_copies.new.home c.args.l1s.now c.evict_copies.new.l1s c.args.line (option_map evicted_in c.enter-evicted.result) c.enter-evicted.ensures.evicted c.enter-evicted.ensures.after c.evict_copies.ensures.after
