use Rattle.std.proofs.Common.{◌==◌, ℕ, refl, sym, ◌∙◌, ap, subst, arith, Some}
use mathlib.Core.Option.{none}
use prog.Atomic.{either}
use Rattle.atomic_table.specs.Table.{Allows, step}
use Rattle.crew.specs.declared.view.Stage.TheVariants.{Free}
use Rattle.crew.specs.declared.view.View.TheVariants.{Asks}
use Rattle.crew.specs.Rule.{IsPost}
use Rattle.crew.specs.Steps.{collected}
use Rattle.crew.proofs.Calls.{has_slot}
use Rattle.crew.proofs.Stepping.{collects}
use Rattle.crew.proofs.asker.take_answer.Goals as goal

pub loop-init : goal.loop-init
loop-init g c = record { table = refl; id = refl; me = refl }

pub compare_exchange-requires : goal.compare_exchange-requires
compare_exchange-requires g c =
    let place = c.wait.new.place in
    let busy = c.requires.busy in
    let slots : ℕ = c.args.bench.now.table_id.slots in
    let is = c.wait.ensures.knows ∙ (c.loop.invariant.me ∙ busy.1) in (
      c.wait.ensures.table.0 ∙ (c.loop.invariant.table ∙ c.requires.table),
      (let w = c.requires.words in omega arith),
      subst (λ m. Allows (IsPost g.J.Job.can g.J.Job.done) slots place.id m 16 (λ n. either (n == 3) 0 n) (collected g.J.Job.done (step slots 16 3 0 none) m))
          (sym is)
          (collects g.J.Job.can g.J.Job.done slots place.id busy.0),
    )

pub exchange-requires : goal.exchange-requires
exchange-requires g c =
    let busy = c.requires.busy in
    let is = c.wait.ensures.knows ∙ (c.loop.invariant.me ∙ busy.1) in
    let took = c.compare_exchange.ensures.2.0 c.if-compare_exchange-eq-ANSWERED.true busy.0 (ap (λ m. m.0) is) in
    (c.compare_exchange.ensures.0 ∙ (c.wait.ensures.table.0 ∙ (c.loop.invariant.table ∙ c.requires.table)), (Some took.0, has_slot c.compare_exchange.new.seat.me (Asks Free) (Some took.0) took.1))
