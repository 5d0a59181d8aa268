use Rattle.std.proofs.Common.{◌==◌, ℕ, refl, sym, ◌∙◌, subst, arith, Some}
use mathlib.Core.Option.{none}
use prog.Atomic.{either}
use Rattle.atomic_table.specs.Table.{Allows, step}
use Rattle.crew.specs.declared.view.Stage.TheVariants.{Busy}
use Rattle.crew.specs.declared.view.View.TheVariants.{Works}
use Rattle.crew.specs.Rule.{IsPost}
use Rattle.crew.specs.Steps.{picked}
use Rattle.crew.proofs.Calls.{has_slot}
use Rattle.crew.proofs.Stepping.{picks}
use Rattle.crew.proofs.worker.pick.Goals as goal

pub loop-init : goal.loop-init
loop-init g c = record { table = refl; id = refl; me = refl }

pub compare_exchange-found-requires : goal.compare_exchange-found-requires
compare_exchange-found-requires g c =
    let place = c.wait.new.place in
    let slots : ℕ = c.args.bench.now.table_id.slots in
    let is = c.wait.ensures.knows ∙ (c.loop.invariant.me ∙ c.requires.free) in (
      c.wait.ensures.table.0 ∙ (c.loop.invariant.table ∙ c.requires.table),
      (let w = c.requires.words in omega arith),
      subst (λ m. Allows (IsPost g.J.Job.can g.J.Job.done) slots place.id m 16 (λ n. either (n == 1) 2 n) (picked g.J.Job.can (step slots 16 1 2 none) m))
          (sym is)
          (picks g.J.Job.can g.J.Job.done slots place.id),
    )

pub exchange-requires : goal.exchange-requires
exchange-requires g c =
    let took = c.compare_exchange-found.ensures.2.0 c.if-found-eq-SENT.true in
    (c.compare_exchange-found.ensures.0 ∙ (c.wait.ensures.table.0 ∙ (c.loop.invariant.table ∙ c.requires.table)), (Some took.0, has_slot c.compare_exchange-found.new.seat.me (Works (Busy took.0)) (Some took.0) took.1))
