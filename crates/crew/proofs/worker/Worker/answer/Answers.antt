use Rattle.std.proofs.Common.{ℕ, sym, ◌∙◌, subst, arith, Some, None}
use mathlib.Core.Option.{none}
use Rattle.atomic_table.specs.Table.{Allows, step}
use Rattle.crew.specs.declared.view.Stage.TheVariants.{Busy}
use Rattle.crew.specs.declared.view.View.TheVariants.{Works}
use Rattle.crew.specs.Rule.{IsPost}
use Rattle.crew.specs.Seats.{worker_at}
use Rattle.crew.specs.Steps.{answered}
use Rattle.crew.proofs.Calls.{post_of, put_in, seat_is}
use Rattle.crew.proofs.Stepping.{answers}
use Rattle.crew.proofs.worker.Worker.answer.Goals as goal

pub store-requires : goal.store-requires
store-requires g c =
    let place = c.exchange.new.seat in
    let had = c.requires.done in
    let slots : ℕ = c.post.inside.table.shared.table_id.slots in
    let was = seat_is c.self.inside.place.table_id worker_at c.self.inside.place.me c.args.self.now (Busy had.0) c.self.invariant c.self.view_is had.1 in (
      c.exchange.ensures.0 ∙ (post_of c.self.inside.place.table_id c.self.inside.place.me c.args.self.now c.self.view_is ∙ (c.requires.post ∙ sym c.post.view_is)),
      (let w = c.post.inside.words in omega arith),
      subst (λ m. Allows (IsPost g.J.Job.can g.J.Job.done) slots place.id m 16 (λ _. 3) (λ _. answered (step slots 16 3 0 none) m 3))
          (sym (put_in c.self.inside.place.me place.me (Works (Busy had.0)) None (Some c.args.job) was c.exchange.ensures.3))
          (answers g.J.Job.can g.J.Job.done slots place.id had.0 c.args.job had.2),
    )
