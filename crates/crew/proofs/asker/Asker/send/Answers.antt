use Rattle.std.proofs.Common.{ℕ, sym, ◌∙◌, subst, arith, Some, None}
use mathlib.Core.Option.{none}
use Rattle.atomic_table.specs.Table.{Allows, step}
use Rattle.crew.specs.declared.view.Stage.TheVariants.{Free}
use Rattle.crew.specs.declared.view.View.TheVariants.{Asks}
use Rattle.crew.specs.Rule.{IsPost}
use Rattle.crew.specs.Seats.{asker_at}
use Rattle.crew.specs.Steps.{sent}
use Rattle.crew.proofs.Calls.{post_of, put_in, seat_is}
use Rattle.crew.proofs.Stepping.{sends}
use Rattle.crew.proofs.asker.Asker.send.Goals as goal

pub store-requires : goal.store-requires
store-requires g c =
    let place = c.exchange.new.seat in
    let slots : ℕ = c.post.inside.table.shared.table_id.slots in
    let was = seat_is c.self.inside.place.table_id asker_at c.self.inside.place.me c.args.self.now Free c.self.invariant c.self.view_is c.requires.free in (
      c.exchange.ensures.0 ∙ (post_of c.self.inside.place.table_id c.self.inside.place.me c.args.self.now c.self.view_is ∙ (c.requires.post ∙ sym c.post.view_is)),
      (let w = c.post.inside.words in omega arith),
      subst (λ m. Allows (IsPost g.J.Job.can g.J.Job.done) slots place.id m 16 (λ _. 1) (λ _. sent (step slots 16 1 0 none) m 1))
          (sym (put_in c.self.inside.place.me place.me (Asks Free) None (Some c.args.job) was c.exchange.ensures.3))
          (sends g.J.Job.can g.J.Job.done slots place.id c.args.job c.requires.can),
    )
