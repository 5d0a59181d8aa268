use Rattle.std.proofs.Common.{ℕ, [], ◌∷◌, sym, ◌∙◌, subst, arith, None}
use mathlib.Core.Option.{none}
use Rattle.atomic_table.specs.Table.{Allows, step}
use Rattle.crew.specs.declared.view.Stage.TheVariants.{Free}
use Rattle.crew.specs.Rule.{IsPost}
use Rattle.crew.specs.Seats.{asker_at}
use Rattle.crew.specs.Steps.{ended}
use Rattle.crew.proofs.Calls.{post_of, seat_is}
use Rattle.crew.proofs.Stepping.{ends}
use Rattle.crew.proofs.asker.Asker.end.Goals as goal

pub store-requires : goal.store-requires
store-requires g c =
    let place = c.self.inside.place in
    let slots : ℕ = c.post.inside.table.shared.table_id.slots in (
      post_of place.table_id place.me c.args.self.now c.self.view_is ∙ (c.requires.post ∙ sym c.post.view_is),
      (let w = c.post.inside.words in omega arith),
      subst (λ m. Allows (IsPost g.J.Job.can g.J.Job.done) slots place.id m 16 (λ _. 4) (λ _. ended (step slots 16 4 0 none) m 4))
          (sym (seat_is place.table_id asker_at place.me c.args.self.now Free c.self.invariant c.self.view_is c.requires.free))
          (ends g.J.Job.can g.J.Job.done slots place.id ((0, None) ∷ [])),
    )
