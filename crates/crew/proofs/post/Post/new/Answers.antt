use Rattle.std.proofs.Common.{ℕ, sym, subst, arith}
use mathlib.Core.Option.{none}
use Rattle.atomic_table.specs.Table.{Allows, step}
use Rattle.crew.specs.Rule.{IsPost}
use Rattle.crew.specs.Steps.{began}
use Rattle.crew.proofs.Stepping.{begins}
use Rattle.crew.proofs.post.Post.new.Goals as goal

pub store-requires : goal.store-requires
store-requires g c =
    let place = c.in_ok-table.place in
    let slots : ℕ = c.in_ok-table.table.shared.table_id.slots in (
      c.in_ok-table.ensures.2,
      (let w = c.in_ok-table.ensures.0 in omega (arith, c.deref.ensures.len, c.in_ok-zeros.ensures.len)),
      subst (λ m. Allows (IsPost g.J.Job.can g.J.Job.done) slots place.id m 16 (λ _. 0) (λ _. began (step slots 16 0 0 none) m 0))
          (sym c.in_ok-table.ensures.4)
          (begins g.J.Job.can g.J.Job.done slots place.id),
    )
