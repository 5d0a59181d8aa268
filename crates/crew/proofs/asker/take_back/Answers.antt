use Rattle.std.proofs.Common.{IfSome, IfNone, ◌≡◌, ◌==◌, ℕ, sym, ◌∙◌, ap, subst, arith, Some, None}
use mathlib.Core.Option.{none}
use prog.Atomic.{either}
use Rattle.atomic_table.specs.Table.{Allows, step}
use Rattle.crew.specs.declared.view.Stage.TheVariants.{Free, Busy}
use Rattle.crew.specs.declared.view.View.TheVariants.{Asks}
use Rattle.crew.specs.Rule.{IsPost}
use Rattle.crew.specs.Seats.{asker_at}
use Rattle.crew.specs.Steps.{taken_back}
use Rattle.crew.proofs.Calls.{came_out, has_slot, put_in}
use Rattle.crew.proofs.Stepping.{takes_back}
use Rattle.crew.proofs.asker.take_back.Goals as goal

pub compare_exchange-requires : goal.compare_exchange-requires
compare_exchange-requires g c =
    let place = c.args.place.now in
    let busy = c.requires.busy in
    let slots : ℕ = c.args.bench.now.table_id.slots in (
      c.requires.table,
      (let w = c.requires.words in omega arith),
      subst (λ m. Allows (IsPost g.J.Job.can g.J.Job.done) slots place.id m 16 (λ n. either (n == 1) 0 n) (taken_back g.J.Job.can (step slots 16 1 0 none) m))
          (sym busy.1)
          (takes_back g.J.Job.can g.J.Job.done slots place.id busy.0),
    )

pub exchange-requires : goal.exchange-requires
exchange-requires g c =
    let busy = c.requires.busy in
    let took = c.compare_exchange.ensures.2.0 c.if-compare_exchange-eq-SENT.true busy.0 (ap (λ m. m.0) busy.1) in
    (c.compare_exchange.ensures.0 ∙ c.requires.table, (Some busy.0, has_slot c.compare_exchange.new.seat.me (Asks Free) (Some busy.0) took.0))

pub returns-then-compare_exchange-eq-SENT-clause-job : goal.returns-then-compare_exchange-eq-SENT-clause-job
returns-then-compare_exchange-eq-SENT-clause-job g c =
    let busy = c.requires.busy in
    let me = c.compare_exchange.new.seat.me in
    let took = c.compare_exchange.ensures.2.0 c.if-compare_exchange-eq-SENT.true busy.0 (ap (λ m. m.0) busy.1) in
    subst (λ r. IfSome r (λ job. (c.args.place.now.me ≡ asker_at (Busy job)) × (c.exchange.new.seat.me ≡ asker_at Free) × g.J.Job.can job))
    (sym (came_out me (Asks Free) (Some busy.0) c.exchange.result took.0 c.exchange.ensures.2))
    (busy.1, put_in me c.exchange.new.seat.me (Asks Free) (Some busy.0) None took.0 c.exchange.ensures.3, took.1)

pub returns-then-compare_exchange-eq-SENT-clause-none : goal.returns-then-compare_exchange-eq-SENT-clause-none
returns-then-compare_exchange-eq-SENT-clause-none g c =
    let busy = c.requires.busy in
    let me = c.compare_exchange.new.seat.me in
    let took = c.compare_exchange.ensures.2.0 c.if-compare_exchange-eq-SENT.true busy.0 (ap (λ m. m.0) busy.1) in
    subst (λ r. IfNone r (c.exchange.new.seat.me ≡ c.args.place.now.me)) (sym (came_out me (Asks Free) (Some busy.0) c.exchange.result took.0 c.exchange.ensures.2)) tt
