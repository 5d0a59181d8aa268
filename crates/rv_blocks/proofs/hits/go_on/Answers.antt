use Rattle.std.proofs.Common.{◌+◌, ◌-◌, ◌*◌, ℕ, Option, None, Some, refl, subst, sym, arith}
use Rattle.zs_num.specs.Request.{line_at}
use Rattle.rv_blocks.specs.declared.hits.Left.{Left}
use Rattle.rv_blocks.specs.declared.hits.Reached.{Reached}
use Rattle.rv_blocks.specs.Coming.{moment_at, HasCome}
use Rattle.rv_blocks.proofs.Coming.{comes_by_running, comes_together}
use Rattle.rv_blocks.proofs.hits.go_on.Goals as goal

pub returns-in-None-clause-come : goal.returns-in-None-clause-come
returns-in-None-clause-come g c =
    let stint = c.args.stint.now in
    let here = c.args.here in
    let stop = c.by_blocks-stop.result.rest in
    let ran = c.by_blocks-stop.ensures in
    let x = c.by_blocks-stop.new.x in
    let port = c.args.port.now in
    let from = c.args.first + 4 * here.place in
    let after : Left = record { cycles = stop.left; waited = here.left.waited; accesses = here.left.accesses } in
    let P : Option ℕ → Reached → Type 0 = λ line r. HasCome c.args.image.now c.args.memory.now c.args.stint.now g.Q.Port.gives g.Q.Port.core g.Q.Port.logged g.Q.Port.room here.left.accesses r.gone.left.accesses
    (moment_at stint c.args.x.now from line here.left port) (moment_at stint x (c.args.first + 4 * r.gone.place) r.gone.line r.gone.left port) in
    let reached : Reached = record { gone = record { place = stop.place; line = None; left = after }; flow = c.by_blocks-stop.result.flow } in
    let come : P None reached = comes_by_running c.args.image.now c.args.memory.now c.args.stint.now g.Q.Port.gives g.Q.Port.core g.Q.Port.logged g.Q.Port.room here.left.accesses
    (moment_at stint c.args.x.now from None here.left port) (moment_at stint x (c.args.first + 4 * stop.place) None after port) (here.left.cycles - stop.left) ran.ran refl
    (omega (arith, ran.left, c.requires.left)) (omega (arith, ran.left, c.requires.left)) refl (omega arith) in
    subst (P here.line) (sym c.stopped.ensures) (subst (λ line. P line reached) (sym c.in-None.is) come)

pub returns-in-Some-fetched-clause-come : goal.returns-in-Some-fetched-clause-come
returns-in-Some-fetched-clause-come g c =
    let stint = c.args.stint.now in
    let here = c.args.here in
    let stop = c.by_line-stop.result.rest in
    let ran = c.by_line-stop.ensures in
    let x = c.by_line-stop.new.x in
    let port = c.fetched.new.port in
    let from = c.args.first + 4 * here.place in
    let left = c.in-Some-fetched.left in
    let line : Option ℕ = Some (line_at from) in
    let after : Left = record { cycles = stop.left; waited = left.waited; accesses = left.accesses } in
    let P : Option ℕ → Reached → Type 0 = λ line r. HasCome c.args.image.now c.args.memory.now c.args.stint.now g.Q.Port.gives g.Q.Port.core g.Q.Port.logged g.Q.Port.room here.left.accesses r.gone.left.accesses
    (moment_at stint c.args.x.now from line here.left c.args.port.now) (moment_at stint x (c.args.first + 4 * r.gone.place) r.gone.line r.gone.left port) in
    let reached : Reached = record { gone = record { place = stop.place; line = line; left = after }; flow = c.by_line-stop.result.flow } in
    let fetched = c.in-Some-fetched.ensures.come c.args.x.now in
    let come : P (Some c.in-Some.latest) reached = comes_together c.args.image.now c.args.memory.now c.args.stint.now g.Q.Port.gives g.Q.Port.core g.Q.Port.logged g.Q.Port.room here.left.accesses left.accesses left.accesses _ (moment_at stint c.args.x.now from line left port) _ fetched
    (comes_by_running c.args.image.now c.args.memory.now c.args.stint.now g.Q.Port.gives g.Q.Port.core g.Q.Port.logged g.Q.Port.room left.accesses
    (moment_at stint c.args.x.now from line left port) (moment_at stint x (c.args.first + 4 * stop.place) line after port) (left.cycles - stop.left) ran.ran refl
    (omega (arith, ran.left, c.requires.left, c.in-Some-fetched.ensures.left)) (omega (arith, ran.left, c.requires.left, c.in-Some-fetched.ensures.left)) refl (omega arith)) in
    subst (P here.line) (sym c.stopped-in-Some-fetched.ensures) (subst (λ line. P line reached) (sym c.in-Some.is) come)
