use Rattle.std.proofs.Common.{◌<◌, ◌≤◌, ◌-◌, length, sym, subst, arith}
use Rattle.zs_num.specs.Servable.{IsServable}
use Rattle.bound_core.specs.ShardPort.{l1i_in}
use Rattle.parts_table.specs.Access.{opening_shards}
use Rattle.bound_workers.specs.Port.{TablePortState}
use Rattle.bound_workers.proofs.Asking.{may_ask}
use Rattle.bound_workers.proofs.Keeping.{still_at}
use Rattle.bound_workers.proofs.table_port.TablePortPort.access.Goals as goal

pub serve-entry-requires-clause-ask : goal.serve-entry-requires-clause-ask
serve-entry-requires-clause-ask g c =
    let p : TablePortState = record { table = c.self.inside.table.now; base = c.self.inside.base; size = c.self.inside.size; turn = c.self.inside.turn; kept = c.self.inside.record } in
    let room : 1 ≤ p.table.room - length p.turn.made = subst (λ (s : TablePortState). 1 ≤ s.table.room - length s.turn.made) (sym c.self.view_is) c.requires.room in
    let servable : IsServable p.base p.size (l1i_in (opening_shards p.table)) c.args.request =
    subst (λ (s : TablePortState). IsServable s.base s.size (l1i_in (opening_shards s.table)) c.args.request) (sym c.self.view_is) c.requires.servable in
    (omega (arith, room), may_ask p.table p.turn.core p.base p.size c.args.request c.self.invariant.shards c.self.invariant.core servable c.may_ask.ensures)

pub invariant_of-self : goal.invariant_of-self
invariant_of-self g c =
    let p : TablePortState = record { table = c.self.inside.table.now; base = c.self.inside.base; size = c.self.inside.size; turn = c.self.inside.turn; kept = c.self.inside.record } in
    let room : 1 ≤ p.table.room - length p.turn.made = subst (λ (s : TablePortState). 1 ≤ s.table.room - length s.turn.made) (sym c.self.view_is) c.requires.room in
    let less : length p.turn.made < p.table.room = omega (arith, room) in
    still_at p c.serve-entry.new.self c.args.start c.args.request c.serve-entry.result c.serve-entry.ensures.access c.self.invariant less _ c.keep.ensures.log c.keep.ensures.records c.keep.ensures.count
