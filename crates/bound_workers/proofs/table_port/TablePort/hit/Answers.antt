use Rattle.std.proofs.Common.{◌<◌, ◌≤◌, ◌-◌, length, sym, subst, arith}
use Rattle.zs_num.specs.Servable.{IsServable}
use Rattle.bound_core.specs.ShardPort.{l1i_in}
use Rattle.parts_table.specs.Access.{opening_shards}
use Rattle.bound_workers.specs.Port.{TablePortState}
use Rattle.bound_workers.proofs.Asking.{may_ask}
use Rattle.bound_workers.proofs.Keeping.{ask_at, still_at}
use Rattle.bound_workers.proofs.table_port.TablePort.hit.Goals as goal

pub serve_alone-requires-clause-ask : goal.serve_alone-requires-clause-ask
serve_alone-requires-clause-ask g c =
    let p : TablePortState = record { table = c.self.inside.table.now; base = c.self.inside.base; size = c.self.inside.size; turn = c.self.inside.turn; kept = c.self.inside.record } in
    let servable : IsServable p.base p.size (l1i_in (opening_shards p.table)) c.args.request =
    subst (λ (s : TablePortState). IsServable s.base s.size (l1i_in (opening_shards s.table)) c.args.request) (sym c.self.view_is) c.requires.servable in
    ask_at p.table p.turn c.args.request c.self.invariant.of_table (may_ask p.table p.turn.core p.base p.size c.args.request c.self.invariant.shards c.self.invariant.core servable c.may_ask.ensures)

pub invariant_of-self-2 : goal.invariant_of-self-2
invariant_of-self-2 g c =
    let p : TablePortState = record { table = c.self.inside.table.now; base = c.self.inside.base; size = c.self.inside.size; turn = c.self.inside.turn; kept = c.self.inside.record } in
    let room : 1 ≤ p.table.room - length p.turn.made = subst (λ (s : TablePortState). 1 ≤ s.table.room - length s.turn.made) (sym c.self.view_is) c.requires.room in
    let less : length p.turn.made < p.table.room = omega (arith, room) in
    still_at p c.serve_alone.new.self c.args.start c.args.request c.in_ok-entry.entry c.in_ok-entry.ensures.access c.self.invariant less _ c.keep.ensures.log c.keep.ensures.records c.keep.ensures.count
