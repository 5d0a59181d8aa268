use Rattle.std.proofs.Common.{refl, sym, ◌∙◌, ap, subst, Some, rules}
use Rattle.std.specs.Prelude.{IsSome}
use Rattle.noc_mesh.specs.NetTiming.{net_time}
use Rattle.parts_table.specs.Access.{IsSeatOf, SeatState, TableState}
use Rattle.bound_records.specs.declared.record_port.CoreRecord.{CoreRecord}
use Rattle.bound_workers.specs.Kept.{entries_of_seat}
use Rattle.bound_workers.specs.declared.gated_port.GatedPort.{GatedPort}
use Rattle.bound_workers.specs.declared.member.Member.{Member}
use Rattle.bound_workers.proofs.Running.{at_rest, begins_at, ends_at, ran, rests, seat_still, stays_at}
use Rattle.bound_workers.proofs.member.run.Goals as goal

pub invariant_of-port : goal.invariant_of-port
invariant_of-port g c =
    let can = c.requires.can in
    begins_at c.args.table.now c.args.memory.now.base c.args.memory.now.size c.args.member c.begin-turn.result can.of_table can.core_is can.new can.kept can.shards can.known c.begin-turn.ensures.same c.begin-turn.ensures.made

pub end-seat-requires : goal.end-seat-requires
end-seat-requires g c =
    let P : Type 0 = GatedPort g.row.R.Denot g.row.W.Denot in
    let q : P = c.run_one.new.port in
    let at = ends_at q.port c.finish-turn.result.0 c.finish-turn.result.1 c.finish-turn.ensures.turn c.finish-turn.ensures.kept c.finish-turn.ensures.at in
    let stays = stays_at {Port = P} (λ p. p.port.table) (λ p. p.port.kept) (λ p. p.port.base) (λ p. p.port.size) _ (λ p. Some (entries_of_seat p.port.turn))
    (λ p r start request e given. record { request_is = given.0; start_is = given.1; stamp_is = given.2; table_stays = given.3; record_stays = given.4; base_stays = given.5; size_stays = given.6; servable = given.7 })
    (λ e. net_time c.args.net.now.path e) c.args.program.now c.args.end c.args.table.now _ _ q _ _ refl c.run_one.ensures.turns in
    record { table = subst (λ (t : TableState). IsSeatOf t c.finish-turn.result.0) stays at.of_table }

pub returns-clause-ran : goal.returns-clause-ran
returns-clause-ran g c =
    let P : Type 0 = GatedPort g.row.R.Denot g.row.W.Denot in
    let m : Member = c.args.member in
    let q : P = c.run_one.new.port in
    let seat : SeatState = c.finish-turn.result.0 in
    let kept : CoreRecord = c.finish-turn.result.1 in
    let ended = c.finish-turn.ensures in
    let at = ends_at q.port seat kept ended.turn ended.kept ended.at in
    let before : Member = record { core = m.core; seat = c.begin-turn.result; «record» = m.record } in
    let after : Member = record { core = c.run_one.new.self; seat = seat; «record» = kept } in
    at_rest (λ e. net_time c.args.net.now.path e) c.args.program.now c.args.end c.args.table.now before after m.seat c.end-seat.result.0 c.begin-turn.ensures.same c.end-seat.ensures.same c.end-seat.ensures.made
    (ran {Port = P} (λ p. p.port.table) (λ p. p.port.kept) (λ p. p.port.base) (λ p. p.port.size) _ (λ p. Some (entries_of_seat p.port.turn))
    (λ p r start request e given. record { request_is = given.0; start_is = given.1; stamp_is = given.2; table_stays = given.3; record_stays = given.4; base_stays = given.5; size_stays = given.6; servable = given.7 })
    (λ e. net_time c.args.net.now.path e) c.args.program.now c.args.end c.turns_are_the_cores_own.ensures c.args.table.now _ q before after refl (ap (λ (s : SeatState). Some (entries_of_seat s)) (sym ended.turn)) refl (sym ended.kept)
    (sym c.requires.can.base) (sym c.requires.can.size) (seat_still c.args.table.now m.seat c.begin-turn.result c.requires.can.of_table c.begin-turn.ensures.same) at.of_table at.is_kept refl
    (ap (λ (s : SeatState). s.core) ended.turn ∙ c.run_one.ensures.port_core) c.run_one.ensures.number (c.begin-turn.ensures.made ∙ c.requires.can.new) at.room c.requires.can.idle c.requires.can.unfetched c.run_one.ensures.over
    c.run_one.ensures.within c.run_one.ensures.turns)

pub returns-then-is_some-clause-ran : goal.returns-then-is_some-clause-ran
returns-then-is_some-clause-ran g c =
    let can = c.requires.can in
    let halted : IsSome c.args.member.core.timed.core.halted = search rules in
    rests (λ e. net_time c.args.net.now.path e) c.args.program.now c.args.end c.args.table.now c.args.member halted can.idle can.new can.kept
