use Rattle.std.proofs.Common.{refl, Some}
use Rattle.bound_phase.specs.declared.seat_port.SeatPort.{SeatPort}
use Rattle.bound_phase.proofs.Running.{ran}
use Rattle.bound_phase.proofs.member.run.Goals as goal

pub returns : goal.returns
returns g c =
    let P : Type 0 = SeatPort g.row.R.Denot g.row.G.Denot in
    ran {Port = P} _ (λ p. Some p.seat.entries) (λ p. p.table.now) (λ p q start request e given. (given.0, given.1)) (λ p q start request e given. given.2)
    (g.X.Expand.time c.args.expansion.now) (g.P.Program.image c.args.program.now) c.args.end c.turns_are_the_cores_own.ensures c.args.table.now _ c.run_one.new.port c.args.member.seat c.run_one.new.port.seat
    c.args.member.core c.run_one.new.self refl refl c.requires.of_table c.run_one.new.port.of_table refl c.run_one.ensures.port_core c.run_one.ensures.number c.requires.new c.run_one.new.port.room c.requires.idle c.requires.unfetched c.run_one.ensures.over c.run_one.ensures.within c.run_one.ensures.turns
