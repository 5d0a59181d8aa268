-- The access is of the core whose turn it is.
use Rattle.std.proofs.Common.{◌≡◌, ◌≤◌, ◌+◌, List, length, subst, arith}
use Rattle.std.proofs.lemmas.List.{length-map}
use Rattle.zs_num.specs.declared.entry.Entry.{Entry}
use Rattle.bound_records.specs.Recorders.{TurnPortState}
use Rattle.bound_records.proofs.ByCore.{entries_by_log}
use Rattle.bound_records.proofs.KeptInTurns.{over_world, room_in, room_less}
use Rattle.bound_records.proofs.Turns.{as_many_banks, as_many_stamps}
use Rattle.bound_records.proofs.turn_port.TurnPortPort.access.Goals as goal

pub invariant_of-self : goal.invariant_of-self
invariant_of-self c =
    let port = c.self.inside.port in
    let stamps = as_many_stamps port.world c.access-entry.new.self.world port.core c.args.start c.args.request c.access-entry.result c.access-entry.ensures.gives in
    let shards = as_many_banks port.world c.access-entry.new.self.world port.core c.args.start c.args.request c.access-entry.result c.access-entry.ensures.gives in
    let known = c.self.invariant.1 in
    let same = c.access-entry.ensures.same_core in (
      over_world c.access-entry.new.self.world stamps shards c.self.invariant.0,
      omega (arith, known, same, stamps),
    )

pub returns-clause-room : goal.returns-clause-room
returns-clause-room c =
    let port = c.self.inside.port in
    let logs = c.self.inside.logs.items in
    let lists : List (List Entry) = entries_by_log logs in
    let p : TurnPortState = record { recorder = record { world = port.world; lists = lists; begin = c.self.inside.begin; base = c.self.inside.base; room = c.self.inside.room }; core = port.core } in
    let long : length lists ≡ length logs = length-map logs (λ log. log.entries) in
    let known = c.self.invariant.1 in
    let stamps = c.self.invariant.0.stamps in
    let after = c.access-entry.ensures in
    let less = room_less p c.access-entry.new.self.world c.access-entry.new.self.core c.access-entry.result c.put.new.self (omega (arith, known, stamps, long)) after.same_core after.room c.put.ensures in
    subst (λ (x : TurnPortState). room_in x ≤ room_in c.put.new.self + 1) c.self.view_is less
