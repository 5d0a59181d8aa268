-- The core at a place is that of the access there.
use Rattle.std.proofs.Common.{◌+◌, ◌≤◌, List, drop, length, ap, subst, arith}
use Rattle.std.proofs.lemmas.List.{length-map}
use Rattle.zs_num.specs.declared.entry.Entry.{Entry}
use Rattle.access_log.specs.RecordedOrder.{recorded_order}
use Rattle.access_record.specs.RecordedAccesses.{IsWalking}
use Rattle.access_record.specs.Turns.{taken_of}
use Rattle.access_record.proofs.Walk.{core_next, walked}
use Rattle.access_record.proofs.accesses.walk.Goals as goal

pub go_on-requires-clause-core : goal.go_on-requires-clause-core
go_on-requires-clause-core c =
    let n = core_next (recorded_order (taken_of c.args.turns c.args.logs.now)) c.args.cores.now c.loop-core.core-index (length c.args.logs.now) c.requires.cores c.requires.known c.loop-core-test.true in
    n.3

pub go_on-requires-clause-walking : goal.go_on-requires-clause-walking
go_on-requires-clause-walking c =
    let recorded : List Entry = recorded_order (taken_of c.args.turns c.args.logs.now) in
    let n = core_next recorded c.args.cores.now c.loop-core.core-index (length c.args.logs.now) c.requires.cores c.requires.known c.loop-core-test.true in
    (recorded, c.args.list.now.items, drop (c.loop-core.core-index + 1) recorded, n.0, n.2, subst (λ (xs : List Entry). IsWalking c.args.begin c.args.base recorded c.args.logs.now c.args.records.now c.args.list.now.items xs c.loop-core.met c.loop-core.taken c.loop-core.list.items) n.1 c.loop-core.invariant)

pub loop-core-preserved : goal.loop-core-preserved
loop-core-preserved c =
    let recorded : List Entry = recorded_order (taken_of c.args.turns c.args.logs.now) in
    let n = core_next recorded c.args.cores.now c.loop-core.core-index (length c.args.logs.now) c.requires.cores c.requires.known c.loop-core-test.true in
    c.in_ok-go_on.ensures recorded c.args.list.now.items (drop (c.loop-core.core-index + 1) recorded) n.0 n.2 (subst (λ (xs : List Entry). IsWalking c.args.begin c.args.base recorded c.args.logs.now c.args.records.now c.args.list.now.items xs c.loop-core.met c.loop-core.taken c.loop-core.list.items) n.1 c.loop-core.invariant)

pub returns : goal.returns
returns c =
    let recorded : List Entry = recorded_order (taken_of c.args.turns c.args.logs.now) in
    let past : length recorded ≤ c.loop-core.core-index = omega (arith, c.loop-core-test.false, ap length c.requires.cores, length-map recorded (λ (e : Entry). e.core)) in
    walked c.args.begin c.args.base recorded c.args.logs.now c.args.records.now c.args.list.now.items c.loop-core.core-index c.loop-core.met c.loop-core.taken c.loop-core.list.items past c.loop-core.invariant
