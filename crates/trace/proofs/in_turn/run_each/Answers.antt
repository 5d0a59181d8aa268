use Rattle.std.proofs.Common.{◌≡◌, ◌<◌, ℕ, ◌++◌, List, All, length, sym, ◌∙◌, ap, subst, arith}
use Rattle.trace.specs.Trace.{Step}
use Rattle.trace.proofs.TurnsBegin.{all_most}
use Rattle.trace.proofs.TimelyTurns.{begin, timely_steps, turned}
use Rattle.trace.proofs.in_turn.run_each.Goals as goal

pub take_each-requires-clause-cores : goal.take_each-requires-clause-cores
take_each-requires-clause-cores g c = omega (arith, c.reserve_all.auto.cores, c.requires.count, c.requires.machine.cores.1)

pub take_each-requires-clause-begins : goal.take_each-requires-clause-begins
take_each-requires-clause-begins g c =
    let machine = c.args.machine.now in
    let did = c.in_ok-reserve_all.ensures in (
      all_most machine,
      begin machine c.args.program.now c.args.end c.args.net.now c.requires.net c.args.cores.now c.reserve_all.new.cores did.timed c.args.port.now
          c.requires.machine c.requires.end c.requires.ready did.spare (c.reserve_all.auto.cores ∙ c.requires.count) (did.numbered c.requires.numbered) c.requires.stamps c.requires.none c.requires.room,
    )

pub returns-clause-turned : goal.returns-clause-turned
returns-clause-turned g c =
    let machine = c.args.machine.now in
    let image = c.args.program.now in
    let end = c.args.end in
    let net = c.args.net.now in
    let cores = c.reserve_all.new.cores in
    let port = c.args.port.now in
    let reserved = c.in_ok-reserve_all.ensures in
    let did = c.in_ok-take_each.ensures in
    let first = begin machine image end net c.requires.net c.args.cores.now cores reserved.timed port
    c.requires.machine c.requires.end c.requires.ready reserved.spare (c.reserve_all.auto.cores ∙ c.requires.count) (reserved.numbered c.requires.numbered) c.requires.stamps c.requires.none c.requires.room
    in
    turned machine image end net c.requires.net c.args.cores.now cores reserved.timed port c.take_each.new.turns.items c.take_each.new.cores c.take_each.new.port
    (did.taken (all_most machine) first) did.legal did.over (did.count ∙ c.reserve_all.auto.cores)

pub returns-clause-told : goal.returns-clause-told
returns-clause-told g c =
    let before = g.T.Tracer.steps c.args.tracer.now in
    c.in_ok-take_each.ensures.told
    ∙ ap (λ (steps : List Step). before ++ steps)
    (timely_steps c.args.machine.now c.args.program.now c.args.end c.args.net.now c.requires.net c.args.cores.now c.reserve_all.new.cores c.in_ok-reserve_all.ensures.timed c.args.port.now c.take_each.new.turns.items)

pub take_each-requires-clause-lists : goal.take_each-requires-clause-lists
take_each-requires-clause-lists g c = c.requires.lists ∙ sym (c.reserve_all.auto.cores ∙ c.requires.count)

pub returns-clause-known : goal.returns-clause-known
returns-clause-known g c =
    let many : length c.reserve_all.new.cores ≡ c.args.machine.now.cores = c.reserve_all.auto.cores ∙ c.requires.count in
    subst (λ (n : ℕ). All (λ (number : ℕ). number < n) c.take_each.new.turns.items) many c.in_ok-take_each.ensures.known

pub returns-clause-many : goal.returns-clause-many
returns-clause-many g c = omega (arith, c.in_ok-take_each.ensures.many, ap length c.requires.none)
