use Rattle.std.proofs.Common.{◌<◌, List, length, ◌∙◌, arith}
use Rattle.dealing.specs.Laws.{AreChanged}
use Rattle.bound_phase.specs.Crew.{Crew}
use Rattle.bound_phase.specs.declared.member.Member.{Member}
use Rattle.bound_phase.specs.Shares.{mates}
use Rattle.bound_phase.proofs.Turns.{crew_can, members_count}
use Rattle.bound_phase.proofs.Whole.{changed_ran, have_as_many}
use Rattle.bound_phase.proofs.interval.run_crews.Goals as goal

pub work_all-requires-clause-can : goal.work_all-requires-clause-can
work_all-requires-clause-can g c = λ lifetimes inside i d within.
    crew_can c.args.machine.now c.args.end c.args.table.now c.args.cores.items c.args.seats.items c.requires.end c.requires.hired c.dealt_are_among_these.ensures c.hire.new.crews c.hire.ensures.dealt i d within

pub let_go-requires-clause-dealt : goal.let_go-requires-clause-dealt
let_go-requires-clause-dealt g c =
    let members : List Member = mates c.args.cores.items c.args.seats.items in
    let hired : List Crew = c.hire.new.crews in
    let after : List Crew = c.work_all.new.crews in
    let some : 0 < length hired = (let s = c.requires.crews.0 in let n = c.hire.ensures.count in omega (arith, s, n)) in
    let it : AreChanged Member (Unit {0}) 0 members hired after =
    c.changed_are_dealt.ensures 0 members hired after some c.hire.ensures.dealt
    (have_as_many (g.X.Expand.time c.args.expansion.now) (g.P.Program.image c.args.program.now) c.args.end c.args.table.now hired after c.work_all.ensures.count c.work_all.ensures.worked)
    in
    record {
      some = (let n = c.work_all.ensures.count in omega (arith, some, n));
      members = it.now;
      dealt = it.dealt;
      size = it.count ∙ members_count c.args.machine.now c.args.end c.args.table.now c.args.cores.items c.args.seats.items c.requires.end c.requires.hired;
    }

pub returns : goal.returns
returns g c =
    let members : List Member = mates c.args.cores.items c.args.seats.items in
    let hired : List Crew = c.hire.new.crews in
    let after : List Crew = c.work_all.new.crews in
    let some : 0 < length hired = (let s = c.requires.crews.0 in let n = c.hire.ensures.count in omega (arith, s, n)) in
    let it : AreChanged Member (Unit {0}) 0 members hired after =
    c.changed_are_dealt.ensures 0 members hired after some c.hire.ensures.dealt
    (have_as_many (g.X.Expand.time c.args.expansion.now) (g.P.Program.image c.args.program.now) c.args.end c.args.table.now hired after c.work_all.ensures.count c.work_all.ensures.worked)
    in
    let back = c.let_go.ensures it.now it.dealt (it.count ∙ members_count c.args.machine.now c.args.end c.args.table.now c.args.cores.items c.args.seats.items c.requires.end c.requires.hired) in
    record {
      now = it.now;
      ran = changed_ran (g.X.Expand.time c.args.expansion.now) (g.P.Program.image c.args.program.now) c.args.end c.args.table.now hired after c.work_all.ensures.count c.work_all.ensures.worked members it;
      cores_are = back.0;
      seats_are = back.1;
    }
