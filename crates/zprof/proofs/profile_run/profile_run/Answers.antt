-- The schedule of the file was read, and the run under it looked at.
use Rattle.std.proofs.Common.{Some, inr, option_map, subst, sym}
use Rattle.zsim.specs.Seen.{files_seen, sink_seen}
use Rattle.zprof.specs.CommandValue.{profiling_value}
use Rattle.zprof.specs.Steps.{LooksAs}
use Rattle.zprof.proofs.Later.{order_stays, profiles_later}
use Rattle.zprof.proofs.profile_run.profile_run.Goals as goal

pub returns-in-Ok-clause-looks : goal.returns-in-Ok-clause-looks
returns-in-Ok-clause-looks g c =
    let files = g.F.Files in
    let sink = g.O.Sink in
    let start = c.args.files.now in
    let ordered = c.read_order.new.files in
    let end = c.profile_under.new.files in
    let both = files_seen files.is_seen files.contents files.faults files.latest start end in
    let out = sink_seen sink.is_seen sink.bytes sink.faults c.args.out.now c.profile_under.new.out in
    let machine = c.args.machine.now in
    let image = c.args.image.now in
    let command = profiling_value c.args.command.now in
    let schedule = c.read_order.new.schedule in
    let sched_file = c.read_order.new.sched_file in
    let order = order_stays files.is_seen files.contents files.faults files.latest start ordered end machine image (Some c.in-Some.name.now) schedule sched_file c.in-Ok.ensures.taken in
    let profiles = profiles_later files.is_seen files.contents files.faults files.latest start ordered end c.in-Ok.ensures.quiet c.profile_under.result machine image command schedule out
    c.profile_under.ensures.profiles in
    subst (λ o. LooksAs c.profile_under.result machine image command (option_map (λ n. n.now) o) schedule sched_file both out) (sym c.in-Some.is) (inr (order, profiles))
