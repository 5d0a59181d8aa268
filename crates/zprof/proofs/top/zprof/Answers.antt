-- The words were a command, or none, or memory ran out before that was known.
use Rattle.std.proofs.Common.{◌∙◌, IfSome, Option, ap, map, option_map, refl, string_bytes, sym}
use Rattle.zsim.specs.declared.ended.Kept.{Kept}
use Rattle.zsim.specs.declared.ended.Status.{Status}
use Rattle.zsim.specs.declared.ended.Status.TheVariants as status
use Rattle.zsim.specs.Ended.{KeepsNothing}
use Rattle.zsim.specs.Seen.{files_seen, sink_seen}
use Rattle.zprof.specs.declared.command_line.Profiling.{Profiling as ProfilingInCode}
use Rattle.zprof.specs.CommandLine.{command_of}
use Rattle.zprof.specs.CommandValue.{profiling_value}
use Rattle.zprof.specs.Ended.{EndsAs}
use Rattle.zprof.proofs.Begun.{not_begun, of_command, of_none, put_in}
use Rattle.zprof.proofs.top.zprof.Goals.{in-Ok-Some, in-Ok-None, in-Err}
use Rattle.zprof.proofs.top.zprof.Goals as goal

pub returns-clause-ended : goal.returns-clause-ended
returns-clause-ended g c =
    let files = g.F.Files in
    let sink = g.O.Sink in
    let words = command_of (map string_bytes c.args.words.now) in
    elim c.match-command_of.branch [
      | in-Ok-Some w ↦
          let value = profiling_value w.in-Ok-Some.command in
          let is = sym w.in-Ok-Some.ensures ∙ ap (λ (o : Option ProfilingInCode). option_map profiling_value o) w.in-Ok-Some.field-0-is in
          put_in (λ (s : Status) (k : Kept) f o. IfSome words (λ command. EndsAs s command k (files_seen files.is_seen files.contents files.faults files.latest c.args.files.now f) (sink_seen sink.is_seen sink.bytes sink.faults c.args.out.now o)))
          c.match-command_of.status w.carry_out-status.result c.match-command_of.kept w.carry_out-status.new.kept c.match-command_of.files w.carry_out-status.new.files c.match-command_of.out w.carry_out-status.new.out
          w.status-is w.kept-is w.files-is w.out-is
          (of_command (λ command. EndsAs w.carry_out-status.result command w.carry_out-status.new.kept (files_seen files.is_seen files.contents files.faults files.latest c.args.files.now w.carry_out-status.new.files) (sink_seen sink.is_seen sink.bytes sink.faults c.args.out.now w.carry_out-status.new.out))
          words value is w.carry_out-status.ensures.ended)
      | in-Ok-None w ↦
          let is = sym w.in-Ok-None.ensures ∙ ap (λ (o : Option ProfilingInCode). option_map profiling_value o) w.in-Ok-None.field-0-is in
          of_none (λ command. EndsAs c.match-command_of.status command c.match-command_of.kept (files_seen files.is_seen files.contents files.faults files.latest c.args.files.now c.match-command_of.files) (sink_seen sink.is_seen sink.bytes sink.faults c.args.out.now c.match-command_of.out))
          words is
      | in-Err w ↦
          let kept : Kept = record { machine = c.of.result; exe = c.of-2.result; sched_file = c.of-3.result; schedule = c.new-4.result; events = c.of-4.result } in
          let keeps : KeepsNothing kept = record {
            machine = c.of.ensures ∙ c.new.ensures.items;
            exe = c.of-2.ensures ∙ c.new-2.ensures.items;
            sched_file = c.of-3.ensures ∙ c.new-3.ensures.items;
            schedule = c.new-4.ensures;
            events = c.of-4.ensures ∙ c.new-5.ensures.items;
          } in
          put_in (λ (s : Status) (k : Kept) f o. IfSome words (λ command. EndsAs s command k (files_seen files.is_seen files.contents files.faults files.latest c.args.files.now f) (sink_seen sink.is_seen sink.bytes sink.faults c.args.out.now o)))
          c.match-command_of.status status.NoMemory c.match-command_of.kept kept c.match-command_of.files c.args.files.now c.match-command_of.out c.args.out.now
          w.status-is w.kept-is w.files-is w.out-is
          (not_begun words kept (files_seen files.is_seen files.contents files.faults files.latest c.args.files.now c.args.files.now) (sink_seen sink.is_seen sink.bytes sink.faults c.args.out.now c.args.out.now)
          keeps (record { no_fault = record { faults = refl; latest = refl }; names = λ _ _. refl }) (record { no_put = refl; nothing = λ _. refl }))
    ]
