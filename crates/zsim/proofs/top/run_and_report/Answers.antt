-- The run came to its end; memory may have run out before the report.
use Rattle.std.proofs.Common.{ℕ, [], ◌∷◌, ◌++◌, ◌∙◌, ap, ap₂, inl, inr, refl, option_map}
use Rattle.schedule_file.specs.ScheduleFile.{schedule_file_of}
use Rattle.zsim.specs.Outputs.{named_if}
use Rattle.zsim.specs.Seen.{files_seen, sink_seen}
use Rattle.zsim.specs.Steps.{output_list}
use Rattle.reference.proofs.FirstIntervals.{nothing_run}
use Rattle.zsim.proofs.RecordedRun.{gives, gives_kept, gives_too_many}
use Rattle.zsim.proofs.RunsAs.{named_so, runs_as}
use Rattle.zsim.proofs.top.run_and_report.Goals as goal

-- the events are too long
pub returns-in_default-clause-run : goal.returns-in_default-clause-run
returns-in_default-clause-run g c =
    let made = c.in-Ok-run.ensures in
    let found = gives_too_many (λ n. n.now) c.args.machine.now c.args.image.now c.run.new.schedule c.in-Ok-run.results made.ok made.counted c.run.new.recording made.recorded
    (λ bytes. bytes.now) c.args.events_to c.bytes.result c.in_default.not-Some (c.run.ensures.on ∙ c.in-Ok.ensures.on) c.bytes.ensures.off (c.bytes.ensures.kept c.args.machine.now c.args.image.now c.run.new.schedule.lists made.recorded) in
    inr (inr (inl (
      refl,
      (c.in-Ok-run.results, found.0, found.1),
      record {
        quiet = record { no_fault = record { faults = refl; latest = refl }; names = λ _ _. refl };
        no_put = refl;
        nothing = λ _. refl;
      },
    )))

pub returns-in-Err-schedule_bytes-clause-run : goal.returns-in-Err-schedule_bytes-clause-run
returns-in-Err-schedule_bytes-clause-run g c =
    let made = c.in-Ok-run.ensures in
    inr (inl (
      refl,
      (c.in-Ok-run.results, gives (λ (n : ℕ). n ∷ []) c.args.machine.now c.args.image.now c.run.new.schedule c.in-Ok-run.results made.ok made.counted c.run.new.recording made.recorded),
      record {
        quiet = record { no_fault = record { faults = refl; latest = refl }; names = λ _ _. refl };
        no_put = refl;
        nothing = λ _. refl;
      },
    ))

pub returns-clause-run : goal.returns-clause-run
returns-clause-run g c =
    let files = g.F.Files in
    let sink = g.O.Sink in
    let made = c.in-Ok-run.ensures in
    let record_to = option_map (λ n. n.now) c.args.record_to in
    let events_to = option_map (λ n. n.now) c.args.events_to in
    let kept = gives_kept (λ n. n.now) c.args.machine.now c.args.image.now c.run.new.schedule c.in-Ok-run.results made.ok made.counted c.run.new.recording made.recorded
    (λ bytes. bytes.now) c.args.events_to c.bytes.result c.in-Some.events c.in-Some.is (c.run.ensures.on ∙ c.in-Ok.ensures.on) (c.bytes.ensures.kept c.args.machine.now c.args.image.now c.run.new.schedule.lists made.recorded) in
    let schedule_is =
    c.output_if-record.ensures ∙ ap (named_if record_to) c.as_slice.ensures
    ∙ named_so (λ n. n.now) c.args.record_to c.in-Ok-schedule_bytes.bytes (schedule_file_of c.run.new.schedule) c.in-Ok-schedule_bytes.ensures
    in
    runs_as c.args.machine.now c.args.image.now c.args.brief record_to events_to c.run.new.schedule c.in-Ok-run.results c.finish_run.result
    (output_list c.output_if-record.result ++ output_list c.output_if-events.result)
    (files_seen files.is_seen files.contents files.faults files.latest c.args.files.now c.finish_run.new.files)
    (sink_seen sink.is_seen sink.bytes sink.faults c.args.out.now c.finish_run.new.out)
    kept.0 kept.1 (ap₂ (λ xs ys. xs ++ ys) schedule_is (c.output_if-events.ensures ∙ kept.2)) c.finish_run.ensures

pub returns-clause-untouched : goal.returns-clause-untouched
returns-clause-untouched g c =
    let made = c.in-Ok-run.ensures in
    inr (c.in-Ok-run.results, gives (λ (n : ℕ). n ∷ []) c.args.machine.now c.args.image.now c.run.new.schedule c.in-Ok-run.results made.ok made.counted c.run.new.recording made.recorded)

-- there was no room for a recording, and nothing was run
pub returns-in-Err-clause-in_order : goal.returns-in-Err-clause-in_order
returns-in-Err-clause-in_order g c =
    let machine = c.args.machine.now in
    let there = c.fresh_components_are_there.ensures machine c.requires.machine in
    nothing_run machine c.args.image.now c.args.schedule.now.lists c.requires.empty there.0 there.1
