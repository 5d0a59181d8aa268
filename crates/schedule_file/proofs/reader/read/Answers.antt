use Rattle.std.proofs.Common.{◌+◌, ◌-◌, ℕ, Ok, Result, ap, sym, rules, arith}
use Rattle.access_log.specs.Schedule.{ScheduleState}
use Rattle.schedule_file.specs.declared.bad_schedule.BadSchedule.{BadSchedule}
use Rattle.schedule_file.specs.ScheduleFile.{schedule_of}
use Rattle.schedule_file.proofs.Lists.{one_more, read_all, read_none, read_on}
use Rattle.schedule_file.proofs.reader.read.Goals as goal

pub loop-interval-init : goal.loop-interval-init
loop-interval-init c = record {
  lists = read_none c.args.cores c.args.bytes.now c.in_ok-count.count (c.in_ok-count.count - 0) c.new-schedule.result.lists (search rules) (omega arith);
  cores = search rules;
  count = search rules;
  within = search rules;
}

pub loop-interval-preserved : goal.loop-interval-preserved
loop-interval-preserved c =
    let so_far = c.loop-interval.invariant in
    let read = c.in_ok-turns.ensures in
    record {
      lists = read_on c.args.cores c.args.bytes.now _ c.loop-interval.schedule.lists c.push.new.self.lists (c.in_ok-count.count - c.loop-interval.interval)
          (c.in_ok-count.count - (c.loop-interval.interval + 1)) c.loop-interval.interval c.loop-interval.at _ c.in_ok-turns.turns.items so_far.lists (omega (arith, c.loop-interval-test.true)) (search rules) (search rules) (search rules);
      cores = search rules;
      count = one_more c.loop-interval.schedule.lists c.push.new.self.lists c.in_ok-turns.turns.items c.loop-interval.interval (search rules) so_far.count;
      within = search rules;
    }

pub returns-then-at-bytes : goal.returns-then-at-bytes
unfolding schedule_of
returns-then-at-bytes c =
    let so_far = c.loop-interval.invariant in
    let lists = c.loop-interval.schedule.lists in
    let all = read_all c.args.cores c.args.bytes.now _ lists _ c.loop-interval.interval c.loop-interval.at so_far.lists (omega (arith, c.loop-interval-test.false)) c.if-at-bytes.true in
    rw (← c.in_ok-count.ensures.value, all) (ap (λ (n : ℕ). let read : Result ScheduleState BadSchedule = Ok (record { cores = n; lists = lists }) in read) (sym so_far.cores))
