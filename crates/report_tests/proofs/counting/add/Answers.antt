use Rattle.report_tests.proofs.counting.add.Goals as goal

pub add-requires-clause-took : goal.add-requires-clause-took
add-requires-clause-took c =
    let timely = c.args.woven.now.timely in
    record { count = timely.count; each = λ i e f at there. (timely.each i e f at there).time }
