use Rattle.std.proofs.Common.{◌∙◌, arith}
use Rattle.crew.proofs.Stepping.{turns}
use Rattle.crew.proofs.bell.wait.Goals as goal

pub store-requires : goal.store-requires
store-requires g c =
    let place = c.args.place.now in
    (c.requires.table, (let b = c.bell.ensures.1 in let w = c.requires.words in omega arith), turns g.J.Job.can g.J.Job.done _ place.id c.bell.result 1 place.me c.bell.ensures.0)

pub store-requires-2 : goal.store-requires-2
store-requires-2 g c =
    let place = c.store.new.seat in
    (c.store.ensures.0 ∙ c.requires.table, (let b = c.bell-2.ensures.1 in let w = c.requires.words in omega arith), turns g.J.Job.can g.J.Job.done _ place.id c.bell-2.result 0 place.me c.bell-2.ensures.0)
