-- The next event is told.
use Rattle.std.proofs.Common.{◌<◌, length, arith}
use Rattle.weave_run.specs.Rounds.{own_in}
use Rattle.weave_run.proofs.Tellings.{entry_below, entry_finish, next_done, whole_part}
use Rattle.weave_run.proofs.tell.tell_from.Goals as goal

pub tell_all-requires-clause-there : goal.tell_all-requires-clause-there
tell_all-requires-clause-there g c =
    let i = c.loop-next.invariant in
    let source : c.args.source < length c.loop-next.domains = (let s = c.requires.source in let l = c.loop-next.auto.domains in omega (arith, s, l)) in
    let within : c.loop-next.next < length (own_in c.args.domains.now c.args.source).fired = (let t = c.loop-next-test.true in let n = i.count in omega (arith, t, n)) in
    entry_below g.C.Component.serves g.C.Component.floor g.C.Component.stepped g.C.Component.greatest c.domains_keep_to_the_weave.ensures c.args.plan.now c.requires.can c.args.domains.now c.loop-next.domains i.so_far.kept i.so_far.learn c.args.source source
    c.from-in-loop-next.result c.from-in-loop-next.ensures c.index-domains-from-in-loop-next.result c.fired.result.now c.fired.ensures c.loop-next.next within (record { number = 0; start = 0; finish = 0 })

pub tell_all-requires-clause-finish : goal.tell_all-requires-clause-finish
tell_all-requires-clause-finish g c =
    let i = c.loop-next.invariant in
    let source : c.args.source < length c.loop-next.domains = (let s = c.requires.source in let l = c.loop-next.auto.domains in omega (arith, s, l)) in
    let within : c.loop-next.next < length (own_in c.args.domains.now c.args.source).fired = (let t = c.loop-next-test.true in let n = i.count in omega (arith, t, n)) in
    entry_finish g.C.Component.serves g.C.Component.floor g.C.Component.stepped g.C.Component.greatest c.domains_keep_to_the_weave.ensures c.args.plan.now c.requires.can c.args.domains.now c.loop-next.domains i.so_far.kept i.so_far.learn c.args.source source
    c.from-in-loop-next.result c.from-in-loop-next.ensures c.index-domains-from-in-loop-next.result c.fired.result.now c.fired.ensures c.loop-next.next within (record { number = 0; start = 0; finish = 0 })

pub loop-next-preserved : goal.loop-next-preserved
loop-next-preserved g c =
    let i = c.loop-next.invariant in
    let source : c.args.source < length c.loop-next.domains = (let s = c.requires.source in let l = c.loop-next.auto.domains in omega (arith, s, l)) in
    let within : c.loop-next.next < length (own_in c.args.domains.now c.args.source).fired = (let t = c.loop-next-test.true in let n = i.count in omega (arith, t, n)) in
    record {
      so_far = next_done g.C.Component.serves g.C.Component.floor g.C.Component.stepped g.C.Component.greatest c.domains_keep_to_the_weave.ensures c.args.plan.now c.requires.can c.args.domains.now c.loop-next.domains i.so_far.kept i.so_far.learn c.args.source
          source c.from-in-loop-next.result c.from-in-loop-next.ensures c.index-domains-from-in-loop-next.result c.fired.result.now c.fired.ensures c.loop-next.next within (record { number = 0; start = 0; finish = 0 }) c.args.place
          c.tell_all.new.domains i.so_far c.tell_all.ensures;
      count = i.count;
    }

pub returns : goal.returns
returns g c =
    let i = c.loop-next.invariant in
    whole_part g.C.Component.stepped c.args.plan.now c.args.domains.now c.loop-next.domains c.args.source c.args.place c.loop-next.next i.so_far
    (let t = c.loop-next-test.false in let n = i.count in omega (arith, t, n))
