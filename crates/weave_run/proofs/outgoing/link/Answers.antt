-- One crossing more is linked.
use Rattle.std.proofs.Common.{◌<◌, length, get_or, ◌∙◌, arith, length-set}
use Rattle.std.proofs.lemmas.Option.{slice_get-get_or}
use Rattle.domain_map.specs.declared.crossing.Crossing.{Crossing}
use Rattle.weave_run.proofs.Links.{all_linked, one_linked}
use Rattle.weave_run.proofs.outgoing.link.Goals as goal

pub loop-number-preserved : goal.loop-number-preserved
loop-number-preserved c =
    let d : Crossing = record { parent = 0; child = 0; source = 0; target = 0; delay = 0 } in
    let i = c.loop-number.invariant in
    let below = c.loop-number-test.true in
    let there : (get_or c.args.crossings.now c.loop-number.number (record { parent = 0; child = 0; source = 0; target = 0; delay = 0 })).parent < length c.loop-number.last =
    (let a = c.requires.there c.loop-number.number (record { parent = 0; child = 0; source = 0; target = 0; delay = 0 }) below in let n = i.events in omega (arith, a, n))
    in
    record {
      events = length-set c.loop-number.last _ _ ∙ i.events;
      linked = one_linked c.args.crossings.now c.loop-number.number c.loop-number.last c.loop-number.before (get_or c.args.crossings.now c.loop-number.number (record { parent = 0; child = 0; source = 0; target = 0; delay = 0 })) i.linked
          (slice_get-get_or c.args.crossings.now c.loop-number.number (record { parent = 0; child = 0; source = 0; target = 0; delay = 0 }) below) below there;
    }

pub returns-clause-linked : goal.returns-clause-linked
returns-clause-linked c =
    let past = c.loop-number-test.false in
    let end = c.loop-number.auto.number-end in
    all_linked c.args.crossings.now c.loop-number.number c.loop-number.last c.loop-number.before c.loop-number.invariant.linked (omega (arith, past, end))
