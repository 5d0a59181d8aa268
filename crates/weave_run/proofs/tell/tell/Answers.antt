-- The crossing's domain is there, and may be told the finish.
use Rattle.std.proofs.Common.{rules, ◌<◌, length, arith}
use Rattle.weave_run.proofs.Tellings.{picked, target_there, told_at, told_then}
use Rattle.weave_run.proofs.tell.tell.Goals as goal

pub offset_bounds-domains-from : goal.offset_bounds-domains-from
offset_bounds-domains-from g c =
    let x = picked c.args.parts.now c.args.plan.now.parts.value c.crossings.result.now c.args.crossing (record { parent = 0; child = 0; source = 0; target = 0; delay = 0 }) c.requires.parts c.crossings.ensures c.requires.there in
    let there = target_there g.C.Component.serves g.C.Component.floor g.C.Component.stepped g.C.Component.greatest c.domains_keep_to_the_weave.ensures c.args.plan.now c.requires.can c.args.domains.now c.requires.kept c.args.crossing _ x in
    let is = c.from.ensures in
    let within : c.from.result < length c.args.domains.now = omega (arith, there, is) in
    search rules

pub bounds-domains-from : goal.bounds-domains-from
bounds-domains-from g c =
    let x = picked c.args.parts.now c.args.plan.now.parts.value c.crossings.result.now c.args.crossing (record { parent = 0; child = 0; source = 0; target = 0; delay = 0 }) c.requires.parts c.crossings.ensures c.requires.there in
    let there = target_there g.C.Component.serves g.C.Component.floor g.C.Component.stepped g.C.Component.greatest c.domains_keep_to_the_weave.ensures c.args.plan.now c.requires.can c.args.domains.now c.requires.kept c.args.crossing _ x in
    let is = c.from.ensures in
    omega (arith, there, is)

pub look-requires : goal.look-requires
look-requires g c =
    let x = picked c.args.parts.now c.args.plan.now.parts.value c.crossings.result.now c.args.crossing (record { parent = 0; child = 0; source = 0; target = 0; delay = 0 }) c.requires.parts c.crossings.ensures c.requires.there in
    told_at g.C.Component.serves g.C.Component.floor g.C.Component.stepped g.C.Component.greatest c.domains_keep_to_the_weave.ensures c.args.plan.now c.requires.can c.args.domains.now c.requires.kept c.args.crossing c.args.finish _ c.from.result
    c.index-domains-from.result x c.from.ensures (c.requires.finish _ x)

pub returns : goal.returns
returns g c =
    let x = picked c.args.parts.now c.args.plan.now.parts.value c.crossings.result.now c.args.crossing (record { parent = 0; child = 0; source = 0; target = 0; delay = 0 }) c.requires.parts c.crossings.ensures c.requires.there in
    record {
      told = told_then g.C.Component.serves g.C.Component.floor g.C.Component.stepped g.C.Component.greatest c.domains_keep_to_the_weave.ensures c.args.plan.now c.requires.can c.args.domains.now c.requires.kept c.args.crossing c.args.finish _ c.from.result
          c.index-domains-from.result c.look.new.self x c.from.ensures (c.requires.finish _ x) c.look.ensures;
    }
