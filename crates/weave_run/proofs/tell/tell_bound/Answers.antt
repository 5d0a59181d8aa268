-- The crossing's domain is there, and may be told the bound.
use Rattle.std.proofs.Common.{rules, ◌<◌, length, arith}
use Rattle.weave_run.proofs.Rounding.{learned_nothing}
use Rattle.weave_run.proofs.Tellings.{bound_told, leads_into, may_tell_bound, picked, target_there}
use Rattle.weave_run.proofs.tell.tell_bound.Goals as goal

pub offset_bounds-domains-target : goal.offset_bounds-domains-target
offset_bounds-domains-target g c =
    let x = picked c.args.parts.now c.args.plan.now.parts.value c.crossings.result.now c.args.crossing (record { parent = 0; child = 0; source = 0; target = 0; delay = 0 }) c.requires.parts c.crossings.ensures c.requires.there in
    let there = target_there g.C.Component.serves g.C.Component.floor g.C.Component.stepped g.C.Component.greatest c.domains_keep_to_the_weave.ensures c.args.plan.now c.requires.can c.args.domains.now c.requires.kept c.args.crossing _ x in
    let is = c.from-target.ensures in
    let within : c.from-target.result < length c.args.domains.now = omega (arith, there, is) in
    search rules

pub offset_bounds-domains-target-2 : goal.offset_bounds-domains-target-2
offset_bounds-domains-target-2 g c =
    let x = picked c.args.parts.now c.args.plan.now.parts.value c.crossings.result.now c.args.crossing (record { parent = 0; child = 0; source = 0; target = 0; delay = 0 }) c.requires.parts c.crossings.ensures c.requires.there in
    let there = target_there g.C.Component.serves g.C.Component.floor g.C.Component.stepped g.C.Component.greatest c.domains_keep_to_the_weave.ensures c.args.plan.now c.requires.can c.args.domains.now c.requires.kept c.args.crossing _ x in
    let is = c.from-target.ensures in
    let within : c.from-target.result < length c.args.domains.now = omega (arith, there, is) in
    search rules

pub bounds-domains-target-2 : goal.bounds-domains-target-2
bounds-domains-target-2 g c =
    let x = picked c.args.parts.now c.args.plan.now.parts.value c.crossings.result.now c.args.crossing (record { parent = 0; child = 0; source = 0; target = 0; delay = 0 }) c.requires.parts c.crossings.ensures c.requires.there in
    let there = target_there g.C.Component.serves g.C.Component.floor g.C.Component.stepped g.C.Component.greatest c.domains_keep_to_the_weave.ensures c.args.plan.now c.requires.can c.args.domains.now c.requires.kept c.args.crossing _ x in
    let is = c.from-target.ensures in
    omega (arith, there, is)

pub bounds-domains-target : goal.bounds-domains-target
bounds-domains-target g c =
    let x = picked c.args.parts.now c.args.plan.now.parts.value c.crossings.result.now c.args.crossing (record { parent = 0; child = 0; source = 0; target = 0; delay = 0 }) c.requires.parts c.crossings.ensures c.requires.there in
    let there = target_there g.C.Component.serves g.C.Component.floor g.C.Component.stepped g.C.Component.greatest c.domains_keep_to_the_weave.ensures c.args.plan.now c.requires.can c.args.domains.now c.requires.kept c.args.crossing _ x in
    let is = c.from-target.ensures in
    omega (arith, there, is)

pub word-requires : goal.word-requires
word-requires g c =
    let x = picked c.args.parts.now c.args.plan.now.parts.value c.crossings.result.now c.args.crossing (record { parent = 0; child = 0; source = 0; target = 0; delay = 0 }) c.requires.parts c.crossings.ensures c.requires.there in
    record { into = leads_into g.C.Component.serves g.C.Component.floor g.C.Component.stepped g.C.Component.greatest c.domains_keep_to_the_weave.ensures c.args.plan.now c.requires.can c.args.domains.now c.requires.kept c.args.crossing c.args.bound _ c.from-target.result c.index-domains-target.result x c.from-target.ensures }

pub returns-in_default : goal.returns-in_default
returns-in_default g c = learned_nothing g.C.Component.stepped c.args.plan.now c.args.domains.now c.requires.kept

pub returns-then-bound-before : goal.returns-then-bound-before
returns-then-bound-before g c = learned_nothing g.C.Component.stepped c.args.plan.now c.args.domains.now c.requires.kept

pub look-requires : goal.look-requires
look-requires g c =
    let x = picked c.args.parts.now c.args.plan.now.parts.value c.crossings.result.now c.args.crossing (record { parent = 0; child = 0; source = 0; target = 0; delay = 0 }) c.requires.parts c.crossings.ensures c.requires.there in
    may_tell_bound g.C.Component.serves g.C.Component.floor g.C.Component.stepped g.C.Component.greatest c.domains_keep_to_the_weave.ensures c.args.plan.now c.requires.can c.args.domains.now c.requires.kept c.args.crossing c.args.bound _ c.from-target.result c.index-domains-target-2.result x c.from-target.ensures
    (c.requires.bound _ x) c.in-Bound.before c.word.result c.index-domains-target.result c.word.ensures c.in-Bound.is (let l = c.if-bound-before.false in omega (arith, l))

pub returns : goal.returns
returns g c =
    let x = picked c.args.parts.now c.args.plan.now.parts.value c.crossings.result.now c.args.crossing (record { parent = 0; child = 0; source = 0; target = 0; delay = 0 }) c.requires.parts c.crossings.ensures c.requires.there in
    bound_told g.C.Component.serves g.C.Component.floor g.C.Component.stepped g.C.Component.greatest c.domains_keep_to_the_weave.ensures c.args.plan.now c.requires.can c.args.domains.now c.requires.kept c.args.crossing c.args.bound _ c.from-target.result c.index-domains-target-2.result x c.from-target.ensures
    (c.requires.bound _ x) c.in-Bound.before c.word.result c.index-domains-target.result c.word.ensures c.in-Bound.is (let l = c.if-bound-before.false in omega (arith, l)) c.look.new.self c.look.ensures
