-- The bound that the domain gives is at most the finish.
use Rattle.std.proofs.Common.{◌<◌, length, get_or, arith}
use Rattle.std.proofs.lemmas.Option.{slice_get-get_or}
use Rattle.weave_run.proofs.Raises.{may_raise, raised_nothing, raised_one, small_raise, sound_raise}
use Rattle.weave_run.proofs.raise.raise_at.Goals as goal

pub returns-then-index-outgoing : goal.returns-then-index-outgoing
returns-then-index-outgoing g c = raised_nothing g.C.Component.stepped c.args.plan.now c.args.crossings.now c.args.post.now c.requires.post

pub returns-in_default : goal.returns-in_default
returns-in_default g c = raised_nothing g.C.Component.stepped c.args.plan.now c.args.crossings.now c.args.post.now c.requires.post

pub bound-requires : goal.bound-requires
bound-requires g c =
    let below : c.args.index < length c.outgoing-outgoing.result.now = (let l = c.if-index-outgoing.false in omega (arith, l)) in
    record { out = c.outgoing-outgoing.ensures.each c.args.index (get_or c.outgoing-outgoing.result.now c.args.index 0) (slice_get-get_or c.outgoing-outgoing.result.now c.args.index 0 below) }

pub raise-requires-clause-crossings : goal.raise-requires-clause-crossings
raise-requires-clause-crossings g c = c.requires.post.seated.seat.crossings_are

pub raise-requires-clause-wide : goal.raise-requires-clause-wide
raise-requires-clause-wide g c = c.requires.post.seated.seat.wide

pub raise-requires-clause-may : goal.raise-requires-clause-may
raise-requires-clause-may g c =
    let below : c.args.index < length c.outgoing-outgoing.result.now = (let l = c.if-index-outgoing.false in omega (arith, l)) in
    may_raise g.C.Component.serves g.C.Component.floor g.C.Component.stepped g.C.Component.greatest c.domains_keep_to_the_weave.ensures c.args.plan.now c.requires.can c.args.crossings.now c.args.post.now c.requires.post (get_or c.outgoing-outgoing.result.now c.args.index 0) c.in-Some.bound
    (c.outgoing-outgoing.ensures.each c.args.index (get_or c.outgoing-outgoing.result.now c.args.index 0) (slice_get-get_or c.outgoing-outgoing.result.now c.args.index 0 below)) c.in-Some.ensures

pub raise-requires-clause-sound : goal.raise-requires-clause-sound
raise-requires-clause-sound g c =
    let below : c.args.index < length c.outgoing-outgoing.result.now = (let l = c.if-index-outgoing.false in omega (arith, l)) in
    sound_raise g.C.Component.serves g.C.Component.floor g.C.Component.stepped g.C.Component.greatest c.domains_keep_to_the_weave.ensures c.args.plan.now c.requires.can c.args.crossings.now c.args.post.now c.requires.post (get_or c.outgoing-outgoing.result.now c.args.index 0) c.in-Some.bound
    (c.outgoing-outgoing.ensures.each c.args.index (get_or c.outgoing-outgoing.result.now c.args.index 0) (slice_get-get_or c.outgoing-outgoing.result.now c.args.index 0 below)) c.in-Some.ensures

pub raise-requires-clause-small : goal.raise-requires-clause-small
raise-requires-clause-small g c =
    let below : c.args.index < length c.outgoing-outgoing.result.now = (let l = c.if-index-outgoing.false in omega (arith, l)) in
    small_raise g.C.Component.serves g.C.Component.floor g.C.Component.stepped g.C.Component.greatest c.domains_keep_to_the_weave.ensures c.args.plan.now c.requires.can c.args.crossings.now c.args.post.now c.requires.post (get_or c.outgoing-outgoing.result.now c.args.index 0) c.in-Some.bound
    (c.outgoing-outgoing.ensures.each c.args.index (get_or c.outgoing-outgoing.result.now c.args.index 0) (slice_get-get_or c.outgoing-outgoing.result.now c.args.index 0 below)) c.in-Some.ensures

pub returns : goal.returns
returns g c =
    let below : c.args.index < length c.outgoing-outgoing.result.now = (let l = c.if-index-outgoing.false in omega (arith, l)) in
    raised_one g.C.Component.serves g.C.Component.floor g.C.Component.stepped g.C.Component.greatest c.domains_keep_to_the_weave.ensures c.args.plan.now c.requires.can c.args.crossings.now c.args.post.now c.requires.post (get_or c.outgoing-outgoing.result.now c.args.index 0) c.in-Some.bound
    (c.outgoing-outgoing.ensures.each c.args.index (get_or c.outgoing-outgoing.result.now c.args.index 0) (slice_get-get_or c.outgoing-outgoing.result.now c.args.index 0 below)) c.in-Some.ensures c.raise.new.seat c.raise.ensures
