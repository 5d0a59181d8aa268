-- What a look finds is true of the crossing's parent.
use Rattle.std.proofs.Common.{sym, ◌∙◌}
use Rattle.weave_run.proofs.Postings.{has_looked, has_looked_in_vain, may_tell_found}
use Rattle.weave_run.proofs.post.look_again.Goals as goal

pub look-requires : goal.look-requires
look-requires g c =
    may_tell_found g.C.Component.serves g.C.Component.floor g.C.Component.stepped g.C.Component.greatest c.domains_keep_to_the_weave.ensures c.args.plan.now c.requires.can c.args.crossings.now c.args.post.now c.requires.post c.args.crossing c.args.bound c.requires.blocked
    c.look-word.new.seat c.look-word.result c.look-word.ensures (sym c.says_more.ensures ∙ c.if-not-says_more.false)

pub returns-then-not-says_more : goal.returns-then-not-says_more
returns-then-not-says_more g c =
    has_looked_in_vain g.C.Component.serves g.C.Component.floor g.C.Component.stepped g.C.Component.greatest c.domains_keep_to_the_weave.ensures c.args.plan.now c.requires.can c.args.crossings.now c.args.post.now c.requires.post c.args.crossing c.args.bound c.requires.blocked
    c.look-word.new.seat c.look-word.result c.look-word.ensures (sym c.says_more.ensures ∙ c.if-not-says_more.true)

pub returns : goal.returns
returns g c =
    has_looked g.C.Component.serves g.C.Component.floor g.C.Component.stepped g.C.Component.greatest c.domains_keep_to_the_weave.ensures c.args.plan.now c.requires.can c.args.crossings.now c.args.post.now c.requires.post c.args.crossing c.args.bound c.requires.blocked
    c.look-word.new.seat c.look-word.result c.look-word.ensures c.look.new.self (sym c.says_more.ensures ∙ c.if-not-says_more.false) c.look.ensures
