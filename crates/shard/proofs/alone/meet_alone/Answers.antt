use Rattle.shard.specs.Seen.{no_home}
use Rattle.shard.proofs.ServedAlone.{after_alone, hit_alone, reply_alone}
use Rattle.shard.proofs.alone.meet_alone.Goals as goal

pub returns-clause-after : goal.returns-clause-after
returns-clause-after g c =
    let served = c.serve_near_at.ensures in
    after_alone c.args._home.now no_home c.args.l1s.now c.serve_near_at.new.l1s c.args.core c.args.request c.serve_near_at.result served.private served.after

pub returns-clause-reply : goal.returns-clause-reply
returns-clause-reply g c =
    let served = c.serve_near_at.ensures in
    reply_alone c.args._home.now c.args.l1s.now c.args.core c.args.request c.serve_near_at.result served.private served.reply

pub returns-clause-outcome : goal.returns-clause-outcome
returns-clause-outcome g c =
    hit_alone c.args._home.now c.args.l1s.now c.args.core c.args.request c.requires.parts c.requires.asked c.serve_near_at.result c.serve_near_at.ensures.private
