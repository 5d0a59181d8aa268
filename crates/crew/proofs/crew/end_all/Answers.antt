use Rattle.crew.proofs.Seated.{all_free}
use Rattle.crew.proofs.crew.end_all.Goals as goal

pub loop-number-init : goal.loop-number-init
loop-number-init g c = all_free c.args.posts.now c.args.askers.now c.requires
