-- One job fewer each time.
use Rattle.std.proofs.Common.{vec_len}
use Rattle.crew.proofs.share.+share_out.Given as goal

abbrev pub decreases-share_out : goal.decreases-share_out
decreases-share_out g l = vec_len l.jobs.now
