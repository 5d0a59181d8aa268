use Rattle.std.proofs.Common.{◌/◌, ℕ, ap}
use Rattle.zs_num.proofs.request.Request.line.Goals as goal

pub returns : goal.returns
returns c = ap (λ (addr : ℕ). addr / 64) c.addr.ensures
