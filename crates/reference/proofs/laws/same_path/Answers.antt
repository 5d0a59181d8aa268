use Rattle.std.proofs.Common.{refl}
use Rattle.reference.proofs.SamePath.{no_faster, same_path}
use Rattle.reference.proofs.laws.same_path.Goals as goal

pub returns : goal.returns
returns c = record { path = same_path; clocks = no_faster; times = λ path e. refl }
