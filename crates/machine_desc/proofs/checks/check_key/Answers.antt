use Rattle.std.proofs.Common.{Err, sym, ap}
use Rattle.machine_desc.specs.Description.{check_refusal}
use Rattle.machine_desc.specs.declared.errors.BadMachine.TheVariants.{Missing}
use Rattle.machine_desc.proofs.checks.check_key.Goals as goal

pub returns-in_ok-key-in-None : goal.returns-in_ok-key-in-None
unfolding check_refusal
returns-in_ok-key-in-None c = rw (← c.in-None.ensures) (ap (λ key. Err (Missing key)) (sym c.in_ok-key-in-None.ensures))
