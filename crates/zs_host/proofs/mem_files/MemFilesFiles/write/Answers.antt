use Rattle.std.proofs.Common.{◌∙◌, ℕ, List, Option, Some, ap}
use Rattle.zs_host.specs.declared.fault.Operation.TheVariants.{Write}
use Rattle.zs_host.specs.declared.fault.Fault.{Fault}
use Rattle.zs_host.proofs.mem_files.MemFilesFiles.write.Goals as goal

pub returns-then-next_fails-clause-faults : goal.returns-then-next_fails-clause-faults
returns-then-next_fails-clause-faults c =
    let copied = c.in_ok-copy.ensures ∙ c.as_bytes.ensures.value in
    let this : List ℕ → Option Fault = λ name. Some (record { operation = Write; name = name }) in
    rw c.fail.ensures.answer (c.fail.ensures.rose, c.fail.ensures.latest ∙ ap this copied)
