use Rattle.machine_desc.proofs.Accepted.{domains_short}
use Rattle.machine_desc.proofs.Valid.{refusal_none}
use Rattle.machine_desc.proofs.reader.check_document.Goals as goal

pub check_domains-requires : goal.check_domains-requires
check_domains-requires c = domains_short _ (rw c.in_ok-checks.ensures at (rw c.deref.ensures.value at (refusal_none _ _ c.in_ok-check_keys.ensures)))
