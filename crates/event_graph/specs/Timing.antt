-- How long a look-up takes, and which components an access comes to, however components are joined.
use Rattle.std.specs.Prelude.{◌+◌, ◌%◌, ℕ, Bool, if◌then◌else◌}
use Rattle.machine_desc.specs.declared.machine.L2.{L2}
use Rattle.machine_desc.specs.declared.machine.Controllers.{Controllers}
use Rattle.zs_num.specs.declared.entry.Entry.{Entry}
use Rattle.zs_num.specs.Request.{bank_of}

-- a look-up in the shared cache; others: another core has to change its copy
abbrev pub look_up_time : L2 → (others : Bool) → ℕ
look_up_time l2 others = (if others then l2.latency + l2.remote else l2.latency)

-- the bank that has the line of an access, and the bank's controller: bank b is component b, and controller m is
-- component banks + m
abbrev pub bank_component : L2 → Entry → ℕ
bank_component l2 e = bank_of l2.banks e.request

abbrev pub controller_component : L2 → Controllers → Entry → ℕ
controller_component l2 controllers e = l2.banks + bank_component l2 e % controllers.count
