-- A component with the same numbers is the same: what its type keeps says nothing more.
use Rattle.std.proofs.Common.{◌≡◌, ◌≤◌}
use Rattle.std.proofs.Math.Bridge.{le_prop}
use Rattle.component.specs.declared.bank.Bank.{Bank}
use Rattle.component.specs.declared.controller.Controller.{Controller}
use Rattle.component.specs.declared.link.Link.{Link}

abbrev pub bank_of : (b : Bank) → 1 ≤ b.lookup → 1 ≤ b.remote → 1 ≤ b.fill → Bank
bank_of b p q r = record { lookup = b.lookup; remote = b.remote; fill = b.fill; occupancy = b.occupancy; free = b.free; lookup_at_least_one = p; remote_at_least_one = q; fill_at_least_one = r }

pub same_bank : (b : Bank) (p : 1 ≤ b.lookup) (q : 1 ≤ b.remote) (r : 1 ≤ b.fill) → bank_of b p q r ≡ b
same_bank b p q r =
    let same : bank_of b p q r ≡ bank_of b b.lookup_at_least_one b.remote_at_least_one b.fill_at_least_one =
    cc (le_prop p b.lookup_at_least_one, le_prop q b.remote_at_least_one, le_prop r b.fill_at_least_one)
    in
    same

abbrev pub controller_of : (c : Controller) → 1 ≤ c.read → 1 ≤ c.write → Controller
controller_of c p q = record { read = c.read; write = c.write; occupancy = c.occupancy; free = c.free; read_at_least_one = p; write_at_least_one = q }

pub same_controller : (c : Controller) (p : 1 ≤ c.read) (q : 1 ≤ c.write) → controller_of c p q ≡ c
same_controller c p q =
    let same : controller_of c p q ≡ controller_of c c.read_at_least_one c.write_at_least_one = cc (le_prop p c.read_at_least_one, le_prop q c.write_at_least_one) in
    same

abbrev pub link_of : (l : Link) → 1 ≤ l.hop → Link
link_of l p = record { hop = l.hop; occupancy = l.occupancy; free = l.free; hop_at_least_one = p }

pub same_link : (l : Link) (p : 1 ≤ l.hop) → link_of l p ≡ l
same_link l p =
    let same : link_of l p ≡ link_of l l.hop_at_least_one = cc (le_prop p l.hop_at_least_one) in
    same
