-- Banks, controllers and links with the same numbers are the same: what their types keep says nothing more.
use Rattle.std.proofs.Common.{◌≡◌, ◌∙◌, ◌+◌, ◌≤◌, ℕ, List, Option, max, ap, subst}
use Rattle.std.proofs.Math.Bridge.{le_prop}
use Rattle.dram_rows.specs.declared.numbers.RowNumbers.{RowNumbers}
use Rattle.dram_rows.specs.declared.rows.Rows.{Rows}
use Rattle.component.specs.declared.kind.Kind.{Kind}
use Rattle.component.specs.declared.bank.Bank.{Bank}
use Rattle.component.specs.declared.controller.Controller.{Controller}
use Rattle.component.specs.declared.link.Link.{Link}
use Rattle.component.specs.ComponentStep.{bank_step, bank_latency, controller_step, controller_latency, link_step, link_latency}

pub bank_with_free : (b : Bank) (kind : Kind) (start : ℕ) (p : 1 ≤ b.lookup) (q : 1 ≤ b.remote) (r : 1 ≤ b.fill)
    → (let made : Bank = record { lookup = b.lookup; remote = b.remote; fill = b.fill; occupancy = b.occupancy; free = max start b.free + b.occupancy; lookup_at_least_one = p; remote_at_least_one = q; fill_at_least_one = r } in (made, max start b.free + bank_latency b kind)) ≡ bank_step b kind start
bank_with_free b kind start p q r =
    cc (le_prop p b.lookup_at_least_one, le_prop q b.remote_at_least_one, le_prop r b.fill_at_least_one)

pub controller_with_free : (c : Controller) (kind : Kind) (start : ℕ) (p : 1 ≤ c.read) (q : 1 ≤ c.write)
    → (let made : Controller = record { read = c.read; write = c.write; occupancy = c.occupancy; free = max start c.free + c.occupancy; read_at_least_one = p; write_at_least_one = q } in (made, max start c.free + controller_latency c kind)) ≡ controller_step c kind start
controller_with_free c kind start p q =
    cc (le_prop p c.read_at_least_one, le_prop q c.write_at_least_one)

pub link_with_free : (l : Link) (kind : Kind) (start : ℕ) (p : 1 ≤ l.hop)
    → (let made : Link = record { hop = l.hop; occupancy = l.occupancy; free = max start l.free + l.occupancy; hop_at_least_one = p } in (made, max start l.free + link_latency l kind)) ≡ link_step l kind start
link_with_free l kind start p = cc (le_prop p l.hop_at_least_one)

pub same_bank : (a b : Bank) → a.lookup ≡ b.lookup → a.remote ≡ b.remote → a.fill ≡ b.fill → a.occupancy ≡ b.occupancy → a.free ≡ b.free → a ≡ b
same_bank a b lookup remote fill occupancy free =
    let made : (l r f o e : ℕ) → 1 ≤ l → 1 ≤ r → 1 ≤ f → Bank =
    λ l r f o e p q s. record { lookup = l; remote = r; fill = f; occupancy = o; free = e; lookup_at_least_one = p; remote_at_least_one = q; fill_at_least_one = s }
    in
    let own : (p : 1 ≤ a.lookup) (q : 1 ≤ a.remote) (s : 1 ≤ a.fill)
    → made a.lookup a.remote a.fill a.occupancy a.free a.lookup_at_least_one a.remote_at_least_one a.fill_at_least_one ≡ made a.lookup a.remote a.fill b.occupancy b.free p q s =
    λ p q s. cc (le_prop p a.lookup_at_least_one, le_prop q a.remote_at_least_one, le_prop s a.fill_at_least_one)
    in
    let with_fill : (p : 1 ≤ a.lookup) (q : 1 ≤ a.remote) (s : 1 ≤ b.fill) → a ≡ made a.lookup a.remote b.fill b.occupancy b.free p q s =
    subst (λ n. (p : 1 ≤ a.lookup) (q : 1 ≤ a.remote) (s : 1 ≤ n) → a ≡ made a.lookup a.remote n b.occupancy b.free p q s) fill own
    in
    let with_remote : (p : 1 ≤ a.lookup) (q : 1 ≤ b.remote) (s : 1 ≤ b.fill) → a ≡ made a.lookup b.remote b.fill b.occupancy b.free p q s =
    subst (λ n. (p : 1 ≤ a.lookup) (q : 1 ≤ n) (s : 1 ≤ b.fill) → a ≡ made a.lookup n b.fill b.occupancy b.free p q s) remote with_fill
    in
    subst (λ n. (p : 1 ≤ n) (q : 1 ≤ b.remote) (s : 1 ≤ b.fill) → a ≡ made n b.remote b.fill b.occupancy b.free p q s) lookup with_remote b.lookup_at_least_one b.remote_at_least_one b.fill_at_least_one

pub same_controller : (a b : Controller) → a.read ≡ b.read → a.write ≡ b.write → a.occupancy ≡ b.occupancy → a.free ≡ b.free → a ≡ b
same_controller a b read write occupancy free =
    let made : (r w o e : ℕ) → 1 ≤ r → 1 ≤ w → Controller =
    λ r w o e p q. record { read = r; write = w; occupancy = o; free = e; read_at_least_one = p; write_at_least_one = q }
    in
    let own : (p : 1 ≤ a.read) (q : 1 ≤ a.write) → made a.read a.write a.occupancy a.free a.read_at_least_one a.write_at_least_one ≡ made a.read a.write b.occupancy b.free p q =
    λ p q. cc (le_prop p a.read_at_least_one, le_prop q a.write_at_least_one)
    in
    let with_write : (p : 1 ≤ a.read) (q : 1 ≤ b.write) → a ≡ made a.read b.write b.occupancy b.free p q =
    subst (λ n. (p : 1 ≤ a.read) (q : 1 ≤ n) → a ≡ made a.read n b.occupancy b.free p q) write own
    in
    subst (λ n. (p : 1 ≤ n) (q : 1 ≤ b.write) → a ≡ made n b.write b.occupancy b.free p q) read with_write b.read_at_least_one b.write_at_least_one

pub same_link : (a b : Link) → a.hop ≡ b.hop → a.occupancy ≡ b.occupancy → a.free ≡ b.free → a ≡ b
same_link a b hop occupancy free =
    let made : (h o e : ℕ) → 1 ≤ h → Link = λ h o e p. record { hop = h; occupancy = o; free = e; hop_at_least_one = p } in
    let own : (p : 1 ≤ a.hop) → made a.hop a.occupancy a.free a.hop_at_least_one ≡ made a.hop b.occupancy b.free p = λ p. cc (le_prop p a.hop_at_least_one) in
    subst (λ n. (p : 1 ≤ n) → a ≡ made n b.occupancy b.free p) hop own b.hop_at_least_one

same_numbers : (a b : RowNumbers) → a.banks ≡ b.banks → a.hit ≡ b.hit → a.closed ≡ b.closed → a.conflict ≡ b.conflict → a.write ≡ b.write → a.occupancy ≡ b.occupancy → a ≡ b
same_numbers a b banks hit closed conflict write occupancy =
    let made : (n h c x w o : ℕ) → n ≤ 16 → 1 ≤ h → h ≤ c → c ≤ x → 1 ≤ w → RowNumbers =
    λ n h c x w o p q r s t. record { banks = n; hit = h; closed = c; conflict = x; write = w; occupancy = o; few_banks = p; hit_at_least_one = q; closed_at_least_hit = r; conflict_at_least_closed = s; write_at_least_one = t }
    in
    let own : (p : a.banks ≤ 16) (q : 1 ≤ a.hit) (r : a.hit ≤ a.closed) (s : a.closed ≤ a.conflict) (t : 1 ≤ a.write)
    → made a.banks a.hit a.closed a.conflict a.write a.occupancy a.few_banks a.hit_at_least_one a.closed_at_least_hit a.conflict_at_least_closed a.write_at_least_one
    ≡ made a.banks a.hit a.closed a.conflict a.write b.occupancy p q r s t =
    λ p q r s t. cc (occupancy, le_prop p a.few_banks, le_prop q a.hit_at_least_one, le_prop r a.closed_at_least_hit, le_prop s a.conflict_at_least_closed, le_prop t a.write_at_least_one)
    in
    let with_write : (p : a.banks ≤ 16) (q : 1 ≤ a.hit) (r : a.hit ≤ a.closed) (s : a.closed ≤ a.conflict) (t : 1 ≤ b.write)
    → a ≡ made a.banks a.hit a.closed a.conflict b.write b.occupancy p q r s t =
    subst (λ n. (p : a.banks ≤ 16) (q : 1 ≤ a.hit) (r : a.hit ≤ a.closed) (s : a.closed ≤ a.conflict) (t : 1 ≤ n) → a ≡ made a.banks a.hit a.closed a.conflict n b.occupancy p q r s t) write own
    in
    let with_conflict : (p : a.banks ≤ 16) (q : 1 ≤ a.hit) (r : a.hit ≤ a.closed) (s : a.closed ≤ b.conflict) (t : 1 ≤ b.write)
    → a ≡ made a.banks a.hit a.closed b.conflict b.write b.occupancy p q r s t =
    subst (λ n. (p : a.banks ≤ 16) (q : 1 ≤ a.hit) (r : a.hit ≤ a.closed) (s : a.closed ≤ n) (t : 1 ≤ b.write) → a ≡ made a.banks a.hit a.closed n b.write b.occupancy p q r s t) conflict with_write
    in
    let with_closed : (p : a.banks ≤ 16) (q : 1 ≤ a.hit) (r : a.hit ≤ b.closed) (s : b.closed ≤ b.conflict) (t : 1 ≤ b.write)
    → a ≡ made a.banks a.hit b.closed b.conflict b.write b.occupancy p q r s t =
    subst (λ n. (p : a.banks ≤ 16) (q : 1 ≤ a.hit) (r : a.hit ≤ n) (s : n ≤ b.conflict) (t : 1 ≤ b.write) → a ≡ made a.banks a.hit n b.conflict b.write b.occupancy p q r s t) closed with_conflict
    in
    let with_hit : (p : a.banks ≤ 16) (q : 1 ≤ b.hit) (r : b.hit ≤ b.closed) (s : b.closed ≤ b.conflict) (t : 1 ≤ b.write)
    → a ≡ made a.banks b.hit b.closed b.conflict b.write b.occupancy p q r s t =
    subst (λ n. (p : a.banks ≤ 16) (q : 1 ≤ n) (r : n ≤ b.closed) (s : b.closed ≤ b.conflict) (t : 1 ≤ b.write) → a ≡ made a.banks n b.closed b.conflict b.write b.occupancy p q r s t) hit with_closed
    in
    subst (λ n. (p : n ≤ 16) (q : 1 ≤ b.hit) (r : b.hit ≤ b.closed) (s : b.closed ≤ b.conflict) (t : 1 ≤ b.write) → a ≡ made n b.hit b.closed b.conflict b.write b.occupancy p q r s t) banks with_hit
    b.few_banks b.hit_at_least_one b.closed_at_least_hit b.conflict_at_least_closed b.write_at_least_one

pub same_rows : (a b : Rows) → a.numbers.banks ≡ b.numbers.banks → a.numbers.hit ≡ b.numbers.hit → a.numbers.closed ≡ b.numbers.closed → a.numbers.conflict ≡ b.numbers.conflict
    → a.numbers.write ≡ b.numbers.write → a.numbers.occupancy ≡ b.numbers.occupancy → a.free ≡ b.free → a.open_rows ≡ b.open_rows → a ≡ b
same_rows a b banks hit closed conflict write occupancy free open_rows =
    let made : RowNumbers → ℕ → List (Option ℕ) → Rows = λ n f o. record { numbers = n; free = f; open_rows = o } in
    ap (λ (n : RowNumbers). made n a.free a.open_rows) (same_numbers a.numbers b.numbers banks hit closed conflict write occupancy)
    ∙ (ap (λ (f : ℕ). made b.numbers f a.open_rows) free ∙ ap (made b.numbers b.free) open_rows)
