-- How a component serves events: one after the other, each not before its start.
use Rattle.std.specs.Prelude.{◌+◌, ℕ, max}
use Rattle.dram_rows.specs.declared.rows.Rows.{Rows}
use Rattle.dram_rows.specs.OpenRows.{read_step, write_step}
use Rattle.component.specs.declared.kind.Kind.{Kind}
use Rattle.component.specs.declared.kind.Kind.TheVariants.{Lookup, Remote, Fill, Read, Write, Hop, RowRead}
use Rattle.component.specs.declared.bank.Bank.{Bank}
use Rattle.component.specs.declared.controller.Controller.{Controller}
use Rattle.component.specs.declared.link.Link.{Link}
use Rattle.component.specs.declared.comp.Comp.{Comp}
use Rattle.component.specs.declared.comp.Comp.TheVariants.{Bank as ABank, Controller as AController, Link as ALink, Rows as ARows}

-- the cycle at which an event is served: not before its start, and not before its component is free
abbrev pub served_at : (start free : ℕ) → ℕ
served_at start free = max start free

-- the time from the service of an event to its finish, and 0 for what a bank does not serve
abbrev pub bank_latency : Bank → Kind → ℕ
bank_latency b Lookup = b.lookup
bank_latency b Remote = b.remote
bank_latency b Fill = b.fill
bank_latency b Read = 0
bank_latency b Write = 0
bank_latency b Hop = 0
bank_latency b (RowRead bank row) = 0

-- the bank after an event, and the event's finish
abbrev pub bank_step : Bank → Kind → (start : ℕ) → Bank × ℕ
bank_step b kind start =
    (record b { free = served_at start b.free + b.occupancy }, served_at start b.free + bank_latency b kind)

-- the same of a controller
abbrev pub controller_latency : Controller → Kind → ℕ
controller_latency c Lookup = 0
controller_latency c Remote = 0
controller_latency c Fill = 0
controller_latency c Read = c.read
controller_latency c Write = c.write
controller_latency c Hop = 0
controller_latency c (RowRead bank row) = 0

abbrev pub controller_step : Controller → Kind → (start : ℕ) → Controller × ℕ
controller_step c kind start =
    (record c { free = served_at start c.free + c.occupancy }, served_at start c.free + controller_latency c kind)

-- the same of a link
abbrev pub link_latency : Link → Kind → ℕ
link_latency l Lookup = 0
link_latency l Remote = 0
link_latency l Fill = 0
link_latency l Read = 0
link_latency l Write = 0
link_latency l Hop = l.hop
link_latency l (RowRead bank row) = 0

abbrev pub link_step : Link → Kind → (start : ℕ) → Link × ℕ
link_step l kind start =
    (record l { free = served_at start l.free + l.occupancy }, served_at start l.free + link_latency l kind)

-- the same of a controller that keeps rows open, of which every other kind is taken for a write
abbrev pub rows_step : Rows → Kind → (start : ℕ) → Rows × ℕ
rows_step r Lookup start = write_step r start
rows_step r Remote start = write_step r start
rows_step r Fill start = write_step r start
rows_step r Read start = write_step r start
rows_step r Write start = write_step r start
rows_step r Hop start = write_step r start
rows_step r (RowRead bank row) start = read_step r bank row start

-- a component does what the bank, the controller, the link or the controller with open rows does that it is
abbrev pub comp_step : Comp → Kind → (start : ℕ) → Comp × ℕ
comp_step (ABank b) kind start = (ABank (bank_step b kind start).0, (bank_step b kind start).1)
comp_step (AController c) kind start = (AController (controller_step c kind start).0, (controller_step c kind start).1)
comp_step (ALink l) kind start = (ALink (link_step l kind start).0, (link_step l kind start).1)
comp_step (ARows r) kind start = (ARows (rows_step r kind start).0, (rows_step r kind start).1)

-- the cycle from which on a component can serve the next event
abbrev pub free_of : Comp → ℕ
free_of (ABank b) = b.free
free_of (AController c) = c.free
free_of (ALink l) = l.free
free_of (ARows r) = r.free
