-- Which events a component serves, and with which floors.
use Rattle.std.specs.Prelude.{ℕ, Bool, true, false, nat_lt}
use Rattle.dram_rows.specs.declared.rows.Rows.{Rows}
use Rattle.component.specs.declared.kind.Kind.{Kind}
use Rattle.component.specs.declared.kind.Kind.TheVariants.{Lookup, Remote, Fill, Read, Write, Hop, RowRead}
use Rattle.component.specs.declared.bank.Bank.{Bank}
use Rattle.component.specs.declared.controller.Controller.{Controller}
use Rattle.component.specs.declared.link.Link.{Link}
use Rattle.component.specs.declared.comp.Comp.{Comp}
use Rattle.component.specs.declared.comp.Comp.TheVariants.{Bank as ABank, Controller as AController, Link as ALink, Rows as ARows}
use Rattle.component.specs.ComponentStep.{bank_latency, controller_latency, link_latency}

-- what a bank serves
abbrev pub bank_serves : Bank → Kind → Bool
bank_serves b Lookup = true
bank_serves b Remote = true
bank_serves b Fill = true
bank_serves b Read = false
bank_serves b Write = false
bank_serves b Hop = false
bank_serves b (RowRead bank row) = false

-- the same of a controller
abbrev pub controller_serves : Controller → Kind → Bool
controller_serves c Lookup = false
controller_serves c Remote = false
controller_serves c Fill = false
controller_serves c Read = true
controller_serves c Write = true
controller_serves c Hop = false
controller_serves c (RowRead bank row) = false

-- the same of a link
abbrev pub link_serves : Link → Kind → Bool
link_serves l Lookup = false
link_serves l Remote = false
link_serves l Fill = false
link_serves l Read = false
link_serves l Write = false
link_serves l Hop = true
link_serves l (RowRead bank row) = false

-- the same of a controller that keeps rows open, whose floor of a read is the time where the row is open
abbrev pub rows_serves : Rows → Kind → Bool
rows_serves r Lookup = false
rows_serves r Remote = false
rows_serves r Fill = false
rows_serves r Read = false
rows_serves r Write = true
rows_serves r Hop = false
rows_serves r (RowRead bank row) = nat_lt bank r.numbers.banks

abbrev pub rows_latency : Rows → Kind → ℕ
rows_latency r Lookup = 0
rows_latency r Remote = 0
rows_latency r Fill = 0
rows_latency r Read = 0
rows_latency r Write = r.numbers.write
rows_latency r Hop = 0
rows_latency r (RowRead bank row) = r.numbers.hit

-- a component does what the bank, the controller, the link or the controller with open rows does that it is
abbrev pub comp_serves : Comp → Kind → Bool
comp_serves (ABank b) kind = bank_serves b kind
comp_serves (AController c) kind = controller_serves c kind
comp_serves (ALink l) kind = link_serves l kind
comp_serves (ARows r) kind = rows_serves r kind

abbrev pub comp_latency : Comp → Kind → ℕ
comp_latency (ABank b) kind = bank_latency b kind
comp_latency (AController c) kind = controller_latency c kind
comp_latency (ALink l) kind = link_latency l kind
comp_latency (ARows r) kind = rows_latency r kind
