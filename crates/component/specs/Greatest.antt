-- The greatest sum of a component's step: what laws over its times are about.
use Rattle.std.specs.Prelude.{◌+◌, ℕ, max}
use Rattle.dram_rows.specs.declared.rows.Rows.{Rows}
use Rattle.component.specs.declared.kind.Kind.{Kind}
use Rattle.component.specs.declared.bank.Bank.{Bank}
use Rattle.component.specs.declared.controller.Controller.{Controller}
use Rattle.component.specs.declared.link.Link.{Link}
use Rattle.component.specs.declared.comp.Comp.{Comp}
use Rattle.component.specs.declared.comp.Comp.TheVariants.{Bank as ABank, Controller as AController, Link as ALink, Rows as ARows}
use Rattle.component.specs.ComponentStep.{served_at, bank_latency, controller_latency, link_latency, rows_step}

-- the greatest sum of a step of a bank
abbrev pub bank_greatest : Bank → Kind → (start : ℕ) → ℕ
bank_greatest b kind start =
    max (served_at start b.free + bank_latency b kind) (served_at start b.free + b.occupancy)

-- the same of a controller
abbrev pub controller_greatest : Controller → Kind → (start : ℕ) → ℕ
controller_greatest c kind start =
    max (served_at start c.free + controller_latency c kind) (served_at start c.free + c.occupancy)

-- the same of a link
abbrev pub link_greatest : Link → Kind → (start : ℕ) → ℕ
link_greatest l kind start = max (served_at start l.free + link_latency l kind) (served_at start l.free + l.occupancy)

-- the same of a controller that keeps rows open
abbrev pub rows_greatest : Rows → Kind → (start : ℕ) → ℕ
rows_greatest r kind start = max (rows_step r kind start).1 (rows_step r kind start).0.free

-- a component does what the bank, the controller, the link or the controller with open rows does that it is
abbrev pub comp_greatest : Comp → Kind → (start : ℕ) → ℕ
comp_greatest (ABank b) kind start = bank_greatest b kind start
comp_greatest (AController c) kind start = controller_greatest c kind start
comp_greatest (ALink l) kind start = link_greatest l kind start
comp_greatest (ARows r) kind start = rows_greatest r kind start
