-- Each kind of component by its numbers.
use Rattle.std.proofs.Common.{◌∙◌, ap, sym}
use Rattle.component.specs.declared.comp.Comp.TheVariants as variant
use Rattle.weave_chains.proofs.Copied.{same_bank, same_controller, same_link}
use Rattle.weave_chains.proofs.kept.CompKept.copy.Goals as goal

pub returns-in-Bank : goal.returns-in-Bank
returns-in-Bank c = ap variant.Bank (same_bank c.in-Bank.bank _ _ _) ∙ sym c.in-Bank.is

pub returns-in-Controller : goal.returns-in-Controller
returns-in-Controller c = ap variant.Controller (same_controller c.in-Controller.controller _ _) ∙ sym c.in-Controller.is

pub returns-in-Link : goal.returns-in-Link
returns-in-Link c = ap variant.Link (same_link c.in-Link.link _) ∙ sym c.in-Link.is
