use Rattle.std.proofs.Common.{◌∙◌, ◌+◌, ◌≤◌, Some, ap, sym, arith}
use Rattle.machine_desc.specs.Components.{links_of}
use Rattle.machine_desc.specs.ComponentDomains.{domain_of_link}
use Rattle.machine_desc.proofs.Links.{get_link}
use Rattle.machine_desc.proofs.components.domain_of.Goals as goal

pub returns-else-component-banks-2-clause-listed : goal.returns-else-component-banks-2-clause-listed
returns-else-component-banks-2-clause-listed c =
    let m = c.args.machine.now in
    let component = c.args.component in
    let behind : m.l2.banks + m.controllers.count ≤ component = omega (arith, c.if-component-banks.false, c.if-component-banks-2.false) in
    get_link (domain_of_link m) m.domains.banks m.domains.controllers (links_of m) component m.l2.banks m.controllers.count
    c.requires.machine.domains.banks_length c.requires.machine.domains.controllers_length behind c.requires.there
    ∙ ap Some (sym c.domain_of_link.ensures.link)
