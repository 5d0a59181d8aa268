use Rattle.machine_desc.specs.Description.{domains_of}
use Rattle.machine_desc.proofs.Naturals.{naturals-short}
use Rattle.machine_desc.proofs.numbers.domains.Goals as goal

pub places-requires : goal.places-requires
unfolding domains_of
places-requires c = naturals-short _ _ c.requires.count.1 c.requires.banks_below

pub places-requires-2 : goal.places-requires-2
unfolding domains_of
places-requires-2 c = naturals-short _ _ c.requires.count.1 c.requires.controllers_below
