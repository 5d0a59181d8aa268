-- There is one crossing.
use Rattle.std.proofs.Common.{rules}
use Rattle.event_tests.proofs.crossings.found_on_banks.Goals as goal

pub found_by_the_second-requires-clause-pair : goal.found_by_the_second-requires-clause-pair
found_by_the_second-requires-clause-pair g c =
    let one = c.is_one_crossing.ensures (search rules) in record {
      events_are = c.requires.pair;
      domains_are = c.requires.domains;
      crossing = one.0;
      crossings_are = one.1;
      parent_is = one.2;
      source_is = one.3;
      former = c.bank.result;
      latter = c.bank-2.result;
      banks_are = c.comps_of-comps.ensures;
      idle = c.bank.ensures.free;
      fast = c.bank.ensures.lookup;
      latter_fast = c.bank-2.ensures.lookup;
    }
