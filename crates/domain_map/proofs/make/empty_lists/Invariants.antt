-- So many lists, all empty.
use Rattle.std.proofs.Common.{◌≡◌, [], All, length}
use Rattle.domain_map.specs.Inside.{lists_of}
use Rattle.domain_map.proofs.make.empty_lists.Given as goal

abbrev pub invariant-loop-domain : goal.invariant-loop-domain
invariant-loop-domain l = record {
  count : length (lists_of l.lists.items) ≡ l._domain;
  empty : All (λ list. list ≡ []) (lists_of l.lists.items);
}
