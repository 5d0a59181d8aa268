-- There are two seats.
use Rattle.std.proofs.Common.{length, ap, ◌∙◌, remove, slice_index_or, arith}
use Rattle.event_tests.proofs.crossings.found_by_the_second.Goals as goal

pub remove-first-requires : goal.remove-first-requires
remove-first-requires g c = let count = ap length c.crossings_of-crossings.ensures in omega (arith, count)

pub remove-second-requires : goal.remove-second-requires
remove-second-requires g c = let count = ap length c.crossings_of-crossings.ensures in omega (arith, count, c.remove-first.ensures.len)

pub found-words-requires-clause-first : goal.found-words-requires-clause-first
found-words-requires-clause-first g c = c.remove-first.ensures.value ∙ ap (λ xs. slice_index_or xs 0 c.remove-first.result) c.crossings_of-crossings.ensures

pub found-words-requires-clause-second : goal.found-words-requires-clause-second
found-words-requires-clause-second g c =
    c.remove-second.ensures.value ∙ ap (λ xs. slice_index_or xs 0 c.remove-second.result) (c.remove-first.ensures.items ∙ ap (λ xs. remove xs 0) c.crossings_of-crossings.ensures)
