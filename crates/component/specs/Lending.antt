-- What a list of components ends as, where it was lent as a slice.
use Rattle.std.specs.Prelude.{List, length}
use Rattle.std.specs.List.{refill}
use Rattle.std.specs.Borrow.{Lends, Fml, RattleType, MutBor, Array}
use Rattle.component.specs.contracts.comps.Comps.{the_row}

-- once the borrow r ends, the components are those that r shows last; a slice keeps its length
abbrev pub lends_components : (C : RattleType) → MutBor (List C.Denot) → MutBor (List C.Denot) → Fml
lends_components C comps r = Lends (the_row C) (Array C 0) comps r (refill (length comps.now) comps.now)
