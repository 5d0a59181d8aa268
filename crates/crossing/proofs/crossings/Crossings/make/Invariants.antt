-- The words stand for the finishes of the one-list weave.
use Rattle.crossing.specs.Seats.{finishes_of, sources_of}
use Rattle.crossing.proofs.crossings.Crossings.make.Given as goal

abbrev pub ghosts-seated : goal.ghosts-seated
ghosts-seated g a = record { finishes = finishes_of g.C.Component.stepped a.graph.now a.parts.now a.comps.now; sources = sources_of a.parts.now }
