use Rattle.parts_table.specs.Seats.{hand_of, left_in, unpublished}
use Rattle.parts_table.proofs.station.Station.serve_held.Given as goal

abbrev pub ghosts-give_back : goal.ghosts-give_back
ghosts-give_back a = record {
  list = unpublished a.place.now.me.0 a._made.now.list;
  left = left_in (hand_of a.place.now.me.0.cores a._places.now a.value) a.number a.place.now.me.0.holds;
}
