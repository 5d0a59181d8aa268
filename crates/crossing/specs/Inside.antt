-- How a seat is kept.
use Rattle.std.specs.Prelude.{◌≡◌, ◌+◌, ◌*◌, true, false, [], length}
use Rattle.atomic_table.specs.Seated.{TableId}
use Rattle.atomic_table.specs.Table.{Me}
use Rattle.crossing.specs.declared.view.View.{View}
use Rattle.crossing.specs.Seats.{SeatValue}

abbrev pub seat_value : TableId → View → SeatValue
seat_value table v = record {
  crossings = table;
  domain = v.domain;
  finishes = v.finishes;
  sources = v.sources;
  wrote = v.wrote;
  noted = v.noted;
  looks = v.looks;
}

-- a domain's seat at a table of as many words as its crossings take
pub record IsTableSeat (table : TableId) (me : Me (Unit {0}) View) : Type 0 where
  pub bare : me.1 ≡ []
  pub told_is : me.0.told ≡ true
  pub makes_is : me.0.makes ≡ false
  pub words_are : table.words ≡ 16 * length me.0.sources + 1
