-- Stations that are the same seat.
use Rattle.std.proofs.Common.{◌≡◌, ℕ, ◌+◌, ◌<◌, List, [], ◌∷◌, ◌++◌, length, refl, sym, ◌∙◌, ap, subst}
use Rattle.zs_num.specs.declared.entry.Entry.{Entry}
use Rattle.zs_num.specs.declared.request.Request.{Request}
use Rattle.parts_table.specs.declared.station.Station.{Station}
use Rattle.parts_table.specs.declared.part.TimedPart.{TimedPart}
use Rattle.parts_table.specs.declared.view.CoreAccesses.{CoreAccesses}
use Rattle.parts_table.specs.declared.view.Hold.{Hold}
use Rattle.parts_table.specs.declared.view.Made.{Made}
use Rattle.parts_table.specs.declared.view.View.{View}
use Rattle.parts_table.specs.Access.{CanAsk, IsAccess, IsSameSeat, IsSeatOf, SeatState, TableState}
use Rattle.parts_table.specs.Stations.{IsSameStation, seat_of}
use Rattle.parts_table.specs.Views.{given, holding}
use Rattle.parts_table.specs.World.{MayAsk, world_of}

pub seat_again : (t : TableState) (a b : SeatState) → IsSeatOf t a → IsSameSeat a b → IsSeatOf t b
seat_again t a b of_a same = record {
  table = same.table ∙ of_a.table;
  opening = same.opening ∙ of_a.opening;
  cores = same.cores ∙ of_a.cores;
  banks = same.banks ∙ of_a.banks;
  room = same.room ∙ of_a.room;
}

pub ask_again : (t : TableState) (a b : SeatState) (request : Request) → CanAsk t a request → IsSameSeat a b → b.made ≡ a.made → CanAsk t b request
ask_again t a b request can same made = (
  subst (λ (list : List Made). length list < t.room) (sym made) can.0,
  subst (λ (core : ℕ). MayAsk t.cores t.banks (world_of t.opening) core request) (sym same.core) can.1,
)

pub seats_twice : (a b c : SeatState) → IsSameSeat a b → IsSameSeat b c → IsSameSeat a c
seats_twice a b c one two = record {
  table = two.table ∙ one.table;
  core = two.core ∙ one.core;
  opening = two.opening ∙ one.opening;
  cores = two.cores ∙ one.cores;
  banks = two.banks ∙ one.banks;
  room = two.room ∙ one.room;
}

-- an access of the same seat, before it and after it
pub access_after : (a b c : SeatState) (start : ℕ) (request : Request) (e : Entry) → IsSameSeat a b → b.made ≡ a.made → IsAccess b c start request e → IsAccess a c start request e
access_after a b c start request e same made it = record {
  same = seats_twice a b c same it.same;
  access = (it.access.0, it.access.1, it.access.2 ∙ ap (λ (list : List Made). list ++ record { entry = e; time = it.access.0; shared = it.access.1 } ∷ []) made);
  core_is = it.core_is ∙ same.core;
  start_is = it.start_is;
  request_is = it.request_is;
  stamp_is = it.stamp_is;
}

pub access_before : (a b c : SeatState) (start : ℕ) (request : Request) (e : Entry) → IsAccess a b start request e → IsSameSeat b c → c.made ≡ b.made → IsAccess a c start request e
access_before a b c start request e it same made = record {
  same = seats_twice a b c it.same same;
  access = (it.access.0, it.access.1, made ∙ it.access.2);
  core_is = it.core_is;
  start_is = it.start_is;
  request_is = it.request_is;
  stamp_is = it.stamp_is;
}

-- a seat that took a part, or gave one back
pub same_took : (a b : SeatState) (part : ℕ) (value : TimedPart) → b.table ≡ a.table → b.core ≡ a.core → b.knows ≡ holding a.knows part value → IsSameSeat a b
same_took a b part value table core knows = record {
  table = table;
  core = core;
  opening = ap (λ (v : View). v.opening) knows;
  cores = ap (λ (v : View). v.cores) knows;
  banks = ap (λ (v : View). v.banks) knows;
  room = ap (λ (v : View). v.room) knows;
}

pub same_gave : (a b : SeatState) (log : CoreAccesses) (list : List Made) (left : List Hold) → b.table ≡ a.table → b.core ≡ a.core → b.knows ≡ given a.knows log list left → IsSameSeat a b
same_gave a b log list left table core knows = record {
  table = table;
  core = core;
  opening = ap (λ (v : View). v.opening) knows;
  cores = ap (λ (v : View). v.cores) knows;
  banks = ap (λ (v : View). v.banks) knows;
  room = ap (λ (v : View). v.room) knows;
}
