-- The time of an access where nothing else runs, and the events that it is made of, where banks and controllers are
-- joined without a network.
use Rattle.std.specs.Prelude.{◌+◌, ℕ, Bool, true, false, max, if◌then◌else◌, List, [], ◌∷◌, None, Some}
use Rattle.component.specs.declared.kind.Kind.TheVariants.{Lookup, Remote, Fill, Read, Write}
use Rattle.machine_desc.specs.declared.machine.L2.{L2}
use Rattle.machine_desc.specs.declared.machine.Controllers.{Controllers}
use Rattle.zs_num.specs.declared.entry.Entry.{Entry}
use Rattle.zs_num.specs.declared.entry.Outcome.{Outcome}
use Rattle.zs_num.specs.declared.entry.Outcome.TheVariants.{Hit, Upgrade, L2 as FoundInL2, Miss}
use Rattle.event_graph.specs.declared.access_path.AccessPath.{AccessPath}
use Rattle.event_graph.specs.declared.piece.Piece.{Piece}
use Rattle.event_graph.specs.AccessPaths.{head_time}
use Rattle.event_graph.specs.Timing.{look_up_time, bank_component, controller_component}

-- what a miss waits for memory; dirty: a line is written back beside the read
abbrev pub memory_time : Controllers → (dirty : Bool) → ℕ
memory_time controllers dirty = (if dirty then max controllers.read controllers.write else controllers.read)

-- the zero-load time of an access, by its head and its outcome
abbrev pub time_by : (head : ℕ) → L2 → Controllers → Outcome → ℕ
time_by head l2 controllers Hit = head
time_by head l2 controllers (Upgrade others) = head + look_up_time l2 others
time_by head l2 controllers (FoundInL2 others) = head + look_up_time l2 others
time_by head l2 controllers (Miss dirty) = head + l2.latency + memory_time controllers dirty + l2.fill

-- the zero-load time of an access
abbrev pub access_time : AccessPath → Entry → ℕ
access_time path e = time_by (head_time path e.request) path.l2 path.controllers e.outcome

-- the events, each after the head of the access: a look-up; on a miss a read, and beside it a write where a line is
-- written back; and then a fill, which waits for both
module _ (head : ℕ) (l2 : L2) (controllers : Controllers) (bank controller : ℕ) where
  abbrev pub look_up : (others : Bool) → Piece
  look_up others = record {
    component = bank;
    kind = (if others then Remote else Lookup);
    offset = head;
    time = look_up_time l2 others;
    first = None;
    second = None;
  }

  abbrev pub read : Piece
  read = record {
    component = controller;
    kind = Read;
    offset = head + l2.latency;
    time = controllers.read;
    first = Some 0;
    second = None;
  }

  abbrev pub write : Piece
  write = record {
    component = controller;
    kind = Write;
    offset = head + l2.latency;
    time = controllers.write;
    first = Some 0;
    second = None;
  }

  abbrev pub fill : (dirty : Bool) → Piece
  fill dirty = record {
    component = bank;
    kind = Fill;
    offset = head + l2.latency + memory_time controllers dirty;
    time = l2.fill;
    first = Some 1;
    second = (if dirty then Some 2 else None);
  }

  abbrev pub pieces_by : Outcome → List Piece
  pieces_by Hit = []
  pieces_by (Upgrade others) = look_up others ∷ []
  pieces_by (FoundInL2 others) = look_up others ∷ []
  pieces_by (Miss false) = look_up false ∷ read ∷ fill false ∷ []
  pieces_by (Miss true) = look_up false ∷ read ∷ write ∷ fill true ∷ []

-- the events of an access
abbrev pub pieces_of : AccessPath → Entry → List Piece
pieces_of path e =
    pieces_by (head_time path e.request) path.l2 path.controllers (bank_component path.l2 e) (controller_component path.l2 path.controllers e) e.outcome
