-- How far an access has come, in numbers alone.
use Rattle.std.specs.Prelude.{◌+◌, ◌*◌, ℕ, zero, suc, max, length, Option, None, Some}
use Rattle.std.specs.Option.{option_map_or}
use Rattle.event_graph.specs.declared.access_path.AccessPath.{AccessPath}
use Rattle.noc_mesh.specs.declared.standing.Standing.{Standing}
use Rattle.noc_mesh.specs.Passages.{Passage}

-- how far an access on its way has come
abbrev pub standing_of : Passage → Standing
standing_of p = record { events = length p.pieces; last = p.last; end = p.end }

abbrev pub begun : (head : ℕ) → Standing
begun head = record { events = 0; last = None; end = head }

-- behind a stage more
abbrev pub behind : Standing → (time : ℕ) → Standing
behind s time = record { events = s.events + 1; last = Some s.events; end = s.end + time }

-- the place of the event for which one of some hops waits: the last event before them for the first, and else the hop
-- before it
abbrev pub waits_for : (last : Option ℕ) → (events hop : ℕ) → Option ℕ
waits_for last events zero = last
waits_for last events (suc hop) = Some (events + hop)

-- behind so many hops more, each of which takes so long
abbrev pub behind_hops : Standing → (count time : ℕ) → Standing
behind_hops s count time = record {
  events = s.events + count;
  last = waits_for s.last s.events count;
  end = s.end + count * time;
}

-- how long a hop takes, where there are any
abbrev pub hop_time_of : AccessPath → ℕ
hop_time_of path = option_map_or (λ mesh. mesh.hop) path.mesh 0

-- behind an event beside the last one, for which the next does not wait
abbrev pub beside : Standing → Standing
beside s = record { events = s.events + 1; last = s.last; end = s.end }

-- where it cannot go on before a cycle
abbrev pub not_before : Standing → (end : ℕ) → Standing
not_before s end = record { events = s.events; last = s.last; end = max s.end end }
