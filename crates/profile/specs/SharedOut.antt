-- Whose the waits of an interval's events are: each access makes so many events, and a core's events are those of its
-- accesses, in the order in which it made them.
use Rattle.std.specs.Prelude.{◌≡◌, ℕ, ◌==◌, List, [], ◌∷◌, ◌++◌, drop, filter, length, map, sum_by, take, Some}
use Rattle.std.specs.List.{zip}
use Rattle.zs_num.specs.declared.entry.Entry.{Entry}
use Rattle.zs_num.specs.Request.{line_of}
use Rattle.event_graph.specs.declared.access_path.AccessPath.{AccessPath}
use Rattle.event_graph.specs.declared.event.Event.{Event}
use Rattle.event_graph.specs.declared.fired.Fired.{Fired}
use Rattle.noc_mesh.specs.NetTiming.{net_pieces, net_time}
use Rattle.stats.specs.Counted.{wait_of}
use Rattle.trace.specs.Trace.{Step, Accessed, Ended, Executed}
use Rattle.profile_rows.specs.Tallies.{no_tally}
use Rattle.profile.specs.declared.contribution.Contribution.{Contribution}
use Rattle.profile.specs.Contributions.{Before, after_step, step_adds}

-- an access, and the address of its instruction
abbrev pub ToldAccess : Type 0
ToldAccess = ℕ × Entry

-- what a wait of one of its events adds
abbrev pub waits_for : ToldAccess → Event × Fired → Contribution
waits_for (pc, e) x = record {
  core = e.core;
  pc = Some pc;
  line = line_of e.request;
  tally = record no_tally { waited = wait_of x.0 x.1 };
}

-- how many events it makes
abbrev pub event_count_of : AccessPath → ToldAccess → ℕ
event_count_of path told = length (net_pieces path told.1)

-- The waits of these events, shared out to accesses: to each those of as many events as it makes, in order.
abbrev pub shared_out : AccessPath → List ToldAccess → List (Event × Fired) → List Contribution
shared_out path [] events = []
shared_out path (told ∷ accesses) events =
    map (waits_for told) (take (event_count_of path told) events) ++ shared_out path accesses (drop (event_count_of path told) events)

-- Of each core, what these events add is shared out to these accesses, and the accesses make as many events.
pub record AreSharedOut (path : AccessPath) (accesses : List ToldAccess) (events : List (Event × Fired)) (adds : List Contribution) : Type 0 where
  pub count : (core : ℕ) → length (filter (λ x. x.0.core == core) events) ≡ sum_by (event_count_of path) (filter (λ told. told.1.core == core) accesses)
  pub waits : (core : ℕ)
      → filter (λ c. c.core == core) adds
      ≡ shared_out path (filter (λ told. told.1.core == core) accesses) (filter (λ x. x.0.core == core) events)

-- So it is with each interval that ends, with the accesses since the one before; those of the first are behind these.
abbrev pub EachSharesOut : AccessPath → (cores : ℕ) → (so_far : List ToldAccess) → Before → List Step → Type 0
EachSharesOut path cores so_far before [] = Unit {0}
EachSharesOut path cores so_far before (Executed core pc ∷ steps) = EachSharesOut path cores so_far before steps
EachSharesOut path cores so_far before (Accessed pc e leaving ∷ steps) =
    EachSharesOut path cores (so_far ++ (pc, e) ∷ []) (after_step before (Accessed pc e leaving)) steps
EachSharesOut path cores so_far before (Ended interval ∷ steps) =
    AreSharedOut path so_far (zip interval.events interval.fired) (step_adds (net_time path) cores before (Ended interval))
    × EachSharesOut path cores [] (after_step before (Ended interval)) steps
