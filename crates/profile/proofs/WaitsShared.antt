-- The waits of each interval of a run are shared out to the accesses behind which it ended.
use Rattle.std.proofs.Common.{◌≡◌, ℕ, List, [], ◌∷◌, ◌++◌, map, refl, sym, ◌∙◌, ap, subst}
use Rattle.std.specs.List.{zip}
use Rattle.std.proofs.lemmas.List.{map-append}
use Rattle.zs_num.specs.declared.entry.Entry.{Entry}
use Rattle.machine_desc.specs.declared.machine.Machine.{Machine}
use Rattle.event_graph.specs.declared.access_path.AccessPath.{AccessPath}
use Rattle.event_graph.specs.AccessPaths.{path_of}
use Rattle.noc_mesh.specs.Laws.{NetAccessesBeyondHitsHaveEvents}
use Rattle.stats.specs.Counts.{Interval}
use Rattle.trace.specs.Laws.{EndBehindTheirAccesses, EndsBehind}
use Rattle.trace.specs.Trace.{Accessed, Ended, Executed, Step}
use Rattle.profile.specs.declared.contribution.Maker.{Maker}
use Rattle.profile.specs.Contributions.{Before, after_step, wait_adds}
use Rattle.profile.specs.SharedOut.{AreSharedOut, EachSharesOut, ToldAccess}
use Rattle.profile.specs.Waits.{event_waits, makers_of}
use Rattle.profile.proofs.WaitsAddUp.{IsOfEntries, hits_make_none, is_of_entries, no_hit, same_first}
use Rattle.profile.proofs.WhoWaits.{makers_behind, makers_in, shared}

abbrev entry_of : ToldAccess → Entry
entry_of told = told.1

module _ (beyond : NetAccessesBeyondHitsHaveEvents) (machine : Machine) where
  abbrev path : AccessPath
  path = path_of machine

  interval_shared : (accesses : List ToldAccess) (interval : Interval) → EndsBehind machine (map entry_of accesses) interval
      → AreSharedOut path accesses (zip interval.events interval.fired) (map wait_adds (event_waits (makers_in accesses) (zip interval.events interval.fired)))
  interval_shared accesses interval ends =
      let of = subst (IsOfEntries machine) (sym ends.woven) (is_of_entries machine ends.comps interval.entries) in
      shared path (λ e hit. hits_make_none path e e.outcome hit) (λ e other. beyond path e (no_hit e.outcome other)) accesses interval.entries (zip interval.events interval.fired)
      (same_first interval.events interval.fired of.fired ∙ of.events) ends.by_core

  pub each_shares_out : (cores : ℕ) (so_far : List ToldAccess) (before : Before) (steps : List Step) → before.makers ≡ makers_in so_far → EndBehindTheirAccesses machine (map entry_of so_far) steps
      → EachSharesOut path cores so_far before steps
  each_shares_out cores so_far before [] makers ends = tt
  each_shares_out cores so_far before (Executed core pc ∷ steps) makers ends = each_shares_out cores so_far before steps makers ends
  each_shares_out cores so_far before (Accessed pc e leaving ∷ steps) makers ends =
      each_shares_out cores (so_far ++ (pc, e) ∷ []) (after_step before (Accessed pc e leaving)) steps
      (ap (λ (ms : List Maker). ms ++ makers_of pc e) makers ∙ sym (makers_behind so_far pc e))
      (subst (λ (es : List Entry). EndBehindTheirAccesses machine es steps) (sym (map-append entry_of so_far ((pc, e) ∷ []))) ends)
  each_shares_out cores so_far before (Ended interval ∷ steps) makers ends = (
    subst (λ (ms : List Maker). AreSharedOut path so_far (zip interval.events interval.fired) (map wait_adds (event_waits ms (zip interval.events interval.fired)))) (sym makers) (interval_shared so_far interval ends.0),
    each_shares_out cores [] (after_step before (Ended interval)) steps refl ends.1,
  )
