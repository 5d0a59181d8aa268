-- What the weave takes of an interval's accesses.
use Rattle.std.proofs.Common.{◌≡◌, ℕ, ◌*◌, ◌^◌, ◌<◌, ◌≤◌, Bool, true, Option, List, [], ◌∷◌, length, map, All, Some, None, get_or, refl, sym, ◌∙◌, ap, subst, arith}
use Rattle.std.specs.Prelude.{slice_get}
use Rattle.std.specs.List.{filter}
use Rattle.std.specs.Option.{option_map, option_map_or}
use Rattle.std.proofs.lemmas.Bool.{true≢false}
use Rattle.std.proofs.lemmas.List.{length-map}
use Rattle.std.proofs.lemmas.List.Elements.{All-filter, All-head, All-map, All-tail, filter_passes}
use Rattle.std.proofs.lemmas.Option.{get_or_from_slice_get, slice_get-map, slice_get_within}
use Rattle.zs_num.specs.declared.entry.Entry.{Entry}
use Rattle.zs_num.specs.declared.entry.Outcome.TheVariants.{Hit}
use Rattle.machine_desc.specs.declared.machine.Machine.{Machine}
use Rattle.event_graph.specs.declared.access_path.AccessPath.{AccessPath}
use Rattle.event_graph.specs.declared.piece.Piece.{Piece}
use Rattle.event_graph.specs.AccessPaths.{path_of}
use Rattle.event_graph.specs.MadeOfPieces.{is_some_piece}
use Rattle.event_graph.specs.PathInRange.{IsAccessPath}
use Rattle.noc_mesh.specs.Laws.{NetAccessesBeyondHitsHaveEvents, NetAccessesHaveFewEvents, NetEventsAreInARow}
use Rattle.noc_mesh.specs.NetTiming.{net_pieces}
use Rattle.access_log.specs.History.{of_core}
use Rattle.access_log.specs.RecordedOrder.{recorded_order}
use Rattle.access_record.specs.BankLogs.{makes_events}
use Rattle.access_record.specs.Laws.{RecordsKeepEachAccess, RecordsKeepTheEvents, RecordsStandForAccesses, beyond_hits, kept_of}
use Rattle.access_record.specs.Records.{IsInReach}
use Rattle.weave_chains.specs.Listed.{AreOwn, one_after_other}
use Rattle.weave_chains.specs.Rounds.{AreChained}
use Rattle.weave_chains.specs.Woven.{AreOrdered}
use Rattle.bound_records.specs.Intervals.{AreKept}
use Rattle.bound_records.specs.Recorders.{RecorderState, core_room, entries_of, kept_lists, recorded_kept}
use Rattle.bound_records.proofs.Lists.{all_recorded, by_recursion, core_kept, fewer, flat_kept, length_recorded}

is_some : (ps : List Piece) → 0 < length ps → is_some_piece ps ≡ true
is_some [] some = absurd (omega (arith, some))
is_some (p ∷ ps) some = refl

-- ---- lists

all_pass : (p : Entry → Bool) (es : List Entry) → All (λ e. p e ≡ true) es → filter p es ≡ es
all_pass p [] all = refl
all_pass p (e ∷ es) all = rw (All-head (λ (x : Entry). p x ≡ true) e es all) (ap (λ (xs : List Entry). e ∷ xs) (all_pass p es (All-tail (λ (x : Entry). p x ≡ true) e es all)))

at_place : (P : Entry → Type 0) (es : List Entry) (i : ℕ) (e : Entry) → All P es → slice_get es i ≡ Some e → P e
at_place P es i e all here = subst P (get_or_from_slice_get es i e e here) (all i e (slice_get_within es i e here))

own_at : (f : Entry → Entry) (core : ℕ) → ((e : Entry) → (f e).core ≡ e.core) → (o : Option (List Entry)) → ((es : List Entry) → o ≡ Some es → All (λ e. e.core ≡ core) es)
    → (i : ℕ) (e : Entry) → slice_get (option_map_or (λ (l : List Entry). l) (option_map (λ es. map f (beyond_hits es)) o) []) i ≡ Some e → e.core ≡ core
own_at f core same None own i e here = absurd (cc)
own_at f core same (Some es) own i e here =
    let these : All (λ x. x.core ≡ core) (beyond_hits es) = All-filter (λ (x : Entry). makes_events x.outcome) (λ x. x.core ≡ core) es (own es refl) in
    at_place (λ x. x.core ≡ core) (map f (beyond_hits es)) i e (All-map (λ x. x.core ≡ core) f (beyond_hits es) (λ k d below. same (get_or (beyond_hits es) k d) ∙ these k d below)) here

-- ---- the accesses of an interval

module _ (machine : Machine) (s : RecorderState) (known : All (λ e. e.core < machine.cores) (entries_of s)) (starts : All (λ e. e.start ≤ 2 ^ 34) (entries_of s))
    (few : length (entries_of s) ≤ machine.cores * core_room machine) (reach : All (IsInReach s.begin s.base) (entries_of s)) (many : length s.lists ≡ machine.cores)
    (own : (core : ℕ) (es : List Entry) → slice_get s.lists core ≡ Some es → All (λ e. e.core ≡ core) es) (same_order : (core : ℕ) → of_core core (recorded_order (entries_of s)) ≡ of_core core (entries_of s))
    (stand : RecordsStandForAccesses) (keep : RecordsKeepEachAccess) (events : RecordsKeepTheEvents) (small : NetAccessesHaveFewEvents) (beyond : NetAccessesBeyondHitsHaveEvents) (row : NetEventsAreInARow) (in_range : IsAccessPath (path_of machine)) where
  abbrev path : AccessPath
  path = path_of machine

  abbrev f : Entry → Entry
  f = kept_of s.begin s.base

  abbrev makes : Entry → Bool
  makes e = makes_events e.outcome

  kept_are : one_after_other (kept_lists s) ≡ map f (beyond_hits (entries_of s))
  kept_are = flat_kept f s.lists

  some_pieces : (e : Entry) → IsInReach s.begin s.base e → makes e ≡ true → 0 < length (net_pieces path (f e))
  some_pieces e near some = subst (λ (ps : List Piece). 0 < length ps) (sym (keep path s.begin s.base e near).0) (beyond path e (λ (hit : e.outcome ≡ Hit). true≢false (sym some ∙ ap makes_events hit)))

  few_pieces : (e : Entry) → length (net_pieces path e) ≤ 60
  few_pieces e = let one = small path (e ∷ []) in_range in omega (arith, one)

  -- what holds of each that makes events, as it is given back
  of_kept : (P : Entry → Type 0) (es : List Entry) → All (IsInReach s.begin s.base) es → ((e : Entry) → IsInReach s.begin s.base e → makes e ≡ true → P (f e)) → All P (map f (beyond_hits es))
  of_kept P es near each =
      let reached_all : All (IsInReach s.begin s.base) (beyond_hits es) = All-filter makes (IsInReach s.begin s.base) es near in
      All-map P f (beyond_hits es) (λ k d below. each (get_or (beyond_hits es) k d) (reached_all k d below) (filter_passes makes es k d below))

  in_a_row : (P : Entry → Type 0) → ((e : Entry) → IsInReach s.begin s.base e → makes e ≡ true → P (f e)) → All P (one_after_other (kept_lists s))
  in_a_row P each = subst (All P) (sym kept_are) (of_kept P (entries_of s) reach each)

  cores_known : All (λ e. e.core < machine.cores) (one_after_other (kept_lists s))
  cores_known =
      subst (All (λ (e : Entry). e.core < machine.cores)) (sym kept_are)
      (All-map (λ (e : Entry). e.core < machine.cores) f (beyond_hits (entries_of s)) (All-filter makes (λ (e : Entry). e.core < machine.cores) (entries_of s) known))

  start_kept : (es : List Entry) → All (IsInReach s.begin s.base) es → All (λ e. e.start ≤ 2 ^ 34) es → All (λ e. e.start ≤ 2 ^ 34) (map f (beyond_hits es))
  start_kept es near_all soon_all =
      All-map (λ (e : Entry). e.start ≤ 2 ^ 34) f (beyond_hits es)
      (λ k d below.
      let e = get_or (beyond_hits es) k d in
      let near : IsInReach s.begin s.base e = All-filter makes (IsInReach s.begin s.base) es near_all k d below in
      let soon : e.start ≤ 2 ^ 34 = All-filter makes (λ (x : Entry). x.start ≤ 2 ^ 34) es soon_all k d below in
      subst (λ (n : ℕ). n ≤ 2 ^ 34) (sym (stand s.begin s.base e near).start) soon)

  starts_kept : All (λ e. e.start ≤ 2 ^ 34) (one_after_other (kept_lists s))
  starts_kept = subst (All (λ (e : Entry). e.start ≤ 2 ^ 34)) (sym kept_are) (start_kept (entries_of s) reach starts)

  few_kept : length (one_after_other (kept_lists s)) ≤ machine.cores * core_room machine
  few_kept =
      let a : length (one_after_other (kept_lists s)) ≡ length (map f (beyond_hits (entries_of s))) = ap length kept_are in
      let b = length-map (beyond_hits (entries_of s)) f in
      let c = fewer makes (entries_of s) in
      omega (arith, a, b, c, few)

  own_kept : AreOwn (kept_lists s)
  own_kept core i e here =
      let at : slice_get (kept_lists s) core ≡ option_map (λ es. map f (beyond_hits es)) (slice_get s.lists core) = slice_get-map (λ es. map f (beyond_hits es)) s.lists core in
      own_at f core (λ x. refl) (slice_get s.lists core) (own core) i e (ap (λ (o : Option (List Entry)). slice_get (option_map_or (λ (l : List Entry). l) o []) i) (sym at) ∙ here)

  chained : AreChained (net_pieces path) (kept_lists s)
  chained = record {
    own = own_kept;
    some = λ i e here. at_place (λ x. 0 < length (net_pieces path x)) (one_after_other (kept_lists s)) i e (in_a_row (λ x. 0 < length (net_pieces path x)) some_pieces) here;
    few = λ i e here. (let one = few_pieces e in omega (arith, one));
    early = λ i e here. (let soon : e.start ≤ 2 ^ 34 = at_place (λ x. x.start ≤ 2 ^ 34) (one_after_other (kept_lists s)) i e starts_kept here in omega (arith, soon));
    row = row path;
  }

  recorded_reach : All (IsInReach s.begin s.base) (recorded_order (entries_of s))
  recorded_reach = all_recorded (IsInReach s.begin s.base) (entries_of s) reach

  all_some : All (λ e. is_some_piece (net_pieces path e) ≡ true) (recorded_kept s)
  all_some = of_kept (λ e. is_some_piece (net_pieces path e) ≡ true) (recorded_order (entries_of s)) recorded_reach (λ e near some. is_some (net_pieces path (f e)) (some_pieces e near some))

  ordered : AreOrdered (net_pieces path) (one_after_other (kept_lists s)) (recorded_kept s)
  ordered core =
      ap (of_core core) (all_pass (λ e. is_some_piece (net_pieces path e)) (recorded_kept s) all_some)
      ∙ (core_kept s.begin s.base core (recorded_order (entries_of s))
      ∙ (ap (λ (es : List Entry). map f (beyond_hits es)) (same_order core)
      ∙ (sym (core_kept s.begin s.base core (entries_of s)) ∙ ap (of_core core) (sym kept_are))))

  recorded_known : All (λ e. e.core < machine.cores) (recorded_kept s)
  recorded_known =
      All-map (λ (e : Entry). e.core < machine.cores) f (beyond_hits (recorded_order (entries_of s)))
      (All-filter makes (λ (e : Entry). e.core < machine.cores) (recorded_order (entries_of s)) (all_recorded (λ (e : Entry). e.core < machine.cores) (entries_of s) known))

  recorded_fewer : length (recorded_kept s) ≤ length (entries_of s)
  recorded_fewer =
      let a = length-map (beyond_hits (recorded_order (entries_of s))) f in
      let b = fewer makes (recorded_order (entries_of s)) in
      let c = length_recorded (entries_of s) in
      omega (arith, a, b, c)

  pub are_kept : AreKept machine s
  are_kept = record {
    chained = chained;
    many = length-map s.lists (λ es. map f (beyond_hits es)) ∙ many;
    cores = cores_known;
    starts = starts_kept;
    few = few_kept;
    ordered = ordered;
    recorded_cores = recorded_known;
    recorded_starts = start_kept (recorded_order (entries_of s)) recorded_reach (all_recorded (λ (e : Entry). e.start ≤ 2 ^ 34) (entries_of s) starts);
    recorded_few = recorded_fewer;
    events = events path s.begin s.base (recorded_order (entries_of s)) (by_recursion (IsInReach s.begin s.base) (beyond_hits (recorded_order (entries_of s))) (All-filter makes (IsInReach s.begin s.base) (recorded_order (entries_of s)) recorded_reach));
  }
