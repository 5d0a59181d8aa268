-- The access for which a record stands, and its events.
use Rattle.std.proofs.Math.Nat.{mod-eq_of_lt}
use Rattle.std.proofs.Common.{◌≡◌, ℕ, zero, suc, ◌+◌, ◌-◌, ◌*◌, ◌/◌, ◌%◌, ◌^◌, ◌<◌, ◌≤◌, Bool, true, false, List, [], ◌∷◌, ◌++◌, All, Some, length, get_or, map, refl, sym, ap, ap₂, ◌∙◌, arith, append-nil, inl, inr}
use Rattle.std.specs.Prelude.{if◌then◌else◌}
use Rattle.std.specs.List.{AllByRecursion, fold, slice_get}
use Rattle.zs_num.specs.declared.entry.Entry.{Entry}
use Rattle.std.proofs.lemmas.Bool.{cases_Bool, true≢false}
use Rattle.zs_num.specs.declared.entry.Outcome.{Outcome}
use Rattle.zs_num.specs.declared.entry.Outcome.TheVariants.{Hit, Upgrade, L2, Miss}
use Rattle.zs_num.specs.declared.request.Request.{Request}
use Rattle.zs_num.specs.declared.request.Request.TheVariants.{Fetch, Load}
use Rattle.zs_num.specs.Request.{is_fetch, line_of}
use Rattle.event_graph.specs.declared.access_path.AccessPath.{AccessPath}
use Rattle.event_graph.specs.declared.event.Event.{Event}
use Rattle.event_graph.specs.declared.piece.Piece.{Piece}
use Rattle.event_graph.specs.EventGraph.{access_events, all_events}
use Rattle.noc_mesh.specs.Laws.{EventsAreOfLinesAndOutcomes}
use Rattle.noc_mesh.specs.NetTiming.{net_pieces, net_time, passage}
use Rattle.access_record.specs.BankLogs.{makes_events}
use Rattle.access_record.specs.Laws.{beyond_hits, kept_of}
use Rattle.access_record.specs.Records.{IsInReach, MakeSameEvents, RecordState, entry_of, record_of}

abbrev first_byte : (fetch : Bool) → (line : ℕ) → Request
first_byte fetch line = if fetch then Fetch (line * 64) else Load 1 (line * 64)

line_back : (fetch : Bool) (line : ℕ) → line_of (first_byte fetch line) ≡ line
line_back true line = omega arith
line_back false line = omega arith

fetch_back : (fetch : Bool) (line : ℕ) → is_fetch (first_byte fetch line) ≡ fetch
fetch_back true line = refl
fetch_back false line = refl

-- what is so near to the first is told by as many bits
back : (bits first n : ℕ) → first ≤ n → n < first + 2 ^ bits → first + (n - first) % 2 ^ bits ≡ n
back bits first n from near =
    let small : (n - first) % 2 ^ bits ≡ n - first = (let below : n - first < 2 ^ bits = omega (arith, from, near) in mod-eq_of_lt below) in
    omega (arith, small, from)

pub stands_for : (begin base : ℕ) (e : Entry) → IsInReach begin base e → MakeSameEvents (kept_of begin base e) e
stands_for begin base e reach =
    let start : begin + (e.start - begin) % 2 ^ 32 ≡ e.start = back 32 begin e.start reach.from reach.soon in
    let line : base / 64 + (line_of e.request - base / 64) % 2 ^ 28 ≡ line_of e.request = back 28 (base / 64) (line_of e.request) reach.first reach.near in
    record {
      core = refl;
      start = start;
      line = line_back (is_fetch e.request) (base / 64 + (line_of e.request - base / 64) % 2 ^ 28) ∙ line;
      fetch = fetch_back (is_fetch e.request) (base / 64 + (line_of e.request - base / 64) % 2 ^ 28);
      outcome = refl;
    }

pub same_access : EventsAreOfLinesAndOutcomes → (path : AccessPath) (begin base : ℕ) (e : Entry) → IsInReach begin base e
    → (net_pieces path (kept_of begin base e) ≡ net_pieces path e) × (net_time path (kept_of begin base e) ≡ net_time path e)
same_access law path begin base e reach =
    let s = stands_for begin base e reach in
    law path (kept_of begin base e) e s.core s.line s.fetch s.outcome

-- the events of an access depend on its core, its start and its pieces
abbrev plain_access : (core start : ℕ) → Entry
plain_access core start = record { core = core; stamp = 0; start = start; request = Fetch 0; reply = 0; outcome = Hit }

same_events : (before : List Event) (d e : Entry) (ps qs : List Piece) → d.core ≡ e.core → d.start ≡ e.start → ps ≡ qs → access_events before d ps ≡ access_events before e qs
same_events before d e ps qs core start pieces =
    ap₂ (λ (k s : ℕ). access_events before (plain_access k s) ps) core start ∙ ap (access_events before e) pieces

same_fold : EventsAreOfLinesAndOutcomes → (path : AccessPath) (begin base : ℕ) (before : List Event) (entries : List Entry) → AllByRecursion (IsInReach begin base) entries
    → fold (λ seen e. seen ++ access_events seen e (net_pieces path e)) before (map (kept_of begin base) entries) ≡ fold (λ seen e. seen ++ access_events seen e (net_pieces path e)) before entries
same_fold law path begin base before [] all = refl
same_fold law path begin base before (e ∷ entries) all =
    let s = stands_for begin base e all.0 in
    let d : Entry = kept_of begin base e in
    let now : List Event = before ++ access_events before d (net_pieces path d) in
    let later : List Event = before ++ access_events before e (net_pieces path e) in
    let same : now ≡ later = ap (λ (xs : List Event). before ++ xs) (same_events before d e (net_pieces path d) (net_pieces path e) s.core s.start (same_access law path begin base e all.0).0) in
    same_fold law path begin base now entries all.1 ∙ ap (λ (seen : List Event). fold (λ seen e. seen ++ access_events seen e (net_pieces path e)) seen entries) same

same_all : EventsAreOfLinesAndOutcomes → (path : AccessPath) (begin base : ℕ) (entries : List Entry) → AllByRecursion (IsInReach begin base) entries
    → all_events (net_pieces path) (map (kept_of begin base) entries) ≡ all_events (net_pieces path) entries
same_all law path begin base entries all = same_fold law path begin base [] entries all

-- ---- hits
hit_has_none : (path : AccessPath) (e : Entry) (outcome : Outcome) → makes_events outcome ≡ false → (passage path e outcome).pieces ≡ []
hit_has_none path e Hit none = refl
hit_has_none path e (Upgrade others) none = absurd (true≢false none)
hit_has_none path e (L2 others) none = absurd (true≢false none)
hit_has_none path e (Miss dirty) none = absurd (true≢false none)

no_hits_fold : (path : AccessPath) (before : List Event) (entries : List Entry)
    → fold (λ seen e. seen ++ access_events seen e (net_pieces path e)) before (beyond_hits entries) ≡ fold (λ seen e. seen ++ access_events seen e (net_pieces path e)) before entries
no_hits_fold path before [] = refl
no_hits_fold path before (e ∷ entries) =
    let after : List Event = before ++ access_events before e (net_pieces path e) in
    elim (cases_Bool (makes_events e.outcome)) as (λ _. fold (λ seen e. seen ++ access_events seen e (net_pieces path e)) before (beyond_hits (e ∷ entries)) ≡ fold (λ seen e. seen ++ access_events seen e (net_pieces path e)) after entries) [
      | inl some ↦ rw some (no_hits_fold path after entries)
      | inr none ↦
          let same : after ≡ before = ap (λ (ps : List Piece). before ++ access_events before e ps) (hit_has_none path e e.outcome none) ∙ append-nil before in
          rw none (no_hits_fold path before entries ∙ ap (λ (seen : List Event). fold (λ seen e. seen ++ access_events seen e (net_pieces path e)) seen entries) (sym same))
    ]

pub no_hits : (path : AccessPath) (entries : List Entry) → all_events (net_pieces path) (beyond_hits entries) ≡ all_events (net_pieces path) entries
no_hits path entries = no_hits_fold path [] entries

pub same_beyond : EventsAreOfLinesAndOutcomes → (path : AccessPath) (begin base : ℕ) (entries : List Entry) → AllByRecursion (IsInReach begin base) (beyond_hits entries)
    → all_events (net_pieces path) (map (kept_of begin base) (beyond_hits entries)) ≡ all_events (net_pieces path) entries
same_beyond law path begin base entries all = same_all law path begin base (beyond_hits entries) all ∙ no_hits path entries

-- ---- a list of records
pub kept_at : (core begin base : ℕ) (entries : List Entry) (i : ℕ) (r : RecordState) → All (λ e. e.core ≡ core) entries → i < length entries → r ≡ get_or (map (record_of begin base) entries) i r
    → slice_get (map (kept_of begin base) entries) i ≡ Some (entry_of core begin base r)
kept_at core begin base [] i r own within is = absurd (omega arith)
kept_at core begin base (e ∷ entries) zero r own within is = ap₂ (λ (c : ℕ) (x : RecordState). Some (entry_of c begin base x)) (own 0 e (omega arith)) (sym is)
kept_at core begin base (e ∷ entries) (suc i) r own within is = kept_at core begin base entries i r (λ k d l. own (suc k) d (omega arith)) (omega arith) is
