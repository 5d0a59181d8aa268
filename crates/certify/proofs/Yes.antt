-- Where no event of a file is wrong, its starts and finishes are the weave's.
use Rattle.std.proofs.Common.{◌≡◌, ◌+◌, ◌*◌, ℕ, Bool, true, false, if◌then◌else◌, List, [], ◌∷◌, length, map, Option, Some, None, Ok, refl, ap, sym, ◌∙◌, subst}
use Rattle.std.specs.Prelude.{slice_get}
use Rattle.std.specs.List.{Contains, find, sum_by}
use Rattle.std.specs.Option.{option_map}
use Rattle.component.specs.declared.comp.Comp.{Comp}
use Rattle.component.specs.ComponentStep.{comp_step}
use Rattle.event_graph.specs.OneListWeave.{FiredEvent, comps_after, weave, woven}
use Rattle.event_graph.specs.ServedEvents.{after_serving, of_component}
use Rattle.certify.specs.CanBeFiled.{IsFitting}
use Rattle.certify.specs.declared.verdict.Verdict.{Verdict}
use Rattle.certify.specs.declared.verdict.Verdict.TheVariants.{Finish, Start, Yes}
use Rattle.certify.specs.EventsFile.{count_of, events_of, intervals_from}
use Rattle.certify.specs.Records.{AreRecords}
use Rattle.certify.specs.Verdict.{after_all, first_wrong, has_right_start, in_order, is_wrong, or_verdict, told_or, verdict_of, verdict_on, wrong_as}
use Rattle.certify.specs.Woven.{AreWoven, AreWovenOn}
use Rattle.certify.proofs.AllServed.{same_by_get}
use Rattle.certify.proofs.Fields.{first_read}
use Rattle.certify.proofs.Fitting.{are_fitting}
use Rattle.certify.proofs.Intervals.{AreIntervalsAt, after_is, intervals_read, intervals_stay}
use Rattle.certify.proofs.OneOrder.{answered_are_fired, fired_are_answered, in_order_is}
use Rattle.certify.proofs.Solution.{solved}
use Rattle.certify.proofs.WeaveLaws.{WeaveLaws}

-- none is told, so none was found, and none after it
not_told : (o : Option FiredEvent) (tell : FiredEvent → Verdict) (later : Option Verdict) → or_verdict o tell later ≡ None → (o ≡ None) × (later ≡ None)
not_told None tell later is = (refl, is)
not_told (Some x) tell later is = cc

-- the verdict on an event is no yes
no_yes : (t : Bool) (interval number count events : ℕ) → (if t then Finish interval number else Start interval number) ≡ Yes count events → ⊥
no_yes true interval number count events is = cc
no_yes false interval number count events is = cc

not_yes : (comps : List Comp) (interval : ℕ) (intervals : List (List FiredEvent)) (count events : ℕ) (v : Verdict) → first_wrong comps interval intervals ≡ Some v → v ≡ Yes count events → ⊥
not_yes comps interval [] count events v is said_yes = cc
not_yes comps interval (timed ∷ rest) count events v is said_yes =
    found (find (is_wrong comps timed) timed) is (λ later. not_yes (after_all comps timed) (interval + 1) rest count events v later said_yes)
  where
    found : (o : Option FiredEvent) → or_verdict o (wrong_as timed interval) (first_wrong (after_all comps timed) (interval + 1) rest) ≡ Some v
        → (first_wrong (after_all comps timed) (interval + 1) rest ≡ Some v → ⊥) → ⊥
    found None later not_later = not_later later
    found (Some x) told not_later = no_yes (has_right_start timed x) interval x.event.number count events (let same : wrong_as timed interval x ≡ v = cc in same ∙ said_yes)

module _ (laws : WeaveLaws) where
  -- the weave fires the events in the order of their starts
  fired_in_order : (comps : List Comp) (timed : List FiredEvent) (records : List ℕ) → AreRecords comps timed records → IsFitting comps timed
      → timed ≡ woven comp_step (map (λ x. x.event) timed) comps → in_order timed ≡ (weave comp_step (map (λ x. x.event) timed) comps).fired
  unfolding woven
  fired_in_order comps timed records are fitting answered =
      let events = map (λ (x : FiredEvent). x.event) timed in
      let fired = (weave comp_step events comps).fired in
      let once = laws.fires_once events comps fitting.numbered fitting.fits in
      sym (in_order_is comps timed records are fired (laws.fires_in_order events comps fitting.numbered fitting.fits)
      (λ x among. subst (λ xs. Contains xs x) (sym answered) (fired_are_answered events fired fitting.numbered once x among))
      (λ x among. answered_are_fired events fired fitting.numbered once x (subst (λ xs. Contains xs x) answered among)))

  -- an interval
  pub interval_woven : (comps : List Comp) (timed : List FiredEvent) (records : List ℕ) → AreRecords comps timed records → find (is_wrong comps timed) timed ≡ None
      → AreWovenOn comps timed × (after_all comps timed ≡ comps_after comp_step (map (λ x. x.event) timed) comps)
  interval_woven comps timed records are none =
      let events = map (λ (x : FiredEvent). x.event) timed in
      let fitting = are_fitting comps timed records are in
      let solution = solved comps timed records are none in
      let answered : timed ≡ woven comp_step events comps = (laws.one_solution events comps timed fitting.numbered fitting.fits).0 solution in
      let order = fired_in_order comps timed records are fitting answered in (
        record { fitting = fitting; woven_so = answered },
        same_by_get (after_all comps timed) (comps_after comp_step events comps) (λ i.
            after_is comps timed i ∙ (ap (λ xs. option_map (λ c. after_serving comp_step c (of_component i xs)) (slice_get comps i)) order
            ∙ sym (laws.own_events events comps (length events) i fitting.numbered fitting.fits))),
      )

  intervals_woven : (comps : List Comp) (file : List ℕ) (interval at : ℕ) (intervals : List (List FiredEvent)) → AreIntervalsAt comps file at intervals
      → first_wrong comps interval intervals ≡ None → AreWoven comps intervals
  intervals_woven comps file interval at [] are none = tt
  intervals_woven comps file interval at (timed ∷ rest) are none =
      let untold = not_told (find (is_wrong comps timed) timed) (wrong_as timed interval) (first_wrong (after_all comps timed) (interval + 1) rest) none in
      let here = interval_woven comps timed _ are.0.records untold.0 in
      let later = intervals_woven (after_all comps timed) file (interval + 1) (at + (4 + 64 * length timed)) rest
      (intervals_stay comps timed file (at + (4 + 64 * length timed)) rest are.1) untold.1 in
      (here.0, subst (λ cs. AreWoven cs rest) here.1 later)

  pub yes_is_woven : (comps : List Comp) (file : List ℕ) (count events : ℕ) → verdict_of comps file ≡ Ok (Yes count events)
      → (intervals : List (List FiredEvent)) × (events_of comps file ≡ Ok intervals) × AreWoven comps intervals
  unfolding events_of
  yes_is_woven comps file count events is =
      let read = first_read (events_of comps file) (λ intervals. Ok (verdict_on comps intervals)) (Yes count events) is in
      let intervals = read.0 in
      let body = first_read (count_of (length comps) file) (λ n. intervals_from comps file n 0 16) intervals read.1 in
      let said : verdict_on comps intervals ≡ Yes count events = cc (read.2) in
      (intervals, read.1, intervals_woven comps file 0 16 intervals (intervals_read comps file body.0 0 16 intervals body.2) (none_told intervals (first_wrong comps 0 intervals) refl said))
    where
      none_told : (intervals : List (List FiredEvent)) (o : Option Verdict) → first_wrong comps 0 intervals ≡ o → told_or o (Yes (length intervals) (sum_by length intervals)) ≡ Yes count events
          → first_wrong comps 0 intervals ≡ None
      none_told intervals None found said = found
      none_told intervals (Some v) found said = absurd (not_yes comps 0 intervals count events v found said)
