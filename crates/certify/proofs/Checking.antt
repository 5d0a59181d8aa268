-- A file that was checked up to an interval.
use Rattle.std.proofs.Common.{◌≡◌, ◌<◌, ◌≤◌, ◌+◌, ◌*◌, ℕ, suc, List, [], ◌∷◌, length, Option, Some, None, Ok, refl, ap, sym, ◌∙◌, subst, arith}
use Rattle.std.specs.List.{find, sum_by}
use Rattle.std.specs.Option.{option_map}
use Rattle.component.specs.declared.comp.Comp.{Comp}
use Rattle.event_graph.specs.OneListWeave.{FiredEvent}
use Rattle.certify.specs.declared.verdict.Verdict.{Verdict}
use Rattle.certify.specs.declared.verdict.Verdict.TheVariants.{Yes}
use Rattle.certify.specs.EventsFile.{count_of, events_of, intervals_from, then_read}
use Rattle.certify.specs.ShortTimes.{HaveShortTimes}
use Rattle.certify.specs.Verdict.{after_all, first_wrong, is_wrong, or_verdict, told_or, verdict_of, verdict_on, wrong_as}
use Rattle.certify.proofs.Fields.{first_read}
use Rattle.certify.proofs.Intervals.{AreIntervalsAt, IsIntervalAt, intervals_read, intervals_stay}

-- what a file says, and what of it is not checked yet
pub record IsCheckedTo (first : List Comp) (file : List ℕ) (comps : List Comp) (count events interval at : ℕ) : Type 0 where
  pub intervals : List (List FiredEvent)
  pub are : events_of first file ≡ Ok intervals
  pub many : length intervals ≡ count
  pub events_are : sum_by length intervals ≡ events
  pub rest : List (List FiredEvent)
  pub left : interval + length rest ≡ count
  pub places : AreIntervalsAt comps file at rest
  pub so_far : first_wrong first 0 intervals ≡ first_wrong comps interval rest
  pub times : HaveShortTimes comps

pub nothing_checked : (first : List Comp) (file : List ℕ) (intervals : List (List FiredEvent)) (count events : ℕ) → events_of first file ≡ Ok intervals → length intervals ≡ count
    → sum_by length intervals ≡ events → HaveShortTimes first → IsCheckedTo first file first count events 0 16
unfolding events_of
nothing_checked first file intervals count events are many events_are times =
    let body = first_read (count_of (length first) file) (λ n. intervals_from first file n 0 16) intervals are in
    record {
      intervals = intervals;
      are = are;
      many = many;
      events_are = events_are;
      rest = intervals;
      left = omega (arith, many);
      places = intervals_read first file body.0 0 16 intervals body.2;
      so_far = refl;
      times = times;
    }

-- the next interval
pub record IsNext (first : List Comp) (file : List ℕ) (comps : List Comp) (count events interval at : ℕ) (timed : List FiredEvent) : Type 0 where
  pub intervals : List (List FiredEvent)
  pub are : events_of first file ≡ Ok intervals
  pub many : length intervals ≡ count
  pub events_are : sum_by length intervals ≡ events
  pub rest : List (List FiredEvent)
  pub left : interval + suc (length rest) ≡ count
  pub is : IsIntervalAt comps file at timed
  pub times : HaveShortTimes comps
  pub places : AreIntervalsAt comps file (at + (4 + 64 * length timed)) rest
  pub so_far : first_wrong first 0 intervals ≡ first_wrong comps interval (timed ∷ rest)

pub next_interval : (first : List Comp) (file : List ℕ) (comps : List Comp) (count events interval at : ℕ) → IsCheckedTo first file comps count events interval at → interval < count
    → (timed : List FiredEvent) × IsNext first file comps count events interval at timed
next_interval first file comps count events interval at to below = by_rest to.rest to.left to.places to.so_far
  where
    by_rest : (rest : List (List FiredEvent)) → interval + length rest ≡ count → AreIntervalsAt comps file at rest → first_wrong first 0 to.intervals ≡ first_wrong comps interval rest
        → (timed : List FiredEvent) × IsNext first file comps count events interval at timed
    by_rest [] left places so_far = absurd (omega (arith, left, below))
    by_rest (timed ∷ rest) left places so_far = (
      timed,
      record {
        intervals = to.intervals;
        are = to.are;
        many = to.many;
        events_are = to.events_are;
        rest = rest;
        left = left;
        is = places.0;
        times = to.times;
        places = places.1;
        so_far = so_far;
      },
    )

-- the verdict where an event of it is wrong
pub is_told : (first : List Comp) (file : List ℕ) (comps : List Comp) (count events interval at : ℕ) (timed : List FiredEvent) (v : Verdict)
    → IsNext first file comps count events interval at timed → Some v ≡ option_map (wrong_as timed interval) (find (is_wrong comps timed) timed) → verdict_of first file ≡ Ok v
is_told first file comps count events interval at timed v next told =
    let here = told_here (find (is_wrong comps timed) timed) (wrong_as timed interval) (first_wrong (after_all comps timed) (interval + 1) next.rest) v told in
    ap (λ r. then_read r (λ intervals. Ok (verdict_on first intervals))) next.are
    ∙ ap (λ (o : Option Verdict). Ok (told_or o (Yes (length next.intervals) (sum_by length next.intervals)))) (next.so_far ∙ here)
  where
    told_here : (o : Option FiredEvent) (tell : FiredEvent → Verdict) (later : Option Verdict) (v : Verdict) → Some v ≡ option_map tell o → or_verdict o tell later ≡ Some v
    told_here None tell later v is = cc
    told_here (Some x) tell later v is = sym is

-- and where none is
no_event : (o : Option FiredEvent) (tell : FiredEvent → Verdict) → None ≡ option_map tell o → o ≡ None
no_event None tell is = refl
no_event (Some x) tell is = cc

pub one_more_checked : (first : List Comp) (file : List ℕ) (comps after : List Comp) (count events interval at past : ℕ) (timed : List FiredEvent)
    → IsNext first file comps count events interval at timed → None ≡ option_map (wrong_as timed interval) (find (is_wrong comps timed) timed) → past ≡ at + (4 + 64 * length timed)
    → (find (is_wrong comps timed) timed ≡ None → after ≡ after_all comps timed) → HaveShortTimes after → IsCheckedTo first file after count events (interval + 1) past
one_more_checked first file comps after count events interval at past timed next none place right times =
    let found = no_event (find (is_wrong comps timed) timed) (wrong_as timed interval) none in
    let is = right found in
    record {
      intervals = next.intervals;
      are = next.are;
      many = next.many;
      events_are = next.events_are;
      rest = next.rest;
      left = omega (arith, next.left);
      places = rw is (subst (λ p. AreIntervalsAt (after_all comps timed) file p next.rest) (sym place) (intervals_stay comps timed file (at + (4 + 64 * length timed)) next.rest next.places));
      so_far = next.so_far ∙ (ap (λ o. or_verdict o (wrong_as timed interval) (first_wrong (after_all comps timed) (interval + 1) next.rest)) found
          ∙ ap (λ cs. first_wrong cs (interval + 1) next.rest) (sym is));
      times = times;
    }

-- all is checked
pub all_checked : (first : List Comp) (file : List ℕ) (comps : List Comp) (count events interval at : ℕ) → IsCheckedTo first file comps count events interval at → count ≤ interval
    → verdict_of first file ≡ Ok (Yes count events)
all_checked first file comps count events interval at to all =
    let none : first_wrong comps interval to.rest ≡ None = none_left to.rest to.left in
    let yes : Yes (length to.intervals) (sum_by length to.intervals) ≡ Yes count events =
    ap (λ n. Yes n (sum_by length to.intervals)) to.many ∙ ap (λ n. Yes count n) to.events_are in
    ap (λ r. then_read r (λ intervals. Ok (verdict_on first intervals))) to.are
    ∙ (ap (λ (o : Option Verdict). Ok (told_or o (Yes (length to.intervals) (sum_by length to.intervals)))) (to.so_far ∙ none) ∙ ap Ok yes)
  where
    none_left : (rest : List (List FiredEvent)) → interval + length rest ≡ count → first_wrong comps interval rest ≡ None
    none_left [] left = refl
    none_left (timed ∷ rest) left = absurd (omega (arith, left, all))
