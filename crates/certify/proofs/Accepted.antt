-- The weave's starts and finishes are right, and a file of them is accepted.
use Rattle.std.proofs.Common.{◌≡◌, ◌+◌, ◌*◌, ◌==◌, ℕ, zero, suc, true, false, List, [], ◌∷◌, All, length, map, take, Option, Some, None, Ok, refl, ap, sym, ◌∙◌, subst, inl, inr}
use Rattle.std.specs.Prelude.{slice_get}
use Rattle.std.specs.List.{find, sum_by}
use Rattle.std.specs.Option.{option_map, option_map_or}
use Rattle.std.proofs.lemmas.Bool.{cases_eq, eq-eqb, ne_eqb}
use Rattle.std.proofs.lemmas.List.Elements.{All-cons, All-nil}
use Rattle.std.proofs.lemmas.List.Sorted.{Contains-permutation}
use Rattle.component.specs.declared.comp.Comp.{Comp}
use Rattle.component.specs.ComponentStep.{comp_step}
use Rattle.component.specs.Serving.{comp_latency, comp_serves}
use Rattle.event_graph.specs.declared.event.Event.{Event}
use Rattle.event_graph.specs.Fits.{EventFits}
use Rattle.event_graph.specs.OneListWeave.{FiredEvent, comps_after, finish_in, start_of, weave}
use Rattle.event_graph.specs.ServedEvents.{after_serving, of_component}
use Rattle.event_graph.specs.TimingSolution.{IsSolution, ServesInTurn}
use Rattle.certify.specs.CanBeFiled.{CanBeFiled, IsFitting}
use Rattle.certify.specs.declared.verdict.Verdict.{Verdict}
use Rattle.certify.specs.declared.verdict.Verdict.TheVariants.{Yes}
use Rattle.certify.specs.EventsFile.{count_of, events_file_of, events_of, intervals_from, then_read}
use Rattle.certify.specs.Records.{AreRecords}
use Rattle.certify.specs.Verdict.{after_all, finish_by, finish_on, first_wrong, has_right_finish, has_right_start, in_order, is_wrong, or_verdict, told_or, verdict_of, verdict_on, wrong_as}
use Rattle.certify.specs.Woven.{AreWoven, AreWovenOn}
use Rattle.certify.proofs.Fields.{first_read}
use Rattle.certify.proofs.FirstWrong.{find_none}
use Rattle.certify.proofs.InOrder.{order_moves, served_earlier}
use Rattle.certify.proofs.Intervals.{AreIntervalsAt, intervals_read, intervals_stay}
use Rattle.certify.proofs.Steps.{still_serves, still_takes}
use Rattle.certify.proofs.Lists.{among_them, at_place}
use Rattle.certify.proofs.OneOrder.{in_order_is}
use Rattle.certify.proofs.Places.{stands_at}
use Rattle.certify.proofs.Sorting.{in_order_keys}
use Rattle.certify.proofs.WeaveLaws.{WeaveLaws}
use Rattle.certify.proofs.WrittenAndRead.{read_again}
use Rattle.certify.proofs.Yes.{interval_woven}

-- ---- a component that serves in turn

turn_at : (c : Comp) (number : ℕ) (xs : List FiredEvent) (k : ℕ) (x : FiredEvent) → ServesInTurn comp_step c (of_component number xs) → slice_get xs k ≡ Some x → x.event.component ≡ number
    → x.finish ≡ (comp_step (after_serving comp_step c (of_component number (take k xs))) x.event.kind x.start).1
turn_at c number [] k x turns is own = cc
turn_at c number (y ∷ ys) zero x turns is own =
    let same : y ≡ x = cc in
    let first : of_component number (y ∷ ys) ≡ y ∷ of_component number ys = rw (eq-eqb y.event.component number (ap (λ z. z.event.component) same ∙ own)) refl in
    subst (λ z. z.finish ≡ (comp_step c z.event.kind z.start).1) same (subst (ServesInTurn comp_step c) first turns).0
turn_at c number (y ∷ ys) (suc k) x turns is own =
    elim (cases_eq y.event.component number) [
      | inl mine ↦
          let whole : of_component number (y ∷ ys) ≡ y ∷ of_component number ys = rw (eq-eqb y.event.component number mine) refl in
          let part : of_component number (y ∷ take k ys) ≡ y ∷ of_component number (take k ys) = rw (eq-eqb y.event.component number mine) refl in
          turn_at (comp_step c y.event.kind y.start).0 number ys k x (subst (ServesInTurn comp_step c) whole turns).1 is own
          ∙ ap (λ zs. (comp_step (after_serving comp_step c zs) x.event.kind x.start).1) (sym part)
      | inr other ↦
          let whole : of_component number (y ∷ ys) ≡ of_component number ys = rw (ne_eqb y.event.component number other) refl in
          let part : of_component number (y ∷ take k ys) ≡ of_component number (take k ys) = rw (ne_eqb y.event.component number other) refl in
          turn_at c number ys k x (subst (ServesInTurn comp_step c) whole turns) is own
          ∙ ap (λ zs. (comp_step (after_serving comp_step c zs) x.event.kind x.start).1) (sym part)
    ]

-- ---- the weave's are right

module _ (comps : List Comp) (timed : List FiredEvent) (records : List ℕ) (are : AreRecords comps timed records)
    (solution : IsSolution comp_step (map (λ x. x.event) timed) comps timed) where
  sorted_is : solution.sorted ≡ in_order timed
  sorted_is = in_order_is comps timed records are solution.sorted solution.in_order (λ x. (solution.same x).0) (λ x. (solution.same x).1)

  start_right : (place : ℕ) (x : FiredEvent) → slice_get timed place ≡ Some x → has_right_start timed x ≡ true
  start_right place x is = eq-eqb x.start (start_of (finish_in timed) x.event) (solution.starts x (among_them timed place x is))

  finish_right : (place : ℕ) (x : FiredEvent) → slice_get timed place ≡ Some x → has_right_finish comps timed x ≡ true
  finish_right place x is =
      let number = x.event.component in
      let stands = stands_at comps timed records place x are is in
      let there : slice_get comps number ≡ Some stands.component = ap (slice_get comps) (sym (ap (λ (y : FiredEvent). y.event.component) stands.is)) ∙ stands.there in
      let turn = Contains-permutation timed (in_order timed) x (order_moves timed) (among_them timed place x is) in
      let at : slice_get (in_order timed) turn.0 ≡ Some x = at_place (in_order timed) x turn in
      let turns : ServesInTurn comp_step stands.component (of_component number (in_order timed)) =
      subst (λ xs. ServesInTurn comp_step stands.component (of_component number xs)) sorted_is (solution.finishes number stands.component there) in
      let served : x.finish ≡ finish_on stands.component timed x =
      turn_at stands.component number (in_order timed) turn.0 x turns at refl
      ∙ ap (λ zs. (comp_step (after_serving comp_step stands.component zs) x.event.kind x.start).1)
      (sym (served_earlier number (in_order timed) turn.0 x (in_order_keys comps timed records are) at)) in
      let found : finish_by comps timed x ≡ Some (finish_on stands.component timed x) = ap (option_map (λ c. finish_on c timed x)) there in
      ap (λ o. option_map_or (λ finish. x.finish == finish) o false) found ∙ eq-eqb x.finish (finish_on stands.component timed x) served

  pub none_wrong : find (is_wrong comps timed) timed ≡ None
  none_wrong = find_none (is_wrong comps timed) timed (λ place x is. rw (start_right place x is, finish_right place x is) refl)

-- ---- all intervals fit the components at the start

fits_back : (comps after : List Comp) (xs : List FiredEvent) (served : (number : ℕ) → slice_get after number ≡ option_map (λ c. after_serving comp_step c (of_component number xs)) (slice_get comps number))
    (e : Event) → EventFits comp_serves comp_latency after e → EventFits comp_serves comp_latency comps e
fits_back comps after xs served e fits = by_comp (slice_get comps e.component) refl (sym (served e.component) ∙ fits.there)
  where
    own : List FiredEvent
    own = of_component e.component xs

    by_comp : (o : Option Comp) → slice_get comps e.component ≡ o → option_map (λ c. after_serving comp_step c (of_component e.component xs)) o ≡ Some fits.component → EventFits comp_serves comp_latency comps e
    by_comp None at is = cc
    by_comp (Some c) at is =
        let same : after_serving comp_step c (of_component e.component xs) ≡ fits.component = cc in
        record {
          component = c;
          there = at;
          served = sym (still_serves c (of_component e.component xs) e.kind) ∙ (ap (λ d. comp_serves d e.kind) same ∙ fits.served);
          floor_is = ap (λ n. e.min_start + n) (sym (still_takes c (of_component e.component xs) e.kind) ∙ ap (λ d. comp_latency d e.kind) same) ∙ fits.floor_is;
        }

module _ (laws : WeaveLaws) where
  fitting_back : (comps : List Comp) (timed other : List FiredEvent) → AreWovenOn comps timed → IsFitting (comps_after comp_step (map (λ x. x.event) timed) comps) other → IsFitting comps other
  fitting_back comps timed other woven_on fitting =
      let events = map (λ (x : FiredEvent). x.event) timed in
      record {
        numbered = fitting.numbered;
        fits = λ i e is. fits_back comps (comps_after comp_step events comps) (weave comp_step events comps).fired
            (λ number. laws.own_events events comps (length events) number woven_on.fitting.numbered woven_on.fitting.fits) e (fitting.fits i e is);
      }

  all_fitting : (comps now : List Comp) (intervals : List (List FiredEvent)) → ((timed : List FiredEvent) → IsFitting now timed → IsFitting comps timed) → AreWoven now intervals → All (IsFitting comps) intervals
  all_fitting comps now [] back are = All-nil (IsFitting comps)
  all_fitting comps now (timed ∷ rest) back are =
      All-cons (IsFitting comps) timed rest (back timed are.0.fitting)
      (all_fitting comps (comps_after comp_step (map (λ x. x.event) timed) now) rest (λ other fits. back other (fitting_back now timed other are.0 fits)) are.1)

  -- ---- the verdict

  none_is_wrong : (comps : List Comp) (file : List ℕ) (interval at : ℕ) (intervals : List (List FiredEvent)) → AreIntervalsAt comps file at intervals → AreWoven comps intervals
      → first_wrong comps interval intervals ≡ None
  none_is_wrong comps file interval at [] places are = refl
  none_is_wrong comps file interval at (timed ∷ rest) places are =
      let events = map (λ (x : FiredEvent). x.event) timed in
      let solution = (laws.one_solution events comps timed are.0.fitting.numbered are.0.fitting.fits).1 are.0.woven_so in
      let none = none_wrong comps timed _ places.0.records solution in
      let after = (interval_woven laws comps timed _ places.0.records none).1 in
      ap (λ o. or_verdict o (wrong_as timed interval) (first_wrong (after_all comps timed) (interval + 1) rest)) none
      ∙ none_is_wrong (after_all comps timed) file (interval + 1) (at + (4 + 64 * length timed)) rest (intervals_stay comps timed file (at + (4 + 64 * length timed)) rest places.1)
      (subst (λ cs. AreWoven cs rest) (sym after) are.1)

  pub woven_is_accepted : (comps : List Comp) (intervals : List (List FiredEvent)) → CanBeFiled (length comps) intervals → AreWoven comps intervals
      → verdict_of comps (events_file_of (length comps) intervals) ≡ Ok (Yes (length intervals) (sum_by length intervals))
  unfolding events_of
  woven_is_accepted comps intervals can are =
      let file = events_file_of (length comps) intervals in
      let read : events_of comps file ≡ Ok intervals = read_again comps intervals can (all_fitting comps comps intervals (λ timed fits. fits) are) in
      let body = first_read (count_of (length comps) file) (λ n. intervals_from comps file n 0 16) intervals read in
      let none = none_is_wrong comps file 0 16 intervals (intervals_read comps file body.0 0 16 intervals body.2) are in
      ap (λ r. then_read r (λ is. Ok (verdict_on comps is))) read
      ∙ ap (λ (o : Option Verdict). Ok (told_or o (Yes (length intervals) (sum_by length intervals)))) none
