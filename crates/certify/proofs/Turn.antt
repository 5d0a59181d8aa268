-- The next of the events that the components serve in order: its record, and its component.
use Rattle.std.proofs.Common.{◌≡◌, ◌<◌, ◌≤◌, ◌+◌, ◌*◌, ◌^◌, ℕ, true, List, length, map, take, Some, ap, sym, ◌∙◌, subst, arith}
use Rattle.std.specs.Prelude.{slice_get, slice_set}
use Rattle.std.specs.Option.{option_map}
use Rattle.std.proofs.lemmas.Option.{get_or_from_slice_get, slice_get_within}
use Rattle.component.specs.declared.comp.Comp.{Comp}
use Rattle.component.specs.Serving.{comp_serves}
use Rattle.event_graph.specs.OneListWeave.{FiredEvent}
use Rattle.event_graph.specs.ServedEvents.{after_serving, of_component}
use Rattle.zs_num.specs.declared.time.Key.{Key}
use Rattle.certify.specs.EventsFile.{kind_in}
use Rattle.certify.specs.Records.{AreRecords, key_of, record_at}
use Rattle.certify.specs.ShortTimes.{HaveShortTimes, capped_step, longest_time}
use Rattle.certify.specs.Verdict.{in_order}
use Rattle.certify.proofs.Steps.{capped_still_serves}
use Rattle.certify.proofs.Lists.{mapped}
use Rattle.certify.proofs.Places.{stands_at}
use Rattle.certify.proofs.Serving.{HaveServed, one_more_served}
use Rattle.certify.proofs.Sorting.{in_order_keys, one_each, place_of}

-- the event whose turn it is, and where its component is
pub record IsTurn (served : List Comp) (timed : List FiredEvent) (records : List ℕ) (comps : List Comp) (k : ℕ) (key : Key) (x : FiredEvent) : Type 0 where
  pub turn : slice_get (in_order timed) k ≡ Some x
  pub number : x.event.number ≡ key.number
  pub start : x.start ≡ key.start
  pub place : slice_get timed key.number ≡ Some x
  pub within : 64 * key.number + 64 ≤ length records
  pub known : kind_in (record_at records key.number) ≡ Some x.event.kind
  pub component : (record_at records key.number).component ≡ x.event.component
  pub early : key.start < 2 ^ 60
  pub now : Comp
  pub there : slice_get comps x.event.component ≡ Some now
  pub serves : comp_serves now x.event.kind ≡ true

pub is_turn : (served : List Comp) (timed : List FiredEvent) (records : List ℕ) (comps : List Comp) (finishes : List ℕ) (keys : List Key) (k : ℕ) (key : Key)
    → AreRecords served timed records → keys ≡ map key_of (in_order timed) → HaveServed served timed comps finishes k → slice_get keys k ≡ Some key
    → (x : FiredEvent) × IsTurn served timed records comps k key x
is_turn served timed records comps finishes keys k key are keys_are have at =
    let of = mapped key_of (in_order timed) k key (subst (λ ks. slice_get ks k ≡ Some key) keys_are at) in
    let x = of.0 in
    let number : x.event.number ≡ key.number = ap (λ (q : Key). q.number) of.2 in
    let start : x.start ≡ key.start = ap (λ (q : Key). q.start) of.2 in
    let place : slice_get timed key.number ≡ Some x = subst (λ n. slice_get timed n ≡ Some x) number (place_of served timed records are k x of.1) in
    let stands = stands_at served timed records key.number x are place in
    let component : (record_at records key.number).component ≡ x.event.component = ap (λ (y : FiredEvent). y.event.component) stands.is in
    let own = of_component x.event.component (take k (in_order timed)) in
    let first : slice_get served x.event.component ≡ Some stands.component = ap (slice_get served) (sym component) ∙ stands.there in
    let began : key.start ≡ (record_at records key.number).start = sym start ∙ sym (ap (λ (y : FiredEvent). y.start) stands.is) in (
      x,
      record {
        turn = of.1;
        number = number;
        start = start;
        place = place;
        within = omega (arith, slice_get_within timed key.number x place, are.long);
        known = stands.kind;
        component = component;
        early = omega (arith, began, stands.meaning.start);
        now = after_serving capped_step stands.component own;
        there = have.comps_are x.event.component ∙ ap (option_map (λ c. after_serving capped_step c own)) first;
        serves = capped_still_serves stands.component own x.event.kind ∙ stands.served;
      },
    )

-- after its turn
pub after_turn : (served : List Comp) (timed : List FiredEvent) (records : List ℕ) (comps after : List Comp) (finishes ends : List ℕ) (k : ℕ) (key : Key) (x : FiredEvent)
    → AreRecords served timed records → HaveServed served timed comps finishes k → (turn : IsTurn served timed records comps k key x)
    → after ≡ slice_set comps (record_at records key.number).component (capped_step turn.now x.event.kind key.start).0
    → ends ≡ slice_set finishes key.number (capped_step turn.now x.event.kind key.start).1
    → HaveServed served timed after ends (k + 1)
after_turn served timed records comps after finishes ends k key x are have turn comps_are ends_are =
    let more = one_more_served served timed comps finishes k x turn.now have (in_order_keys served timed records are) turn.turn
    (λ j y is. slice_get_within timed y.event.number y (place_of served timed records are j y is))
    (λ j y is same. one_each served timed records are j k y x is turn.turn same) turn.there in
    let here : slice_set comps x.event.component (capped_step turn.now x.event.kind x.start).0 ≡ after =
    ap (λ n. slice_set comps n (capped_step turn.now x.event.kind x.start).0) (sym turn.component)
    ∙ (ap (λ s. slice_set comps (record_at records key.number).component (capped_step turn.now x.event.kind s).0) turn.start ∙ sym comps_are) in
    let there : slice_set finishes x.event.number (capped_step turn.now x.event.kind x.start).1 ≡ ends =
    ap (λ n. slice_set finishes n (capped_step turn.now x.event.kind x.start).1) turn.number
    ∙ (ap (λ s. slice_set finishes key.number (capped_step turn.now x.event.kind s).1) turn.start ∙ sym ends_are) in
    subst (λ cs. HaveServed served timed cs ends (k + 1)) here (subst (λ fs. HaveServed served timed (slice_set comps x.event.component (capped_step turn.now x.event.kind x.start).0) fs (k + 1)) there more)

-- its component has short times
pub now_short : (served : List Comp) (timed : List FiredEvent) (records : List ℕ) (comps : List Comp) (k : ℕ) (key : Key) (x : FiredEvent)
    → (turn : IsTurn served timed records comps k key x) → HaveShortTimes comps → longest_time turn.now < 2 ^ 60
now_short served timed records comps k key x turn short =
    let within = slice_get_within comps x.event.component turn.now turn.there in
    subst (λ c. longest_time c < 2 ^ 60) (get_or_from_slice_get comps x.event.component turn.now turn.now turn.there) (short x.event.component turn.now within)
