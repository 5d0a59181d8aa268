-- Turns that took given entries, and instructions of the turn that follows.
use Rattle.std.proofs.Common.{◌≡◌, ℕ, ◌+◌, ◌≤◌, List, [], ◌∷◌, ◌++◌, length, Option, Some, None, refl, sym, ◌∙◌, ap, subst, arith}
use Rattle.zs_num.specs.declared.entry.Entry.{Entry}
use Rattle.zs_num.specs.declared.request.Request.{Request}
use Rattle.elf_load.specs.MemoryImage.{MemoryImage}
use Rattle.reference.specs.IntervalBounds.{latest_clock, most_accesses}
use Rattle.bound_core.specs.Taken.{HasTaken, Settles, TakesOne, TakesThese}
use Rattle.reference.specs.TimedCore.{TimedCore, asks, core_after_access, ran_to}
use Rattle.reference.specs.Turn.{TakesTurn, TurnsToEnd}
use Rattle.reference.proofs.Lists.{all_none}
use Rattle.bound_core.proofs.Turns.{gains_nothing, none_taken, one_more, taken_both}

module _ {Port : Type 0} (time : Entry → ℕ) (image : MemoryImage) (end : ℕ) (gives : Port → (start : ℕ) → Request → Entry → Port → Type 0) where
  -- ---- turns depend on where the core's local instructions lead alone

  pub turn_same : (port next : Port) (now settled core : TimedCore) (e : Entry) → ran_to image end settled ≡ ran_to image end now
      → TakesTurn time image end gives port next settled core e → TakesTurn time image end gives port next now core e
  turn_same port next now settled core e same turn = record {
    request = turn.request;
    asked = subst (λ (ran : TimedCore). asks ran ≡ Some turn.request) same turn.asked;
    given = subst (λ (ran : TimedCore). gives port ran.clock turn.request e next) same turn.given;
    left = turn.left ∙ ap (core_after_access time e) same;
  }

  pub turns_same : (entries : List Entry) (port last : Port) (now settled after : TimedCore) → ran_to image end settled ≡ ran_to image end now
      → TurnsToEnd time image end gives entries port last settled after → TurnsToEnd time image end gives entries port last now after
  turns_same [] port last now settled after same turns = record {
    asked = subst (λ (ran : TimedCore). asks ran ≡ None) same turns.asked;
    left = turns.left ∙ same;
    same = turns.same;
  }
  turns_same (e ∷ entries) port last now settled after same (next, (core, (turn, turns))) =
      (next, (core, (turn_same port next now settled core e same turn, turns)))

  -- ---- one after the other

  pub settles_itself : (c : TimedCore) → Settles time image end gives c c
  settles_itself c = record { ran = refl; begun = omega arith; not_later = omega arith; fewer = omega arith; memory = refl; fetching = refl }

  pub settles_both : (before now after : TimedCore) → Settles time image end gives before now → Settles time image end gives now after → Settles time image end gives before after
  settles_both before now after one two = record {
    ran = two.ran ∙ one.ran;
    begun = omega (arith, one.begun, two.begun);
    not_later = omega (arith, one.not_later, two.not_later);
    fewer = omega (arith, one.fewer, two.fewer);
    memory = two.memory ∙ one.memory;
    fetching = two.fetching ∙ one.fetching;
  }

  module _ (logged_of : Port → Option (List Entry)) (number : ℕ) where
    pub settled_takes : (port next : Port) (before now after : TimedCore) (e : Entry) → Settles time image end gives before now
        → TakesOne time image end gives logged_of number port next now after e → TakesOne time image end gives logged_of number port next before after e
    settled_takes port next before now after e settles one = record {
      turn = turn_same port next before now after e settles.ran one.turn;
      core = one.core;
      starts = omega (arith, one.starts, settles.not_later);
      fewer = omega (arith, one.fewer, settles.fewer);
      not_later = omega (arith, one.not_later, settles.not_later);
      begun = omega (arith, one.begun, settles.begun);
      memory = one.memory ∙ settles.memory;
      fetching = one.fetching ∙ settles.fetching;
      logged = one.logged;
    }

    -- instructions behind them
    pub these_on : (entries : List Entry) (port last : Port) (before now after : TimedCore) → TakesThese time image end gives logged_of number entries port last before now
        → Settles time image end gives now after → TakesThese time image end gives logged_of number entries port last before after
    these_on [] port last before now after (same, settled) settles = (same, settles_both before now after settled settles)
    these_on (e ∷ entries) port last before now after (next, (core, (one, these))) settles = (next, (core, (one, these_on entries next last core now after these settles)))

    -- a turn behind them
    pub these_more : (entries : List Entry) (e : Entry) (port middle last : Port) (before now after : TimedCore) → TakesThese time image end gives logged_of number entries port middle before now
        → TakesOne time image end gives logged_of number middle last now after e → TakesThese time image end gives logged_of number (entries ++ e ∷ []) port last before after
    these_more [] e port middle last before now after (same, settled) one =
        let here : TakesOne time image end gives logged_of number port last now after e = subst (λ (p : Port). TakesOne time image end gives logged_of number p last now after e) same one in
        (last, (after, (settled_takes port last before now after e settled here, (refl, settles_itself after))))
    these_more (x ∷ entries) e port middle last before now after (next, (core, (first, these))) one =
        (next, (core, (first, these_more entries e next middle last core now after these one)))

    -- ---- of an interval

    settled_taken : (port : Port) (before after : TimedCore) → Settles time image end gives before after → HasTaken time image end gives logged_of number port port before after
    settled_taken port before after settles = record {
      entries = [];
      path = λ rest last ended turns. turns_same rest port last before after ended settles.ran turns;
      cores = all_none (λ e. e.core ≡ number);
      starts = all_none (λ e. e.start ≤ latest_clock end before);
      few = omega (arith, settles.fewer);
      logged_is = gains_nothing (logged_of port);
    }

    -- they are its turns so far
    pub these_taken : (entries : List Entry) (port last : Port) (before after : TimedCore) → TakesThese time image end gives logged_of number entries port last before after
        → HasTaken time image end gives logged_of number port last before after
    these_taken [] port last before after (same, settles) =
        subst (λ (p : Port). HasTaken time image end gives logged_of number port p before after) (sym same) (settled_taken port before after settles)
    these_taken (e ∷ entries) port last before after (next, (core, (one, these))) =
        taken_both time image end gives logged_of number port next last before core after
        (one_more time image end gives logged_of number port port next before before core e (none_taken time image end gives logged_of number port before) one.turn one.core one.starts one.fewer one.logged)
        one.not_later (these_taken entries next last core after these)

    -- and no more than it may have
    pub these_few : (entries : List Entry) (port last : Port) (before after : TimedCore) → TakesThese time image end gives logged_of number entries port last before after
        → length entries + most_accesses end after ≤ most_accesses end before
    these_few [] port last before after (same, settles) = omega (arith, settles.fewer)
    these_few (e ∷ entries) port last before after (next, (core, (one, these))) =
        let rest = these_few entries next last core after these in omega (arith, rest, one.fewer)
