-- Each access that finds no copy is of one class.
use Rattle.std.proofs.Common.{◌≡◌, ℕ, ◌+◌, ◌&&◌, Bool, cond, not, List, [], ◌∷◌, ◌++◌, map, sum_by, refl, sym, ◌∙◌, ap, arith}
use Rattle.std.specs.List.{zip}
use Rattle.std.proofs.lemmas.List.Sums.{sum_by-append, sum_by-cons}
use Rattle.zs_num.specs.declared.entry.Entry.{Entry}
use Rattle.zs_num.specs.declared.entry.Outcome.{Outcome}
use Rattle.zs_num.specs.declared.entry.Outcome.TheVariants.{Hit, Upgrade, L2, Miss}
use Rattle.stats.specs.Counted.{is_l2hit, is_miss, one_if}
use Rattle.trace.specs.Trace.{Accessed, Ended, Executed, Step}
use Rattle.profile_rows.specs.declared.tally.Tally.{Tally}
use Rattle.profile_rows.specs.Tallies.{plus}
use Rattle.profile.specs.declared.contribution.Contribution.{Contribution}
use Rattle.profile.specs.declared.copies.CopyState.{CopyState}
use Rattle.profile.specs.declared.copies.CopyState.TheVariants.{Never, Held, Gone}
use Rattle.profile.specs.declared.copies.Leave.TheVariants.{Coherence, Inclusion, Eviction}
use Rattle.profile.specs.Contributions.{Before, access_tally, after_step, contributions, nothing_before, step_adds, steps_add, suffered_tally, suffering, suffers, tally_of, wait_adds}
use Rattle.profile.specs.Copies.{finds_none, is_cold, is_gone_by, is_held, own_copy, taken_away}
use Rattle.profile.specs.Laws.{AreClassed, FindWhatIsHeld}
use Rattle.profile.specs.Waits.{Wait, event_waits}
use Rattle.profile.proofs.Fields.{IsSum, counted_if, field_of}

abbrev classed : Tally → ℕ
classed t = t.cold + t.coherence + t.inclusion + t.eviction

abbrev unfound : Tally → ℕ
unfound t = t.l2hits + t.misses

classed_sums : IsSum classed
unfolding plus
classed_sums = record { none = refl; both = λ a b. omega arith }

unfound_sums : IsSum unfound
unfolding plus
unfound_sums = record { none = refl; both = λ a b. omega arith }

-- ---- an access

one_class : (outcome : Outcome) (copy : CopyState) → is_held copy ≡ not (finds_none outcome)
    → one_if (finds_none outcome && is_cold copy) + one_if (finds_none outcome && is_gone_by Coherence copy) + one_if (finds_none outcome && is_gone_by Inclusion copy) + one_if (finds_none outcome && is_gone_by Eviction copy)
    ≡ one_if (is_l2hit outcome) + one_if (is_miss outcome)
one_class Hit copy is = refl
one_class (Upgrade others) copy is = refl
one_class (L2 others) Never is = refl
one_class (L2 others) Held is = cc
one_class (L2 others) (Gone Coherence) is = refl
one_class (L2 others) (Gone Inclusion) is = refl
one_class (L2 others) (Gone Eviction) is = refl
one_class (Miss dirty) Never is = refl
one_class (Miss dirty) Held is = cc
one_class (Miss dirty) (Gone Coherence) is = refl
one_class (Miss dirty) (Gone Inclusion) is = refl
one_class (Miss dirty) (Gone Eviction) is = refl

access_classed : (e : Entry) (copy : CopyState) (taken cycles : ℕ) → is_held copy ≡ not (finds_none e.outcome) → AreClassed (access_tally e copy taken cycles)
unfolding access_tally
access_classed e copy taken cycles is = one_class e.outcome copy is

suffered_classed : (e : Entry) → AreClassed (suffered_tally e)
unfolding suffered_tally
suffered_classed e = refl

-- ---- all steps

module _ (test : Contribution → Bool) where
  abbrev classed_in : List Contribution → ℕ
  classed_in cs = sum_by (counted_if test (λ c. classed c.tally)) cs

  abbrev unfound_in : List Contribution → ℕ
  unfound_in cs = sum_by (counted_if test (λ c. unfound c.tally)) cs

  waits_classed : (waits : List Wait) → classed_in (map wait_adds waits) ≡ unfound_in (map wait_adds waits)
  waits_classed [] = refl
  waits_classed (w ∷ waits) =
      omega (
        arith,
        sum_by-cons (counted_if test (λ c. classed c.tally)) (wait_adds w) (map wait_adds waits),
        waits_classed waits,
        sum_by-cons (counted_if test (λ c. unfound c.tally)) (wait_adds w) (map wait_adds waits),
      )

  module _ (time : Entry → ℕ) (cores : ℕ) where
    one_more : (c : Contribution) (cs : List Contribution) → AreClassed c.tally → classed_in cs ≡ unfound_in cs → classed_in (c ∷ cs) ≡ unfound_in (c ∷ cs)
    one_more c cs own rest =
        let here : counted_if test (λ x. classed x.tally) c ≡ counted_if test (λ x. unfound x.tally) c = ap (λ (n : ℕ). cond (test c) n 0) own in
        omega (
          arith,
          sum_by-cons (counted_if test (λ x. classed x.tally)) c cs,
          here,
          rest,
          sum_by-cons (counted_if test (λ x. unfound x.tally)) c cs,
        )

    all_suffered : (e : Entry) (others : List ℕ) → classed_in (map (suffers e) others) ≡ unfound_in (map (suffers e) others)
    all_suffered e [] = refl
    all_suffered e (other ∷ others) = one_more (suffers e other) (map (suffers e) others) (suffered_classed e) (all_suffered e others)

    both : (xs ys : List Contribution) → classed_in xs ≡ unfound_in xs → classed_in ys ≡ unfound_in ys → classed_in (xs ++ ys) ≡ unfound_in (xs ++ ys)
    both xs ys one two =
        omega (
          arith,
          sum_by-append (counted_if test (λ c. classed c.tally)) xs ys,
          one,
          two,
          sum_by-append (counted_if test (λ c. unfound c.tally)) xs ys,
        )

    steps_classed : (before : Before) (steps : List Step) → FindWhatIsHeld before.copies steps → classed_in (steps_add time cores before steps) ≡ unfound_in (steps_add time cores before steps)
    steps_classed before [] held = refl
    steps_classed before (Executed core pc ∷ steps) held = steps_classed before steps held
    steps_classed before (Accessed pc e leaving ∷ steps) held =
        let after = after_step before (Accessed pc e leaving) in
        both (step_adds time cores before (Accessed pc e leaving)) (steps_add time cores after steps)
        (one_more _ (map (suffers e) (suffering cores before.copies e)) (access_classed e (own_copy before.copies e) (taken_away cores before.copies e) (time e) held.0) (all_suffered e (suffering cores before.copies e)))
        (steps_classed after steps held.1)
    steps_classed before (Ended interval ∷ steps) held =
        let after = after_step before (Ended interval) in
        both (step_adds time cores before (Ended interval)) (steps_add time cores after steps)
        (waits_classed (event_waits before.makers (zip interval.events interval.fired)))
        (steps_classed after steps held)

    pub classes_add_up : (steps : List Step) → FindWhatIsHeld nothing_before.copies steps → AreClassed (tally_of test (contributions time cores steps))
    classes_add_up steps held =
        field_of classed classed_sums test (contributions time cores steps)
        ∙ steps_classed nothing_before steps held
        ∙ sym (field_of unfound unfound_sums test (contributions time cores steps))
