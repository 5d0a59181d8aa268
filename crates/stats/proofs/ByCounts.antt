-- The counts with an interval more, of which the counts are known.
use Rattle.std.proofs.Common.{◌≡◌, ◌==◌, ◌<◌, ℕ, List, length, get_or, map, slice_index, ap, ◌∙◌, sym, subst, arith, refl, slice_get}
use Rattle.std.specs.List.{filter, fold}
use Rattle.std.proofs.lemmas.Option.{slice_get-get_or}
use Rattle.zs_num.specs.declared.entry.Entry.{Entry}
use Rattle.component.specs.declared.comp.Comp.{Comp}
use Rattle.component.specs.ComponentStep.{free_of}
use Rattle.stats.specs.declared.counts.CoreCount.{CoreCount}
use Rattle.stats.specs.declared.counts.CompCount.{CompCount}
use Rattle.stats.specs.Counted.{core_plus, comp_plus, delay_count, entry_count, no_core_count}
use Rattle.stats.specs.Counts.{Interval}
use Rattle.stats.specs.CountsFit.{CoreFits, CompFits}
use Rattle.stats.specs.KnownCounts.{AreAccessCounts, AreEventCounts, access_count_in}
use Rattle.stats.specs.Passes.{with_counted, with_free}
use Rattle.stats.proofs.Added.{core_next, comp_next, core_is, counted_in}
use Rattle.stats.proofs.Plus.{core_plus-assoc, same_core, plus-fold}

plus_nothing : (a b : CoreCount) → core_plus (core_plus a b) no_core_count ≡ core_plus a (core_plus no_core_count b)
unfolding core_plus
plus_nothing a b =
    same_core _ _ (omega arith) (omega arith) (omega arith) (omega arith) (omega arith) (omega arith) (omega arith) (omega arith) (omega arith)

module _ (i : Interval) where
  -- a core's accesses one after the other, or their count
  at_once : (c : CoreCount) (n : ℕ) → with_counted c (slice_index i.delays n) (access_count_in i n) ≡ core_next i c n
  at_once c n =
      let own : List CoreCount = map entry_count (filter (λ e. e.core == n) i.entries) in
      let delay : CoreCount = delay_count (slice_index i.delays n) in
      plus-fold core_plus core_plus-assoc (core_plus c delay) no_core_count own
      ∙ ap (λ (x : CoreCount). fold core_plus x own) (plus_nothing c delay)
      ∙ sym (plus-fold core_plus core_plus-assoc c (core_plus no_core_count delay) own)
      ∙ sym (core_is i c n)

  -- the cores: a list is their counts before, another one what their accesses count
  module _ (counts : List CoreCount) (accesses : ℕ) (are : AreAccessCounts i counts accesses) (delays : List ℕ) (delays_are : i.delays ≡ delays) (first : List CoreCount) (long : length counts ≡ length first) where
    core_at_once : (n : ℕ) (d : CoreCount) → n < length first → with_counted (get_or first n d) (slice_index delays n) (get_or counts n d) ≡ core_next i (get_or first n d) n
    core_at_once n d below =
        let there : n < length counts = omega (arith, long) in
        ap (λ (ds : List ℕ). with_counted (get_or first n d) (slice_index ds n) (get_or counts n d)) (sym delays_are)
        ∙ ap (λ (x : CoreCount). with_counted (get_or first n d) (slice_index i.delays n) x) (are.each n (get_or counts n d) (slice_get-get_or counts n d there))
        ∙ at_once (get_or first n d) n

    pub cores_at_once : (now : List CoreCount) → ((n : ℕ) (d : CoreCount) → n < length first → get_or now n d ≡ with_counted (get_or first n d) (slice_index delays n) (get_or counts n d))
        → (n : ℕ) (d : CoreCount) → n < length first → get_or now n d ≡ core_next i (get_or first n d) n
    cores_at_once now each n d below = each n d below ∙ core_at_once n d below

    pub counted_cores_fit : ((n : ℕ) (d : CoreCount) → n < length first → CoreFits (core_next i (get_or first n d) n))
        → (n : ℕ) (d : CoreCount) → n < length first → CoreFits (with_counted (get_or first n d) (slice_index delays n) (get_or counts n d))
    counted_cores_fit fits n d below = subst CoreFits (sym (core_at_once n d below)) (fits n d below)

  -- the components likewise
  module _ (counts : List CompCount) (events : ℕ) (are : AreEventCounts i counts events) (first : List CompCount) (long : length counts ≡ length first) where
    comp_at_once : (n : ℕ) (d : CompCount) → n < length first → comp_plus (get_or first n d) (get_or counts n d) ≡ comp_next i (get_or first n d) n
    comp_at_once n d below =
        let there : n < length counts = omega (arith, long) in
        ap (λ (x : CompCount). comp_plus (get_or first n d) x) (are.each n (get_or counts n d) (slice_get-get_or counts n d there)) ∙ sym (counted_in i (get_or first n d) n)

    pub comps_at_once : (now : List CompCount) (comps : List Comp)
        → ((n : ℕ) (d : CompCount) (c : Comp) → n < length first → get_or now n d ≡ with_free (comp_plus (get_or first n d) (get_or counts n d)) (free_of (get_or comps n c)))
        → (n : ℕ) (d : CompCount) (c : Comp) → n < length first → get_or now n d ≡ with_free (comp_next i (get_or first n d) n) (free_of (get_or comps n c))
    comps_at_once now comps each n d c below =
        each n d c below ∙ ap (λ (x : CompCount). with_free x (free_of (get_or comps n c))) (comp_at_once n d below)

    pub counted_comps_fit : ((n : ℕ) (d : CompCount) → n < length first → CompFits (comp_next i (get_or first n d) n))
        → (n : ℕ) (d : CompCount) → n < length first → CompFits (comp_plus (get_or first n d) (get_or counts n d))
    counted_comps_fit fits n d below = subst CompFits (sym (comp_at_once n d below)) (fits n d below)
