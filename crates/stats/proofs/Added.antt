-- The counts with an interval more, from what is true of each core and of each component.
use Rattle.std.proofs.Common.{◌≡◌, ◌+◌, ◌<◌, ℕ, List, [], ◌∷◌, ◌==◌, length, get_or, map, slice_index, ap, ◌∙◌, sym, subst, arith, zero-add}
use Rattle.std.specs.List.{zip, enumerate_from, filter, fold}
use Rattle.std.proofs.lemmas.List.Folds.{fold-map}
use Rattle.std.proofs.lemmas.List.{length-map, same_lists, get_or-map}
use Rattle.std.proofs.lemmas.List.FromFn.{length-enumerate_from, get_or-enumerate_from}
use Rattle.std.proofs.lemmas.Slice.Zip.{length-zip, get_or-zip}
use Rattle.zs_num.specs.declared.entry.Entry.{Entry}
use Rattle.event_graph.specs.declared.event.Event.{Event}
use Rattle.event_graph.specs.declared.fired.Fired.{Fired}
use Rattle.component.specs.declared.comp.Comp.{Comp}
use Rattle.component.specs.ComponentStep.{free_of}
use Rattle.stats.specs.declared.counts.CoreCount.{CoreCount}
use Rattle.stats.specs.declared.counts.CompCount.{CompCount}
use Rattle.stats.specs.Counted.{core_plus, entry_count, delay_count, no_core_count, comp_plus, event_count, no_comp_count}
use Rattle.stats.specs.Counts.{Interval, Counts, comp_count_in}
use Rattle.stats.specs.CountsFit.{CoreFits, CompFits, CountsFit}
use Rattle.stats.specs.Added.{added, core_count_after, comp_count_after}
use Rattle.stats.specs.Passes.{with_accesses, with_delay, with_events, with_free}
use Rattle.stats.proofs.Plus.{core_plus-assoc, core_plus-none, comp_plus-assoc, comp_plus-none, plus-fold}

-- a list made of another's elements and their numbers
length_numbered : {X Y : Type 0} (f : ℕ × X → Y) (xs : List X) → length (map f (enumerate_from 0 xs)) ≡ length xs
length_numbered f xs = length-map (enumerate_from 0 xs) f ∙ length-enumerate_from 0 xs

at_number : {X Y : Type 0} (f : ℕ × X → Y) (xs : List X) (n : ℕ) (d : X) (z : Y) → n < length xs → get_or (map f (enumerate_from 0 xs)) n z ≡ f (n, get_or xs n d)
at_number {X} f xs n d z below =
    let there : n < length (enumerate_from 0 xs) = omega (arith, length-enumerate_from 0 xs) in
    get_or-map f (enumerate_from 0 xs) n (0, d) z there
    ∙ ap f (get_or-enumerate_from 0 xs n (0, d) below)
    ∙ ap (λ (k : ℕ). f (k, get_or xs n d)) (zero-add n)

-- an element of a list that has one
one_of : {X : Type 0} (xs : List X) (n : ℕ) → n < length xs → X
one_of [] n below = absurd (omega arith)
one_of (x ∷ xs) n below = x

module _ (i : Interval) where
  -- a core's and a component's count after the passes over the interval
  abbrev pub core_next : CoreCount → (n : ℕ) → CoreCount
  core_next c n = with_accesses (with_delay c (slice_index i.delays n)) n i.entries

  abbrev pub comp_next : CompCount → (n : ℕ) → CompCount
  comp_next c n = with_events c n (zip i.events i.fired)

  pub core_is : (c : CoreCount) (n : ℕ) → core_next c n ≡ core_count_after i n c
  unfolding with_accesses
  core_is c n =
      let own : List Entry = filter (λ e. e.core == n) i.entries in
      let delay : CoreCount = delay_count (slice_index i.delays n) in
      sym (fold-map core_plus entry_count (core_plus c delay) own)
      ∙ ap (λ (x : CoreCount). fold core_plus x (map entry_count own)) (sym (core_plus-none c delay))
      ∙ sym (plus-fold core_plus core_plus-assoc c (core_plus no_core_count delay) (map entry_count own))

  pub counted_in : (c : CompCount) (n : ℕ) → comp_next c n ≡ comp_plus c (comp_count_in i n)
  unfolding with_events
  counted_in c n =
      let own : List (Event × Fired) = filter (λ x. x.0.component == n) (zip i.events i.fired) in
      sym (fold-map comp_plus event_count c own)
      ∙ ap (λ (x : CompCount). fold comp_plus x (map event_count own)) (sym (comp_plus-none c))
      ∙ sym (plus-fold comp_plus comp_plus-assoc c no_comp_count (map event_count own))

  comp_is : (c : CompCount) (n : ℕ) (after : Comp) → with_free (comp_next c n) (free_of after) ≡ comp_count_after i n c after
  comp_is c n after = ap (λ (x : CompCount). with_free x (free_of after)) (counted_in c n)

  -- each sum fits where the sums do
  pub core_fits : (first : Counts) (comps : List Comp) → CountsFit (added first i comps)
      → (n : ℕ) (d : CoreCount) → n < length first.core_counts → CoreFits (core_next (get_or first.core_counts n d) n)
  unfolding added
  core_fits first comps fits n d below =
      let f : ℕ × CoreCount → CoreCount = λ at'. core_count_after i at'.0 at'.1 in
      let there : n < length (map f (enumerate_from 0 first.core_counts)) = omega (arith, length_numbered f first.core_counts) in
      subst CoreFits (at_number f first.core_counts n d d below ∙ sym (core_is (get_or first.core_counts n d) n)) (fits.core_counts n d there)

  pub comp_fits : (first : Counts) (comps : List Comp) → length comps ≡ length first.comp_counts → CountsFit (added first i comps)
      → (n : ℕ) (d : CompCount) → n < length first.comp_counts → CompFits (comp_next (get_or first.comp_counts n d) n)
  unfolding added
  comp_fits first comps same fits n d below =
      let f : ℕ × (CompCount × Comp) → CompCount = λ at'. comp_count_after i at'.0 at'.1.0 at'.1.1 in
      let inside : n < length comps = omega arith in
      let c : Comp = one_of comps n inside in
      let within : n < length (zip first.comp_counts comps) = omega (arith, length-zip first.comp_counts comps) in
      let there : n < length (map f (enumerate_from 0 (zip first.comp_counts comps))) = omega (arith, length_numbered f (zip first.comp_counts comps)) in
      let all : CompFits (comp_count_after i n (get_or first.comp_counts n d) (get_or comps n c)) =
      subst CompFits
      (at_number f (zip first.comp_counts comps) n (d, c) d within ∙ ap (λ (x : CompCount × Comp). f (n, x)) (get_or-zip first.comp_counts comps n (d, c) below inside))
      (fits.comp_counts n d there)
      in
      let sums : CompFits (comp_plus (get_or first.comp_counts n d) (comp_count_in i n)) = record { events = all.events; waited = all.waited } in
      subst CompFits (sym (counted_in (get_or first.comp_counts n d) n)) sums

  -- the counts of all
  cores_added : (first now : List CoreCount) → length now ≡ length first
      → ((n : ℕ) (d : CoreCount) → n < length first → get_or now n d ≡ core_next (get_or first n d) n)
      → now ≡ map (λ at'. core_count_after i at'.0 at'.1) (enumerate_from 0 first)
  cores_added first now long each =
      let f : ℕ × CoreCount → CoreCount = λ at'. core_count_after i at'.0 at'.1 in
      same_lists now (map f (enumerate_from 0 first)) (long ∙ sym (length_numbered f first))
      (λ n d below.
      let there : n < length first = omega arith in
      each n d there ∙ core_is (get_or first n d) n ∙ sym (at_number f first n d d there))

  comps_added : (first now : List CompCount) (comps : List Comp) → length now ≡ length first → length comps ≡ length first
      → ((n : ℕ) (d : CompCount) (c : Comp) → n < length first → get_or now n d ≡ with_free (comp_next (get_or first n d) n) (free_of (get_or comps n c)))
      → now ≡ map (λ at'. comp_count_after i at'.0 at'.1.0 at'.1.1) (enumerate_from 0 (zip first comps))
  comps_added first now comps long same each =
      let f : ℕ × (CompCount × Comp) → CompCount = λ at'. comp_count_after i at'.0 at'.1.0 at'.1.1 in
      let paired : length (zip first comps) ≡ length first = omega (arith, length-zip first comps) in
      same_lists now (map f (enumerate_from 0 (zip first comps))) (long ∙ sym paired ∙ sym (length_numbered f (zip first comps)))
      (λ n d below.
      let there : n < length first = omega arith in
      let inside : n < length comps = omega arith in
      let within : n < length (zip first comps) = omega arith in
      let c : Comp = one_of comps n inside in
      each n d c there
      ∙ comp_is (get_or first n d) n (get_or comps n c)
      ∙ ap (λ (x : CompCount × Comp). f (n, x)) (sym (get_or-zip first comps n (d, c) there inside))
      ∙ sym (at_number f (zip first comps) n (d, c) d within))

  pub counts_added : (first : Counts) (cores : List CoreCount) (counts : List CompCount) (comps : List Comp)
      → length cores ≡ length first.core_counts → ((n : ℕ) (d : CoreCount) → n < length first.core_counts → get_or cores n d ≡ core_next (get_or first.core_counts n d) n)
      → length counts ≡ length first.comp_counts → length comps ≡ length first.comp_counts
      → ((n : ℕ) (d : CompCount) (c : Comp) → n < length first.comp_counts → get_or counts n d ≡ with_free (comp_next (get_or first.comp_counts n d) n) (free_of (get_or comps n c)))
      → (let all : Counts = record { core_counts = cores; comp_counts = counts; accesses = first.accesses + length i.entries; events = first.events + length i.events } in all) ≡ added first i comps
  unfolding added
  counts_added first cores counts comps long each as_long same each_comp =
      let cores_are : cores ≡ map (λ at'. core_count_after i at'.0 at'.1) (enumerate_from 0 first.core_counts) = cores_added first.core_counts cores long each in
      let counts_are : counts ≡ map (λ at'. comp_count_after i at'.0 at'.1.0 at'.1.1) (enumerate_from 0 (zip first.comp_counts comps)) = comps_added first.comp_counts counts comps as_long same each_comp in
      ap (λ (xs : List CoreCount). let all : Counts = record { core_counts = xs; comp_counts = counts; accesses = first.accesses + length i.entries; events = first.events + length i.events } in all) cores_are
      ∙ ap (λ (xs : List CompCount). let all : Counts = record { core_counts = map (λ at'. core_count_after i at'.0 at'.1) (enumerate_from 0 first.core_counts); comp_counts = xs; accesses = first.accesses + length i.entries; events = first.events + length i.events } in all) counts_are
