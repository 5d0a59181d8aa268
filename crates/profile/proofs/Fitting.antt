-- Nothing is told of numbers that do not fit in 64 bits.
use Rattle.std.proofs.Common.{◌≡◌, ℕ, ◌+◌, ◌^◌, ◌<◌, ◌≤◌, ◌==◌, ◌&&◌, not, Bool, true, false, if◌then◌else◌, List, [], ◌∷◌, map, filter, count_by, All, Option, Some, None, IfSome, refl, sym, ◌∙◌, ap, subst, inl, inr, arith}
use Rattle.std.specs.List.{zip}
use Rattle.std.proofs.lemmas.Bool.{cases_Bool, cases_eq, cases_lt, eq-eqb, ne_eqb}
use Rattle.std.proofs.lemmas.List.{map-append}
use Rattle.std.proofs.lemmas.List.Elements.{All-append, All-cons, All-head, All-nil, All-tail, All-weaker}
use Rattle.std.proofs.lemmas.List.Sums.{sum_by-cons}
use Rattle.zs_num.specs.declared.entry.Entry.{Entry}
use Rattle.zs_num.specs.Request.{line_of}
use Rattle.event_graph.specs.declared.event.Event.{Event}
use Rattle.event_graph.specs.declared.fired.Fired.{Fired}
use Rattle.stats.specs.Counted.{is_hit, one_if}
use Rattle.trace.specs.Laws.{Fits64Bits}
use Rattle.trace.specs.Trace.{Accessed, Ended, Executed, Step}
use Rattle.profile_rows.specs.Tallies.{no_tally, total}
use Rattle.profile.specs.declared.contribution.Contribution.{Contribution}
use Rattle.profile.specs.declared.contribution.Maker.{Maker}
use Rattle.profile.specs.Contributions.{Before, access_adds, after_step, at_address, at_line, contributions, is_at, is_to, nothing_before, steps_add, suffering, suffers, tally_of, wait_adds}
use Rattle.profile.specs.Copies.{is_this}
use Rattle.profile.specs.Executed.{executed_at, is_executed}
use Rattle.profile.specs.Listed.{AreAll}
use Rattle.profile.specs.Rows.{has_no_access, has_no_change, has_no_class, has_no_cycle, has_no_loss, has_no_outcome, is_something}
use Rattle.profile.proofs.Numbered.{HasEachOnce}
use Rattle.profile.specs.Waits.{event_waits, first_of, makers_of, wait_for, without_first}

-- ---- lists of all numbers that have something

once-cons : (n m : ℕ) (numbers : List ℕ) → count_by (λ k. n == k) (m ∷ numbers) ≡ one_if (n == m) + count_by (λ k. n == k) numbers
once-cons n m numbers = sum_by-cons (λ k. one_if (n == k)) m numbers

none_before : (test : ℕ → Bool) (from n : ℕ) (numbers : List ℕ) → AreAll test from numbers → n < from → count_by (λ k. n == k) numbers ≡ 0
none_before test from n [] all before = refl
none_before test from n (m ∷ numbers) all before =
    omega (arith, once-cons n m numbers, ap one_if (ne_eqb n m (λ same. omega (arith, same, before, all.0.0))), none_before test (m + 1) n numbers all.1 (omega (arith, before, all.0.0)))

module _ (test : ℕ → Bool) (above : (n : ℕ) → 2 ^ 64 ≤ n → test n ≡ false) where
  once_from : (from n : ℕ) (numbers : List ℕ) → AreAll test from numbers → from ≤ n → count_by (λ k. n == k) numbers ≡ one_if (test n)
  once_from from n [] all here =
      let none : test n ≡ false = elim (cases_lt n (2 ^ 64)) [ inl small ↦ all n here small | inr large ↦ above n large ] in
      sym (ap one_if none)
  once_from from n (m ∷ numbers) all here =
      elim (cases_lt n m) [
        | inl before ↦
            omega (arith, once-cons n m numbers, ap one_if (ne_eqb n m (λ same. omega (arith, same, before))), none_before test (m + 1) n numbers all.1 (omega (arith, before)), ap one_if (all.0.2 n here before))
        | inr behind ↦
            (elim (cases_eq n m) [
              | inl same ↦
                  omega (arith, once-cons n m numbers, ap one_if (eq-eqb n m same), none_before test (m + 1) n numbers all.1 (omega (arith, same)), ap one_if (ap test same ∙ all.0.1))
              | inr apart ↦
                  let later : m + 1 ≤ n = elim (cases_lt m n) [ inl less ↦ omega (arith, less) | inr not ↦ absurd (apart (let same : n ≡ m = omega (arith, not, behind) in same)) ] in
                  omega (arith, once-cons n m numbers, ap one_if (ne_eqb n m apart), once_from (m + 1) n numbers all.1 later)
            ])
      ]

  pub each_once : (numbers : List ℕ) → AreAll test 0 numbers → HasEachOnce test numbers
  each_once numbers all n = once_from 0 n numbers all (omega arith)

-- ---- what steps add fits

abbrev MakerFits : Maker → Type 0
MakerFits m = (m.pc < 2 ^ 64) × (m.line < 2 ^ 64)

abbrev pub Fits : Contribution → Type 0
Fits c = IfSome c.pc (λ pc. pc < 2 ^ 64) × (c.line < 2 ^ 64)

wait_fits : (core : ℕ) (makers : List Maker) (e : Event) (f : Fired) → All MakerFits makers → All Fits (map wait_adds (wait_for (first_of core makers) e f))
wait_fits core [] e f fits = All-nil Fits
wait_fits core (m ∷ makers) e f fits =
    elim (cases_Bool (m.core == core)) as (λ _. All Fits (map wait_adds (wait_for (first_of core (m ∷ makers)) e f))) [
      | inl own ↦ rw own (All-cons Fits _ [] (All-head MakerFits m makers fits) (All-nil Fits))
      | inr other ↦ let rest = wait_fits core makers e f (All-tail MakerFits m makers fits) in rw other rest
    ]

rest_fits : (core : ℕ) (makers : List Maker) → All MakerFits makers → All MakerFits (without_first core makers)
rest_fits core [] fits = All-nil MakerFits
rest_fits core (m ∷ makers) fits =
    let own = All-head MakerFits m makers fits in
    let later = All-tail MakerFits m makers fits in
    elim (cases_Bool (m.core == core)) as (λ _. All MakerFits (without_first core (m ∷ makers))) [
      | inl is ↦ rw is later
      | inr other ↦ let rest = All-cons MakerFits m (without_first core makers) own (rest_fits core makers later) in rw other rest
    ]

either_fits : (test : Bool) (one other : List Maker) → All MakerFits one → All MakerFits other → All MakerFits (if test then one else other)
either_fits true one other a b = a
either_fits false one other a b = b

waits_fit : (makers : List Maker) (events : List (Event × Fired)) → All MakerFits makers → All Fits (map wait_adds (event_waits makers events))
waits_fit makers [] fits = All-nil Fits
waits_fit makers ((e, f) ∷ events) fits =
    let left : List Maker = if e.critical then without_first e.core makers else makers in
    subst (All Fits) (sym (map-append wait_adds (wait_for (first_of e.core makers) e f) (event_waits left events)))
    (All-append Fits (map wait_adds (wait_for (first_of e.core makers) e f)) (map wait_adds (event_waits left events)) (wait_fits e.core makers e f fits)
    (waits_fit left events (either_fits e.critical (without_first e.core makers) makers (rest_fits e.core makers fits) fits)))

suffered_fit : (e : Entry) → line_of e.request < 2 ^ 64 → (others : List ℕ) → All Fits (map (suffers e) others)
suffered_fit e line [] = All-nil Fits
suffered_fit e line (other ∷ others) = All-cons Fits (suffers e other) (map (suffers e) others) (tt, line) (suffered_fit e line others)

made_fit : (pc : ℕ) (e : Entry) → (pc < 2 ^ 64) × (line_of e.request < 2 ^ 64) → All MakerFits (makers_of pc e)
made_fit pc e fits = either_fits (is_hit e.outcome) [] (record { core = e.core; pc = pc; line = line_of e.request } ∷ []) (All-nil MakerFits) (All-cons MakerFits _ [] fits (All-nil MakerFits))

all_fit : (time : Entry → ℕ) (cores : ℕ) (before : Before) (steps : List Step) → All MakerFits before.makers → All Fits64Bits steps → All Fits (steps_add time cores before steps)
all_fit time cores before [] makers fits = All-nil Fits
all_fit time cores before (Executed core pc ∷ steps) makers fits = all_fit time cores before steps makers (All-tail Fits64Bits (Executed core pc) steps fits)
all_fit time cores before (Accessed pc e leaving ∷ steps) makers fits =
    let step = Accessed pc e leaving in
    let own = All-head Fits64Bits step steps fits in
    let others = map (suffers e) (suffering cores before.copies e) in
    All-append Fits (access_adds time cores before.copies pc e ∷ others) (steps_add time cores (after_step before step) steps)
    (All-cons Fits (access_adds time cores before.copies pc e) others own (suffered_fit e own.1 (suffering cores before.copies e)))
    (all_fit time cores (after_step before step) steps (All-append MakerFits before.makers (makers_of pc e) makers (made_fit pc e own)) (All-tail Fits64Bits step steps fits))
all_fit time cores before (Ended i ∷ steps) makers fits =
    let step = Ended i in
    All-append Fits (map wait_adds (event_waits before.makers (zip i.events i.fired))) (steps_add time cores (after_step before step) steps)
    (waits_fit before.makers (zip i.events i.fired) makers)
    (all_fit time cores (after_step before step) steps (All-nil MakerFits) (All-tail Fits64Bits step steps fits))

pub contributions_fit : (time : Entry → ℕ) (cores : ℕ) (steps : List Step) → All Fits64Bits steps → All Fits (contributions time cores steps)
contributions_fit time cores steps fits = all_fit time cores nothing_before steps (All-nil MakerFits) fits

-- ---- so nothing is at other numbers

nothing_total : is_something no_tally ≡ false
unfolding is_something has_no_access has_no_outcome has_no_class has_no_change has_no_loss has_no_cycle
nothing_total = refl

not_this : (own : Option ℕ) (n : ℕ) → IfSome own (λ k. k < 2 ^ 64) → 2 ^ 64 ≤ n → is_this own n ≡ false
not_this None n fits large = refl
not_this (Some k) n fits large = ne_eqb k n (λ same. omega (arith, same, fits, large))

and_false : (b : Bool) → (b && false) ≡ false
and_false true = refl
and_false false = refl

none_pass : (test : Contribution → Bool) (cs : List Contribution) → All (λ c. test c ≡ false) cs → filter test cs ≡ []
none_pass test [] none = refl
none_pass test (c ∷ cs) none =
    let rest = none_pass test cs (All-tail (λ x. test x ≡ false) c cs none) in
    rw (All-head (λ x. test x ≡ false) c cs none) rest

pub nothing_at : (test : Contribution → Bool) (cs : List Contribution) → All (λ c. test c ≡ false) cs → is_something (tally_of test cs) ≡ false
nothing_at test cs none = ap (λ (xs : List Contribution). is_something (total (map (λ c. c.tally) xs))) (none_pass test cs none) ∙ nothing_total

pub no_address_above : (core n : ℕ) (cs : List Contribution) → All Fits cs → 2 ^ 64 ≤ n → is_something (at_address core n cs) ≡ false
no_address_above core n cs fits large =
    nothing_at (is_at core n) cs (All-weaker Fits (λ c. is_at core n c ≡ false) (λ c own. ap (λ (b : Bool). (c.core == core) && b) (not_this c.pc n own.0 large) ∙ and_false (c.core == core)) cs fits)

pub no_line_above : (core n : ℕ) (cs : List Contribution) → All Fits cs → 2 ^ 64 ≤ n → is_something (at_line core n cs) ≡ false
no_line_above core n cs fits large =
    nothing_at (is_to core n) cs (All-weaker Fits (λ c. is_to core n c ≡ false) (λ c own. ap (λ (b : Bool). (c.core == core) && b) (ne_eqb c.line n (λ same. omega (arith, same, own.1, large))) ∙ and_false (c.core == core)) cs fits)

pub none_executed_above : (core n : ℕ) (steps : List Step) → All Fits64Bits steps → 2 ^ 64 ≤ n → executed_at core n steps ≡ 0
none_executed_above core n [] fits large = refl
none_executed_above core n (Executed by pc ∷ steps) fits large =
    let own = All-head Fits64Bits (Executed by pc) steps fits in
    let apart : one_if (is_executed core n (Executed by pc)) ≡ 0 = ap one_if (ap (λ (b : Bool). (by == core) && b) (ne_eqb pc n (λ same. omega (arith, same, own, large))) ∙ and_false (by == core)) in
    omega (arith, apart, none_executed_above core n steps (All-tail Fits64Bits (Executed by pc) steps fits) large, sum_by-cons (λ (x : Step). one_if (is_executed core n x)) (Executed by pc) steps)
none_executed_above core n (Accessed pc e leaving ∷ steps) fits large =
    omega (arith, none_executed_above core n steps (All-tail Fits64Bits (Accessed pc e leaving) steps fits) large, sum_by-cons (λ (x : Step). one_if (is_executed core n x)) (Accessed pc e leaving) steps)
none_executed_above core n (Ended i ∷ steps) fits large =
    omega (arith, none_executed_above core n steps (All-tail Fits64Bits (Ended i) steps fits) large, sum_by-cons (λ (x : Step). one_if (is_executed core n x)) (Ended i) steps)
