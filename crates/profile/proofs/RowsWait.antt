-- The rows of a profile tell together how long components had events wait.
use Rattle.std.proofs.Common.{◌≡◌, ◌⊎◌, ℕ, zero, suc, ◌+◌, ◌^◌, ◌<◌, ◌≤◌, ◌==◌, nat_lt, Bool, true, false, not, ◌&&◌, ◌||◌, cond, if◌then◌else◌, List, [], ◌∷◌, map, filter, get_or, sum_by, All, Option, Some, is_some, refl, sym, ◌∙◌, ap, subst, inl, inr, arith}
use Rattle.std.specs.List.{range_with_len, zip}
use Rattle.std.proofs.lemmas.Bool.{and_parts, cases_Bool, eqb-true, ne_eqb}
use Rattle.std.proofs.lemmas.List.{map-append}
use Rattle.std.proofs.lemmas.List.Elements.{All-append, All-cons, All-head, All-nil, All-tail}
use Rattle.std.proofs.lemmas.List.Folds.{list_any_none}
use Rattle.std.proofs.lemmas.List.Sums.{sum_by-append, sum_by-cons}
use Rattle.zs_num.specs.declared.entry.Entry.{Entry}
use Rattle.zs_num.specs.Request.{line_of}
use Rattle.event_graph.specs.declared.event.Event.{Event}
use Rattle.event_graph.specs.declared.fired.Fired.{Fired}
use Rattle.stats.specs.Counted.{is_hit}
use Rattle.trace.specs.Told.{accessed_in}
use Rattle.trace.specs.Trace.{Accessed, Ended, Executed, Step}
use Rattle.profile_rows.specs.declared.address_row.AddressRow.{AddressRow}
use Rattle.profile_rows.specs.declared.line_row.LineRow.{LineRow}
use Rattle.profile_rows.specs.declared.tally.Tally.{Tally}
use Rattle.profile_rows.specs.Tallies.{capped_tally, capped_wide, total}
use Rattle.profile.specs.declared.contribution.Contribution.{Contribution}
use Rattle.profile.specs.declared.contribution.Maker.{Maker}
use Rattle.profile.specs.Contributions.{Before, access_adds, after_step, at_address, at_line, contributions, nothing_before, steps_add, suffering, suffers, wait_adds}
use Rattle.profile.specs.Copies.{is_this, own_copy, taken_away}
use Rattle.profile.specs.Executed.{executed_at}
use Rattle.profile.specs.Laws.{is_by}
use Rattle.profile.specs.Listed.{AreAddressRows, AreCoreRows, AreCoresRows, AreLineRows, AreSumRows, core_row, has_address_of_any, has_line_of_any, line_row, rows_at, sum_row}
use Rattle.profile.specs.Profiled.{Profiled, added_in, has_address}
use Rattle.profile.specs.Rows.{has_line, has_no_access, has_no_change, has_no_class, has_no_cycle, has_no_loss, has_no_outcome, is_something}
use Rattle.profile.specs.Waits.{event_waits, first_of, makers_of, wait_for, without_first}
use Rattle.profile.proofs.CoresTogether.{each_core_once, not_known}
use Rattle.profile.proofs.Fields.{counted_if, field_of, field_of_total, sum_by-filter, sum_by-map, sum_by-same, zero_if}
use Rattle.profile.proofs.Fitting.{Fits, each_once, no_address_above, no_line_above}
use Rattle.profile.proofs.Numbered.{HasEachOnce, all_numbers, sum_at, sum_of_all}
use Rattle.profile.proofs.RowsAddUp.{found, neither, sum_by-flat_map, tally_at}
use Rattle.profile.proofs.SumRows.{same_in_range, turned_sum}
use Rattle.profile.proofs.WaitsAddUp.{is_waited, unwaited, unwaited_suffering}

abbrev pub waited_of : Contribution → ℕ
waited_of c = c.tally.waited

-- ---- contributions that waited

-- one that waited is of a core that is there, and of an instruction
abbrev pub IsOfKnown : (cores : ℕ) → Contribution → Type 0
IsOfKnown cores c = (waited_of c ≡ 0) ⊎ ((c.core < cores) × (is_some c.pc ≡ true))

module _ (time : Entry → ℕ) (machine_cores : ℕ) (cores : ℕ) where
  abbrev KnownMaker : Maker → Type 0
  KnownMaker m = m.core < cores

  abbrev KnownEntry : Entry → Type 0
  KnownEntry e = e.core < cores

  wait_known : (core : ℕ) (makers : List Maker) (e : Event) (f : Fired) → All KnownMaker makers → All (IsOfKnown cores) (map wait_adds (wait_for (first_of core makers) e f))
  wait_known core [] e f known = All-nil (IsOfKnown cores)
  wait_known core (m ∷ makers) e f known =
      elim (cases_Bool (m.core == core)) as (λ _. All (IsOfKnown cores) (map wait_adds (wait_for (first_of core (m ∷ makers)) e f))) [
        | inl own ↦ rw own (All-cons (IsOfKnown cores) _ [] (inr (All-head KnownMaker m makers known, refl)) (All-nil (IsOfKnown cores)))
        | inr other ↦ let rest = wait_known core makers e f (All-tail KnownMaker m makers known) in rw other rest
      ]

  rest_known : (core : ℕ) (makers : List Maker) → All KnownMaker makers → All KnownMaker (without_first core makers)
  rest_known core [] known = All-nil KnownMaker
  rest_known core (m ∷ makers) known =
      let here = All-head KnownMaker m makers known in
      let later = All-tail KnownMaker m makers known in
      elim (cases_Bool (m.core == core)) as (λ _. All KnownMaker (without_first core (m ∷ makers))) [
        | inl is ↦ rw is later
        | inr other ↦ let rest = All-cons KnownMaker m (without_first core makers) here (rest_known core makers later) in rw other rest
      ]

  either_known : (test : Bool) (one other : List Maker) → All KnownMaker one → All KnownMaker other → All KnownMaker (if test then one else other)
  either_known true one other a b = a
  either_known false one other a b = b

  waits_known : (makers : List Maker) (events : List (Event × Fired)) → All KnownMaker makers → All (IsOfKnown cores) (map wait_adds (event_waits makers events))
  waits_known makers [] known = All-nil (IsOfKnown cores)
  waits_known makers ((e, f) ∷ events) known =
      let left : List Maker = if e.critical then without_first e.core makers else makers in
      subst (All (IsOfKnown cores)) (sym (map-append wait_adds (wait_for (first_of e.core makers) e f) (event_waits left events)))
      (All-append (IsOfKnown cores) (map wait_adds (wait_for (first_of e.core makers) e f)) (map wait_adds (event_waits left events)) (wait_known e.core makers e f known)
      (waits_known left events (either_known e.critical (without_first e.core makers) makers (rest_known e.core makers known) known)))

  suffered_known : (e : Entry) (others : List ℕ) → All (IsOfKnown cores) (map (suffers e) others)
  suffered_known e [] = All-nil (IsOfKnown cores)
  suffered_known e (other ∷ others) = All-cons (IsOfKnown cores) (suffers e other) (map (suffers e) others) (inl (unwaited_suffering e)) (suffered_known e others)

  steps_known : (before : Before) (steps : List Step) → All KnownMaker before.makers → All KnownEntry (accessed_in steps) → All (IsOfKnown cores) (steps_add time machine_cores before steps)
  steps_known before [] makers entries = All-nil (IsOfKnown cores)
  steps_known before (Executed core pc ∷ steps) makers entries = steps_known before steps makers entries
  steps_known before (Accessed pc e leaving ∷ steps) makers entries =
      let step = Accessed pc e leaving in
      let here = All-head KnownEntry e (accessed_in steps) entries in
      let others = map (suffers e) (suffering machine_cores before.copies e) in
      let made = either_known (is_hit e.outcome) [] (record { core = e.core; pc = pc; line = line_of e.request } ∷ []) (All-nil KnownMaker) (All-cons KnownMaker _ [] here (All-nil KnownMaker)) in
      All-append (IsOfKnown cores) (access_adds time machine_cores before.copies pc e ∷ others) (steps_add time machine_cores (after_step before step) steps)
      (All-cons (IsOfKnown cores) (access_adds time machine_cores before.copies pc e) others (inl (unwaited e (own_copy before.copies e) (taken_away machine_cores before.copies e) (time e))) (suffered_known e (suffering machine_cores before.copies e)))
      (steps_known (after_step before step) steps (All-append KnownMaker before.makers (makers_of pc e) makers made) (All-tail KnownEntry e (accessed_in steps) entries))
  steps_known before (Ended i ∷ steps) makers entries =
      let step = Ended i in
      All-append (IsOfKnown cores) (map wait_adds (event_waits before.makers (zip i.events i.fired))) (steps_add time machine_cores (after_step before step) steps)
      (waits_known before.makers (zip i.events i.fired) makers)
      (steps_known (after_step before step) steps (All-nil KnownMaker) entries)

  pub contributions_known : (steps : List Step) → All (λ e. e.core < cores) (accessed_in steps) → All (IsOfKnown cores) (contributions time machine_cores steps)
  contributions_known steps entries = steps_known nothing_before steps (All-nil KnownMaker) entries

-- ---- numbers that fit

capped_small : (n : ℕ) → n < 2 ^ 128 → capped_wide n ≡ n
capped_small n small = omega (arith, small)

sum_capped : {X : Type 0} (f : X → ℕ) (xs : List X) → sum_by f xs < 2 ^ 128 → sum_by (λ x. capped_wide (f x)) xs ≡ sum_by f xs
sum_capped f [] small = refl
sum_capped f (x ∷ xs) small =
    omega (
      arith,
      capped_small (f x) (omega (arith, small, sum_by-cons f x xs)),
      sum_capped f xs (omega (arith, small, sum_by-cons f x xs)),
      sum_by-cons f x xs,
      sum_by-cons (λ y. capped_wide (f y)) x xs,
    )

sums_capped : {X Y : Type 0} (f : X → Y → ℕ) (xs : List X) (ys : List Y) → sum_by (λ y. sum_by (λ x. f x y) xs) ys < 2 ^ 128
    → sum_by (λ y. sum_by (λ x. capped_wide (f x y)) xs) ys ≡ sum_by (λ y. sum_by (λ x. f x y) xs) ys
sums_capped f xs [] small = refl
sums_capped f xs (y ∷ ys) small =
    omega (
      arith,
      sum_capped (λ x. f x y) xs (omega (arith, small, sum_by-cons (λ z. sum_by (λ x. f x z) xs) y ys)),
      sums_capped f xs ys (omega (arith, small, sum_by-cons (λ z. sum_by (λ x. f x z) xs) y ys)),
      sum_by-cons (λ z. sum_by (λ x. f x z) xs) y ys,
      sum_by-cons (λ z. sum_by (λ x. capped_wide (f x z)) xs) y ys,
    )

as_far : (t : Tally) → (capped_tally t).waited ≡ capped_wide t.waited
unfolding capped_tally
as_far t = refl

not_false : (b : Bool) → not b ≡ false → b ≡ true
not_false true is = refl
not_false false is = cc

-- where nothing was counted, nothing waited
no_wait : (t : Tally) → is_something t ≡ false → t.waited ≡ 0
unfolding is_something has_no_cycle
no_wait t none =
    let one = and_parts (has_no_access t) (has_no_outcome t && (has_no_class t && (has_no_change t && (has_no_loss t && (t.cycles == 0 && (t.missing == 0 && t.waited == 0)))))) (not_false _ none) in
    let two = and_parts (has_no_outcome t) (has_no_class t && (has_no_change t && (has_no_loss t && (t.cycles == 0 && (t.missing == 0 && t.waited == 0))))) one.1 in
    let three = and_parts (has_no_class t) (has_no_change t && (has_no_loss t && (t.cycles == 0 && (t.missing == 0 && t.waited == 0)))) two.1 in
    let four = and_parts (has_no_change t) (has_no_loss t && (t.cycles == 0 && (t.missing == 0 && t.waited == 0))) three.1 in
    let five = and_parts (has_no_loss t) (t.cycles == 0 && (t.missing == 0 && t.waited == 0)) four.1 in
    let six = and_parts (t.cycles == 0) (t.missing == 0 && t.waited == 0) five.1 in
    eqb-true t.waited 0 (and_parts (t.missing == 0) (t.waited == 0) six.1).1

-- ---- what waited, core by core and number by number

and_turned : (a b : Bool) → (a && b) ≡ (b && a)
and_turned true true = refl
and_turned true false = refl
and_turned false true = refl
and_turned false false = refl

counted_small : (test : Contribution → Bool) (cs : List Contribution) → sum_by (counted_if test waited_of) cs ≤ sum_by waited_of cs
counted_small test [] = omega arith
counted_small test (c ∷ cs) =
    omega (arith, within (test c) (waited_of c), counted_small test cs, sum_by-cons (counted_if test waited_of) c cs, sum_by-cons waited_of c cs)
  where
    within : (b : Bool) (n : ℕ) → cond b n 0 ≤ n
    within true n = omega arith
    within false n = omega arith

module _ (cores : ℕ) (number_of : Contribution → Option ℕ) (numbered : (c : Contribution) → is_some c.pc ≡ true → is_some (number_of c) ≡ true) where
  abbrev has_number : Contribution → Bool
  has_number c = is_some (number_of c)

  -- what the contributions of a core waited that have a number
  abbrev core_waited : List Contribution → (core : ℕ) → ℕ
  core_waited cs core = sum_of_all (is_by core) number_of waited_of cs

  one_past : (core : ℕ) → cores ≤ core → (c : Contribution) → IsOfKnown cores c → counted_if (λ x. has_number x && is_this (Some x.core) core) waited_of c ≡ 0
  one_past core past c (inl none) = zero_if (has_number c && (c.core == core)) (waited_of c) none
  one_past core past c (inr (known, has_pc)) =
      ap (λ (b : Bool). cond (has_number c && b) (waited_of c) 0) (ne_eqb c.core core (λ same. omega (arith, same, known, past)))
      ∙ ap (λ (b : Bool). cond b (waited_of c) 0) (and_turned (has_number c) false)

  none_past : (core : ℕ) → cores ≤ core → (cs : List Contribution) → All (IsOfKnown cores) cs → sum_at has_number (λ c. Some c.core) waited_of core cs ≡ 0
  none_past core past [] known = refl
  none_past core past (c ∷ cs) known =
      omega (
        arith,
        one_past core past c (All-head (IsOfKnown cores) c cs known),
        none_past core past cs (All-tail (IsOfKnown cores) c cs known),
        sum_by-cons (counted_if (λ x. has_number x && is_this (Some x.core) core) waited_of) c cs,
      )

  one_counts : (c : Contribution) → IsOfKnown cores c → counted_if (λ x. has_number x && is_some (Some x.core)) waited_of c ≡ waited_of c
  one_counts c (inl none) = zero_if (has_number c && true) (waited_of c) none ∙ sym none
  one_counts c (inr (known, has_pc)) = ap (λ (b : Bool). cond (b && true) (waited_of c) 0) (numbered c has_pc)

  all_count : (cs : List Contribution) → All (IsOfKnown cores) cs → sum_of_all has_number (λ c. Some c.core) waited_of cs ≡ sum_by waited_of cs
  all_count [] known = refl
  all_count (c ∷ cs) known =
      omega (
        arith,
        one_counts c (All-head (IsOfKnown cores) c cs known),
        all_count cs (All-tail (IsOfKnown cores) c cs known),
        sum_by-cons (counted_if (λ x. has_number x && is_some (Some x.core)) waited_of) c cs,
        sum_by-cons waited_of c cs,
      )

  -- all cores together waited as long as all contributions
  cores_waited : (cs : List Contribution) → All (IsOfKnown cores) cs → sum_by (core_waited cs) (range_with_len 0 cores) ≡ sum_by waited_of cs
  cores_waited cs known =
      sum_by-same (core_waited cs) (λ core. sum_at has_number (λ c. Some c.core) waited_of core cs)
      (λ core. sum_by-same (counted_if (λ c. is_by core c && has_number c) waited_of) (counted_if (λ c. has_number c && is_this (Some c.core) core) waited_of)
      (λ c. ap (λ (b : Bool). cond b (waited_of c) 0) (and_turned (is_by core c) (has_number c))) cs)
      (range_with_len 0 cores)
      ∙ all_numbers has_number (λ (c : Contribution). Some c.core) waited_of (λ k. nat_lt k cores) (range_with_len 0 cores) (each_core_once cores) cs (λ k other. none_past k (not_known k cores other) cs known)
      ∙ all_count cs known

  abbrev at_number : List Contribution → (core n : ℕ) → ℕ
  at_number cs core n = (tally_at core number_of n cs).waited

  number_is : (cs : List Contribution) (core n : ℕ) → at_number cs core n ≡ sum_at (is_by core) number_of waited_of n cs
  number_is cs core n = field_of (λ t. t.waited) is_waited (λ c. is_by core c && is_this (number_of c) n) cs

  -- a core waited at all numbers as long as its contributions that have one
  numbers_waited : (cs : List Contribution) (core : ℕ) (has : ℕ → Bool) (numbers : List ℕ) → HasEachOnce has numbers → ((n : ℕ) → has n ≡ false → is_something (tally_at core number_of n cs) ≡ false)
      → sum_by (at_number cs core) numbers ≡ core_waited cs core
  numbers_waited cs core has numbers once nothing =
      sum_by-same (at_number cs core) (λ n. sum_at (is_by core) number_of waited_of n cs) (number_is cs core) numbers
      ∙ all_numbers (is_by core) number_of waited_of has numbers once cs (λ n other. sym (number_is cs core n) ∙ no_wait (tally_at core number_of n cs) (nothing n other))

  -- all cores at all numbers
  whole : (cs : List Contribution) → All (IsOfKnown cores) cs → (has : ℕ → Bool) (numbers : List ℕ) → HasEachOnce has numbers
      → ((core n : ℕ) → core < cores → has n ≡ false → is_something (tally_at core number_of n cs) ≡ false)
      → sum_by (λ n. sum_by (λ core. at_number cs core n) (range_with_len 0 cores)) numbers ≡ sum_by waited_of cs
  whole cs known has numbers once nothing =
      turned_sum (at_number cs) (range_with_len 0 cores) numbers
      ∙ same_in_range (λ core. sum_by (at_number cs core) numbers) (core_waited cs) 0 cores (λ core low high. numbers_waited cs core has numbers once (λ n other. nothing core n (omega (arith, high)) other))
      ∙ cores_waited cs known

-- ---- rows

sum_to_last : (f : ℕ → ℕ) (a n : ℕ) → sum_by f (range_with_len a (suc n)) ≡ sum_by f (range_with_len a n) + f (a + n)
sum_to_last f a zero = omega (arith, sum_by-cons f a [], ap f (let at : a + 0 ≡ a = omega arith in at))
sum_to_last f a (suc n) =
    omega (
      arith,
      sum_by-cons f a (range_with_len (a + 1) (suc n)),
      sum_to_last f (a + 1) n,
      sum_by-cons f a (range_with_len (a + 1) n),
      ap f (let at : a + 1 + n ≡ a + suc n = omega arith in at),
    )

if_counted : (has : Bool) (n : ℕ) → (has ≡ false → n ≡ 0) → cond has n 0 ≡ n
if_counted true n none = refl
if_counted false n none = sym (none refl)

abbrev same_pc : Contribution → Option ℕ
same_pc c = c.pc

abbrev some_line : Contribution → Option ℕ
some_line c = Some c.line

module _ (p : Profiled) (fits : All Fits (added_in p)) (known : All (IsOfKnown p.cores) (added_in p)) (small : sum_by waited_of (added_in p) < 2 ^ 128) where
  abbrev cs : List Contribution
  cs = added_in p

  abbrev cores : List ℕ
  cores = range_with_len 0 p.cores

  -- ---- of lines

  abbrev at_a_line : (core line : ℕ) → ℕ
  at_a_line core line = (at_line core line cs).waited

  of_line : (line : ℕ) → sum_by (λ (row : LineRow). row.tally.waited) (rows_at p line) ≡ sum_by (λ core. capped_wide (at_a_line core line)) cores
  of_line line =
      let has : ℕ → Bool = λ core. has_line cs core line in
      let value : ℕ → ℕ = λ core. (capped_tally (at_line core line cs)).waited in
      sum_by-map (λ (row : LineRow). row.tally.waited) (line_row p line) (filter has cores)
      ∙ sum_by-filter has value cores
      ∙ sum_by-same (counted_if has value) (λ core. capped_wide (at_a_line core line))
      (λ core. if_counted (has core) (value core) (λ none. as_far (at_line core line cs) ∙ ap capped_wide (no_wait (at_line core line cs) none) ∙ omega arith) ∙ as_far (at_line core line cs)) cores

  pub line_rows_wait : (rows : List LineRow) → AreLineRows p rows → (total (map (λ row. row.tally) rows)).waited ≡ sum_by waited_of cs
  line_rows_wait rows are =
      let above : (line : ℕ) → 2 ^ 64 ≤ line → has_line_of_any p line ≡ false = λ line large.
      list_any_none (λ k. has_line cs k line) cores (λ i d within. no_line_above (get_or cores i d) line cs fits large)
      in
      let once = each_once (has_line_of_any p) above are.lines are.all in
      let all : sum_by (λ line. sum_by (λ core. at_a_line core line) cores) are.lines ≡ sum_by waited_of cs =
      whole p.cores some_line (λ c has_pc. refl) cs known (has_line_of_any p) are.lines once (λ core line there none. found (λ k. has_line cs k line) core p.cores there none)
      in
      field_of_total (λ t. t.waited) is_waited (map (λ row. row.tally) rows)
      ∙ sum_by-map (λ (t : Tally). t.waited) (λ (row : LineRow). row.tally) rows
      ∙ ap (sum_by (λ (row : LineRow). row.tally.waited)) are.are
      ∙ sum_by-flat_map (λ (row : LineRow). row.tally.waited) (rows_at p) are.lines
      ∙ sum_by-same (λ line. sum_by (λ (row : LineRow). row.tally.waited) (rows_at p line)) (λ line. sum_by (λ core. capped_wide (at_a_line core line)) cores) of_line are.lines
      ∙ sums_capped at_a_line cores are.lines (omega (arith, all, small))
      ∙ all

  -- ---- of addresses

  abbrev at_a_pc : (core pc : ℕ) → ℕ
  at_a_pc core pc = (at_address core pc cs).waited

  module _ (unexecuted : (core pc : ℕ) → 2 ^ 64 ≤ pc → executed_at core pc p.steps ≡ 0) where
    none_above : (core pc : ℕ) → 2 ^ 64 ≤ pc → has_address p core pc ≡ false
    none_above core pc large =
        ap (λ (n : ℕ). not (n == 0) || is_something (at_address core pc cs)) (unexecuted core pc large) ∙ no_address_above core pc cs fits large

    nothing_there : (core pc : ℕ) → has_address p core pc ≡ false → is_something (at_address core pc cs) ≡ false
    nothing_there core pc none = (neither (not (executed_at core pc p.steps == 0)) (is_something (at_address core pc cs)) none).1

    sum_rows_wait : (rows : List AddressRow) → AreSumRows p rows → sum_by (λ (row : AddressRow). row.tally.waited) rows ≡ sum_by waited_of cs
    sum_rows_wait rows are =
        let above : (pc : ℕ) → 2 ^ 64 ≤ pc → has_address_of_any p pc ≡ false = λ pc large. list_any_none (λ k. has_address p k pc) cores (λ i d within. none_above (get_or cores i d) pc large) in
        let once = each_once (has_address_of_any p) above are.pcs are.all in
        let all : sum_by (λ pc. sum_by (λ core. at_a_pc core pc) cores) are.pcs ≡ sum_by waited_of cs =
        whole p.cores same_pc (λ c has_pc. has_pc) cs known (has_address_of_any p) are.pcs once (λ core pc there none. nothing_there core pc (found (λ k. has_address p k pc) core p.cores there none))
        in
        let one : (pc : ℕ) → (sum_row p pc).tally.waited ≡ capped_wide (sum_by (λ core. at_a_pc core pc) cores) = λ pc.
        as_far (total (map (λ core. at_address core pc cs) cores))
        ∙ ap capped_wide (field_of_total (λ t. t.waited) is_waited (map (λ core. at_address core pc cs) cores) ∙ sum_by-map (λ (t : Tally). t.waited) (λ core. at_address core pc cs) cores)
        in
        ap (sum_by (λ (row : AddressRow). row.tally.waited)) are.are
        ∙ sum_by-map (λ (row : AddressRow). row.tally.waited) (sum_row p) are.pcs
        ∙ sum_by-same (λ pc. (sum_row p pc).tally.waited) (λ pc. capped_wide (sum_by (λ core. at_a_pc core pc) cores)) one are.pcs
        ∙ sum_capped (λ pc. sum_by (λ core. at_a_pc core pc) cores) are.pcs (omega (arith, all, small))
        ∙ all

    -- the rows of one core
    core_rows_wait : (core : ℕ) (rows : List AddressRow) → AreCoreRows p core rows → sum_by (λ (row : AddressRow). row.tally.waited) rows ≡ core_waited p.cores same_pc (λ c has_pc. has_pc) cs core
    core_rows_wait core rows are =
        let once = each_once (has_address p core) (none_above core) are.pcs are.all in
        let all : sum_by (at_a_pc core) are.pcs ≡ core_waited p.cores same_pc (λ c has_pc. has_pc) cs core =
        numbers_waited p.cores same_pc (λ c has_pc. has_pc) cs core (has_address p core) are.pcs once (nothing_there core)
        in
        ap (sum_by (λ (row : AddressRow). row.tally.waited)) are.are
        ∙ sum_by-map (λ (row : AddressRow). row.tally.waited) (core_row p core) are.pcs
        ∙ sum_by-same (λ pc. (core_row p core pc).tally.waited) (λ pc. capped_wide (at_a_pc core pc)) (λ pc. as_far (at_address core pc cs)) are.pcs
        ∙ sum_capped (at_a_pc core) are.pcs (omega (arith, all, small, counted_small (λ c. is_by core c && is_some c.pc) cs))
        ∙ all

    cores_rows_wait : (n : ℕ) (rows : List AddressRow) → AreCoresRows p n rows → sum_by (λ (row : AddressRow). row.tally.waited) rows ≡ sum_by (core_waited p.cores same_pc (λ c has_pc. has_pc) cs) (range_with_len 0 n)
    cores_rows_wait zero rows are = ap (sum_by (λ (row : AddressRow). row.tally.waited)) are
    cores_rows_wait (suc n) rows (before, own, are_before, are_own, is) =
        omega (
          arith,
          ap (sum_by (λ (row : AddressRow). row.tally.waited)) is,
          sum_by-append (λ (row : AddressRow). row.tally.waited) before own,
          cores_rows_wait n before are_before,
          core_rows_wait n own are_own,
          sum_to_last (core_waited p.cores same_pc (λ c has_pc. has_pc) cs) 0 n,
          ap (core_waited p.cores same_pc (λ c has_pc. has_pc) cs) (let at : 0 + n ≡ n = omega arith in at),
        )

    by_kind : (separate : Bool) (rows : List AddressRow) → AreAddressRows p separate rows → sum_by (λ (row : AddressRow). row.tally.waited) rows ≡ sum_by waited_of cs
    by_kind true rows are = cores_rows_wait p.cores rows are ∙ cores_waited p.cores same_pc (λ c has_pc. has_pc) cs known
    by_kind false rows are = sum_rows_wait rows are

    pub address_rows_wait : (separate : Bool) (rows : List AddressRow) → AreAddressRows p separate rows → (total (map (λ row. row.tally) rows)).waited ≡ sum_by waited_of cs
    address_rows_wait separate rows are =
        field_of_total (λ t. t.waited) is_waited (map (λ row. row.tally) rows)
        ∙ sum_by-map (λ (t : Tally). t.waited) (λ (row : AddressRow). row.tally) rows
        ∙ by_kind separate rows are
