-- The accesses of cores, core by core, in the order of turns, and in recorded order.
use Rattle.std.proofs.Common.{◌≡◌, ℕ, zero, suc, ◌+◌, ◌<◌, ◌≤◌, List, [], ◌∷◌, ◌++◌, length, map, All, None, Some, Option, take, drop, refl, sym, ◌∙◌, ap, ap₂, subst, inl, inr, arith}
use Rattle.std.specs.Prelude.{◌==◌, slice_get, slice_set}
use Rattle.std.specs.Option.{option_map_or}
use Rattle.std.proofs.lemmas.Bool.{cases_eq, eq-eqb, ne_eqb}
use Rattle.std.proofs.lemmas.List.{length-set}
use Rattle.std.proofs.lemmas.List.Elements.{All-append, All-cons, All-filter, All-head, All-nil, All-tail}
use Rattle.zs_num.specs.declared.entry.Entry.{Entry}
use Rattle.access_log.specs.History.{AreStamped, of_core}
use Rattle.access_log.specs.Laws.{CoresDecideTheOrder, RecordedOrderKeepsTheStamps, StampsRise}
use Rattle.access_log.specs.RecordedOrder.{no_stamps, recorded_order}
use Rattle.access_record.specs.Turns.{in_turns, left_after, next_of}
use Rattle.weave_chains.specs.Listed.{one_after_other}
use Rattle.bound_records.proofs.Lists.{has_at, own_list, set_cases}

-- ---- of a core

pub of_core_own : (core : ℕ) (es : List Entry) → All (λ e. e.core ≡ core) (of_core core es)
of_core_own core [] = All-nil (λ (e : Entry). e.core ≡ core)
of_core_own core (e ∷ es) =
    elim (cases_eq e.core core) as (λ _. All (λ (x : Entry). x.core ≡ core) (of_core core (e ∷ es))) [
      | inl same ↦ rw (eq-eqb e.core core same) (All-cons (λ (x : Entry). x.core ≡ core) e (of_core core es) same (of_core_own core es))
      | inr other ↦ rw (ne_eqb e.core core other) (of_core_own core es)
    ]

none_of_core : (most core : ℕ) (es : List Entry) → All (λ e. e.core < most) es → most ≤ core → of_core core es ≡ []
none_of_core most core [] known past = refl
none_of_core most core (e ∷ es) known past =
    let first : e.core < most = All-head (λ (x : Entry). x.core < most) e es known in
    rw (ne_eqb e.core core (λ (same : e.core ≡ core). absurd (omega (arith, first, past, same)))) (none_of_core most core es (All-tail (λ (x : Entry). x.core < most) e es known) past)

own_first : (core : ℕ) (e : Entry) (es : List Entry) → e.core ≡ core → of_core core (e ∷ es) ≡ e ∷ of_core core es
own_first core e es same = rw (eq-eqb e.core core same) refl

other_first : (core : ℕ) (e : Entry) (es : List Entry) → (e.core ≡ core → ⊥) → of_core core (e ∷ es) ≡ of_core core es
other_first core e es other = rw (ne_eqb e.core core other) refl

beyond : {X : Type 0} (xs : List X) (i : ℕ) → slice_get xs i ≡ None → length xs ≤ i
beyond [] i none = omega arith
beyond (x ∷ xs) zero none = absurd (cc)
beyond (x ∷ xs) (suc i) none = let rest = beyond xs i none in omega (arith, rest)

-- each core has these accesses of a list
abbrev pub HaveOwn : (taken : List Entry) → List (List Entry) → Type 0
HaveOwn taken lists = (core : ℕ) (es : List Entry) → slice_get lists core ≡ Some es → of_core core taken ≡ es

all_lists : (P : Entry → Type 0) (taken : List Entry) (from : ℕ) (lists : List (List Entry)) → All P taken → ((i : ℕ) (es : List Entry) → slice_get lists i ≡ Some es → of_core (from + i) taken ≡ es) → All P (one_after_other lists)
all_lists P taken from [] all own = All-nil P
all_lists P taken from (l ∷ ls) all own =
    All-append P l (one_after_other ls) (subst (All P) (own 0 l refl) (All-filter (λ (e : Entry). e.core == from + 0) P taken all))
    (all_lists P taken (suc from) ls all (λ i es here. let same : suc from + i ≡ from + suc i = omega arith in ap (λ (n : ℕ). of_core n taken) same ∙ own (suc i) es here))

module _ (taken : List Entry) (lists : List (List Entry)) (own : HaveOwn taken lists) (known : All (λ e. e.core < length lists) taken) where
  -- what holds of the accesses in one order holds of them in the other
  pub all_of_all : (P : Entry → Type 0) → All P taken → All P (one_after_other lists)
  all_of_all P all = all_lists P taken 0 lists all (λ i es here. let same : 0 + i ≡ i = omega arith in ap (λ (n : ℕ). of_core n taken) same ∙ own i es here)

  pub own_cores : (core : ℕ) (es : List Entry) → slice_get lists core ≡ Some es → All (λ e. e.core ≡ core) es
  own_cores core es here = subst (All (λ (e : Entry). e.core ≡ core)) (own core es here) (of_core_own core taken)

  own_one_after_other : (core : ℕ) (es : List Entry) → slice_get lists core ≡ Some es → of_core core (one_after_other lists) ≡ es
  own_one_after_other core es here =
      own_list 0 core lists (λ i xs at. subst (λ (n : ℕ). All (λ (e : Entry). e.core ≡ n) xs) (let same : i ≡ 0 + i = omega arith in same) (own_cores i xs at)) core es (let same : core ≡ 0 + core = omega arith in same) here

  pub same_cores : (core : ℕ) → of_core core (one_after_other lists) ≡ of_core core taken
  same_cores core = by_place core (slice_get lists core) refl
    where
      by_place : (core : ℕ) (o : Option (List Entry)) → slice_get lists core ≡ o → of_core core (one_after_other lists) ≡ of_core core taken
      by_place core (Some es) here = own_one_after_other core es here ∙ sym (own core es here)
      by_place core None none =
          let past : length lists ≤ core = beyond lists core none in
          none_of_core (length lists) core (one_after_other lists) (all_of_all (λ (e : Entry). e.core < length lists) known) past ∙ sym (none_of_core (length lists) core taken known past)

  module _ (banks : ℕ) (some : 0 < banks) (stamped : AreStamped banks (no_stamps banks (length lists)) taken) where
    -- in recorded order they are the same
    pub same_recorded : StampsRise → CoresDecideTheOrder → recorded_order (one_after_other lists) ≡ recorded_order taken
    same_recorded rise decide = decide taken (one_after_other lists) (rise banks (length lists) taken some known stamped).0 same_cores

    pub own_recorded : StampsRise → CoresDecideTheOrder → RecordedOrderKeepsTheStamps → (core : ℕ) → of_core core (recorded_order (one_after_other lists)) ≡ of_core core taken
    own_recorded rise decide keep core = ap (of_core core) (same_recorded rise decide) ∙ (keep banks (length lists) taken some known stamped).2.core core

-- ---- in the order of turns

pub taken_again : (taken : List Entry) (lists : List (List Entry)) → HaveOwn taken lists → All (λ e. e.core < length lists) taken → in_turns (map (λ e. e.core) taken) lists ≡ taken
taken_again [] lists own known = refl
taken_again (e ∷ rest) lists own known =
    let core = e.core in
    let below : core < length lists = All-head (λ (x : Entry). x.core < length lists) e rest known in
    let at = has_at lists core below in
    let list : List Entry = at.0 in
    let is : list ≡ e ∷ of_core core rest = sym (own core list at.1) ∙ own_first core e rest refl in
    let next : next_of lists core ≡ e ∷ [] = ap (λ (o : Option (List Entry)). option_map_or (λ (l : List Entry). take 1 l) o []) at.1 ∙ ap (take 1) is in
    let left : left_after lists core ≡ slice_set lists core (of_core core rest) =
    ap (λ (o : Option (List Entry)). option_map_or (λ (l : List Entry). slice_set lists core (drop 1 l)) o lists) at.1 ∙ ap (λ (l : List Entry). slice_set lists core (drop 1 l)) is
    in
    let after : List (List Entry) = slice_set lists core (of_core core rest) in
    let long : length after ≡ length lists = length-set lists core (of_core core rest) in
    let own_after : HaveOwn rest after = (λ i es here.
    set_cases lists core i list (of_core core rest) es at.1 here (λ x. of_core i rest ≡ x) (λ same. ap (λ (n : ℕ). of_core n rest) same)
    (λ apart was. sym (other_first i e rest (λ (same : e.core ≡ i). apart (sym same))) ∙ own i es was)) in
    ap₂ (λ (xs ys : List Entry). xs ++ ys) next
    (ap (in_turns (map (λ (x : Entry). x.core) rest)) left
    ∙ taken_again rest after own_after (subst (λ (n : ℕ). All (λ (x : Entry). x.core < n) rest) (sym long) (All-tail (λ (x : Entry). x.core < length lists) e rest known)))
