-- Lists of accesses, core by core.
use Rattle.std.proofs.Common.{◌≡◌, ◌≢◌, ℕ, zero, suc, ◌+◌, ◌<◌, ◌≤◌, Bool, List, [], ◌∷◌, ◌++◌, length, map, All, Some, get_or, refl, sym, ◌∙◌, ap, ap₂, subst, inl, inr, arith, append-nil, append_assoc}
use Rattle.std.specs.Prelude.{◌==◌, slice_get, slice_set}
use Rattle.std.specs.List.{AllByRecursion, filter}
use Rattle.std.specs.Option.{option_map}
use Rattle.std.proofs.lemmas.Bool.{cases_Bool, cases_eq, eq-eqb, ne_eqb}
use Rattle.std.proofs.lemmas.List.{map-append}
use Rattle.std.proofs.lemmas.List.Elements.{All-cons, All-head, All-nil, All-tail, filter-append}
use Rattle.std.proofs.lemmas.Option.{get_or_from_slice_get, same_Some, slice_get-get_or, slice_get-map, slice_get_within}
use Rattle.zs_num.specs.declared.entry.Entry.{Entry}
use Rattle.access_log.specs.History.{of_core}
use Rattle.access_log.specs.RecordedOrder.{comes_before, placed, recorded_order}
use Rattle.access_record.specs.BankLogs.{makes_events}
use Rattle.access_record.specs.Laws.{beyond_hits, kept_of}
use Rattle.weave_chains.specs.Listed.{one_after_other}
use Rattle.reference.proofs.Lists.{get_set}

-- ---- one place of a list

pub get_other : {A : Type 0} (xs : List A) (i k : ℕ) (x : A) → k ≢ i → slice_get (slice_set xs i x) k ≡ slice_get xs k
get_other [] i k x other = refl
get_other (y ∷ ys) zero zero x other = absurd (other refl)
get_other (y ∷ ys) zero (suc k) x other = refl
get_other (y ∷ ys) (suc i) zero x other = refl
get_other (y ∷ ys) (suc i) (suc k) x other = get_other ys i k x (λ (same : k ≡ i). other (ap suc same))

pub get_mapped : {A B : Type 0} (f : A → B) (xs : List A) (i : ℕ) (x : A) → slice_get xs i ≡ Some x → slice_get (map f xs) i ≡ Some (f x)
get_mapped f xs i x here = slice_get-map f xs i ∙ ap (option_map f) here

-- what is there after one was set
pub set_cases : {A : Type 0} (xs : List A) (i k : ℕ) (x y z : A) → slice_get xs i ≡ Some x → slice_get (slice_set xs i y) k ≡ Some z → (P : A → Type 0) → (k ≡ i → P y) → (k ≢ i → slice_get xs k ≡ Some z → P z) → P z
set_cases xs i k x y z here found P own other =
    elim (cases_eq k i) as (λ _. P z) [
      | inl same ↦
          let there : slice_get (slice_set xs i y) i ≡ Some z = ap (λ (n : ℕ). slice_get (slice_set xs i y) n) (sym same) ∙ found in
          subst P (same_Some y z (sym (get_set xs i x y here) ∙ there)) (own same)
      | inr apart ↦ other apart (sym (get_other xs i k y apart) ∙ found)
    ]

pub has_at : {X : Type 0} (xs : List X) (i : ℕ) → i < length xs → (x : X) × (slice_get xs i ≡ Some x)
has_at [] i within = absurd (omega (arith, within))
has_at (x ∷ xs) zero within = (x, refl)
has_at (x ∷ xs) (suc i) within = has_at xs i (omega (arith, within))

pub mapped_at : {A B : Type 0} (f : A → B) (xs : List A) (i : ℕ) (y : B) → slice_get (map f xs) i ≡ Some y → (x : A) × ((slice_get xs i ≡ Some x) × (y ≡ f x))
mapped_at f [] i y here = absurd (cc)
mapped_at f (x ∷ xs) zero y here = (x, (refl, sym (same_Some (f x) y here)))
mapped_at f (x ∷ xs) (suc i) y here = mapped_at f xs i y here

pub all_each : {A : Type 0} (P : A → Type 0) (xs : List A) → ((i : ℕ) (x : A) → slice_get xs i ≡ Some x → P x) → All P xs
all_each P xs each = λ k d below. each k (get_or xs k d) (slice_get-get_or xs k d below)

-- one list is made of another, element by element
pub mapped_all : {A B : Type 0} (f : A → B) (xs : List A) (ys : List B) → length ys ≡ length xs → ((i : ℕ) (x : A) (y : B) → slice_get xs i ≡ Some x → slice_get ys i ≡ Some y → y ≡ f x) → ys ≡ map f xs
mapped_all {A} {B} f [] [] long each = refl
mapped_all {A} {B} f [] (y ∷ ys) long each = absurd (omega (arith, long))
mapped_all {A} {B} f (x ∷ xs) [] long each = absurd (omega (arith, long))
mapped_all {A} {B} f (x ∷ xs) (y ∷ ys) long each =
    ap₂ {A = B} {B = List B} (λ z zs. z ∷ zs) (each 0 x y refl refl) (mapped_all f xs ys (omega (arith, long)) (λ i a b one other. each (suc i) a b one other))

pub by_index : {A : Type 0} (f : A → A) (xs ys : List A) (d : A) → length ys ≡ length xs → ((i : ℕ) → i < length xs → get_or ys i d ≡ f (get_or xs i d)) → ys ≡ map f xs
by_index f xs ys d long each =
    mapped_all f xs ys long
    (λ i x y here there.
    let within = slice_get_within xs i x here in
    sym (get_or_from_slice_get ys i y d there) ∙ (each i within ∙ ap f (get_or_from_slice_get xs i x d here)))

pub map_twice : {A B C : Type 0} (g : B → C) (f : A → B) (xs : List A) → map g (map f xs) ≡ map (λ x. g (f x)) xs
map_twice g f [] = refl
map_twice g f (x ∷ xs) = ap (λ zs. g (f x) ∷ zs) (map_twice g f xs)

pub by_recursion : {A : Type 0} (P : A → Type 0) (xs : List A) → All P xs → AllByRecursion P xs
by_recursion P [] all = tt
by_recursion P (x ∷ xs) all = (All-head P x xs all, by_recursion P xs (All-tail P x xs all))

-- ---- lists one after the other

pub all_empty : (lists : List (List Entry)) → ((i : ℕ) (es : List Entry) → slice_get lists i ≡ Some es → es ≡ []) → one_after_other lists ≡ []
all_empty [] none = refl
all_empty (l ∷ ls) none = ap (λ (xs : List Entry). xs ++ one_after_other ls) (none 0 l refl) ∙ all_empty ls (λ i es here. none (suc i) es here)

-- the first list of which all behind are empty goes behind those before
pub behind : (lists : List (List Entry)) (n : ℕ) (es : List Entry) → n < length lists → ((i : ℕ) (xs : List Entry) → n ≤ i → slice_get lists i ≡ Some xs → xs ≡ [])
    → one_after_other (slice_set lists n es) ≡ one_after_other lists ++ es
behind [] n es below none = absurd (omega (arith, below))
behind (l ∷ ls) zero es below none =
    let empty : one_after_other (l ∷ ls) ≡ [] = all_empty (l ∷ ls) (λ i xs here. none i xs (omega arith) here) in
    let rest : one_after_other ls ≡ [] = all_empty ls (λ i xs here. none (suc i) xs (omega arith) here) in
    ap (λ (xs : List Entry). es ++ xs) rest ∙ (append-nil es ∙ ap (λ (xs : List Entry). xs ++ es) (sym empty))
behind (l ∷ ls) (suc n) es below none =
    ap (λ (xs : List Entry). l ++ xs) (behind ls n es (omega (arith, below)) (λ i xs from here. none (suc i) xs (omega (arith, from)) here))
    ∙ sym (append_assoc l (one_after_other ls) es)

-- ---- those of a core

pub own_core : (core : ℕ) (es : List Entry) → All (λ e. e.core ≡ core) es → of_core core es ≡ es
own_core core [] all = refl
own_core core (e ∷ es) all =
    let first : e.core ≡ core = All-head (λ (x : Entry). x.core ≡ core) e es all in
    rw (eq-eqb e.core core first) (ap (λ (xs : List Entry). e ∷ xs) (own_core core es (All-tail (λ (x : Entry). x.core ≡ core) e es all)))

pub other_core : (core other : ℕ) (es : List Entry) → (other ≡ core → ⊥) → All (λ e. e.core ≡ other) es → of_core core es ≡ []
other_core core other [] apart all = refl
other_core core other (e ∷ es) apart all =
    let first : e.core ≡ other = All-head (λ (x : Entry). x.core ≡ other) e es all in
    rw (ne_eqb e.core core (λ (same : e.core ≡ core). apart (sym first ∙ same))) (other_core core other es apart (All-tail (λ (x : Entry). x.core ≡ other) e es all))

abbrev AreFrom : (from : ℕ) → List (List Entry) → Type 0
AreFrom from lists = (i : ℕ) (es : List Entry) → slice_get lists i ≡ Some es → All (λ e. e.core ≡ from + i) es

next_from : (from : ℕ) (l : List Entry) (ls : List (List Entry)) → AreFrom from (l ∷ ls) → AreFrom (suc from) ls
next_from from l ls own i es at =
    let same : from + suc i ≡ suc from + i = omega arith in
    subst (λ (n : ℕ). All (λ (e : Entry). e.core ≡ n) es) same (own (suc i) es at)

core_of_list : (core : ℕ) (l : List Entry) (ls : List (List Entry)) → of_core core (one_after_other (l ∷ ls)) ≡ of_core core l ++ of_core core (one_after_other ls)
core_of_list core l ls = filter-append (λ (e : Entry). e.core == core) l (one_after_other ls)

none_from : (from core : ℕ) (lists : List (List Entry)) → AreFrom from lists → core < from → of_core core (one_after_other lists) ≡ []
none_from from core [] own low = refl
none_from from core (l ∷ ls) own low =
    core_of_list core l ls
    ∙ ap₂ (λ (xs ys : List Entry). xs ++ ys) (other_core core (from + 0) l (λ (same : from + 0 ≡ core). absurd (omega (arith, same, low))) (own 0 l refl))
    (none_from (suc from) core ls (next_from from l ls own) (omega (arith, low)))

pub own_list : (from core : ℕ) (lists : List (List Entry)) → AreFrom from lists → (i : ℕ) (es : List Entry) → core ≡ from + i → slice_get lists i ≡ Some es → of_core core (one_after_other lists) ≡ es
own_list from core [] own i es is here = absurd (cc)
own_list from core (l ∷ ls) own zero es is here =
    let same : l ≡ es = same_Some l es here in
    let back : from + 0 ≡ core = omega (arith, is) in
    let mine : of_core core l ≡ l = own_core core l (subst (λ (n : ℕ). All (λ (e : Entry). e.core ≡ n) l) back (own 0 l refl)) in
    let none : of_core core (one_after_other ls) ≡ [] = none_from (suc from) core ls (next_from from l ls own) (omega (arith, is)) in
    core_of_list core l ls ∙ (ap₂ (λ (xs ys : List Entry). xs ++ ys) mine none ∙ (append-nil l ∙ same))
own_list from core (l ∷ ls) own (suc i) es is here =
    let none : of_core core l ≡ [] = other_core core (from + 0) l (λ (same : from + 0 ≡ core). absurd (omega (arith, same, is))) (own 0 l refl) in
    let on : core ≡ suc from + i = omega (arith, is) in
    core_of_list core l ls
    ∙ (ap (λ (xs : List Entry). xs ++ of_core core (one_after_other ls)) none ∙ own_list (suc from) core ls (next_from from l ls own) i es on here)

-- ---- those that make events, as they are given back

pub flat_kept : (f : Entry → Entry) (lists : List (List Entry)) → one_after_other (map (λ es. map f (beyond_hits es)) lists) ≡ map f (beyond_hits (one_after_other lists))
flat_kept f [] = refl
flat_kept f (l ∷ ls) =
    ap (λ (xs : List Entry). map f (beyond_hits l) ++ xs) (flat_kept f ls)
    ∙ (sym (map-append f (beyond_hits l) (beyond_hits (one_after_other ls)))
    ∙ ap (map f) (sym (filter-append (λ (e : Entry). makes_events e.outcome) l (one_after_other ls))))

pub core_kept : (begin base core : ℕ) (es : List Entry) → of_core core (map (kept_of begin base) (beyond_hits es)) ≡ map (kept_of begin base) (beyond_hits (of_core core es))
core_kept begin base core [] = refl
core_kept begin base core (e ∷ es) =
    let Goal : Type 0 = of_core core (map (kept_of begin base) (beyond_hits (e ∷ es))) ≡ map (kept_of begin base) (beyond_hits (of_core core (e ∷ es))) in
    elim (cases_eq e.core core) as (λ _. Goal) [
      | inl same ↦
          let own = eq-eqb e.core core same in
          elim (cases_Bool (makes_events e.outcome)) as (λ _. Goal) [
            | inl some ↦ rw (own, some, own) (ap (λ (xs : List Entry). kept_of begin base e ∷ xs) (core_kept begin base core es))
            | inr none ↦ rw (own, none) (core_kept begin base core es)
          ]
      | inr other ↦
          let foreign = ne_eqb e.core core other in
          elim (cases_Bool (makes_events e.outcome)) as (λ _. Goal) [
            | inl some ↦ rw (foreign, some, foreign) (core_kept begin base core es)
            | inr none ↦ rw (foreign, none) (core_kept begin base core es)
          ]
    ]

pub fewer : (p : Entry → Bool) (es : List Entry) → length (filter p es) ≤ length es
fewer p [] = omega arith
fewer p (e ∷ es) =
    elim (cases_Bool (p e)) as (λ _. length (filter p (e ∷ es)) ≤ length (e ∷ es)) [
      | inl passes ↦ rw passes (omega (arith, fewer p es))
      | inr fails ↦ rw fails (omega (arith, fewer p es))
    ]

-- ---- recorded order

all_placed : (P : Entry → Type 0) (e : Entry) (entries : List Entry) → P e → All P entries → All P (placed e entries)
all_placed P e [] one all = All-cons P e [] one all
all_placed P e (x ∷ entries) one all =
    elim (cases_Bool (comes_before e x)) as (λ _. All P (placed e (x ∷ entries))) [
      | inl is ↦ rw is (All-cons P e (x ∷ entries) one all)
      | inr not ↦ rw not (All-cons P x (placed e entries) (All-head P x entries all) (all_placed P e entries one (All-tail P x entries all)))
    ]

pub all_recorded : (P : Entry → Type 0) (entries : List Entry) → All P entries → All P (recorded_order entries)
all_recorded P [] all = All-nil P
all_recorded P (e ∷ entries) all = all_placed P e (recorded_order entries) (All-head P e entries all) (all_recorded P entries (All-tail P e entries all))

length_placed : (e : Entry) (entries : List Entry) → length (placed e entries) ≡ length entries + 1
length_placed e [] = refl
length_placed e (x ∷ entries) =
    elim (cases_Bool (comes_before e x)) as (λ _. length (placed e (x ∷ entries)) ≡ length (x ∷ entries) + 1) [
      | inl is ↦ rw is (omega arith)
      | inr not ↦ rw not (omega (arith, length_placed e entries))
    ]

pub length_recorded : (entries : List Entry) → length (recorded_order entries) ≡ length entries
length_recorded [] = refl
length_recorded (e ∷ entries) = omega (arith, length_placed e (recorded_order entries), length_recorded entries)
