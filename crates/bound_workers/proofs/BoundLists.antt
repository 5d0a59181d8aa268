-- The accesses of all cores in the order of turns: two ways to say it, how many they are, and those of a core.
use Rattle.std.proofs.Common.{◌≡◌, ℕ, zero, suc, ◌+◌, ◌*◌, ◌<◌, ◌≤◌, List, [], ◌∷◌, ◌++◌, All, Option, Some, None, drop, get_or, length, map, set, take, refl, sym, ◌∙◌, ap, ap₂, subst, arith, inl, inr}
use Rattle.std.specs.Prelude.{slice_get}
use Rattle.std.specs.Option.{option_map_or}
use Rattle.std.proofs.lemmas.Bool.{cases_eq, eq-eqb, ne_eqb}
use Rattle.std.proofs.lemmas.List.{length-append, length-map, map-append}
use Rattle.std.proofs.lemmas.List.Elements.{All-cons, All-head, All-nil, All-tail}
use Rattle.zs_num.specs.declared.entry.Entry.{Entry}
use Rattle.access_log.specs.History.{core_of_entry, of_core}
use Rattle.access_record.specs.Restamped.{unstamped}
use Rattle.access_record.specs.Turns as listed
use Rattle.reference.proofs.Numbered.{other_first, own_first}
use Rattle.parts_table.specs.TurnOrder.{by_core, in_turns, left_after, next_of}
use Rattle.parts_table.specs.declared.view.Made.{Made}

abbrev pub entry_of : Made → Entry
entry_of a = a.entry

-- the entries of each core's accesses
abbrev pub entry_lists : List (List Made) → List (List Entry)
entry_lists lists = map (map entry_of) lists

-- ---- by an index or by an option

take_entry : (list : List Made) → take 1 (map entry_of list) ≡ map entry_of (take 1 list)
take_entry [] = refl
take_entry (a ∷ list) = refl

drop_entry : (list : List Made) → drop 1 (map entry_of list) ≡ map entry_of (drop 1 list)
drop_entry [] = refl
drop_entry (a ∷ list) = refl

next_same : (lists : List (List Made)) (core : ℕ) → listed.next_of (entry_lists lists) core ≡ map entry_of (next_of lists core)
next_same [] core = refl
next_same (l ∷ ls) zero = take_entry l
next_same (l ∷ ls) (suc core) = next_same ls core

behind_first : (l : List Entry) (ls : List (List Entry)) (core : ℕ) (o : Option (List Entry))
    → option_map_or (λ list. l ∷ set ls core (drop 1 list)) o (l ∷ ls) ≡ l ∷ option_map_or (λ list. set ls core (drop 1 list)) o ls
behind_first l ls core None = refl
behind_first l ls core (Some list) = refl

left_same : (lists : List (List Made)) (core : ℕ) → listed.left_after (entry_lists lists) core ≡ entry_lists (left_after lists core)
left_same [] core = refl
left_same (l ∷ ls) zero = ap (λ (list : List Entry). list ∷ entry_lists ls) (drop_entry l)
left_same (l ∷ ls) (suc core) =
    behind_first (map entry_of l) (entry_lists ls) core (slice_get (entry_lists ls) core) ∙ ap (λ (lists : List (List Entry)). map entry_of l ∷ lists) (left_same ls core)

pub turns_same : (turns : List ℕ) (lists : List (List Made)) → listed.in_turns turns (entry_lists lists) ≡ map entry_of (in_turns turns lists)
turns_same [] lists = refl
turns_same (core ∷ turns) lists =
    ap₂ (λ (xs ys : List Entry). xs ++ ys) (next_same lists core) (ap (listed.in_turns turns) (left_same lists core) ∙ turns_same turns (left_after lists core))
    ∙ sym (map-append entry_of (next_of lists core) (in_turns turns (left_after lists core)))

-- ---- of a core

pub core_same : (core : ℕ) (list : List Made) → of_core core (map entry_of list) ≡ map entry_of (by_core core list)
core_same core [] = refl
core_same core (a ∷ list) =
    elim (cases_eq a.entry.core core) as (λ _. of_core core (map entry_of (a ∷ list)) ≡ map entry_of (by_core core (a ∷ list))) [
      | inl own ↦ rw (eq-eqb a.entry.core core own) (ap (λ (es : List Entry). a.entry ∷ es) (core_same core list))
      | inr other ↦ rw (ne_eqb a.entry.core core other) (core_same core list)
    ]

-- what holds of the accesses of each core holds of all
pub all_by_core : (P : Entry → Type 0) (entries : List Entry) → ((core : ℕ) → All P (of_core core entries)) → All P entries
all_by_core P [] each = All-nil P
all_by_core P (e ∷ entries) each =
    All-cons P e entries (All-head P e (of_core e.core entries) (subst (All P) (own_first core_of_entry e.core e entries refl) (each e.core)))
    (all_by_core P entries (λ core. elim (cases_eq e.core core) as (λ _. All P (of_core core entries)) [
      | inl own ↦ All-tail P e (of_core core entries) (subst (All P) (own_first core_of_entry core e entries own) (each core))
      | inr other ↦ subst (All P) (other_first core_of_entry core e entries other) (each core)
    ]))

-- ---- how many

abbrev total : List (List Made) → ℕ
total [] = 0
total (l ∷ ls) = length l + total ls

one_less : (list : List Made) → length (take 1 list) + length (drop 1 list) ≡ length list
one_less [] = refl
one_less (a ∷ list) = omega arith

one_taken : (lists : List (List Made)) (core : ℕ) → length (next_of lists core) + total (left_after lists core) ≡ total lists
one_taken [] core = refl
one_taken (l ∷ ls) zero = omega (arith, one_less l)
one_taken (l ∷ ls) (suc core) = omega (arith, one_taken ls core)

few_taken : (turns : List ℕ) (lists : List (List Made)) → length (in_turns turns lists) ≤ total lists
few_taken [] lists = omega arith
few_taken (core ∷ turns) lists =
    omega (arith, length-append (next_of lists core) (in_turns turns (left_after lists core)), one_taken lists core, few_taken turns (left_after lists core))

few_total : (room : ℕ) (lists : List (List Made)) → All (λ l. length l ≤ room) lists → total lists ≤ length lists * room
few_total room [] few = omega arith
few_total room (l ∷ ls) few =
    let here = All-head (λ (list : List Made). length list ≤ room) l ls few in
    let later = few_total room ls (All-tail (λ (list : List Made). length list ≤ room) l ls few) in
    omega (arith, here, later)

pub few_in_turns : (room : ℕ) (turns : List ℕ) (lists : List (List Made)) → All (λ l. length l ≤ room) lists → length (in_turns turns lists) ≤ length lists * room
few_in_turns room turns lists few =
    let one = few_taken turns lists in
    let two = few_total room lists few in
    omega (arith, one, two)

-- ---- without stamps

-- entries without a stamp are as they are without it
pub none_stamped : (entries : List Entry) → All (λ e. e.stamp ≡ 0) entries → map unstamped entries ≡ entries
none_stamped [] none = refl
none_stamped (e ∷ entries) none =
    let zero_is : e.stamp ≡ 0 = All-head (λ (x : Entry). x.stamp ≡ 0) e entries none in
    let one : unstamped e ≡ e = ap (λ (n : ℕ). let x : Entry = record e { stamp = n } in x) (sym zero_is) in
    let rest = none_stamped entries (All-tail (λ (x : Entry). x.stamp ≡ 0) e entries none) in
    λ i. one i ∷ rest i

-- ---- maps

pub same_maps : {X Y : Type 0} (f g : X → Y) (xs : List X) → ((i : ℕ) (x : X) → slice_get xs i ≡ Some x → f x ≡ g x) → map f xs ≡ map g xs
same_maps f g [] each = refl
same_maps f g (x ∷ xs) each =
    let one : f x ≡ g x = each 0 x refl in
    let rest : map f xs ≡ map g xs = same_maps f g xs (λ i y at. each (suc i) y at) in
    λ i. one i ∷ rest i
