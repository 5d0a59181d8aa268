-- A copy is there by the steps exactly where the machine's cache has the line.
use Rattle.std.proofs.Common.{◌≡◌, ◌⊎◌, ℕ, zero, suc, ◌≤◌, ◌==◌, Bool, true, false, not, ◌&&◌, IsTrue, if◌then◌else◌, List, [], ◌∷◌, length, replicate, Option, Some, None, is_some, refl, sym, ◌∙◌, ap, subst, inl, inr, arith}
use Rattle.std.specs.Prelude.{slice_index_or}
use Rattle.std.specs.List.{range_with_len}
use Rattle.std.proofs.lemmas.Bool.{and_parts, cases_eq, cases_lt, eq-eqb, eqb-true, ne_eqb}
use Rattle.std.proofs.lemmas.List.{get_or_past, length-replicate}
use Rattle.std.proofs.lemmas.List.Folds.{list_any_at}
use Rattle.std.proofs.lemmas.List.FromFn.{get_or-range_with_len, length-range_with_len}
use Rattle.zs_num.specs.declared.entry.Entry.{Entry}
use Rattle.zs_num.specs.declared.entry.Outcome.{Outcome}
use Rattle.zs_num.specs.declared.request.Request.{Request}
use Rattle.zs_num.specs.declared.request.Request.TheVariants.{Load, Store, Lr, Sc, Amo, Fetch}
use Rattle.zs_num.specs.Request.{is_fetch, line_of}
use Rattle.elf_load.specs.MemoryImage.{MemoryImage}
use Rattle.machine_desc.specs.Machine.{IsMachine}
use Rattle.machine_desc.specs.declared.machine.Machine.{Machine}
use Rattle.cache_set.specs.Ways.{kept_of}
use Rattle.cache_set.specs.declared.letter.Letter.{Letter}
use Rattle.cache_set.specs.declared.letter.Letter.TheVariants.{M, E, S, I}
use Rattle.shard.specs.Coherence.{Caches, caches_after, dirty_at, fetch_holds, fetch_met_at, fetch_outcome_by, is_alone, is_dirty_victim, is_valid, is_write, l2_victim, letter_at, met_at, outcome_by, outcome_of, some_other}
use Rattle.shard.specs.Laws.{CoherentStays, NewShardsStand}
use Rattle.shard.specs.Leaving as leaving_of_caches
use Rattle.shard.specs.Leaving.{leaving_of}
use Rattle.shard.specs.LeavingLaws.{CopiesBehind, InstructionsBehind, copy_behind, instructions_behind}
use Rattle.shard.specs.NewCaches.{new_caches}
use Rattle.shard.specs.StandsFor.{AreCoherent, HaveRoomForLines}
use Rattle.shard.specs.declared.leaving.Leaving.{Leaving}
use Rattle.trace.specs.Laws.{AreMetBy, IsMetBy}
use Rattle.trace.specs.Trace.{Accessed, Ended, Executed, Step}
use Rattle.profile.specs.declared.copies.CopyState.{CopyState}
use Rattle.profile.specs.declared.copies.CopyState.TheVariants.{Never, Held, Gone}
use Rattle.profile.specs.declared.copies.Leave.{Leave}
use Rattle.profile.specs.Copies.{Copies, changes_others, copies_after, copy_after, finds_none, invalidates, is_held, is_of, is_others, is_this, left, left_l2, made_room, no_copies, own_copy, when_taken, writes}
use Rattle.profile.specs.Laws.{FindWhatIsHeld}
use Rattle.profile.specs.MachineCopies.{AreOfCaches, StayOfCaches, behind, has_copy}

-- ---- one copy

unheld : (why : Leave) (copy : CopyState) → is_held (left why copy) ≡ false
unheld why Never = refl
unheld why Held = refl
unheld why (Gone earlier) = refl

held_if_left : (why : Leave) (test : Bool) (copy : CopyState) → is_held (if test then left why copy else copy) ≡ (if test then false else is_held copy)
held_if_left why true copy = unheld why copy
held_if_left why false copy = refl

held_if_used : (test : Bool) (copy : CopyState) → is_held (if test then Held else copy) ≡ (if test then true else is_held copy)
held_if_used true copy = refl
held_if_used false copy = refl

-- whether a copy is there behind an access, where the tests of `copy_after` have these values
abbrev held_by : (used taken room shared was : Bool) → Bool
held_by used taken room shared was = if used then true else if taken then false else if room then false else if shared then false else was

pub held_after : (e : Entry) (leaving : Leaving) (fetching : Bool) (core line : ℕ) (copy : CopyState)
    → let own = is_of (is_fetch e.request) e.core fetching core in let used = line_of e.request == line in
    is_held (copy_after e leaving fetching core line copy)
    ≡ held_by (own && used) (invalidates e && (is_others e.core fetching core && used)) (own && is_this leaving.own line) (is_this leaving.shared line) (is_held copy)
held_after e leaving fetching core line copy =
    let own = is_of (is_fetch e.request) e.core fetching core in
    let used = line_of e.request == line in
    let taken = invalidates e && (is_others e.core fetching core && used) in
    let room = own && is_this leaving.own line in
    let shared = is_this leaving.shared line in
    let one = left_l2 leaving.shared line copy in
    let two = made_room own (is_this leaving.own line) one in
    let three = when_taken (invalidates e) (is_others e.core fetching core) used two in
    held_if_used (own && used) three
    ∙ ap (λ (b : Bool). if own && used then true else b) (held_if_left _ taken two)
    ∙ ap (λ (b : Bool). if own && used then true else if taken then false else b) (held_if_left _ room one)
    ∙ ap (λ (b : Bool). if own && used then true else if taken then false else if room then false else b) (held_if_left _ shared copy)

-- ---- by tests

-- A copy of data: `here` is the core's own, `used` the line of the access. A line that a write needs to invalidate
-- nowhere is nowhere else.
same_data : (fetch here used takes write shared room was : Bool) → (takes ≡ true → write ≡ true) → (here ≡ false → used ≡ true → write ≡ true → takes ≡ false → was ≡ false)
    → held_by ((not fetch && here) && used) (takes && (not here && used)) ((not fetch && here) && room) shared was
    ≡ (if not fetch && here && used then true else if shared then false else if not fetch && here && room then false else if not here && used && write then false else was)
same_data true true used true write shared room was a b = refl
same_data true true used false write shared room was a b = refl
same_data true false true true true true room was a b = refl
same_data true false true true true false room was a b = refl
same_data true false true true false shared room was a b = let wrong = a refl in cc
same_data true false true false true true room was a b = refl
same_data true false true false true false room was a b = b refl refl refl refl
same_data true false true false false shared room was a b = refl
same_data true false false true write shared room was a b = refl
same_data true false false false write shared room was a b = refl
same_data false true true takes write shared room was a b = refl
same_data false true false true write true true was a b = refl
same_data false true false true write true false was a b = refl
same_data false true false true write false true was a b = refl
same_data false true false true write false false was a b = refl
same_data false true false false write true true was a b = refl
same_data false true false false write true false was a b = refl
same_data false true false false write false true was a b = refl
same_data false true false false write false false was a b = refl
same_data false false true true true true room was a b = refl
same_data false false true true true false room was a b = refl
same_data false false true true false shared room was a b = let wrong = a refl in cc
same_data false false true false true true room was a b = refl
same_data false false true false true false room was a b = b refl refl refl refl
same_data false false true false false shared room was a b = refl
same_data false false false true write shared room was a b = refl
same_data false false false false write shared room was a b = refl

same_instructions : (fetch here used takes shared room was : Bool)
    → held_by ((fetch && here) && used) (takes && (false && used)) ((fetch && here) && room) shared was
    ≡ (if fetch && here && used then true else if shared then false else if fetch && here && room then false else was)
same_instructions false here used true shared room was = refl
same_instructions false here used false shared room was = refl
same_instructions true false used true shared room was = refl
same_instructions true false used false shared room was = refl
same_instructions true true true takes shared room was = refl
same_instructions true true false true true true was = refl
same_instructions true true false true true false was = refl
same_instructions true true false true false true was = refl
same_instructions true true false true false false was = refl
same_instructions true true false false true true was = refl
same_instructions true true false false true false was = refl
same_instructions true true false false false true was = refl
same_instructions true true false false false false was = refl

pub turned : (n m : ℕ) → (n == m) ≡ (m == n)
turned n m =
    elim (cases_eq n m) as (λ _. (n == m) ≡ (m == n)) [
      | inl same ↦ eq-eqb n m same ∙ sym (eq-eqb m n (sym same))
      | inr apart ↦ ne_eqb n m apart ∙ sym (ne_eqb m n (λ same. apart (sym same)))
    ]

pub same_this : (other : Option ℕ) (line : ℕ) → is_this other line ≡ leaving_of_caches.is_this other line
same_this None line = refl
same_this (Some other) line = refl

-- ---- who has a line that a write needs to invalidate nowhere

pub same_write : (request : Request) → writes request ≡ is_write request
same_write (Load width addr) = refl
same_write (Store width addr value) = refl
same_write (Lr width addr) = refl
same_write (Sc width paired addr value) = refl
same_write (Amo width op addr value) = refl
same_write (Fetch addr) = refl

pub no_fetch : (request : Request) → is_write request ≡ true → is_fetch request ≡ false
no_fetch (Load width addr) write = cc
no_fetch (Store width addr value) write = refl
no_fetch (Lr width addr) write = cc
no_fetch (Sc width paired addr value) write = refl
no_fetch (Amo width op addr value) write = refl
no_fetch (Fetch addr) write = cc

pub met_of_write : (c : Caches) (core : ℕ) (request : Request) → is_write request ≡ true → outcome_of c core request ≡ met_at c core (line_of request) true
unfolding outcome_of
met_of_write c core request write = rw (no_fetch request write, write) refl

-- a write that changes no other core's copy met a line that the core had alone, or that no other had, or that was not there
why_alone : (letter : Letter) (in_l2 alone has dirty : Bool) → changes_others (outcome_by true letter in_l2 alone has dirty) ≡ false → IsTrue (is_alone letter) ⊎ ((has ≡ false) ⊎ (in_l2 ≡ false))
why_alone M in_l2 alone has dirty none = inl refl
why_alone E in_l2 alone has dirty none = inl refl
why_alone S in_l2 alone has dirty none = inr (inl none)
why_alone I true alone has dirty none = inr (inl none)
why_alone I false alone has dirty none = inr (inr refl)

pub not_true : (b : Bool) → (b ≡ true → ⊥) → b ≡ false
not_true true wrong = absurd (wrong refl)
not_true false wrong = refl

-- a core that is not there has no line
none_past : (test : Letter → Bool) → test I ≡ false → (c : Caches) (core line : ℕ) → length c.l1 ≤ core → test (letter_at c core line) ≡ false
unfolding letter_at
none_past test not c core line past = rw (get_or_past c.l1 core [] past) not

pub some_has : (test : Letter → Bool) → test I ≡ false → (c : Caches) (core other line : ℕ) → (other ≡ core → ⊥) → test (letter_at c other line) ≡ true → some_other test c core line ≡ true
some_has test not_there c core other line apart valid =
    elim (cases_lt other (length c.l1)) [
      | inl known ↦
          let cores : List ℕ = range_with_len 0 (length c.l1) in
          let passes : ℕ → Bool = λ k. not (k == core) && test (letter_at c k line) in
          let here : passes other ≡ true = rw (ne_eqb other core apart) valid in
          let at : slice_index_or cores other 0 ≡ other = get_or-range_with_len 0 (length c.l1) other 0 known ∙ omega arith in
          list_any_at passes cores other 0 (omega (arith, known, length-range_with_len 0 (length c.l1))) (ap passes at ∙ here)
      | inr past ↦ let none = none_past test not_there c other line past in cc
    ]

pub alone_after : (c : Caches) (core : ℕ) (request : Request) → AreCoherent c → is_write request ≡ true → changes_others (outcome_of c core request) ≡ false
    → (other : ℕ) → (other ≡ core → ⊥) → is_valid (letter_at c other (line_of request)) ≡ false
alone_after c core request coherent write none other apart =
    let line = line_of request in
    let why = why_alone (letter_at c core line) (is_some (dirty_at c line)) (some_other is_alone c core line) (some_other is_valid c core line) (is_dirty_victim c (l2_victim c line))
    (sym (ap changes_others (met_of_write c core request write)) ∙ none) in
    elim why [
      | inl alone ↦ ap is_valid (coherent.single core other line apart alone)
      | inr rest ↦ (elim rest [
        | inl has ↦ not_true (is_valid (letter_at c other line)) (λ valid. let some = some_has is_valid refl c core other line apart valid in cc)
        | inr absent ↦ not_true (is_valid (letter_at c other line)) (λ valid. let there = coherent.inclusive other line valid in cc)
      ])
    ]

-- ---- an access

-- the copies are where the caches have them
pub record AreOf (copies : Copies) (c : Caches) : Type 0 where
  pub coherent : AreCoherent c
  pub room : HaveRoomForLines c
  pub are : AreOfCaches copies c

found_fetch : (held in_l2 dirty : Bool) → held ≡ not (finds_none (fetch_outcome_by held in_l2 dirty))
found_fetch true in_l2 dirty = refl
found_fetch false true dirty = refl
found_fetch false false dirty = refl

found_data : (write : Bool) (letter : Letter) (in_l2 alone has dirty : Bool) → is_valid letter ≡ not (finds_none (outcome_by write letter in_l2 alone has dirty))
found_data false M in_l2 alone has dirty = refl
found_data false E in_l2 alone has dirty = refl
found_data false S in_l2 alone has dirty = refl
found_data false I true alone has dirty = refl
found_data false I false alone has dirty = refl
found_data true M in_l2 alone has dirty = refl
found_data true E in_l2 alone has dirty = refl
found_data true S in_l2 alone has dirty = refl
found_data true I true alone has dirty = refl
found_data true I false alone has dirty = refl

pub outcome_is : (c : Caches) (core : ℕ) (request : Request) → outcome_of c core request ≡ (if is_fetch request then fetch_met_at c core (line_of request) else met_at c core (line_of request) (is_write request))
unfolding outcome_of
outcome_is c core request = refl

module _ (copies : Copies) (c : Caches) (of : AreOf copies c) (e : Entry) where
  abbrev line : ℕ
  line = line_of e.request

  found_by : (fetch : Bool) → is_held (copies fetch e.core line) ≡ not (finds_none (if fetch then fetch_met_at c e.core line else met_at c e.core line (is_write e.request)))
  found_by true = of.are true e.core line ∙ found_fetch (fetch_holds c e.core line) (is_some (dirty_at c line)) (is_dirty_victim c (l2_victim c line))
  found_by false =
      of.are false e.core line
      ∙ found_data (is_write e.request) (letter_at c e.core line) (is_some (dirty_at c line)) (some_other is_alone c e.core line) (some_other is_valid c e.core line) (is_dirty_victim c (l2_victim c line))

  pub found : e.outcome ≡ outcome_of c e.core e.request → is_held (own_copy copies e) ≡ not (finds_none e.outcome)
  found outcome = found_by (is_fetch e.request) ∙ ap (λ (o : Outcome). not (finds_none o)) (sym (outcome ∙ outcome_is c e.core e.request))

  -- ---- behind it

  module _ (leaving : Leaving) (met : IsMetBy c e leaving) where
    abbrev behind_data : (here used room shared was : Bool) → Bool
    behind_data here used room shared was =
        if not (is_fetch e.request) && here && used then true else if shared then false else if not (is_fetch e.request) && here && room then false else if not here && used && is_write e.request then false else was

    writes_where_it_takes : invalidates e ≡ true → is_write e.request ≡ true
    writes_where_it_takes takes = sym (same_write e.request) ∙ (and_parts (writes e.request) (changes_others e.outcome) takes).0

    takes_none : (write : Bool) (changes : Bool) → write ≡ true → (write && changes) ≡ false → changes ≡ false
    takes_none true changes is none = none
    takes_none false changes is none = cc

    elsewhere : (core l : ℕ) → (e.core == core) ≡ false → (line == l) ≡ true → is_write e.request ≡ true → invalidates e ≡ false → is_held (copies false core l) ≡ false
    elsewhere core l here used write none =
        let changes : changes_others (outcome_of c e.core e.request) ≡ false = ap changes_others (sym met.outcome) ∙ takes_none (writes e.request) (changes_others e.outcome) (same_write e.request ∙ write) none in
        let apart : core ≡ e.core → ⊥ = λ same. let is : (e.core == core) ≡ true = eq-eqb e.core core (sym same) in cc in
        let same : line ≡ l = eqb-true line l used in
        subst (λ (n : ℕ). is_held (copies false core n) ≡ false) same (of.are false core line ∙ alone_after c e.core e.request of.coherent write changes core apart)

    data_behind : CopiesBehind → (core l : ℕ) → is_held (copies_after e leaving copies false core l) ≡ is_valid (letter_at (caches_after c e.core e.request) core l)
    data_behind law core l =
        let here : Bool = e.core == core in
        let used : Bool = line == l in
        let own : Bool = is_this leaving.own l in
        let shared : Bool = is_this leaving.shared l in
        let was : Bool = is_held (copies false core l) in
        held_after e leaving false core l (copies false core l)
        ∙ same_data (is_fetch e.request) here used (invalidates e) (is_write e.request) shared own was writes_where_it_takes (elsewhere core l)
        ∙ ap (λ (b : Bool). behind_data b used own shared was) (turned e.core core)
        ∙ ap (λ (b : Bool). behind_data (core == e.core) b own shared was) (turned line l)
        ∙ ap (λ (b : Bool). behind_data (core == e.core) (l == line) b shared was) (same_this leaving.own l)
        ∙ ap (λ (b : Bool). behind_data (core == e.core) (l == line) (leaving_of_caches.is_this leaving.own l) b was) (same_this leaving.shared l)
        ∙ ap (λ (b : Bool). copy_behind b leaving e.core e.request core l) (of.are false core l)
        ∙ ap (λ (x : Leaving). copy_behind (is_valid (letter_at c core l)) x e.core e.request core l) met.leaves
        ∙ sym (law c e.core e.request of.coherent of.room met.known core l)

    abbrev behind_instructions : (here used room shared was : Bool) → Bool
    behind_instructions here used room shared was =
        if is_fetch e.request && here && used then true else if shared then false else if is_fetch e.request && here && room then false else was

    instructions_are_behind : InstructionsBehind → (core l : ℕ) → is_held (copies_after e leaving copies true core l) ≡ fetch_holds (caches_after c e.core e.request) core l
    instructions_are_behind law core l =
        let here : Bool = e.core == core in
        let used : Bool = line == l in
        let own : Bool = is_this leaving.own l in
        let shared : Bool = is_this leaving.shared l in
        let was : Bool = is_held (copies true core l) in
        held_after e leaving true core l (copies true core l)
        ∙ same_instructions (is_fetch e.request) here used (invalidates e) shared own was
        ∙ ap (λ (b : Bool). behind_instructions b used own shared was) (turned e.core core)
        ∙ ap (λ (b : Bool). behind_instructions (core == e.core) b own shared was) (turned line l)
        ∙ ap (λ (b : Bool). behind_instructions (core == e.core) (l == line) b shared was) (same_this leaving.own l)
        ∙ ap (λ (b : Bool). behind_instructions (core == e.core) (l == line) (leaving_of_caches.is_this leaving.own l) b was) (same_this leaving.shared l)
        ∙ ap (λ (b : Bool). instructions_behind b leaving e.core e.request core l) (of.are true core l)
        ∙ ap (λ (x : Leaving). instructions_behind (fetch_holds c core l) x e.core e.request core l) met.leaves
        ∙ sym (law c e.core e.request of.coherent of.room met.known met.fetches core l)

    both : CopiesBehind → InstructionsBehind → (fetching : Bool) (core l : ℕ) → is_held (copies_after e leaving copies fetching core l) ≡ has_copy (behind c e) fetching core l
    both letters instructions true core l = instructions_are_behind instructions core l
    both letters instructions false core l = data_behind letters core l

    pub still_of : CoherentStays → CopiesBehind → InstructionsBehind → AreOf (copies_after e leaving copies) (caches_after c e.core e.request)
    still_of stays letters instructions =
        let still = stays c e.core e.request of.coherent of.room met.known in
        record {
          coherent = still.0;
          room = still.1;
          are = λ fetching core l. both letters instructions fetching core l;
        }

-- ---- all steps

pub find_what_is_held : CoherentStays → CopiesBehind → InstructionsBehind → (copies : Copies) (c : Caches) (steps : List Step) → AreOf copies c → AreMetBy c steps → FindWhatIsHeld copies steps
find_what_is_held stays letters instructions copies c [] of met = tt
find_what_is_held stays letters instructions copies c (Executed core pc ∷ steps) of met = find_what_is_held stays letters instructions copies c steps of met
find_what_is_held stays letters instructions copies c (Accessed pc e leaving ∷ steps) of met = (
  found copies c of e met.0.outcome,
  find_what_is_held stays letters instructions (copies_after e leaving copies) (caches_after c e.core e.request) steps (still_of copies c of e leaving met.0 stays letters instructions) met.1,
)
find_what_is_held stays letters instructions copies c (Ended interval ∷ steps) of met = find_what_is_held stays letters instructions copies c steps of met

pub stay_of_caches : CoherentStays → CopiesBehind → InstructionsBehind → (copies : Copies) (c : Caches) (steps : List Step) → AreOf copies c → AreMetBy c steps → StayOfCaches copies c steps
stay_of_caches stays letters instructions copies c [] of met = of.are
stay_of_caches stays letters instructions copies c (Executed core pc ∷ steps) of met = stay_of_caches stays letters instructions copies c steps of met
stay_of_caches stays letters instructions copies c (Accessed pc e leaving ∷ steps) of met = (
  of.are,
  stay_of_caches stays letters instructions (copies_after e leaving copies) (caches_after c e.core e.request) steps (still_of copies c of e leaving met.0 stays letters instructions) met.1,
)
stay_of_caches stays letters instructions copies c (Ended interval ∷ steps) of met = stay_of_caches stays letters instructions copies c steps of met

-- ---- before the first access

abbrev nothing : {X : Type 0} → List X
nothing = []

empty_at : {X : Type 0} (n i : ℕ) → slice_index_or (replicate n (nothing {X = X})) i [] ≡ []
empty_at zero i = refl
empty_at (suc n) zero = refl
empty_at (suc n) (suc i) = empty_at n i

clean_nowhere : (machine : Machine) (line : ℕ) → dirty_at (new_caches machine) line ≡ None
unfolding dirty_at
clean_nowhere machine line = ap (kept_of line) (empty_at machine.l2.sets _)

-- its cores each have a data cache
pub new_cores : (machine : Machine) → length (new_caches machine).l1 ≡ machine.cores
new_cores machine = length-replicate machine.cores _

pub none_at_first : NewShardsStand → (machine : Machine) (image : MemoryImage) → IsMachine machine → AreOf no_copies (new_caches machine)
none_at_first stand machine image is =
    let c : Caches = new_caches machine in
    let new = (stand machine image is).0 in
    record {
      coherent = new.coherent;
      room = new.room;
      are = λ fetching core line. sym (not_true (has_copy c fetching core line) (λ there. absurd (none_new new.coherent fetching core line there)));
    }
  where
    none_new : AreCoherent (new_caches machine) → (fetching : Bool) (core line : ℕ) → has_copy (new_caches machine) fetching core line ≡ true → ⊥
    none_new coherent true core line holds = let there = coherent.l1i_inclusive core line holds in let none = clean_nowhere machine line in cc
    none_new coherent false core line valid = let there = coherent.inclusive core line valid in let none = clean_nowhere machine line in cc
