-- What the accesses of all cores come to, once every hold has ended.
use Rattle.std.proofs.Common.{◌≡◌, ℕ, zero, suc, ◌<◌, ◌≢◌, ◌==◌, List, [], ◌∷◌, ◌++◌, map, length, All, refl, sym, ◌∙◌, ap, subst, arith, inl, inr}
use Rattle.std.specs.Prelude.{Bool, true, false, if◌then◌else◌, slice_get, slice_index, Some, None}
use Rattle.std.specs.List.{enumerate_from, flat_map, fold}
use Rattle.std.specs.Option.{option_map}
use mathlib.Core.Option.{some, some-injective}
use lib.ListN.{get_elem?}
use Rattle.std.proofs.lemmas.Bool.{cases_eq, cases_lt}
use Rattle.std.proofs.lemmas.List.{append-nil, length-map}
use Rattle.std.proofs.lemmas.List.FromFn.{length-enumerate_from}
use Rattle.std.proofs.lemmas.List.Elements.{All-cons, All-head, All-nil, All-tail, All-weaker, filter-append}
use Rattle.std.proofs.lemmas.Option.{same_Some}
use Rattle.atomic_table.specs.Table.{Final, Seen, State}
use Rattle.zs_num.specs.declared.entry.Entry.{Entry}
use Rattle.access_log.specs.History.{AreRising, AreStamped, HasSameFilters, bank_of_entry, core_of_entry, each_after, of_bank, of_core, of_number}
use Rattle.access_log.specs.Laws.{CoresDecideTheOrder, EachHasItsOwn, RecordedOrderKeepsTheStamps, StampsRise}
use Rattle.access_log.specs.RecordedOrder.{comes_before, no_stamps, placed, recorded_order}
use Rattle.shard.specs.Served.{AreServedBy, ShardState, shard_after}
use Rattle.shard_table.specs.declared.view.View.{View}
use Rattle.shard_table.specs.declared.view.CoreAccesses.{CoreAccesses}
use Rattle.shard_table.specs.Access.{AreAllSeats, AreWhole, SeatState, TableState, recorded_entries}
use Rattle.shard_table.specs.declared.view.ShardAccesses.{ShardAccesses}
use Rattle.shard_table.specs.Lives.{IsPrefix, MayAsk, after_all}
use Rattle.shard_table.specs.Rule.{AreDistinct, AreHoldsAtTable, Has, IsTrueOfHistory, word_index}
use Rattle.shard_table.proofs.Ends.{none_numbered, other_first, own_first}
use Rattle.shard_table.proofs.Seats.{its_own, some_at}
use Rattle.shard_table.proofs.Taking.{holder_apart}

append_none : (entries : List Entry) → entries ++ [] ≡ entries
append_none entries = append-nil entries

got_within : {X : Type 0} (xs : List X) (k : ℕ) (y : X) → slice_get xs k ≡ Some y → k < length xs
got_within [] k y at = absurd (let none : None ≡ Some y = at in cc)
got_within (x ∷ xs) zero y at = omega arith
got_within (x ∷ xs) (suc k) y at = let later = got_within xs k y at in omega (arith, later)

few_has : (cores : ℕ) (parts : List CoreAccesses) → All (λ part. part.core < cores) parts → (core : ℕ) → Has core parts → core < cores
few_has cores [] few core has = absurd has
few_has cores (part ∷ parts) few core (inl is) = subst (λ (n : ℕ). n < cores) is (All-head (λ (q : CoreAccesses). q.core < cores) part parts few)
few_has cores (part ∷ parts) few core (inr has) = few_has cores parts (All-tail (λ (q : CoreAccesses). q.core < cores) part parts few) core has

each_length : (shards : List ShardState) (entries : List Entry) → length (each_after shard_after (bank_of_entry (length shards)) entries shards) ≡ length shards
each_length shards entries =
    length-map (enumerate_from 0 shards) (λ at. fold shard_after at.1 (of_number (bank_of_entry (length shards)) at.0 entries)) ∙ length-enumerate_from 0 shards

-- ---- the accesses of cores, one list after the other

-- of a list of a number's own
own_again : (number_of : Entry → ℕ) (number : ℕ) (entries : List Entry) → of_number number_of number (of_number number_of number entries) ≡ of_number number_of number entries
own_again number_of number [] = refl
own_again number_of number (e ∷ entries) =
    elim (cases_eq (number_of e) number) as (λ _. of_number number_of number (of_number number_of number (e ∷ entries)) ≡ of_number number_of number (e ∷ entries)) [
      | inl own ↦
          let first : of_number number_of number (e ∷ entries) ≡ e ∷ of_number number_of number entries = own_first number_of number e entries own in
          ap (of_number number_of number) first ∙ (own_first number_of number e (of_number number_of number entries) own
          ∙ (ap (λ (es : List Entry). e ∷ es) (own_again number_of number entries) ∙ sym first))
      | inr other ↦
          let first : of_number number_of number (e ∷ entries) ≡ of_number number_of number entries = other_first number_of number e entries other in
          ap (of_number number_of number) first ∙ (own_again number_of number entries ∙ sym first)
    ]

other_none : (number_of : Entry → ℕ) (number other : ℕ) → number ≢ other → (entries : List Entry) → of_number number_of number (of_number number_of other entries) ≡ []
other_none number_of number other apart [] = refl
other_none number_of number other apart (e ∷ entries) =
    elim (cases_eq (number_of e) other) as (λ _. of_number number_of number (of_number number_of other (e ∷ entries)) ≡ []) [
      | inl own ↦
          ap (of_number number_of number) (own_first number_of other e entries own)
          ∙ (other_first number_of number e (of_number number_of other entries) (λ same. apart (sym same ∙ own)) ∙ other_none number_of number other apart entries)
      | inr not ↦ ap (of_number number_of number) (other_first number_of other e entries not) ∙ other_none number_of number other apart entries
    ]

abbrev lists : List CoreAccesses → List Entry
lists parts = flat_map (λ part. part.list) parts

module _ (history : List Entry) where
  abbrev IsOf : CoreAccesses → Type 0
  IsOf part = part.list ≡ of_core part.core history

  none_of : (parts : List CoreAccesses) → All IsOf parts → (core : ℕ) → (Has core parts → ⊥) → of_core core (lists parts) ≡ []
  none_of [] all core unknown = refl
  none_of (part ∷ parts) all core unknown =
      let first : of_core core part.list ≡ [] = ap (of_core core) (All-head IsOf part parts all) ∙ other_none core_of_entry core part.core (λ same. unknown (inl (sym same))) history in
      let later : of_core core (lists parts) ≡ [] = none_of parts (All-tail IsOf part parts all) core (λ has. unknown (inr has)) in
      filter-append (λ e. core_of_entry e == core) part.list (lists parts)
      ∙ ap (λ (p : List Entry × List Entry). p.0 ++ p.1) (λ i. (first i, later i))

  some_of : (parts : List CoreAccesses) → All IsOf parts → AreDistinct parts → (core : ℕ) → Has core parts → of_core core (lists parts) ≡ of_core core history
  some_of [] all distinct core has = absurd has
  some_of (part ∷ parts) all distinct core (inl is) =
      let here : of_core core part.list ≡ of_core core history =
      ap (of_core core) (All-head IsOf part parts all) ∙ (ap (λ (n : ℕ). of_core core (of_core n history)) is ∙ own_again core_of_entry core history) in
      let later : of_core core (lists parts) ≡ [] = none_of parts (All-tail IsOf part parts all) core (λ has. distinct.0 (subst (λ (n : ℕ). Has n parts) (sym is) has)) in
      filter-append (λ e. core_of_entry e == core) part.list (lists parts)
      ∙ (ap (λ (p : List Entry × List Entry). p.0 ++ p.1) (λ i. (here i, later i)) ∙ append_none (of_core core history))
  some_of (part ∷ parts) all distinct core (inr has) =
      let other : core ≢ part.core = λ same. distinct.0 (subst (λ (n : ℕ). Has n parts) same has) in
      let here : of_core core part.list ≡ [] = ap (of_core core) (All-head IsOf part parts all) ∙ other_none core_of_entry core part.core other history in
      filter-append (λ e. core_of_entry e == core) part.list (lists parts)
      ∙ (ap (λ (es : List Entry). es ++ of_core core (lists parts)) here ∙ some_of parts (All-tail IsOf part parts all) distinct.1 core has)

  -- where every core below has its part, these are the accesses of the history
  pub of_all : (cores : ℕ) (parts : List CoreAccesses) → All IsOf parts → AreDistinct parts → ((core : ℕ) → core < cores → Has core parts) → All (λ e. e.core < cores) history
      → All (λ part. part.core < cores) parts → (core : ℕ) → of_core core (lists parts) ≡ of_core core history
  of_all cores parts all distinct each known few core =
      elim (cases_lt core cores) as (λ _. of_core core (lists parts) ≡ of_core core history) [
        | inl within ↦ some_of parts all distinct core (each core within)
        | inr past ↦
            none_of parts all core (λ has. absurd (let low = few_has cores parts few core has in omega (arith, low, past)))
            ∙ sym (none_numbered core_of_entry core history (All-weaker (λ e. e.core < cores) (λ e. e.core ≡ core → ⊥) (λ e low same. absurd (omega (arith, low, same, past))) history known))
      ]

-- ---- lists of seats, one after the other

pub left_all : {X : Type 0} (P : X → Type 0) (xs ys : List X) → All P (xs ++ ys) → All P xs
left_all P [] ys all = All-nil P
left_all P (x ∷ xs) ys all = All-cons P x xs (All-head P x (xs ++ ys) all) (left_all P xs ys (All-tail P x (xs ++ ys) all))

pub right_all : {X : Type 0} (P : X → Type 0) (xs ys : List X) → All P (xs ++ ys) → All P ys
right_all P [] ys all = all
right_all P (x ∷ xs) ys all = right_all P xs ys (All-tail P x (xs ++ ys) all)

each_of_flat : {X Y : Type 0} (P : Y → Type 0) (f : X → List Y) (xs : List X) → All P (flat_map f xs) → All (λ x. All P (f x)) xs
each_of_flat P f [] all = All-nil (λ x. All P (f x))
each_of_flat P f (x ∷ xs) all =
    All-cons (λ x. All P (f x)) x xs (left_all P (f x) (flat_map f xs) all) (each_of_flat P f xs (right_all P (f x) (flat_map f xs) all))

-- ---- in recorded order

either_all : (P : Entry → Type 0) (first : Bool) (xs ys : List Entry) → All P xs → All P ys → All P (if first then xs else ys)
either_all P true xs ys one two = one
either_all P false xs ys one two = two

placed_all : (P : Entry → Type 0) (e : Entry) (xs : List Entry) → P e → All P xs → All P (placed e xs)
placed_all P e [] here all = All-cons P e [] here all
placed_all P e (x ∷ xs) here all =
    let first : P x = All-head P x xs all in
    let rest : All P xs = All-tail P x xs all in
    either_all P (comes_before e x) (e ∷ x ∷ xs) (x ∷ placed e xs) (All-cons P e (x ∷ xs) here all) (All-cons P x (placed e xs) first (placed_all P e xs here rest))

-- what holds of all entries holds of them in recorded order
recorded_all : (P : Entry → Type 0) (entries : List Entry) → All P entries → All P (recorded_order entries)
recorded_all P [] all = all
recorded_all P (e ∷ entries) all = placed_all P e (recorded_order entries) (All-head P e entries all) (recorded_all P entries (All-tail P e entries all))

-- ---- the shards

-- a list whose elements are these
same_list : {X : Type 0} (xs ys : List X) → length xs ≡ length ys → ((k : ℕ) (y : X) → slice_get ys k ≡ Some y → get_elem? xs k ≡ some y) → xs ≡ ys
same_list [] [] size each = refl
same_list [] (y ∷ ys) size each = absurd (omega (arith, size))
same_list (x ∷ xs) [] size each = absurd (omega (arith, size))
same_list (x ∷ xs) (y ∷ ys) size each =
    let first : x ≡ y = some-injective x y (each 0 y refl) in
    let later : xs ≡ ys = same_list xs ys (omega (arith, size)) (λ k z at. each (suc k) z at) in
    λ i. first i ∷ later i

abbrev pub part_of : SeatState → CoreAccesses
part_of seat = record { core = seat.core; list = seat.entries }

flat_seats : (seats : List SeatState) → flat_map (λ seat. seat.entries) seats ≡ lists (map part_of seats)
flat_seats [] = refl
flat_seats (seat ∷ seats) = ap (λ (es : List Entry). seat.entries ++ es) (flat_seats seats)

pub has_seat : (seats : List SeatState) (place : ℕ) (seat : SeatState) → slice_get seats place ≡ Some seat → Has seat.core (map part_of seats)
has_seat [] place seat at = absurd (let none : None ≡ Some seat = at in cc)
has_seat (x ∷ seats) zero seat at = inl (ap (λ (z : SeatState). z.core) (same_Some x seat at))
has_seat (x ∷ seats) (suc place) seat at = inr (has_seat seats place seat at)

own_seats : (cores : ℕ) (history entries : List Entry) → ((core : ℕ) → of_core core entries ≡ of_core core history) → (seats : List SeatState)
    → All (λ q. (q.core < cores) × (q.list ≡ of_core q.core history)) (map part_of seats) → All (λ seat. of_core seat.core entries ≡ seat.entries) seats
own_seats cores history entries own [] all = All-nil (λ (seat : SeatState). of_core seat.core entries ≡ seat.entries)
own_seats cores history entries own (seat ∷ seats) all =
    let K : CoreAccesses → Type 0 = λ q. (q.core < cores) × (q.list ≡ of_core q.core history) in
    let here : K (part_of seat) = All-head K (part_of seat) (map part_of seats) all in
    All-cons (λ (x : SeatState). of_core x.core entries ≡ x.entries) seat seats (own seat.core ∙ sym here.1)
    (own_seats cores history entries own seats (All-tail K (part_of seat) (map part_of seats) all))

-- ---- every hold has ended

module _ (shards : List ShardState) (cores room : ℕ) (s : State ShardState View) (r : AreHoldsAtTable shards cores room s) (id : ℕ) (v : View) (at : get_elem? s.views id ≡ some v)
    (hold : v.hold ≡ None) (each : (core : ℕ) → core < cores → Has core v.parts) where
  abbrev history : List Entry
  history = r.history

  abbrev count : ℕ
  count = length shards

  -- nobody holds a shard, since all cores' seats are one
  all_free : (number : ℕ) → number < count → slice_index s.words (word_index number) ≡ 0
  all_free number within =
      elim (cases_lt 0 (slice_index s.words (word_index number))) as (λ _. slice_index s.words (word_index number) ≡ 0) [
        | inl some_word ↦
            let b = r.busy number within some_word in
            let it : IsTrueOfHistory shards cores room history s.words b.1 = r.seats b.0 b.1 b.3 in
            let h = it.hold b.2 b.4 in
            let P : CoreAccesses → Type 0 = λ q. (q.core < cores) × (q.list ≡ of_core q.core history) in
            let known : P h.0 = All-head P h.0 [] (subst (All P) h.1 it.parts) in
            absurd (holder_apart shards cores room s r id v at hold b.0 b.1 b.2 b.3 b.4
            (r.apart b.0 id h.0.core b.1 v b.3 at (its_own b.1.parts h.0 h.1) (each h.0.core known.0)))
        | inr none_word ↦ omega (arith, none_word)
      ]

  abbrev Known : CoreAccesses → Type 0
  Known q = (q.core < cores) × (q.list ≡ of_core q.core history)

  -- the accesses of a list of all cores' own
  same_cores : (core : ℕ) → of_core core (lists v.parts) ≡ of_core core history
  same_cores =
      of_all history cores v.parts (All-weaker Known (IsOf history) (λ q known. known.1) v.parts (r.seats id v at).parts) (r.seats id v at).distinct each r.accesses.known
      (All-weaker Known (λ q. q.core < cores) (λ q known. known.0) v.parts (r.seats id v at).parts)

  module _ (some_shards : 0 < count) (rise : StampsRise) (decide : CoresDecideTheOrder) (keep : RecordedOrderKeepsTheStamps) (own_by : EachHasItsOwn ShardState) where
    abbrev entries : List Entry
    entries = recorded_order (lists v.parts)

    in_order : entries ≡ recorded_order history
    in_order = decide history (lists v.parts) (rise count cores history some_shards r.accesses.known r.accesses.stamped).0 same_cores

    kept : AreStamped count (no_stamps count cores) (recorded_order history) × All (λ e. e.core < cores) (recorded_order history) × HasSameFilters count history (recorded_order history)
    kept = keep count cores history some_shards r.accesses.known r.accesses.stamped

    core_same : (core : ℕ) → of_core core entries ≡ of_core core history
    core_same core = ap (of_core core) in_order ∙ kept.2.core core

    bank_same : (number : ℕ) → of_bank count number entries ≡ of_bank count number history
    bank_same number = ap (of_bank count number) in_order ∙ kept.2.bank number

    -- what each shard is at the end
    at_home : (number : ℕ) (y : ShardState) → slice_get (each_after shard_after (bank_of_entry count) entries shards) number ≡ Some y → get_elem? s.homes number ≡ some (some y)
    at_home number y is =
        let size : length (each_after shard_after (bank_of_entry count) entries shards) ≡ count = each_length shards entries in
        let within : number < count = omega (arith, size, got_within (each_after shard_after (bank_of_entry count) entries shards) number y is) in
        let x = some_at shards number within in
        let lived : Some (after_all x.0 (of_bank count number entries)) ≡ Some y =
        sym (own_by shard_after (bank_of_entry count) entries shards number ∙ ap (option_map (λ (z : ShardState). fold shard_after z (of_bank count number entries))) x.1) ∙ is in
        let same : after_all x.0 (of_bank count number history) ≡ y =
        ap (after_all x.0) (sym (bank_same number)) ∙ same_Some (after_all x.0 (of_bank count number entries)) y lived in
        r.home number x.0 x.1 (all_free number within) ∙ ap (λ (z : ShardState). some (some z)) same

    left : (xs : List ShardState) → length s.homes ≡ length xs → ((k : ℕ) (y : ShardState) → get_elem? s.homes k ≡ some (some y) → get_elem? xs k ≡ some y)
        → xs ≡ each_after shard_after (bank_of_entry count) entries shards
    left xs size there =
        same_list xs (each_after shard_after (bank_of_entry count) entries shards) (sym size ∙ (r.homes ∙ sym (each_length shards entries))) (λ k y is. there k y (at_home k y is))

-- ---- all

pub is_whole : StampsRise → CoresDecideTheOrder → RecordedOrderKeepsTheStamps → EachHasItsOwn ShardState
    → (t : TableState) → 0 < length t.shards → (id : ℕ) (v : View) (seats : List SeatState) (words : List ℕ) (xs : List ShardState)
    → v.hold ≡ None → v.parts ≡ map part_of seats → v.notes ≡ flat_map (λ seat. seat.knows.notes) seats → AreAllSeats t seats → Final (Seen (AreHoldsAtTable t.shards t.cores t.room) id v) words xs
    → AreWhole t (recorded_entries seats) seats xs
is_whole rise decide keep own_by t some_shards id v seats words xs hold parts notes all final =
    let s = final.0 in
    let r = final.1.0 in
    let at = final.1.1 in
    let each : (core : ℕ) → core < t.cores → Has core v.parts = λ core within.
    let found = all.each core within in
    subst (Has core) (sym parts) (subst (λ (n : ℕ). Has n (map part_of seats)) found.3 (has_seat seats found.0 found.1 found.2)) in
    let same : recorded_entries seats ≡ recorded_order (lists v.parts) = ap recorded_order (flat_seats seats ∙ ap lists (sym parts)) in
    let K : CoreAccesses → Type 0 = λ q. (q.core < t.cores) × (q.list ≡ of_core q.core r.history) in
    let own : (core : ℕ) → of_core core (recorded_entries seats) ≡ of_core core r.history = λ core. ap (of_core core) same ∙ core_same t.shards t.cores t.room s r id v at hold each some_shards rise decide keep own_by core in
    let stamps = kept t.shards t.cores t.room s r id v at hold each some_shards rise decide keep own_by in
    let order : recorded_entries seats ≡ recorded_order r.history = same ∙ in_order t.shards t.cores t.room s r id v at hold each some_shards rise decide keep own_by in
    let bank : (number : ℕ) → of_bank (length t.shards) number (recorded_entries seats) ≡ of_bank (length t.shards) number r.history = λ number.
    ap (of_bank (length t.shards) number) same ∙ bank_same t.shards t.cores t.room s r id v at hold each some_shards rise decide keep own_by number in
    let rising = rise (length t.shards) t.cores r.history some_shards r.accesses.known r.accesses.stamped in
    let own_all : All (λ seat. of_core seat.core (recorded_entries seats) ≡ seat.entries) seats = own_seats t.cores r.history (recorded_entries seats) own seats (subst (All K) parts (r.seats id v at).parts) in
    record {
      new = r.begins;
      known = subst (All (λ e. e.core < t.cores)) (sym order) stamps.1;
      servable = subst (All (λ e. MayAsk t.shards e.core e.request)) (sym order) (recorded_all (λ e. MayAsk t.shards e.core e.request) r.history r.accesses.asked);
      own = own_all;
      served = λ number shard there. subst (AreServedBy shard) (sym (bank number)) (r.accesses.served number shard there);
      noted = each_of_flat (λ (note : ShardAccesses). IsPrefix note.list (of_bank (length t.shards) note.shard (recorded_entries seats))) (λ (seat : SeatState). seat.knows.notes) seats
          (subst (All (λ (note : ShardAccesses). IsPrefix note.list (of_bank (length t.shards) note.shard (recorded_entries seats)))) notes
          (All-weaker (λ (note : ShardAccesses). IsPrefix note.list (of_bank (length t.shards) note.shard r.history)) (λ note. IsPrefix note.list (of_bank (length t.shards) note.shard (recorded_entries seats)))
          (λ note is. subst (IsPrefix note.list) (sym (bank note.shard)) is) v.notes (r.seats id v at).notes));
      left = left t.shards t.cores t.room s r id v at hold each some_shards rise decide keep own_by xs final.3 final.4
          ∙ ap (λ (es : List Entry). each_after shard_after (bank_of_entry (length t.shards)) es t.shards) (sym same);
      stamped = subst (AreStamped (length t.shards) (no_stamps (length t.shards) t.cores)) (sym order) stamps.0;
      logs_rise = All-weaker (λ (seat : SeatState). of_core seat.core (recorded_entries seats) ≡ seat.entries) (λ seat. AreRising 0 seat.entries)
          (λ seat is. subst (AreRising 0) (sym (own seat.core) ∙ is) (rising.0 seat.core)) seats own_all;
      shards_rise = λ number. subst (AreRising 0) (sym (bank number)) (rising.1 number);
      rise = λ core. subst (AreRising 0) (sym (ap (of_core core) (flat_seats seats ∙ ap lists (sym parts)) ∙ same_cores t.shards t.cores t.room s r id v at hold each core))
          (rising.0 core);
    }
