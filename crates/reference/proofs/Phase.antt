-- The turns of one core in the bound phase of the machine of one thread.
use Rattle.std.proofs.Common.{◌≡◌, inl, inr, ℕ, suc, ◌+◌, true, false, List, [], ◌∷◌, ◌++◌, length, map, All, Option, Some, None, refl, sym, ◌∙◌, ap, arith}
use Rattle.std.specs.Prelude.{is_none, slice_get, Ok, IsSome}
use Rattle.std.specs.List.{list_all}
use Rattle.std.specs.Option.{option_and_then, option_map}
use Rattle.std.proofs.lemmas.List.{append-nil, append_assoc, map-set}
use Rattle.std.proofs.lemmas.Option.{slice_get-map}
use Rattle.zs_num.specs.declared.entry.Entry.{Entry}
use Rattle.zs_num.specs.declared.request.Request.{Request}
use Rattle.elf_load.specs.MemoryImage.{MemoryImage}
use Rattle.rv_core.specs.declared.why.Why.{Why}
use Rattle.reference.specs.TurnLaws.{moved, with_core, AnswersAsWorld}
use Rattle.reference.specs.ReferenceMachine.{BoundState, access_served, and_then, at_end, bound_from, legal_at, turn, turn_at}
use Rattle.reference.specs.TimedCore.{TimedCore, asks, core_after_access, goes_on_alone, ran_to}
use Rattle.reference.specs.Turn.{IsOver, TakesTurn, TurnsToEnd}
use Rattle.reference.proofs.Lists.{all_head, all_tail, get_set, map_again, set_again, set_same}
use Rattle.reference.proofs.Instructions.{late_stops, ran_again, ran_stays}

-- ---- cores that do nothing by themselves

halted_by : (end : ℕ) (c : TimedCore) (halted : Option Why) → c.core.halted ≡ halted → IsSome halted → goes_on_alone end c ≡ false
halted_by end c None e some = cc
halted_by end c (Some why) e some = rw e refl

over_stops : (end : ℕ) (c : TimedCore) → IsOver end c → goes_on_alone end c ≡ false
over_stops end c over = elim over.over [ inl halted ↦ halted_by end c c.core.halted refl halted | inr late ↦ late_stops end c late.0 late.1 ]

module _ {World : Type 0} (serve : World → (core start : ℕ) → Request → Entry × World) (time : Entry → ℕ) (image : MemoryImage) (end : ℕ) where
  -- ---- a core whose local instructions are behind it

  -- what an access leaves at the end is the same
  served_ended : (s : BoundState World) (number : ℕ) (c : TimedCore) (answer : Entry × World)
      → at_end image end (access_served serve time image end s number c answer) ≡ at_end image end (access_served serve time image end (at_end image end s) number c answer)
  served_ended s number c answer =
      let again = map_again (ran_to image end) (ran_again image end) s.cores in
      rw (map-set (ran_to image end) s.cores number (core_after_access time answer.0 c), map-set (ran_to image end) (map (ran_to image end) s.cores) number (core_after_access time answer.0 c), again) refl

  -- what follows is the same
  abbrev Follows : List ℕ → Type 0
  Follows numbers = (place : ℕ) (s : BoundState World) → bound_from serve time image end place numbers s ≡ bound_from serve time image end place numbers (at_end image end s)

  followed : (numbers : List ℕ) (place : ℕ) (s t : BoundState World) → Follows numbers → at_end image end s ≡ at_end image end t
      → bound_from serve time image end place numbers s ≡ bound_from serve time image end place numbers t
  followed numbers place s t follows same =
      follows place s ∙ ap (bound_from serve time image end place numbers) same ∙ sym (follows place t)

  -- by what the core asks
  asked_follows : (numbers : List ℕ) (place number : ℕ) (s : BoundState World) (c : TimedCore) (request : Option Request) → Follows numbers
      → and_then (bound_from serve time image end (place + 1) numbers) (legal_at place (option_map (λ r. access_served serve time image end s number c (serve s.world number c.clock r)) request))
      ≡ and_then (bound_from serve time image end (place + 1) numbers) (legal_at place (option_map (λ r. access_served serve time image end (at_end image end s) number c (serve s.world number c.clock r)) request))
  asked_follows numbers place number s c None follows = refl
  asked_follows numbers place number s c (Some request) follows =
      followed numbers (place + 1) _ _ follows (served_ended s number c (serve s.world number c.clock request))

  -- by whether the core is there
  found_follows : (numbers : List ℕ) (place number : ℕ) (s : BoundState World) (found : Option TimedCore) → Follows numbers
      → and_then (bound_from serve time image end (place + 1) numbers) (legal_at place (option_and_then (λ c. turn_at serve time image end s number (ran_to image end c)) found))
      ≡ and_then (bound_from serve time image end (place + 1) numbers) (legal_at place (option_and_then (λ c. turn_at serve time image end (at_end image end s) number (ran_to image end c)) (option_map (ran_to image end) found)))
  found_follows numbers place number s None follows = refl
  found_follows numbers place number s (Some c) follows =
      rw (ran_again image end c) (asked_follows numbers place number s (ran_to image end c) (asks (ran_to image end c)) follows)

  done_again : (cores : List TimedCore) → list_all (λ c. is_none (asks (ran_to image end c))) (map (ran_to image end) cores) ≡ list_all (λ c. is_none (asks (ran_to image end c))) cores
  done_again [] = refl
  done_again (c ∷ cores) = rw (ran_again image end c, done_again cores) refl

  ended_follows : (numbers : List ℕ) → Follows numbers
  ended_follows [] place s =
      let again = map_again (ran_to image end) (ran_again image end) s.cores in
      rw (done_again s.cores, again) refl
  ended_follows (number ∷ numbers) place s =
      rw (slice_get-map (ran_to image end) s.cores number) (found_follows numbers place number s (slice_get s.cores number) (ended_follows numbers))

  pub same_end_same_phase : (numbers : List ℕ) (place : ℕ) (s t : BoundState World) → at_end image end s ≡ at_end image end t
      → bound_from serve time image end place numbers s ≡ bound_from serve time image end place numbers t
  same_end_same_phase numbers place s t same = followed numbers place s t (ended_follows numbers) same

  pub local_alone : (s : BoundState World) (number : ℕ) (c : TimedCore) (place : ℕ) (numbers : List ℕ) → slice_get s.cores number ≡ Some c
      → bound_from serve time image end place numbers (with_core s number (ran_to image end c)) ≡ bound_from serve time image end place numbers s
  local_alone s number c place numbers here =
      let ran : slice_get (map (ran_to image end) s.cores) number ≡ Some (ran_to image end c) = rw (slice_get-map (ran_to image end) s.cores number, here) refl in
      let same : at_end image end (with_core s number (ran_to image end c)) ≡ at_end image end s =
      rw (map-set (ran_to image end) s.cores number (ran_to image end c), ran_again image end c, set_same (map (ran_to image end) s.cores) number (ran_to image end c) ran) refl in
      same_end_same_phase numbers place (with_core s number (ran_to image end c)) s same

  -- ---- where all are over

  over_runs : (cores : List TimedCore) → All (IsOver end) cores → map (ran_to image end) cores ≡ cores
  over_runs [] over = refl
  over_runs (c ∷ cores) over =
      rw (ran_stays image end c (over_stops end c (all_head (IsOver end) c cores over)), over_runs cores (all_tail (IsOver end) c cores over)) refl

  over_done : (cores : List TimedCore) → All (IsOver end) cores → list_all (λ c. is_none (asks (ran_to image end c))) cores ≡ true
  over_done [] over = refl
  over_done (c ∷ cores) over =
      let here : IsOver end c = all_head (IsOver end) c cores over in
      rw (ran_stays image end c (over_stops end c here), here.idle, over_done cores (all_tail (IsOver end) c cores over)) refl

  pub all_over : (s : BoundState World) (place : ℕ) → All (IsOver end) s.cores → bound_from serve time image end place [] s ≡ Ok s
  all_over s place over = rw (over_done s.cores over, over_runs s.cores over) refl

-- ---- turns through a port

module _ {Port World : Type 0} (gives : Port → (start : ℕ) → Request → Entry → Port → Type 0) (world : Port → World) (serve : World → (core start : ℕ) → Request → Entry × World) (answers : AnswersAsWorld gives world serve) (time : Entry → ℕ) (image : MemoryImage) (end : ℕ) where
  turn_is : (s : BoundState World) (port port_after : Port) (before after : TimedCore) (e : Entry)
      → slice_get s.cores e.core ≡ Some before → s.world ≡ world port → TakesTurn time image end gives port port_after before after e
      → turn serve time image end s e.core ≡ Some (moved s e.core after (world port_after) (e ∷ []))
  turn_is s port port_after before after e here same t =
      let answer : serve s.world e.core (ran_to image end before).clock t.request ≡ (e, world port_after) =
      ap (λ w. serve w e.core (ran_to image end before).clock t.request) same ∙ sym (answers port port_after (ran_to image end before).clock t.request e t.given) in
      rw (here, t.asked, answer, t.left) refl

  pub turn_scheduled : (s : BoundState World) (port port_after : Port) (before after : TimedCore) (e : Entry)
      → slice_get s.cores e.core ≡ Some before → s.world ≡ world port → TakesTurn time image end gives port port_after before after e
      → (place : ℕ) (numbers : List ℕ)
      → bound_from serve time image end place (e.core ∷ numbers) s ≡ bound_from serve time image end (place + 1) numbers (moved s e.core after (world port_after) (e ∷ []))
  turn_scheduled s port port_after before after e here same t place numbers =
      ap (λ o. and_then (bound_from serve time image end (place + 1) numbers) (legal_at place o)) (turn_is s port port_after before after e here same t)

  pub turns_scheduled : (entries : List Entry) (s : BoundState World) (number : ℕ) (port port_after : Port) (before after : TimedCore)
      → slice_get s.cores number ≡ Some before → s.world ≡ world port → All (λ e. e.core ≡ number) entries
      → TurnsToEnd time image end gives entries port port_after before after
      → (place : ℕ) (numbers : List ℕ)
      → bound_from serve time image end place (map (λ e. e.core) entries ++ numbers) s
      ≡ bound_from serve time image end (place + length entries) numbers (moved s number after (world port_after) entries)
  turns_scheduled [] s number port port_after before after here same own turns place numbers =
      let to : moved s number after (world port_after) [] ≡ with_core s number (ran_to image end before) = rw (turns.left, turns.same, same, append-nil s.entries) refl in
      let none : place + 0 ≡ place = omega arith in
      rw (none, to) (sym (local_alone serve time image end s number before place numbers here))
  turns_scheduled (e ∷ entries) s number port port_after before after here same own turns place numbers =
      let owns : e.core ≡ number = all_head (λ (x : Entry). x.core ≡ number) e entries own in
      let next = turns.0 in
      let core = turns.1.0 in
      let own_here : slice_get s.cores e.core ≡ Some before = ap (slice_get s.cores) owns ∙ here in
      let one = turn_scheduled s port next before core e own_here same turns.1.1.0 place (map (λ (x : Entry). x.core) entries ++ numbers) in
      let left : BoundState World = moved s number core (world next) (e ∷ []) in
      let renamed : moved s e.core core (world next) (e ∷ []) ≡ left = ap (λ n. moved s n core (world next) (e ∷ [])) owns in
      let there : slice_get left.cores number ≡ Some core = get_set s.cores number before core here in
      let rest = turns_scheduled entries left number next port_after core after there refl (all_tail (λ (x : Entry). x.core ≡ number) e entries own) turns.1.1.1 (place + 1) numbers in
      let count : place + 1 + length entries ≡ place + suc (length entries) = omega arith in
      let all : moved left number after (world port_after) entries ≡ moved s number after (world port_after) (e ∷ entries) =
      rw (set_again s.cores number core after, append_assoc s.entries (e ∷ []) entries) refl in
      one ∙ ap (bound_from serve time image end (place + 1) (map (λ (x : Entry). x.core) entries ++ numbers)) renamed ∙ rest
      ∙ ap (λ p. bound_from serve time image end p numbers (moved left number after (world port_after) entries)) count
      ∙ ap (bound_from serve time image end (place + suc (length entries)) numbers) all
