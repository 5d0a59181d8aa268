-- Worlds that belong together have the same bound phases.
use Rattle.std.proofs.Common.{◌≡◌, ℕ, ◌+◌, Bool, true, false, cond, List, [], ◌∷◌, ◌++◌, map, Option, Some, None, Ok, Err, refl, ap}
use Rattle.std.specs.Prelude.{slice_get, slice_set}
use Rattle.std.specs.Option.{option_and_then, option_map}
use Rattle.zs_num.specs.declared.entry.Entry.{Entry}
use Rattle.zs_num.specs.declared.request.Request.{Request}
use Rattle.elf_load.specs.MemoryImage.{MemoryImage}
use Rattle.reference.specs.ReferenceMachine.{BoundState, access_served, and_then, are_done, at_end, bound_from, legal_at, turn, turn_at}
use Rattle.reference.specs.Correspondence.{AreRelated, EndAlike}
use Rattle.reference.specs.TimedCore.{TimedCore, asks, core_after_access, ran_to}

module _ {World Other : Type 0} (Related : List TimedCore → World → Other → Type 0) (serve : World → (core start : ℕ) → Request → Entry × World) (serve_other : Other → (core start : ℕ) → Request → Entry × Other) (time : Entry → ℕ) (image : MemoryImage) (end : ℕ) where
  -- To what a core asks both worlds answer the same, and they belong together after it.
  abbrev pub KeptByTurns : Type 0
  KeptByTurns = (cores : List TimedCore) (w : World) (v : Other) (number : ℕ) (c : TimedCore) (request : Request)
      → Related cores w v → slice_get cores number ≡ Some c → asks (ran_to image end c) ≡ Some request
      → (answer : Entry × World) → answer ≡ serve w number (ran_to image end c).clock request
      → (v_after : Other) × (serve_other v number (ran_to image end c).clock request ≡ (answer.0, v_after))
      × Related (slice_set cores number (core_after_access time answer.0 (ran_to image end c))) answer.1 v_after

  -- they belong together where each core ended its interval
  abbrev pub KeptByEnds : Type 0
  KeptByEnds = (cores : List TimedCore) (w : World) (v : Other) → Related cores w v → Related (map (ran_to image end) cores) w v

module _ {World Other : Type 0} (Related : List TimedCore → World → Other → Type 0) (serve : World → (core start : ℕ) → Request → Entry × World) (serve_other : Other → (core start : ℕ) → Request → Entry × Other) (time : Entry → ℕ) (image : MemoryImage) (end : ℕ) (turns : KeptByTurns Related serve serve_other time image end) (ends : KeptByEnds Related serve serve_other time image end) where
  -- both have a turn, or neither
  abbrev BothTurn : Option (BoundState World) → Option (BoundState Other) → Type 0
  BothTurn None None = Unit {0}
  BothTurn None (Some t) = ⊥
  BothTurn (Some s) None = ⊥
  BothTurn (Some s) (Some t) = AreRelated Related s t

  module _ (s : BoundState World) (t : BoundState Other) (r : AreRelated Related s t) (number : ℕ) (c : TimedCore) (here : slice_get s.cores number ≡ Some c) where
    served : (request : Request) → asks (ran_to image end c) ≡ Some request
        → AreRelated Related (access_served serve time image end s number (ran_to image end c) (serve s.world number (ran_to image end c).clock request))
        (access_served serve_other time image end t number (ran_to image end c) (serve_other t.world number (ran_to image end c).clock request))
    served request asked =
        let k = turns s.cores s.world t.world number c request r.worlds here asked (serve s.world number (ran_to image end c).clock request) refl in
        let answer : Entry × World = serve s.world number (ran_to image end c).clock request in
        rw k.1 (record {
          cores = ap (λ (cores : List TimedCore). slice_set cores number (core_after_access time answer.0 (ran_to image end c))) r.cores;
          entries = ap (λ (es : List Entry). es ++ answer.0 ∷ []) r.entries;
          worlds = k.2;
        })

    by_asked : (request : Option Request) → asks (ran_to image end c) ≡ request
        → BothTurn (option_map (λ r. access_served serve time image end s number (ran_to image end c) (serve s.world number (ran_to image end c).clock r)) request)
        (option_map (λ r. access_served serve_other time image end t number (ran_to image end c) (serve_other t.world number (ran_to image end c).clock r)) request)
    by_asked None is = tt
    by_asked (Some request) is = served request is

  by_found : (s : BoundState World) (t : BoundState Other) → AreRelated Related s t → (number : ℕ) (found : Option TimedCore) → slice_get s.cores number ≡ found
      → BothTurn (option_and_then (λ c. turn_at serve time image end s number (ran_to image end c)) found)
      (option_and_then (λ c. turn_at serve_other time image end t number (ran_to image end c)) found)
  by_found s t r number None is = tt
  by_found s t r number (Some c) is = by_asked s t r number c is (asks (ran_to image end c)) refl

  both_turn : (s : BoundState World) (t : BoundState Other) → AreRelated Related s t → (number : ℕ)
      → BothTurn (turn serve time image end s number) (turn serve_other time image end t number)
  both_turn s t r number =
      let there : slice_get t.cores number ≡ slice_get s.cores number = ap (λ (cores : List TimedCore). slice_get cores number) r.cores in
      rw there (by_found s t r number (slice_get s.cores number) refl)

  both_end : (place : ℕ) (s : BoundState World) (t : BoundState Other) → AreRelated Related s t → (done : Bool)
      → EndAlike Related (cond done (Ok (at_end image end s)) (Err place)) (cond done (Ok (at_end image end t)) (Err place))
  both_end place s t r true = record { cores = ap (map (ran_to image end)) r.cores; entries = r.entries; worlds = ends s.cores s.world t.world r.worlds }
  both_end place s t r false = refl

  -- what follows a turn of both
  after_turns : (numbers : List ℕ) (place : ℕ) (o : Option (BoundState World)) (p : Option (BoundState Other)) → BothTurn o p
      → ((s : BoundState World) (t : BoundState Other) → AreRelated Related s t → EndAlike Related (bound_from serve time image end (place + 1) numbers s) (bound_from serve_other time image end (place + 1) numbers t))
      → EndAlike Related (and_then (bound_from serve time image end (place + 1) numbers) (legal_at place o)) (and_then (bound_from serve_other time image end (place + 1) numbers) (legal_at place p))
  after_turns numbers place None None both next = refl
  after_turns numbers place None (Some t) both next = absurd both
  after_turns numbers place (Some s) None both next = absurd both
  after_turns numbers place (Some s) (Some t) both next = next s t both

  pub same_phases : (numbers : List ℕ) (place : ℕ) (s : BoundState World) (t : BoundState Other) → AreRelated Related s t
      → EndAlike Related (bound_from serve time image end place numbers s) (bound_from serve_other time image end place numbers t)
  same_phases [] place s t r =
      let done : are_done image end t ≡ are_done image end s = rw r.cores refl in
      rw done (both_end place s t r (are_done image end s))
  same_phases (number ∷ numbers) place s t r =
      after_turns numbers place (turn serve time image end s number) (turn serve_other time image end t number) (both_turn s t r number) (same_phases numbers (place + 1))
