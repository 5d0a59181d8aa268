-- What the steps of a bound phase tell of its cores and of its accesses.
use Rattle.std.proofs.Common.{◌≡◌, ℕ, zero, suc, ◌+◌, ◌<◌, Bool, true, false, if◌then◌else◌, List, [], ◌∷◌, ◌++◌, map, length, option_to_list, Option, Some, None, Ok, Err, refl, sym, ◌∙◌, ap, subst, inl, inr, append_assoc, arith}
use Rattle.std.specs.Prelude.{slice_get}
use Rattle.std.specs.Option.{option_and_then, option_map, option_map_or}
use Rattle.std.proofs.lemmas.Bool.{cases_eq}
use Rattle.std.proofs.lemmas.List.{append-nil, length-map, length-set}
use Rattle.std.proofs.lemmas.List.Sums.{sum_by-cons}
use Rattle.zs_num.specs.declared.entry.Entry.{Entry}
use Rattle.zs_num.specs.declared.request.Request.{Request}
use Rattle.elf_load.specs.MemoryImage.{MemoryImage}
use Rattle.shard.specs.declared.leaving.Leaving.{Leaving}
use Rattle.reference.specs.ReferenceMachine.{BoundState, access_served, and_then, are_done, at_end, bound_from, legal_at, turn_at}
use Rattle.reference.specs.TimedCore.{TimedCore, asks, core_after_access, ran_to}
use Rattle.trace.specs.Told.{accessed_in, all_instructions_of, ended_in, instructions_of}
use Rattle.trace.specs.Trace.{Step, access_step, last_from, phase_steps, steps_alone}
use Rattle.trace.proofs.ToldParts.{accessed-append, all-append, alone_counts, alone_counts_all, alone_local, counted_at, counted_here, counted_in, ended-append, instructions-append, set_among, set_elsewhere, set_here}

kept_by_access : (time : Entry → ℕ) (e : Entry) (c : TimedCore) → (core_after_access time e c).instructions ≡ c.instructions
unfolding core_after_access
kept_by_access time e c = refl

-- ---- the cores' last instructions

module _ (image : MemoryImage) (end : ℕ) where
  last_ended : (from : ℕ) (cores : List TimedCore) → ended_in (last_from image end from cores) ≡ []
  last_ended from [] = refl
  last_ended from (c ∷ cores) =
      ended-append (steps_alone image end from c) (last_from image end (from + 1) cores) ∙ rw ((alone_local image end from c).ended, last_ended (from + 1) cores) refl

  pub last_accesses : (from : ℕ) (cores : List TimedCore) → accessed_in (last_from image end from cores) ≡ []
  last_accesses from [] = refl
  last_accesses from (c ∷ cores) =
      accessed-append (steps_alone image end from c) (last_from image end (from + 1) cores) ∙ rw ((alone_local image end from c).accesses, last_accesses (from + 1) cores) refl

  none_below : (i from : ℕ) (cores : List TimedCore) → i < from → instructions_of i (last_from image end from cores) ≡ 0
  none_below i from [] below = refl
  none_below i from (c ∷ cores) below =
      omega (
        arith,
        instructions-append i (steps_alone image end from c) (last_from image end (from + 1) cores),
        (alone_local image end from c).others i (λ same. omega (arith, same, below)),
        none_below i (from + 1) cores (omega (arith, below)),
      )

  last_counts : (from i j : ℕ) (cores : List TimedCore) → from + i ≡ j → counted_at (map (ran_to image end) cores) i ≡ counted_at cores i + instructions_of j (last_from image end from cores)
  last_counts from i j [] at = refl
  last_counts from zero j (c ∷ cores) at =
      let here : from ≡ j = omega (arith, at) in
      subst (λ (n : ℕ). (ran_to image end c).instructions ≡ c.instructions + instructions_of n (last_from image end from (c ∷ cores))) here
      (omega (
        arith,
        alone_counts image end from c,
        instructions-append from (steps_alone image end from c) (last_from image end (from + 1) cores),
        none_below from (from + 1) cores (omega arith),
      ))
  last_counts from (suc i) j (c ∷ cores) at =
      omega (
        arith,
        last_counts (from + 1) i j cores (omega (arith, at)),
        instructions-append j (steps_alone image end from c) (last_from image end (from + 1) cores),
        (alone_local image end from c).others j (λ same. omega (arith, same, at)),
      )

  last_counts_all : (from : ℕ) (cores : List TimedCore) → counted_in (map (ran_to image end) cores) ≡ counted_in cores + all_instructions_of (last_from image end from cores)
  last_counts_all from [] = refl
  last_counts_all from (c ∷ cores) =
      omega (
        arith,
        last_counts_all (from + 1) cores,
        alone_counts_all image end from c,
        all-append (steps_alone image end from c) (last_from image end (from + 1) cores),
        sum_by-cons (λ (x : TimedCore). x.instructions) (ran_to image end c) (map (ran_to image end) cores),
        sum_by-cons (λ (x : TimedCore). x.instructions) c cores,
      )

-- ---- a bound phase

module _ {World : Type 0} (serve_by : World → (core start : ℕ) → Request → Entry × World) (leaves : World → (core : ℕ) → Request → Leaving) (time : Entry → ℕ) (image : MemoryImage) (end : ℕ) where
  -- these steps lead from one state to the other
  pub record Tells (s b : BoundState World) (steps : List Step) : Type 0 where
    pub ended : ended_in steps ≡ []
    pub accesses : b.entries ≡ s.entries ++ accessed_in steps
    pub cores : length b.cores ≡ length s.cores
    pub counted : (i : ℕ) → counted_at b.cores i ≡ counted_at s.cores i + instructions_of i steps
    pub all : counted_in b.cores ≡ counted_in s.cores + all_instructions_of steps

  then_tells : (s t b : BoundState World) (xs ys : List Step) → Tells s t xs → Tells t b ys → Tells s b (xs ++ ys)
  then_tells s t b xs ys one two = record {
    ended = ended-append xs ys ∙ rw (one.ended, two.ended) refl;
    accesses = two.accesses ∙ ap (λ (es : List Entry). es ++ accessed_in ys) one.accesses ∙ append_assoc s.entries (accessed_in xs) (accessed_in ys) ∙ ap (λ (es : List Entry). s.entries ++ es) (sym (accessed-append xs ys));
    cores = two.cores ∙ one.cores;
    counted = λ i. omega (arith, one.counted i, two.counted i, instructions-append i xs ys);
    all = omega (arith, one.all, two.all, all-append xs ys);
  }

  abbrev after : BoundState World → (number : ℕ) → TimedCore → Request → BoundState World
  after s number c request = access_served serve_by time image end s number (ran_to image end c) (serve_by s.world number (ran_to image end c).clock request)

  abbrev step_of : BoundState World → (number : ℕ) → TimedCore → Request → Step
  step_of s number c request = access_step serve_by leaves image end s.world number (ran_to image end c) request

  counts_turn : (s : BoundState World) (number : ℕ) (c : TimedCore) (request : Request) → slice_get s.cores number ≡ Some c
      → (i : ℕ) → counted_at (after s number c request).cores i ≡ counted_at s.cores i + instructions_of i (steps_alone image end number c ++ step_of s number c request ∷ [])
  counts_turn s number c request here i =
      let ran = ran_to image end c in
      let e : Entry = (serve_by s.world number ran.clock request).0 in
      let alone = steps_alone image end number c in
      let later : TimedCore = core_after_access time e ran in
      elim (cases_eq number i) [
        | inl own ↦
            subst (λ (n : ℕ). counted_at (after s number c request).cores n ≡ counted_at s.cores n + instructions_of n (alone ++ step_of s number c request ∷ [])) own
            (omega (
              arith,
              set_here s.cores number c later here,
              counted_here s.cores number c here,
              kept_by_access time e ran,
              alone_counts image end number c,
              instructions-append number alone (step_of s number c request ∷ []),
            ))
        | inr other ↦
            omega (
              arith,
              set_elsewhere s.cores number i later other,
              (alone_local image end number c).others i other,
              instructions-append i alone (step_of s number c request ∷ []),
            )
      ]

  tells_turn : (s : BoundState World) (number : ℕ) (c : TimedCore) (request : Request) → slice_get s.cores number ≡ Some c
      → Tells s (after s number c request) (steps_alone image end number c ++ step_of s number c request ∷ [])
  tells_turn s number c request here =
      let alone = steps_alone image end number c in
      let step = step_of s number c request in
      record {
        ended = ended-append alone (step ∷ []) ∙ rw (alone_local image end number c).ended refl;
        accesses = ap (λ (es : List Entry). s.entries ++ es) (sym (accessed-append alone (step ∷ []) ∙ rw (alone_local image end number c).accesses refl));
        cores = length-set s.cores number _;
        counted = counts_turn s number c request here;
        all = omega (
          arith,
          set_among s.cores number c (core_after_access time (serve_by s.world number (ran_to image end c).clock request).0 (ran_to image end c)) here,
          kept_by_access time (serve_by s.world number (ran_to image end c).clock request).0 (ran_to image end c),
          alone_counts_all image end number c,
          all-append alone (step ∷ []),
        );
      }

  tells_end : (place : ℕ) (done : Bool) (s b : BoundState World) → (if done then Ok (at_end image end s) else Err place) ≡ Ok b → Tells s b (last_from image end 0 s.cores)
  tells_end place false s b e = cc
  tells_end place true s b e =
      let is : at_end image end s ≡ b = cc in
      subst (λ (x : BoundState World). Tells s x (last_from image end 0 s.cores)) is (record {
        ended = last_ended image end 0 s.cores;
        accesses = sym (ap (λ (es : List Entry). s.entries ++ es) (last_accesses image end 0 s.cores) ∙ append-nil s.entries);
        cores = length-map s.cores (ran_to image end);
        counted = λ i. last_counts image end 0 i i s.cores (omega arith);
        all = last_counts_all image end 0 s.cores;
      })

  pub phase_tells : (place : ℕ) (numbers : List ℕ) (s b : BoundState World) → bound_from serve_by time image end place numbers s ≡ Ok b → Tells s b (phase_steps serve_by leaves image end time numbers s)
  phase_tells place [] s b e = tells_end place (are_done image end s) s b e
  phase_tells place (number ∷ numbers) s b e =
      let of_request : (c : TimedCore) (request : Option Request) → slice_get s.cores number ≡ Some c
      → and_then (bound_from serve_by time image end (place + 1) numbers) (legal_at place (option_map (after s number c) request)) ≡ Ok b
      → Tells s b ((steps_alone image end number c ++ map (step_of s number c) (option_to_list request)) ++ option_map_or (phase_steps serve_by leaves image end time numbers) (option_map (after s number c) request) []) =
      λ c request. elim request as (λ v. slice_get s.cores number ≡ Some c
      → and_then (bound_from serve_by time image end (place + 1) numbers) (legal_at place (option_map (after s number c) v)) ≡ Ok b
      → Tells s b ((steps_alone image end number c ++ map (step_of s number c) (option_to_list v)) ++ option_map_or (phase_steps serve_by leaves image end time numbers) (option_map (after s number c) v) [])) [
        | None ↦ λ here f. cc
        | Some request ↦ λ here f. then_tells s (after s number c request) b _ _ (tells_turn s number c request here) (phase_tells (place + 1) numbers (after s number c request) b f)
      ]
      in
      let of_core : (found : Option TimedCore) → slice_get s.cores number ≡ found
      → and_then (bound_from serve_by time image end (place + 1) numbers) (legal_at place (option_and_then (λ c. turn_at serve_by time image end s number (ran_to image end c)) found)) ≡ Ok b
      → Tells s b (option_map_or (λ c. steps_alone image end number c ++ map (step_of s number c) (option_to_list (asks (ran_to image end c)))) found []
      ++ option_map_or (phase_steps serve_by leaves image end time numbers) (option_and_then (λ c. turn_at serve_by time image end s number (ran_to image end c)) found) []) =
      λ found. elim found as (λ v. slice_get s.cores number ≡ v
      → and_then (bound_from serve_by time image end (place + 1) numbers) (legal_at place (option_and_then (λ c. turn_at serve_by time image end s number (ran_to image end c)) v)) ≡ Ok b
      → Tells s b (option_map_or (λ c. steps_alone image end number c ++ map (step_of s number c) (option_to_list (asks (ran_to image end c)))) v []
      ++ option_map_or (phase_steps serve_by leaves image end time numbers) (option_and_then (λ c. turn_at serve_by time image end s number (ran_to image end c)) v) [])) [
        | None ↦ λ here f. cc
        | Some c ↦ λ here f. of_request c (asks (ran_to image end c)) here f
      ]
      in
      of_core (slice_get s.cores number) refl e
