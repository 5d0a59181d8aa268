-- The turns of an interval core after core, as they are told.
use Rattle.std.proofs.Common.{◌≡◌, ◌≢◌, ℕ, zero, suc, ◌+◌, ◌<◌, ◌≤◌, All, drop, List, [], ◌∷◌, ◌++◌, length, Some, append-nil, append_assoc, refl, sym, ◌∙◌, ap, subst, inl, inr, arith}
use Rattle.std.specs.List.{enumerate_from}
use Rattle.std.specs.Prelude.{replicate, slice_get, slice_set}
use Rattle.std.proofs.lemmas.Bool.{cases_lt}
use Rattle.std.proofs.lemmas.List.{drop_more, length-set}
use Rattle.std.proofs.lemmas.List.Concat.{flat_map-cons}
use Rattle.std.proofs.lemmas.List.Elements.{All-append, All-cons, All-head, All-nil, All-tail}
use Rattle.std.proofs.lemmas.Option.{get_or_from_slice_get, same_Some, slice_get_within}
use Rattle.zs_num.specs.declared.entry.Entry.{Entry}
use Rattle.elf_load.specs.MemoryImage.{MemoryImage}
use Rattle.rv_core.specs.declared.leg.Leg.{Leg}
use Rattle.bound_core.specs.ReferenceMachine.{BoundState}
use Rattle.bound_core.specs.ShardWorld.{ShardWorld, shards_serve}
use Rattle.bound_core.specs.TimedCore.{TimedCore}
use Rattle.bound_core.specs.Turn.{IsOver}
use Rattle.reference.proofs.Lists.{get_set}
use Rattle.bound_records.proofs.Lists.{get_other}
use Rattle.trace.specs.EachCore.{IsCoreAfterCore, TellsOwn, phase_with, untold_from, untold_steps}
use Rattle.trace.specs.Port.{LoggedPortState, leaves_shards}
use Rattle.trace.specs.Trace.{Step, last_from, phase_steps, steps_alone}
use Rattle.trace.specs.Ways.{FitsLeg}
use Rattle.trace.proofs.AloneTold.{none_alone}
use Rattle.trace.proofs.TakingTurns.{over_stops}

-- ---- the list of turns

-- all of so many
pub all_same : (P : ℕ → Type 0) (n x : ℕ) → P x → All P (replicate n x)
all_same P zero x p = All-nil P
all_same P (suc n) x p = All-cons P x (replicate n x) p (all_same P n x p)

same_in_order : (n x : ℕ) → IsCoreAfterCore (replicate n x)
same_in_order zero x = tt
same_in_order (suc n) x = (all_same (λ other. x ≤ other) n x (omega arith), same_in_order n x)

-- the turns of the core that comes next
pub in_order_more : (turns : List ℕ) (n x : ℕ) → IsCoreAfterCore turns → All (λ core. core < x) turns → IsCoreAfterCore (turns ++ replicate n x)
in_order_more [] n x order below = same_in_order n x
in_order_more (core ∷ turns) n x order below =
    let first : core < x = All-head (λ c. c < x) core turns below in (
      All-append (λ other. core ≤ other) turns (replicate n x) order.0 (all_same (λ other. core ≤ other) n x (omega (arith, first))),
      in_order_more turns n x order.1 (All-tail (λ c. c < x) core turns below),
    )

pub below_more : (turns : List ℕ) (n x : ℕ) → All (λ core. core < x) turns → All (λ core. core < x + 1) (turns ++ replicate n x)
below_more turns n x below =
    All-append (λ core. core < x + 1) turns (replicate n x) (λ k d within. let less = below k d within in omega (arith, less)) (all_same (λ core. core < x + 1) n x (omega arith))

-- ---- what is told

module _ (time : Entry → ℕ) (image : MemoryImage) (end : ℕ) (first : BoundState ShardWorld) (steps_first : List Step) where
  -- The cores before this number took all their turns, and these were told. What those executed behind their last access is
  -- untold: a state from which they are ahead is where the turns lead.
  pub record AreHeld (number : ℕ) (cores : List TimedCore) (port : LoggedPortState) (untold : List (List Leg)) (turns : List ℕ) (steps : List Step) : Type 0 where
    pub there : List TimedCore
    pub count : length there ≡ length cores
    pub later : (i : ℕ) → number ≤ i → slice_get there i ≡ slice_get cores i
    pub held : (i : ℕ) (c : TimedCore) (legs : List Leg) → i < number → slice_get there i ≡ Some c → slice_get untold i ≡ Some legs → untold_steps i legs ≡ steps_alone image end i c
    pub told : (rest : List ℕ) → steps ++ phase_steps shards_serve leaves_shards image end time rest (phase_with there port)
        ≡ steps_first ++ phase_steps shards_serve leaves_shards image end time (turns ++ rest) first

  -- a core more
  pub held_more : (number count : ℕ) (cores : List TimedCore) (port port_after : LoggedPortState) (untold : List (List Leg)) (turns : List ℕ) (steps steps_after : List Step) (core after : TimedCore) (old legs : List Leg)
      → AreHeld number cores port untold turns steps → slice_get cores number ≡ Some core → slice_get untold number ≡ Some old
      → TellsOwn time image end number count port port_after core after [] legs steps steps_after → IsOver end after
      → AreHeld (number + 1) (slice_set cores number after) port_after (slice_set untold number legs) (turns ++ replicate count number) steps_after
  held_more number count cores port port_after untold turns steps steps_after core after old legs h here place tells over =
      let there_core : slice_get h.there number ≡ Some core = h.later number (omega arith) ∙ here in
      let did = tells h.there core there_core (record { ran = refl; tells = refl; fits = All-nil FitsLeg }) in
      let behind : TimedCore = did.0 in
      let own : untold_steps number legs ≡ steps_alone image end number behind =
      sym (append-nil (untold_steps number legs)) ∙ (ap (λ (steps : List Step). untold_steps number legs ++ steps) (sym (none_alone image end number after (over_stops end after over))) ∙ did.1.0.tells)
      in
      record {
        there = slice_set h.there number behind;
        count = length-set h.there number behind ∙ (h.count ∙ sym (length-set cores number after));
        later = λ i above.
            let apart : i ≢ number = λ same. omega (arith, same, above) in
            get_other h.there number i behind apart ∙ (h.later i (omega (arith, above)) ∙ sym (get_other cores number i after apart));
        held = λ i c ls below found kept. elim (cases_lt i number) [
          | inl before ↦
              (let apart : i ≢ number = λ same. omega (arith, same, before) in
              h.held i c ls before (sym (get_other h.there number i behind apart) ∙ found) (sym (get_other untold number i legs apart) ∙ kept))
          | inr not ↦
              (let is : i ≡ number = omega (arith, not, below) in
              let at : behind ≡ c = same_Some behind c (sym (get_set h.there number core behind there_core) ∙ (ap (slice_get (slice_set h.there number behind)) (sym is) ∙ found)) in
              let ours : legs ≡ ls = same_Some legs ls (sym (get_set untold number old legs place) ∙ (ap (slice_get (slice_set untold number legs)) (sym is) ∙ kept)) in
              ap (λ (n : ℕ). untold_steps n ls) is ∙ (ap (untold_steps number) (sym ours) ∙ (own ∙ (ap (steps_alone image end number) at ∙ ap (λ (n : ℕ). steps_alone image end n c) (sym is)))))
        ];
        told = λ rest.
            did.1.1 rest
            ∙ (h.told (replicate count number ++ rest)
            ∙ ap (λ (ns : List ℕ). steps_first ++ phase_steps shards_serve leaves_shards image end time ns first) (sym (append_assoc turns (replicate count number) rest)));
      }

  -- the untold of all cores is what they executed last
  same_last : (number : ℕ) (there : List TimedCore) (untold : List (List Leg)) → length there ≡ length untold
      → ((i : ℕ) (c : TimedCore) (legs : List Leg) → slice_get there i ≡ Some c → slice_get untold i ≡ Some legs → untold_steps (number + i) legs ≡ steps_alone image end (number + i) c)
      → untold_from number untold ≡ last_from image end number there
  same_last number [] [] many same = refl
  same_last number [] (legs ∷ untold) many same = absurd (omega (arith, many))
  same_last number (c ∷ there) [] many same = absurd (omega (arith, many))
  same_last number (c ∷ there) (legs ∷ untold) many same =
      let at : number + 0 ≡ number = omega arith in
      let one : untold_steps number legs ≡ steps_alone image end number c = subst (λ (n : ℕ). untold_steps n legs ≡ steps_alone image end n c) at (same 0 c legs refl refl) in
      let rest = same_last (number + 1) there untold (omega (arith, many))
      (λ i d ls here kept. subst (λ (n : ℕ). untold_steps n ls ≡ steps_alone image end n d) (let next : number + suc i ≡ number + 1 + i = omega arith in next) (same (suc i) d ls here kept))
      in
      flat_map-cons (λ at. untold_steps at.0 at.1) (number, legs) (enumerate_from (number + 1) untold)
      ∙ (ap (λ (steps : List Step). steps ++ untold_from (number + 1) untold) one
      ∙ (ap (λ (steps : List Step). steps_alone image end number c ++ steps) rest
      ∙ sym (flat_map-cons (λ at. steps_alone image end at.0 at.1) (number, c) (enumerate_from (number + 1) there))))

  -- all were told
  pub all_told : (number : ℕ) (cores : List TimedCore) (port : LoggedPortState) (untold : List (List Leg)) (turns : List ℕ) (steps : List Step) → AreHeld number cores port untold turns steps
      → length cores ≤ number → length untold ≡ length cores
      → steps ++ untold_from 0 untold ≡ steps_first ++ phase_steps shards_serve leaves_shards image end time turns first
  all_told number cores port untold turns steps h past many =
      let last : untold_from 0 untold ≡ last_from image end 0 h.there =
      same_last 0 h.there untold (h.count ∙ sym many)
      (λ i c legs here kept.
      let within : i < length h.there = slice_get_within h.there i c here in
      let at : i ≡ 0 + i = omega arith in
      subst (λ (n : ℕ). untold_steps n legs ≡ steps_alone image end n c) at (h.held i c legs (let count = h.count in omega (arith, within, count, past)) here kept))
      in
      ap (λ (all : List Step). steps ++ all) last ∙ (h.told [] ∙ ap (λ (ns : List ℕ). steps_first ++ phase_steps shards_serve leaves_shards image end time ns first) (append-nil turns))

-- what is untold of a core, and of those behind it
pub untold_more : (lists : List (List Leg)) (number : ℕ) (legs : List Leg) → slice_get lists number ≡ Some legs
    → untold_from number (drop number lists) ≡ untold_steps number legs ++ untold_from (number + 1) (drop (number + 1) lists)
untold_more lists number legs here =
    let within : number < length lists = slice_get_within lists number legs here in
    let first : drop number lists ≡ legs ∷ drop (number + 1) lists =
    drop_more lists number legs within ∙ ap (λ (ls : List Leg). ls ∷ drop (number + 1) lists) (get_or_from_slice_get lists number legs legs here)
    in
    ap (untold_from number) first ∙ flat_map-cons (λ at. untold_steps at.0 at.1) (number, legs) (enumerate_from (number + 1) (drop (number + 1) lists))
