-- Turns of one core that is ahead of a state, as they are told.
use Rattle.std.proofs.Common.{◌≡◌, ℕ, zero, suc, ◌*◌, ◌^◌, ◌+◌, ◌-◌, Bool, true, ◌≤◌, drop, false, List, [], ◌∷◌, ◌++◌, length, map, Option, option_to_list, Some, All, append-nil, append_assoc, refl, sym, take, ◌∙◌, ap, subst, arith}
use Rattle.std.specs.Prelude.{replicate, slice_get, slice_set}
use Rattle.std.specs.Option.{option_and_then, option_map}
use Rattle.std.proofs.lemmas.List.{length-append, replicate-append-replicate, take-append-drop}
use Rattle.std.proofs.lemmas.List.Elements.{All-append, All-head, All-nil, All-tail}
use Rattle.std.proofs.lemmas.Option.{same_Some, slice_get-get_or, slice_get_within}
use Rattle.zs_num.specs.declared.entry.Entry.{Entry}
use Rattle.zs_num.specs.declared.entry.Outcome.TheVariants.{Hit}
use Rattle.zs_num.specs.declared.request.Request.{Request}
use Rattle.elf_load.specs.MemoryImage.{MemoryImage}
use Rattle.rv_core.specs.declared.leg.Leg.{Leg}
use Rattle.rv_core.specs.Told.{Told, told_of}
use Rattle.bound_core.specs.IntervalBounds.{most_accesses}
use Rattle.bound_core.specs.NumberedCores.{NumberedCore}
use Rattle.bound_core.specs.ReferenceMachine.{BoundState, access_served, turn, turn_at}
use Rattle.bound_core.specs.ShardPort.{base_of, l1i_of, size_of}
use Rattle.bound_core.specs.ShardWorld.{ShardWorld, shards_serve}
use Rattle.bound_core.specs.Taken.{TakesThese}
use Rattle.bound_core.specs.TimedCore.{TimedCore, asks, core_after_access, ran_to}
use Rattle.bound_core.specs.ToldTurns.{TellsTurns, behind_turns, told_alone, told_by_turns}
use Rattle.bound_core.specs.Turn.{TakesTurn}
use Rattle.bound_core.specs.TurnLaws.{moved}
use Rattle.reference.proofs.Instructions.{ran_again}
use Rattle.reference.proofs.Lists.{get_set, set_again, set_same}
use Rattle.trace.specs.EachCore.{TellsUpTo, IsAhead, IsUnderWay, TakesOwn, TellsOwn, phase_with, untold_steps}
use Rattle.trace.specs.Port.{Gives, LoggedPortState, leaves_shards}
use Rattle.trace.specs.Trace.{Accessed, Step, access_step, phase_steps, steps_alone, turn_steps}
use Rattle.trace.specs.Turns.{HaveTaken, IsOnItsWay, TakesAccess, TakesNone, chosen}
use Rattle.trace.proofs.AloneTold.{none_alone}
use Rattle.trace.specs.Ways.{FitsLeg, nothing_leaves, told_steps}
use Rattle.trace.proofs.LastMade.{IsCutAt, cut_at}
use Rattle.trace.proofs.PhaseTold.{turn_told}
use Rattle.trace.proofs.PortTurns.{answers}
use Rattle.trace.proofs.TakingHits.{hit_access, left_of, logged_of, one_told, same_turn}
use Rattle.trace.proofs.TakingTurns.{one_ended, one_taken, over_stops}
use Rattle.trace.proofs.Untold.{untold_behind}
use Rattle.trace.proofs.WayTold.{all_right, alone_behind}

-- ---- where a turn leads, and what is told of it

module _ (time : Entry → ℕ) (image : MemoryImage) (end number : ℕ) where
  -- a turn of a core that is ahead leads from the state to the one behind it
  pub exact_turn : (cores : List TimedCore) (there core after : TimedCore) (port port_after : LoggedPortState) (e : Entry) → slice_get cores number ≡ Some there
      → ran_to image end core ≡ ran_to image end there → TakesTurn time image end Gives port port_after core after e → e.core ≡ number → port_after.entries ≡ port.entries ++ e ∷ []
      → turn shards_serve time image end (phase_with cores port) number ≡ Some (phase_with (slice_set cores number after) port_after)
  exact_turn cores there core after port port_after e here same t own logged =
      let s : BoundState ShardWorld = phase_with cores port in
      let ran : TimedCore = ran_to image end core in
      let served : shards_serve port.world number ran.clock t.request ≡ (e, port_after.world) =
      ap (λ (n : ℕ). shards_serve port.world n ran.clock t.request) (sym own) ∙ sym (answers port port_after ran.clock t.request e t.given)
      in
      let at : moved s number after port_after.world (e ∷ []) ≡ phase_with (slice_set cores number after) port_after =
      ap (λ (es : List Entry). let x : BoundState ShardWorld = record { cores = slice_set cores number after; world = port_after.world; entries = es } in x) (sym logged)
      in
      ap (λ (found : Option TimedCore). option_and_then (λ c. turn_at shards_serve time image end s number (ran_to image end c)) found) here
      ∙ ap (λ (c : TimedCore). turn_at shards_serve time image end s number c) (sym same)
      ∙ ap (λ (asked : Option Request). option_map (λ request. access_served shards_serve time image end s number ran (shards_serve port.world number ran.clock request)) asked) t.asked
      ∙ ap (λ (answer : Entry × ShardWorld). Some (access_served shards_serve time image end s number ran answer)) served
      ∙ ap (λ (c : TimedCore). Some (moved s number c port_after.world (e ∷ []))) (sym t.left)
      ∙ ap Some at

  -- so do turns whose accesses were hits
  pub exact_hits : (entries : List Entry) (cores : List TimedCore) (there core last : TimedCore) (port port_after : LoggedPortState) → slice_get cores number ≡ Some there
      → ran_to image end core ≡ ran_to image end there → TakesThese time image end Gives logged_of number entries port port_after core last → All (λ e. e.outcome ≡ Hit) entries → (rest : List ℕ)
      → phase_steps shards_serve leaves_shards image end time (replicate (length entries) number ++ rest) (phase_with cores port)
      ≡ told_steps number (told_by_turns time image end entries there) entries
      ++ phase_steps shards_serve leaves_shards image end time rest (phase_with (slice_set cores number (behind_turns time image end entries there)) port_after)
  exact_hits [] cores there core last port port_after here same these hits rest =
      ap (λ (cs : List TimedCore). phase_steps shards_serve leaves_shards image end time rest (phase_with cs port)) (sym (set_same cores number there here))
      ∙ ap (λ (p : LoggedPortState). phase_steps shards_serve leaves_shards image end time rest (phase_with (slice_set cores number there) p)) (sym these.0)
  exact_hits (e ∷ entries) cores there core last port port_after here same these hits rest =
      let next : LoggedPortState = these.0 in
      let behind : TimedCore = these.1.0 in
      let one = these.1.1.0 in
      let Hits : Entry → Type 0 = λ x. x.outcome ≡ Hit in
      let mid : List TimedCore = slice_set cores number behind in
      let ran : TimedCore = ran_to image end there in
      let turned = exact_turn cores there core behind port next e here same one.turn one.core (same_Some next.entries (port.entries ++ e ∷ []) one.logged) in
      let left : behind ≡ core_after_access time e ran = one.turn.left ∙ ap (core_after_access time e) same in
      let more : List ℕ = replicate (length entries) number ++ rest in
      let own = turn_steps shards_serve leaves_shards image end port.world number there in
      let first : List Step = steps_alone image end number there ++ Accessed ran.core.pc e nothing_leaves ∷ [] in
      let own_is : own ≡ first =
      ap (λ (c : TimedCore). steps_alone image end number there ++ map (access_step shards_serve leaves_shards image end port.world number c) (option_to_list (asks c))) (sym same)
      ∙ (ap (λ (access : List Step). steps_alone image end number there ++ access) (hit_access time image end number port next core behind e one (All-head Hits e entries hits))
      ∙ ap (λ (c : TimedCore). steps_alone image end number there ++ Accessed c.core.pc e nothing_leaves ∷ []) same)
      in
      let told_behind = told_steps number (told_by_turns time image end entries behind) entries in
      let Later : List TimedCore → List Step = λ cs. phase_steps shards_serve leaves_shards image end time rest (phase_with cs port_after) in
      let all = exact_hits entries mid behind behind last next port_after (get_set cores number there behind here) refl these.1.1.1 (All-tail Hits e entries hits) rest in
      let last_is : (x : TimedCore) → slice_set mid number x ≡ slice_set cores number x = λ x. set_again cores number behind x in
      let Last : List Step = Later (slice_set cores number (behind_turns time image end entries behind)) in
      sym (turn_told image end time (phase_with cores port) (phase_with mid next) number there more [] own here turned refl)
      ∙ (ap (λ (steps : List Step). own ++ steps) (all ∙ ap (λ (cs : List TimedCore). told_behind ++ Later cs) (last_is (behind_turns time image end entries behind)))
      ∙ (sym (append_assoc own told_behind Last)
      ∙ (ap (λ (steps : List Step). (steps ++ told_behind) ++ Last) own_is
      ∙ (ap (λ (steps : List Step). steps ++ Last) (sym (one_told time image end number there behind e entries left))
      ∙ ap (λ (x : TimedCore). told_steps number (told_by_turns time image end (e ∷ entries) there) (e ∷ entries) ++ Later (slice_set cores number (behind_turns time image end entries x))) left))))

  -- what is told of turns of a core that was ahead by legs is told of them from there
  told_from_there : (e : Entry) (entries : List Entry) (there core : TimedCore) (legs : List Leg) → IsAhead image end number there core legs
      → untold_steps number legs ++ told_steps number (told_by_turns time image end (e ∷ entries) core) (e ∷ entries) ≡ told_steps number (told_by_turns time image end (e ∷ entries) there) (e ∷ entries)
  told_from_there e entries there core legs ahead =
      let Access : TimedCore → List Step = λ ran. Accessed ran.core.pc e nothing_leaves ∷ [] in
      let Behind : TimedCore → List Step = λ ran. told_steps number (told_by_turns time image end entries (core_after_access time e ran)) entries in
      let untold = untold_steps number legs in
      let alone = steps_alone image end number core in
      let ran : TimedCore = ran_to image end core in
      ap (λ (steps : List Step). untold ++ steps) (one_told time image end number core (core_after_access time e ran) e entries refl ∙ append_assoc alone (Access ran) (Behind ran))
      ∙ (sym (append_assoc untold alone (Access ran ++ Behind ran))
      ∙ (ap (λ (steps : List Step). steps ++ (Access ran ++ Behind ran)) ahead.tells
      ∙ (ap (λ (c : TimedCore). steps_alone image end number there ++ (Access c ++ Behind c)) ahead.ran
      ∙ (sym (append_assoc (steps_alone image end number there) (Access (ran_to image end there)) (Behind (ran_to image end there)))
      ∙ sym (one_told time image end number there (core_after_access time e (ran_to image end there)) e entries refl)))))

  behind_same : (e : Entry) (entries : List Entry) (there core : TimedCore) → ran_to image end core ≡ ran_to image end there
      → behind_turns time image end (e ∷ entries) core ≡ behind_turns time image end (e ∷ entries) there
  behind_same e entries there core same = ap (λ (ran : TimedCore). behind_turns time image end entries (core_after_access time e ran)) same

  -- what legs behind the last access tell is what the core executed of the turn that follows
  told_behind : (legs : List Leg) (behind after : TimedCore) → told_of legs ++ told_alone image end after ≡ told_alone image end behind
      → untold_steps number legs ++ steps_alone image end number after ≡ steps_alone image end number behind
  told_behind legs behind after is =
      sym (alone_behind number image end (told_of legs) [] after) ∙ (ap (λ (told : List Told). told_steps number told []) is ∙ alone_behind number image end [] [] behind)

  -- So many hits were taken and told, and the core is ahead of the state behind them by the legs that are untold.
  module _ (there core after : TimedCore) (port port_after : LoggedPortState) (way legs legs_after : List Leg) (steps steps_after : List Step) (ahead : IsAhead image end number there core legs)
      (fits : All FitsLeg way) where
    pub hits_by : (made : ℕ) (entries : List Entry) → TakesThese time image end Gives logged_of number entries port port_after core after → IsCutAt time image end made way entries core after
        → TellsUpTo number way made entries legs legs_after steps steps_after
        → IsAhead image end number (behind_turns time image end entries there) after legs_after × (steps_after ≡ steps ++ told_steps number (told_by_turns time image end entries there) entries)
    hits_by zero [] these cut told =
        let is : legs_after ≡ legs ++ way = (told.none refl).1 in
        let own = told_behind way core after cut.behind in
        let all : untold_steps number legs_after ++ steps_alone image end number after ≡ steps_alone image end number there =
        ap (λ (ls : List Leg). untold_steps number ls ++ steps_alone image end number after) is
        ∙ (ap (λ (told : List Step). told ++ steps_alone image end number after) (untold_behind number legs way)
        ∙ (append_assoc (untold_steps number legs) (untold_steps number way) (steps_alone image end number after)
        ∙ (ap (λ (told : List Step). untold_steps number legs ++ told) own ∙ ahead.tells)))
        in (
          record { ran = same_turn time image end number [] port port_after core after these ∙ ahead.ran; tells = all; fits = subst (All FitsLeg) (sym is) (All-append FitsLeg legs way ahead.fits fits) },
          (told.none refl).0 ∙ sym (append-nil steps),
        )
    hits_by zero (e ∷ entries) these cut told = absurd (cut.some (omega arith) refl)
    hits_by (suc made) [] these cut told = absurd (cut.none refl (omega arith))
    hits_by (suc made) (e ∷ entries) these cut told =
        let did = told.some (omega arith) in
        let same : behind_turns time image end (e ∷ entries) core ≡ behind_turns time image end (e ∷ entries) there = behind_same e entries there core ahead.ran in
        let own = told_behind (drop (suc made) way) (behind_turns time image end (e ∷ entries) core) after cut.behind in (
          record {
            ran = same_turn time image end number (e ∷ entries) port port_after core after these ∙ ap (ran_to image end) same;
            tells = ap (λ (ls : List Leg). untold_steps number ls ++ steps_alone image end number after) did.1 ∙ (own ∙ ap (steps_alone image end number) same);
            fits = subst (All FitsLeg) (sym did.1) (all_right FitsLeg (take (suc made) way) (drop (suc made) way) (subst (All FitsLeg) (sym (take-append-drop (suc made) way)) fits));
          },
          did.0
              ∙ (ap (λ (ts : List Told). steps ++ (untold_steps number legs ++ told_steps number ts (e ∷ entries))) cut.turns
              ∙ ap (λ (told : List Step). steps ++ told) (told_from_there e entries there core legs ahead)),
        )

-- ---- one part of the turns behind the other

module _ (time : Entry → ℕ) (image : MemoryImage) (end number : ℕ) where
  -- none was taken
  pub none_tells : (port port_after : LoggedPortState) (core after : TimedCore) (legs legs_after : List Leg) (steps steps_after : List Step)
      → ((cores : List TimedCore) → phase_with cores port_after ≡ phase_with cores port) → steps_after ≡ steps
      → ((there : TimedCore) → IsAhead image end number there core legs → IsAhead image end number there after legs_after)
      → TellsOwn time image end number 0 port port_after core after legs legs_after steps steps_after
  none_tells port port_after core after legs legs_after steps steps_after same told still = λ cores there here ahead. (
    there,
    (
      still there ahead,
      λ rest.
          ap (λ (all : List Step). all ++ phase_steps shards_serve leaves_shards image end time rest (phase_with (slice_set cores number there) port_after)) told
          ∙ (ap (λ (s : BoundState ShardWorld). steps ++ phase_steps shards_serve leaves_shards image end time rest s) (same (slice_set cores number there))
          ∙ ap (λ (cs : List TimedCore). steps ++ phase_steps shards_serve leaves_shards image end time rest (phase_with cs port)) (set_same cores number there here)),
    ),
  )

  pub both_tell : (some more : ℕ) (port between last : LoggedPortState) (core mid after : TimedCore) (legs legs_between legs_after : List Leg) (steps steps_between steps_after : List Step)
      → TellsOwn time image end number some port between core mid legs legs_between steps steps_between → TellsOwn time image end number more between last mid after legs_between legs_after steps_between steps_after
      → TellsOwn time image end number (some + more) port last core after legs legs_after steps steps_after
  both_tell some more port between last core mid after legs legs_between legs_after steps steps_between steps_after one two = λ cores there here ahead.
      let first = one cores there here ahead in
      let then = two (slice_set cores number first.0) first.0 (get_set cores number there first.0 here) first.1.0 in (
        then.0,
        (
          then.1.0,
          λ rest.
              ap (λ (cs : List TimedCore). steps_after ++ phase_steps shards_serve leaves_shards image end time rest (phase_with cs last)) (sym (set_again cores number first.0 then.0))
              ∙ (then.1.1 rest
              ∙ (first.1.1 (replicate more number ++ rest)
              ∙ ap (λ (ns : List ℕ). steps ++ phase_steps shards_serve leaves_shards image end time ns (phase_with cores port))
              (sym (append_assoc (replicate some number) (replicate more number) rest) ∙ ap (λ (ns : List ℕ). ns ++ rest) (replicate-append-replicate some more number)))),
        ),
      )

  pub both_take : (some more : ℕ) (port between last : LoggedPortState) (core mid after : NumberedCore) → TakesOwn time image end number some port between core mid
      → TakesOwn time image end number more between last mid after → TakesOwn time image end number (some + more) port last core after
  both_take some more port between last core mid after one two = λ most first turns cores here h.
      let then = two most first (turns ++ replicate some number) (slice_set cores number mid) (get_set cores number core mid here) (one most first turns cores here h) in
      let Taken : List ℕ → List NumberedCore → Type 0 = λ ns cs. HaveTaken time image end most first ns cs last in
      subst (λ (ns : List ℕ). Taken ns (slice_set cores number after)) (append_assoc turns (replicate some number) (replicate more number) ∙ ap (λ (ns : List ℕ). turns ++ ns) (replicate-append-replicate some more number))
      (subst (λ (cs : List NumberedCore). Taken ((turns ++ replicate some number) ++ replicate more number) cs) (set_again cores number mid after) then)

  -- hits were taken, and their way was told
  pub hits_tell : (count made : ℕ) (entries : List Entry) (port port_after : LoggedPortState) (core after : TimedCore) (way legs legs_after : List Leg) (steps steps_after : List Step)
      → length entries ≡ count → TakesThese time image end Gives logged_of number entries port port_after core after → All (λ e. e.outcome ≡ Hit) entries
      → TellsTurns time image end (told_of way) entries core after → All FitsLeg way → TellsUpTo number way made entries legs legs_after steps steps_after
      → TellsOwn time image end number count port port_after core after legs legs_after steps steps_after
  hits_tell count made entries port port_after core after way legs legs_after steps steps_after many these hits tells fits told = λ cores there here ahead.
      let cut = cut_at time image end way core after made entries told.within told.last told.behind tells in
      let did = hits_by time image end number there core after port port_after way legs legs_after steps steps_after ahead fits made entries these cut told in
      let own = told_steps number (told_by_turns time image end entries there) entries in
      let behind : TimedCore = behind_turns time image end entries there in (
        behind,
        (
          did.0,
          λ rest.
              let Later : List Step = phase_steps shards_serve leaves_shards image end time rest (phase_with (slice_set cores number behind) port_after) in
              ap (λ (all : List Step). all ++ Later) did.1
              ∙ (append_assoc steps own Later
              ∙ (ap (λ (all : List Step). steps ++ all) (sym (exact_hits time image end number entries cores there core after port port_after here ahead.ran these hits rest))
              ∙ ap (λ (k : ℕ). steps ++ phase_steps shards_serve leaves_shards image end time (replicate k number ++ rest) (phase_with cores port)) many)),
        ),
      )

  -- what is untold then fits
  pub untold_fits : (made : ℕ) (entries : List Entry) (way legs legs_after : List Leg) (steps steps_after : List Step) → All FitsLeg way → All FitsLeg legs → TellsUpTo number way made entries legs legs_after steps steps_after
      → All FitsLeg legs_after
  untold_fits zero entries way legs legs_after steps steps_after fits before told = subst (All FitsLeg) (sym (told.none refl).1) (All-append FitsLeg legs way before fits)
  untold_fits (suc made) entries way legs legs_after steps steps_after fits before told =
      subst (All FitsLeg) (sym (told.some (omega arith)).1)
      (all_right FitsLeg (take (suc made) way) (drop (suc made) way) (subst (All FitsLeg) (sym (take-append-drop (suc made) way)) fits))

  -- as many accesses are left less
  pub fewer_left : (entries : List Entry) (port port_after : LoggedPortState) (core after : TimedCore) → TakesThese time image end Gives logged_of number entries port port_after core after
      → length entries + most_accesses end after ≤ most_accesses end core
  fewer_left [] port port_after core after these = (let s = these.1.fewer in omega (arith, s))
  fewer_left (e ∷ entries) port port_after core after these =
      let rest = fewer_left entries these.0 port_after these.1.0 after these.1.1.1 in
      let one = these.1.1.0.fewer in
      omega (arith, rest, one)

  -- an access was taken, and was told
  pub access_tells : (port port_after : LoggedPortState) (core after : NumberedCore) (e : Entry) (legs : List Leg) (steps steps_after : List Step) → core.number ≡ number
      → TakesAccess time image end port port_after core after e
      → steps_after ≡ steps ++ (untold_steps number legs ++ turn_steps shards_serve leaves_shards image end port.world number core.timed)
      → TellsOwn time image end number 1 port port_after core.timed after.timed legs [] steps steps_after
  access_tells port port_after core after e legs steps steps_after own took told = λ cores there here ahead.
      let t = took.turn in
      let Access : TimedCore → List Step = λ ran. map (access_step shards_serve leaves_shards image end port.world number ran) (option_to_list (asks ran)) in
      let untold = untold_steps number legs in
      let alone = steps_alone image end number core.timed in
      let same : untold ++ turn_steps shards_serve leaves_shards image end port.world number core.timed ≡ turn_steps shards_serve leaves_shards image end port.world number there =
      sym (append_assoc untold alone (Access (ran_to image end core.timed)))
      ∙ (ap (λ (all : List Step). all ++ Access (ran_to image end core.timed)) ahead.tells ∙ ap (λ (ran : TimedCore). steps_alone image end number there ++ Access ran) ahead.ran)
      in
      let turned = exact_turn time image end number cores there core.timed after.timed port port_after e here ahead.ran t (took.own ∙ own) took.logged in (
        after.timed,
        (
          record { ran = refl; tells = refl; fits = All-nil FitsLeg },
          λ rest. turn_told image end time (phase_with cores port) (phase_with (slice_set cores number after.timed) port_after) number there rest steps steps_after here turned (told ∙ ap (λ (all : List Step). steps ++ all) same),
        ),
      )

  -- none was taken, and what the core executed is untold
  pub over_tells : (port port_after : LoggedPortState) (core after : NumberedCore) (legs legs_after : List Leg) (steps steps_after : List Step) → TakesNone image end port port_after core after
      → steps_after ≡ steps → untold_steps number legs_after ≡ untold_steps number legs ++ steps_alone image end number core.timed → All FitsLeg legs_after
      → TellsOwn time image end number 0 port port_after core.timed after.timed legs legs_after steps steps_after
  over_tells port port_after core after legs legs_after steps steps_after none told held fits =
      let ran : ran_to image end after.timed ≡ ran_to image end core.timed = ap (ran_to image end) none.ends.left ∙ ran_again image end core.timed in
      let stops : steps_alone image end number after.timed ≡ [] = none_alone image end number after.timed (over_stops end after.timed none.over) in
      none_tells port port_after core.timed after.timed legs legs_after steps steps_after (λ cores. ap (phase_with cores) none.ends.same) told
      (λ there ahead. record {
        ran = ran ∙ ahead.ran;
        tells = ap (λ (all : List Step). untold_steps number legs_after ++ all) stops ∙ (append-nil (untold_steps number legs_after) ∙ (held ∙ ahead.tells));
        fits = fits;
      })

  pub access_takes : end ≤ 10 * 2 ^ 30 → (port port_after : LoggedPortState) (core after : NumberedCore) (e : Entry) → TakesAccess time image end (chosen port number) port_after core after e
      → TakesOwn time image end number 1 port port_after core after
  access_takes small port port_after core after e took = λ most first turns cores here h.
      one_taken time image end most first turns cores port h number core after here (chosen port number) port_after refl refl refl e took small

  pub none_takes : (port : LoggedPortState) (core : NumberedCore) → TakesOwn time image end number 0 port port core core
  none_takes port core = λ most first turns cores here h.
      subst (λ (ns : List ℕ). HaveTaken time image end most first ns (slice_set cores number core) port) (sym (append-nil turns))
      (subst (λ (cs : List NumberedCore). HaveTaken time image end most first turns cs port) (sym (set_same cores number core here)) h)

  pub over_takes : (port port_after : LoggedPortState) (core after : NumberedCore) → TakesNone image end (chosen port number) port_after core after → TakesOwn time image end number 0 port port_after core after
  over_takes port port_after core after none = λ most first turns cores here h.
      subst (λ (ns : List ℕ). HaveTaken time image end most first ns (slice_set cores number after) port_after) (sym (append-nil turns))
      (one_ended time image end most first turns cores port h number core after here (chosen port number) port_after refl refl refl none)

  -- it is still under way
  pub still_under : (count : ℕ) (port port_after : LoggedPortState) (core after : NumberedCore) → IsUnderWay time image end number core port → TakesOwn time image end number count port port_after core after
      → IsUnderWay time image end number after port_after
  still_under count port port_after core after u takes = record {
    most = u.most;
    first = u.first;
    turns = u.turns ++ replicate count number;
    cores = slice_set u.cores number after;
    here = get_set u.cores number core after u.here;
    taken = takes u.most u.first u.turns u.cores u.here u.taken;
  }

  -- the core on its way
  pub own_way : (most : ℕ) (first : BoundState ShardWorld) (turns : List ℕ) (cores : List NumberedCore) (port : LoggedPortState) (core : NumberedCore)
      → (h : HaveTaken time image end most first turns cores port) → slice_get cores number ≡ Some core → IsOnItsWay end (base_of port.world) (size_of port.world) (l1i_of port.world) (left_of h number) core
  own_way most first turns cores port core h here =
      let within = slice_get_within cores number core here in
      let count = h.count in
      h.each number (left_of h number) core (slice_get-get_or h.left number 0 (omega (arith, within, count))) here

  -- a turn took one or none: the port has as many entries more
  pub turn_takes : end ≤ 10 * 2 ^ 30 → (port port_after : LoggedPortState) (core after : NumberedCore) (took : Bool) → (took ≡ true → (e : Entry) × TakesAccess time image end (chosen port number) port_after core after e)
      → (took ≡ false → TakesNone image end (chosen port number) port_after core after)
      → TakesOwn time image end number (length port_after.entries - length port.entries) port port_after core after
  turn_takes small port port_after core after true some none =
      let t = some refl in
      let one : 1 ≡ length port_after.entries - length port.entries = omega (arith, ap length t.1.logged, length-append port.entries (t.0 ∷ [])) in
      subst (λ (n : ℕ). TakesOwn time image end number n port port_after core after) one (access_takes small port port_after core after t.0 t.1)
  turn_takes small port port_after core after false some none =
      let zero_more : 0 ≡ length port_after.entries - length port.entries = omega (arith, ap (λ (p : LoggedPortState). length p.entries) (none refl).ends.same) in
      subst (λ (n : ℕ). TakesOwn time image end number n port port_after core after) zero_more (over_takes port port_after core after (none refl))

  pub turn_tells : (port port_after : LoggedPortState) (core after : NumberedCore) (took : Bool) (legs legs_after : List Leg) (steps steps_after : List Step) → core.number ≡ number
      → (took ≡ true → (e : Entry) × TakesAccess time image end (chosen port number) port_after core after e) → (took ≡ false → TakesNone image end (chosen port number) port_after core after)
      → (took ≡ true → steps_after ≡ steps ++ (untold_steps number legs ++ turn_steps shards_serve leaves_shards image end port.world number core.timed)) → (took ≡ true → legs_after ≡ [])
      → (took ≡ false → steps_after ≡ steps) → (took ≡ false → untold_steps number legs_after ≡ untold_steps number legs ++ steps_alone image end number core.timed) → All FitsLeg legs_after
      → TellsOwn time image end number (length port_after.entries - length port.entries) port port_after core.timed after.timed legs legs_after steps steps_after
  turn_tells port port_after core after true legs legs_after steps steps_after own some none told emptied silent held fits =
      let t = some refl in
      let one : 1 ≡ length port_after.entries - length port.entries = omega (arith, ap length t.1.logged, length-append port.entries (t.0 ∷ [])) in
      subst (λ (n : ℕ). TellsOwn time image end number n port port_after core.timed after.timed legs legs_after steps steps_after) one
      (subst (λ (ls : List Leg). TellsOwn time image end number 1 port port_after core.timed after.timed legs ls steps steps_after) (sym (emptied refl))
      (access_tells (chosen port number) port_after core after t.0 legs steps steps_after own t.1 (told refl)))
  turn_tells port port_after core after false legs legs_after steps steps_after own some none told emptied silent held fits =
      let zero_more : 0 ≡ length port_after.entries - length port.entries = omega (arith, ap (λ (p : LoggedPortState). length p.entries) (none refl).ends.same) in
      subst (λ (n : ℕ). TellsOwn time image end number n port port_after core.timed after.timed legs legs_after steps steps_after) zero_more
      (over_tells (chosen port number) port_after core after legs legs_after steps steps_after (none refl) (silent refl) (held refl) fits)

  -- and has not fewer
  pub turn_grows : (port port_after : LoggedPortState) (core after : NumberedCore) (took : Bool) → (took ≡ true → (e : Entry) × TakesAccess time image end (chosen port number) port_after core after e)
      → (took ≡ false → TakesNone image end (chosen port number) port_after core after) → length port.entries ≤ length port_after.entries
  turn_grows port port_after core after true some none = let t = some refl in omega (arith, ap length t.1.logged, length-append port.entries (t.0 ∷ []))
  turn_grows port port_after core after false some none = omega (arith, ap (λ (p : LoggedPortState). length p.entries) (none refl).ends.same)

  -- its core has the same number
  pub turn_number : (port port_after : LoggedPortState) (core after : NumberedCore) (took : Bool) → (took ≡ true → (e : Entry) × TakesAccess time image end (chosen port number) port_after core after e)
      → (took ≡ false → TakesNone image end (chosen port number) port_after core after) → after.number ≡ core.number
  turn_number port port_after core after true some none = (some refl).1.number
  turn_number port port_after core after false some none = (none refl).number
