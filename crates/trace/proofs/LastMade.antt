-- What is told up to the last access of a way, and what behind it.
use Rattle.std.proofs.Common.{◌≡◌, ℕ, zero, suc, ◌+◌, ◌-◌, ◌*◌, ◌<◌, ◌≤◌, true, false, drop, List, [], ◌∷◌, ◌++◌, length, take, append-nil, append_assoc, refl, sym, ◌∙◌, ap, subst, inl, inr, arith}
use Rattle.std.specs.Prelude.{⊤, if◌then◌else◌, replicate, slice_get, Some}
use Rattle.std.proofs.lemmas.Bool.{cases_Bool}
use Rattle.std.proofs.lemmas.List.{take-append-drop}
use Rattle.std.proofs.lemmas.List.Concat.{flat_map-append}
use Rattle.zs_num.specs.declared.entry.Entry.{Entry}
use Rattle.elf_load.specs.MemoryImage.{MemoryImage}
use Rattle.rv_core.specs.declared.leg.Leg.{Leg}
use Rattle.rv_core.specs.Told.{Made, Ran, Told, leg_told, stretch_told, told_of}
use Rattle.reference.specs.TimedCore.{TimedCore, after_instruction, core_after_access, goes_on_alone, ran_to}
use Rattle.bound_core.specs.ToldTurns.{TellsTurns, behind_turns, told_alone, told_by_turns, told_next}
use Rattle.trace.proofs.WayTold.{leg_more}

-- ---- lists of what is told

-- instructions alone
abbrev pub AllRan : List Told → Type 0
AllRan [] = ⊤
AllRan (Ran pc ∷ told) = AllRan told
AllRan (Made pc ∷ told) = ⊥

abbrev pub IsMade : Told → Type 0
IsMade (Ran pc) = ⊥
IsMade (Made pc) = ⊤

-- an access comes last
abbrev pub EndsBehind : Told → List Told → Type 0
EndsBehind t [] = IsMade t
EndsBehind t (u ∷ told) = EndsBehind u told

abbrev pub Ends : List Told → Type 0
Ends [] = ⊥
Ends (t ∷ told) = EndsBehind t told

ran_both : (xs ys : List Told) → AllRan xs → AllRan ys → AllRan (xs ++ ys)
ran_both [] ys one other = other
ran_both (Ran pc ∷ xs) ys one other = ran_both xs ys one other
ran_both (Made pc ∷ xs) ys one other = absurd one

ends_more : (t : Told) (xs : List Told) → Ends xs → EndsBehind t xs
ends_more t [] ends = absurd ends
ends_more t (u ∷ xs) ends = ends

ends_behind : (xs ys : List Told) → Ends ys → Ends (xs ++ ys)
ends_behind [] ys ends = ends
ends_behind (t ∷ xs) ys ends = ends_more t (xs ++ ys) (ends_behind xs ys ends)

-- instructions alone do not end with an access
not_ran : (t : Told) (us vs : List Told) → EndsBehind t us → AllRan (t ∷ (us ++ vs)) → ⊥
not_ran (Ran pc) [] vs ends ran = ends
not_ran (Made pc) [] vs ends ran = ran
not_ran (Ran pc) (u ∷ us) vs ends ran = not_ran u us vs ends ran
not_ran (Made pc) (u ∷ us) vs ends ran = ran

not_ended : (us vs : List Told) → Ends us → AllRan (us ++ vs) → ⊥
not_ended [] vs ends ran = ends
not_ended (t ∷ us) vs ends ran = not_ran t us vs ends ran

-- where two parts that end with an access are followed by instructions alone, the parts are the same
same_parts : (x : Told) (xs ys : List Told) (u : Told) (us vs : List Told) → EndsBehind x xs → AllRan ys → EndsBehind u us → AllRan vs → x ∷ (xs ++ ys) ≡ u ∷ (us ++ vs)
    → (x ∷ xs ≡ u ∷ us) × (ys ≡ vs)
same_parts x [] ys u [] vs one ran other on is = (let head : x ≡ u = cc in ap (λ t. t ∷ []) head, cc)
same_parts x [] ys u (w ∷ us) vs one ran other on is = absurd (not_ran w us vs other (subst AllRan (let tail : ys ≡ w ∷ (us ++ vs) = cc in tail) ran))
same_parts x (y ∷ xs) ys u [] vs one ran other on is = absurd (not_ran y xs ys one (subst AllRan (let tail : vs ≡ y ∷ (xs ++ ys) = cc in tail) on))
same_parts x (y ∷ xs) ys u (w ∷ us) vs one ran other on is =
    let rest = same_parts y xs ys w us vs one ran other on (let tail : y ∷ (xs ++ ys) ≡ w ∷ (us ++ vs) = cc in tail) in
    let head : x ≡ u = cc in
    (ap (λ t. t ∷ (y ∷ xs)) head ∙ ap (λ ts. u ∷ ts) rest.0, rest.1)

pub parts : (xs ys us vs : List Told) → Ends xs → AllRan ys → Ends us → AllRan vs → xs ++ ys ≡ us ++ vs → (xs ≡ us) × (ys ≡ vs)
parts [] ys us vs one ran other on is = absurd one
parts (x ∷ xs) ys [] vs one ran other on is = absurd other
parts (x ∷ xs) ys (u ∷ us) vs one ran other on is = same_parts x xs ys u us vs one ran other on is

-- ---- legs

stretch_ran : (pc n : ℕ) → AllRan (stretch_told pc n)
stretch_ran pc zero = tt
stretch_ran pc (suc n) = stretch_ran (pc + 4) n

leg_ran : (leg : Leg) → leg.made ≡ false → AllRan (leg_told leg)
leg_ran leg none =
    subst (λ b. AllRan (stretch_told leg.pc leg.count ++ (if b then Made (leg.pc + 4 * (leg.count - 1)) ∷ [] else []))) (sym none)
    (ran_both (stretch_told leg.pc leg.count) [] (stretch_ran leg.pc leg.count) tt)

leg_ends : (leg : Leg) → leg.made ≡ true → Ends (leg_told leg)
leg_ends leg made =
    subst (λ b. Ends (stretch_told leg.pc leg.count ++ (if b then Made (leg.pc + 4 * (leg.count - 1)) ∷ [] else []))) (sym made)
    (ends_behind (stretch_told leg.pc leg.count) (Made (leg.pc + 4 * (leg.count - 1)) ∷ []) tt)

-- legs behind the last one with an access
pub legs_ran : (made : ℕ) (way : List Leg) → ((i : ℕ) (leg : Leg) → made ≤ i → slice_get way i ≡ Some leg → leg.made ≡ false) → AllRan (told_of (drop made way))
legs_ran zero [] none = tt
legs_ran (suc made) [] none = tt
legs_ran zero (leg ∷ way) none =
    subst AllRan (sym (leg_more 0 leg way))
    (ran_both (leg_told leg) (told_of way) (leg_ran leg (none 0 leg (omega arith) refl)) (legs_ran zero way (λ i other above found. none (suc i) other (omega arith) found)))
legs_ran (suc made) (leg ∷ way) none = legs_ran made way (λ i other above found. none (suc i) other (omega (arith, above)) found)

-- those up to it
pub legs_end : (made : ℕ) (way : List Leg) → suc made ≤ length way → ((leg : Leg) → slice_get way made ≡ Some leg → leg.made ≡ true) → Ends (told_of (take (suc made) way))
legs_end made [] within last = absurd (omega (arith, within))
legs_end zero (leg ∷ way) within last =
    subst Ends (sym (leg_more 0 leg [])) (subst Ends (sym (append-nil (leg_told leg))) (leg_ends leg (last leg refl)))
legs_end (suc made) (leg ∷ way) within last =
    subst Ends (sym (leg_more 0 leg (take (suc made) way))) (ends_behind (leg_told leg) (told_of (take (suc made) way)) (legs_end made way (omega (arith, within)) last))

-- ---- turns

ran_more : (k pc : ℕ) (told : List Told) → AllRan told → AllRan (replicate k (Ran pc) ++ told)
ran_more zero pc told ran = ran
ran_more (suc k) pc told ran = ran_more k pc told ran

module _ (image : MemoryImage) (end : ℕ) where
  next_ran : (n : ℕ) (c : TimedCore) → AllRan (told_next image end n c)
  next_ran zero c = tt
  next_ran (suc n) c =
      let next : TimedCore = after_instruction image c in
      elim (cases_Bool (goes_on_alone end c)) as (λ _. AllRan (told_next image end (suc n) c)) [
        | inl on ↦ rw on (ran_more (next.instructions - c.instructions) c.core.pc (told_next image end n next) (next_ran n next))
        | inr off ↦ rw off tt
      ]

  pub alone_ran : (c : TimedCore) → AllRan (told_alone image end c)
  alone_ran c = next_ran (suc (end - c.clock)) c

  turns_last : (time : Entry → ℕ) (entries : List Entry) (pc : ℕ) (c : TimedCore) → EndsBehind (Made pc) (told_by_turns time image end entries c)
  turns_last time [] pc c = tt
  turns_last time (e ∷ entries) pc c =
      let ran : TimedCore = ran_to image end c in
      let behind : TimedCore = core_after_access time e ran in
      ends_more (Made pc) (told_by_turns time image end (e ∷ entries) c)
      (ends_behind (told_alone image end c) (Made ran.core.pc ∷ told_by_turns time image end entries behind) (turns_last time entries ran.core.pc behind))

  pub turns_end : (time : Entry → ℕ) (e : Entry) (entries : List Entry) (c : TimedCore) → Ends (told_by_turns time image end (e ∷ entries) c)
  turns_end time e entries c =
      let ran : TimedCore = ran_to image end c in
      let behind : TimedCore = core_after_access time e ran in
      ends_behind (told_alone image end c) (Made ran.core.pc ∷ told_by_turns time image end entries behind) (turns_last time entries ran.core.pc behind)

-- ---- a way

-- What is told of the turns is told up to the last access of their way, and what is told behind it is of the turn that
-- follows.
pub record IsCutAt (time : Entry → ℕ) (image : MemoryImage) (end made : ℕ) (way : List Leg) (entries : List Entry) (before after : TimedCore) : Type 0 where
  pub turns : told_of (take made way) ≡ told_by_turns time image end entries before
  pub behind : told_of (drop made way) ++ told_alone image end after ≡ told_alone image end (behind_turns time image end entries before)
  pub none : entries ≡ [] → 0 < made → ⊥
  pub some : 0 < length entries → made ≡ 0 → ⊥

both_parts : (made : ℕ) (way : List Leg) → told_of way ≡ told_of (take made way) ++ told_of (drop made way)
both_parts made way = ap told_of (sym (take-append-drop made way)) ∙ flat_map-append leg_told (take made way) (drop made way)

last_at : (way : List Leg) (made : ℕ) → (0 < suc made → (leg : Leg) → slice_get way (suc made - 1) ≡ Some leg → leg.made ≡ true) → (leg : Leg) → slice_get way made ≡ Some leg → leg.made ≡ true
last_at way made last leg found =
    let one : made ≡ suc made - 1 = omega arith in
    last (omega arith) leg (subst (λ n. slice_get way n ≡ Some leg) one found)

module _ (time : Entry → ℕ) (image : MemoryImage) (end : ℕ) (way : List Leg) (before after : TimedCore) where
  pub cut_at : (made : ℕ) (entries : List Entry) → made ≤ length way → (0 < made → (leg : Leg) → slice_get way (made - 1) ≡ Some leg → leg.made ≡ true)
      → ((i : ℕ) (leg : Leg) → made ≤ i → slice_get way i ≡ Some leg → leg.made ≡ false) → TellsTurns time image end (told_of way) entries before after
      → IsCutAt time image end made way entries before after
  cut_at zero [] within last none tells = record { turns = refl; behind = tells; none = λ is some. omega (arith, some); some = λ some is. omega (arith, some) }
  cut_at zero (e ∷ entries) within last none tells =
      absurd (not_ended (told_by_turns time image end (e ∷ entries) before) (told_alone image end (behind_turns time image end (e ∷ entries) before)) (turns_end image end time e entries before)
      (subst AllRan tells (ran_both (told_of way) (told_alone image end after) (legs_ran zero way none) (alone_ran image end after))))
  cut_at (suc made) [] within last none tells =
      absurd (not_ended (told_of (take (suc made) way)) (told_of (drop (suc made) way) ++ told_alone image end after) (legs_end made way within (last_at way made last))
      (subst AllRan (sym tells ∙ ap (λ ts. ts ++ told_alone image end after) (both_parts (suc made) way) ∙ append_assoc (told_of (take (suc made) way)) (told_of (drop (suc made) way)) (told_alone image end after)) (alone_ran image end before)))
  cut_at (suc made) (e ∷ entries) within last none tells =
      let taken : List Told = told_of (take (suc made) way) in
      let rest : List Told = told_of (drop (suc made) way) ++ told_alone image end after in
      let turns : List Told = told_by_turns time image end (e ∷ entries) before in
      let behind : TimedCore = behind_turns time image end (e ∷ entries) before in
      let is : taken ++ rest ≡ turns ++ told_alone image end behind =
      sym (append_assoc taken (told_of (drop (suc made) way)) (told_alone image end after)) ∙ ap (λ ts. ts ++ told_alone image end after) (sym (both_parts (suc made) way)) ∙ tells
      in
      let same = parts taken rest turns (told_alone image end behind) (legs_end made way within (last_at way made last))
      (ran_both (told_of (drop (suc made) way)) (told_alone image end after) (legs_ran (suc made) way none) (alone_ran image end after))
      (turns_end image end time e entries before) (alone_ran image end behind) is
      in
      record { turns = same.0; behind = same.1; none = λ is some. let other : [] ≡ e ∷ entries = sym is in cc; some = λ some is. omega (arith, is) }
