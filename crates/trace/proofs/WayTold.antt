-- What is told of a way is what a core does by itself, with its accesses.
use Rattle.std.proofs.Common.{◌≡◌, ℕ, zero, suc, ◌+◌, ◌-◌, ◌*◌, ◌^◌, ◌<◌, ◌≤◌, true, false, List, [], ◌∷◌, ◌++◌, drop, get_or, length, All, append_assoc, refl, sym, ◌∙◌, ap, subst, inl, inr, arith}
use Rattle.std.specs.Prelude.{if◌then◌else◌, replicate}
use Rattle.std.proofs.lemmas.Bool.{cases_Bool}
use Rattle.std.proofs.lemmas.List.{append-nil, drop_all, drop_more}
use Rattle.std.proofs.lemmas.List.Concat.{flat_map-cons}
use Rattle.std.proofs.lemmas.List.Elements.{All-cons, All-nil}
use Rattle.zs_num.specs.declared.entry.Entry.{Entry}
use Rattle.elf_load.specs.MemoryImage.{MemoryImage}
use Rattle.rv_core.specs.declared.leg.Leg.{Leg}
use Rattle.rv_core.specs.Told.{Made, Ran, Told, leg_told, stretch_told, told_of}
use Rattle.reference.specs.TimedCore.{TimedCore, after_instruction, goes_on_alone}
use Rattle.bound_core.specs.ToldTurns.{told_alone, told_next}
use Rattle.trace.specs.Trace.{Accessed, Executed, Step, executed_by, local_steps, steps_alone, stretch_steps}
use Rattle.trace.specs.Ways.{FitsLeg, nothing_leaves, told_steps}
use Rattle.trace.proofs.Addresses.{ToldFits}

module _ (number : ℕ) where
  -- ---- instructions alone

  -- an instruction more, so many times
  ran_told : (n pc : ℕ) (rest : List Told) (entries : List Entry) → told_steps number (replicate n (Ran pc) ++ rest) entries ≡ replicate n (Executed number pc) ++ told_steps number rest entries
  ran_told zero pc rest entries = refl
  ran_told (suc n) pc rest entries = ap (λ (steps : List Step). Executed number pc ∷ steps) (ran_told n pc rest entries)

  module _ (image : MemoryImage) (end : ℕ) where
    -- what is told of a core by itself are its steps
    next_told : (n : ℕ) (c : TimedCore) (rest : List Told) (entries : List Entry) → told_steps number (told_next image end n c ++ rest) entries ≡ local_steps image end n number c ++ told_steps number rest entries
    next_told zero c rest entries = refl
    next_told (suc n) c rest entries =
        let next : TimedCore = after_instruction image c in
        let own : List Told = replicate (next.instructions - c.instructions) (Ran c.core.pc) in
        let whole : told_steps number ((own ++ told_next image end n next) ++ rest) entries ≡ (executed_by number c next ++ local_steps image end n number next) ++ told_steps number rest entries =
        ap (λ (told : List Told). told_steps number told entries) (append_assoc own (told_next image end n next) rest)
        ∙ (ran_told (next.instructions - c.instructions) c.core.pc (told_next image end n next ++ rest) entries
        ∙ (ap (λ (steps : List Step). executed_by number c next ++ steps) (next_told n next rest entries)
        ∙ sym (append_assoc (executed_by number c next) (local_steps image end n number next) (told_steps number rest entries))))
        in
        elim (cases_Bool (goes_on_alone end c)) as (λ _. told_steps number (told_next image end (suc n) c ++ rest) entries ≡ local_steps image end (suc n) number c ++ told_steps number rest entries) [
          | inl on ↦ rw on whole
          | inr off ↦ rw off refl
        ]

    pub alone_told : (c : TimedCore) (rest : List Told) (entries : List Entry) → told_steps number (told_alone image end c ++ rest) entries ≡ steps_alone image end number c ++ told_steps number rest entries
    alone_told c rest entries = next_told (suc (end - c.clock)) c rest entries

    -- behind anything else
    pub alone_behind : (told : List Told) (entries : List Entry) (c : TimedCore) → told_steps number (told ++ told_alone image end c) entries ≡ told_steps number told entries ++ steps_alone image end number c
    alone_behind [] entries c =
        ap (λ (told : List Told). told_steps number told entries) (sym (append-nil (told_alone image end c)))
        ∙ (alone_told c [] entries ∙ append-nil (steps_alone image end number c))
    alone_behind (Ran pc ∷ told) entries c = ap (λ (steps : List Step). Executed number pc ∷ steps) (alone_behind told entries c)
    alone_behind (Made pc ∷ told) [] c = alone_behind told [] c
    alone_behind (Made pc ∷ told) (e ∷ entries) c = ap (λ (steps : List Step). Accessed pc e nothing_leaves ∷ steps) (alone_behind told entries c)

  -- ---- legs

  stretch_steps_told : (pc n : ℕ) (rest : List Told) (entries : List Entry) → told_steps number (stretch_told pc n ++ rest) entries ≡ stretch_steps number pc n ++ told_steps number rest entries
  stretch_steps_told pc zero rest entries = refl
  stretch_steps_told pc (suc n) rest entries = ap (λ (steps : List Step). Executed number pc ∷ steps) (stretch_steps_told (pc + 4) n rest entries)

  -- where its last instruction is
  abbrev pub last_of : Leg → ℕ
  last_of leg = leg.pc + 4 * (leg.count - 1)

  pub leg_more : (leg : Leg) (legs : List Leg) → told_of (leg ∷ legs) ≡ leg_told leg ++ told_of legs
  leg_more leg legs = flat_map-cons leg_told leg legs

  -- a leg without an access
  pub plain_leg : (leg : Leg) (rest : List Told) (entries : List Entry) → leg.made ≡ false → told_steps number (leg_told leg ++ rest) entries ≡ stretch_steps number leg.pc leg.count ++ told_steps number rest entries
  plain_leg leg rest entries none =
      ap (λ b. told_steps number ((stretch_told leg.pc leg.count ++ (if b then Made (last_of leg) ∷ [] else [])) ++ rest) entries) none
      ∙ (ap (λ (told : List Told). told_steps number (told ++ rest) entries) (append-nil (stretch_told leg.pc leg.count)) ∙ stretch_steps_told leg.pc leg.count rest entries)

  made_told : (leg : Leg) (rest : List Told) (entries : List Entry) → leg.made ≡ true
      → told_steps number (leg_told leg ++ rest) entries ≡ stretch_steps number leg.pc leg.count ++ told_steps number (Made (last_of leg) ∷ rest) entries
  made_told leg rest entries made =
      ap (λ b. told_steps number ((stretch_told leg.pc leg.count ++ (if b then Made (last_of leg) ∷ [] else [])) ++ rest) entries) made
      ∙ (ap (λ (told : List Told). told_steps number told entries) (append_assoc (stretch_told leg.pc leg.count) (Made (last_of leg) ∷ []) rest)
      ∙ stretch_steps_told leg.pc leg.count (Made (last_of leg) ∷ rest) entries)

  -- one with an access that has no entry
  pub bare_leg : (leg : Leg) (rest : List Told) (entries : List Entry) → leg.made ≡ true → entries ≡ [] → told_steps number (leg_told leg ++ rest) entries ≡ stretch_steps number leg.pc leg.count ++ told_steps number rest entries
  bare_leg leg rest [] made none = made_told leg rest [] made
  bare_leg leg rest (e ∷ entries) made none = cc

  -- one with an access
  pub made_leg : (leg : Leg) (rest : List Told) (entries : List Entry) (e : Entry) (later : List Entry) → leg.made ≡ true → entries ≡ e ∷ later
      → told_steps number (leg_told leg ++ rest) entries ≡ (stretch_steps number leg.pc leg.count ++ Accessed (last_of leg) e nothing_leaves ∷ []) ++ told_steps number rest later
  made_leg leg rest entries e later made is =
      ap (told_steps number (leg_told leg ++ rest)) is
      ∙ (made_told leg rest (e ∷ later) made ∙ sym (append_assoc (stretch_steps number leg.pc leg.count) (Accessed (last_of leg) e nothing_leaves ∷ []) (told_steps number rest later)))

-- ---- legs that fit

pub all_left : {X : Type 0} (P : X → Type 0) (xs ys : List X) → All P (xs ++ ys) → All P xs
all_left P [] ys all = All-nil P
all_left P (x ∷ xs) ys all = All-cons P x xs (all 0 x (omega arith)) (all_left P xs ys (λ k d below. all (suc k) d (omega (arith, below))))

pub all_right : {X : Type 0} (P : X → Type 0) (xs ys : List X) → All P (xs ++ ys) → All P ys
all_right P [] ys all = all
all_right P (x ∷ xs) ys all = all_right P xs ys (λ k d below. all (suc k) d (omega (arith, below)))

-- the last instruction of some that follow each other fits
last_fits : (pc n : ℕ) → All ToldFits (stretch_told pc (suc n)) → pc + 4 * n < 2 ^ 64
last_fits pc zero all = let first : pc < 2 ^ 64 = all 0 (Ran pc) (omega arith) in omega (arith, first)
last_fits pc (suc n) all =
    let rest : pc + 4 + 4 * n < 2 ^ 64 = last_fits (pc + 4) n (λ k d below. all (suc k) d (omega (arith, below))) in
    omega (arith, rest)

fits_by : (pc count : ℕ) → All ToldFits (stretch_told pc count) → 0 < count → pc + 4 * (count - 1) < 2 ^ 64
fits_by pc zero all some = absurd (omega (arith, some))
fits_by pc (suc n) all some = let last = last_fits pc n all in omega (arith, last)

leg_fits : (leg : Leg) → All ToldFits (leg_told leg) → FitsLeg leg
leg_fits leg all = fits_by leg.pc leg.count (all_left ToldFits (stretch_told leg.pc leg.count) (if leg.made then Made (leg.pc + 4 * (leg.count - 1)) ∷ [] else []) all)

-- legs of instructions at addresses of 64 bits fit
pub legs_fit : (legs : List Leg) → All ToldFits (told_of legs) → All FitsLeg legs
legs_fit [] all = All-nil FitsLeg
legs_fit (leg ∷ legs) all =
    let both : All ToldFits (leg_told leg ++ told_of legs) = subst (All ToldFits) (leg_more 0 leg legs) all in
    All-cons FitsLeg leg legs (leg_fits leg (all_left ToldFits (leg_told leg) (told_of legs) both))
    (legs_fit legs (all_right ToldFits (leg_told leg) (told_of legs) both))

-- ---- a leg more of a way that is told

module _ (number : ℕ) (way : List Leg) (k : ℕ) (d : Leg) (within : k < length way) (entries : List Entry) (place : ℕ) (now later whole : List Step) where
  abbrev leg : Leg
  leg = get_or way k d

  way_more : told_of (drop k way) ≡ leg_told leg ++ told_of (drop (k + 1) way)
  way_more = ap told_of (drop_more way k d within) ∙ leg_more number leg (drop (k + 1) way)

  module _ (was : now ++ told_steps number (told_of (drop k way)) (drop place entries) ≡ whole) where
    -- it gives these steps, and leaves these entries
    by_leg : (own : List Step) (left : List Entry)
        → told_steps number (leg_told leg ++ told_of (drop (k + 1) way)) (drop place entries) ≡ own ++ told_steps number (told_of (drop (k + 1) way)) left
        → later ≡ now ++ own → later ++ told_steps number (told_of (drop (k + 1) way)) left ≡ whole
    by_leg own left is more =
        ap (λ (steps : List Step). steps ++ told_steps number (told_of (drop (k + 1) way)) left) more
        ∙ (append_assoc now own (told_steps number (told_of (drop (k + 1) way)) left)
        ∙ (ap (λ (steps : List Step). now ++ steps) (sym is ∙ ap (λ (told : List Told). told_steps number told (drop place entries)) (sym way_more)) ∙ was))

    pub plain_more : leg.made ≡ false → later ≡ now ++ stretch_steps number leg.pc leg.count → later ++ told_steps number (told_of (drop (k + 1) way)) (drop place entries) ≡ whole
    plain_more none more = by_leg (stretch_steps number leg.pc leg.count) (drop place entries) (plain_leg number leg (told_of (drop (k + 1) way)) (drop place entries) none) more

    pub bare_more : leg.made ≡ true → length entries ≤ place → later ≡ now ++ stretch_steps number leg.pc leg.count → later ++ told_steps number (told_of (drop (k + 1) way)) (drop place entries) ≡ whole
    bare_more made past more =
        by_leg (stretch_steps number leg.pc leg.count) (drop place entries) (bare_leg number leg (told_of (drop (k + 1) way)) (drop place entries) made (drop_all place entries past)) more

    pub made_more : (e : Entry) (between : List Step) → leg.made ≡ true → place < length entries
        → between ≡ now ++ stretch_steps number leg.pc leg.count → later ≡ between ++ Accessed (last_of number leg) (get_or entries place e) nothing_leaves ∷ []
        → later ++ told_steps number (told_of (drop (k + 1) way)) (drop (place + 1) entries) ≡ whole
    made_more e between made there ran more =
        let own = stretch_steps number leg.pc leg.count in
        let access : List Step = Accessed (last_of number leg) (get_or entries place e) nothing_leaves ∷ [] in
        by_leg (own ++ access) (drop (place + 1) entries)
        (made_leg number leg (told_of (drop (k + 1) way)) (drop place entries) (get_or entries place e) (drop (place + 1) entries) made (drop_more entries place e there))
        (more ∙ (ap (λ (steps : List Step). steps ++ access) ran ∙ append_assoc now own access))
