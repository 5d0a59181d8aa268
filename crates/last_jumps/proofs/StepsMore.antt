-- What is kept of each core after one step more.
use Rattle.std.proofs.Common.{◌≡◌, ℕ, zero, suc, ◌+◌, ◌*◌, ◌≤◌, ◌^◌, ◌==◌, Bool, true, false, List, [], ◌∷◌, ◌++◌, if◌then◌else◌, refl, sym, ◌∙◌, ap, append-nil, append_assoc, arith}
use Rattle.zs_num.specs.declared.entry.Entry.{Entry}
use Rattle.shard.specs.declared.leaving.Leaving.{Leaving}
use Rattle.stats.specs.Counts.{Interval}
use Rattle.trace.specs.Trace.{Accessed, Ended, Executed, Step, stretch_steps}
use Rattle.last_jumps.specs.Jumps.{executed_by}
use Rattle.last_jumps.specs.Kept.{AreKept, Kept, kept_at, kept_of, with_one_more, with_stretch}
use Rattle.last_jumps.proofs.OneMore.{kept_more, stretch_from_next}

executed_more : (core : ℕ) (steps : List Step) (by pc : ℕ) → executed_by core (steps ++ Executed by pc ∷ []) ≡ (if by == core then executed_by core steps ++ pc ∷ [] else executed_by core steps)
executed_more core [] by pc = both (by == core)
  where
    both : (b : Bool) → (if b then pc ∷ [] else []) ≡ (if b then pc ∷ [] else [])
    both b = refl
executed_more core (Executed other at ∷ steps) by pc = cases (other == core) (by == core) (executed_more core steps by pc)
  where
    cases : (b c : Bool) → executed_by core (steps ++ Executed by pc ∷ []) ≡ (if c then executed_by core steps ++ pc ∷ [] else executed_by core steps)
        → (if b then at ∷ executed_by core (steps ++ Executed by pc ∷ []) else executed_by core (steps ++ Executed by pc ∷ []))
        ≡ (if c then (if b then at ∷ executed_by core steps else executed_by core steps) ++ pc ∷ [] else (if b then at ∷ executed_by core steps else executed_by core steps))
    cases true true is = ap (λ (pcs : List ℕ). at ∷ pcs) is
    cases true false is = ap (λ (pcs : List ℕ). at ∷ pcs) is
    cases false true is = is
    cases false false is = is
executed_more core (Accessed at e leaving ∷ steps) by pc = executed_more core steps by pc
executed_more core (Ended interval ∷ steps) by pc = executed_more core steps by pc

pub executed_same_accessed : (core : ℕ) (steps : List Step) (pc : ℕ) (e : Entry) (leaving : Leaving) → executed_by core (steps ++ Accessed pc e leaving ∷ []) ≡ executed_by core steps
executed_same_accessed core [] pc e leaving = refl
executed_same_accessed core (Executed other at ∷ steps) pc e leaving =
    ap (λ (pcs : List ℕ). if other == core then at ∷ pcs else pcs) (executed_same_accessed core steps pc e leaving)
executed_same_accessed core (Accessed at f left ∷ steps) pc e leaving = executed_same_accessed core steps pc e leaving
executed_same_accessed core (Ended interval ∷ steps) pc e leaving = executed_same_accessed core steps pc e leaving

pub executed_same_ended : (core : ℕ) (steps : List Step) (i : Interval) → executed_by core (steps ++ Ended i ∷ []) ≡ executed_by core steps
executed_same_ended core [] i = refl
executed_same_ended core (Executed other at ∷ steps) i = ap (λ (pcs : List ℕ). if other == core then at ∷ pcs else pcs) (executed_same_ended core steps i)
executed_same_ended core (Accessed at f left ∷ steps) i = executed_same_ended core steps i
executed_same_ended core (Ended interval ∷ steps) i = executed_same_ended core steps i

pub kept_accessed : (steps : List Step) (cores : List Kept) (pc : ℕ) (e : Entry) (leaving : Leaving) → AreKept steps cores → AreKept (steps ++ Accessed pc e leaving ∷ []) cores
kept_accessed steps cores pc e leaving kept core = kept core ∙ sym (ap kept_of (executed_same_accessed core steps pc e leaving))

pub kept_ended : (steps : List Step) (cores : List Kept) (i : Interval) → AreKept steps cores → AreKept (steps ++ Ended i ∷ []) cores
kept_ended steps cores i kept core = kept core ∙ sym (ap kept_of (executed_same_ended core steps i))

pub kept_executed : (steps : List Step) (old new : List Kept) (core pc : ℕ) → AreKept steps old
    → ((c : ℕ) → kept_at new c ≡ (if core == c then with_one_more pc (kept_at old c) else kept_at old c))
    → AreKept (steps ++ Executed core pc ∷ []) new
kept_executed steps old new core pc kept more c =
    more c ∙ by (core == c) ∙ sym (ap kept_of (executed_more c steps core pc))
  where
    by : (b : Bool) → (if b then with_one_more pc (kept_at old c) else kept_at old c) ≡ kept_of (if b then executed_by c steps ++ pc ∷ [] else executed_by c steps)
    by true = ap (λ (k : Kept). with_one_more pc k) (kept c) ∙ sym (kept_more (executed_by c steps) pc)
    by false = kept c

-- once a core executed instructions that follow each other
stretch_more : (c : ℕ) (steps : List Step) (core pc count : ℕ) → pc + 4 * count ≤ 2 ^ 48
    → kept_of (executed_by c (steps ++ stretch_steps core pc count)) ≡ (if core == c then with_stretch pc count (kept_of (executed_by c steps)) else kept_of (executed_by c steps))
stretch_more c steps core pc zero fits = ap (λ (all : List Step). kept_of (executed_by c all)) (append-nil steps) ∙ by (core == c)
  where
    by : (b : Bool) → kept_of (executed_by c steps) ≡ (if b then kept_of (executed_by c steps) else kept_of (executed_by c steps))
    by true = refl
    by false = refl
stretch_more c steps core pc (suc n) fits =
    ap (λ (all : List Step). kept_of (executed_by c all)) (sym (append_assoc steps (Executed core pc ∷ []) (stretch_steps core (pc + 4) n)))
    ∙ stretch_more c (steps ++ Executed core pc ∷ []) core (pc + 4) n (omega (arith, fits))
    ∙ ap (λ (pcs : List ℕ). if core == c then with_stretch (pc + 4) n (kept_of pcs) else kept_of pcs) (executed_more c steps core pc)
    ∙ by (core == c)
  where
    by : (b : Bool) → (if b then with_stretch (pc + 4) n (kept_of (if b then executed_by c steps ++ pc ∷ [] else executed_by c steps)) else kept_of (if b then executed_by c steps ++ pc ∷ [] else executed_by c steps))
        ≡ (if b then with_stretch pc (suc n) (kept_of (executed_by c steps)) else kept_of (executed_by c steps))
    by true = ap (λ (k : Kept). with_stretch (pc + 4) n k) (kept_more (executed_by c steps) pc) ∙ stretch_from_next pc n (kept_of (executed_by c steps)) fits
    by false = refl

pub kept_stretch : (steps : List Step) (old new : List Kept) (core pc count : ℕ) → pc + 4 * count ≤ 2 ^ 48 → AreKept steps old
    → ((c : ℕ) → kept_at new c ≡ (if core == c then with_stretch pc count (kept_at old c) else kept_at old c))
    → AreKept (steps ++ stretch_steps core pc count) new
kept_stretch steps old new core pc count fits kept more c =
    more c ∙ ap (λ (k : Kept). if core == c then with_stretch pc count k else k) (kept c) ∙ sym (stretch_more c steps core pc count fits)
