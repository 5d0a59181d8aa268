-- What steps tell, by parts, and what a core's own steps tell.
use Rattle.std.proofs.Common.{◌≡◌, ◌≢◌, ℕ, zero, suc, ◌+◌, ◌-◌, ◌≤◌, Bool, true, false, cond, List, [], ◌∷◌, ◌++◌, Option, Some, refl, ◌∙◌, ap, inl, inr, arith}
use Rattle.std.specs.Prelude.{if◌then◌else◌, replicate, slice_get, slice_set, sum_by}
use Rattle.std.specs.Option.{option_map_or}
use Rattle.std.proofs.lemmas.Bool.{cases_Bool, eq-eqb, ne_eqb}
use Rattle.std.proofs.lemmas.List.Sums.{sum_by-append, sum_by-cons}
use Rattle.zs_num.specs.declared.entry.Entry.{Entry}
use Rattle.elf_load.specs.MemoryImage.{MemoryImage}
use Rattle.stats.specs.Counts.{Interval}
use Rattle.reference.specs.TimedCore.{TimedCore, after_execution, after_instruction, after_instructions, goes_on_alone, ran_to}
use Rattle.trace.specs.Told.{accessed_in, all_instructions_of, ended_in, instructions_of, is_instruction, is_instruction_of}
use Rattle.trace.specs.Trace.{Accessed, Ended, Executed, Step, executed_by, local_steps, steps_alone}

-- ---- by parts

pub ended-append : (xs ys : List Step) → ended_in (xs ++ ys) ≡ ended_in xs ++ ended_in ys
ended-append [] ys = refl
ended-append (Executed core pc ∷ xs) ys = ended-append xs ys
ended-append (Accessed pc e leaving ∷ xs) ys = ended-append xs ys
ended-append (Ended interval ∷ xs) ys = ap (λ (is : List Interval). interval ∷ is) (ended-append xs ys)

pub accessed-append : (xs ys : List Step) → accessed_in (xs ++ ys) ≡ accessed_in xs ++ accessed_in ys
accessed-append [] ys = refl
accessed-append (Executed core pc ∷ xs) ys = accessed-append xs ys
accessed-append (Accessed pc e leaving ∷ xs) ys = ap (λ (es : List Entry). e ∷ es) (accessed-append xs ys)
accessed-append (Ended interval ∷ xs) ys = accessed-append xs ys

pub instructions-append : (i : ℕ) (xs ys : List Step) → instructions_of i (xs ++ ys) ≡ instructions_of i xs + instructions_of i ys
instructions-append i xs ys = sum_by-append (λ (x : Step). cond (is_instruction_of i x) 1 0) xs ys

pub all-append : (xs ys : List Step) → all_instructions_of (xs ++ ys) ≡ all_instructions_of xs + all_instructions_of ys
all-append xs ys = sum_by-append (λ (x : Step). cond (is_instruction x) 1 0) xs ys

-- ---- the instructions that a core counted

-- those that a core of a list counted; a core that is not there counted none
abbrev pub counted_at : List TimedCore → (i : ℕ) → ℕ
counted_at cores i = option_map_or (λ c. c.instructions) (slice_get cores i) 0

pub counted_here : (cores : List TimedCore) (i : ℕ) (c : TimedCore) → slice_get cores i ≡ Some c → counted_at cores i ≡ c.instructions
counted_here cores i c is = ap (λ (o : Option TimedCore). option_map_or (λ x. x.instructions) o 0) is

pub set_here : (cores : List TimedCore) (i : ℕ) (c after : TimedCore) → slice_get cores i ≡ Some c → counted_at (slice_set cores i after) i ≡ after.instructions
set_here [] i c after is = cc
set_here (x ∷ cores) zero c after is = refl
set_here (x ∷ cores) (suc i) c after is = set_here cores i c after is

pub set_elsewhere : (cores : List TimedCore) (number i : ℕ) (after : TimedCore) → number ≢ i → counted_at (slice_set cores number after) i ≡ counted_at cores i
set_elsewhere [] number i after apart = refl
set_elsewhere (x ∷ cores) zero zero after apart = absurd (apart refl)
set_elsewhere (x ∷ cores) zero (suc i) after apart = refl
set_elsewhere (x ∷ cores) (suc number) zero after apart = refl
set_elsewhere (x ∷ cores) (suc number) (suc i) after apart = set_elsewhere cores number i after (λ same. apart (ap suc same))

-- those that all cores of a list counted
abbrev pub counted_in : List TimedCore → ℕ
counted_in cores = sum_by (λ c. c.instructions) cores

pub set_among : (cores : List TimedCore) (i : ℕ) (c after : TimedCore) → slice_get cores i ≡ Some c → counted_in (slice_set cores i after) + c.instructions ≡ counted_in cores + after.instructions
set_among [] i c after is = cc
set_among (x ∷ cores) zero c after is =
    let same : x.instructions ≡ c.instructions = ap (λ (o : Option TimedCore). option_map_or (λ y. y.instructions) o 0) is in
    omega (arith, same, sum_by-cons (λ (y : TimedCore). y.instructions) after cores, sum_by-cons (λ (y : TimedCore). y.instructions) x cores)
set_among (x ∷ cores) (suc i) c after is =
    omega (arith, set_among cores i c after is, sum_by-cons (λ (y : TimedCore). y.instructions) x (slice_set cores i after), sum_by-cons (λ (y : TimedCore). y.instructions) x cores)

either_later : (asks : Bool) (c executed : TimedCore) (now : ℕ) → c.instructions ≡ now → now ≤ executed.instructions → now ≤ (if asks then c else executed).instructions
either_later true c executed now is more = omega (arith, is)
either_later false c executed now is more = more

pub not_fewer : (image : MemoryImage) (c : TimedCore) → c.instructions ≤ (after_instruction image c).instructions
unfolding after_instruction
not_fewer image c = either_later _ _ (after_execution image c) c.instructions refl (omega arith)

-- ---- a core by itself

module _ (number : ℕ) (pc : ℕ) where
  ended_many : (n : ℕ) → ended_in (replicate n (Executed number pc)) ≡ []
  ended_many zero = refl
  ended_many (suc n) = ended_many n

  accessed_many : (n : ℕ) → accessed_in (replicate n (Executed number pc)) ≡ []
  accessed_many zero = refl
  accessed_many (suc n) = accessed_many n

  own_many : (n : ℕ) → instructions_of number (replicate n (Executed number pc)) ≡ n
  own_many zero = refl
  own_many (suc n) =
      let one : instructions_of number (Executed number pc ∷ []) ≡ 1 = rw (eq-eqb number number refl) refl in
      omega (arith, one, own_many n, instructions-append number (Executed number pc ∷ []) (replicate n (Executed number pc)))

  other_many : (i : ℕ) → number ≢ i → (n : ℕ) → instructions_of i (replicate n (Executed number pc)) ≡ 0
  other_many i apart zero = refl
  other_many i apart (suc n) =
      let none : instructions_of i (Executed number pc ∷ []) ≡ 0 = rw (ne_eqb number i apart) refl in
      omega (arith, none, other_many i apart n, instructions-append i (Executed number pc ∷ []) (replicate n (Executed number pc)))

  all_many : (n : ℕ) → all_instructions_of (replicate n (Executed number pc)) ≡ n
  all_many zero = refl
  all_many (suc n) = omega (arith, all_many n, all-append (Executed number pc ∷ []) (replicate n (Executed number pc)))

module _ (image : MemoryImage) (end number : ℕ) where
  -- these steps tell nothing but instructions of the core
  pub record AreLocal (steps : List Step) (more : ℕ) : Type 0 where
    pub ended : ended_in steps ≡ []
    pub accesses : accessed_in steps ≡ []
    pub own : instructions_of number steps ≡ more
    pub others : (i : ℕ) → number ≢ i → instructions_of i steps ≡ 0
    pub all : all_instructions_of steps ≡ more

  one_local : (c : TimedCore) → AreLocal (executed_by number c (after_instruction image c)) ((after_instruction image c).instructions - c.instructions)
  one_local c =
      let n = (after_instruction image c).instructions - c.instructions in
      record {
        ended = ended_many number c.core.pc n;
        accesses = accessed_many number c.core.pc n;
        own = own_many number c.core.pc n;
        others = λ i apart. other_many number c.core.pc i apart n;
        all = all_many number c.core.pc n;
      }

  both_local : (xs ys : List Step) (n m k : ℕ) → AreLocal xs n → AreLocal ys m → n + m ≡ k → AreLocal (xs ++ ys) k
  both_local xs ys n m k one two is = record {
    ended = ended-append xs ys ∙ rw (one.ended, two.ended) refl;
    accesses = accessed-append xs ys ∙ rw (one.accesses, two.accesses) refl;
    own = omega (arith, instructions-append number xs ys, one.own, two.own, is);
    others = λ i apart. omega (arith, instructions-append i xs ys, one.others i apart, two.others i apart);
    all = omega (arith, all-append xs ys, one.all, two.all, is);
  }

  no_fewer : (n : ℕ) (c : TimedCore) → c.instructions ≤ (after_instructions n image end c).instructions
  no_fewer zero c = omega arith
  no_fewer (suc n) c =
      elim (cases_Bool (goes_on_alone end c)) as (λ _. c.instructions ≤ (after_instructions (suc n) image end c).instructions) [
        | inl on ↦ rw on (omega (arith, not_fewer image c, no_fewer n (after_instruction image c)))
        | inr off ↦ rw off (omega arith)
      ]

  are_local : (n : ℕ) (c : TimedCore) → AreLocal (local_steps image end n number c) ((after_instructions n image end c).instructions - c.instructions)
  are_local zero c = record { ended = refl; accesses = refl; own = omega arith; others = λ i apart. refl; all = omega arith }
  are_local (suc n) c =
      elim (cases_Bool (goes_on_alone end c)) as (λ _. AreLocal (local_steps image end (suc n) number c) ((after_instructions (suc n) image end c).instructions - c.instructions)) [
        | inl on ↦
            rw on (both_local _ _ _ _ _ (one_local c) (are_local n (after_instruction image c))
            (omega (arith, not_fewer image c, no_fewer n (after_instruction image c))))
        | inr off ↦ rw off (record { ended = refl; accesses = refl; own = omega arith; others = λ i apart. refl; all = omega arith })
      ]

  pub alone_local : (c : TimedCore) → AreLocal (steps_alone image end number c) ((ran_to image end c).instructions - c.instructions)
  alone_local c = are_local (suc (end - c.clock)) c

  pub alone_counts_all : (c : TimedCore) → c.instructions + all_instructions_of (steps_alone image end number c) ≡ (ran_to image end c).instructions
  alone_counts_all c = omega (arith, (alone_local c).all, no_fewer (suc (end - c.clock)) c)

  pub alone_counts : (c : TimedCore) → c.instructions + instructions_of number (steps_alone image end number c) ≡ (ran_to image end c).instructions
  alone_counts c = omega (arith, (alone_local c).own, no_fewer (suc (end - c.clock)) c)
