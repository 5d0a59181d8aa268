-- The bytes of each line after one step more.
use Rattle.std.proofs.Common.{◌≡◌, ℕ, zero, suc, ◌+◌, Bool, true, false, ◌||◌, List, [], ◌∷◌, ◌++◌, refl, sym, ◌∙◌, ap, subst, append-nil, append_assoc}
use Rattle.std.specs.List.{list_any}
use Rattle.std.proofs.lemmas.List.Folds.{list_any-append}
use Rattle.sparse_table.specs.Sparse.{Sparse}
use Rattle.sparse_table.specs.ByCore.{value_at}
use Rattle.zs_num.specs.declared.entry.Entry.{Entry}
use Rattle.shard.specs.declared.leaving.Leaving.{Leaving}
use Rattle.trace.specs.Trace.{Accessed, Executed, Step, stretch_steps}
use Rattle.line_use.specs.declared.line_bytes.LineBytes.{LineBytes}
use Rattle.line_use.specs.Bytes.{has_bit, reads, writes}
use Rattle.line_use.specs.Right.{AddsUse, IsRight, unused}
use Rattle.line_use.specs.Uses.{is_read, is_written, uses_byte}

pub or_comm : (a b : Bool) → (a || b) ≡ (b || a)
or_comm true true = refl
or_comm true false = refl
or_comm false true = refl
or_comm false false = refl

or_none : (a : Bool) → (a || false) ≡ a
or_none true = refl
or_none false = refl

-- a test of a list with one more at its end
any_more : (test : Step → Bool) (steps : List Step) (step : Step) → list_any test (steps ++ step ∷ []) ≡ (test step || list_any test steps)
any_more test steps step = list_any-append test steps (step ∷ []) ∙ ap (λ (b : Bool). list_any test steps || b) (or_none (test step)) ∙ or_comm (list_any test steps) (test step)

pub right_accessed : (steps : List Step) (old new : List (Sparse LineBytes)) (pc : ℕ) (e : Entry) (leaving : Leaving)
    → AddsUse e.core e.request (value_at unused old) (value_at unused new) → IsRight steps old → IsRight (steps ++ Accessed pc e leaving ∷ []) new
right_accessed steps old new pc e leaving adds right = record {
  read = λ core line i within.
      adds.read core line i within
      ∙ ap (λ (b : Bool). uses_byte reads core line i (Accessed pc e leaving) || b) (right.read core line i within)
      ∙ sym (any_more (uses_byte reads core line i) steps (Accessed pc e leaving));
  written = λ core line i within.
      adds.written core line i within
      ∙ ap (λ (b : Bool). uses_byte writes core line i (Accessed pc e leaving) || b) (right.written core line i within)
      ∙ sym (any_more (uses_byte writes core line i) steps (Accessed pc e leaving));
}

-- a step that is no access uses no byte
pub right_other : (steps : List Step) (step : Step) (tables : List (Sparse LineBytes))
    → ((core line i : ℕ) → uses_byte reads core line i step ≡ false) → ((core line i : ℕ) → uses_byte writes core line i step ≡ false)
    → IsRight steps tables → IsRight (steps ++ step ∷ []) tables
right_other steps step tables no_read no_write right = record {
  read = λ core line i within.
      right.read core line i within
      ∙ sym (any_more (uses_byte reads core line i) steps step ∙ ap (λ (b : Bool). b || is_read steps core line i) (no_read core line i));
  written = λ core line i within.
      right.written core line i within
      ∙ sym (any_more (uses_byte writes core line i) steps step ∙ ap (λ (b : Bool). b || is_written steps core line i) (no_write core line i));
}

-- nor do instructions that follow each other
pub right_stretch : (steps : List Step) (core pc count : ℕ) (tables : List (Sparse LineBytes)) → IsRight steps tables → IsRight (steps ++ stretch_steps core pc count) tables
right_stretch steps core pc zero tables right = subst (λ (all : List Step). IsRight all tables) (sym (append-nil steps)) right
right_stretch steps core pc (suc n) tables right =
    subst (λ (all : List Step). IsRight all tables) (append_assoc steps (Executed core pc ∷ []) (stretch_steps core (pc + 4) n))
    (right_stretch (steps ++ Executed core pc ∷ []) core (pc + 4) n tables (right_other steps (Executed core pc) tables (λ c line i. refl) (λ c line i. refl) right))

-- where the bytes of each line are the same
pub right_same : (steps : List Step) (old new : List (Sparse LineBytes)) → ((c n : ℕ) → value_at unused new c n ≡ value_at unused old c n) → IsRight steps old → IsRight steps new
right_same steps old new same right = record {
  read = λ core line i within. ap (λ (b : LineBytes). has_bit b.read i) (same core line) ∙ right.read core line i within;
  written = λ core line i within. ap (λ (b : LineBytes). has_bit b.written i) (same core line) ∙ right.written core line i within;
}
