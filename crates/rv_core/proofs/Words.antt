-- Where an image has a word: not where a core finds none, and in a sound image only in memory, as its segment is.
use Rattle.std.proofs.Common.{◌≡◌, ◌≤◌, ◌+◌, ◌⊎◌, inl, inr, ℕ, Bool, true, false, not, ◌&&◌, nat_le, List, [], ◌∷◌, Option, Some, None, arith, refl, sym, true≢false}
use Rattle.std.specs.Prelude.{is_some, if◌then◌else◌}
use Rattle.std.specs.List.{list_all}
use Rattle.std.proofs.lemmas.Bool.{and_from, and_parts, le-leb, leb-true}
use Rattle.zs_num.specs.Request.{line_at}
use Rattle.elf_load.specs.MemoryImage.{MemoryImage, covers, fetched_word, is_within}
use Rattle.elf_load.specs.SoundImage.{is_placed}
use Rattle.elf_load.specs.declared.segment.Segment.{Segment}
use Rattle.rv_core.specs.Accesses.{is_in_memory}
use Rattle.rv_decode.specs.declared.inst.Inst.{Inst}
use Rattle.rv_decode.specs.InstructionTable.{decoded}
use Rattle.rv_core.specs.declared.program.Fetched.{Fetched}
use Rattle.rv_core.specs.declared.program.Fetched.TheVariants.{Outside, NoInstruction, Instruction}
use Rattle.rv_core.specs.Fetch.{fetched_at, of_decoded, of_word}
use Rattle.rv_core.specs.Laws.{FetchesWhereAWordIs}
use Rattle.rv_core.specs.Step.{is_latest, needs_fetch}

-- ---- where a core finds none

of_decoded-inside : (word : ℕ) (inst : Option Inst) → of_decoded word inst ≡ Outside → ⊥
of_decoded-inside word None e = cc
of_decoded-inside word (Some inst) e = cc

none-outside : (word : Option ℕ) → of_word word ≡ Outside → is_some word ≡ false
none-outside None e = refl
none-outside (Some word) e = absurd (of_decoded-inside word (decoded word) e)

some-inside : (word : Option ℕ) → (of_word word ≡ Outside → ⊥) → is_some word ≡ true
some-inside None inside = absurd (inside refl)
some-inside (Some word) inside = refl

pub no-word-outside : (image : MemoryImage) (pc : ℕ) → fetched_at image pc ≡ Outside → is_some (fetched_word image.segments pc) ≡ false
unfolding fetched_at
no-word-outside image pc e = none-outside (fetched_word image.segments pc) e

pub a-word-inside : (image : MemoryImage) (pc : ℕ) → (fetched_at image pc ≡ Outside → ⊥) → is_some (fetched_word image.segments pc) ≡ true
unfolding fetched_at
a-word-inside image pc inside = some-inside (fetched_word image.segments pc) inside

instruction-inside : (fetched : Fetched) (inst : Inst) → fetched ≡ Instruction inst → fetched ≡ Outside → ⊥
instruction-inside Outside inst e outside = cc
instruction-inside (NoInstruction word) inst e outside = cc
instruction-inside (Instruction other) inst e outside = cc

-- where the program has an instruction there is a word
pub an-instruction-inside : (image : MemoryImage) (pc : ℕ) (inst : Inst) → fetched_at image pc ≡ Instruction inst → is_some (fetched_word image.segments pc) ≡ true
an-instruction-inside image pc inst e = a-word-inside image pc (instruction-inside (fetched_at image pc) inst e)

-- ---- in a sound image

record IsInside (start count base size : ℕ) : Type 0 where
  begins : base ≤ start
  ends : start + count ≤ base + size

inside-of : (start count base size : ℕ) → is_within start count base size ≡ true → IsInside start count base size
inside-of start count base size e =
    let both = and_parts (nat_le base start) (nat_le (start + count) (base + size)) e in
    record { begins = leb-true _ _ both.0; ends = leb-true _ _ both.1 }

placed-inside : (base size : ℕ) (segment : Segment) → is_placed base size segment ≡ true → IsInside segment.vaddr segment.memsz base size
unfolding is_placed
placed-inside base size segment e =
    inside-of segment.vaddr segment.memsz base size (and_parts _ (is_within segment.vaddr segment.memsz base size) e).1

-- the word of this segment, or of one behind it
found-in : (here : Bool) (word : ℕ) (behind : Option ℕ) → is_some (if here then Some word else behind) ≡ true → (here ≡ true) ⊎ (is_some behind ≡ true)
found-in true word behind e = inl refl
found-in false word behind e = inr e

word-inside : (base size pc : ℕ) (segments : List Segment) → list_all (is_placed base size) segments ≡ true → is_some (fetched_word segments pc) ≡ true → IsInside pc 4 base size
word-inside base size pc [] placed some = absurd (true≢false (sym some))
word-inside base size pc (segment ∷ segments) placed some =
    let each = and_parts (is_placed base size segment) (list_all (is_placed base size) segments) placed in
    elim (found-in (segment.exec && covers segment pc 4) _ (fetched_word segments pc) some) [
      | inl here ↦ (
          let covered = inside-of pc 4 segment.vaddr segment.memsz (and_parts segment.exec (covers segment pc 4) here).1 in
          let inside = placed-inside base size segment each.0 in
          record { begins = omega (arith, covered.begins, inside.begins); ends = omega (arith, covered.ends, inside.ends) })
      | inr behind ↦ word-inside base size pc segments each.1 behind
    ]

-- a test that another implies
implied : (test other : Bool) → (test ≡ true → other ≡ true) → (test && other) ≡ test
implied true other e = e refl
implied false other e = refl

pub fetches-where-a-word-is : FetchesWhereAWordIs
unfolding needs_fetch
fetches-where-a-word-is image core sound base size =
    implied (core.fetching && not (is_latest core.fetched_line (line_at core.pc)) && is_some (fetched_word image.segments core.pc)) (is_in_memory core.memory core.pc 4)
    (λ e. let some = (and_parts _ (is_some (fetched_word image.segments core.pc)) e).1 in
    let inside = word-inside image.base image.size core.pc image.segments sound.placed some in
    and_from _ _ (le-leb core.memory.base core.pc (omega (arith, base, inside.begins)))
    (le-leb (core.pc + 4) (core.memory.base + core.memory.size) (omega (arith, base, size, inside.ends))))
