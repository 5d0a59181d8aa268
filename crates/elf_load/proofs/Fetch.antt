-- Where segments are apart, one that has a word is the only one.
use Rattle.std.proofs.Common.{◌≡◌, ℕ, zero, suc, ◌+◌, ◌<◌, ◌≤◌, nat_le, true, false, ◌&&◌, List, [], ◌∷◌, length, get_or, Some, ap, ◌∙◌, sym, subst, arith}
use Rattle.std.specs.List.{list_any}
use Rattle.std.proofs.lemmas.Bool.{and_parts, leb-true, lt-ltb, not-true, both_ways, cond-false, cond-true, false_from_ne_true}
use Rattle.elf_load.specs.declared.segment.Segment.{Segment}
use Rattle.elf_load.specs.MemoryImage.{covers, word_in, fetched_word}
use Rattle.elf_load.specs.SoundImage.{do_overlap, are_apart}
use Rattle.elf_load.proofs.Lists.{passed_over}

-- two segments that have four bytes overlap
covers-overlap : (s t : Segment) (pc : ℕ) → covers s pc 4 ≡ true → covers t pc 4 ≡ true → do_overlap s t ≡ true
unfolding do_overlap
covers-overlap s t pc h k =
    let a : s.vaddr ≤ pc = leb-true s.vaddr pc (and_parts _ _ h).0 in
    let b : pc + 4 ≤ s.vaddr + s.memsz = leb-true (pc + 4) (s.vaddr + s.memsz) (and_parts (nat_le s.vaddr pc) (nat_le (pc + 4) (s.vaddr + s.memsz)) h).1 in
    let c : t.vaddr ≤ pc = leb-true t.vaddr pc (and_parts _ _ k).0 in
    let d : pc + 4 ≤ t.vaddr + t.memsz = leb-true (pc + 4) (t.vaddr + t.memsz) (and_parts (nat_le t.vaddr pc) (nat_le (pc + 4) (t.vaddr + t.memsz)) k).1 in
    lt-ltb _ _ (omega arith)

-- the segment at a place has the word, so it is the one that is fetched
fetched-at : (ss : List Segment) (pc k : ℕ) (d : Segment) → are_apart ss ≡ true → k < length ss → ((get_or ss k d).exec && covers (get_or ss k d) pc 4) ≡ true → fetched_word ss pc ≡ Some (word_in (get_or ss k d) pc)
fetched-at [] pc k d a l h = absurd (omega arith)
fetched-at (s ∷ ss) pc zero d a l h = cond-true _ _ _ h
fetched-at (s ∷ ss) pc (suc k) d a l h =
    let apart = and_parts _ _ a in
    let others : list_any (do_overlap s) ss ≡ false = not-true _ apart.0 in
    let below : k < length ss = omega arith in
    let never : do_overlap s (get_or ss k d) ≡ false = passed_over (do_overlap s) ss k d others below in
    let miss : (s.exec && covers s pc 4) ≡ false =
    false_from_ne_true _ (λ e. both_ways _ never (covers-overlap s (get_or ss k d) pc (and_parts _ _ e).1 (and_parts _ _ h).1)) in
    cond-false _ _ _ miss ∙ fetched-at ss pc k d apart.1 below h

pub fetched_near : (ss : List Segment) (pc k : ℕ) (s : Segment) → are_apart ss ≡ true → k < length ss → s ≡ get_or ss k s → (s.exec && covers s pc 4) ≡ true → fetched_word ss pc ≡ Some (word_in s pc)
fetched_near ss pc k s a l e h =
    let hit = subst (λ t. (t.exec && covers t pc 4) ≡ true) e h in
    fetched-at ss pc k s a l hit ∙ ap (λ t. Some (word_in t pc)) (sym e)
