-- What writing some files, and then some more, came to.
use Rattle.std.proofs.Common.{◌≡◌, ◌⊎◌, ℕ, Bool, IsTrue, List, [], ◌∷◌, ◌++◌, Option, Result, Ok, Err, take, append_assoc, sym, ◌∙◌, ap, subst, inl, inr}
use Rattle.std.specs.Prelude.{IsErrAnd}
use Rattle.zs_host.specs.declared.fault.Fault.{Fault}
use Rattle.zs_host.specs.declared.files.FileFail.{FileFail}
use Rattle.zs_host.specs.declared.files.FileFail.TheVariants as fail
use Rattle.zs_host.specs.Faults.{Rose}
use Rattle.zsim.specs.Outputs.{HoldsWith, NamedFile, WereCut, WereWritten, held_with, named_file}
use Rattle.zsim.specs.Seen.{FilesSeen, NoFileFailed, files_seen}
use Rattle.zsim.specs.Steps.{Writes}
use Rattle.zsim.proofs.OutputsDone.{held_behind}

-- the first were cut short, so none of the others was written
abbrev cut_before : (files : FilesSeen) (first then : List NamedFile) → WereCut files first → WereCut files (first ++ then)
cut_before files first then short = record {
  done = short.done;
  cut = short.cut;
  rest = short.rest ++ then;
  are = ap (λ (fs : List NamedFile). fs ++ then) short.are ∙ append_assoc short.done (short.cut ∷ short.rest) then;
  held = short.held;
}

writes_before : (S T : Type 0) (e : FileFail) (files : FilesSeen) (first then : List NamedFile) → Writes {T = S} (Err e) first files → Writes {T = T} (Err e) (first ++ then) files
writes_before S T fail.NoMemory files first then writes = (writes.0, cut_before files first then writes.1)
writes_before S T fail.Failed files first then writes = record { short = cut_before files first then writes.short; failed = writes.failed }

-- the same where the fault is handed on
pub handed_on : (S T : Type 0) (e : FileFail) (r : Result T FileFail) (files : FilesSeen) (first then : List NamedFile) → IsErrAnd r (λ why. why ≡ e) → Writes {T = S} (Err e) first files → Writes r (first ++ then) files
handed_on S T e (Ok x) files first then is writes = absurd is
handed_on S T e (Err why) files first then is writes =
    subst (λ (f : FileFail). Writes {T = T} (Err f) (first ++ then) files) (sym is) (writes_before S T e files first then writes)

module _ {F : Type 0} (is_seen : Bool) (contents : F → List ℕ → Option (List ℕ)) (faults : F → ℕ) (latest : F → Option Fault) (before between after : F) where
  abbrev one : FilesSeen
  one = files_seen is_seen contents faults latest before between

  abbrev other : FilesSeen
  other = files_seen is_seen contents faults latest between after

  abbrev all : FilesSeen
  all = files_seen is_seen contents faults latest before after

  module _ (first : List NamedFile) (none : NoFileFailed one) (written : WereWritten one first) where
    holds_both : IsTrue is_seen → (then : List NamedFile) → HoldsWith other then → HoldsWith all (first ++ then)
    holds_both told then holds name =
        holds name ∙ ap (λ (held : Option (List ℕ)). held_with then held name) (written told name) ∙ sym (held_behind first then (contents before name) name)

    no_fault : NoFileFailed other → NoFileFailed all
    no_fault still = record { faults = still.faults ∙ none.faults; latest = still.latest ∙ none.latest }

    cut_there : IsTrue is_seen → (done : List NamedFile) (cut : NamedFile) → HoldsWith other done ⊎ ((n : ℕ) × HoldsWith other (done ++ named_file cut.name (take n cut.bytes) ∷ []))
        → HoldsWith all (first ++ done) ⊎ ((n : ℕ) × HoldsWith all ((first ++ done) ++ named_file cut.name (take n cut.bytes) ∷ []))
    cut_there told done cut (inl holds) = inl (holds_both told done holds)
    cut_there told done cut (inr (n, holds)) =
        let last = named_file cut.name (take n cut.bytes) ∷ [] in
        inr (n, subst (HoldsWith all) (sym (append_assoc first done last)) (holds_both told (done ++ last) holds))

    abbrev cut_behind : (then : List NamedFile) → WereCut other then → WereCut all (first ++ then)
    cut_behind then short = record {
      done = first ++ short.done;
      cut = short.cut;
      rest = short.rest;
      are = ap (λ (fs : List NamedFile). first ++ fs) short.are ∙ sym (append_assoc first short.done (short.cut ∷ short.rest));
      held = λ told. cut_there told short.done short.cut (short.held told);
    }

    pub writes_both : {T : Type 0} (r : Result T FileFail) (then : List NamedFile) → Writes r then other → Writes r (first ++ then) all
    writes_both (Ok x) then writes = (no_fault writes.0, λ told. holds_both told then (writes.1 told))
    writes_both (Err fail.NoMemory) then writes = (no_fault writes.0, cut_behind then writes.1)
    writes_both (Err fail.Failed) then writes = record {
      short = cut_behind then writes.short;
      failed = record { failed = subst (λ (n : ℕ). Rose n (faults after)) none.faults writes.failed.failed; latest = writes.failed.latest };
    }
