use Rattle.std.proofs.Common.{ℕ, [], arith, ap, sym, ◌∙◌}
use Rattle.std.specs.List.{slice_get}
use Rattle.std.proofs.lemmas.List.Quantifiers.{position-Some}
use Rattle.mesi_dir.proofs.CoreSets.{cores_in-none, first_of_words, is_zero, is_some_word, none_from_words}
use Rattle.mesi_dir.proofs.Places.{absent}
use Rattle.mesi_dir.proofs.core_set.CoreSet.first.Goals as goal

pub returns-in-Some-clause-core : goal.returns-in-Some-clause-core
returns-in-Some-clause-core c =
    let first = position-Some _ c.args.self.now.words c.in-Some.word 0 (sym c.first_word.ensures ∙ c.in-Some.is) in
    sym (first_of_words c.args.self.now.words c.in-Some.word c.first_bit.result first.0 (is_some_word _ first.1) (omega arith) (λ k l. is_zero _ (first.2 k l)) c.first_bit.ensures.bit)

pub returns-in-None-clause-core : goal.returns-in-None-clause-core
returns-in-None-clause-core c =
    let none = (absent {X = ℕ} _ c.args.self.now.words [] (sym c.first_word.ensures ∙ c.in-None.is)).1 in
    ap (λ cores. slice_get cores 0) (sym (cores_in-none c.args.self.now.words (none_from_words c.args.self.now.words none)))
