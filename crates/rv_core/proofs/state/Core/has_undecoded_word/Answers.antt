use Rattle.std.proofs.Common.{◌∙◌, not, ap, sym}
use Rattle.rv_core.proofs.Words.{a-word-inside, no-word-outside}
use Rattle.rv_core.proofs.state.Core.has_undecoded_word.Goals.{in-Outside, in_default}
use Rattle.rv_core.proofs.state.Core.has_undecoded_word.Goals as goal

pub returns : goal.returns
returns g c = record {
  value = elim c.match-matches.branch [
    | in-Outside w ↦ ap not w.matches-is ∙ sym (no-word-outside _ _ (sym c.upcoming.ensures.value ∙ w.in-Outside.is))
    | in_default w ↦ ap not w.matches-is ∙ sym (a-word-inside _ _ (λ outside. w.in_default.not-Outside (c.upcoming.ensures.value ∙ outside)))
  ];
  same = c.upcoming.ensures.same;
  sound = c.upcoming.ensures.sound;
}
