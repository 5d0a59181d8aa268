use Rattle.std.proofs.Common.{◌≡◌, List, Ok, Err, inl, inr, refl, sym, ◌∙◌, ap}
use Rattle.component.specs.declared.comp.Comp.{Comp}
use Rattle.reference.specs.ReferenceRun.{reference_run}
use Rattle.replay.specs.declared.replay_fail.ReplayFail.TheVariants as fail
use Rattle.replay.proofs.laws.replays_give_the_same.Goals as goal

pub returns : goal.returns
returns c machine image lists results (Ok found) one other =
    let comps : one.comps ≡ other.comps = c.fresh_components_are_one.ensures machine one.comps other.comps one.fresh other.fresh in
    let same : Ok results ≡ Ok found = sym one.gives ∙ ap (λ (parts : List Comp). reference_run machine image parts lists) comps ∙ other.gives in
    inl cc
returns c machine image lists results (Err (fail.Illegal interval place)) one other =
    let comps : one.comps ≡ other.comps = c.fresh_components_are_one.ensures machine one.comps other.comps one.fresh other.fresh in
    let same = sym one.gives ∙ ap (λ (parts : List Comp). reference_run machine image parts lists) comps ∙ other.gives in
    cc
returns c machine image lists results (Err fail.NoMemory) one other = inr refl
