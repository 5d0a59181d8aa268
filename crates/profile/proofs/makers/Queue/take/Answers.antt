use Rattle.std.proofs.Common.{◌≡◌, ℕ, zero, suc, List, [], ◌∷◌, drop, refl, ◌∙◌, ap, add-one}
use Rattle.profile.specs.declared.contribution.Maker.{Maker}
use Rattle.profile.specs.Makers.{tail}
use Rattle.profile.proofs.makers.Queue.take.Goals as goal

drop_more : (n : ℕ) (xs : List Maker) → drop (suc n) xs ≡ tail (drop n xs)
drop_more zero [] = refl
drop_more zero (x ∷ xs) = refl
drop_more (suc n) [] = refl
drop_more (suc n) (x ∷ xs) = drop_more n xs

pub returns-then-self-len : goal.returns-then-self-len
returns-then-self-len c =
    ap (λ (k : ℕ). drop k c.self.inside.makers.items) (add-one c.self.inside.taken) ∙ drop_more c.self.inside.taken c.self.inside.makers.items ∙ ap tail c.self.view_is
