-- What the cores up to one more suffer.
use Rattle.std.proofs.Common.{◌≡◌, ℕ, ◌+◌, Bool, List, [], ◌∷◌, ◌++◌, map, if◌then◌else◌, sym, ◌∙◌, ap, append_assoc}
use Rattle.std.specs.List.{filter, range_with_len}
use Rattle.std.proofs.lemmas.List.{map-append}
use Rattle.std.proofs.lemmas.List.Elements.{filter-append}
use Rattle.profile.specs.declared.contribution.Contribution.{Contribution}
use Rattle.profile.proofs.Lists.{range_more}

pub suffered_more : (cs : List Contribution) (f : ℕ → Contribution) (p : ℕ → Bool) (n : ℕ)
    → (cs ++ map f (filter p (range_with_len 0 n))) ++ map f (if p n then n ∷ [] else []) ≡ cs ++ map f (filter p (range_with_len 0 (n + 1)))
suffered_more cs f p n =
    let so_far : List ℕ = filter p (range_with_len 0 n) in
    let one : List ℕ = if p n then n ∷ [] else [] in
    let all : filter p (range_with_len 0 (n + 1)) ≡ so_far ++ one = ap (filter p) (range_more n) ∙ filter-append p (range_with_len 0 n) (n ∷ []) in
    append_assoc cs (map f so_far) (map f one) ∙ ap (λ (xs : List Contribution). cs ++ xs) (sym (map-append f so_far one) ∙ ap (map f) (sym all))
