-- What a loop appends to a list, piece by piece.
use Rattle.std.proofs.Common.{◌≡◌, ◌≤◌, ◌<◌, ◌+◌, ◌++◌, ◌∷◌, ◌∙◌, ℕ, List, [], length, drop, get_or, sym, ap, append-nil, append_assoc}
use Rattle.std.proofs.lemmas.List.{at_drop_all, drop_more}

-- a piece went from what is left to what is there
pub piece_appended : (out more piece rest left whole : List ℕ)
    → more ≡ out ++ piece → rest ≡ piece ++ left → out ++ rest ≡ whole → more ++ left ≡ whole
piece_appended out more piece rest left whole appended next is =
    ap (λ now. now ++ left) appended ∙ append_assoc out piece left ∙ ap (λ behind. out ++ behind) (sym next) ∙ is

-- the items from a place on are the item there and those behind it
pub from_item : {X : Type 0} (items : List X) (i : ℕ) (item : X)
    → i < length items → item ≡ get_or items i item → drop i items ≡ item ∷ drop (i + 1) items
from_item items i item there is = drop_more items i item there ∙ ap (λ x. x ∷ drop (i + 1) items) (sym is)

-- where no item is left, all is appended
pub all_appended : {X : Type 0} (bytes_of : List X → List ℕ) (items : List X) (i : ℕ) (out whole : List ℕ)
    → bytes_of [] ≡ [] → length items ≤ i → out ++ bytes_of (drop i items) ≡ whole → out ≡ whole
all_appended bytes_of items i out whole none over is =
    sym (append-nil out) ∙ ap (λ rest. out ++ rest) (sym (at_drop_all bytes_of items i over ∙ none)) ∙ is
