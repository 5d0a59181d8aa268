use Rattle.std.proofs.Common.{◌≡◌, ℕ, Bool, true, false, List, [], refl, ap₂, ◌∙◌}
use Rattle.sparse_table.specs.Sparse.{Sparse}
use Rattle.profile.specs.declared.copies.CopyState.{CopyState}
use Rattle.profile.specs.Copies.{no_copies}
use Rattle.profile.specs.CopyTables.{copies_in}
use Rattle.profile.proofs.StepsMore.{same_copies}
use Rattle.profile.proofs.copies.Copies.new.Goals as goal

empty : (f : Bool) (c n : ℕ) → copies_in [] [] f c n ≡ no_copies f c n
empty false c n = refl
empty true c n = refl

pub returns : goal.returns
returns c = same_copies _ _ (λ f k n. ap₂ (λ (a b : List (Sparse CopyState)). copies_in a b f k n) c.new.ensures.items c.new-2.ensures.items ∙ empty f k n)
