-- What a list of components gains while the components of a machine are gathered.
use Rattle.std.specs.Prelude.{◌≡◌, ◌++◌, ℕ, List, length}
use Rattle.std.specs.List.{All}
use Rattle.component.specs.declared.comp.Comp.{Comp}
use Rattle.component.specs.ComponentStep.{free_of}
use Rattle.component.specs.Components.{HasNoOpenRow}

-- so many components more behind those that were there: each is one of these, and before its first event
pub record Gains (IsOne : Comp → Type 0) (count : ℕ) (before after : List Comp) : Type 0 where
  pub gained : List Comp
  pub behind : after ≡ before ++ gained
  pub long : length gained ≡ count
  pub are : All IsOne gained
  pub free : All (λ c. free_of c ≡ 0) gained
  pub closed : All HasNoOpenRow gained
