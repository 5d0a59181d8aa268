-- What `clap` matches, of each verb.
use Rattle.std.proofs.Common.{◌≡◌, ℕ, List, Option, Some, None, sym, ◌∙◌, ap}
use Rattle.std.specs.Prelude.{option_and_then, option_map}
use Rattle.clap.specs.Words.{App, Row}
use Rattle.zsim.specs.Options.{matched_by}

module _ {M T : Type 0} (rows_in : M → List Row) (options : App) (of_rows : List Row → Option T) (words : List (List ℕ)) where
  -- the words match, and what they ask for is what their rows do
  pub some_matched : (built : App) (found : Option M) (m : M) (asked : Option T) → built ≡ options → option_map rows_in found ≡ matched_by built words
      → found ≡ Some m → asked ≡ of_rows (rows_in m) → asked ≡ option_and_then of_rows (matched_by options words)
  some_matched built found m asked same read is one =
      let matched : Some (rows_in m) ≡ matched_by options words = ap (option_map rows_in) (sym is) ∙ read ∙ ap (λ (given : App). matched_by given words) same in
      one ∙ ap (option_and_then of_rows) matched

  -- the words do not match
  pub none_matched : (built : App) (found : Option M) → built ≡ options → option_map rows_in found ≡ matched_by built words → found ≡ None
      → None ≡ option_and_then of_rows (matched_by options words)
  none_matched built found same read is =
      let matched : None ≡ matched_by options words = ap (option_map rows_in) (sym is) ∙ read ∙ ap (λ (given : App). matched_by given words) same in
      ap (option_and_then of_rows) matched
