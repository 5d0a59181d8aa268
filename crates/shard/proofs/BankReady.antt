-- A line is made ready: the code's steps one after the other, and how the bank meets the access.
use Rattle.std.proofs.Common.{◌≡◌, ℕ, ◌&&◌, ◌↔◌, Bool, true, false, not, List, [], ◌∷◌, Option, Some, None, is_some, refl, sym, ap, ◌∙◌}
use Rattle.std.specs.Option.{unwrap_or}
use Rattle.std.specs.Prelude.{IsSome, IsTrue, option_map}
use Rattle.zs_num.specs.declared.entry.Outcome.{Outcome}
use Rattle.zs_num.specs.declared.entry.Outcome.TheVariants.{Hit, Upgrade, L2, Miss}
use Rattle.cache_set.specs.declared.letter.Letter.{Letter}
use Rattle.cache_set.specs.declared.letter.Letter.TheVariants.{M, E, S, I}
use Rattle.home.specs.HomeState.{HomeLine, HomeState, evicted_by, granted_in, looked_up_in, nobody, owned_in, row_at, row_of}
use Rattle.home.specs.declared.row.Row.{Row}
use Rattle.home.specs.Rows.{line_in}
use Rattle.l1_cache.specs.L1State.{L1State, kept_with_in}
use Rattle.shard.specs.BankSteps.{bank_with, line_met}
use Rattle.shard.specs.Coherence.{outcome_by, own_after}
use Rattle.shard.specs.SharedStep.{Bank, brought_home, brought_to_own, copy_of, dirty_by, given_up_by, is_dirty_here, is_some_core, kept_with, left_by_others, others_of, own_letter, ready_from_home, ready_from_l2, ready_where_shared, shared_by_others, with_home, with_l1}
use Rattle.shard.proofs.BankSteps.{home_then, kept_by}

-- ---- what the code's row says
pub row_none : (o : Option Row) (r : Option HomeLine) → option_map line_in o ≡ r → o ≡ None → r ≡ None
row_none o r is none = sym is ∙ ap (option_map line_in) none

pub row_some : (o : Option Row) (r : Option HomeLine) (row : Row) → option_map line_in o ≡ r → o ≡ Some row → r ≡ Some (line_in row)
row_some o r row is some = sym is ∙ ap (option_map line_in) some

pub empty_is : (b : Bool) (cores : List ℕ) → (IsTrue b ↔ (cores ≡ [])) → b ≡ not (is_some_core cores)
empty_is true cores both = sym (ap (λ (z : List ℕ). not (is_some_core z)) (both.0 refl))
empty_is false [] both = let bad : IsTrue false = both.1 refl in absurd cc
empty_is false (core ∷ cores) both = refl

-- ---- how it is met
by_miss : (write alone has dirty : Bool) → outcome_by write I false alone has dirty ≡ Miss dirty
by_miss true alone has dirty = refl
by_miss false alone has dirty = refl

module _ (p : Bank) (core line : ℕ) (write : Bool) where
  abbrev met : Letter → Option HomeLine → Outcome
  met letter o = outcome_by write letter (is_some o) ((unwrap_or o nobody).alone && is_some_core (others_of core (unwrap_or o nobody))) (is_some_core (others_of core (unwrap_or o nobody))) (is_dirty_here p (evicted_by p.home line))

  met_is : (letter : Letter) (o : Option HomeLine) → own_letter p core line ≡ letter → row_at p.home line ≡ o → line_met p core line write ≡ met letter o
  met_is letter o e f = ap (λ (x : Letter). met x (row_at p.home line)) e ∙ ap (met letter) f

  pub met_missed : own_letter p core line ≡ I → row_at p.home line ≡ None → line_met p core line write ≡ Miss (is_dirty_here p (evicted_by p.home line))
  met_missed e f = met_is I None e f ∙ by_miss write false false (is_dirty_here p (evicted_by p.home line))

pub met_read : (p : Bank) (core line : ℕ) (row : HomeLine) → own_letter p core line ≡ I → row_at p.home line ≡ Some row → line_met p core line false ≡ L2 (row.alone && is_some_core (others_of core row))
met_read p core line row e f = met_is p core line false I (Some row) e f

pub met_written : (p : Bank) (core line : ℕ) (row : HomeLine) → own_letter p core line ≡ I → row_at p.home line ≡ Some row → line_met p core line true ≡ L2 (is_some_core (others_of core row))
met_written p core line row e f = met_is p core line true I (Some row) e f

pub met_upgraded : (p : Bank) (core line : ℕ) (row : HomeLine) → own_letter p core line ≡ S → row_at p.home line ≡ Some row → line_met p core line true ≡ Upgrade (is_some_core (others_of core row))
met_upgraded p core line row e f = met_is p core line true S (Some row) e f

pub met_shared : (p : Bank) (core line : ℕ) → own_letter p core line ≡ S → line_met p core line false ≡ Hit
met_shared p core line e = met_is p core line false S (row_at p.home line) e refl

by_modified : (write in_l2 alone has dirty : Bool) → outcome_by write M in_l2 alone has dirty ≡ Hit
by_modified true in_l2 alone has dirty = refl
by_modified false in_l2 alone has dirty = refl

by_exclusive : (write in_l2 alone has dirty : Bool) → outcome_by write E in_l2 alone has dirty ≡ Hit
by_exclusive true in_l2 alone has dirty = refl
by_exclusive false in_l2 alone has dirty = refl

module _ (p : Bank) (core line : ℕ) (write : Bool) where
  abbrev has : Bool
  has = is_some_core (others_of core (row_of p.home line))

  pub met_modified : own_letter p core line ≡ M → line_met p core line write ≡ Hit
  met_modified e =
      met_is p core line write M (row_at p.home line) e refl
      ∙ by_modified write (is_some (row_at p.home line)) ((row_of p.home line).alone && has) has (is_dirty_here p (evicted_by p.home line))

  pub met_exclusive : own_letter p core line ≡ E → line_met p core line write ≡ Hit
  met_exclusive e =
      met_is p core line write E (row_at p.home line) e refl
      ∙ by_exclusive write (is_some (row_at p.home line)) ((row_of p.home line).alone && has) has (is_dirty_here p (evicted_by p.home line))

-- ---- the steps
pub left_nowhere : (core line : ℕ) (row : HomeLine) (p : Bank) → others_of core row ≡ [] → p ≡ left_by_others core line row p
unfolding left_by_others
left_nowhere core line row p none = sym (ap (λ (z : List ℕ). given_up_by line z (dirty_by line z p)) none)

pub came_home : (write : Bool) (core line : ℕ) (p : Bank) (h1 h2 h3 : HomeState) (s1 s2 : List L1State) (letter : Letter) → letter ≡ own_after write I false → bank_with h1 s1 ≡ brought_home line p
    → bank_with h2 s2 ≡ brought_to_own letter core line (bank_with h1 s1) → h3 ≡ owned_in line core h2 → row_at p.home line ≡ None
    → bank_with h3 s2 ≡ ready_from_home write core line (row_at p.home line) p
came_home write core line p h1 h2 h3 s1 s2 letter is first second third none =
    home_then (owned_in line core) h2 h3 s2 (brought_to_own (own_after write I false) core line (brought_home line p)) third
    (second ∙ (ap (λ (x : Letter). brought_to_own x core line (bank_with h1 s1)) is ∙ ap (brought_to_own (own_after write I false) core line) first))
    ∙ sym (ap (λ (o : Option HomeLine). ready_from_home write core line o p) none)

pub came_written : (core line : ℕ) (row : HomeLine) (home : HomeState) (s0 : List L1State) (h0 h1 h2 h3 : HomeState) (s1 s2 : List L1State) → h0 ≡ looked_up_in line home
    → bank_with h1 s1 ≡ left_by_others core line row (bank_with h0 s0) → bank_with h2 s2 ≡ brought_to_own M core line (bank_with h1 s1) → h3 ≡ owned_in line core h2
    → bank_with h3 s2 ≡ ready_from_l2 true core line row (bank_with home s0)
came_written core line row home s0 h0 h1 h2 h3 s1 s2 looked first second third =
    home_then (owned_in line core) h2 h3 s2 (brought_to_own M core line (left_by_others core line row (with_home (looked_up_in line) (bank_with home s0)))) third
    (second ∙ ap (brought_to_own M core line) (first ∙ ap (λ (h : HomeState). left_by_others core line row (bank_with h s0)) looked))

pub came_read : (core line : ℕ) (row : HomeLine) (home : HomeState) (s0 : List L1State) (h0 h1 h2 h3 : HomeState) (s1 s2 : List L1State) (alone : Bool) (letter : Letter) → h0 ≡ looked_up_in line home
    → bank_with h1 s1 ≡ shared_by_others line row (bank_with h0 s0) → bank_with h2 s2 ≡ brought_to_own letter core line (bank_with h1 s1) → h3 ≡ granted_in line core alone h2
    → alone ≡ not (is_some_core row.sharers) → letter ≡ own_after false I (not alone)
    → bank_with h3 s2 ≡ ready_from_l2 false core line row (bank_with home s0)
came_read core line row home s0 h0 h1 h2 h3 s1 s2 alone letter looked first second third none is =
    home_then (granted_in line core (not (is_some_core row.sharers))) h2 h3 s2 (brought_to_own (own_after false I (is_some_core row.sharers)) core line (shared_by_others line row (with_home (looked_up_in line) (bank_with home s0))))
    (third ∙ ap (λ (b : Bool). granted_in line core b h2) none)
    (second ∙ (ap (λ (x : Letter). brought_to_own x core line (bank_with h1 s1)) (is ∙ ap (own_after false I) (ap not none ∙ not_not (is_some_core row.sharers)))
    ∙ ap (brought_to_own (own_after false I (is_some_core row.sharers)) core line) (first ∙ ap (λ (h : HomeState). shared_by_others line row (bank_with h s0)) looked))) where
      not_not : (b : Bool) → not (not b) ≡ b
      not_not true = refl
      not_not false = refl

pub came_up : (core line : ℕ) (row : HomeLine) (home other : HomeState) (s0 : List L1State) (h0 h1 h3 : HomeState) (s1 s2 : List L1State) → row_at home line ≡ Some row → h0 ≡ looked_up_in line home
    → bank_with h1 s1 ≡ left_by_others core line row (bank_with h0 s0) → bank_with other s2 ≡ with_l1 core (kept_with_in line M) (bank_with other s1) → h3 ≡ owned_in line core h1
    → IsSome (copy_of (bank_with h1 s1) core line)
    → bank_with h3 s2 ≡ ready_where_shared true core line (bank_with home s0)
came_up core line row home other s0 h0 h1 h3 s1 s2 there looked first did third some =
    home_then (owned_in line core) h1 h3 s2 (kept_with M core line (left_by_others core line row (with_home (looked_up_in line) (bank_with home s0)))) third
    (kept_by M h1 other s1 s2 core line did some ∙ ap (kept_with M core line) (first ∙ ap (λ (h : HomeState). left_by_others core line row (bank_with h s0)) looked))
    ∙ ap (λ (r : HomeLine). with_home (owned_in line core) (kept_with M core line (left_by_others core line r (with_home (looked_up_in line) (bank_with home s0))))) (sym (ap (λ (o : Option HomeLine). unwrap_or o nobody) there))
