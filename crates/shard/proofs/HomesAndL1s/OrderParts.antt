-- An L1 that uses a line keeps what it has of each: the parts are parts as before.
use Rattle.std.proofs.Common.{◌≡◌, ℕ, get_or, set, Option, is_some, refl, sym, ap, ◌∙◌, subst, inl, inr}
use Rattle.std.proofs.lemmas.Bool.{cases_eq}
use Rattle.std.proofs.lemmas.List.{get_or-set_other, length-set}
use Rattle.cache_set.specs.Ways.{used}
use Rattle.home.specs.HomeState.{bytes_at}
use Rattle.l1_cache.specs.L1State.{L1State, copies_at, copy_at, has_instructions, instruction_used_in, instructions_at, no_l1, used_in}
use Rattle.shard.specs.PartsLaws.{AreParts, IsInMemory, IsOwn}
use Rattle.shard.specs.Seen.{newest_in}
use Rattle.shard.specs.SharedStep.{Bank, l1_of, with_l1}
use Rattle.shard.proofs.CoherentLines.{kept_elsewhere, kept_used}
use Rattle.shard.proofs.HomesAndL1s.Fit.{IsShapedAs, copies_shape, fit_l1, instructions_shape}
use Rattle.shard.proofs.HomesAndL1s.FitOf.{fit_of}
use Rattle.shard.proofs.HomesAndL1s.Gets.{set_is}
use Rattle.shard.proofs.HomesAndL1s.LettersSeen.{copy_valid}
use Rattle.shard.proofs.HomesAndL1s.LineFits.{KeepsBank, LineFits, SameAt, carry, line_of_parts, newest_as, parts_of_lines}
use Rattle.shard.proofs.HomesAndL1s.ReadyParts.{IsSound}

-- a step of an L1 that changes the order of its lines alone
pub record KeepsLines (f : L1State → L1State) : Type 0 where
  pub shape : (l1 : L1State) → IsShapedAs l1 (f l1)
  pub copies : (l1 : L1State) (x : ℕ) → copy_at (f l1) x ≡ copy_at l1 x
  pub instructions : (l1 : L1State) (x : ℕ) → has_instructions (f l1) x ≡ has_instructions l1 x

pub used_keeps : (line : ℕ) → KeepsLines (used_in line)
unfolding used_in copy_at has_instructions
used_keeps line = record {
  shape = copies_shape line (used line);
  copies = λ l1 x. kept_elsewhere l1.shards x line (used line) l1.sets (kept_used x line (copies_at l1 line));
  instructions = λ l1 x. refl;
}

pub instruction_used_keeps : (line : ℕ) → KeepsLines (instruction_used_in line)
unfolding instruction_used_in copy_at has_instructions
instruction_used_keeps line = record {
  shape = instructions_shape line (used line);
  copies = λ l1 x. refl;
  instructions = λ l1 x. ap (λ (o : Option (Unit {0})). is_some o) (kept_elsewhere l1.shards x line (used line) l1.l1i (kept_used x line (instructions_at l1 line)));
}

module _ (p : Bank) (are : AreParts p) (core : ℕ) (f : L1State → L1State) (keeps_lines : KeepsLines f) where
  abbrev q : Bank
  q = with_l1 core f p

  pub order_keeps : KeepsBank p q
  order_keeps = record {
    bank = record { count = refl; number = refl; cores = length-set p.l1s core (f (l1_of p core)); fit = fit_l1 core f p (fit_of p are) keeps_lines.shape };
    base = refl;
    size = refl;
    marks = refl;
    long = refl;
  }

  by_core : {Y : Type 0} (g : L1State → Y) → ((l1 : L1State) → g (f l1) ≡ g l1) → (k : ℕ) → g (l1_of q k) ≡ g (l1_of p k)
  by_core {Y = Y} g same k =
      let new : L1State = f (l1_of p core) in
      elim (cases_eq k core) as (λ _. g (get_or (set p.l1s core new) k no_l1) ≡ g (get_or p.l1s k no_l1)) [
        | inl z ↦
            subst (λ (j : ℕ). g (get_or (set p.l1s core new) j no_l1) ≡ g (get_or p.l1s j no_l1)) (sym z)
            (elim (set_is p.l1s core new no_l1) as (λ _. g (get_or (set p.l1s core new) core no_l1) ≡ g (get_or p.l1s core no_l1)) [
              | inl is ↦ ap g is ∙ same (l1_of p core)
              | inr is ↦ ap g is
            ])
        | inr z ↦ ap g (get_or-set_other p.l1s core k new no_l1 z)
      ]

  same : (x : ℕ) → SameAt p q x
  same x = record { row = refl; copies = by_core (λ l1. copy_at l1 x) (λ l1. keeps_lines.copies l1 x); instructions = by_core (λ l1. has_instructions l1 x) (λ l1. keeps_lines.instructions l1 x); bytes = λ _. refl }

  fits : (x : ℕ) → IsOwn q x → LineFits q x
  fits x own = carry p q x order_keeps (same x) (λ k h. h) (line_of_parts p are x own) (λ k c e. (copy_valid p are k x c own e)) (λ t. (are.lines x t).1)

  pub order_parts : IsSound q → AreParts q
  order_parts sound = parts_of_lines p q are order_keeps sound.0 sound.1 (λ x t. (are.lines x t).0) fits

  pub order_newest : (x : ℕ) → IsInMemory p.home x → newest_in x (bytes_at q.home x) q.l1s ≡ newest_in x (bytes_at p.home x) p.l1s
  order_newest x inside = newest_as p q x order_keeps (same x) inside
