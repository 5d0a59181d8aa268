-- An access begins at the L2: the line stands there, and the parts are parts as before.
use Rattle.std.proofs.Common.{◌≡◌, ℕ, ◌<◌, false, Option, Some, is_some, refl, sym, ap, ◌∙◌, subst}
use Rattle.std.specs.Option.{unwrap_or}
use Rattle.std.specs.Prelude.{IsSome}
use Rattle.home.specs.HomeState.{HomeLine, bytes_at, is_marked_by_others, looked_up_in, nobody, row_at}
use Rattle.l1_cache.specs.L1State.{has_instructions}
use Rattle.shard.specs.PartsLaws.{AreParts, IsInMemory, IsOwn}
use Rattle.shard.specs.Seen.{caches_seen, newest_in}
use Rattle.shard.specs.SharedStep.{Bank, copy_of, l1_of, with_home}
use Rattle.shard.specs.StandsFor.{AreCoherent, HaveRoomForLines}
use Rattle.shard.proofs.HomesAndL1s.Banks.{looked_up_bank, own_in, same_bank}
use Rattle.shard.proofs.HomesAndL1s.Decisions.{cores_seen}
use Rattle.shard.proofs.HomesAndL1s.EvictedSeen.{in_l2_seen}
use Rattle.shard.proofs.HomesAndL1s.FitOf.{fit_of}
use Rattle.shard.proofs.L2Laws.{L2Laws}
use Rattle.shard.proofs.HomesAndL1s.LettersSeen.{copy_valid}
use Rattle.shard.proofs.HomesAndL1s.LineFits.{KeepsBank, LineFits, SameAt, carry, line_of_parts, memory_in, newest_as, parts_of_lines}
use Rattle.shard.proofs.HomesAndL1s.ListsSeen.{looked_up_seen}
use Rattle.shard.proofs.HomesAndL1s.Rows.{row_looked}

pub record Begun (p q : Bank) (line : ℕ) (row : HomeLine) : Type 0 where
  pub keeps : KeepsBank p q
  pub parts : AreParts q
  pub marks : q.home.marks ≡ p.home.marks
  pub stands : row_at q.home line ≡ Some row
  pub copies : (k : ℕ) → copy_of q k line ≡ copy_of p k line
  pub instructions : (k : ℕ) → has_instructions (l1_of q k) line ≡ has_instructions (l1_of p k) line
  pub newest : (x : ℕ) → IsOwn p x → IsInMemory p.home x → newest_in x (bytes_at q.home x) q.l1s ≡ newest_in x (bytes_at p.home x) p.l1s

module _ (laws : L2Laws) (p : Bank) (are : AreParts p) (line : ℕ) (row : HomeLine) (there : row_at p.home line ≡ Some row) where
  abbrev q : Bank
  q = with_home (looked_up_in line) p

  keeps : KeepsBank p q
  unfolding looked_up_in
  keeps = record { bank = looked_up_bank p p (same_bank p (fit_of p are)) line; base = refl; size = refl; marks = refl; long = refl }

  same : (x : ℕ) → SameAt p q x
  unfolding looked_up_in bytes_at
  same x = record { row = ap (λ (o : Option HomeLine). unwrap_or o nobody) (row_looked line x p.home); copies = λ k. refl; instructions = λ k. refl; bytes = λ _. refl }

  was_there : (x : ℕ) → IsSome (row_at q.home x) → IsSome (row_at p.home x)
  was_there x t = subst (λ (o : Option HomeLine). IsSome o) (row_looked line x p.home) t

  same_marks : q.home.marks ≡ p.home.marks
  unfolding looked_up_in
  same_marks = refl

  own_was : (x : ℕ) → IsOwn q x → IsOwn p x
  unfolding looked_up_in
  own_was x own = own

  lines : (x : ℕ) → IsOwn q x → LineFits q x
  lines x own_now =
      let own : IsOwn p x = own_was x own_now in
      carry p q x keeps (same x) (λ k h. subst (λ marks. is_marked_by_others marks k x ≡ false) (sym same_marks) h) (line_of_parts p are x own) (λ k copy e. (copy_valid p are k x copy own e))
      (λ t. memory_in p q keeps x (are.lines x (was_there x t)).1)

  coherent : AreCoherent (caches_seen q) × HaveRoomForLines (caches_seen q)
  coherent =
      let in_l2 = in_l2_seen p line ∙ ap (λ (o : Option HomeLine). is_some o) there in
      let stays = laws.looked (caches_seen p) line are.coherent are.room (subst (λ (z : ℕ). 0 < z) (sym (cores_seen p)) are.cores.0) in_l2 in
      (subst AreCoherent (sym (looked_up_seen line p)) stays.0, subst HaveRoomForLines (sym (looked_up_seen line p)) stays.1)

  pub looked_begins : Begun p q line row
  looked_begins = record {
    keeps = keeps;
    parts = parts_of_lines p q are keeps coherent.0 coherent.1 (λ x t. own_in p q keeps.bank x (are.lines x (was_there x t)).0) lines;
    marks = same_marks;
    stands = row_looked line line p.home ∙ there;
    copies = λ k. refl;
    instructions = λ k. refl;
    newest = λ x own inside. newest_as p q x keeps (same x) inside;
  }
