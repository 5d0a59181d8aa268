-- A line comes into the L2 from memory: the parts are parts as before.
use Rattle.std.proofs.Common.{◌≡◌, ◌≢◌, ℕ, ◌%◌, ◌<◌, true, false, List, Option, Some, None, is_some, refl, sym, ap, ◌∙◌, subst, inl, inr}
use Rattle.std.specs.Option.{unwrap_or}
use Rattle.std.specs.Prelude.{IsSome}
use Rattle.std.proofs.lemmas.Bool.{cases_eq}
use Rattle.shard.specs.Coherence.{is_valid}
use Rattle.home.specs.HomeState.{HomeLine, HomeState, brought_in, bytes_at, evicted_by, is_marked_by_others, nobody, row_at, row_of}
use Rattle.l1_cache.specs.L1State.{Copy, has_instructions}
use Rattle.shard.specs.PartsLaws.{AreParts, IsInMemory, IsOwn}
use Rattle.shard.specs.Seen.{caches_seen, newest_in}
use Rattle.shard.specs.SharedStep.{Bank, brought_home, copy_of, evicted_everywhere, l1_of, with_home}
use Rattle.shard.specs.StandsFor.{AreCoherent, HaveRoomForLines}
use Rattle.shard.proofs.HomesAndL1s.Banks.{brought_in_bank, own_in, same_bank}
use Rattle.shard.proofs.HomesAndL1s.Begun.{Begun}
use Rattle.shard.proofs.HomesAndL1s.Decisions.{cores_seen}
use Rattle.shard.proofs.HomesAndL1s.EvictedSeen.{home_seen, in_l2_seen, row_is, victim_is}
use Rattle.shard.proofs.HomesAndL1s.Evicted.{left_copies, left_home, left_instructions, left_keeps, left_newest, left_same}
use Rattle.shard.proofs.HomesAndL1s.FitOf.{fit_of}
use Rattle.shard.proofs.HomesAndL1s.HomeRows.{row_filled_other, row_filled_room, row_filled_same, row_filled_victim}
use Rattle.shard.proofs.L2Laws.{L2Laws}
use Rattle.shard.proofs.HomesAndL1s.LettersSeen.{copy_valid}
use Rattle.shard.proofs.HomesAndL1s.LineFits.{KeepsBank, LineFits, SameAt, carry, empty_fits, line_of_parts, memory_in, not_there, parts_of_lines, same_at}
use Rattle.shard.proofs.HomesAndL1s.Victims.{victim_own, victim_row}

-- ---- the line that leaves
pub record Leaves (p e : Bank) (v : Option (ℕ × HomeLine)) : Type 0 where
  pub keeps : KeepsBank p e
  pub home : e.home ≡ record p.home { bytes = e.home.bytes }
  pub same : (x : ℕ) → IsOwn p x → ((w : ℕ × HomeLine) → v ≡ Some w → x ≢ w.0) → SameAt p e x
  pub copies : (w : ℕ × HomeLine) → v ≡ Some w → (k : ℕ) → copy_of e k w.0 ≡ None
  pub instructions : (w : ℕ × HomeLine) → v ≡ Some w → (k : ℕ) → has_instructions (l1_of e k) w.0 ≡ false
  pub newest : (x : ℕ) → IsOwn p x → IsInMemory p.home x → newest_in x (bytes_at e.home x) e.l1s ≡ newest_in x (bytes_at p.home x) p.l1s

leaves_of : (p : Bank) → AreParts p → (v : Option (ℕ × HomeLine)) → ((w : ℕ × HomeLine) → v ≡ Some w → (row_of p.home w.0 ≡ w.1) × IsOwn p w.0 × IsInMemory p.home w.0) → Leaves p (evicted_everywhere v p) v
leaves_of p are None is = record {
  keeps = record { bank = same_bank p (fit_of p are); base = refl; size = refl; marks = refl; long = refl };
  home = refl;
  same = λ x own apart. same_at p x;
  copies = λ w e k. absurd cc;
  instructions = λ w e k. absurd cc;
  newest = λ x own inside. refl;
}
leaves_of p are (Some w) is =
    let here = is w refl in
    let row : HomeLine = row_of p.home w.0 in
    let left : Bank = evicted_everywhere (Some (w.0, row)) p in
    subst (λ (r : HomeLine). Leaves p (evicted_everywhere (Some (w.0, r)) p) (Some (w.0, r))) here.0
    (record {
      keeps = left_keeps p are w.0 here.1 here.2;
      home = left_home p are w.0 here.1 here.2 ∙ ap (λ (b : List ℕ). record p.home { bytes = b }) (sym (ap (λ (h : HomeState). h.bytes) (left_home p are w.0 here.1 here.2)));
      same = λ x own apart. left_same p are w.0 here.1 here.2 x own (apart (w.0, row) refl);
      copies = λ u e k. let line_is : w.0 ≡ u.0 = at_line (w.0, row) u e in subst (λ (z : ℕ). copy_of left k z ≡ None) line_is (left_copies p are w.0 here.1 here.2 k);
      instructions = λ u e k. let line_is : w.0 ≡ u.0 = at_line (w.0, row) u e in subst (λ (z : ℕ). has_instructions (l1_of left k) z ≡ false) line_is (left_instructions p are w.0 here.1 here.2 k);
      newest = λ x own inside. left_newest p are w.0 here.1 here.2 x own inside;
    }) where
      at_line : (a b : ℕ × HomeLine) → Some a ≡ Some b → a.0 ≡ b.0
      at_line a b e = let is : a ≡ b = cc in ap (λ (z : ℕ × HomeLine). z.0) is

module _ (laws : L2Laws) (p : Bank) (are : AreParts p) (line : ℕ) (own : IsOwn p line) (inside : IsInMemory p.home line) (none : row_at p.home line ≡ None) where
  abbrev v : Option (ℕ × HomeLine)
  v = evicted_by p.home line

  abbrev e : Bank
  e = evicted_everywhere v p

  abbrev q : Bank
  q = with_home (brought_in line) e

  leaves : Leaves p e v
  leaves =
      leaves_of p are v (λ w is. (row_is p are line w is, victim_own p are line w is, (are.lines w.0 (victim_row p are line w is)).1))

  keeps : KeepsBank p q
  unfolding brought_in
  keeps = record { bank = brought_in_bank p e leaves.keeps.bank line; base = leaves.keeps.base; size = leaves.keeps.size; marks = leaves.keeps.marks; long = leaves.keeps.long }

  row_bytes : (x : ℕ) (bytes : List ℕ) → row_at (brought_in line (record p.home { bytes = bytes })) x ≡ row_at (brought_in line p.home) x
  unfolding row_at brought_in
  row_bytes x bytes = refl

  row_now : (x : ℕ) → row_at q.home x ≡ row_at (brought_in line p.home) x
  row_now x = ap (λ (h : HomeState). row_at (brought_in line h) x) leaves.home ∙ row_bytes x e.home.bytes

  -- the line that leaves is another one
  other_victim : (w : ℕ × HomeLine) → v ≡ Some w → w.0 ≢ line
  other_victim w is same =
      let bad : None ≡ Some w.1 = sym none ∙ (ap (row_at p.home) (sym same) ∙ victim_is p are line w is) in
      cc

  same_bytes : (x : ℕ) → bytes_at q.home x ≡ bytes_at e.home x
  unfolding brought_in bytes_at
  same_bytes x = refl

  same : (x : ℕ) → IsOwn p x → ((w : ℕ × HomeLine) → v ≡ Some w → x ≢ w.0) → row_of q.home x ≡ row_of p.home x → SameAt p q x
  same x own_x apart row =
      let then : SameAt p e x = leaves.same x own_x apart in
      record { row = row; copies = then.copies; instructions = then.instructions; bytes = λ inside_x. same_bytes x ∙ then.bytes inside_x }

  same_marks : q.home.marks ≡ p.home.marks
  unfolding brought_in
  same_marks = ap (λ (h : HomeState). h.marks) leaves.home

  row_line : row_at q.home line ≡ Some nobody
  row_line = row_now line ∙ row_filled_same p are line

  as_it_was : (x : ℕ) → (o : Option HomeLine) → o ≡ row_at p.home x → unwrap_or o nobody ≡ row_of p.home x
  as_it_was x o e = ap (λ (o : Option HomeLine). unwrap_or o nobody) e

  valid : (x : ℕ) → IsOwn p x → (k : ℕ) (copy : Copy) → copy_of p k x ≡ Some copy → is_valid copy.letter ≡ true
  valid x own_x k copy is = (copy_valid p are k x copy own_x is)

  marked : (x k : ℕ) → is_marked_by_others p.home.marks k x ≡ false → is_marked_by_others q.home.marks k x ≡ false
  marked x k h = subst (λ marks. is_marked_by_others marks k x ≡ false) (sym same_marks) h

  -- a line whose row stays
  stays : (x : ℕ) → IsOwn p x → ((w : ℕ × HomeLine) → v ≡ Some w → x ≢ w.0) → row_at (brought_in line p.home) x ≡ row_at p.home x → LineFits q x
  stays x own_x apart row =
      let row_is : row_at q.home x ≡ row_at p.home x = row_now x ∙ row in
      carry p q x keeps (same x own_x apart (as_it_was x (row_at q.home x) row_is)) (marked x) (line_of_parts p are x own_x) (valid x own_x)
      (λ t. memory_in p q keeps x (are.lines x (subst (λ (o : Option HomeLine). IsSome o) row_is t)).1)

  line_fits : LineFits q line
  line_fits =
      let row : row_of q.home line ≡ row_of p.home line = ap (λ (o : Option HomeLine). unwrap_or o nobody) row_line ∙ sym (ap (λ (o : Option HomeLine). unwrap_or o nobody) none) in
      carry p q line keeps (same line own (λ w is z. other_victim w is (sym z)) row) (marked line) (line_of_parts p are line own) (valid line own) (λ _. memory_in p q keeps line inside)

  lines_by : (o : Option (ℕ × HomeLine)) → v ≡ o → (x : ℕ) → IsOwn p x → x ≢ line → LineFits q x
  lines_by None is x own_x apart =
      stays x own_x (λ w k. let bad : None ≡ Some w = sym is ∙ k in absurd cc) (row_filled_room p are line x is apart)
  lines_by (Some w) is x own_x apart =
      elim (cases_eq x w.0) as (λ _. LineFits q x) [
        | inl z ↦
            subst (λ (y : ℕ). LineFits q y) (sym z)
            (empty_fits q w.0 (row_now w.0 ∙ row_filled_victim p are line w is (other_victim w is)) (leaves.copies w is) (leaves.instructions w is))
        | inr z ↦ stays x own_x (λ u k. let one : w ≡ u = same_some w u (sym is ∙ k) in λ y. z (y ∙ sym (ap (λ (t : ℕ × HomeLine). t.0) one))) (row_filled_other p are line x w is apart z)
      ] where
        same_some : (a b : ℕ × HomeLine) → Some a ≡ Some b → a ≡ b
        same_some a b e = cc

  lines : (x : ℕ) → IsOwn q x → LineFits q x
  lines x own_now =
      let own_x : IsOwn p x = sym (ap (λ (z : ℕ). x % z) keeps.bank.count) ∙ (own_now ∙ keeps.bank.number) in
      elim (cases_eq x line) as (λ _. LineFits q x) [
        | inl z ↦ subst (λ (y : ℕ). LineFits q y) (sym z) line_fits
        | inr z ↦ lines_by v refl x own_x z
      ]

  rows_by : (o : Option (ℕ × HomeLine)) → v ≡ o → (x : ℕ) → x ≢ line → IsSome (row_at q.home x) → IsOwn p x
  rows_by None is x apart t =
      (are.lines x (subst (λ (o : Option HomeLine). IsSome o) (row_now x ∙ row_filled_room p are line x is apart) t)).0
  rows_by (Some w) is x apart t =
      elim (cases_eq x w.0) as (λ _. IsOwn p x) [
        | inl z ↦
            let gone : row_at q.home x ≡ None = ap (row_at q.home) z ∙ (row_now w.0 ∙ row_filled_victim p are line w is (other_victim w is)) in
            absurd (not_there (row_at q.home x) gone t)
        | inr z ↦ (are.lines x (subst (λ (o : Option HomeLine). IsSome o) (row_now x ∙ row_filled_other p are line x w is apart z) t)).0
      ]

  own_rows : (x : ℕ) → IsSome (row_at q.home x) → IsOwn q x
  own_rows x t =
      own_in p q keeps.bank x
      (elim (cases_eq x line) as (λ _. IsOwn p x) [ inl z ↦ subst (λ (y : ℕ). IsOwn p y) (sym z) own | inr z ↦ rows_by v refl x z t ])

  coherent : AreCoherent (caches_seen (brought_home line p)) × HaveRoomForLines (caches_seen (brought_home line p))
  coherent =
      let in_l2 = in_l2_seen p line ∙ ap (λ (o : Option HomeLine). is_some o) none in
      let stays = laws.filled (caches_seen p) line are.coherent are.room (subst (λ (z : ℕ). 0 < z) (sym (cores_seen p)) are.cores.0) in_l2 in
      (subst AreCoherent (sym (home_seen p are line)) stays.0, subst HaveRoomForLines (sym (home_seen p are line)) stays.1)

  newest : (x : ℕ) → IsOwn p x → IsInMemory p.home x → newest_in x (bytes_at q.home x) q.l1s ≡ newest_in x (bytes_at p.home x) p.l1s
  newest x own_x inside_x = ap (λ (b : List ℕ). newest_in x b e.l1s) (same_bytes x) ∙ leaves.newest x own_x inside_x

  pub brought_begins : Begun p (brought_home line p) line nobody
  unfolding brought_home
  brought_begins = record {
    keeps = keeps;
    parts = parts_of_lines p q are keeps coherent.0 coherent.1 own_rows lines;
    marks = same_marks;
    stands = row_line;
    copies = (leaves.same line own (λ w is z. other_victim w is (sym z))).copies;
    instructions = (leaves.same line own (λ w is z. other_victim w is (sym z))).instructions;
    newest = newest;
  }
