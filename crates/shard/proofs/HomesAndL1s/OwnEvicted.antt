-- What the home has after a core's own L1 let a line go for another.
use Rattle.std.proofs.Common.{◌≡◌, ◌≢◌, ℕ, ◌%◌, ◌<◌, Bool, true, false, cond, List, length, Option, Some, refl, sym, ap, ◌∙◌}
use Rattle.zs_num.specs.Request.{line_bytes}
use Rattle.shard.specs.Coherence.{is_modified}
use Rattle.home.specs.HomeState.{HomeLine, HomeState, bytes_at, dropped_in, marked_dirty_in, row_at, with_bytes_at}
use Rattle.mesi_dir.specs.CoreSets.{without_core}
use Rattle.l1_cache.specs.L1State.{Copy, newer_bytes}
use Rattle.shard.specs.PartsLaws.{IsInMemory}
use Rattle.shard.specs.SharedStep.{Bank, collected, copy_of, with_home}
use Rattle.shard.proofs.HomesAndL1s.BytesSeen.{bytes_other_line, bytes_same_line}
use Rattle.shard.proofs.HomesAndL1s.Fit.{AreFit, fit_home}
use Rattle.shard.proofs.HomesAndL1s.LineFits.{KeepsBank}
use Rattle.shard.proofs.HomesAndL1s.NewestStays.{long_still}
use Rattle.shard.proofs.HomesAndL1s.Rows.{row_other, row_there}

abbrev pub evicted_where : (b : Bool) → (v core : ℕ) → Bank → Bank
evicted_where b v core l = with_home (dropped_in v core) (cond b (with_home (marked_dirty_in v) (collected v core l)) l)

rows_with : (v : ℕ) (bytes : List ℕ) (home : HomeState) (x : ℕ) → row_at (with_bytes_at v bytes home) x ≡ row_at home x
unfolding with_bytes_at row_at
rows_with v bytes home x = refl

abbrev drop : ℕ → HomeLine → HomeLine
drop core row = record row { sharers = without_core core row.sharers; alone = false }

abbrev dirt : HomeLine → HomeLine
dirt row = record row { dirty = true }

module _ (v core : ℕ) (l : Bank) where
  abbrev came : List ℕ
  came = newer_bytes (copy_of l core v) (bytes_at l.home v)

  pub evicted_rows : (b : Bool) (x : ℕ) → x ≢ v → row_at (evicted_where b v core l).home x ≡ row_at l.home x
  unfolding dropped_in marked_dirty_in
  evicted_rows true x apart =
      row_other v (drop core) (marked_dirty_in v (with_bytes_at v came l.home)) x apart
      ∙ (row_other v dirt (with_bytes_at v came l.home) x apart ∙ rows_with v came l.home x)
  evicted_rows false x apart = row_other v (drop core) l.home x apart

  pub evicted_row : (b : Bool) (row : HomeLine) → row_at l.home v ≡ Some row
      → (r : HomeLine) × (row_at (evicted_where b v core l).home v ≡ Some r) × (r.sharers ≡ without_core core row.sharers) × (r.alone ≡ false) × (r.fetchers ≡ row.fetchers)
  unfolding dropped_in marked_dirty_in
  evicted_row true row e =
      (drop core (dirt row), row_there v (drop core) (marked_dirty_in v (with_bytes_at v came l.home)) (dirt row) (row_there v dirt (with_bytes_at v came l.home) row (rows_with v came l.home v ∙ e)), refl, refl, refl)
  evicted_row false row e = (drop core row, row_there v (drop core) l.home row e, refl, refl, refl)

  bytes_are : (home : HomeState) (bytes : List ℕ) (x : ℕ) → bytes_at (dropped_in v core (marked_dirty_in v (with_bytes_at v bytes home))) x ≡ bytes_at (with_bytes_at v bytes home) x
  unfolding dropped_in marked_dirty_in bytes_at with_bytes_at
  bytes_are home bytes x = refl

  bytes_were : (home : HomeState) (x : ℕ) → bytes_at (dropped_in v core home) x ≡ bytes_at home x
  unfolding dropped_in bytes_at
  bytes_were home x = refl

  module _ (inside : IsInMemory l.home v) (long : length came ≡ line_bytes) where
    pub evicted_bytes : (b : Bool) (x : ℕ) → 0 < l.home.shards → IsInMemory l.home x → v % l.home.shards ≡ x % l.home.shards → v ≢ x → bytes_at (evicted_where b v core l).home x ≡ bytes_at l.home x
    evicted_bytes true x some inside_x same apart = bytes_are l.home came x ∙ bytes_other_line l.home v x came some inside inside_x same apart long
    evicted_bytes false x some inside_x same apart = bytes_were l.home x

    pub evicted_here : (b : Bool) (copy : Copy) → copy_of l core v ≡ Some copy → is_modified copy.letter ≡ b → bytes_at (evicted_where b v core l).home v ≡ came
    evicted_here true copy e m = bytes_are l.home came v ∙ bytes_same_line l.home v came inside long
    evicted_here false copy e m =
        bytes_were l.home v ∙ sym (ap (λ (o : Option Copy). newer_bytes o (bytes_at l.home v)) e ∙ ap (λ (b : Bool). cond b copy.bytes (bytes_at l.home v)) m)

    pub evicted_long : (b : Bool) → length (evicted_where b v core l).home.bytes ≡ length l.home.bytes
    unfolding dropped_in marked_dirty_in
    evicted_long true = long_still l.home v came inside long
    evicted_long false = refl

    pub evicted_keeps : AreFit l → (b : Bool) → KeepsBank l (evicted_where b v core l)
    unfolding dropped_in marked_dirty_in with_bytes_at
    evicted_keeps fit true = record {
      bank = record { count = refl; number = refl; cores = refl; fit = fit_home l (evicted_where true v core l).home fit refl refl };
      base = refl;
      size = refl;
      marks = refl;
      long = evicted_long true;
    }
    evicted_keeps fit false = record {
      bank = record { count = refl; number = refl; cores = refl; fit = fit_home l (evicted_where false v core l).home fit refl refl };
      base = refl;
      size = refl;
      marks = refl;
      long = refl;
    }

  pub evicted_marks : (b : Bool) → (evicted_where b v core l).home.marks ≡ l.home.marks
  unfolding dropped_in marked_dirty_in with_bytes_at
  evicted_marks true = refl
  evicted_marks false = refl

  pub evicted_l1s : (b : Bool) → (evicted_where b v core l).l1s ≡ l.l1s
  evicted_l1s true = refl
  evicted_l1s false = refl
