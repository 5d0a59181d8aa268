-- What parts have to be like, line by line.
use Rattle.std.proofs.Common.{◌≡◌, ℕ, ◌+◌, ◌-◌, ◌*◌, ◌/◌, ◌%◌, ◌^◌, ◌<◌, ◌≤◌, ◌⊎◌, true, false, List, length, get_or, Option, Some, None, refl, sym, ap, ◌∙◌, subst, arith, inl, inr}
use Rattle.std.specs.List.{range_with_len}
use Rattle.std.specs.Option.{unwrap_or}
use Rattle.std.specs.Prelude.{IsSome, nat_eq, slice_get}
use Rattle.std.specs.Set.{is_member}
use Rattle.std.proofs.lemmas.Bool.{cases_Bool}
use Rattle.zs_num.specs.Request.{line_bytes}
use Rattle.shard.specs.Coherence.{is_alone, is_modified, is_valid, letter_at, some_core}
use Rattle.home.specs.HomeState.{HomeLine, bytes_at, is_marked_by_others, nobody, row_at, row_of}
use Rattle.l1_cache.specs.L1State.{Copy, L1State, has_instructions, letter_of, no_l1}
use Rattle.shard.specs.PartsLaws.{AreAlike, AreParts, IsInMemory, IsOwn}
use Rattle.shard.specs.Seen.{caches_seen, newest_in}
use Rattle.home.specs.FirstBytes.{lines_kept}
use Rattle.shard.specs.SharedStep.{Bank, copy_of, l1_of, own_letter}
use Rattle.shard.specs.StandsFor.{AreCoherent, HaveRoomForLines}
use Rattle.shard.proofs.HomesAndL1s.Banks.{IsBankOf}
use Rattle.shard.proofs.HomesAndL1s.Decisions.{alone_valid, any_has, both_ways, contrary, cores_seen, known}
use Rattle.shard.proofs.HomesAndL1s.Fit.{AreFit}
use Rattle.shard.proofs.HomesAndL1s.FitOf.{fit_of}
use Rattle.shard.proofs.HomesAndL1s.Gets.{any_default, got_is}
use Rattle.shard.proofs.HomesAndL1s.LettersSeen.{letter_seen}
use Rattle.shard.proofs.HomesAndL1s.Newest.{newest_same}
use Rattle.shard.proofs.SomeCores.{some_core_false, some_core_true}

pub record LineFits (p : Bank) (x : ℕ) : Type 0 where
  pub memory : IsSome (row_at p.home x) → IsInMemory p.home x
  pub holds : (k : ℕ) → is_member nat_eq (row_of p.home x).sharers k ≡ is_valid (own_letter p k x)
  pub alone_some : (row_of p.home x).alone ≡ true → (k : ℕ) × (k < length p.l1s) × (is_alone (own_letter p k x) ≡ true)
  pub alone_none : (row_of p.home x).alone ≡ false → (k : ℕ) → is_alone (own_letter p k x) ≡ false
  pub fetches : (k : ℕ) → is_member nat_eq (row_of p.home x).fetchers k ≡ has_instructions (l1_of p k) x
  pub whole : (k : ℕ) (copy : Copy) → copy_of p k x ≡ Some copy → length copy.bytes ≡ line_bytes
  pub clean : (k : ℕ) (copy : Copy) → copy_of p k x ≡ Some copy → is_modified copy.letter ≡ false → copy.bytes ≡ bytes_at p.home x
  pub free : (k : ℕ) (copy : Copy) → copy_of p k x ≡ Some copy → copy.free ≡ true → (is_alone copy.letter ≡ true) × (is_marked_by_others p.home.marks k x ≡ false)

-- the bank is as it was, but for its lines
pub record KeepsBank (p q : Bank) : Type 0 where
  pub bank : IsBankOf p q
  pub base : q.home.base ≡ p.home.base
  pub size : q.home.size ≡ p.home.size
  pub marks : length q.home.marks ≡ length p.home.marks
  pub long : length q.home.bytes ≡ length p.home.bytes

abbrev Inside : (x n base long : ℕ) → Type 0
Inside x n base long = (base / line_bytes / n ≤ x / n) × (line_bytes * (x / n - base / line_bytes / n) + line_bytes ≤ long)

in_other : (x n base long m base_now long_now : ℕ) → m ≡ n → base_now ≡ base → long_now ≡ long → Inside x n base long → Inside x m base_now long_now
in_other x n base long m base_now long_now e f g h =
    subst (λ (z : ℕ). Inside x z base_now long_now) (sym e) (subst (λ (z : ℕ). Inside x n z long_now) (sym f) (subst (λ (z : ℕ). Inside x n base z) (sym g) h))

pub memory_in : (p q : Bank) → KeepsBank p q → (x : ℕ) → IsInMemory p.home x → IsInMemory q.home x
memory_in p q keeps x inside =
    in_other x p.home.shards p.home.base (length p.home.bytes) q.home.shards q.home.base (length q.home.bytes) keeps.bank.count keeps.base keeps.long inside

-- ---- from parts
module _ (p : Bank) (are : AreParts p) where
  range_has : (x : ℕ) → some_core is_alone (caches_seen p) x ≡ true → (k : ℕ) × (is_alone (letter_at (caches_seen p) k x) ≡ true)
  range_has x h =
      let has = any_has (λ k. is_alone (letter_at (caches_seen p) k x)) (range_with_len 0 (length (caches_seen p).l1)) h in
      (has.0, has.2)

  pub line_of_parts : (x : ℕ) → IsOwn p x → LineFits p x
  line_of_parts x own = record {
    memory = λ there. (are.lines x there).1;
    holds = λ k. are.holds k x own;
    alone_some = λ so.
        let has = range_has x (sym (are.alone x own) ∙ so) in
        let alone : is_alone (own_letter p has.0 x) ≡ true = ap is_alone (sym (letter_seen p (fit_of p are) has.0 x own)) ∙ has.1 in
        (has.0, known p are x own has.0 (alone_valid (own_letter p has.0 x) alone), alone);
    alone_none = λ not_so k. elim (cases_Bool (is_alone (own_letter p k x))) as (λ _. is_alone (own_letter p k x) ≡ false) [
      | inl so ↦
          absurd (contrary (some_core is_alone (caches_seen p) x)
          (some_core_true is_alone (caches_seen p) x k (longer k (known p are x own k (alone_valid (own_letter p k x) so))) (ap is_alone (letter_seen p (fit_of p are) k x own) ∙ so)) (sym (are.alone x own) ∙ not_so))
      | inr none ↦ none
    ];
    fetches = λ k. are.fetches k x own;
    whole = λ k copy e. are.whole k x copy own e;
    clean = λ k copy e not_so. are.clean k x copy own e not_so;
    free = λ k copy e free. ((are.free k x copy own e free).0, (are.free k x copy own e free).1);
  } where
    longer : (k : ℕ) → k < length p.l1s → k < length (caches_seen p).l1
    longer k l = omega (arith, cores_seen p)

-- ---- and back
alike_of : (p : Bank) → AreFit p → AreAlike p.home p.l1s
alike_of p fit = record {
  shards = λ k l1 at. subst (λ (x : L1State). (x.shards ≡ 1) ⊎ (x.shards ≡ p.home.shards)) (is k l1 at) (fit.each k (inside k l1 at)).shards;
  ways = λ k l1 at. (
    subst (λ (x : L1State). x.ways ≡ (l1_of p 0).ways) (is k l1 at) (fit.each k (inside k l1 at)).ways ∙ ap (λ (x : L1State). x.ways) (head k l1 at),
    subst (λ (x : L1State). x.l1i_ways ≡ (l1_of p 0).l1i_ways) (is k l1 at) (fit.each k (inside k l1 at)).l1i_ways ∙ ap (λ (x : L1State). x.l1i_ways) (head k l1 at),
  );
  sets = λ k l1 at. subst (λ (x : L1State). length x.sets * x.shards % p.home.shards ≡ 0) (is k l1 at) (fit.each k (inside k l1 at)).sets;
  l1i_sets = λ k l1 at. subst (λ (x : L1State). length x.l1i * x.shards % p.home.shards ≡ 0) (is k l1 at) (fit.each k (inside k l1 at)).l1i_sets;
  fetchers = λ k l1 at. subst (λ (x : L1State). length x.l1i ≡ length (l1_of p 0).l1i) (is k l1 at) (fit.each k (inside k l1 at)).fetchers ∙ ap (λ (x : L1State). length x.l1i) (head k l1 at);
} where
  inside : (k : ℕ) (l1 : L1State) → slice_get p.l1s k ≡ Some l1 → k < length p.l1s
  inside k l1 at = (got_is p.l1s k l1 no_l1 at).0

  is : (k : ℕ) (l1 : L1State) → slice_get p.l1s k ≡ Some l1 → l1_of p k ≡ l1
  is k l1 at = (got_is p.l1s k l1 no_l1 at).1

  head : (k : ℕ) (l1 : L1State) → slice_get p.l1s k ≡ Some l1 → get_or p.l1s 0 no_l1 ≡ get_or p.l1s 0 l1
  head k l1 at = let l = inside k l1 at in any_default p.l1s 0 no_l1 l1 (omega arith)

module _ (p q : Bank) (are : AreParts p) (keeps : KeepsBank p q) (coherent : AreCoherent (caches_seen q)) (room : HaveRoomForLines (caches_seen q))
    (own_rows : (x : ℕ) → IsSome (row_at q.home x) → IsOwn q x) (lines : (x : ℕ) → IsOwn q x → LineFits q x) where
  seen : (k x : ℕ) → IsOwn q x → letter_at (caches_seen q) k x ≡ own_letter q k x
  seen k x own = letter_seen q keeps.bank.fit k x own

  long_l1 : length (caches_seen q).l1 ≡ length q.l1s
  long_l1 = cores_seen q

  alone_is : (x : ℕ) → IsOwn q x → (row_of q.home x).alone ≡ some_core is_alone (caches_seen q) x
  alone_is x own =
      both_ways (row_of q.home x).alone (some_core is_alone (caches_seen q) x)
      (λ so. let has = (lines x own).alone_some so in
      some_core_true is_alone (caches_seen q) x has.0 (omega (arith, has.1, long_l1)) (ap is_alone (seen has.0 x own) ∙ has.2))
      (λ not_so. some_core_false is_alone (caches_seen q) x (λ k. ap is_alone (seen k x own) ∙ (lines x own).alone_none not_so k))

  some_bank : (0 < q.home.shards) × (q.home.number < q.home.shards) × (0 < q.home.size) × (q.home.base + q.home.size ≤ 2 ^ 48)
  some_bank = (
    keeps.bank.fit.some.0,
    keeps.bank.fit.some.1,
    subst (λ (z : ℕ). 0 < z) (sym keeps.size) are.some.2,
    subst (λ (z : ℕ). z + q.home.size ≤ 2 ^ 48) (sym keeps.base) (subst (λ (z : ℕ). p.home.base + z ≤ 2 ^ 48) (sym keeps.size) are.some.3),
  )

  bytes_long : length q.home.bytes ≡ line_bytes * lines_kept q.home.shards q.home.base q.home.size
  bytes_long =
      keeps.long
      ∙ (are.bytes
      ∙ (ap (λ (z : ℕ). line_bytes * lines_kept z p.home.base p.home.size) (sym keeps.bank.count)
      ∙ (ap (λ (z : ℕ). line_bytes * lines_kept q.home.shards z p.home.size) (sym keeps.base)
      ∙ ap (λ (z : ℕ). line_bytes * lines_kept q.home.shards q.home.base z) (sym keeps.size))))

  pub parts_of_lines : AreParts q
  parts_of_lines = record {
    some = some_bank;
    cores = (
      subst (λ (z : ℕ). 0 < z) (sym keeps.bank.cores) are.cores.0,
      subst (λ (z : ℕ). z ≤ 256) (sym keeps.bank.cores) are.cores.1,
      keeps.marks ∙ (are.cores.2 ∙ sym keeps.bank.cores),
    );
    alike = alike_of q keeps.bank.fit;
    bytes = bytes_long;
    coherent = coherent;
    room = room;
    lines = λ x there. (own_rows x there, (lines x (own_rows x there)).memory there);
    holds = λ k x own. (lines x own).holds k;
    alone = alone_is;
    fetches = λ k x own. (lines x own).fetches k;
    whole = λ k x copy own e. (lines x own).whole k copy e;
    clean = λ k x copy own e not_so. (lines x own).clean k copy e not_so;
    free = λ k x copy own e free. (lines x own).free k copy e free;
  }

-- ---- a line that a step does not concern
pub record SameAt (p q : Bank) (x : ℕ) : Type 0 where
  pub row : row_of q.home x ≡ row_of p.home x
  pub copies : (k : ℕ) → copy_of q k x ≡ copy_of p k x
  pub instructions : (k : ℕ) → has_instructions (l1_of q k) x ≡ has_instructions (l1_of p k) x
  pub bytes : IsInMemory p.home x → bytes_at q.home x ≡ bytes_at p.home x

pub same_at : (p : Bank) (x : ℕ) → SameAt p p x
same_at p x = record { row = refl; copies = λ k. refl; instructions = λ k. refl; bytes = λ _. refl }

pub same_then : (p q r : Bank) (x : ℕ) → KeepsBank p q → SameAt p q x → SameAt q r x → SameAt p r x
same_then p q r x keeps a b = record {
  row = b.row ∙ a.row;
  copies = λ k. b.copies k ∙ a.copies k;
  instructions = λ k. b.instructions k ∙ a.instructions k;
  bytes = λ inside. b.bytes (memory_in p q keeps x inside) ∙ a.bytes inside;
}

-- a line with a copy is in memory
pub copy_memory : (p : Bank) (x : ℕ) → LineFits p x → (k : ℕ) → is_valid (own_letter p k x) ≡ true → IsInMemory p.home x
copy_memory p x fits k valid = fits.memory (some_row (row_at p.home x) (fits.holds k ∙ valid)) where
  some_row : (o : Option HomeLine) → is_member nat_eq (unwrap_or o nobody).sharers k ≡ true → IsSome o
  some_row None h = absurd cc
  some_row (Some row) h = refl

pub newest_as : (p q : Bank) (x : ℕ) → KeepsBank p q → SameAt p q x → IsInMemory p.home x → newest_in x (bytes_at q.home x) q.l1s ≡ newest_in x (bytes_at p.home x) p.l1s
newest_as p q x keeps same inside =
    ap (λ (b : List ℕ). newest_in x b q.l1s) (same.bytes inside) ∙ newest_same x (bytes_at p.home x) q.l1s p.l1s keeps.bank.cores same.copies

module _ (p q : Bank) (x : ℕ) (keeps : KeepsBank p q) (same : SameAt p q x) (marked : (k : ℕ) → is_marked_by_others p.home.marks k x ≡ false → is_marked_by_others q.home.marks k x ≡ false) (fits : LineFits p x)
    (valid : (k : ℕ) (copy : Copy) → copy_of p k x ≡ Some copy → is_valid copy.letter ≡ true) (memory : IsSome (row_at q.home x) → IsInMemory q.home x) where
  letters : (k : ℕ) → own_letter q k x ≡ own_letter p k x
  letters k = ap letter_of (same.copies k)

  rows : row_of q.home x ≡ row_of p.home x
  rows = same.row

  pub carry : LineFits q x
  carry = record {
    memory = memory;
    holds = λ k. ap (λ (row : HomeLine). is_member nat_eq row.sharers k) rows ∙ (fits.holds k ∙ ap is_valid (sym (letters k)));
    alone_some = λ so.
        let has = fits.alone_some (sym (ap (λ (row : HomeLine). row.alone) rows) ∙ so) in
        (has.0, subst (λ (z : ℕ). has.0 < z) (sym keeps.bank.cores) has.1, ap is_alone (letters has.0) ∙ has.2);
    alone_none = λ not_so k. ap is_alone (letters k) ∙ fits.alone_none (sym (ap (λ (row : HomeLine). row.alone) rows) ∙ not_so) k;
    fetches = λ k. ap (λ (row : HomeLine). is_member nat_eq row.fetchers k) rows ∙ (fits.fetches k ∙ sym (same.instructions k));
    whole = λ k copy e. fits.whole k copy (sym (same.copies k) ∙ e);
    clean = λ k copy e not_so.
        let was : copy_of p k x ≡ Some copy = sym (same.copies k) ∙ e in
        fits.clean k copy was not_so ∙ sym (same.bytes (copy_memory p x fits k (ap (λ (o : Option Copy). is_valid (letter_of o)) was ∙ valid k copy was)));
    free = λ k copy e free.
        let was = fits.free k copy (sym (same.copies k) ∙ e) free in
        (was.0, marked k was.1);
  }

pub not_there : (o : Option HomeLine) → o ≡ None → IsSome o → ⊥
not_there None e h = cc
not_there (Some row) e h = cc

-- a line that nobody has, nor the L2
pub empty_fits : (p : Bank) (x : ℕ) → row_at p.home x ≡ None → ((k : ℕ) → copy_of p k x ≡ None) → ((k : ℕ) → has_instructions (l1_of p k) x ≡ false) → LineFits p x
empty_fits p x none copies instructions =
    let row : row_of p.home x ≡ nobody = ap (λ (o : Option HomeLine). unwrap_or o nobody) none in
    record {
      memory = λ there. absurd (not_there (row_at p.home x) none there);
      holds = λ k. ap (λ (r : HomeLine). is_member nat_eq r.sharers k) row ∙ sym (ap (λ (o : Option Copy). is_valid (letter_of o)) (copies k));
      alone_some = λ so. let bad : false ≡ true = sym (ap (λ (r : HomeLine). r.alone) row) ∙ so in absurd cc;
      alone_none = λ _ k. ap (λ (o : Option Copy). is_alone (letter_of o)) (copies k);
      fetches = λ k. ap (λ (r : HomeLine). is_member nat_eq r.fetchers k) row ∙ sym (instructions k);
      whole = λ k copy e. let bad : None ≡ Some copy = sym (copies k) ∙ e in absurd cc;
      clean = λ k copy e _. let bad : None ≡ Some copy = sym (copies k) ∙ e in absurd cc;
      free = λ k copy e _. let bad : None ≡ Some copy = sym (copies k) ∙ e in absurd cc;
    }
