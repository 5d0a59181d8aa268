-- What is read of parts is what the shard of a line has.
use Rattle.std.proofs.Common.{◌≡◌, ℕ, ◌+◌, ◌%◌, ◌<◌, ◌≤◌, false, List, [], ◌∷◌, ◌++◌, length, get_or, Option, Some, None, refl, sym, ap, ◌∙◌, subst, mod-lt, arith}
use Rattle.std.specs.Prelude.{option_map}
use Rattle.std.proofs.lemmas.List.{get_or_past}
use Rattle.zs_num.specs.Request.{bank_of_line, line_at, line_bytes}
use Rattle.zs_num.specs.declared.request.Request.TheVariants.{Load}
use Rattle.cache_set.specs.declared.letter.Letter.TheVariants.{I}
use Rattle.home.specs.HomeState.{HomeLine, HomeState, KeepsLine, bytes_at, row_at}
use Rattle.l1_cache.specs.L1State.{L1State, copy_at, has_instructions, letter_of, newer_bytes, no_l1, place_in_line}
use Rattle.shard.specs.Coherence.{dirty_at, fetch_holds, letter_at}
use Rattle.shard.specs.PartsLaws.{AreAllParts, AreParts, IsAsked, IsInMemory, IsOwn}
use Rattle.shard.specs.Seen.{PartsState, bank_at, caches_seen, newest_in, no_home, shard_seen, shards_seen}
use Rattle.shard.specs.Served.{ShardState, no_shard, place_of, shard_of_line}
use Rattle.shard.specs.SharedStep.{Bank, l1_of, own_letter}
use Rattle.shard.proofs.HomesAndL1s.AccessBytes.{asked_inside, byte_seen}
use Rattle.shard.proofs.HomesAndL1s.CanGive.{bytes_long}
use Rattle.shard.proofs.HomesAndL1s.FitOf.{fit_of}
use Rattle.shard.proofs.HomesAndL1s.Gets.{any_default, got}
use Rattle.shard.proofs.HomesAndL1s.LettersSeen.{holds_seen, letter_seen}
use Rattle.shard.proofs.HomesAndL1s.PartsServe.{shard_at, shards_long}
use Rattle.shard.proofs.HomesAndL1s.RowsSeen.{dirty_of, see_maybe}
use Rattle.shard.proofs.HomesAndL1s.Victims.{dirty_seen}

-- the number that the code has for the bank
pub bank_by : (n many line i : ℕ) → i ≡ line % n → n ≡ many → i ≡ bank_of_line many line
bank_by n many line i is n_is = is ∙ ap (λ (k : ℕ). line % k) n_is

as_option : (o : Option HomeLine) → see_maybe dirty_of o ≡ option_map (λ row. row.dirty) o
as_option None = refl
as_option (Some row) = refl

module _ (w : PartsState) (are : AreAllParts w) (line : ℕ) where
  abbrev bank : ℕ
  bank = bank_of_line (length w.homes) line

  abbrev p : Bank
  p = bank_at w bank

  abbrev s : ShardState
  s = shard_of_line (shards_seen w) line

  abbrev seen : ShardState
  seen = shard_seen p (get_or w.lasts bank 0)

  pub line_bank : bank < length w.homes
  line_bank = mod-lt line are.some

  pub shard_is : s ≡ seen
  shard_is = ap (λ (n : ℕ). get_or (shards_seen w) (bank_of_line n line) no_shard) (shards_long w) ∙ shard_at w bank line_bank

  pub line_parts : AreParts p
  line_parts = are.parts bank line_bank

  pub line_own : IsOwn p line
  line_own =
      let named = are.number bank p.home (got w.homes bank no_home line_bank) in
      ap (λ (n : ℕ). bank_of_line n line) named.1 ∙ sym named.0

  pub letter_is : (core : ℕ) → letter_at s.caches core line ≡ own_letter p core line
  unfolding shard_seen
  letter_is core = ap (λ (x : ShardState). letter_at x.caches core line) shard_is ∙ letter_seen p (fit_of p line_parts) core line line_own

  pub fetch_is : (core : ℕ) → fetch_holds s.caches core line ≡ has_instructions (l1_of p core) line
  unfolding shard_seen
  fetch_is core = ap (λ (x : ShardState). fetch_holds x.caches core line) shard_is ∙ holds_seen p (fit_of p line_parts) core line line_own

  pub dirty_is : dirty_at s.caches line ≡ option_map (λ row. row.dirty) (row_at p.home line)
  unfolding shard_seen
  dirty_is = ap (λ (x : ShardState). dirty_at x.caches line) shard_is ∙ (dirty_seen p line ∙ as_option (row_at p.home line))

  -- from what the code knows of an L1 and of the home
  pub letter_here : (core : ℕ) (l1 : L1State) → core < length w.l1s → l1 ≡ get_or w.l1s core l1 → letter_of (copy_at l1 line) ≡ letter_at s.caches core line
  letter_here core l1 within is = ap (λ (x : L1State). letter_of (copy_at x line)) (is ∙ any_default w.l1s core l1 no_l1 within) ∙ sym (letter_is core)

  pub letter_past : (core : ℕ) → length w.l1s ≤ core → I ≡ letter_at s.caches core line
  unfolding copy_at
  letter_past core past = sym (letter_is core ∙ ap (λ (x : L1State). letter_of (copy_at x line)) (get_or_past w.l1s core no_l1 past))

  pub fetch_here : (core : ℕ) (l1 : L1State) → core < length w.l1s → l1 ≡ get_or w.l1s core l1 → has_instructions l1 line ≡ fetch_holds s.caches core line
  fetch_here core l1 within is = ap (λ (x : L1State). has_instructions x line) (is ∙ any_default w.l1s core l1 no_l1 within) ∙ sym (fetch_is core)

  pub fetch_past : (core : ℕ) → length w.l1s ≤ core → false ≡ fetch_holds s.caches core line
  unfolding has_instructions
  fetch_past core past = sym (fetch_is core ∙ ap (λ (x : L1State). has_instructions x line) (get_or_past w.l1s core no_l1 past))

  module _ (i : ℕ) (is : i ≡ bank) (home : HomeState) (home_is : home ≡ get_or w.homes i home) where
    pub home_here : home ≡ p.home
    home_here = home_is ∙ (any_default w.homes i home no_home (subst (λ (k : ℕ). k < length w.homes) (sym is) line_bank) ∙ ap (λ (k : ℕ). get_or w.homes k no_home) is)

    pub dirty_here : (row : Option HomeLine) → row ≡ row_at home line → option_map (λ row. row.dirty) row ≡ dirty_at s.caches line
    dirty_here row e = ap (option_map (λ row. row.dirty)) (e ∙ ap (λ (h : HomeState). row_at h line) home_here) ∙ sym dirty_is

-- ---- a byte
module _ (w : PartsState) (are : AreAllParts w) (addr : ℕ) where
  abbrev line : ℕ
  line = line_at addr

  abbrev q : Bank
  q = bank_at w (bank_of_line (length w.homes) line)

  abbrev last : ℕ
  last = get_or w.lasts (bank_of_line (length w.homes) line) 0

  module _ (now : List ShardState) (view : shards_seen w ≡ now) (begins : (shard_of_line now line).base ≤ addr) (ends : addr < (shard_of_line now line).base + (shard_of_line now line).size) where
    kept_is : shard_of_line now line ≡ shard_seen q last
    kept_is = ap (λ (shards : List ShardState). shard_of_line shards line) (sym view) ∙ shard_is w are line

    asked : IsAsked q 0 (Load 1 addr)
    unfolding shard_seen
    asked =
        let from : (shard_seen q last).base ≤ addr = subst (λ (x : ShardState). x.base ≤ addr) kept_is begins in
        let to : addr < (shard_seen q last).base + (shard_seen q last).size = subst (λ (x : ShardState). addr < x.base + x.size) kept_is ends in
        record {
          known = (line_parts w are line).cores.0;
          servable = record { some = omega arith; few = omega arith; begins = from; ends = omega (arith, to); in_line = omega arith; aligned = tt; fetched = tt };
          own = line_own w are line;
        }

    inside : IsInMemory q.home line
    inside = asked_inside q (line_parts w are line) 0 (Load 1 addr) asked

    byte_is : get_or (shard_of_line now line).bytes (place_of (shard_of_line now line).caches.shards (shard_of_line now line).base addr) 0 ≡ get_or (newest_in line (bytes_at q.home line) q.l1s) (place_in_line addr) 0
    unfolding shard_seen caches_seen
    byte_is =
        ap (λ (x : ShardState). get_or x.bytes (place_of x.caches.shards x.base addr) 0) kept_is
        ∙ byte_seen q (line_parts w are line) 0 (Load 1 addr) asked

    -- from what the code knows of the home
    module _ (i : ℕ) (is : i ≡ bank_of_line (length w.homes) line) (home : HomeState) (home_is : home ≡ get_or w.homes i home) where
      home_at : home ≡ q.home
      home_at = home_here w are line i is home home_is

      pub line_kept : KeepsLine home line
      line_kept = subst (λ (h : HomeState). KeepsLine h line) (sym home_at) inside.1

      pub line_whole : length (bytes_at home line) ≡ line_bytes
      line_whole = bytes_long home line (subst (λ (h : HomeState). IsInMemory h line) (sym home_at) inside)

      pub byte_here : (byte : ℕ) → get_or (newest_in line (bytes_at home line) w.l1s) (place_in_line addr) 0 ≡ byte
          → byte ≡ get_or (shard_of_line now line).bytes (place_of (shard_of_line now line).caches.shards (shard_of_line now line).base addr) 0
      byte_here byte e = sym (byte_is ∙ (ap (λ (h : HomeState). get_or (newest_in line (bytes_at h line) w.l1s) (place_in_line addr) 0) (sym home_at) ∙ e))

-- the newest bytes, one L1 after the other
pub newest_more : (line : ℕ) (h : List ℕ) (l1s : List L1State) (l1 : L1State) → newest_in line h (l1s ++ l1 ∷ []) ≡ newer_bytes (copy_at l1 line) (newest_in line h l1s)
newest_more line h [] l1 = refl
newest_more line h (x ∷ l1s) l1 = newest_more line (newer_bytes (copy_at x line) h) l1s l1
