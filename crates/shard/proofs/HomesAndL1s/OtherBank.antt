-- The other banks see nothing of an access.
use Rattle.std.proofs.Common.{◌≡◌, ◌≢◌, ℕ, suc, ◌+◌, ◌*◌, ◌%◌, ◌<◌, ◌++◌, cond, List, [], ◌∷◌, length, get_or, map, is_some, refl, sym, ap, ◌∙◌, subst, arith, inl, inr}
use Rattle.std.specs.List.{flat_map, range_with_len}
use Rattle.std.specs.Prelude.{nat_lt}
use Rattle.std.proofs.lemmas.Bool.{cases_lt}
use Rattle.std.proofs.lemmas.List.{get_or_past}
use Rattle.std.proofs.lemmas.List.Concat.{flat_map-cons}
use Rattle.std.proofs.lemmas.Nat.{mod-mul-add}
use Rattle.zs_num.specs.Request.{line_of}
use Rattle.zs_num.specs.declared.request.Request.{Request}
use Rattle.cache_set.specs.Ways.{kept_of}
use Rattle.cache_set.specs.declared.letter.Letter.{Letter}
use Rattle.shard.specs.Coherence.{Caches, is_alone, is_valid, some_core}
use Rattle.home.specs.HomeState.{HomeState, bytes_at}
use Rattle.l1_cache.specs.L1State.{L1State, copy_at, has_instructions, letter_of, no_l1}
use Rattle.cache_set.specs.Lines.{set_of}
use Rattle.shard.specs.PartsLaws.{AreAlike, AreParts, AreWhole, IsAsked, IsOwn, OtherBank}
use Rattle.shard.specs.Seen.{bytes_seen, caches_seen, instructions_seen, letters_in, newest_in, part_of, sets_seen, shard_seen}
use Rattle.shard.specs.Served.{ShardState}
use Rattle.home.specs.FirstBytes.{lines_below, lines_kept}
use Rattle.shard.specs.SharedStep.{Bank, bank_after}
use Rattle.shard.specs.StandsFor.{AreCoherent, HaveRoomForLines}
use Rattle.shard.proofs.HomesAndL1s.Gets.{any_default, got, got_is}
use Rattle.shard.proofs.HomesAndL1s.Newest.{newest_same}
use Rattle.shard.proofs.HomesAndL1s.PartOf.{part_sets, whole_reads}
use Rattle.shard.proofs.HomesAndL1s.Unseen.{AreSeen, IsSeenAs, seen_after}
use Rattle.shard.proofs.HomesAndL1s.Victims.{victim_own}

pub map_as : {X Y : Type 0} (d : X) (f : X → Y) (a b : List X) → length a ≡ length b → ((k : ℕ) → f (get_or a k d) ≡ f (get_or b k d)) → map f a ≡ map f b
map_as d f [] [] l same = refl
map_as d f [] (y ∷ b) l same = absurd (omega arith)
map_as d f (x ∷ a) [] l same = absurd (omega arith)
map_as d f (x ∷ a) (y ∷ b) l same = ap (λ z. z ∷ map f a) (same 0) ∙ ap (λ zs. f y ∷ zs) (map_as d f a b (omega arith) (λ k. same (suc k)))

pub flat_as : (f g : ℕ → List ℕ) (h : ℕ → ℕ) (ks : List ℕ) → ((k : ℕ) → f (h k) ≡ g (h k)) → flat_map f (map h ks) ≡ flat_map g (map h ks)
flat_as f g h [] same = refl
flat_as f g h (k ∷ ks) same =
    flat_map-cons f (h k) (map h ks)
    ∙ (ap (λ (x : List ℕ). x ++ flat_map f (map h ks)) (same k)
    ∙ (ap (λ (x : List ℕ). g (h k) ++ x) (flat_as f g h ks same)
    ∙ sym (flat_map-cons g (h k) (map h ks))))

-- ---- one L1 that is seen as another was
module _ (n o : ℕ) (some : 0 < n) (below : o < n) (was l1 : L1State) (seen : IsSeenAs n o was l1) (whole : was.shards ≡ 1) where
  pub sets_same : part_sets l1.shards n o l1.sets ≡ part_sets was.shards n o was.sets
  sets_same = ap (λ (z : ℕ). part_sets z n o l1.sets) seen.shards ∙ (seen.sets ∙ sym (ap (λ (z : ℕ). part_sets z n o was.sets) whole))

  pub l1i_same : part_sets l1.shards n o l1.l1i ≡ part_sets was.shards n o was.l1i
  l1i_same = ap (λ (z : ℕ). part_sets z n o l1.l1i) seen.shards ∙ (seen.l1i ∙ sym (ap (λ (z : ℕ). part_sets z n o was.l1i) whole))

  pub copy_same : (line : ℕ) → line % n ≡ o → copy_at l1 line ≡ copy_at was line
  unfolding copy_at
  copy_same line own =
      ap (kept_of line)
      (ap (λ (z : ℕ). set_of z line l1.sets) seen.shards
      ∙ (sym (whole_reads n o some below l1.sets (ap (λ (z : ℕ). z * 1 % n) seen.long ∙ seen.fits) line own)
      ∙ (ap (set_of n line) seen.sets
      ∙ (whole_reads n o some below was.sets seen.fits line own
      ∙ sym (ap (λ (z : ℕ). set_of z line was.sets) whole)))))

  pub instructions_same : (line : ℕ) → line % n ≡ o → has_instructions l1 line ≡ has_instructions was line
  unfolding has_instructions
  instructions_same line own =
      ap (λ s. is_some (kept_of line s))
      (ap (λ (z : ℕ). set_of z line l1.l1i) seen.shards
      ∙ (sym (whole_reads n o some below l1.l1i (ap (λ (z : ℕ). z * 1 % n) seen.l1i_long ∙ seen.l1i_fits) line own)
      ∙ (ap (set_of n line) seen.l1i
      ∙ (whole_reads n o some below was.l1i seen.l1i_fits line own
      ∙ sym (ap (λ (z : ℕ). set_of z line was.l1i) whole)))))

-- ---- a bank whose L1s are seen as they were
module _ (home : HomeState) (l1s start : List L1State) (are : AreParts (record { home = home; l1s = start })) (whole : AreWhole start)
    (seen : AreSeen home.shards home.number are.some.0 are.some.1 start l1s) where
  abbrev pub now : Bank
  now = record { home = home; l1s = l1s }

  abbrev pub before : Bank
  before = record { home = home; l1s = start }

  whole_at : (k : ℕ) → (get_or start k no_l1).shards ≡ 1
  whole_at k =
      elim (cases_lt k (length start)) as (λ _. (get_or start k no_l1).shards ≡ 1) [
        | inl l ↦ whole k (get_or start k no_l1) (got start k no_l1 l)
        | inr past ↦ ap (λ (l1 : L1State). l1.shards) (get_or_past start k no_l1 past)
      ]

  copies_are : (k line : ℕ) → line % home.shards ≡ home.number → copy_at (get_or l1s k no_l1) line ≡ copy_at (get_or start k no_l1) line
  copies_are k line own = copy_same home.shards home.number are.some.0 are.some.1 (get_or start k no_l1) (get_or l1s k no_l1) (seen.each k) (whole_at k) line own

  sets_are : map (sets_seen home) l1s ≡ map (sets_seen home) start
  sets_are =
      map_as no_l1 (sets_seen home) l1s start seen.cores
      (λ k. ap (map letters_in) (sets_same home.shards home.number are.some.0 are.some.1 (get_or start k no_l1) (get_or l1s k no_l1) (seen.each k) (whole_at k)))

  l1i_are : instructions_seen home l1s ≡ instructions_seen home start
  l1i_are =
      let each : L1State → List (List (ℕ × Unit {0})) = λ l1. (part_of home.shards home.number l1).l1i in
      ap (λ (z : ℕ). cond (nat_lt 0 z) (map each l1s) []) (seen.each 0).l1i_long
      ∙ ap (λ m. cond (nat_lt 0 (length (get_or start 0 no_l1).l1i)) m [])
      (map_as no_l1 each l1s start seen.cores
      (λ k. l1i_same home.shards home.number are.some.0 are.some.1 (get_or start k no_l1) (get_or l1s k no_l1) (seen.each k) (whole_at k)))

  abbrev made : (l1_ways l1i_ways : ℕ) → List (List (List (ℕ × Letter))) → List (List (List (ℕ × Unit {0}))) → Caches
  made l1_ways l1i_ways l1 l1i = record {
    shards = home.shards;
    l1_ways = l1_ways;
    l1i_ways = l1i_ways;
    l2_ways = home.ways;
    l1 = l1;
    l1i = l1i;
    l2 = map (λ rows. map (λ way. (way.0, way.1.dirty)) rows) home.sets;
  }

  pub caches_same : caches_seen now ≡ caches_seen before
  unfolding caches_seen
  caches_same =
      let a : L1State = get_or l1s 0 no_l1 in
      let b : L1State = get_or start 0 no_l1 in
      ap (λ (w : ℕ). made w a.l1i_ways (map (sets_seen home) l1s) (instructions_seen home l1s)) (seen.each 0).ways
      ∙ (ap (λ (w : ℕ). made b.ways w (map (sets_seen home) l1s) (instructions_seen home l1s)) (seen.each 0).l1i_ways
      ∙ (ap (λ l1. made b.ways b.l1i_ways l1 (instructions_seen home l1s)) sets_are
      ∙ ap (λ l1i. made b.ways b.l1i_ways (map (sets_seen home) start) l1i) l1i_are))

  pub bytes_same : bytes_seen now ≡ bytes_seen before
  unfolding bytes_seen
  bytes_same =
      let line_is : ℕ → ℕ = λ k. (lines_below home.shards home.base + k) * home.shards + home.number in
      flat_as (λ line. newest_in line (bytes_at home line) l1s) (λ line. newest_in line (bytes_at home line) start) line_is
      (range_with_len 0 (lines_kept home.shards home.base home.size))
      (λ k. newest_same (line_is k) (bytes_at home (line_is k)) l1s start seen.cores
      (λ core. copies_are core (line_is k) (mod-mul-add (lines_below home.shards home.base + k) home.shards home.number are.some.1)))

  abbrev state : Caches → (bytes : List ℕ) → (last : ℕ) → ShardState
  state c bytes last = record { number = home.number; base = home.base; size = home.size; caches = c; bytes = bytes; marks = home.marks; last = last }

  pub shard_same : (last : ℕ) → shard_seen now last ≡ shard_seen before last
  unfolding shard_seen
  shard_same last =
      ap (λ (c : Caches). state c (bytes_seen now) last) caches_same ∙ ap (λ (b : List ℕ). state (caches_seen before) b last) bytes_same

  first_default : (l1 : L1State) (core : ℕ) → core < length l1s → get_or l1s 0 l1 ≡ get_or l1s 0 no_l1
  first_default l1 core l = any_default l1s 0 l1 no_l1 (omega arith)

  alike_still : AreAlike home l1s
  alike_still = record {
    shards = λ core l1 at. inl (sym (ap (λ (x : L1State). x.shards) (got_is l1s core l1 no_l1 at).1) ∙ (seen.each core).shards);
    ways = λ core l1 at.
        let within : core < length start = omega (arith, (got_is l1s core l1 no_l1 at).0, seen.cores) in
        let s : L1State = get_or start core no_l1 in
        let was = are.alike.ways core s (got start core no_l1 within) in
        let is : get_or l1s core no_l1 ≡ l1 = (got_is l1s core l1 no_l1 at).1 in
        let first : get_or start 0 s ≡ get_or start 0 no_l1 = any_default start 0 s no_l1 (omega arith) in
        let first_now : get_or l1s 0 l1 ≡ get_or l1s 0 no_l1 = first_default l1 core (got_is l1s core l1 no_l1 at).0 in (
          sym (ap (λ (x : L1State). x.ways) is) ∙ ((seen.each core).ways ∙ (was.0 ∙ (ap (λ (x : L1State). x.ways) first ∙ (sym (seen.each 0).ways ∙ sym (ap (λ (x : L1State). x.ways) first_now))))),
          sym (ap (λ (x : L1State). x.l1i_ways) is) ∙ ((seen.each core).l1i_ways ∙ (was.1 ∙ (ap (λ (x : L1State). x.l1i_ways) first ∙ (sym (seen.each 0).l1i_ways ∙ sym (ap (λ (x : L1State). x.l1i_ways) first_now))))),
        );
    sets = λ core l1 at.
        let is : get_or l1s core no_l1 ≡ l1 = (got_is l1s core l1 no_l1 at).1 in
        subst (λ (x : L1State). length x.sets * x.shards % home.shards ≡ 0) is
        (ap (λ (z : ℕ). length (get_or l1s core no_l1).sets * z % home.shards) (seen.each core).shards ∙ (ap (λ (z : ℕ). z * 1 % home.shards) (seen.each core).long ∙ (seen.each core).fits));
    l1i_sets = λ core l1 at.
        let is : get_or l1s core no_l1 ≡ l1 = (got_is l1s core l1 no_l1 at).1 in
        subst (λ (x : L1State). length x.l1i * x.shards % home.shards ≡ 0) is
        (ap (λ (z : ℕ). length (get_or l1s core no_l1).l1i * z % home.shards) (seen.each core).shards ∙ (ap (λ (z : ℕ). z * 1 % home.shards) (seen.each core).l1i_long ∙ (seen.each core).l1i_fits));
    fetchers = λ core l1 at.
        let within : core < length start = omega (arith, (got_is l1s core l1 no_l1 at).0, seen.cores) in
        let s : L1State = get_or start core no_l1 in
        let is : get_or l1s core no_l1 ≡ l1 = (got_is l1s core l1 no_l1 at).1 in
        let first : get_or start 0 s ≡ get_or start 0 no_l1 = any_default start 0 s no_l1 (omega arith) in
        let first_now : get_or l1s 0 l1 ≡ get_or l1s 0 no_l1 = first_default l1 core (got_is l1s core l1 no_l1 at).0 in
        sym (ap (λ (x : L1State). length x.l1i) is) ∙ ((seen.each core).l1i_long ∙ (are.alike.fetchers core s (got start core no_l1 within) ∙ (ap (λ (x : L1State). length x.l1i) first ∙ (sym (seen.each 0).l1i_long ∙ sym (ap (λ (x : L1State). length x.l1i) first_now)))));
  }

  pub parts_still : AreParts now
  parts_still = record {
    some = are.some;
    cores = (omega (arith, seen.cores, are.cores.0), omega (arith, seen.cores, are.cores.1), are.cores.2 ∙ sym seen.cores);
    alike = alike_still;
    bytes = are.bytes;
    coherent = subst AreCoherent (sym caches_same) are.coherent;
    room = subst HaveRoomForLines (sym caches_same) are.room;
    lines = are.lines;
    holds = λ core line own. are.holds core line own ∙ sym (ap (λ o. is_valid (letter_of o)) (copies_are core line own));
    alone = λ line own. are.alone line own ∙ sym (ap (λ (c : Caches). some_core is_alone c line) caches_same);
    fetches = λ core line own. are.fetches core line own ∙ sym (instructions_same home.shards home.number are.some.0 are.some.1 (get_or start core no_l1) (get_or l1s core no_l1) (seen.each core) (whole_at core) line own);
    whole = λ core line copy own e. are.whole core line copy own (sym (copies_are core line own) ∙ e);
    clean = λ core line copy own e clean. are.clean core line copy own (sym (copies_are core line own) ∙ e) clean;
    free = λ core line copy own e free. are.free core line copy own (sym (copies_are core line own) ∙ e) free;
  }

-- ---- an access of another bank
module _ (p : Bank) (other : HomeState) (are : AreParts p) (whole : AreWhole p.l1s) (beside : AreParts (record p { home = other })) where
  seen_first : (k : ℕ) → IsSeenAs other.shards other.number (get_or p.l1s k no_l1) (get_or p.l1s k no_l1)
  seen_first k =
      elim (cases_lt k (length p.l1s)) as (λ _. IsSeenAs other.shards other.number (get_or p.l1s k no_l1) (get_or p.l1s k no_l1)) [
        | inl l ↦
            let l1 : L1State = get_or p.l1s k no_l1 in
            let one : l1.shards ≡ 1 = whole k l1 (got p.l1s k no_l1 l) in
            record {
              shards = one;
              ways = refl;
              l1i_ways = refl;
              long = refl;
              l1i_long = refl;
              fits = subst (λ (z : ℕ). length l1.sets * z % other.shards ≡ 0) one (beside.alike.sets k l1 (got p.l1s k no_l1 l));
              l1i_fits = subst (λ (z : ℕ). length l1.l1i * z % other.shards ≡ 0) one (beside.alike.l1i_sets k l1 (got p.l1s k no_l1 l));
              sets = refl;
              l1i = refl;
            }
        | inr past ↦ subst (λ (l1 : L1State). IsSeenAs other.shards other.number l1 l1) (sym (get_or_past p.l1s k no_l1 past)) nothing_seen
      ] where
        zero_rest : (n : ℕ) → 0 < n → 0 * 1 % n ≡ 0
        zero_rest n l = omega arith

        nothing_seen : IsSeenAs other.shards other.number no_l1 no_l1
        nothing_seen = record { shards = refl; ways = refl; l1i_ways = refl; long = refl; l1i_long = refl; fits = zero_rest other.shards beside.some.0; l1i_fits = zero_rest other.shards beside.some.0; sets = refl; l1i = refl }

  pub seen_then : (core : ℕ) (request : Request) → IsAsked p core request → other.shards ≡ p.home.shards → other.number ≢ p.home.number
      → AreSeen other.shards other.number beside.some.0 beside.some.1 p.l1s (bank_after p core request).l1s
  seen_then core request asked count number =
      let apart : (line : ℕ) → IsOwn p line → line % other.shards ≢ other.number = λ line own e. number (sym e ∙ (ap (λ (z : ℕ). line % z) count ∙ own)) in
      seen_after other.shards other.number beside.some.0 beside.some.1 p.l1s p core request (apart (line_of request) asked.own)
      (λ w e. apart w.0 (victim_own p are (line_of request) w e))
      (record { cores = refl; each = seen_first })

pub other_bank : OtherBank
other_bank p other last core request are whole asked count number beside =
    let seen = seen_then p other are whole beside core request asked count number in (
      shard_same other (bank_after p core request).l1s p.l1s beside whole seen last,
      parts_still other (bank_after p core request).l1s p.l1s beside whole seen,
    )
