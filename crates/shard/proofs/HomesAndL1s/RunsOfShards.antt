-- A run over homes and L1s, seen bank by bank, is a run of the shards.
use Rattle.std.proofs.Common.{◌≡◌, ◌≢◌, ℕ, ◌%◌, ◌<◌, ◌≤◌, List, [], ◌∷◌, length, get_or, set, Some, refl, sym, ap, ◌∙◌, subst, arith, inl, inr}
use Rattle.std.specs.Prelude.{Bool, nat_lt, slice_get}
use Rattle.std.proofs.lemmas.Bool.{cases_eq, cases_lt}
use Rattle.std.proofs.lemmas.List.{ext_get_or, get_or-set_other, get_or-set_same, length-set}
use Rattle.std.proofs.lemmas.List.FromFn.{get_or-map-range_with_len, length-map-range_with_len}
use Rattle.zs_num.specs.Request.{bank_of, line_of}
use Rattle.zs_num.specs.Servable.{IsServable}
use Rattle.zs_num.specs.declared.entry.Entry.{Entry}
use Rattle.zs_num.specs.declared.request.Request.{Request}
use Rattle.shard.specs.Coherence.{Caches}
use Rattle.shard.specs.HaveL1i.{have_l1i}
use Rattle.home.specs.HomeState.{HomeState}
use Rattle.l1_cache.specs.L1State.{L1State, no_l1}
use Rattle.shard.specs.Laws.{CoherentStays}
use Rattle.shard.specs.PartsLaws.{AreAllParts, AreAskedOf, AreParts, AreWhole, IsAsked, RunsAreOfShards}
use Rattle.shard.specs.Seen.{PartsState, bank_at, caches_seen, no_home, parts_after, parts_met, parts_reply, shard_seen, shards_seen}
use Rattle.shard.specs.Served.{ShardState, shard_after, shard_reply, met_by}
use Rattle.shard.specs.SharedStep.{Bank, bank_after, l1_of}
use Rattle.shard.specs.StandsFor.{AreAnswered, KeepsLine}
use Rattle.shard.proofs.HomesAndL1s.Accesses.{access_done}
use Rattle.shard.proofs.HomesAndL1s.AnsweredFits.{Accessed}
use Rattle.shard.proofs.HomesAndL1s.Banks.{own_in}
use Rattle.shard.proofs.HomesAndL1s.CachesSeen.{after_seen}
use Rattle.shard.proofs.HomesAndL1s.Decisions.{cores_seen}
use Rattle.shard.proofs.HomesAndL1s.Gets.{got, got_is}
use Rattle.shard.proofs.L2Laws.{L2Laws}
use Rattle.shard.proofs.HomesAndL1s.OtherBank.{other_bank, seen_then}
use Rattle.shard.proofs.HomesAndL1s.OwnBank.{own_bank}

below : (x n : ℕ) → 0 < n → x % n < n
below x n some = omega arith

module _ (stays : CoherentStays) (laws : L2Laws) (w : PartsState) (are : AreAllParts w) (e : Entry) where
  abbrev n : ℕ
  n = length w.homes

  abbrev bank : ℕ
  bank = bank_of n e.request

  abbrev p : Bank
  p = bank_at w bank

  abbrev q : Bank
  q = bank_after p e.core e.request

  abbrev then : PartsState
  then = parts_after w e.core e.stamp e.request

  within : bank < n
  within = below (line_of e.request) n are.some

  parts_of : AreParts p
  parts_of = are.parts bank within

  home_is : (k : ℕ) → k < n → ((get_or w.homes k no_home).number ≡ k) × ((get_or w.homes k no_home).shards ≡ n)
  home_is k l = are.number k (get_or w.homes k no_home) (got w.homes k no_home l)

  module _ (asked : IsAsked p e.core e.request) where
    done : Accessed p q e.core e.request
    done = (access_done stays laws p parts_of e.core e.request asked).accessed

    own : (last : ℕ) → shard_seen q e.stamp ≡ shard_after (shard_seen p last) e
    own last = (own_bank stays laws p last e parts_of asked).2

    abbrev pub served : ShardState
    served = shard_seen p (get_or w.lasts bank 0)

    abbrev s : ShardState
    s = shard_seen p (get_or w.lasts bank 0)

    -- ---- the banks after it
    same_bank : bank_at then bank ≡ q
    unfolding parts_after
    same_bank = ap (λ (h : HomeState). record { home = h; l1s = q.l1s }) (get_or-set_same w.homes bank q.home no_home within)

    last_same : get_or then.lasts bank 0 ≡ e.stamp
    unfolding parts_after
    last_same = get_or-set_same w.lasts bank e.stamp 0 (subst (λ (z : ℕ). bank < z) (sym are.lasts) within)

    other_bank_is : (k : ℕ) → k ≢ bank → bank_at then k ≡ record { home = get_or w.homes k no_home; l1s = q.l1s }
    unfolding parts_after
    other_bank_is k apart = ap (λ (h : HomeState). record { home = h; l1s = q.l1s }) (get_or-set_other w.homes bank k q.home no_home apart)

    other_last : (k : ℕ) → k ≢ bank → get_or then.lasts k 0 ≡ get_or w.lasts k 0
    unfolding parts_after
    other_last k apart = get_or-set_other w.lasts bank k e.stamp 0 apart

    many : length then.homes ≡ n
    unfolding parts_after
    many = length-set w.homes bank q.home

    others : (k : ℕ) → k < n → k ≢ bank → (last : ℕ)
        → (shard_seen (record { home = get_or w.homes k no_home; l1s = q.l1s }) last ≡ shard_seen (bank_at w k) last) × AreParts (record { home = get_or w.homes k no_home; l1s = q.l1s })
    others k l apart last =
        other_bank p (get_or w.homes k no_home) last e.core e.request parts_of are.whole asked ((home_is k l).1 ∙ sym (home_is bank within).1)
        (λ z. apart (sym (home_is k l).0 ∙ (z ∙ (home_is bank within).0))) (are.parts k l)

    -- ---- the shards after it
    abbrev each_now : ℕ → ShardState
    each_now k = shard_seen (bank_at then k) (get_or then.lasts k 0)

    abbrev each_was : ℕ → ShardState
    each_was k = shard_seen (bank_at w k) (get_or w.lasts k 0)

    now_own : each_now bank ≡ shard_after s e
    now_own = ap (λ (b : Bank). shard_seen b (get_or then.lasts bank 0)) same_bank ∙ (ap (shard_seen q) last_same ∙ own (get_or w.lasts bank 0))

    now_other : (k : ℕ) → k < n → k ≢ bank → each_now k ≡ each_was k
    now_other k l apart =
        ap (λ (b : Bank). shard_seen b (get_or then.lasts k 0)) (other_bank_is k apart)
        ∙ (ap (shard_seen (record { home = get_or w.homes k no_home; l1s = q.l1s })) (other_last k apart)
        ∙ (others k l apart (get_or w.lasts k 0)).0)

    was_at : (k : ℕ) → k < n → get_or (shards_seen w) k s ≡ each_was k
    unfolding shards_seen
    was_at k l = get_or-map-range_with_len each_was 0 n k k s l (omega arith)

    now_at : (k : ℕ) → k < n → get_or (shards_seen then) k s ≡ each_now k
    unfolding shards_seen
    now_at k l = get_or-map-range_with_len each_now 0 (length then.homes) k k s (subst (λ (z : ℕ). k < z) (sym many) l) (omega arith)

    was_long : length (shards_seen w) ≡ n
    unfolding shards_seen
    was_long = length-map-range_with_len each_was 0 n

    now_long : length (shards_seen then) ≡ n
    unfolding shards_seen
    now_long = length-map-range_with_len each_now 0 (length then.homes) ∙ many

    pub keeps_line : KeepsLine (shards_seen w) (line_of e.request) s
    keeps_line =
        ap (λ (z : ℕ). slice_get (shards_seen w) (line_of e.request % z)) was_long
        ∙ (got (shards_seen w) bank s (subst (λ (z : ℕ). bank < z) (sym was_long) within) ∙ ap (λ (x : ShardState). Some x) (was_at bank within))

    pub number_is : s.number ≡ bank
    unfolding shard_seen
    number_is = (home_is bank within).0

    pub shards_then : set (shards_seen w) s.number (shard_after s e) ≡ shards_seen then
    shards_then =
        ap (λ (k : ℕ). set (shards_seen w) k (shard_after s e)) number_is
        ∙ ext_get_or s (set (shards_seen w) bank (shard_after s e)) (shards_seen then) (length-set (shards_seen w) bank (shard_after s e) ∙ (was_long ∙ sym now_long))
        (λ k inside. let l : k < n = subst (λ (z : ℕ). k < z) (length-set (shards_seen w) bank (shard_after s e) ∙ was_long) inside in
        elim (cases_eq k bank) as (λ _. get_or (set (shards_seen w) bank (shard_after s e)) k s ≡ get_or (shards_seen then) k s) [
          | inl z ↦
              subst (λ (j : ℕ). get_or (set (shards_seen w) bank (shard_after s e)) j s ≡ get_or (shards_seen then) j s) (sym z)
              (get_or-set_same (shards_seen w) bank (shard_after s e) s (subst (λ (z : ℕ). bank < z) (sym was_long) within) ∙ (sym now_own ∙ sym (now_at bank within)))
          | inr z ↦ get_or-set_other (shards_seen w) bank k (shard_after s e) s z ∙ (was_at k l ∙ (sym (now_other k l z) ∙ sym (now_at k l)))
        ])

    -- ---- all parts after it
    whole_at : (k : ℕ) → k < length q.l1s → (l1_of q k).shards ≡ 1
    whole_at k l =
        elim (cases_lt 1 n) as (λ _. (l1_of q k).shards ≡ 1) [
          | inl two ↦
              elim (cases_eq bank 0) as (λ _. (l1_of q k).shards ≡ 1) [
                | inl z ↦ seen_at 1 two (λ y. one_apart bank (sym y) z)
                | inr z ↦ seen_at 0 (omega arith) (λ y. z (sym y))
              ]
          | inr one ↦
              let single : n ≡ 1 = only n are.some one in
              elim (done.keeps.bank.fit.each k l).shards as (λ _. (l1_of q k).shards ≡ 1) [
                | inl is ↦ is
                | inr is ↦ is ∙ (done.keeps.bank.count ∙ ((home_is bank within).1 ∙ single))
              ]
        ] where
          one_apart : (b : ℕ) → b ≡ 1 → b ≡ 0 → ⊥
          one_apart b e f = omega arith

          only : (z : ℕ) → 0 < z → z ≤ 1 → z ≡ 1
          only z a b = omega arith

          seen_at : (o : ℕ) → o < n → o ≢ bank → (l1_of q k).shards ≡ 1
          seen_at o l apart =
              ((seen_then p (get_or w.homes o no_home) parts_of are.whole (are.parts o l) e.core e.request asked ((home_is o l).1 ∙ sym (home_is bank within).1)
              (λ z. apart (sym (home_is o l).0 ∙ (z ∙ (home_is bank within).0)))).each k).shards

    whole_then : AreWhole q.l1s
    whole_then k l1 at =
        let is = got_is q.l1s k l1 no_l1 at in
        subst (λ (x : L1State). x.shards ≡ 1) is.1 (whole_at k is.0)

    home_then : (k : ℕ) (home : HomeState) → slice_get then.homes k ≡ Some home → (home.number ≡ k) × (home.shards ≡ length then.homes)
    home_then k home at =
        let is = got_is then.homes k home no_home at in
        let l : k < n = subst (λ (z : ℕ). k < z) many is.0 in
        let named : ((bank_at then k).home.number ≡ k) × ((bank_at then k).home.shards ≡ n)
        = elim (cases_eq k bank) as (λ _. ((bank_at then k).home.number ≡ k) × ((bank_at then k).home.shards ≡ n)) [
          | inl z ↦
              let same : bank_at then k ≡ q = ap (bank_at then) z ∙ same_bank in
              (ap (λ (b : Bank). b.home.number) same ∙ (done.keeps.bank.number ∙ ((home_is bank within).0 ∙ sym z)), ap (λ (b : Bank). b.home.shards) same ∙ (done.keeps.bank.count ∙ (home_is bank within).1))
          | inr z ↦ (ap (λ (b : Bank). b.home.number) (other_bank_is k z) ∙ (home_is k l).0, ap (λ (b : Bank). b.home.shards) (other_bank_is k z) ∙ (home_is k l).1)
        ] in
        (sym (ap (λ (h : HomeState). h.number) is.1) ∙ named.0, sym (ap (λ (h : HomeState). h.shards) is.1) ∙ (named.1 ∙ sym many))

    parts_at : (k : ℕ) → k < length then.homes → AreParts (bank_at then k)
    parts_at k inside =
        let l : k < n = subst (λ (z : ℕ). k < z) many inside in
        elim (cases_eq k bank) as (λ _. AreParts (bank_at then k)) [
          | inl z ↦ subst (λ (b : Bank). AreParts b) (sym (ap (bank_at then) z ∙ same_bank)) done.parts
          | inr z ↦ subst (λ (b : Bank). AreParts b) (sym (other_bank_is k z)) (others k l z 0).1
        ]

    lasts_then : length then.lasts ≡ length then.homes
    unfolding parts_after
    lasts_then = length-set w.lasts bank e.stamp ∙ (are.lasts ∙ sym (length-set w.homes bank q.home))

    l1s_then : then.l1s ≡ q.l1s
    unfolding parts_after
    l1s_then = refl

    pub all_then : AreAllParts then
    all_then = record {
      some = subst (λ (z : ℕ). 0 < z) (sym many) are.some;
      lasts = lasts_then;
      number = home_then;
      whole = subst AreWhole (sym l1s_then) whole_then;
      parts = parts_at;
    }

    reply_is : parts_reply w e.core e.request ≡ shard_reply s e
    unfolding parts_reply
    reply_is = (own_bank stays laws p (get_or w.lasts bank 0) e parts_of asked).0

    met_is : parts_met w e.core e.request ≡ met_by s e
    unfolding parts_met
    met_is = (own_bank stays laws p (get_or w.lasts bank 0) e parts_of asked).1

    -- ---- what could be asked can be asked after it
    have_own : have_l1i (caches_seen q) ≡ have_l1i (caches_seen p)
    have_own =
        ap (λ (c : Caches). have_l1i c) (after_seen p parts_of e.core e.request asked)
        ∙ ap (λ (z : ℕ). nat_lt 0 z) (stays (caches_seen p) e.core e.request parts_of.coherent parts_of.room (subst (λ (z : ℕ). e.core < z) (sym (cores_seen p)) asked.known)).3

    same_caches : (a b : Bank) (last : ℕ) → shard_seen a last ≡ shard_seen b last → caches_seen a ≡ caches_seen b
    unfolding shard_seen
    same_caches a b last same = ap (λ (t : ShardState). t.caches) same

    asked_own : (core : ℕ) (request : Request) → IsAsked p core request → IsAsked q core request
    asked_own core request before = record {
      known = subst (λ (z : ℕ). core < z) (sym done.keeps.bank.cores) before.known;
      servable =
          subst (λ (z : ℕ). IsServable z q.home.size (have_l1i (caches_seen q)) request) (sym done.keeps.base)
          (subst (λ (z : ℕ). IsServable p.home.base z (have_l1i (caches_seen q)) request) (sym done.keeps.size)
          (subst (λ (z : Bool). IsServable p.home.base p.home.size z request) (sym have_own) before.servable));
      own = own_in p q done.keeps.bank (line_of request) before.own;
    }

    asked_other : (k : ℕ) → k < n → k ≢ bank → (core : ℕ) (request : Request) → IsAsked (bank_at w k) core request → IsAsked (record { home = get_or w.homes k no_home; l1s = q.l1s }) core request
    asked_other k l apart core request before = record {
      known = subst (λ (z : ℕ). core < z) (sym done.keeps.bank.cores) before.known;
      servable = subst (λ (c : Caches). IsServable (get_or w.homes k no_home).base (get_or w.homes k no_home).size (have_l1i c) request)
          (sym (same_caches (record { home = get_or w.homes k no_home; l1s = q.l1s }) (bank_at w k) 0 (others k l apart 0).0)) before.servable;
      own = before.own;
    }

    asked_at : (k : ℕ) → k < n → (core : ℕ) (request : Request) → IsAsked (bank_at w k) core request → IsAsked (bank_at then k) core request
    asked_at k l core request before =
        elim (cases_eq k bank) as (λ _. IsAsked (bank_at then k) core request) [
          | inl z ↦
              subst (λ (b : Bank). IsAsked b core request) (sym (ap (bank_at then) z ∙ same_bank)) (asked_own core request (subst (λ (j : ℕ). IsAsked (bank_at w j) core request) z before))
          | inr z ↦ subst (λ (b : Bank). IsAsked b core request) (sym (other_bank_is k z)) (asked_other k l z core request before)
        ]

    pub asked_then : (core : ℕ) (request : Request) → IsAsked (bank_at w (bank_of n request)) core request → IsAsked (bank_at then (bank_of (length then.homes) request)) core request
    asked_then core request before =
        subst (λ (z : ℕ). IsAsked (bank_at then (bank_of z request)) core request) (sym many) (asked_at (bank_of n request) (below (line_of request) n are.some) core request before)

    pub all_asked : (entries : List Entry) → AreAskedOf w entries → AreAskedOf then entries
    all_asked [] h = tt
    all_asked (x ∷ entries) h = (asked_then x.core x.request h.0, all_asked entries h.1)

pub runs_are_of_shards : CoherentStays → L2Laws → RunsAreOfShards
runs_are_of_shards stays laws w left [] are asked turn = (ap shards_seen turn, subst AreAllParts (sym turn) are)
runs_are_of_shards stays laws w left (e ∷ entries) are asked turn =
    let first = asked.0 in
    let rest = runs_are_of_shards stays laws (parts_after w e.core e.stamp e.request) left entries (all_then stays laws w are e first) (all_asked stays laws w are e first entries asked.1) turn.2 in (
      (
        served stays laws w are e first,
        keeps_line stays laws w are e first,
        turn.0 ∙ reply_is stays laws w are e first,
        turn.1 ∙ met_is stays laws w are e first,
        subst (λ (shards : List ShardState). AreAnswered shards entries (shards_seen left)) (sym (shards_then stays laws w are e first)) rest.0,
      ),
      rest.1,
    )
