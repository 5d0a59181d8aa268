-- What parts serve is what the shard of the bank serves.
use Rattle.std.proofs.Common.{◌≡◌, ℕ, ◌+◌, ◌%◌, ◌<◌, ◌++◌, List, [], ◌∷◌, length, get_or, set, map, replicate, take, drop, max, refl, sym, ap, ◌∙◌, subst, mod-lt, arith, inl, inr}
use Rattle.std.specs.List.{range_with_len}
use Rattle.std.proofs.Math.Seq.{take-append_seam}
use Rattle.std.proofs.lemmas.Bool.{cases_lt}
use Rattle.std.proofs.lemmas.List.{get_or-replicate, get_or_past, length-replicate, length-set, set-get_or}
use Rattle.std.proofs.lemmas.List.FromFn.{get_or-map-range_with_len, length-map-range_with_len}
use Rattle.zs_num.specs.Request.{bank_of, line_of}
use Rattle.zs_num.specs.declared.entry.Entry.{Entry}
use Rattle.zs_num.specs.declared.entry.Outcome.{Outcome}
use Rattle.zs_num.specs.declared.entry.Outcome.TheVariants.{Hit}
use Rattle.zs_num.specs.declared.request.Request.{Request}
use Rattle.elf_load.specs.MemoryImage.{MemoryImage}
use Rattle.machine_desc.specs.Machine.{IsMachine}
use Rattle.machine_desc.specs.declared.machine.Machine.{Machine}
use Rattle.home.specs.HomeState.{HomeState}
use Rattle.l1_cache.specs.L1State.{L1State}
use Rattle.shard.specs.NewParts.{IsPlaced, home_of_bank, l1_of_core, new_parts}
use Rattle.shard.specs.PartsLaws.{AreAllParts, AreParts, IsAsked}
use Rattle.shard.specs.Seen.{PartsState, bank_at, caches_seen, no_home, parts_after, shard_seen, shards_seen, with_bank}
use Rattle.shard.specs.Served.{CanServe, IsServedBy, KnowsCore, ShardState, met_by, no_shard, resumed, shard_after, shard_for, shard_reply}
use Rattle.shard.specs.StandsFor.{new_shards}
use Rattle.shard.specs.SharedStep.{Bank, bank_after, bank_reply, met_at_bank}
use Rattle.shard.proofs.Coherent.{coherent_stays, l2_laws}
use Rattle.shard.proofs.HomesAndL1s.Gets.{any_default}
use Rattle.shard.proofs.HomesAndL1s.NewPartsSeen.{new_parts_are_shards, same_range}
use Rattle.shard.proofs.HomesAndL1s.OwnBank.{own_bank}
use Rattle.shard.proofs.HomesAndL1s.RunsOfShards.{all_then, number_is, shards_then}

module _ (w : PartsState) where
  abbrev each : ℕ → ShardState
  each k = shard_seen (bank_at w k) (get_or w.lasts k 0)

  pub shards_long : length (shards_seen w) ≡ length w.homes
  unfolding shards_seen
  shards_long = length-map-range_with_len each 0 (length w.homes)

  pub shard_at : (k : ℕ) → k < length w.homes → get_or (shards_seen w) k no_shard ≡ shard_seen (bank_at w k) (get_or w.lasts k 0)
  unfolding shards_seen
  shard_at k l = get_or-map-range_with_len each 0 (length w.homes) k k no_shard l (omega arith)

module _ (w : PartsState) (are : AreAllParts w) (core : ℕ) (request : Request) where
  abbrev bank : ℕ
  bank = bank_of (length w.homes) request

  abbrev p : Bank
  p = bank_at w bank

  abbrev s : ShardState
  s = shard_for (shards_seen w) request

  abbrev seen : ShardState
  seen = shard_seen p (get_or w.lasts bank 0)

  pub bank_within : bank < length w.homes
  bank_within = mod-lt (line_of request) are.some

  shard_is : s ≡ seen
  shard_is = ap (λ (n : ℕ). get_or (shards_seen w) (bank_of n request) no_shard) (shards_long w) ∙ shard_at w bank bank_within

  pub bank_parts : AreParts p
  bank_parts = are.parts bank bank_within

  pub last_is : s.last ≡ get_or w.lasts bank 0
  unfolding shard_seen
  last_is = ap (λ (x : ShardState). x.last) shard_is

  pub bank_asked : KnowsCore s core → CanServe s request → IsAsked p core request
  unfolding CanServe shard_seen caches_seen
  bank_asked knows can =
      let known : KnowsCore seen core = subst (λ (x : ShardState). KnowsCore x core) shard_is knows in
      let able : CanServe seen request = subst (λ (x : ShardState). CanServe x request) shard_is can in
      record { known = omega (arith, known, bank_parts.cores.2); servable = able.0; own = able.1 }

  -- the entry that is answered
  module _ (asked : IsAsked p core request) (start last stamp reply : ℕ) (outcome : Outcome) where
    abbrev e : Entry
    e = record { core = core; stamp = stamp; start = start; request = request; reply = reply; outcome = outcome }

    pub served : reply ≡ bank_reply p core request → outcome ≡ met_at_bank p core request → stamp ≡ max (get_or w.lasts bank 0) last + 1 → IsServedBy s core start last request e
    served reply_is outcome_is at =
        let own = own_bank coherent_stays l2_laws p (get_or w.lasts bank 0) e bank_parts asked in
        record {
          core_is = refl;
          start_is = refl;
          request_is = refl;
          reply = reply_is ∙ (own.0 ∙ ap (λ (x : ShardState). shard_reply x e) (sym shard_is));
          outcome = outcome_is ∙ (own.1 ∙ ap (λ (x : ShardState). met_by x e) (sym shard_is));
          stamp = at ∙ ap (λ (x : ℕ). max x last + 1) (sym last_is);
        }

    pub shards_after : shards_seen (parts_after w core stamp request) ≡ set (shards_seen w) (bank_of (length (shards_seen w)) request) (shard_after s e)
    shards_after =
        sym (shards_then coherent_stays l2_laws w are e asked)
        ∙ (ap (λ (k : ℕ). set (shards_seen w) k (shard_after seen e)) (number_is coherent_stays l2_laws w are e asked)
        ∙ (ap (λ (n : ℕ). set (shards_seen w) (bank_of n request) (shard_after seen e)) (sym (shards_long w))
        ∙ ap (λ (x : ShardState). set (shards_seen w) (bank_of (length (shards_seen w)) request) (shard_after x e)) (sym shard_is)))

    pub all_after : AreAllParts (parts_after w core stamp request)
    all_after = all_then coherent_stays l2_laws w are e asked

-- the number that the code has for the bank
pub by_remainder : (n many line bank : ℕ) (request : Request) → bank ≡ line % n → line ≡ line_of request → n ≡ many → bank ≡ bank_of many request
by_remainder n many line bank request is line_is n_is = is ∙ (ap (λ (x : ℕ). x % n) line_is ∙ ap (λ (k : ℕ). line_of request % k) n_is)

-- ---- an access from what the code knows of its bank: the home is the one with the bank's number, and the L1s are all
module _ (w : PartsState) (are : AreAllParts w) (now : List ShardState) (view : shards_seen w ≡ now) (core : ℕ) (request : Request)
    (i : ℕ) (is : i ≡ bank_of (length w.homes) request) (home : HomeState) (home_is : home ≡ get_or w.homes i home) (l1s : List L1State) (l1s_is : l1s ≡ w.l1s) where
  abbrev met : Bank
  met = record { home = home; l1s = l1s }

  abbrev own : Bank
  own = bank_at w (bank_of (length w.homes) request)

  abbrev before : ShardState
  before = shard_for now request

  here : i < length w.homes
  here = subst (λ (k : ℕ). k < length w.homes) (sym is) (bank_within w are core request)

  met_is : met ≡ own
  met_is =
      ap (λ (h : HomeState). record { home = h; l1s = l1s }) (home_is ∙ (any_default w.homes i home no_home here ∙ ap (λ (k : ℕ). get_or w.homes k no_home) is))
      ∙ ap (λ (l : List L1State). record own { l1s = l }) l1s_is

  pub can_meet : AreParts met
  can_meet = subst AreParts (sym met_is) (bank_parts w are core request)

  asked_here : KnowsCore before core → CanServe before request → IsAsked own core request
  asked_here knows can =
      bank_asked w are core request (subst (λ (shards : List ShardState). KnowsCore (shard_for shards request) core) (sym view) knows)
      (subst (λ (shards : List ShardState). CanServe (shard_for shards request) request) (sym view) can)

  pub can_ask : KnowsCore before core → CanServe before request → IsAsked met core request
  can_ask knows can = subst (λ (b : Bank). IsAsked b core request) (sym met_is) (asked_here knows can)

  -- the latest stamp of the bank
  module _ (at : ℕ) (at_is : at ≡ get_or w.lasts i at) where
    stamp_of_bank : at ≡ get_or w.lasts (bank_of (length w.homes) request) 0
    stamp_of_bank = at_is ∙ (any_default w.lasts i at 0 (subst (λ (n : ℕ). i < n) (sym are.lasts) here) ∙ ap (λ (k : ℕ). get_or w.lasts k 0) is)

    pub latest : at ≡ before.last
    latest = stamp_of_bank ∙ (sym (last_is w are core request) ∙ ap (λ (shards : List ShardState). (shard_for shards request).last) view)

    -- what the bank did
    module _ (knows : KnowsCore before core) (can : CanServe before request) (home_then : HomeState) (l1s_then : List L1State) (after : record { home = home_then; l1s = l1s_then } ≡ bank_after met core request)
        (cores : length l1s_then ≡ length l1s) (n : ℕ) (n_is : n ≡ length w.l1s) (stamp : ℕ) where
      abbrev then : PartsState
      then = record { homes = set w.homes i home_then; l1s = take n (l1s_then ++ drop (length l1s_then) w.l1s); lasts = set w.lasts i stamp }

      l1s_whole : take n (l1s_then ++ drop (length l1s_then) w.l1s) ≡ l1s_then
      l1s_whole =
          ap (λ (k : ℕ). take k (l1s_then ++ drop (length l1s_then) w.l1s)) (n_is ∙ sym (cores ∙ ap (λ (l : List L1State). length l) l1s_is))
          ∙ take-append_seam l1s_then (drop (length l1s_then) w.l1s)

      done : record { home = home_then; l1s = l1s_then } ≡ bank_after own core request
      done = after ∙ ap (λ (b : Bank). bank_after b core request) met_is

      then_is : then ≡ parts_after w core stamp request
      unfolding parts_after
      then_is =
          ap (λ (l : List L1State). record then { l1s = l }) l1s_whole
          ∙ (ap (λ (b : Bank). with_bank i b stamp w) done
          ∙ ap (λ (k : ℕ). with_bank k (bank_after own core request) stamp w) is)

      pub parts_then : AreAllParts then
      parts_then = subst AreAllParts (sym then_is) (all_after w are core request (asked_here knows can) 0 0 stamp 0 Hit)

      module _ (start last reply : ℕ) (outcome : Outcome) where
        abbrev answer : Entry
        answer = record { core = core; stamp = stamp; start = start; request = request; reply = reply; outcome = outcome }

        pub after_is : shards_seen then ≡ set now (bank_of (length now) request) (shard_after before answer)
        after_is =
            ap shards_seen then_is
            ∙ (shards_after w are core request (asked_here knows can) start last stamp reply outcome
            ∙ ap (λ (shards : List ShardState). set shards (bank_of (length shards) request) (shard_after (shard_for shards request) answer)) view)

        pub as_many : length (shards_seen then) ≡ length now
        as_many = ap (λ (shards : List ShardState). length shards) after_is ∙ length-set now (bank_of (length now) request) (shard_after before answer)

        pub served_is : reply ≡ bank_reply met core request → outcome ≡ met_at_bank met core request → stamp ≡ max at last + 1 → IsServedBy before core start last request answer
        served_is reply_is outcome_is stamp_is =
            subst (λ (shards : List ShardState). IsServedBy (shard_for shards request) core start last request answer) view
            (served w are core request (asked_here knows can) start last stamp reply outcome
            (reply_is ∙ ap (λ (b : Bank). bank_reply b core request) met_is) (outcome_is ∙ ap (λ (b : Bank). met_at_bank b core request) met_is)
            (stamp_is ∙ ap (λ (x : ℕ). max x last + 1) stamp_of_bank))

-- ---- the same of an access that changes nothing at home
module _ (w : PartsState) (are : AreAllParts w) (now : List ShardState) (view : shards_seen w ≡ now) (core : ℕ) (request : Request)
    (i : ℕ) (is : i ≡ bank_of (length w.homes) request) (home : HomeState) (home_is : home ≡ get_or w.homes i home) (l1s : List L1State) (l1s_is : l1s ≡ w.l1s)
    (at : ℕ) (at_is : at ≡ get_or w.lasts i at) (knows : KnowsCore (shard_for now request) core) (can : CanServe (shard_for now request) request)
    (l1s_then : List L1State) (after : record { home = home; l1s = l1s_then } ≡ bank_after (record { home = home; l1s = l1s }) core request)
    (cores : length l1s_then ≡ length l1s) (n : ℕ) (n_is : n ≡ length w.l1s) (stamp : ℕ) where
  abbrev with_homes : List HomeState → PartsState
  with_homes homes = record { homes = homes; l1s = take n (l1s_then ++ drop (length l1s_then) w.l1s); lasts = set w.lasts i stamp }

  same_homes : set w.homes i home ≡ w.homes
  same_homes = ap (set w.homes i) home_is ∙ set-get_or w.homes i home

  pub parts_alone : AreAllParts (with_homes w.homes)
  parts_alone =
      subst (λ (homes : List HomeState). AreAllParts (with_homes homes)) same_homes
      (parts_then w are now view core request i is home home_is l1s l1s_is at at_is knows can home l1s_then after cores n n_is stamp)

  module _ (start last reply : ℕ) where
    abbrev hit : Entry
    hit = record { core = core; stamp = stamp; start = start; request = request; reply = reply; outcome = Hit }

    pub after_alone : shards_seen (with_homes w.homes) ≡ set now (bank_of (length now) request) (shard_after (shard_for now request) hit)
    after_alone =
        sym (ap (λ (homes : List HomeState). shards_seen (with_homes homes)) same_homes)
        ∙ after_is w are now view core request i is home home_is l1s l1s_is at at_is knows can home l1s_then after cores n n_is stamp start last reply Hit

    pub many_alone : length (shards_seen (with_homes w.homes)) ≡ length now
    many_alone = ap (λ (shards : List ShardState). length shards) after_alone ∙ length-set now (bank_of (length now) request) (shard_after (shard_for now request) hit)

-- ---- the last stamps begin anew
map_after : {X Y Z : Type 0} (f : X → Y) (g : Y → Z) (xs : List X) → map g (map f xs) ≡ map (λ x. g (f x)) xs
map_after f g [] = refl
map_after f g (x ∷ xs) = ap (λ zs. g (f x) ∷ zs) (map_after f g xs)

resumed_seen : (p : Bank) (last : ℕ) → resumed (shard_seen p last) 0 ≡ shard_seen p 0
unfolding shard_seen
resumed_seen p last = refl

module _ (w : PartsState) (n : ℕ) (lasts : List ℕ) (zeros : lasts ≡ replicate n 0) where
  zero_at : (k : ℕ) → get_or lasts k 0 ≡ 0
  zero_at k =
      let all : List ℕ = replicate n 0 in
      ap (λ (l : List ℕ). get_or l k 0) zeros
      ∙ elim (cases_lt k n) as (λ _. get_or all k 0 ≡ 0) [
        | inl l ↦ get_or-replicate n k 0 0 l
        | inr past ↦ get_or_past all k 0 (omega (arith, past, length-replicate {A = ℕ} n 0))
      ]

  pub restarted_is : shards_seen (record w { lasts = lasts }) ≡ map (λ shard. resumed shard 0) (shards_seen w)
  unfolding shards_seen
  restarted_is =
      same_range (λ k. shard_seen (bank_at w k) (get_or lasts k 0)) (λ k. resumed (shard_seen (bank_at w k) (get_or w.lasts k 0)) 0) 0 (length w.homes)
      (λ k l. ap (shard_seen (bank_at w k)) (zero_at k) ∙ sym (resumed_seen (bank_at w k) (get_or w.lasts k 0)))
      ∙ sym (map_after (λ k. shard_seen (bank_at w k) (get_or w.lasts k 0)) (λ shard. resumed shard 0) (range_with_len 0 (length w.homes)))

  pub restarted_parts : AreAllParts w → n ≡ length w.lasts → AreAllParts (record w { lasts = lasts })
  restarted_parts are many = record {
    some = are.some;
    lasts = ap (λ (l : List ℕ). length l) zeros ∙ (length-replicate {A = ℕ} n 0 ∙ (many ∙ are.lasts));
    number = are.number;
    whole = are.whole;
    parts = are.parts;
  }

-- ---- homes and L1s that were made new
placed : (m : Machine) (image : MemoryImage) → IsMachine m → image.base ≡ m.memory.base → image.size ≡ m.memory.size → IsPlaced image
placed m image is base size = (omega (arith, base, size, is.memory.size), omega (arith, base, size, is.memory.base, is.memory.size))

pub made : (m : Machine) (image : MemoryImage) → IsMachine m → image.base ≡ m.memory.base → image.size ≡ m.memory.size → (homes : List HomeState) (l1s : List L1State) (lasts : List ℕ)
    → homes ≡ map (λ number. home_of_bank m number image) (range_with_len 0 m.l2.banks) → l1s ≡ replicate m.cores (l1_of_core m 1) → lasts ≡ replicate m.l2.banks 0
    → (shards_seen (record { homes = homes; l1s = l1s; lasts = lasts }) ≡ new_shards m image) × AreAllParts (record { homes = homes; l1s = l1s; lasts = lasts })
made m image is base size homes l1s lasts homes_are l1s_are lasts_are =
    let w : PartsState = record { homes = homes; l1s = l1s; lasts = lasts } in
    let same : w ≡ new_parts m image
    = ap (λ (h : List HomeState). record w { homes = h }) homes_are
    ∙ (ap (λ (l : List L1State). record (new_parts m image) { l1s = l; lasts = lasts }) l1s_are
    ∙ ap (λ (l : List ℕ). record (new_parts m image) { lasts = l }) lasts_are) in
    let new = new_parts_are_shards m image is (placed m image is base size) in
    (ap shards_seen same ∙ new.0, subst AreAllParts (sym same) new.1)
