-- A right access leaves homes and L1s of a machine, of which can be asked what could be asked before.
use Rattle.std.proofs.Common.{◌≡◌, ◌≢◌, ℕ, zero, suc, ◌+◌, ◌<◌, true, List, [], ◌∷◌, length, get_or, set, refl, sym, ◌∙◌, ap, subst, arith, inl, inr, replicate}
use Rattle.std.specs.Prelude.{not, slice_get, Some}
use Rattle.std.proofs.lemmas.Bool.{cases_Bool, cases_eq, eq-eqb, ne_eqb}
use Rattle.std.proofs.lemmas.List.{ext_get_or, get_or-replicate, get_or-set_other, get_or-set_same, length-replicate, length-set}
use Rattle.zs_num.specs.Request.{bank_of}
use Rattle.zs_num.specs.declared.entry.Entry.{Entry}
use Rattle.zs_num.specs.declared.request.Request.{Request}
use Rattle.home.specs.HomeState.{HomeState}
use Rattle.l1_cache.specs.L1State.{L1State, no_l1}
use Rattle.shard.specs.PartsLaws.{AreAllParts, AreParts, IsAsked}
use Rattle.shard.specs.Seen.{PartsState, bank_at, caches_seen, no_home, parts_after, parts_met, parts_reply, shard_seen}
use Rattle.shard.specs.Served.{CanServe, ShardState, shard_after}
use Rattle.shard.specs.SharedStep.{Bank, bank_after, bank_reply, l1_of, met_at_bank}
use Rattle.parts_table.specs.declared.part.Part.{Part}
use Rattle.parts_table.specs.declared.part.TimedPart.{TimedPart}
use Rattle.parts_table.specs.declared.view.Made.{Made}
use Rattle.parts_table.specs.MachineLaws.{MachineLaws}
use Rattle.shard.specs.Touched.{IsLike}
use Rattle.parts_table.specs.World.{IsRight, IsSound, MayAsk, World, after, bank_for, bank_in, bank_of_made, home_in, is_alone, l1_in, l1s_in, parts_in, touches}
use Rattle.parts_table.proofs.Locality.{IsAllowed, IsFine, alone_after, bank_is, home_at, in_homes, in_l1s, l1_at, many_homes, many_l1s, moved_home, moved_l1, other_after, parts_at, touched_after}

-- ---- what can be asked of a bank can be asked of its shard

can_serve : (p : Bank) (last core : ℕ) (request : Request) → IsAsked p core request → CanServe (shard_seen p last) request
unfolding CanServe shard_seen caches_seen
can_serve p last core request asked = (asked.servable, asked.own)

pub is_asked : (p : Bank) (last core : ℕ) (request : Request) → core < length p.l1s → CanServe (shard_seen p last) request → IsAsked p core request
unfolding CanServe shard_seen caches_seen
is_asked p last core request known can = record { known = known; servable = can.0; own = can.1 }

same_elements : {X : Type 0} (d : X) (xs ys : List X) (n : ℕ) → length xs ≡ n → length ys ≡ n → ((k : ℕ) → k < n → get_or xs k d ≡ get_or ys k d) → xs ≡ ys
same_elements d xs ys n long too same = ext_get_or d xs ys (long ∙ sym too) (λ k within. same k (subst (λ (m : ℕ). k < m) long within))

-- an entry without a stamp
abbrev pub unnumbered : Entry → Entry
unnumbered e = record e { stamp = 0 }

module _ (cores banks : ℕ) (laws : MachineLaws) (w : World) (a : Made) (sound : IsSound cores banks w) (right : IsRight cores banks w a) (asked : MayAsk cores banks w a.entry.core a.entry.request) where
  abbrev core : ℕ
  core = a.entry.core

  abbrev request : Request
  request = a.entry.request

  abbrev bank : ℕ
  bank = bank_of_made cores banks a

  abbrev p : Bank
  p = bank_for cores banks w a

  abbrev p' : Bank
  p' = bank_after p core request

  abbrev then : World
  then = after cores banks w a

  are : AreParts p
  are = parts_at cores banks w sound bank right.bank

  itself : IsLike p p core request
  itself = record { home = refl; count = refl; same = λ k is. refl }

  -- ---- the L1s

  many : length p'.l1s ≡ cores
  many = (laws.only p p core request are asked.1 itself).4 ∙ many_l1s cores banks w

  l1_then : (k : ℕ) → k < cores → l1_in (then k).part ≡ l1_of p' k
  l1_then k within =
      elim (cases_Bool (touches cores banks w a k)) as (λ _. l1_in (then k).part ≡ l1_of p' k) [
        | inl is ↦ ap (λ (x : TimedPart). l1_in x.part) (touched_after cores banks w a k is ∙ moved_l1 cores banks w a k within)
        | inr not_is ↦
            ap (λ (x : TimedPart). l1_in x.part) (other_after cores banks w a k not_is)
            ∙ (sym (l1_at cores banks w k within no_l1) ∙ sym ((laws.only p p core request are asked.1 itself).6 k (sym (in_l1s cores banks w a k within) ∙ not_is)))
      ]

  l1s_then : l1s_in cores banks then ≡ p'.l1s
  l1s_then = same_elements no_l1 (l1s_in cores banks then) p'.l1s cores (many_l1s cores banks then) many (λ k within. l1_at cores banks then k within no_l1 ∙ l1_then k within)

  -- ---- the homes

  home_alone : is_alone cores banks w a ≡ true → p'.home ≡ p.home
  home_alone alone = ap (λ (b : Bank). b.home) (alone_after p core request alone)

  own_home : home_in (then (cores + bank)).part ≡ p'.home
  own_home =
      let at : touches cores banks w a (cores + bank) ≡ not (is_alone cores banks w a) = in_homes cores banks w a (cores + bank) (omega arith) ∙ rw (eq-eqb (cores + bank) (cores + bank) refl) refl in
      elim (cases_Bool (is_alone cores banks w a)) as (λ _. home_in (then (cores + bank)).part ≡ p'.home) [
        | inl alone ↦ ap (λ (x : TimedPart). home_in x.part) (other_after cores banks w a (cores + bank) (at ∙ ap not alone)) ∙ sym (home_alone alone)
        | inr shared ↦ ap (λ (x : TimedPart). home_in x.part) (touched_after cores banks w a (cores + bank) (at ∙ ap not shared) ∙ moved_home cores banks w a (cores + bank) (omega arith))
      ]

  other_home : (b : ℕ) → b ≢ bank → then (cores + b) ≡ w (cores + b)
  other_home b other =
      let apart : cores + b ≢ cores + bank = λ same. other (omega (arith, same)) in
      other_after cores banks w a (cores + b) (in_homes cores banks w a (cores + b) (omega arith) ∙ rw (ne_eqb (cores + b) (cores + bank) apart) refl)

  abbrev all : PartsState
  all = parts_in cores banks w

  -- ---- all parts

  abbrev all' : PartsState
  all' = parts_after all core 0 request

  same_bank : bank_of (length all.homes) request ≡ bank
  same_bank = ap (λ (n : ℕ). bank_of n request) (many_homes cores banks w)

  at_bank : bank_at all (bank_of (length all.homes) request) ≡ p
  at_bank = ap (bank_at all) same_bank ∙ bank_is cores banks w bank right.bank

  -- the same, with the bank at hand
  abbrev with_it : PartsState
  with_it = record { homes = set all.homes bank p'.home; l1s = p'.l1s; lasts = set all.lasts bank 0 }

  is_with_it : all' ≡ with_it
  unfolding parts_after
  is_with_it = λ i. record {
    homes = set all.homes (same_bank i) (bank_after (at_bank i) core request).home;
    l1s = (bank_after (at_bank i) core request).l1s;
    lasts = set all.lasts (same_bank i) 0;
  }

  homes_then : (parts_in cores banks then).homes ≡ set all.homes bank p'.home
  homes_then =
      same_elements no_home (parts_in cores banks then).homes (set all.homes bank p'.home) banks (many_homes cores banks then) (length-set all.homes bank p'.home ∙ many_homes cores banks w)
      (λ k within. home_at cores banks then k within no_home ∙ each k within)
    where
      each : (k : ℕ) → k < banks → home_in (then (cores + k)).part ≡ get_or (set all.homes bank p'.home) k no_home
      each k within =
          elim (cases_eq k bank) as (λ _. home_in (then (cores + k)).part ≡ get_or (set all.homes bank p'.home) k no_home) [
            | inl same ↦
                subst (λ (n : ℕ). home_in (then (cores + n)).part ≡ get_or (set all.homes bank p'.home) n no_home) (sym same)
                (own_home ∙ sym (get_or-set_same all.homes bank p'.home no_home (subst (λ (n : ℕ). bank < n) (sym (many_homes cores banks w)) right.bank)))
            | inr other ↦
                ap (λ (x : TimedPart). home_in x.part) (other_home k other)
                ∙ (sym (home_at cores banks w k within no_home) ∙ sym (get_or-set_other all.homes bank k p'.home no_home other))
          ]

  lasts_then : (parts_in cores banks then).lasts ≡ set all.lasts bank 0
  lasts_then =
      same_elements 0 (replicate banks 0) (set (replicate banks 0) bank 0) banks (length-replicate {A = ℕ} banks 0) (length-set (replicate banks 0) bank 0 ∙ length-replicate {A = ℕ} banks 0) each
    where
      each : (k : ℕ) → k < banks → get_or {A = ℕ} (replicate banks 0) k 0 ≡ get_or (set (replicate banks 0) bank 0) k 0
      each k within =
          elim (cases_eq k bank) as (λ _. get_or {A = ℕ} (replicate banks 0) k 0 ≡ get_or (set (replicate banks 0) bank 0) k 0) [
            | inl same ↦
                subst (λ (n : ℕ). get_or {A = ℕ} (replicate banks 0) n 0 ≡ get_or (set (replicate banks 0) bank 0) n 0) (sym same)
                (get_or-replicate banks bank 0 0 right.bank ∙ sym (get_or-set_same (replicate banks 0) bank 0 0 (subst (λ (n : ℕ). bank < n) (sym (length-replicate {A = ℕ} banks 0)) right.bank)))
            | inr other ↦ sym (get_or-set_other (replicate banks 0) bank k 0 0 other)
          ]

  pub parts_then : parts_in cores banks then ≡ parts_after (parts_in cores banks w) a.entry.core 0 a.entry.request
  parts_then = (λ i. record { homes = homes_then i; l1s = l1s_then i; lasts = lasts_then i }) ∙ sym is_with_it

  -- ---- the access is answered by the parts

  pub asked_all : IsAsked (bank_at (parts_in cores banks w) (bank_of (length (parts_in cores banks w).homes) a.entry.request)) a.entry.core a.entry.request
  asked_all = subst (λ (b : Bank). IsAsked b core request) (sym at_bank) asked.1

  pub reply_all : a.entry.reply ≡ parts_reply (parts_in cores banks w) a.entry.core a.entry.request
  unfolding parts_reply
  reply_all = right.reply ∙ ap (λ (b : Bank). bank_reply b core request) (sym at_bank)

  pub met_all : a.entry.outcome ≡ parts_met (parts_in cores banks w) a.entry.core a.entry.request
  unfolding parts_met
  met_all = right.outcome ∙ ap (λ (b : Bank). met_at_bank b core request) (sym at_bank)

  are_all : AreAllParts all'
  are_all = (laws.runs all all' (unnumbered a.entry ∷ []) sound.parts (asked_all, tt) (reply_all, met_all, refl)).1

  pub sound_then : IsSound cores banks (after cores banks w a)
  sound_then = record {
    l1s = λ k within.
        elim (cases_Bool (touches cores banks w a k)) as (λ _. (l1 : L1State) × ((then k).part ≡ Part.L1 l1)) [
          | inl is ↦ (l1_of p' k, ap (λ (x : TimedPart). x.part) (touched_after cores banks w a k is ∙ moved_l1 cores banks w a k within))
          | inr not_is ↦ let old = sound.l1s k within in (old.0, ap (λ (x : TimedPart). x.part) (other_after cores banks w a k not_is) ∙ old.1)
        ];
    homes = λ b within.
        elim (cases_Bool (touches cores banks w a (cores + b))) as (λ _. (home : HomeState) × ((then (cores + b)).part ≡ Part.Home home)) [
          | inl is ↦ (p'.home, ap (λ (x : TimedPart). x.part) (touched_after cores banks w a (cores + b) is ∙ moved_home cores banks w a (cores + b) (omega arith)))
          | inr not_is ↦ let old = sound.homes b within in (old.0, ap (λ (x : TimedPart). x.part) (other_after cores banks w a (cores + b) not_is) ∙ old.1)
        ];
    parts = subst AreAllParts (sym parts_then) are_all;
  }

  -- ---- what can be asked of them

  module _ (core2 : ℕ) (request2 : Request) (may : MayAsk cores banks w core2 request2) where
    abbrev bank2 : ℕ
    bank2 = bank_of banks request2

    bank_then : bank_in cores banks then bank2 ≡ record { home = home_in (then (cores + bank2)).part; l1s = p'.l1s }
    bank_then = ap (λ (l1s : List L1State). record { home = home_in (then (cores + bank2)).part; l1s = l1s }) l1s_then

    known_then : core2 < length p'.l1s
    known_then = subst (λ (n : ℕ). core2 < n) (many_l1s cores banks w ∙ sym many) may.1.known

    same_asked : bank2 ≡ bank → IsAsked p' core2 request2
    same_asked same =
        let can : CanServe (shard_seen p 0) request2 = subst (λ (b : ℕ). CanServe (shard_seen (bank_in cores banks w b) 0) request2) same (can_serve (bank_in cores banks w bank2) 0 core2 request2 may.1) in
        let e : Entry = unnumbered a.entry in
        let did : shard_seen p' 0 ≡ shard_after (shard_seen p 0) e = (laws.own p 0 e are asked.1).2 in
        is_asked p' 0 core2 request2 known_then (subst (λ (s : ShardState). CanServe s request2) (sym did) (laws.serves (shard_seen p 0) e request2 can))

    abbrev home2 : HomeState
    home2 = home_in (w (cores + bank2)).part

    number_of : (b : ℕ) → b < banks → ((home_in (w (cores + b)).part).number ≡ b) × ((home_in (w (cores + b)).part).shards ≡ length all.homes)
    number_of b within = sound.parts.number b (home_in (w (cores + b)).part) (there all.homes b (home_in (w (cores + b)).part) (subst (λ (n : ℕ). b < n) (sym (many_homes cores banks w)) within) (home_at cores banks w b within))
      where
        there : {X : Type 0} (xs : List X) (k : ℕ) (x : X) → k < length xs → ((d : X) → get_or xs k d ≡ x) → slice_get xs k ≡ Some x
        there [] k x within is = absurd (omega (arith, within))
        there (y ∷ xs) zero x within is = ap Some (is y)
        there (y ∷ xs) (suc k) x within is = there xs k x (omega (arith, within)) is

    other_asked : bank2 ≢ bank → IsAsked (record { home = home2; l1s = p'.l1s }) core2 request2
    other_asked other =
        let two = number_of bank2 may.0 in
        let one = number_of bank right.bank in
        let seen = laws.other p home2 0 core request are sound.parts.whole asked.1 (two.1 ∙ sym one.1) (λ same. other (sym two.0 ∙ (same ∙ one.0))) (parts_at cores banks w sound bank2 may.0) in
        is_asked (record { home = home2; l1s = p'.l1s }) 0 core2 request2 known_then
        (subst (λ (s : ShardState). CanServe s request2) (sym seen.0) (can_serve (bank_in cores banks w bank2) 0 core2 request2 may.1))

    pub still_asked : MayAsk cores banks (after cores banks w a) core2 request2
    still_asked = (
      may.0,
      subst (λ (b : Bank). IsAsked b core2 request2) (sym bank_then)
          (elim (cases_eq bank2 bank) as (λ _. IsAsked (record { home = home_in (then (cores + bank2)).part; l1s = p'.l1s }) core2 request2) [
            | inl same ↦
                let home : home_in (then (cores + bank2)).part ≡ p'.home = subst (λ (b : ℕ). home_in (then (cores + b)).part ≡ p'.home) (sym same) own_home in
                subst (λ (h : HomeState). IsAsked (record { home = h; l1s = p'.l1s }) core2 request2) (sym home) (same_asked same)
            | inr other ↦
                let home : home_in (then (cores + bank2)).part ≡ home2 = ap (λ (x : TimedPart). home_in x.part) (other_home bank2 other) in
                subst (λ (h : HomeState). IsAsked (record { home = h; l1s = p'.l1s }) core2 request2) (sym home) (other_asked other)
          ]),
    )

pub stays_fine : (cores banks : ℕ) (laws : MachineLaws) (first w : World) (a : Made) → IsFine cores banks first w → IsAllowed cores banks first w a → IsFine cores banks first (after cores banks w a)
stays_fine cores banks laws first w a fine allowed = let may = fine.asked a.entry.core a.entry.request allowed.asked in record {
  sound = sound_then cores banks laws w a fine.sound allowed.right may;
  asked = λ core request can. still_asked cores banks laws w a fine.sound allowed.right may core request (fine.asked core request can);
}
