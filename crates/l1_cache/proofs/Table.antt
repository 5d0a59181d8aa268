-- The table of the ways that were met, when a way or an entry changes.
use Rattle.std.proofs.Common.{◌≡◌, ◌≢◌, ℕ, ◌*◌, ◌^◌, ◌<◌, ◌≤◌, ◌&&◌, Bool, true, false, mul-le-mul, List, length, get_or, set, refl, sym, ap, ◌∙◌, subst, arith, inl, inr}
use Rattle.std.specs.Int.Bits.{bit_and}
use Rattle.std.proofs.lemmas.Bool.{cases_eq, cases_lt}
use Rattle.std.proofs.lemmas.Nat.{and_le_r}
use Rattle.std.proofs.lemmas.List.{length-set, get_or_default, get_or_past, get_or-set_same, get_or-set_other, set-set}
use Rattle.l1_cache.specs.declared.near.Near.{Near}
use Rattle.l1_cache.specs.declared.near.Kept.{Kept}
use Rattle.cache_set.specs.Places.{AreTags, StandsAt, set_number_in}
use Rattle.cache_set.specs.declared.letter.Letter.{Letter}
use Rattle.cache_set.specs.declared.letter.Letter.TheVariants.{M, E, S, I}
use Rattle.cache_set.specs.LetterFacts.{is_modified}
use Rattle.cache_set.proofs.StepsInArrays.{within_all}
use Rattle.l1_cache.specs.declared.data_ways.DataWays.{DataWays}
use Rattle.l1_cache.specs.declared.l1i.InstructionWays.{InstructionWays}
use Rattle.l1_cache.specs.Layout.{AreDataWays, AreInstructionWays, AreNear, HasAt, HasInstructionsAt, IsNearAt, IsOfWay, near_of, no_kept, no_line, no_near, to_write}

module _ {shards sets ways mask : ℕ} {ages tags : List ℕ} {kept : List Kept} {entries : List Near} (near : AreNear shards sets ways ages tags kept mask entries) where
  index_within : (line : ℕ) → bit_and line mask < length entries
  index_within line = omega (arith, near.count, and_le_r line mask)

  -- the entry of a line, where it is of no other
  pub entry_is : (line : ℕ) → line < no_line → (get_or entries (bit_and line mask) no_near).line ≡ line
      → IsOfWay shards sets ways ages tags kept (get_or entries (bit_and line mask) no_near)
  entry_is line below e =
      elim (near.each (bit_and line mask) (index_within line)) as (λ _. IsOfWay shards sets ways ages tags kept (get_or entries (bit_and line mask) no_near)) [
        | inl none ↦ absurd (omega (arith, none, e, below))
        | inr is ↦ is.0
      ]

  -- the same of what the program reads there
  pub met : (line i : ℕ) (entry : Near) → line < no_line → i ≡ bit_and line mask → entry ≡ get_or entries i entry → entry.line ≡ line → IsOfWay shards sets ways ages tags kept entry
  met line i entry below at read e =
      let is : get_or entries (bit_and line mask) no_near ≡ entry
      = get_or_default entries (bit_and line mask) no_near entry (index_within line) ∙ (ap (λ (j : ℕ). get_or entries j entry) (sym at) ∙ sym read) in
      subst (λ (x : Near). IsOfWay shards sets ways ages tags kept x) is (entry_is line below (ap (λ (x : Near). x.line) is ∙ e))

  -- ways that are used
  used_at_all : (anew : List ℕ) → ((q : ℕ) → q < sets * ways → 0 < get_or ages q 0 → 0 < get_or anew q 0) → ((q : ℕ) → sets * ways ≤ q → get_or ages q 0 ≡ 0)
      → (i : ℕ) (entry : Near) → IsNearAt shards sets ways ages tags kept mask i entry → IsNearAt shards sets ways anew tags kept mask i entry
  used_at_all anew live past i entry (inl none) = inl none
  used_at_all anew live past i entry (inr is) =
      let s = is.0.stands in
      let within : entry.place < sets * ways
      = elim (cases_lt entry.place (sets * ways)) as (λ _. entry.place < sets * ways) [ inl l ↦ l | inr g ↦ absurd (omega (arith, past entry.place g, s.live)) ] in
      inr (record { stands = record { from = s.from; to = s.to; live = live entry.place within s.live; tag = s.tag }; writes = is.0.writes }, is.1)

  pub near_used : (anew : List ℕ) → ((q : ℕ) → q < sets * ways → 0 < get_or ages q 0 → 0 < get_or anew q 0) → length ages ≡ sets * ways → AreNear shards sets ways anew tags kept mask entries
  near_used anew live long = record {
    count = near.count;
    each = λ i l. used_at_all anew live (λ q g. get_or_past ages q 0 (omega (arith, g, long))) i (get_or entries i no_near) (near.each i l);
  }

  -- an entry is of a way that is there
  pub near_put : (line place : ℕ) (writes : Bool) → StandsAt ways ages tags (set_number_in shards sets line) line place → (writes ≡ true → get_or kept place no_kept ≡ to_write)
      → AreNear shards sets ways ages tags kept mask (set entries (bit_and line mask) (record { line = line; place = place; writes = writes }))
  near_put line place writes stands says =
      let entry : Near = record { line = line; place = place; writes = writes } in
      record {
        count = length-set entries (bit_and line mask) entry ∙ near.count;
        each = λ i l. elim (cases_eq i (bit_and line mask)) as (λ _. IsNearAt shards sets ways ages tags kept mask i (get_or (set entries (bit_and line mask) entry) i no_near)) [
          | inl e ↦ subst (λ (x : Near). IsNearAt shards sets ways ages tags kept mask i x)
              (sym (ap (λ (j : ℕ). get_or (set entries (bit_and line mask) entry) j no_near) e ∙ get_or-set_same entries (bit_and line mask) entry no_near (index_within line)))
              (inr (record { stands = stands; writes = says }, sym e))
          | inr apart ↦ subst (λ (x : Near). IsNearAt shards sets ways ages tags kept mask i x) (sym (get_or-set_other entries (bit_and line mask) i entry no_near apart))
              (near.each i (omega (arith, l, length-set entries (bit_and line mask) entry)))
        ];
      }

  -- One way changes, and the entry of the line that it had falls.
  module _ (p line : ℕ) (tag : get_or tags p 0 ≡ line) (anew other : List ℕ) (again : List Kept)
      (live : (q : ℕ) → q ≢ p → 0 < get_or ages q 0 → 0 < get_or anew q 0) (tags_stay : (q : ℕ) → q ≢ p → get_or other q 0 ≡ get_or tags q 0)
      (kept_stay : (q : ℕ) → q ≢ p → get_or again q no_kept ≡ get_or kept q no_kept) where
    others_stay : (i : ℕ) (entry : Near) → i ≢ bit_and line mask → IsNearAt shards sets ways ages tags kept mask i entry → IsNearAt shards sets ways anew other again mask i entry
    others_stay i entry apart (inl none) = inl none
    others_stay i entry apart (inr is) =
        let s = is.0.stands in
        let elsewhere : entry.place ≢ p
        = λ e. apart (sym is.1 ∙ ap (λ (l : ℕ). bit_and l mask) (sym s.tag ∙ (ap (λ (q : ℕ). get_or tags q 0) e ∙ tag))) in
        inr (
          record {
            stands = record { from = s.from; to = s.to; live = live entry.place elsewhere s.live; tag = tags_stay entry.place elsewhere ∙ s.tag };
            writes = λ w. kept_stay entry.place elsewhere ∙ is.0.writes w;
          },
          is.1,
        )

    pub near_but : AreNear shards sets ways anew other again mask (set entries (bit_and line mask) no_near)
    near_but = record {
      count = length-set entries (bit_and line mask) no_near ∙ near.count;
      each = λ i l. elim (cases_eq i (bit_and line mask)) as (λ _. IsNearAt shards sets ways anew other again mask i (get_or (set entries (bit_and line mask) no_near) i no_near)) [
        | inl e ↦ subst (λ (x : Near). IsNearAt shards sets ways anew other again mask i x)
            (sym (ap (λ (j : ℕ). get_or (set entries (bit_and line mask) no_near) j no_near) e ∙ get_or-set_same entries (bit_and line mask) no_near no_near (index_within line)))
            (inl refl)
        | inr apart ↦ subst (λ (x : Near). IsNearAt shards sets ways anew other again mask i x) (sym (get_or-set_other entries (bit_and line mask) i no_near no_near apart))
            (others_stay i (get_or entries i no_near) apart (near.each i (omega (arith, l, length-set entries (bit_and line mask) no_near))))
      ];
    }

    pub near_but_at : (index : ℕ) → index ≡ bit_and line mask → AreNear shards sets ways anew other again mask (set entries index no_near)
    near_but_at index e = subst (λ (j : ℕ). AreNear shards sets ways anew other again mask (set entries j no_near)) (sym e) near_but

-- ---- the entry of a way

to_write_by : (letter : Letter) (free : Bool) → (free && is_modified letter) ≡ true → (let k : Kept = record { letter = letter; free = free } in k) ≡ to_write
to_write_by M true e = refl
to_write_by E true e = absurd cc
to_write_by S true e = absurd cc
to_write_by I true e = absurd cc
to_write_by M false e = absurd cc
to_write_by E false e = absurd cc
to_write_by S false e = absurd cc
to_write_by I false e = absurd cc

pub to_write_if : (k : Kept) → (k.free && is_modified k.letter) ≡ true → k ≡ to_write
to_write_if k e = to_write_by k.letter k.free e

-- A way is kept otherwise, and the entry of its line says so.
pub near_kept_put : {shards sets ways mask : ℕ} {ages tags : List ℕ} {kept : List Kept} {entries : List Near} (near : AreNear shards sets ways ages tags kept mask entries)
    (line p : ℕ) (k : Kept) → StandsAt ways ages tags (set_number_in shards sets line) line p → p < length kept
    → (index : ℕ) → index ≡ bit_and line mask → AreNear shards sets ways ages tags (set kept p k) mask (set entries index (near_of line p k))
near_kept_put {shards} {sets} {ways} {mask} {ages} {tags} {kept} {entries} near line p k at within index e =
    let entry : Near = near_of line p k in
    let fallen : AreNear shards sets ways ages tags (set kept p k) mask (set entries (bit_and line mask) no_near)
    = near_but near p line at.tag ages tags (set kept p k) (λ q apart live. live) (λ q apart. refl) (λ q apart. get_or-set_other kept p q k no_kept apart) in
    let put : AreNear shards sets ways ages tags (set kept p k) mask (set (set entries (bit_and line mask) no_near) (bit_and line mask) entry)
    = near_put fallen line p (k.free && is_modified k.letter) at (λ w. get_or-set_same kept p k no_kept within ∙ to_write_if k w) in
    subst (λ (l : List Near). AreNear shards sets ways ages tags (set kept p k) mask l)
    (set-set entries (bit_and line mask) no_near entry ∙ ap (λ (j : ℕ). set entries j entry) (sym e)) put

-- ---- places of ways

pub places_small : {w : DataWays} → AreDataWays w → w.tags.sets * w.tags.ways < 2 ^ 32
places_small {w} are =
    let most : w.tags.sets * w.tags.ways ≤ 65536 * 32 = mul-le-mul are.sets_are.1 are.tags.few in
    omega (arith, most)

pub place_small : {w : DataWays} → AreDataWays w → (line p : ℕ) → HasAt w line p → p < 2 ^ 32
place_small {w} are line p at = omega (arith, places_small are, within_all are.tags.aged are.sets_are.0 w.shards line p at)

-- where a way has a line there is a set
pub some_sets : {sets ways tick n line p : ℕ} {ages tags : List ℕ} → AreTags sets ways tick ages tags → StandsAt ways ages tags n line p → 0 < sets
some_sets {sets} {ways} {tick} {n} {line} {p} {ages} {tags} are at =
    elim (cases_eq sets 0) as (λ _. 0 < sets) [
      | inl e ↦ let none : length ages ≡ 0 * ways = rw e at are.aged.ages_are in absurd (omega (arith, none, get_or_past ages p 0 (omega (arith, none)), at.live))
      | inr some ↦ omega (arith, some)
    ]

pub instruction_places_small : {shards : ℕ} {i : InstructionWays} → AreInstructionWays shards i → i.tags.sets * i.tags.ways < 2 ^ 32
instruction_places_small {shards} {i} are =
    let most : i.tags.sets * i.tags.ways ≤ 65536 * 32 = mul-le-mul are.few_sets are.tags.few in
    omega (arith, most)

pub instruction_place_small : {shards : ℕ} {i : InstructionWays} → AreInstructionWays shards i → (line p : ℕ) → HasInstructionsAt shards i line p → p < 2 ^ 32
instruction_place_small {shards} {i} are line p at =
    omega (arith, instruction_places_small are, within_all are.tags.aged (some_sets are.tags at) shards line p at)

-- ---- ways that are others by name

pub tags_as : {sets s ways w tick : ℕ} {ages a tags t : List ℕ} → sets ≡ s → ways ≡ w → ages ≡ a → tags ≡ t → AreTags s w tick a t → AreTags sets ways tick ages tags
tags_as e f g h are = rw (e, f, g, h) are

pub near_as : {shards sets s ways w : ℕ} {ages a tags t : List ℕ} {kept : List Kept} {mask : ℕ} {entries : List Near} → sets ≡ s → ways ≡ w → ages ≡ a → tags ≡ t
    → AreNear shards s w a t kept mask entries → AreNear shards sets ways ages tags kept mask entries
near_as e f g h near = rw (e, f, g, h) near
