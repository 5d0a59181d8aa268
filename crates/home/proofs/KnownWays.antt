-- Which way has each of the bank's lines, as the ways change.
use Rattle.std.proofs.Common.{◌≡◌, ◌≢◌, ◌⊎◌, inl, inr, ℕ, zero, suc, ◌+◌, ◌-◌, ◌*◌, ◌/◌, ◌<◌, ◌≤◌, Bool, true, false, List, length, get_or, replicate, set, Option, Some, None, refl, sym, ap, ap₂, ◌∙◌, subst, arith}
use Rattle.std.proofs.Math.Nat.{div-add-mod'}
use Rattle.std.proofs.lemmas.Bool.{cases_eq, cases_lt}
use Rattle.std.proofs.lemmas.Nat.{mod_below}
use Rattle.std.proofs.lemmas.List.{get_or-set_other, get_or-set_same}
use Rattle.cache_set.specs.Pieces.{AreAgedSets}
use Rattle.cache_set.specs.Places.{IsNext, StandsAt, StandsNowhere, set_number_in}
use Rattle.cache_set.proofs.Pieces.{piece_get, within_pieces}
use Rattle.home.proofs.Placed.{zeros_at}
use Rattle.home.proofs.RowPlaces.{row_of_parts, row_within, way_of_row}
use Rattle.home.specs.Layout.{AreKnown, IsFound, IsInSet, IsNoted, IsOwn, IsRemembered, known_row, row_place, way_place}

cases_bool : (b : Bool) → (b ≡ true) ⊎ (b ≡ false)
cases_bool true = inl refl
cases_bool false = inr refl

-- ---- a set that lacks a line, place by place

pub lacks_at : {ways : ℕ} {ages tags : List ℕ} {n line : ℕ} → StandsNowhere ways ages tags n line → (q : ℕ) → n * ways ≤ q → q < n * ways + ways → 0 < get_or ages q 0 → line ≢ get_or tags q 0
lacks_at {ways} {ages} {tags} {n} {line} none q from to live same =
    let j = q - n * ways in
    let below : j < ways = omega (arith, from, to) in
    let at : q ≡ n * ways + j = omega (arith, from) in
    none.nowhere j below
    (subst (λ (a : ℕ). 0 < a) (sym (piece_get ways n j q ages 0 below at)) live)
    (same ∙ sym (piece_get ways n j q tags 0 below at))

pub lacks_all : {ways : ℕ} {ages tags : List ℕ} {n line : ℕ} → ((q : ℕ) → n * ways ≤ q → q < n * ways + ways → 0 < get_or ages q 0 → line ≢ get_or tags q 0) → StandsNowhere ways ages tags n line
lacks_all {ways} {ages} {tags} {n} {line} each = record {
  nowhere = λ j below live same.
      each (n * ways + j) (omega arith) (omega (arith, below))
      (subst (λ (a : ℕ). 0 < a) (piece_get ways n j (n * ways + j) ages 0 below refl) live)
      (same ∙ piece_get ways n j (n * ways + j) tags 0 below refl);
}

-- a line has one place alone, and a place one line
pub own_once : {number shards below lines line other at : ℕ} → IsOwn number shards below lines line at → IsOwn number shards below lines other at → line ≡ other
own_once {number} {shards} {below} {lines} {line} {other} {at} a b =
    let quotients : line / shards ≡ other / shards = omega (arith, a.above, b.above, a.place, b.place) in
    sym (div-add-mod' line shards) ∙ (ap₂ (λ (q r : ℕ). q * shards + r) quotients (a.dealt ∙ sym b.dealt) ∙ div-add-mod' other shards)

pub own_place : {number shards below lines line at other : ℕ} → IsOwn number shards below lines line at → IsOwn number shards below lines line other → at ≡ other
own_place a b = a.place ∙ sym b.place

-- which row is meant
pub known_is : (sets n known : ℕ) → 0 < known → known_row sets n known ≡ Some ((known - 1) * sets + n)
known_is sets n zero some = absurd (omega (arith, some))
known_is sets n (suc way) some = ap (λ (w : ℕ). Some (w * sets + n)) (let w : way ≡ suc way - 1 = omega arith in w)

-- ---- the ways as they are

module _ {number shards below sets ways tick : ℕ} {ages tags known : List ℕ} (aged : AreAgedSets sets ways tick ages tags) (some : 0 < sets)
    (k : AreKnown number shards below sets ways ages tags known) where
  in_sets : (line q : ℕ) → q < set_number_in shards sets line * ways + ways → q < sets * ways
  in_sets line q to = omega (arith, to, within_pieces sets ways (set_number_in shards sets line) (mod_below (line / shards) sets some))

  -- a way that is not free is used: it has another age
  module _ (p age : ℕ) (live : 0 < get_or ages p 0) (inside : p < length ages) (old : 0 < age) where
    live_before : (q : ℕ) → 0 < get_or (set ages p age) q 0 → 0 < get_or ages q 0
    live_before q now =
        elim (cases_eq q p) as (λ _. 0 < get_or ages q 0) [
          | inl e ↦ subst (λ (at : ℕ). 0 < get_or ages at 0) (sym e) live
          | inr apart ↦ subst (λ (a : ℕ). 0 < a) (get_or-set_other ages p q age 0 apart) now
        ]

    live_still : (q : ℕ) → 0 < get_or ages q 0 → 0 < get_or (set ages p age) q 0
    live_still q was =
        elim (cases_eq q p) as (λ _. 0 < get_or (set ages p age) q 0) [
          | inl e ↦ subst (λ (at : ℕ). 0 < get_or (set ages p age) at 0) (sym e) (subst (λ (a : ℕ). 0 < a) (sym (get_or-set_same ages p age 0 inside)) old)
          | inr apart ↦ subst (λ (a : ℕ). 0 < a) (sym (get_or-set_other ages p q age 0 apart)) was
        ]

    found_used : (line : ℕ) (o : Option ℕ) → IsFound shards sets ways ages tags line o → IsFound shards sets ways (set ages p age) tags line o
    found_used line None none = lacks_all (λ q from to now. lacks_at none q from to (live_before q now))
    found_used line (Some r) at = (record { from = at.0.from; to = at.0.to; live = live_still (way_place sets ways r) at.0.live; tag = at.0.tag }, at.1)

    pub known_used : AreKnown number shards below sets ways (set ages p age) tags known
    known_used = record {
      placed = λ q within now. k.placed q within (live_before q now);
      found = λ line at own. found_used line (known_row sets (set_number_in shards sets line) (get_or known at 0)) (k.found line at own);
    }

  -- ages that are written anew are of the same ways
  module _ (anew : List ℕ) (same : (q : ℕ) → q < sets * ways → 0 < get_or anew q 0 → 0 < get_or ages q 0) (still : (q : ℕ) → q < sets * ways → 0 < get_or ages q 0 → 0 < get_or anew q 0) where
    found_anew : (line : ℕ) (o : Option ℕ) → IsFound shards sets ways ages tags line o → IsFound shards sets ways anew tags line o
    found_anew line None none = lacks_all (λ q from to now. lacks_at none q from to (same q (in_sets line q to) now))
    found_anew line (Some r) at = (record { from = at.0.from; to = at.0.to; live = still (way_place sets ways r) (in_sets line (way_place sets ways r) at.0.to) at.0.live; tag = at.0.tag }, at.1)

    pub known_anew : AreKnown number shards below sets ways anew tags known
    known_anew = record {
      placed = λ q within now. k.placed q within (same q within now);
      found = λ line at own. found_anew line (known_row sets (set_number_in shards sets line) (get_or known at 0)) (k.found line at own);
    }

  -- A line comes in where the set's next way is. The line that this way had, if it had one, is there no more.
  module _ (line p age : ℕ) (next : IsNext ways ages (set_number_in shards sets line) p) (absent : StandsNowhere ways ages tags (set_number_in shards sets line) line) (old : 0 < age) where
    abbrev ages_then : List ℕ
    ages_then = set ages p age

    abbrev tags_then : List ℕ
    tags_then = set tags p line

    p_inside : p < sets * ways
    p_inside = in_sets line p next.to

    tag_there : get_or tags_then p 0 ≡ line
    tag_there = get_or-set_same tags p line 0 (omega (arith, p_inside, aged.tags_are))

    live_there : 0 < get_or ages_then p 0
    live_there = subst (λ (a : ℕ). 0 < a) (sym (get_or-set_same ages p age 0 (omega (arith, p_inside, aged.ages_are)))) old

    -- the line itself
    found_here : StandsAt ways ages_then tags_then (set_number_in shards sets line) line p
    found_here = record { from = next.from; to = next.to; live = live_there; tag = tag_there }

    here_known : known_row sets (set_number_in shards sets line) (p - set_number_in shards sets line * ways + 1) ≡ Some (row_place sets ways p)
    here_known =
        let n = set_number_in shards sets line in
        let w = p - n * ways in
        let below : w < ways = omega (arith, next.from, next.to) in
        let row : (w + 1 - 1) * sets + n ≡ row_place sets ways p =
        ap (λ (k : ℕ). k * sets + n) (let e : w + 1 - 1 ≡ w = omega arith in e)
        ∙ (sym (row_of_parts sets ways n w below) ∙ ap (row_place sets ways) (let e : n * ways + w ≡ p = omega (arith, next.from) in e)) in
        known_is sets n (w + 1) (omega arith) ∙ ap (λ (r : ℕ). Some r) row

    here_found : IsFound shards sets ways ages_then tags_then line (Some (row_place sets ways p))
    here_found =
        let back = way_of_row sets ways p p_inside in
        (subst (λ (q : ℕ). StandsAt ways ages_then tags_then (set_number_in shards sets line) line q) (sym back) found_here, (row_within sets ways p p_inside, ap (row_place sets ways) (sym back)))

    -- a line that isn't there, and is another
    nowhere_then : (other : ℕ) → other ≢ line → ((q : ℕ) → set_number_in shards sets other * ways ≤ q → q < set_number_in shards sets other * ways + ways → q ≢ p → 0 < get_or ages q 0 → other ≢ get_or tags q 0)
        → StandsNowhere ways ages_then tags_then (set_number_in shards sets other) other
    nowhere_then other differs none = lacks_all (λ q from to now same.
        elim (cases_eq q p) as (λ _. ⊥) [
          | inl e ↦ differs (same ∙ ap (λ (at : ℕ). get_or tags_then at 0) e ∙ tag_there)
          | inr apart ↦ none q from to apart (subst (λ (a : ℕ). 0 < a) (get_or-set_other ages p q age 0 apart) now) (same ∙ get_or-set_other tags p q line 0 apart)
        ])

    -- another line that stays as it was: none had it, or another way
    found_still : (other : ℕ) → other ≢ line → (o : Option ℕ) → (0 < get_or ages p 0 → other ≢ get_or tags p 0) → IsFound shards sets ways ages tags other o → IsFound shards sets ways ages_then tags_then other o
    found_still other differs None kept none = nowhere_then other differs (λ q from to apart live. lacks_at none q from to live)
    found_still other differs (Some r) kept at =
        elim (cases_eq (way_place sets ways r) p) as (λ _. IsFound shards sets ways ages_then tags_then other (Some r)) [
          | inl e ↦ absurd (kept (subst (λ (at : ℕ). 0 < get_or ages at 0) e at.0.live) (sym at.0.tag ∙ ap (λ (at : ℕ). get_or tags at 0) e))
          | inr apart ↦ (
            record {
              from = at.0.from;
              to = at.0.to;
              live = subst (λ (a : ℕ). 0 < a) (sym (get_or-set_other ages p (way_place sets ways r) age 0 apart)) at.0.live;
              tag = get_or-set_other tags p (way_place sets ways r) line 0 apart ∙ at.0.tag;
            },
            at.1,
          )
        ]

    -- the line that leaves
    gone_then : (had : ℕ) → had ≢ line → 0 < get_or ages p 0 → get_or tags p 0 ≡ had → StandsNowhere ways ages_then tags_then (set_number_in shards sets had) had
    gone_then had differs live tag =
        let m = set_number_in shards sets had in
        let inside : IsInSet ways m p = subst (λ (t : ℕ). IsInSet ways (set_number_in shards sets t) p) tag (k.placed p p_inside live) in
        let i = p - m * ways in
        let i_below : i < ways = omega (arith, inside.0, inside.1) in
        let i_at : p ≡ m * ways + i = omega (arith, inside.0) in
        nowhere_then had differs (λ q from to apart other same.
        let j = q - m * ways in
        let j_below : j < ways = omega (arith, from, to) in
        let j_at : q ≡ m * ways + j = omega (arith, from) in
        (aged.aged m (mod_below (had / shards) sets some)).once i j i_below j_below (λ e. apart (omega (arith, e, i_at, j_at)))
        (subst (λ (a : ℕ). 0 < a) (sym (piece_get ways m i p ages 0 i_below i_at)) live)
        (subst (λ (a : ℕ). 0 < a) (sym (piece_get ways m j q ages 0 j_below j_at)) other)
        (piece_get ways m i p tags 0 i_below i_at ∙ tag ∙ same ∙ sym (piece_get ways m j q tags 0 j_below j_at)))

    placed_then : (q : ℕ) → q < sets * ways → 0 < get_or ages_then q 0 → IsInSet ways (set_number_in shards sets (get_or tags_then q 0)) q
    placed_then q within now =
        elim (cases_eq q p) as (λ _. IsInSet ways (set_number_in shards sets (get_or tags_then q 0)) q) [
          | inl e ↦ subst (λ (at : ℕ). IsInSet ways (set_number_in shards sets (get_or tags_then at 0)) at) (sym e)
              (subst (λ (t : ℕ). IsInSet ways (set_number_in shards sets t) p) (sym tag_there) (next.from, next.to))
          | inr apart ↦ subst (λ (t : ℕ). IsInSet ways (set_number_in shards sets t) q) (sym (get_or-set_other tags p q line 0 apart))
              (k.placed q within (subst (λ (a : ℕ). 0 < a) (get_or-set_other ages p q age 0 apart) now))
        ]

    -- What is known after: of the line its way, of the one that leaves that none has it, and of all others what was known.
    pub known_filled : (after : List ℕ) → length after ≡ length known
        → ((at : ℕ) → IsOwn number shards below (length known) line at → get_or after at 0 ≡ p - set_number_in shards sets line * ways + 1)
        → ((other at : ℕ) → IsOwn number shards below (length known) other at → other ≢ line → 0 < get_or ages p 0 → get_or tags p 0 ≡ other → get_or after at 0 ≡ 0)
        → ((other at : ℕ) → IsOwn number shards below (length known) other at → other ≢ line → (0 < get_or ages p 0 → other ≢ get_or tags p 0) → get_or after at 0 ≡ get_or known at 0)
        → AreKnown number shards below sets ways ages_then tags_then after
    known_filled after long here gone still = record {
      placed = placed_then;
      found = λ other at own_then.
          let own = subst (λ (n : ℕ). IsOwn number shards below n other at) long own_then in
          let n = set_number_in shards sets other in
          elim (cases_eq other line) as (λ _. IsFound shards sets ways ages_then tags_then other (known_row sets n (get_or after at 0))) [
            | inl e ↦
                subst (λ (v : ℕ). IsFound shards sets ways ages_then tags_then other (known_row sets n v)) (sym (here at (subst (λ (l : ℕ). IsOwn number shards below (length known) l at) e own)))
                (subst (λ (l : ℕ). IsFound shards sets ways ages_then tags_then l (known_row sets (set_number_in shards sets l) (p - set_number_in shards sets line * ways + 1))) (sym e)
                (subst (IsFound shards sets ways ages_then tags_then line) (sym here_known) here_found))
            | inr differs ↦
                elim (cases_lt 0 (get_or ages p 0)) as (λ _. IsFound shards sets ways ages_then tags_then other (known_row sets n (get_or after at 0))) [
                  | inl live ↦ elim (cases_eq (get_or tags p 0) other) as (λ _. IsFound shards sets ways ages_then tags_then other (known_row sets n (get_or after at 0))) [
                    | inl tag ↦ subst (λ (v : ℕ). IsFound shards sets ways ages_then tags_then other (known_row sets n v)) (sym (gone other at own differs live tag)) (gone_then other differs live tag)
                    | inr tag ↦ stays other at own differs (λ _ same. tag (sym same))
                  ]
                  | inr free ↦ stays other at own differs (λ live _. omega (arith, live, free))
                ]
          ];
    }
      where
        stays : (other at : ℕ) → IsOwn number shards below (length known) other at → other ≢ line → (0 < get_or ages p 0 → other ≢ get_or tags p 0) → IsFound shards sets ways ages_then tags_then other (known_row sets (set_number_in shards sets other) (get_or after at 0))
        stays other at own differs kept =
            subst (λ (v : ℕ). IsFound shards sets ways ages_then tags_then other (known_row sets (set_number_in shards sets other) v)) (sym (still other at own differs kept))
            (found_still other differs (known_row sets (set_number_in shards sets other) (get_or known at 0)) kept (k.found other at own))

    module _ (evicts : Bool) (had : ℕ) (after : List ℕ) (live_was : evicts ≡ true → 0 < get_or ages p 0) (free_was : evicts ≡ false → get_or ages p 0 ≡ 0) (had_is : get_or tags p 0 ≡ had)
        (is : IsRemembered number shards below line (p - set_number_in shards sets line * ways + 1) evicts had known after) where
      -- a line that is noted has the place to itself
      keeps : (l other at value : ℕ) (first second : List ℕ) → length first ≡ length known → l ≢ other → IsOwn number shards below (length known) other at
          → IsNoted number shards below l value first second → get_or second at 0 ≡ get_or first at 0
      keeps l other at value first second long differs own noted =
          noted.others at (λ mine. differs (own_once (subst (λ (n : ℕ). IsOwn number shards below n l at) long mine) own))

      long_between : length is.between ≡ length known
      long_between = elim (cases_bool evicts) as (λ _. length is.between ≡ length known) [ inl did ↦ (is.left did).long | inr did_not ↦ ap length (is.stayed did_not) ]

      here_then : (at : ℕ) → IsOwn number shards below (length known) line at → get_or after at 0 ≡ p - set_number_in shards sets line * ways + 1
      here_then at own = is.came.here at (subst (λ (n : ℕ). IsOwn number shards below n line at) (sym long_between) own)

      gone_in : (other at : ℕ) → IsOwn number shards below (length known) other at → other ≢ line → 0 < get_or ages p 0 → get_or tags p 0 ≡ other → get_or after at 0 ≡ 0
      gone_in other at own differs live tag =
          elim (cases_bool evicts) as (λ _. get_or after at 0 ≡ 0) [
            | inl did ↦ keeps line other at (p - set_number_in shards sets line * ways + 1) is.between after long_between (λ e. differs (sym e)) own is.came
                ∙ (is.left did).here at (subst (λ (l : ℕ). IsOwn number shards below (length known) l at) (sym tag ∙ had_is) own)
            | inr did_not ↦ absurd (omega (arith, live, free_was did_not))
          ]

      still_in : (other at : ℕ) → IsOwn number shards below (length known) other at → other ≢ line → (0 < get_or ages p 0 → other ≢ get_or tags p 0) → get_or after at 0 ≡ get_or known at 0
      still_in other at own differs kept =
          keeps line other at (p - set_number_in shards sets line * ways + 1) is.between after long_between (λ e. differs (sym e)) own is.came
          ∙ elim (cases_bool evicts) as (λ _. get_or is.between at 0 ≡ get_or known at 0) [
            | inl did ↦ keeps had other at 0 known is.between refl (λ e. kept (live_was did) (sym e ∙ sym had_is)) own (is.left did)
            | inr did_not ↦ ap (λ (l : List ℕ). get_or l at 0) (is.stayed did_not)
          ]

      pub known_entered : AreKnown number shards below sets ways ages_then tags_then after
      known_entered = known_filled after (is.came.long ∙ long_between) here_then gone_in still_in

-- ---- before the first access

-- no way has a line, and nothing is known of any
pub nothing_known : {number shards below sets ways : ℕ} {ages tags known : List ℕ} (count lines : ℕ) → ages ≡ replicate count 0 → known ≡ replicate lines 0 → AreKnown number shards below sets ways ages tags known
nothing_known {number} {shards} {below} {sets} {ways} {ages} {tags} {known} count lines free none =
    let none_live : (q : ℕ) → get_or ages q 0 ≡ 0 = λ q. ap (λ (l : List ℕ). get_or l q 0) free ∙ zeros_at count q in
    record {
      placed = λ q within live. absurd (omega (arith, live, none_live q));
      found = λ line at own.
          subst (λ (v : ℕ). IsFound shards sets ways ages tags line (known_row sets (set_number_in shards sets line) v)) (sym (ap (λ (l : List ℕ). get_or l at 0) none ∙ zeros_at lines at))
          (lacks_all (λ q from to live _. omega (arith, live, none_live q)));
    }
