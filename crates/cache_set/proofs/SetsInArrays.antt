-- Steps of sets that stand in arrays, one after the other: each changes one item of each array, and one set.
use Rattle.std.proofs.Common.{◌≡◌, ◌≢◌, ℕ, zero, suc, ◌+◌, ◌*◌, ◌/◌, ◌%◌, ◌<◌, ◌≤◌, List, [], ◌∷◌, length, get_or, set, Some, None, refl, sym, ap, ◌∙◌, subst, arith, inl, inr}
use Rattle.std.specs.Prelude.{◌⊎◌}
use Rattle.std.proofs.lemmas.Bool.{cases_eq}
use Rattle.std.proofs.lemmas.Nat.{mod_below}
use Rattle.std.proofs.Math.Nat.{div-lt_iff_lt-mul}
use Rattle.std.proofs.lemmas.List.{ext_get_or, get_or_default, length-map, length-set, set-get_or}
use Rattle.cache_set.specs.Ages.{AreAged, rank_in, renumbered, ways_in}
use Rattle.cache_set.specs.Pieces.{AreAgedSets, IsSameOrder, piece, pieces, sets_in, sets_of}
use Rattle.cache_set.specs.Ways.{kept_of, without, used, filled, changed, victim_of}
use Rattle.cache_set.proofs.Filled.{filled_is, no_victim, the_victim}
use Rattle.cache_set.proofs.Pieces.{length_piece, length_pieces, piece_get, piece_is, piece_other, piece_put, pieces_put, pieces_same, within_pieces}
use Rattle.cache_set.proofs.Renumbered.{aged_anew, live_anew, rank_at, rank_of_free, ranks_are_few, same_order}
use Rattle.cache_set.proofs.Rows.{aged_free, aged_put}
use Rattle.cache_set.proofs.WaysByAge.{changed_at, kept_at, kept_first_at, kept_none, used_at, without_at, without_none}

-- ---- sets by their pieces

module _ {X : Type 0} where
  length_sets_of : (us ts : List (List ℕ)) (ks : List (List X)) → length ts ≡ length us → length ks ≡ length us → length (sets_of us ts ks) ≡ length us
  length_sets_of [] ts ks t k = refl
  length_sets_of (a ∷ us) [] ks t k = absurd (omega arith)
  length_sets_of (a ∷ us) (b ∷ ts) [] t k = absurd (omega arith)
  length_sets_of (a ∷ us) (b ∷ ts) (c ∷ ks) t k = omega (arith, length_sets_of us ts ks (omega arith) (omega arith))

  set_of_these : (us ts : List (List ℕ)) (ks : List (List X)) (n : ℕ) → length ts ≡ length us → length ks ≡ length us
      → get_or (sets_of us ts ks) n [] ≡ ways_in (get_or us n []) (get_or ts n []) (get_or ks n [])
  set_of_these [] ts ks n t k = refl
  set_of_these (a ∷ us) [] ks n t k = absurd (omega arith)
  set_of_these (a ∷ us) (b ∷ ts) [] n t k = absurd (omega arith)
  set_of_these (a ∷ us) (b ∷ ts) (c ∷ ks) zero t k = refl
  set_of_these (a ∷ us) (b ∷ ts) (c ∷ ks) (suc n) t k = set_of_these us ts ks n (omega arith) (omega arith)

  sets_of_set : (us ts : List (List ℕ)) (ks : List (List X)) (n : ℕ) (a t : List ℕ) (k : List X)
      → sets_of (set us n a) (set ts n t) (set ks n k) ≡ set (sets_of us ts ks) n (ways_in a t k)
  sets_of_set [] ts ks n a t k = refl
  sets_of_set (b ∷ us) [] ks zero a t k = refl
  sets_of_set (b ∷ us) [] ks (suc n) a t k = refl
  sets_of_set (b ∷ us) (c ∷ ts) [] zero a t k = refl
  sets_of_set (b ∷ us) (c ∷ ts) [] (suc n) a t k = refl
  sets_of_set (b ∷ us) (c ∷ ts) (d ∷ ks) zero a t k = refl
  sets_of_set (b ∷ us) (c ∷ ts) (d ∷ ks) (suc n) a t k = ap (λ (l : List (List (ℕ × X))). ways_in b c d ∷ l) (sets_of_set us ts ks n a t k)

  pub length_sets : (sets ways : ℕ) (ages tags : List ℕ) (kept : List X) → length (sets_in sets ways ages tags kept) ≡ sets
  unfolding sets_in
  length_sets sets ways ages tags kept =
      length_sets_of (pieces sets ways ages) (pieces sets ways tags) (pieces sets ways kept)
      (length_pieces sets ways tags ∙ sym (length_pieces sets ways ages)) (length_pieces sets ways kept ∙ sym (length_pieces sets ways ages))
      ∙ length_pieces sets ways ages

  pub set_at : (sets ways n : ℕ) (ages tags : List ℕ) (kept : List X) → n < sets
      → get_or (sets_in sets ways ages tags kept) n [] ≡ ways_in (piece ways n ages) (piece ways n tags) (piece ways n kept)
  unfolding sets_in
  set_at sets ways n ages tags kept l =
      set_of_these (pieces sets ways ages) (pieces sets ways tags) (pieces sets ways kept) n
      (length_pieces sets ways tags ∙ sym (length_pieces sets ways ages)) (length_pieces sets ways kept ∙ sym (length_pieces sets ways ages))
      ∙ (ap (λ (p : List ℕ). ways_in p (get_or (pieces sets ways tags) n []) (get_or (pieces sets ways kept) n [])) (piece_is sets ways n ages [] l)
      ∙ (ap (λ (p : List ℕ). ways_in (piece ways n ages) p (get_or (pieces sets ways kept) n [])) (piece_is sets ways n tags [] l)
      ∙ ap (λ (p : List X). ways_in (piece ways n ages) (piece ways n tags) p) (piece_is sets ways n kept [] l)))

  sets_change : (sets ways n : ℕ) (ages tags anew other : List ℕ) (kept again : List X) (a t : List ℕ) (k : List X)
      → pieces sets ways anew ≡ set (pieces sets ways ages) n a → pieces sets ways other ≡ set (pieces sets ways tags) n t → pieces sets ways again ≡ set (pieces sets ways kept) n k
      → sets_in sets ways anew other again ≡ set (sets_in sets ways ages tags kept) n (ways_in a t k)
  unfolding sets_in
  sets_change sets ways n ages tags anew other kept again a t k e f g =
      ap (λ (p : List (List ℕ)). sets_of p (pieces sets ways other) (pieces sets ways again)) e
      ∙ (ap (λ (p : List (List ℕ)). sets_of (set (pieces sets ways ages) n a) p (pieces sets ways again)) f
      ∙ (ap (λ (p : List (List X)). sets_of (set (pieces sets ways ages) n a) (set (pieces sets ways tags) n t) p) g
      ∙ sets_of_set (pieces sets ways ages) (pieces sets ways tags) (pieces sets ways kept) n a t k))

  sets_same : (sets ways : ℕ) (ages anew tags : List ℕ) (kept : List X)
      → ((n : ℕ) → n < sets → ways_in (piece ways n anew) (piece ways n tags) (piece ways n kept) ≡ ways_in (piece ways n ages) (piece ways n tags) (piece ways n kept))
      → sets_in sets ways anew tags kept ≡ sets_in sets ways ages tags kept
  sets_same sets ways ages anew tags kept h =
      ext_get_or [] (sets_in sets ways anew tags kept) (sets_in sets ways ages tags kept)
      (length_sets sets ways anew tags kept ∙ sym (length_sets sets ways ages tags kept))
      (λ n l. let below : n < sets = omega (arith, l, length_sets sets ways anew tags kept) in
      set_at sets ways n anew tags kept below ∙ (h n below ∙ sym (set_at sets ways n ages tags kept below)))

-- ---- ages that are written anew

pub sets_anew : {X : Type 0} (sets ways : ℕ) (ages anew tags : List ℕ) (kept : List X) → IsSameOrder sets ways ages anew
    → sets_in sets ways anew tags kept ≡ sets_in sets ways ages tags kept
sets_anew sets ways ages anew tags kept order =
    sets_same sets ways ages anew tags kept
    (λ n l. elim (order n l) as (λ _. ways_in (piece ways n anew) (piece ways n tags) (piece ways n kept) ≡ ways_in (piece ways n ages) (piece ways n tags) (piece ways n kept)) [
      | inl e ↦ ap (λ (p : List ℕ). ways_in p (piece ways n tags) (piece ways n kept)) e
      | inr e ↦ ap (λ (p : List ℕ). ways_in p (piece ways n tags) (piece ways n kept)) e ∙ same_order (piece ways n ages) (piece ways n tags) (piece ways n kept)
    ])

aged_later : {ways tick : ℕ} {ages tags : List ℕ} (latest : ℕ) → AreAged ways tick ages tags → ((j : ℕ) → j < ways → get_or ages j 0 ≤ latest) → AreAged ways latest ages tags
aged_later latest aged past = record { ages_are = aged.ages_are; tags_are = aged.tags_are; past = past; apart = aged.apart; once = aged.once }

module _ {sets ways tick : ℕ} {ages tags : List ℕ} (latest : ℕ) (anew : List ℕ) (are : AreAgedSets sets ways tick ages tags) (long : length anew ≡ length ages)
    (past : (p : ℕ) → p < length ages → get_or anew p 0 ≤ latest) where
  past_here : (n j : ℕ) → n < sets → j < ways → get_or (piece ways n anew) j 0 ≤ latest
  past_here n j l m =
      omega (arith, piece_get ways n j (n * ways + j) anew 0 m refl, past (n * ways + j) (omega (arith, within_pieces sets ways n l, are.ages_are, m)))

  anew_aged : (n : ℕ) → n < sets → (piece ways n anew ≡ piece ways n ages) ⊎ (piece ways n anew ≡ renumbered (piece ways n ages)) → AreAged ways latest (piece ways n anew) (piece ways n tags)
  anew_aged n l (inl e) =
      subst (λ (q : List ℕ). AreAged ways latest q (piece ways n tags)) (sym e)
      (aged_later latest (are.aged n l) (λ j m. subst (λ (q : List ℕ). get_or q j 0 ≤ latest) e (past_here n j l m)))
  anew_aged n l (inr e) =
      subst (λ (q : List ℕ). AreAged ways latest q (piece ways n tags)) (sym e)
      (aged_anew (are.aged n l) latest (λ j m. subst (λ (q : List ℕ). get_or q j 0 ≤ latest) e (past_here n j l m)))

  pub aged_sets_anew : IsSameOrder sets ways ages anew → AreAgedSets sets ways latest anew tags
  aged_sets_anew order = record { ages_are = long ∙ are.ages_are; tags_are = are.tags_are; aged = λ n l. anew_aged n l (order n l) }

-- ---- one way of one set

module _ {sets ways tick : ℕ} {ages tags : List ℕ} (are : AreAgedSets sets ways tick ages tags) (n i p : ℕ) (l : n < sets) (m : i < ways) (e : p ≡ n * ways + i) where
  pub place_within : p < length ages
  place_within = omega (arith, within_pieces sets ways n l, are.ages_are, m, e)

  age_is : get_or (piece ways n ages) i 0 ≡ get_or ages p 0
  age_is = piece_get ways n i p ages 0 m e

  tag_is : get_or (piece ways n tags) i 0 ≡ get_or tags p 0
  tag_is = piece_get ways n i p tags 0 m e

  -- another line comes in
  put_aged : (age line : ℕ) → tick < age → ((j : ℕ) → j < ways → j ≢ i → 0 < get_or (piece ways n ages) j 0 → line ≢ get_or (piece ways n tags) j 0)
      → (k : ℕ) → k < sets → AreAged ways age (piece ways k (set ages p age)) (piece ways k (set tags p line))
  put_aged age line later absent k b =
      elim (cases_eq k n) as (λ _. AreAged ways age (piece ways k (set ages p age)) (piece ways k (set tags p line))) [
        | inl s ↦ subst (λ (j : ℕ). AreAged ways age (piece ways j (set ages p age)) (piece ways j (set tags p line))) (sym s)
            (subst (λ (q : List ℕ). AreAged ways age q (piece ways n (set tags p line))) (sym (piece_put sets ways n i p ages age l m e))
            (subst (λ (q : List ℕ). AreAged ways age (set (piece ways n ages) i age) q) (sym (piece_put sets ways n i p tags line l m e))
            (aged_put (are.aged n l) i m age line later absent)))
        | inr apart ↦ subst (λ (q : List ℕ). AreAged ways age q (piece ways k (set tags p line))) (sym (piece_other sets ways n i p k ages age l m e b apart))
            (subst (λ (q : List ℕ). AreAged ways age (piece ways k ages) q) (sym (piece_other sets ways n i p k tags line l m e b apart))
            (aged_later age (are.aged k b) (λ j c. omega (arith, (are.aged k b).past j c, later))))
      ]

  pub aged_with : (age line : ℕ) → tick < age → ((j : ℕ) → j < ways → j ≢ i → 0 < get_or (piece ways n ages) j 0 → line ≢ get_or (piece ways n tags) j 0)
      → AreAgedSets sets ways age (set ages p age) (set tags p line)
  aged_with age line later absent = record {
    ages_are = length-set ages p age ∙ are.ages_are;
    tags_are = length-set tags p line ∙ are.tags_are;
    aged = put_aged age line later absent;
  }

  free_aged : (k : ℕ) → k < sets → AreAged ways tick (piece ways k (set ages p 0)) (piece ways k tags)
  free_aged k b =
      elim (cases_eq k n) as (λ _. AreAged ways tick (piece ways k (set ages p 0)) (piece ways k tags)) [
        | inl s ↦ subst (λ (j : ℕ). AreAged ways tick (piece ways j (set ages p 0)) (piece ways j tags)) (sym s)
            (subst (λ (q : List ℕ). AreAged ways tick q (piece ways n tags)) (sym (piece_put sets ways n i p ages 0 l m e)) (aged_free (are.aged n l) i m))
        | inr apart ↦ subst (λ (q : List ℕ). AreAged ways tick q (piece ways k tags)) (sym (piece_other sets ways n i p k ages 0 l m e b apart)) (are.aged k b)
      ]

  pub aged_freed : AreAgedSets sets ways tick (set ages p 0) tags
  aged_freed = record { ages_are = length-set ages p 0 ∙ are.ages_are; tags_are = are.tags_are; aged = free_aged }

  -- the way has a line
  module _ (line : ℕ) (live : 0 < get_or ages p 0) (tag : get_or tags p 0 ≡ line) where
    live_here : 0 < get_or (piece ways n ages) i 0
    live_here = omega (arith, live, age_is)

    tag_here : get_or (piece ways n tags) i 0 ≡ line
    tag_here = tag_is ∙ tag

    same_tags : set tags p line ≡ tags
    same_tags = ap (λ (t : ℕ). set tags p t) (sym tag) ∙ set-get_or tags p 0

    pub aged_used : (age : ℕ) → tick < age → AreAgedSets sets ways age (set ages p age) tags
    aged_used age later =
        subst (λ (q : List ℕ). AreAgedSets sets ways age (set ages p age) q) same_tags
        (aged_with age line later (λ j b apart some same. (are.aged n l).once i j m b (λ s. apart (sym s)) live_here some (tag_here ∙ same)))

    module _ {X : Type 0} (kept : List X) (kept_are : length kept ≡ sets * ways) (d : X) where
      abbrev now : List (ℕ × X)
      now = get_or (sets_in sets ways ages tags kept) n []

      kept_long : length (piece ways n kept) ≡ ways
      kept_long = length_piece sets ways n kept l kept_are

      abbrev it : X
      it = get_or (piece ways n kept) i d

      it_is : get_or (piece ways n kept) i it ≡ it
      it_is = get_or_default (piece ways n kept) i it d (omega (arith, m, kept_long))

      before : now ≡ ways_in (piece ways n ages) (piece ways n tags) (piece ways n kept)
      before = set_at sets ways n ages tags kept l

      abbrev changed_to : List (ℕ × X) → List (List (ℕ × X))
      changed_to ways_now = set (sets_in sets ways ages tags kept) n ways_now

      pub kept_standing : kept_of line now ≡ Some (get_or kept p d)
      kept_standing =
          ap (kept_of line) before
          ∙ (kept_at (are.aged n l) (piece ways n kept) kept_long i line it m live_here tag_here it_is ∙ ap (λ (x : X). Some x) (piece_get ways n i p kept d m e))

      pub used_standing : (age : ℕ) → tick < age → sets_in sets ways (set ages p age) tags kept ≡ changed_to (used line now)
      used_standing age later =
          sets_change sets ways n ages tags (set ages p age) tags kept kept (set (piece ways n ages) i age) (piece ways n tags) (piece ways n kept)
          (pieces_put sets ways n i p ages age l m e) (pieces_same sets ways n tags l) (pieces_same sets ways n kept l)
          ∙ ap changed_to (used_at (are.aged n l) (piece ways n kept) kept_long i line it m live_here tag_here it_is age later ∙ ap (used line) (sym before))

      pub first_standing : (age : ℕ) (y : X) → tick < age → sets_in sets ways (set ages p age) tags (set kept p y) ≡ changed_to ((line, y) ∷ without line now)
      first_standing age y later =
          sets_change sets ways n ages tags (set ages p age) tags kept (set kept p y) (set (piece ways n ages) i age) (piece ways n tags) (set (piece ways n kept) i y)
          (pieces_put sets ways n i p ages age l m e) (pieces_same sets ways n tags l) (pieces_put sets ways n i p kept y l m e)
          ∙ ap changed_to (kept_first_at (are.aged n l) (piece ways n kept) kept_long i line it m live_here tag_here it_is age y later
          ∙ ap (λ (w : List (ℕ × X)). (line, y) ∷ without line w) (sym before))

      pub changed_standing : (y : X) → sets_in sets ways ages tags (set kept p y) ≡ changed_to (changed line y now)
      changed_standing y =
          sets_change sets ways n ages tags ages tags kept (set kept p y) (piece ways n ages) (piece ways n tags) (set (piece ways n kept) i y)
          (pieces_same sets ways n ages l) (pieces_same sets ways n tags l) (pieces_put sets ways n i p kept y l m e)
          ∙ ap changed_to (changed_at (are.aged n l) (piece ways n kept) kept_long i line it m live_here tag_here it_is y ∙ ap (changed line y) (sym before))

      pub without_standing : sets_in sets ways (set ages p 0) tags kept ≡ changed_to (without line now)
      without_standing =
          sets_change sets ways n ages tags (set ages p 0) tags kept kept (set (piece ways n ages) i 0) (piece ways n tags) (piece ways n kept)
          (pieces_put sets ways n i p ages 0 l m e) (pieces_same sets ways n tags l) (pieces_same sets ways n kept l)
          ∙ ap changed_to (without_at (are.aged n l) (piece ways n kept) kept_long i line it m live_here tag_here it_is ∙ ap (without line) (sym before))

  -- the way is the next that is taken
  module _ (some : 1 ≤ ways) (oldest : (j : ℕ) → j < ways → get_or ages p 0 ≤ get_or ages (n * ways + j) 0) {X : Type 0} (kept : List X) (kept_are : length kept ≡ sets * ways) (d : X) where
    oldest_here : (j : ℕ) → j < ways → get_or (piece ways n ages) i 0 ≤ get_or (piece ways n ages) j 0
    oldest_here j b = omega (arith, oldest j b, age_is, piece_get ways n j (n * ways + j) ages 0 b refl)

    kept_length : length (piece ways n kept) ≡ ways
    kept_length = length_piece sets ways n kept l kept_are

    abbrev ways_now : List (ℕ × X)
    ways_now = get_or (sets_in sets ways ages tags kept) n []

    ways_before : ways_now ≡ ways_in (piece ways n ages) (piece ways n tags) (piece ways n kept)
    ways_before = set_at sets ways n ages tags kept l

    pub no_victim_in : get_or ages p 0 ≡ 0 → victim_of ways ways_now ≡ None
    no_victim_in free =
        ap (victim_of ways) ways_before ∙ no_victim (are.aged n l) (piece ways n kept) kept_length some i m oldest_here d (age_is ∙ free)

    pub the_victim_in : 0 < get_or ages p 0 → victim_of ways ways_now ≡ Some (get_or tags p 0, get_or kept p d)
    the_victim_in live =
        ap (victim_of ways) ways_before
        ∙ (the_victim (are.aged n l) (piece ways n kept) kept_length some i m oldest_here d (omega (arith, live, age_is))
        ∙ (ap (λ (t : ℕ). Some (t, get_or (piece ways n kept) i d)) tag_is ∙ ap (λ (x : X). Some (get_or tags p 0, x)) (piece_get ways n i p kept d m e)))

    pub filled_in_set : (age line : ℕ) (x : X) → tick < age
        → sets_in sets ways (set ages p age) (set tags p line) (set kept p x) ≡ set (sets_in sets ways ages tags kept) n (filled ways line x ways_now)
    filled_in_set age line x later =
        sets_change sets ways n ages tags (set ages p age) (set tags p line) kept (set kept p x) (set (piece ways n ages) i age) (set (piece ways n tags) i line) (set (piece ways n kept) i x)
        (pieces_put sets ways n i p ages age l m e) (pieces_put sets ways n i p tags line l m e) (pieces_put sets ways n i p kept x l m e)
        ∙ ap (λ (w : List (ℕ × X)). set (sets_in sets ways ages tags kept) n w)
        (filled_is (are.aged n l) (piece ways n kept) kept_length some i m oldest_here d age line x later ∙ ap (filled ways line x) (sym ways_before))

-- ---- no way has the line

module _ {sets ways tick : ℕ} {ages tags : List ℕ} (are : AreAgedSets sets ways tick ages tags) (n : ℕ) (l : n < sets) (line : ℕ)
    (absent : (j : ℕ) → j < ways → 0 < get_or (piece ways n ages) j 0 → line ≢ get_or (piece ways n tags) j 0) {X : Type 0} (kept : List X) (kept_are : length kept ≡ sets * ways) where
  pub kept_nowhere : kept_of line (get_or (sets_in sets ways ages tags kept) n []) ≡ None
  kept_nowhere =
      ap (kept_of line) (set_at sets ways n ages tags kept l)
      ∙ kept_none (are.aged n l) (piece ways n kept) (length_piece sets ways n kept l kept_are) line absent

  pub without_nowhere : set (sets_in sets ways ages tags kept) n (without line (get_or (sets_in sets ways ages tags kept) n [])) ≡ sets_in sets ways ages tags kept
  without_nowhere =
      ap (λ (w : List (ℕ × X)). set (sets_in sets ways ages tags kept) n w)
      (ap (without line) (set_at sets ways n ages tags kept l)
      ∙ (without_none (are.aged n l) (piece ways n kept) (length_piece sets ways n kept l kept_are) line absent ∙ sym (set_at sets ways n ages tags kept l)))
      ∙ set-get_or (sets_in sets ways ages tags kept) n []

-- of a line that is kept nowhere, no way that is not free has the tag
pub absent_where_none : {sets ways tick : ℕ} {ages tags : List ℕ} (are : AreAgedSets sets ways tick ages tags) (n : ℕ) (l : n < sets) (line : ℕ) {X : Type 0} (kept : List X) (kept_are : length kept ≡ sets * ways) (d : X)
    → kept_of line (get_or (sets_in sets ways ages tags kept) n []) ≡ None → (j : ℕ) → j < ways → 0 < get_or (piece ways n ages) j 0 → line ≢ get_or (piece ways n tags) j 0
absent_where_none {sets} {ways} {tick} {ages} {tags} are n l line kept kept_are d none j b live same =
    let age = piece_get ways n j (n * ways + j) ages 0 b refl in
    let tag = piece_get ways n j (n * ways + j) tags 0 b refl in
    let some = kept_standing are n j (n * ways + j) l b refl line (omega (arith, live, age)) (sym tag ∙ sym same) kept kept_are d in
    absurd cc

-- ---- places

-- a place is one of a set's ways
pub Stands : (sets ways p : ℕ) → Type 0
Stands sets ways p = (n : ℕ) × (i : ℕ) × (n < sets) × (i < ways) × (p ≡ n * ways + i)

pub stands : (sets ways p : ℕ) → p < sets * ways → Stands sets ways p
unfolding Stands
stands sets zero p l = absurd (omega arith)
stands sets (suc ways) p l =
    (p / suc ways, p % suc ways, (div-lt_iff_lt-mul {k = suc ways} {x = p} {y = sets} (omega arith)).1 l, mod_below p (suc ways) (omega arith), omega arith)

pub all_past : {sets ways tick : ℕ} {ages tags : List ℕ} (are : AreAgedSets sets ways tick ages tags) (p : ℕ) → p < sets * ways → get_or ages p 0 ≤ tick
unfolding Stands
all_past {sets} {ways} {tick} {ages} {tags} are p l =
    let s = stands sets ways p l in
    omega (arith, piece_get ways s.0 s.1 p ages 0 s.3 s.4, (are.aged s.0 s.2).past s.1 s.3)

pub live_after : {sets ways tick : ℕ} {ages tags : List ℕ} (are : AreAgedSets sets ways tick ages tags) (anew : List ℕ) → IsSameOrder sets ways ages anew
    → (p : ℕ) → p < sets * ways → 0 < get_or ages p 0 → 0 < get_or anew p 0
unfolding Stands
live_after {sets} {ways} {tick} {ages} {tags} are anew order p l live =
    let s = stands sets ways p l in
    let before = piece_get ways s.0 s.1 p ages 0 s.3 s.4 in
    let after = piece_get ways s.0 s.1 p anew 0 s.3 s.4 in
    elim (order s.0 s.2) as (λ _. 0 < get_or anew p 0) [
      | inl e ↦ omega (arith, live, before, after, ap (λ (q : List ℕ). get_or q s.1 0) e)
      | inr e ↦ omega (arith, after, ap (λ (q : List ℕ). get_or q s.1 0) e, live_anew (piece ways s.0 ages) s.1 (omega (arith, s.3, (are.aged s.0 s.2).ages_are)) (omega (arith, live, before)))
    ]

-- a way that has an age then had one before
pub live_before : {sets ways tick : ℕ} {ages tags : List ℕ} (are : AreAgedSets sets ways tick ages tags) (anew : List ℕ) → IsSameOrder sets ways ages anew
    → (p : ℕ) → p < sets * ways → 0 < get_or anew p 0 → 0 < get_or ages p 0
unfolding Stands
live_before {sets} {ways} {tick} {ages} {tags} are anew order p l live =
    let s = stands sets ways p l in
    let old = piece ways s.0 ages in
    let before = piece_get ways s.0 s.1 p ages 0 s.3 s.4 in
    let after = piece_get ways s.0 s.1 p anew 0 s.3 s.4 in
    elim (order s.0 s.2) as (λ _. 0 < get_or ages p 0) [
      | inl e ↦ omega (arith, live, before, after, ap (λ (q : List ℕ). get_or q s.1 0) e)
      | inr e ↦
          let rank = rank_at (rank_in old) old s.1 (omega (arith, s.3, (are.aged s.0 s.2).ages_are)) in
          elim (cases_eq (get_or ages p 0) 0) as (λ _. 0 < get_or ages p 0) [
            | inl free ↦ absurd (omega (arith, live, after, ap (λ (q : List ℕ). get_or q s.1 0) e, rank, ap (rank_in old) (before ∙ free), rank_of_free old))
            | inr some ↦ omega (arith, some)
          ]
    ]

-- ages that were written anew are few
pub anew_are_few : (sets ways : ℕ) (ages anew : List ℕ) → length ages ≡ sets * ways → ((n : ℕ) → n < sets → piece ways n anew ≡ renumbered (piece ways n ages)) → (p : ℕ) → p < sets * ways → get_or anew p 0 ≤ ways
unfolding Stands
anew_are_few sets ways ages anew long all p l =
    let s = stands sets ways p l in
    let e = all s.0 s.2 in
    let few = ranks_are_few (piece ways s.0 ages) s.1 (omega (arith, s.3, length_piece sets ways s.0 ages s.2 long)) in
    omega (
      arith,
      piece_get ways s.0 s.1 p anew 0 s.3 s.4,
      ap (λ (q : List ℕ). get_or q s.1 0) e,
      few,
      length-map (piece ways s.0 ages) (rank_in (piece ways s.0 ages)),
      length_piece sets ways s.0 ages s.2 long,
    )
