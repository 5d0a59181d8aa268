-- Shares that are carried to workers, and back.
use Rattle.std.proofs.Common.{◌≡◌, ◌<◌, ◌++◌, ◌∷◌, [], ℕ, zero, suc, List, All, get_or, length, map, refl, sym, ◌∙◌, ap, subst, arith, append_assoc}
use Rattle.std.specs.List.{remove}
use Rattle.std.proofs.lemmas.List.{append-nil}
use Rattle.std.proofs.lemmas.List.Elements.{All-map}
use Rattle.crew.specs.Sharing.{AreDone}

-- all but the first
pub rest_all : {X : Type 0} (P : X → Type 0) (xs : List X) → All P xs → All P (remove xs 0)
rest_all P [] all = all
rest_all P (x ∷ xs) all = λ k d below. all (suc k) d (omega (arith, below))

pub first_of : {X : Type 0} (P : X → Type 0) (xs : List X) (x : X) → 0 < length xs → x ≡ get_or xs 0 x → All P xs → P x
first_of P xs x some first all = subst P (sym first) (all 0 x some)

module _ {J K : Type 0} (of : K → J) where
  -- the first of those that are left goes behind those that were given out
  pub given_out : (js new : List J) (ks : List K) (x : K) (j : J) (whole : List J) → 0 < length ks → x ≡ get_or ks 0 x → j ≡ of x → new ≡ js ++ j ∷ [] → js ++ map of ks ≡ whole → new ++ map of (remove ks 0) ≡ whole
  given_out js new [] x j whole some first is pushed so_far = absurd (omega (arith, some))
  given_out js new (k ∷ ks) x j whole some first is pushed so_far =
      ap (λ (xs : List J). xs ++ map of ks) pushed
      ∙ (append_assoc js (j ∷ []) (map of ks)
      ∙ (ap (λ (y : J). js ++ y ∷ map of ks) (is ∙ ap of first) ∙ so_far))

  -- whatever shares the jobs carried, the first of them were taken out, and the jobs that are left carry the rest
  pub record AreTaken (jobs left : List J) (taken back : List K) : Type 0 where
    pub rest : List K
    pub whole : back ≡ taken ++ rest
    pub left_are : left ≡ map of rest

  pub none_taken : (jobs : List J) (taken back : List K) → taken ≡ [] → jobs ≡ map of back → AreTaken jobs jobs taken back
  none_taken jobs taken back none are = record { rest = back; whole = ap (λ (ks : List K). ks ++ back) (sym none); left_are = are }

  pub one_taken : (jobs left : List J) (taken new back : List K) (j : J) (k : K) → AreTaken jobs left taken back → 0 < length left → j ≡ get_or left 0 j → ((x : K) → j ≡ of x → k ≡ x) → new ≡ taken ++ k ∷ [] → AreTaken jobs (remove left 0) new back
  one_taken jobs left taken new back j k h some first takes pushed = by_rest h.rest h.whole h.left_are
    where
      by_rest : (rest : List K) → back ≡ taken ++ rest → left ≡ map of rest → AreTaken jobs (remove left 0) new back
      by_rest [] whole are = absurd (let none = ap length are in omega (arith, some, none))
      by_rest (x ∷ rest) whole are =
          let j_is : j ≡ of x = first ∙ ap (λ (js : List J). get_or js 0 j) are in
          record {
            rest = rest;
            whole = whole ∙ (sym (append_assoc taken (x ∷ []) rest) ∙ ap (λ (ks : List K). ks ++ rest) (ap (λ (y : K). taken ++ y ∷ []) (sym (takes x j_is)) ∙ sym pushed));
            left_are = ap (λ (js : List J). remove js 0) are;
          }

  pub all_taken : (jobs left : List J) (taken back : List K) → AreTaken jobs left taken back → length left ≡ 0 → taken ≡ back
  all_taken jobs left taken back h none = by_rest h.rest h.whole h.left_are
    where
      by_rest : (rest : List K) → back ≡ taken ++ rest → left ≡ map of rest → taken ≡ back
      by_rest [] whole are = sym (append-nil taken) ∙ sym whole
      by_rest (x ∷ rest) whole are = absurd (let some = ap length are in omega (arith, some, none))

-- ---- what comes back

module _ {J K : Type 0} (of : K → J) (done : J → J → Type 0) (Own : K → K → Type 0) (did : (k : K) (j : J) → done (of k) j → (l : K) × ((j ≡ of l) × Own k l)) where
  -- the answers carry what was done of each
  pub record AreAnswers (ks : List K) (answers : List J) : Type 0 where
    pub back : List K
    pub are : answers ≡ map of back
    pub own : AreDone Own ks back

  pub answered : (ks : List K) (answers : List J) → AreDone done (map of ks) answers → AreAnswers ks answers
  answered [] [] all = record { back = []; are = refl; own = record { count = refl; each = λ i d below. absurd (omega (arith, below)) } }
  answered [] (j ∷ js) all = absurd (let n = all.count in omega (arith, n))
  answered (k ∷ ks) [] all = absurd (let n = all.count in omega (arith, n))
  answered (k ∷ ks) (j ∷ js) all =
      let first = did k j (all.each 0 j (omega arith)) in
      let rest = answered ks js (record { count = (let n = all.count in omega (arith, n)); each = λ i d below. all.each (suc i) d (omega (arith, below)) }) in
      record {
        back = first.0 ∷ rest.back;
        are = ap (λ (x : J). x ∷ js) first.1.0 ∙ ap (λ (xs : List J). of first.0 ∷ xs) rest.are;
        own = record { count = (let n = rest.own.count in omega (arith, n)); each = each first.0 rest.back first.1.1 rest.own };
      }
    where
      each : (l : K) (back : List K) → Own k l → AreDone Own ks back → (i : ℕ) (d : K) → i < length (k ∷ ks) → Own (get_or (k ∷ ks) i d) (get_or (l ∷ back) i d)
      each l back own rest zero d below = own
      each l back own rest (suc i) d below = rest.each i d (omega (arith, below))

-- each of these is of a share
pub all_of : {J K : Type 0} (of : K → J) (js : List J) (back : List K) → js ≡ map of back → All (λ (j : J). (k : K) × (j ≡ of k)) js
all_of {J} {K} of js back are = subst (All (λ (j : J). (k : K) × (j ≡ of k))) (sym are) (All-map (λ (j : J). (k : K) × (j ≡ of k)) of back (λ i d below. (get_or back i d, refl)))
