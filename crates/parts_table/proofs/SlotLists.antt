-- The homes and L1s of slots.
use Rattle.std.proofs.Common.{◌≡◌, ℕ, zero, suc, ◌+◌, ◌<◌, ◌≤◌, Bool, false, List, [], ◌∷◌, ◌++◌, map, length, get_or, set, take, drop, refl, sym, ◌∙◌, ap, subst, append_assoc, arith, inl, inr}
use Rattle.std.specs.Prelude.{Option, Some}
use Rattle.std.specs.List.{flat_map, range_with_len}
use mathlib.Core.Option.{some, some-injective, some-ne-none}
use lib.ListN.{get_elem?}
use Rattle.std.proofs.lemmas.Bool.{cases_eq}
use Rattle.std.proofs.lemmas.List.{append-nil, get_or-set_other, length-append}
use Rattle.home.specs.HomeState.{HomeState}
use Rattle.l1_cache.specs.L1State.{L1State}
use Rattle.parts_table.specs.Slots.{home_in_slot, home_of_part, home_slot, homes_of, l1_in_slot, l1_of_part, l1_slot, l1s_of, slots_of}
use Rattle.parts_table.specs.declared.part.TimedPart.{TimedPart}
use Rattle.parts_table.specs.World.{IsSound, World, home_in, l1_in, l1s_in, parts_in}

-- ---- one after the other

pub one_put : {X Y : Type 0} (f : X → Y) (done all : List Y) (xs : List X) (x : X) → 0 < length xs → x ≡ get_or xs 0 x → done ++ map f xs ≡ all
    → (done ++ f x ∷ []) ++ map f (drop 1 xs) ≡ all
one_put f done all [] x more is so_far = absurd (omega (arith, more))
one_put f done all (y ∷ ys) x more is so_far = rw is (append_assoc done (f y ∷ []) (map f ys) ∙ so_far)

pub one_back : {X Y : Type 0} (g : X → List Y) (done all : List Y) (xs : List X) (x : X) → 0 < length xs → x ≡ get_or xs 0 x → done ++ flat_map g xs ≡ all
    → (done ++ g x) ++ flat_map g (drop 1 xs) ≡ all
one_back g done all [] x more is so_far = absurd (omega (arith, more))
one_back g done all (y ∷ ys) x more is so_far = rw is (append_assoc done (g y) (flat_map g ys) ∙ so_far)

-- how much room is needed for the next
pub room_back : {X Y : Type 0} (g : X → List Y) (done all : List Y) (xs : List X) (x : X) → 0 < length xs → x ≡ get_or xs 0 x → done ++ flat_map g xs ≡ all
    → length done + length (g x) ≤ length all
room_back g done all [] x more is so_far = absurd (omega (arith, more))
room_back g done all (y ∷ ys) x more is so_far =
    let size = ap length so_far in
    let one = length-append done (g y ++ flat_map g ys) in
    let two = length-append (g y) (flat_map g ys) in
    let same = ap (λ z. length (g z)) is in
    omega (arith, size, one, two, same)

-- ---- the slots of a closed table

pub one_taken : {X : Type 0} (xs : List X) (n : ℕ) (x : X) → get_elem? xs n ≡ some x → take (n + 1) xs ≡ take n xs ++ x ∷ []
one_taken [] n x at = absurd (some-ne-none x (sym at))
one_taken (y ∷ xs) zero x at = ap (λ z. z ∷ []) (some-injective y x at)
one_taken (y ∷ xs) (suc n) x at = let more : suc n + 1 ≡ suc (n + 1) = omega arith in ap (λ (m : ℕ). take m (y ∷ xs)) more ∙ ap (λ zs. y ∷ zs) (one_taken xs n x at)

pub flat_taken : {X Y : Type 0} (g : X → List Y) (xs : List X) (n : ℕ) (x : X) → get_elem? xs n ≡ some x → flat_map g (take (n + 1) xs) ≡ flat_map g (take n xs) ++ g x
flat_taken g [] n x at = absurd (some-ne-none x (sym at))
flat_taken g (y ∷ xs) zero x at = rw (some-injective y x at) (append-nil (g x))
flat_taken g (y ∷ xs) (suc n) x at =
    let more : suc n + 1 ≡ suc (n + 1) = omega arith in
    ap (λ (m : ℕ). flat_map g (take m (y ∷ xs))) more ∙ (ap (λ zs. g y ++ zs) (flat_taken g xs n x at) ∙ sym (append_assoc (g y) (flat_map g (take n xs)) (g x)))

pub flat_few : {X Y : Type 0} (g : X → List Y) (xs : List X) (n : ℕ) → length (flat_map g (take n xs)) ≤ length (flat_map g xs)
flat_few g [] zero = omega arith
flat_few g [] (suc n) = omega arith
flat_few g (y ∷ xs) zero = omega arith
flat_few g (y ∷ xs) (suc n) =
    let later = flat_few g xs n in
    let one = length-append (g y) (flat_map g (take n xs)) in
    let two = length-append (g y) (flat_map g xs) in
    omega (arith, later, one, two)

own_emptied : (filled : List Bool) (k : ℕ) → get_or (set filled k false) k false ≡ false
own_emptied [] k = refl
own_emptied (b ∷ filled) zero = refl
own_emptied (b ∷ filled) (suc k) = own_emptied filled k

pub emptied : (filled : List Bool) (n k : ℕ) → (k < n → get_or filled k false ≡ false) → k < n + 1 → get_or (set filled n false) k false ≡ false
emptied filled n k before below =
    elim (cases_eq k n) as (λ _. get_or (set filled n false) k false ≡ false) [
      | inl same ↦ ap (λ (m : ℕ). get_or (set filled m false) k false) (sym same) ∙ own_emptied filled k
      | inr other ↦ get_or-set_other filled n k false false (λ same. other same) ∙ before (omega (arith, below, other))
    ]

-- ---- there and back

flat_append : {X Y : Type 0} (g : X → List Y) (xs ys : List X) → flat_map g (xs ++ ys) ≡ flat_map g xs ++ flat_map g ys
flat_append g [] ys = refl
flat_append g (x ∷ xs) ys = ap (λ zs. g x ++ zs) (flat_append g xs ys) ∙ sym (append_assoc (g x) (flat_map g xs) (flat_map g ys))

l1s_there : (l1s : List L1State) → l1s_of (map l1_slot l1s) ≡ l1s
l1s_there [] = refl
l1s_there (l1 ∷ l1s) = ap (λ (ls : List L1State). l1 ∷ ls) (l1s_there l1s)

no_l1s : (homes : List HomeState) → l1s_of (map home_slot homes) ≡ []
no_l1s [] = refl
no_l1s (home ∷ homes) = no_l1s homes

homes_there : (homes : List HomeState) → homes_of (map home_slot homes) ≡ homes
homes_there [] = refl
homes_there (home ∷ homes) = ap (λ (hs : List HomeState). home ∷ hs) (homes_there homes)

no_homes : (l1s : List L1State) → homes_of (map l1_slot l1s) ≡ []
no_homes [] = refl
no_homes (l1 ∷ l1s) = no_homes l1s

pub same_l1s : (homes : List HomeState) (l1s : List L1State) → l1s_of (slots_of homes l1s) ≡ l1s
same_l1s homes l1s =
    flat_append l1_in_slot (map l1_slot l1s) (map home_slot homes)
    ∙ (ap (λ (p : List L1State × List L1State). p.0 ++ p.1) (λ i. (l1s_there l1s i, no_l1s homes i)) ∙ append-nil l1s)

pub same_homes : (homes : List HomeState) (l1s : List L1State) → homes_of (slots_of homes l1s) ≡ homes
same_homes homes l1s =
    flat_append home_in_slot (map l1_slot l1s) (map home_slot homes)
    ∙ ap (λ (p : List HomeState × List HomeState). p.0 ++ p.1) (λ i. (no_homes l1s i, homes_there homes i))

-- ---- the slots of a world

each_one : {X Y : Type 0} (g : X → List Y) (h : ℕ → Y) (xs : List X) (a : ℕ) → ((k : ℕ) (x : X) → get_elem? xs k ≡ some x → g x ≡ h (a + k) ∷ [])
    → flat_map g xs ≡ map h (range_with_len a (length xs))
each_one g h [] a each = refl
each_one g h (x ∷ xs) a each =
    let here : a + 0 ≡ a = omega arith in
    let shift : (k : ℕ) → (a + 1) + k ≡ a + suc k = λ k. omega arith in
    let one : g x ≡ h a ∷ [] = each 0 x refl ∙ ap (λ (n : ℕ). h n ∷ []) here in
    ap (λ zs. zs ++ flat_map g xs) one
    ∙ ap (λ zs. h a ∷ zs) (each_one g h xs (a + 1) (λ k y at. each (suc k) y at ∙ ap (λ (n : ℕ). h n ∷ []) (sym (shift k))))

none_of : {X Y : Type 0} (g : X → List Y) (xs : List X) → ((k : ℕ) (x : X) → get_elem? xs k ≡ some x → g x ≡ []) → flat_map g xs ≡ []
none_of g [] each = refl
none_of g (x ∷ xs) each = ap (λ zs. zs ++ flat_map g xs) (each 0 x refl) ∙ none_of g xs (λ k y at. each (suc k) y at)

divided : {X : Type 0} (xs : List X) (n m : ℕ) → length xs ≡ n + m → (front : List X) × (back : List X) × (xs ≡ front ++ back) × (length front ≡ n) × (length back ≡ m)
divided xs zero m size = ([], xs, refl, refl, omega (arith, size))
divided [] (suc n) m size = absurd (omega (arith, size))
divided (x ∷ xs) (suc n) m size = let d = divided xs n m (omega (arith, size)) in (x ∷ d.0, d.1, ap (λ zs. x ∷ zs) d.2, omega (arith, d.3), d.4)

at_front : {X : Type 0} (xs ys : List X) (k : ℕ) (x : X) → get_elem? xs k ≡ some x → get_elem? (xs ++ ys) k ≡ some x
at_front [] ys k x at = absurd (some-ne-none x (sym at))
at_front (y ∷ xs) ys zero x at = at
at_front (y ∷ xs) ys (suc k) x at = at_front xs ys k x at

at_back : {X : Type 0} (xs ys : List X) (n k : ℕ) → length xs ≡ n → get_elem? (xs ++ ys) (n + k) ≡ get_elem? ys k
at_back [] ys zero k size = ap (get_elem? ys) (omega arith)
at_back [] ys (suc n) k size = absurd (omega (arith, size))
at_back (x ∷ xs) ys zero k size = absurd (omega (arith, size))
at_back (x ∷ xs) ys (suc n) k size = let more : suc n + k ≡ suc (n + k) = omega arith in ap (get_elem? (x ∷ (xs ++ ys))) more ∙ at_back xs ys n k (omega (arith, size))

in_list : {X : Type 0} (xs : List X) (k : ℕ) (x : X) → get_elem? xs k ≡ some x → k < length xs
in_list [] k x at = absurd (some-ne-none x (sym at))
in_list (y ∷ xs) zero x at = omega arith
in_list (y ∷ xs) (suc k) x at = let later = in_list xs k x at in omega (arith, later)

shifted : {Y : Type 0} (h : ℕ → Y) (c a n : ℕ) → map h (range_with_len (c + a) n) ≡ map (λ b. h (c + b)) (range_with_len a n)
shifted h c a zero = refl
shifted h c a (suc n) =
    let more : (c + a) + 1 ≡ c + (a + 1) = omega arith in
    ap (λ zs. h (c + a) ∷ zs) (ap (λ (k : ℕ). map h (range_with_len k n)) more ∙ shifted h c (a + 1) n)

module _ (cores banks : ℕ) (w : World) (sound : IsSound cores banks w) (slots : List (Option TimedPart)) (size : length slots ≡ cores + banks)
    (there : (k : ℕ) → k < cores + banks → get_elem? slots k ≡ some (Some (w k))) where
  d : (front : List (Option TimedPart)) × (back : List (Option TimedPart)) × (slots ≡ front ++ back) × (length front ≡ cores) × (length back ≡ banks)
  d = divided slots cores banks size

  front_is : (k : ℕ) (x : Option TimedPart) → get_elem? d.0 k ≡ some x → (k < cores) × (x ≡ Some (w k))
  front_is k x at =
      let low : k < cores = subst (λ (n : ℕ). k < n) d.3 (in_list d.0 k x at) in
      let here : get_elem? slots k ≡ some x = ap (λ (xs : List (Option TimedPart)). get_elem? xs k) d.2 ∙ at_front d.0 d.1 k x at in
      (low, some-injective x (Some (w k)) (sym here ∙ there k (omega (arith, low))))

  back_is : (k : ℕ) (x : Option TimedPart) → get_elem? d.1 k ≡ some x → (k < banks) × (x ≡ Some (w (cores + k)))
  back_is k x at =
      let low : k < banks = subst (λ (n : ℕ). k < n) d.4 (in_list d.1 k x at) in
      let here : get_elem? slots (cores + k) ≡ some x = ap (λ (xs : List (Option TimedPart)). get_elem? xs (cores + k)) d.2 ∙ (at_back d.0 d.1 cores k d.3 ∙ at) in
      (low, some-injective x (Some (w (cores + k))) (sym here ∙ there (cores + k) (omega (arith, low))))

  pub l1s_are : l1s_of slots ≡ l1s_in cores banks w
  l1s_are =
      let own = each_one l1_in_slot (λ k. l1_in (w k).part) d.0 0 (λ k x at.
      let is = front_is k x at in
      let l1 = sound.l1s k is.0 in
      let same : k ≡ 0 + k = omega arith in
      ap l1_in_slot is.1 ∙ (ap l1_of_part l1.1 ∙ (ap (λ (z : L1State). z ∷ []) (sym (ap l1_in l1.1)) ∙ ap (λ (n : ℕ). l1_in (w n).part ∷ []) same))) in
      let none = none_of l1_in_slot d.1 (λ k x at. let is = back_is k x at in ap l1_in_slot is.1 ∙ ap l1_of_part (sound.homes k is.0).1) in
      ap l1s_of d.2 ∙ (flat_append l1_in_slot d.0 d.1 ∙ (ap (λ (p : List L1State × List L1State). p.0 ++ p.1) (λ i. (own i, none i))
      ∙ (append-nil (map (λ k. l1_in (w k).part) (range_with_len 0 (length d.0))) ∙ ap (λ (n : ℕ). map (λ k. l1_in (w k).part) (range_with_len 0 n)) d.3)))

  pub homes_are : homes_of slots ≡ (parts_in cores banks w).homes
  homes_are =
      let none = none_of home_in_slot d.0 (λ k x at. let is = front_is k x at in ap home_in_slot is.1 ∙ ap home_of_part (sound.l1s k is.0).1) in
      let own = each_one home_in_slot (λ k. home_in (w k).part) d.1 cores (λ k x at.
      let is = back_is k x at in
      let home = sound.homes k is.0 in
      ap home_in_slot is.1 ∙ (ap home_of_part home.1 ∙ ap (λ (z : HomeState). z ∷ []) (sym (ap home_in home.1)))) in
      let from : cores ≡ cores + 0 = omega arith in
      ap homes_of d.2 ∙ (flat_append home_in_slot d.0 d.1 ∙ (ap (λ (p : List HomeState × List HomeState). p.0 ++ p.1) (λ i. (none i, own i))
      ∙ (ap (λ (n : ℕ). map (λ k. home_in (w k).part) (range_with_len cores n)) d.4
      ∙ (ap (λ (a : ℕ). map (λ k. home_in (w k).part) (range_with_len a banks)) from ∙ shifted (λ k. home_in (w k).part) cores 0 banks))))
