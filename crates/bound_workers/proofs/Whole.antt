-- What the bound phase by several workers comes to.
use Rattle.std.proofs.Common.{◌≡◌, ℕ, zero, suc, ◌+◌, ◌%◌, ◌^◌, ◌<◌, ◌≤◌, List, [], ◌∷◌, ◌++◌, All, length, get_or, map, set, reverse, refl, sym, ◌∙◌, ap, subst, arith, inl, inr}
use Rattle.std.specs.Prelude.{slice_get, Option, Some, None}
use Rattle.std.proofs.lemmas.Bool.{cases_eq}
use Rattle.std.proofs.lemmas.List.{length-append, reverse-append, reverse-reverse}
use Rattle.std.proofs.lemmas.List.Elements.{All-cons, All-head, All-nil, All-push, All-tail}
use Rattle.std.proofs.lemmas.Option.{get_or_from_slice_get, same_Some, slice_get_within}
use Rattle.zs_num.specs.declared.entry.Entry.{Entry}
use Rattle.elf_load.specs.MemoryImage.{MemoryImage}
use Rattle.parts_table.specs.Access.{SeatState, TableState}
use Rattle.parts_table.specs.Places.{PlacesState}
use Rattle.dealing.specs.Laws.{AreChanged, HaveAsMany}
use Rattle.bound_core.specs.NumberedCores.{NumberedCore}
use Rattle.bound_records.specs.declared.record_port.CoreRecord.{CoreRecord}
use Rattle.bound_workers.specs.declared.member.Member.{Member}
use Rattle.bound_workers.specs.Team.{HasWorked, HaveRun, Team}
use Rattle.bound_workers.specs.Member.{HasRun}

-- ---- lists

first_same : {X Y : Type 0} (f : X → Y) (x z : X) (xs ys : List X) → map f (z ∷ ys) ≡ map f (x ∷ xs) → f z ≡ f x
first_same f x z xs ys same = let heads : f z ∷ map f ys ≡ f x ∷ map f xs = same in cc

rest_same : {X Y : Type 0} (f : X → Y) (x z : X) (xs ys : List X) → map f (z ∷ ys) ≡ map f (x ∷ xs) → map f ys ≡ map f xs
rest_same f x z xs ys same = let tails : f z ∷ map f ys ≡ f x ∷ map f xs = same in cc

-- an element of lists that agree in what is made of their elements
pub agreed_at : {X Y : Type 0} (f : X → Y) (xs ys : List X) (i : ℕ) (y : X) → map f ys ≡ map f xs → slice_get ys i ≡ Some y → (x : X) × (slice_get xs i ≡ Some x) × (f y ≡ f x)
agreed_at f [] [] i y same at = absurd (let none : None ≡ Some y = at in cc)
agreed_at f [] (z ∷ ys) i y same at = absurd (let size = ap length same in omega (arith, size))
agreed_at f (x ∷ xs) [] i y same at = absurd (let none : None ≡ Some y = at in cc)
agreed_at f (x ∷ xs) (z ∷ ys) zero y same at = (x, refl, ap f (sym (same_Some z y at)) ∙ first_same f x z xs ys same)
agreed_at f (x ∷ xs) (z ∷ ys) (suc i) y same at = agreed_at f xs ys i y (rest_same f x z xs ys same) at

-- ---- what ran

module _ (time : Entry → ℕ) (image : MemoryImage) (end : ℕ) (t : TableState) where
  pub as_many : (before after : List Member) → HaveRun time image end t before after → length after ≡ length before
  as_many [] [] ran = refl
  as_many [] (y ∷ after) ran = absurd ran
  as_many (x ∷ before) [] ran = absurd ran
  as_many (x ∷ before) (y ∷ after) ran = ap suc (as_many before after ran.1)

  pub ran_at : (before after : List Member) → HaveRun time image end t before after → (i : ℕ) (y : Member) → slice_get after i ≡ Some y
      → (x : Member) × (slice_get before i ≡ Some x) × HasRun time image end t x y
  ran_at [] [] ran i y at = absurd (let none : None ≡ Some y = at in cc)
  ran_at [] (z ∷ after) ran i y at = absurd ran
  ran_at (x ∷ before) [] ran i y at = absurd ran
  ran_at (x ∷ before) (z ∷ after) ran zero y at = (x, refl, subst (HasRun time image end t x) (same_Some z y at) ran.0)
  ran_at (x ∷ before) (z ∷ after) ran (suc i) y at = ran_at before after ran.1 i y at

  -- the same, by places
  pub ran_each : (before after : List Member) → length after ≡ length before → ((i : ℕ) (x y : Member) → slice_get before i ≡ Some x → slice_get after i ≡ Some y → HasRun time image end t x y)
      → HaveRun time image end t before after
  ran_each [] [] size each = tt
  ran_each [] (y ∷ after) size each = absurd (omega (arith, size))
  ran_each (x ∷ before) [] size each = absurd (omega (arith, size))
  ran_each (x ∷ before) (y ∷ after) size each = (each 0 x y refl refl, ran_each before after (omega (arith, size)) (λ i v w at there. each (suc i) v w at there))

  -- the workers have those that ran, in the places of the others
  module _ (before after : List Team) (count : length after ≡ length before) (worked : (i : ℕ) (d : Team) → i < length before → HasWorked time image end t (get_or before i d) (get_or after i d)) where
    worked_at : (i : ℕ) (w v : Team) → slice_get before i ≡ Some w → slice_get after i ≡ Some v → HasWorked time image end t w v
    worked_at i w v was is =
        subst (λ (x : Team). HasWorked time image end t x v) (get_or_from_slice_get before i w w was)
        (subst (HasWorked time image end t (get_or before i w)) (get_or_from_slice_get after i v w is) (worked i w (slice_get_within before i w was)))

    pub have_as_many : HaveAsMany Member (Option PlacesState) before after
    have_as_many = record { count = count; each = λ i w v was is. as_many w.queue.items v.queue.items (worked_at i w v was is).ran }

    pub changed_ran : (members : List Member) (it : AreChanged Member (Option PlacesState) 0 members before after) → HaveRun time image end t members it.now
    changed_ran members it =
        ran_each members it.now it.count (λ i x y at there.
        let alike = it.alike i x y at there in
        let ran = ran_at alike.was.queue.items alike.is.queue.items (worked_at alike.worker alike.was alike.is alike.before_there alike.after_there).ran alike.place y alike.y_there in
        subst (λ (z : Member). HasRun time image end t z y) (same_Some ran.0 x (sym ran.1 ∙ alike.x_there)) ran.2)

-- what is made of a list's elements, where one of them changed and not in that
pub same_made : {X Y : Type 0} (f : X → Y) (xs : List X) (i : ℕ) (y d : X) → f y ≡ f (get_or xs i d) → i < length xs → map f (set xs i y) ≡ map f xs
same_made f [] i y d same within = refl
same_made f (x ∷ xs) zero y d same within = ap (λ z. z ∷ map f xs) same
same_made f (x ∷ xs) (suc i) y d same within = ap (λ zs. f x ∷ zs) (same_made f xs i y d same (omega (arith, within)))

pub at_below : {X : Type 0} (xs : List X) (i : ℕ) (x : X) → slice_get xs i ≡ Some x → i < length xs
at_below [] i x at = absurd (let none : None ≡ Some x = at in cc)
at_below (y ∷ xs) zero x at = omega arith
at_below (y ∷ xs) (suc i) x at = let later = at_below xs i x at in omega (arith, later)
