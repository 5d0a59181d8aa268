-- The accesses of a core are in the order of their times.
use Rattle.std.proofs.Common.{◌≡◌, ℕ, ◌<◌, ◌≤◌, Bool, true, false, List, [], ◌∷◌, All, refl, sym, subst, arith, inl, inr}
use Rattle.std.proofs.lemmas.Bool.{cases_eq, cases_lt}
use Rattle.std.proofs.lemmas.List.Elements.{All-cons, All-head, All-nil, All-tail}
use Rattle.parts_table.specs.declared.view.Made.{Made}
use Rattle.parts_table.specs.TurnOrder.{AreInOrder, ComesFirst, IsBefore, by_core, key_at, key_of}
use Rattle.parts_table.specs.World.{AreRight, IsRight, World, after}
use Rattle.parts_table.proofs.ByCore.{other_first, own_first}
use Rattle.parts_table.proofs.Times.{never_falls, own_time}

-- what holds of the accesses of each core holds of all
pub all_by_cores : (P : Made → Type 0) (list : List Made) → ((core : ℕ) → All P (by_core core list)) → All P list
all_by_cores P [] each = All-nil P
all_by_cores P (a ∷ list) each =
    All-cons P a list
    (All-head P a (by_core a.entry.core list) (subst (All P) (own_first a.entry.core a list refl) (each a.entry.core)))
    (all_by_cores P list (λ core.
    elim (cases_eq a.entry.core core) as (λ _. All P (by_core core list)) [
      | inl own ↦ All-tail P a (by_core core list) (subst (All P) (own_first core a list own) (each core))
      | inr other ↦ subst (All P) (other_first core a list other) (each core)
    ]))

-- the accesses of a core are its own
pub own_all : (core : ℕ) (list : List Made) → All (λ a. a.entry.core ≡ core) (by_core core list)
own_all core [] = All-nil (λ (a : Made). a.entry.core ≡ core)
own_all core (a ∷ list) =
    let P : Made → Type 0 = λ x. x.entry.core ≡ core in
    elim (cases_eq a.entry.core core) as (λ _. All P (by_core core (a ∷ list))) [
      | inl own ↦ subst (All P) (sym (own_first core a list own)) (All-cons P a (by_core core list) own (own_all core list))
      | inr other ↦ subst (All P) (sym (other_first core a list other)) (own_all core list)
    ]

-- of the same core, the one with the key that is not less comes first
first_by_key : (a b : Made) → a.entry.core ≡ b.entry.core → key_of a ≤ key_of b → ComesFirst a b
first_by_key a b same low =
    elim (cases_lt (key_of a) (key_of b)) as (λ _. ComesFirst a b) [
      | inl less ↦ inl less
      | inr not ↦ inr (omega (arith, not, low), omega (arith, same))
    ]

private_key : (a time : ℕ) (shared : Bool) → a ≤ time → key_at a shared ≤ key_at time false
private_key a time true low = omega (arith, low)
private_key a time false low = omega (arith, low)

shared_key : (a time : ℕ) (shared : Bool) → a < time → key_at a shared ≤ key_at time true
shared_key a time true low = omega (arith, low)
shared_key a time false low = omega (arith, low)

module _ (cores banks : ℕ) where
  -- an access whose L1 is not before another of its core
  next_key : (w : World) (a b : Made) → IsRight cores banks w b → a.time ≤ (w b.entry.core).time → key_of a ≤ key_of b
  next_key w a b right low = by b.shared refl
    where
      by : (shared : Bool) → b.shared ≡ shared → key_of a ≤ key_of b
      by false is = let time = right.alone is in subst (λ (s : Bool). key_of a ≤ key_at b.time s) (sym is) (private_key a.time b.time a.shared (omega (arith, time, low)))
      by true is =
          let time = right.later is b.entry.core (Rattle.parts_table.proofs.Locality.own_touched cores banks w b right.known) in
          subst (λ (s : Bool). key_of a ≤ key_at b.time s) (sym is) (shared_key a.time b.time a.shared (omega (arith, time, low)))

  is_before : (w : World) (a : Made) (list : List Made) → AreRight cores banks w list → a.time ≤ (w a.entry.core).time → IsBefore a (by_core a.entry.core list)
  is_before w a [] right low = tt
  is_before w a (b ∷ list) right low =
      elim (cases_eq b.entry.core a.entry.core) as (λ _. IsBefore a (by_core a.entry.core (b ∷ list))) [
        | inl own ↦
            let here : a.time ≤ (w b.entry.core).time = subst (λ (n : ℕ). a.time ≤ (w n).time) (sym own) low in
            subst (IsBefore a) (sym (own_first a.entry.core b list own)) (first_by_key a b (sym own) (next_key w a b right.0 here))
        | inr other ↦
            let more = never_falls cores banks w b right.0 a.entry.core in
            subst (IsBefore a) (sym (other_first a.entry.core b list other)) (is_before (after cores banks w b) a list right.1 (omega (arith, low, more)))
      ]

  pub own_in_order : (w : World) (list : List Made) → AreRight cores banks w list → (core : ℕ) → AreInOrder (by_core core list)
  own_in_order w [] right core = tt
  own_in_order w (a ∷ list) right core =
      let later = own_in_order (after cores banks w a) list right.1 core in
      elim (cases_eq a.entry.core core) as (λ _. AreInOrder (by_core core (a ∷ list))) [
        | inl own ↦
            let time = own_time cores banks w a right.0 in
            let before : IsBefore a (by_core a.entry.core list) = is_before (after cores banks w a) a list right.1 (omega (arith, time)) in
            subst AreInOrder (sym (own_first core a list own)) (subst (λ (n : ℕ). IsBefore a (by_core n list)) own before, later)
        | inr other ↦ subst AreInOrder (sym (other_first core a list other)) later
      ]
