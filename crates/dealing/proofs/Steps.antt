-- A thing is given to its worker, or taken.
use Rattle.std.proofs.Common.{◌≡◌, ◌≢◌, ◌+◌, ◌%◌, ◌<◌, ℕ, List, [], ◌∷◌, length, set, sym, ◌∙◌, ap, subst, inl, inr, arith, refl, mod-lt}
use Rattle.std.proofs.lemmas.Bool.{cases_eq}
use Rattle.std.proofs.lemmas.List.{get_or-set_other, get_or-set_same, length-set, set-get_or, set-set}
use Rattle.dealing.specs.Dealing.{AreDealt, queue_at, share_of, with_next}
use Rattle.dealing.proofs.Shares.{other_share, own_share}

first_same : {T : Type 0} (x y : T) (xs ys : List T) → x ∷ xs ≡ y ∷ ys → x ≡ y
first_same x y xs ys same = cc

rest_same : {T : Type 0} (x y : T) (xs ys : List T) → x ∷ xs ≡ y ∷ ys → xs ≡ ys
rest_same x y xs ys same = cc

module _ {T : Type 0} (number : ℕ) (x : T) (queues : List (List T)) (some : 0 < length queues) where
  abbrev own : ℕ
  own = number % length queues

  own_there : own < length queues
  own_there = mod-lt number some

  -- there are as many queues
  pub same_queues : length (with_next number x queues) ≡ length queues
  same_queues = length-set queues own (x ∷ queue_at queues own)

  pub next_at : queue_at (with_next number x queues) own ≡ x ∷ queue_at queues own
  next_at = get_or-set_same queues own (x ∷ queue_at queues own) [] own_there

  pub others_stay : (worker : ℕ) → worker ≢ own → queue_at (with_next number x queues) worker ≡ queue_at queues worker
  others_stay worker other = get_or-set_other queues own worker (x ∷ queue_at queues own) [] other

  -- one more is dealt
  pub dealt_next : (items : List T) → AreDealt (number + 1) items queues → AreDealt number (x ∷ items) (with_next number x queues)
  dealt_next items dealt worker within =
      let inside : worker < length queues = omega (arith, within, same_queues) in
      subst (λ (n : ℕ). queue_at (with_next number x queues) worker ≡ share_of n worker number (x ∷ items)) (sym same_queues)
      (elim (cases_eq worker own) as (λ _. queue_at (with_next number x queues) worker ≡ share_of (length queues) worker number (x ∷ items)) [
        | inl mine ↦
            ap (queue_at (with_next number x queues)) mine
            ∙ (next_at
            ∙ (ap (λ (ys : List T). x ∷ ys) (ap (queue_at queues) (sym mine) ∙ dealt worker inside) ∙ sym (own_share (length queues) worker number x items (sym mine))))
        | inr other ↦ others_stay worker other ∙ (dealt worker inside ∙ sym (other_share (length queues) worker number x items (λ same. other (sym same))))
      ])

  -- and one less
  pub dealt_rest : (y : T) (items : List T) → AreDealt number (y ∷ items) (with_next number x queues) → (x ≡ y) × AreDealt (number + 1) items queues
  dealt_rest y items dealt =
      let all : (worker : ℕ) → worker < length queues → queue_at (with_next number x queues) worker ≡ share_of (length queues) worker number (y ∷ items) =
      λ worker within. dealt worker (omega (arith, within, same_queues)) ∙ ap (λ (n : ℕ). share_of n worker number (y ∷ items)) same_queues in
      let here : x ∷ queue_at queues own ≡ y ∷ share_of (length queues) own (number + 1) items =
      sym next_at ∙ (all own own_there ∙ own_share (length queues) own number y items refl) in (
        first_same x y (queue_at queues own) (share_of (length queues) own (number + 1) items) here,
        λ worker within.
            elim (cases_eq worker own) as (λ _. queue_at queues worker ≡ share_of (length queues) worker (number + 1) items) [
              | inl mine ↦
                  ap (queue_at queues) mine
                  ∙ (rest_same x y (queue_at queues own) (share_of (length queues) own (number + 1) items) here ∙ ap (λ (w : ℕ). share_of (length queues) w (number + 1) items) (sym mine))
              | inr other ↦ sym (others_stay worker other) ∙ (all worker within ∙ other_share (length queues) worker number y items (λ same. other (sym same)))
            ],
      )

-- a queue without its first thing, which was the next
pub next_of : {T : Type 0} (number : ℕ) (x : T) (rest : List T) (queues : List (List T)) → 0 < length queues → queue_at queues (number % length queues) ≡ x ∷ rest
    → queues ≡ with_next number x (set queues (number % length queues) rest)
next_of {T} number x rest queues some is =
    let own : ℕ = number % length queues in
    let without : List (List T) = set queues own rest in
    let same : length without ≡ length queues = length-set queues own rest in
    let more : set without own (x ∷ queue_at without own) ≡ with_next number x without = ap (λ (n : ℕ). set without (number % n) (x ∷ queue_at without (number % n))) (sym same) in
    let here : queue_at without own ≡ rest = get_or-set_same queues own rest [] (mod-lt number some) in
    sym (set-get_or queues own [])
    ∙ (ap (set queues own) is ∙ (sym (set-set queues own rest (x ∷ rest)) ∙ (ap (λ (ys : List T). set without own (x ∷ ys)) (sym here) ∙ more)))
