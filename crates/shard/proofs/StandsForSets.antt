-- Sets of a whole cache, and those of them that one of its shards has.
use Rattle.std.proofs.Common.{◌≡◌, ◌≢◌, ℕ, ◌+◌, ◌*◌, ◌/◌, ◌%◌, ◌<◌, ◌≤◌, List, [], ◌∷◌, length, mul-pos, refl, sym, ap, ◌∙◌, subst, arith, inl, inr}
use Rattle.std.proofs.Math.Arith.{mod-mul}
use Rattle.std.proofs.Math.Nat.{div-one, mod-zero, mul_comm}
use Rattle.std.proofs.lemmas.Bool.{cases_eq, cases_lt}
use Rattle.std.proofs.lemmas.List.{length-set}
use Rattle.std.proofs.lemmas.Nat.{div-mul-add, mod-mul-add}
use Rattle.cache_set.specs.Lines.{set_of, in_set_of, set_number}
use Rattle.shard.proofs.CoherentLines.{set_other, set_same_at}

-- ---- the number of a set among all, and among those of one shard
module _ (n k : ℕ) (some : 0 < n) (sets : 0 < k) where
  whole_number : (x : ℕ) → x / 1 % (n * k) ≡ (x / n % k) * n + x % n
  whole_number x = ap (λ (y : ℕ). y % (n * k)) (div-one x) ∙ (ap (λ (y : ℕ). x % y) (mul_comm n k) ∙ mod-mul x sets some)

  pub same_whole : (x y : ℕ) → x % n ≡ y % n → x / n % k ≡ y / n % k → x / 1 % (n * k) ≡ y / 1 % (n * k)
  same_whole x y rest number =
      whole_number x ∙ (ap (λ (q : ℕ). q * n + x % n) number ∙ (ap (λ (r : ℕ). (y / n % k) * n + r) rest ∙ sym (whole_number y)))

  low : (x : ℕ) → (x / 1 % (n * k)) % n ≡ x % n
  low x = ap (λ (y : ℕ). y % n) (whole_number x) ∙ mod-mul-add (x / n % k) n (x % n) (omega arith)

  high : (x : ℕ) → (x / 1 % (n * k)) / n ≡ x / n % k
  high x = ap (λ (y : ℕ). y / n) (whole_number x) ∙ div-mul-add (x / n % k) n (x % n) (omega arith)

  pub same_shard : (x y : ℕ) → x / 1 % (n * k) ≡ y / 1 % (n * k) → x % n ≡ y % n
  same_shard x y e = sym (low x) ∙ (ap (λ (z : ℕ). z % n) e ∙ low y)

  pub same_part : (x y : ℕ) → x / 1 % (n * k) ≡ y / 1 % (n * k) → x / n % k ≡ y / n % k
  same_part x y e = sym (high x) ∙ (ap (λ (z : ℕ). z / n) e ∙ high y)

-- lines of one set are lines of one shard
pub same_rest : (n k count : ℕ) → 0 < n → count ≡ n * k → (x y : ℕ) → x / 1 % count ≡ y / 1 % count → x % n ≡ y % n
same_rest n k count some many x y same =
    elim (cases_lt 0 k) as (λ _. x % n ≡ y % n) [
      | inl sets ↦ same_shard n k some sets x y (subst (λ (z : ℕ). x / 1 % z ≡ y / 1 % z) many same)
      | inr none ↦
          let zero_k : k ≡ 0 = omega arith in
          let long : count ≡ 0 = many ∙ (ap (λ (z : ℕ). n * z) zero_k ∙ omega arith) in
          let bare : x / 1 % 0 ≡ y / 1 % 0 = subst (λ (z : ℕ). x / 1 % z ≡ y / 1 % z) long same in
          let equal : x ≡ y = sym (mod-zero (x / 1) ∙ div-one x) ∙ (bare ∙ (mod-zero (y / 1) ∙ div-one y)) in
          ap (λ (z : ℕ). z % n) equal
    ]

-- ---- the sets
module _ {X : Type 0} where
  -- the sets of a whole cache and those of one shard, of so many, agree where the lines are the shard's
  pub record Agree (n number : ℕ) (whole part : List (List X)) : Type 0 where
    pub many : length whole ≡ n * length part
    pub same : (line : ℕ) → line % n ≡ number → set_of 1 line whole ≡ set_of n line part

  empty_is : (sets : List (List X)) → length sets ≡ 0 → sets ≡ []
  empty_is [] e = refl
  empty_is (s ∷ sets) e = absurd (omega arith)

  module _ (n number : ℕ) (some : 0 < n) where
    agree_after : (whole part : List (List X)) (change : List X → List X) (x line : ℕ) → 0 < length part → Agree n number whole part → x % n ≡ number → line % n ≡ number
        → set_of 1 line (in_set_of 1 x change whole) ≡ set_of n line (in_set_of n x change part)
    agree_after whole part change x line sets a is there =
        let k : ℕ = length part in
        let long : 1 ≤ length whole = omega (arith, a.many, mul-pos some sets) in
        elim (cases_eq (line / n % k) (x / n % k)) as (λ _. set_of 1 line (in_set_of 1 x change whole) ≡ set_of n line (in_set_of n x change part)) [
          | inl e ↦
              let whole_same : line / 1 % length whole ≡ x / 1 % length whole
              = subst (λ (z : ℕ). line / 1 % z ≡ x / 1 % z) (sym a.many) (same_whole n k some sets line x (there ∙ sym is) e) in
              set_same_at 1 line x change whole long whole_same ∙ (ap change (a.same x is) ∙ sym (set_same_at n line x change part sets e))
          | inr e ↦
              let whole_other : line / 1 % length whole ≢ x / 1 % length whole
              = λ same. e (same_part n k some sets line x (subst (λ (z : ℕ). line / 1 % z ≡ x / 1 % z) a.many same)) in
              set_other 1 line x change whole whole_other ∙ (a.same line there ∙ sym (set_other n line x change part e))
        ]

    pub agree_changed : (whole part : List (List X)) (change : List X → List X) (x : ℕ) → x % n ≡ number → Agree n number whole part → Agree n number (in_set_of 1 x change whole) (in_set_of n x change part)
    agree_changed whole part change x is a = record {
      many = length-set whole (set_number 1 x whole) (change (set_of 1 x whole)) ∙ (a.many ∙ ap (λ (z : ℕ). n * z) (sym (length-set part (set_number n x part) (change (set_of n x part)))));
      same = λ line there. elim (cases_lt 0 (length part)) as (λ _. set_of 1 line (in_set_of 1 x change whole) ≡ set_of n line (in_set_of n x change part)) [
        | inl sets ↦ agree_after whole part change x line sets a is there
        | inr none ↦
            let no_part : part ≡ [] = empty_is part (omega arith) in
            let no_whole : whole ≡ [] = empty_is whole (a.many ∙ rw no_part (omega arith)) in
            rw (no_part, no_whole) refl
      ];
    }

    -- a change for a line of another shard
    pub agree_apart : (whole part : List (List X)) (change : List X → List X) (x : ℕ) → x % n ≢ number → Agree n number whole part → Agree n number (in_set_of 1 x change whole) part
    agree_apart whole part change x apart a =
        let other : (line : ℕ) → line % n ≡ number → line / 1 % length whole ≢ x / 1 % length whole
        = λ line there same. apart (sym (same_rest n (length part) (length whole) some a.many line x same) ∙ there) in
        record {
          many = length-set whole (set_number 1 x whole) (change (set_of 1 x whole)) ∙ a.many;
          same = λ line there. set_other 1 line x change whole (other line there) ∙ a.same line there;
        }

    -- the same where the numbers of shards are equal to these
    pub agree_step : (one count : ℕ) → one ≡ 1 → count ≡ n → (whole part : List (List X)) (change : List X → List X) (x : ℕ) → x % n ≡ number → Agree n number whole part
        → Agree n number (in_set_of one x change whole) (in_set_of count x change part)
    agree_step one count e f whole part change x is a =
        subst (λ (k : ℕ). Agree n number (in_set_of k x change whole) (in_set_of count x change part)) (sym e)
        (subst (λ (k : ℕ). Agree n number (in_set_of 1 x change whole) (in_set_of k x change part)) (sym f) (agree_changed whole part change x is a))

    pub apart_step : (one : ℕ) → one ≡ 1 → (whole part : List (List X)) (change : List X → List X) (x : ℕ) → x % n ≢ number → Agree n number whole part → Agree n number (in_set_of one x change whole) part
    apart_step one e whole part change x apart a =
        subst (λ (k : ℕ). Agree n number (in_set_of k x change whole) part) (sym e) (agree_apart whole part change x apart a)
