-- The cores of which a home names some, as far as they are known.
use Rattle.std.proofs.Common.{◌≡◌, ◌≢◌, ℕ, ◌+◌, ◌<◌, ◌≤◌, ◌⊎◌, Bool, true, false, cond, List, [], ◌∷◌, refl, sym, ◌∙◌, ap, subst, arith, inl, inr}
use Rattle.std.specs.Prelude.{◌||◌, nat_eq}
use Rattle.std.specs.Set.{is_member}
use Rattle.std.proofs.lemmas.Bool.{cases_Bool, cases_eq, cases_lt, eq-eqb, ne_eqb}
use Rattle.parts_table.specs.Places.{is_in}
use Rattle.parts_table.proofs.Members.{in_cons, in_first, in_none, in_one, in_rest, not_in}

-- Known are the core itself and the known ones of those that are done.
pub record AreKnown (core count : ℕ) (named left known : List ℕ) : Type 0 where
  pub own : is_in known core
  pub all : (c : ℕ) → is_in named c → c < count → is_in left c ⊎ is_in known c
  pub only : (c : ℕ) → is_in known c → (c ≡ core) ⊎ is_in named c
  pub within : (c : ℕ) → is_in left c → is_in named c
  pub low : (c : ℕ) → is_in known c → c < count

pub known_begin : (core count : ℕ) (named known : List ℕ) → core < count → known ≡ core ∷ [] → AreKnown core count named named known
known_begin core count named known low is = subst (AreKnown core count named named) (sym is) (record {
  own = in_first core [] core refl;
  all = λ c has few. inl has;
  only = λ c has. inl (in_one core c has);
  within = λ c has. has;
  low = λ c has. subst (λ (n : ℕ). n < count) (sym (in_one core c has)) low;
})

-- one more that is known
pub known_more : (core count : ℕ) (named left rest known more : List ℕ) (other : ℕ) → left ≡ other ∷ rest → other < count → ((c : ℕ) → is_member nat_eq more c ≡ (nat_eq other c || is_member nat_eq known c)) → AreKnown core count named left known
    → AreKnown core count named rest more
known_more core count named left rest known more other is few each it = record {
  own = grows core it.own;
  all = λ c has low. elim (it.all c has low) as (λ _. is_in rest c ⊎ is_in more c) [
    | inl old ↦ elim (in_cons other rest c (subst (λ (cs : List ℕ). is_in cs c) is old)) as (λ _. is_in rest c ⊎ is_in more c) [
      | inl same ↦ inr (each c ∙ rw (eq-eqb other c (sym same)) refl)
      | inr later ↦ inl later
    ]
    | inr done ↦ inr (grows c done)
  ];
  only = λ c has. elim (splits c has) as (λ _. (c ≡ core) ⊎ is_in named c) [
    | inl new ↦ inr (it.within c (subst (λ (cs : List ℕ). is_in cs c) (sym is) (in_first other rest c new)))
    | inr old ↦ it.only c old
  ];
  within = λ c has. it.within c (subst (λ (cs : List ℕ). is_in cs c) (sym is) (in_rest other rest c has));
  low = λ c has. elim (splits c has) as (λ _. c < count) [
    | inl new ↦ subst (λ (n : ℕ). n < count) (sym new) few
    | inr old ↦ it.low c old
  ];
} where
  grows : (c : ℕ) → is_in known c → is_in more c
  grows c has = elim (cases_eq other c) as (λ _. is_in more c) [
    | inl same ↦ each c ∙ rw (eq-eqb other c same) refl
    | inr apart ↦ each c ∙ rw (ne_eqb other c apart) has
  ]

  splits : (c : ℕ) → is_in more c → (c ≡ other) ⊎ is_in known c
  splits c has = elim (cases_eq other c) as (λ _. (c ≡ other) ⊎ is_in known c) [
    | inl same ↦ inl (sym same)
    | inr apart ↦ inr (let it : (nat_eq other c || is_member nat_eq known c) ≡ true = sym (each c) ∙ has in rw (ne_eqb other c apart) at it)
  ]

-- one that isn't
pub known_less : (core count : ℕ) (named left rest known : List ℕ) (other : ℕ) → left ≡ other ∷ rest → count ≤ other → AreKnown core count named left known → AreKnown core count named rest known
known_less core count named left rest known other is past it = record {
  own = it.own;
  all = λ c has low. elim (it.all c has low) as (λ _. is_in rest c ⊎ is_in known c) [
    | inl old ↦ elim (in_cons other rest c (subst (λ (cs : List ℕ). is_in cs c) is old)) as (λ _. is_in rest c ⊎ is_in known c) [
      | inl same ↦ absurd (omega (arith, same, past, low))
      | inr later ↦ inl later
    ]
    | inr done ↦ inr done
  ];
  only = it.only;
  within = λ c has. it.within c (subst (λ (cs : List ℕ). is_in cs c) (sym is) (in_rest other rest c has));
  low = it.low;
}

-- all are done
pub known_end : (core count : ℕ) (named left known touched : List ℕ) → left ≡ [] → AreKnown core count named left known → ((c : ℕ) → is_member nat_eq touched c ≡ (nat_eq c core || is_member nat_eq named c))
    → (c : ℕ) → c < count → is_member nat_eq touched c ≡ is_member nat_eq known c
known_end core count named left known touched empty it each c low =
    elim (cases_Bool (is_member nat_eq known c)) as (λ _. is_member nat_eq touched c ≡ is_member nat_eq known c) [
      | inl sure ↦ each c ∙ (elim (it.only c sure) as (λ _. (nat_eq c core || is_member nat_eq named c) ≡ true) [
        | inl own ↦ rw (eq-eqb c core own) refl
        | inr named_too ↦ or_true (nat_eq c core) (is_member nat_eq named c) named_too
      ] ∙ sym sure)
      | inr never ↦
          let other : c ≢ core = λ same. (let sure : is_member nat_eq known c ≡ true = subst (λ (n : ℕ). is_in known n) (sym same) it.own in let bad : true ≡ false = sym sure ∙ never in cc) in
          let not_named : is_member nat_eq named c ≡ false = not_in named c (λ has. elim (it.all c has low) as (λ _. ⊥) [
            | inl left_too ↦ in_none c (subst (λ (cs : List ℕ). is_in cs c) empty left_too)
            | inr known_too ↦ (let sure : is_member nat_eq known c ≡ true = known_too in let bad : true ≡ false = sym sure ∙ never in cc)
          ]) in
          each c ∙ (rw (ne_eqb c core other) not_named ∙ sym never)
    ]
  where
    or_true : (a b : Bool) → b ≡ true → (a || b) ≡ true
    or_true true b is = refl
    or_true false b is = is
