-- Cores are taken back from workers, the first core first.
use Rattle.std.proofs.Common.{◌≡◌, ℕ, ◌+◌, ◌<◌, List, [], ◌∷◌, ◌++◌, length, map, refl, sym, ◌∙◌, ap, subst, arith}
use Rattle.std.proofs.lemmas.List.{append-nil, append_assoc}
use Rattle.shard_table.specs.Access.{SeatState}
use Rattle.bound_core.specs.NumberedCores.{NumberedCore}
use Rattle.dealing.specs.Dealing.{AreDealt}
use Rattle.dealing.specs.Workers.{CanTake, queues_of}
use Rattle.bound_phase.specs.declared.member.Member.{Member}
use Rattle.bound_phase.specs.Crew.{Crew}

-- the cores below the number are back
pub record LeftSoFar (members : List Member) (number : ℕ) (crews : List Crew) (cores : List NumberedCore) (seats : List SeatState) : Type 0 where
  pub rest : List Member
  pub dealt : AreDealt number rest (queues_of crews)
  pub count : number + length rest ≡ length members
  pub cores_are : cores ++ map (λ m. m.core) rest ≡ map (λ m. m.core) members
  pub seats_are : seats ++ map (λ m. m.seat) rest ≡ map (λ m. m.seat) members

pub none_left : (members : List Member) (crews : List Crew) (cores : List NumberedCore) (seats : List SeatState) → AreDealt 0 members (queues_of crews) → cores ≡ [] → seats ≡ []
    → LeftSoFar members 0 crews cores seats
none_left members crews cores seats dealt no_cores no_seats = record {
  rest = members;
  dealt = dealt;
  count = omega arith;
  cores_are = ap (λ xs. xs ++ map (λ (m : Member). m.core) members) no_cores;
  seats_are = ap (λ xs. xs ++ map (λ (m : Member). m.seat) members) no_seats;
}

some_of : (xs : List Member) → 0 < length xs → (x : Member) × (rest : List Member) × (xs ≡ x ∷ rest)
some_of [] some = absurd (omega (arith, some))
some_of (x ∷ xs) some = (x, xs, refl)

none_of : (xs : List Member) → length xs ≡ 0 → xs ≡ []
none_of [] none = refl
none_of (x ∷ xs) none = absurd (omega (arith, none))

module _ (members : List Member) (number : ℕ) (crews : List Crew) (cores : List NumberedCore) (seats : List SeatState) (so_far : LeftSoFar members number crews cores seats) where
  module _ (below : number < length members) where
    next : (x : Member) × (rest : List Member) × (so_far.rest ≡ x ∷ rest)
    next = some_of so_far.rest (let n = so_far.count in omega (arith, n, below))

    next_dealt : AreDealt number (next.0 ∷ next.1) (queues_of crews)
    next_dealt = subst (λ (ms : List Member). AreDealt number ms (queues_of crews)) next.2 so_far.dealt

    pub next_can : 0 < length crews → CanTake number crews
    next_can some = record { some = some; item = next.0; items = next.1; dealt = next_dealt }

    pub one_left : (y : Member) (after : List Crew) (cores_now : List NumberedCore) (seats_now : List SeatState)
        → ((item : Member) (items : List Member) → AreDealt number (item ∷ items) (queues_of crews) → (y ≡ item) × AreDealt (number + 1) items (queues_of after))
        → cores_now ≡ cores ++ y.core ∷ [] → seats_now ≡ seats ++ y.seat ∷ [] → LeftSoFar members (number + 1) after cores_now seats_now
    one_left y after cores_now seats_now taken cores_pushed seats_pushed =
        let it = taken next.0 next.1 next_dealt in
        let rest_is : so_far.rest ≡ y ∷ next.1 = next.2 ∙ ap (λ (x : Member). x ∷ next.1) (sym it.0) in
        record {
          rest = next.1;
          dealt = it.1;
          count = (let n = so_far.count in let s = ap length next.2 in omega (arith, n, s));
          cores_are =
              ap (λ xs. xs ++ map (λ (m : Member). m.core) next.1) cores_pushed
              ∙ (append_assoc cores (y.core ∷ []) (map (λ (m : Member). m.core) next.1) ∙ (ap (λ ms. cores ++ map (λ (m : Member). m.core) ms) (sym rest_is) ∙ so_far.cores_are));
          seats_are =
              ap (λ xs. xs ++ map (λ (m : Member). m.seat) next.1) seats_pushed
              ∙ (append_assoc seats (y.seat ∷ []) (map (λ (m : Member). m.seat) next.1) ∙ (ap (λ ms. seats ++ map (λ (m : Member). m.seat) ms) (sym rest_is) ∙ so_far.seats_are));
        }

  pub all_left : number ≡ length members → (cores ≡ map (λ m. m.core) members) × (seats ≡ map (λ m. m.seat) members)
  all_left end =
      let none : so_far.rest ≡ [] = none_of so_far.rest (let n = so_far.count in omega (arith, n, end)) in (
        sym (append-nil cores) ∙ (ap (λ ms. cores ++ map (λ (m : Member). m.core) ms) (sym none) ∙ so_far.cores_are),
        sym (append-nil seats) ∙ (ap (λ ms. seats ++ map (λ (m : Member). m.seat) ms) (sym none) ∙ so_far.seats_are),
      )
