-- Cores are taken back from workers, the first core first.
use Rattle.std.proofs.Common.{◌≡◌, ℕ, zero, suc, ◌+◌, ◌<◌, List, [], ◌∷◌, ◌++◌, length, map, refl, sym, ◌∙◌, ap, subst, arith}
use Rattle.std.proofs.lemmas.List.{append-nil, append_assoc}
use Rattle.parts_table.specs.Access.{SeatState}
use Rattle.bound_core.specs.NumberedCores.{NumberedCore}
use Rattle.bound_records.specs.declared.record_port.CoreRecord.{CoreRecord}
use Rattle.dealing.specs.Dealing.{AreDealt}
use Rattle.dealing.specs.Workers.{CanTake, queues_of}
use Rattle.bound_workers.specs.declared.member.Member.{Member}
use Rattle.bound_workers.specs.Team.{Team}

-- the cores below the number are back
pub record LeftSoFar (members : List Member) (number : ℕ) (teams : List Team) (cores : List NumberedCore) (seats : List SeatState) (records : List CoreRecord) : Type 0 where
  pub rest : List Member
  pub dealt : AreDealt number rest (queues_of teams)
  pub count : number + length rest ≡ length members
  pub cores_are : cores ++ map (λ m. m.core) rest ≡ map (λ m. m.core) members
  pub seats_are : seats ++ map (λ m. m.seat) rest ≡ map (λ m. m.seat) members
  pub records_are : records ++ map (λ m. m.record) rest ≡ map (λ m. m.record) members

pub none_left : (members : List Member) (teams : List Team) (cores : List NumberedCore) (seats : List SeatState) (records : List CoreRecord) → AreDealt 0 members (queues_of teams) → cores ≡ [] → seats ≡ [] → records ≡ []
    → LeftSoFar members 0 teams cores seats records
none_left members teams cores seats records dealt no_cores no_seats no_records = record {
  rest = members;
  dealt = dealt;
  count = omega arith;
  cores_are = ap (λ xs. xs ++ map (λ (m : Member). m.core) members) no_cores;
  seats_are = ap (λ xs. xs ++ map (λ (m : Member). m.seat) members) no_seats;
  records_are = ap (λ xs. xs ++ map (λ (m : Member). m.record) members) no_records;
}

some_of : (xs : List Member) → 0 < length xs → (x : Member) × (rest : List Member) × (xs ≡ x ∷ rest)
some_of [] some = absurd (omega (arith, some))
some_of (x ∷ xs) some = (x, xs, refl)

none_of : (xs : List Member) → length xs ≡ 0 → xs ≡ []
none_of [] none = refl
none_of (x ∷ xs) none = absurd (omega (arith, none))

module _ (members : List Member) (number : ℕ) (teams : List Team) (cores : List NumberedCore) (seats : List SeatState) (records : List CoreRecord) (so_far : LeftSoFar members number teams cores seats records) where
  module _ (below : number < length members) where
    next : (x : Member) × (rest : List Member) × (so_far.rest ≡ x ∷ rest)
    next = some_of so_far.rest (let n = so_far.count in omega (arith, n, below))

    next_dealt : AreDealt number (next.0 ∷ next.1) (queues_of teams)
    next_dealt = subst (λ (ms : List Member). AreDealt number ms (queues_of teams)) next.2 so_far.dealt

    pub next_can : 0 < length teams → CanTake number teams
    next_can some = record { some = some; item = next.0; items = next.1; dealt = next_dealt }

    pub one_left : (y : Member) (after : List Team) (cores_now : List NumberedCore) (seats_now : List SeatState) (records_now : List CoreRecord)
        → ((item : Member) (items : List Member) → AreDealt number (item ∷ items) (queues_of teams) → (y ≡ item) × AreDealt (number + 1) items (queues_of after))
        → cores_now ≡ cores ++ y.core ∷ [] → seats_now ≡ seats ++ y.seat ∷ [] → records_now ≡ records ++ y.record ∷ [] → LeftSoFar members (number + 1) after cores_now seats_now records_now
    one_left y after cores_now seats_now records_now taken cores_pushed seats_pushed records_pushed =
        let it = taken next.0 next.1 next_dealt in
        let rest_is : so_far.rest ≡ y ∷ next.1 = next.2 ∙ ap (λ (x : Member). x ∷ next.1) (sym it.0) in
        record {
          rest = next.1;
          dealt = it.1;
          count = (let n = so_far.count in let s = ap length next.2 in omega (arith, n, s));
          cores_are =
              ap (λ xs. xs ++ map (λ (m : Member). m.core) next.1) cores_pushed
              ∙ (append_assoc cores (y.core ∷ []) (map (λ (m : Member). m.core) next.1) ∙ (ap (λ ms. cores ++ map (λ (m : Member). m.core) ms) (sym rest_is) ∙ so_far.cores_are));
          seats_are =
              ap (λ xs. xs ++ map (λ (m : Member). m.seat) next.1) seats_pushed
              ∙ (append_assoc seats (y.seat ∷ []) (map (λ (m : Member). m.seat) next.1) ∙ (ap (λ ms. seats ++ map (λ (m : Member). m.seat) ms) (sym rest_is) ∙ so_far.seats_are));
          records_are =
              ap (λ xs. xs ++ map (λ (m : Member). m.record) next.1) records_pushed
              ∙ (append_assoc records (y.record ∷ []) (map (λ (m : Member). m.record) next.1) ∙ (ap (λ ms. records ++ map (λ (m : Member). m.record) ms) (sym rest_is) ∙ so_far.records_are));
        }

  pub all_left : number ≡ length members → (cores ≡ map (λ m. m.core) members) × (seats ≡ map (λ m. m.seat) members) × (records ≡ map (λ m. m.record) members)
  all_left end =
      let none : so_far.rest ≡ [] = none_of so_far.rest (let n = so_far.count in omega (arith, n, end)) in (
        sym (append-nil cores) ∙ (ap (λ ms. cores ++ map (λ (m : Member). m.core) ms) (sym none) ∙ so_far.cores_are),
        sym (append-nil seats) ∙ (ap (λ ms. seats ++ map (λ (m : Member). m.seat) ms) (sym none) ∙ so_far.seats_are),
        sym (append-nil records) ∙ (ap (λ ms. records ++ map (λ (m : Member). m.record) ms) (sym none) ∙ so_far.records_are),
      )
