-- The first place of a word.
use Rattle.std.proofs.Common.{◌≡◌, ℕ, ◌<◌, true, false, List, length, get_or, Some, None, refl, arith}
use Rattle.std.specs.List.{position}
use Rattle.std.specs.Prelude.{nat_eq}
use Rattle.std.proofs.lemmas.Bool.{le-ltb, lt-ltb}
use Rattle.std.proofs.lemmas.List.Sums.{position_or_len_is}

pub first_place : (list : List ℕ) (x i : ℕ) → i < length list → ((k : ℕ) → k < i → nat_eq (get_or list k 0) x ≡ false) → nat_eq (get_or list i 0) x ≡ true → position (λ y. nat_eq y x) list ≡ Some i
first_place list x i within before here =
    rw (position_or_len_is (λ y. nat_eq y x) list i 0 (omega arith) before (λ _. here), lt-ltb i (length list) within) refl

pub no_place : (list : List ℕ) (x : ℕ) → ((k : ℕ) → k < length list → nat_eq (get_or list k 0) x ≡ false) → position (λ y. nat_eq y x) list ≡ None
no_place list x none =
    rw (position_or_len_is (λ y. nat_eq y x) list (length list) 0 (omega arith) none (λ l. absurd (omega arith)), le-ltb (length list) (length list) (omega arith)) refl
