-- A bank is the bank that it is also after what a core's own L1 does.
use Rattle.std.proofs.Common.{ℕ, Bool, true, false, not, List, ◌∷◌, length, Option, Some, None, refl, ap, ◌∙◌}
use Rattle.std.specs.Option.{option_map_or}
use Rattle.std.proofs.lemmas.List.{length-set}
use Rattle.cache_set.specs.Ways.{filled, without}
use Rattle.cache_set.specs.declared.letter.Letter.{Letter}
use Rattle.cache_set.specs.declared.letter.Letter.TheVariants.{M, E, S, I}
use Rattle.shard.specs.Coherence.{own_after}
use Rattle.home.specs.HomeState.{HomeLine, bytes_at, granted_in, looked_up_in, owned_in, row_at, row_of}
use Rattle.l1_cache.specs.L1State.{Copy, L1State, filled_in, kept_first_in, victim_in}
use Rattle.shard.specs.SharedStep.{Bank, brought_home, brought_to_own, copy_of, filled_from_home, is_some_core, kept_with, l1_of, left_by_others, own_evicted, ready_by, ready_from_home, ready_from_l2, ready_where_shared, shared_by_others, with_home, with_l1}
use Rattle.shard.proofs.HomesAndL1s.Banks.{IsBankOf, brought_home_bank, home_bank, left_bank, same_bank, shared_others_bank}
use Rattle.shard.proofs.HomesAndL1s.BroughtSeen.{own_evicted_bank, own_evicted_l1s}
use Rattle.shard.proofs.HomesAndL1s.Fit.{AreFit, IsShapedAs, copies_shape, fit_l1, fit_own_evicted}

module _ (p q : Bank) (is : IsBankOf p q) where
  pub l1_bank : (core : ℕ) (f : L1State → L1State) → ((l1 : L1State) → IsShapedAs l1 (f l1)) → IsBankOf p (with_l1 core f q)
  l1_bank core f step = record {
    count = is.count;
    number = is.number;
    cores = length-set q.l1s core (f (l1_of q core)) ∙ is.cores;
    fit = fit_l1 core f q is.fit step;
  }

  keeping : (letter : Letter) (core line : ℕ) (o : Option Copy) → IsBankOf p (option_map_or (λ copy. with_l1 core (kept_first_in line (record copy { letter = letter })) q) o q)
  unfolding kept_first_in
  keeping letter core line None = is
  keeping letter core line (Some copy) = l1_bank core (kept_first_in line (record copy { letter = letter })) (copies_shape line (λ copies. (line, record copy { letter = letter }) ∷ without line copies))

  pub kept_bank : (letter : Letter) (core line : ℕ) → IsBankOf p (kept_with letter core line q)
  kept_bank letter core line = keeping letter core line (copy_of q core line)

  pub own_evicted_is : (v : Option (ℕ × Copy)) (core : ℕ) → IsBankOf p (own_evicted v core q)
  own_evicted_is v core = record {
    count = (own_evicted_bank v core q).0 ∙ is.count;
    number = (own_evicted_bank v core q).1 ∙ is.number;
    cores = ap (λ (l : List L1State). length l) (own_evicted_l1s v core q) ∙ is.cores;
    fit = fit_own_evicted v core q is.fit;
  }

filled_bank : (p q : Bank) → IsBankOf p q → (letter : Letter) (core line : ℕ) → IsBankOf p (filled_from_home letter core line q)
unfolding filled_in
filled_bank p q is letter core line =
    let copy : Copy = record { letter = letter; free = false; bytes = bytes_at q.home line } in
    l1_bank p q is core (filled_in line copy) (λ l1. copies_shape line (filled l1.ways line copy) l1)

pub brought_bank : (p q : Bank) → IsBankOf p q → (letter : Letter) (core line : ℕ) → IsBankOf p (brought_to_own letter core line q)
unfolding brought_to_own
brought_bank p q is letter core line =
    filled_bank p (own_evicted (victim_in (l1_of q core) line) core q) (own_evicted_is p q is (victim_in (l1_of q core) line) core) letter core line

pub owned_bank : (p q : Bank) → IsBankOf p q → (line core : ℕ) → IsBankOf p (with_home (owned_in line core) q)
unfolding owned_in
owned_bank p q is line core = home_bank p q is (owned_in line core q.home) refl refl

pub granted_bank : (p q : Bank) → IsBankOf p q → (line core : ℕ) (alone : Bool) → IsBankOf p (with_home (granted_in line core alone) q)
unfolding granted_in
granted_bank p q is line core alone = home_bank p q is (granted_in line core alone q.home) refl refl

module _ (p : Bank) (fit : AreFit p) (core line : ℕ) where
  pub from_l2_bank : (write : Bool) (row : HomeLine) → IsBankOf p (ready_from_l2 write core line row p)
  from_l2_bank true row =
      let q : Bank = left_by_others core line row (with_home (looked_up_in line) p) in
      owned_bank p (brought_to_own M core line q) (brought_bank p q (left_bank p fit core line row) M core line) line core
  from_l2_bank false row =
      let q : Bank = shared_by_others line row (with_home (looked_up_in line) p) in
      let letter : Letter = own_after false I (is_some_core row.sharers) in
      granted_bank p (brought_to_own letter core line q) (brought_bank p q (shared_others_bank p fit line row) letter core line) line core (not (is_some_core row.sharers))

  pub from_home_bank : (write : Bool) (o : Option HomeLine) → IsBankOf p (ready_from_home write core line o p)
  from_home_bank write None =
      let letter : Letter = own_after write I false in
      owned_bank p (brought_to_own letter core line (brought_home line p)) (brought_bank p (brought_home line p) (brought_home_bank p fit line) letter core line) line core
  from_home_bank write (Some row) = from_l2_bank write row

  shared_bank : (write : Bool) → IsBankOf p (ready_where_shared write core line p)
  shared_bank true =
      let q : Bank = left_by_others core line (row_of p.home line) (with_home (looked_up_in line) p) in
      owned_bank p (kept_with M core line q) (kept_bank p q (left_bank p fit core line (row_of p.home line)) M core line) line core
  shared_bank false = kept_bank p p (same_bank p fit) S core line

  pub ready_bank : (letter : Letter) (write : Bool) → IsBankOf p (ready_by letter write core line p)
  ready_bank M write = kept_bank p p (same_bank p fit) M core line
  ready_bank E write = kept_bank p p (same_bank p fit) (own_after write E false) core line
  ready_bank S write = shared_bank write
  ready_bank I write = from_home_bank write (row_at p.home line)
