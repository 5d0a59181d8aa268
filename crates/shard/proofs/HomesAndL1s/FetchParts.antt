-- A line comes into a core's instruction cache: the parts are parts as before.
use Rattle.std.proofs.Common.{◌≡◌, ◌≢◌, ℕ, ◌%◌, ◌<◌, ◌≤◌, true, false, List, length, get_or, set, Option, Some, None, refl, sym, ap, ◌∙◌, subst, arith, inl, inr}
use Rattle.std.specs.Option.{unwrap_or}
use Rattle.std.specs.Prelude.{IsSome, IsTrue, nat_eq}
use Rattle.std.specs.Set.{is_member}
use Rattle.std.proofs.lemmas.Bool.{cases_eq, cases_lt}
use Rattle.std.proofs.lemmas.List.{get_or-set_other, get_or-set_same, get_or_past, length-set}
use Rattle.cache_set.specs.Ways.{filled, victim_of}
use Rattle.shard.specs.Coherence.{is_alone, is_valid}
use Rattle.shard.specs.HaveL1i.{have_l1i}
use Rattle.home.specs.HomeState.{HomeLine, bytes_at, fetched_in, is_marked_by_others, nobody, row_at, row_of, unfetched_in}
use Rattle.mesi_dir.specs.CoreSets.{with_core, without_core}
use Rattle.l1_cache.specs.L1State.{L1State, copy_at, has_instructions, instruction_filled_in, instructions_at, letter_of, no_l1}
use Rattle.shard.specs.PartsLaws.{AreParts, IsOwn}
use Rattle.shard.specs.Seen.{caches_seen, newest_in}
use Rattle.shard.specs.SharedStep.{Bank, copy_of, instruction_brought, l1_of, own_instruction_evicted, own_letter, with_l1}
use Rattle.shard.proofs.HomesAndL1s.Banks.{own_in}
use Rattle.shard.proofs.HomesAndL1s.Fit.{IsShapedAs, fit_home, fit_l1, instructions_shape}
use Rattle.shard.proofs.HomesAndL1s.FitOf.{fit_of}
use Rattle.shard.proofs.HomesAndL1s.FoldAt.{not_own}
use Rattle.shard.proofs.HomesAndL1s.InstructionCopies.{fetched_other, fetched_room, fetched_same, fetched_victim, line_held, line_owned, line_there}
use Rattle.shard.proofs.HomesAndL1s.LineFits.{KeepsBank, LineFits, line_of_parts, memory_in, parts_of_lines}
use Rattle.shard.proofs.HomesAndL1s.Newest.{newest_same}
use Rattle.shard.proofs.HomesAndL1s.ReadyParts.{IsSound}
use Rattle.shard.proofs.HomesAndL1s.RowSets.{with_other, with_own}
use Rattle.shard.proofs.HomesAndL1s.Rows.{as_row, row_other, row_there}
use Rattle.shard.proofs.HomesAndL1s.Untouched.{member_without}

-- ---- a bank of which only instruction caches and what the home says of them changed
pub record FetchedAt (p q : Bank) (x : ℕ) : Type 0 where
  pub sharers : (row_of q.home x).sharers ≡ (row_of p.home x).sharers
  pub alone : (row_of q.home x).alone ≡ (row_of p.home x).alone
  pub there : IsSome (row_at q.home x) → IsSome (row_at p.home x)
  pub fetches : (k : ℕ) → is_member nat_eq (row_of q.home x).fetchers k ≡ has_instructions (l1_of q k) x

module _ (p q : Bank) (are : AreParts p) (keeps : KeepsBank p q) (marks : q.home.marks ≡ p.home.marks) (copies : (k x : ℕ) → copy_of q k x ≡ copy_of p k x) (bytes : (x : ℕ) → bytes_at q.home x ≡ bytes_at p.home x) where
  letters : (k x : ℕ) → own_letter q k x ≡ own_letter p k x
  letters k x = ap letter_of (copies k x)

  pub fetch_fits : (x : ℕ) → IsOwn p x → FetchedAt p q x → LineFits q x
  fetch_fits x own at =
      let was : LineFits p x = line_of_parts p are x own in
      record {
        memory = λ t. memory_in p q keeps x (was.memory (at.there t));
        holds = λ k. ap (λ (s : List ℕ). is_member nat_eq s k) at.sharers ∙ (was.holds k ∙ ap is_valid (sym (letters k x)));
        alone_some = λ so.
            let has = was.alone_some (sym at.alone ∙ so) in
            (has.0, subst (λ (z : ℕ). has.0 < z) (sym keeps.bank.cores) has.1, ap is_alone (letters has.0 x) ∙ has.2);
        alone_none = λ not_so k. ap is_alone (letters k x) ∙ was.alone_none (sym at.alone ∙ not_so) k;
        fetches = at.fetches;
        whole = λ k c e. was.whole k c (sym (copies k x) ∙ e);
        clean = λ k c e m. was.clean k c (sym (copies k x) ∙ e) m ∙ sym (bytes x);
        free = λ k c e f.
            let free = was.free k c (sym (copies k x) ∙ e) f in
            (free.0, subst (λ ms. is_marked_by_others ms k x ≡ false) (sym marks) free.1);
      }

  pub fetch_newest : (x : ℕ) → newest_in x (bytes_at q.home x) q.l1s ≡ newest_in x (bytes_at p.home x) p.l1s
  fetch_newest x = ap (λ (b : List ℕ). newest_in x b q.l1s) (bytes x) ∙ newest_same x (bytes_at p.home x) q.l1s p.l1s keeps.bank.cores (λ k. copies k x)

-- ---- the home after a line left an instruction cache
evicted_rows : (v : Option (ℕ × Unit {0})) (core : ℕ) (p : Bank) (x : ℕ) → ((w : ℕ × Unit {0}) → v ≡ Some w → x ≢ w.0) → row_at (own_instruction_evicted v core p).home x ≡ row_at p.home x
unfolding unfetched_in
evicted_rows None core p x apart = refl
evicted_rows (Some w) core p x apart = row_other w.0 (λ row. record row { fetchers = without_core core row.fetchers }) p.home x (apart w refl)

evicted_row : (w : ℕ × Unit {0}) (core : ℕ) (p : Bank) (row : HomeLine) → row_at p.home w.0 ≡ Some row → row_at (own_instruction_evicted (Some w) core p).home w.0 ≡ Some (record row { fetchers = without_core core row.fetchers })
unfolding unfetched_in
evicted_row w core p row e = row_there w.0 (λ row. record row { fetchers = without_core core row.fetchers }) p.home row e

filled_shape : (line : ℕ) (l1 : L1State) → IsShapedAs l1 (instruction_filled_in line l1)
unfolding instruction_filled_in
filled_shape line l1 = instructions_shape line (filled l1.l1i_ways line tt) l1

filled_copies : (line : ℕ) (l1 : L1State) (x : ℕ) → copy_at (instruction_filled_in line l1) x ≡ copy_at l1 x
unfolding instruction_filled_in copy_at
filled_copies line l1 x = refl

pub record Fetched (p b : Bank) : Type 0 where
  pub fetched_keeps : KeepsBank p b
  pub fetched_parts : AreParts b
  pub fetched_marks : b.home.marks ≡ p.home.marks
  pub fetched_newest : (x : ℕ) → newest_in x (bytes_at b.home x) b.l1s ≡ newest_in x (bytes_at p.home x) p.l1s

nothing : (line : ℕ) → has_instructions no_l1 line ≡ false
unfolding has_instructions
nothing line = refl

module _ (p : Bank) (are : AreParts p) (core line : ℕ) (within : core < length p.l1s) (own : IsOwn p line) (fetching : IsTrue (have_l1i (caches_seen p))) (row : HomeLine) (there : row_at p.home line ≡ Some row)
    (absent : has_instructions (l1_of p core) line ≡ false) where
  abbrev v : Option (ℕ × Unit {0})
  v = victim_of (l1_of p core).l1i_ways (instructions_at (l1_of p core) line)

  abbrev e : Bank
  e = own_instruction_evicted v core p

  abbrev l1s : List L1State
  l1s = set p.l1s core (instruction_filled_in line (l1_of p core))

  -- the bank after it
  abbrev q : Bank
  q = record { home = fetched_in line core e.home; l1s = l1s }

  evicted_l1s : (o : Option (ℕ × Unit {0})) → (own_instruction_evicted o core p).l1s ≡ p.l1s
  evicted_l1s None = refl
  evicted_l1s (Some w) = refl

  brought_is : instruction_brought core line p ≡ q
  brought_is = ap (λ (ls : List L1State). record { home = fetched_in line core e.home; l1s = set ls core (instruction_filled_in line (get_or ls core no_l1)) }) (evicted_l1s v)

  evicted_keeps : (o : Option (ℕ × Unit {0})) → KeepsBank p (record { home = fetched_in line core (own_instruction_evicted o core p).home; l1s = l1s })
  unfolding fetched_in unfetched_in
  evicted_keeps None = record {
    bank = record {
      count = refl;
      number = refl;
      cores = length-set p.l1s core (instruction_filled_in line (l1_of p core));
      fit = fit_home (with_l1 core (instruction_filled_in line) p) (fetched_in line core p.home) (fit_l1 core (instruction_filled_in line) p (fit_of p are) (filled_shape line)) refl refl;
    };
    base = refl;
    size = refl;
    marks = refl;
    long = refl;
  }
  evicted_keeps (Some w) = record {
    bank = record {
      count = refl;
      number = refl;
      cores = length-set p.l1s core (instruction_filled_in line (l1_of p core));
      fit = fit_home (with_l1 core (instruction_filled_in line) p) (fetched_in line core (unfetched_in w.0 core p.home)) (fit_l1 core (instruction_filled_in line) p (fit_of p are) (filled_shape line)) refl refl;
    };
    base = refl;
    size = refl;
    marks = refl;
    long = refl;
  }

  keeps : KeepsBank p q
  keeps = evicted_keeps v

  evicted_marks : (o : Option (ℕ × Unit {0})) → (fetched_in line core (own_instruction_evicted o core p).home).marks ≡ p.home.marks
  unfolding fetched_in unfetched_in
  evicted_marks None = refl
  evicted_marks (Some w) = refl

  evicted_bytes : (o : Option (ℕ × Unit {0})) (x : ℕ) → bytes_at (fetched_in line core (own_instruction_evicted o core p).home) x ≡ bytes_at p.home x
  unfolding fetched_in unfetched_in bytes_at
  evicted_bytes None x = refl
  evicted_bytes (Some w) x = refl

  own_now : l1_of q core ≡ instruction_filled_in line (l1_of p core)
  own_now = get_or-set_same p.l1s core (instruction_filled_in line (l1_of p core)) no_l1 within

  other_now : (k : ℕ) → k ≢ core → l1_of q k ≡ l1_of p k
  other_now k apart = get_or-set_other p.l1s core k (instruction_filled_in line (l1_of p core)) no_l1 apart

  copies : (k x : ℕ) → copy_of q k x ≡ copy_of p k x
  copies k x =
      elim (cases_eq k core) as (λ _. copy_of q k x ≡ copy_of p k x) [
        | inl z ↦ subst (λ (j : ℕ). copy_of q j x ≡ copy_of p j x) (sym z) (ap (λ (l1 : L1State). copy_at l1 x) own_now ∙ filled_copies line (l1_of p core) x)
        | inr z ↦ ap (λ (l1 : L1State). copy_at l1 x) (other_now k z)
      ]

  -- the line that leaves is another one
  other_victim : (w : ℕ × Unit {0}) → v ≡ Some w → w.0 ≢ line
  other_victim w is z =
      let held : has_instructions (l1_of p core) line ≡ true = subst (λ (y : ℕ). has_instructions (l1_of p core) y ≡ true) z (line_held p are core line within own fetching w is) in
      let bad : true ≡ false = sym held ∙ absent in
      cc

  row_line : row_at q.home line ≡ Some (record row { fetchers = with_core core row.fetchers })
  unfolding fetched_in
  row_line =
      row_there line (λ row. record row { fetchers = with_core core row.fetchers }) e.home row (evicted_rows v core p line (λ w is z. other_victim w is (sym z)) ∙ there)

  row_else : (x : ℕ) → x ≢ line → row_at q.home x ≡ row_at e.home x
  unfolding fetched_in
  row_else x apart = row_other line (λ row. record row { fetchers = with_core core row.fetchers }) e.home x apart

  instructions_else : (x k : ℕ) → (has_instructions (instruction_filled_in line (l1_of p core)) x ≡ has_instructions (l1_of p core) x) → has_instructions (l1_of q k) x ≡ has_instructions (l1_of p k) x
  instructions_else x k same =
      elim (cases_eq k core) as (λ _. has_instructions (l1_of q k) x ≡ has_instructions (l1_of p k) x) [
        | inl z ↦ subst (λ (j : ℕ). has_instructions (l1_of q j) x ≡ has_instructions (l1_of p j) x) (sym z) (ap (λ (l1 : L1State). has_instructions l1 x) own_now ∙ same)
        | inr z ↦ ap (λ (l1 : L1State). has_instructions l1 x) (other_now k z)
      ]

  known_core : (k : ℕ) → has_instructions (l1_of p k) line ≡ true → k < 256
  known_core k h =
      let most : length p.l1s ≤ 256 = are.cores.1 in
      elim (cases_lt k (length p.l1s)) as (λ _. k < 256) [
        | inl l ↦ omega arith
        | inr past ↦
            let bad : false ≡ true = sym (ap (λ (l1 : L1State). has_instructions l1 line) (get_or_past p.l1s k no_l1 past) ∙ nothing line) ∙ h in
            absurd cc
      ]

  at_line : FetchedAt p q line
  at_line =
      let now : row_of q.home line ≡ record row { fetchers = with_core core row.fetchers } = as_row q.home line (record row { fetchers = with_core core row.fetchers }) row_line in
      let was : row_of p.home line ≡ row = as_row p.home line row there in
      let few : core < 256 = let most : length p.l1s ≤ 256 = are.cores.1 in omega arith in
      record {
        sharers = ap (λ (r : HomeLine). r.sharers) now ∙ sym (ap (λ (r : HomeLine). r.sharers) was);
        alone = ap (λ (r : HomeLine). r.alone) now ∙ sym (ap (λ (r : HomeLine). r.alone) was);
        there = λ _. subst (λ (o : Option HomeLine). IsSome o) (sym there) refl;
        fetches = λ k. ap (λ (r : HomeLine). is_member nat_eq r.fetchers k) now
            ∙ elim (cases_eq k core) as (λ _. is_member nat_eq (with_core core row.fetchers) k ≡ has_instructions (l1_of q k) line) [
              | inl z ↦
                  subst (λ (j : ℕ). is_member nat_eq (with_core core row.fetchers) j ≡ has_instructions (l1_of q j) line) (sym z)
                  (with_own core row.fetchers few ∙ sym (ap (λ (l1 : L1State). has_instructions l1 line) own_now ∙ fetched_same p are core line within own fetching))
              | inr z ↦
                  let before : is_member nat_eq row.fetchers k ≡ has_instructions (l1_of p k) line = sym (ap (λ (r : HomeLine). is_member nat_eq r.fetchers k) was) ∙ are.fetches k line own in
                  with_other core k row.fetchers z (λ t. known_core k (sym before ∙ t)) ∙ (before ∙ sym (ap (λ (l1 : L1State). has_instructions l1 line) (other_now k z)))
            ];
      }

  -- the line that left
  some_row : (o : Option HomeLine) → IsSome o → (a : HomeLine) × (o ≡ Some a)
  some_row None h = absurd cc
  some_row (Some a) h = (a, refl)

  at_victim : (w : ℕ × Unit {0}) → v ≡ Some w → FetchedAt p q w.0
  at_victim w is =
      let apart : w.0 ≢ line = other_victim w is in
      let before = some_row (row_at p.home w.0) (line_there p are core line within own fetching w is) in
      let after : HomeLine = record before.0 { fetchers = without_core core before.0.fetchers } in
      let row_now : row_at q.home w.0 ≡ Some after
      = row_else w.0 apart ∙ (ap (λ (o : Option (ℕ × Unit {0})). row_at (own_instruction_evicted o core p).home w.0) is ∙ evicted_row w core p before.0 before.1) in
      let now : row_of q.home w.0 ≡ after = as_row q.home w.0 after row_now in
      let was : row_of p.home w.0 ≡ before.0 = as_row p.home w.0 before.0 before.1 in
      record {
        sharers = ap (λ (r : HomeLine). r.sharers) now ∙ sym (ap (λ (r : HomeLine). r.sharers) was);
        alone = ap (λ (r : HomeLine). r.alone) now ∙ sym (ap (λ (r : HomeLine). r.alone) was);
        there = λ _. line_there p are core line within own fetching w is;
        fetches = λ k. ap (λ (r : HomeLine). is_member nat_eq r.fetchers k) now
            ∙ elim (cases_eq k core) as (λ _. is_member nat_eq (without_core core before.0.fetchers) k ≡ has_instructions (l1_of q k) w.0) [
              | inl z ↦
                  subst (λ (j : ℕ). is_member nat_eq (without_core core before.0.fetchers) j ≡ has_instructions (l1_of q j) w.0) (sym z)
                  (not_own core before.0.fetchers ∙ sym (ap (λ (l1 : L1State). has_instructions l1 w.0) own_now ∙ fetched_victim p are core line within own fetching w is apart))
              | inr z ↦
                  member_without core k before.0.fetchers (λ y. z (sym y))
                  ∙ (sym (ap (λ (r : HomeLine). is_member nat_eq r.fetchers k) was)
                  ∙ (are.fetches k w.0 (line_owned p are core line within own fetching w is) ∙ sym (ap (λ (l1 : L1State). has_instructions l1 w.0) (other_now k z))))
            ];
      }

  at_else : (x : ℕ) → IsOwn p x → x ≢ line → ((w : ℕ × Unit {0}) → v ≡ Some w → x ≢ w.0) → has_instructions (instruction_filled_in line (l1_of p core)) x ≡ has_instructions (l1_of p core) x → FetchedAt p q x
  at_else x own_x apart stays same =
      let rows : row_at q.home x ≡ row_at p.home x = row_else x apart ∙ evicted_rows v core p x stays in
      let row_is : row_of q.home x ≡ row_of p.home x = ap (λ (o : Option HomeLine). unwrap_or o nobody) rows in
      record {
        sharers = ap (λ (r : HomeLine). r.sharers) row_is;
        alone = ap (λ (r : HomeLine). r.alone) row_is;
        there = λ t. subst (λ (o : Option HomeLine). IsSome o) rows t;
        fetches = λ k. ap (λ (r : HomeLine). is_member nat_eq r.fetchers k) row_is ∙ (are.fetches k x own_x ∙ sym (instructions_else x k same));
      }

  one_some : (a b : ℕ × Unit {0}) → Some a ≡ Some b → a ≡ b
  one_some a b e = cc

  at_by : (o : Option (ℕ × Unit {0})) → v ≡ o → (x : ℕ) → IsOwn p x → x ≢ line → FetchedAt p q x
  at_by None is x own_x apart =
      at_else x own_x apart (λ w k. let bad : None ≡ Some w = sym is ∙ k in absurd cc) (fetched_room p are core line within own fetching x is apart)
  at_by (Some w) is x own_x apart =
      elim (cases_eq x w.0) as (λ _. FetchedAt p q x) [
        | inl z ↦ subst (λ (y : ℕ). FetchedAt p q y) (sym z) (at_victim w is)
        | inr z ↦ at_else x own_x apart (λ u k y. let one : w ≡ u = one_some w u (sym is ∙ k) in z (y ∙ sym (ap (λ (t : ℕ × Unit {0}). t.0) one))) (fetched_other p are core line within own fetching w is x apart z)
      ]

  at : (x : ℕ) → IsOwn p x → FetchedAt p q x
  at x own_x =
      elim (cases_eq x line) as (λ _. FetchedAt p q x) [
        | inl z ↦ subst (λ (y : ℕ). FetchedAt p q y) (sym z) at_line
        | inr z ↦ at_by v refl x own_x z
      ]

  -- rows of other banks there are none
  rows_by : (o : Option (ℕ × Unit {0})) → v ≡ o → (x : ℕ) → x ≢ line → IsSome (row_at q.home x) → IsOwn p x
  rows_by None is x apart t =
      (are.lines x (subst (λ (o : Option HomeLine). IsSome o) (row_else x apart ∙ evicted_rows v core p x (λ w k. let bad : None ≡ Some w = sym is ∙ k in absurd cc)) t)).0
  rows_by (Some w) is x apart t =
      elim (cases_eq x w.0) as (λ _. IsOwn p x) [
        | inl z ↦ subst (λ (y : ℕ). IsOwn p y) (sym z) (line_owned p are core line within own fetching w is)
        | inr z ↦
            (are.lines x (subst (λ (o : Option HomeLine). IsSome o) (row_else x apart ∙ evicted_rows v core p x (λ u k y. let one : w ≡ u = one_some w u (sym is ∙ k) in z (y ∙ sym (ap (λ (t : ℕ × Unit {0}). t.0) one)))) t)).0
      ]

  own_rows : (x : ℕ) → IsSome (row_at q.home x) → IsOwn q x
  own_rows x t =
      own_in p q keeps.bank x
      (elim (cases_eq x line) as (λ _. IsOwn p x) [ inl z ↦ subst (λ (y : ℕ). IsOwn p y) (sym z) own | inr z ↦ rows_by v refl x z t ])

  fits : (x : ℕ) → IsOwn q x → LineFits q x
  fits x own_now =
      let own_x : IsOwn p x = sym (ap (λ (z : ℕ). x % z) keeps.bank.count) ∙ (own_now ∙ keeps.bank.number) in
      fetch_fits p q are keeps (evicted_marks v) copies (evicted_bytes v) x own_x (at x own_x)

  pub fetched_done : IsSound (instruction_brought core line p) → Fetched p (instruction_brought core line p)
  fetched_done sound =
      let sound_q : IsSound q = subst IsSound brought_is sound in
      subst (λ (b : Bank). Fetched p b) (sym brought_is)
      (record {
        fetched_keeps = keeps;
        fetched_parts = parts_of_lines p q are keeps sound_q.0 sound_q.1 own_rows fits;
        fetched_marks = evicted_marks v;
        fetched_newest = fetch_newest p q are keeps (evicted_marks v) copies (evicted_bytes v);
      })
