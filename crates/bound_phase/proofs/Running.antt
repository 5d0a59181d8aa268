-- What the turns of a core come to, by the port's own list of them; and a core that has halted takes none.
use Rattle.std.proofs.Common.{◌≡◌, ◌≤◌, ◌+◌, ◌^◌, ℕ, max, nat_lt, false, List, [], ◌∷◌, ◌++◌, length, All, refl, sym, ◌∙◌, ap, subst, inl, inr, arith, rules}
use Rattle.std.specs.Prelude.{None, Option, Some, IsSome, is_none}
use Rattle.std.specs.List.{fold}
use Rattle.std.proofs.lemmas.Bool.{cases_lt}
use Rattle.std.proofs.lemmas.Option.{same_Some}
use Rattle.zs_num.specs.declared.entry.Entry.{Entry}
use Rattle.zs_num.specs.declared.request.Request.{Request}
use Rattle.elf_load.specs.MemoryImage.{MemoryImage}
use Rattle.rv_core.specs.declared.why.Why.{Why}
use Rattle.shard_table.specs.Access.{IsSeatOf, SeatState, TableState}
use Rattle.bound_core.specs.History.{AreTurnsOf, after_turn}
use Rattle.bound_core.specs.HistoryLaws.{TurnsAreTheCoresOwn}
use Rattle.bound_core.specs.TimedCore.{TimedCore, asks, next_request, ran_to}
use Rattle.bound_core.specs.NumberedCores.{NumberedCore}
use Rattle.bound_core.specs.IntervalBounds.{latest_clock, most_accesses, most_left}
use Rattle.rv_core.specs.Port.{Gains}
use Rattle.bound_core.specs.Turn.{IsOver, RunsToEnd, TurnsToEnd}
use Rattle.reference.proofs.Accesses.{latest_small}
use Rattle.bound_phase.specs.Member.{HasRun}
use Rattle.bound_phase.specs.declared.member.Member.{Member}

-- ---- a halted core

not_none : (halted : Option Why) → IsSome halted → is_none halted ≡ false
not_none None some = sym some
not_none (Some why) some = refl

pub stays : (image : MemoryImage) (end : ℕ) (c : TimedCore) → IsSome c.core.halted → ran_to image end c ≡ c
stays image end c halted = rw (not_none c.core.halted halted) refl

pub asks_nothing : (image : MemoryImage) (end : ℕ) (c : TimedCore) → IsSome c.core.halted → c.core.instruction ≡ None → asks (ran_to image end c) ≡ None
asks_nothing image end c halted idle = ap asks (stays image end c halted) ∙ ap next_request idle

pub rests : (time : Entry → ℕ) (image : MemoryImage) (end : ℕ) (t : TableState) (m : Member) → IsSome m.core.timed.core.halted → m.core.timed.core.instruction ≡ None → m.seat.entries ≡ []
    → HasRun time image end t m m
rests time image end t m halted idle new = record {
  number = refl;
  same_seat = record { table = refl; core = refl; shards = refl; cores = refl; room = refl };
  turns = subst (AreTurnsOf time image end m.core.timed) (sym new) (asks_nothing image end m.core.timed halted idle);
  left =
      sym (stays image end m.core.timed halted) ∙ ap (λ (es : List Entry). ran_to image end (fold (after_turn time image end) m.core.timed es)) (sym new);
  few = subst (λ (es : List Entry). length es ≤ t.room) (sym new) (omega arith);
  over = record { idle = idle; over = inl halted };
  starts = subst (All (λ (e : Entry). e.start ≤ end + 2 ^ 30)) (sym new) (λ k d below. absurd (omega (arith, below)));
  clock = omega arith;
}

-- ---- none of its accesses is late

none_past : (end : ℕ) (c : TimedCore) → end ≤ c.clock → c.core.instruction ≡ None → c.core.is_fetched ≡ false → most_accesses end c ≡ 0
unfolding most_accesses
none_past end c late idle unfetched = let past : nat_lt c.clock end ≡ false = search rules in rw (past, idle, unfetched) refl

-- a core that has come past the end has none
starts_soon : (end : ℕ) (c : TimedCore) (entries : List Entry) → c.core.instruction ≡ None → c.core.is_fetched ≡ false → All (λ e. e.start ≤ latest_clock end c) entries → length entries ≤ most_accesses end c
    → All (λ e. e.start ≤ end + 2 ^ 30) entries
starts_soon end c entries idle unfetched starts few = λ k d below.
    let none : most_left c.core ≡ 0 = rw (idle, unfetched) refl in
    let small : latest_clock end c ≤ max c.clock end + 2 ^ 30 = latest_small end c (omega (arith, none)) in
    elim (cases_lt c.clock end) [
      | inl early ↦ omega (arith, starts k d below, small, early)
      | inr late ↦ absurd (omega (arith, below, few, none_past end c late idle unfetched))
    ]

-- ---- a core that ran

module _ {Port : Type 0} (gives : Port → (start : ℕ) → Request → Entry → Port → Type 0) (logged : Port → Option (List Entry)) (table : Port → TableState)
    (asked : (p q : Port) (start : ℕ) (request : Request) (e : Entry) → gives p start request e q → (e.request ≡ request) × (e.start ≡ start))
    (kept : (p q : Port) (start : ℕ) (request : Request) (e : Entry) → gives p start request e q → table q ≡ table p)
    (time : Entry → ℕ) (image : MemoryImage) (end : ℕ) where
  pub same_table : (entries : List Entry) (p q : Port) (c d : TimedCore) → TurnsToEnd time image end gives entries p q c d → table q ≡ table p
  same_table [] p q c d turns = ap table turns.same
  same_table (e ∷ entries) p q c d turns = same_table entries turns.0 q turns.1.0 d turns.1.1.1 ∙ kept p turns.0 _ turns.1.1.0.request e turns.1.1.0.given

  -- the seat's list is what the turns took, and these are the core's
  pub ran : TurnsAreTheCoresOwn gives → (t : TableState) (p q : Port) (seat seat' : SeatState) (c d : NumberedCore) → logged p ≡ Some seat.entries → logged q ≡ Some seat'.entries
      → IsSeatOf t seat → IsSeatOf (table q) seat' → t ≡ table p → seat'.core ≡ seat.core → d.number ≡ c.number → seat.entries ≡ [] → length seat'.entries ≤ (table q).room
      → c.timed.core.instruction ≡ None → c.timed.core.is_fetched ≡ false → IsOver end d.timed → d.timed.clock ≤ max c.timed.clock end + 2 ^ 30
      → RunsToEnd time image end gives logged c.number p q c.timed d.timed → HasRun time image end t (record { core = c; seat = seat }) (record { core = d; seat = seat' })
  ran own t p q seat seat' c d logged_p logged_q of_t of_q table_p core_is number new few idle unfetched over clock run =
      let stays : table q ≡ t = same_table run.entries p q c.timed d.timed run.turns ∙ sym table_p in
      let after : IsSeatOf t seat' = subst (λ (x : TableState). IsSeatOf x seat') stays of_q in
      let gained : logged q ≡ Some (seat.entries ++ run.entries) = logged_more (logged p) (logged q) seat.entries run.entries logged_p run.logged in
      let list : seat'.entries ≡ run.entries = same_Some seat'.entries (seat.entries ++ run.entries) (sym logged_q ∙ gained) ∙ ap (λ (es : List Entry). es ++ run.entries) new in
      let mine = own asked_it time image end p q c.timed d.timed run.entries run.turns in
      record {
        number = number;
        same_seat = record { table = after.table ∙ sym of_t.table; core = core_is; shards = after.shards ∙ sym of_t.shards; cores = after.cores ∙ sym of_t.cores; room = after.room ∙ sym of_t.room };
        turns = subst (AreTurnsOf time image end c.timed) (sym list) mine.0;
        left = mine.1 ∙ ap (λ (es : List Entry). ran_to image end (fold (after_turn time image end) c.timed es)) (sym list);
        few = subst (λ (x : TableState). length seat'.entries ≤ x.room) stays few;
        over = over;
        starts = subst (All (λ (e : Entry). e.start ≤ end + 2 ^ 30)) (sym list) (starts_soon end c.timed run.entries idle unfetched run.starts run.few);
        clock = clock;
      }
    where
      asked_it : (p q : Port) (start : ℕ) (request : Request) (e : Entry) → gives p start request e q → (e.request ≡ request) × (e.start ≡ start)
      asked_it = asked

      logged_more : (before after : Option (List Entry)) (xs es : List Entry) → before ≡ Some xs → Gains before es after → after ≡ Some (xs ++ es)
      logged_more None after xs es is gains = absurd (let none : None ≡ Some xs = is in cc)
      logged_more (Some ys) after xs es is gains = gains ∙ ap (λ (zs : List Entry). Some (zs ++ es)) (same_Some ys xs is)
