-- The turns of a core through a port that records them.
use Rattle.std.proofs.Common.{◌≡◌, ℕ, ◌+◌, ◌*◌, ◌-◌, ◌/◌, ◌^◌, ◌<◌, ◌≤◌, max, nat_lt, Bool, false, get_or, List, [], ◌∷◌, ◌++◌, length, All, Some, None, refl, sym, ◌∙◌, ap, subst, inl, inr, arith, rules, append-nil, append_assoc}
use Rattle.std.specs.Prelude.{IsSome, slice_get, slice_set}
use Rattle.std.proofs.lemmas.Bool.{cases_lt}
use Rattle.std.proofs.lemmas.List.{length-set}
use Rattle.std.proofs.lemmas.List.Elements.{All-cons}
use Rattle.zs_num.specs.declared.entry.Entry.{Entry}
use Rattle.zs_num.specs.declared.request.Request.{Request}
use Rattle.zs_num.specs.Request.{addr_of, bank_of, line_of, width_of}
use Rattle.zs_num.specs.Servable.{IsServable}
use Rattle.elf_load.specs.MemoryImage.{MemoryImage}
use Rattle.rv_core.specs.CoreState.{CoreState}
use Rattle.machine_desc.specs.declared.machine.Machine.{Machine}
use Rattle.noc_mesh.specs.declared.net.Net.{Net}
use Rattle.noc_mesh.specs.NetTiming.{net_time}
use Rattle.access_record.specs.Records.{IsInReach}
use Rattle.bound_core.specs.TurnLaws.{AnswersAsWorld, moved}
use Rattle.bound_core.specs.Reaching.{Reaches}
use Rattle.bound_core.specs.ReferenceMachine.{BoundState}
use Rattle.bound_core.specs.ShardPort.{base_of, l1i_of, room_of, size_of}
use Rattle.bound_core.specs.ShardWorld.{ShardWorld, shards_serve}
use Rattle.bound_core.specs.TimedCore.{TimedCore, core_after_access, ran_to}
use Rattle.bound_core.specs.NumberedCores.{NumberedCore}
use Rattle.bound_core.specs.IntervalBounds.{latest_clock, most_accesses, most_left}
use Rattle.bound_core.specs.Turn.{RunsToEnd, TurnsToEnd}
use Rattle.reference.proofs.Accesses.{clock_within, latest_small}
use Rattle.reference.proofs.Instructions.{ran_later}
use Rattle.reference.proofs.Lists.{set_same}
use Rattle.reference.proofs.Reaching.{by_turns}
use Rattle.bound_records.specs.CoreRuns.{CanRunInterval, HasRecorded, HasRunToEnd, IsNear, IsNetOf, access_time_of, first_port}
use Rattle.bound_records.specs.Recorders.{GivesRecorded, RecordPortState, RecorderState, core_room}

-- ---- an access

abbrev pub world : RecordPortState → ShardWorld
world p = p.world

served_core : (w : ShardWorld) (core start : ℕ) (request : Request) → (shards_serve w core start request).0.core ≡ core
unfolding shards_serve
served_core w core start request = refl

served_stamps : (w : ShardWorld) (core start : ℕ) (request : Request) → length (shards_serve w core start request).1.stamps ≡ length w.stamps
unfolding shards_serve
served_stamps w core start request = length-set w.stamps core _

served_banks : (w : ShardWorld) (core start : ℕ) (request : Request) → length (shards_serve w core start request).1.shards ≡ length w.shards
unfolding shards_serve
served_banks w core start request = length-set w.shards (bank_of (length w.shards) request) _

-- there are as many stamps and banks as before
pub as_many_stamps : (w v : ShardWorld) (core start : ℕ) (request : Request) (e : Entry) → (e, v) ≡ shards_serve w core start request → length v.stamps ≡ length w.stamps
as_many_stamps w v core start request e given = ap (λ (answer : Entry × ShardWorld). length answer.1.stamps) given ∙ served_stamps w core start request

pub as_many_banks : (w v : ShardWorld) (core start : ℕ) (request : Request) (e : Entry) → (e, v) ≡ shards_serve w core start request → length v.shards ≡ length w.shards
as_many_banks w v core start request e given = ap (λ (answer : Entry × ShardWorld). length answer.1.shards) given ∙ served_banks w core start request

-- the entry is one of this core
pub same_core : (w v : ShardWorld) (core start : ℕ) (request : Request) (e : Entry) → (e, v) ≡ shards_serve w core start request → e.core ≡ core
same_core w v core start request e given = ap (λ (answer : Entry × ShardWorld). answer.0.core) given ∙ served_core w core start request

pub answers : AnswersAsWorld GivesRecorded world shards_serve
answers port port_after start request e g =
    g.given ∙ ap (λ (n : ℕ). shards_serve port.world n start request) (sym (same_core port.world port_after.world port.core start request e g.given))

clock_after : (time : Entry → ℕ) (e : Entry) (c : TimedCore) → (core_after_access time e c).clock ≡ c.clock + time e
unfolding core_after_access
clock_after time e c = refl

-- ---- all accesses of a core

-- what they leave of the port
pub record Went (p q : RecordPortState) (entries : List Entry) : Type 0 where
  pub kept : q ≡ record p { world = q.world; entries = p.entries ++ entries }
  pub stamps : length q.world.stamps ≡ length p.world.stamps
  pub banks : length q.world.shards ≡ length p.world.shards
  pub room : room_of p.world ≤ room_of q.world + length entries

unmoved : (p : RecordPortState) → p ≡ record p { world = p.world; entries = p.entries ++ [] }
unmoved p = ap (λ (es : List Entry). let r : RecordPortState = record p { entries = es } in r) (sym (append-nil p.entries))

pub went : (time : Entry → ℕ) (image : MemoryImage) (end : ℕ) (entries : List Entry) (p q : RecordPortState) (before after : TimedCore)
    → TurnsToEnd time image end GivesRecorded entries p q before after → Went p q entries
went time image end [] p q before after turns =
    subst (λ (x : RecordPortState). Went p x []) (sym turns.same) (record { kept = unmoved p; stamps = refl; banks = refl; room = omega arith })
went time image end (e ∷ entries) p q before after turns =
    let next : RecordPortState = turns.0 in
    let one = turns.1.1.0 in
    let g : GivesRecorded p (ran_to image end before).clock one.request e next = one.given in
    let rest : Went next q entries = went time image end entries next q turns.1.0 after turns.1.1.1 in
    record {
      kept = rest.kept
          ∙ (ap (λ (n : RecordPortState). let r : RecordPortState = record n { world = q.world; entries = n.entries ++ entries } in r) g.kept
          ∙ ap (λ (es : List Entry). let r : RecordPortState = record p { world = q.world; entries = es } in r) (append_assoc p.entries (e ∷ []) entries));
      stamps = rest.stamps ∙ as_many_stamps p.world next.world p.core (ran_to image end before).clock one.request e g.given;
      banks = rest.banks ∙ as_many_banks p.world next.world p.core (ran_to image end before).clock one.request e g.given;
      room = (let a = g.room in let b = rest.room in omega (arith, a, b));
    }

-- ---- a port in another one

-- `inner` is the port in the other one, which gives what comes of a request and keeps the entries.
module _ {Port : Type 0} (outer : Port → (start : ℕ) → Request → Entry → Port → Type 0) (inner : Port → RecordPortState)
    (given : (p q : Port) (start : ℕ) (request : Request) (e : Entry) → outer p start request e q → GivesRecorded (inner p) start request e (inner q))
    (time : Entry → ℕ) (image : MemoryImage) (end : ℕ) where
  inner_turns : (entries : List Entry) (p q : Port) (before after : TimedCore) → TurnsToEnd time image end outer entries p q before after
      → TurnsToEnd time image end GivesRecorded entries (inner p) (inner q) before after
  inner_turns [] p q before after turns = record { asked = turns.asked; left = turns.left; same = ap inner turns.same }
  inner_turns (e ∷ entries) p q before after turns =
      let next = turns.0 in
      let one = turns.1.1.0 in (
        inner next,
        (turns.1.0, (record { request = one.request; asked = one.asked; given = given p next _ one.request e one.given; left = one.left }, inner_turns entries next q turns.1.0 after turns.1.1.1)),
      )

  pub inner_run : (number : ℕ) (p q : Port) (before after : TimedCore) → RunsToEnd time image end outer (λ x. Some (inner x).entries) number p q before after
      → RunsToEnd time image end GivesRecorded (λ x. Some x.entries) number (inner p) (inner q) before after
  inner_run number p q before after run = record {
    entries = run.entries;
    turns = inner_turns run.entries p q before after run.turns;
    cores = run.cores;
    starts = run.starts;
    few = run.few;
    logged = run.logged;
  }

line_from : (base addr : ℕ) → base ≤ addr → base / 64 ≤ addr / 64
line_from base addr from = omega (arith, from)

line_to : (end addr width : ℕ) → addr + width ≤ end → addr / 64 ≤ end / 64
line_to end addr width to = omega (arith, to)

pub in_memory : (low base size : ℕ) (l1i : Bool) (request : Request) (e : Entry) → IsServable base size l1i request → e.request ≡ request → low ≤ e.start → IsNear low base size e
in_memory low base size l1i request e servable is from = record {
  from = from;
  first = subst (λ (r : Request). base / 64 ≤ line_of r) (sym is) (line_from base (addr_of request) servable.begins);
  near = subst (λ (r : Request). line_of r ≤ (base + size) / 64) (sym is) (line_to (base + size) (addr_of request) (width_of request) servable.ends);
}

module _ (time : Entry → ℕ) (image : MemoryImage) (end low base size : ℕ) where
  pub near_turns : (entries : List Entry) (p q : RecordPortState) (before after : TimedCore)
      → TurnsToEnd time image end GivesRecorded entries p q before after → low ≤ before.clock → base_of p.world ≡ base → size_of p.world ≡ size → All (IsNear low base size) entries
  near_turns [] p q before after turns begun base_is size_is = λ k d below. absurd (omega (arith, below))
  near_turns (e ∷ entries) p q before after turns begun base_is size_is =
      let next : RecordPortState = turns.0 in
      let core : TimedCore = turns.1.0 in
      let one = turns.1.1.0 in
      let ran : TimedCore = ran_to image end before in
      let g : GivesRecorded p ran.clock one.request e next = one.given in
      let later : before.clock ≤ ran.clock = ran_later image end before in
      let start : e.start ≡ ran.clock = g.start_is in
      let from : low ≤ e.start = omega (arith, later, start, begun) in
      let on : core.clock ≡ ran.clock + time e = ap (λ (c : TimedCore). c.clock) one.left ∙ clock_after time e ran in
      let there : low ≤ core.clock = omega (arith, later, begun, on) in
      let servable : IsServable base size (l1i_of p.world) one.request =
      subst (λ (s : ℕ). IsServable base s (l1i_of p.world) one.request) size_is (subst (λ (b : ℕ). IsServable b (size_of p.world) (l1i_of p.world) one.request) base_is g.asked)
      in
      All-cons (IsNear low base size) e entries (in_memory low base size (l1i_of p.world) one.request e servable g.request_is from)
      (near_turns entries next q core after turns.1.1.1 there (g.base_stays ∙ base_is) (g.size_stays ∙ size_is))

-- ---- a core that waits for nothing

none_left : (core : CoreState) → core.instruction ≡ None → core.is_fetched ≡ false → most_left core ≡ 0
none_left core idle unfetched = rw (unfetched, idle) refl

none_past : (end : ℕ) (c : TimedCore) → end ≤ c.clock → c.core.instruction ≡ None → c.core.is_fetched ≡ false → most_accesses end c ≡ 0
unfolding most_accesses
none_past end c late idle unfetched =
    let past : nat_lt c.clock end ≡ false = search rules in rw past (none_left c.core idle unfetched)

pub latest_idle : (end : ℕ) (c : TimedCore) → c.core.instruction ≡ None → c.core.is_fetched ≡ false → latest_clock end c ≤ max c.clock end + 2 ^ 30
latest_idle end c idle unfetched =
    let none : most_left c.core ≡ 0 = none_left c.core idle unfetched in
    latest_small end c (omega (arith, none))

starts_soon : (end : ℕ) (c : TimedCore) (entries : List Entry) → c.core.instruction ≡ None → c.core.is_fetched ≡ false → All (λ e. e.start ≤ latest_clock end c) entries → length entries ≤ most_accesses end c
    → All (λ e. e.start ≤ end + 2 ^ 30) entries
starts_soon end c entries idle unfetched starts few = λ k d below.
    elim (cases_lt c.clock end) [
      | inl early ↦ omega (arith, starts k d below, latest_idle end c idle unfetched, early)
      | inr late ↦ absurd (omega (arith, below, few, none_past end c late idle unfetched))
    ]

pub reached : (begin base size end : ℕ) (e : Entry) → IsNear begin base size e → e.start ≤ end + 2 ^ 30 → end ≤ begin + 10000 → size ≤ 2 ^ 28 → IsInReach begin base e
reached begin base size end e is soon short small = record {
  from = is.from;
  soon = omega (arith, soon, short);
  first = is.first;
  near = (let n = is.near in lines_within (line_of e.request) base size n small);
}
  where
    lines_within : (line base size : ℕ) → line ≤ (base + size) / 64 → size ≤ 2 ^ 28 → line < base / 64 + 2 ^ 28
    lines_within line base size to small = omega (arith, to, small)

-- the times of the expansion are those of the machine
pub same_times : (machine : Machine) (net : Net) → IsNetOf machine net → (let times : Entry → ℕ = λ e. net_time net.path e in times) ≡ access_time_of machine
same_times machine net is = ap (λ path. let times : Entry → ℕ = λ e. net_time path e in times) is

-- ---- a core in an interval

module _ (machine : Machine) (image : MemoryImage) (end : ℕ) (core : NumberedCore) (r : RecorderState) (ready : CanRunInterval machine end (base_of r.world) (size_of r.world) (l1i_of r.world) core.timed)
    (none : slice_get r.lists core.number ≡ Some []) where
  -- one that has halted does nothing
  module _ (s t : BoundState ShardWorld) (here : slice_get t.cores core.number ≡ Some core.timed) (same : t.world ≡ r.world) where
    not_moved : t ≡ moved t core.number core.timed r.world []
    not_moved =
        ap (λ (cores : List TimedCore). let u : BoundState ShardWorld = record { cores = cores; world = t.world; entries = t.entries } in u) (sym (set_same t.cores core.number core.timed here))
        ∙ ap (λ (w : ShardWorld). let u : BoundState ShardWorld = record { cores = slice_set t.cores core.number core.timed; world = w; entries = t.entries } in u) same
        ∙ ap (λ (entries : List Entry). let u : BoundState ShardWorld = record { cores = slice_set t.cores core.number core.timed; world = r.world; entries = entries } in u) (sym (append-nil t.entries))

    still : (numbers : List ℕ) → Reaches shards_serve (access_time_of machine) image end s numbers t
        → Reaches shards_serve (access_time_of machine) image end s (numbers ++ []) (moved t core.number core.timed r.world [])
    still numbers reaches =
        subst (λ (u : BoundState ShardWorld). Reaches shards_serve (access_time_of machine) image end s (numbers ++ []) u) not_moved
        (subst (λ (ns : List ℕ). Reaches shards_serve (access_time_of machine) image end s ns t) (sym (append-nil numbers)) reaches)

  pub halted_stays : IsSome core.timed.core.halted → HasRecorded machine image end core core r r
  halted_stays halted = record {
    entries = [];
    world = r.world;
    run = record {
      leads = λ s t numbers reaches here same. still s t here same numbers reaches;
      own = λ k d below. absurd (omega (arith, below));
      starts = λ k d below. absurd (omega (arith, below));
      reach = λ k d below. absurd (omega (arith, below));
      few = omega arith;
      over = record { idle = ready.idle; over = inl halted };
      clock = (let before = ready.clock in omega (arith, before));
      number = refl;
      base_stays = refl;
      size_stays = refl;
      l1i_stays = refl;
      stamps = refl;
      banks = refl;
      room = omega arith;
    };
    kept = ap (λ (lists : List (List Entry)). let x : RecorderState = record r { lists = lists } in x) (sym (set_same r.lists core.number [] none));
  }

  pub ran_to_end : end ≤ 10 * 2 ^ 30 → machine.interval ≤ 10000 → r.begin ≡ end - machine.interval → base_of r.world ≡ r.base → size_of r.world ≤ 2 ^ 28 → core.timed.core.halted ≡ None
      → (after : NumberedCore) (r_after : RecorderState) → HasRunToEnd (access_time_of machine) image end core after r r_after → HasRecorded machine image end core after r r_after
  ran_to_end small short begins base_is size_small running after r_after h =
      let ran = h.ran in
      let left : end - core.timed.clock ≤ machine.interval = ready.left running in
      let begun : r.begin ≤ core.timed.clock = omega (arith, begins, left) in
      let length_of : end ≤ r.begin + 10000 = omega (arith, begins, short) in
      let way : Went (first_port r core.number) h.last ran.entries = went (access_time_of machine) image end ran.entries (first_port r core.number) h.last core.timed after.timed ran.turns in
      let gained : h.last.entries ≡ ran.entries = ap (λ (p : RecordPortState). p.entries) way.kept in
      let soon : All (λ e. e.start ≤ end + 2 ^ 30) ran.entries = starts_soon end core.timed ran.entries ready.idle ready.unfetched ran.starts ran.few in
      let near : All (IsNear r.begin r.base (size_of r.world)) ran.entries =
      near_turns (access_time_of machine) image end r.begin r.base (size_of r.world) ran.entries (first_port r core.number) h.last core.timed after.timed ran.turns begun base_is refl
      in
      let most = h.few in
      let few : length ran.entries ≤ core_room machine = (let n = ran.few in omega (arith, n, most, left)) in
      record {
        entries = ran.entries;
        world = h.last.world;
        run = record {
          leads = λ s t numbers reaches here same.
              by_turns GivesRecorded world shards_serve (access_time_of machine) image end s t numbers (first_port r core.number) h.last core.timed after.timed reaches answers core.number ran.entries here same ran.cores ran.turns;
          own = ran.cores;
          starts = λ k d below. (let s = soon k d below in omega (arith, s, small));
          reach = λ k d below. reached r.begin r.base (size_of r.world) end (get_or ran.entries k d) (near k d below) (soon k d below) length_of size_small;
          few = few;
          over = h.over;
          clock = omega (arith, clock_within end after.timed, h.latest, latest_idle end core.timed ready.idle ready.unfetched, ready.clock, small);
          number = h.number;
          base_stays = h.base_stays;
          size_stays = h.size_stays;
          l1i_stays = h.l1i_stays;
          stamps = way.stamps;
          banks = way.banks;
          room = (let w = way.room in omega (arith, w, few));
        };
        kept = h.kept ∙ ap (λ (es : List Entry). let x : RecorderState = record r { world = h.last.world; lists = slice_set r.lists core.number es } in x) gained;
      }

-- the room on its console does not matter
other_room : (time : Entry → ℕ) (image : MemoryImage) (end : ℕ) (core other after : NumberedCore) (r q : RecorderState) → other.timed ≡ core.timed → other.number ≡ core.number
    → HasRunToEnd time image end other after r q → HasRunToEnd time image end core after r q
other_room time image end core other after r q timed number h =
    let At : (n : ℕ) (t : TimedCore) → Type 0 = λ n t. HasRunToEnd time image end (record { number = n; timed = t; spare = core.spare }) after r q in
    let first : At other.number other.timed = record {
      last = h.last;
      ran = h.ran;
      over = h.over;
      few = h.few;
      latest = h.latest;
      number = h.number;
      base_stays = h.base_stays;
      size_stays = h.size_stays;
      l1i_stays = h.l1i_stays;
      kept = h.kept;
    } in
    subst (λ (t : TimedCore). At core.number t) timed (subst (λ (n : ℕ). At n other.timed) number first)

pub reserved_runs : (machine : Machine) (net : Net) (image : MemoryImage) (end : ℕ) (core reserved after : NumberedCore) (r q : RecorderState) → IsNetOf machine net → reserved.timed ≡ core.timed → reserved.number ≡ core.number
    → (let times : Entry → ℕ = λ e. net_time net.path e in HasRunToEnd times image end reserved after r q) → HasRunToEnd (access_time_of machine) image end core after r q
reserved_runs machine net image end core reserved after r q is timed number h =
    other_room (access_time_of machine) image end core reserved after r q timed number
    (subst (λ (times : Entry → ℕ). HasRunToEnd times image end reserved after r q) (same_times machine net is) h)
