use Rattle.std.proofs.Common.{rules, ◌≡◌, ℕ, ◌<◌, List, [], ◌∷◌, ◌++◌, length, refl, sym, ◌∙◌, ap, subst, arith}
use Rattle.zs_num.specs.declared.entry.Entry.{Entry}
use Rattle.access_log.specs.Logs.{LogState}
use Rattle.shard.specs.Served.{ShardState, shard_after}
use Rattle.shard_table.specs.declared.view.View.{View}
use Rattle.shard_table.specs.declared.view.CoreAccesses.{CoreAccesses}
use Rattle.shard_table.specs.declared.view.ShardAccesses.{ShardAccesses}
use Rattle.shard_table.specs.Seats.{IsSeat}
use Rattle.shard_table.specs.Views.{given, holding}
use Rattle.shard_table.specs.Access.{IsAccess, IsSameSeat, IsSeatOf, SeatState}
use Rattle.shard_table.specs.Lives.{MayAsk}
use Rattle.shard_table.specs.Steps.{IsEntryOf, IsTakenShard}
use Rattle.shard_table.proofs.Holding.{accessed, can, entered, same, sound_after, stamp_low}
use Rattle.shard_table.proofs.table.ShardTable.try_access.Goals as goal

pub serve-entry-requires-clause-hand : goal.serve-entry-requires-clause-hand
serve-entry-requires-clause-hand c =
    let t = c.take-found.ensures.taken.0 c.if-found-ne0.false in
    let ok = can c.seat.inside.place.table_id c.seat.inside.place.me.0 c.seat.inside.place.me.1 c.seat.inside.log c.seat.inside.last c.seat.inside.core c.seat.invariant c.args.self.now
    (subst (IsSeatOf c.args.self.now) (sym c.seat.view_is) c.requires.table) c.bank-bank.result c.args.start c.args.request c.bank-bank.ensures.bank (subst (λ (x : SeatState). MayAsk c.args.self.now.shards x.core c.args.request) (sym c.seat.view_is) c.requires.ask) t.0 t.1 t.3 c.cores_stay.ensures c.still_serves.ensures in
    (t.0, ap (λ m. m.1) t.2, ok.0, ok.1, ok.2)

pub serve-entry-requires-clause-stamp : goal.serve-entry-requires-clause-stamp
serve-entry-requires-clause-stamp c =
    let t = c.take-found.ensures.taken.0 c.if-found-ne0.false in
    stamp_low c.seat.inside.place.table_id c.seat.inside.place.me.0 c.seat.inside.place.me.1 c.seat.inside.log c.seat.inside.last c.seat.inside.core c.seat.invariant c.args.self.now
    (subst (IsSeatOf c.args.self.now) (sym c.seat.view_is) c.requires.table) c.bank-bank.result c.args.start c.args.request c.bank-bank.ensures.bank (subst (λ (x : SeatState). MayAsk c.args.self.now.shards x.core c.args.request) (sym c.seat.view_is) c.requires.ask) t.0 t.1 t.3

pub give-requires-clause-named : goal.give-requires-clause-named
give-requires-clause-named c = search rules

pub give-requires-clause-ends : goal.give-requires-clause-ends
give-requires-clause-ends c =
    let v = c.seat.inside.place.me.0 in
    let n : ℕ = c.bank-bank.result in
    let t = c.take-found.ensures.taken.0 c.if-found-ne0.false in
    let e : Entry = c.serve-entry.result in
    let did = c.serve-entry.ensures.served t.0 (ap (λ m. m.1) t.2) in
    let knows : c.serve-entry.new.place.me.0 ≡ holding v n t.1 = ap (λ m. m.0) did.1 ∙ ap (λ m. m.0) t.2 in
    let is = entered c.seat.inside.place.table_id v c.seat.inside.place.me.1 c.seat.inside.log c.seat.inside.last c.seat.inside.core c.seat.invariant c.args.self.now
    (subst (IsSeatOf c.args.self.now) (sym c.seat.view_is) c.requires.table) n c.args.start c.args.request c.bank-bank.ensures.bank (subst (λ (x : SeatState). MayAsk c.args.self.now.shards x.core c.args.request) (sym c.seat.view_is) c.requires.ask) t.0 t.1 t.3 e did.0 (subst (λ (x : SeatState). length x.entries < c.args.self.now.room) (sym c.seat.view_is) c.requires.room) in (
      record { core = c.seat.inside.core; list = c.seat.inside.log.entries },
      record { shard = n; list = t.1 },
      shard_after t.0 e,
      ap (λ (w : View). w.parts) knows ∙ c.seat.invariant.parts,
      ap (λ (w : View). w.hold) knows,
      refl,
      ap (λ m. m.1) did.1,
      subst (λ (w : View). IsEntryOf w n (record { core = c.seat.inside.core; list = c.seat.inside.log.entries }) (record { shard = n; list = t.1 }) e (shard_after t.0 e)) (sym knows) is,
    )

-- the seat when the shard was given back
gave : (c : goal.After-seat-1) → (t : (shard : ShardState) × (list : List Entry) × (c.take-found.new.place.me ≡ (holding c.seat.inside.place.me.0 c.bank-bank.result list, (c.bank-bank.result, shard) ∷ [])) × IsTakenShard c.seat.inside.place.me.0 c.bank-bank.result shard list)
    → c.give.new.place.me ≡ (given (holding c.seat.inside.place.me.0 c.bank-bank.result t.1) (record { core = c.seat.inside.core; list = c.seat.inside.log.entries }) (record { shard = c.bank-bank.result; list = t.1 }) c.serve-entry.result, [])
gave c t =
    let v = c.seat.inside.place.me.0 in
    let n : ℕ = c.bank-bank.result in
    let e : Entry = c.serve-entry.result in
    let did = c.serve-entry.ensures.served t.0 (ap (λ m. m.1) t.2) in
    let knows : c.serve-entry.new.place.me.0 ≡ holding v n t.1 = ap (λ m. m.0) did.1 ∙ ap (λ m. m.0) t.2 in
    let part : CoreAccesses = record { core = c.seat.inside.core; list = c.seat.inside.log.entries } in
    let served : ShardAccesses = record { shard = n; list = t.1 } in
    c.give.ensures.gave (shard_after t.0 e) served part (ap (λ m. m.1) did.1) (ap (λ (w : View). w.hold) knows) (ap (λ (w : View). w.parts) knows ∙ c.seat.invariant.parts)
    ∙ ap (λ (w : View). (given w part served e, [])) knows

-- what the seat is seen as at the end
abbrev before_left : goal.After-seat-1 → SeatState
before_left c = record { table = c.seat.inside.place.table_id; core = c.seat.inside.core; entries = c.seat.inside.log.entries ++ c.serve-entry.result ∷ []; knows = c.give.new.place.me.0 }

left : (c : goal.After-seat-1) → before_left c ≡ record { table = c.give.new.place.table_id; core = c.seat.inside.core; entries = c.push.new.self.entries; knows = c.give.new.place.me.0 }
left c =
    let table = sym (c.give.ensures.table.0 ∙ (c.serve-entry.ensures.table.0 ∙ c.take-found.ensures.table.0)) in
    let entries = sym (ap (λ (l : LogState). l.entries) c.push.ensures) in
    λ i. record { table = table i; core = c.seat.inside.core; entries = entries i; knows = c.give.new.place.me.0 }

pub invariant_of-seat-2 : goal.invariant_of-seat-2
invariant_of-seat-2 c =
    let t = c.take-found.ensures.taken.0 c.if-found-ne0.false in
    subst (λ (l : LogState). IsSeat c.give.new.place.me l c.serve-entry.result.stamp c.seat.inside.core) (sym c.push.ensures)
    (sound_after c.seat.inside.place.table_id c.seat.inside.place.me.0 c.seat.inside.place.me.1 c.seat.inside.log c.seat.inside.last c.seat.inside.core c.seat.invariant c.args.self.now
    (subst (IsSeatOf c.args.self.now) (sym c.seat.view_is) c.requires.table) c.bank-bank.result c.args.start c.args.request c.bank-bank.ensures.bank (subst (λ (x : SeatState). MayAsk c.args.self.now.shards x.core c.args.request) (sym c.seat.view_is) c.requires.ask) t.0 t.1 t.3 c.serve-entry.result (c.serve-entry.ensures.served t.0 (ap (λ m. m.1) t.2)).0 (subst (λ (x : SeatState). length x.entries < c.args.self.now.room) (sym c.seat.view_is) c.requires.room) c.give.new.place.me (gave c t))

pub returns-clause-same : goal.returns-clause-same
returns-clause-same c =
    let t = c.take-found.ensures.taken.0 c.if-found-ne0.false in
    let it = same c.seat.inside.place.table_id c.seat.inside.place.me.0 c.seat.inside.place.me.1 c.seat.inside.log c.seat.inside.last c.seat.inside.core c.seat.invariant c.args.self.now
    (subst (IsSeatOf c.args.self.now) (sym c.seat.view_is) c.requires.table) c.bank-bank.result c.args.start c.args.request c.bank-bank.ensures.bank (subst (λ (x : SeatState). MayAsk c.args.self.now.shards x.core c.args.request) (sym c.seat.view_is) c.requires.ask) t.0 t.1 t.3 c.serve-entry.result (c.serve-entry.ensures.served t.0 (ap (λ m. m.1) t.2)).0 (subst (λ (x : SeatState). length x.entries < c.args.self.now.room) (sym c.seat.view_is) c.requires.room) c.give.new.place.me (gave c t) in
    subst (λ (x : SeatState). IsSameSeat c.args.seat.now x) (left c) (subst (λ (x : SeatState). IsSameSeat x (before_left c)) c.seat.view_is it)

pub returns-clause-access : goal.returns-clause-access
returns-clause-access c =
    let t = c.take-found.ensures.taken.0 c.if-found-ne0.false in
    let it = accessed c.seat.inside.place.table_id c.seat.inside.place.me.0 c.seat.inside.place.me.1 c.seat.inside.log c.seat.inside.last c.seat.inside.core c.seat.invariant c.args.self.now
    (subst (IsSeatOf c.args.self.now) (sym c.seat.view_is) c.requires.table) c.bank-bank.result c.args.start c.args.request c.bank-bank.ensures.bank (subst (λ (x : SeatState). MayAsk c.args.self.now.shards x.core c.args.request) (sym c.seat.view_is) c.requires.ask) t.0 t.1 t.3 c.serve-entry.result (c.serve-entry.ensures.served t.0 (ap (λ m. m.1) t.2)).0 (subst (λ (x : SeatState). length x.entries < c.args.self.now.room) (sym c.seat.view_is) c.requires.room) c.give.new.place.me (gave c t) in
    subst (λ (x : SeatState). IsAccess c.args.seat.now x c.args.start c.args.request c.serve-entry.result) (left c)
    (subst (λ (x : SeatState). IsAccess x (before_left c) c.args.start c.args.request c.serve-entry.result) c.seat.view_is it)

pub returns-clause-found : goal.returns-clause-found
returns-clause-found c =
    let t = c.take-found.ensures.taken.0 c.if-found-ne0.false in
    ap (λ m. m.0.found) (gave c t) ∙ ap (λ (x : SeatState). x.knows.found) c.seat.view_is

pub returns-then-found-ne0-clause-held : goal.returns-then-found-ne0-clause-held
returns-then-found-ne0-clause-held c =
    let refused = c.take-found.ensures.taken.1 c.if-found-ne0.true in
    let word = ap (λ m. m.0.found.word) refused.0 in
    rw (← c.seat.view_is) (record {
      entries = refl;
      notes = search rules;
      other = λ same. refused.1 (omega (arith, same, c.if-found-ne0.true));
      known = omega (arith, refused.2, c.if-found-ne0.true);
      shard = search rules;
      word = omega (arith, word, c.if-found-ne0.true);
      count = search rules;
    })
