-- An access through the table: what is known of the shard when it was taken, and of the seat when it was given back.
use Rattle.std.proofs.Common.{◌≡◌, ℕ, ◌+◌, ◌*◌, ◌-◌, ◌^◌, ◌<◌, ◌≤◌, max, List, [], ◌∷◌, ◌++◌, length, All, refl, sym, ◌∙◌, ap, subst, arith, mul-le-mul}
use Rattle.std.specs.Prelude.{slice_get, Some}
use Rattle.std.specs.List.{fold}
use Rattle.std.proofs.lemmas.List.{length-append}
use Rattle.atomic_table.specs.Seated.{TableId}
use Rattle.atomic_table.specs.Table.{Me}
use Rattle.zs_num.specs.declared.entry.Entry.{Entry}
use Rattle.zs_num.specs.declared.request.Request.{Request}
use Rattle.zs_num.specs.Request.{bank_of}
use Rattle.access_log.specs.History.{bank_of_entry, latest_of, of_bank}
use Rattle.access_log.specs.Logs.{LogState}
use Rattle.shard.specs.Laws.{CoresStay, StillServes}
use Rattle.shard.specs.Served.{CanServe, KnowsCore, IsServedBy, ShardState, met_by, shard_after, shard_reply}
use Rattle.shard_table.specs.declared.view.View.{View}
use Rattle.shard_table.specs.declared.view.CoreAccesses.{CoreAccesses}
use Rattle.shard_table.specs.declared.view.ShardAccesses.{ShardAccesses}
use Rattle.shard_table.specs.Access.{IsAccess, IsAccessOf, IsSameSeat, IsSeatOf, SeatState, TableState}
use Rattle.shard_table.specs.Lives.{IsPrefix, MayAsk, after_all}
use Rattle.shard_table.specs.Seats.{IsSeat}
use Rattle.shard_table.specs.Steps.{IsEntryOf, IsTakenShard}
use Rattle.shard_table.specs.Views.{given, holding}
use Rattle.shard_table.proofs.Ends.{cores_stay, still_serves}

-- the stamp of the last of some entries
latest_last : (entries : List Entry) (start : ℕ) (e : Entry) → fold (λ (stamp : ℕ) (x : Entry). x.stamp) start (entries ++ e ∷ []) ≡ e.stamp
latest_last [] start e = refl
latest_last (x ∷ entries) start e = latest_last entries x.stamp e

few_stamps : (cores room : ℕ) → cores < 2 ^ 16 → room < 2 ^ 32 → cores * room < 2 ^ 62 - 1
few_stamps cores room few small =
    let one : cores ≤ 2 ^ 16 = omega (arith, few) in
    let two : room ≤ 2 ^ 32 = omega (arith, small) in
    let most : cores * room ≤ 2 ^ 16 * 2 ^ 32 = mul-le-mul one two in
    omega (arith, most)

module _ (table : TableId) (v : View) (held : List (ℕ × ShardState)) (log : LogState) (last core : ℕ) (seat : IsSeat (v, held) log last core) (t : TableState) where
  abbrev it : SeatState
  it = record { table = table; core = core; entries = log.entries; knows = v }

  module _ (of_it : IsSeatOf t it) (number start : ℕ) (request : Request) (is : number ≡ bank_of (length t.shards) request) (ask : MayAsk t.shards core request) (shard : ShardState) (list : List Entry)
      (ready : IsTakenShard v number shard list) where
    first : ShardState
    first = ask.0

    abbrev part : CoreAccesses
    part = record { core = core; list = log.entries }

    abbrev served : ShardAccesses
    served = record { shard = number; list = list }

    there : slice_get v.shards number ≡ Some ask.0
    there = subst (λ (xs : List ShardState). slice_get xs number ≡ Some ask.0) (sym of_it.shards) (ap (slice_get t.shards) is ∙ ask.1)

    lives : shard ≡ after_all ask.0 list
    lives = (ready.lives ask.0 there).0

    few : v.cores * v.room < 2 ^ 62 - 1
    few = few_stamps v.cores v.room seat.few_cores seat.small_room

    pub can : CoresStay → StillServes → KnowsCore shard core × CanServe shard request × (shard.last < 2 ^ 62 - 1)
    can cores serves = (
      subst (λ (x : ShardState). KnowsCore x core) (sym lives) (cores_stay cores ask.0 list core ask.2),
      subst (λ (x : ShardState). CanServe x request) (sym lives) (still_serves serves ask.0 list request ask.3),
      (let low = ready.low in let is = ready.last in let most = few in omega (arith, low, is, most)),
    )

    pub stamp_low : last < 2 ^ 62 - 1
    stamp_low = let low = ready.own_low part seat.parts in let is = seat.last_is in let most = few in omega (arith, low, is, most)

    module _ (e : Entry) (did : IsServedBy shard core start last request e) where
      bank_is : bank_of_entry (length v.shards) e ≡ number
      bank_is = ap (λ (xs : List ShardState). bank_of_entry (length xs) e) of_it.shards ∙ (ap (bank_of (length t.shards)) did.request_is ∙ sym is)

      stamp_is : e.stamp ≡ max (latest_of list) (latest_of log.entries) + 1
      stamp_is = did.stamp ∙ ap (λ (p : ℕ × ℕ). max p.0 p.1 + 1) (λ i. (ready.last i, seat.last_is i))

      asked : MayAsk v.shards e.core e.request
      asked =
          subst (λ (xs : List ShardState). MayAsk xs e.core e.request) (sym of_it.shards)
          (subst (λ (n : ℕ). MayAsk t.shards n e.request) (sym did.core_is) (subst (MayAsk t.shards core) (sym did.request_is) ask))

      pub entered : length log.entries < t.room → IsEntryOf (holding v number list) number part served e (shard_after shard e)
      entered room = record {
        core = did.core_is;
        bank = bank_is;
        asked = asked;
        stamp = stamp_is;
        served = λ x at.
            let is : shard ≡ after_all x list = (ready.lives x at).0 in (
              did.reply ∙ ap (λ (y : ShardState). shard_reply y e) is,
              did.outcome ∙ ap (λ (y : ShardState). met_by y e) is,
              ap (λ (y : ShardState). shard_after y e) is,
            );
        room = subst (λ (n : ℕ). length log.entries < n) (sym of_it.room) room;
      }

      module _ (room : length log.entries < t.room) (me : Me ShardState View) (gave : me ≡ (given (holding v number list) part served e, [])) where
        abbrev log' : LogState
        log' = record log { entries = log.entries ++ e ∷ [] }

        pub sound_after : IsSeat me log' e.stamp core
        sound_after = subst (λ (m : Me ShardState View). IsSeat m log' e.stamp core) (sym gave) (record {
          slots = refl;
          hold = refl;
          parts = refl;
          last_is = sym (latest_last log.entries 0 e);
          room = seat.room;
          within = (let size = length-append log.entries (e ∷ []) in let is = seat.room in let t_is = of_it.room in omega (arith, size, is, t_is, room));
          core_is = seat.core_is;
          few_cores = seat.few_cores;
          small_room = seat.small_room;
        })

        abbrev after_it : SeatState
        after_it = record { table = table; core = core; entries = log.entries ++ e ∷ []; knows = me.0 }

        pub same : IsSameSeat it after_it
        same = subst (λ (m : Me ShardState View). IsSameSeat it (record { table = table; core = core; entries = log.entries ++ e ∷ []; knows = m.0 })) (sym gave)
            (record { table = refl; core = refl; shards = refl; cores = refl; room = refl })

        bank : number ≡ bank_of (length v.shards) request
        bank = is ∙ ap (λ (xs : List ShardState). bank_of (length xs) request) (sym of_it.shards)

        pub accessed : IsAccess it after_it start request e
        accessed = subst (λ (m : Me ShardState View). IsAccess it (record { table = table; core = core; entries = log.entries ++ e ∷ []; knows = m.0 }) start request e) (sym gave) (record {
          entries = refl;
          core_is = did.core_is;
          start_is = did.start_is;
          request_is = did.request_is;
          earlier = list;
          noted = ap (λ (k : ℕ). v.notes ++ record { shard = k; list = list ++ e ∷ [] } ∷ []) bank;
          stamp = stamp_is;
          served = λ x at.
              let here : slice_get v.shards number ≡ Some x = ap (slice_get v.shards) bank ∙ at in
              let lived = ready.lives x here in (
                lived.1,
                did.reply ∙ ap (λ (y : ShardState). shard_reply y e) lived.0,
                did.outcome ∙ ap (λ (y : ShardState). met_by y e) lived.0,
              );
          own = ready.own part seat.parts ∙ ap (λ (n : ℕ). of_bank (length v.shards) n log.entries) bank;
          seen = subst (λ (k : ℕ). All (λ note. note.shard ≡ k → IsPrefix note.list list) v.notes) bank ready.seen;
        })

-- an access after tries in vain
pub after_tries : (s m later : SeatState) (start : ℕ) (request : Request) (e : Entry) → IsSameSeat s m → m.entries ≡ s.entries → m.knows.notes ≡ s.knows.notes → IsAccess m later start request e → IsAccess s later start request e
after_tries s m later start request e same entries notes access =
    subst (λ (n : ℕ). IsAccessOf n s.knows.shards s.entries s.knows.notes later start request e) same.core
    (subst (λ (xs : List ShardState). IsAccessOf m.core xs s.entries s.knows.notes later start request e) same.shards
    (subst (λ (es : List Entry). IsAccessOf m.core m.knows.shards es s.knows.notes later start request e) entries
    (subst (λ (ns : List ShardAccesses). IsAccessOf m.core m.knows.shards m.entries ns later start request e) notes access)))

pub same_twice : (s m later : SeatState) → IsSameSeat s m → IsSameSeat m later → IsSameSeat s later
same_twice s m later one two = record {
  table = two.table ∙ one.table;
  core = two.core ∙ one.core;
  shards = two.shards ∙ one.shards;
  cores = two.cores ∙ one.cores;
  room = two.room ∙ one.room;
}
