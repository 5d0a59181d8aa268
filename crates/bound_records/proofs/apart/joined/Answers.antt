use Rattle.std.proofs.Common.{All, ◌≡◌, ◌++◌, ◌∷◌, [], List, length, map, reverse, refl, sym, ap, subst, arith}
use Rattle.std.proofs.lemmas.List.{length-append}
use Rattle.std.proofs.lemmas.List.Elements.{All-push}
use Rattle.access_record.specs.BankLogs.{BankLogState}
use Rattle.access_record.specs.RecordLogs.{RecordLogState}
use Rattle.stats.specs.Counted.{no_core_count}
use Rattle.bound_records.specs.declared.record_port.CoreRecord.{CoreRecord}
use Rattle.bound_records.proofs.TakenApart.{one_joined}
use Rattle.bound_records.proofs.apart.joined.Goals as goal

pub loop-log-preserved : goal.loop-log-preserved
loop-log-preserved c =
    let before = c.loop-log.invariant in
    let logs : List BankLogState = c.loop-log.logs.items in
    let records : List RecordLogState = c.loop-log.records.items in
    let kept : List CoreRecord = c.loop-log.kept.items in
    let k : CoreRecord = record { log = c.in-Some.log; records = c.in-Some-pop.records; count = no_core_count } in
    let pushed : c.push_reserved.new.self.items ≡ kept ++ k ∷ [] = c.push_reserved.ensures.items in
    let one : logs ≡ c.pop.new.self.items ++ c.in-Some.log ∷ [] = c.in-Some.ensures.items in
    let two : records ≡ c.pop-in-Some.new.self.items ++ c.in-Some-pop.records ∷ [] = c.in-Some-pop.ensures.items in
    let a = ap length one in
    let b = ap length two in
    let d = length-append c.pop.new.self.items (c.in-Some.log ∷ []) in
    let e = length-append c.pop-in-Some.new.self.items (c.in-Some-pop.records ∷ []) in
    let f = ap length pushed in
    let g = length-append kept (k ∷ []) in
    let same = before.same in
    let room = before.room in
    record {
      logs = subst (λ (ks : List CoreRecord). c.pop.new.self.items ++ map (λ k. k.log) (reverse ks) ≡ c.args.logs.items) (sym pushed)
          (one_joined (λ (k : CoreRecord). k.log) logs c.pop.new.self.items c.args.logs.items kept c.in-Some.log k before.logs one refl);
      records = subst (λ (ks : List CoreRecord). c.pop-in-Some.new.self.items ++ map (λ k. k.records) (reverse ks) ≡ c.args.records.items) (sym pushed)
          (one_joined (λ (k : CoreRecord). k.records) records c.pop-in-Some.new.self.items c.args.records.items kept c.in-Some-pop.records k before.records two refl);
      same = omega (arith, a, b, d, e, same);
      room = omega (arith, a, d, f, g, room, c.push_reserved.ensures.capacity);
      counts = subst (All (λ (k : CoreRecord). k.count ≡ no_core_count)) (sym pushed) (All-push (λ (k : CoreRecord). k.count ≡ no_core_count) kept k before.counts refl);
    }
