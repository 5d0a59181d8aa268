use Rattle.std.proofs.Common.{◌≡◌, ◌++◌, ◌∷◌, [], List, length, map, reverse, sym, ap, subst, arith}
use Rattle.std.proofs.lemmas.List.{length-append}
use Rattle.access_record.specs.BankLogs.{BankLogState}
use Rattle.access_record.specs.RecordLogs.{RecordLogState}
use Rattle.stats.specs.declared.counts.CoreCount.{CoreCount}
use Rattle.bound_records.specs.declared.record_port.CoreRecord.{CoreRecord}
use Rattle.bound_records.proofs.TakenApart.{one_split}
use Rattle.bound_records.proofs.apart.Split.fill.Goals as goal

pub loop-record-preserved : goal.loop-record-preserved
loop-record-preserved c =
    let before = c.loop-record.invariant in
    let k : CoreRecord = c.in-Some.record in
    let kept : List CoreRecord = c.loop-record.kept.items in
    let left : List CoreRecord = c.pop.new.self.items in
    let one : kept ≡ left ++ k ∷ [] = c.in-Some.ensures.items in
    let all : List CoreRecord = c.args.kept.items in
    let a = ap length one in
    let b = length-append left (k ∷ []) in
    let room = before.room in
    let records_room = before.records_room in
    let counts_room = before.counts_room in
    let logs = c.push_reserved.ensures.items in
    let records = c.push_reserved-in-Some.ensures.items in
    let counts = c.push_reserved-in-Some-2.ensures.items in
    record {
      logs = subst (λ (ys : List BankLogState). map (λ k. k.log) left ++ reverse ys ≡ map (λ k. k.log) all) (sym logs)
          (one_split (λ (k : CoreRecord). k.log) kept left (map (λ k. k.log) all) c.loop-record.self.logs.items k before.logs one);
      records = subst (λ (ys : List RecordLogState). map (λ k. k.records) left ++ reverse ys ≡ map (λ k. k.records) all) (sym records)
          (one_split (λ (k : CoreRecord). k.records) kept left (map (λ k. k.records) all) c.loop-record.self.records.items k before.records one);
      counts = subst (λ (ys : List CoreCount). map (λ k. k.count) left ++ reverse ys ≡ map (λ k. k.count) all) (sym counts)
          (one_split (λ (k : CoreRecord). k.count) kept left (map (λ k. k.count) all) c.loop-record.self.counts.items k before.counts one);
      room = (let e = ap length logs in let f = length-append c.loop-record.self.logs.items (k.log ∷ []) in omega (arith, a, b, e, f, room, c.push_reserved.ensures.capacity));
      records_room = (let e = ap length records in let f = length-append c.loop-record.self.records.items (k.records ∷ []) in omega (arith, a, b, e, f, records_room, c.push_reserved-in-Some.ensures.capacity));
      counts_room = (let e = ap length counts in let f = length-append c.loop-record.self.counts.items (k.count ∷ []) in omega (arith, a, b, e, f, counts_room, c.push_reserved-in-Some-2.ensures.capacity));
    }
