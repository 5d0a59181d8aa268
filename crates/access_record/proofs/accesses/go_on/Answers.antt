-- The next access of the core is met, and its record is taken if it makes events.
use Rattle.std.proofs.Common.{◌≡◌, ◌∙◌, true, sym, arith}
use Rattle.access_record.specs.BankLogs.{makes_events}
use Rattle.access_record.proofs.Walk.{after_hit, after_record, has_at, next_met, next_taken}
use Rattle.access_record.proofs.accesses.go_on.Goals as goal

pub meet-requires-clause-met : goal.meet-requires-clause-met
meet-requires-clause-met c = let w = c.requires.walking.5 in let h = w.as_many_met in omega (arith, c.requires.core)

pub meet-requires-clause-next : goal.meet-requires-clause-next
meet-requires-clause-next c = λ log at. (next_met c.args.begin c.args.base c.requires.walking.0 c.args.logs.now c.args.records.now c.requires.walking.1 c.requires.walking.3 c.requires.walking.2 c.args.met.now c.args.taken.now c.args.list.now.items c.requires.walking.5 c.args.core c.requires.walking.4 log at).0

pub take-requires-clause-records : goal.take-requires-clause-records
take-requires-clause-records c = let h = c.requires.records.as_many in omega (arith, c.requires.core)

pub take-requires-clause-taken : goal.take-requires-clause-taken
take-requires-clause-taken c = let w = c.requires.walking.5 in let h = c.requires.records.as_many in let k = w.as_many_taken in omega (arith, c.requires.core)

pub take-requires-clause-next : goal.take-requires-clause-next
take-requires-clause-next c = λ log at.
    let l = has_at c.args.logs.now c.args.core c.requires.core in
    let some : makes_events c.requires.walking.3.outcome ≡ true = sym (c.meet.ensures.events l.0 c.requires.walking.3 l.1 (next_met c.args.begin c.args.base c.requires.walking.0 c.args.logs.now c.args.records.now c.requires.walking.1 c.requires.walking.3 c.requires.walking.2 c.args.met.now c.args.taken.now c.args.list.now.items c.requires.walking.5 c.args.core c.requires.walking.4 l.0 l.1).1) ∙ c.if-meet.true in
    (next_taken c.args.begin c.args.base c.requires.walking.0 c.args.logs.now c.args.records.now c.requires.walking.1 c.requires.walking.3 c.requires.walking.2 c.args.met.now c.args.taken.now c.args.list.now.items c.requires.walking.5 c.args.core c.requires.walking.4 some log at).0

pub returns-in_ok-push : goal.returns-in_ok-push
returns-in_ok-push c = λ recorded first rest e same w.
    let l = has_at c.args.logs.now c.args.core c.requires.core in
    let some : makes_events e.outcome ≡ true = sym (c.meet.ensures.events l.0 e l.1 (next_met c.args.begin c.args.base recorded c.args.logs.now c.args.records.now first e rest c.args.met.now c.args.taken.now c.args.list.now.items w c.args.core same l.0 l.1).1) ∙ c.if-meet.true in
    after_record c.args.begin c.args.base recorded c.args.logs.now c.args.records.now first e rest c.args.met.now c.args.taken.now c.args.list.now.items w c.args.core same c.requires.core c.requires.records.as_many some c.meet.new.met c.take.new.taken c.take.result c.push.new.self.items c.meet.ensures.met c.take.ensures.taken
    (λ log at. let k = c.requires.records.each c.args.core l.0 log l.1 at in (c.take.ensures.entry log at, k.begin_is, k.base_is)) c.in_ok-push.ensures.items

pub returns-else-meet : goal.returns-else-meet
returns-else-meet c = λ recorded first rest e same w.
    let l = has_at c.args.logs.now c.args.core c.requires.core in
    after_hit c.args.begin c.args.base recorded c.args.logs.now c.args.records.now first e rest c.args.met.now c.args.taken.now c.args.list.now.items w c.args.core same c.requires.core (sym (c.meet.ensures.events l.0 e l.1 (next_met c.args.begin c.args.base recorded c.args.logs.now c.args.records.now first e rest c.args.met.now c.args.taken.now c.args.list.now.items w c.args.core same l.0 l.1).1) ∙ c.if-meet.false) c.meet.new.met c.meet.ensures.met
