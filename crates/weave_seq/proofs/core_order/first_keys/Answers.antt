-- The first event of one core more has its key.
use Rattle.std.proofs.Common.{subst, ◌≡◌, ◌<◌, ◌∷◌, length, arith}
use Rattle.std.proofs.lemmas.List.Sorted.{length_permutation}
use Rattle.weave_seq.proofs.CoreKeys.{AreKeysBelow, key_of, of_all_cores, none_more, some_more}
use Rattle.weave_seq.proofs.Firing.{no_event}
use Rattle.weave_seq.proofs.core_order.first_keys.Goals as goal
use Rattle.weave_seq.proofs.core_order.first_keys.Goals.{in-Some, in_default}

pub loop-number-preserved : goal.loop-number-preserved
loop-number-preserved c =
    let i = c.loop-number.invariant in
    let within : c.loop-number.number-index < length c.args.first.now = omega (arith, c.loop-number-test.true) in
    elim c.match-number.branch [
      | in-Some w ↦
          rw w.ready-is
          (record {
            keys = some_more c.args.events.now c.requires.numbered c.args.first.now c.requires.first c.loop-number.number-index within c.loop-number.ready.list i.keys w.in-Some.number w.in-Some.is no_event w.earliest_start-start.result w.earliest_start-start.ensures w.push.new.self.list w.push.ensures.list;
            few = omega (arith, i.few, length_permutation (key_of w.earliest_start-start.result w.in-Some.number ∷ c.loop-number.ready.list) w.push.new.self.list w.push.ensures.list);
            room = omega (arith, i.room, w.push.ensures.room);
          })
      | in_default w ↦
          rw w.ready-is
          (record {
            keys = none_more c.args.events.now c.requires.numbered c.args.first.now c.requires.first c.loop-number.number-index within c.loop-number.ready.list i.keys w.in_default.is;
            few = omega (arith, i.few);
            room = i.room;
          })
    ]

pub returns-clause-keys : goal.returns-clause-keys
returns-clause-keys c =
    let end : c.loop-number.number-index ≡ length c.args.first.now = omega (arith, c.loop-number-test.false, c.loop-number.auto.number-index-end) in
    of_all_cores c.args.events.now (length c.args.first.now) c.loop-number.ready.list c.requires.cores (subst (λ n. AreKeysBelow c.args.events.now n c.loop-number.ready.list) end c.loop-number.invariant.keys)
