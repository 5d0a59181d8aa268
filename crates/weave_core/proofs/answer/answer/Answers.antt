use Rattle.std.proofs.Common.{◌≡◌, true, ltb, arith}
use Rattle.std.proofs.lemmas.Bool.{lt-ltb}
use Rattle.weave_core.proofs.answer.answer.Goals as goal

pub returns-then-key-stub : goal.returns-then-key-stub
returns-then-key-stub c =
    let earlier : ltb c.in-Some-Some.key.start c.in-Some-Some.stub.start ≡ true = lt-ltb _ _ (omega arith) in
    rw (c.in-Some-Some.is-0, c.in-Some-Some.is-1, earlier) c.fire-then-key-stub.ensures
