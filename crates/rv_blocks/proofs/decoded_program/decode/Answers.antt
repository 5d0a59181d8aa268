use Rattle.std.proofs.Common.{All, arith, subst, sym}
use Rattle.std.proofs.lemmas.List.Elements.{All-push}
use Rattle.rv_blocks.specs.Decoded.{IsDecodedWord}
use Rattle.rv_blocks.proofs.decoded_program.decode.Goals as goal

pub loop-preserved : goal.loop-preserved
loop-preserved c =
    let before = c.loop.invariant in
    record {
      decoded = subst (All (IsDecodedWord c.args.image.now)) (sym c.push_reserved.ensures.items)
          (All-push (IsDecodedWord c.args.image.now) c.loop.words.items _ before.decoded (c.fetch-fetched.ensures.value, c.fetch-fetched.ensures.registers));
      size = omega (arith, before.size, c.push_reserved.ensures.len);
      room = omega (arith, before.room, c.push_reserved.ensures.capacity);
    }

pub push_reserved-requires : goal.push_reserved-requires
push_reserved-requires c = omega (arith, c.loop.invariant.size, c.loop.invariant.room, c.loop-test.true)
