use Rattle.std.proofs.Common.{◌∙◌, refl, sym, arith}
use Rattle.rv_blocks.proofs.Fetching.{has_to_fetch, is_other}
use Rattle.rv_blocks.proofs.line.fetched_anew.Goals as goal

pub returns-clause-made : goal.returns-clause-made
returns-clause-made g c registers =
    let found = c.requires.found (sym c.is_ebreak.ensures ∙ c.if-is_ebreak.false) in
    let inside = sym c.has.ensures ∙ c.if-not-has.false in
    record {
      latest = c.args._latest;
      had = refl;
      fetches = has_to_fetch c.args._image.now c.args.memory.now c.args._latest c.args.pc (is_other c.args._latest c.args.pc c.requires.other) found inside;
      served = c.fetch_hit.ensures.hit c.if-not-fetch_hit.false;
      registers = refl;
      pc = refl;
      line = refl;
      clock = omega (arith, c.if-left-stint.false, c.requires.left, c.requires.begins);
      count = omega (arith, c.if-left-stint.false, c.requires.left, c.requires.begins);
      in_time = omega (arith, c.if-left-stint.false, c.requires.left, c.requires.begins);
    }
