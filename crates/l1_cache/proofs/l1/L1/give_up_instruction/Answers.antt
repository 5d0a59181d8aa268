use Rattle.l1_cache.proofs.Instructions.{aged_given_up, given_up, near_given_up, not_given_up}
use Rattle.l1_cache.proofs.l1.L1.give_up_instruction.Goals as goal

pub invariant_of-self : goal.invariant_of-self
invariant_of-self c =
    let was = c.self.invariant in
    record {
      ways = was.ways;
      bytes_are = was.bytes_are;
      instructions = record {
        few_sets = was.instructions.few_sets;
        tags = record {
          few = was.instructions.tags.few;
          some = was.instructions.tags.some;
          early = was.instructions.tags.early;
          aged = aged_given_up was c.args.line c.in-Some.ensures.some c.in-Some.place c.in-Some.ensures.here;
        };
        mask_is = was.instructions.mask_is;
        near = near_given_up was c.args.line c.in-Some.ensures.some c.in-Some.place c.in-Some.ensures.here c.near_index-index.result c.near_index-index.ensures.value;
      };
    }

pub returns-in-Some : goal.returns-in-Some
returns-in-Some c = rw (← c.self.view_is) (given_up c.self.invariant c.args.line c.in-Some.ensures.some c.in-Some.place c.in-Some.ensures.here)

pub returns-in_default : goal.returns-in_default
returns-in_default c = rw (← c.self.view_is) (not_given_up c.self.invariant c.args.line c.in_default.ensures.none)
