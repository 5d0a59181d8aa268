use Rattle.l1_cache.proofs.Views.{aged_given_up, given_up, near_given_up, not_given_up}
use Rattle.l1_cache.proofs.l1.L1.give_up.Goals as goal

pub invariant_of-self : goal.invariant_of-self
invariant_of-self c =
    let was = c.self.invariant in
    record {
      ways = record {
        shards_are = was.ways.shards_are;
        sets_are = was.ways.sets_are;
        tags = record { few = was.ways.tags.few; some = was.ways.tags.some; early = was.ways.tags.early; aged = aged_given_up was c.args.line c.in-Some.place c.in-Some.ensures.here };
        kept_are = was.ways.kept_are;
        mask_is = was.ways.mask_is;
        near = near_given_up was c.args.line c.in-Some.place c.in-Some.ensures.here c.near_index-left.result c.near_index-left.ensures.value;
      };
      bytes_are = was.bytes_are;
      instructions = was.instructions;
    }

pub returns-in-Some : goal.returns-in-Some
returns-in-Some c = rw (← c.self.view_is) (given_up c.self.invariant c.args.line c.in-Some.place c.in-Some.ensures.here)

pub returns-in_default : goal.returns-in_default
returns-in_default c = rw (← c.self.view_is) (not_given_up c.self.invariant c.args.line c.in_default.ensures.none)
