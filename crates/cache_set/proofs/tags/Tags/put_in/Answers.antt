use Rattle.std.proofs.Common.{refl}
use Rattle.cache_set.proofs.SetsInArrays.{all_past}
use Rattle.cache_set.proofs.tags.Tags.put_in.Goals as goal

pub next_age-age-requires-clause-past : goal.next_age-age-requires-clause-past
next_age-age-requires-clause-past c = all_past c.requires.are.aged

pub returns-clause-put : goal.returns-clause-put
returns-clause-put c =
    rw c.next_age-age.ensures.tick
    (record {
      anew = c.next_age-age.new.ages.items;
      order = c.next_age-age.ensures.order;
      long = c.next_age-age.ensures.all;
      later = c.next_age-age.ensures.later;
      early = c.next_age-age.ensures.early;
      next = c.next-place.ensures;
      ages_are = refl;
      tags_are = refl;
    })
