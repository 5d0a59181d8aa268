use Rattle.reference.proofs.Intervals.{first_interval, next_interval}
use Rattle.reference.proofs.laws.intervals_begin.Goals as goal

pub returns : goal.returns
returns c = record {
  first = λ machine image is sound base size. first_interval machine image c.reached_cores_are_sound.ensures c.new_shards_stand.ensures is sound base size;
  next = λ cores later w m stand same. next_interval cores later same w m stand;
}
