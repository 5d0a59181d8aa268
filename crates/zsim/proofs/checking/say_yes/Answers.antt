-- The text was put, or a part of it.
use Rattle.std.proofs.Common.{inl, inr, refl, string_bytes}
use Rattle.zsim.specs.Checked.{check_text}
use Rattle.zsim.specs.Seen.{sink_seen}
use Rattle.zsim.proofs.OutputsDone.{gained, gained_part, nothing_gained, put_failed, put_no_memory}
use Rattle.zsim.proofs.checking.say_yes.Goals as goal

-- there was no room for it
pub returns-in-Err : goal.returns-in-Err
returns-in-Err g c =
    let sink = g.O.Sink in
    let out = sink_seen sink.is_seen sink.bytes sink.faults c.args.out.now c.args.out.now in
    inr (inr (refl, nothing_gained out _ _ (λ _. refl), refl))

pub returns-in-Ok-put_all : goal.returns-in-Ok-put_all
returns-in-Ok-put_all g c =
    let sink = g.O.Sink in
    let out = sink_seen sink.is_seen sink.bytes sink.faults c.args.out.now c.put_all.new.sink in
    inl (
      refl,
      gained out c.as_bytes.result.now (string_bytes c.in-Ok.text) (check_text c.args.counts) c.as_bytes.ensures.value c.in-Ok.ensures c.in-Ok-put_all.ensures.all,
      c.in-Ok-put_all.ensures.faults,
    )

pub returns-in-Err-Failed : goal.returns-in-Err-Failed
returns-in-Err-Failed g c =
    let sink = g.O.Sink in
    let out = sink_seen sink.is_seen sink.bytes sink.faults c.args.out.now c.put_all.new.sink in
    inr (inl (
      refl,
      gained_part out c.as_bytes.result.now (string_bytes c.in-Ok.text) (check_text c.args.counts) c.as_bytes.ensures.value c.in-Ok.ensures c.in-Err-Failed.ensures.cut,
      put_failed c.in-Err-Failed.field-0 out.faults_before out.faults_after c.in-Err-Failed.field-0-is c.in-Err-Failed.ensures.faults,
    ))

pub returns : goal.returns
returns g c =
    let sink = g.O.Sink in
    let out = sink_seen sink.is_seen sink.bytes sink.faults c.args.out.now c.put_all.new.sink in
    inr (inr (
      refl,
      gained_part out c.as_bytes.result.now (string_bytes c.in-Ok.text) (check_text c.args.counts) c.as_bytes.ensures.value c.in-Ok.ensures c.in-Err-NoMemory.ensures.cut,
      put_no_memory c.in-Err-NoMemory.field-0 out.faults_before out.faults_after c.in-Err-NoMemory.field-0-is c.in-Err-NoMemory.ensures.faults,
    ))
