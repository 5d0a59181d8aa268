use Rattle.std.proofs.Common.{◌≡◌, ◌<◌, ◌^◌, ◌++◌, ℕ, List, Some, length, get_or, take, sym, ◌∙◌, ap, subst, arith, rules}
use Rattle.std.specs.Prelude.{slice_get}
use Rattle.std.specs.List.{flat_map}
use Rattle.std.proofs.lemmas.List.{append-nil, take_all}
use Rattle.std.proofs.lemmas.Option.{get_or_from_slice_get, slice_get_within}
use Rattle.schedule_file.specs.ScheduleFile.{header_bytes, list_bytes, width_for}
use Rattle.schedule_file.proofs.Lists.{written_on}
use Rattle.schedule_file.proofs.writer.write.Goals as goal

pub loop-k-preserved : goal.loop-k-preserved
loop-k-preserved c =
    let s = c.args.schedule.now in
    let put : c.put_list.new.out.items ≡ c.loop-k.out.items ++ list_bytes (width_for s.cores) c.list.result.now =
    c.in_ok-put_list.ensures ∙ ap (λ (n : ℕ). c.loop-k.out.items ++ list_bytes (width_for n) c.list.result.now) c.cores.ensures in
    written_on (width_for s.cores) (header_bytes s) _ _ s.lists c.loop-k.k c.list.result.now c.loop-k.invariant (search rules) put

pub put_list-requires : goal.put_list-requires
put_list-requires c =
    let lists = c.args.schedule.now.lists in
    let turns : List ℕ = c.list.result.now in
    let there : slice_get lists c.loop-k.k ≡ Some turns = c.list.ensures in
    let is : get_or lists c.loop-k.k turns ≡ turns = get_or_from_slice_get lists c.loop-k.k turns turns there in
    subst (λ (ns : List ℕ). length ns < 2 ^ 32) is (c.intervals-k-end.ensures.turns.short c.loop-k.k turns (slice_get_within lists c.loop-k.k turns there))

pub loop-k-init : goal.loop-k-init
loop-k-init c = c.in_ok-out.ensures ∙ sym (append-nil (header_bytes c.args.schedule.now))

pub returns : goal.returns
returns c =
    let lists = c.args.schedule.now.lists in
    let all : take c.loop-k.k lists ≡ lists = take_all c.loop-k.k lists (omega (arith, c.loop-k-test.false, c.intervals-k-end.ensures.value)) in
    c.of.ensures ∙ c.loop-k.invariant ∙ ap (λ (ls : List (List ℕ)). header_bytes c.args.schedule.now ++ flat_map (list_bytes (width_for c.args.schedule.now.cores)) ls) all
