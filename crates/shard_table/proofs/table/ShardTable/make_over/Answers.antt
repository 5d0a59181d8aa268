use Rattle.std.proofs.Common.{◌≡◌, ◌*◌, ◌+◌, ◌<◌, ℕ, List, ◌++◌, drop, take, length, map, replicate, sym, ◌∙◌, ap, subst, arith}
use Rattle.std.specs.Prelude.{slice_get, Some}
use Rattle.std.proofs.lemmas.List.{length-map}
use Rattle.atomic_table.specs.Table.{opening}
use Rattle.shard.specs.Served.{ShardState}
use Rattle.shard_table.specs.Access.{restarted_shards}
use Rattle.shard_table.specs.Lives.{AreNew}
use Rattle.shard_table.specs.Rule.{AreHoldsAtTable}
use Rattle.shard_table.specs.Tables.{resumed_all}
use Rattle.shard_table.specs.Views.{first_view}
use Rattle.shard_table.proofs.Making.{are_new, restarted_length, resumed_again, written_back}
use Rattle.shard_table.proofs.Seating.{begins}
use Rattle.shard_table.proofs.table.ShardTable.make_over.Goals as goal

new_at : (shards : List ShardState) → ((number : ℕ) (shard : ShardState) → slice_get shards number ≡ Some shard → shard.number ≡ number) → AreNew (restarted_shards shards)
new_at shards numbers = λ number shard at.
    let same : number ≡ 0 + number = omega arith in
    let it = are_new 0 shards (λ k s there. let here : k ≡ 0 + k = omega arith in numbers k s there ∙ here) number shard at in
    (it.0 ∙ sym same, it.1)

-- the shards, all last stamps of which are 0
whole : (len : ℕ) (items now new : List ShardState) → len ≡ length items → now ≡ items → new ≡ restarted_shards now → take len (new ++ drop (length new) items) ≡ restarted_shards items
whole len items now new size same is =
    let of_items : new ≡ restarted_shards items = is ∙ ap restarted_shards same in
    written_back len new items (ap length of_items ∙ (restarted_length items ∙ sym size)) ∙ of_items

opens : (values homes : List ShardState) (words : List ℕ) (shards : List ShardState) (cores room : ℕ) → 0 < cores → AreNew (restarted_shards shards) → values ≡ restarted_shards shards → homes ≡ restarted_shards shards
    → words ≡ replicate (16 * length shards) 0 → AreHoldsAtTable values cores room (opening words homes (first_view values cores room))
opens values homes words shards cores room some new is home word =
    let count : 16 * length shards ≡ 16 * length (restarted_shards shards) = ap (λ (n : ℕ). 16 * n) (sym (restarted_length shards)) in
    subst (λ (xs : List ShardState). AreHoldsAtTable xs cores room (opening words homes (first_view xs cores room))) (sym is)
    (subst (λ (xs : List ShardState). AreHoldsAtTable (restarted_shards shards) cores room (opening words xs (first_view (restarted_shards shards) cores room))) (sym home)
    (subst (λ (ws : List ℕ). AreHoldsAtTable (restarted_shards shards) cores room (opening ws (restarted_shards shards) (first_view (restarted_shards shards) cores room))) (sym (word ∙ ap (λ (n : ℕ). replicate n 0) count))
    (begins (restarted_shards shards) cores room new some)))

pub new-requires-2 : goal.new-requires-2
new-requires-2 c =
    let shards : List ShardState = c.args.shards.items in
    let homes = whole c.args.shards.len shards c.deref_mut.result.now c.restart_all.new.shards (omega arith) c.deref_mut.ensures.value c.restart_all.ensures in
    opens c.of.result.value.items _ c.deref-2.result.now shards c.args.cores c.args.room c.requires.cores (new_at shards c.requires.numbers)
    (ap (λ v. v.items) c.of.ensures ∙ homes) homes (c.deref-2.ensures.value ∙ (c.in-Ok.ensures.words ∙ ap (λ (xs : List ShardState). replicate (16 * length xs) 0) c.deref.ensures.value))

pub seats-seats-requires-clause-key : goal.seats-seats-requires-clause-key
seats-seats-requires-clause-key c =
    let shards : List ShardState = c.args.shards.items in
    let homes = whole c.args.shards.len shards c.deref_mut.result.now c.restart_all.new.shards (omega arith) c.deref_mut.ensures.value c.restart_all.ensures in
    let key = c.in-Ok-new.ensures.ok.5 in
    let items : c.in-Ok-new.words.shared.key.shards.value.items ≡ restarted_shards shards = ap (λ k. k.shards.value.items) key ∙ (ap (λ v. v.items) c.of.ensures ∙ homes) in
    (subst AreNew (sym items) (new_at shards c.requires.numbers), ap (λ k. k.cores) key, c.requires.cores)

pub returns-clause-err : goal.returns-clause-err
returns-clause-err c =
    let shards : List ShardState = c.args.shards.items in
    let homes = whole c.args.shards.len shards c.deref_mut.result.now c.restart_all.new.shards (omega arith) c.deref_mut.ensures.value c.restart_all.ensures in
    let slots = c.in-Err-new.ensures.err in
    c.resume_all.ensures ∙ (ap (λ (p : List ShardState × List ℕ). resumed_all p.0 p.1) (λ i. ((slots ∙ homes) i, (c.in-Ok.ensures.stamps ∙ ap (map (λ (x : ShardState). x.last)) c.deref.ensures.value) i))
    ∙ resumed_again shards)

pub resume_all-requires-clause-stamps : goal.resume_all-requires-clause-stamps
resume_all-requires-clause-stamps c =
    let shards : List ShardState = c.args.shards.items in
    let homes = whole c.args.shards.len shards c.deref_mut.result.now c.restart_all.new.shards (omega arith) c.deref_mut.ensures.value c.restart_all.ensures in
    let stamps = c.in-Ok.ensures.stamps ∙ ap (map (λ (x : ShardState). x.last)) c.deref.ensures.value in
    ap length stamps ∙ (length-map shards (λ (x : ShardState). x.last) ∙ sym (ap length (c.in-Err-new.ensures.err ∙ homes) ∙ restarted_length shards))

pub resume_all-requires-clause-room : goal.resume_all-requires-clause-room
resume_all-requires-clause-room c =
    let shards : List ShardState = c.args.shards.items in
    let homes = whole c.args.shards.len shards c.deref_mut.result.now c.restart_all.new.shards (omega arith) c.deref_mut.ensures.value c.restart_all.ensures in
    let refused = ap length (c.in-Err-new.ensures.err ∙ homes) ∙ restarted_length shards in
    (c.in-Ok.ensures.shards.0, omega (arith, refused, c.in-Ok.ensures.shards.1, ap length c.deref.ensures.value))
