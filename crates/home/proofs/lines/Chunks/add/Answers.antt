use Rattle.std.proofs.Common.{arith, ◌≡◌, ◌∙◌, ℕ, true, length, List}
use Rattle.std.specs.Prelude.{is_ok, vec_capacity}
use Rattle.std.proofs.lemmas.List.{get_or_default}
use Rattle.home.proofs.Placed.{are_put, one_less, put_items}
use Rattle.home.proofs.LinesPlaced.{big}
use Rattle.home.proofs.lines.Chunks.add.Goals as goal

pub returns-clause-are : goal.returns-clause-are
returns-clause-are c =
    let was = c.args.self.now in
    let places : List ℕ = was.places.items in
    let bytes : List ℕ = was.bytes.items in
    let r = c.resize-room.ensures in
    let end : c.len-place.result ≡ length bytes = omega arith in
    let less = one_less places c.args.chunk (length bytes) c.requires.within c.requires.absent (omega (arith, c.requires.are.some)) in
    let ok : is_ok c.resize-room.result ≡ true = r.succeeds (omega (arith, c.requires.are.room, less)) in
    let long = rw ok at r.len in
    let first = c.index-first.ensures ∙ get_or_default bytes 0 c.index-first.result.now 0 (omega (arith, c.requires.are.some)) in
    rw end (are_put 0 4096 big c.requires.are c.args.chunk c.requires.within c.requires.absent c.resize-room.new.self.items (omega (arith, long))
    (λ at l. r.by_index.0 at 0 (omega (arith, l)) (omega (arith, l)))
    (λ at least l. r.by_index.1 at 0 ok (omega (arith, least)) (omega (arith, l)) ∙ first) (vec_capacity c.resize-room.new.self) r.capacity)

pub returns-clause-same : goal.returns-clause-same
returns-clause-same c =
    let was = c.args.self.now in
    let places : List ℕ = was.places.items in
    let bytes : List ℕ = was.bytes.items in
    let r = c.resize-room.ensures in
    let end : c.len-place.result ≡ length bytes = omega arith in
    let less = one_less places c.args.chunk (length bytes) c.requires.within c.requires.absent (omega (arith, c.requires.are.some)) in
    let ok : is_ok c.resize-room.result ≡ true = r.succeeds (omega (arith, c.requires.are.room, less)) in
    let long = rw ok at r.len in
    let first = c.index-first.ensures ∙ get_or_default bytes 0 c.index-first.result.now 0 (omega (arith, c.requires.are.some)) in
    rw end (put_items 0 4096 big c.requires.are c.args.chunk c.requires.within c.requires.absent c.resize-room.new.self.items (omega (arith, long))
    (λ at l. r.by_index.0 at 0 (omega (arith, l)) (omega (arith, l)))
    (λ at least l. r.by_index.1 at 0 ok (omega (arith, least)) (omega (arith, l)) ∙ first))
