use Rattle.std.proofs.Common.{◌≡◌, ℕ, ◌+◌, ◌-◌, ◌*◌, ◌≤◌, List, length, take, drop, ap, ◌∙◌, arith}
use Rattle.home.proofs.LinesPlaced.{line_read, size_is}
use Rattle.home.proofs.lines.Lines.line.Goals as goal

pub start-start-requires-clause-within : goal.start-start-requires-clause-within
start-start-requires-clause-within c =
    let s = c.self.inside in
    omega (arith, c.requires, ap length c.self.view_is, size_is s.size s.chunks.places.items s.chunks.bytes.items, c.self.invariant.all)

pub returns : goal.returns
returns c =
    let s = c.self.inside in
    let n : ℕ = c.args.number in
    let start : ℕ = c.start-start.result in
    let kept : 64 * n + 64 ≤ s.size = omega (arith, c.requires, ap length c.self.view_is, size_is s.size s.chunks.places.items s.chunks.bytes.items) in
    let count : start + 64 - start ≡ 64 = omega arith in
    ap (λ (k : ℕ). take k (drop start c.deref.result.now)) count
    ∙ (ap (λ (bytes : List ℕ). take 64 (drop start bytes)) c.deref.ensures.value
    ∙ (ap (λ (at : ℕ). take 64 (drop at s.chunks.bytes.items)) c.start-start.ensures
    ∙ (line_read c.self.invariant.chunks s.size n kept
    ∙ ap (λ (bytes : List ℕ). take 64 (drop (64 * n) bytes)) c.self.view_is)))
