use Rattle.std.proofs.Common.{◌≡◌, ℕ, ◌+◌, ◌*◌, ◌/◌, ◌%◌, ◌≤◌, List, ◌++◌, length, get_or, take, drop, sym, ap, ◌∙◌, subst, arith}
use Rattle.std.specs.Prelude.{vec_capacity}
use Rattle.std.proofs.Math.Seq.{take-append_seam}
use Rattle.home.specs.Chunks.{ArePlaced}
use Rattle.home.specs.Lines.{bytes_in}
use Rattle.home.proofs.LinesPlaced.{are_written, line_written, size_is}
use Rattle.home.proofs.lines.Lines.write.Goals as goal

pub own-requires-clause-within : goal.own-requires-clause-within
own-requires-clause-within c =
    let s = c.self.inside in
    omega (arith, c.requires.within, ap length c.self.view_is, size_is s.size s.chunks.places.items s.chunks.bytes.items, c.self.invariant.all)

pub invariant_of-self : goal.invariant_of-self
invariant_of-self c =
    let s = c.self.inside in
    let n : ℕ = c.args.number in
    let from : List ℕ = c.args.from.now in
    let now = c.own.new.self in
    let put : List ℕ = c.put_line.new.bytes in
    let old : List ℕ = now.bytes.items in
    let kept : 64 * n + 64 ≤ s.size = omega (arith, c.requires.within, ap length c.self.view_is, size_is s.size s.chunks.places.items s.chunks.bytes.items) in
    let all : now.bytes.len ≡ length put = omega arith in
    let splice : ℕ → ℕ → List ℕ → List ℕ = λ (p : ℕ) (k : ℕ) (bytes : List ℕ). take p bytes ++ (from ++ drop (p + k) bytes) in
    let made : take now.bytes.len (put ++ drop (length put) old) ≡ splice (get_or now.places.items (n / 64) 0 + 64 * (n % 64)) 64 old =
    ap (λ (k : ℕ). take k (put ++ drop (length put) old)) all ∙ (take-append_seam put (drop (length put) old)
    ∙ (c.put_line.ensures.value ∙ (ap (splice c.start-start.result (length from)) c.deref_mut.ensures.value
    ∙ (ap (λ (k : ℕ). splice c.start-start.result k old) c.requires.whole ∙ ap (λ (p : ℕ). splice p 64 old) c.start-start.ensures)))) in
    record {
      all = omega (arith, c.self.invariant.all, c.own.ensures.count);
      chunks = subst (λ (bytes : List ℕ). ArePlaced 0 4096 now.places.items bytes (vec_capacity now.bytes)) (sym made)
          (are_written c.own.ensures.are s.size n kept from c.requires.whole c.own.ensures.own);
    }

pub returns : goal.returns
returns c =
    let s = c.self.inside in
    let n : ℕ = c.args.number in
    let from : List ℕ = c.args.from.now in
    let now = c.own.new.self in
    let put : List ℕ = c.put_line.new.bytes in
    let old : List ℕ = now.bytes.items in
    let kept : 64 * n + 64 ≤ s.size = omega (arith, c.requires.within, ap length c.self.view_is, size_is s.size s.chunks.places.items s.chunks.bytes.items) in
    let all : now.bytes.len ≡ length put = omega arith in
    let splice : ℕ → ℕ → List ℕ → List ℕ = λ (p : ℕ) (k : ℕ) (bytes : List ℕ). take p bytes ++ (from ++ drop (p + k) bytes) in
    let made : take now.bytes.len (put ++ drop (length put) old) ≡ splice (get_or now.places.items (n / 64) 0 + 64 * (n % 64)) 64 old =
    ap (λ (k : ℕ). take k (put ++ drop (length put) old)) all ∙ (take-append_seam put (drop (length put) old)
    ∙ (c.put_line.ensures.value ∙ (ap (splice c.start-start.result (length from)) c.deref_mut.ensures.value
    ∙ (ap (λ (k : ℕ). splice c.start-start.result k old) c.requires.whole ∙ ap (λ (p : ℕ). splice p 64 old) c.start-start.ensures)))) in
    ap (bytes_in s.size now.places.items) made
    ∙ (line_written c.own.ensures.are s.size n kept from c.requires.whole c.own.ensures.own
    ∙ ap (splice (64 * n) 64) (c.own.ensures.same s.size ∙ c.self.view_is))
