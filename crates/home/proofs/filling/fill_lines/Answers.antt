use Rattle.std.proofs.Common.{◌≡◌, ℕ, ◌+◌, ◌*◌, ◌<◌, ◌≤◌, List, length, get_or, ap, ◌∙◌, arith}
use Rattle.std.proofs.lemmas.List.FromFn.{get_or-map-range_with_len, length-map-range_with_len}
use Rattle.elf_load.specs.MemoryImage.{byte_at}
use Rattle.home.specs.FirstBytes.{address_at}
use Rattle.home.proofs.LinesPlaced.{spliced_size}
use Rattle.home.proofs.Filled.{address_is, filled_more, others_stay}
use Rattle.home.proofs.filling.fill_lines.Goals as goal

pub loop-i-preserved : goal.loop-i-preserved
loop-i-preserved c =
    let a = c.args in
    let i : ℕ = c.loop-i.i in
    let old : List ℕ = c.loop-i.lines in
    let line : List ℕ = c.copy_line.new.line in
    let start : ℕ = 64 * ((a.first + i) * a.shards + c.from.result) in
    let f : ℕ → ℕ = λ (at : ℕ). byte_at a.image.now.segments (address_at a.shards a.number a.first at) in
    let long : length line ≡ 64 = ap length c.copy_line.ensures ∙ length-map-range_with_len (byte_at a.image.now.segments) start 64 in
    let within : 64 * i + 64 ≤ length old = omega (arith, c.loop-i.invariant.size) in
    let is : (k : ℕ) → k < 64 → get_or line k 0 ≡ f (64 * i + k) = λ k l.
    ap (λ (bytes : List ℕ). get_or bytes k 0) c.copy_line.ensures
    ∙ get_or-map-range_with_len (byte_at a.image.now.segments) start 64 k (address_at a.shards a.number a.first (64 * i + k)) 0 l
    (ap (λ (n : ℕ). 64 * ((a.first + i) * a.shards + n) + k) c.from.ensures ∙ address_is a.shards a.number a.first i k l) in
    record {
      size = ap length c.write.ensures ∙ (spliced_size old line (64 * i) within long ∙ c.loop-i.invariant.size);
      filled = λ at l h. ap (λ (bytes : List ℕ). get_or bytes at 0) c.write.ensures ∙ filled_more f old line i within long is (64 * a.from) c.loop-i.invariant.filled at l h;
      others = λ at e. ap (λ (bytes : List ℕ). get_or bytes at 0) c.write.ensures ∙ others_stay f old line i within long is a.lines.now c.loop-i.invariant.others at e;
    }
