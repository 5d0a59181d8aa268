use Rattle.std.proofs.Common.{◌≡◌, ℕ, ◌+◌, ◌-◌, ◌*◌, ◌/◌, ◌%◌, ◌<◌, ◌≤◌, List, ◌∷◌, length, drop, get_or, refl, sym, ap, ◌∙◌, arith}
use Rattle.std.proofs.Math.ListN.{drop_of_length-le}
use Rattle.std.proofs.lemmas.List.{drop_more, length-replicate}
use Rattle.std.proofs.lemmas.List.FromFn.{get_or-map-range_with_len, length-map-range_with_len}
use Rattle.elf_load.specs.declared.segment.Segment.{Segment}
use Rattle.elf_load.specs.MemoryImage.{byte_at, bytes_from}
use Rattle.home.specs.FirstBytes.{address_at, first_bytes}
use Rattle.home.proofs.Placed.{zeros_at}
use Rattle.home.proofs.Filled.{all_lines, segment_more}
use Rattle.home.proofs.FirstBytes.{segment_ends}
use Rattle.home.proofs.filling.first_bytes.Goals as goal

pub loop-segment-init : goal.loop-segment-init
loop-segment-init c =
    let count : ℕ = (c.base-2.result + c.size.result - 1) / 64 / c.args.shards - c.base.result / 64 / c.args.shards + 1 in
    record {
      size = ap length c.in_ok-lines.ensures ∙ length-replicate {A = ℕ} (64 * count) 0;
      filled = λ at l e. ap (λ (bytes : List ℕ). get_or bytes at 0) c.in_ok-lines.ensures ∙ (zeros_at (64 * count) at ∙ sym e);
    }

pub loop-segment-preserved : goal.loop-segment-preserved
loop-segment-preserved c =
    let a = c.args in
    let first : ℕ = c.base.result / 64 / a.shards in
    let count : ℕ = (c.base-2.result + c.size.result - 1) / 64 / a.shards - first + 1 in
    let k : ℕ = c.loop-segment.segment-index in
    let segments : List Segment = a.image.now.segments in
    let s : Segment = c.segment-item.result in
    let items = c.segments-segment-items.ensures in
    let is : s ≡ get_or segments k s = rw items at c.segment-item.is in
    let below : k < length segments = rw items at c.loop-segment-test.true in
    let rest : drop k segments ≡ s ∷ drop (k + 1) segments = drop_more segments k s below ∙ ap (λ (x : Segment). x ∷ drop (k + 1) segments) (sym is) in
    record {
      size = c.fill_lines.ensures.length ∙ c.loop-segment.invariant.size;
      filled = λ at l none.
          segment_more a.shards a.number first count c.requires.shards at l s (drop (k + 1) segments)
          (byte_at segments (address_at a.shards a.number first at)) (get_or c.loop-segment.lines at 0) (get_or c.fill_lines.new.lines at 0) none
          (λ e. c.loop-segment.invariant.filled at l (ap (λ (ss : List Segment). byte_at ss (address_at a.shards a.number first at)) rest ∙ e))
          (λ low high. c.fill_lines.ensures.filled at (omega (arith, low))
          (let ends : c.saturating_sub-end.result ≡ (s.vaddr + length s.bytes) / 64 / a.shards - first
          = c.saturating_sub-end.ensures ∙ ap (λ (n : ℕ). (s.vaddr + n) / 64 / a.shards - first) (ap length c.as_slice.ensures) in
          omega (arith, high, l, c.min.ensures, ends)))
          (λ e. c.fill_lines.ensures.others at e);
    }

pub returns : goal.returns
unfolding first_bytes
returns c =
    let a = c.args in
    let first : ℕ = c.base.result / 64 / a.shards in
    let count : ℕ = (c.base-2.result + c.size.result - 1) / 64 / a.shards - first + 1 in
    let segments : List Segment = a.image.now.segments in
    let ended : length segments ≤ c.loop-segment.segment-index = rw c.segments-segment-items.ensures at c.loop-segment-test.false in
    let none = drop_of_length-le segments {i = c.loop-segment.segment-index} ended in
    let g : ℕ → List ℕ = λ (line : ℕ). bytes_from segments (64 * (line * a.shards + a.number)) 64 in
    let each : (n : ℕ) → length (g n) ≡ 64 = λ n. length-map-range_with_len (byte_at segments) (64 * (n * a.shards + a.number)) 64 in
    let all = all_lines g each first count c.loop-segment.lines c.loop-segment.invariant.size (λ at l.
    c.loop-segment.invariant.filled at l (ap (λ (ss : List Segment). byte_at ss (address_at a.shards a.number first at)) none)
    ∙ sym (get_or-map-range_with_len (byte_at segments) (64 * ((first + at / 64) * a.shards + a.number)) 64 (at % 64) (address_at a.shards a.number first at) 0 (omega arith) refl)) in
    rw (c.base.ensures.value, c.base-2.ensures.value, c.size.ensures) at all

pub overflow_add-past : goal.overflow_add-past
overflow_add-past c =
    let image = c.args.image.now in
    let items = c.segments-segment-items.ensures in
    let is : c.segment-item.result ≡ get_or image.segments c.loop-segment.segment-index c.segment-item.result = rw items at c.segment-item.is in
    let below : c.loop-segment.segment-index < length image.segments = rw items at c.loop-segment-test.true in
    omega (arith, c.base.ensures.sound.reach, ap length c.as_slice.ensures, segment_ends image.base image.size image.segments c.loop-segment.segment-index c.segment-item.result below is c.base.ensures.sound.placed)
