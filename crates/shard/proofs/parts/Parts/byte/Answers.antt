use Rattle.std.proofs.Common.{ℕ, List, length, get_or, sym, ap, ◌∙◌, arith}
use Rattle.zs_num.specs.Request.{line_at}
use Rattle.home.specs.HomeState.{bytes_at}
use Rattle.l1_cache.specs.L1State.{L1State, place_in_line}
use Rattle.shard.specs.Seen.{PartsState, newest_in}
use Rattle.shard.proofs.HomesAndL1s.PartsRead.{bank_by, byte_here, line_kept, line_whole}
use Rattle.shard.proofs.parts.Parts.byte.Goals as goal

pub line_bytes-requires : goal.line_bytes-requires
line_bytes-requires c =
    let w : PartsState = record { homes = c.self.inside.homes.items; l1s = c.self.inside.l1s.items; lasts = c.self.inside.lasts.items } in
    let bank = bank_by c.len.result (length c.self.inside.homes.items) (line_at c.args.addr) c.remainder-bank.result c.remainder-bank.ensures (omega arith) in
    line_kept w c.self.invariant c.args.addr c.args.self.now c.self.view_is c.requires.begins c.requires.ends c.remainder-bank.result bank c.index.result.now c.index.ensures

pub bounds-line_bytes-place : goal.bounds-line_bytes-place
bounds-line_bytes-place c =
    let w : PartsState = record { homes = c.self.inside.homes.items; l1s = c.self.inside.l1s.items; lasts = c.self.inside.lasts.items } in
    let bank = bank_by c.len.result (length c.self.inside.homes.items) (line_at c.args.addr) c.remainder-bank.result c.remainder-bank.ensures (omega arith) in
    omega (arith, line_whole w c.self.invariant c.args.addr c.args.self.now c.self.view_is c.requires.begins c.requires.ends c.remainder-bank.result bank c.index.result.now c.index.ensures, ap (λ (b : List ℕ). length b) c.line_bytes.ensures)

pub returns : goal.returns
returns c =
    let w : PartsState = record { homes = c.self.inside.homes.items; l1s = c.self.inside.l1s.items; lasts = c.self.inside.lasts.items } in
    let bank = bank_by c.len.result (length c.self.inside.homes.items) (line_at c.args.addr) c.remainder-bank.result c.remainder-bank.ensures (omega arith) in
    let line : ℕ = line_at c.args.addr in
    let place : ℕ = place_in_line c.args.addr in
    byte_here w c.self.invariant c.args.addr c.args.self.now c.self.view_is c.requires.begins c.requires.ends c.remainder-bank.result bank c.index.result.now c.index.ensures c.newest_byte.result
    (ap (λ (ls : List L1State). get_or (newest_in line (bytes_at c.index.result.now line) ls) place 0) (sym c.deref.ensures.value)
    ∙ c.newest_byte.ensures (bytes_at c.index.result.now line) (ap (λ (b : List ℕ). get_or b place 0) (sym c.line_bytes.ensures)))
