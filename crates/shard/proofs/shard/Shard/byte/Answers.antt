use Rattle.std.proofs.Common.{List, ℕ, length, get_or, sym, ap, ◌∙◌, arith}
use Rattle.zs_num.specs.Request.{line_at}
use Rattle.home.specs.HomeState.{bytes_at}
use Rattle.l1_cache.specs.L1State.{L1State, place_in_line}
use Rattle.shard.specs.BankSteps.{bank_with}
use Rattle.shard.specs.Seen.{newest_in}
use Rattle.shard.proofs.ShardSeen.{byte_here, byte_kept, byte_whole}
use Rattle.shard.proofs.shard.Shard.byte.Goals as goal

pub line_bytes-requires : goal.line_bytes-requires
line_bytes-requires c = byte_kept (bank_with c.self.inside.home c.self.inside.l1s.items) c.self.inside.last c.args.self.now c.self.invariant.parts c.self.view_is c.args.addr c.requires.begins c.requires.ends c.requires.own

pub bounds-line_bytes-place : goal.bounds-line_bytes-place
bounds-line_bytes-place c =
    omega (arith, byte_whole (bank_with c.self.inside.home c.self.inside.l1s.items) c.self.inside.last c.args.self.now c.self.invariant.parts c.self.view_is c.args.addr c.requires.begins c.requires.ends c.requires.own, ap (λ (b : List ℕ). length b) c.line_bytes.ensures)

pub returns : goal.returns
returns c =
    let line : ℕ = line_at c.args.addr in
    let place : ℕ = place_in_line c.args.addr in
    byte_here (bank_with c.self.inside.home c.self.inside.l1s.items) c.self.inside.last c.args.self.now c.self.invariant.parts c.self.view_is c.args.addr c.requires.begins c.requires.ends c.requires.own c.newest_byte.result
    (ap (λ (ls : List L1State). get_or (newest_in line (bytes_at c.self.inside.home line) ls) place 0) (sym c.deref.ensures.value)
    ∙ c.newest_byte.ensures (bytes_at c.self.inside.home line) (ap (λ (b : List ℕ). get_or b place 0) (sym c.line_bytes.ensures)))
