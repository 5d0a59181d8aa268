-- When tables of bytes are right.
use Rattle.std.specs.Prelude.{◌≡◌, ℕ, ◌<◌, ◌==◌, ◌&&◌, ◌||◌, List}
use Rattle.sparse_table.specs.Sparse.{Sparse}
use Rattle.sparse_table.specs.ByCore.{value_at}
use Rattle.zs_num.specs.Request.{line_of}
use Rattle.zs_num.specs.declared.request.Request.{Request}
use Rattle.trace.specs.Trace.{Step}
use Rattle.line_use.specs.declared.line_bytes.LineBytes.{LineBytes}
use Rattle.line_use.specs.Bytes.{HasBits, has_bit, has_byte, reads, writes}
use Rattle.line_use.specs.Uses.{is_read, is_written}

-- no byte was used
abbrev pub unused : LineBytes
unused = record { read = 0; written = 0 }

-- by core and line, the bytes that were used
abbrev pub AllUses : Type 0
AllUses = (core line : ℕ) → LineBytes

-- what an access of a core adds
pub record AddsUse (core : ℕ) (request : Request) (old new : AllUses) : Type 0 where
  pub read : (c n i : ℕ) → i < 64 → has_bit (new c n).read i ≡ ((core == c && (line_of request == n && (reads request && has_byte request i))) || has_bit (old c n).read i)
  pub written : (c n i : ℕ) → i < 64 → has_bit (new c n).written i ≡ ((core == c && (line_of request == n && (writes request && has_byte request i))) || has_bit (old c n).written i)

-- each core's table has the bytes of each line that it read and wrote
pub record IsRight (steps : List Step) (tables : List (Sparse LineBytes)) : Type 0 where
  pub read : (core line : ℕ) → HasBits (value_at unused tables core line).read (is_read steps core line)
  pub written : (core line : ℕ) → HasBits (value_at unused tables core line).written (is_written steps core line)
