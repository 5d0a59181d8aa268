-- Which bytes of a line a core read and wrote.
use Rattle.std.specs.Prelude.{ℕ, ◌==◌, Bool, false, ◌&&◌, List}
use Rattle.std.specs.List.{list_any}
use Rattle.zs_num.specs.declared.request.Request.{Request}
use Rattle.zs_num.specs.Request.{line_of}
use Rattle.trace.specs.Trace.{Step, Accessed, Ended, Executed}
use Rattle.line_use.specs.Bytes.{has_byte, reads, writes}

-- An access of this core to this line uses byte i of it so, by reading or by writing.
abbrev pub uses_byte : (so : Request → Bool) → (core line i : ℕ) → Step → Bool
uses_byte so core line i (Accessed pc e leaving) = e.core == core && (line_of e.request == line && (so e.request && has_byte e.request i))
uses_byte so core line i (Executed by pc) = false
uses_byte so core line i (Ended interval) = false

-- some step reads byte i of a line by this core
abbrev pub is_read : List Step → (core line i : ℕ) → Bool
is_read steps core line i = list_any (uses_byte reads core line i) steps

-- and some step writes it
abbrev pub is_written : List Step → (core line i : ℕ) → Bool
is_written steps core line i = list_any (uses_byte writes core line i) steps
