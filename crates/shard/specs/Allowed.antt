-- What a core must have of a line for its access to hit.
use Rattle.std.specs.Prelude.{ℕ, if◌then◌else◌, Bool, true, false}
use Rattle.zs_num.specs.Request.{is_fetch, line_of}
use Rattle.zs_num.specs.declared.request.Request.{Request}
use Rattle.cache_set.specs.declared.letter.Letter.{Letter}
use Rattle.shard.specs.Coherence.{Caches, fetch_holds, is_alone, is_valid, is_write, letter_at}

-- A hit needs a letter that allows the access: any to read, M or E to write.
abbrev pub allows : (write : Bool) → Letter → Bool
allows true letter = is_alone letter
allows false letter = is_valid letter

-- A fetch needs the line in the core's L1I.
abbrev pub may_hit : Caches → (core : ℕ) → Request → Bool
may_hit c core request = let line = line_of request in
    if is_fetch request then fetch_holds c core line else allows (is_write request) (letter_at c core line)
