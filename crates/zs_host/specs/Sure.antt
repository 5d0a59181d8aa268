-- What files and a sink hold that never fail.
use Rattle.std.specs.Prelude.{ℕ, List, [], unwrap_or}
use Rattle.std.specs.BTreeMap.{get_by_text}
use Rattle.zs_host.specs.declared.sure_files.SureFiles.{SureFiles}
use Rattle.zs_host.specs.declared.sure_sink.SureSink.{SureSink}

-- the bytes that a name holds: none where it was never written
abbrev pub bytes_held : SureFiles → List ℕ → List ℕ
bytes_held files name = unwrap_or (get_by_text files.held name) []

-- the bytes so far
abbrev pub bytes_put : SureSink → List ℕ
bytes_put sink = sink.taken.items
