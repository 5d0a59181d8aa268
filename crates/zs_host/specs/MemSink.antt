-- What a sink in memory took, how much it takes a put, and which of its puts fail.
use Rattle.std.specs.Prelude.{◌==◌, ℕ, max, Bool, List}
use Rattle.std.specs.List.{list_any}
use Rattle.zs_host.specs.declared.mem_sink.MemSink.{MemSink}

-- the bytes so far
abbrev pub bytes_taken : MemSink → List ℕ
bytes_taken sink = sink.taken.items

-- at most this many bytes are taken a put
abbrev pub most_a_put : MemSink → ℕ
most_a_put sink = max sink.most 1

-- the numbers of the puts that fail
abbrev pub failing_puts : MemSink → List ℕ
failing_puts sink = sink.fail.items

-- how many puts there were
abbrev pub put_count : MemSink → ℕ
put_count sink = sink.puts

-- whether the next put is one of those that fail
abbrev pub next_put_fails : MemSink → Bool
next_put_fails sink = list_any (λ number. number == put_count sink) (failing_puts sink)

-- how many puts failed
abbrev pub sink_fault_count : MemSink → ℕ
sink_fault_count sink = sink.faults
