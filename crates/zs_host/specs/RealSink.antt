-- What a stream of the system keeps of the puts that failed.
use Rattle.std.specs.Prelude.{ℕ}
use Rattle.zs_host.specs.declared.real_sink.RealSink.{RealSink}

-- how many puts failed
abbrev pub failed_puts : {P : Type 0} → RealSink P → ℕ
failed_puts sink = sink.faults
