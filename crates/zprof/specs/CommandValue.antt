-- The command that the code keeps, by references to the words. It serves private contracts alone.
use Rattle.std.specs.Prelude.{option_map}
use Rattle.zsim.specs.CommandValue.{exe_value}
use Rattle.zprof.specs.declared.command_line.Profiling.{Profiling as ProfilingInCode}
use Rattle.zprof.specs.CommandLine.{Profiling}

abbrev pub profiling_value : ProfilingInCode → Profiling
profiling_value c = record {
  machine = option_map (λ name. name.now) c.machine;
  exe = exe_value c.exe;
  schedule = option_map (λ name. name.now) c.schedule;
  folder = c.folder.now;
  separate = c.separate;
  every = c.every;
  brief = c.brief;
}
