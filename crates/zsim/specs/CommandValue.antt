-- The command that the code keeps, by references to the words. It serves private contracts alone.
use Rattle.std.specs.Prelude.{option_map}
use Rattle.zsim.specs.declared.command_line.Checking.{Checking as CheckingInCode}
use Rattle.zsim.specs.declared.command_line.Command.{Command as CommandInCode}
use Rattle.zsim.specs.declared.command_line.Command.TheVariants as command_in_code
use Rattle.zsim.specs.declared.command_line.Execution.{Execution as ExecutionInCode}
use Rattle.zsim.specs.declared.command_line.Exe.{Exe as ExeInCode}
use Rattle.zsim.specs.declared.command_line.Exe.TheVariants as exe_in_code
use Rattle.zsim.specs.declared.command_line.Task.{Task as TaskInCode}
use Rattle.zsim.specs.declared.command_line.Task.TheVariants as task_in_code
use Rattle.zsim.specs.CommandLine.{Checking, Command, Exe, Execution, Task, check, execute, file, generated, replay, run}

abbrev pub exe_value : ExeInCode → Exe
exe_value (exe_in_code.File name) = file name.now
exe_value (exe_in_code.Generated n) = generated n

abbrev pub task_value : TaskInCode → Task
task_value (task_in_code.Run workers record_to events_to) = run workers (option_map (λ name. name.now) record_to) (option_map (λ name. name.now) events_to)
task_value (task_in_code.Replay schedule) = replay schedule.now

abbrev pub execution_value : ExecutionInCode → Execution
execution_value c = record {
  machine = option_map (λ name. name.now) c.machine;
  exe = exe_value c.exe;
  task = task_value c.task;
  brief = c.brief;
}

abbrev pub checking_value : CheckingInCode → Checking
checking_value c = record {
  machine = option_map (λ name. name.now) c.machine;
  events = c.events.now;
}

abbrev pub command_value : CommandInCode → Command
command_value (command_in_code.Execute c) = execute (execution_value c)
command_value (command_in_code.Check c) = check (checking_value c)
