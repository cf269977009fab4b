-- What the program does with its arguments.
use Rattle.std.specs.Prelude.{◌≤◌, Result, Ok, Err}
use Rattle.cy_shell.specs.declared.options.Invocation.{Invocation}
use Rattle.cy_shell.specs.declared.options.Invocation.TheVariants.{Run, Help}
use Rattle.cy_shell.specs.declared.options.ArgFault.{ArgFault}

-- a run has a history that `run` takes
abbrev pub HasHistory : Result Invocation ArgFault → Type 0
HasHistory (Ok (Run settings)) = (1 ≤ settings.history) × (settings.history ≤ 4096)
HasHistory (Ok (Help text)) = Unit {0}
HasHistory (Err fault) = Unit {0}
