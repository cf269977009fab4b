-- How the program ends (own).
use Rattle.std.specs.Prelude.{ℕ}
use Rattle.cy_shell.specs.declared.options.ArgFault.{ArgFault}
use Rattle.cy_shell.specs.declared.options.ArgFault.TheVariants.{Bad}
use Rattle.cy_shell.specs.declared.options.ArgFault.TheVariants as argument
use Rattle.cy_shell.specs.declared.serving.RunFault.{RunFault}
use Rattle.cy_shell.specs.declared.serving.RunFault.TheVariants.{Read, Write, Memory}

-- the status of the program after a run that failed
abbrev pub status_of : RunFault → ℕ
status_of Read = 3
status_of Write = 3
status_of Memory = 4

-- and where there is no run, for the arguments
abbrev pub argument_status_of : ArgFault → ℕ
argument_status_of Bad = 2
argument_status_of argument.Memory = 4
