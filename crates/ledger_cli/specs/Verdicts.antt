-- Whether all is well, as an answer.
use Rattle.std.specs.Prelude.{Bool, true, false, Result, Ok, Err}
use Rattle.cli_lines.specs.declared.failure.Failure.{Failure}
use Rattle.cli_lines.specs.declared.failure.Failure.TheVariants.{Printed}

-- a difference is a failure, which was printed
abbrev pub verdict_answer : Result Bool Failure → Result (Unit {0}) Failure
verdict_answer (Ok true) = Ok tt
verdict_answer (Ok false) = Err Printed
verdict_answer (Err f) = Err f
