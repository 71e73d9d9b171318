-- What is told of a line that cannot be read. Assumes nothing.
use Rattle.std.specs.Prelude.{ℕ, List, codes}
use Rattle.kushrebat.specs.declared.script.fault.LineFault.{LineFault}
use Rattle.kushrebat.specs.declared.script.fault.LineFault.TheVariants.{UnknownCommand, MissingWord, ExtraWord, NotANumber, NotALabelWord, OutOfMemory}

abbrev pub reason_of : LineFault → List ℕ
reason_of UnknownCommand = codes "unknown command"
reason_of MissingWord = codes "missing word"
reason_of ExtraWord = codes "extra word"
reason_of NotANumber = codes "not a number"
reason_of NotALabelWord = codes "not a label word"
reason_of OutOfMemory = codes "out of memory"
