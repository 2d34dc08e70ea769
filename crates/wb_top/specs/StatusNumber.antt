-- The exit status of the program.
use Rattle.std.specs.Prelude.{ℕ}
use Rattle.wb_top.specs.declared.status.Status.{Status}
use Rattle.wb_top.specs.declared.status.Status.TheVariants.{Done, Failed, Unknown, Usage, Refused, ReadFault, WriteFault, NoMemory, Limit}

abbrev pub number_of : Status → ℕ
number_of Done = 0
number_of Failed = 1
number_of Unknown = 2
number_of Usage = 3
number_of Refused = 4
number_of ReadFault = 5
number_of WriteFault = 6
number_of NoMemory = 7
number_of Limit = 8
