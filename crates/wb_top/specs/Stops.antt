-- What a read that stops means of the call.
use Rattle.wb_outside.specs.declared.reading.ReadStop.{ReadStop}
use Rattle.wb_outside.specs.declared.reading.ReadStop.TheVariants as reads
use Rattle.wb_top.specs.declared.stop.Stop.{Stop}
use Rattle.wb_top.specs.declared.stop.Stop.TheVariants.{ReadFault, NoMemory}

abbrev pub stop_of : ReadStop → Stop
stop_of reads.Failed = ReadFault
stop_of reads.NoMemory = NoMemory
