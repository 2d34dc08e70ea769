-- What the code's record of a register's bits stands for.
use Rattle.v_design.specs.declared.bits.RegisterBits.{RegisterBits}
use Rattle.v_design.specs.Registers.{CountedBits}

abbrev pub counted_bits : RegisterBits → CountedBits
counted_bits r = record { least = r.least; masks = r.masks.items }
