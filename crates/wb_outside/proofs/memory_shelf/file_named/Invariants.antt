use Rattle.std.proofs.Common.{◌≡◌, drop}
use Rattle.wb_outside.specs.MemShelf.{files_of, bytes_named}
use Rattle.wb_outside.proofs.memory_shelf.file_named.Given as goal

-- no file before this one has the name
abbrev pub invariant-loop-file : goal.invariant-loop-file
invariant-loop-file l = bytes_named (files_of l.files) l.name ≡ bytes_named (files_of (drop l.file-index l.files)) l.name
