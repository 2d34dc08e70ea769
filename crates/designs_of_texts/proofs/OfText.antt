-- The tree of files is one of a text.
use Rattle.std.proofs.Common.{ℕ, List}
use Rattle.verilog_text.specs.Grammar.{IsTreeOf}
use Rattle.verilog_meaning.specs.Settled.{Design}
use Rattle.verilog_exists.specs.Exists.{IsOfText}
use Rattle.v_print_source.proofs.Ended.{read_printable}
use Rattle.designs_of_texts.proofs.Modules.{numbers-fit}
use Rattle.designs_of_texts.proofs.Dots.{no-dots}
use Rattle.designs_of_texts.proofs.ShapelyModules.{design-shapely}

pub of-text : (files : List (List ℕ)) (d : Design) → IsTreeOf files d.source → IsOfText d
of-text files d t =
    let h = read_printable files d.source t in
    record { numbers_fit = numbers-fit d.source h; shapely = design-shapely d h; no_dots = no-dots d.source h }
