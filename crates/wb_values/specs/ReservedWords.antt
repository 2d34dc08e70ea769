-- The words that are no identifiers (IEEE 1364-2005, annex B).
use Rattle.std.specs.Prelude.{ℕ, Bool, ◌||◌, List, [], ◌∷◌, codes}
use Rattle.std.specs.Str.{bytes_eq}
use Rattle.std.specs.List.{list_any}

-- the words of the Verilog subset that the workbench reads
abbrev pub grammar_words : List (List ℕ)
grammar_words =
    codes "always" ∷ codes "assign" ∷ codes "begin" ∷ codes "case" ∷ codes "casez" ∷ codes "default" ∷
    codes "else" ∷ codes "end" ∷ codes "endcase" ∷ codes "endmodule" ∷ codes "if" ∷ codes "input" ∷
    codes "localparam" ∷ codes "module" ∷ codes "negedge" ∷ codes "or" ∷ codes "output" ∷ codes "parameter" ∷
    codes "posedge" ∷ codes "reg" ∷ codes "signed" ∷ codes "wire" ∷ []

-- the other reserved words
abbrev pub other_words : List (List ℕ)
other_words =
    codes "and" ∷ codes "automatic" ∷ codes "buf" ∷ codes "bufif0" ∷ codes "bufif1" ∷ codes "casex" ∷
    codes "deassign" ∷ codes "defparam" ∷ codes "disable" ∷ codes "edge" ∷ codes "endfunction" ∷
    codes "endgenerate" ∷ codes "endprimitive" ∷ codes "endspecify" ∷ codes "endtask" ∷ codes "event" ∷
    codes "for" ∷ codes "force" ∷ codes "forever" ∷ codes "fork" ∷ codes "function" ∷ codes "generate" ∷
    codes "genvar" ∷ codes "initial" ∷ codes "inout" ∷ codes "integer" ∷ codes "join" ∷ codes "nand" ∷
    codes "nor" ∷ codes "not" ∷ codes "notif0" ∷ codes "notif1" ∷ codes "primitive" ∷ codes "real" ∷
    codes "realtime" ∷ codes "release" ∷ codes "repeat" ∷ codes "specify" ∷ codes "supply0" ∷ codes "supply1" ∷
    codes "task" ∷ codes "time" ∷ codes "tri" ∷ codes "tri0" ∷ codes "tri1" ∷ codes "triand" ∷ codes "trior" ∷
    codes "wait" ∷ codes "wand" ∷ codes "while" ∷ codes "wor" ∷ codes "xnor" ∷ codes "xor" ∷ codes "cell" ∷
    codes "cmos" ∷ codes "config" ∷ codes "design" ∷ codes "endconfig" ∷ codes "endtable" ∷ codes "highz0" ∷
    codes "highz1" ∷ codes "ifnone" ∷ codes "incdir" ∷ codes "include" ∷ codes "instance" ∷ codes "large" ∷
    codes "liblist" ∷ codes "library" ∷ codes "macromodule" ∷ codes "medium" ∷ codes "nmos" ∷
    codes "noshowcancelled" ∷ codes "pmos" ∷ codes "pull0" ∷ codes "pull1" ∷ codes "pulldown" ∷ codes "pullup" ∷
    codes "pulsestyle_ondetect" ∷ codes "pulsestyle_onevent" ∷ codes "rcmos" ∷ codes "rnmos" ∷ codes "rpmos" ∷
    codes "rtran" ∷ codes "rtranif0" ∷ codes "rtranif1" ∷ codes "scalared" ∷ codes "showcancelled" ∷
    codes "small" ∷ codes "specparam" ∷ codes "strong0" ∷ codes "strong1" ∷ codes "table" ∷ codes "tran" ∷
    codes "tranif0" ∷ codes "tranif1" ∷ codes "trireg" ∷ codes "unsigned" ∷ codes "use" ∷ codes "uwire" ∷
    codes "vectored" ∷ codes "weak0" ∷ codes "weak1" ∷ []

unfoldable pub is_reserved : List ℕ → Bool
is_reserved w = list_any (bytes_eq w) grammar_words || list_any (bytes_eq w) other_words
