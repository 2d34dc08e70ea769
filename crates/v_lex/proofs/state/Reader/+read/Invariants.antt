use Rattle.std.proofs.Common.{◌≡◌, ℕ, ◌+◌, ◌*◌, ◌≤◌, List, length}
use Rattle.v_lex.specs.Places.{AreShort}
use Rattle.v_lex.specs.Sites.{sites_from, macro_sites}
use Rattle.v_lex.specs.Sited.{site_of, sites_of}
use Rattle.v_lex.specs.Placed.{IsSpanOf, IsReaderPlaced}
use Rattle.v_lex.specs.Walk.{text_from, macro_read}
use Rattle.v_lex.specs.Reading.{reading_of}
use Rattle.v_lex.proofs.state.Reader.+read.Given as goal

abbrev pub decreases-read_macro : goal.decreases-read_macro
decreases-read_macro l = 3 * l.levels

abbrev pub decreases-read_text : goal.decreases-read_text
decreases-read_text l = 3 * l.levels + 2

abbrev pub decreases-taken : goal.decreases-taken
decreases-taken l = 3 * l.levels + 1

abbrev pub invariant-read_text-loop-piece : goal.invariant-read_text-loop-piece
invariant-read_text-loop-piece l =
    (text_from l.is_macro (macro_read l.levels) 0 l.fn.text.text.now (reading_of l.fn.self) ≡ text_from l.is_macro (macro_read l.levels) 0 l.rest.text.now (reading_of l.self))
    × (length l.rest.text.now ≤ length l.fn.text.text.now)
    × ((files : List (List ℕ)) → AreShort files → IsSpanOf files l.fn.text → IsReaderPlaced files l.fn.self → IsSpanOf files l.rest × IsReaderPlaced files l.self
    × (sites_from l.is_macro (macro_read l.levels) (macro_sites l.levels) 0 (site_of l.fn.text.place) l.fn.text.text.now (reading_of l.fn.self) (sites_of l.fn.self)
    ≡ sites_from l.is_macro (macro_read l.levels) (macro_sites l.levels) 0 (site_of l.rest.place) l.rest.text.now (reading_of l.self) (sites_of l.self)))

abbrev pub decreases-read_text-loop-piece : goal.decreases-read_text-loop-piece
decreases-read_text-loop-piece l = length l.rest.text.now
