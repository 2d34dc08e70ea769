use Rattle.std.proofs.Common.{◌≡◌, map, drop}
use Rattle.v_lex.specs.Walk.{files_read}
use Rattle.v_lex.specs.Reading.{reading_of}
use Rattle.v_lex.specs.Places.{AreShort}
use Rattle.v_lex.specs.Sites.{files_sites}
use Rattle.v_lex.specs.Sited.{sites_of}
use Rattle.v_lex.specs.Placed.{IsReaderPlaced}
use Rattle.v_lex.proofs.state.Reader.read_files.Given as goal

abbrev pub invariant-loop-number : goal.invariant-loop-number
invariant-loop-number l =
    (files_read (map (λ f. f.items) l.files) (reading_of l.fn.self) ≡ files_read (map (λ f. f.items) (drop l.number l.files)) (reading_of l.self))
    × (AreShort (map (λ f. f.items) l.files) → IsReaderPlaced (map (λ f. f.items) l.files) l.fn.self → IsReaderPlaced (map (λ f. f.items) l.files) l.self)
    × (AreShort (map (λ f. f.items) l.files) → IsReaderPlaced (map (λ f. f.items) l.files) l.fn.self
    → files_sites 0 (map (λ f. f.items) l.files) (reading_of l.fn.self) (sites_of l.fn.self) ≡ files_sites l.number (map (λ f. f.items) (drop l.number l.files)) (reading_of l.self) (sites_of l.self))
