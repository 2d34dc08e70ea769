-- Texts with numbers behind them: the names of an emitted design's wires.
use Rattle.std.specs.Prelude.{◌≡◌, ℕ, suc, ◌<◌, List, ◌++◌, length, codes, decimal, slice_index_or, String, Bool, Vec}
use Rattle.std.specs.Global.{Global}
use Rattle.std.specs.String.{string_bytes}
use Rattle.wb_values.specs.Value.{Name}
use Rattle.ila_model.specs.declared.parts.Parts.{Parts}
use Rattle.emitted_names.specs.declared.words.PartName.{PartName}
use Rattle.emitted_names.specs.declared.ways.Way.{Way}
use Rattle.emitted_names.specs.Parts.{AreWords, AreWaysTo}

-- So many names: the text with each number below the count behind it.
pub record AreNumbered (text : Name) (count : ℕ) (names : List (String Global)) : Type 0 where
  pub many : length names ≡ count
  pub each : (k : ℕ) (d : String Global) → k < count → string_bytes (slice_index_or names k d) ≡ text ++ decimal k

-- The names are those of the wires of the parts' emitted design, in which these nodes are kept.
pub record AreNamesFor (p : Parts) (keep : ℕ → Bool) (terms nones ones : List (String Global)) (words : List (Vec PartName Global)) (ways : List (Vec Way Global)) : Type 0 where
  pub of_terms : AreNumbered (codes "wb_t") (length p.terms.nodes) terms
  pub of_nones : AreNumbered (codes "wb_none_") (suc (length p.instructions.items)) nones
  pub of_ones : AreNumbered (codes "wb_one_") (suc (length p.instructions.items)) ones
  pub of_words : AreWords p.terms keep (length p.terms.nodes) words
  pub of_ways : AreWaysTo p.terms p.instructions.items (length p.instructions.items) ways

-- The names are those of the wires that say which of the last instructions decode.
pub record AreDecodingNames (nones ones : List (String Global)) : Type 0 where
  pub all_nones : AreNumbered (codes "wb_none_") (length nones) nones
  pub all_ones : AreNumbered (codes "wb_one_") (length ones) ones
