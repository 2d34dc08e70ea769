-- What is read, from the first of a list on.
use Rattle.std.proofs.Common.{◌≡◌, ◌∙◌, ℕ, ◌+◌, ◌<◌, refl, ap, sym, Bool, true, false, cond, List, ◌∷◌, ◌++◌, length, drop, get_or}
use Rattle.std.proofs.lemmas.List.{drop_more}
use Rattle.std.specs.Prelude.{Option, Some, None}
use Rattle.std.proofs.lemmas.Bool.{true≢false, false≢true}
use Rattle.verilog_trees.specs.Syntax.{Expression}
use Rattle.verilog_meaning.specs.Expression.{Scope}
use Rattle.verilog_meaning.specs.Settled.{wire_assignment}
use Rattle.verilog_designs.specs.Reads.{BitSet, no_bits, or_in}
use Rattle.v_syntax.specs.declared.module.Wire.{Wire}
use Rattle.v_syntax.specs.Source.{boxed_tree_of}
use Rattle.v_flow.proofs.Sets.{or-none, turn}
use Rattle.v_scopes.specs.declared.table.ModuleScope.{ModuleScope}
use Rattle.v_scopes.specs.declared.row.Declared.{Declared}
use Rattle.v_scopes.specs.Rows.{row_of, rows_of}
use Rattle.v_drivers.specs.Lists.{wire_links}
use Rattle.v_undriven.specs.Reads.{links_read, value_reads, output_reads, outputs_read}
use Rattle.v_undriven.specs.Premises.{AreNarrowValues, IsNarrowIfThere}

pub wires-read : (s : Scope) (w : Wire) (ws : List Wire) → links_read s (wire_links (w ∷ ws)) ≡ or_in (value_reads s (boxed_tree_of w.value)) (links_read s (wire_links ws))
wires-read s w ws = at (boxed_tree_of w.value)
  where
    at : (o : Option Expression) → links_read s (wire_assignment w.name.now o ++ wire_links ws) ≡ or_in (value_reads s o) (links_read s (wire_links ws))
    at None = refl
    at (Some e) = refl

pub wires-narrow : (s : Scope) (w : Wire) (ws : List Wire) → AreNarrowValues s (wire_links (w ∷ ws)) → IsNarrowIfThere s (boxed_tree_of w.value) × AreNarrowValues s (wire_links ws)
wires-narrow s w ws h = at (boxed_tree_of w.value) h
  where
    at : (o : Option Expression) → AreNarrowValues s (wire_assignment w.name.now o ++ wire_links ws) → IsNarrowIfThere s o × AreNarrowValues s (wire_links ws)
    at None h = (tt, h)
    at (Some e) h = h

pub none-added : (a p : BitSet) (t : Bool) → t ≡ false → a ≡ or_in a (cond t p no_bits)
none-added a p true e = absurd (true≢false e)
none-added a p false e = sym (or-none a)

pub all-added : (a b p : BitSet) (t : Bool) → t ≡ true → b ≡ or_in a p → b ≡ or_in a (cond t p no_bits)
all-added a b p true e h = h
all-added a b p false e h = absurd (false≢true e)

pub outputs-turn : (s : Scope) (names : ModuleScope) (rs : List Declared) (i : ℕ) (d : Declared) (t a b : BitSet) → i < length rs
    → b ≡ or_in a (output_reads s names (row_of (get_or rs i d)).of_name) → t ≡ or_in a (outputs_read s names (rows_of (drop i rs)))
    → t ≡ or_in b (outputs_read s names (rows_of (drop (i + 1) rs)))
outputs-turn s names rs i d t a b h more same =
    turn t a b (output_reads s names (row_of (get_or rs i d)).of_name) (outputs_read s names (rows_of (drop (i + 1) rs)))
    (same ∙ ap (λ ys. or_in a (outputs_read s names (rows_of ys))) (drop_more rs i d h)) more
