use Rattle.std.proofs.Common.{◌≡◌, ℕ, ◌+◌, ◌*◌, ◌-◌, ◌%◌, ◌<◌, ◌≤◌, ◌^◌, List, length}
use Rattle.wb_values.specs.Value.{word, number, Valuation}
use Rattle.model_meaning.specs.Term.{const, val}
use Rattle.wb_terms.specs.Graph.{tree}
use Rattle.ob_mem.specs.Rows.{Grows, IsPlain, AreWords, HoldWords}
use Rattle.ob_mem.proofs.loads.put_load.Given as goal

abbrev pub invariant-loop-bit : goal.invariant-loop-bit
invariant-loop-bit l =
    Grows l.fn.terms l.terms × (l.bit ≤ l.address_width) × IsPlain l.terms l.one.0 (word 1) × (tree l.terms l.one.0 ≡ const 1 1)
    × ((d : ℕ) → AreWords l.fn.terms l.fn.row.0 (2 ^ l.address_width) d → AreWords l.terms l.first.0 (2 ^ l.bit) d)
    × ((w : Valuation) (xs : List ℕ) (i : ℕ) → val (tree l.fn.terms l.fn.address.0) w ≡ number i → i < 2 ^ l.address_width
    → HoldWords l.fn.terms w l.fn.row.0 (2 ^ l.address_width) xs 0 → HoldWords l.terms w l.first.0 (2 ^ l.bit) xs (i - i % 2 ^ l.bit))
    × (length l.terms.nodes + (2 ^ l.bit + 2 * l.bit) ≡ length l.fn.terms.nodes + 1 + (2 ^ l.address_width + 2 * l.address_width))

abbrev pub decreases-loop-bit : goal.decreases-loop-bit
decreases-loop-bit l = l.bit
