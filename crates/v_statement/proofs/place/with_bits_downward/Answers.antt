use Rattle.v_value.specs.Index.{integer_at}
use Rattle.v_statement.proofs.Taken.{below_zero_is, no_bits_are}
use Rattle.v_statement.proofs.place.with_bits_downward.Goals as goal
use Rattle.v_statement.proofs.place.with_bits_downward.Goals.{then-high-via-then-high, then-high-via-else-high+then-count-eq0}

pub returns-then-high-clause-value : goal.returns-then-high-clause-value
returns-then-high-clause-value c =
    let a = c.args in
    elim c.then-high.branch [
      | then-high-via-then-high w ↦ below_zero_is a.width a.old a.high.negative a.high.magnitude a.count a.number c.requires.fits w.if-high.true
      | then-high-via-else-high+then-count-eq0 w ↦ no_bits_are a.width a.old (integer_at a.high) a.count a.number c.requires.fits w.if-count-eq0.true
    ]
