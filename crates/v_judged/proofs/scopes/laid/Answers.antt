use Rattle.v_judged.proofs.scopes.laid.Goals as goal

pub invariant_of-result : goal.invariant_of-result
invariant_of-result c =
    record {
      rows_so = c.requires.rows;
      scope_so = c.requires.whole;
    }
