use Rattle.std.proofs.Common.{map}
use Rattle.wb_terms.specs.Environment.{as_value}
use Rattle.v_cycle.proofs.Changed.{listed_more}
use Rattle.v_cycle.proofs.changes.make.Goals as goal

pub returns-clause-listed : goal.returns-clause-listed
returns-clause-listed c =
    λ xs h. listed_more c.args.changes.now c.add.new.self c.args.change xs (map as_value c.args.values.now) (map as_value c.apply.new.values) c.add.ensures.list c.apply.ensures h
