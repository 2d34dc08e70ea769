use Rattle.std.proofs.Common.{codes}
use Rattle.clap.specs.Words.{found_of}
use Rattle.wb_words.proofs.Readings.{designs_missing, designs_read}
use Rattle.wb_words.proofs.matches.designs.Goals as goal

pub returns-in-Some-clause-names : goal.returns-in-Some-clause-names
returns-in-Some-clause-names c = designs_read (found_of c.args.matches.now) (codes "designs") c.get_strs.result c.get_strs.ensures c.in-Some.names c.some_names.result c.in-Some.is c.some_names.ensures.names

pub returns-in-None-clause-names : goal.returns-in-None-clause-names
returns-in-None-clause-names c = designs_missing (found_of c.args.matches.now) (codes "designs") c.get_strs.result c.get_strs.ensures c.in-None.is
