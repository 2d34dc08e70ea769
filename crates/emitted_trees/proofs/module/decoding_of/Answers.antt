use Rattle.std.proofs.Common.{codes}
use Rattle.emitted_names.proofs.Numbering.{is_many, all_numbered}
use Rattle.emitted_trees.proofs.module.decoding_of.Goals as goal

pub returns : goal.returns
returns c = record {
  none = is_many (codes "wb_none_") _ c.args.names.now.nones.items _ c.as_slice.ensures.value c.requires.nones;
  one = is_many (codes "wb_one_") _ c.args.names.now.ones.items _ c.as_slice-2.ensures.value c.requires.ones;
  decoding = record {
    all_nones = all_numbered (codes "wb_none_") _ c.args.names.now.nones.items _ c.as_slice.ensures.value c.requires.nones;
    all_ones = all_numbered (codes "wb_one_") _ c.args.names.now.ones.items _ c.as_slice-2.ensures.value c.requires.ones;
  };
}
