use Rattle.wb_outside.proofs.Known.{appends_more, fits_more}
use Rattle.wb_outside.proofs.streams.write_whole.Goals as goal

pub loop-preserved : goal.loop-preserved
loop-preserved g c = record {
  inside = fits_more c.args.piece.now _ _ c.loop.invariant.inside c.in_ok-done.ensures.fits;
  written = appends_more _ _ _ _ _ _ c.loop.invariant.written c.in_ok-done.ensures.ok;
}
