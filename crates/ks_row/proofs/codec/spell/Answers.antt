use Rattle.std.proofs.Common.{refl}
use Rattle.std.proofs.lemmas.Result.{IfOk-weaker}
use Rattle.ks_row.proofs.Written.{text_more, fits_more, row_fits}
use Rattle.ks_row.proofs.codec.spell.Goals as goal

pub loop-name-preserved : goal.loop-name-preserved
loop-name-preserved c = record {
  text = text_more _ _ c.args.members.now c.loop-name.name-index c.loop-name-item.result _ c.loop-name-test.true c.loop-name-item.is c.in_ok-push_own.ensures.bytes c.loop-name.invariant.text;
  fits = fits_more c.args.members.now c.loop-name.name-index c.loop-name-item.result c.loop-name-test.true c.loop-name-item.is c.in_ok-push_own.ensures.fits c.loop-name.invariant.fits;
}

pub returns-clause-fits : goal.returns-clause-fits
returns-clause-fits c = IfOk-weaker c.into_blob.result _ _ (λ _ _. row_fits c.args.members.now c.args.members.now c.loop-name.name-index refl c.requires c.loop-name-test.false c.loop-name.invariant.fits) c.into_blob.ensures
