use Rattle.mlt_hash_pair.proofs.Records.{changes_one}
use Rattle.mlt_hash_pair.proofs.pair_laws.each_change_changes_one_record.Goals as goal

pub returns : goal.returns
returns c = λ bits root active tx key q change old new clean fits.
    changes_one bits root active tx key q change old new clean fits.bounded fits.agrees fits.form fits.leads fits.fits
