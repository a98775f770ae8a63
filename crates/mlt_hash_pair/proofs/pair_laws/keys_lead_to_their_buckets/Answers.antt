use Rattle.mlt_hash_pair.proofs.Records.{both_lead}
use Rattle.mlt_hash_pair.proofs.pair_laws.keys_lead_to_their_buckets.Goals as goal

pub returns : goal.returns
returns c = both_lead
