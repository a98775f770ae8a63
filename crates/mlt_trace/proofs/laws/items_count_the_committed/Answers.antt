use Rattle.mlt_trace.proofs.ItemLaws.{committed_txs_counted, transcripts_counted}
use Rattle.mlt_trace.proofs.laws.items_count_the_committed.Goals as goal

pub returns : goal.returns
returns c = record { txs = committed_txs_counted; transcripts = transcripts_counted }
