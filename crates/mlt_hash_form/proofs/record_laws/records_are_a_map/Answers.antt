use Rattle.std.specs.FinMap as map
use Rattle.mlt_hash_form.proofs.{PrefixForm.once_live, RecordMap.records_are_the_map}
use Rattle.mlt_hash_form.proofs.record_laws.records_are_a_map.Goals as goal

pub returns : goal.returns
returns c = λ bits pages root bounded file. records_are_the_map pages (once_live bits (map.get pages) root bounded file)
