use Rattle.std.proofs.Common.{rules}
use Rattle.std.proofs.lemmas.List.Sorted.{answers_always}
use Rattle.mlt_serve.proofs.Sorting.{by_client_and_number, place_of}
use Rattle.mlt_serve.proofs.reporting.in_order.Goals as goal

pub returns : goal.returns
returns c = record {
  same = c.sort_unstable_by_key.ensures.permutation;
  order = by_client_and_number _ (c.sort_unstable_by_key.ensures.sorted place_of (answers_always _ _ _ (λ f a r g h. search rules)));
}
