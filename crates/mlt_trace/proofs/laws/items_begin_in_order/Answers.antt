use Rattle.std.proofs.Common.{sym, subst, ap, length}
use Rattle.mlt_trace.proofs.Names.{CountsFrom}
use Rattle.mlt_trace.proofs.ItemLaws.{begin_keeps_order, begins_counted, no_begin}
use Rattle.mlt_trace.proofs.laws.items_begin_in_order.Goals as goal

pub returns : goal.returns
returns c = record {
  begin = begin_keeps_order;
  one_more = begins_counted;
  other = λ items item none. subst (CountsFrom 1) (sym (no_begin items item none));
  no_more = λ items item none. ap length (no_begin items item none);
}
