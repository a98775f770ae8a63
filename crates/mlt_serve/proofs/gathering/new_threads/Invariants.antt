use Rattle.std.proofs.Common.{◌≡◌, ◌+◌, ◌*◌, vec_len}
use Rattle.mlt_work_desk.specs.LogHandles.{IsWriterOf, past_of}
use Rattle.mlt_serve.proofs.gathering.new_threads.Given as goal

abbrev pub invariant-loop : goal.invariant-loop
invariant-loop g l = record {
  len : vec_len l.threads ≡ l.counter;
  parts : l.all.parts + 2 * l.counter ≡ 131;
  amount : l.all.amount ≡ 0;
  writer : IsWriterOf g.L.MadeWith.log_id l.writer;
  past : past_of l.writer ≡ past_of l.initial.writer;
}
