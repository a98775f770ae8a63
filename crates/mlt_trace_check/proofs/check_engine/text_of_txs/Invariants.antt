use Rattle.std.proofs.Common.{◌≡◌, take, string_bytes}
use Rattle.mlt_trace_check.specs.OrderTexts.{serial_lines}
use Rattle.mlt_trace_check.proofs.check_engine.text_of_txs.Given as goal

abbrev pub invariant-loop-tx : goal.invariant-loop-tx
invariant-loop-tx l = string_bytes l.text ≡ serial_lines (take l.tx-index l.txs)
