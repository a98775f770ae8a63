use Rattle.std.proofs.Common.{◌≡◌, ◌++◌, flat_map, string_bytes}
use Rattle.mlt_object_base.proofs.Names.{value_line}
use Rattle.mlt_object_base.proofs.text.push_counters.Given as goal

-- what is written, and the lines of what is left, are what stood there and all lines
abbrev pub invariant-loop-counter : goal.invariant-loop-counter
invariant-loop-counter l = string_bytes l.text ++ flat_map value_line l.counter-iterator ≡ string_bytes l.initial.text ++ flat_map value_line l.values.entries
