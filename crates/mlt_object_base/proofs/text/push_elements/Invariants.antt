use Rattle.std.proofs.Common.{◌≡◌, ◌++◌, flat_map, string_bytes}
use Rattle.mlt_object_base.proofs.Names.{key_line}
use Rattle.mlt_object_base.proofs.text.push_elements.Given as goal

-- what is written, and the lines of what is left, are what stood there and all lines
abbrev pub invariant-loop-key : goal.invariant-loop-key
invariant-loop-key l = string_bytes l.text ++ flat_map key_line l.key-iterator ≡ string_bytes l.initial.text ++ flat_map key_line l.keys.keys
