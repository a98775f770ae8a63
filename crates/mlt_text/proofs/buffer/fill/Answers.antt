use Rattle.std.proofs.Common.{◌≡◌, ◌≤◌, ℕ, length, ◌+◌, ◌∙◌, arith, length-take, length-drop}
use Rattle.mlt_text.proofs.Filling.{filled}
use Rattle.mlt_text.proofs.buffer.fill.Goals as goal

pub returns-clause-ok : goal.returns-clause-ok
returns-clause-ok g c =
    let r = c.requires.room in
    let m = c.requires.most in
    let within : c.args.held + c.min-room.result ≤ length c.args.buffer.now = omega (arith, c.min-room.ensures) in
    let same : length c.read_some.new.buffer ≡ c.min-room.result = c.read_some.auto.buffer ∙ omega (arith, length-take {A = ℕ}, length-drop {A = ℕ}) in
    filled c.read_some.result c.args.buffer.now c.read_some.new.buffer _ c.args.held c.min-room.result c.args.most _ _ within same (omega (arith, c.min-room.ensures)) (omega (arith, c.min-room.ensures))
    c.read_some.ensures.bound c.read_some.ensures.bytes
