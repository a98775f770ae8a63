use Rattle.std.proofs.Common.{refl, ap, ◌∙◌, ◌+◌, List, [], ◌∷◌, ◌++◌, arith}
use Rattle.mlt_manager.proofs.Names.{TraceItem, fields_of}
use Rattle.mlt_manager.proofs.Refusing.{told_ok}
use Rattle.mlt_manager.proofs.parts.Parts.begin.Goals as goal

pub returns-clause-answers : goal.returns-clause-answers
returns-clause-answers g c = let begins = told_ok c.begin.result c.in_default.not-Err c.begin.ensures.begins in record {
  free = omega (arith, c.if-len-self.false, c.len.ensures);
  left = c.if-self.false;
  number = refl;
  one = begins.one;
  subtx = begins.nothing.subtx;
  entries = begins.nothing.entries;
  idle = begins.nothing.idle;
  pages = refl;
  objects = refl;
  items = c.push.ensures.items ∙ ap (λ (l : List TraceItem). l ++ TraceItem.Begin (c.args.self.now.begun + 1) ∷ []) c.reserve.ensures.items;
  room = omega (arith, c.push.ensures.room, c.in_ok-reserve.ensures.room);
  rest = λ i. record (fields_of c.args.self.now) {
    shared = record c.args.self.now.shared { history = c.push.new.self };
    txs = begins.is i;
    active = c.insert.ensures i;
    begun = c.args.self.now.begun + 1;
  };
}
