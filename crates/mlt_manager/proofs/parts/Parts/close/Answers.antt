use Rattle.std.proofs.Common.{refl, ◌∙◌, arith}
use Rattle.mlt_manager.proofs.parts.Parts.close.Goals as goal

pub returns-clause-ends : goal.returns-clause-ends
returns-clause-ends g c = record {
  one = c.requires.idle.one;
  there = c.requires.idle.there;
  idle = c.requires.idle.idle;
  pages = refl;
  held = c.release_all.ensures.held;
  unreserved = c.release_all.ensures.released;
  reserved = c.release_all.ensures.others;
  items = c.release.ensures.items ∙ c.push.ensures.items;
  room = omega (arith, c.requires.idle.counts, c.release.ensures.room, c.push.ensures.room);
  txs = c.remove.ensures;
  active = c.remove-2.ensures;
}
