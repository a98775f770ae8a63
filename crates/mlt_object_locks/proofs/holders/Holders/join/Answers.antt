use Rattle.std.proofs.Common.{◌≡◌, false, subst, ◌∷◌, ap, sym, ◌∙◌}
use Rattle.mlt_object_locks.proofs.Names.{list_any, AreOnce, holder_of, is_of}
use Rattle.mlt_object_locks.proofs.{Covering.covers_joined, Holding.joined_once, Holding.joins_none, Holding.joins_one}
use Rattle.mlt_object_locks.proofs.holders.Holders.join.Goals as goal

pub returns-then-has-clause-joins : goal.returns-then-has-clause-joins
returns-then-has-clause-joins c =
    joins_none c.args.self.now c.args.tx (ap (list_any (is_of c.args.tx)) (sym (c.deref.ensures ∙ c.self.view_is)) ∙ sym c.has.ensures ∙ c.if-has.true)

pub returns-clause-joins : goal.returns-clause-joins
returns-clause-joins c =
    joins_one c.args.self.now c.insert.new.self.items c.args.tx
    (c.in_ok-insert.ensures.ok ∙ ap (λ l. holder_of c.args.tx c.new-classes.result ∷ l) c.self.view_is ∙ ap (λ n. holder_of c.args.tx n ∷ c.args.self.now) c.new-classes.ensures)

pub invariant_of-self-2 : goal.invariant_of-self-2
invariant_of-self-2 c =
    let holders = c.self.inside.holders.items in
    let holder = holder_of c.args.tx c.new-classes.result in
    let none : list_any (is_of c.args.tx) holders ≡ false = ap (list_any (is_of c.args.tx)) (sym c.deref.ensures) ∙ sym c.has.ensures ∙ c.if-has.false in
    record {
      once = subst AreOnce (sym c.in_ok-insert.ensures.ok) (joined_once holders holder c.self.invariant.once none);
      covers = covers_joined _ _ _ c.args.tx (joins_one holders c.insert.new.self.items c.args.tx (c.in_ok-insert.ensures.ok ∙ ap (λ n. holder_of c.args.tx n ∷ holders) c.new-classes.ensures)) c.self.invariant.covers;
    }
