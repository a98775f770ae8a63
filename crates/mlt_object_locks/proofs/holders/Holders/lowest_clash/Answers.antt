use Rattle.std.proofs.Common.{◌≡◌, ℕ, List, true, true≢false, Option, None, sym, subst, ◌∙◌}
use Rattle.mlt_object_locks.proofs.Names.{list_all, AreInTheWay, Holder, ObjOp, ObjReply, IsInTheWay, IsLowestInTheWay, IsLowestOf, StandsAgainst, is_of}
use Rattle.mlt_object_locks.proofs.{Covering.nobody_in_the_way, Holding.alone, Holding.stands_against, Holding.stands_in_the_way, Lowest.same_lowest}
use Rattle.mlt_object_locks.proofs.holders.Holders.lowest_clash.Goals as goal

pub returns-then-is_alone : goal.returns-then-is_alone
returns-then-is_alone c =
    let all : list_all (is_of c.args.tx) c.args.self.now ≡ true = sym c.is_alone.ensures ∙ c.if-is_alone.true in
    alone c.args.self.now c.args.tx c.args.done.now all

stands : (holders : List Holder) (tx against : ℕ) (requested : ObjOp × ObjReply) (lowest : Option ℕ) → AreInTheWay against requested → IsLowestInTheWay holders tx against lowest → IsLowestOf (StandsAgainst holders tx requested) lowest
stands holders tx against requested lowest way here =
    same_lowest (IsInTheWay holders tx against) (StandsAgainst holders tx requested) (stands_against holders tx against requested way) (stands_in_the_way holders tx against requested way) lowest here

pub returns-then-not-meets : goal.returns-then-not-meets
returns-then-not-meets c =
    stands c.args.self.now c.args.tx c.in_the_way_of-against.result c.args.done.now None c.in_the_way_of-against.ensures
    (subst (λ l. IsLowestInTheWay l c.args.tx c.in_the_way_of-against.result None) c.self.view_is
    (nobody_in_the_way c.self.inside.holders.items c.self.inside.all c.args.tx c.in_the_way_of-against.result c.self.invariant.covers (λ meets. true≢false (sym (c.meets.ensures.1 meets) ∙ c.if-not-meets.true))))

pub returns : goal.returns
returns c =
    stands c.args.self.now c.args.tx c.in_the_way_of-against.result c.args.done.now c.lowest_in_the_way.result c.in_the_way_of-against.ensures
    (subst (λ l. IsLowestInTheWay l c.args.tx c.in_the_way_of-against.result c.lowest_in_the_way.result) (c.deref.ensures ∙ c.self.view_is) c.lowest_in_the_way.ensures)
