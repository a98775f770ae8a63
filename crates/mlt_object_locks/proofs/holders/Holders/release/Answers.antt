use Rattle.std.proofs.Common.{◌∙◌, ap, sym, subst, filter, position, remove}
use Rattle.mlt_object_locks.proofs.Names.{is_not_of, is_of}
use Rattle.mlt_object_locks.{specs.Holders.Covers, proofs.Covering.none_goes, proofs.Covering.one_less}
use Rattle.mlt_object_locks.proofs.holders.Holders.release.Goals as goal

pub all_of-self-inside-requires : goal.all_of-self-inside-requires
all_of-self-inside-requires c =
    let at = ap (position (is_of c.args.tx)) (sym c.deref.ensures) ∙ sym c.place_of.ensures ∙ c.in-Some.is in
    subst (Covers c.self.inside.all) (sym c.deref-2.ensures) (one_less c.self.inside.holders.items c.remove.new.self.items c.self.inside.all c.args.tx c.in-Some.at c.self.invariant at c.remove.ensures.items).1.covers

pub invariant_of-self : goal.invariant_of-self
invariant_of-self c =
    let at = ap (position (is_of c.args.tx)) (sym c.deref.ensures) ∙ sym c.place_of.ensures ∙ c.in-Some.is in record {
      once = (one_less c.self.inside.holders.items c.remove.new.self.items c.self.inside.all c.args.tx c.in-Some.at c.self.invariant at c.remove.ensures.items).1.once;
      covers = subst (Covers c.all_of-self-inside.result) c.deref-2.ensures c.all_of-self-inside.ensures;
    }

pub returns : goal.returns
returns c =
    let at = ap (position (is_of c.args.tx)) (sym c.deref.ensures) ∙ sym c.place_of.ensures ∙ c.in-Some.is in
    (one_less c.self.inside.holders.items c.remove.new.self.items c.self.inside.all c.args.tx c.in-Some.at c.self.invariant at c.remove.ensures.items).0
    ∙ ap (filter (is_not_of c.args.tx)) c.self.view_is

pub returns-in_default : goal.returns-in_default
returns-in_default c =
    sym c.self.view_is ∙ sym (none_goes c.self.inside.holders.items c.args.tx (ap (position (is_of c.args.tx)) (sym c.deref.ensures) ∙ sym c.place_of.ensures ∙ c.in_default.is))
    ∙ ap (filter (is_not_of c.args.tx)) c.self.view_is
