use Rattle.std.proofs.Common.{Option, Some, None, IfSome, IfNone, MatchOption}
use Rattle.std.proofs.lemmas.{Bool.Decides.Decides-eqb, Slice.Eq.strip_suffix_is}
use Rattle.mlt_serve_admin.proofs.resources.before.Goals as goal

-- a fact for each variant, as two
each : {A : Type 0} (r : Option A) (P : Type 0) (Q : A → Type 0)
    → MatchOption r P Q → IfSome r Q × IfNone r P
each None P Q h = (tt, h)
each (Some x) P Q h = (h, tt)

pub returns : goal.returns
returns c =
    let is = strip_suffix_is Decides-eqb c.args.text.now c.args.bytes.now
    c.strip_suffix.result c.strip_suffix.ensures.cases in
    let h = each c.strip_suffix.result _ _ is in
    record { some = h.0; none = h.1 }
