use Rattle.std.proofs.Common.{◌≤◌, ap, subst, sym}
use Rattle.mlt_manager.proofs.Names.{HeadFields, HasDepth, fields_of}
use Rattle.mlt_manager.proofs.Depths.{has_depth}
use Rattle.mlt_manager.proofs.parts.Parts.depth.Goals as goal

pub returns : goal.returns
returns g c =
    let depth = ap (λ (head : HeadFields). head.depth) (sym c.head.view_is) in
    let has = has_depth _ _ c.requires.sound c.clean_head-head.result.now c.clean_head-head.ensures.head in
    record { depth = subst (HasDepth (fields_of c.args.self.now)) depth has.0; most = subst (λ n. n ≤ 16) depth has.1 }
