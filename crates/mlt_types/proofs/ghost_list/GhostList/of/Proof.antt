-- `of` makes a value of no bytes, whose ghost field is the ghost value.
use mathlib.Core.Path.{refl}
use mathlib.Core.List.{[], ◌∷◌}
use seplogic.Ra.Ura.{Ura}
use mir.Syntax.{Fn, a_type, named}
use mir.Val.{Val, vptr, vstruct, vcons, vnil}
use mir.MapTy.{inst_fn}
use base.Logic.{SProp}
use prog.Memory.{Memory}
use prog.Routine.{Routine}
use prog.Wp.{WpFn, Tables}
use types.Logic.{Logic}
use contract.Monad.{Fun}
use contract.Running.{tables, tables_of}
use sound.WpLaws.{WpFn-mono}
use types.Kit.{‵, raw, ◌⊛◌, ◌$◌, ◌∵◌, !, qed, keep, split, move, suffices, done}
use types.Run.{no_more, and_then, returns, enter}
use types.Part.{agg}
use types.ByLocal.{alloc_all, pass_all, free_all, look_at, get, sets}
use denote.RattleType.{RattleType, owns}
use denote.Exit.{yes}
use denote.Param.{param, layouts}
use denote.Ref.{shr_Tells, shr_vals}
use denote.Shadow.{pure_i}
use denote.Signature.{plain, types_at}
use denote.Triple.Clauses.{Ended, Clauses, closing}
use denote.Triple.Entry.{Res, alive}
use denote.Triple.Spec.{Meets}
use denote.Triple.Table.{entered}
use denote.Triple.Walked.{Goes-none_ref, Stays, Walks, ends_at, says, stay_none_ref, walk_Meets, walked}
use Rattle.mlt_types.specs.contracts.ghost_list.GhostList as list
use Rattle.mlt_types.specs.contracts.ghost_list.GhostList.of as f
use Rattle.mlt_types.proofs.ghost_list.GhostList.of.Statement as stated
use Rattle.mlt_types.proofs.ghost_list.GhostList.of.Code as code

module _ (T A B : RattleType) where
  abbrev function : Fn
  function = inst_fn (layouts (a_type ∷ a_type ∷ a_type ∷ []) (T, (A, (B, tt)))) code.function

  abbrev ended : Ended
  ended = f.ended T A B

  abbrev stayed : Stays ended.signature.params ended.kept
  stayed = (stay_none_ref (0 ∷ []) tt (plain (λ _. param 1 A)) yes, (stay_none_ref (1 ∷ []) tt (plain (λ _. param 2 B)) yes, tt))

  module _ {M : Type 1} {𝓤 : Ura M} (𝓛 : Logic 𝓤) (mem : Memory → SProp 𝓤) (run : Routine → Fun 𝓤) (𝓣 : Tables 𝓤 𝓛.H) where
    abbrev held : Clauses 𝓤 ended
    held = f.clauses T A B 𝓛 mem run

    abbrev runs : Fun 𝓤
    runs = WpFn 𝓤 𝓛.H 𝓣.C 𝓣.Λ function

    walks : Walks 𝓛 ended stayed runs held
    walks =
        walked 𝓛 ended stayed held runs (λ κs. (shr_vals, (shr_vals, tt)))
        (λ κs. (shr_Tells (named 0) κs.0 (param 1 A), (shr_Tells (named 1) κs.1.0 (param 2 B), tt)))
        (λ κs qs bounds a g are.
        let p : Val = vptr a.0.ref_ptr.0 a.0.ref_ptr.1 in
        let q : Val = vptr a.1.0.ref_ptr.0 a.1.0.ref_ptr.1 in
        let v : Val = vstruct (vcons (vstruct vnil) vnil) in
        let made : Res ended.signature κs = record { marker = record {}; items = g } in
        qed 𝓛 ((raw (alive 𝓛 ended.signature κs qs) ⊛ ‵ (owns (types_at ended.signature.params κs) a (p ∷ [], (q ∷ [], tt)))) ∷ raw ((held κs a).requires g) ∷ []) ∵
        keep ! (0 ∷ []) $ split ! $ enter ! 𝓣.C 𝓣.Λ function (p ∷ q ∷ []) _ $
        alloc_all ! (λ l. pass_all ! refl ((tt, tt), ((tt, tt), tt)) $ sets ! (agg ! (no_more !)) refl (tt, tt) $
        sets ! (agg ! (and_then ! (get ! refl) (no_more !))) refl (tt, (tt, tt)) $ returns ! (look_at ! 0 refl) $ free_all ! refl $
        suffices ! _ (ends_at 𝓛 ended stayed held ((κs, qs, bounds, a, (p ∷ [], (q ∷ [], tt))), g) v made (tt, (tt, tt)) (tt, (tt, tt))) $ says ! refl $
        pure_i ! ((list.the_row (param 0 T)).own_val made (v ∷ [])) ((λ vss. (tt, ((λ uss. (tt, tt)), tt))), tt) (((vstruct vnil ∷ [], tt), (refl, ((tt, (refl, tt)), tt))), tt) $
        move ! (1 ∷ 2 ∷ 0 ∷ []) $ done !))

    meets : Meets 𝓛 ended.signature runs (closing 𝓛 ended held)
    meets =
        walk_Meets 𝓛 ended stayed (Goes-none_ref 𝓛 5 (0 ∷ []) tt (plain (λ _. param 1 A)) yes, (Goes-none_ref 𝓛 5 (1 ∷ []) tt (plain (λ _. param 2 B)) yes, tt)) held
        runs (WpFn-mono 𝓤 𝓛.H 𝓛.laws 𝓣 function) walks

pub of_spec : {M : Type 1} → stated.statement M
unfolding tables_of
of_spec 𝓤 𝓛 𝓜 𝓡 wired T A B LT LA LB =
    let 𝓣 : Tables 𝓤 𝓛.H = tables_of 𝓤 𝓛.H 𝓜 (tables 𝓤 𝓛.H 𝓜 𝓡 𝓡.env) in
    entered 𝓤 𝓛.H _ 𝓣.C 𝓣.Λ _ (function T A B) (code.unfolded 𝓤 𝓛.H 𝓜 𝓡 wired (T, (A, (B, tt)))) (meets T A B 𝓛 𝓜.mem 𝓡.returns 𝓣)
