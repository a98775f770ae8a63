use Rattle.std.proofs.Common.{Bool, refl, subst, sym, ◌∙◌}
use Rattle.mlt_manager_solo.specs.Desks.{MeetsUndoing}
use Rattle.mlt_manager_solo.proofs.manager_desk.ManagerDeskDesk.abort.Goals as goal

pub returns-then-is_to_undo : goal.returns-then-is_to_undo
returns-then-is_to_undo g c = record {
  said = c.act.result;
  middle = c.act.new.self;
  meets = c.act.ensures.meets;
  undoes = subst (λ (b : Bool). MeetsUndoing g.P.Pseudo.bits_of b c.act.new.self c.args.tx c.act-told.new.self) (sym c.if-is_to_undo.true ∙ c.is_to_undo.ensures) (c.act-told.result, c.act-told.ensures.meets);
}

pub returns-else-is_to_undo : goal.returns-else-is_to_undo
returns-else-is_to_undo g c = record {
  said = c.act.result;
  middle = c.act.new.self;
  meets = c.act.ensures.meets;
  undoes = subst (λ (b : Bool). MeetsUndoing g.P.Pseudo.bits_of b c.act.new.self c.args.tx c.act.new.self) (sym c.if-is_to_undo.false ∙ c.is_to_undo.ensures) refl;
}
