use Rattle.std.proofs.Common.{◌≡◌, false, Option, Some, ap, sym, subst, ◌∙◌, inl, inr}
use Rattle.mlt_hash.proofs.Names.{local, view_over, SplitTarget, MayAdvance, SplitFields, steps_left, IsDone, IsNextPage, GoesOn, Rests, WalkFields, Phase}
use Rattle.mlt_hash.proofs.Splittings.{may_advance, no_room_in_split, refused_alike, split_closes_walk, split_goes_on, split_is_refused}
use Rattle.mlt_hash.proofs.adding.go_on_splitting.Goals as goal

pub advance-requires : goal.advance-requires
advance-requires g c =
    let was : c.args.walk.now.split ≡ Some c.deref_mut.result.now = sym (ap (λ (w : WalkFields). w.split) c.walk.view_is) ∙ ap (Rattle.std.specs.Option.option_map (λ b. b.value)) c.in-Some.is ∙ ap Some (sym c.deref_mut.ensures.value) in
    let ready = may_advance g.given.0 c.args.walk.now (local c.args.subtx.now c.args.pages.now) c.args.value c.args.room_depth c.deref_mut.result.now c.requires.1.1.1.0 was c.requires.1.1.1.1 in
    (c.requires.1.1.0 ∙ sym (ap (λ (a : SplitTarget). a.root) c.requires.1.0), subst (λ (a : SplitTarget). MayAdvance a (local c.args.subtx.now c.args.pages.now) c.deref_mut.result.now) (sym c.requires.1.0) ready)

pub returns-in-Going-clause-tells : goal.returns-in-Going-clause-tells
returns-in-Going-clause-tells g c =
    let was : c.args.walk.now.split ≡ Some c.deref_mut.result.now = sym (ap (λ (w : WalkFields). w.split) c.walk.view_is) ∙ ap (Rattle.std.specs.Option.option_map (λ b. b.value)) c.in-Some.is ∙ ap Some (sym c.deref_mut.ensures.value) in
    let tells = subst (λ (target : SplitTarget). GoesOn target (local c.advance.new.subtx c.advance.new.pages) c.deref_mut.result.now c.advance.new.self) c.requires.1.0 c.in-Going.ensures.tells in
    let done = subst (λ (target : SplitTarget). IsDone c.deref_mut.result.now.phase target (local c.args.subtx.now c.args.pages.now) (local c.advance.new.subtx c.advance.new.pages) c.deref_mut.result.now) c.requires.1.0 c.in-Going.ensures.steps in
    ((c.deref_mut.result.now, was, done), inl (split_goes_on g.given.0 c.args.walk.now _ (local c.args.subtx.now c.args.pages.now) (local c.advance.new.subtx c.advance.new.pages) c.args.value c.args.room_depth c.deref_mut.result.now c.requires.1.1.1.0 c.requires.1.1.1.1.stands was c.requires.1.1.1.1.may c.requires.1.1.1.1.file c.in-Going.ensures.leaves.touches done c.advance.new.self (ap (λ (w : WalkFields). record w { split = Some c.advance.new.self }) c.walk.view_is) tells))

pub returns-in-Closed-clause-tells : goal.returns-in-Closed-clause-tells
returns-in-Closed-clause-tells g c =
    let was : c.args.walk.now.split ≡ Some c.deref_mut.result.now = sym (ap (λ (w : WalkFields). w.split) c.walk.view_is) ∙ ap (Rattle.std.specs.Option.option_map (λ b. b.value)) c.in-Some.is ∙ ap Some (sym c.deref_mut.ensures.value) in
    let tells = subst (λ (target : SplitTarget). Rests target (local c.advance.new.subtx c.advance.new.pages) c.deref_mut.result.now c.in-Closed.bucket × (steps_left c.deref_mut.result.now ≡ 1)) c.requires.1.0 c.in-Closed.ensures.tells in
    let done = subst (λ (target : SplitTarget). IsDone c.deref_mut.result.now.phase target (local c.args.subtx.now c.args.pages.now) (local c.advance.new.subtx c.advance.new.pages) c.deref_mut.result.now) c.requires.1.0 c.in-Closed.ensures.steps in (
      (c.deref_mut.result.now, was, done),
      inr (split_closes_walk g.given.0 c.args.walk.now _ (local c.args.subtx.now c.args.pages.now) (local c.advance.new.subtx c.advance.new.pages) c.args.value c.args.room_depth c.deref_mut.result.now c.requires.1.1.1.0 c.requires.1.1.1.1.stands was c.requires.1.1.1.1.may c.requires.1.1.1.1.file c.in-Closed.ensures.leaves.touches done c.in-Closed.bucket (Some c.advance.new.self)
          (ap (λ (w : WalkFields). record w { phase = Phase.Adding c.args.value c.in-Closed.bucket c.args.room_depth false; split = Some c.advance.new.self }) c.walk.view_is) tells.0 tells.1),
    )

pub returns-in-Waiting-clause-tells : goal.returns-in-Waiting-clause-tells
returns-in-Waiting-clause-tells g c =
    let was : c.args.walk.now.split ≡ Some c.deref_mut.result.now = sym (ap (λ (w : WalkFields). w.split) c.walk.view_is) ∙ ap (Rattle.std.specs.Option.option_map (λ b. b.value)) c.in-Some.is ∙ ap Some (sym c.deref_mut.ensures.value) in
    let tells = c.in-Waiting.ensures.tells in
    let same : record c.args.walk.now { split = Some c.advance.new.self } ≡ c.args.walk.now = ap (λ (s : SplitFields). record c.args.walk.now { split = Some s }) tells.3 ∙ ap (λ (o : Option SplitFields). record c.args.walk.now { split = o }) (sym was) in
    ((c.deref_mut.result.now, was, subst (λ (target : SplitTarget). IsNextPage c.deref_mut.result.now.phase target (view_over target.before (local c.args.subtx.now c.args.pages.now)) c.in-Waiting.page) c.requires.1.0 tells.0), tells.1, tells.2, ap (λ (w : WalkFields). record w { split = Some c.advance.new.self }) c.walk.view_is ∙ same)

pub returns-in-Refused-clause-tells : goal.returns-in-Refused-clause-tells
returns-in-Refused-clause-tells g c =
    let was : c.args.walk.now.split ≡ Some c.deref_mut.result.now = sym (ap (λ (w : WalkFields). w.split) c.walk.view_is) ∙ ap (Rattle.std.specs.Option.option_map (λ b. b.value)) c.in-Some.is ∙ ap Some (sym c.deref_mut.ensures.value) in
    split_is_refused g.given.0 c.args.walk.now _ (local c.args.subtx.now c.args.pages.now) (local c.advance.new.subtx c.advance.new.pages) c.args.value c.args.room_depth c.deref_mut.result.now was g.given.1 c.advance.new.self c.in-Refused.refusal c.requires.1.0 (ap (λ (w : WalkFields). record w { split = Some c.advance.new.self }) c.walk.view_is) c.in-Refused.ensures.tells c.in-Refused.ensures.steps

pub returns-in-Refused-clause-no_room : goal.returns-in-Refused-clause-no_room
returns-in-Refused-clause-no_room g c =
    let was : c.args.walk.now.split ≡ Some c.deref_mut.result.now = sym (ap (λ (w : WalkFields). w.split) c.walk.view_is) ∙ ap (Rattle.std.specs.Option.option_map (λ b. b.value)) c.in-Some.is ∙ ap Some (sym c.deref_mut.ensures.value) in
    let exact = no_room_in_split c.args.walk.now c.deref_mut.result.now was c.advance.result c.advance.ensures.no_room in
    let alike = refused_alike c.advance.result c.in-Refused.refusal c.in-Refused.is in
    (λ is. exact.0 (alike.1 is), λ both. alike.0 (exact.1 both))
