use Rattle.std.proofs.Common.{◌≡◌, ◌<◌, ◌⊎◌, false, true, Some, refl, ap, sym, subst, ◌∙◌, inl, inr, Err, nat_cmp}
use Rattle.std.specs.FinSet as set
use Rattle.mlt_hash.proofs.Names.{Refusal, is_live_of, Page, Live, HasFileOver, LocalState, local, view_over, IsNowhere, SetsFirst, has_room, HasHalves, IsUnderWay, MayBegin, SplitTarget, IsAtRest, IsAdding, WalkContext, WalkFields, split_target, context_in, view_for, TellsOfAdding, walk_step, Phase, WalkAnswer}
use Rattle.mlt_hash_split.proofs.HeldPages.{clean_now}
use Rattle.mlt_hash.proofs.Puts.{adding_at, adding_plans, target_is, begin_is_refused, begins_split, begun_alike, found_below, full_is_shallow, has_to_split, may_begin, may_put, need_not_split, nowhere, put_has_room, put_tells}
use Rattle.mlt_hash.proofs.adding.add_or_split.{Given.Over, Goals.Start}
use Rattle.mlt_hash.proofs.adding.add_or_split.Goals as goal

-- where the walk stands
adding : (g : Over) (c : Start g) → IsAdding g.given.0 c.args.walk.now (view_for g.given.0 (local c.args.subtx.now c.args.pages.now)) c.args.number c.args.room_depth c.args.unsplit
adding g c = adding_at g.given.0 c.args.walk.now (local c.args.subtx.now c.args.pages.now) c.args.value c.args.number c.args.room_depth c.args.unsplit c.requires.1.1.1.0 c.requires.1.1.1.1.stands

pub plan_to_put-requires-clause-found : goal.plan_to_put-requires-clause-found
plan_to_put-requires-clause-found g c =
    let adds = adding g (goal.at.plan_to_put-requires-clause-found g c).Start in
    (adds.fields, found_below g.given.0 (local c.args.subtx.now c.args.pages.now) c.args.number (Some (Page.Bucket adds.fields)) c.requires.1.1.1.1.written adds.rest.found, nowhere (is_live_of c.args.walk.now.key) adds.fields.slots adds.rest.absent)

pub write_change-requires-clause-held : goal.write_change-requires-clause-held
write_change-requires-clause-held g c =
    let adds = adding g (goal.at.write_change-requires-clause-held g c).Start in
    let planned = c.in-Some.ensures adds.fields (found_below g.given.0 (local c.args.subtx.now c.args.pages.now) c.args.number (Some (Page.Bucket adds.fields)) c.requires.1.1.1.1.written adds.rest.found) in
    may_put g.given.0 c.args.walk.now (local c.args.subtx.now c.args.pages.now) c.args.number c.args.room_depth c.args.unsplit adds (has_room c.args.environment.now.active.now) (Live c.args.walk.now.key c.args.value) c.in-Some.write planned.1

pub write_change-requires-clause-planned : goal.write_change-requires-clause-planned
write_change-requires-clause-planned g c =
    let adds = adding g (goal.at.write_change-requires-clause-planned g c).Start in
    let planned = c.in-Some.ensures adds.fields (found_below g.given.0 (local c.args.subtx.now c.args.pages.now) c.args.number (Some (Page.Bucket adds.fields)) c.requires.1.1.1.1.written adds.rest.found) in
    adding_plans g.given.0 c.args.walk.now (local c.args.subtx.now c.args.pages.now) c.args.number c.args.room_depth c.args.unsplit c.requires.1.1.1.1.written adds (has_room c.args.environment.now.active.now) (Live c.args.walk.now.key c.args.value) c.in-Some.write planned.1

pub returns-in-Some-clause-tells : goal.returns-in-Some-clause-tells
returns-in-Some-clause-tells g c =
    let adds = adding g (goal.at.returns-in-Some-clause-tells g c).Start in
    let planned = c.in-Some.ensures adds.fields (found_below g.given.0 (local c.args.subtx.now c.args.pages.now) c.args.number (Some (Page.Bucket adds.fields)) c.requires.1.1.1.1.written adds.rest.found) in
    let phase = c.requires.1.1.1.0 ∙ ap (Phase.Adding c.args.value c.args.number c.args.room_depth) planned.0 in
    let split = adding_at g.given.0 c.args.walk.now (local c.args.subtx.now c.args.pages.now) c.args.value c.args.number c.args.room_depth false phase c.requires.1.1.1.1.stands in
    let again = c.in-Some.ensures split.fields (found_below g.given.0 (local c.args.subtx.now c.args.pages.now) c.args.number (Some (Page.Bucket split.fields)) c.requires.1.1.1.1.written split.rest.found) in
    put_tells g.given.0 c.args.walk.now c.write_change.new.walk (local c.args.subtx.now c.args.pages.now) (local c.write_change.new.subtx c.write_change.new.pages) c.args.value c.args.number c.args.room_depth phase split c.in-Some.write (subst (λ (o : set.FinSet nat_cmp). SetsFirst c.args.number split.fields (has_room o) (Live c.args.walk.now.key c.args.value) c.in-Some.write) (ap (λ (b : WalkContext). b.active) c.requires.1.1.0) again.1) (clean_now (split_target g.given.0 c.args.walk.now c.args.room_depth) (local c.args.subtx.now c.args.pages.now) c.requires.1.1.1.1.may c.requires.1.1.1.1.file) c.requires.1.1.1.1.written c.write_change.result c.write_change.ensures.tells

pub begin-requires : goal.begin-requires
begin-requires g c κs within =
    let adds = adding_at g.given.0 c.args.walk.now (local c.args.subtx.now c.args.pages.now) c.args.value c.args.number c.args.room_depth c.args.unsplit c.requires.1.1.1.0 c.requires.1.1.1.1.stands in
    let target : SplitTarget = split_target g.given.0 c.args.walk.now c.args.room_depth in
    let clean = clean_now target (local c.args.subtx.now c.args.pages.now) c.requires.1.1.1.1.may c.requires.1.1.1.1.file in
    let shallow : adds.fields.depth < c.args.room_depth = elim (subst (λ (o : set.FinSet nat_cmp). (c.args.unsplit ≡ true) ⊎ IsNowhere (has_room o) adds.fields.slots) (ap (λ (b : WalkContext). b.active) c.requires.1.1.0) (c.in_default.ensures adds.fields (found_below g.given.0 (local c.args.subtx.now c.args.pages.now) c.args.number (Some (Page.Bucket adds.fields)) c.requires.1.1.1.1.written adds.rest.found))) [
      | inl unsplit ↦ adds.unsplit_is unsplit
      | inr full ↦ full_is_shallow target (view_for g.given.0 (local c.args.subtx.now c.args.pages.now)) c.args.number adds.header adds.fields adds.rest clean full
    ] in
    let begins : MayBegin target (view_for g.given.0 (local c.args.subtx.now c.args.pages.now)) c.args.number = may_begin g.given.0 c.args.walk.now (local c.args.subtx.now c.args.pages.now) c.args.number c.args.room_depth c.args.unsplit c.requires.1.1.1.1.may c.requires.1.1.1.1.file adds shallow in
    let key : c.walk.inside.key ≡ c.args.walk.now.key = ap (λ (w : WalkFields). w.key) c.walk.view_is in
    let same = target_is (context_in g.P.Pseudo.bits_of c.args.environment.now c.args.subtx.now.tx) g.given.0 c.requires.1.1.0 c.args.walk.now c.walk.inside.key g.given.1 c.args.room_depth key c.requires.1.0 in
    let ready = c.requires.1.1.1.1 in
    (within, (refl, (ready.may, (ready.written, (subst (λ (a : SplitTarget). HasFileOver a.bits a.root a.before (local c.args.subtx.now c.args.pages.now)) (sym same) ready.file, subst (λ (a : SplitTarget). MayBegin a (view_over a.before (local c.args.subtx.now c.args.pages.now)) c.args.number) (sym same) begins)))))

pub returns-in-Ok-clause-tells : goal.returns-in-Ok-clause-tells
returns-in-Ok-clause-tells g c =
    let adds = adding g (goal.at.returns-in-Ok-clause-tells g c).Start in
    let new : LocalState = local c.begin.new.subtx c.begin.new.pages in
    let needed = has_to_split g.given.0 c.args.walk.now (local c.args.subtx.now c.args.pages.now) c.args.value c.args.number c.args.room_depth c.args.unsplit c.requires.1.1.1.0 adds (subst (λ (o : set.FinSet nat_cmp). (c.args.unsplit ≡ true) ⊎ IsNowhere (has_room o) adds.fields.slots) (ap (λ (b : WalkContext). b.active) c.requires.1.1.0) (c.in_default.ensures adds.fields (found_below g.given.0 (local c.args.subtx.now c.args.pages.now) c.args.number (Some (Page.Bucket adds.fields)) c.requires.1.1.1.1.written adds.rest.found))) in
    let key : c.walk.inside.key ≡ c.args.walk.now.key = ap (λ (w : WalkFields). w.key) c.walk.view_is in
    let same = target_is (context_in g.P.Pseudo.bits_of c.args.environment.now c.args.subtx.now.tx) g.given.0 c.requires.1.1.0 c.args.walk.now c.walk.inside.key g.given.1 c.args.room_depth key c.requires.1.0 in
    let under_way = subst (λ (a : SplitTarget). IsUnderWay a (view_over a.before new) c.in-Ok.split) same c.in-Ok.ensures.under_way in
    let rest = subst (λ (a : SplitTarget). IsAtRest a (view_over a.before (local c.args.subtx.now c.args.pages.now)) c.args.number adds.header adds.fields) (sym same) adds.rest in
    let depths = c.in-Ok.ensures.depths adds.header adds.fields rest in
    let halves = subst (λ (a : SplitTarget). HasHalves a new.store.pages adds.fields c.in-Ok.split) same (c.in-Ok.ensures.halves adds.fields adds.rest.found) in
    elim c.keep_split.ensures.told [
      | inl going ↦
          let begun = begins_split g.given.0 c.args.walk.now c.keep_split.new.walk (local c.args.subtx.now c.args.pages.now) new c.args.value c.args.number c.args.room_depth c.args.unsplit c.in-Ok.split c.in-Ok.ensures.makes.0 c.requires.1.1.1.1.may c.requires.1.1.1.1.written c.in-Ok.ensures.makes.1 adds needed under_way c.in-Ok.ensures.steps depths.0 depths.1 halves (c.keep_split.ensures.kept going) in
          subst (λ r. TellsOfAdding g.given.0 (walk_step (local c.args.subtx.now c.args.pages.now) new c.args.walk.now c.keep_split.new.walk) c.args.value c.args.number c.args.room_depth r) (sym going) begun
      | inr refused ↦ subst (λ r. TellsOfAdding g.given.0 (walk_step (local c.args.subtx.now c.args.pages.now) new c.args.walk.now c.keep_split.new.walk) c.args.value c.args.number c.args.room_depth r) (sym refused) refl
    ]

pub returns-in-Some-clause-no_room : goal.returns-in-Some-clause-no_room
returns-in-Some-clause-no_room g c =
    let adds = adding g (goal.at.returns-in-Some-clause-no_room g c).Start in
    let planned = c.in-Some.ensures adds.fields (found_below g.given.0 (local c.args.subtx.now c.args.pages.now) c.args.number (Some (Page.Bucket adds.fields)) c.requires.1.1.1.1.written adds.rest.found) in
    let clean = clean_now (split_target g.given.0 c.args.walk.now c.args.room_depth) (local c.args.subtx.now c.args.pages.now) c.requires.1.1.1.1.may c.requires.1.1.1.1.file in (
      λ is. absurd (put_has_room (local c.args.subtx.now c.args.pages.now) (local c.write_change.new.subtx c.write_change.new.pages) c.args.walk.now c.write_change.new.walk c.in-Some.write c.args.value c.write_change.result c.write_change.ensures.tells is),
      λ both. absurd (need_not_split g.given.0 c.args.walk.now (local c.args.subtx.now c.args.pages.now) c.args.value c.args.number c.args.room_depth c.args.unsplit c.requires.1.1.1.0 adds (Live c.args.walk.now.key c.args.value) c.in-Some.write clean planned.0 (subst (λ (o : set.FinSet nat_cmp). SetsFirst c.args.number adds.fields (has_room o) (Live c.args.walk.now.key c.args.value) c.in-Some.write) (ap (λ (b : WalkContext). b.active) c.requires.1.1.0) planned.1) both.0),
    )

pub returns-in-Ok-clause-no_room : goal.returns-in-Ok-clause-no_room
returns-in-Ok-clause-no_room g c = (
  λ is. elim c.keep_split.ensures.told [
    | inl going ↦ let both : WalkAnswer.Refused Refusal.NoRoom ≡ WalkAnswer.Going = sym is ∙ going in cc
    | inr memory ↦ let both : WalkAnswer.Refused Refusal.NoRoom ≡ WalkAnswer.Refused Refusal.OutOfMemory = sym is ∙ memory in cc
  ],
  λ both. let none = sym c.in-Ok.is ∙ c.begin.ensures.no_room.1 both.1 in cc,
)

pub returns-in-Err-clause-no_room : goal.returns-in-Err-clause-no_room
returns-in-Err-clause-no_room g c =
    let adds = adding g (goal.at.returns-in-Err-clause-no_room g c).Start in
    let needed = has_to_split g.given.0 c.args.walk.now (local c.args.subtx.now c.args.pages.now) c.args.value c.args.number c.args.room_depth c.args.unsplit c.requires.1.1.1.0 adds (subst (λ (o : set.FinSet nat_cmp). (c.args.unsplit ≡ true) ⊎ IsNowhere (has_room o) adds.fields.slots) (ap (λ (b : WalkContext). b.active) c.requires.1.1.0) (c.in_default.ensures adds.fields (found_below g.given.0 (local c.args.subtx.now c.args.pages.now) c.args.number (Some (Page.Bucket adds.fields)) c.requires.1.1.1.1.written adds.rest.found))) in
    let alike = begun_alike c.begin.result c.in-Err.refusal c.in-Err.is in
    (λ is. (needed, c.begin.ensures.no_room.0 (alike.1 is)), λ both. alike.0 (c.begin.ensures.no_room.1 both.1))

pub returns-in-Err-clause-tells : goal.returns-in-Err-clause-tells
returns-in-Err-clause-tells g c =
    let adds = adding g (goal.at.returns-in-Err-clause-tells g c).Start in
    let needed = has_to_split g.given.0 c.args.walk.now (local c.args.subtx.now c.args.pages.now) c.args.value c.args.number c.args.room_depth c.args.unsplit c.requires.1.1.1.0 adds (subst (λ (o : set.FinSet nat_cmp). (c.args.unsplit ≡ true) ⊎ IsNowhere (has_room o) adds.fields.slots) (ap (λ (b : WalkContext). b.active) c.requires.1.1.0) (c.in_default.ensures adds.fields (found_below g.given.0 (local c.args.subtx.now c.args.pages.now) c.args.number (Some (Page.Bucket adds.fields)) c.requires.1.1.1.1.written adds.rest.found))) in
    begin_is_refused g.given.0 c.args.walk.now _ (local c.args.subtx.now c.args.pages.now) (local c.begin.new.subtx c.begin.new.pages) c.args.value c.args.number c.args.room_depth c.in-Err.refusal c.walk.view_is needed
    (λ room. c.begin.ensures.no_room.0 (c.in-Err.is ∙ ap Err room)) c.in-Err.ensures.refusal
