-- Operations on two records come to an end
use Rattle.std.proofs.Common.{ℕ, ◌≡◌, ◌≤◌, ◌<◌, ◌+◌, ◌-◌, true, nat_eq, ap, subst, ◌∙◌, inl, inr, arith, eq-eqb, ne_eqb}
use Rattle.mlt_tx_two_records.proofs.Names.{cases_lt, cond-false, cond-true, ObjReply, Request, header_of, LocalState, HasWritten, View, view_of, nothing_written, page_of, steps_to_bucket, bucket_depth, directory_depth, steps_to_put, steps_to_put_at, WalkContext, Stands, WalkFields, context_after, one_key, view_for, Pass, Phase, put_on_way, TwoRecordAnswer, TwoRecordWalk, First, Owing, Wide, WideStage, TellsOfTwoRecords, GoesNearer}
use Rattle.mlt_hash.{specs.StepsLeft.steps_of_splits, specs.Walks.IsAdding, proofs.StepsLeft.put_is_left}
use Rattle.mlt_tx_two_records.{specs.TwoRecordWalks.most_to_change, specs.TwoRecordWalks.most_to_put, specs.TwoRecordWalks.steps_of_two_records, specs.WalkSteps.BeginsToSplit, specs.WidePass.HasChangedNow, specs.WidePass.WalksOn, proofs.SplitSteps.few_splits, proofs.WideDepths.reads_alike, proofs.WideOwn.not_first}

-- ---- one walk

at_bucket : (root : ℕ) (walk : WalkFields) (view : View) → steps_to_bucket walk.phase ≡ 0 → most_to_change root walk view ≡ steps_to_put root walk view
at_bucket root walk view there = cond-true (nat_eq (steps_to_bucket walk.phase) 0) _ _ (eq-eqb _ _ there)

on_way : (root : ℕ) (walk : WalkFields) (view : View) → 0 < steps_to_bucket walk.phase → most_to_change root walk view ≡ steps_to_bucket walk.phase + most_to_put
on_way root walk view more = cond-false (nat_eq (steps_to_bucket walk.phase) 0) _ _ (ne_eqb _ _ (λ (there : steps_to_bucket walk.phase ≡ 0). omega (arith, more, there)))

-- one step to the bucket, or of a split
nearer : (root : ℕ) (old new : View) (before after : WalkFields) → GoesNearer root old new before after → most_to_change root after new < most_to_change root before old
nearer root old new before after s =
    let near = s.nearer in
    let by_one = s.by_one in
    elim (cases_lt 0 (steps_to_bucket before.phase)) [
      | inr there ↦
          let was = at_bucket root before old (omega (arith, there)) in
          let is = at_bucket root after new (omega (arith, there, near)) in
          omega (arith, was, is, by_one, there)
      | inl more ↦
          let was = on_way root before old more in
          let put = put_on_way before.phase root before old more in
          elim (cases_lt 0 (steps_to_bucket after.phase)) [
            | inr there ↦
                let is = at_bucket root after new (omega (arith, there)) in
                omega (arith, was, put, is, by_one, near)
            | inl still ↦
                let is = on_way root after new still in
                let none = put_on_way after.phase root after new still in
                omega (arith, was, put, is, none, by_one)
          ]
    ]

same_depth : (context : WalkContext) (m : LocalState) → HasWritten context.before.written (view_of m) → directory_depth (view_for context m) context.root ≡ directory_depth (view_of m) context.root
same_depth context m written = ap (λ p. (header_of p).depth) (reads_alike context m written context.root)

-- at a full bucket that it is to split: of the wide pass to either key
splits : (context : WalkContext) (old : View) (new : LocalState) (before after : WalkFields) → context.max_depth ≤ 16 → HasWritten context.before.written (view_of new) → after.pass ≡ Pass.Wide → BeginsToSplit context new before after
    → most_to_change context.root after (view_of new) < most_to_change context.root before old
splits context old new before after small written wide s =
    let adding = s.needs.later (λ (first : s.walk.pass ≡ Pass.First). not_first after wide (s.needs.same.pass ∙ first)) in
    let phase : Phase = Phase.Adding s.value (page_of s.walk.phase) adding.0 true in
    let stands : IsAdding context after (view_for context new) (page_of s.walk.phase) adding.0 true = subst (λ (p : Phase). Stands p context after (view_for context new)) adding.1 s.needs.stands in
    let l = bucket_depth (view_of new) (page_of s.walk.phase) in
    let g = directory_depth (view_of new) context.root in
    let header : directory_depth (view_for context new) context.root ≡ stands.header.depth = ap (λ p. (header_of p).depth) stands.rest.head in
    let same = same_depth context new written in
    let shallow = stands.shallow in
    let most = stands.most in
    let few : steps_of_splits (adding.0 - l) l g ≤ 577 = few_splits adding.0 l g (omega (arith, most, small)) (omega (arith, header, same, shallow, small)) in
    let left : steps_to_put context.root after (view_of new) ≡ steps_of_splits (adding.0 - l) l g = ap (λ (p : Phase). steps_to_put_at p context.root after (view_of new)) adding.1 in
    let is = at_bucket context.root after (view_of new) s.at_bucket in
    let last = s.reaches.last in
    let was = on_way context.root before old (omega (arith, last)) in
    omega (arith, few, left, is, last, was)

walks_on : (context : WalkContext) (old new : LocalState) (before after : WalkFields) → context.max_depth ≤ 16 → HasWritten context.before.written (view_of new) → after.pass ≡ Pass.Wide → WalksOn context old new before after
    → most_to_change context.root after (view_of new) < most_to_change context.root before (view_of old)
walks_on context old new before after small written wide (inl goes) = nearer context.root (view_of old) (view_of new) before after goes
walks_on context old new before after small written wide (inr begins) = splits context (view_of old) new before after small written wide begins

change_is_left : (root : ℕ) (walk : WalkFields) (view : View) → HasChangedNow walk → 0 < most_to_change root walk view
change_is_left root walk view (inl last) =
    let was = on_way root walk view (omega (arith, last)) in
    omega (arith, was)
change_is_left root walk view (inr behind) =
    let bucket = behind.1 in
    let room_depth = behind.2 in
    let is = behind.3 in
    let l = bucket_depth view bucket in
    let g = directory_depth view root in
    let was = at_bucket root walk view (ap steps_to_bucket is) in
    let left : steps_to_put root walk view ≡ steps_of_splits (room_depth - l) l g = ap (λ (p : Phase). steps_to_put_at p root walk view) is in
    let more = put_is_left (room_depth - l) l g in
    omega (arith, was, left, more)

-- ---- both records

-- **Each step that goes on leaves fewer.**
pub one_fewer_at_least : (context : WalkContext) (request : Request) (old new : LocalState) (before after : TwoRecordWalk) → context.max_depth ≤ 16 → TellsOfTwoRecords context old new before after request TwoRecordAnswer.Going
    → steps_of_two_records context.root after (view_of new) < steps_of_two_records context.root before (view_of old)
one_fewer_at_least context request old new (First pair) (First pair') small (stands, (turn, steps)) =
    let most = steps.most in
    omega (arith, most)
one_fewer_at_least context request old new (First pair) (Owing pair' reply) small (stands, (turn, last)) = omega arith
one_fewer_at_least context request old new (First pair) (Wide WideStage.Own walk) small (stands, (full, again)) =
    let most = full.last.most in
    let three : steps_to_bucket walk.phase ≡ 3 = ap (λ (w : WalkFields). steps_to_bucket w.phase) again in
    let is = on_way context.root walk (view_of new) (omega (arith, three)) in
    omega (arith, most, three, is)
one_fewer_at_least context request old new (Wide WideStage.Own walk) (Wide WideStage.Own walk') small (stands, (turn, on)) =
    let less = walks_on (one_key context) old new walk walk' small (nothing_written (view_of new)) stands.to_key.wide on in
    omega (arith, less)
one_fewer_at_least context request old new (Wide WideStage.Own walk) (Wide WideStage.Size walk') small (stands, (turn, over)) =
    let some = change_is_left context.root walk (view_of old) over.changed in
    let two = over.steps in
    let is = on_way context.root walk' (view_of new) (omega (arith, two)) in
    omega (arith, some, two, is)
one_fewer_at_least context request old new (Wide WideStage.Size walk) (Wide WideStage.Size walk') small (stands, (turn, on)) =
    let less = walks_on (context_after on.since context) old new walk walk' small on.put.written stands.to_key.wide on.walks in
    omega (arith, less)
one_fewer_at_least context request old new other other' small (stands, never) = absurd never

-- **The step that tells the reply leaves the end.**
pub end_is_left : (context : WalkContext) (request : Request) (reply : ObjReply) (old new : LocalState) (before after : TwoRecordWalk) → TellsOfTwoRecords context old new before after request (TwoRecordAnswer.Told reply)
    → 1 < steps_of_two_records context.root before (view_of old)
end_is_left context request reply old new (First pair) after tells = omega arith
end_is_left context request reply old new (Owing pair told) after tells = omega arith
end_is_left context request reply old new (Wide WideStage.Own walk) after tells = omega arith
end_is_left context request reply old new (Wide WideStage.Size walk) (Wide WideStage.Size walk') (turn, changed, told) =
    let some = change_is_left context.root walk (view_of old) changed in
    omega (arith, some)
end_is_left context request reply old new (Wide WideStage.Size walk) other (turn, never, told) = absurd never
