-- Operations come to an end
use Rattle.std.proofs.Common.{ℕ, ◌≡◌, ◌≤◌, ◌<◌, ◌+◌, ◌*◌, ◌-◌, ◌⊎◌, Bool, true, nat_eq, Option, None, sym, ap, subst, ◌∙◌, inl, inr, arith, eq-eqb, ne_eqb}
use Rattle.std.proofs.lemmas.Bool.{cases_lt, cond-false, cond-true}
use Rattle.mlt_tx_operation.proofs.Names.{ObjReply, Request, LocalState, View, view_of, page_of, next_of, steps_to_bucket, bucket_depth, directory_depth, steps_to_put_at, WalkContext, Stands, WalkFields, one_key, Pass, Phase, put_on_way, StepAnswer, steps_of_two_records, TwoRecordWalk, First, Wide, WideStage, AccessPath, One, Two, HasToRestart, TellsOfStep, most_steps_by, OperatesBy, OperationFields, steps_of_walk}
use Rattle.mlt_hash_form.specs.File.{header_of}
use Rattle.mlt_hash.specs.{Passes.IsNextPass, StepsLeft.steps_of_splits, Walks.IsAdding, Walks.IsStanding}
use Rattle.mlt_tx_two_records.{specs.TwoRecordWalks.most_to_change, specs.TwoRecordWalks.most_to_put, specs.WalkSteps.GoesNearer, proofs.SplitSteps.few_splits}
use Rattle.mlt_tx_operation.specs.Answers.{TwoRecordRestarts, PutsBehindSplits, RestartsBy, SplitsBy, StepsBy, WalkBeginsToSplit, WalkGoesOn, WalkRestarts}
use Rattle.mlt_tx_operation.specs.{MostSteps.most_from_bucket, MostSteps.most_steps, MostSteps.most_steps_of_walk, MostSteps.passes_after, Operating.IsInFirst, Operating.steps_by}

from_bucket : (root : ℕ) (walk : WalkFields) (view : View) → steps_to_bucket walk.phase ≡ 0 → most_steps_of_walk root walk view ≡ steps_of_walk root walk view
from_bucket root walk view there = cond-true (nat_eq (steps_to_bucket walk.phase) 0) _ _ (eq-eqb _ _ there)

on_way : (root : ℕ) (walk : WalkFields) (view : View) → 0 < steps_to_bucket walk.phase → most_steps_of_walk root walk view ≡ steps_to_bucket walk.phase + 3 * passes_after walk.pass + most_from_bucket
on_way root walk view more = cond-false (nat_eq (steps_to_bucket walk.phase) 0) _ _ (ne_eqb _ _ (λ (there : steps_to_bucket walk.phase ≡ 0). omega (arith, more, there)))

-- it never goes back from its bucket
still_nearer : (root : ℕ) (old new : View) (before after : WalkFields) → GoesNearer root old new before after ⊎ PutsBehindSplits before after → steps_to_bucket after.phase ≤ steps_to_bucket before.phase
still_nearer root old new before after (inl goes) = goes.nearer
still_nearer root old new before after (inr puts) = let none : steps_to_bucket after.phase ≡ 0 = ap steps_to_bucket puts.is in omega (arith, none)

-- within its pass
walk_goes_on : (root : ℕ) (old new : View) (before after : WalkFields) → WalkGoesOn root old new before after → steps_of_walk root after new < steps_of_walk root before old
    → most_steps_of_walk root after new < most_steps_of_walk root before old
walk_goes_on root old new before after s fewer =
    let nearer = still_nearer root old new before after s.goes in
    elim (cases_lt 0 (steps_to_bucket before.phase)) [
      | inr there ↦
          let was = from_bucket root before old (omega (arith, there)) in
          let is = from_bucket root after new (omega (arith, there, nearer)) in
          omega (arith, was, is, fewer)
      | inl more ↦
          let was = on_way root before old more in
          let put = put_on_way before.phase root before old more in
          elim (cases_lt 0 (steps_to_bucket after.phase)) [
            | inr there ↦
                let is = from_bucket root after new (omega (arith, there)) in
                omega (arith, was, put, is, fewer)
            | inl still ↦
                let is = on_way root after new still in
                let none = put_on_way after.phase root after new still in
                let same : passes_after after.pass ≡ passes_after before.pass = ap passes_after s.in_pass in
                omega (arith, was, put, is, none, same, fewer)
          ]
    ]

-- at a full bucket that it is to split
walk_splits : (context : WalkContext) (old : View) (new : LocalState) (before after : WalkFields) → context.max_depth ≤ 16 → IsStanding (one_key context) after (view_of new) → (before.pass ≡ Pass.First → ⊥) → WalkBeginsToSplit (one_key context) new before after
    → most_steps_of_walk context.root after (view_of new) < most_steps_of_walk context.root before old
walk_splits context old new before after small here later w =
    let s = w.splits in
    let adding = s.needs.later (λ (first : s.walk.pass ≡ Pass.First). later (sym s.reaches.same.pass ∙ first)) in
    let stands : IsAdding (one_key context) after (view_of new) (page_of s.walk.phase) adding.0 true = subst (λ (p : Phase). Stands p (one_key context) after (view_of new)) adding.1 here in
    let l = bucket_depth (view_of new) (page_of s.walk.phase) in
    let g = directory_depth (view_of new) context.root in
    let header : g ≡ stands.header.depth = ap (λ p. (header_of p).depth) stands.rest.head in
    let shallow = stands.shallow in
    let most = stands.most in
    let few : steps_of_splits (adding.0 - l) l g ≤ 577 = few_splits adding.0 l g (omega (arith, most, small)) (omega (arith, header, shallow, small)) in
    let left : steps_of_walk context.root after (view_of new) ≡ 0 + steps_of_splits (adding.0 - l) l g + 1 = ap (λ (p : Phase). steps_to_bucket p + steps_to_put_at p context.root after (view_of new) + 1) adding.1 in
    let is = from_bucket context.root after (view_of new) s.at_bucket in
    let last = s.reaches.last in
    let was = on_way context.root before old (omega (arith, last)) in
    omega (arith, few, left, is, last, was)

-- the pass that follows a first one, and any that is begun again
after_first : (next : Pass) (crowded : ℕ → Bool) (l most g : ℕ) → IsNextPass crowded l most g next → passes_after next < 2
after_first Pass.First crowded l most g never = absurd never
after_first Pass.Narrow crowded l most g may = omega arith
after_first Pass.Wide crowded l most g not = omega arith

fewer_passes : (context : WalkContext) (m : LocalState) (walk full : WalkFields) → HasToRestart (one_key context) m walk full → passes_after (next_of full.phase) < passes_after walk.pass
fewer_passes context m walk full (inl (first, (value, needs))) =
    let next = needs.first first in
    let was : passes_after walk.pass ≡ 2 = ap passes_after first in
    let is : passes_after (next_of full.phase) ≡ passes_after next.0 = ap (λ (p : Phase). passes_after (next_of p)) next.1 in
    let less = after_first next.0 _ _ _ _ next.2 in
    omega (arith, was, is, less)
fewer_passes context m walk full (inr widen) =
    let was : passes_after walk.pass ≡ 1 = ap passes_after widen.narrow in
    let is : passes_after (next_of full.phase) ≡ 0 = ap (λ (p : Phase). passes_after (next_of p)) widen.phase in
    omega (arith, was, is)

-- in another pass
walk_restarts : (context : WalkContext) (old new : View) (mid : LocalState) (before after : WalkFields) → WalkRestarts (one_key context) mid before after
    → most_steps_of_walk context.root after new < most_steps_of_walk context.root before old
walk_restarts context old new mid before after s =
    let less = fewer_passes (one_key context) mid s.walk s.full s.restarts in
    let same : passes_after s.walk.pass ≡ passes_after before.pass = ap passes_after s.reaches.same.pass in
    let last = s.reaches.last in
    let was = on_way context.root before old (omega (arith, last)) in
    let start : steps_to_bucket after.phase ≡ 3 = ap (λ (w : WalkFields). steps_to_bucket w.phase) s.again in
    let next : passes_after after.pass ≡ passes_after (next_of s.full.phase) = ap (λ (w : WalkFields). passes_after w.pass) s.again in
    let is = on_way context.root after new (omega (arith, start)) in
    omega (arith, less, same, last, was, start, next, is)

-- by the access path
goes_by : (c c' : AccessPath) (context : WalkContext) (old new : LocalState) (request : Request) (reply reply' : Option ObjReply) → StepsBy c c' (one_key context) old new request reply'
    → steps_by c' context.root reply' (view_of new) < steps_by c context.root reply (view_of old) → most_steps_by c' context.root reply' (view_of new) < most_steps_by c context.root reply (view_of old)
goes_by (One before) (One after) context old new request reply reply' goes fewer = walk_goes_on context.root (view_of old) (view_of new) before after goes fewer
goes_by (Two before) (Two after) context old new request reply reply' goes fewer = fewer
goes_by (One before) (Two after) context old new request reply reply' never fewer = absurd never
goes_by (Two before) (One after) context old new request reply reply' never fewer = absurd never

splits_by : (c c' : AccessPath) (context : WalkContext) (old : View) (new : LocalState) (o : OperationFields) (reply : Option ObjReply) → context.max_depth ≤ 16 → OperatesBy c' (one_key context) o (view_of new) → (IsInFirst c → ⊥) → SplitsBy c c' (one_key context) new
    → most_steps_by c' context.root o.reply (view_of new) < most_steps_by c context.root reply old
splits_by (One before) (One after) context old new o reply small operates later splits = walk_splits context old new before after small operates.stands later splits
splits_by other other' context old new o reply small operates later never = absurd never

two_records_restarts : (before after : TwoRecordWalk) (context : WalkContext) (old new : LocalState) (request : Request) → TwoRecordRestarts before after (one_key context) old new request
    → steps_of_two_records context.root after (view_of new) < steps_of_two_records context.root before (view_of old)
two_records_restarts (First pair) (Wide WideStage.Own walk) context old new request restarts =
    let start : steps_to_bucket walk.phase ≡ 3 = ap (λ (w : WalkFields). steps_to_bucket w.phase) restarts.1 in
    let way : most_to_change context.root walk (view_of new) ≡ steps_to_bucket walk.phase + most_to_put =
    cond-false (nat_eq (steps_to_bucket walk.phase) 0) _ _ (ne_eqb _ _ (λ (there : steps_to_bucket walk.phase ≡ 0). omega (arith, start, there))) in
    let last = restarts.0.last.most in
    omega (arith, start, way, last)
two_records_restarts other other' context old new request never = absurd never

restarts_by : (c c' : AccessPath) (context : WalkContext) (old mid new : LocalState) (request : Request) → RestartsBy c c' (one_key context) old mid new request
    → most_steps_by c' context.root None (view_of new) < most_steps_by c context.root None (view_of old)
restarts_by (One before) (One after) context old mid new request restarts = walk_restarts context (view_of old) (view_of new) mid before after restarts
restarts_by (Two before) (Two after) context old mid new request restarts = two_records_restarts before after context old new request restarts
restarts_by (One before) (Two after) context old mid new request never = absurd never
restarts_by (Two before) (One after) context old mid new request never = absurd never

-- **Each step that goes on leaves fewer.**
pub one_fewer_at_least : (context : WalkContext) (old new : LocalState) (before after : OperationFields) → context.max_depth ≤ 16 → TellsOfStep (one_key context) old new before after StepAnswer.Going
    → most_steps context.root after (view_of new) < most_steps context.root before (view_of old)
one_fewer_at_least context old new before after small (inl on) = goes_by before.access_path after.access_path context old new before.request before.reply after.reply on.how on.fewer
one_fewer_at_least context old new before after small (inr (inl split)) = splits_by before.access_path after.access_path context (view_of old) new after before.reply small split.operates split.later split.how
one_fewer_at_least context old new before after small (inr (inr again)) =
    let less = restarts_by before.access_path after.access_path context old again.back.mid new before.request again.how in
    let was : most_steps context.root before (view_of old) ≡ most_steps_by before.access_path context.root None (view_of old) = ap (λ (r : Option ObjReply). most_steps_by before.access_path context.root r (view_of old)) again.untold.0 in
    let is : most_steps context.root after (view_of new) ≡ most_steps_by after.access_path context.root None (view_of new) = ap (λ (r : Option ObjReply). most_steps_by after.access_path context.root r (view_of new)) again.untold.1 in
    omega (arith, less, was, is)
