-- Each step of the splits of a pass is one of those that are left
use Rattle.std.proofs.Common.{ℕ, zero, suc, ◌≡◌, ◌<◌, ◌+◌, ◌-◌, Bool, Option, Some, refl, sym, ◌∙◌, ap, subst, inl, inr, arith, eq-eqb, ne_eqb}
use Rattle.mlt_hash.proofs.Names.{cases_eq, cond-true, Page, HasForm, bucket_of, header_of, Agrees, LocalState, View, SplitFields, directory_steps, steps_left, BeginsSplit, SplitCloses, SplitGoesOn, TellsAt, walk_step, WalkContext, IsSplitting, Stands, WalkFields, view_for, WalkAnswer, Phase, steps_to_bucket}
use Rattle.std.proofs.lemmas.Bool.{cond-false}
use Rattle.mlt_hash.specs.StepsLeft.{IsPutting, bucket_depth, depth_after, directory_depth, steps_of_splits, steps_to_put, steps_to_put_at, steps_with_split}

-- a bucket that is less deep than is needed is split once more
one_split : (l g d : ℕ) → l < d → steps_of_splits (d - l) l g ≡ 2 + directory_steps l g + steps_of_splits (d - (l + 1)) (l + 1) (depth_after l g)
unfolding steps_of_splits
one_split l g d deep = let next : d - l ≡ suc (d - (l + 1)) = omega (arith, deep) in ap (λ n. steps_of_splits n l g) next

pub some_is_one : {X : Type 0} (x y : X) (o : Option X) → o ≡ Some x → o ≡ Some y → x ≡ y
some_is_one x y o is_x is_y = let e : Some x ≡ Some y = sym is_x ∙ is_y in cc

module _ (context : WalkContext) (old new : LocalState) (before after : WalkFields) (clean : ℕ → Option Page) (agree : Agrees (view_for context new).seen clean) (form : HasForm context.bits clean context.root) where
  -- what is left once a split has begun
  begins : (value n room_depth : ℕ) (unsplit : Bool) → before.phase ≡ Phase.Adding value n room_depth unsplit → BeginsSplit context (walk_step old new before after) value n room_depth
      → steps_to_put context.root after (view_for context new) + 1 ≡ steps_to_put_at (Phase.Adding value n room_depth unsplit) context.root before (view_for context old)
  begins value n room_depth unsplit phase b =
      let stands : IsSplitting context after (view_for context new) room_depth = subst (λ p. Stands p context after (view_for context new)) b.phase b.on.stands in
      let same : stands.split ≡ b.split = some_is_one stands.split b.split after.split stands.split_is b.split_is in
      let deep : b.split.depth < room_depth = subst (λ (s : SplitFields). s.depth < room_depth) same (stands.under_way.begins clean agree form).deep in
      let l : bucket_depth (view_for context old) n ≡ b.split.depth = ap (λ p. (bucket_of p).depth) b.found ∙ sym b.depth in
      let g : directory_depth (view_for context old) context.root ≡ b.split.directory_depth = ap (λ p. (header_of p).depth) b.head ∙ sym b.directory_depth in
      let was : steps_to_put_at (Phase.Adding value n room_depth unsplit) context.root before (view_for context old) ≡ steps_of_splits (room_depth - b.split.depth) b.split.depth b.split.directory_depth = (λ i. steps_of_splits (room_depth - l i) (l i) (g i)) in
      let is : steps_to_put context.root after (view_for context new) ≡ steps_left b.split + steps_of_splits (room_depth - (b.split.depth + 1)) (b.split.depth + 1) (depth_after b.split.depth b.split.directory_depth) =
      ap (λ p. steps_to_put_at p context.root after (view_for context new)) b.phase ∙ ap (λ o. steps_with_split o room_depth) b.split_is in
      let one = one_split b.split.depth b.split.directory_depth room_depth deep in
      omega (arith, was, is, one, b.steps)

  -- once it has gone on
  goes_on : (value room_depth : ℕ) → SplitGoesOn context new before after value room_depth
      → steps_to_put context.root after (view_for context new) + 1 ≡ steps_with_split before.split room_depth
  goes_on value room_depth s =
      let was : steps_with_split before.split room_depth ≡ steps_left s.was + steps_of_splits (room_depth - (s.was.depth + 1)) (s.was.depth + 1) (depth_after s.was.depth s.was.directory_depth) = ap (λ o. steps_with_split o room_depth) s.was_is in
      let is : steps_to_put context.root after (view_for context new) ≡ steps_left s.is + steps_of_splits (room_depth - (s.is.depth + 1)) (s.is.depth + 1) (depth_after s.is.depth s.is.directory_depth) =
      ap (λ p. steps_to_put_at p context.root after (view_for context new)) s.phase ∙ ap (λ o. steps_with_split o room_depth) s.is_is in
      let rest : steps_of_splits (room_depth - (s.is.depth + 1)) (s.is.depth + 1) (depth_after s.is.depth s.is.directory_depth) ≡ steps_of_splits (room_depth - (s.was.depth + 1)) (s.was.depth + 1) (depth_after s.was.depth s.was.directory_depth) =
      (λ i. steps_of_splits (room_depth - (s.depth i + 1)) (s.depth i + 1) (depth_after (s.depth i) (s.directory_depth i))) in
      omega (arith, was, is, rest, s.fewer)

  -- and once it has closed
  closes : (value room_depth : ℕ) → SplitCloses context new before after value room_depth
      → steps_to_put context.root after (view_for context new) + 1 ≡ steps_with_split before.split room_depth
  closes value room_depth s =
      let was : steps_with_split before.split room_depth ≡ steps_left s.was + steps_of_splits (room_depth - (s.was.depth + 1)) (s.was.depth + 1) (depth_after s.was.depth s.was.directory_depth) = ap (λ o. steps_with_split o room_depth) s.was_is in
      let l : bucket_depth (view_for context new) s.bucket ≡ s.was.depth + 1 = ap (λ p. (bucket_of p).depth) s.rests.rest.found ∙ s.rests.deeper in
      let g : directory_depth (view_for context new) context.root ≡ depth_after s.was.depth s.was.directory_depth = ap (λ p. (header_of p).depth) s.rests.rest.head ∙ elim (cases_eq s.was.depth s.was.directory_depth) [
        | inl deep ↦ s.rests.doubled deep ∙ sym (cond-true _ (s.was.directory_depth + 1) s.was.directory_depth (eq-eqb _ _ deep))
        | inr shallow ↦ s.rests.in_place shallow ∙ sym (cond-false _ (s.was.directory_depth + 1) s.was.directory_depth (ne_eqb _ _ shallow))
      ] in
      let is : steps_to_put context.root after (view_for context new) ≡ steps_of_splits (room_depth - (s.was.depth + 1)) (s.was.depth + 1) (depth_after s.was.depth s.was.directory_depth) =
      ap (λ p. steps_to_put_at p context.root after (view_for context new)) s.phase ∙ (λ i. steps_of_splits (room_depth - l i) (l i) (g i)) in
      let last = s.last in
      omega (arith, was, is, last)

  fewer_at : (phase : Phase) → before.phase ≡ phase → IsPutting phase → TellsAt phase context old new before after WalkAnswer.Going → steps_to_put context.root after (view_for context new) + 1 ≡ steps_to_put_at phase context.root before (view_for context old)
  fewer_at (Phase.Adding value bucket room_depth unsplit) is putting tells = begins value bucket room_depth unsplit is tells
  fewer_at (Phase.Splitting value room_depth) is putting tells = elim tells.1 [ inl goes ↦ goes_on value room_depth goes | inr close ↦ closes value room_depth close ]
  fewer_at other is putting tells = absurd putting

-- on the way nothing is to be put yet
pub put_on_way : (p : Phase) (root : ℕ) (walk : WalkFields) (view : View) → 0 < steps_to_bucket p → steps_to_put_at p root walk view ≡ 0
put_on_way Phase.Start root walk view more = refl
put_on_way (Phase.Headed dir row depth) root walk view more = refl
put_on_way (Phase.Placed bucket depth) root walk view more = refl
put_on_way other root walk view more = absurd (omega (arith, more))

-- a walk puts its record in the last step of those that are left
pub put_is_left : (n l g : ℕ) → 0 < steps_of_splits n l g
unfolding steps_of_splits
put_is_left zero l g = omega arith
put_is_left (suc n) l g = omega (arith)

-- **Each step of the splits of a pass is one of those that are left.**
pub one_fewer : (context : WalkContext) (old new : LocalState) (before after : WalkFields) (clean : ℕ → Option Page) → Agrees (view_for context new).seen clean → HasForm context.bits clean context.root → IsPutting before.phase → TellsAt before.phase context old new before after WalkAnswer.Going
    → steps_to_put context.root after (view_for context new) + 1 ≡ steps_to_put context.root before (view_for context old)
one_fewer context old new before after clean agree form putting tells = fewer_at context old new before after clean agree form before.phase refl putting tells
