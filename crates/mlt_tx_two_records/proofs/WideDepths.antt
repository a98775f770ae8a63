-- How a step of a walk that splits its bucket leaves the depths, over whatever was written before
use Rattle.std.proofs.Common.{ℕ, ◌≡◌, ◌<◌, ◌+◌, ◌-◌, Bool, Option, Some, refl, sym, ◌∙◌, ap, subst, inl, inr, eq-eqb, ne_eqb}
use Rattle.mlt_tx_two_records.proofs.Names.{cases_eq, cond-false, cond-true, Page, HasForm, bucket_of, header_of, Agrees, LocalState, HasWritten, view_of, TellsAt, IsPutting, bucket_depth, depth_after, directory_depth, steps_to_put_at, WalkContext, Stands, WalkFields, view_for, WalkAnswer, Phase}
use Rattle.mlt_hash_access.proofs.Since.{read_over_writes}
use Rattle.mlt_hash_split.specs.{Rests.held_page, Splits.SplitFields}
use Rattle.mlt_hash.{specs.Splitting.BeginsSplit, specs.Splitting.SplitCloses, specs.Splitting.SplitGoesOn, specs.Splitting.walk_step, specs.StepsLeft.steps_of_splits, specs.Walks.IsSplitting, proofs.StepsLeft.some_is_one}
use Rattle.mlt_tx_two_records.specs.Depths.{GoesDown, depths_at, depths_with_split}

-- ---- what a walk sees over what was written before it reads as it reads without

module _ (context : WalkContext) (m : LocalState) (written : HasWritten context.before.written (view_of m)) where
  pub reads_alike : (q : ℕ) → held_page (view_for context m) q ≡ held_page (view_of m) q
  reads_alike q = read_over_writes (context.before.written q) ((view_of m).own q) ((view_of m).seen q) (λ some. (written q some).1)

  pub same_depths : (phase : Phase) (walk : WalkFields) → depths_at phase context.root walk (view_for context m) ≡ depths_at phase context.root walk (view_of m)
  same_depths (Phase.Adding value bucket room_depth unsplit) walk = λ i. Some (record {
    room = room_depth;
    bucket = (bucket_of (reads_alike bucket i)).depth;
    directory = (header_of (reads_alike context.root i)).depth;
  })
  same_depths (Phase.Splitting value room_depth) walk = refl
  same_depths other walk = refl

  pub same_steps : (phase : Phase) (walk : WalkFields) → steps_to_put_at phase context.root walk (view_for context m) ≡ steps_to_put_at phase context.root walk (view_of m)
  same_steps (Phase.Adding value bucket room_depth unsplit) walk = λ i. steps_of_splits (room_depth - (bucket_of (reads_alike bucket i)).depth) ((bucket_of (reads_alike bucket i)).depth) ((header_of (reads_alike context.root i)).depth)
  same_steps (Phase.Splitting value room_depth) walk = refl
  same_steps other walk = refl

-- ---- the steps of a split

module _ (context : WalkContext) (old new : LocalState) (before after : WalkFields) where
  -- a split has begun
  begins : (value n room_depth : ℕ) (unsplit : Bool) → before.phase ≡ Phase.Adding value n room_depth unsplit → BeginsSplit context (walk_step old new before after) value n room_depth
      → GoesDown context.root before after (view_for context old) (view_for context new)
  begins value n room_depth unsplit phase b =
      let l : bucket_depth (view_for context old) n ≡ b.split.depth = ap (λ p. (bucket_of p).depth) b.found ∙ sym b.depth in
      let g : directory_depth (view_for context old) context.root ≡ b.split.directory_depth = ap (λ p. (header_of p).depth) b.head ∙ sym b.directory_depth in
      record {
        was = record { room = room_depth; bucket = b.split.depth; directory = b.split.directory_depth };
        is = record { room = room_depth; bucket = b.split.depth; directory = b.split.directory_depth };
        was_is = ap (λ (p : Phase). depths_at p context.root before (view_for context old)) phase ∙ (λ i. Some (record { room = room_depth; bucket = l i; directory = g i }));
        is_is = ap (λ (p : Phase). depths_at p context.root after (view_for context new)) b.phase ∙ ap (λ (o : Option SplitFields). depths_with_split o room_depth) b.split_is;
        by_one = inl refl;
      }

  -- it has gone on
  goes_on : (value room_depth : ℕ) → before.phase ≡ Phase.Splitting value room_depth → SplitGoesOn context new before after value room_depth
      → GoesDown context.root before after (view_for context old) (view_for context new)
  goes_on value room_depth phase s = record {
    was = record { room = room_depth; bucket = s.was.depth; directory = s.was.directory_depth };
    is = record { room = room_depth; bucket = s.is.depth; directory = s.is.directory_depth };
    was_is = ap (λ (p : Phase). depths_at p context.root before (view_for context old)) phase ∙ ap (λ (o : Option SplitFields). depths_with_split o room_depth) s.was_is;
    is_is = ap (λ (p : Phase). depths_at p context.root after (view_for context new)) s.phase ∙ ap (λ (o : Option SplitFields). depths_with_split o room_depth) s.is_is;
    by_one = inl (λ i. record { room = room_depth; bucket = s.depth i; directory = s.directory_depth i });
  }

  -- and has closed
  closes : (clean : ℕ → Option Page) → Agrees (view_for context old).seen clean → HasForm context.bits clean context.root
      → (value room_depth : ℕ) → before.phase ≡ Phase.Splitting value room_depth → IsSplitting context before (view_for context old) room_depth → SplitCloses context new before after value room_depth
      → GoesDown context.root before after (view_for context old) (view_for context new)
  closes clean agree form value room_depth phase stands s =
      let same : stands.split ≡ s.was = some_is_one stands.split s.was before.split stands.split_is s.was_is in
      let deep : s.was.depth < room_depth = subst (λ (split : SplitFields). split.depth < room_depth) same (stands.under_way.begins clean agree form).deep in
      let l : bucket_depth (view_for context new) s.bucket ≡ s.was.depth + 1 = ap (λ p. (bucket_of p).depth) s.rests.rest.found ∙ s.rests.deeper in
      let g : directory_depth (view_for context new) context.root ≡ depth_after s.was.depth s.was.directory_depth = ap (λ p. (header_of p).depth) s.rests.rest.head ∙ elim (cases_eq s.was.depth s.was.directory_depth) [
        | inl deepest ↦ s.rests.doubled deepest ∙ sym (cond-true _ (s.was.directory_depth + 1) s.was.directory_depth (eq-eqb _ _ deepest))
        | inr shallow ↦ s.rests.in_place shallow ∙ sym (cond-false _ (s.was.directory_depth + 1) s.was.directory_depth (ne_eqb _ _ shallow))
      ] in
      record {
        was = record { room = room_depth; bucket = s.was.depth; directory = s.was.directory_depth };
        is = record { room = room_depth; bucket = s.was.depth + 1; directory = depth_after s.was.depth s.was.directory_depth };
        was_is = ap (λ (p : Phase). depths_at p context.root before (view_for context old)) phase ∙ ap (λ (o : Option SplitFields). depths_with_split o room_depth) s.was_is;
        is_is = ap (λ (p : Phase). depths_at p context.root after (view_for context new)) s.phase ∙ (λ i. Some (record { room = room_depth; bucket = l i; directory = g i }));
        by_one = inr (refl, deep);
      }

  down_over : (clean : ℕ → Option Page) → Agrees (view_for context old).seen clean → HasForm context.bits clean context.root → (phase : Phase) → before.phase ≡ phase → Stands phase context before (view_for context old) → IsPutting phase → TellsAt phase context old new before after WalkAnswer.Going
      → GoesDown context.root before after (view_for context old) (view_for context new)
  down_over clean agree form (Phase.Adding value bucket room_depth unsplit) is here putting told = begins value bucket room_depth unsplit is told
  down_over clean agree form (Phase.Splitting value room_depth) is here putting told = elim told.1 [
    | inl goes ↦ goes_on value room_depth is goes
    | inr close ↦ closes clean agree form value room_depth is here close
  ]
  down_over clean agree form other is here putting told = absurd putting

-- **A step of the splits of a pass leaves the depths, or closes a split.**
pub goes_down : (context : WalkContext) (old new : LocalState) (before after : WalkFields) → HasWritten context.before.written (view_of old) → HasWritten context.before.written (view_of new)
    → (clean : ℕ → Option Page) → Agrees (view_for context old).seen clean → HasForm context.bits clean context.root
    → Stands before.phase context before (view_for context old) → IsPutting before.phase → TellsAt before.phase context old new before after WalkAnswer.Going
    → GoesDown context.root before after (view_of old) (view_of new)
goes_down context old new before after was_written is_written clean agree form stands putting tells =
    let down = down_over context old new before after clean agree form before.phase refl stands putting tells in
    record {
      was = down.was;
      is = down.is;
      was_is = sym (same_depths context old was_written before.phase before) ∙ down.was_is;
      is_is = sym (same_depths context new is_written after.phase after) ∙ down.is_is;
      by_one = down.by_one;
    }
