-- The pages on the way of a key, as far as a part of it is known
use Rattle.std.proofs.Common.{◌≡◌, ℕ, ◌<◌, ◌≤◌, ◌+◌, ◌^◌, true, List, Option, Some, is_some, refl, sym, ap, subst, ◌∙◌, arith, slice_index}
use Rattle.std.specs.FinMap as map
use Rattle.mlt_hash.proofs.Names.{Mode, BucketFields, HeadFields, Page, HasForm, dir_of, header_of, row_of, value_in, Agrees, over, HasCleanFile, IsCleanFor, MayStep, LocalState, no_writes, ReadsPage, view_of, agrees_over, sees_page_since, unwritten_anew, with_page, bucket_mode, directory_mode, header_mode, WalkContext, Before, HoldsBeside, IsAtBucket, IsAtStart, IsHeaded, IsPlaced, Stands, WalkFields, context_after, nothing_before, one_key, view_for, HasFound, steps_to_bucket, Phase}
use Rattle.mlt_hash_form.{specs.File.depth_of, proofs.Paths.path_from_dir, proofs.Paths.path_from_header}
use Rattle.mlt_hash_access.proofs.Since.{still_unwritten}
use Rattle.mlt_hash.{specs.Steps.GoesOn, proofs.Beside.bucket_beside, proofs.Beside.directory_beside, proofs.Beside.goes_after_nothing, proofs.Beside.header_beside, proofs.Readings.reads_clean}

-- the header is there,
pub head_there : (bits : ℕ → ℕ) (clean : ℕ → Option Page) (root : ℕ) → HasForm bits clean root → (header : HeadFields) × (clean root ≡ Some (Page.Head header))
head_there bits clean root form = (header_of (clean root), form.head)

pub header_there : (bits : ℕ → ℕ) (clean : ℕ → Option Page) (root : ℕ) → HasForm bits clean root → is_some (clean root) ≡ true
header_there bits clean root form = ap is_some form.head

-- and is no deeper than 16 bits
pub header_small : (bits : ℕ → ℕ) (clean : ℕ → Option Page) (root : ℕ) (header : HeadFields) → HasForm bits clean root → clean root ≡ Some (Page.Head header) → header.depth ≤ 16
header_small bits clean root header form head = subst (λ (header : HeadFields). header.depth ≤ 16) (ap header_of head) form.listed.small

-- **The header that a walk reads to its first key is that of the clean pages, which is no deeper than it may be.**
pub headed : (context : WalkContext) (walk after : WalkFields) (old new : LocalState) (mode : Mode) (header : HeadFields) (dir row depth : ℕ) → context.before ≡ nothing_before → (file : HasCleanFile context.bits context.root old) → depth_of file.clean context.root ≤ context.max_depth → MayStep new → ((clean : ℕ → Option Page) → IsCleanFor old clean → IsCleanFor new clean)
    → IsAtStart (view_of old) → mode ≡ header_mode walk.pass → ReadsPage (view_of old) (view_of new) context.root mode (Some (Page.Head header)) → dir ≡ dir_of header (context.bits walk.key) → row ≡ row_of header (context.bits walk.key) → depth ≡ header.depth
    → walk.phase ≡ Phase.Start → after ≡ record walk { phase = Phase.Headed dir row depth } → GoesOn context new walk after
headed context walk after old new mode header dir row depth anew file shallow may clean start mode_is reads dir_is row_is depth_is at_start is =
    let unwritten = unwritten_anew (view_of old) start.unwritten in
    let here : file.clean context.root ≡ Some (Page.Head header) = reads_clean no_writes old new context.root mode (Some (Page.Head header)) file.clean may (clean file.clean file.is_clean) unwritten reads in
    let held : (view_of new).modes ≡ with_page map.empty context.root (header_mode walk.pass) = reads.modes ∙ (λ i. with_page (start.unheld i) context.root (mode_is i)) in
    let stands : IsHeaded (one_key context) (record walk { phase = Phase.Headed dir row depth }) (view_of new) dir row depth = record {
      goes_after = goes_after_nothing walk.pass;
      unwritten = still_unwritten no_writes (view_of old) (view_of new) context.root mode (Some (Page.Head header)) unwritten reads;
      header = header;
      held = held;
      among = header_beside (view_of new) header context.root (header_mode walk.pass) held;
      head = sees_page_since no_writes (view_of old) (view_of new) context.root mode (Some (Page.Head header)) unwritten reads;
      dir_is = dir_is;
      row_is = row_is;
      depth_is = depth_is;
      shallow = subst (λ (p : Option Page). (header_of p).depth ≤ context.max_depth) here shallow;
    } in
    let goes : GoesOn (one_key context) new walk after = record {
      same = record { key = ap (λ (w : WalkFields). w.key) is; mode = ap (λ (w : WalkFields). w.mode) is; pass = ap (λ (w : WalkFields). w.pass) is };
      stands = subst (λ (w : WalkFields). Stands w.phase (one_key context) w (view_of new)) (sym is) stands;
      fewer = ap (λ (w : WalkFields). steps_to_bucket w.phase + 1) is ∙ ap steps_to_bucket (sym at_start);
    } in
    subst (λ (b : Before). GoesOn (context_after b context) new walk after) (sym anew) goes

module _ (context : WalkContext) (walk : WalkFields) (m : LocalState) (clean : ℕ → Option Page) (below : context.bits walk.key < 2 ^ 64) (may : MayStep m) (is : IsCleanFor m clean) (form : HasForm context.bits (over clean context.before.written) context.root) where
  agree : Agrees (view_for context m).seen (over clean context.before.written)
  agree = agrees_over context.before.written m clean may is

  -- the directory page that a walk has read of is there,
  pub dir_there : (number row depth : ℕ) → IsHeaded context walk (view_for context m) number row depth → (dir : List ℕ) × (over clean context.before.written number ≡ Some (Page.Dir dir))
  dir_there number row depth at =
      let path = path_from_header context.bits (over clean context.before.written) context.root (context.bits walk.key) at.header below form (agree context.root (Some (Page.Head at.header)) at.head) in
      (path.0, ap (over clean context.before.written) at.dir_is ∙ path.3.listed)

  -- and so is the bucket
  pub bucket_there : (number depth : ℕ) → IsPlaced context walk (view_for context m) number depth → (bucket : BucketFields) × (over clean context.before.written number ≡ Some (Page.Bucket bucket))
  bucket_there number depth at =
      let path = path_from_dir context.bits (over clean context.before.written) context.root (context.bits walk.key) at.header at.dir below form (agree context.root (Some (Page.Head at.header)) at.head) (agree (dir_of at.header (context.bits walk.key)) (Some (Page.Dir at.dir)) at.listed) in
      (path.0, ap (over clean context.before.written) at.bucket_is ∙ path.1.found)

two_more : (n : ℕ) → n + 1 + 1 ≡ n + 2
two_more n = omega arith

module _ (context : WalkContext) (walk after : WalkFields) (old new : LocalState) (mode : Mode) (number depth : ℕ) where
  -- **The directory page is read,**
  pub placed : (row bucket : ℕ) (dir : List ℕ) → context.bits walk.key < 2 ^ 64 → context.max_depth ≤ 16 → IsHeaded context walk (view_for context old) number row depth → mode ≡ directory_mode walk.pass → ReadsPage (view_for context old) (view_for context new) number mode (Some (Page.Dir dir))
      → bucket ≡ slice_index dir row → walk.phase ≡ Phase.Headed number row depth → after ≡ record walk { phase = Phase.Placed bucket depth } → GoesOn context new walk after
  placed row bucket dir below small here mode_is reads bucket_is phase is =
      let before = context.before.written in
      let shallow = here.shallow in
      let stands : IsPlaced context (record walk { phase = Phase.Placed bucket depth }) (view_for context new) bucket depth = record {
        goes_after = here.goes_after;
        unwritten = still_unwritten before (view_for context old) (view_for context new) number mode (Some (Page.Dir dir)) here.unwritten reads;
        header = here.header;
        held = reads.modes ∙ (λ i. with_page (here.held i) (here.dir_is i) (mode_is i));
        among = directory_beside (view_for context old) (view_for context new) here.header (context.before.buckets + 1) (context.bits walk.key) number mode (omega (arith, shallow, small)) below here.dir_is reads.modes here.among;
        head = reads.before context.root (Some (Page.Head here.header)) here.head;
        dir = dir;
        listed = ap (view_for context new).seen (sym here.dir_is) ∙ sees_page_since before (view_for context old) (view_for context new) number mode (Some (Page.Dir dir)) here.unwritten reads;
        bucket_is = bucket_is ∙ ap (slice_index dir) here.row_is;
        depth_is = here.depth_is;
        shallow = here.shallow;
      } in
      record {
        same = record { key = ap (λ (w : WalkFields). w.key) is; mode = ap (λ (w : WalkFields). w.mode) is; pass = ap (λ (w : WalkFields). w.pass) is };
        stands = subst (λ (w : WalkFields). Stands w.phase context w (view_for context new)) (sym is) stands;
        fewer = ap (λ (w : WalkFields). steps_to_bucket w.phase + 1) is ∙ ap steps_to_bucket (sym phase);
      }

  -- **and the bucket.**
  pub arrived : (fields : BucketFields) (found : Option ℕ) → IsPlaced context walk (view_for context old) number depth → mode ≡ bucket_mode walk.pass walk.mode → ReadsPage (view_for context old) (view_for context new) number mode (Some (Page.Bucket fields))
      → found ≡ value_in walk.key fields.slots → walk.phase ≡ Phase.Placed number depth → after ≡ record walk { phase = Phase.AtBucket number depth found } → GoesOn context new walk after × HasFound after.phase found
  arrived fields found here mode_is reads found_is phase is =
      let before = context.before.written in
      let stands : IsAtBucket context (record walk { phase = Phase.AtBucket number depth found }) (view_for context new) number depth found = record {
        goes_after = here.goes_after;
        unwritten = still_unwritten before (view_for context old) (view_for context new) number mode (Some (Page.Bucket fields)) here.unwritten reads;
        header = here.header;
        held = reads.modes ∙ (λ i. with_page (here.held i) number (mode_is i));
        among = subst (λ others. HoldsBeside (view_for context new) here.header others) (two_more context.before.buckets) (bucket_beside (view_for context old) (view_for context new) here.header (context.before.buckets + 1) number mode reads.modes here.among);
        head = reads.before context.root (Some (Page.Head here.header)) here.head;
        dir = here.dir;
        listed = reads.before (dir_of here.header (context.bits walk.key)) (Some (Page.Dir here.dir)) here.listed;
        bucket_is = here.bucket_is;
        depth_is = here.depth_is;
        shallow = here.shallow;
        fields = fields;
        at = sees_page_since before (view_for context old) (view_for context new) number mode (Some (Page.Bucket fields)) here.unwritten reads;
        found_is = found_is;
      } in (
        record {
          same = record { key = ap (λ (w : WalkFields). w.key) is; mode = ap (λ (w : WalkFields). w.mode) is; pass = ap (λ (w : WalkFields). w.pass) is };
          stands = subst (λ (w : WalkFields). Stands w.phase context w (view_for context new)) (sym is) stands;
          fewer = ap (λ (w : WalkFields). steps_to_bucket w.phase + 1) is ∙ ap steps_to_bucket (sym phase);
        },
        subst (λ (w : WalkFields). HasFound w.phase found) (sym is) refl,
      )
