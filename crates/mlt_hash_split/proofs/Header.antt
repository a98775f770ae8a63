-- The header of the doubled directory is written, which closes the split
use Rattle.std.proofs.Common.{◌≡◌, ℕ, ◌+◌, ◌<◌, true, Option, None, Some, is_some, unwrap_or, sym, ap, subst, ◌∙◌, arith, ◌==◌, if◌then◌else◌}
use Rattle.std.specs.FinMap as map
use Rattle.mlt_hash_split.proofs.Names.{Exclusive, bit_at, Page, Modes, can_write, HasForm, buckets_of, bucket_of, half_of, Agrees, over, own_or_clean, keeps_more, MayStep, LocalState, WritesPage, view_over, seen_over_held, SplitTarget, IsAtRest, seed_of, HoldsAmongAt, IsUnderWay, SplitFields, StandsAt, steps_left, steps_left_at, Rests, SplitPhase, agrees_through_write, may_write, writes_over_clean}
use Rattle.mlt_hash_split.proofs.Closing.{HasClean, HasClosed, IsClosed, closed_by_header, closes}
use Rattle.mlt_hash_split.proofs.Later.{begins_now, stands_now}

-- the header may be written, and the depths are in their ranges
module _ (target : SplitTarget) (m : LocalState) (split : SplitFields) (phase : split.phase ≡ SplitPhase.Header) (may : MayStep m) (file : HasClean target (view_over target.before m)) (under : IsUnderWay target (view_over target.before m) split) where
  pub depth_of_header : (split.depth < 16) × (split.depth ≡ split.directory_depth) × (split.made.depth ≡ split.directory_depth + 1)
  depth_of_header =
      let begins = begins_now target m split may file under in
      let stands = stands_now target m split SplitPhase.Header phase may file under in
      (omega (arith, begins.deep, under.small), stands.deep, stands.deeper)

  pub header_may_be_written : can_write m.locks m.running.tx target.root ≡ true
  header_may_be_written = may_write m target.root (under.doubles depth_of_header.1)

module _ (target : SplitTarget) (old new : LocalState) (split : SplitFields) (phase : split.phase ≡ SplitPhase.Header) (under : IsUnderWay target (view_over target.before old) split) (depth : (split.depth < 16) × (split.depth ≡ split.directory_depth) × (split.made.depth ≡ split.directory_depth + 1)) (writes : WritesPage (view_over target.before old) (view_over target.before new) target.root (Page.Head split.made)) where
  before : (clean : ℕ → Option Page) → Agrees (view_over target.before new).seen clean → Agrees (view_over target.before old).seen clean
  before clean = (agrees_through_write (view_over target.before old) (view_over target.before new) target.root (Page.Head split.made) clean writes).1

  held_as_before : (q : ℕ) → is_some ((view_over target.before old).seen q) ≡ true → is_some ((view_over target.before new).seen q) ≡ true
  held_as_before q held = ap is_some (writes.seen q) ∙ held

  exclusive_as_before : (q : ℕ) → map.get (view_over target.before old).modes q ≡ Some Exclusive → map.get (view_over target.before new).modes q ≡ Some Exclusive
  exclusive_as_before q held = ap (λ (modes : Modes). map.get modes q) writes.modes ∙ held

  closed : (clean : ℕ → Option Page) → Agrees (view_over target.before new).seen clean → HasForm target.bits clean target.root → IsClosed target.bits under.splitters (over clean under.rest) (over clean (view_over target.before new).own) target.root split.old_page split.new_page (seed_of target)
  closed clean agree form =
      let begins = under.begins clean (before clean agree) form in
      let stands = subst (λ (p : SplitPhase). StandsAt p target under.splitters (over clean under.rest) (over clean (view_over target.before old).own) split under.bucket) phase (under.stands clean (before clean agree) form) in
      let bucket : (buckets_of (over clean under.rest) split.old_page).depth ≡ split.depth = ap (λ (p : Option Page). (bucket_of p).depth) begins.was ∙ begins.depth in
      closed_by_header target.bits under.splitters (over clean under.rest) target.root split.old_page split.new_page (seed_of target) begins.may (over clean (view_over target.before old).own) (over clean (view_over target.before new).own) stands.taken split.made stands.filled
      (omega (arith, depth.0, depth.1, depth.2)) (omega (arith, begins.directory_depth, depth.2)) (omega (arith, bucket, depth.1, depth.2))
      (writes_over_clean (view_over target.before old) (view_over target.before new) target.root (Page.Head split.made) clean writes)

  -- with the header written, the split is closed over the pages that the walk holds
  pub header_closes : HasClosed target (view_over target.before new) under.rest under.splitters split split.made under.bucket
  header_closes =
      let among = subst (λ (p : SplitPhase). HoldsAmongAt p target.held_before (view_over target.before old) under.header.dirs split) phase under.among in
      record {
        bounded = under.bounded;
        keeps = keeps_more target.bits target.active target.root (view_over target.before old).seen (view_over target.before new).seen under.rest (λ q first sees. writes.seen q ∙ sees) under.keeps;
        head_held = held_as_before target.root under.head_held;
        head = ap (λ (o : Option Page). own_or_clean o (unwrap_or ((view_over target.before new).seen target.root) None)) writes.here;
        old_held = held_as_before split.old_page under.old_held;
        new_held = held_as_before split.new_page (seen_over_held target.before old split.new_page Exclusive under.new_exclusive);
        old_exclusive = exclusive_as_before split.old_page under.exclusive;
        new_exclusive = exclusive_as_before split.new_page under.new_exclusive;
        fewer = under.fewer;
        absent = under.absent;
        no_ghost = under.no_ghost;
        room = under.room;
        small = under.small;
        few_before = under.few_before;
        begins = λ clean agree form. under.begins clean (before clean agree) form;
        closed = closed;
        among = record {
          pages = among.pages;
          few = among.few;
          all = λ q some. among.all q (ap is_some (sym (ap (λ (modes : Modes). map.get modes q) writes.modes)) ∙ some);
          old_dirs = λ i low high. among.new_dirs i high;
          new_dirs = λ i lt. absurd (omega arith);
        };
      }

-- **The walk's file is at rest once the header is written.**
pub rests_at_header : (target : SplitTarget) (old new : LocalState) (split : SplitFields) (n : ℕ) → split.phase ≡ SplitPhase.Header → MayStep old → HasClean target (view_over target.before old) → IsUnderWay target (view_over target.before old) split
    → WritesPage (view_over target.before old) (view_over target.before new) target.root (Page.Head split.made) → n ≡ (if bit_at split.depth split.seed == 1 then split.new_page else split.old_page)
    → Rests target new split n × (steps_left split ≡ 1)
rests_at_header target old new split n phase may file under writes is =
    let depth = depth_of_header target old split phase may file under in
    let begins = begins_now target old split may file under in
    let done = header_closes target old new split phase under depth writes in
    let witness : HasClean target (view_over target.before new) = record {
      clean = file.clean;
      agrees = (agrees_through_write (view_over target.before old) (view_over target.before new) target.root (Page.Head split.made) file.clean writes).0 file.agrees;
      form = file.form;
    } in (
      record {
        header = split.made;
        bucket = half_of target.bits under.splitters under.bucket (bit_at split.depth split.seed);
        rest = subst (λ (q : ℕ). IsAtRest target (view_over target.before new) q split.made (half_of target.bits under.splitters under.bucket (bit_at split.depth split.seed))) (sym is) (closes target (view_over target.before new) under.rest under.splitters split split.made under.bucket witness done);
        deeper = ap (λ l. l + 1) begins.depth;
        in_place = λ ne. absurd (ne depth.1);
        doubled = λ _. depth.2;
      },
      ap (steps_left_at split.depth split.directory_depth) phase,
    )
