-- The beginning of a split
use Rattle.std.proofs.Common.{ℕ, ◌≡◌, ◌<◌, ◌≤◌, ◌+◌, ◌-◌, ◌^◌, is_some, List, Option, Some, refl, sym, ◌∙◌, ap, subst, arith}
use Rattle.std.specs.FinMap as map
use Rattle.mlt_hash_split.proofs.Names.{Exclusive, BucketFields, HeadFields, Page, page_at, HasForm, Writes, bucket_of, buckets_of, depth_of, header_of, lead_of, half_of, Agrees, over, own_or_clean, keeps_more, MakesPage, View, view_over, LocalState, SplitTarget, HoldsAmong, IsAtRest, held_page, most_held, seed_of, Begins, IsAtOldBucket, IsUnderWay, SplitFields, SplitPhase, page_count, made_is_not_clean, makes_over}
use Rattle.mlt_page.{specs.Stores.PageStore, specs.Stores.Pages, proofs.Numbered.page_inserted}
use Rattle.mlt_hash_access.{specs.PageSteps.MakesLockedPage, proofs.Views.agrees_before_make}
use Rattle.mlt_hash_split.{specs.Splits.HasHalves, specs.Splits.MayBegin, proofs.Among.among_after_make, proofs.Among.count_is_few, proofs.Among.most_is_small, proofs.Closing.HasClean, proofs.Closing.held_page_over}
use Rattle.mlt_hash_split.proofs.HeldPages.{exclusive_after_make, grows_by_make, mode_after_make, reads_after_make, same_bucket, same_header, seen_after_make}

module _ (target : SplitTarget) (view : View) (n : ℕ) (header : HeadFields) (bucket : BucketFields) (rest : IsAtRest target view n header bucket) where
  -- over any clean pages that agree the walk's file at rest has its header and its bucket
  pub rest_head : (clean : ℕ → Option Page) → Agrees view.seen clean → over clean view.own target.root ≡ Some (Page.Head header)
  rest_head clean agrees = sym (held_page_over view clean target.root agrees rest.head_held) ∙ rest.head

  pub rest_bucket : (clean : ℕ → Option Page) → Agrees view.seen clean → over clean view.own n ≡ Some (Page.Bucket bucket)
  rest_bucket clean agrees = sym (held_page_over view clean n agrees rest.bucket_held) ∙ rest.found

  -- the directory is at most 16 deep, and the bucket no deeper
  pub rest_is_small : HasClean target view → header.depth ≤ 16
  rest_is_small w = subst (λ (p : Option Page). (header_of p).depth ≤ 16) (rest_head w.clean w.agrees) (rest.keeps w.clean w.agrees w.form).form.listed.small

  pub rest_is_shallow : HasClean target view → bucket.depth ≤ header.depth
  rest_is_shallow w =
      let f = (rest.keeps w.clean w.agrees w.form).form in
      let fine : (buckets_of (over w.clean view.own) (lead_of (over w.clean view.own) target.root (seed_of target))).depth ≤ depth_of (over w.clean view.own) target.root = f.form.fine (seed_of target) (rest.bounded target.key) in
      let at : (buckets_of (over w.clean view.own) n).depth ≤ depth_of (over w.clean view.own) target.root = subst (λ o. (buckets_of (over w.clean view.own) o).depth ≤ depth_of (over w.clean view.own) target.root) (rest.leads w.clean w.agrees w.form) fine in
      subst (λ (p : Option Page). bucket.depth ≤ (header_of p).depth) (rest_head w.clean w.agrees) (subst (λ (p : Option Page). (bucket_of p).depth ≤ depth_of (over w.clean view.own) target.root) (rest_bucket w.clean w.agrees) at)

-- a walk at rest holds fewer than 300 pages
pub few_at_rest : (target : SplitTarget) (m : LocalState) (n : ℕ) (header : HeadFields) (bucket : BucketFields) → HasClean target (view_over target.before m) → IsAtRest target (view_over target.before m) n header bucket → page_count m.locks m.running.tx < 300
few_at_rest target m n header bucket w rest =
    let small = rest_is_small target (view_over target.before m) n header bucket rest w in
    let shallow = rest_is_shallow target (view_over target.before m) n header bucket rest w in
    count_is_few target.before m header.dirs header.dirs 0 (2 ^ (header.depth - 8)) 0 (most_held target.held_before bucket.depth header.depth) rest.among (most_is_small target.held_before bucket.depth header.depth rest.few_before (omega arith) small)

one_more_held : (before l g : ℕ) → most_held before l g + 1 ≡ most_held before (l + 1) g
one_more_held before l g = omega arith

-- **A split whose new bucket is made is under way.**
module _ (target : SplitTarget) (old new : View) (n q : ℕ) (ones : BucketFields) (header : HeadFields) (bucket : BucketFields) (rest : IsAtRest target old n header bucket) (shallow : bucket.depth < target.room_depth) (doubles : bucket.depth ≡ header.depth → map.get old.modes target.root ≡ Some Exclusive) (makes : MakesPage old new q (Page.Bucket ones)) (ones_is : ones ≡ half_of target.bits target.active bucket 1) where
  begins_over : (second : List ℕ) (clean : ℕ → Option Page) → Agrees new.seen clean → HasForm target.bits clean target.root
      → Begins target (over clean old.own) (record { seed = seed_of target; old_page = n; new_page = q; depth = bucket.depth; directory_depth = header.depth; zeros = half_of target.bits target.active bucket 0; made = record { depth = header.depth + 1; dirs = header.dirs }; second = second; phase = SplitPhase.OldBucket }) bucket
  begins_over second clean agrees form =
      let before = agrees_before_make old new q (Page.Bucket ones) clean makes agrees in
      record {
        may = record {
          bounded = rest.bounded;
          form = (rest.keeps clean before form).form;
          pseudokey = rest.bounded target.key;
          leads = rest.leads clean before form;
          fresh = ap (λ o. own_or_clean o (clean q)) makes.own_before ∙ made_is_not_clean old new q (Page.Bucket ones) clean makes agrees;
        };
        was = rest_bucket target old n header bucket rest clean before;
        seed = refl;
        depth = refl;
        directory_depth = ap (λ (p : Option Page). (header_of p).depth) (rest_head target old n header bucket rest clean before);
        deep = shallow;
      }

  stands_over : (second : List ℕ) (clean : ℕ → Option Page) → Agrees new.seen clean → HasForm target.bits clean target.root
      → IsAtOldBucket target target.active (over clean old.own) (over clean new.own) (record { seed = seed_of target; old_page = n; new_page = q; depth = bucket.depth; directory_depth = header.depth; zeros = half_of target.bits target.active bucket 0; made = record { depth = header.depth + 1; dirs = header.dirs }; second = second; phase = SplitPhase.OldBucket }) bucket
  stands_over second clean agrees form =
      let before = agrees_before_make old new q (Page.Bucket ones) clean makes agrees in
      record {
        zeros = refl;
        ones = subst (λ (b : BucketFields). Writes (over clean old.own) (over clean new.own) q (Page.Bucket b)) ones_is (makes_over old new q (Page.Bucket ones) clean makes);
        doubles = λ _. ap (λ (p : Option Page). record { depth = header.depth + 1; dirs = (header_of p).dirs }) (sym (rest_head target old n header bucket rest clean before));
      }

  pub begins_under_way : (second : List ℕ) → IsUnderWay target new (record { seed = seed_of target; old_page = n; new_page = q; depth = bucket.depth; directory_depth = header.depth; zeros = half_of target.bits target.active bucket 0; made = record { depth = header.depth + 1; dirs = header.dirs }; second = second; phase = SplitPhase.OldBucket })
  begins_under_way second = record {
    bounded = rest.bounded;
    rest = old.own;
    splitters = target.active;
    header = header;
    bucket = bucket;
    keeps = keeps_more target.bits target.active target.root old.seen new.seen old.own (grows_by_make old new q (Page.Bucket ones) makes) rest.keeps;
    head_held = ap is_some (seen_after_make old new q (Page.Bucket ones) makes target.root rest.head_held) ∙ rest.head_held;
    head = reads_after_make old new q (Page.Bucket ones) makes target.root rest.head_held ∙ rest.head;
    old_held = ap is_some (seen_after_make old new q (Page.Bucket ones) makes n rest.bucket_held) ∙ rest.bucket_held;
    exclusive = mode_after_make old new q (Page.Bucket ones) makes n rest.bucket_held ∙ rest.exclusive;
    new_exclusive = exclusive_after_make old new q (Page.Bucket ones) makes;
    doubles = λ e. mode_after_make old new q (Page.Bucket ones) makes target.root rest.head_held ∙ doubles e;
    fewer = λ i k. k;
    absent = rest.absent;
    no_ghost = rest.no_ghost;
    room = rest.room;
    small = rest.small;
    few_before = rest.few_before;
    begins = begins_over second;
    stands = stands_over second;
    among = subst (λ most. HoldsAmong new header.dirs header.dirs 0 (2 ^ (header.depth - 8)) 0 most) (one_more_held target.held_before bucket.depth header.depth) (among_after_make old new header.dirs header.dirs 0 (2 ^ (header.depth - 8)) 0 (most_held target.held_before bucket.depth header.depth) rest.among q Exclusive makes.modes);
  }

-- what is read of the walk's file at rest
pub rest_as_read : (target : SplitTarget) (view : View) (n : ℕ) (header read_header : HeadFields) (bucket read : BucketFields) → IsAtRest target view n header bucket → held_page view target.root ≡ Some (Page.Head read_header) → held_page view n ≡ Some (Page.Bucket read) → IsAtRest target view n read_header read
rest_as_read target view n header read_header bucket read rest head found =
    let h = same_header view target.root header read_header rest.head head in
    let b = same_bucket view n bucket read rest.found found in
    subst (λ (p : HeadFields × BucketFields). IsAtRest target view n p.0 p.1) (λ i. (h i, b i)) rest

pub begun : (target : SplitTarget) (old new : View) (n q seed : ℕ) (header : HeadFields) (bucket zeros ones : BucketFields) (second : List ℕ) → MayBegin target old n
    → held_page old target.root ≡ Some (Page.Head header) → held_page old n ≡ Some (Page.Bucket bucket)
    → seed ≡ seed_of target → zeros ≡ half_of target.bits target.active bucket 0 → ones ≡ half_of target.bits target.active bucket 1
    → MakesPage old new q (Page.Bucket ones)
    → IsUnderWay target new (record { seed = seed; old_page = n; new_page = q; depth = bucket.depth; directory_depth = header.depth; zeros = zeros; made = record { depth = header.depth + 1; dirs = header.dirs }; second = second; phase = SplitPhase.OldBucket })
begun target old new n q seed header bucket zeros ones second begin head found seed_is zeros_is ones_is makes =
    let h = same_header old target.root begin.header header begin.rest.head head in
    let b = same_bucket old n begin.bucket bucket begin.rest.found found in
    let rest = rest_as_read target old n begin.header header begin.bucket bucket begin.rest head found in
    let shallow = subst (λ (c : BucketFields). c.depth < target.room_depth) b begin.shallow in
    let doubles = subst (λ (p : HeadFields × BucketFields). p.1.depth ≡ p.0.depth → map.get old.modes target.root ≡ Some Exclusive) (λ i. (h i, b i)) begin.doubles in
    let way = begins_under_way target old new n q ones header bucket rest shallow doubles makes ones_is second in
    subst (λ (p : ℕ × BucketFields). IsUnderWay target new (record { seed = p.0; old_page = n; new_page = q; depth = bucket.depth; directory_depth = header.depth; zeros = p.1; made = record { depth = header.depth + 1; dirs = header.dirs }; second = second; phase = SplitPhase.OldBucket })) (λ i. (sym seed_is i, sym zeros_is i)) way

-- the halves that are made are those of the bucket that was found
pub halves_made : (target : SplitTarget) (old new : LocalState) (n : ℕ) (read seen ones : BucketFields) (split : SplitFields)
    → held_page (view_over target.before old) n ≡ Some (Page.Bucket read) → held_page (view_over target.before old) n ≡ Some (Page.Bucket seen)
    → split.zeros ≡ half_of target.bits target.active read 0 → ones ≡ half_of target.bits target.active read 1
    → MakesLockedPage old new split.new_page (Page.Bucket ones) → HasHalves target new.store.pages seen split
halves_made target old new n read seen ones split found at zeros_is ones_is makes =
    let same : read ≡ seen = same_bucket (view_over target.before old) n read seen found at in
    let pages : new.store.pages ≡ map.insert old.store.pages split.new_page (Page.Bucket ones) = ap (λ (s : PageStore). s.pages) makes.store in
    record {
      zeros = zeros_is ∙ ap (λ b. half_of target.bits target.active b 0) same;
      ones = ap (λ (all : Pages). page_at all split.new_page) pages ∙ page_inserted old.store.pages split.new_page (Page.Bucket ones)
          ∙ ap (λ b. Some (Page.Bucket b)) (ones_is ∙ ap (λ b. half_of target.bits target.active b 1) same);
    }

-- the depth of a file's header, with one more, is small
pub deeper_fits : (target : SplitTarget) (view : View) (n : ℕ) (header : HeadFields) → HasClean target view → MayBegin target view n → held_page view target.root ≡ Some (Page.Head header) → header.depth ≤ 16
deeper_fits target view n header w begin head =
    rest_is_small target view n header begin.bucket (rest_as_read target view n begin.header header begin.bucket begin.bucket begin.rest head begin.rest.found) w
