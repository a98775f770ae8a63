-- Splits in place where one page of the directory has all entries of the bucket
use Rattle.std.proofs.Common.{ℕ, zero, suc, ◌≡◌, ◌<◌, ◌≤◌, ◌+◌, ◌-◌, ◌*◌, ◌/◌, ◌^◌, slice_index, Option, Some, sym, ◌∙◌, ap, subst, arith, nat_cmp}
use Rattle.std.specs.FinSet as set
use Rattle.mlt_hash_split.proofs.Names.{first_bits, Exclusive, BucketFields, HeadFields, Page, HasForm, Agrees, over, first_bits-first_bits, MayStep, LocalState, LocksPage, WritesHeldPage, View, view_over, write_writes, SplitTarget, held_page, Begins, HaveNewPlaces, IsInPlace, IsUnderWay, SplitFields, StandsAt, IsDone, IsMaking, IsNextPage, SplitPhase}
use Rattle.mlt_hash_access.proofs.OwnSteps.{lock_reads_some}
use Rattle.mlt_hash_split.{specs.Steps.IsDirectoryPage, specs.Steps.IsKeysPage, proofs.OldBucket.depths_are_small, proofs.OldBucket.header_is_elsewhere, proofs.Closing.held_page_over, proofs.InPlace.same_depth}

-- what holds of 0 to 7
up_to_seven : (P : ℕ → Type 0) → P 0 → P 1 → P 2 → P 3 → P 4 → P 5 → P 6 → P 7 → (k : ℕ) → k ≤ 7 → P k
up_to_seven P a b c d e f g h zero le = a
up_to_seven P a b c d e f g h (suc zero) le = b
up_to_seven P a b c d e f g h (suc (suc zero)) le = c
up_to_seven P a b c d e f g h (suc (suc (suc zero))) le = d
up_to_seven P a b c d e f g h (suc (suc (suc (suc zero)))) le = e
up_to_seven P a b c d e f g h (suc (suc (suc (suc (suc zero))))) le = f
up_to_seven P a b c d e f g h (suc (suc (suc (suc (suc (suc zero)))))) le = g
up_to_seven P a b c d e f g h (suc (suc (suc (suc (suc (suc (suc zero))))))) le = h
up_to_seven P a b c d e f g h (suc (suc (suc (suc (suc (suc (suc (suc n)))))))) le = absurd (omega (arith, le))

-- entry x is on page p, which has the second half of the entries that begin like x
abbrev IsOnPage : ℕ → Type 0
IsOnPage k = (x f p : ℕ) → x / 2 ^ (k + 1) ≡ f → 256 * p ≤ (2 * f + 1) * 2 ^ k → (2 * f + 1) * 2 ^ k + 2 ^ k ≤ 256 * (p + 1) → x / 256 ≡ p

is_on_page : (k : ℕ) → k ≤ 7 → IsOnPage k
is_on_page =
    up_to_seven IsOnPage (λ x f p q low high. omega (arith, q, low, high)) (λ x f p q low high. omega (arith, q, low, high)) (λ x f p q low high. omega (arith, q, low, high)) (λ x f p q low high. omega (arith, q, low, high))
    (λ x f p q low high. omega (arith, q, low, high)) (λ x f p q low high. omega (arith, q, low, high)) (λ x f p q low high. omega (arith, q, low, high)) (λ x f p q low high. omega (arith, q, low, high))

-- **The one page with places of the new bucket is the key's own.**
pub own_page : (seed l g place end : ℕ) → l < g → g ≤ l + 8 → g ≤ 16 → HaveNewPlaces seed l g place end → (first_bits g seed / 256 ≡ place) × (end ≡ place + 1)
own_page seed l g place end deep narrow small have =
    let none : g - (l + 9) ≡ 0 = omega (arith, narrow) in
    let one : end ≡ place + 1 = have.count ∙ ap (λ k. place + 2 ^ k) none in
    let next : g - l ≡ (g - (l + 1)) + 1 = omega (arith, deep) in
    let front : first_bits g seed / 2 ^ ((g - (l + 1)) + 1) ≡ first_bits l seed = ap (λ k. first_bits g seed / 2 ^ k) (sym next) ∙ first_bits-first_bits l g seed (omega (arith, deep)) (omega (arith, small)) in
    let last = subst (λ e. (2 * first_bits l seed + 1) * 2 ^ (g - (l + 1)) + 2 ^ (g - (l + 1)) ≤ 256 * e) one have.last in
    (is_on_page (g - (l + 1)) (omega (arith, deep, narrow)) (first_bits g seed) (first_bits l seed) place front have.first last, one)

module _ (target : SplitTarget) (splitters : set.FinSet nat_cmp) (base pages : ℕ → Option Page) (split : SplitFields) (bucket : BucketFields) (view : View) (n : ℕ) (begins : Begins target base split bucket) (deep : split.depth < split.directory_depth) (narrow : split.directory_depth ≤ split.depth + 8)
    (head_over : (header : HeadFields) → held_page view target.root ≡ Some (Page.Head header) → pages target.root ≡ Some (Page.Head header)) where
  in_place : (place end : ℕ) → IsInPlace target splitters base pages split place end → IsDirectoryPage target view place n → IsKeysPage target view n
  in_place place end stands next =
      let small = depths_are_small target base split bucket begins in
      let own = own_page split.seed split.depth split.directory_depth stands.first end deep narrow small.1 stands.places in
      let here : place ≡ first_bits split.directory_depth split.seed / 256 = (let from = stands.from in let more = stands.more in let one = own.1 in let at = own.0 in omega (arith, from, more, one, at)) in
      let depth : next.0.depth ≡ split.directory_depth = same_depth target splitters base pages split bucket place end next.0 begins stands (head_over next.0 next.1) in
      (next.0, next.1, next.2 ∙ ap (slice_index next.0.dirs) here ∙ (λ i. slice_index next.0.dirs (first_bits (sym depth i) (begins.seed i) / 256)))

  -- so is the next page of a split in place, at any phase
  next_is_own : (phase : SplitPhase) → StandsAt phase target splitters base pages split bucket → IsNextPage phase target view n → IsKeysPage target view n
  next_is_own (SplitPhase.InPlace place end) stands next = in_place place end stands next
  next_is_own (SplitPhase.Double place) stands next = absurd (let same = stands.deep in omega (arith, deep, same))
  next_is_own other stands next = absurd next

-- **Where one page has all entries of the bucket, a split in place locks and writes the key's own page and no other.**
pub narrow_next_page : (target : SplitTarget) (view : View) (split : SplitFields) (n : ℕ) (clean : ℕ → Option Page) → Agrees view.seen clean → HasForm target.bits clean target.root → IsUnderWay target view split
    → split.depth < split.directory_depth → split.directory_depth ≤ split.depth + 8 → IsNextPage split.phase target view n → IsKeysPage target view n
narrow_next_page target view split n clean agree form way deep narrow next =
    next_is_own target way.splitters (over clean way.rest) (over clean view.own) split way.bucket view n (way.begins clean agree form) deep narrow
    (λ header head. sym (held_page_over view clean target.root agree way.head_held) ∙ head) split.phase (way.stands clean agree form) next

-- and it makes no page
makes_none : (phase : SplitPhase) (target : SplitTarget) (splitters : set.FinSet nat_cmp) (base pages : ℕ → Option Page) (split : SplitFields) (bucket : BucketFields) → split.depth < split.directory_depth → StandsAt phase target splitters base pages split bucket → IsMaking phase → ⊥
makes_none (SplitPhase.SecondHalf place) target splitters base pages split bucket deep stands making = let same = stands.deep in omega (arith, deep, same)
makes_none other target splitters base pages split bucket deep stands making = making

pub narrow_makes_none : (target : SplitTarget) (view : View) (split : SplitFields) (clean : ℕ → Option Page) → Agrees view.seen clean → HasForm target.bits clean target.root → IsUnderWay target view split → split.depth < split.directory_depth → IsMaking split.phase → ⊥
narrow_makes_none target view split clean agree form way deep = makes_none split.phase target way.splitters (over clean way.rest) (over clean view.own) split way.bucket deep (way.stands clean agree form)

-- nor writes the header
module _ (target : SplitTarget) (old new : LocalState) (split : SplitFields) (may : MayStep old) (deep : split.depth < split.directory_depth) (clean : ℕ → Option Page) (agree : Agrees (view_over target.before old).seen clean) (form : HasForm target.bits clean target.root) (way : IsUnderWay target (view_over target.before old) split) where
  rewritten : (n : ℕ) → (target.root ≡ n → ⊥) → ((mid : LocalState) × LocksPage old mid n Exclusive × ((p : Page) × WritesHeldPage mid new n p)) → (view_over target.before new).own target.root ≡ (view_over target.before old).own target.root
  rewritten n elsewhere step = (write_writes step.0 new n step.2.0 step.2.1).others target.root elsewhere ∙ (lock_reads_some old step.0 n Exclusive may step.1).1.own target.root

  leaves_header : (phase : SplitPhase) → StandsAt phase target way.splitters (over clean way.rest) (over clean (view_over target.before old).own) split way.bucket → ((n : ℕ) → IsNextPage phase target (view_over target.before old) n → target.root ≡ n → ⊥)
      → IsDone phase target old new split → (view_over target.before new).own target.root ≡ (view_over target.before old).own target.root
  leaves_header SplitPhase.OldBucket stands elsewhere done = (write_writes old new split.old_page done.0 done.1).others target.root (header_is_elsewhere target (over clean way.rest) split way.bucket (way.begins clean agree form))
  leaves_header (SplitPhase.InPlace place end) stands elsewhere done = rewritten done.0 (elsewhere done.0 done.1) done.2
  leaves_header other stands elsewhere done = absurd (let same = stands.deep in omega (arith, deep, same))

  pub narrow_leaves_header : ((n : ℕ) → IsNextPage split.phase target (view_over target.before old) n → target.root ≡ n → ⊥) → IsDone split.phase target old new split → (view_over target.before new).own target.root ≡ (view_over target.before old).own target.root
  narrow_leaves_header = leaves_header split.phase (way.stands clean agree form)
