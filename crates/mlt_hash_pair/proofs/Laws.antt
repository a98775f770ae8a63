-- What a pair knows by its view alone
use Rattle.std.proofs.Common.{◌≡◌, ◌≢◌, ℕ, false, Option, None, Some, is_some, refl, sym, ap, ◌∙◌, inl, inr, arith, nat_cmp}
use Rattle.std.specs.FinMap as map
use Rattle.std.specs.FinSet as set
use Rattle.mlt_hash_pair.proofs.Names.{none-some, Mode, Page, Modes, look_up, Agrees, LocalState, IsSameView, View, view_of, WriteFields, HasChanged, IsHolding, OwesIf, IsFinding, IsFound, PairFields, HasRead, IsThere, found_of, Descent}
use Rattle.mlt_page_locks.specs.LockTables.{can_read, pages_of}
use Rattle.mlt_hash_access.proofs.{Reading.read_is_there, Views.own_free}
use Rattle.mlt_hash_pair.specs.{Changes.KeepsNoMore, Pairs.find_by}

-- who holds no page reads none
reads_none : (m : LocalState) (q : ℕ) → pages_of m.locks m.running.tx ≡ map.empty → can_read m.locks m.running.tx q ≡ false
reads_none m q none = ap (λ (modes : Modes). is_some (map.get modes q)) none ∙ ap is_some (map.get-empty {X = Mode} nat_cmp q)

-- **Who holds no page is at the start of a pair.**
pub starts : (bits : ℕ → ℕ) (root left right : ℕ) (m : LocalState) → left ≢ right → pages_of m.locks m.running.tx ≡ map.empty → IsFinding bits root (find_by left right) (view_of m)
starts bits root left right m apart none = record {
  apart = apart;
  none_owed = refl;
  together = tt;
  left = tt;
  right = tt;
  unwritten = λ q. own_free m q (reads_none m q none);
  holds = λ q mode. (
    λ held. absurd (none-some mode (sym (ap (λ (modes : Modes). map.get modes q) none ∙ map.get-empty {X = Mode} nat_cmp q) ∙ held)),
    λ locked. elim locked [
      | inl none ↦ absurd none
      | inr none ↦ absurd none
    ],
  );
  few = let empty = map.len-empty nat_cmp Mode in let same = ap map.len none in omega (arith, empty, same);
}

-- **A pair on its way holds what it has read.**
pub holds_read : (bits : ℕ → ℕ) (root : ℕ) (pair : PairFields) (view : View) → IsFinding bits root pair view → IsHolding bits root pair view
holds_read bits root pair view finding = record { left = finding.left; right = finding.right; holds = finding.holds; few = let few = finding.few in omega (arith, few) }

-- what was found of a key is on the clean pages
found_there : (bits : ℕ → ℕ) (root key : ℕ) (view : View) (clean : ℕ → Option Page) (descent : Descent) → IsThere descent → HasRead bits root key view descent → Agrees view.seen clean → found_of descent ≡ look_up bits clean root key
found_there bits root key view clean (Descent.AtBucket dir bucket found) there read agree = read_is_there bits root key view dir bucket found clean read agree
found_there bits root key view clean descent there read agree = absurd there

-- **What was found of both keys is on the clean pages.**
pub both_there : (bits : ℕ → ℕ) (root : ℕ) (pair : PairFields) (view : View) (clean : ℕ → Option Page) → IsFound pair → IsHolding bits root pair view → Agrees view.seen clean → (found_of pair.left_descent ≡ look_up bits clean root pair.left) × (found_of pair.right_descent ≡ look_up bits clean root pair.right)
both_there bits root pair view clean found holding agree = (found_there bits root pair.left view clean pair.left_descent found.0 holding.left agree, found_there bits root pair.right view clean pair.right_descent found.1 holding.right agree)

-- views that read alike are one
pub one_view : (before after : View) → IsSameView before after → before ≡ after
one_view before after same = sym (λ i. record { modes = same.modes i; seen = λ q. same.seen q i; own = λ q. same.own q i })

-- **Owners that close leave a pair where it stands.**
pub owners_close : (bits : ℕ → ℕ) (root : ℕ) (active fewer : set.FinSet nat_cmp) (tx : ℕ) (pair : PairFields) (view : View) → HasChanged bits root active tx pair view → KeepsNoMore active fewer view → HasChanged bits root fewer tx pair view
owners_close bits root active fewer tx pair view changed keeps = record { found = changed.found; holding = changed.holding; unwritten = changed.unwritten; owes = owes pair.owed changed.owes }
  where
    owes : (owed : Option WriteFields) → OwesIf owed active tx pair view → OwesIf owed fewer tx pair view
    owes None none = tt
    owes (Some write) this = record { key = this.key; change = this.change; planners = this.planners; bucket = this.bucket; side = this.side; earlier = this.earlier; seen = this.seen; plan = this.plan; fewer = λ i kept. this.fewer i (keeps write.number this.bucket this.seen i kept) }
