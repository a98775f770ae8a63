-- A view in which nothing is written: what is read is what the clean pages have, and the next write is the first.
-- Other crates cite this module.
use Rattle.std.proofs.Common.{◌≡◌, ℕ, ◌≤◌, Option, None, Some, is_some, refl, sym, ap, ◌∙◌, arith, nat_cmp}
use Rattle.std.specs.FinMap as map
use Rattle.mlt_hash_access.proofs.Names.{false≢true, Mode, Page, Images, image_of, own_or_clean, MayStep, LocalState, IsUnwritten, ReadsPage, View, view_of}
use Rattle.mlt_page_locks.proofs.Maps.{same_entries}
use Rattle.mlt_hash_access.proofs.Views.{image_is_own}

-- what is read of a page is what the clean page has,
pub sees_page : (old new : View) (q : ℕ) (mode : Mode) (page : Option Page) → IsUnwritten old → ReadsPage old new q mode page → new.seen q ≡ Some page
sees_page old new q mode page none reads = reads.here ∙ ap Some (sym (ap (λ own. own_or_clean own reads.first) (none q)) ∙ reads.reads)

-- and nothing is written still
pub unwritten_still : (old new : View) (q : ℕ) (mode : Mode) (page : Option Page) → IsUnwritten old → ReadsPage old new q mode page → IsUnwritten new
unwritten_still old new q mode page none reads p = reads.own p ∙ none p

-- a page that is not written has no first image
pub unwritten_image : (m : LocalState) (q : ℕ) (image : Option (Option Page)) → image_of m.running.images q ≡ image → MayStep m → (view_of m).own q ≡ None → image ≡ None
unwritten_image m q None is may none = refl
unwritten_image m q (Some first) is may none = absurd (false≢true (sym (ap is_some none) ∙ image_is_own m q may (ap is_some is)))

-- **A transaction whose view has no writes has kept no images.**
pub unwritten_has_no_images : (m : LocalState) → MayStep m → IsUnwritten (view_of m) → m.running.images ≡ map.empty
unwritten_has_no_images m may none = same_entries m.running.images map.empty (λ q. unwritten_image m q (image_of m.running.images q) refl may (none q) ∙ sym (map.get-empty {X = Option Page} nat_cmp q))

-- **So its next write is not its third.**
pub first_write_is_not_third : (m : LocalState) → MayStep m → IsUnwritten (view_of m) → 2 ≤ map.len m.running.images → ⊥
first_write_is_not_third m may none third =
    let few : map.len m.running.images ≡ 0 = ap (λ (images : Images). map.len images) (unwritten_has_no_images m may none) ∙ map.len-empty nat_cmp (Option Page) in
    omega (arith, few, third)
