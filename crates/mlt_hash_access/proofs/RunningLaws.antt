-- What stays true of all running subtransactions: their images are locked, pages with images are there, and so are
-- pages that are locked. Other crates cite these laws.
use Rattle.std.proofs.Common.{◌≡◌, ◌≢◌, ℕ, true, None, is_some, unwrap_or, sym, ap, ◌∙◌, inl, inr, arith}
use Rattle.std.specs.FinMap as map
use Rattle.mlt_hash_access.proofs.Names.{cases_eq, false≢true, nat_tests, Mode, Pages, page_at, LockTable, can_read, AreCompatible, granted, released, can_write-granted, or_image, put_back, not_there, not_true, page_at-put_back, RunningImages, image_at, ImagesAreLocked, ImagesAreApart, ImagesAreThere, DropsImages}
use Rattle.mlt_page_locks.proofs.LockLaws.{can_read-released, can_write-released}
use Rattle.mlt_page_subtx.specs.Locking.{LocksPagesThere}

-- images stay locked where a lock is granted
pub images_locked-granted : (running : RunningImages) (locks : LockTable) (tx q : ℕ) (mode : Mode) → ImagesAreLocked running locks → ImagesAreLocked running (granted locks tx q mode)
images_locked-granted running locks tx q mode locked u p some = grind (arith, can_write-granted locks tx q mode u p, locked u p some)

-- and where a transaction drops its images and releases its locks
pub images_locked-released : (running running' : RunningImages) (locks : LockTable) (tx : ℕ) → ImagesAreLocked running locks → DropsImages tx running running' → ImagesAreLocked running' (released locks tx)
images_locked-released running running' locks tx locked drops u p some =
    elim (cases_eq u tx) [
      | inl mine ↦ absurd (false≢true (grind (arith, nat_tests, some, drops u p)))
      | inr differ ↦ grind (arith, nat_tests, can_write-released locks tx u p, locked u p (grind (arith, nat_tests, some, drops u p)))
    ]

-- pages with images stay there where a transaction ends
pub images_there-ended : (running running' : RunningImages) (pages : Pages) (tx : ℕ) → ImagesAreThere running pages → DropsImages tx running running' → ImagesAreThere running' pages
images_there-ended running running' pages tx there drops u p some =
    elim (cases_eq u tx) [
      | inl mine ↦ absurd (false≢true (grind (arith, nat_tests, some, drops u p)))
      | inr differ ↦ there u p (grind (arith, nat_tests, some, drops u p))
    ]

-- and where it is rolled back: it drops no page of which another keeps an image
pub images_there-rolled_back : (running running' : RunningImages) (pages : Pages) (tx : ℕ) → ImagesAreThere running pages → ImagesAreApart running → DropsImages tx running running'
    → ImagesAreThere running' (put_back (unwrap_or (map.get running tx) map.empty) pages)
images_there-rolled_back running running' pages tx there apart drops u p some =
    elim (cases_eq u tx) [
      | inl mine ↦ absurd (false≢true (grind (arith, nat_tests, some, drops u p)))
      | inr differ ↦
          let has : is_some (image_at running u p) ≡ true = grind (arith, nat_tests, some, drops u p) in
          let none : image_at running tx p ≡ None = not_there (image_at running tx p) (not_true (is_some (image_at running tx p)) (λ mine. differ (apart u tx p has mine))) in
          ap is_some (page_at-put_back (unwrap_or (map.get running tx) map.empty) pages p ∙ ap (λ o. or_image o (page_at pages p)) none) ∙ there u p has
    ]

-- locked pages stay there where locks are released,
pub locks_there-released : (locks : LockTable) (pages : Pages) (tx : ℕ) → LocksPagesThere locks pages → LocksPagesThere (released locks tx) pages
locks_there-released locks pages tx there u p reads = there u p (grind (arith, nat_tests, reads, can_read-released locks tx u p))

-- and where a transaction is rolled back, whose pages nobody else has locked
pub locks_there-rolled_back : (running : RunningImages) (locks : LockTable) (pages : Pages) (tx : ℕ) → AreCompatible locks → ImagesAreLocked running locks → LocksPagesThere locks pages
    → LocksPagesThere (released locks tx) (put_back (unwrap_or (map.get running tx) map.empty) pages)
locks_there-rolled_back running locks pages tx ok locked there u p reads =
    let was : can_read locks u p ≡ true = grind (arith, nat_tests, reads, can_read-released locks tx u p) in
    let differ : u ≢ tx = λ same. false≢true (grind (arith, nat_tests, reads, can_read-released locks tx u p)) in
    let none : image_at running tx p ≡ None = not_there (image_at running tx p) (not_true (is_some (image_at running tx p)) (λ mine. differ (sym (ok tx u p (locked tx p mine) was)))) in
    ap is_some (page_at-put_back (unwrap_or (map.get running tx) map.empty) pages p ∙ ap (λ o. or_image o (page_at pages p)) none) ∙ there u p was
