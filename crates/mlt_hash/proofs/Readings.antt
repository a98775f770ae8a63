-- What a walk that has written nothing reads of the clean pages, and how many it holds
use Rattle.std.proofs.Common.{◌≡◌, ℕ, ◌<◌, ◌≤◌, ◌+◌, true, Option, None, Some, is_some, refl, ap, ◌∙◌, arith, nat_cmp}
use Rattle.mlt_hash.proofs.Names.{nat_cmp_total, Mode, Page, page_at, Modes, stronger, with_page, IsCleanFor, MayStep, LocalState, FilePages, over, own_or_clean, HasWritten, ReadsPage, view_of, view_over, agrees_over, sees_page_since, bucket_held, bucket_mode, directory_held, directory_mode, header_held, header_mode, Pass}
use Rattle.std.specs.FinMap as map
use Rattle.mlt_page_locks.specs.LockTables.{page_count}
use Rattle.mlt_hash_access.{specs.Views.IsUnwrittenSince, proofs.Since.there_since, proofs.Views.page_count_of_view}

-- what was read is what the clean page is, with what was written before over it
pub reads_clean : (before : FilePages) (old new : LocalState) (q : ℕ) (mode : Mode) (page : Option Page) (clean : ℕ → Option Page) → MayStep new → IsCleanFor new clean → IsUnwrittenSince before (view_over before old) → ReadsPage (view_over before old) (view_over before new) q mode page → over clean before q ≡ page
reads_clean before old new q mode page clean may is none reads = agrees_over before new clean may is q page (sees_page_since before (view_over before old) (view_over before new) q mode page none reads)

-- one page more, at most, is held with it
pub one_page_more : (n : ℕ) (old new : Modes) (q : ℕ) (mode : Mode) → map.len old ≤ n → new ≡ with_page old q mode → map.len new ≤ n + 1
one_page_more n old new q mode few is = grind (arith, is, few, map.len-insert nat_cmp_total old q (stronger (map.get old q) mode))

-- a walk at its start holds none,
pub none_held : (modes : Modes) → modes ≡ map.empty → map.len modes ≤ 0
none_held modes is = omega (arith, ap map.len is, map.len-empty nat_cmp Mode)

-- then one, then two
one_held : (modes : Modes) (pass : Pass) (root : ℕ) → modes ≡ header_held map.empty pass root → map.len modes ≤ 1
one_held modes pass root is = one_page_more 0 map.empty modes root (header_mode pass) (none_held map.empty refl) is

two_held : (modes : Modes) (pass : Pass) (root dir : ℕ) → modes ≡ directory_held map.empty pass root dir → map.len modes ≤ 2
two_held modes pass root dir is = one_page_more 1 (header_held map.empty pass root) modes dir (directory_mode pass) (one_held (header_held map.empty pass root) pass root refl) is

-- and three at its bucket
pub three_held : (modes : Modes) (pass : Pass) (mode : Mode) (root dir bucket : ℕ) → modes ≡ bucket_held map.empty pass mode root dir bucket → map.len modes ≤ 3
three_held modes pass mode root dir bucket is = one_page_more 2 (directory_held map.empty pass root dir) modes bucket (bucket_mode pass mode) (two_held (directory_held map.empty pass root dir) pass root dir refl) is

-- so it may lock one more
pub few_held : (m : LocalState) (n : ℕ) → map.len (view_of m).modes ≤ n → n < 300 → page_count m.locks m.running.tx < 300
few_held m n few small = omega (arith, page_count_of_view m, few, small)

own_is_there : (own clean : Option Page) → is_some clean ≡ true → is_some (own_or_clean own clean) ≡ true
own_is_there None clean some = some
own_is_there (Some page) clean some = refl

-- a page of the walk's file is in the store
pub is_there : (before : FilePages) (m : LocalState) (clean : ℕ → Option Page) (q p : ℕ) → MayStep m → HasWritten before (view_of m) → IsCleanFor m clean → q ≡ p → is_some (over clean before p) ≡ true → is_some (page_at m.store.pages q) ≡ true
is_there before m clean q p may written is same some = there_since before m written clean q may is (own_is_there ((view_of m).own q) (over clean before q) (ap (λ p. is_some (over clean before p)) same ∙ some))
