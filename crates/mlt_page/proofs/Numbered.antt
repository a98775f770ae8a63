-- The pages that the slots of a slab make: what is at a number, how many there are, and how a change of a slot
-- changes them.
use Prim.Native.Nat.{zero}
use Rattle.std.proofs.Common.{◌≡◌, ℕ, suc, ◌<◌, ◌+◌, cond, List, [], ◌∷◌, Some, None, Option, get_or, length, is_some, refl, sym, ap, subst, ◌∙◌, arith, get_or-set_same, get_or-set_other, count_by, nat_cmp}
use Rattle.std.{proofs.lemmas.Bool.cases_eq, proofs.lemmas.List.Sums.sum_by_from, specs.Cmp.nat_cmp_total, specs.Cmp.unsigned_tied, specs.FinMap.find}
use Rattle.std.specs.FinMap as map
use Rattle.slab.specs.Slab.{Slab, Updates, entries_from, get, slab_len, with_value}
use Rattle.mlt_page.specs.{declared.page.Page.Page, declared.slot.Slot.Slot, Values.BucketFields, Pages.page_with_slot, Numbered.pages_of, Stores.PageStore, Stores.Pages, Stores.SetsSlot, Stores.page_at}

below : (slots : List (Option Page)) (k q : ℕ) → q < k → find nat_cmp q (entries_from k slots) ≡ None
below [] k q lt = refl
below (None ∷ slots) k q lt = below slots (k + 1) q (omega arith)
below (Some page ∷ slots) k q lt = grind (arith, unsigned_tied q k, below slots (k + 1) q (omega arith))

above : (slots : List (Option Page)) (k q i : ℕ) → q ≡ k + i → find nat_cmp q (entries_from k slots) ≡ get_or slots i None
above [] k q i e = refl
above (None ∷ slots) k q zero e = below slots (k + 1) q (omega arith)
above (None ∷ slots) k q (suc i) e = above slots (k + 1) q i (omega arith)
above (Some page ∷ slots) k q zero e = grind (arith, unsigned_tied q k)
above (Some page ∷ slots) k q (suc i) e = grind (arith, unsigned_tied q k, above slots (k + 1) q i (omega arith))

pub page_in_slab : (slab : Slab Page) (number : ℕ) → page_at (pages_of slab) number ≡ get slab number
page_in_slab slab number = map.get-from_entries nat_cmp_total (entries_from 0 slab.slots) number ∙ above slab.slots 0 number number (omega arith)

count : (slots : List (Option Page)) (k : ℕ) → map.len (map.from_entries {R = nat_cmp} (entries_from k slots)) ≡ count_by is_some slots
count [] k = map.len-empty nat_cmp Page
count (None ∷ slots) k = count slots (k + 1)
count (Some page ∷ slots) k =
    let rest = map.from_entries {R = nat_cmp} (entries_from (k + 1) slots) in
    map.len-insert nat_cmp_total rest k page
    ∙ ap (λ (o : Option Page). cond (is_some o) (map.len rest) (map.len rest + 1)) (map.get-from_entries nat_cmp_total (entries_from (k + 1) slots) k ∙ below slots (k + 1) k (omega arith))
    ∙ ap (λ n. n + 1) (count slots (k + 1))
    ∙ omega arith ∙ sym (sum_by_from (λ slot. cond (is_some slot) 1 0) 1 slots)

pub pages_counted : (slab : Slab Page) → map.len (pages_of slab) ≡ slab_len slab
pages_counted slab = count slab.slots 0

pub same_pages : (a b : Pages) → ((q : ℕ) → page_at a q ≡ page_at b q) → a ≡ b
same_pages a b same = map.same_map nat_cmp_total map.nat_cmp-IsAntisymmetric a b same

pub page_put : (old new : Slab Page) (key : ℕ) (page : Page) → Updates old new key (Some page) → pages_of new ≡ map.insert (pages_of old) key page
page_put old new key page is = same_pages _ _ (λ q. grind (arith, cases_eq q key, unsigned_tied q key, page_in_slab new q, page_in_slab old q, map.get-insert nat_cmp_total (pages_of old) key page q, is.changed, is.others q))

pub page_taken : (old new : Slab Page) (key : ℕ) → Updates old new key None → pages_of new ≡ map.remove (pages_of old) key
page_taken old new key is = same_pages _ _ (λ q. grind (arith, cases_eq q key, unsigned_tied q key, page_in_slab new q, page_in_slab old q, map.get-remove nat_cmp_total (pages_of old) key q, is.changed, is.others q))

taken_within : (slots : List (Option Page)) (key : ℕ) (page : Page) → get_or slots key None ≡ Some page → key < length slots
taken_within [] key page is = grind (arith, is)
taken_within (slot ∷ slots) zero page is = omega arith
taken_within (slot ∷ slots) (suc key) page is = let rest = taken_within slots key page is in omega (arith, rest)

pub write_updates : (slab : Slab Page) (key : ℕ) (old page : Page) → get slab key ≡ Some old → Updates slab (with_value slab key page) key (Some page)
write_updates slab key old page is =
    let within : key < length slab.slots = taken_within slab.slots key old is in
    record {
      changed = get_or-set_same slab.slots key (Some page) None within;
      others = λ other apart. get_or-set_other slab.slots key other (Some page) None apart;
    }

-- a write of a page that is there, as the store's callers see it
pub page_written : (slab : Slab Page) (max_pages key number : ℕ) (old page : Page) (seen : PageStore) → record { pages = pages_of slab; max_pages = max_pages } ≡ seen → key ≡ number → get slab key ≡ Some old → ◌≡◌ {A = PageStore} (record { pages = pages_of (with_value slab key page); max_pages = max_pages }) (record seen { pages = map.insert seen.pages number page })
page_written slab max_pages key number old page seen is of_number there =
    let written = page_put slab (with_value slab key page) key page (write_updates slab key old page there) in
    λ i. record { pages = (written ∙ (λ j. map.insert (is j).pages (of_number j) page)) i; max_pages = (is i).max_pages }

-- a page that was put at a number stands there
pub page_inserted : (pages : Pages) (q : ℕ) (page : Page) → page_at (map.insert pages q page) q ≡ Some page
page_inserted pages q page = grind (arith, unsigned_tied q q, map.get-insert nat_cmp_total pages q page q)

same_page : {a b : Page} → ◌≡◌ {A = Option Page} (Some a) (Some b) → a ≡ b
same_page e = cc

-- and a slot that is set in a page that is there
pub slot_set : (slab : Slab Page) (max_pages key number i : ℕ) (old now : Page) (s : Slot) (seen : PageStore)
    → record { pages = pages_of slab; max_pages = max_pages } ≡ seen → key ≡ number → get slab key ≡ Some old
    → ((bucket : BucketFields) → old ≡ Page.Bucket bucket → now ≡ page_with_slot bucket i s)
    → SetsSlot seen (record { pages = pages_of (with_value slab key now); max_pages = max_pages }) number i s
slot_set slab max_pages key number i old now s seen is of_number there set bucket bucket_is =
    let here : page_at seen.pages number ≡ Some old = subst (λ (t : PageStore). page_at t.pages number ≡ Some old) is (subst (λ n. page_at (pages_of slab) n ≡ Some old) of_number (page_in_slab slab key ∙ there)) in
    page_written slab max_pages key number old now seen is of_number there
    ∙ ap (λ p. record seen { pages = map.insert seen.pages number p }) (set bucket (same_page (sym here ∙ bucket_is)))
