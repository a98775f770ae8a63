-- First images that the transactions of a table keep
use Rattle.std.proofs.Common.{◌≡◌, ℕ, suc, IfNone, ◌<◌, ◌+◌, List, [], ◌∷◌, Option, Some, None, Bor, IfSome, is_some, true, false, length, get_or, refl, sym, ap, subst, ◌∙◌, ◌⊎◌, inl, inr, true≢false, arith, nat_cmp}
use Rattle.std.specs.FinMap as map
use Rattle.mlt_tx.proofs.Names.{cases_eq, Transaction, TxSlot, Table, AreTxSlots, LackImage, is_free, is_slot_of, table_of}
use Rattle.std.proofs.lemmas.List.{get_or_default}
use Rattle.mlt_page.specs.declared.page.Page.{Page}
use Rattle.mlt_page_subtx.specs.Images.{image_of}
use Rattle.mlt_tx.{specs.Tables.KeepsImage, specs.Tables.KeepsNoImage, specs.TxSlots.KeepsInSlot, proofs.TxSlots.get-table_of, proofs.TxSlots.stands_in_table}

-- where nobody in a slot keeps an image of the page, no transaction of the table does
pub none_keeps : (slots : List TxSlot) (page : ℕ) → LackImage slots page (length slots) → KeepsNoImage (table_of slots) page
none_keeps [] page lacks tx one there = let none = map.get-empty {X = Transaction} nat_cmp tx in absurd (cc)
none_keeps (slot ∷ slots) page lacks tx one there =
    elim (is_slot_of tx slot) as (λ b. is_slot_of tx slot ≡ b → image_of one.subtx.images page ≡ None) [
      | true ↦ λ own.
          let same : Some slot.transaction.value ≡ Some one = grind (arith, get-table_of slot slots tx) in
          let used : is_free slot ≡ false = grind arith in
          grind (arith, lacks 0 slot (omega arith) used, same)
      | false ↦ λ other.
          let rest : map.get (table_of slots) tx ≡ Some one = grind (arith, get-table_of slot slots tx) in
          none_keeps slots page (λ k d h used. lacks (suc k) d (omega arith) used) tx one rest
    ] refl

-- and who keeps one there, stands in the table
pub some_keeps : (slots : List TxSlot) (table : Table) (count page : ℕ) (first : Option Page) → AreTxSlots slots count → table_of slots ≡ table → KeepsInSlot slots page first → KeepsImage table page first
some_keeps slots table count page first is view k = record {
  tx = k.slot.tx;
  one = k.slot.transaction.value;
  there = ap (λ (t : Table). map.get t k.slot.tx) (sym view) ∙ subst (λ (s : TxSlot). map.get (table_of slots) s.tx ≡ Some s.transaction.value) (sym k.there) (stands_in_table slots k.place k.slot (record { as_many = is.one_each }) k.within (ap is_free (sym k.there) ∙ k.used));
  keeps = k.keeps;
}

-- an image that was asked of somebody in a slot
pub kept_there : (slots : List TxSlot) (page i : ℕ) (slot : TxSlot) (got : Option (Bor (Option Page))) → i < length slots → slot ≡ get_or slots i slot
    → IfSome got (λ first. (is_free slot ≡ false) × (image_of slot.transaction.value.subtx.images page ≡ Some first.now)) → IfSome got (λ first. KeepsInSlot slots page first.now)
kept_there slots page i slot None within there h = tt
kept_there slots page i slot (Some first) within there h = record { place = i; slot = slot; within = within; there = there; used = h.0; keeps = h.1 }

-- and of all in their slots
pub kept_in_table : (slots looked : List TxSlot) (table : Table) (count page : ℕ) (got : Option (Bor (Option Page))) → AreTxSlots slots count → table_of slots ≡ table → looked ≡ slots → IfSome got (λ first. KeepsInSlot looked page first.now) → IfSome got (λ first. KeepsImage table page first.now)
kept_in_table slots looked table count page None is view look h = tt
kept_in_table slots looked table count page (Some first) is view look h = some_keeps slots table count page first.now is view (subst (λ (s : List TxSlot). KeepsInSlot s page first.now) look h)

pub none_in_table : (slots looked : List TxSlot) (table : Table) (page : ℕ) (got : Option (Bor (Option Page))) → table_of slots ≡ table → looked ≡ slots → IfNone got (LackImage looked page (length looked)) → IfNone got (KeepsNoImage table page)
none_in_table slots looked table page (Some first) view look h = tt
none_in_table slots looked table page None view look h = subst (λ (t : Table). KeepsNoImage t page) view (none_keeps slots page (subst (λ (s : List TxSlot). LackImage s page (length s)) look h))

-- one more was asked, and keeps none
pub lack_more : (slots : List TxSlot) (page n : ℕ) (slot : TxSlot) → n < length slots → slot ≡ get_or slots n slot → (is_free slot ≡ false → image_of slot.transaction.value.subtx.images page ≡ None) → LackImage slots page n → LackImage slots page (n + 1)
lack_more slots page n slot within there lacks before k d below used = by (cases_eq k n)
  where
    by : (k ≡ n) ⊎ (k ≡ n → ⊥) → image_of (get_or slots k d).transaction.value.subtx.images page ≡ None
    by (inl same) =
        let own : get_or slots k d ≡ slot = ap (λ j. get_or slots j d) same ∙ get_or_default slots n d slot within ∙ sym there in
        ap (λ (s : TxSlot). image_of s.transaction.value.subtx.images page) own ∙ lacks (sym (ap is_free own) ∙ used)
    by (inr other) = before k d (omega arith) used

-- what is said of no value holds where there is none
pub none_of : {T : Type 0} (got : Option T) (P : Type 0) → is_some got ≡ false → IfNone got P → P
none_of None P none h = h
none_of (Some x) P none h = absurd (true≢false none)
