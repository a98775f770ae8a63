-- What the pages mean is what the invariant says, in other words
use Rattle.mlt_manager.proofs.Names.{zero, false≢true, Cell, Account, Element, Counter, Size, IsInRange, key_number, Base, state_at, Means, state_of_record, Page, Slot, bucket_of, IsRecordMap, live_records}
use Rattle.std.proofs.Common.{suc, ◌≡◌, ◌<◌, ℕ, Bool, false, List, [], ◌∷◌, length, get_or, Option, None, Some, is_some, Contains, unwrap_or, ◌↔◌, refl, sym, ap, subst, ◌∙◌, arith, nat_cmp}
use Rattle.std.specs.FinMap as map
use Rattle.mlt_object_kinds.{specs.Bases.counter_at, specs.Bases.element_at, specs.Bases.size_at, specs.Cells.CellState, specs.Cells.CellState.AccountState, specs.Cells.CellState.ElementState, specs.Cells.CellState.CounterState, proofs.Sizes.size_below}
use Rattle.mlt_object_base.specs.Records.{counter_of_record}
use Rattle.mlt_page.specs.{Values.BucketFields, declared.slot.Slot.TheVariants.Free, declared.slot.Slot.TheVariants.Live}
use Rattle.mlt_hash_form.specs.File.{HasRecord, IsOnceLive}
use Rattle.mlt_manager.specs.Headline.{IsLiveAt, IsRecordOf, PagesMean}

-- ## A live slot is a record

pub contained : (slots : List Slot) (i key value : ℕ) → get_or slots i Free ≡ Live key value → Contains slots (Live key value)
contained [] i key value is = (let none : Free ≡ Live key value = is in cc)
contained (slot ∷ slots) zero key value is = (zero, omega arith, is)
contained (slot ∷ slots) (suc i) key value is =
    let later = contained slots i key value is in
    (suc later.0, omega (arith, later.1), later.2)

same_slot : (slots : List Slot) (i : ℕ) (one other : Slot) → i < length slots → get_or slots i one ≡ get_or slots i other
same_slot [] i one other within = absurd (omega (arith, within))
same_slot (slot ∷ slots) zero one other within = refl
same_slot (slot ∷ slots) (suc i) one other within = same_slot slots i one other (omega (arith, within))

module _ (pages : map.FinMap nat_cmp Page) (key value : ℕ) where
  on_page : (number i : ℕ) (p : Option Page) → map.get pages number ≡ p → get_or (bucket_of p).slots i Free ≡ Live key value → IsLiveAt pages number i key value
  on_page number i None there is = (let none : Free ≡ Live key value = is in cc)
  on_page number i (Some (Page.Head header)) there is = (let none : Free ≡ Live key value = is in cc)
  on_page number i (Some (Page.Dir dir)) there is = (let none : Free ≡ Live key value = is in cc)
  on_page number i (Some (Page.Bucket bucket)) there is = (bucket, there, is)

  live_of_record : HasRecord (map.get pages) key value → (number : ℕ) × (i : ℕ) × IsLiveAt pages number i key value
  live_of_record (number, i, is) = (number, i, on_page number i (map.get pages number) refl is)

  slot_of_live : (number i : ℕ) → IsLiveAt pages number i key value → get_or (bucket_of (map.get pages number)).slots i Free ≡ Live key value
  slot_of_live number i (bucket, there, is) = ap (λ (p : Option Page). get_or (bucket_of p).slots i Free) there ∙ is

  pub record_of_slot : (number : ℕ) (bucket : BucketFields) → map.get pages number ≡ Some (Page.Bucket bucket) → Contains bucket.slots (Live key value) → HasRecord (map.get pages) key value
  record_of_slot number bucket there inside =
      (number, inside.0, ap (λ (p : Option Page). get_or (bucket_of p).slots inside.0 Free) there ∙ same_slot bucket.slots inside.0 Free (Live key value) inside.1 ∙ inside.2)

-- ## What the pages mean

same_option : (a b : Option ℕ) → ((value : ℕ) → (a ≡ Some value) ↔ (b ≡ Some value)) → a ≡ b
same_option None None same = refl
same_option None (Some v) same = (same v).1 refl
same_option (Some v) b same = sym ((same v).0 refl)

-- what a cell holds is what its record says
abbrev balance_in : CellState → Option ℕ
balance_in (AccountState live) = live
balance_in _ = None

abbrev presence_in : CellState → Bool
presence_in (ElementState present) = present
presence_in _ = false

abbrev value_in : CellState → ℕ
value_in (CounterState value) = value
value_in _ = 0

abbrev HoldsCell : Base → Cell → Option ℕ → Type 0
HoldsCell base (Account a) live = map.get base.accounts a ≡ live
HoldsCell base (Element s e) live = element_at base s e ≡ is_some live
HoldsCell base (Counter c) live = counter_at base c ≡ unwrap_or live 0
HoldsCell base (Size s) live = size_at base s ≡ unwrap_or live 0

counted : (live : Option ℕ) → counter_of_record live ≡ unwrap_or live 0
counted None = refl
counted (Some v) = refl

module _ (base : Base) where
  held : (cell : Cell) (live : Option ℕ) → state_at base cell ≡ state_of_record cell live → ((s : ℕ) → cell ≡ Size s → counter_of_record live ≡ size_at base s) → HoldsCell base cell live
  held (Account a) live is sized = ap balance_in is
  held (Element s e) live is sized = ap presence_in is
  held (Counter c) live is sized = ap value_in is ∙ counted live
  held (Size s) live is sized = sym (sized s refl) ∙ counted live

  state_held : (cell : Cell) (live : Option ℕ) → HoldsCell base cell live → state_at base cell ≡ state_of_record cell live
  state_held (Account a) live holds = ap AccountState holds
  state_held (Element s e) live holds = ap ElementState holds
  state_held (Counter c) live holds = ap CounterState (holds ∙ sym (counted live))
  state_held (Size s) live holds = refl

  no_elements : (s : ℕ) → ((e : ℕ) → element_at base s e ≡ false) → size_at base s ≡ 0
  no_elements s none =
      let few = size_below 0 base s (λ e there. absurd (false≢true (sym (none e) ∙ there))) in
      omega (arith, few)

-- **Where the records of clean pages mean a base, the pages do,**
pub pages_mean : (pages : map.FinMap nat_cmp Page) (base : Base) → IsRecordMap (live_records pages) (map.get pages) → IsOnceLive (map.get pages) → Means (live_records pages) base → PagesMean pages base
pages_mean pages base is_map once means = record {
  accounts = λ a. (within (Account a), beyond (Account a));
  counters = λ c. (within (Counter c), beyond (Counter c));
  elements = λ s e. (within (Element s e), beyond (Element s e));
  sizes = λ s. (within (Size s), beyond (Size s));
}
  where
    records : map.FinMap nat_cmp ℕ
    records = live_records pages

    size_told : (cell : Cell) → IsInRange cell → (s : ℕ) → cell ≡ Size s → counter_of_record (map.get records (key_number cell)) ≡ size_at base s
    size_told cell in_range s is =
        subst (λ (c : Cell). IsInRange c → counter_of_record (map.get records (key_number c)) ≡ size_at base s) (sym is) (means.sized s) in_range

    within : (cell : Cell) → IsInRange cell → (live : Option ℕ) × IsRecordOf pages (key_number cell) live × HoldsCell base cell live
    within cell in_range = (
      map.get records (key_number cell),
      record {
        some = λ value. (
          (λ live. (is_map (key_number cell) value).1 (live.0, live.1, slot_of_live pages (key_number cell) value live.0 live.1 live.2)),
          (λ is. live_of_record pages (key_number cell) value ((is_map (key_number cell) value).0 is)),
        );
        once = λ n m i j v w one other. once n m i j (key_number cell) v w (slot_of_live pages (key_number cell) v n i one) (slot_of_live pages (key_number cell) w m j other);
      },
      held base cell (map.get records (key_number cell)) (means.holds cell in_range) (size_told cell in_range),
    )

    none_told : (cell : Cell) → (IsInRange cell → ⊥) → (s : ℕ) → cell ≡ Size s → counter_of_record None ≡ size_at base s
    none_told cell out s is =
        let out_there : IsInRange (Size s) → ⊥ = subst (λ (c : Cell). IsInRange c → ⊥) is out in
        sym (no_elements base s (λ e. ap presence_in (means.elsewhere (Element s e) (λ in_range. out_there in_range.0))))

    beyond : (cell : Cell) → (IsInRange cell → ⊥) → HoldsCell base cell None
    beyond cell out = held base cell None (means.elsewhere cell out) (none_told cell out)
