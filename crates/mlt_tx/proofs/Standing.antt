-- What stands in the slots, one after another, is an interleaving of what stands of the transactions.
use Rattle.mlt_tx.proofs.Names.{UndoneTo, Step, ObjOp, ObjReply, Transaction, TxSlot, standing_in, is_free, is_slot_of, table_of}
use Rattle.std.proofs.Common.{◌≡◌, ◌≢◌, ℕ, true, false, not, ◌&&◌, cond, List, [], ◌∷◌, ◌++◌, Option, None, Some, is_some, flat_map, refl, sym, ap, subst, ◌∙◌, inl, inr, arith, ne_eqb, append-nil, nat_cmp}
use Rattle.std.specs.FinMap as map
use Rattle.std.proofs.lemmas.Bool.{cases_eq}
use Rattle.mlt_order.{specs.Interleavings.IsInterleaving, specs.Interleavings.all_items, specs.Interleavings.items_of, specs.Runs.Runs}
use Rattle.mlt_order.proofs.Parts.{all_items-append, all_items-numbered, items_of-append, items_of-numbered_other, items_of-numbered_same, numbered}
use Rattle.mlt_object_kinds.specs.Bases.{Base, TranscriptLeads}
use Rattle.mlt_tx.specs.{Standing.entries_of, TxSlots.entries_in}
use Rattle.mlt_tx.proofs.TxSlots.{OneEach, get-table_of, later, no_second, stands_in_table}

abbrev Item : Type 0
Item = ObjOp × ObjReply

runs_of : (before : Base) (items : List Item) (after : Base) → Runs Step before items after → TranscriptLeads before items after
runs_of before [] after same = same
runs_of before (x ∷ items) after runs = (runs.0, runs.1, runs_of runs.0 items after runs.2)

-- the items of all slots, each under the number of its slot
abbrev numbered_in : List TxSlot → List (ℕ × Item)
numbered_in [] = []
numbered_in (slot ∷ slots) = numbered slot.tx (entries_in slot) ++ numbered_in slots

all_numbered : (slots : List TxSlot) → all_items (numbered_in slots) ≡ flat_map entries_in slots
all_numbered [] = refl
all_numbered (slot ∷ slots) =
    all_items-append (numbered slot.tx (entries_in slot)) (numbered_in slots) ∙ ap (λ l. l ++ all_items (numbered_in slots)) (all_items-numbered slot.tx (entries_in slot)) ∙ ap (λ l. entries_in slot ++ l) (all_numbered slots)

-- what the first slot adds to what stands of a number
one_slot : (slot : TxSlot) (slots : List TxSlot) → OneEach (slot ∷ slots) → (i : ℕ) → items_of i (numbered slot.tx (entries_in slot)) ++ standing_in (table_of slots) i ≡ standing_in (table_of (slot ∷ slots)) i
one_slot slot slots one i = elim (is_free slot) as (λ b. is_free slot ≡ b → items_of i (numbered slot.tx (entries_in slot)) ++ standing_in (table_of slots) i ≡ standing_in (table_of (slot ∷ slots)) i) [
  | true ↦ λ free.
      let nothing : entries_in slot ≡ [] = ap (λ b. cond b [] slot.transaction.value.undo.entries) free in
      let same : table_of (slot ∷ slots) ≡ table_of slots = ap (λ b. cond b (table_of slots) (map.insert (table_of slots) slot.tx slot.transaction.value)) free in
      ap (λ l. items_of i (numbered slot.tx l) ++ standing_in (table_of slots) i) nothing ∙ ap (λ table. standing_in table i) (sym same)
  | false ↦ λ used.
      let entries : entries_in slot ≡ slot.transaction.value.undo.entries = ap (λ b. cond b [] slot.transaction.value.undo.entries) used in
      let here : standing_in (table_of (slot ∷ slots)) i ≡ entries_of (cond (is_slot_of i slot) (Some slot.transaction.value) (map.get (table_of slots) i)) = ap entries_of (get-table_of slot slots i) in
      elim (cases_eq i slot.tx) [
        | inl own ↦ own_items used entries own
        | inr other ↦
            ap (λ l. l ++ standing_in (table_of slots) i) (items_of-numbered_other slot.tx i (entries_in slot) other)
            ∙ sym (here ∙ ap (λ b. entries_of (cond (b && not (is_free slot)) (Some slot.transaction.value) (map.get (table_of slots) i))) (ne_eqb slot.tx i (λ e. other (sym e))))
      ]
] refl
  where
    absent : (o : Option Transaction) → is_some o ≡ false → o ≡ None
    absent None none = refl
    absent (Some t) some = absurd (let both : true ≡ false = some in cc)

    own_items : is_free slot ≡ false → entries_in slot ≡ slot.transaction.value.undo.entries → i ≡ slot.tx → items_of i (numbered slot.tx (entries_in slot)) ++ standing_in (table_of slots) i ≡ standing_in (table_of (slot ∷ slots)) i
    own_items used entries own =
        let none : standing_in (table_of slots) i ≡ [] = ap (standing_in (table_of slots)) own ∙ ap entries_of (absent (map.get (table_of slots) slot.tx) (no_second slot slots one used)) in
        let all : items_of i (numbered slot.tx (entries_in slot)) ≡ entries_in slot = ap (λ n. items_of n (numbered slot.tx (entries_in slot))) own ∙ items_of-numbered_same slot.tx (entries_in slot) in
        let there : map.get (table_of (slot ∷ slots)) slot.tx ≡ Some slot.transaction.value = stands_in_table (slot ∷ slots) 0 slot one (omega arith) used in
        ap (λ l. items_of i (numbered slot.tx (entries_in slot)) ++ l) none ∙ append-nil (items_of i (numbered slot.tx (entries_in slot))) ∙ all ∙ entries
        ∙ sym (ap (standing_in (table_of (slot ∷ slots))) own ∙ ap entries_of there)

mixed : (slots : List TxSlot) → OneEach slots → IsInterleaving (standing_in (table_of slots)) (numbered_in slots)
mixed [] one i = sym (ap entries_of (map.get-empty {X = Transaction} nat_cmp i))
mixed (slot ∷ slots) one i =
    items_of-append i (numbered slot.tx (entries_in slot)) (numbered_in slots) ∙ ap (λ l. items_of i (numbered slot.tx (entries_in slot)) ++ l) (mixed slots (later slot slots one) i) ∙ one_slot slot slots one i

-- **So it leads to the state from the base that is left without it.**
pub standing_leads : (slots : List TxSlot) → OneEach slots → (left state : Base) → UndoneTo Step left (standing_in (table_of slots)) state → TranscriptLeads left (flat_map entries_in slots) state
standing_leads slots one left state undone =
    subst (λ (items : List Item). TranscriptLeads left items state) (all_numbered slots) (runs_of left (all_items (numbered_in slots)) state (undone (numbered_in slots) (mixed slots one)))
