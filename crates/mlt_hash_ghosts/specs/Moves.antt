-- Slots that go to other buckets
use Rattle.std.specs.Prelude.{ℕ, ◌≡◌, Bool, true}
use Rattle.mlt_page.specs.declared.slot.Slot.{Slot}
use Rattle.mlt_hash_form.specs.{Form.HasSlot, Form.is_used, Form.slot_at, File.FilePages, File.HasForm, File.buckets_of}

-- The file has its form. Each slot that is to stay stands in some bucket as before, and each record
-- or ghost stood before at the same place of some bucket.
pub record MovesSlots (bits : ℕ → ℕ) (stays : Slot → Bool) (before after : FilePages) (root : ℕ)
    : Type 0 where
  pub form : HasForm bits after root
  pub kept : (t : Slot) → stays t ≡ true
      → HasSlot (buckets_of before) t → HasSlot (buckets_of after) t
  pub stood : (m i : ℕ) → is_used (slot_at (buckets_of after) m i) ≡ true
      → (o : ℕ) × (slot_at (buckets_of before) o i ≡ slot_at (buckets_of after) m i)
