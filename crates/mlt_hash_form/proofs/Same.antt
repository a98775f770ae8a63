-- The file form depends only on where pseudokeys of 64 bits lead, and on the buckets; and a deeper directory may keep it
use Rattle.std.proofs.Common.{ℕ, ◌≡◌, ◌<◌, ◌≤◌, ◌^◌, sym, ◌∙◌, arith}
use Rattle.mlt_hash_form.proofs.Names.{key_of, BucketFields, slot_at, IsSpread}

pub form_same : (bits : ℕ → ℕ) (g g' : ℕ) (lead lead' : ℕ → ℕ) (buckets : ℕ → BucketFields) → ((k : ℕ) → bits k < 2 ^ 64) → g ≤ g' → ((x : ℕ) → x < 2 ^ 64 → lead' x ≡ lead x) → IsSpread bits g lead buckets → IsSpread bits g' lead' buckets
form_same bits g g' lead lead' buckets bounded deeper same form = record {
  whole = λ x h. rw (same x h) (form.whole x h);
  fine = λ x h. rw (same x h) (omega (arith, form.fine x h));
  apart = λ x y h k e. rw (same x h) (form.apart x y h k (sym (same x h) ∙ e ∙ same y k));
  together = λ x y h k e. same x h ∙ form.together x y h k (rw (same x h) at e) ∙ sym (same y k);
  reached = λ m h. let r = form.reached m h in (r.0, r.1, same r.0 r.1 ∙ r.2);
  home = λ m i k. same _ (bounded (key_of (slot_at buckets m i))) ∙ form.home m i k;
  once = form.once;
}
