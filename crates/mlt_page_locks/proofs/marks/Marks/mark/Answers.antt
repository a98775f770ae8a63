use Rattle.std.proofs.Common.{◌≡◌, ◌<◌, ℕ, ◌*◌, ◌%◌, ◌^◌, List, bit_or, get_or, length, w64, sym, ap, subst, ◌∙◌}
use Rattle.mlt_page_locks.proofs.Names.{bit_at, get_or_default, IsMarked, row_of}
use Rattle.std.proofs.lemmas.Nat.Bits.{bit_at_set_same}
use Rattle.mlt_page_locks.proofs.Bits.{kept_at, marked_at, set_keeps_bit}
use Rattle.mlt_page_locks.proofs.marks.Marks.mark.Goals as goal

pub returns-clause-marked : goal.returns-clause-marked
returns-clause-marked c =
    let inside : c.row-at.result < length c.self.inside.masks.items = subst (λ (l : List ℕ). c.row-at.result < length l) c.deref.ensures.value c.row-at.ensures.within in
    marked_at c.self.inside.masks.items c.row-at.result _ inside c.args.number c.args.place (sym (c.row-at.ensures.is ∙ ap (λ (l : List ℕ). row_of (length l) c.args.number) c.deref.ensures.value))
    (bit_at_set_same w64 c.index_mut.result.now c.args.place c.requires)

pub returns-clause-kept : goal.returns-clause-kept
returns-clause-kept c = λ n p h.
    let inside : c.row-at.result < length c.self.inside.masks.items = subst (λ (l : List ℕ). c.row-at.result < length l) c.deref.ensures.value c.row-at.ensures.within in
    let value : c.index_mut.result.now ≡ get_or c.self.inside.masks.items c.row-at.result 0 = c.index_mut.ensures.value ∙ get_or_default c.self.inside.masks.items c.row-at.result c.index_mut.result.now 0 inside in
    kept_at c.self.inside.masks.items c.row-at.result (bit_or c.index_mut.result.now (1 * 2 ^ c.args.place % 2 ^ 64)) inside n p
    (λ b. set_keeps_bit c.index_mut.result.now (1 * 2 ^ c.args.place % 2 ^ 64) p (ap (λ m. bit_at m p) value ∙ b))
    (subst (λ m. IsMarked m n p) (sym c.self.view_is) h)
