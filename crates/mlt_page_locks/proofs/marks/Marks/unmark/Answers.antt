use Rattle.std.proofs.Common.{◌≡◌, ◌<◌, ℕ, ◌*◌, ◌%◌, ◌^◌, List, bit_and, get_or, length, w64, sym, ap, subst, ◌∙◌}
use Rattle.mlt_page_locks.proofs.Names.{bit_at, get_or_default, IsMarked, row_of}
use Rattle.std.{specs.Int.bit_not, proofs.lemmas.Nat.Bits.bit_at_clear_same, proofs.lemmas.Nat.Bits.bit_at_clear_other}
use Rattle.mlt_page_locks.proofs.Bits.{kept_at, had_at, unmarked_at, bit_of_both}
use Rattle.mlt_page_locks.proofs.marks.Marks.unmark.Goals as goal

pub returns-clause-gone : goal.returns-clause-gone
returns-clause-gone c = λ marked.
    let inside : c.row-at.result < length c.self.inside.masks.items = subst (λ (l : List ℕ). c.row-at.result < length l) c.deref.ensures.value c.row-at.ensures.within in
    unmarked_at c.self.inside.masks.items c.row-at.result _ inside c.args.number c.args.place (sym (c.row-at.ensures.is ∙ ap (λ (l : List ℕ). row_of (length l) c.args.number) c.deref.ensures.value))
    (bit_at_clear_same w64 c.index_mut.result.now c.args.place c.requires) marked

pub returns-clause-fewer : goal.returns-clause-fewer
returns-clause-fewer c = λ n p h.
    let inside : c.row-at.result < length c.self.inside.masks.items = subst (λ (l : List ℕ). c.row-at.result < length l) c.deref.ensures.value c.row-at.ensures.within in
    let value : c.index_mut.result.now ≡ get_or c.self.inside.masks.items c.row-at.result 0 = c.index_mut.ensures.value ∙ get_or_default c.self.inside.masks.items c.row-at.result c.index_mut.result.now 0 inside in
    subst (λ m. IsMarked m n p) c.self.view_is
    (had_at c.self.inside.masks.items c.row-at.result (bit_and c.index_mut.result.now (bit_not w64 (1 * 2 ^ c.args.place % 2 ^ 64))) inside n p
    (λ b. ap (λ m. bit_at m p) (sym value) ∙ bit_of_both c.index_mut.result.now (bit_not w64 (1 * 2 ^ c.args.place % 2 ^ 64)) p b) h)

pub returns-clause-others : goal.returns-clause-others
returns-clause-others c = record {
  kept = λ n p below ne h.
      let inside : c.row-at.result < length c.self.inside.masks.items = subst (λ (l : List ℕ). c.row-at.result < length l) c.deref.ensures.value c.row-at.ensures.within in
      let value : c.index_mut.result.now ≡ get_or c.self.inside.masks.items c.row-at.result 0 = c.index_mut.ensures.value ∙ get_or_default c.self.inside.masks.items c.row-at.result c.index_mut.result.now 0 inside in
      kept_at c.self.inside.masks.items c.row-at.result (bit_and c.index_mut.result.now (bit_not w64 (1 * 2 ^ c.args.place % 2 ^ 64))) inside n p
      (λ b. bit_at_clear_other w64 c.index_mut.result.now c.args.place c.requires p below ne ∙ ap (λ m. bit_at m p) value ∙ b)
      (subst (λ m. IsMarked m n p) (sym c.self.view_is) h);
}
