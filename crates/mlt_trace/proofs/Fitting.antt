-- Items whose numbers are those of their types.
use Rattle.std.proofs.Common.{◌≡◌, ◌∙◌, List, [], ◌∷◌, ◌++◌, ap, append_assoc, inl, inr, subst, sym}
use Rattle.std.proofs.lemmas.List.Elements.{Contains-append_cases}
use Rattle.mlt_trace.proofs.Names.{contains-nothing, TraceItem, FitsItem}
use Rattle.mlt_order.proofs.Stages.{contains-one}
use Rattle.mlt_trace.specs.Ranges.{AllFit}

pub one_more_fits : (items : List TraceItem) (item : TraceItem) → AllFit items → FitsItem item → AllFit (items ++ item ∷ [])
one_more_fits items item all one other h = elim (Contains-append_cases items (item ∷ []) other h) [
  | inl before ↦ all other before
  | inr last ↦ subst FitsItem (contains-one item other last) one
]

-- one more item that is kept behind those that were handed out
pub one_more_kept_fits : (handed kept new : List TraceItem) (item : TraceItem) → new ≡ kept ++ item ∷ [] → FitsItem item → AllFit (handed ++ kept) → AllFit (handed ++ new)
one_more_kept_fits handed kept new item is one all =
    subst AllFit (append_assoc handed kept (item ∷ []) ∙ ap (λ (items : List TraceItem). handed ++ items) (sym is)) (one_more_fits (handed ++ kept) item all one)
