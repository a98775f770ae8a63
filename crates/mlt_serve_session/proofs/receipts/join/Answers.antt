use Rattle.std.proofs.Common.{◌≡◌, ◌++◌, List, subst, sym, IfOk, IsPermutation, Result, Ok, Err, is_ok, if◌then◌else◌}
use Rattle.std.proofs.lemmas.List.Sorted.{IsPermutation-append_comm, IsPermutation-refl}
use Rattle.mlt_serve_session.proofs.receipts.join.Goals.{then-len, else-len}
use Rattle.mlt_serve_session.proofs.receipts.join.Goals as goal

-- where nothing was refused both lists are there, whichever was moved
joined : {A E : Type 0} (result : Result (Unit {0}) E) (old more left right new : List A) → IsPermutation (old ++ more) (left ++ right)
    → new ≡ (if is_ok result then left ++ right else left) → IfOk result (λ _. IsPermutation (old ++ more) new)
joined (Ok u) old more left right new both e = subst (IsPermutation (old ++ more)) (sym e) both
joined (Err refused) old more left right new both e = tt

pub returns : goal.returns
returns c =
    let old = c.args.all.now.items in
    let more = c.args.more.items in
    let both : IsPermutation (old ++ more) (c.if-len.all.items ++ c.if-len.more.items) = elim c.if-len.branch [
      | then-len w ↦ rw (w.all-is, w.more-is, w.swap.ensures.x_after, w.swap.ensures.y_after) (IsPermutation-append_comm old more)
      | else-len w ↦ rw (w.all-is, w.more-is) (IsPermutation-refl (old ++ more))
    ] in
    joined c.append.result old more c.if-len.all.items c.if-len.more.items c.append.new.self.items both c.append.ensures.items
