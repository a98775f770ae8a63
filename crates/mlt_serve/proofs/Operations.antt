-- Operations that a history has.
use Rattle.std.proofs.Common.{ℕ, zero, suc, ◌≡◌, ◌<◌, List, [], ◌∷◌, length, get_or, sym, subst, arith}
use Rattle.mlt_serve.proofs.Names.{TraceItem, ObjOp, ObjReply, IsSubsequence, ops_of, ops_of-append}
use Rattle.mlt_trace_audit.proofs.Placed.{ops_own}
use Rattle.mlt_work_desk.proofs.Subsequences.{behind_more}

-- an operation that the items have
pub has_op : (tx : ℕ) (done : ObjOp × ObjReply) (items : List TraceItem) (k : ℕ) → k < length items → get_or items k (TraceItem.Op tx done) ≡ TraceItem.Op tx done
    → IsSubsequence (done ∷ []) (ops_of tx items)
has_op tx done [] k within at = absurd (omega (arith, within))
has_op tx done (item ∷ items) zero within at = subst (λ i. IsSubsequence (done ∷ []) (ops_of tx (i ∷ items))) (sym at) ([], ops_of tx items, ops_own tx done items, tt)
has_op tx done (item ∷ items) (suc k) within at =
    subst (λ l. IsSubsequence (done ∷ []) l) (sym (ops_of-append tx (item ∷ []) items))
    (behind_more (done ∷ []) (ops_of tx (item ∷ [])) (ops_of tx items) (has_op tx done items k (omega (arith, within)) at))
