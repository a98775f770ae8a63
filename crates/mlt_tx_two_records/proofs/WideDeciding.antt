-- What an addition of an element decides on
use Rattle.std.proofs.Common.{◌≡◌, ℕ, Option, None, Some, refl, sym, ap, subst, ◌∙◌}
use Rattle.mlt_tx_two_records.proofs.Names.{ElementOp, Element, ObjReply, RecChange, Add, Plus, Request, Do, size_change_of, IsPossible, decision, size_decision, same_some, Raises, AddsElement}

-- whatever is found it is possible
pub is_possible : (request : Request) (found : Option ℕ) → AddsElement request → IsPossible request found
is_possible (Do op) found adds = tt
is_possible other found adds = absurd adds

-- **It changes the own record where there is none, and puts one there,**
pub own_change : (request : Request) (found : Option ℕ) (reply : ObjReply) (change : RecChange) → AddsElement request → decision request found ≡ (reply, Some change) → (found ≡ None) × (change ≡ Add 0)
own_change (Do (Element s e ElementOp.Add)) None reply change adds is = (refl, same_some change (Add 0) (sym (ap (λ (r : ObjReply × Option RecChange). r.1) is)))
own_change (Do (Element s e ElementOp.Add)) (Some v) reply change adds is = let none : None ≡ Some change = ap (λ (r : ObjReply × Option RecChange). r.1) is in cc
own_change other found reply change adds is = absurd adds

-- **and where there is one neither record.**
pub own_present : (request : Request) (found : Option ℕ) (reply : ObjReply) → AddsElement request → decision request found ≡ (reply, None) → (value : ℕ) × (found ≡ Some value) × ((size : Option ℕ) → size_decision request reply size ≡ None)
own_present (Do (Element s e ElementOp.Add)) None reply adds is = let some : Some (Add 0) ≡ None = ap (λ (r : ObjReply × Option RecChange). r.1) is in cc
own_present (Do (Element s e ElementOp.Add)) (Some v) reply adds is = (v, refl, λ size. ap (λ (r : ObjReply × Option RecChange). size_change_of (Element s e ElementOp.Add, r.0) size) (sym is))
own_present other found reply adds is = absurd adds

-- what it tells then raises the size, whatever that is
pub resizes : (request : Request) (reply : ObjReply) (value : ℕ) (found : Option ℕ) → AddsElement request → decision request None ≡ (reply, Some (Add value)) → (raise : RecChange) × (size_decision request reply found ≡ Some raise) × Raises found raise
resizes (Do (Element s e ElementOp.Add)) reply value None adds is = (Add 1, ap (λ (r : ObjReply × Option RecChange). size_change_of (Element s e ElementOp.Add, r.0) None) (sym is), tt)
resizes (Do (Element s e ElementOp.Add)) reply value (Some v) adds is = (Plus 1, ap (λ (r : ObjReply × Option RecChange). size_change_of (Element s e ElementOp.Add, r.0) (Some v)) (sym is), tt)
resizes other reply value found adds is = absurd adds

pub raises_size : (request : Request) (reply : ObjReply) (value : ℕ) (found : Option ℕ) (raise : RecChange) → AddsElement request → decision request None ≡ (reply, Some (Add value)) → size_decision request reply found ≡ Some raise → Raises found raise
raises_size request reply value found raise adds is resized =
    let it = resizes request reply value found adds is in
    subst (Raises found) (same_some it.0 raise (sym it.1 ∙ resized)) it.2
