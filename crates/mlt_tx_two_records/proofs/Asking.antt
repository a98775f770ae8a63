-- What a request on two records asks for
use Rattle.std.proofs.Common.{◌≡◌, ℕ, Bool, true, false, Option, None, Some, refl, sym, ap, ◌∙◌}
use Rattle.mlt_tx_two_records.proofs.Names.{false≢true, none-some, ElementOp, Element, ObjReply, RecChange, Add, Set, ToGhost, Revive, Plus, Minus, Request, Do, size_change_of, CanChange, decision, size_decision, size_key_of, FitsFound, AddsElement, asked_of}
use Rattle.mlt_object_kinds.specs.declared.operation.ObjOp.{ObjOp}
use Rattle.mlt_object_base.specs.{declared.request.Request.TheVariants.TakeBack, Effects.size_inverse_of}

-- **What a pair is asked for fits what was found, where the change does.**
pub asked_fits : (change : RecChange) (found : Option ℕ) → CanChange (Some change) found → FitsFound (Some (asked_of change found)) found
asked_fits (Add v) found can = can
asked_fits (Set v) found can = can
asked_fits ToGhost found can = can
asked_fits Revive found can = can
asked_fits (Plus n) found can = can
asked_fits (Minus n) found can = can

abbrev pub is_revival : Option RecChange → Bool
is_revival (Some Revive) = true
is_revival other = false

size_change_never : (op : ObjOp) (reply : ObjReply) (found : Option ℕ) → is_revival (size_change_of (op, reply) found) ≡ false
size_change_never (Element s e ElementOp.Add) ObjReply.Added None = refl
size_change_never (Element s e ElementOp.Add) ObjReply.Added (Some v) = refl
size_change_never (Element s e ElementOp.Remove) ObjReply.Removed found = refl
size_change_never _ _ _ = refl

size_inverse_never : (op : ObjOp) (reply : ObjReply) → is_revival (size_inverse_of (op, reply)) ≡ false
size_inverse_never (Element s e ElementOp.Add) ObjReply.Added = refl
size_inverse_never (Element s e ElementOp.Remove) ObjReply.Removed = refl
size_inverse_never _ _ = refl

size_never : (request : Request) (reply : ObjReply) (found : Option ℕ) → is_revival (size_decision request reply found) ≡ false
size_never (Do op) reply found = size_change_never op reply found
size_never (TakeBack (op, reply)) reply' found = size_inverse_never op reply

-- **No size record is revived.**
pub never_revives_size : (request : Request) (reply : ObjReply) (found : Option ℕ) → size_decision request reply found ≡ Some Revive → ⊥
never_revives_size request reply found is = false≢true (sym (size_never request reply found) ∙ ap is_revival is)

-- **Only the addition of an element adds a record of its own key,**
pub adds_by_own : (request : Request) (size : ℕ) (found : Option ℕ) (reply : ObjReply) (v : ℕ) → size_key_of request ≡ Some size → decision request found ≡ (reply, Some (Add v)) → AddsElement request
adds_by_own (Do (Element s e ElementOp.Add)) size found reply v key is = tt
adds_by_own (Do (Element s e ElementOp.Remove)) size None reply v key is = absurd (let two : None ≡ Some (Add v) = ap (λ (d : ObjReply × Option RecChange). d.1) is in cc)
adds_by_own (Do (Element s e ElementOp.Remove)) size (Some w) reply v key is = absurd (let two : Some ToGhost ≡ Some (Add v) = ap (λ (d : ObjReply × Option RecChange). d.1) is in cc)
adds_by_own (TakeBack (Element s e ElementOp.Add, ObjReply.Added)) size found reply v key is = absurd (let two : Some ToGhost ≡ Some (Add v) = ap (λ (d : ObjReply × Option RecChange). d.1) is in cc)
adds_by_own (TakeBack (Element s e ElementOp.Remove, ObjReply.Removed)) size found reply v key is = absurd (let two : Some Revive ≡ Some (Add v) = ap (λ (d : ObjReply × Option RecChange). d.1) is in cc)
adds_by_own request size found reply v key is = absurd (none-some size key)

-- **or one of a size.**
pub adds_by_size : (request : Request) (reply : ObjReply) (found : Option ℕ) (v : ℕ) → size_decision request reply found ≡ Some (Add v) → AddsElement request
adds_by_size (Do (Element s e ElementOp.Add)) ObjReply.Added None v is = tt
adds_by_size (Do (Element s e ElementOp.Add)) reply found v is = tt
adds_by_size (Do (Element s e ElementOp.Remove)) ObjReply.Removed found v is = absurd (let two : Some (Minus 1) ≡ Some (Add v) = is in cc)
adds_by_size (TakeBack (Element s e ElementOp.Add, ObjReply.Added)) reply found v is = absurd (let two : Some (Minus 1) ≡ Some (Add v) = is in cc)
adds_by_size (TakeBack (Element s e ElementOp.Remove, ObjReply.Removed)) reply found v is = absurd (let two : Some (Plus 1) ≡ Some (Add v) = is in cc)
adds_by_size request reply found v is = absurd (none-some (Add v) is)

-- **What asks for a revival asks for it whatever is found.**
pub revives_whatever : (request : Request) (size : ℕ) (found : Option ℕ) → size_key_of request ≡ Some size → (decision request found).1 ≡ Some Revive → (decision request None).1 ≡ Some Revive
revives_whatever (Do (Element s e ElementOp.Add)) size None key is = is
revives_whatever (Do (Element s e ElementOp.Add)) size (Some v) key is = absurd (none-some Revive is)
revives_whatever (Do (Element s e ElementOp.Remove)) size None key is = is
revives_whatever (Do (Element s e ElementOp.Remove)) size (Some v) key is = absurd (let two : Some ToGhost ≡ Some Revive = is in cc)
revives_whatever (TakeBack done) size found key is = is
revives_whatever request size found key is = absurd (none-some size key)
