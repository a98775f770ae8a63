-- An operation on one record changes no size
use Rattle.std.proofs.Common.{◌≡◌, ℕ, [], ◌++◌, Option, None, refl, ap, ◌∙◌, append-nil}
use Rattle.mlt_object_kinds.specs.declared.{element.ElementOp.ElementOp, operation.ObjOp.TheVariants.Account, operation.ObjOp.TheVariants.Element, operation.ObjOp.TheVariants.Counter, operation.ObjOp.TheVariants.Size}
use Rattle.mlt_manager_invariant.proofs.Names.{ObjOp, ObjReply, RecChange, Do, TakeBack, changes_on, inverse_of, own_change_on, size_key_of}
use Rattle.mlt_object_base.specs.Effects.{size_change_of, size_change_on, size_inverse_of}

none_of_size : (op : ObjOp) → size_change_on op None ≡ []
none_of_size (Account a op) = refl
none_of_size (Element s e op) = refl
none_of_size (Counter c op) = refl
none_of_size (Size s) = refl

-- the changes are that of the own record
pub own_alone : (op : ObjOp) (change : Option RecChange) → changes_on op (record { own = change; size = None }) ≡ own_change_on op change
own_alone op change = ap (λ l. own_change_on op change ++ l) (none_of_size op) ∙ append-nil (own_change_on op change)

pub no_size_change : (op : ObjOp) (reply : ObjReply) (found : Option ℕ) → size_key_of (Do op) ≡ None → size_change_of (op, reply) found ≡ None
no_size_change (Account a op) reply found alone = refl
no_size_change (Element s e ElementOp.Add) reply found alone = absurd cc
no_size_change (Element s e ElementOp.Remove) reply found alone = absurd cc
no_size_change (Element s e ElementOp.Has) reply found alone = refl
no_size_change (Counter c op) reply found alone = refl
no_size_change (Size s) reply found alone = refl

pub no_size_inverse : (item : ObjOp × ObjReply) → size_key_of (TakeBack item) ≡ None → size_inverse_of item ≡ None
no_size_inverse (Element s e ElementOp.Add, ObjReply.Added) alone = absurd cc
no_size_inverse (Element s e ElementOp.Remove, ObjReply.Removed) alone = absurd cc
no_size_inverse _ alone = refl

-- what has no inverse has changed no size
pub no_inverse_no_size : (item : ObjOp × ObjReply) → inverse_of item ≡ None → size_inverse_of item ≡ None
no_inverse_no_size (Element s e ElementOp.Add, ObjReply.Added) none = absurd cc
no_inverse_no_size (Element s e ElementOp.Remove, ObjReply.Removed) none = absurd cc
no_inverse_no_size _ none = refl
