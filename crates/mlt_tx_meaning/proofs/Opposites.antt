-- An addition and a removal of one cell clash, whichever is held.
use Rattle.std.proofs.Common.{◌≡◌, true, Some, refl, eq-eqb}
use Rattle.mlt_tx_meaning.proofs.Names.{AccountOp, Open, Close, ElementOp, ObjOp, Account, Element, Counter, Size, ObjReply, cell_of, Presence, Added, Removed, account_presence, element_presence, presence_of}
use Rattle.mlt_object_kinds.specs.declared.element.ElementOp.TheVariants.{Add, Remove}
use Rattle.mlt_object_conflicts.specs.{AccountTable.account_class, AccountTable.account_marks, Clashes.clashes, ElementTable.element_class, ElementTable.element_marks, declared.accounts.AccountClass.AccountClass, declared.elements.ElementClass.ElementClass}

-- the classes of what adds and of what removes
abbrev account_by : Presence → AccountClass
account_by Added = AccountClass.Opened
account_by Removed = AccountClass.Closed

abbrev element_by : Presence → ElementClass
element_by Added = ElementClass.Added
element_by Removed = ElementClass.Removed

account_class_by : (op : AccountOp) (reply : ObjReply) (p : Presence) → account_presence op reply ≡ Some p → account_class op reply ≡ Some (account_by p)
account_class_by Open ObjReply.Opened Added is = refl
account_class_by Close ObjReply.Closed Removed is = refl
account_class_by _ _ _ is = absurd (cc)

element_class_by : (op : ElementOp) (reply : ObjReply) (p : Presence) → element_presence op reply ≡ Some p → element_class op reply ≡ Some (element_by p)
element_class_by Add ObjReply.Added Added is = refl
element_class_by Remove ObjReply.Removed Removed is = refl
element_class_by _ _ _ is = absurd (cc)

-- both orders are marked
account_marked : (p q : Presence) → (p ≡ q → ⊥) → account_marks (account_by p) (account_by q) ≡ true
account_marked Added Removed differ = refl
account_marked Removed Added differ = refl
account_marked Added Added differ = absurd (differ refl)
account_marked Removed Removed differ = absurd (differ refl)

element_marked : (p q : Presence) → (p ≡ q → ⊥) → element_marks (element_by p) (element_by q) ≡ true
element_marked Added Removed differ = refl
element_marked Removed Added differ = refl
element_marked Added Added differ = absurd (differ refl)
element_marked Removed Removed differ = absurd (differ refl)

pub opposites_clash : (held item : ObjOp × ObjReply) (p q : Presence) → cell_of held.0 ≡ cell_of item.0 → presence_of held ≡ Some p → presence_of item ≡ Some q → (p ≡ q → ⊥) → clashes held item ≡ true
opposites_clash (Account a op, reply) (Account b other, answer) p q same is are differ =
    let number : a ≡ b = cc in
    rw (eq-eqb a b number, account_class_by op reply p is, account_class_by other answer q are) (account_marked p q differ)
opposites_clash (Element s e op, reply) (Element t f other, answer) p q same is are differ =
    let sets : s ≡ t = cc in
    let elements : e ≡ f = cc in
    rw (eq-eqb s t sets, eq-eqb e f elements, element_class_by op reply p is, element_class_by other answer q are) (element_marked p q differ)
opposites_clash (Counter c op, reply) item p q same is are differ = absurd (cc)
opposites_clash held (Counter c op, reply) p q same is are differ = absurd (cc)
opposites_clash (Size s, reply) item p q same is are differ = absurd (cc)
opposites_clash held (Size s, reply) p q same is are differ = absurd (cc)
opposites_clash (Account a op, reply) (Element t f other, answer) p q same is are differ = absurd (cc)
opposites_clash (Element s e op, reply) (Account b other, answer) p q same is are differ = absurd (cc)
