-- The table of accounts is exact.
use Rattle.std.proofs.Common.{◌≡◌, ℕ, true, false, refl, sym, subst, MatchBool}
use Rattle.mlt_object_conflicts.proofs.Names.{AccountStep, IsLegalOnAccount, account_after, AccountOp, ObjReply, AccountClass, Opened, account_class, account_marks, account_item, account_breach, paired, IsOfClass, BreaksAt, ClassesConflict, ClassesCommute}
use Rattle.mlt_object_conflicts.proofs.AccountPairs.{Legal, after, Fits, amount_in, account_rows_commute, account_rows_break, breach_fits}
use Rattle.mlt_object_conflicts.proofs.{AccountRows.amount, AccountRows.account_has_rows, Rows.classes_commute, Rows.classes_break, Rows.RowsBreak}

pub account_classes_commute : (p q : AccountClass) → account_marks p q ≡ false → ClassesCommute AccountStep account_class p q
account_classes_commute p q free =
    classes_commute account_class IsLegalOnAccount account_after amount Fits Legal after account_has_rows p q (account_rows_commute p q free)

item_class : (c : AccountClass) (n : ℕ) → IsOfClass account_class (account_item c n) c
item_class c n = elim c as (λ c. IsOfClass account_class (account_item c n) c) [ Opened ↦ refl | _ ↦ refl ]

item_amount : (c : AccountClass) (n : ℕ) → amount (account_item c n).0 (account_item c n).1 ≡ amount_in c n
item_amount c n = elim c as (λ c. amount (account_item c n).0 (account_item c n).1 ≡ amount_in c n) [ Opened ↦ refl | _ ↦ refl ]

-- the operations of the breach, of the held and of the requested class
abbrev pub held_item : AccountClass → AccountClass → AccountOp × ObjReply
held_item p q = account_item p (account_breach p q).0

abbrev pub requested_item : AccountClass → AccountClass → AccountOp × ObjReply
requested_item p q = account_item q (account_breach p q).1

abbrev pub BreachBreaks : AccountClass → AccountClass → Type 0
BreachBreaks p q =
    IsOfClass account_class (held_item p q) p × IsOfClass account_class (requested_item p q) q ×
    BreaksAt (paired AccountStep) (account_breach p q).2 (held_item p q) (requested_item p q)

pub account_breach_breaks : (p q : AccountClass) → account_marks p q ≡ true → BreachBreaks p q
account_breach_breaks p q marked =
    let x = account_breach p q in
    let first = held_item p q in
    let second = requested_item p q in
    let fits = breach_fits p q in
    let F : ℕ → Type 0 = λ n. RowsBreak account_class IsLegalOnAccount account_after amount Fits Legal after p q n (amount second.0 second.1) x.2 in
    let G : ℕ → Type 0 = λ k. RowsBreak account_class IsLegalOnAccount account_after amount Fits Legal after p q (amount_in p x.0) k x.2 in
    let rows = subst F (sym (item_amount p x.0)) (subst G (sym (item_amount q x.1)) (account_rows_break p q marked)) in (
      item_class p x.0,
      item_class q x.1,
      classes_break account_class IsLegalOnAccount account_after amount Fits Legal after account_has_rows p q first second x.2 (item_class p x.0) (item_class q x.1) fits.0 fits.1 rows,
    )

pub account_exact : (p q : AccountClass) → MatchBool (account_marks p q) (ClassesConflict AccountStep account_class p q) (ClassesCommute AccountStep account_class p q)
account_exact p q =
    elim (account_marks p q) as (λ b. account_marks p q ≡ b → MatchBool b (ClassesConflict AccountStep account_class p q) (ClassesCommute AccountStep account_class p q)) [
      | true ↦ λ marked. let t = account_breach_breaks p q marked in ((account_breach p q).2, held_item p q, requested_item p q, t.0, t.1, t.2)
      | false ↦ account_classes_commute p q
    ] refl
