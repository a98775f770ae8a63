-- The laws of the table of elements: one answer, one start, and states stay in range.
use Rattle.std.proofs.Common.{◌≡◌, Bool, true, false, refl, sym, ◌∙◌, ap}
use Rattle.mlt_object_kinds.specs.{declared.element.ElementOp.ElementOp, declared.element.ElementOp.TheVariants.Add, declared.element.ElementOp.TheVariants.Remove, declared.element.ElementOp.TheVariants.Has, declared.operation.ObjReply.ObjReply, Elements.ElementStep, Elements.IsElement, Elements.IsLegalOnElement, Elements.element_after}
use Rattle.mlt_object_kinds.specs.declared.operation.ObjReply.TheVariants.{Added, Present, Removed, Absent, Yes, No}

-- what an operation is told
abbrev reply_of : ElementOp → Bool → ObjReply
reply_of Add false = Added
reply_of Add true = Present
reply_of Remove false = Absent
reply_of Remove true = Removed
reply_of Has false = No
reply_of Has true = Yes

the_reply : (o : ElementOp) (r : ObjReply) (s : Bool) → IsLegalOnElement o r s → r ≡ reply_of o s
the_reply o r s =
    elim o as (λ o. IsLegalOnElement o r s → r ≡ reply_of o s) [
      | Add ↦ elim s as (λ s. IsLegalOnElement Add r s → r ≡ reply_of Add s) [
        | true ↦ elim r as (λ r. IsLegalOnElement Add r true → r ≡ Present) [ Present ↦ λ h. refl | _ ↦ λ h. absurd h ]
        | false ↦ elim r as (λ r. IsLegalOnElement Add r false → r ≡ Added) [ Added ↦ λ h. refl | _ ↦ λ h. absurd h ]
      ]
      | Remove ↦ elim s as (λ s. IsLegalOnElement Remove r s → r ≡ reply_of Remove s) [
        | true ↦ elim r as (λ r. IsLegalOnElement Remove r true → r ≡ Removed) [ Removed ↦ λ h. refl | _ ↦ λ h. absurd h ]
        | false ↦ elim r as (λ r. IsLegalOnElement Remove r false → r ≡ Absent) [ Absent ↦ λ h. refl | _ ↦ λ h. absurd h ]
      ]
      | Has ↦ elim s as (λ s. IsLegalOnElement Has r s → r ≡ reply_of Has s) [
        | true ↦ elim r as (λ r. IsLegalOnElement Has r true → r ≡ Yes) [ Yes ↦ λ h. refl | _ ↦ λ h. absurd h ]
        | false ↦ elim r as (λ r. IsLegalOnElement Has r false → r ≡ No) [ No ↦ λ h. refl | _ ↦ λ h. absurd h ]
      ]
    ]

pub element_one_answer : (s : Bool) (o : ElementOp) (r q : ObjReply) (t u : Bool) → ElementStep s o r t → ElementStep s o q u → (r ≡ q) × (t ≡ u)
element_one_answer s o r q t u h k =
    let same : r ≡ q = the_reply o r s h.0 ∙ sym (the_reply o q s k.0) in
    (same, sym h.1 ∙ ap (λ r. element_after o r s) same ∙ k.1)

-- the state before a reply
abbrev before_of : ObjReply → Bool → Bool
before_of Added s = false
before_of Removed s = true
before_of _ s = s

the_start : (o : ElementOp) (r : ObjReply) (s : Bool) → IsLegalOnElement o r s → s ≡ before_of r (element_after o r s)
the_start o r s =
    elim o as (λ o. IsLegalOnElement o r s → s ≡ before_of r (element_after o r s)) [
      | Add ↦ elim r as (λ r. IsLegalOnElement Add r s → s ≡ before_of r (element_after Add r s)) [
        | Added ↦ elim s as (λ s. IsLegalOnElement Add Added s → s ≡ false) [ true ↦ λ h. absurd h | false ↦ λ h. refl ]
        | Present ↦ λ h. refl
        | _ ↦ λ h. absurd h
      ]
      | Remove ↦ elim r as (λ r. IsLegalOnElement Remove r s → s ≡ before_of r (element_after Remove r s)) [
        | Removed ↦ elim s as (λ s. IsLegalOnElement Remove Removed s → s ≡ true) [ true ↦ λ h. refl | false ↦ λ h. absurd h ]
        | Absent ↦ λ h. refl
        | _ ↦ λ h. absurd h
      ]
      | Has ↦ elim r as (λ r. IsLegalOnElement Has r s → s ≡ before_of r (element_after Has r s)) [
        | Yes ↦ λ h. refl
        | No ↦ λ h. refl
        | _ ↦ λ h. absurd h
      ]
    ]

pub element_one_start : (s u t : Bool) (o : ElementOp) (r : ObjReply) → ElementStep s o r t → ElementStep u o r t → s ≡ u
element_one_start s u t o r h k = the_start o r s h.0 ∙ ap (before_of r) (h.1 ∙ sym k.1) ∙ sym (the_start o r u k.0)

pub element_stays : (s t : Bool) (o : ElementOp) (r : ObjReply) → ElementStep s o r t → IsElement s × IsElement t
element_stays s t o r h = (tt, tt)
