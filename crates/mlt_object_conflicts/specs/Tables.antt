-- Classes of operations with their replies, and what it means that two classes conflict.
use Rattle.std.specs.Prelude.{◌≡◌, Option, Some}
use Rattle.mlt_order.specs.Runs.{RightCommutesBackward}
use Rattle.mlt_object_conflicts.specs.declared.example.Example.{Example}

-- a step by an operation and its reply, taken as one item
abbrev pub paired : {S O R : Type 0} → (S → O → R → S → Type 0) → S → O × R → S → Type 0
paired step before item after = step before item.0 item.1 after

-- the operation with its reply is of the class
abbrev pub IsOfClass : {O R C : Type 0} → (O → R → Option C) → O × R → C → Type 0
IsOfClass class_of item class = class_of item.0 item.1 ≡ Some class

-- From the state the held item and then the requested one lead to a state to which the requested one and then the
-- held one do not lead.
abbrev pub BreaksAt : {S P : Type 0} → (S → P → S → Type 0) → S → P → P → Type 0
BreaksAt {S} step state held requested =
    (middle : S) × (after : S) × step state held middle × step middle requested after ×
    ((other : S) → step state requested other → step other held after → ⊥)

-- some items of the classes break at some state: the classes are to be marked
abbrev pub ClassesConflict
    : {S O R C : Type 0} → (S → O → R → S → Type 0) → (O → R → Option C) → C → C → Type 0
ClassesConflict {S} {O} {R} step class_of held requested =
    (state : S) × (first : O × R) × (second : O × R) ×
    IsOfClass class_of first held × IsOfClass class_of second requested ×
    BreaksAt (paired step) state first second

-- each item of the requested class right commutes backward with each of the held class: the classes are not to be marked
abbrev pub ClassesCommute
    : {S O R C : Type 0} → (S → O → R → S → Type 0) → (O → R → Option C) → C → C → Type 0
ClassesCommute {S} {O} {R} step class_of held requested =
    (first second : O × R) → IsOfClass class_of first held → IsOfClass class_of second requested →
    RightCommutesBackward (paired step) first second

-- the example has a state, an operation of the held class and one of the requested class that break there
abbrev pub IsExample
    : {S O R C : Type 0} → (S → O → R → S → Type 0) → (O → R → Option C) → C → C → Example S O R
    → Type 0
IsExample step class_of held requested x =
    IsOfClass class_of (x.first, x.first_reply) held ×
    IsOfClass class_of (x.second, x.second_reply) requested ×
    BreaksAt (paired step) x.state (x.first, x.first_reply) (x.second, x.second_reply)

-- some operation with a reply of the class is legal in some state
abbrev pub HasLegalItem
    : {S O R C : Type 0} → (S → O → R → S → Type 0) → (O → R → Option C) → C → Type 0
HasLegalItem {S} {O} {R} step class_of class =
    (before : S) × (item : O × R) × (after : S) ×
    IsOfClass class_of item class × paired step before item after
