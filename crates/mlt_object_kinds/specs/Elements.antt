-- The table of elements of sets. A state is whether the element is in its set.
use Rattle.std.specs.Prelude.{◌≡◌, Bool, true, false}
use Rattle.mlt_object_kinds.specs.declared.{element.ElementOp.ElementOp, element.ElementOp.TheVariants.Add, element.ElementOp.TheVariants.Remove, element.ElementOp.TheVariants.Has, operation.ObjReply.ObjReply}
use Rattle.mlt_object_kinds.specs.declared.operation.ObjReply.TheVariants.{Added, Present, Removed, Absent, Yes, No}

-- an element can be in its set or not
abbrev pub IsElement : Bool → Type 0
IsElement _ = Unit {0}

-- in which states an operation gets the reply
abbrev pub IsLegalOnElement : ElementOp → ObjReply → Bool → Type 0
IsLegalOnElement Add Added false = Unit {0}
IsLegalOnElement Add Present true = Unit {0}
IsLegalOnElement Remove Removed true = Unit {0}
IsLegalOnElement Remove Absent false = Unit {0}
IsLegalOnElement Has Yes true = Unit {0}
IsLegalOnElement Has No false = Unit {0}
IsLegalOnElement _ _ _ = ⊥

-- the state after an operation that gets the reply
abbrev pub element_after : ElementOp → ObjReply → Bool → Bool
element_after Add Added s = true
element_after Remove Removed s = false
element_after _ _ s = s

-- from the state before, the operation gets the reply and leads to the state after
abbrev pub ElementStep : Bool → ElementOp → ObjReply → Bool → Type 0
ElementStep before op reply after = IsLegalOnElement op reply before × (element_after op reply before ≡ after)
