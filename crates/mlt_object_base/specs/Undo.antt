-- What an undo list is seen as, and what its ends are.
use Rattle.std.specs.Prelude.{◌≡◌, ℕ, List, [], ◌∷◌, ◌++◌, Option, None, Some}
use Rattle.mlt_object_kinds.specs.declared.operation.{ObjOp.ObjOp, ObjReply.ObjReply}

-- the operations to be taken back, in the order in which they were done, and how many more have room
pub record Undo : Type 0 where
  pub entries : List (ObjOp × ObjReply)
  pub spare : ℕ

-- the entry is the last one, and there is none where there are no entries
abbrev pub IsLast : Option (ObjOp × ObjReply) → List (ObjOp × ObjReply) → Type 0
IsLast None entries = entries ≡ []
IsLast (Some entry) entries = (front : List (ObjOp × ObjReply)) × (entries ≡ front ++ entry ∷ [])

-- the entry is the last one of the entries before, and those after are the others
abbrev pub IsPopped : Option (ObjOp × ObjReply) → List (ObjOp × ObjReply) → List (ObjOp × ObjReply) → Type 0
IsPopped None before after = (before ≡ []) × (after ≡ [])
IsPopped (Some entry) before after = before ≡ after ++ entry ∷ []
