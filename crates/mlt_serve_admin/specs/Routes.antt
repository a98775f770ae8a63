-- How a request is answered, by its method, its path, whether it is direct and whether it is marked.
use Rattle.std.specs.Prelude.{◌≡◌, ℕ, List, Bool, IsTrue, IsFalse}
use Rattle.mlt_serve_admin.specs.{declared.resources.Resource.Resource, declared.routes.Route.Route, Resources.changes, Resources.IsAt, Resources.IsMethodOf}

-- the route of a request for this resource
abbrev pub IsRouteTo : Resource → List ℕ → Bool → Route → Type 0
IsRouteTo resource method is_marked (Route.Open shown) =
    (shown ≡ resource) × IsMethodOf method resource × (IsTrue (changes resource) → IsTrue is_marked)
IsRouteTo resource method is_marked Route.NotFound = ⊥
IsRouteTo resource method is_marked (Route.MethodNotAllowed refused) =
    (refused ≡ resource) × ¬ (IsMethodOf method resource)
IsRouteTo resource method is_marked Route.Forbidden =
    IsMethodOf method resource × IsTrue (changes resource) × IsFalse is_marked
IsRouteTo resource method is_marked Route.ForeignHost = ⊥

-- the route of a request: ForeignHost where it is not direct, NotFound where nothing stands at its path, and else that to what does
abbrev pub IsRouteOf : List ℕ → List ℕ → Bool → Bool → Route → Type 0
IsRouteOf method path is_direct is_marked Route.ForeignHost = IsFalse is_direct
IsRouteOf method path is_direct is_marked Route.NotFound =
    IsTrue is_direct × ((resource : Resource) → ¬ (IsAt path resource))
IsRouteOf method path is_direct is_marked found =
    IsTrue is_direct × (resource : Resource) × IsAt path resource × IsRouteTo resource method is_marked found
