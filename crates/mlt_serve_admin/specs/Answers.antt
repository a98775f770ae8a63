-- The answer to a request.
use Rattle.std.specs.Prelude.{◌≡◌, ◌↔◌, ◌⊎◌, ℕ, List, [], ◌∷◌, ◌++◌, codes, Bool, IsTrue, Some}
use Rattle.http.specs.{declared.request.Request.Request, Request.head_of, HeaderMap.Entries, HeaderMap.get, FieldValue.FieldValue, Uri.uri_path}
use Rattle.http_server.specs.declared.response.Response.{Response}
use Rattle.mlt_serve_admin.specs.{declared.resources.Resource.Resource, declared.replies.Content.Content, declared.routes.Route.Route, Resources.methods_of, Replies.HasHead, Replies.headers_of, Replies.IsReply, Routes.IsRouteOf, Hosts.IsDirectRequest}
use Rattle.mlt_serve_admin.specs.declared.resources.Resource.TheVariants.{Page, Live, Ready, Status, Metrics, Waits, Sessions, Base, Save, Stop, SessionEnd}

-- what holds of a server once it was told to end, once it cut the session of a client, and once it saved its base
pub record Doings : Type 1 where
  pub stopped : Type 0
  pub cut : ℕ → Type 0
  pub saved : Type 0

-- these, of a server
abbrev pub doings_of : {S : Type 0} → (S → Type 0) → (S → ℕ → Type 0) → (S → Type 0) → S → Doings
doings_of stopped cut saved server =
    record { stopped = stopped server; cut = cut server; saved = saved server }

-- the answer where the base was to be saved: 200 where it was
abbrev pub IsSaveAnswer : Type 0 → Response → Type 0
IsSaveAnswer saved response =
    (saved × IsReply 200 Content.Json response)
    ⊎ (IsReply 404 Content.Line response
    ⊎ (IsReply 500 Content.Line response ⊎ IsReply 503 Content.Line response))

-- the answer to a request that is open for this resource. Where it says so the server was told to end, cut the session of this
-- client, or saved its base
abbrev pub IsAnswerAt : Doings → Resource → Response → Type 0
IsAnswerAt did Page response = IsReply 200 Content.Page response
IsAnswerAt did Live response = IsReply 200 Content.Line response
IsAnswerAt did Ready response =
    IsReply 200 Content.Line response ⊎ IsReply 503 Content.Line response
IsAnswerAt did Status response = IsReply 200 Content.Json response
IsAnswerAt did Metrics response = IsReply 200 Content.Metrics response
IsAnswerAt did Waits response = IsReply 200 Content.Json response
IsAnswerAt did Sessions response = IsReply 200 Content.Json response
IsAnswerAt did Base response =
    IsReply 200 Content.Json response ⊎ IsReply 400 Content.Line response
IsAnswerAt did Save response = IsSaveAnswer did.saved response
IsAnswerAt did Stop response = did.stopped × IsReply 200 Content.Json response
IsAnswerAt did (SessionEnd client) response =
    (did.cut client × IsReply 200 Content.Json response) ⊎ IsReply 404 Content.Line response

-- the answer to a request by another method than that of the resource
abbrev pub IsRefusedMethod : Resource → Response → Type 0
IsRefusedMethod resource response =
    HasHead 405 (headers_of Content.Line ++ (codes "allow", methods_of resource) ∷ []) response

-- the answer by a route
abbrev pub IsAnswerBy : Doings → Route → Response → Type 0
IsAnswerBy did (Route.Open resource) response = IsAnswerAt did resource response
IsAnswerBy did Route.NotFound response = IsReply 404 Content.Line response
IsAnswerBy did (Route.MethodNotAllowed resource) response = IsRefusedMethod resource response
IsAnswerBy did Route.Forbidden response = IsReply 403 Content.Line response
IsAnswerBy did Route.ForeignHost response = IsReply 403 Content.Line response

-- the header that a browser adds for no page of somebody else
abbrev pub IsMarked : Entries FieldValue → Type 0
IsMarked headers =
    (value : FieldValue) × (get headers (codes "x-mltx") ≡ Some value) × (value.bytes ≡ codes "1")

-- the route of a request
abbrev pub IsRouteFor : Request (List ℕ) → Route → Type 0
IsRouteFor request route =
    (is_direct : Bool) × (IsTrue is_direct ↔ IsDirectRequest (head_of request).headers)
    × (is_marked : Bool) × (IsTrue is_marked ↔ IsMarked (head_of request).headers)
    × IsRouteOf (head_of request).method (uri_path (head_of request).uri) is_direct is_marked route

-- the answer to a request, by its route
abbrev pub IsAnswer : Doings → Request (List ℕ) → Response → Type 0
IsAnswer did request response =
    (route : Route) × IsRouteFor request route × IsAnswerBy did route response
