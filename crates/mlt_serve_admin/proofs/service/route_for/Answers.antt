use Rattle.std.proofs.Common.{◌∙◌, ap, subst, ℕ, List}
use Rattle.http.specs.{Request.head_of, Uri.uri_path}
use Rattle.mlt_serve_admin.specs.Routes.{IsRouteOf}
use Rattle.mlt_serve_admin.proofs.service.route_for.Goals as goal

pub returns : goal.returns
returns c =
    let direct = c.in_ok-is_direct.field-0 in
    let marked = c.is_marked.result in
    let at_path = subst (λ (path : List ℕ). IsRouteOf c.as_str.result.now path direct marked c.route_of.result) (c.path.ensures.value ∙ ap uri_path c.uri.ensures) c.route_of.ensures in
    let by_method = subst (λ (method : List ℕ). IsRouteOf method (uri_path (head_of c.args.request.now).uri) direct marked c.route_of.result) (c.as_str.ensures.value ∙ c.method.ensures) at_path in
    (direct, c.in_ok-is_direct.ensures, marked, c.is_marked.ensures, by_method)
