use Rattle.std.proofs.Common.{◌≡◌, ◌↔◌, ℕ, List, ◌++◌, Bool, IsTrue, sym, ◌∙◌}
use Rattle.std.proofs.lemmas.{List.append_cancel_left, Result.IfOk-weaker}
use Rattle.mlt_serve_admin.specs.Hosts.{IsDirectAfter, IsDirectAuthority}
use Rattle.mlt_serve_admin.proofs.hosts.is_direct_after.Goals as goal

-- what is direct behind the scheme is so for the whole text, since there is one text behind it
direct_after : (scheme origin authority : List ℕ) → origin ≡ scheme ++ authority → (direct : Bool)
    → (IsTrue direct ↔ IsDirectAuthority authority) → (IsTrue direct ↔ IsDirectAfter scheme origin)
direct_after scheme origin authority is direct known = (
  λ true. (authority, is, known.0 true),
  λ found. known.1 (rw (append_cancel_left scheme authority found.0 (sym is ∙ found.1)) found.2),
)

pub returns-in-Some : goal.returns-in-Some
returns-in-Some c =
    IfOk-weaker _ _ _
    (direct_after c.args.scheme.now c.args.origin.now c.in-Some.authority.now c.in-Some.ensures.some)
    c.is_direct_authority.ensures
