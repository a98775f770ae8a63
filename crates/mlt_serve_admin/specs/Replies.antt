-- Replies to requests: their status and their headers.
use Rattle.std.specs.Prelude.{◌≡◌, ℕ, List, [], ◌∷◌, codes}
use Rattle.http_server.specs.{declared.response.Response.Response, Response.fields_of}
use Rattle.mlt_serve_admin.specs.declared.replies.Content.{Content}

-- the content type of a body
abbrev pub content_type_of : Content → List ℕ
content_type_of Content.Json = codes "application/json"
content_type_of Content.Metrics = codes "text/plain; version=0.0.4; charset=utf-8"
content_type_of Content.Page = codes "text/html; charset=utf-8"
content_type_of Content.Line = codes "text/plain; charset=utf-8"

-- what a browser may do with a reply: run and style what stands in it, and ask the same server for more; and no page frames it
abbrev pub security_policy : List ℕ
security_policy = codes "default-src 'none'; script-src 'unsafe-inline'; style-src 'unsafe-inline'; img-src data:; connect-src 'self'; frame-ancestors 'none'"

-- the headers of a reply, each a name and a value
abbrev pub headers_of : Content → List (List ℕ × List ℕ)
headers_of content =
    (codes "connection", codes "close")
    ∷ (codes "content-type", content_type_of content)
    ∷ (codes "cache-control", codes "no-store")
    ∷ (codes "content-security-policy", security_policy)
    ∷ (codes "x-frame-options", codes "DENY")
    ∷ []

-- the response has this status and these headers, whatever its body is
abbrev pub HasHead : ℕ → List (List ℕ × List ℕ) → Response → Type 0
HasHead status headers response = (response.status ≡ status) × (fields_of response ≡ headers)

-- the response is a reply with this status, of this content
abbrev pub IsReply : ℕ → Content → Response → Type 0
IsReply status content response = HasHead status (headers_of content) response
