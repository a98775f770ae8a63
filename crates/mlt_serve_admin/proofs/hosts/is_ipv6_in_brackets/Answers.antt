use Rattle.std.proofs.Common.{◌≡◌, sym, ◌∙◌, codes}
use Rattle.std.proofs.lemmas.List.{append_cancel_left, append_cancel_right}
use Rattle.mlt_serve_admin.proofs.hosts.is_ipv6_in_brackets.Goals as goal

pub returns-in_default-matches : goal.returns-in_default-matches
returns-in_default-matches c = (
  λ wrong. cc,
  λ named.
      let rest = append_cancel_left (codes "[") _ _ (sym c.in-Some.ensures.some ∙ named.2) in
      let same : c.in-Some-before.text.now ≡ named.0 =
      append_cancel_right _ _ (codes "]") (sym c.in-Some-before.ensures.some ∙ rest) in
      absurd (c.in_default-matches.ensures named.1 (rw same named.3)),
)
