use Rattle.mlt_serve_admin.proofs.hosts.is_ipv4.Goals as goal

pub returns-in_default : goal.returns-in_default
returns-in_default c = (λ wrong. cc, λ spelled. absurd (c.in_default.ensures spelled.0 spelled.1))
