use Rattle.std.proofs.Common.{sym}
use Rattle.mlt_serve_admin.proofs.hosts.has_direct_host.Goals as goal

pub returns-in-Some : goal.returns-in-Some
returns-in-Some c =
    rw (sym c.headers.ensures) (
    rw (sym c.in-Some.ensures.value) (
    rw (sym c.as_bytes.ensures.value) c.is_direct_authority.ensures))
