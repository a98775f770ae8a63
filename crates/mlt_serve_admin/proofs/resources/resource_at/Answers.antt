use Rattle.std.proofs.Common.{ℕ, List, Option, Some, None, IfNone}
use Rattle.mlt_serve_admin.specs.{declared.resources.Resource.Resource, Resources.IsAt, Resources.IsAtNoFixedPath}
use Rattle.mlt_serve_admin.specs.declared.resources.Resource.TheVariants.{Page, Live, Ready, Status, Metrics, Waits, Sessions, Base, Save, Stop, SessionEnd}
use Rattle.mlt_serve_admin.proofs.resources.resource_at.Goals as goal

-- a path that is none of the fixed ones, and no end of a session, is that of no resource
is_at_none : (path : List ℕ) → IsAtNoFixedPath path
    → ((client : ℕ) → ¬ (IsAt path (SessionEnd client)))
    → (resource : Resource) → ¬ (IsAt path resource)
is_at_none path fixed ends Page = fixed.page
is_at_none path fixed ends Live = fixed.live
is_at_none path fixed ends Ready = fixed.ready
is_at_none path fixed ends Status = fixed.status
is_at_none path fixed ends Metrics = fixed.metrics
is_at_none path fixed ends Waits = fixed.waits
is_at_none path fixed ends Sessions = fixed.sessions
is_at_none path fixed ends Base = fixed.base
is_at_none path fixed ends Save = fixed.save
is_at_none path fixed ends Stop = fixed.stop
is_at_none path fixed ends (SessionEnd client) = ends client

-- what holds, holds where there is None too
if_none : {A : Type 0} (r : Option A) {P : Type 0} → P → IfNone r P
if_none None p = p
if_none (Some x) p = tt

pub returns-in_err-client-clause-none : goal.returns-in_err-client-clause-none
returns-in_err-client-clause-none c =
    if_none _ (is_at_none c.args.path.now c.in_default.ensures.none
    (λ client at. c.in_err-client.ensures.none client (rw c.as_bytes.ensures.value at)))
